-- What holds of every job that is read: each entry met its conditions when it was read, and those conditions are about the entries before it.
use Rattle.std.specs.Prelude.{◌≡◌, refl, ℕ, zero, suc, ◌+◌, ◌≤◌, ◌<◌, Bool, true, false, cond, List, [], ◌∷◌, ◌++◌, ◌⊎◌, length, take, drop, eqb, ltb, leb}
use Rattle.std.proofs.Common.{subst, arith, true≢false, inl, inr, take_at, ltb-false, leb-false, eqb-true, eq-eqb, le-leb}
use Rattle.std.proofs.Math.Path.{subst⁻¹}
use Rattle.std.proofs.lemmas.Bool.{false≢true, eqb-false}
use Rattle.std.proofs.Math.Option.{Option, none, some}
use Rattle.std.proofs.Math.ListN.{get_elem?}
use Rattle.std.proofs.lemmas.List.{take-append-le}
use Rattle.order.specs.Bools.{◌and◌, ◌or◌}
use Rattle.order.proofs.OrderLaws.{get_elem?_lt, get_elem?_snoc, length_snoc}
use Rattle.order.specs.Effects.{Effect}
use Rattle.syntax.specs.Types.{TypeEntry}
use Rattle.syntax.specs.Commands.{Cmd, Op, form, allowed, o_host, o_local, o_number, o_pair, o_cell, o_function, o_limit, o_grant, o_value, o_rights, o_end, op_of, operands, width, section_of, fields}
use Rattle.syntax.specs.Commands.{x_number, x_top, x_variable, x_pair, x_part, x_function, x_apply, x_cell, x_assign, x_read, x_sum, x_test, x_limit, x_grant, x_newkey, x_associate, x_access, x_divide, x_spawn}
use Rattle.syntax.specs.Job.{Name, HostValue, Job}
use Rattle.syntax.specs.Reading.{State, most_names, most_types, most_variables, most_expressions, name_ok, type_ok, host_value_ok, rights_ok, cmd_ok}
use Rattle.syntax.specs.Reading.{Written, unwritten, means, written, given, enter, misplaced, full}
use Rattle.syntax.specs.Reading.{Step, refuse, proceed, finish, settle, command, Read, read, ended, onward, on_op, read_from, no_job, reading}
use Rattle.syntax.specs.ReadLaws.{Built, JobOk, Placed, ReadOk, Room, Sofar, StepOk, Wrote, more, nothing, read_done, read_refused, step_finish, step_proceed, step_refuse, with_cmds, wrote_cmd, wrote_end, wrote_name, wrote_none, wrote_rights, wrote_type, wrote_value}

-- each entry of a built list meets its test after the entries before it
pub built_at : {A : Type 0} (ok : List A → A → Bool) {l : List A} → Built ok l → (i : ℕ) (a : A) → get_elem? l i ≡ some a → ok (take i l) a ≡ true
built_at ok nothing i a e = absurd (let z : ◌≡◌ {A = ℕ} 0 1 = cc in omega arith)
built_at ok (more {l} b x h) i a e = at (get_elem?_snoc l x i a e) (λ z. built_at ok b i a z)
  where
    at : (get_elem? l i ≡ some a) ⊎ ((i ≡ length l) × (x ≡ a)) → (get_elem? l i ≡ some a → ok (take i l) a ≡ true) → ok (take i (l ++ (x ∷ []))) a ≡ true
    at (inl z) f = let le : i ≤ length l = omega (arith, get_elem?_lt l i a z) in rw (take-append-le i l (x ∷ []) le) (f z)
    at (inr z) f = rw (z.0, take_at l (x ∷ []), ← z.1) h

-- Tests joined that fail

pub or_none : (a b : Bool) → (a or b) ≡ false → (a ≡ false) × (b ≡ false)
unfolding ◌or◌
or_none true b e = absurd (true≢false e)
or_none false b e = (refl, e)

pub and_fails : (a b : Bool) → (a and b) ≡ false → a ≡ true → b ≡ false
unfolding ◌and◌
and_fails true b e h = e
and_fails false b e h = absurd (false≢true h)

pub placed : (st : State) (sec : ℕ) → misplaced st sec ≡ false → Placed st.section sec (length st.job.cmds)
unfolding misplaced
placed st sec e =
    let a = or_none (ltb sec st.section or (eqb sec 3 and eqb st.section 3) or (leb 4 sec and ltb st.section 3)) (eqb sec 5 and eqb (length st.job.cmds) 0) e in
    let b = or_none (ltb sec st.section or (eqb sec 3 and eqb st.section 3)) (leb 4 sec and ltb st.section 3) a.0 in
    let c = or_none (ltb sec st.section) (eqb sec 3 and eqb st.section 3) b.0 in
    let le : st.section ≤ sec = ltb-false sec st.section c.0 in
    record {
      after = le;
      once = λ h. below3 h le (eqb-false st.section 3 (and_fails (eqb sec 3) (eqb st.section 3) c.1 (eq-eqb sec 3 h)));
      late = λ h. ltb-false st.section 3 (and_fails (leb 4 sec) (ltb st.section 3) b.1 (le-leb 4 sec h));
      some_before = λ h. pos (length st.job.cmds) (eqb-false (length st.job.cmds) 0 (and_fails (eqb sec 5) (eqb (length st.job.cmds) 0) a.1 (eq-eqb sec 5 h)));
    }
  where
    below3 : sec ≡ 3 → st.section ≤ sec → (st.section ≡ 3 → ⊥) → st.section < 3
    below3 h le n = omega arith

    pos : (n : ℕ) → (n ≡ 0 → ⊥) → 0 < n
    pos n h = omega arith

pub room : (J : Job) (sec : ℕ) → full J sec ≡ false → Room J sec
unfolding full
room J sec e =
    let p = eqb sec 0 and leb most_names (2 + length J.names) in
    let q = eqb sec 1 and leb most_types (length J.types) in
    let r = eqb sec 2 and leb most_variables (length J.values) in
    let s = eqb sec 4 and leb most_expressions (length J.cmds) in
    let a = or_none (p or q or r) s e in
    let b = or_none (p or q) r a.0 in
    let c = or_none p q b.0 in
    record {
      for_name = λ h. leb-false most_names (2 + length J.names) (and_fails (eqb sec 0) (leb most_names (2 + length J.names)) c.0 (eq-eqb sec 0 h));
      for_type = λ h. leb-false most_types (length J.types) (and_fails (eqb sec 1) (leb most_types (length J.types)) c.1 (eq-eqb sec 1 h));
      for_value = λ h. leb-false most_variables (length J.values) (and_fails (eqb sec 2) (leb most_variables (length J.values)) b.1 (eq-eqb sec 2 h));
      for_cmd = λ h. leb-false most_expressions (length J.cmds) (and_fails (eqb sec 4) (leb most_expressions (length J.cmds)) a.1 (eq-eqb sec 4 h));
    }

wrote_means : (op : Op) (o : List ℕ) → Wrote (section_of op) (means op o)
unfolding section_of means
wrote_means o_host o = wrote_name _
wrote_means o_local o = wrote_name _
wrote_means o_number o = wrote_type _
wrote_means o_pair o = wrote_type _
wrote_means o_cell o = wrote_type _
wrote_means o_function o = wrote_type _
wrote_means o_limit o = wrote_type _
wrote_means o_grant o = wrote_type _
wrote_means o_value o = wrote_value _
wrote_means o_rights o = wrote_rights _
wrote_means x_number o = wrote_cmd _
wrote_means x_top o = wrote_cmd _
wrote_means x_variable o = wrote_cmd _
wrote_means x_pair o = wrote_cmd _
wrote_means x_part o = wrote_cmd _
wrote_means x_function o = wrote_cmd _
wrote_means x_apply o = wrote_cmd _
wrote_means x_cell o = wrote_cmd _
wrote_means x_assign o = wrote_cmd _
wrote_means x_read o = wrote_cmd _
wrote_means x_sum o = wrote_cmd _
wrote_means x_test o = wrote_cmd _
wrote_means x_limit o = wrote_cmd _
wrote_means x_grant o = wrote_cmd _
wrote_means x_newkey o = wrote_cmd _
wrote_means x_associate o = wrote_cmd _
wrote_means x_access o = wrote_cmd _
wrote_means x_divide o = wrote_cmd _
wrote_means x_spawn o = wrote_cmd _
wrote_means o_end o = wrote_end

pub wrote : (op : Op) (o : List ℕ) → Wrote (section_of op) (written op o)
unfolding written
wrote op o = at (allowed (form op).roles o)
  where
    at : (b : Bool) → Wrote (section_of op) (cond b (means op o) unwritten)
    at true = wrote_means op o
    at false = wrote_none (section_of op)

built_none : {A : Type 0} (ok : List A → A → Bool) (l : List A) → l ≡ [] → Built ok l
built_none ok l e = subst⁻¹ (λ z. Built ok z) e nothing

-- after a name: nothing else is read yet
after_name : (cur : ℕ) (J : Job) (d : Name) → Sofar cur J → Placed cur 0 (length J.cmds) → Room J 0 → name_ok J.names d ≡ true
    → Sofar 0 (record { names = J.names ++ (d ∷ []); types = J.types; values = J.values; rights = J.rights; cmds = J.cmds })
after_name cur J d i p r e =
    record {
      names = more i.names d e;
      types = built_none _ J.types (i.no_types one);
      values = built_none _ J.values (i.no_values two);
      rights = λ h. absurd (omega arith);
      cmds = built_none _ J.cmds (i.no_cmds four);
      few_names = omega (arith, length_snoc J.names d, r.for_name refl);
      few_types = i.few_types;
      few_values = i.few_values;
      few_cmds = i.few_cmds;
      no_types = λ h. i.no_types one;
      no_values = λ h. i.no_values two;
      no_cmds = λ h. i.no_cmds four;
    }
  where
    one : cur < 1
    one = omega (arith, p.after)

    two : cur < 2
    two = omega (arith, p.after)

    four : cur < 4
    four = omega (arith, p.after)

after_type : (cur : ℕ) (J : Job) (t : TypeEntry) → Sofar cur J → Placed cur 1 (length J.cmds) → Room J 1 → type_ok J.names J.types t ≡ true
    → Sofar 1 (record { names = J.names; types = J.types ++ (t ∷ []); values = J.values; rights = J.rights; cmds = J.cmds })
after_type cur J t i p r e =
    record {
      names = i.names;
      types = more i.types t e;
      values = built_none _ J.values (i.no_values two);
      rights = λ h. absurd (omega arith);
      cmds = built_none _ J.cmds (i.no_cmds four);
      few_names = i.few_names;
      few_types = omega (arith, length_snoc J.types t, r.for_type refl);
      few_values = i.few_values;
      few_cmds = i.few_cmds;
      no_types = λ h. absurd (omega arith);
      no_values = λ h. i.no_values two;
      no_cmds = λ h. i.no_cmds four;
    }
  where
    two : cur < 2
    two = omega (arith, p.after)

    four : cur < 4
    four = omega (arith, p.after)

after_value : (cur : ℕ) (J : Job) (v : HostValue ℕ) → Sofar cur J → Placed cur 2 (length J.cmds) → Room J 2 → host_value_ok J.names J.types v ≡ true
    → Sofar 2 (record { names = J.names; types = J.types; values = J.values ++ (v ∷ []); rights = J.rights; cmds = J.cmds })
after_value cur J v i p r e =
    record {
      names = i.names;
      types = i.types;
      values = more i.values v e;
      rights = λ h. absurd (omega arith);
      cmds = built_none _ J.cmds (i.no_cmds four);
      few_names = i.few_names;
      few_types = i.few_types;
      few_values = omega (arith, length_snoc J.values v, r.for_value refl);
      few_cmds = i.few_cmds;
      no_types = λ h. absurd (omega arith);
      no_values = λ h. absurd (omega arith);
      no_cmds = λ h. i.no_cmds four;
    }
  where
    four : cur < 4
    four = omega (arith, p.after)

after_rights_lem : (cur : ℕ) (J : Job) (s : Effect) → Sofar cur J → Placed cur 3 (length J.cmds) → rights_ok J.names s ≡ true
    → Sofar 3 (record { names = J.names; types = J.types; values = J.values; rights = s; cmds = J.cmds })
after_rights_lem cur J s i p e =
    record {
      names = i.names;
      types = i.types;
      values = i.values;
      rights = λ h. e;
      cmds = built_none _ J.cmds (i.no_cmds four);
      few_names = i.few_names;
      few_types = i.few_types;
      few_values = i.few_values;
      few_cmds = i.few_cmds;
      no_types = λ h. absurd (omega arith);
      no_values = λ h. absurd (omega arith);
      no_cmds = λ h. i.no_cmds four;
    }
  where
    four : cur < 4
    four = omega (arith, p.after)

after_cmd : (cur : ℕ) (J : Job) (k : Cmd ℕ) → Sofar cur J → Placed cur 4 (length J.cmds) → Room J 4 → cmd_ok J k ≡ true → Sofar 4 (with_cmds J (J.cmds ++ (k ∷ [])))
after_cmd cur J k i p r e =
    record {
      names = i.names;
      types = i.types;
      values = i.values;
      rights = λ h. i.rights (p.late (omega arith));
      cmds = more i.cmds k e;
      few_names = i.few_names;
      few_types = i.few_types;
      few_values = i.few_values;
      few_cmds = omega (arith, length_snoc J.cmds k, r.for_cmd refl);
      no_types = λ h. absurd (omega arith);
      no_values = λ h. absurd (omega arith);
      no_cmds = λ h. absurd (omega arith);
    }

after_end : (cur : ℕ) (J : Job) → Sofar cur J → Placed cur 5 (length J.cmds) → JobOk J
after_end cur J i p =
    record {
      names = i.names;
      types = i.types;
      values = i.values;
      rights = i.rights (p.late (omega arith));
      cmds = i.cmds;
      few_names = i.few_names;
      few_types = i.few_types;
      few_values = i.few_values;
      few_cmds = i.few_cmds;
      some_cmds = p.some_before refl;
    }

settled : (sec : ℕ) (J : Job) → (sec < 5) → (b : Bool) → (b ≡ true → Sofar sec J) → StepOk (settle sec (given b J))
unfolding settle given
settled sec J h false f = step_refuse 6
settled sec J h true f = at (eqb sec 5) refl
  where
    at : (c : Bool) → eqb sec 5 ≡ c → StepOk (cond c (finish J) (proceed (record { section = sec; job = J })))
    at true e = absurd (omega (arith, eqb-true sec 5 e))
    at false e = step_proceed (record { section = sec; job = J }) (f refl)

entered : (sec : ℕ) (w : Written) → Wrote sec w → (cur : ℕ) (J : Job) → Sofar cur J → Placed cur sec (length J.cmds) → Room J sec → StepOk (settle sec (enter w J))
unfolding enter settle
entered sec w (wrote_name d) cur J i p r = settled 0 _ (omega arith) (name_ok J.names d) (after_name cur J d i p r)
entered sec w (wrote_type t) cur J i p r = settled 1 _ (omega arith) (type_ok J.names J.types t) (after_type cur J t i p r)
entered sec w (wrote_value v) cur J i p r = settled 2 _ (omega arith) (host_value_ok J.names J.types v) (after_value cur J v i p r)
entered sec w (wrote_rights s) cur J i p r = settled 3 _ (omega arith) (rights_ok J.names s) (after_rights_lem cur J s i p)
entered sec w (wrote_cmd k) cur J i p r = settled 4 _ (omega arith) (cmd_ok J k) (after_cmd cur J k i p r)
entered sec w wrote_end cur J i p r = step_finish J (after_end cur J i p)
entered sec w (wrote_none n) cur J i p r = step_refuse 6

-- one command
pub step_ok : (op : Op) (s : List ℕ) (st : State) → Sofar st.section st.job → StepOk (command op s st)
unfolding command
step_ok op s st i = at (misplaced st (section_of op)) refl (ltb (length s) (width op)) (full st.job (section_of op)) refl
  where
    at : (a : Bool) → misplaced st (section_of op) ≡ a → (b c : Bool) → full st.job (section_of op) ≡ c
        → StepOk (cond a (refuse 3) (cond b (refuse 4) (cond c (refuse 5) (settle (section_of op) (enter (written op (fields (operands op) s)) st.job)))))
    at true x b c y = step_refuse 3
    at false x true c y = step_refuse 4
    at false x false true y = step_refuse 5
    at false x false false y =
        entered (section_of op) (written op (fields (operands op) s)) (wrote op (fields (operands op) s)) st.section st.job i (placed st (section_of op) x) (room st.job (section_of op) y)

went : (t : Step) → StepOk t → (pos : ℕ) (s : List ℕ) (next : State → Read) → ((st : State) → Sofar st.section st.job → ReadOk (next st)) → ReadOk (onward t pos s next)
unfolding onward ended
went t (step_refuse n) pos s next f = read_refused _
went t (step_proceed st i) pos s next f = f st i
went t (step_finish J j) pos [] next f = read_done J j
went t (step_finish J j) pos (b ∷ s) next f = read_refused _

-- from any state
pub read_from_lem : (f pos : ℕ) (st : State) (s : List ℕ) → Sofar st.section st.job → ReadOk (read_from f pos st s)
unfolding read_from on_op
read_from_lem zero pos st s i = read_refused _
read_from_lem (suc f) pos st [] i = read_refused _
read_from_lem (suc f) pos st (b ∷ s) i = at (op_of b) (λ op next j. read_from_lem f (pos + 1 + width op) next (drop (width op) s) j)
  where
    at : (o : Option Op) → ((op : Op) (next : State) → Sofar next.section next.job → ReadOk (read_from f (pos + 1 + width op) next (drop (width op) s)))
        → ReadOk (on_op o pos (λ op. onward (command op s st) pos s (λ next. read_from f (pos + 1 + width op) next (drop (width op) s))))
    at none g = read_refused _
    at (some op) g = went (command op s st) (step_ok op s st i) pos s (λ next. read_from f (pos + 1 + width op) next (drop (width op) s)) (λ next j. g op next j)

-- before the first command
pub at_start : Sofar 0 no_job
at_start =
    record {
      names = nothing;
      types = nothing;
      values = nothing;
      rights = λ h. absurd (omega arith);
      cmds = nothing;
      few_names = omega arith;
      few_types = omega arith;
      few_values = omega arith;
      few_cmds = omega arith;
      no_types = λ h. refl;
      no_values = λ h. refl;
      no_cmds = λ h. refl;
    }

done_ok : {r : Read} → ReadOk r → (J : Job) → r ≡ read J → JobOk J
done_ok (read_refused q) J e = absurd (let z : ◌≡◌ {A = ℕ} 0 1 = cc in omega arith)
done_ok (read_done K k) J e = let z : K ≡ J = cc in subst (λ j. JobOk j) z k

-- what is read is as reading demands
pub read_ok : (s : List ℕ) (J : Job) → reading s ≡ read J → JobOk J
unfolding reading
read_ok s J e = done_ok (read_from_lem (suc (length s)) 0 (record { section = 0; job = no_job }) s at_start) J e
