-- Reading command by command: the tables hold the job read so far, and what is left decides the answer.
use mathlib.Core.Path.{◌≡◌, refl, sym, ap, ◌∙◌, subst}
use Rattle.std.specs.Prelude.{Ok, Err}
use Prim.Native.Nat.{ℕ, zero, suc, ◌+◌, ◌-◌, ◌*◌, ◌≤◌, ◌<◌}
use native.Mathlib.Omega.{arith}
use native.Mathlib.Numerals.{add-one}
use mathlib.Core.Bool.{Bool, true, false, cond, true≢false, false≢true}
use mathlib.Core.List.{List, [], ◌∷◌, ◌++◌, map, flat_map}
use mathlib.Core.Option.{Option, none, some}
use lib.ListN.{length, get_or, set, drop, replicate, length-drop, length-map, length-append, drop_of_length-le, length-replicate, length-set}
use lib.Seq.{get_or-set_same, get_or-set_other}
use lib.Dec.{ltb, leb}
use borrow.Author.Tests.{leb-true, ltb-true, ltb-false}
use Rattle.order.proofs.OrderLaws.{length_snoc}
use Rattle.order.specs.Effects.{of_word}
use Rattle.syntax.specs.Types.{TypeEntry, tree, depth}
use Rattle.syntax.proofs.TypeLaws.{tree_kept}
use Rattle.syntax.specs.Commands.{Cmd, Op, op_of, width, section_of}
use Rattle.syntax.specs.Job.{Name, HostValue, Job}
use Rattle.syntax.specs.Words.{filled, name_word, type_word, set_word, value_word, head_word, slots, name_words, type_words, set_words, value_words, head_words, slot_words}
use Rattle.syntax.specs.Reading.{State, Written, w_name, w_type, w_value, w_rights, w_cmd, Step, refuse, proceed, finish, command, refused_at, read, ended, onward, on_op, read_from, no_job, reading}
use Rattle.syntax.specs.ReadLaws.{TypesOk, Sofar, StepOk, step_refuse, step_proceed, step_finish}
use Rattle.syntax.proofs.ReadLaws.{step_ok, at_start}
use Rattle.syntax.proofs.ReadFormed.{map_snoc, names_proper, types_earlier}
use Rattle.syntax.proofs.WordLaws.{filled_none, filled_length, word_at}
use Rattle.names.specs.Ancestors.{names_in}
use Rattle.names.proofs.Tables as tables
use Rattle.entry.specs.Bytes.{width_byte, rest_of}
use Rattle.entry.specs.Entries.{Judged, judged_by, judged_in, stops_of, sort_of}
use Rattle.entry.specs.Shapes.{shape_of, no_shape}
use Rattle.entry.specs.declared.Shape.{Shape}
use Rattle.entry.specs.declared.Entry.{Entry}
use Rattle.entry.specs.declared.Entry.TheVariants.{Named, Typed, Valued, Rights, Formed, Last}
use Rattle.entry.proofs.OpBytes.{width_is, width_none}
use Rattle.entry.proofs.Entered.{extended, words_of, new_depth, entry_w}
use Rattle.entry.proofs.Agree.{Kept, Adds, adds_name, adds_type, adds_value, adds_rights, adds_cmd, Agrees, ag_refuse, ag_last, ag_on, not_ok, same_entry, sort_on, agrees}
use Rattle.job.specs.After.{names_after, types_after, sets_after, depths_after, values_after, heads_after, slots_after, shape_after}
use Rattle.job.specs.Answer.{Answer, refused_by, answer_of, long_enough, long_tables, Cleared, Holds, Filled, Put, Small}
use Rattle.job.proofs.Filling.{stored, filled_two, filled_five, flat_snoc, five_entries}

-- every table is as long as its limit
pub record Long (kn kt ks kv kh kp : ℕ) : Type 0 where
  pub names : 64 ≤ kn
  pub types : 2304 ≤ kt
  pub sets : 2304 ≤ ks
  pub values : 64 ≤ kv
  pub heads : 512 ≤ kh
  pub slots : 2560 ≤ kp

-- tests one after another that hold
both_hold : (a b : Bool) → cond a b false ≡ true → (a ≡ true) × (b ≡ true)
both_hold true b e = (refl, e)
both_hold false b e = absurd (false≢true e)

pub long_is : (kn kt ks kv kh kp : ℕ) → long_enough kn kt ks kv kh kp ≡ true → Long kn kt ks kv kh kp
unfolding long_enough
long_is kn kt ks kv kh kp e =
    let a = both_hold (leb 64 kn) _ e in
    let b = both_hold (leb 2304 kt) _ a.1 in
    let c = both_hold (leb 2304 ks) _ b.1 in
    let d = both_hold (leb 64 kv) _ c.1 in
    let f = both_hold (leb 512 kh) _ d.1 in
    record {
      names = leb-true 64 kn a.0;
      types = leb-true 2304 kt b.0;
      sets = leb-true 2304 ks c.0;
      values = leb-true 64 kv d.0;
      heads = leb-true 512 kh f.0;
      slots = leb-true 2560 kp f.1;
    }

-- the counts and the tables are those of J
pub record Tables (J : Job) (g : Shape) (d n t s v h p : List ℕ) (kn kt ks kv kh kp : ℕ) : Type 0 where
  pub shape : g ≡ shape_of J
  pub holds : Holds J n t s v h p kn kt ks kv kh kp
  pub depths_long : length d ≡ 256
  pub deep : (i : ℕ) → i < length J.types → get_or d i 0 ≡ depth (tree J.types i)
  pub five : length (slot_words J) ≡ length J.cmds * 5

-- `left` is unread, in section `cur`
pub record Going (bytes left : List ℕ) (cur : ℕ) (g : Shape) (d n t s v h p : List ℕ) (kn kt ks kv kh kp : ℕ) : Type 0 where
  pub J : Job
  pub sofar : Sofar cur J
  pub tables : Tables J g d n t s v h p kn kt ks kv kh kp
  pub fuel : ℕ
  pub enough : length left < fuel
  pub within : length left ≤ length bytes
  pub same : reading bytes ≡ read_from fuel (length bytes - length left) (record { section = cur; job = J }) left

-- Before the first command

pub going_first : (bytes : List ℕ) (n t s v h p : List ℕ) (kn kt ks kv kh kp : ℕ) → Long kn kt ks kv kh kp
    → n ≡ replicate kn 0 → t ≡ replicate kt 0 → s ≡ replicate ks 0 → v ≡ replicate kv 0 → h ≡ replicate kh 0 → p ≡ replicate kp 0
    → Going bytes bytes 0 no_shape (replicate 256 0) n t s v h p kn kt ks kv kh kp
unfolding shape_of reading flat_map
going_first bytes n t s v h p kn kt ks kv kh kp l en et es ev eh ep =
    record {
      J = no_job;
      sofar = at_start;
      tables =
          record {
            shape = refl;
            holds =
                record {
                  names = en ∙ filled_two kn (omega (arith, l.names));
                  types = et ∙ sym (filled_none kt);
                  sets = es ∙ sym (filled_none ks);
                  values = ev ∙ sym (filled_none kv);
                  heads = eh ∙ sym (filled_none kh);
                  slots = ep ∙ sym (filled_none kp);
                };
            depths_long = length-replicate {A = ℕ} 256 0;
            deep = λ i b. absurd (omega arith);
            five = refl;
          };
      fuel = suc (length bytes);
      enough = omega arith;
      within = omega arith;
      same = ap (λ (k : ℕ). read_from (suc (length bytes)) k (record { section = 0; job = no_job }) bytes) (let z : 0 ≡ length bytes - length bytes = omega arith in z);
    }

-- what the tests read is the job's
kept : {cur : ℕ} {J : Job} {g : Shape} {d n t s v h p : List ℕ} {kn kt ks kv kh kp : ℕ} → Sofar cur J → Tables J g d n t s v h p kn kt ks kv kh kp → Kept J n t d
unfolding filled
kept {J = J} {n = n} {kn = kn} {kt = kt} o a =
    let proper = names_proper o.names in
    let few : length J.names ≤ 62 = omega (arith, o.few_names) in
    record {
      proper = proper;
      few = few;
      back =
          ap (λ (l : List ℕ). names_in l (length J.names)) a.holds.names
          ∙ tables.names_proper J (replicate (kn - length (name_words J)) 0) proper few;
      ok = o.types;
      few_types = o.few_types;
      words = λ i e z. ap (λ (l : List ℕ). get_or l i 0) a.holds.types ∙ word_at type_word kt J.types i e z;
      deep = a.deep;
    }

-- The tables after an entry

module _ (J : Job) (g g' : Shape) (d n t s v h p d' n' t' s' v' h' p' : List ℕ) (kn kt ks kv kh kp : ℕ) (long : Long kn kt ks kv kh kp) (a : Tables J g d n t s v h p kn kt ks kv kh kp) where
  extend_name : (x : Name) → 2 + length (J.names ++ (x ∷ [])) ≤ 64 → g' ≡ shape_after (Named (name_word x)) g → Put (Named (name_word x)) g d n t s v h p d' n' t' s' v' h' p' → Tables (extended (w_name x) J) g' d' n' t' s' v' h' p' kn kt ks kv kh kp
  unfolding extended shape_of shape_after names_after types_after sets_after depths_after values_after heads_after slots_after
  extend_name x r w' q =
      let w : length (map name_word J.names) ≡ length J.names = length-map J.names name_word in
      let y = length_snoc J.names x in
      let e : g.names ≡ length J.names = ap (λ (k : Shape). k.names) a.shape in
      record {
        shape =
            w' ∙ ap (λ (k : Shape). shape_after (Named (name_word x)) k) a.shape
            ∙ ap (λ (k : ℕ). record { names = k; types = length J.types; values = length J.values; cmds = length J.cmds; rights = J.rights.set }) (add-one (length J.names) ∙ sym y);
        holds =
            record {
              names = stored kn (name_words J) (name_words (extended (w_name x) J)) (g.names + 2) (name_word x) a.holds.names q.names (omega (arith, long.names)) (omega arith) (ap (λ (m : List ℕ). 0 ∷ 0 ∷ m) (map_snoc name_word J.names x));
              types = q.types ∙ a.holds.types;
              sets = q.sets ∙ a.holds.sets;
              values = q.values ∙ a.holds.values;
              heads = q.heads ∙ a.holds.heads;
              slots = q.slots ∙ a.holds.slots;
            };
        depths_long = ap length q.depths ∙ a.depths_long;
        deep = λ i b. ap (λ (l : List ℕ). get_or l i 0) q.depths ∙ a.deep i b;
        five = a.five;
      }

  extend_type : (x : TypeEntry) → TypesOk J.names J.types → length (J.types ++ (x ∷ [])) ≤ 256 → g' ≡ shape_after (Typed (type_word x) (set_word x) (new_depth J x)) g → Put (Typed (type_word x) (set_word x) (new_depth J x)) g d n t s v h p d' n' t' s' v' h' p'
      → Tables (extended (w_type x) J) g' d' n' t' s' v' h' p' kn kt ks kv kh kp
  unfolding extended shape_of shape_after names_after types_after sets_after depths_after values_after heads_after slots_after new_depth
  extend_type x ok r w' q =
      let w : length (map type_word J.types) ≡ length J.types = length-map J.types type_word in
      let u : length (map set_word J.types) ≡ length J.types = length-map J.types set_word in
      let y = length_snoc J.types x in
      let e : g.types ≡ length J.types = ap (λ (k : Shape). k.types) a.shape in
      record {
        shape =
            w' ∙ ap (λ (k : Shape). shape_after (Typed (type_word x) (set_word x) (new_depth J x)) k) a.shape
            ∙ ap (λ (k : ℕ). record { names = length J.names; types = k; values = length J.values; cmds = length J.cmds; rights = J.rights.set }) (add-one (length J.types) ∙ sym y);
        holds =
            record {
              names = q.names ∙ a.holds.names;
              types = stored kt (type_words J.types) (type_words (J.types ++ (x ∷ []))) g.types (type_word x) a.holds.types q.types (omega (arith, long.types)) (omega arith) (map_snoc type_word J.types x);
              sets = stored ks (set_words J.types) (set_words (J.types ++ (x ∷ []))) g.types (set_word x) a.holds.sets q.sets (omega (arith, long.sets)) (omega arith) (map_snoc set_word J.types x);
              values = q.values ∙ a.holds.values;
              heads = q.heads ∙ a.holds.heads;
              slots = q.slots ∙ a.holds.slots;
            };
        depths_long = ap length q.depths ∙ length-set d g.types (new_depth J x) ∙ a.depths_long;
        deep = λ i b. ap (λ (l : List ℕ). get_or l i 0) q.depths ∙ at i (omega (arith, y)) e (ltb i (length J.types)) refl;
        five = a.five;
      }
    where
      at : (i : ℕ) → i ≤ length J.types → g.types ≡ length J.types → (c : Bool) → ltb i (length J.types) ≡ c → get_or (set d g.types (new_depth J x)) i 0 ≡ depth (tree (J.types ++ (x ∷ [])) i)
      at i b e true z =
          let l = ltb-true i (length J.types) z in
          get_or-set_other d g.types i (new_depth J x) 0 (λ y. omega arith) ∙ a.deep i l ∙ sym (ap depth (tree_kept (types_earlier J.names ok) (x ∷ []) i l))
      at i b e false z =
          let f = ltb-false i (length J.types) z in
          let j : i ≡ g.types = omega arith in
          let k : i ≡ length J.types = omega arith in
          ap (λ (o : ℕ). get_or (set d g.types (new_depth J x)) o 0) j ∙ get_or-set_same d g.types (new_depth J x) 0 (omega (arith, a.depths_long, length_snoc J.types x))
          ∙ sym (ap (λ (o : ℕ). depth (tree (J.types ++ (x ∷ [])) o)) k)

  extend_value : (x : HostValue ℕ) → length (J.values ++ (x ∷ [])) ≤ 64 → g' ≡ shape_after (Valued (value_word x)) g → Put (Valued (value_word x)) g d n t s v h p d' n' t' s' v' h' p' → Tables (extended (w_value x) J) g' d' n' t' s' v' h' p' kn kt ks kv kh kp
  unfolding extended shape_of shape_after names_after types_after sets_after depths_after values_after heads_after slots_after
  extend_value x r w' q =
      let w : length (map value_word J.values) ≡ length J.values = length-map J.values value_word in
      let y = length_snoc J.values x in
      let e : g.values ≡ length J.values = ap (λ (k : Shape). k.values) a.shape in
      record {
        shape =
            w' ∙ ap (λ (k : Shape). shape_after (Valued (value_word x)) k) a.shape
            ∙ ap (λ (k : ℕ). record { names = length J.names; types = length J.types; values = k; cmds = length J.cmds; rights = J.rights.set }) (add-one (length J.values) ∙ sym y);
        holds =
            record {
              names = q.names ∙ a.holds.names;
              types = q.types ∙ a.holds.types;
              sets = q.sets ∙ a.holds.sets;
              values = stored kv (value_words J) (value_words (extended (w_value x) J)) g.values (value_word x) a.holds.values q.values (omega (arith, long.values)) (omega arith) (map_snoc value_word J.values x);
              heads = q.heads ∙ a.holds.heads;
              slots = q.slots ∙ a.holds.slots;
            };
        depths_long = ap length q.depths ∙ a.depths_long;
        deep = λ i b. ap (λ (l : List ℕ). get_or l i 0) q.depths ∙ a.deep i b;
        five = a.five;
      }

  extend_rights : (x : ℕ) → g' ≡ shape_after (Rights x) g → Put (Rights x) g d n t s v h p d' n' t' s' v' h' p' → Tables (extended (w_rights (of_word x)) J) g' d' n' t' s' v' h' p' kn kt ks kv kh kp
  unfolding extended shape_of shape_after names_after types_after sets_after depths_after values_after heads_after slots_after
  extend_rights x w' q =
      record {
        shape = w' ∙ ap (λ (k : Shape). shape_after (Rights x) k) a.shape;
        holds =
            record {
              names = q.names ∙ a.holds.names;
              types = q.types ∙ a.holds.types;
              sets = q.sets ∙ a.holds.sets;
              values = q.values ∙ a.holds.values;
              heads = q.heads ∙ a.holds.heads;
              slots = q.slots ∙ a.holds.slots;
            };
        depths_long = ap length q.depths ∙ a.depths_long;
        deep = λ i b. ap (λ (l : List ℕ). get_or l i 0) q.depths ∙ a.deep i b;
        five = a.five;
      }

  extend_cmd : (x : Cmd ℕ) → length (slots x) ≡ 5 → length (J.cmds ++ (x ∷ [])) ≤ 512 → g' ≡ shape_after (Formed (words_of x)) g → Put (Formed (words_of x)) g d n t s v h p d' n' t' s' v' h' p' → Tables (extended (w_cmd x) J) g' d' n' t' s' v' h' p' kn kt ks kv kh kp
  unfolding extended shape_of shape_after names_after types_after sets_after depths_after values_after heads_after slots_after words_of
  extend_cmd x l r w' q =
      let w : length (map head_word J.cmds) ≡ length J.cmds = length-map J.cmds head_word in
      let y = length_snoc J.cmds x in
      let e : g.cmds ≡ length J.cmds = ap (λ (k : Shape). k.cmds) a.shape in
      let f : slot_words J ++ ((words_of x).a ∷ (words_of x).b ∷ (words_of x).c ∷ (words_of x).d ∷ (words_of x).e ∷ []) ≡ flat_map slots (J.cmds ++ (x ∷ [])) = ap (λ (m : List ℕ). slot_words J ++ m) (sym (five_entries (slots x) l)) ∙ sym (flat_snoc slots J.cmds x) in
      record {
        shape =
            w' ∙ ap (λ (k : Shape). shape_after (Formed (words_of x)) k) a.shape
            ∙ ap (λ (k : ℕ). record { names = length J.names; types = length J.types; values = length J.values; cmds = k; rights = J.rights.set }) (add-one (length J.cmds) ∙ sym y);
        holds =
            record {
              names = q.names ∙ a.holds.names;
              types = q.types ∙ a.holds.types;
              sets = q.sets ∙ a.holds.sets;
              values = q.values ∙ a.holds.values;
              heads = stored kh (head_words J) (head_words (extended (w_cmd x) J)) g.cmds (head_word x) a.holds.heads q.heads (omega (arith, long.heads)) (omega arith) (map_snoc head_word J.cmds x);
              slots =
                  q.slots ∙ ap (λ (m : List ℕ). Rattle.job.specs.After.five_at m (g.cmds * 5) (words_of x)) a.holds.slots
                  ∙ filled_five kp (slot_words J) (g.cmds * 5) (words_of x) (omega (arith, long.slots, a.five)) (omega (arith, a.five))
                  ∙ ap (λ (m : List ℕ). filled kp 0 m) f;
            };
        depths_long = ap length q.depths ∙ a.depths_long;
        deep = λ i b. ap (λ (m : List ℕ). get_or m i 0) q.depths ∙ a.deep i b;
        five = ap length (flat_snoc slots J.cmds x) ∙ length-append (slot_words J) (slots x) ∙ omega (arith, a.five);
      }

  extend_tables : (x : Written) → Adds x → TypesOk J.names J.types → (sec : ℕ) → Sofar sec (extended x J) → g' ≡ shape_after (entry_w x J) g → Put (entry_w x J) g d n t s v h p d' n' t' s' v' h' p'
      → Tables (extended x J) g' d' n' t' s' v' h' p' kn kt ks kv kh kp
  unfolding entry_w extended
  extend_tables x (adds_name y) ok sec o w' q = extend_name y o.few_names w' q
  extend_tables x (adds_type y) ok sec o w' q = extend_type y ok o.few_types w' q
  extend_tables x (adds_value y) ok sec o w' q = extend_value y o.few_values w' q
  extend_tables x (adds_rights y) ok sec o w' q = extend_rights y.set w' q
  extend_tables x (adds_cmd y l) ok sec o w' q = extend_cmd y l o.few_cmds w' q

-- One command

sofar_of : {x : Step} → StepOk x → (st : State) → x ≡ proceed st → Sofar st.section st.job
sofar_of (step_refuse n) st e = absurd (let z : ◌≡◌ {A = ℕ} 0 1 = cc in omega arith)
sofar_of (step_proceed y i) st e = let z : y ≡ st = cc in subst (λ (k : State). Sofar k.section k.job) z i
sofar_of (step_finish K k) st e = absurd (let z : ◌≡◌ {A = ℕ} 0 1 = cc in omega arith)

read_op : (f pos : ℕ) (st : State) (b : ℕ) (s : List ℕ) (o : Op) (x : Step) → op_of b ≡ some o → command o s st ≡ x
    → read_from (suc f) pos st (b ∷ s) ≡ onward x pos s (λ next. read_from f (pos + 1 + width o) next (drop (width o) s))
unfolding read_from on_op
read_op f pos st b s o x e h =
    ap (λ (y : Option Op). on_op y pos (λ op. onward (command op s st) pos s (λ next. read_from f (pos + 1 + width op) next (drop (width op) s)))) e
    ∙ ap (λ (y : Step). onward y pos s (λ next. read_from f (pos + 1 + width o) next (drop (width o) s))) h

rest_is : (b : ℕ) (s : List ℕ) (o : Op) → op_of b ≡ some o → rest_of (b ∷ s) ≡ drop (width o) s
unfolding rest_of
rest_is b s o e = ap (λ (k : ℕ). drop (k + 1) (b ∷ s)) (width_is b o e) ∙ ap (λ (k : ℕ). drop k (b ∷ s)) (add-one (width o))

-- a byte that is no command
judged_none : (b : ℕ) (s : List ℕ) (cur : ℕ) (g : Shape) (n t d : List ℕ) → op_of b ≡ none → judged_in b s cur g n t d ≡ Err 2
unfolding judged_by
judged_none b s cur g n t d e = simp (width_none b e)

read_none : (f pos : ℕ) (st : State) (b : ℕ) (s : List ℕ) → op_of b ≡ none → read_from (suc f) pos st (b ∷ s) ≡ refused_at 2 pos
unfolding read_from on_op
read_none f pos st b s e = ap (λ (y : Option Op). on_op y pos (λ op. onward (command op s st) pos s (λ next. read_from f (pos + 1 + width op) next (drop (width op) s)))) e

same_number : (m k : ℕ) → ◌≡◌ {A = Judged} (Err m) (Err k) → m ≡ k
same_number m k h = cc

stops_entry : (x : Written) (J : Job) → Adds x → stops_of (entry_w x J) ≡ false
unfolding stops_of entry_w
stops_entry x J (adds_name y) = refl
stops_entry x J (adds_type y) = refl
stops_entry x J (adds_value y) = refl
stops_entry x J (adds_rights y) = refl
stops_entry x J (adds_cmd y l) = refl

-- reading goes on after a command that adds to the job
step_on : (bytes : List ℕ) (b : ℕ) (s : List ℕ) (cur : ℕ) (g g' : Shape) (d n t u v h p d' n' t' u' v' h' p' : List ℕ) (kn kt ks kv kh kp : ℕ) → Long kn kt ks kv kh kp
    → (k : Going bytes (b ∷ s) cur g d n t u v h p kn kt ks kv kh kp) (o : Op) → op_of b ≡ some o
    → {x : Step} {r : Judged} → Agrees k.J (section_of o) (width o) (length s) x r → command o s (record { section = cur; job = k.J }) ≡ x → StepOk x → (e : Entry) → r ≡ Ok e → stops_of e ≡ false
    → g' ≡ shape_after e g → Put e g d n t u v h p d' n' t' u' v' h' p' → Going bytes (drop (width o) s) (section_of o) g' d' n' t' u' v' h' p' kn kt ks kv kh kp
unfolding stops_of onward
step_on bytes b s cur g g' d n t u v h p d' n' t' u' v' h' p' kn kt ks kv kh kp long k o eo (ag_refuse m) ex ok e er es w' q = absurd (not_ok m e er)
step_on bytes b s cur g g' d n t u v h p d' n' t' u' v' h' p' kn kt ks kv kh kp long k o eo ag_last ex ok e er es w' q = absurd (true≢false (ap stops_of (same_entry Last e er) ∙ es))
step_on bytes b s cur g g' d n t u v h p d' n' t' u' v' h' p' kn kt ks kv kh kp long k o eo (ag_on x a sort okay l) ex ok e er es w' q = at k.fuel k.enough k.same
  where
    st : State
    st = record { section = cur; job = k.J }

    next : State
    next = record { section = section_of o; job = extended x k.J }

    its : e ≡ entry_w x k.J
    its = sym (same_entry (entry_w x k.J) e er)

    more : Sofar (section_of o) (extended x k.J)
    more = sofar_of ok next refl

    at : (f : ℕ) → suc (length s) < f → reading bytes ≡ read_from f (length bytes - suc (length s)) st (b ∷ s) → Going bytes (drop (width o) s) (section_of o) g' d' n' t' u' v' h' p' kn kt ks kv kh kp
    at zero z y = absurd (omega arith)
    at (suc f) z y =
        let w : length (drop (width o) s) ≡ length s - width o = length-drop (width o) s in
        let i = k.within in
        let j : length bytes - suc (length s) + 1 + width o ≡ length bytes - length (drop (width o) s) = omega arith in
        record {
          J = extended x k.J;
          sofar = more;
          tables = extend_tables k.J g g' d n t u v h p d' n' t' u' v' h' p' kn kt ks kv kh kp long k.tables x a k.sofar.types (section_of o) more (w' ∙ ap (λ (y : Entry). shape_after y g) its) (subst (λ (y : Entry). Put y g d n t u v h p d' n' t' u' v' h' p') its q);
          fuel = f;
          enough = omega arith;
          within = omega arith;
          same =
              y ∙ read_op f (length bytes - suc (length s)) st b s o (proceed next) eo ex
              ∙ ap (λ (m : ℕ). read_from f m next (drop (width o) s)) j;
        }

-- a turn of the loop
pub turn : (bytes left : List ℕ) (cur : ℕ) (g g' : Shape) (d n t u v h p d' n' t' u' v' h' p' : List ℕ) (kn kt ks kv kh kp : ℕ) → Long kn kt ks kv kh kp
    → Going bytes left cur g d n t u v h p kn kt ks kv kh kp → 0 < length left
    → (e : Entry) → Ok e ≡ judged_in (get_or left 0 0) left cur g n t d → stops_of e ≡ false → g' ≡ shape_after e g → Put e g d n t u v h p d' n' t' u' v' h' p'
    → Going bytes (rest_of left) (sort_of e) g' d' n' t' u' v' h' p' kn kt ks kv kh kp
turn bytes [] cur g g' d n t u v h p d' n' t' u' v' h' p' kn kt ks kv kh kp long k z e ee es w' q = absurd (omega arith)
turn bytes (a ∷ s) cur g g' d n t u v h p d' n' t' u' v' h' p' kn kt ks kv kh kp long k z e ee es w' q = at (op_of a) refl
  where
    st : State
    st = record { section = cur; job = k.J }

    ej : Ok e ≡ judged_in a (a ∷ s) cur (shape_of k.J) n t d
    ej = ee ∙ ap (λ (y : Shape). judged_in a (a ∷ s) cur y n t d) k.tables.shape

    at : (o : Option Op) → op_of a ≡ o → Going bytes (rest_of (a ∷ s)) (sort_of e) g' d' n' t' u' v' h' p' kn kt ks kv kh kp
    at none eo = absurd (not_ok 2 e (sym (ej ∙ judged_none a (a ∷ s) cur (shape_of k.J) n t d eo)))
    at (some o) eo =
        let x = agrees k.J n t d (kept k.sofar k.tables) cur a o s eo in
        let y = step_on bytes a s cur g g' d n t u v h p d' n' t' u' v' h' p' kn kt ks kv kh kp long k o eo x refl (step_ok o s st k.sofar) e (sym ej) es w' q in
        let l : drop (width o) s ≡ rest_of (a ∷ s) = sym (rest_is a s o eo) in
        let c : section_of o ≡ sort_of e = sym (sort_on x (sym ej) es) in
        subst (λ (i : ℕ). Going bytes (rest_of (a ∷ s)) i g' d' n' t' u' v' h' p' kn kt ks kv kh kp) c
        (subst (λ (m : List ℕ). Going bytes m (section_of o) g' d' n' t' u' v' h' p' kn kt ks kv kh kp) l y)

-- Where reading stops

refused_not : (m pos : ℕ) (J : Job) → refused_at m pos ≡ read J → ⊥
refused_not m pos J e = let z : ◌≡◌ {A = ℕ} 0 1 = cc in omega arith

-- reading answers a refusal
filled_refused : (bytes : List ℕ) (r : Answer) (m pos : ℕ) (n t u v h p : List ℕ) (kn kt ks kv kh kp : ℕ) → reading bytes ≡ refused_at m pos → r ≡ refused_by m pos → Filled bytes r n t u v h p kn kt ks kv kh kp
unfolding answer_of
filled_refused bytes r m pos n t u v h p kn kt ks kv kh kp e f =
    record { answer = f ∙ sym (ap answer_of e); tables = λ J z. absurd (refused_not m pos J (sym e ∙ z)) }

-- where the command is refused, so is the job
refused_at_cmd : (bytes : List ℕ) (b : ℕ) (s : List ℕ) (cur : ℕ) (g : Shape) (d n t u v h p : List ℕ) (kn kt ks kv kh kp : ℕ)
    → (k : Going bytes (b ∷ s) cur g d n t u v h p kn kt ks kv kh kp) (o : Op) → op_of b ≡ some o
    → {x : Step} {r : Judged} → Agrees k.J (section_of o) (width o) (length s) x r → command o s (record { section = cur; job = k.J }) ≡ x → (m : ℕ) → r ≡ Err m
    → reading bytes ≡ refused_at m (length bytes - suc (length s))
unfolding onward
refused_at_cmd bytes b s cur g d n t u v h p kn kt ks kv kh kp k o eo (ag_refuse i) ex m er = at k.fuel k.enough k.same
  where
    at : (f : ℕ) → suc (length s) < f → reading bytes ≡ read_from f (length bytes - suc (length s)) (record { section = cur; job = k.J }) (b ∷ s) → reading bytes ≡ refused_at m (length bytes - suc (length s))
    at zero z y = absurd (omega arith)
    at (suc f) z y =
        let same : i ≡ m = same_number i m er in
        y ∙ read_op f (length bytes - suc (length s)) (record { section = cur; job = k.J }) b s o (refuse i) eo ex ∙ ap (λ (j : ℕ). refused_at j (length bytes - suc (length s))) same
refused_at_cmd bytes b s cur g d n t u v h p kn kt ks kv kh kp k o eo ag_last ex m er = absurd (not_ok m Last (sym er))
refused_at_cmd bytes b s cur g d n t u v h p kn kt ks kv kh kp k o eo (ag_on x a sort okay l) ex m er = absurd (not_ok m (entry_w x k.J) (sym er))

-- at the end, the job is read where no byte follows
ended_at : (bytes : List ℕ) (b : ℕ) (s : List ℕ) (cur : ℕ) (g : Shape) (d n t u v h p : List ℕ) (kn kt ks kv kh kp : ℕ)
    → (k : Going bytes (b ∷ s) cur g d n t u v h p kn kt ks kv kh kp) (o : Op) → op_of b ≡ some o
    → {x : Step} {r : Judged} → Agrees k.J (section_of o) (width o) (length s) x r → command o s (record { section = cur; job = k.J }) ≡ x → r ≡ Ok Last
    → reading bytes ≡ ended (suc (length bytes - suc (length s))) s k.J
unfolding onward stops_of
ended_at bytes b s cur g d n t u v h p kn kt ks kv kh kp k o eo (ag_refuse i) ex er = absurd (not_ok i Last er)
ended_at bytes b s cur g d n t u v h p kn kt ks kv kh kp k o eo ag_last ex er = at k.fuel k.enough k.same
  where
    at : (f : ℕ) → suc (length s) < f → reading bytes ≡ read_from f (length bytes - suc (length s)) (record { section = cur; job = k.J }) (b ∷ s)
        → reading bytes ≡ ended (suc (length bytes - suc (length s))) s k.J
    at zero z y = absurd (omega arith)
    at (suc f) z y = y ∙ read_op f (length bytes - suc (length s)) (record { section = cur; job = k.J }) b s o (finish k.J) eo ex
ended_at bytes b s cur g d n t u v h p kn kt ks kv kh kp k o eo (ag_on x a sort okay l) ex er = absurd (true≢false (ap stops_of (sym (same_entry (entry_w x k.J) Last er)) ∙ stops_entry x k.J a))

pub stop_refused : (bytes left : List ℕ) (cur : ℕ) (g : Shape) (d n t u v h p : List ℕ) (kn kt ks kv kh kp : ℕ) → Going bytes left cur g d n t u v h p kn kt ks kv kh kp → 0 < length left
    → (m : ℕ) → Err m ≡ judged_in (get_or left 0 0) left cur g n t d → Filled bytes (refused_by m (length bytes - length left)) n t u v h p kn kt ks kv kh kp
stop_refused bytes [] cur g d n t u v h p kn kt ks kv kh kp k z m em = absurd (omega arith)
stop_refused bytes (a ∷ s) cur g d n t u v h p kn kt ks kv kh kp k z m em =
    filled_refused bytes (refused_by m (length bytes - suc (length s))) m (length bytes - suc (length s)) n t u v h p kn kt ks kv kh kp (at (op_of a) refl) refl
  where
    st : State
    st = record { section = cur; job = k.J }

    ej : Err m ≡ judged_in a (a ∷ s) cur (shape_of k.J) n t d
    ej = em ∙ ap (λ (y : Shape). judged_in a (a ∷ s) cur y n t d) k.tables.shape

    none_read : (f : ℕ) → suc (length s) < f → op_of a ≡ none → read_from f (length bytes - suc (length s)) st (a ∷ s) ≡ refused_at 2 (length bytes - suc (length s))
    none_read zero y eo = absurd (omega arith)
    none_read (suc f) y eo = read_none f (length bytes - suc (length s)) st a s eo

    at : (o : Option Op) → op_of a ≡ o → reading bytes ≡ refused_at m (length bytes - suc (length s))
    at none eo =
        let same : 2 ≡ m = same_number 2 m (sym (ej ∙ judged_none a (a ∷ s) cur (shape_of k.J) n t d eo)) in
        k.same ∙ none_read k.fuel k.enough eo ∙ ap (λ (j : ℕ). refused_at j (length bytes - suc (length s))) same
    at (some o) eo = refused_at_cmd bytes a s cur g d n t u v h p kn kt ks kv kh kp k o eo (agrees k.J n t d (kept k.sofar k.tables) cur a o s eo) refl m (sym ej)

-- the end of the job, whose command is the last byte or is not
ended_job : (bytes left : List ℕ) (cur : ℕ) (g : Shape) (d n t u v h p : List ℕ) (kn kt ks kv kh kp : ℕ) → (k : Going bytes left cur g d n t u v h p kn kt ks kv kh kp) → 0 < length left
    → Ok Last ≡ judged_in (get_or left 0 0) left cur g n t d → reading bytes ≡ ended (suc (length bytes - length left)) (drop 1 left) k.J
ended_job bytes [] cur g d n t u v h p kn kt ks kv kh kp k z em = absurd (omega arith)
ended_job bytes (a ∷ s) cur g d n t u v h p kn kt ks kv kh kp k z em = at (op_of a) refl
  where
    ej : Ok Last ≡ judged_in a (a ∷ s) cur (shape_of k.J) n t d
    ej = em ∙ ap (λ (y : Shape). judged_in a (a ∷ s) cur y n t d) k.tables.shape

    at : (o : Option Op) → op_of a ≡ o → reading bytes ≡ ended (suc (length bytes - suc (length s))) s k.J
    at none eo = absurd (not_ok 2 Last (sym (ej ∙ judged_none a (a ∷ s) cur (shape_of k.J) n t d eo)))
    at (some o) eo = ended_at bytes a s cur g d n t u v h p kn kt ks kv kh kp k o eo (agrees k.J n t d (kept k.sofar k.tables) cur a o s eo) refl (sym ej)

same_job : (I J : Job) → read I ≡ read J → I ≡ J
same_job I J e = cc

pub stop_ended : (bytes left : List ℕ) (cur : ℕ) (g : Shape) (d n t u v h p : List ℕ) (kn kt ks kv kh kp : ℕ) → Going bytes left cur g d n t u v h p kn kt ks kv kh kp
    → Ok Last ≡ judged_in (get_or left 0 0) left cur g n t d → length left ≡ 1 → Filled bytes (Ok g) n t u v h p kn kt ks kv kh kp
unfolding ended answer_of
stop_ended bytes left cur g d n t u v h p kn kt ks kv kh kp k em one =
    let e : reading bytes ≡ read k.J = ended_job bytes left cur g d n t u v h p kn kt ks kv kh kp k (omega arith) em ∙ ap (λ (l : List ℕ). ended (suc (length bytes - length left)) l k.J) (drop_of_length-le left {i = 1} (omega arith)) in
    record {
      answer = ap Ok k.tables.shape ∙ sym (ap answer_of e);
      tables = λ J f. subst (λ (I : Job). Holds I n t u v h p kn kt ks kv kh kp) (same_job k.J J (sym e ∙ f)) k.tables.holds;
    }

pub stop_followed : (bytes left : List ℕ) (cur : ℕ) (g : Shape) (d n t u v h p : List ℕ) (kn kt ks kv kh kp : ℕ) → Going bytes left cur g d n t u v h p kn kt ks kv kh kp → 0 < length left
    → Ok Last ≡ judged_in (get_or left 0 0) left cur g n t d → (length left ≡ 1 → ⊥) → Filled bytes (refused_by 7 (length bytes - length left + 1)) n t u v h p kn kt ks kv kh kp
unfolding ended
stop_followed bytes left cur g d n t u v h p kn kt ks kv kh kp k z em more =
    filled_refused bytes (refused_by 7 (length bytes - length left + 1)) 7 (suc (length bytes - length left)) n t u v h p kn kt ks kv kh kp
    (ended_job bytes left cur g d n t u v h p kn kt ks kv kh kp k z em ∙ at (drop 1 left) refl) (ap (λ (m : ℕ). refused_by 7 m) (add-one (length bytes - length left)))
  where
    at : (l : List ℕ) → drop 1 left ≡ l → ended (suc (length bytes - length left)) l k.J ≡ refused_at 7 (suc (length bytes - length left))
    at [] e = absurd (more (let none : length (drop 1 left) ≡ 0 = ap length e in omega (arith, length-drop 1 left)))
    at (c ∷ l) e = refl

-- no byte where a command is due
pub short : (bytes left : List ℕ) (cur : ℕ) (g : Shape) (d n t u v h p : List ℕ) (kn kt ks kv kh kp : ℕ) → Going bytes left cur g d n t u v h p kn kt ks kv kh kp → length left ≤ 0
    → (r : Answer) → r ≡ refused_by 4 (length bytes) → Filled bytes r n t u v h p kn kt ks kv kh kp
unfolding read_from
short bytes (a ∷ s) cur g d n t u v h p kn kt ks kv kh kp k z r er = absurd (omega arith)
short bytes [] cur g d n t u v h p kn kt ks kv kh kp k z r er = at k.fuel k.enough k.same
  where
    at : (f : ℕ) → 0 < f → reading bytes ≡ read_from f (length bytes - 0) (record { section = cur; job = k.J }) [] → Filled bytes r n t u v h p kn kt ks kv kh kp
    at zero y w = absurd (omega arith)
    at (suc f) y w = let i : length bytes ≡ length bytes - 0 = omega arith in filled_refused bytes r 4 (length bytes - 0) n t u v h p kn kt ks kv kh kp w (er ∙ ap (λ (m : ℕ). refused_by 4 m) i)

-- What the loop needs of the counts and lengths

pub small_counts : {bytes left : List ℕ} {cur : ℕ} {g : Shape} {d n t u v h p : List ℕ} {kn kt ks kv kh kp : ℕ} → Going bytes left cur g d n t u v h p kn kt ks kv kh kp → Small g
unfolding shape_of
small_counts {g = g} k =
    let e = k.tables.shape in
    let o = k.sofar in
    record {
      names = let z : g.names ≡ length k.J.names = ap (λ (y : Shape). y.names) e in omega (arith, o.few_names);
      types = let z : g.types ≡ length k.J.types = ap (λ (y : Shape). y.types) e in omega (arith, o.few_types);
      values = let z : g.values ≡ length k.J.values = ap (λ (y : Shape). y.values) e in omega (arith, o.few_values);
      cmds = let z : g.cmds ≡ length k.J.cmds = ap (λ (y : Shape). y.cmds) e in omega (arith, o.few_cmds);
    }

-- the loop's invariant: the tables keep their lengths too
pub record Loop (bytes left : List ℕ) (cur : ℕ) (g : Shape) (d n t u v h p n₀ t₀ u₀ v₀ h₀ p₀ : List ℕ) : Type 0 where
  pub long : Long (length n₀) (length t₀) (length u₀) (length v₀) (length h₀) (length p₀)
  pub going : Going bytes left cur g d n t u v h p (length n₀) (length t₀) (length u₀) (length v₀) (length h₀) (length p₀)
  pub depths : length d ≡ 256
  pub within : length left ≤ length bytes
  pub names : length n ≡ length n₀
  pub types : length t ≡ length t₀
  pub sets : length u ≡ length u₀
  pub values : length v ≡ length v₀
  pub heads : length h ≡ length h₀
  pub slots : length p ≡ length p₀

pub loop_of : (bytes left : List ℕ) (cur : ℕ) (g : Shape) (d n t u v h p n₀ t₀ u₀ v₀ h₀ p₀ : List ℕ) → Long (length n₀) (length t₀) (length u₀) (length v₀) (length h₀) (length p₀)
    → Going bytes left cur g d n t u v h p (length n₀) (length t₀) (length u₀) (length v₀) (length h₀) (length p₀) → Loop bytes left cur g d n t u v h p n₀ t₀ u₀ v₀ h₀ p₀
loop_of bytes left cur g d n t u v h p n₀ t₀ u₀ v₀ h₀ p₀ l k =
    let J = k.J in
    let a = k.tables.holds in
    let o = k.sofar in
    record {
      long = l;
      going = k;
      depths = k.tables.depths_long;
      within = k.within;
      names = ap length a.names ∙ filled_length (length n₀) (name_words J) (omega (arith, l.names, o.few_names, length-map J.names name_word));
      types = ap length a.types ∙ filled_length (length t₀) (type_words J.types) (omega (arith, l.types, o.few_types, length-map J.types type_word));
      sets = ap length a.sets ∙ filled_length (length u₀) (set_words J.types) (omega (arith, l.sets, o.few_types, length-map J.types set_word));
      values = ap length a.values ∙ filled_length (length v₀) (value_words J) (omega (arith, l.values, o.few_values, length-map J.values value_word));
      heads = ap length a.heads ∙ filled_length (length h₀) (head_words J) (omega (arith, l.heads, o.few_cmds, length-map J.cmds head_word));
      slots = ap length a.slots ∙ filled_length (length p₀) (slot_words J) (omega (arith, l.slots, o.few_cmds, k.tables.five));
    }

pub rest_shorter : (left : List ℕ) → 0 < length left → length (rest_of left) < length left
unfolding rest_of
rest_shorter left h = omega (arith, length-drop (width_byte (get_or left 0 0) + 1) left)

-- The loop, from its start, over a turn, and at its ends

pub loop_first : (bytes n t u v h p : List ℕ) (g : Shape) → g ≡ no_shape → long_tables n t u v h p ≡ true → Cleared n t u v h p → Loop bytes bytes 0 g (replicate 256 0) n t u v h p n t u v h p
loop_first bytes n t u v h p g eg e z =
    let l = long_is (length n) (length t) (length u) (length v) (length h) (length p) e in
    subst (λ (y : Shape). Loop bytes bytes 0 y (replicate 256 0) n t u v h p n t u v h p) (sym eg)
    (loop_of bytes bytes 0 no_shape (replicate 256 0) n t u v h p n t u v h p l
    (going_first bytes n t u v h p (length n) (length t) (length u) (length v) (length h) (length p) l z.names z.types z.sets z.values z.heads z.slots))

module _ (bytes left : List ℕ) (cur : ℕ) (g : Shape) (d n t u v h p n₀ t₀ u₀ v₀ h₀ p₀ : List ℕ) (k : Loop bytes left cur g d n t u v h p n₀ t₀ u₀ v₀ h₀ p₀) where
  pub loop_turn : 0 < length left → (e : Entry) → Ok e ≡ judged_in (get_or left 0 0) left cur g n t d → stops_of e ≡ false
      → (g' : Shape) (d' n' t' u' v' h' p' : List ℕ) → g' ≡ shape_after e g → Put e g d n t u v h p d' n' t' u' v' h' p'
      → Loop bytes (rest_of left) (sort_of e) g' d' n' t' u' v' h' p' n₀ t₀ u₀ v₀ h₀ p₀
  loop_turn z e ee es g' d' n' t' u' v' h' p' w' q =
      loop_of bytes (rest_of left) (sort_of e) g' d' n' t' u' v' h' p' n₀ t₀ u₀ v₀ h₀ p₀ k.long
      (turn bytes left cur g g' d n t u v h p d' n' t' u' v' h' p' (length n₀) (length t₀) (length u₀) (length v₀) (length h₀) (length p₀) k.long k.going z e ee es w' q)

  pub loop_short : length left ≤ 0 → Filled bytes (refused_by 4 (length bytes)) n t u v h p (length n₀) (length t₀) (length u₀) (length v₀) (length h₀) (length p₀)
  loop_short z = short bytes left cur g d n t u v h p (length n₀) (length t₀) (length u₀) (length v₀) (length h₀) (length p₀) k.going z (refused_by 4 (length bytes)) refl

pub rest_less : (left left' : List ℕ) → left' ≡ rest_of left → 0 < length left → length left' < length left
rest_less left left' e h = omega (arith, ap length e, rest_shorter left h)
