-- What the reader makes of a command is what reading makes of it.
use mathlib.Core.Path.{◌≡◌, refl, sym, ap, ap₂, ◌∙◌, subst}
use Prim.Native.Nat.{ℕ, ◌+◌, ◌≤◌, ◌<◌}
use native.Mathlib.Omega.{arith}
use mathlib.Core.Bool.{Bool, true, false, cond, not, true≢false}
use mathlib.Core.List.{List, ◌∷◌}
use mathlib.Core.Option.{Option, some}
use lib.ListN.{length, length-append, length-replicate, length-take, get_or, get_elem?, take, drop}
use lib.Dec.{eqb, ltb, leb}
use borrow.Author.Tests.{ne_eqb, ltb-false}
use Rattle.std.specs.Prelude.{Ok, Err}
use Rattle.order.specs.Bools.{◌and◌, ◌or◌}
use Rattle.order.specs.OrderLaws.{Proper}
use Rattle.order.specs.Effects.{Effect, of_word}
use Rattle.syntax.specs.Types.{TypeEntry, tree, depth}
use Rattle.syntax.specs.Commands.{Cmd, c_lim, Op, form, allowed, o_host, o_local, o_number, o_pair, o_cell, o_function, o_limit, o_grant, o_value, o_rights, o_end, op_of, operands, width, section_of, fields}
use Rattle.syntax.specs.Commands.{x_number, x_top, x_variable, x_pair, x_part, x_function, x_apply, x_cell, x_assign, x_read, x_sum, x_test, x_limit, x_grant, x_newkey, x_associate, x_access, x_divide, x_spawn}
use Rattle.syntax.specs.Job.{Name, HostValue, Job, uppers}
use Rattle.syntax.specs.Words.{name_word, type_word, filled, slots}
use Rattle.syntax.specs.Reading.{State, declared, host_name, name_ok, type_ok, host_value_ok, set_ok, rights_ok, cmd_ok, Written, w_name, w_type, w_value, w_rights, w_cmd, w_end, unwritten, means, written, given, enter, misplaced, full}
use Rattle.syntax.specs.Reading.{Step, refuse, proceed, finish, settle, command}
use Rattle.syntax.specs.ReadLaws.{TypesOk, Wrote, wrote_name, wrote_type, wrote_value, wrote_rights, wrote_cmd, wrote_end, wrote_none}
use Rattle.syntax.proofs.ReadLaws.{wrote}
use Rattle.names.specs.Ancestors.{names_in, declared_of, ancestors_by, set_ok_by}
use Rattle.names.proofs.Laws.{set_ok_by_lem, rights_ok_by_lem}
use Rattle.names.proofs.Pass.{ancestors_by_lem}
use Rattle.entry.specs.Bytes.{field_at, section_byte, misplaced_by, full_by}
use Rattle.entry.specs.Entries.{Judged, named_of, name_entry, value_entry, rights_entry, form_entry, entry_of, in_room, judged_by, entry_in, judged_in, stops_of, sort_of}
use Rattle.entry.specs.Shapes.{shape_of}
use Rattle.entry.specs.declared.Entry.{Entry}
use Rattle.entry.specs.declared.Entry.TheVariants.{Named, Rights, Last}
use Rattle.entry.specs.OpBytes.{byte_of}
use Rattle.entry.proofs.OpBytes.{op_byte, width_narrow, width_is}
use Rattle.entry.proofs.Ops.{misplaced_is, full_is, fields_from, fields_from_lem}
use Rattle.entry.proofs.Entered.{ok_w, extended, enter_is, entry_w, judged_w}
use Rattle.entry.proofs.ExprLaws as exprs
use Rattle.entry.proofs.TypeLaws as typed
use Rattle.entry.proofs.ValueLaws as valued

-- Names

host_tests : (x y z : Bool) (n r : Judged) → cond x r (cond y (cond z n r) r) ≡ cond (not x and y and (not true or z)) n r
unfolding ◌and◌ ◌or◌
host_tests true y z n r = refl
host_tests false true z n r = refl
host_tests false false z n r = refl

local_tests : (x y z : Bool) (n r : Judged) → cond x r (cond y n r) ≡ cond (not x and y and (not false or z)) n r
unfolding ◌and◌ ◌or◌
local_tests true y z n r = refl
local_tests false true z n r = refl
local_tests false false z n r = refl

-- the tables of names, of types and of depths are those of J
pub record Kept (J : Job) (names types depths : List ℕ) : Type 0 where
  pub proper : Proper (uppers J.names)
  pub few : length J.names ≤ 62
  pub back : names_in names (length J.names) ≡ J.names
  pub ok : TypesOk J.names J.types
  pub few_types : length J.types ≤ 256
  pub words : (i : ℕ) (e : TypeEntry) → get_elem? J.types i ≡ some e → get_or types i 0 ≡ type_word e
  pub deep : (i : ℕ) → i < length J.types → get_or depths i 0 ≡ depth (tree J.types i)

module _ (J : Job) (names types depths : List ℕ) (k : Kept J names types depths) (s : List ℕ) where
  sets : (x : ℕ) → set_ok_by (ancestors_by (names_in names (length J.names))) (length J.names) x ≡ set_ok J.names (of_word x)
  sets x = ap (λ (l : List Name). set_ok_by (ancestors_by l) (length J.names) x) k.back ∙ set_ok_by_lem J.names k.proper k.few (ancestors_by_lem J.names k.proper k.few) x

  law_o_host : name_entry (byte_of o_host) s names (length J.names) ≡ judged_w (written o_host (fields_from (operands o_host) s 1)) J
  unfolding name_entry byte_of written operands fields_from judged_w ok_w entry_w name_ok declared declared_of name_word
  law_o_host =
      ap (λ (l : List Name). named_of 1 (field_at 1 s 1) (declared_of (length J.names) (field_at 1 s 1)) (host_name l (field_at 1 s 1))) k.back
      ∙ host_tests (eqb (field_at 1 s 1) 0) (ltb (field_at 1 s 1) (2 + length J.names)) (host_name J.names (field_at 1 s 1)) (Ok (Named (field_at 1 s 1 + 256))) (Err 6)

  law_o_local : name_entry (byte_of o_local) s names (length J.names) ≡ judged_w (written o_local (fields_from (operands o_local) s 1)) J
  unfolding name_entry byte_of written operands fields_from judged_w ok_w entry_w name_ok declared declared_of name_word
  law_o_local =
      local_tests (eqb (field_at 1 s 1) 0) (ltb (field_at 1 s 1) (2 + length J.names)) (host_name J.names (field_at 1 s 1)) (Ok (Named (field_at 1 s 1 + 512))) (Err 6)

  law_o_rights : rights_entry s (ancestors_by J.names) J.names ≡ judged_w (written o_rights (fields_from (operands o_rights) s 1)) J
  unfolding rights_entry written operands fields_from judged_w ok_w entry_w
  law_o_rights =
      ap (λ (b : Bool). cond b (Ok (Rights (field_at 8 s 1))) (Err 6)) (rights_ok_by_lem J.names k.proper k.few (ancestors_by_lem J.names k.proper k.few) (field_at 8 s 1))

  entry_law : (o : Op) → entry_in (byte_of o) s names types depths (shape_of J) ≡ judged_w (written o (fields_from (operands o) s 1)) J
  unfolding entry_of section_byte byte_of shape_of written judged_w ok_w entry_w
  entry_law o_host = law_o_host
  entry_law o_local = law_o_local
  entry_law o_number = typed.law_o_number s J k.ok depths k.deep (ancestors_by (names_in names (length J.names))) sets
  entry_law o_pair = typed.law_o_pair s J k.ok depths k.deep (ancestors_by (names_in names (length J.names))) sets
  entry_law o_cell = typed.law_o_cell s J k.ok depths k.deep (ancestors_by (names_in names (length J.names))) sets
  entry_law o_function = typed.law_o_function s J k.ok depths k.deep (ancestors_by (names_in names (length J.names))) sets
  entry_law o_limit = typed.law_o_limit s J k.ok depths k.deep (ancestors_by (names_in names (length J.names))) sets
  entry_law o_grant = typed.law_o_grant s J k.ok depths k.deep (ancestors_by (names_in names (length J.names))) sets
  entry_law o_value = ap (λ (l : List Name). value_entry s l types (length J.types)) k.back ∙ valued.law_o_value J k.ok k.few k.few_types types k.words s
  entry_law o_rights = ap (λ (l : List Name). rights_entry s (ancestors_by l) l) k.back ∙ law_o_rights
  entry_law x_number = ap (λ (l : List Name). form_entry 0x30 s l (shape_of J)) k.back ∙ exprs.law_x_number s J
  entry_law x_top = ap (λ (l : List Name). form_entry 0x31 s l (shape_of J)) k.back ∙ exprs.law_x_top s J
  entry_law x_variable = ap (λ (l : List Name). form_entry 0x32 s l (shape_of J)) k.back ∙ exprs.law_x_variable s J
  entry_law x_pair = ap (λ (l : List Name). form_entry 0x33 s l (shape_of J)) k.back ∙ exprs.law_x_pair s J
  entry_law x_part = ap (λ (l : List Name). form_entry 0x34 s l (shape_of J)) k.back ∙ exprs.law_x_part s J
  entry_law x_function = ap (λ (l : List Name). form_entry 0x35 s l (shape_of J)) k.back ∙ exprs.law_x_function s J
  entry_law x_apply = ap (λ (l : List Name). form_entry 0x36 s l (shape_of J)) k.back ∙ exprs.law_x_apply s J
  entry_law x_cell = ap (λ (l : List Name). form_entry 0x37 s l (shape_of J)) k.back ∙ exprs.law_x_cell s J
  entry_law x_assign = ap (λ (l : List Name). form_entry 0x38 s l (shape_of J)) k.back ∙ exprs.law_x_assign s J
  entry_law x_read = ap (λ (l : List Name). form_entry 0x39 s l (shape_of J)) k.back ∙ exprs.law_x_read s J
  entry_law x_sum = ap (λ (l : List Name). form_entry 0x3A s l (shape_of J)) k.back ∙ exprs.law_x_sum s J
  entry_law x_test = ap (λ (l : List Name). form_entry 0x3B s l (shape_of J)) k.back ∙ exprs.law_x_test s J
  entry_law x_limit = ap (λ (l : List Name). form_entry 0x3C s l (shape_of J)) k.back ∙ exprs.law_x_limit s J
  entry_law x_grant = ap (λ (l : List Name). form_entry 0x3D s l (shape_of J)) k.back ∙ exprs.law_x_grant s J
  entry_law x_newkey = ap (λ (l : List Name). form_entry 0x3E s l (shape_of J)) k.back ∙ exprs.law_x_newkey s J
  entry_law x_associate = ap (λ (l : List Name). form_entry 0x3F s l (shape_of J)) k.back ∙ exprs.law_x_associate s J
  entry_law x_access = ap (λ (l : List Name). form_entry 0x40 s l (shape_of J)) k.back ∙ exprs.law_x_access s J
  entry_law x_divide = ap (λ (l : List Name). form_entry 0x41 s l (shape_of J)) k.back ∙ exprs.law_x_divide s J
  entry_law x_spawn = ap (λ (l : List Name). form_entry 0x42 s l (shape_of J)) k.back ∙ exprs.law_x_spawn s J
  entry_law o_end = refl

-- What is written has five places

unfoldable pub places : Written → ℕ
places (w_name d) = 5
places (w_type e) = 5
places (w_value h) = 5
places (w_rights s) = 5
places (w_cmd k) = length (slots k)
places w_end = 5
places unwritten = 5

limit_places : (c : ℕ) (ks : List ℕ) (b : ℕ) → length (slots (c_lim (take c (take 4 ks)) b)) ≡ 5
unfolding slots filled
limit_places c ks b =
    let h : length (take c (take 4 ks)) ≤ 4 = simp (length-take) (omega arith) in
    simp (length-append, length-replicate) (omega arith)

five_means : (o : Op) (l : List ℕ) → places (means o l) ≡ 5
unfolding means places slots filled
five_means o_host l = refl
five_means o_local l = refl
five_means o_number l = refl
five_means o_pair l = refl
five_means o_cell l = refl
five_means o_function l = refl
five_means o_limit l = refl
five_means o_grant l = refl
five_means o_value l = refl
five_means o_rights l = refl
five_means x_number l = refl
five_means x_top l = refl
five_means x_variable l = refl
five_means x_pair l = refl
five_means x_part l = refl
five_means x_function l = refl
five_means x_apply l = refl
five_means x_cell l = refl
five_means x_assign l = refl
five_means x_read l = refl
five_means x_sum l = refl
five_means x_test l = refl
five_means x_limit l = limit_places (get_or l 0 0) (drop 1 l) (get_or l 5 0)
five_means x_grant l = refl
five_means x_newkey l = refl
five_means x_associate l = refl
five_means x_access l = refl
five_means x_divide l = refl
five_means x_spawn l = refl
five_means o_end l = refl

pub five_places : (o : Op) (l : List ℕ) → places (written o l) ≡ 5
unfolding written places
five_places o l = at (allowed (form o).roles l)
  where
    at : (b : Bool) → places (cond b (means o l) unwritten) ≡ 5
    at true = five_means o l
    at false = refl

-- what is entered
pub data Adds : Written → Type 0 where
  adds_name : (d : Name) → Adds (w_name d)
  adds_type : (e : TypeEntry) → Adds (w_type e)
  adds_value : (h : HostValue ℕ) → Adds (w_value h)
  adds_rights : (s : Effect) → Adds (w_rights s)
  adds_cmd : (c : Cmd ℕ) → length (slots c) ≡ 5 → Adds (w_cmd c)

-- what a command of width w comes to, and the reader's entry for it; n bytes follow the command byte
pub data Agrees (J : Job) (sec w n : ℕ) : Step → Judged → Type 0 where
  ag_refuse : (m : ℕ) → Agrees J sec w n (refuse m) (Err m)
  ag_last : Agrees J sec w n (finish J) (Ok Last)
  ag_on : (x : Written) → Adds x → sort_of (entry_w x J) ≡ sec → ok_w x J ≡ true → w ≤ n → Agrees J sec w n (proceed (record { section = sec; job = extended x J })) (Ok (entry_w x J))

agree_on : (J : Job) (sec w n : ℕ) → sec < 5 → (x : Written) → Adds x → sort_of (entry_w x J) ≡ sec → w ≤ n → (b : Bool) → ok_w x J ≡ b → Agrees J sec w n (settle sec (given b (extended x J))) (cond b (Ok (entry_w x J)) (Err 6))
unfolding settle given
agree_on J sec w n h x a q l false e = ag_refuse 6
agree_on J sec w n h x a q l true e = subst (λ (c : Bool). Agrees J sec w n (cond c (finish (extended x J)) (proceed (record { section = sec; job = extended x J }))) (Ok (entry_w x J))) (sym (ne_eqb sec 5 (λ z. omega arith))) (ag_on x a q e l)

agree_entered : (J : Job) (sec w n : ℕ) (x : Written) → Wrote sec x → places x ≡ 5 → w ≤ n → Agrees J sec w n (settle sec (given (ok_w x J) (extended x J))) (judged_w x J)
unfolding judged_w ok_w extended entry_w settle given places sort_of
agree_entered J sec w n x (wrote_name d) f l = agree_on J 0 w n (omega arith) (w_name d) (adds_name d) refl l (name_ok J.names d) refl
agree_entered J sec w n x (wrote_type e) f l = agree_on J 1 w n (omega arith) (w_type e) (adds_type e) refl l (type_ok J.names J.types e) refl
agree_entered J sec w n x (wrote_value h) f l = agree_on J 2 w n (omega arith) (w_value h) (adds_value h) refl l (host_value_ok J.names J.types h) refl
agree_entered J sec w n x (wrote_rights s) f l = agree_on J 3 w n (omega arith) (w_rights s) (adds_rights s) refl l (rights_ok J.names s) refl
agree_entered J sec w n x (wrote_cmd k) f l = agree_on J 4 w n (omega arith) (w_cmd k) (adds_cmd k f) refl l (cmd_ok J k) refl
agree_entered J sec w n x wrote_end f l = ag_last
agree_entered J sec w n x (wrote_none m) f l = ag_refuse 6

pub not_ok : (m : ℕ) (e : Entry) → ◌≡◌ {A = Judged} (Err m) (Ok e) → ⊥
not_ok m e h = cc

pub same_entry : (x e : Entry) → ◌≡◌ {A = Judged} (Ok x) (Ok e) → x ≡ e
same_entry x e h = cc

-- where reading goes on, the entry's sort is the section
pub sort_on : {J : Job} {sec w n : ℕ} {x : Step} {r : Judged} {e : Entry} → Agrees J sec w n x r → r ≡ Ok e → stops_of e ≡ false → sort_of e ≡ sec
unfolding stops_of
sort_on {e = e} (ag_refuse m) er es = absurd (not_ok m e er)
sort_on {e = e} ag_last er es = absurd (true≢false (ap stops_of (same_entry Last e er) ∙ es))
sort_on {J = J} {e = e} (ag_on x a q okay l) er es = sym (ap sort_of (same_entry (entry_w x J) e er)) ∙ q

-- one command
pub agrees : (J : Job) (names types depths : List ℕ) → Kept J names types depths → (cur b : ℕ) (o : Op) (s : List ℕ) → op_of b ≡ some o
    → Agrees J (section_of o) (width o) (length s) (command o s (record { section = cur; job = J })) (judged_in b (b ∷ s) cur (shape_of J) names types depths)
unfolding judged_by shape_of width command
agrees J names types depths k cur b o s e =
    subst (λ (x : Judged). Agrees J (section_of o) (width o) (length s) (command o s st) x) (sym reader)
    (at (misplaced st (section_of o)) (ltb (length s) (width o)) refl (full J (section_of o)))
  where
    st : State
    st = record { section = cur; job = J }

    x : Written
    x = written o (fields_from (operands o) (b ∷ s) 1)

    reader : judged_in b (b ∷ s) cur (shape_of J) names types depths
        ≡ cond (misplaced st (section_of o)) (Err 3) (in_room (ltb (length s) (width o)) (full J (section_of o)) (judged_w x J))
    reader =
        ap (λ (w : ℕ). cond (eqb w 255) (Err 2)
        (cond (misplaced_by cur (section_byte b) (length J.cmds)) (Err 3)
        (in_room (leb (length (b ∷ s)) w) (full_by (section_byte b) (length J.names) (length J.types) (length J.values) (length J.cmds)) (entry_in b (b ∷ s) names types depths (shape_of J))))) (width_is b o e)
        ∙ ap (λ (c : Bool). cond c (Err 2)
        (cond (misplaced_by cur (section_byte b) (length J.cmds)) (Err 3)
        (in_room (ltb (length s) (width o)) (full_by (section_byte b) (length J.names) (length J.types) (length J.values) (length J.cmds)) (entry_in b (b ∷ s) names types depths (shape_of J))))) (ne_eqb (width o) 255 (λ z. omega (arith, width_narrow o)))
        ∙ ap (λ (c : ℕ). (cond (misplaced_by cur (section_byte c) (length J.cmds)) (Err 3)
        (in_room (ltb (length s) (width o)) (full_by (section_byte c) (length J.names) (length J.types) (length J.values) (length J.cmds)) (entry_in c (b ∷ s) names types depths (shape_of J))))) (op_byte b o e)
        ∙ ap₂ (λ (c d : Bool). cond c (Err 3) (in_room (ltb (length s) (width o)) d (entry_in (byte_of o) (b ∷ s) names types depths (shape_of J)))) (sym (misplaced_is st o)) (sym (full_is J o))
        ∙ ap (λ (y : Judged). cond (misplaced st (section_of o)) (Err 3) (in_room (ltb (length s) (width o)) (full J (section_of o)) y)) (entry_law J names types depths k (b ∷ s) o)

    at : (p q : Bool) → ltb (length s) (width o) ≡ q → (r : Bool)
        → Agrees J (section_of o) (width o) (length s) (cond p (refuse 3) (cond q (refuse 4) (cond r (refuse 5) (settle (section_of o) (enter (written o (fields (operands o) s)) J)))))
        (cond p (Err 3) (in_room q r (judged_w x J)))
    at true q z r = ag_refuse 3
    at false true z r = ag_refuse 4
    at false false z true = ag_refuse 5
    at false false z false =
        let l : width o ≤ length s = ltb-false (length s) (width o) z in
        let same : fields_from (operands o) (b ∷ s) 1 ≡ fields (operands o) s = from l in
        subst (λ (t : Step). Agrees J (section_of o) (width o) (length s) t (judged_w x J))
        (ap (λ (f : List ℕ). settle (section_of o) (given (ok_w (written o f) J) (extended (written o f) J))) same ∙ ap (λ (y : Option Job). settle (section_of o) y) (sym (enter_is (written o (fields (operands o) s)) J)))
        (agree_entered J (section_of o) (width o) (length s) x (wrote o (fields_from (operands o) (b ∷ s) 1)) (five_places o (fields_from (operands o) (b ∷ s) 1)) l)
      where
        from : width o ≤ length s → fields_from (operands o) (b ∷ s) 1 ≡ fields (operands o) s
        from l = fields_from_lem (operands o) (b ∷ s) 1 (omega arith)
