-- What writing answers, fault by fault, and that it sends no field cut. WrittenRefusals says why an answer was given; here it is the other way round.
use Rattle.std.specs.Prelude.{◌≡◌, Bool, true, false, cond, ◌⊎◌, eqb, ltb}
use Rattle.std.proofs.Math.Path.{refl, ap}
use Rattle.std.proofs.Common.{sym, ◌∙◌, subst, inl, inr, ltb-true, lt-ltb, le-ltb, eqb-true, eq-eqb}
use Prim.Native.Nat.{ℕ, zero, suc, ◌+◌, ◌/◌, ◌%◌, ◌^◌, ◌≤◌, ◌<◌}
use native.Mathlib.Omega.{arith}
use mathlib.Core.List.{List, [], ◌∷◌, ◌++◌, append_assoc, append-nil}
use Rattle.std.proofs.Math.Option.{Option, none, some, some-injective}
use Rattle.std.proofs.Math.ListN.{length}
use Rattle.std.proofs.lemmas.Bool.{eqb-false}
use Rattle.order.specs.Bools.{◌and◌, ◌or◌}
use Rattle.order.proofs.Bools.{and_l, and_r}
use Rattle.syntax.specs.Commands.{Op, o_value, o_rights, o_end, op_of, find_op, commands, operands, total, width, section_of}
use Rattle.syntax.specs.Job.{Job}
use Rattle.syntax.specs.Reading.{Refusal, Read, refused, read, refused_at, reading, most_declared, most_types, most_variables, most_expressions}
use Rattle.syntax.specs.Reading.{State, written, enter, misplaced, full, refuse, finish, settle, command, ended, onward, on_op, read_from}
use Rattle.syntax.specs.Loading.{JobTables}
use Rattle.syntax.specs.Words.{code_in}
use Rattle.syntax.proofs.ReadLaws.{read_ok}
use Rattle.syntax.specs.ReadPlaces.{ReadOn}
use Rattle.syntax.proofs.ReadPlaces.{op_byte, byte_low, read_on}
use Rattle.syntax.specs.JobBytes.{operand_bytes, command_bytes}
use Rattle.syntax.specs.Writing.{Counts, Item, item, fault, fits, item_of, within, name_at, type_at, set_at, value_at, head_at, name_numbers, type_numbers, value_numbers}
use Rattle.syntax.specs.Writing.{name_item, type_item, value_item, fields_of, cmd_item, each, items, Script, script, sent, unsent, unsent_at, judged, writing}
use Rattle.syntax.proofs.BufferLaws.{fault_decides}
use Rattle.syntax.specs.ScriptLaws.{Own, no_command, foreign, past_limit, too_wide, Entry, sound, faulty, cmd_numbers}
use Rattle.syntax.proofs.ScriptLaws.{name_entry_lem, type_entry_lem, value_entry_lem, rights_entry_lem, cmd_entry}
use Rattle.syntax.specs.ScriptLaws.{after_names, after_types, after_values, after_rights}
use Rattle.syntax.proofs.ScriptLaws.{own_number, number_pos}
use Rattle.syntax.proofs.WrittenRead.{written_read}
use Rattle.syntax.specs.WritingLaws.{Answers, InHead, InType, head_function, head_limit, head_newkey, head_number, head_part, head_sum, head_variable, name_of_grant, name_of_limit, second_of_function, second_of_pair, set_of_function}

-- The first fault

-- no command is 2 and a foreign one 3 whatever their fields are, and past the limit it is 5 whatever stands there
pub own_is : {sec limit i b n : ℕ} {numbers : Op → List ℕ} → Own sec limit i b numbers n → within limit i (item_of sec (op_of b) numbers) ≡ fault n
unfolding within item_of
own_is {sec} {limit} {i} {b} (no_command l h) = rw (lt-ltb i limit l, h) refl
own_is {sec} {limit} {i} {b} (foreign l op h k) = rw (lt-ltb i limit l, h) (at _ (eqb (section_of op) sec) refl)
  where
    at : (x : Item) (t : Bool) → eqb (section_of op) sec ≡ t → cond t x (fault 3) ≡ fault 3
    at x true e = absurd (k (eqb-true (section_of op) sec e))
    at x false e = refl
own_is {sec} {limit} {i} (past_limit l) = rw (le-ltb i limit l) refl
own_is {sec} {limit} {i} {b} (too_wide l op h k f) = rw (lt-ltb i limit l, h, eq-eqb (section_of op) sec k, f) refl

-- no entry has fault 0
positive : {sec limit i b : ℕ} {numbers : Op → List ℕ} {x : Item} → Entry sec limit i b numbers x → x ≡ fault 0 → ⊥
positive (sound op h k f) e = absurd (let z : ◌≡◌ {A = ℕ} 0 1 = cc in omega arith)
positive (faulty {n} o) e = let z : n ≡ 0 = cc in omega (arith, number_pos (own_number o))

-- the entries b have no fault: then the script of l is their bytes and t, and fault n
abbrev After : List Item → List Item → List ℕ → ℕ → Type 0
After b l t n = (script b).fault ≡ 0 → script l ≡ record { bytes = (script b).bytes ++ t; fault = n }

-- past an entry, and past a table
past_entry : (x : Item) → (x ≡ fault 0 → ⊥) → (b l : List Item) (t : List ℕ) (n : ℕ) → After b l t n → After (x ∷ b) (x ∷ l) t n
unfolding script
past_entry (item r) p b l t n g e =
    ap (λ (s : Script). record { bytes = command_bytes r ++ s.bytes; fault = s.fault }) (g e)
    ∙ ap (λ (s : List ℕ). record { bytes = s; fault = n }) (sym (append_assoc (command_bytes r) (script b).bytes t))
past_entry (fault k) p b l t n g e = absurd (p (ap fault e))

past_table : (f : ℕ → Item) → ((i : ℕ) → f i ≡ fault 0 → ⊥) → (i k : ℕ) (b l : List Item) (t : List ℕ) (n : ℕ) → After b l t n → After (each f i k ++ b) (each f i k ++ l) t n
unfolding each
past_table f p i zero b l t n g = g
past_table f p i (suc k) b l t n g = past_entry (f i) (p i) (each f (suc i) k ++ b) (each f (suc i) k ++ l) t n (past_table f p (suc i) k b l t n g)

-- to an entry of a table
in_table : (f : ℕ → Item) → ((i : ℕ) → f i ≡ fault 0 → ⊥) → (i k m : ℕ) (l : List Item) (n : ℕ) → m < k → f (i + m) ≡ fault n → After (each f i m) (each f i k ++ l) [] n
unfolding each script
in_table f p i zero m l n h e z = absurd (omega arith)
in_table f p i (suc k) zero l n h e z = let q : i ≡ i + 0 = omega arith in ap (λ (x : Item). script (x ∷ (each f (suc i) k ++ l))) (ap f q ∙ e)
in_table f p i (suc k) (suc m) l n h e z =
    let q : suc i + m ≡ i + suc m = omega arith in past_entry (f i) (p i) (each f (suc i) m) (each f (suc i) k ++ l) [] n (in_table f p (suc i) k m l n (omega arith) (ap f q ∙ e)) z

-- past all of a table
all_table : (f : ℕ → Item) → ((i : ℕ) → f i ≡ fault 0 → ⊥) → (i k : ℕ) (l : List Item) (n : ℕ) → script l ≡ record { bytes = []; fault = n } → After (each f i k) (each f i k ++ l) [] n
unfolding script
all_table f p i k l n g = subst (λ (x : List Item). After x (each f i k ++ l) [] n) (append-nil (each f i k)) (past_table f p i k [] l [] n (λ z. g))

from_0 : (f : ℕ → Item) (i n : ℕ) → f i ≡ fault n → f (0 + i) ≡ fault n
from_0 f i n e = let z : 0 + i ≡ i = omega arith in ap f z ∙ e

-- the script of tables with a first fault
module _ (w : JobTables) (c : Counts) where
  names_on : (b l : List Item) (t : List ℕ) (n : ℕ) → After b l t n → After (after_names w c b) (after_names w c l) t n
  names_on b l t n = past_table (name_item w) (λ i. positive (name_entry_lem w i)) 0 c.names b l t n

  types_on : (b l : List Item) (t : List ℕ) (n : ℕ) → After b l t n → After (after_types w c b) (after_types w c l) t n
  types_on b l t n g = names_on _ _ t n (past_table (type_item w) (λ i. positive (type_entry_lem w i)) 0 c.types b l t n g)

  values_on : (b l : List Item) (t : List ℕ) (n : ℕ) → After b l t n → After (after_values w c b) (after_values w c l) t n
  values_on b l t n g = types_on _ _ t n (past_table (value_item w) (λ i. positive (value_entry_lem w i)) 0 c.values b l t n g)

  rights_on : (b l : List Item) (t : List ℕ) (n : ℕ) → After b l t n → After (after_rights w c b) (after_rights w c l) t n
  rights_on b l t n g = values_on _ _ t n (past_entry _ (positive (rights_entry_lem c)) b l t n g)

  rights_wide : 256 ^ 8 ≤ c.rights → (l : List Item) → script (item_of 3 (some o_rights) (λ op. c.rights ∷ []) ∷ l) ≡ record { bytes = []; fault = 6 }
  unfolding script item_of section_of operands fits ◌and◌
  rights_wide h l = rw (le-ltb c.rights (256 ^ 8) h) refl

  -- with a fault after the bytes of b
  faulted : (b : List Item) (n : ℕ) → 0 < n → After b (items w c) [] n → Answers w c b n
  unfolding writing
  faulted b n p a e r =
      ap (λ (s : Script). judged s.fault s.bytes (reading s.bytes)) (a e)
      ∙ ap (λ (s : List ℕ). judged n s (reading s)) (append-nil (script b).bytes)
      ∙ ap (judged n (script b).bytes) r ∙ at n p
    where
      ends : (q : Refusal) → refused_at 4 (length (script b).bytes) ≡ refused q → length (script b).bytes ≤ q.place
      ends q z = let y : length (script b).bytes ≡ q.place = cc in omega arith

      at : (n : ℕ) → 0 < n → judged n (script b).bytes (refused_at 4 (length (script b).bytes)) ≡ unsent_at n (length (script b).bytes)
      at zero p = absurd (omega arith)
      at (suc n) p = fault_decides n (script b).bytes (refused_at 4 (length (script b).bytes)) ends

-- the end alone is refused by 3, or a job ends there
end_alone : (f pos : ℕ) (st : State) → 0 < f → (read_from f pos st (0xFF ∷ []) ≡ refused_at 3 pos) ⊎ ((J : Job) × (read_from f pos st (0xFF ∷ []) ≡ read J))
unfolding read_from on_op onward op_of find_op commands command width total operands section_of full ◌and◌ ◌or◌ settle enter written ended
end_alone zero pos st h = absurd (omega arith)
end_alone (suc f) pos st h = at (misplaced st 5) (λ next. read_from f (pos + 1 + 0) next [])
  where
    at : (b : Bool) (next : State → Read)
        → (onward (cond b (refuse 3) (finish st.job)) pos [] next ≡ refused_at 3 pos) ⊎ ((J : Job) × (onward (cond b (refuse 3) (finish st.job)) pos [] next ≡ read J))
    at true next = inl refl
    at false next = inr (st.job, refl)

module _ (w : JobTables) (c : Counts) where
  -- the first entry at fault has its own number at the place of its command
  pub name_fault : {n : ℕ} (i : ℕ) → i < c.names → Own 0 most_declared i (name_at w i / 256) (name_numbers (name_at w i)) n → Answers w c (each (name_item w) 0 i) n
  unfolding items name_item
  name_fault {n} i l o = faulted w c _ n (number_pos (own_number o)) (in_table (name_item w) (λ i. positive (name_entry_lem w i)) 0 c.names i _ n l (from_0 (name_item w) i n (own_is o)))

  pub type_fault : {n : ℕ} (i : ℕ) → i < c.types → Own 1 most_types i (type_at w i % 256) (type_numbers (type_at w i) (set_at w i)) n → Answers w c (after_names w c (each (type_item w) 0 i)) n
  unfolding items type_item
  type_fault {n} i l o =
      faulted w c _ n (number_pos (own_number o)) (names_on w c _ _ _ n (in_table (type_item w) (λ i. positive (type_entry_lem w i)) 0 c.types i _ n l (from_0 (type_item w) i n (own_is o))))

  pub value_fault : {n : ℕ} (i : ℕ) → i < c.values → Own 2 most_variables i (value_at w i % 256) (value_numbers (value_at w i)) n → Answers w c (after_types w c (each (value_item w) 0 i)) n
  unfolding items value_item
  value_fault {n} i l o =
      faulted w c _ n (number_pos (own_number o)) (types_on w c _ _ _ n (in_table (value_item w) (λ i. positive (value_entry_lem w i)) 0 c.values i _ n l (from_0 (value_item w) i n (own_is o))))

  pub rights_fault : 256 ^ 8 ≤ c.rights → Answers w c (after_types w c (each (value_item w) 0 c.values)) 6
  unfolding items
  rights_fault h = faulted w c _ 6 (omega arith) (types_on w c _ _ _ 6 (all_table (value_item w) (λ i. positive (value_entry_lem w i)) 0 c.values _ 6 (rights_wide w c h _)))

  pub cmd_fault : {n : ℕ} (i : ℕ) → i < c.cmds → Own 4 most_expressions i (head_at w i % 256) (cmd_numbers w i) n → Answers w c (after_rights w c (each (cmd_item w) 0 i)) n
  unfolding items cmd_item
  cmd_fault {n} i l o = faulted w c _ n (number_pos (own_number o)) (rights_on w c _ _ _ n (in_table (cmd_item w) (λ i. positive (cmd_entry w i)) 0 c.cmds i _ n l (from_0 (cmd_item w) i n (own_is o))))

  -- so a count above its limit is 5 where the entry past the limit would begin, whatever stands there
  pub too_many_names : most_declared < c.names → Answers w c (each (name_item w) 0 most_declared) 5
  too_many_names l = name_fault most_declared l (past_limit (omega arith))

  pub too_many_types : most_types < c.types → Answers w c (after_names w c (each (type_item w) 0 most_types)) 5
  too_many_types l = type_fault most_types l (past_limit (omega arith))

  pub too_many_values : most_variables < c.values → Answers w c (after_types w c (each (value_item w) 0 most_variables)) 5
  too_many_values l = value_fault most_variables l (past_limit (omega arith))

  pub too_many_expressions : most_expressions < c.cmds → Answers w c (after_rights w c (each (cmd_item w) 0 most_expressions)) 5
  too_many_expressions l = cmd_fault most_expressions l (past_limit (omega arith))

  -- no expression is 3 at the place of the end
  pub no_expression : c.cmds ≡ 0 → Answers w c (after_rights w c []) 3
  unfolding writing items script each judged operand_bytes
  no_expression z e r = at (end_alone o.steps (length b) o.state (omega (arith, o.enough)))
    where
      b : List ℕ
      b = (script (after_rights w c [])).bytes

      is : script (items w c) ≡ record { bytes = b ++ (0xFF ∷ []); fault = 0 }
      is = rights_on w c [] (each (cmd_item w) 0 c.cmds ++ (item (o_end, []) ∷ [])) (0xFF ∷ []) 0 (λ x. ap (λ (k : ℕ). script (each (cmd_item w) 0 k ++ (item (o_end, []) ∷ []))) z) e

      o : ReadOn (length b) (0xFF ∷ []) (reading (b ++ (0xFF ∷ [])))
      o = read_on b (0xFF ∷ []) r

      judged_so : (x : Read) → read_from o.steps (length b) o.state (0xFF ∷ []) ≡ x → writing w c ≡ judged 0 (b ++ (0xFF ∷ [])) x
      judged_so x h = ap (λ (s : Script). judged s.fault s.bytes (reading s.bytes)) is ∙ ap (judged 0 (b ++ (0xFF ∷ []))) (o.is_on ∙ h)

      no_job_lem : (s : List ℕ) → writing w c ≡ sent s → ⊥
      no_job_lem s h =
          let x = written_read w c s h in
          let n : length x.job.cmds ≡ 0 = ap length (x.held.cmds ∙ ap (λ (k : ℕ). each (code_in w.heads w.slots) 0 k) z) in
          omega (arith, (read_ok s x.job x.is_read).some_cmds)

      at : (read_from o.steps (length b) o.state (0xFF ∷ []) ≡ refused_at 3 (length b)) ⊎ ((J : Job) × (read_from o.steps (length b) o.state (0xFF ∷ []) ≡ read J))
          → writing w c ≡ unsent_at 3 (length b)
      at (inl h) = judged_so _ h
      at (inr h) = absurd (no_job_lem _ (judged_so _ h.1))

-- a name's command field is no command where it is wider than a byte
pub wide_command : (w : JobTables) (i : ℕ) → i < most_declared → 65536 ≤ name_at w i → name_item w i ≡ fault 2
unfolding name_item
wide_command w i l h = own_is {numbers = name_numbers (name_at w i)} (no_command l (at (op_of (name_at w i / 256)) refl))
  where
    at : (o : Option Op) → op_of (name_at w i / 256) ≡ o → op_of (name_at w i / 256) ≡ none
    at none e = e
    at (some op) e = absurd (omega (arith, op_byte (name_at w i / 256) op e, byte_low op))

-- No field is cut

-- an entry that is written
data IsRow : Item → Type 0 where
  is_row : (r : Op × List ℕ) → IsRow (item r)

-- where a script has no fault, all entries are
clean_entry : (x : Item) → (x ≡ fault 0 → ⊥) → (l : List Item) → (script (x ∷ l)).fault ≡ 0 → IsRow x × ((script l).fault ≡ 0)
unfolding script
clean_entry (item r) p l e = (is_row r, e)
clean_entry (fault n) p l e = absurd (p (ap fault e))

clean_table : (f : ℕ → Item) → ((i : ℕ) → f i ≡ fault 0 → ⊥) → (i k : ℕ) (l : List Item) → (script (each f i k ++ l)).fault ≡ 0 → ((m : ℕ) → i ≤ m → m < i + k → IsRow (f m)) × ((script l).fault ≡ 0)
unfolding each
clean_table f p i zero l e = (λ m h k. absurd (omega arith), e)
clean_table f p i (suc k) l e =
    let z = clean_entry (f i) (p i) (each f (suc i) k ++ l) e in
    let y = clean_table f p (suc i) k l z.1 in
    (λ m a b. at m (eqb i m) refl z.0 (λ ne. y.0 m (omega arith) (omega arith)), y.1)
  where
    at : (m : ℕ) (t : Bool) → eqb i m ≡ t → IsRow (f i) → ((i ≡ m → ⊥) → IsRow (f m)) → IsRow (f m)
    at m true e r g = subst (λ (n : ℕ). IsRow (f n)) (eqb-true i m e) r
    at m false e r g = g (eqb-false i m e)

-- its fields fit
row_fits : {sec limit i b : ℕ} {numbers : Op → List ℕ} {x : Item} → Entry sec limit i b numbers x → IsRow x → (op : Op) → op_of b ≡ some op → fits (operands op) (numbers op) ≡ true
row_fits {sec = sec} {limit = limit} {i = i} {b = b} {numbers = numbers} (faulty {n = n} _) r op e = elim r [ ]
row_fits {numbers = numbers} (sound o h k f) r op e = subst (λ (o : Op). fits (operands o) (numbers o) ≡ true) (some-injective o op (sym h ∙ e)) f

-- what is sent has no fault
sent_clean : (w : JobTables) (c : Counts) (s : List ℕ) → writing w c ≡ sent s → (script (items w c)).fault ≡ 0
unfolding writing judged
sent_clean w c s e = at (script (items w c)).fault (reading (script (items w c)).bytes) e
  where
    no : {X : Type 0} {q : Refusal} → unsent q ≡ sent s → X
    no e = absurd (let z : ◌≡◌ {A = ℕ} 0 1 = cc in omega arith)

    by : (n : ℕ) (t : Bool) (p q : Refusal) → cond t (unsent p) (unsent q) ≡ sent s → suc n ≡ 0
    by n true p q e = no e
    by n false p q e = no e

    at : (n : ℕ) (r : Read) → judged n (script (items w c)).bytes r ≡ sent s → n ≡ 0
    at zero r e = refl
    at (suc n) (read J) e = no e
    at (suc n) (refused q) e = by n (ltb q.place (length (script (items w c)).bytes)) q _ e

-- the entries of what is sent
record SentRows (w : JobTables) (c : Counts) : Type 0 where
  names : (i : ℕ) → i < c.names → IsRow (name_item w i)
  types : (i : ℕ) → i < c.types → IsRow (type_item w i)
  values : (i : ℕ) → i < c.values → IsRow (value_item w i)
  cmds : (i : ℕ) → i < c.cmds → IsRow (cmd_item w i)

sent_rows : (w : JobTables) (c : Counts) (s : List ℕ) → writing w c ≡ sent s → SentRows w c
unfolding items
sent_rows w c s e =
    let n = clean_table (name_item w) (λ i. positive (name_entry_lem w i)) 0 c.names _ (sent_clean w c s e) in
    let t = clean_table (type_item w) (λ i. positive (type_entry_lem w i)) 0 c.types _ n.1 in
    let v = clean_table (value_item w) (λ i. positive (value_entry_lem w i)) 0 c.values _ t.1 in
    let r = clean_entry _ (positive (rights_entry_lem c)) _ v.1 in
    let k = clean_table (cmd_item w) (λ i. positive (cmd_entry w i)) 0 c.cmds _ r.1 in
    record {
      names = λ i l. n.0 i (omega arith) (omega arith);
      types = λ i l. t.0 i (omega arith) (omega arith);
      values = λ i l. v.0 i (omega arith) (omega arith);
      cmds = λ i l. k.0 i (omega arith) (omega arith);
    }

head_fits : {op : Op} {n : ℕ} → InHead op n → (x a b c d e : ℕ) → fits (operands op) (fields_of x (a ∷ b ∷ c ∷ d ∷ e ∷ []) op) ≡ true → x < 256 ^ n
unfolding fits operands fields_of
head_fits head_number x a b c d e h = ltb-true x 4294967296 (and_l _ _ h)
head_fits head_variable x a b c d e h = ltb-true x 256 (and_l _ _ h)
head_fits head_part x a b c d e h = ltb-true x 256 (and_l _ _ (and_r _ _ h))
head_fits head_function x a b c d e h = ltb-true x 256 (and_l _ _ h)
head_fits head_sum x a b c d e h = ltb-true x 256 (and_l _ _ h)
head_fits head_limit x a b c d e h = ltb-true x 256 (and_l _ _ h)
head_fits head_newkey x a b c d e h = omega (arith, ltb-true (x / 256) 256 (and_l _ _ (and_r _ _ h)))

-- so an expression that is sent has no more in its head than its operands
pub head_whole : (w : JobTables) (c : Counts) (s : List ℕ) → writing w c ≡ sent s → (i : ℕ) → i < c.cmds → {op : Op} {n : ℕ} → op_of (head_at w i % 256) ≡ some op → InHead op n
    → head_at w i / 256 < 256 ^ n
head_whole w c s e i l {op} o h = head_fits h _ _ _ _ _ _ (row_fits (cmd_entry w i) ((sent_rows w c s e).cmds i l) op o)

-- nor a host value more than its number
pub value_whole : (w : JobTables) (c : Counts) (s : List ℕ) → writing w c ≡ sent s → (i : ℕ) → i < c.values → value_at w i % 256 ≡ 0x20 → value_at w i / 16777216 < 256 ^ 4
unfolding fits operands op_of find_op commands
value_whole w c s e i l o = ltb-true _ _ (and_l _ _ (and_r _ _ (row_fits (value_entry_lem w i) ((sent_rows w c s e).values i l) o_value (ap op_of o))))

type_fits : {op : Op} {d s x n : ℕ} → InType d s op x n → fits (operands op) (type_numbers d s op) ≡ true → x < 256 ^ n
unfolding fits operands
type_fits second_of_pair h = ltb-true _ _ (and_l _ _ (and_r _ _ (and_r _ _ h)))
type_fits second_of_function h = ltb-true _ _ (and_l _ _ (and_r _ _ (and_r _ _ h)))
type_fits set_of_function h = ltb-true _ _ (and_l _ _ (and_r _ _ (and_r _ _ (and_r _ _ h))))
type_fits name_of_limit h = ltb-true _ _ (and_l _ _ (and_r _ _ h))
type_fits name_of_grant h = ltb-true _ _ (and_l _ _ (and_r _ _ h))

pub type_whole : (w : JobTables) (c : Counts) (s : List ℕ) → writing w c ≡ sent s → (i : ℕ) → i < c.types → {op : Op} {x n : ℕ} → op_of (type_at w i % 256) ≡ some op
    → InType (type_at w i) (set_at w i) op x n → x < 256 ^ n
type_whole w c s e i l {op} o h = type_fits h (row_fits (type_entry_lem w i) ((sent_rows w c s e).types i l) op o)
