-- Why tables are not sent. A refusal is the one that reading gives for the bytes written, or the first entry at fault has it at the place of its command: 2 where there is no such command, which is
-- reading's refusal there too, and three that bytes cannot have, 3 for a command foreign to the table, 5 past the table's limit, 6 for a field too wide. Then 1 and 15 are the lent tables' and the
-- buffer's.
use Rattle.std.specs.Prelude.{◌≡◌, refl, ℕ, zero, suc, ◌+◌, ◌^◌, ◌≤◌, ◌<◌, Bool, true, false, cond, ◌⊎◌, length, ltb}
use Rattle.std.proofs.Common.{sym, ap, ◌∙◌, subst, arith, inl, inr, length-append, ltb-true, ltb-false, lt-ltb, le-ltb}
use Rattle.std.proofs.Math.Path.{subst⁻¹}
use mathlib.Core.List.{List, [], ◌∷◌, ◌++◌, flat_map, append-nil}
use Rattle.std.proofs.Math.Option.{none, some, none-ne-some, some-injective}
use Rattle.order.specs.Bools.{◌and◌, ◌or◌}
use Rattle.syntax.specs.Commands.{Op, o_rights, o_end, op_of, operands, width, section_of}
use Rattle.syntax.specs.Job.{Job}
use Rattle.syntax.specs.Reading.{Refusal, State, misplaced, full, enter, written, settle}
use Rattle.syntax.specs.Reading.{Step, refuse, finish, Read, refused, read, refused_at, ended, onward, on_op, read_from, reading}
use Rattle.syntax.specs.Loading.{JobTables, short}
use Rattle.syntax.specs.JobBytes.{operand_bytes, command_bytes}
use Rattle.syntax.specs.RowsRead.{command_on, rows_bytes, rows_from, reading_rows}
use Rattle.syntax.proofs.RowsRead.{all_length}
use Rattle.syntax.proofs.ReadPlaces.{op_found, read_on}
use Rattle.syntax.specs.Writing.{Counts, Item, item, fault, fits, item_of}
use Rattle.syntax.specs.Writing.{name_item, type_item, value_item, cmd_item, each, items, script, Sent, sent, unsent, unsent_at, judged, writing, fitting, write_with}
use Rattle.syntax.specs.ScriptLaws.{Own, no_command, foreign, past_limit, too_wide, Entry, sound, faulty, after_names, after_types, after_values}
use Rattle.syntax.specs.ScriptLaws.{Number, number_3, number_6}
use Rattle.syntax.proofs.ScriptLaws.{name_entry_lem, type_entry_lem, value_entry_lem, rights_entry_lem, cmd_entry, own_number, number_pos}
use Rattle.syntax.specs.ScriptLaws.{inner_item, inner_fault, Closed, closed_end, closed_more, rows_in, StepOn, on_refuse, on_proceed, on_finish}
use Rattle.syntax.proofs.ScriptLaws.{closed, script_read, step_on}
use Rattle.syntax.specs.WrittenRefusals.{AtFault, First, Found, Reason, Why, WriteWhy, as_read, by_fault, here, in_cmds, in_names, in_rights, in_types, in_values, later, not_sent, short_buffer, short_table}

first_bytes : {l b : List Item} {n : ℕ} → First l b n → (script l).bytes ≡ (script b).bytes
unfolding script
first_bytes (here {x} {l} e) = ap (λ z. (script (z ∷ l)).bytes) e
first_bytes (later {x} {l} {b} r e f) = ap (λ z. (script (z ∷ l)).bytes) e ∙ ap (λ s. command_bytes r ++ s) (first_bytes f) ∙ ap (λ z. (script (z ∷ b)).bytes) (sym e)

first_clean : {l b : List Item} {n : ℕ} → First l b n → (script b).fault ≡ 0
unfolding script
first_clean (here e) = refl
first_clean (later {x} {l} {b} r e f) = ap (λ z. (script (z ∷ b)).fault) e ∙ first_clean f

-- in a table from i on, or after it
data Located (f : ℕ → Item) (i k : ℕ) (rest : List Item) (n : ℕ) : Type 0 where
  located : (m : ℕ) → m < k → f (i + m) ≡ fault n → First (each f i k ++ rest) (each f i m) n → Located f i k rest n
  past : (script rest).fault ≡ n → ((b : List Item) → First rest b n → First (each f i k ++ rest) (each f i k ++ b) n) → Located f i k rest n

locate : (f : ℕ → Item) (i k : ℕ) (rest : List Item) (n : ℕ) → (script (each f i k ++ rest)).fault ≡ n → Located f i k rest n
unfolding each script
locate f i zero rest n e = past e (λ b z. z)
locate f i (suc k) rest n e = at (f i) refl e (λ h. locate f (suc i) k rest n h)
  where
    zero_on : i + 0 ≡ i
    zero_on = omega arith

    more : (r : Op × List ℕ) → f i ≡ item r → Located f (suc i) k rest n → Located f i (suc k) rest n
    more r h (located m l e z) = let q : i + suc m ≡ suc i + m = omega arith in located (suc m) (omega arith) (ap f q ∙ e) (later r h z)
    more r h (past e g) = past e (λ b z. later r h (g b z))

    at : (x : Item) → f i ≡ x → (script (x ∷ (each f (suc i) k ++ rest))).fault ≡ n → ((script (each f (suc i) k ++ rest)).fault ≡ n → Located f (suc i) k rest n) → Located f i (suc k) rest n
    at (fault m) h e g = let q : fault m ≡ fault n = ap fault e in located 0 (omega arith) (ap f zero_on ∙ h ∙ q) (here (h ∙ q))
    at (item r) h e g = more r h (g e)

own : {sec limit i b m : ℕ} {numbers : Op → List ℕ} {x : Item} → Entry sec limit i b numbers x → x ≡ fault m → Own sec limit i b numbers m
own (sound op h k f) e = absurd (let z : ◌≡◌ {A = ℕ} 0 1 = cc in omega arith)
own {sec} {limit} {i} {b} {m} {numbers} (faulty {n} o) e = let z : n ≡ m = cc in subst (λ (n : ℕ). Own sec limit i b numbers n) z o

-- the rights have no fault but to be too wide
wide_rights : {n r : ℕ} → Own 3 1 0 0x21 (λ op. r ∷ []) n → (n ≡ 6) × (256 ^ 8 ≤ r)
unfolding fits operands section_of ◌and◌
wide_rights (no_command l h) = absurd (none-ne-some o_rights (sym h ∙ op_found o_rights))
wide_rights (foreign l op h k) = absurd (k (ap section_of (sym (some-injective o_rights op (sym (op_found o_rights) ∙ h)))))
wide_rights (past_limit l) = absurd (omega arith)
wide_rights {n} {r} (too_wide l op h k f) =
    (refl, ltb-false r (256 ^ 8) (and_false (ltb r (256 ^ 8)) (subst (λ (o : Op). fits (operands o) (r ∷ []) ≡ false) (sym (some-injective o_rights op (sym (op_found o_rights) ∙ h))) f)))
  where
    and_false : (b : Bool) → (b and true) ≡ false → b ≡ false
    and_false true e = e
    and_false false e = refl

find : (w : JobTables) (c : Counts) (n : ℕ) → (script (items w c)).fault ≡ n → 0 < n → Found w c n
unfolding items each script
find w c n e p = in_1 (locate (name_item w) 0 c.names _ n e)
  where
    rights : ℕ → Item
    rights i = item_of 3 (some o_rights) (λ op. c.rights ∷ [])

    cmds : List Item
    cmds = each (cmd_item w) 0 c.cmds ++ (item (o_end, []) ∷ [])

    values : List Item
    values = each (value_item w) 0 c.values ++ (rights 0 ∷ cmds)

    types : List Item
    types = each (type_item w) 0 c.types ++ values

    on : (m : ℕ) → m ≡ 0 + m
    on m = omega arith

    in_5 : ((b : List Item) → First cmds b n → First (items w c) (after_values w c (rights 0 ∷ b)) n) → Located (cmd_item w) 0 c.cmds (item (o_end, []) ∷ []) n → Found w c n
    in_5 g (located m l e z) = record { before = _; field = _; entry = in_cmds m l (own (cmd_entry w m) (ap (cmd_item w) (on m) ∙ e)); first = g _ z }
    in_5 g (past e h) = absurd (omega arith)

    in_4 : ((b : List Item) → First (rights 0 ∷ cmds) b n → First (items w c) (after_values w c b) n) → Located rights 0 1 cmds n → Found w c n
    in_4 g (located zero l e z) =
        let o = wide_rights (own (rights_entry_lem c) e) in
        record {
          before = _;
          field = 0x21;
          entry = subst⁻¹ (λ (k : ℕ). AtFault w c (after_types w c (each (value_item w) 0 c.values)) 0x21 k) o.0 (in_rights o.1);
          first = subst (λ b. First (items w c) (after_types w c b) n) (append-nil (each (value_item w) 0 c.values)) (g [] z);
        }
    in_4 g (located (suc m) l e z) = absurd (omega arith)
    in_4 g (past e h) = in_5 (λ b z. g _ (h b z)) (locate (cmd_item w) 0 c.cmds _ n e)

    in_3 : ((b : List Item) → First values b n → First (items w c) (after_types w c b) n) → Located (value_item w) 0 c.values (rights 0 ∷ cmds) n → Found w c n
    in_3 g (located m l e z) = record { before = _; field = _; entry = in_values m l (own (value_entry_lem w m) (ap (value_item w) (on m) ∙ e)); first = g _ z }
    in_3 g (past e h) = in_4 (λ b z. g _ (h b z)) (locate rights 0 1 cmds n e)

    in_2 : ((b : List Item) → First types b n → First (items w c) (after_names w c b) n) → Located (type_item w) 0 c.types values n → Found w c n
    in_2 g (located m l e z) = record { before = _; field = _; entry = in_types m l (own (type_entry_lem w m) (ap (type_item w) (on m) ∙ e)); first = g _ z }
    in_2 g (past e h) = in_3 (λ b z. g _ (h b z)) (locate (value_item w) 0 c.values _ n e)

    in_1 : Located (name_item w) 0 c.names types n → Found w c n
    in_1 (located m l e z) = record { before = _; field = _; entry = in_names m l (own (name_entry_lem w m) (ap (name_item w) (on m) ∙ e)); first = z }
    in_1 (past e h) = in_2 h (locate (type_item w) 0 c.types _ n e)

-- Reading the bytes of a script

row_length : (r : Op × List ℕ) (s : List ℕ) → length (command_bytes r ++ s) ≡ 1 + width r.0 + length s
unfolding command_bytes width
row_length r s = omega (arith, length-append (operand_bytes (operands r.0) r.1) s, all_length (operands r.0) r.1)

-- what is no command
no_row : (f pos : ℕ) (st : State) (b : ℕ) (t : List ℕ) → op_of b ≡ none → 0 < f → read_from f pos st (b ∷ t) ≡ refused_at 2 pos
unfolding read_from on_op
no_row zero pos st b t e h = absurd (omega arith)
no_row (suc f) pos st b t e h = rw e refl

-- what reading a script with fault f, 0 for none, comes to; it ends at `end`
data Outcome (f end : ℕ) : Read → Type 0 where
  inside : {n p : ℕ} → Number n → p < end → Outcome f end (refused_at n p)
  at_fault : 0 < f → Outcome f end (refused_at 4 end)
  at_end_lem : f ≡ 0 → (J : Job) → Outcome f end (read J)

outcome : {l : List Item} → Closed l → (pos end : ℕ) (st : State) → end ≡ pos + length (script l).bytes → Outcome (script l).fault end (rows_from pos st (rows_in l))
unfolding rows_in rows_from script onward ended flat_map command_bytes operand_bytes operands section_of command_on full ◌and◌ ◌or◌ written settle enter
outcome closed_end pos end st q = at (misplaced st 5)
  where
    at : (b : Bool) → Outcome 0 end (onward (cond b (refuse 3) (finish st.job)) pos [] (λ next. rows_from (pos + 1 + width o_end) next []))
    at true = inside {p = pos} number_3 (omega arith)
    at false = at_end_lem refl st.job
outcome (closed_more {x} {l} (inner_fault {n} h) c) pos end st q = let z : pos ≡ end = omega arith in subst⁻¹ (λ (p : ℕ). Outcome n end (refused_at 4 p)) z (at_fault (number_pos h))
outcome (closed_more {x} {l} (inner_item {r} h k) c) pos end st q =
    at (command_on r st) (step_on r st) (λ next. outcome c (pos + 1 + width r.0) end next (omega (arith, row_length r (script l).bytes)))
  where
    at : (t : Step) → StepOn r.0 r.1 st.job t → ((next : State) → Outcome (script l).fault end (rows_from (pos + 1 + width r.0) next (rows_in l)))
        → Outcome (script l).fault end (onward t pos (rows_bytes (rows_in l)) (λ next. rows_from (pos + 1 + width r.0) next (rows_in l)))
    at t (on_refuse n) g = inside {p = pos} n (omega (arith, row_length r (script l).bytes))
    at t (on_proceed K i j) g = g (record { section = section_of r.0; job = K })
    at t (on_finish K i j) g = absurd (omega arith)

-- Reasons

-- a fault has one of the numbers; 2 is that there is no command
fault_number : {w : JobTables} {c : Counts} {l : List Item} {b n : ℕ} → AtFault w c l b n → Number n
fault_number (in_names i h o) = own_number o
fault_number (in_types i h o) = own_number o
fault_number (in_values i h o) = own_number o
fault_number (in_rights h) = number_6
fault_number (in_cmds i h o) = own_number o

own_two : {sec limit i b n : ℕ} {numbers : Op → List ℕ} → Own sec limit i b numbers n → n ≡ 2 → op_of b ≡ none
own_two (no_command l h) e = h
own_two (foreign l op h k) e = absurd (omega arith)
own_two (past_limit l) e = absurd (omega arith)
own_two (too_wide l op h k f) e = absurd (omega arith)

fault_two : {w : JobTables} {c : Counts} {l : List Item} {b n : ℕ} → AtFault w c l b n → n ≡ 2 → op_of b ≡ none
fault_two (in_names i h o) e = own_two o e
fault_two (in_types i h o) e = own_two o e
fault_two (in_values i h o) e = own_two o e
fault_two (in_rights h) e = absurd (omega arith)
fault_two (in_cmds i h o) e = own_two o e

no_unsent : {X : Type 0} {q : Refusal} {s : List ℕ} → sent s ≡ unsent q → X
no_unsent e = absurd (let z : ◌≡◌ {A = ℕ} 0 1 = cc in omega arith)

same_refusal : {p q : Refusal} → unsent p ≡ unsent q → p ≡ q
same_refusal e = cc

-- the bytes of the entries before the first fault
abbrev bytes_in : JobTables → Counts → List ℕ
bytes_in w c = (script (items w c)).bytes

-- by reading
read_reason : (w : JobTables) (c : Counts) (q p : Refusal) → Number p.number → p.place < length (bytes_in w c) → reading (bytes_in w c) ≡ refused p → unsent p ≡ unsent q → Reason w c q
read_reason w c q p n l h e = subst (λ x. Reason w c x) (same_refusal e) (record { why = as_read h l; number = n })

-- by the first fault
fault_reason : (w : JobTables) (c : Counts) (n : ℕ) → Found w c n → reading (bytes_in w c) ≡ refused_at 4 (length (bytes_in w c)) → Reason w c (record { number = n; place = length (bytes_in w c) })
fault_reason w c n x k =
    let z : bytes_in w c ≡ (script x.before).bytes = first_bytes x.first in
    record {
      why =
          by_fault x.before x.field x.entry (first_clean x.first) (ap length z) (ap reading (sym z) ∙ k)
          (λ e t.
          let o = read_on (bytes_in w c) (x.field ∷ t) k in
          ap (λ l. reading (l ++ (x.field ∷ t))) (sym z) ∙ o.is_on ∙ no_row o.steps (length (bytes_in w c)) o.state x.field t (fault_two x.entry e) (omega (arith, o.enough))
          ∙ ap (λ (m : ℕ). refused_at m (length (bytes_in w c))) (sym e));
      number = fault_number x.entry;
    }

-- by what reading the bytes comes to
judged_reason : (w : JobTables) (c : Counts) (q : Refusal) (n : ℕ) → (script (items w c)).fault ≡ n → (r : Read) → reading (bytes_in w c) ≡ r
    → Outcome (script (items w c)).fault (length (bytes_in w c)) r → judged n (bytes_in w c) r ≡ unsent q → Reason w c q
unfolding judged
judged_reason w c q zero f r k (inside m l) e = read_reason w c q _ m l k e
judged_reason w c q zero f r k (at_fault g) e = absurd (omega arith)
judged_reason w c q zero f r k (at_end_lem g K) e = no_unsent e
judged_reason w c q (suc m) f r k (inside {n} {p} x l) e =
    read_reason w c q _ x l k (ap (λ b. cond b (unsent_at n p) (unsent_at (suc m) (length (bytes_in w c)))) (sym (lt-ltb p (length (bytes_in w c)) l)) ∙ e)
judged_reason w c q (suc m) f r k (at_fault g) e =
    let n : ℕ = length (bytes_in w c) in
    let y : unsent_at (suc m) n ≡ unsent q = ap (λ b. cond b (unsent_at 4 n) (unsent_at (suc m) n)) (sym (le-ltb n n (omega arith))) ∙ e in
    subst (λ x. Reason w c x) (same_refusal y) (fault_reason w c (suc m) (find w c (suc m) f (omega arith)) k)
judged_reason w c q (suc m) f r k (at_end_lem g K) e = absurd (omega arith)

reason : (w : JobTables) (c : Counts) (q : Refusal) → writing w c ≡ unsent q → Reason w c q
unfolding writing reading_rows
reason w c q e =
    judged_reason w c q (script (items w c)).fault refl (reading (bytes_in w c)) refl
    (subst⁻¹ (λ r. Outcome (script (items w c)).fault (length (bytes_in w c)) r) (script_read (closed w c)) (outcome (closed w c) 0 (length (bytes_in w c)) _ (omega arith))) e

pub refused_why : (w : JobTables) (c : Counts) (q : Refusal) → writing w c ≡ unsent q → Why w c q
refused_why w c q e = (reason w c q e).why

-- so the number is 2, 3, 5 or 6, and never 4 or 7
pub unsent_number : (w : JobTables) (c : Counts) (q : Refusal) → writing w c ≡ unsent q → Number q.number
unsent_number w c q e = (reason w c q e).number

-- With the buffer, of n bytes

pub write_why : (w : JobTables) (c : Counts) (n : ℕ) (q : Refusal) → write_with w c n ≡ unsent q → WriteWhy w c n q
unfolding write_with fitting
write_why w c n q e = at (short w) refl e
  where
    fit : short w ≡ false → (s : List ℕ) → writing w c ≡ sent s → (b : Bool) → ltb n (length s) ≡ b → cond b (unsent_at 15 0) (sent s) ≡ unsent q → WriteWhy w c n q
    fit h s k true l e = short_buffer s h k (ltb-true n (length s) l) (sym (same_refusal e))
    fit h s k false l e = no_unsent e

    of : short w ≡ false → (x : Sent) → writing w c ≡ x → fitting n x ≡ unsent q → WriteWhy w c n q
    of h (sent s) k e = fit h s k (ltb n (length s)) refl e
    of h (unsent p) k e = not_sent h (k ∙ e)

    at : (b : Bool) → short w ≡ b → cond b (unsent_at 1 0) (fitting n (writing w c)) ≡ unsent q → WriteWhy w c n q
    at true h e = short_table h (sym (same_refusal e))
    at false h e = of h (writing w c) refl e

-- so the number is 1, 2, 3, 5, 6 or 15
pub write_number : (w : JobTables) (c : Counts) (n : ℕ) (q : Refusal) → write_with w c n ≡ unsent q → (q.number ≡ 1) ⊎ Number q.number ⊎ (q.number ≡ 15)
write_number w c n q e = at (write_why w c n q e)
  where
    at : WriteWhy w c n q → (q.number ≡ 1) ⊎ Number q.number ⊎ (q.number ≡ 15)
    at (short_table h k) = inl (ap (λ (p : Refusal). p.number) k)
    at (not_sent h k) = inr (inl (unsent_number w c q k))
    at (short_buffer s h k l z) = inr (inr (ap (λ (p : Refusal). p.number) z))
