-- What is written is read as the job that the tables hold: entry by entry the one that the check and the machine read there. So nothing that is no job is ever sent.
-- With WrittenBack: reading and writing are inverse on jobs, and so reading is injective on them, as `read_once` of BytesBack says by itself.
use Rattle.std.specs.Prelude.{◌≡◌, refl, Bool, true, false, cond, length, get_or, ltb}
use Rattle.std.proofs.Common.{sym, ap, ◌∙◌, subst, ltb-false}
use Rattle.std.proofs.Math.Path.{ap₂, subst⁻¹}
use Prim.Native.Nat.{ℕ, zero, suc, ◌+◌, ◌*◌, ◌/◌, ◌%◌, ◌≤◌, ◌<◌}
use native.Mathlib.Omega.{arith}
use mathlib.Core.List.{List, [], ◌∷◌, ◌++◌, map, map-id, flat_map, append_assoc, append-nil}
use Rattle.std.proofs.Math.Option.{Option, none, some}
use Rattle.order.specs.Effects.{Effect, of_word, pure}
use Rattle.syntax.specs.Types.{TypeEntry}
use Rattle.syntax.specs.Commands.{Cmd, Op, o_rights, o_end, form, allowed, op_of, operands, width, section_of}
use Rattle.syntax.specs.Job.{Name, HostValue, Job}
use Rattle.syntax.specs.Reading.{Refusal, State, Written, w_name, w_type, w_value, w_rights, w_cmd, w_end, unwritten, means, written, given, enter}
use Rattle.syntax.specs.Reading.{name_ok, type_ok, host_value_ok, rights_ok, cmd_ok, Step, Read, refused, read, ended, onward, no_job, reading}
use Rattle.syntax.specs.Words.{name_of, value_in, entry_bits, entry_in, decode, decode_as, code_in}
use Rattle.syntax.specs.Loading.{JobTables, short}
use Rattle.syntax.specs.JobBytes.{command_bytes}
use Rattle.syntax.specs.RowsRead.{command_on, rows_bytes, rows_from, reading_rows}
use Rattle.syntax.proofs.ReadPlaces.{op_byte}
use Rattle.syntax.specs.Writing.{Counts, Item, item, fault, fits, item_of, name_at, type_at, set_at, value_at, head_at, place_at}
use Rattle.syntax.specs.Writing.{name_item, type_item, value_item, cmd_item, each, items, script, Sent, sent, unsent, unsent_at, judged, writing, fitting, write_with}
use Rattle.syntax.specs.ScriptLaws.{Entry, sound, faulty}
use Rattle.syntax.proofs.ScriptLaws.{name_op, type_op, value_op, rights_op, cmd_op, name_entry_lem, type_entry_lem, value_entry_lem, rights_entry_lem, cmd_entry, own_number, number_pos}
use Rattle.syntax.specs.ScriptLaws.{rows_in, StepOn, on_refuse, on_proceed, on_finish}
use Rattle.syntax.proofs.ScriptLaws.{closed, script_read, step_on}
use Rattle.syntax.specs.WrittenRead.{Held, SentRead}

-- a job with one entry more
unfoldable plus : Written → Job → Job
plus (w_name d) J = record { names = J.names ++ (d ∷ []); types = J.types; values = J.values; rights = J.rights; cmds = J.cmds }
plus (w_type e) J = record { names = J.names; types = J.types ++ (e ∷ []); values = J.values; rights = J.rights; cmds = J.cmds }
plus (w_value h) J = record { names = J.names; types = J.types; values = J.values ++ (h ∷ []); rights = J.rights; cmds = J.cmds }
plus (w_rights s) J = record { names = J.names; types = J.types; values = J.values; rights = s; cmds = J.cmds }
plus (w_cmd k) J = record { names = J.names; types = J.types; values = J.values; rights = J.rights; cmds = J.cmds ++ (k ∷ []) }
plus w_end J = J
plus unwritten J = J

unfoldable added : List Written → Job → Job
unfolding plus
added [] J = J
added (x ∷ l) J = added l (plus x J)

unfoldable meanings : List (Op × List ℕ) → List Written
meanings rs = map (λ (r : Op × List ℕ). means r.0 r.1) rs

no_job_lem : {X : Type 0} {J : Job} → ◌≡◌ {A = Option Job} none (some J) → X
no_job_lem e = absurd (let z : ◌≡◌ {A = ℕ} 0 1 = cc in omega arith)

no_read : {X : Type 0} {q : Refusal} {J : Job} → refused q ≡ read J → X
no_read e = absurd (let z : ◌≡◌ {A = ℕ} 0 1 = cc in omega arith)

given_is : (b : Bool) (K J : Job) → given b K ≡ some J → J ≡ K
unfolding given
given_is true K J e = cc
given_is false K J e = no_job_lem e

enter_plus : (x : Written) (J K : Job) → enter x J ≡ some K → K ≡ plus x J
unfolding enter plus
enter_plus (w_name d) J K e = given_is (name_ok J.names d) _ K e
enter_plus (w_type t) J K e = given_is (type_ok J.names J.types t) _ K e
enter_plus (w_value h) J K e = given_is (host_value_ok J.names J.types h) _ K e
enter_plus (w_rights s) J K e = given_is (rights_ok J.names s) _ K e
enter_plus (w_cmd k) J K e = given_is (cmd_ok J k) _ K e
enter_plus w_end J K e = cc
enter_plus unwritten J K e = no_job_lem e

-- what is entered is what the operands mean, since they are allowed
means_plus : (op : Op) (o : List ℕ) (J K : Job) → enter (written op o) J ≡ some K → K ≡ plus (means op o) J
unfolding written enter
means_plus op o J K e = at (allowed (form op).roles o) e
  where
    at : (b : Bool) → enter (cond b (means op o) unwritten) J ≡ some K → K ≡ plus (means op o) J
    at true e = enter_plus (means op o) J K e
    at false e = no_job_lem e

-- at the end no row is left
none_left : (pos : ℕ) (rs : List (Op × List ℕ)) (J K : Job) → ended pos (rows_bytes rs) K ≡ read J → (rs ≡ []) × (J ≡ K)
unfolding ended flat_map command_bytes
none_left pos [] J K e = (refl, cc)
none_left pos (r ∷ rs) J K e = no_read e

rows_added : (pos : ℕ) (st : State) (rs : List (Op × List ℕ)) (J : Job) → rows_from pos st rs ≡ read J → J ≡ added (meanings rs) st.job
unfolding rows_from onward added meanings
rows_added pos st [] J e = no_read e
rows_added pos st (r ∷ rs) J e = at (command_on r st) (step_on r st) e (λ next h. rows_added (pos + 1 + width r.0) next rs J h)
  where
    at : (t : Step) → StepOn r.0 r.1 st.job t → onward t pos (rows_bytes rs) (λ next. rows_from (pos + 1 + width r.0) next rs) ≡ read J
        → ((next : State) → rows_from (pos + 1 + width r.0) next rs ≡ read J → J ≡ added (meanings rs) next.job)
        → J ≡ added (meanings rs) (plus (means r.0 r.1) st.job)
    at t (on_refuse n) e f = no_read e
    at t (on_proceed K h k) e f = f (record { section = section_of r.0; job = K }) e ∙ ap (added (meanings rs)) (means_plus r.0 r.1 st.job K k)
    at t (on_finish K h k) e f =
        let z = none_left (suc pos) rs J K e in z.1 ∙ means_plus r.0 r.1 st.job K k ∙ ap (λ l. added (meanings l) (plus (means r.0 r.1) st.job)) (sym z.0)

-- entries of one kind
add_names_lem : (l : List Name) (m : List Written) (J : Job)
    → added (map w_name l ++ m) J ≡ added m (record { names = J.names ++ l; types = J.types; values = J.values; rights = J.rights; cmds = J.cmds })
unfolding added plus
add_names_lem [] m J = ap (λ l. added m (record { names = l; types = J.types; values = J.values; rights = J.rights; cmds = J.cmds })) (sym (append-nil J.names))
add_names_lem (d ∷ l) m J =
    add_names_lem l m (plus (w_name d) J) ∙ ap (λ l. added m (record { names = l; types = J.types; values = J.values; rights = J.rights; cmds = J.cmds })) (append_assoc J.names (d ∷ []) l)

add_types : (l : List TypeEntry) (m : List Written) (J : Job)
    → added (map w_type l ++ m) J ≡ added m (record { names = J.names; types = J.types ++ l; values = J.values; rights = J.rights; cmds = J.cmds })
unfolding added plus
add_types [] m J = ap (λ l. added m (record { names = J.names; types = l; values = J.values; rights = J.rights; cmds = J.cmds })) (sym (append-nil J.types))
add_types (d ∷ l) m J =
    add_types l m (plus (w_type d) J) ∙ ap (λ l. added m (record { names = J.names; types = l; values = J.values; rights = J.rights; cmds = J.cmds })) (append_assoc J.types (d ∷ []) l)

add_values_lem : (l : List (HostValue ℕ)) (m : List Written) (J : Job)
    → added (map w_value l ++ m) J ≡ added m (record { names = J.names; types = J.types; values = J.values ++ l; rights = J.rights; cmds = J.cmds })
unfolding added plus
add_values_lem [] m J = ap (λ l. added m (record { names = J.names; types = J.types; values = l; rights = J.rights; cmds = J.cmds })) (sym (append-nil J.values))
add_values_lem (d ∷ l) m J =
    add_values_lem l m (plus (w_value d) J) ∙ ap (λ l. added m (record { names = J.names; types = J.types; values = l; rights = J.rights; cmds = J.cmds })) (append_assoc J.values (d ∷ []) l)

add_cmds : (l : List (Cmd ℕ)) (m : List Written) (J : Job)
    → added (map w_cmd l ++ m) J ≡ added m (record { names = J.names; types = J.types; values = J.values; rights = J.rights; cmds = J.cmds ++ l })
unfolding added plus
add_cmds [] m J = ap (λ l. added m (record { names = J.names; types = J.types; values = J.values; rights = J.rights; cmds = l })) (sym (append-nil J.cmds))
add_cmds (d ∷ l) m J =
    add_cmds l m (plus (w_cmd d) J) ∙ ap (λ l. added m (record { names = J.names; types = J.types; values = J.values; rights = J.rights; cmds = l })) (append_assoc J.cmds (d ∷ []) l)

-- a whole job
whole : (N : List Name) (T : List TypeEntry) (H : List (HostValue ℕ)) (s : Effect) (K : List (Cmd ℕ))
    → added (map w_name N ++ (map w_type T ++ (map w_value H ++ (w_rights s ∷ (map w_cmd K ++ (w_end ∷ [])))))) no_job ≡ record { names = N; types = T; values = H; rights = s; cmds = K }
unfolding added plus
whole N T H s K =
    add_names_lem N (map w_type T ++ (map w_value H ++ (w_rights s ∷ (map w_cmd K ++ (w_end ∷ []))))) no_job
    ∙ add_types T (map w_value H ++ (w_rights s ∷ (map w_cmd K ++ (w_end ∷ [])))) (record { names = N; types = []; values = []; rights = pure; cmds = [] })
    ∙ add_values_lem H (w_rights s ∷ (map w_cmd K ++ (w_end ∷ []))) (record { names = N; types = T; values = []; rights = pure; cmds = [] })
    ∙ add_cmds K (w_end ∷ []) (record { names = N; types = T; values = H; rights = s; cmds = [] })

-- Tables with no fault

-- an item says an entry, by `wr`, and the table holds it, by `h`; or it is a fault
data Says {A B : Type 0} (wr : A → Written) (h : A → B) (held : B) : Item → Type 0 where
  says_item : {r : Op × List ℕ} (a : A) → means r.0 r.1 ≡ wr a → h a ≡ held → Says wr h held (item r)
  says_fault : (n : ℕ) → 0 < n → Says wr h held (fault n)

-- the entries that a table says, when the script has no fault
record Said {A B : Type 0} (wr : A → Written) (h : A → B) (held : List B) (l rest : List Item) : Type 0 where
  entries : List A
  are : map h entries ≡ held
  meant : meanings (rows_in l) ≡ map wr entries ++ meanings (rows_in rest)
  clean : (script rest).fault ≡ 0

said : {A B : Type 0} (wr : A → Written) (h : A → B) (f : ℕ → Item) (g : ℕ → B) → ((i : ℕ) → Says wr h (g i) (f i)) → (i k : ℕ) (rest : List Item)
    → (script (each f i k ++ rest)).fault ≡ 0 → Said wr h (each g i k) (each f i k ++ rest) rest
unfolding each script rows_in meanings
said wr h f g s i zero rest e = record { entries = []; are = refl; meant = refl; clean = e }
said {A} {B} wr h f g s i (suc k) rest e = at (f i) (s i) e (λ z. said wr h f g s (suc i) k rest z)
  where
    at : (x : Item) → Says wr h (g i) x → (script (x ∷ (each f (suc i) k ++ rest))).fault ≡ 0
        → ((script (each f (suc i) k ++ rest)).fault ≡ 0 → Said wr h (each g (suc i) k) (each f (suc i) k ++ rest) rest)
        → Said wr h (g i ∷ each g (suc i) k) (x ∷ (each f (suc i) k ++ rest)) rest
    at x (says_item a m q) e t =
        let u = t e in
        record { entries = a ∷ u.entries; are = ap₂ (λ (y : B) z. y ∷ z) q u.are; meant = ap₂ (λ (y : Written) z. y ∷ z) m u.meant; clean = u.clean }
    at x (says_fault n p) e t = absurd (omega arith)

says : {A B : Type 0} {wr : A → Written} {h : A → B} {held : B} {sec limit i b : ℕ} {numbers : Op → List ℕ} {x : Item} → Entry sec limit i b numbers x
    → ((op : Op) → op_of b ≡ some op → section_of op ≡ sec → fits (operands op) (numbers op) ≡ true → Says wr h held (item (op, numbers op))) → Says wr h held x
says (sound op h k e) f = f op h k e
says (faulty o) f = says_fault _ (number_pos (own_number o))

module _ (w : JobTables) where
  name_says : (i : ℕ) → Says w_name (λ d. d) (name_of (name_at w i)) (name_item w i)
  name_says i = says (name_entry_lem w i) (λ op h k f. says_item _ ((name_op op k).says (name_at w i) (op_byte _ op h)) refl)

  type_says : (i : ℕ) → Says w_type some (entry_in w.types w.sets i) (type_item w i)
  unfolding entry_in
  type_says i =
      says (type_entry_lem w i)
      (λ op h k f.
      let d : ℕ = type_at w i in
      let z = (type_op op k).says _ _ _ _ f in
      says_item z.0 z.1 (sym (ap (λ (n : ℕ). entry_bits n (d / 256 % 256) (d / 65536 % 65536) (d / 4294967296 % 65536) (set_at w i)) (op_byte _ op h) ∙ z.2)))

  value_says : (i : ℕ) → Says w_value (λ h. h) (value_in (value_at w i)) (value_item w i)
  value_says i = says (value_entry_lem w i) (λ op h k f. says_item _ ((value_op op k).says (value_at w i) f) refl)

  cmd_says : (i : ℕ) → Says w_cmd (λ k. k) (code_in w.heads w.slots i) (cmd_item w i)
  unfolding code_in decode
  cmd_says i = says (cmd_entry w i) (λ op h k f. says_item _ ((cmd_op op k).says _ _ _ _ _ _ f) (held op h))
    where
      held : (op : Op) → op_of (head_at w i % 256) ≡ some op
          → decode_as (some op) (head_at w i / 256 % 4294967296) (place_at w i 0 ∷ place_at w i 1 ∷ place_at w i 2 ∷ place_at w i 3 ∷ place_at w i 4 ∷ []) ≡ code_in w.heads w.slots i
      held op h =
          let z : i * 5 + 0 ≡ i * 5 = omega arith in
          ap₂
          (λ o (n : ℕ). decode_as o (head_at w i / 256 % 4294967296) (get_or w.slots n 0 ∷ place_at w i 1 ∷ place_at w i 2 ∷ place_at w i 3 ∷ place_at w i 4 ∷ []))
          (sym h) z

-- the rights
right_says : (c : Counts) → Says w_rights (λ s. s) (of_word c.rights) (item_of 3 (some o_rights) (λ op. c.rights ∷ []))
right_says c = says (rights_entry_lem c) (λ op h k f. says_item _ ((rights_op op k).says c.rights) refl)

-- Tables that are sent

-- a job of what five parts of a script say
parts_held : (w : JobTables) (c : Counts) {l types values rights cmds : List Item}
    → Said w_name (λ d. d) (each (λ i. name_of (name_at w i)) 0 c.names) l types
    → Said w_type some (each (entry_in w.types w.sets) 0 c.types) types values
    → Said w_value (λ h. h) (each (λ i. value_in (value_at w i)) 0 c.values) values rights
    → Said w_rights (λ s. s) (of_word c.rights ∷ []) rights cmds
    → Said w_cmd (λ k. k) (each (code_in w.heads w.slots) 0 c.cmds) cmds (item (o_end, []) ∷ [])
    → (J : Job) → J ≡ added (meanings (rows_in l)) no_job → Held w c J
unfolding meanings rows_in means
parts_held w c n t v s k J r =
    let one : s.entries ≡ of_word c.rights ∷ [] = sym (map-id s.entries) ∙ s.are in
    let all : J ≡ record { names = n.entries; types = t.entries; values = v.entries; rights = of_word c.rights; cmds = k.entries } =
    r ∙ ap (λ l. added l no_job)
    (n.meant ∙ ap (λ l. map w_name n.entries ++ l)
    (t.meant ∙ ap (λ l. map w_type t.entries ++ l)
    (v.meant ∙ ap (λ l. map w_value v.entries ++ l)
    (s.meant ∙ ap₂ (λ y z. map w_rights y ++ z) one k.meant))))
    ∙ whole n.entries t.entries v.entries (of_word c.rights) k.entries in
    subst⁻¹ (λ j. Held w c j) all
    (record { names = sym (map-id n.entries) ∙ n.are; types = t.are; values = sym (map-id v.entries) ∙ v.are; rights = refl; cmds = sym (map-id k.entries) ∙ k.are })

-- a job of what a script with no fault says
tables_held : (w : JobTables) (c : Counts) → (script (items w c)).fault ≡ 0 → (J : Job) → J ≡ added (meanings (rows_in (items w c))) no_job → Held w c J
unfolding items each
tables_held w c e =
    by (said w_name (λ d. d) (name_item w) (λ i. name_of (name_at w i)) (name_says w) 0 c.names _ e) (λ n.
    by (said w_type some (type_item w) (entry_in w.types w.sets) (type_says w) 0 c.types _ n.clean) (λ t.
    by (said w_value (λ h. h) (value_item w) (λ i. value_in (value_at w i)) (value_says w) 0 c.values _ t.clean) (λ v.
    by (said w_rights (λ s. s) (λ i. item_of 3 (some o_rights) (λ op. c.rights ∷ [])) (λ i. of_word c.rights) (λ i. right_says c) 0 1 _ v.clean) (λ s.
    parts_held w c n t v s (said w_cmd (λ k. k) (cmd_item w) (code_in w.heads w.slots) (cmd_says w) 0 c.cmds _ s.clean)))))
  where
    by : {X Y : Type 0} → X → (X → Y) → Y
    by x f = f x

-- Sending

no_sent : {X : Type 0} {q : Refusal} {s : List ℕ} → unsent q ≡ sent s → X
no_sent e = absurd (let z : ◌≡◌ {A = ℕ} 0 1 = cc in omega arith)

-- bytes t, after which the tables have fault n, are sent as s only if n is 0 and t is read
record Clean (s : List ℕ) (n : ℕ) (t : List ℕ) : Type 0 where
  same : t ≡ s
  no_fault : n ≡ 0
  job : Job
  is_read : reading t ≡ read job

judged_sent : (n : ℕ) (t s : List ℕ) → judged n t (reading t) ≡ sent s → Clean s n t
unfolding judged
judged_sent n t s e = at n (reading t) refl e
  where
    at : (n : ℕ) (r : Read) → reading t ≡ r → judged n t r ≡ sent s → Clean s n t
    at zero (read J) h e = record { same = cc; no_fault = refl; job = J; is_read = h }
    at zero (refused q) h e = no_sent e
    at (suc n) (read J) h e = no_sent e
    at (suc n) (refused q) h e = by (ltb q.place (length t)) e
      where
        by : (b : Bool) → cond b (unsent q) (unsent_at (suc n) (length t)) ≡ sent s → Clean s (suc n) t
        by true e = no_sent e
        by false e = no_sent e

-- tables that are sent are read back as the job that they hold
pub written_read : (w : JobTables) (c : Counts) (s : List ℕ) → writing w c ≡ sent s → SentRead w c s
unfolding writing reading_rows
written_read w c s e =
    let z = judged_sent (script (items w c)).fault (script (items w c)).bytes s e in
    record {
      job = z.job;
      is_read = ap reading (sym z.same) ∙ z.is_read;
      held = tables_held w c z.no_fault z.job (rows_added 0 _ (rows_in (items w c)) z.job (sym (script_read (closed w c)) ∙ z.is_read));
    }

-- and so it is with the buffer, where the bytes fit it
pub write_sent : (w : JobTables) (c : Counts) (n : ℕ) (s : List ℕ) → write_with w c n ≡ sent s → (writing w c ≡ sent s) × (length s ≤ n)
unfolding write_with fitting
write_sent w c n s e = at (short w) e
  where
    fit : (t : List ℕ) (b : Bool) → ltb n (length t) ≡ b → cond b (unsent_at 15 0) (sent t) ≡ sent s → (sent t ≡ sent s) × (length s ≤ n)
    fit t true h e = no_sent e
    fit t false h e = let z : t ≡ s = cc in (e, subst (λ l. length l ≤ n) z (ltb-false n (length t) h))

    of : (x : Sent) → fitting n x ≡ sent s → (x ≡ sent s) × (length s ≤ n)
    of (sent t) e = fit t (ltb n (length t)) refl e
    of (unsent q) e = no_sent e

    at : (b : Bool) → cond b (unsent_at 1 0) (fitting n (writing w c)) ≡ sent s → (writing w c ≡ sent s) × (length s ≤ n)
    at true e = no_sent e
    at false e = of (writing w c) e
