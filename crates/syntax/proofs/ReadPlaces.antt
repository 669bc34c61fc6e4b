-- Where reading stops: the number and place of a refusal, and how long a job can be.
use Rattle.std.specs.Prelude.{◌≡◌, refl, ℕ, zero, suc, ◌+◌, ◌≤◌, ◌<◌, Bool, true, false, cond, List, [], ◌∷◌, ◌++◌, length, drop, eqb, ltb}
use Rattle.std.proofs.Common.{sym, ap, ap₂, ◌∙◌, subst, arith, length-append, length-drop, ltb-false, le-ltb, eqb-true}
use Rattle.std.proofs.Math.Path.{subst⁻¹}
use Rattle.std.proofs.Math.Option.{Option, none, some, none-ne-some, some-injective}
use Rattle.std.proofs.lemmas.List.{take-append-le, drop-append-le}
use Rattle.order.proofs.OrderLaws.{length_snoc}
use Rattle.syntax.specs.Commands.{Op, form, o_host, o_local, o_number, o_pair, o_cell, o_function, o_limit, o_grant, o_value, o_rights, o_end, commands, find_op, op_of, operands, total, width, section_of, fields}
use Rattle.syntax.specs.Commands.{x_number, x_top, x_variable, x_pair, x_part, x_function, x_apply, x_cell, x_assign, x_read, x_sum, x_test, x_limit, x_grant, x_newkey, x_associate, x_access, x_divide, x_spawn, little}
use Rattle.syntax.specs.Job.{Job}
use Rattle.syntax.specs.Reading.{Refusal, State, name_ok, type_ok, host_value_ok, rights_ok, cmd_ok, Written, written, given, enter, misplaced, full}
use Rattle.syntax.specs.Reading.{Step, refuse, proceed, finish, settle, command, Read, refused, read, refused_at, ended, onward, on_op, read_from, no_job, reading}
use Rattle.syntax.specs.ReadLaws.{Placed, Wrote, wrote_name, wrote_type, wrote_value, wrote_rights, wrote_cmd, wrote_end, wrote_none}
use Rattle.syntax.proofs.ReadLaws.{placed, wrote, read_ok}
use Rattle.syntax.specs.ReadPlaces.{Comes, ReadOn, Weighed, comes_read, comes_refused, weight, widest}

pub widest_few : (n : ℕ) → widest n ≤ 13
unfolding widest
widest_few zero = omega arith
widest_few (suc zero) = omega arith
widest_few (suc (suc zero)) = omega arith
widest_few (suc (suc (suc zero))) = omega arith
widest_few (suc (suc (suc (suc zero)))) = omega arith
widest_few (suc (suc (suc (suc (suc n))))) = omega arith

-- what holds of every form
record InBounds (op : Op) : Type 0 where
  narrow : width op ≤ widest (section_of op)
  low : (form op).byte < 256
  found : op_of (form op).byte ≡ some op

in_bounds : (op : Op) → InBounds op
unfolding width total operands section_of widest op_of find_op commands
in_bounds o_host = record { narrow = omega arith; low = omega arith; found = refl }
in_bounds o_local = record { narrow = omega arith; low = omega arith; found = refl }
in_bounds o_number = record { narrow = omega arith; low = omega arith; found = refl }
in_bounds o_pair = record { narrow = omega arith; low = omega arith; found = refl }
in_bounds o_cell = record { narrow = omega arith; low = omega arith; found = refl }
in_bounds o_function = record { narrow = omega arith; low = omega arith; found = refl }
in_bounds o_limit = record { narrow = omega arith; low = omega arith; found = refl }
in_bounds o_grant = record { narrow = omega arith; low = omega arith; found = refl }
in_bounds o_value = record { narrow = omega arith; low = omega arith; found = refl }
in_bounds o_rights = record { narrow = omega arith; low = omega arith; found = refl }
in_bounds x_number = record { narrow = omega arith; low = omega arith; found = refl }
in_bounds x_top = record { narrow = omega arith; low = omega arith; found = refl }
in_bounds x_variable = record { narrow = omega arith; low = omega arith; found = refl }
in_bounds x_pair = record { narrow = omega arith; low = omega arith; found = refl }
in_bounds x_part = record { narrow = omega arith; low = omega arith; found = refl }
in_bounds x_function = record { narrow = omega arith; low = omega arith; found = refl }
in_bounds x_apply = record { narrow = omega arith; low = omega arith; found = refl }
in_bounds x_cell = record { narrow = omega arith; low = omega arith; found = refl }
in_bounds x_assign = record { narrow = omega arith; low = omega arith; found = refl }
in_bounds x_read = record { narrow = omega arith; low = omega arith; found = refl }
in_bounds x_sum = record { narrow = omega arith; low = omega arith; found = refl }
in_bounds x_test = record { narrow = omega arith; low = omega arith; found = refl }
in_bounds x_limit = record { narrow = omega arith; low = omega arith; found = refl }
in_bounds x_grant = record { narrow = omega arith; low = omega arith; found = refl }
in_bounds x_newkey = record { narrow = omega arith; low = omega arith; found = refl }
in_bounds x_associate = record { narrow = omega arith; low = omega arith; found = refl }
in_bounds x_access = record { narrow = omega arith; low = omega arith; found = refl }
in_bounds x_divide = record { narrow = omega arith; low = omega arith; found = refl }
in_bounds x_spawn = record { narrow = omega arith; low = omega arith; found = refl }
in_bounds o_end = record { narrow = omega arith; low = omega arith; found = refl }

pub width_most : (op : Op) → width op ≤ widest (section_of op)
width_most op = (in_bounds op).narrow

pub byte_low : (op : Op) → (form op).byte < 256
byte_low op = (in_bounds op).low

-- every command is found by its byte
pub op_found : (op : Op) → op_of (form op).byte ≡ some op
op_found op = (in_bounds op).found

-- and a command that is found has that byte
found : (l : List Op) (b : ℕ) (op : Op) → find_op l b ≡ some op → b ≡ (form op).byte
unfolding find_op
found [] b op e = absurd (none-ne-some op e)
found (o ∷ l) b op e = at (eqb b (form o).byte) refl e (λ k. found l b op k)
  where
    at : (y : Bool) → eqb b (form o).byte ≡ y → cond y (some o) (find_op l b) ≡ some op → (find_op l b ≡ some op → b ≡ (form op).byte) → b ≡ (form op).byte
    at true q k g = eqb-true b (form o).byte q ∙ ap (λ (x : Op). (form x).byte) (some-injective o op k)
    at false q k g = g k

pub op_byte : (b : ℕ) (op : Op) → op_of b ≡ some op → b ≡ (form op).byte
unfolding op_of
op_byte b op e = found commands b op e

-- what one command at `pos` comes to; `w` bytes follow the command byte, and there are `n`
data Weighs (pos w n : ℕ) : Step → Type 0 where
  weighs_refuse : (r : ℕ) → 2 ≤ r → r ≤ 7 → Weighs pos w n (refuse r)
  weighs_proceed : (st : State) → w ≤ n → Weighed (pos + 1 + w) st.section st.job → Weighs pos w n (proceed st)
  weighs_finish : (J : Job) → pos ≤ weight J + 9 → Weighs pos w n (finish J)

weigh_settled : (pos w n sec : ℕ) (J : Job) → sec < 5 → w ≤ n → Weighed (pos + 1 + w) sec J → (b : Bool) → Weighs pos w n (settle sec (given b J))
unfolding settle given
weigh_settled pos w n sec J h l g false = weighs_refuse 6 (omega arith) (omega arith)
weigh_settled pos w n sec J h l g true = at (eqb sec 5) refl
  where
    at : (c : Bool) → eqb sec 5 ≡ c → Weighs pos w n (cond c (finish J) (proceed (record { section = sec; job = J })))
    at true e = absurd (omega (arith, eqb-true sec 5 e))
    at false e = weighs_proceed (record { section = sec; job = J }) l g

weigh_entered : (pos w n sec : ℕ) (x : Written) → Wrote sec x → (cur : ℕ) (J : Job) → Weighed pos cur J → Placed cur sec (length J.cmds) → w ≤ widest sec → w ≤ n
    → Weighs pos w n (settle sec (enter x J))
unfolding enter settle widest weight
weigh_entered pos w n sec x (wrote_name d) cur J g p h l =
    weigh_settled pos w n 0 _ (omega arith) l (record { early = λ z. omega (arith, length_snoc J.names d, g.early (omega (arith, p.after))); late = λ z. absurd (omega arith) }) (name_ok J.names d)
weigh_entered pos w n sec x (wrote_type t) cur J g p h l =
    weigh_settled pos w n 1 _ (omega arith) l (record { early = λ z. omega (arith, length_snoc J.types t, g.early (omega (arith, p.after))); late = λ z. absurd (omega arith) }) (type_ok J.names J.types t)
weigh_entered pos w n sec x (wrote_value v) cur J g p h l =
    weigh_settled pos w n 2 _ (omega arith) l (record { early = λ z. omega (arith, length_snoc J.values v, g.early (omega (arith, p.after))); late = λ z. absurd (omega arith) }) (host_value_ok J.names J.types v)
weigh_entered pos w n sec x (wrote_rights s) cur J g p h l =
    weigh_settled pos w n 3 _ (omega arith) l (record { early = λ z. absurd (omega arith); late = λ z. omega (arith, g.early (p.once refl)) }) (rights_ok J.names s)
weigh_entered pos w n sec x (wrote_cmd k) cur J g p h l =
    weigh_settled pos w n 4 _ (omega arith) l (record { early = λ z. absurd (omega arith); late = λ z. omega (arith, length_snoc J.cmds k, g.late (p.late (omega arith))) }) (cmd_ok J k)
weigh_entered pos w n sec x wrote_end cur J g p h l = weighs_finish J (g.late (p.late (omega arith)))
weigh_entered pos w n sec x (wrote_none m) cur J g p h l = weighs_refuse 6 (omega arith) (omega arith)

weigh_command : (pos : ℕ) (op : Op) (s : List ℕ) (st : State) → Weighed pos st.section st.job → Weighs pos (width op) (length s) (command op s st)
unfolding command
weigh_command pos op s st g = at (misplaced st (section_of op)) refl (ltb (length s) (width op)) refl (full st.job (section_of op))
  where
    at : (a : Bool) → misplaced st (section_of op) ≡ a → (b : Bool) → ltb (length s) (width op) ≡ b → (c : Bool)
        → Weighs pos (width op) (length s) (cond a (refuse 3) (cond b (refuse 4) (cond c (refuse 5) (settle (section_of op) (enter (written op (fields (operands op) s)) st.job)))))
    at true x b y c = weighs_refuse 3 (omega arith) (omega arith)
    at false x true y c = weighs_refuse 4 (omega arith) (omega arith)
    at false x false y true = weighs_refuse 5 (omega arith) (omega arith)
    at false x false y false =
        weigh_entered pos (width op) (length s) (section_of op) (written op (fields (operands op) s)) (wrote op (fields (operands op) s)) st.section st.job g (placed st (section_of op) x)
        (width_most op) (ltb-false (length s) (width op) y)

weigh_onward : (pos w : ℕ) (s : List ℕ) (t : Step) → Weighs pos w (length s) t → (next : State → Read)
    → ((st : State) → Weighed (pos + 1 + w) st.section st.job → Comes (pos + 1 + w + length (drop w s)) (next st)) → Comes (pos + suc (length s)) (onward t pos s next)
unfolding onward ended
weigh_onward pos w s t (weighs_refuse r h k) next f = comes_refused (record { number = r; place = pos }) h k (omega arith)
weigh_onward pos w s t (weighs_proceed st l g) next f = let z : pos + 1 + w + length (drop w s) ≡ pos + suc (length s) = omega (arith, length-drop w s) in subst (λ n. Comes n (next st)) z (f st g)
weigh_onward pos w [] t (weighs_finish J h) next f = comes_read J (omega arith)
weigh_onward pos w (b ∷ s) t (weighs_finish J h) next f = comes_refused (record { number = 7; place = suc pos }) (omega arith) (omega arith) (omega arith)

pub from_comes : (f pos : ℕ) (st : State) (s : List ℕ) → Weighed pos st.section st.job → Comes (pos + length s) (read_from f pos st s)
unfolding read_from on_op
from_comes zero pos st s g = comes_refused (record { number = 4; place = pos }) (omega arith) (omega arith) (omega arith)
from_comes (suc f) pos st [] g = comes_refused (record { number = 4; place = pos }) (omega arith) (omega arith) (omega arith)
from_comes (suc f) pos st (b ∷ s) g = at (op_of b) (λ op next h. from_comes f (pos + 1 + width op) next (drop (width op) s) h)
  where
    at : (o : Option Op)
        → ((op : Op) (next : State) → Weighed (pos + 1 + width op) next.section next.job → Comes (pos + 1 + width op + length (drop (width op) s)) (read_from f (pos + 1 + width op) next (drop (width op) s)))
        → Comes (pos + suc (length s)) (on_op o pos (λ op. onward (command op s st) pos s (λ next. read_from f (pos + 1 + width op) next (drop (width op) s))))
    at none k = comes_refused (record { number = 2; place = pos }) (omega arith) (omega arith) (omega arith)
    at (some op) k = weigh_onward pos (width op) s (command op s st) (weigh_command pos op s st g) (λ next. read_from f (pos + 1 + width op) next (drop (width op) s)) (λ next h. k op next h)

pub reading_comes : (s : List ℕ) → Comes (length s) (reading s)
unfolding reading weight
reading_comes s =
    let z : 0 + length s ≡ length s = omega arith in
    subst (λ n. Comes n (read_from (suc (length s)) 0 (record { section = 0; job = no_job }) s)) z
    (from_comes (suc (length s)) 0 (record { section = 0; job = no_job }) s (record { early = λ h. omega arith; late = λ h. omega arith }))

-- a refusal's number by reading is one of 2 to 7, and its place is in the input or right after it
pub refused_number : (s : List ℕ) (r : Refusal) → reading s ≡ refused r → (2 ≤ r.number) × (r.number ≤ 7)
refused_number s r e = at (reading_comes s) e
  where
    at : {x : Read} → Comes (length s) x → x ≡ refused r → (2 ≤ r.number) × (r.number ≤ 7)
    at (comes_refused q a b c) z = let h : q ≡ r = cc in subst (λ (y : Refusal). (2 ≤ y.number) × (y.number ≤ 7)) h (a, b)
    at (comes_read J a) z = absurd (let h : ◌≡◌ {A = ℕ} 0 1 = cc in omega arith)

pub refused_place : (s : List ℕ) (r : Refusal) → reading s ≡ refused r → r.place ≤ length s
refused_place s r e = at (reading_comes s) e
  where
    at : {x : Read} → Comes (length s) x → x ≡ refused r → r.place ≤ length s
    at (comes_refused q a b c) z = let h : q ≡ r = cc in subst (λ (y : Refusal). y.place ≤ length s) h c
    at (comes_read J a) z = absurd (let h : ◌≡◌ {A = ℕ} 0 1 = cc in omega arith)

-- an entry of each kind has so many bytes at most, the rights 9, the end 1
pub read_length : (s : List ℕ) (J : Job) → reading s ≡ read J → length s ≤ weight J + 10
read_length s J e = at (reading_comes s) e
  where
    at : {x : Read} → Comes (length s) x → x ≡ read J → length s ≤ weight J + 10
    at (comes_refused q a b c) z = absurd (let h : ◌≡◌ {A = ℕ} 0 1 = cc in omega arith)
    at (comes_read K a) z = let h : K ≡ J = cc in subst (λ j. length s ≤ weight j + 10) h a

-- "no job is longer than 10,310"
pub read_short : (s : List ℕ) (J : Job) → reading s ≡ read J → length s ≤ 10310
unfolding weight
read_short s J e = let j = read_ok s J e in omega (arith, read_length s J e, j.few_names, j.few_types, j.few_values, j.few_cmds)

-- Bytes that reading refuses for nothing but their end

fields_front : (ws s t : List ℕ) → total ws ≤ length s → fields ws (s ++ t) ≡ fields ws s
unfolding fields total
fields_front [] s t h = refl
fields_front (w ∷ ws) s t h =
    ap₂ (λ (x : ℕ) y. x ∷ y) (ap little (take-append-le w s t (omega arith)))
    (ap (fields ws) (drop-append-le w s t (omega arith)) ∙ fields_front ws (drop w s) t (omega (arith, length-drop w s)))

command_front : (op : Op) (s t : List ℕ) (st : State) → ltb (length s) (width op) ≡ false → command op (s ++ t) st ≡ command op s st
unfolding command width
command_front op s t st h =
    let l = ltb-false (length s) (width op) h in
    rw (fields_front (operands op) s t l, le-ltb (length (s ++ t)) (width op) (omega (arith, length-append s t)), h) refl

same_refused : {r q : Refusal} → refused r ≡ refused q → r ≡ q
same_refused e = cc

not_here : {X : Type 0} {n m pos end : ℕ} → pos < end → refused_at n pos ≡ refused_at m end → X
not_here l e = absurd (omega (arith, l, ap (λ (r : Refusal). r.place) (same_refused e)))

-- a command whose operands are not all there is refused
command_short : (op : Op) (s : List ℕ) (st : State) → ltb (length s) (width op) ≡ true → (n : ℕ) × (command op s st ≡ refuse n)
unfolding command
command_short op s st h = rw h (at (misplaced st (section_of op)))
  where
    at : (a : Bool) → (n : ℕ) × (cond a (refuse 3) (refuse 4) ≡ refuse n)
    at true = (3, refl)
    at false = (4, refl)

at_once : (g pos end : ℕ) (st : State) (t : List ℕ) → pos ≡ end → length t < g → ReadOn end t (read_from g pos st t)
at_once g pos end st t z l = record { steps = g; state = st; enough = l; is_on = ap (λ (p : ℕ). read_from g p st t) z }

from_on : (f g pos end : ℕ) (st : State) (s t : List ℕ) → end ≡ pos + length s → read_from f pos st s ≡ refused_at 4 end → length s + length t < g → ReadOn end t (read_from g pos st (s ++ t))
unfolding read_from on_op onward ended
from_on zero g pos end st [] t z e l = at_once g pos end st t (omega arith) (omega arith)
from_on zero g pos end st (b ∷ s) t z e l = not_here (omega arith) e
from_on (suc f) g pos end st [] t z e l = at_once g pos end st t (omega arith) (omega arith)
from_on (suc f) zero pos end st (b ∷ s) t z e l = absurd (omega arith)
from_on (suc f) (suc g) pos end st (b ∷ s) t z e l =
    of (op_of b) e
    (λ op next h k.
    subst⁻¹ (λ (r : List ℕ). ReadOn end t (read_from g (pos + 1 + width op) next r)) (drop-append-le (width op) s t h)
    (from_on f g (pos + 1 + width op) end next (drop (width op) s) t (omega (arith, h, length-drop (width op) s)) k (omega (arith, length-drop (width op) s))))
  where
    next_of : ℕ → List ℕ → Op → State → Read
    next_of n r op next = read_from n (pos + 1 + width op) next (drop (width op) r)

    over : {X : Type 0} (r : List ℕ) (K : Job) → ended (suc pos) r K ≡ refused_at 4 end → X
    over [] K e = absurd (let y : ◌≡◌ {A = ℕ} 0 1 = cc in omega arith)
    over (c ∷ r) K e = absurd (omega (arith, ap (λ (r : Refusal). r.number) (same_refused e)))

    on : (op : Op) (x : Step) → onward x pos s (next_of f s op) ≡ refused_at 4 end → ((next : State) → next_of f s op next ≡ refused_at 4 end → ReadOn end t (next_of g (s ++ t) op next))
        → ReadOn end t (onward x pos (s ++ t) (next_of g (s ++ t) op))
    on op (refuse n) e r = not_here (omega arith) e
    on op (finish K) e r = over s K e
    on op (proceed next) e r = r next e

    by : (op : Op) (a : Bool) → ltb (length s) (width op) ≡ a → onward (command op s st) pos s (next_of f s op) ≡ refused_at 4 end
        → ((next : State) → width op ≤ length s → next_of f s op next ≡ refused_at 4 end → ReadOn end t (next_of g (s ++ t) op next))
        → ReadOn end t (onward (command op (s ++ t) st) pos (s ++ t) (next_of g (s ++ t) op))
    by op true h e r = let c = command_short op s st h in not_here (omega arith) (ap (λ (x : Step). onward x pos s (next_of f s op)) (sym c.1) ∙ e)
    by op false h e r = let k = ltb-false (length s) (width op) h in rw (command_front op s t st h) (on op (command op s st) e (λ next. r next k))

    of : (o : Option Op) → on_op o pos (λ op. onward (command op s st) pos s (next_of f s op)) ≡ refused_at 4 end
        → ((op : Op) (next : State) → width op ≤ length s → next_of f s op next ≡ refused_at 4 end → ReadOn end t (next_of g (s ++ t) op next))
        → ReadOn end t (on_op o pos (λ op. onward (command op (s ++ t) st) pos (s ++ t) (next_of g (s ++ t) op)))
    of none e r = not_here (omega arith) e
    of (some op) e r = by op (ltb (length s) (width op)) refl e (r op)

pub read_on : (s t : List ℕ) → reading s ≡ refused_at 4 (length s) → ReadOn (length s) t (reading (s ++ t))
unfolding reading
read_on s t e = from_on (suc (length s)) (suc (length (s ++ t))) 0 (length s) (record { section = 0; job = no_job }) s t (omega arith) e (omega (arith, length-append s t))
