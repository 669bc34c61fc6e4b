-- One step of the machine, as data first (`Plan`): the keys that it touches, whether there is room, and the machine after it. A plan is then tried once for all steps
-- (`settle`). The expressions are given with type operands of any form: the machine "never looks at types".
use Rattle.std.specs.Prelude.{ℕ, zero, suc, ◌+◌, ◌-◌, ◌/◌, ◌%◌, min, Bool, true, false, cond, List, [], ◌∷◌, ◌++◌, length, set, eqb, ltb}
use Rattle.std.proofs.Math.Option.{Option, none, some}
use Rattle.std.proofs.Math.ListN.{get_elem?}
use Rattle.order.specs.Bools.{◌and◌}
use Rattle.syntax.specs.Operands.{evaluated}
use Rattle.syntax.specs.Commands.{Cmd, c_num, c_top, c_var, c_pair, c_part, c_fn, c_app, c_new, c_asg, c_read, c_sum, c_test, c_lim, c_grant, c_newkey, c_assoc, c_access, c_divide, c_spawn}
use Rattle.semantics.specs.Machine.{Kind, k_num, k_pair, k_fn, k_cell, k_lim, k_grant, Value, unkeyed, Two, Bind, b_var, b_name, Link, Closure, KeySet, Frame, Control, enter, hand, Thread, Machine}
use Rattle.semantics.specs.Machine.{most_number, most_cells, most_keys, most_pairs, most_functions, most_frames, most_bindings, most_threads}
use Rattle.semantics.specs.Keys.{enabled, narrow, add}

-- what a step comes to: the machine after it, or why it is not taken
pub data Out : Type 0 where
  o_step : Machine → Out
  o_done o_room o_stuck o_denied : Out

-- the machine with a new control
abbrev pub handing : Value → Machine → Machine
handing v m = record { thread = record { control = hand v; env = m.thread.env; on = m.thread.on; frames = m.thread.frames }; store = m.store; threads = m.threads }

abbrev pub entering : ℕ → ℕ → KeySet → Machine → Machine
entering e env on m = record { thread = record { control = enter e; env = env; on = on; frames = m.thread.frames }; store = m.store; threads = m.threads }

-- the parts of the store that a step changes
abbrev pub with_cells : Machine → List Value → Machine
with_cells m x = record { thread = m.thread; store = record { cells = x; keys = m.store.keys; pairs = m.store.pairs; functions = m.store.functions; bindings = m.store.bindings }; threads = m.threads }

abbrev pub with_keys : Machine → List ℕ → Machine
with_keys m x = record { thread = m.thread; store = record { cells = m.store.cells; keys = x; pairs = m.store.pairs; functions = m.store.functions; bindings = m.store.bindings }; threads = m.threads }

abbrev pub with_pairs : Machine → List Two → Machine
with_pairs m x = record { thread = m.thread; store = record { cells = m.store.cells; keys = m.store.keys; pairs = x; functions = m.store.functions; bindings = m.store.bindings }; threads = m.threads }

abbrev pub with_functions : Machine → List Closure → Machine
with_functions m x = record { thread = m.thread; store = record { cells = m.store.cells; keys = m.store.keys; pairs = m.store.pairs; functions = x; bindings = m.store.bindings }; threads = m.threads }

abbrev pub with_bindings : Machine → List Link → Machine
with_bindings m x = record { thread = m.thread; store = record { cells = m.store.cells; keys = m.store.keys; pairs = m.store.pairs; functions = m.store.functions; bindings = x }; threads = m.threads }

abbrev pub with_frames : Machine → List Frame → Machine
with_frames m x = record { thread = record { control = m.thread.control; env = m.thread.env; on = m.thread.on; frames = x }; store = m.store; threads = m.threads }

abbrev pub with_threads : Machine → List Thread → Machine
with_threads m x = record { thread = m.thread; store = m.store; threads = x }

-- a step before its keys and its room are tested
pub data Plan : Type 0 where
  -- the machine is finished
  p_done : Plan
  -- a kind is wrong, or an entry is not there
  p_wrong : Plan
  -- the keys touched, in order; whether the places that it needs are there; the machine that acts, its frame popped; the machine after the step
  p_try : List ℕ → Bool → Machine → Machine → Plan

-- the tests of a step: kinds (which the plan has), then keys, then room
unfoldable pub room : Bool → Out → Out
room true o = o
room false o = o_room

-- "touch" is document 01's own term: an act uses a value, and so its key must be enabled
unfoldable pub touch : ℕ → Machine → Out → Out
touch k m o = cond (enabled m.store.keys m.thread.on k) o o_denied

unfoldable pub touch_all : List ℕ → Machine → Out → Out
touch_all [] m o = o
touch_all (k ∷ ks) m o = touch k m (touch_all ks m o)

unfoldable pub settle : Plan → Out
settle p_done = o_done
settle p_wrong = o_stuck
settle (p_try ks free m n) = touch_all ks m (room free (o_step n))

-- a plan that needs no place: a value is handed on; an expression is entered, with the bindings in force
abbrev pub gives : List ℕ → Value → Machine → Plan
gives ks v m = p_try ks true m (handing v m)

abbrev pub enters : List ℕ → ℕ → KeySet → Machine → Plan
enters ks e on m = p_try ks true m (entering e m.thread.env on m)

-- by kind: number, pair, function, cell, limit key, grant key. What acts want is read by another list (`Wants`): with one reader for both a wrong edit of it would pass.
abbrev pub on_kind : {A : Type 0} → Kind → (ℕ → A) → (ℕ → A) → (ℕ → A) → (ℕ → A) → (ℕ → A) → (ℕ → A) → A
on_kind (k_num n) a b c d e f = a n
on_kind (k_pair n) a b c d e f = b n
on_kind (k_fn n) a b c d e f = c n
on_kind (k_cell n) a b c d e f = d n
on_kind (k_lim n) a b c d e f = e n
on_kind (k_grant n) a b c d e f = f n

abbrev pub other : ℕ → Option ℕ
other n = none

-- a value of the kind wanted, taken apart
unfoldable pub as_num : Kind → Option ℕ
as_num k = on_kind k some other other other other other

unfoldable pub as_pair : Kind → Option ℕ
as_pair k = on_kind k other some other other other other

unfoldable pub as_fn : Kind → Option ℕ
as_fn k = on_kind k other other some other other other

unfoldable pub as_cell : Kind → Option ℕ
as_cell k = on_kind k other other other some other other

unfoldable pub as_lim : Kind → Option ℕ
as_lim k = on_kind k other other other other some other

unfoldable pub as_grant : Kind → Option ℕ
as_grant k = on_kind k other other other other other some

-- what is wanted, or the plan is wrong
unfoldable pub found : {A : Type 0} → Option A → (A → Plan) → Plan
found none f = p_wrong
found (some a) f = f a

-- no value in hand, one, or two
unfoldable pub bare : List Value → Plan → Plan
bare [] p = p
bare (v ∷ l) p = p_wrong

unfoldable pub one : List Value → (Value → Plan) → Plan
one [] f = p_wrong
one (v ∷ []) f = f v
one (v ∷ w ∷ l) f = p_wrong

unfoldable pub two : List Value → (Value → Value → Plan) → Plan
two [] f = p_wrong
two (v ∷ []) f = p_wrong
two (v ∷ w ∷ []) f = f v w
two (v ∷ w ∷ x ∷ l) f = p_wrong

-- the newest binding of variable x from number e on; at most so many are looked at
unfoldable pub seek_in : Bind → ℕ → Option Value → Option Value
seek_in (b_var y v) x rest = cond (eqb x y) (some v) rest
seek_in (b_name r k) x rest = rest

unfoldable pub seek_at : Option Link → ℕ → (ℕ → Option Value) → Option Value
seek_at none x k = none
seek_at (some l) x k = seek_in l.bind x (k l.next)

unfoldable pub seek : ℕ → List Link → ℕ → ℕ → Option Value
seek zero B e x = none
seek (suc f) B zero x = none
seek (suc f) B (suc i) x = seek_at (get_elem? B i) x (λ p. seek f B p x)

-- 0x32
unfoldable pub variable : ℕ → Machine → Plan
variable x m = found (seek most_bindings m.store.bindings m.thread.env x) (λ v. gives [] v m)

-- a plan that needs one place: an unkeyed pair of two values is made and handed on
abbrev pub makes_pair : List ℕ → Value → Value → Machine → Plan
makes_pair ks v w m =
    p_try ks (ltb (length m.store.pairs) most_pairs) m
    (handing (unkeyed (k_pair (length m.store.pairs))) (with_pairs m (m.store.pairs ++ (record { one = v; two = w } ∷ []))))

-- 0x33
unfoldable pub act_pair : Value → Value → Machine → Plan
act_pair v w m = makes_pair [] v w m

-- 0x34
unfoldable pub part_of : Bool → Two → Value
part_of true t = t.one
part_of false t = t.two

unfoldable pub act_part : Bool → Value → Machine → Plan
act_part i v m = found (as_pair v.kind) (λ p. found (get_elem? m.store.pairs p) (λ t. gives (v.key ∷ []) (part_of i t) m))

-- 0x35: "a function keeps its bindings"
unfoldable pub act_fn : ℕ → ℕ → Machine → Plan
act_fn x b m =
    p_try [] (ltb (length m.store.functions) most_functions) m
    (handing (unkeyed (k_fn (length m.store.functions))) (with_functions m (m.store.functions ++ (record { var = x; body = b; env = m.thread.env } ∷ []))))

-- 0x36: "a call uses the caller's enabled keys"
unfoldable pub act_app : Value → Value → Machine → Plan
act_app v w m =
    found (as_fn v.kind) (λ f. found (get_elem? m.store.functions f) (λ c.
    p_try (v.key ∷ []) (ltb (length m.store.bindings) most_bindings) m
    (entering c.body (suc (length m.store.bindings)) m.thread.on (with_bindings m (m.store.bindings ++ (record { bind = b_var c.var w; next = c.env } ∷ []))))))

-- 0x37
unfoldable pub act_new : Value → Machine → Plan
act_new v m = p_try [] (ltb (length m.store.cells) most_cells) m (handing (unkeyed (k_cell (length m.store.cells))) (with_cells m (m.store.cells ++ (v ∷ []))))

-- 0x38 "hands on the assigned value"
unfoldable pub act_asg : Value → Value → Machine → Plan
act_asg v w m = found (as_cell v.kind) (λ c. found (get_elem? m.store.cells c) (λ old. p_try (v.key ∷ []) true m (handing w (with_cells m (set m.store.cells c w)))))

-- 0x39
unfoldable pub act_read : Value → Machine → Plan
act_read v m = found (as_cell v.kind) (λ c. found (get_elem? m.store.cells c) (λ w. gives (v.key ∷ []) w m))

-- 0x3A: "a difference below zero is 0 and a sum above 4294967295 is 4294967295"; a - b is 0 where b is above a
unfoldable pub sum_n : Bool → ℕ → ℕ → ℕ
sum_n true a b = min (a + b) most_number
sum_n false a b = a - b

unfoldable pub act_sum : Bool → Value → Value → Machine → Plan
act_sum i v w m = found (as_num v.kind) (λ a. found (as_num w.kind) (λ b. gives (v.key ∷ w.key ∷ []) (unkeyed (k_num (sum_n i a b))) m))

-- 0x3B: "branch if not zero, branch if zero"
unfoldable pub branch : ℕ → ℕ → ℕ → ℕ
branch zero b c = c
branch (suc n) b c = b

unfoldable pub act_test : ℕ → ℕ → Value → Machine → Plan
act_test b c v m = found (as_num v.kind) (λ n. enters (v.key ∷ []) (branch n b c) m.thread.on m)

-- 0x3C: the keys that the values stand for
unfoldable pub limit_keys : List Value → (List ℕ → Plan) → Plan
limit_keys [] f = f []
limit_keys (v ∷ vs) f = found (as_lim v.kind) (λ j. limit_keys vs (λ js. f (j ∷ js)))

unfoldable pub keys_of : List Value → List ℕ
keys_of [] = []
keys_of (v ∷ vs) = v.key ∷ keys_of vs

unfoldable pub act_lim : ℕ → List Value → Machine → Plan
act_lim b vs m = limit_keys vs (λ js. enters (keys_of vs) b (narrow m.store.keys m.thread.on js) m)

-- 0x3D: "grant adds its key"
unfoldable pub act_grant : ℕ → Value → Machine → Plan
act_grant b v m = found (as_grant v.kind) (λ j. enters (v.key ∷ []) b (add m.store.keys j m.thread.on) m)

-- 0x3E: its "new key lies below the one its operand stands for" (j); it "also makes a pair and a key"; its name and its variable are bound
unfoldable pub make_key : List ℕ → ℕ → ℕ → ℕ → ℕ → Machine → Plan
make_key ks x r b j m =
    let k = length m.store.keys in
    let p = length m.store.pairs in
    let n = length m.store.bindings in
    p_try ks (ltb k most_keys and ltb p most_pairs and ltb (suc n) most_bindings) m
    (entering b (suc (suc n)) m.thread.on
    (with_bindings
    (with_pairs (with_keys m (m.store.keys ++ (j ∷ []))) (m.store.pairs ++ (record { one = unkeyed (k_lim k); two = unkeyed (k_grant k) } ∷ [])))
    (m.store.bindings ++ (record { bind = b_name r k; next = m.thread.env } ∷ record { bind = b_var x (unkeyed (k_pair p)); next = suc n } ∷ []))))

unfoldable pub act_newkey : ℕ → ℕ → ℕ → Value → Machine → Plan
act_newkey x r b v m = found (as_lim v.kind) (λ j. make_key (v.key ∷ []) x r b j m)

-- 0x3F "puts the one its limit key stands for in place of the value's own"
unfoldable pub act_assoc : Value → Value → Machine → Plan
act_assoc v w m = found (as_lim w.kind) (λ j. gives (v.key ∷ w.key ∷ []) (record { key = j; kind = v.kind }) m)

-- 0x40: "branch if that key is enabled, branch if not", with the enabled keys as they are
unfoldable pub act_access : ℕ → ℕ → Value → Machine → Plan
act_access b c v m = found (as_lim v.kind) (λ j. enters (v.key ∷ []) (cond (enabled m.store.keys m.thread.on j) b c) m.thread.on m)

-- 0x41: "divides the first number by the second"; "A divisor of 0 gives 0 and the dividend."
unfoldable pub quotient : ℕ → ℕ → ℕ
quotient a zero = 0
quotient a (suc b) = a / suc b

unfoldable pub remainder : ℕ → ℕ → ℕ
remainder a zero = a
remainder a (suc b) = a % suc b

unfoldable pub act_divide : Value → Value → Machine → Plan
act_divide v w m =
    found (as_num v.kind) (λ a. found (as_num w.kind) (λ b.
    makes_pair (v.key ∷ w.key ∷ []) (unkeyed (k_num (quotient a b))) (unkeyed (k_num (remainder a b))) m))

-- 0x42: "The new thread has the bindings in force and no enabled keys." It has no frame, and enters the body (b) first.
abbrev pub fresh : ℕ → ℕ → Thread
fresh b env = record { control = enter b; env = env; on = 0; frames = [] }

-- "Entering it starts the thread and hands on that 0 in one step, without a frame."
unfoldable pub act_spawn : ℕ → Machine → Plan
act_spawn b m = p_try [] (ltb (length m.threads) most_threads) m (handing (unkeyed (k_num 0)) (with_threads m (m.threads ++ (fresh b m.thread.env ∷ []))))

-- "pushes one frame and enters the first operand"
unfoldable pub push : ℕ → ℕ → Machine → Plan
push e a m =
    p_try [] (ltb (length m.thread.frames) most_frames) m
    (entering a m.thread.env m.thread.on (with_frames m (record { at = e; env = m.thread.env; on = m.thread.on; hand = [] } ∷ m.thread.frames)))

module _ {T : Type 0} where
  -- all operands are in hand, and the frame is popped
  unfoldable pub act : Cmd T → List Value → Machine → Plan
  act (c_num n) h m = bare h (gives [] (unkeyed (k_num n)) m)
  act c_top h m = bare h (gives [] (unkeyed (k_lim 1)) m)
  act (c_var x) h m = bare h (variable x m)
  act (c_pair a b) h m = two h (λ v w. act_pair v w m)
  act (c_part a i) h m = one h (λ v. act_part i v m)
  act (c_fn x t b) h m = bare h (act_fn x b m)
  act (c_app a b) h m = two h (λ v w. act_app v w m)
  act (c_new t a) h m = one h (λ v. act_new v m)
  act (c_asg a b) h m = two h (λ v w. act_asg v w m)
  act (c_read a) h m = one h (λ v. act_read v m)
  act (c_sum i a b) h m = two h (λ v w. act_sum i v w m)
  act (c_test a b c t) h m = one h (λ v. act_test b c v m)
  act (c_lim ks b) h m = act_lim b h m
  act (c_grant a b) h m = one h (λ v. act_grant b v m)
  act (c_newkey x r a b t) h m = one h (λ v. act_newkey x r b v m)
  act (c_assoc a b) h m = two h (λ v w. act_assoc v w m)
  act (c_access a b c t) h m = one h (λ v. act_access b c v m)
  act (c_divide a b) h m = two h (λ v w. act_divide v w m)
  act (c_spawn b) h m = bare h (act_spawn b m)

  -- entering an expression with no operand to evaluate is its act: 0x30, 0x31, 0x32, 0x35, 0x42, and "3C with no keys pushes none and enters its body with no key enabled"
  unfoldable pub enter_at : ℕ → List ℕ → Cmd T → Machine → Plan
  enter_at e [] k m = act k [] m
  enter_at e (a ∷ l) k m = push e a m

  unfoldable pub enter_cmd : ℕ → Cmd T → Machine → Plan
  enter_cmd e k m = enter_at e (evaluated k) k m

-- the frame's own bindings and enabled keys are brought back
abbrev pub resume : Frame → List Frame → Machine → Machine
resume f fs m = record { thread = record { control = m.thread.control; env = f.env; on = f.on; frames = fs }; store = m.store; threads = m.threads }

abbrev pub holding : Frame → List Value → Frame
holding f h = record { at = f.at; env = f.env; on = f.on; hand = h }

module _ {T : Type 0} (code : ℕ → Cmd T) where
  -- the values h are in hand: "enters the next operand or, all in hand, is popped and acts"
  unfoldable pub receive : Option ℕ → Frame → List Value → List Frame → Machine → Plan
  receive (some a) f h fs m = enters [] a f.on (resume f (holding f h ∷ fs) m)
  receive none f h fs m = act (code f.at) h (resume f fs m)

  -- "A value goes to the newest frame"; "No frame left and a value: done."
  unfoldable pub hand_to : Value → List Frame → Machine → Plan
  hand_to v [] m = p_done
  hand_to v (f ∷ fs) m = receive (get_elem? (evaluated (code f.at)) (suc (length f.hand))) f (f.hand ++ (v ∷ [])) fs m

  unfoldable pub plan_on : Control → Machine → Plan
  plan_on (enter e) m = enter_cmd e (code e) m
  plan_on (hand v) m = hand_to v m.thread.frames m

  unfoldable pub plan : Machine → Plan
  plan m = plan_on m.thread.control m

  unfoldable pub step : Machine → Out
  step m = settle (plan m)
