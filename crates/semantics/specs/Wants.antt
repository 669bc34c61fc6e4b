-- What an act wants of its operands, how it uses them and which places it needs: document 01's list, one row a command, apart from the step; and from it when a step is stuck,
-- denied or without room. Shared with the step are which operands are evaluated before an act, how a variable is looked up, which keys are enabled, and the limits of room.
use Rattle.std.specs.Prelude.{◌≡◌, ℕ, zero, suc, Bool, true, false, cond, not, List, [], ◌∷◌, ◌++◌, length}
use Rattle.std.proofs.Math.Option.{Option, none, some}
use Rattle.std.proofs.Math.ListN.{get_elem?}
use Rattle.order.specs.Bools.{◌and◌}
use Rattle.order.specs.Sets.{some_of, all_of}
use Rattle.syntax.specs.Commands.{Cmd, c_num, c_top, c_var, c_pair, c_part, c_fn, c_app, c_new, c_asg, c_read, c_sum, c_test, c_lim, c_grant, c_newkey, c_assoc, c_access, c_divide, c_spawn}
use Rattle.syntax.specs.Operands.{evaluated, uses_var}
use Rattle.semantics.specs.Machine.{Kind, k_num, k_pair, k_fn, k_cell, k_lim, k_grant, Value, KeySet, Frame, Control, enter, hand, Store, Machine, most_bindings}
use Rattle.semantics.specs.Keys.{enabled}
use Rattle.semantics.specs.Step.{seek}
use Rattle.semantics.specs.Room.{is_done, Place, cells, keys, pairs, functions, frames, bindings, threads, any_lacking}

-- what a place of a command asks of its value
pub data Want : Type 0 where
  anything a_number a_pair a_function a_cell a_limit a_grant : Want

-- how an act uses a value that it touches; each use is tested alike, by the value's key
pub data Usage : Type 0 where
  read write read_and_write : Usage

-- an operand in hand: what it must be, and how the act touches it, if it does
pub record Use : Type 0 where
  pub want : Want
  pub touch : Option Usage

abbrev pub takes : Want → Use
takes w = record { want = w; touch = none }

abbrev pub touches : Usage → Want → Use
touches u w = record { want = w; touch = some u }

unfoldable pub alike : ℕ → Use → List Use
alike zero u = []
alike (suc n) u = u ∷ alike n u

-- what an act wants: its operands, evaluated, and places
pub record Wanted : Type 0 where
  pub uses : List Use
  pub places : List Place

abbrev pub wants : List Use → List Place → Wanted
wants us ps = record { uses = us; places = ps }

module _ {T : Type 0} where
  -- "Touched: the pair in 34, the function in 36, the cell in 38 and 39, both numbers in 3A, the number tested in 3B, every key in 3C, 3D, 3E, both operands in 3F."
  -- Of 0x40: "The key is touched". Whether the key that it stands for is enabled is a question and no touch. Of 0x41: "Both numbers are touched. It takes one pair of the machine's room".
  -- 0x42 touches nothing and takes the place of a thread.
  -- So many values are in hand (a limit takes as many keys as there are).
  unfoldable pub wants_of : Cmd T → ℕ → Wanted
  wants_of (c_num n) i = wants [] []
  wants_of c_top i = wants [] []
  wants_of (c_var x) i = wants [] []
  wants_of (c_pair a b) i = wants (takes anything ∷ takes anything ∷ []) (pairs 1 ∷ [])
  wants_of (c_part a n) i = wants (touches read a_pair ∷ []) []
  wants_of (c_fn x t b) i = wants [] (functions 1 ∷ [])
  wants_of (c_app a b) i = wants (touches read a_function ∷ takes anything ∷ []) (bindings 1 ∷ [])
  wants_of (c_new t a) i = wants (takes anything ∷ []) (cells 1 ∷ [])
  wants_of (c_asg a b) i = wants (touches write a_cell ∷ takes anything ∷ []) []
  wants_of (c_read a) i = wants (touches read a_cell ∷ []) []
  wants_of (c_sum n a b) i = wants (touches read a_number ∷ touches read a_number ∷ []) []
  wants_of (c_test a b c t) i = wants (touches read a_number ∷ []) []
  wants_of (c_lim ks b) i = wants (alike i (touches read a_limit)) []
  wants_of (c_grant a b) i = wants (touches read a_grant ∷ []) []
  wants_of (c_newkey x r a b t) i = wants (touches read a_limit ∷ []) (keys 1 ∷ pairs 1 ∷ bindings 2 ∷ [])
  wants_of (c_assoc a b) i = wants (touches read_and_write anything ∷ touches read a_limit ∷ []) []
  wants_of (c_access a b c t) i = wants (touches read a_limit ∷ []) []
  wants_of (c_divide a b) i = wants (touches read a_number ∷ touches read a_number ∷ []) (pairs 1 ∷ [])
  wants_of (c_spawn b) i = wants [] (threads 1 ∷ [])

unfoldable pub holds : {A : Type 0} → Option A → (A → Bool) → Bool
holds none f = false
holds (some a) f = f a

-- the entry of that number is there
unfoldable pub is_there : {A : Type 0} → List A → ℕ → Bool
is_there l n = holds (get_elem? l n) (λ a. true)

-- a test for each kind: number, pair, function, cell, limit key, grant key
unfoldable pub by_kind : Kind → (ℕ → Bool) → (ℕ → Bool) → (ℕ → Bool) → (ℕ → Bool) → (ℕ → Bool) → (ℕ → Bool) → Bool
by_kind (k_num n) a b c d e f = a n
by_kind (k_pair n) a b c d e f = b n
by_kind (k_fn n) a b c d e f = c n
by_kind (k_cell n) a b c d e f = d n
by_kind (k_lim n) a b c d e f = e n
by_kind (k_grant n) a b c d e f = f n

unfoldable pub yes : ℕ → Bool
yes n = true

unfoldable pub no : ℕ → Bool
no n = false

-- the value is of the kind wanted, and its entry is there
unfoldable pub suits : Want → Kind → Store → Bool
suits anything k s = true
suits a_number k s = by_kind k yes no no no no no
suits a_pair k s = by_kind k no (is_there s.pairs) no no no no
suits a_function k s = by_kind k no no (is_there s.functions) no no no
suits a_cell k s = by_kind k no no no (is_there s.cells) no no
suits a_limit k s = by_kind k no no no no yes no
suits a_grant k s = by_kind k no no no no no yes

-- each value suits its place, and there are as many
unfoldable pub suit : List Use → List Value → Store → Bool
suit [] [] s = true
suit [] (v ∷ vs) s = false
suit (u ∷ us) [] s = false
suit (u ∷ us) (v ∷ vs) s = suits u.want v.kind s and suit us vs s

-- it is touched, for whatever use
unfoldable pub is_touched : Use → Bool
is_touched u = holds u.touch (λ w. true)

-- the keys of those that are touched, in order
unfoldable pub touched_in : List Use → List Value → List ℕ
touched_in [] vs = []
touched_in (u ∷ us) [] = []
touched_in (u ∷ us) (v ∷ vs) = cond (is_touched u) (v.key ∷ touched_in us vs) (touched_in us vs)

-- what the next step needs: each value suits its place, and the variable is bound; how its act uses the values in hand; the keys that are enabled there; places
pub record Needs : Type 0 where
  pub suited : Bool
  pub uses : List Use
  pub held : List Value
  pub on : KeySet
  pub places : List Place

-- the keys that it touches, in order
abbrev pub touched : Needs → List ℕ
touched n = touched_in n.uses n.held

-- no more than places
abbrev pub only : List Place → KeySet → Needs
only ps on = record { suited = true; uses = []; held = []; on = on; places = ps }

module _ {T : Type 0} where
  -- an act, with these values in hand, bindings and enabled keys
  unfoldable pub acting : Cmd T → List Value → ℕ → KeySet → Store → Needs
  acting k h env on s =
      record {
        suited = suit (wants_of k (length h)).uses h s and all_of (λ x. holds (seek most_bindings s.bindings env x) (λ v. true)) (uses_var k);
        uses = (wants_of k (length h)).uses;
        held = h;
        on = on;
        places = (wants_of k (length h)).places;
      }

  -- entering takes a frame where operands are evaluated first; else it is the act
  unfoldable pub to_enter : List ℕ → Cmd T → Machine → Needs
  to_enter [] k m = acting k [] m.thread.env m.thread.on m.store
  to_enter (a ∷ l) k m = only (frames 1 ∷ []) m.thread.on

  -- a frame that still lacks an operand needs nothing
  unfoldable pub to_receive : Option ℕ → Cmd T → Frame → List Value → Machine → Needs
  to_receive (some a) k f h m = only [] f.on
  to_receive none k f h m = acting k h f.env f.on m.store

module _ {T : Type 0} (code : ℕ → Cmd T) where
  unfoldable pub to_hand : Value → List Frame → Machine → Needs
  to_hand v [] m = only [] m.thread.on
  to_hand v (f ∷ fs) m = to_receive (get_elem? (evaluated (code f.at)) (suc (length f.hand))) (code f.at) f (f.hand ++ (v ∷ [])) m

  unfoldable pub needs_on : Control → Machine → Needs
  needs_on (enter e) m = to_enter (evaluated (code e)) (code e) m
  needs_on (hand v) m = to_hand v m.thread.frames m

  unfoldable pub needs : Machine → Needs
  needs m = needs_on m.thread.control m

module _ (needs : Machine → Needs) where
  -- a kind is wrong, or an entry that is needed is not there
  unfoldable pub wrong : Machine → Bool
  wrong m = not (needs m).suited

  -- a key that is touched is not enabled
  unfoldable pub shut : Machine → Bool
  shut m = some_of (λ k. not (enabled m.store.keys (needs m).on k)) (touched (needs m))

  -- the next step needs a place that is not there
  unfoldable pub lacks : Machine → Bool
  lacks m = any_lacking (needs m).places m

  -- "Stuck, denied and no room are the first that fails": kinds, then keys, then room
  abbrev pub Stuck : Machine → Type 0
  Stuck m = wrong m ≡ true

  abbrev pub Denied : Machine → Type 0
  Denied m = (wrong m ≡ false) × (shut m ≡ true)

  abbrev pub NoRoom : Machine → Type 0
  NoRoom m = (wrong m ≡ false) × (shut m ≡ false) × (lacks m ≡ true)

  -- none fails, and the machine is not finished
  abbrev pub Ready : Machine → Type 0
  Ready m = (is_done m ≡ false) × (wrong m ≡ false) × (shut m ≡ false) × (lacks m ≡ false)
