-- The lines by kind are the desk program's lines, and each line is shorter than 64 bytes, so that two of them have room in a text.
use Rattle.std.specs.Prelude.{ℕ, ◌<◌, ◌≤◌, ◌≡◌, refl, List, ◌++◌, length, get_or}
use Rattle.std.proofs.Common.{◌∙◌, arith, length-append, take_all}
use Rattle.std.proofs.Math.Option.{some}
use Rattle.order.specs.Effects.{Effect}
use Rattle.syntax.specs.Types.{Ty, num, pair, cell, fn, lim, grant}
use Rattle.semantics.specs.Machine.{Kind as SKind, k_num, k_pair, k_fn, k_cell, k_lim, k_grant, Value, System}
use Rattle.semantics.specs.Threads.{value_of}
use Rattle.semantics.specs.Calls.{finished, spent, noroom}
use Rattle.store.specs.declared.Kind.{Kind}
use Rattle.store.specs.declared.Kind.TheVariants.{Number, Pair, Cell, Function, Limit, Grant}
use Rattle.output.specs.Lines.{decimal, space, line, w_accepted, w_done, w_spent, w_no_room, w_number, w_pair, w_cell, w_function, w_limit, w_grant, type_kind, value_kind, handed, accepted_line, ran_line}
use Rattle.output.proofs.LineLaws.{decimal_length, hex_length}
use Rattle.format.specs.Text.{text_bytes, joined, sort_word, sort_words, type_sort, kind_sort, kind_number, accepted_as, done_as, spent_as, no_room_as}

-- the word of a type's kind
pub type_word_lem : (T : Ty) → sort_word (type_sort T) ≡ type_kind T
unfolding sort_word type_sort type_kind
type_word_lem (num q) = refl
type_word_lem (pair q A B) = refl
type_word_lem (cell q A) = refl
type_word_lem (fn q A B s) = refl
type_word_lem (lim q r) = refl
type_word_lem (grant q r) = refl

-- the words of a value's kind
pub value_words_lem : (k : SKind) → sort_words (kind_sort k) (kind_number k) ≡ value_kind k
unfolding sort_words kind_sort kind_number value_kind
value_words_lem (k_num n) = refl
value_words_lem (k_pair n) = refl
value_words_lem (k_fn n) = refl
value_words_lem (k_cell n) = refl
value_words_lem (k_lim n) = refl
value_words_lem (k_grant n) = refl

-- of no other kind the number is written
pub no_number : (k : Kind) (n : ℕ) → (k ≡ Number → ⊥) → sort_words k n ≡ sort_word k
unfolding sort_words sort_word
no_number Number n h = absurd (h refl)
no_number Pair n h = refl
no_number Cell n h = refl
no_number Function n h = refl
no_number Limit n h = refl
no_number Grant n h = refl

-- an accepted job's first line
pub accepted_line_lem : (T : Ty) (s : Effect) → accepted_as s (type_sort T) ≡ accepted_line T s
unfolding accepted_as accepted_line
accepted_line_lem T s = rw type_word_lem

-- its second line: a job that is done with a value, spent, no room
pub done_line : (c : List ℕ) (i : ℕ) (m : System) (v : Value) → value_of m ≡ some v → done_as (get_or c 0 0) (kind_sort v.kind) (kind_number v.kind) ≡ ran_line finished c i m
unfolding done_as ran_line handed
done_line c i m v e = simp (e, value_words_lem)

pub spent_line : (c : List ℕ) (i : ℕ) (m : System) → spent_as (get_or c 0 0) ≡ ran_line spent c i m
unfolding spent_as ran_line
spent_line c i m = refl

pub no_room_line : (c : List ℕ) (i : ℕ) (m : System) → no_room_as (get_or c i 0) ≡ ran_line noroom c i m
unfolding no_room_as ran_line
no_room_line c i m = refl

-- lengths
pub sort_length : (k : Kind) → length (sort_word k) ≤ 8
unfolding sort_word w_number w_pair w_cell w_function w_limit w_grant
sort_length Number = omega arith
sort_length Pair = omega arith
sort_length Cell = omega arith
sort_length Function = omega arith
sort_length Limit = omega arith
sort_length Grant = omega arith

pub sort_words_length : (k : Kind) (n : ℕ) → length (sort_words k n) ≤ 27
unfolding sort_words w_number w_pair w_cell w_function w_limit w_grant space decimal
sort_words_length Number n = simp length-append (omega (arith, decimal_length 20 n))
sort_words_length Pair n = omega arith
sort_words_length Cell n = omega arith
sort_words_length Function n = omega arith
sort_words_length Limit n = omega arith
sort_words_length Grant n = omega arith

pub accepted_length : (s : Effect) (k : Kind) → length (accepted_as s k) < 64
unfolding accepted_as line space w_accepted
accepted_length s k = simp (length-append, hex_length) (omega (arith, sort_length k))

pub done_length : (n : ℕ) (k : Kind) (v : ℕ) → length (done_as n k v) < 64
unfolding done_as line space w_done decimal
done_length n k v = simp length-append (omega (arith, decimal_length 20 n, sort_words_length k v))

pub spent_length : (n : ℕ) → length (spent_as n) < 64
unfolding spent_as line space w_spent decimal
spent_length n = simp length-append (omega (arith, decimal_length 20 n))

pub no_room_length : (n : ℕ) → length (no_room_as n) < 64
unfolding no_room_as line space w_no_room decimal
no_room_length n = simp length-append (omega (arith, decimal_length 20 n))

-- two lines have room
pub two_fit : (a b : List ℕ) → length a < 64 → length b < 64 → joined a b ≡ a ++ b
unfolding joined
two_fit a b h g = take_all text_bytes (a ++ b) (simp length-append (omega arith))

-- what an accepted job prints, with each way its run can end
module _ (T : Ty) (s : Effect) (c : List ℕ) (i : ℕ) (m : System) where
  pub accepted_done :
      (v : Value) → value_of m ≡ some v →
      joined (accepted_as s (type_sort T)) (done_as (get_or c 0 0) (kind_sort v.kind) (kind_number v.kind)) ≡ accepted_line T s ++ ran_line finished c i m
  accepted_done v e =
      two_fit _ _ (accepted_length s (type_sort T)) (done_length (get_or c 0 0) (kind_sort v.kind) (kind_number v.kind))
      ∙ simp (accepted_line_lem T s, done_line c i m v e)

  pub accepted_spent : joined (accepted_as s (type_sort T)) (spent_as (get_or c 0 0)) ≡ accepted_line T s ++ ran_line spent c i m
  accepted_spent = two_fit _ _ (accepted_length s (type_sort T)) (spent_length (get_or c 0 0)) ∙ simp (accepted_line_lem T s, spent_line c i m)

  pub accepted_no_room : joined (accepted_as s (type_sort T)) (no_room_as (get_or c i 0)) ≡ accepted_line T s ++ ran_line noroom c i m
  accepted_no_room = two_fit _ _ (accepted_length s (type_sort T)) (no_room_length (get_or c i 0)) ∙ simp (accepted_line_lem T s, no_room_line c i m)
