-- What the other arm of a match on a kind knows.
use Prim.Native.Nat.{ℕ}
use mathlib.Core.Path.{◌≡◌, refl}
use mathlib.Core.List.{[], ◌∷◌}
use types.Run.{OneOf, miss}
use denote.Enum.Declared.{tag_of}
use Rattle.semantics.specs.Step.{o_stuck, Plan, p_wrong, settle, as_num, as_pair, as_fn, as_cell, as_lim, as_grant, found}
use Rattle.store.specs.declared.Kind.{Kind}
use Rattle.store.specs.declared.Kind.TheVariants.{Number, Pair, Cell, Function, Limit, Grant}
use Rattle.store.specs.Meaning.{kind_in}
use Rattle.store.specs.contracts.Kind.{the_type}

-- a value of a known kind
pub of_kind : {k l : Kind} (n : ℕ) → k ≡ l → kind_in k n ≡ kind_in l n
of_kind n e = simp e

pub not_number : (k : Kind) → OneOf (1 ∷ 2 ∷ 3 ∷ 4 ∷ 5 ∷ []) (tag_of the_type k) → (n : ℕ) (f : ℕ → Plan) → settle (found (as_num (kind_in k n)) f) ≡ o_stuck
unfolding settle found as_num
not_number Number h n f = absurd (miss (1 ∷ 2 ∷ 3 ∷ 4 ∷ 5 ∷ []) 0 tt h)
not_number Pair h n f = refl
not_number Cell h n f = refl
not_number Function h n f = refl
not_number Limit h n f = refl
not_number Grant h n f = refl

pub not_pair : (k : Kind) → OneOf (0 ∷ 2 ∷ 3 ∷ 4 ∷ 5 ∷ []) (tag_of the_type k) → (n : ℕ) (f : ℕ → Plan) → settle (found (as_pair (kind_in k n)) f) ≡ o_stuck
unfolding settle found as_pair
not_pair Number h n f = refl
not_pair Pair h n f = absurd (miss (0 ∷ 2 ∷ 3 ∷ 4 ∷ 5 ∷ []) 1 tt h)
not_pair Cell h n f = refl
not_pair Function h n f = refl
not_pair Limit h n f = refl
not_pair Grant h n f = refl

pub not_cell : (k : Kind) → OneOf (0 ∷ 1 ∷ 3 ∷ 4 ∷ 5 ∷ []) (tag_of the_type k) → (n : ℕ) (f : ℕ → Plan) → settle (found (as_cell (kind_in k n)) f) ≡ o_stuck
unfolding settle found as_cell
not_cell Number h n f = refl
not_cell Pair h n f = refl
not_cell Cell h n f = absurd (miss (0 ∷ 1 ∷ 3 ∷ 4 ∷ 5 ∷ []) 2 tt h)
not_cell Function h n f = refl
not_cell Limit h n f = refl
not_cell Grant h n f = refl

pub not_function : (k : Kind) → OneOf (0 ∷ 1 ∷ 2 ∷ 4 ∷ 5 ∷ []) (tag_of the_type k) → (n : ℕ) (f : ℕ → Plan) → settle (found (as_fn (kind_in k n)) f) ≡ o_stuck
unfolding settle found as_fn
not_function Number h n f = refl
not_function Pair h n f = refl
not_function Cell h n f = refl
not_function Function h n f = absurd (miss (0 ∷ 1 ∷ 2 ∷ 4 ∷ 5 ∷ []) 3 tt h)
not_function Limit h n f = refl
not_function Grant h n f = refl

pub not_limit : (k : Kind) → OneOf (0 ∷ 1 ∷ 2 ∷ 3 ∷ 5 ∷ []) (tag_of the_type k) → (n : ℕ) (f : ℕ → Plan) → settle (found (as_lim (kind_in k n)) f) ≡ o_stuck
unfolding settle found as_lim
not_limit Number h n f = refl
not_limit Pair h n f = refl
not_limit Cell h n f = refl
not_limit Function h n f = refl
not_limit Limit h n f = absurd (miss (0 ∷ 1 ∷ 2 ∷ 3 ∷ 5 ∷ []) 4 tt h)
not_limit Grant h n f = refl

pub no_limit : (k : Kind) → OneOf (0 ∷ 1 ∷ 2 ∷ 3 ∷ 5 ∷ []) (tag_of the_type k) → (n : ℕ) (f : ℕ → Plan) → found (as_lim (kind_in k n)) f ≡ p_wrong
unfolding found as_lim
no_limit Number h n f = refl
no_limit Pair h n f = refl
no_limit Cell h n f = refl
no_limit Function h n f = refl
no_limit Limit h n f = absurd (miss (0 ∷ 1 ∷ 2 ∷ 3 ∷ 5 ∷ []) 4 tt h)
no_limit Grant h n f = refl

pub not_grant : (k : Kind) → OneOf (0 ∷ 1 ∷ 2 ∷ 3 ∷ 4 ∷ []) (tag_of the_type k) → (n : ℕ) (f : ℕ → Plan) → settle (found (as_grant (kind_in k n)) f) ≡ o_stuck
unfolding settle found as_grant
not_grant Number h n f = refl
not_grant Pair h n f = refl
not_grant Cell h n f = refl
not_grant Function h n f = refl
not_grant Limit h n f = refl
not_grant Grant h n f = absurd (miss (0 ∷ 1 ∷ 2 ∷ 3 ∷ 4 ∷ []) 5 tt h)
