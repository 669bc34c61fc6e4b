-- Names by a table of ancestors: entry a is the set of the names at or above a, so that one word answers what is above a name. The tests and operations on
-- effects by that table; `Laws` shows that they are those of the order.
use Rattle.std.specs.Prelude.{ℕ, zero, suc, ◌+◌, ◌-◌, ◌%◌, ◌^◌, Bool, false, cond, not, List, [], ◌∷◌, ◌++◌, map, length, get_or, set, replicate, eqb, ltb}
use Rattle.std.specs.Int.Bits.{bit_and, bit_or, bit_xor}
use Rattle.std.specs.Int.Count.{count_trailing_zeros}
use Rattle.order.specs.Bools.{◌and◌, ◌or◌}
use Rattle.order.specs.Order.{below}
use Rattle.order.specs.Sets.{bit, members, set_of, keep, all_of}
use Rattle.order.specs.Ranges.{range}
use Rattle.order.specs.Effects.{Effect, of_word, set_names, join}
use Rattle.syntax.specs.Job.{Name}
use Rattle.syntax.specs.Reading.{most_names, host_name}
unfoldable pub use Rattle.syntax.specs.Words.{name_of}

-- the first n declared names of a names table; the first stands at 2
unfoldable pub names_in : List ℕ → ℕ → List Name
names_in t zero = []
names_in t (suc n) = names_in t n ++ (name_of (get_or t (2 + n) 0) ∷ [])

-- the names at or above a
unfoldable pub at_or_above : List ℕ → ℕ → ℕ
at_or_above up a = set_of (keep (λ b. below up a b) (range 0 most_names))

-- one entry for each of the names; for names past the last, none
unfoldable pub ancestors_of : List ℕ → List ℕ
ancestors_of up = map (λ a. cond (ltb a (length up)) (at_or_above up a) 0) (range 0 most_names)

-- below, set below set, reduced, reduce, drop, by such a table
unfoldable pub below_by : List ℕ → ℕ → ℕ → Bool
below_by anc a b = eqb a 0 or eqb a b or bit (get_or anc a 0) b

-- a name of t is at or above n
unfoldable pub meets_by : List ℕ → ℕ → ℕ → Bool
meets_by anc t n = not (eqb (bit_and (get_or anc n 0) t) 0)

unfoldable pub eff_below_by : List ℕ → ℕ → ℕ → Bool
eff_below_by anc s t = all_of (meets_by anc t) (set_names s)

abbrev pub effects_by : List ℕ → Effect → Effect → Bool
effects_by anc s t = eff_below_by anc s.set t.set

-- no other name of s is at or above n
unfoldable pub top_by : List ℕ → ℕ → ℕ → Bool
top_by anc s n = eqb (bit_and (get_or anc n 0) s) (2 ^ n)

-- n is no bottom, and no other name of s is at or above it
unfoldable pub maximal_by : List ℕ → ℕ → ℕ → Bool
maximal_by anc s n = cond (eqb n 0) false (top_by anc s n)

unfoldable pub reduced_by : List ℕ → ℕ → Bool
reduced_by anc s = all_of (maximal_by anc s) (members s)

unfoldable pub reduce_by : List ℕ → ℕ → ℕ
reduce_by anc s = set_of (keep (maximal_by anc s) (members s))

-- n is not below r
unfoldable pub stays_by : List ℕ → ℕ → ℕ → Bool
stays_by anc r n = not (below_by anc n r)

unfoldable pub drop_by : List ℕ → ℕ → ℕ → ℕ
drop_by anc r s = set_of (keep (stays_by anc r) (set_names s))

-- the lowest member of a set of names; 64 for none
unfoldable pub lowest : ℕ → ℕ
lowest s = count_trailing_zeros most_names s

-- the set of one name; none for other numbers
unfoldable pub one_of : ℕ → ℕ
one_of n = cond (ltb n most_names) (2 ^ n) 0

-- s without 0
unfoldable pub nonzero : ℕ → ℕ
nonzero s = s - s % 2

-- touch and raise; 0 and a number that is no name add nothing
unfoldable pub touch_by : ℕ → ℕ → ℕ
touch_by q s = cond (eqb q 0) s (bit_or (one_of q) s)

-- the join of what two words stand for
abbrev pub join_by : ℕ → ℕ → ℕ
join_by s t = (join (of_word s) (of_word t)).set

unfoldable pub raise_by : ℕ → ℕ → ℕ → ℕ
raise_by r u s = cond (bit (nonzero s) r) (bit_or (one_of u) (bit_xor (nonzero s) (one_of r))) (nonzero s)

-- The table of ancestors by one pass over the declared names: a name's entry is its own bit with the entry of its upper name. 0 is below all, and 1 below itself.
unfoldable pub first_two : List ℕ
first_two = set (set (replicate most_names 0) 0 0xFFFFFFFFFFFFFFFF) 1 2

unfoldable pub entered : List ℕ → ℕ → Name → List ℕ
entered anc a d = set anc a (bit_or (one_of a) (get_or anc d.upper 0))

unfoldable pub pass_over : ℕ → List ℕ → List Name → List ℕ
pass_over a anc [] = anc
pass_over a anc (d ∷ ds) = pass_over (suc a) (entered anc a d) ds

unfoldable pub ancestors_by : List Name → List ℕ
ancestors_by ds = pass_over 2 first_two ds

-- a name that is 0, 1 or one of n declared ones
unfoldable pub declared_of : ℕ → ℕ → Bool
declared_of n q = ltb q (2 + n)

-- the conditions on a written set and on the rights, by the table of ancestors of n declared names
unfoldable pub set_ok_by : List ℕ → ℕ → ℕ → Bool
set_ok_by anc n s = all_of (declared_of n) (members s) and reduced_by anc s

unfoldable pub rights_ok_by : List ℕ → List Name → ℕ → Bool
rights_ok_by anc ds s = set_ok_by anc (length ds) s and all_of (host_name ds) (members s)
