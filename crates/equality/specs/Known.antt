-- A memory of comparisons that hold: each of its words that is not 0 packs a comparison, its levels and its two entries.
use Rattle.std.specs.Prelude.{◌≡◌, ℕ, ◌+◌, ◌*◌, ◌/◌, ◌%◌, ◌<◌, Bool, true, false, cond, List, ◌≢◌, get_or, set, eqb}
use Rattle.syntax.specs.Words.{entry_in}
use Rattle.typing.specs.Entries.{same_in, sub_in, super_in}
use Rattle.names.specs.Ancestors.{below_by, effects_by}
use Rattle.equality.specs.declared.Relation.{Relation}
use Rattle.equality.specs.declared.Relation.TheVariants.{Same, Below, Above}

unfoldable pub pick : {A : Type 0} → Relation → A → A → A → A
pick Same same sub super = same
pick Below same sub super = sub
pick Above same sub super = super

-- the comparison of a function's arguments
unfoldable pub turned_of : Relation → Relation
turned_of Same = Same
turned_of Below = Above
turned_of Above = Below

unfoldable pub number_of : Relation → ℕ
number_of Same = 0
number_of Below = 1
number_of Above = 2

-- the relation of a number: 1 is below, 2 above, any other equality
unfoldable pub relation_of : ℕ → Relation
relation_of n = cond (eqb n 1) Below (cond (eqb n 2) Above Same)

-- the comparison of two keys, or of two effects, over a test whether the first is below the second
unfoldable pub keys_by : (ℕ → ℕ → Bool) → Relation → ℕ → ℕ → Bool
keys_by bl rel p q = pick rel (eqb p q) (bl p q) (bl q p)

-- the comparison of entries a and b of the tables, at most d levels down
unfoldable pub compared_in : List ℕ → List ℕ → List ℕ → Relation → ℕ → ℕ → ℕ → Bool
compared_in anc types sets rel d a b =
    pick rel (same_in d (entry_in types sets) a b) (sub_in (below_by anc) (effects_by anc) d (entry_in types sets) a b) (super_in (below_by anc) (effects_by anc) d (entry_in types sets) a b)

-- the heads of two words: the kinds are the same, and the keys compare
unfoldable pub heads_by : (ℕ → ℕ → Bool) → Relation → ℕ → ℕ → Bool
heads_by bl rel x y = cond (eqb (x % 256) (y % 256)) (keys_by bl rel (x / 256 % 256) (y / 256 % 256)) false

-- words of one kind that have no parts: numbers, and limit or grant keys, whose names are the same or not
unfoldable pub leaf_by : ℕ → Bool → Bool
leaf_by kind same = cond (eqb kind 0x10) true (cond (eqb kind 0x14) same (cond (eqb kind 0x15) same false))

abbrev pub leaves_of : ℕ → ℕ → Bool
leaves_of x y = leaf_by (x % 256) (eqb (x / 65536 % 256) (y / 65536 % 256))

-- a comparison by number in one word; no two have the same, and with a level or more it is not 0
abbrev pub word_of : ℕ → ℕ → ℕ → ℕ → ℕ
word_of n d a b = n * 1099511627776 + d * 4294967296 + b * 65536 + a

abbrev pub pack_of : Relation → ℕ → ℕ → ℕ → ℕ
pack_of rel d a b = word_of (number_of rel) d a b

-- the one place for a word
abbrev pub slot_of : ℕ → ℕ
slot_of w = w % 1021

-- each word that is a comparison is one that holds
pub record Known (anc types sets known : List ℕ) : Type 0 where
  pub holds : (i n d a b : ℕ) → d ≢ 0 → d < 256 → a < 65536 → b < 65536 → get_or known i 0 ≡ word_of n d a b → compared_in anc types sets (relation_of n) d a b ≡ true

-- what is remembered is right after entry n is written, whatever is written
pub record Stays (types : List ℕ) (n : ℕ) (before after : List ℕ) : Type 0 where
  pub right : (anc sets : List ℕ) (w s : ℕ) → Known anc types sets before → Known anc (set types n w) (set sets n s) after
