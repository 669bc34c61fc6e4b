-- What a text holds, and the desk program's lines by kind: a number, a pair, ...
use Rattle.std.specs.Prelude.{ℕ, List, ◌++◌, take}
use Rattle.order.specs.Effects.{Effect}
use Rattle.syntax.specs.Types.{Ty, num, pair, cell, fn, lim, grant}
use Rattle.semantics.specs.Machine.{Kind as SKind, k_num, k_pair, k_fn, k_cell, k_lim, k_grant}
use Rattle.format.specs.declared.Text.{Text}
use Rattle.store.specs.declared.Kind.{Kind}
use Rattle.store.specs.declared.Kind.TheVariants.{Number, Pair, Cell, Function, Limit, Grant}
use Rattle.output.specs.Lines.{decimal, hex, space, line, w_accepted, w_done, w_spent, w_no_room, w_number, w_pair, w_cell, w_function, w_limit, w_grant}

-- the bytes written so far
unfoldable pub text_of : Text → List ℕ
text_of t = take t.len t.bytes

-- the room of a text
abbrev pub text_bytes : ℕ
text_bytes = 128

-- a and then x; what comes after the room of a text is left out
unfoldable pub joined : List ℕ → List ℕ → List ℕ
joined a x = take text_bytes (a ++ x)

-- the word of a kind
unfoldable pub sort_word : Kind → List ℕ
sort_word Number = w_number
sort_word Pair = w_pair
sort_word Cell = w_cell
sort_word Function = w_function
sort_word Limit = w_limit
sort_word Grant = w_grant

-- the word of a kind and, for a number, its value
unfoldable pub sort_words : Kind → ℕ → List ℕ
sort_words Number n = space w_number (decimal n)
sort_words Pair n = w_pair
sort_words Cell n = w_cell
sort_words Function n = w_function
sort_words Limit n = w_limit
sort_words Grant n = w_grant

-- the kind of a type
unfoldable pub type_sort : Ty → Kind
type_sort (num q) = Number
type_sort (pair q A B) = Pair
type_sort (cell q A) = Cell
type_sort (fn q A B s) = Function
type_sort (lim q r) = Limit
type_sort (grant q r) = Grant

-- the kind of a value, and the number in it
unfoldable pub kind_sort : SKind → Kind
kind_sort (k_num n) = Number
kind_sort (k_pair n) = Pair
kind_sort (k_fn n) = Function
kind_sort (k_cell n) = Cell
kind_sort (k_lim n) = Limit
kind_sort (k_grant n) = Grant

unfoldable pub kind_number : SKind → ℕ
kind_number (k_num n) = n
kind_number (k_pair n) = n
kind_number (k_fn n) = n
kind_number (k_cell n) = n
kind_number (k_lim n) = n
kind_number (k_grant n) = n

-- the lines, by kind
unfoldable pub accepted_as : Effect → Kind → List ℕ
accepted_as s k = line (space w_accepted (space (hex 16 s.set) (sort_word k)))

unfoldable pub done_as : ℕ → Kind → ℕ → List ℕ
done_as n k v = line (space w_done (space (decimal n) (sort_words k v)))

unfoldable pub spent_as : ℕ → List ℕ
spent_as n = line (space w_spent (decimal n))

unfoldable pub no_room_as : ℕ → List ℕ
no_room_as n = line (space w_no_room (decimal n))
