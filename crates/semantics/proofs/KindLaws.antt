-- "A kind is wrong where it is wrong in typing (11), names aside": where the operands in hand are values of the types that an act's operands have, and the list (`Wants`) finds no kind wrong, typing finds
-- none wrong either. The other way round, what has a type is never stuck, by progress.
use Rattle.std.specs.Prelude.{◌≡◌, ℕ, Bool, true, false, ◌≢◌, length}
use Rattle.std.proofs.Math.Path.{refl}
use Rattle.std.proofs.Common.{arith}
use Rattle.std.proofs.lemmas.Bool.{false≢true}
use mathlib.Core.List.{List, [], ◌∷◌, map}
use Rattle.std.proofs.Math.Option.{Option, none, some}
use Rattle.order.proofs.Bools.{and_l, and_r}
use Rattle.order.specs.Effects.{Effect}
use Rattle.syntax.specs.Types.{Ty, num, lim, by_type, on_cell, on_fn, on_grant, on_lim, on_num, on_pair}
use Rattle.syntax.specs.Commands.{Cmd, c_num, c_top, c_var, c_pair, c_part, c_fn, c_app, c_new, c_asg, c_read, c_sum, c_test, c_lim, c_grant, c_newkey, c_assoc, c_access, c_divide, c_spawn}
use Rattle.syntax.specs.Operands.{evaluated}
use Rattle.syntax.specs.Job.{Src}
use Rattle.typing.specs.Least.{Typed, typed, untyped, with, want_num, want_pair, want_cell, want_fn, want_lim, want_grant, require, var_type, of_var, keys_at, type_at}
use Rattle.semantics.specs.Machine.{Kind, Value, Store}
use Rattle.semantics.specs.Wants.{a_number, a_pair, a_function, a_cell, a_limit, a_grant, read, touches, alike, wants_of, by_kind, yes, no, suits, suit}
use Rattle.semantics.specs.Kinds.{Aside, Of, OfAll, of_cell, of_cons, of_fn, of_grant, of_lim, of_nil, of_num, of_pair, other_name, unbound}

no_number : {T : Ty} {e : Effect} {n : ℕ} {A : Type 0} → typed T e ≡ untyped n → A
no_number h = let z : ◌≡◌ {A = ℕ} 0 1 = cc in absurd (omega arith)

no_variable : (o : Option Ty) → of_var o ≡ untyped 11 → o ≡ none
unfolding of_var
no_variable none h = refl
no_variable (some T) h = no_number h

-- refusals 12, 13 and 16 are not 11
no_other : {A : Type 0} (n : ℕ) → n ≢ 11 → (b : Bool) {t : Typed} → (t ≡ untyped 11 → A) → require n b t ≡ untyped 11 → A
unfolding require
no_other n d true f h = f h
no_other n d false f h = absurd (d cc)

no_12 : {A : Type 0} (b : Bool) {t : Typed} → (t ≡ untyped 11 → A) → require 12 b t ≡ untyped 11 → A
no_12 b f h = no_other 12 (λ z. omega arith) b f h

-- refusal 11 by a condition, or past it
by_condition : {A : Type 0} (b : Bool) {t : Typed} → (t ≡ untyped 11 → A) → (b ≡ false → A) → require 11 b t ≡ untyped 11 → A
unfolding require
by_condition true f g h = f h
by_condition false f g h = g refl

-- a kind that suits is the one that typing wants
module _ (s : Store) {P : Type 0} where
  num_is : {A : Ty} {k : Kind} → Of A k → suits a_number k s ≡ true → (f : ℕ → Typed) → ((q : ℕ) → A ≡ num q → f q ≡ untyped 11 → P) → want_num A f ≡ untyped 11 → P
  unfolding suits by_kind yes no want_num on_num by_type
  num_is (of_num {q = q}) h f g e = g q refl e
  num_is of_pair h f g e = absurd (false≢true h)
  num_is of_cell h f g e = absurd (false≢true h)
  num_is of_fn h f g e = absurd (false≢true h)
  num_is of_lim h f g e = absurd (false≢true h)
  num_is of_grant h f g e = absurd (false≢true h)

  pair_is : {A : Ty} {k : Kind} → Of A k → suits a_pair k s ≡ true → (f : ℕ → Ty → Ty → Typed) → ((q : ℕ) (B C : Ty) → f q B C ≡ untyped 11 → P) → want_pair A f ≡ untyped 11 → P
  unfolding suits by_kind yes no want_pair on_pair by_type
  pair_is of_num h f g e = absurd (false≢true h)
  pair_is (of_pair {q = q} {A = B} {B = C}) h f g e = g q B C e
  pair_is of_cell h f g e = absurd (false≢true h)
  pair_is of_fn h f g e = absurd (false≢true h)
  pair_is of_lim h f g e = absurd (false≢true h)
  pair_is of_grant h f g e = absurd (false≢true h)

  cell_is : {A : Ty} {k : Kind} → Of A k → suits a_cell k s ≡ true → (f : ℕ → Ty → Typed) → ((q : ℕ) (B : Ty) → f q B ≡ untyped 11 → P) → want_cell A f ≡ untyped 11 → P
  unfolding suits by_kind yes no want_cell on_cell by_type
  cell_is of_num h f g e = absurd (false≢true h)
  cell_is of_pair h f g e = absurd (false≢true h)
  cell_is (of_cell {q = q} {A = B}) h f g e = g q B e
  cell_is of_fn h f g e = absurd (false≢true h)
  cell_is of_lim h f g e = absurd (false≢true h)
  cell_is of_grant h f g e = absurd (false≢true h)

  fn_is : {A : Ty} {k : Kind} → Of A k → suits a_function k s ≡ true → (f : ℕ → Ty → Ty → Effect → Typed) → ((q : ℕ) (B C : Ty) (l : Effect) → f q B C l ≡ untyped 11 → P) → want_fn A f ≡ untyped 11 → P
  unfolding suits by_kind yes no want_fn on_fn by_type
  fn_is of_num h f g e = absurd (false≢true h)
  fn_is of_pair h f g e = absurd (false≢true h)
  fn_is of_cell h f g e = absurd (false≢true h)
  fn_is (of_fn {q = q} {A = B} {B = C} {s = l}) h f g e = g q B C l e
  fn_is of_lim h f g e = absurd (false≢true h)
  fn_is of_grant h f g e = absurd (false≢true h)

  lim_is : {A : Ty} {k : Kind} → Of A k → suits a_limit k s ≡ true → (f : ℕ → ℕ → Typed) → ((q r : ℕ) → A ≡ lim q r → f q r ≡ untyped 11 → P) → want_lim A f ≡ untyped 11 → P
  unfolding suits by_kind yes no want_lim on_lim by_type
  lim_is of_num h f g e = absurd (false≢true h)
  lim_is of_pair h f g e = absurd (false≢true h)
  lim_is of_cell h f g e = absurd (false≢true h)
  lim_is of_fn h f g e = absurd (false≢true h)
  lim_is (of_lim {q = q} {r = r}) h f g e = g q r refl e
  lim_is of_grant h f g e = absurd (false≢true h)

  grant_is : {A : Ty} {k : Kind} → Of A k → suits a_grant k s ≡ true → (f : ℕ → ℕ → Typed) → ((q r : ℕ) → f q r ≡ untyped 11 → P) → want_grant A f ≡ untyped 11 → P
  unfolding suits by_kind yes no want_grant on_grant by_type
  grant_is of_num h f g e = absurd (false≢true h)
  grant_is of_pair h f g e = absurd (false≢true h)
  grant_is of_cell h f g e = absurd (false≢true h)
  grant_is of_fn h f g e = absurd (false≢true h)
  grant_is of_lim h f g e = absurd (false≢true h)
  grant_is (of_grant {q = q} {r = r}) h f g e = g q r e

module _ (S : Src) (ty : ℕ → Ty) (ef : ℕ → Effect) (s : Store) where
  -- every expression with a type and an effect
  abbrev pub tab : ℕ → Typed
  tab e = typed (ty e) (ef e)

  keys_is : {P : Type 0} (ks : List ℕ) {vs : List Value} → OfAll (map ty ks) vs → suit (alike (length vs) (touches read a_limit)) vs s ≡ true
      → (f : List ℕ → Effect → Typed) → ((rs : List ℕ) (t : Effect) → f rs t ≡ untyped 11 → P) → keys_at tab ks f ≡ untyped 11 → P
  unfolding keys_at with suit alike
  keys_is [] of_nil h f g e = g _ _ e
  keys_is (a ∷ ks) (of_cons k o) h f g e = lim_is s k (and_l _ _ h) _ (λ q r z w. keys_is ks o (and_r _ _ h) _ (λ rs t x. g _ _ x) w) e

  -- the theorem
  pub wrong_is_11 : (k : Cmd Ty) {h : List Value} → OfAll (map ty (evaluated k)) h → suit (wants_of k (length h)).uses h s ≡ true → type_at S tab k ≡ untyped 11 → Aside S ty k
  unfolding wants_of suit evaluated type_at with
  wrong_is_11 (c_num n) o a e = no_number e
  wrong_is_11 c_top o a e = no_number e
  wrong_is_11 (c_var x) o a e = unbound (no_variable (var_type S x) e)
  wrong_is_11 (c_pair x y) o a e = no_number e
  wrong_is_11 (c_part x i) (of_cons k of_nil) a e = pair_is s k (and_l _ _ a) _ (λ q B C z. no_number z) e
  wrong_is_11 (c_fn x T b) o a e = no_number e
  wrong_is_11 (c_app x y) (of_cons k o) a e = fn_is s k (and_l _ _ a) _ (λ q B C l z. no_12 _ no_number z) e
  wrong_is_11 (c_new T x) o a e = no_12 _ no_number e
  wrong_is_11 (c_asg x y) (of_cons k o) a e = cell_is s k (and_l _ _ a) _ (λ q B z. no_12 _ no_number z) e
  wrong_is_11 (c_read x) (of_cons k o) a e = cell_is s k (and_l _ _ a) _ (λ q B z. no_number z) e
  wrong_is_11 (c_sum i x y) (of_cons k (of_cons l o)) a e = num_is s k (and_l _ _ a) _ (λ p c z. num_is s l (and_l _ _ (and_r _ _ a)) _ (λ q d y. no_number y) z) e
  wrong_is_11 (c_test x y z T) (of_cons k o) a e = num_is s k (and_l _ _ a) _ (λ q c w. no_12 _ (no_12 _ no_number) w) e
  wrong_is_11 (c_lim ks b) o a e = keys_is ks o a _ (λ rs t z. no_other 13 (λ w. omega arith) _ no_number z) e
  wrong_is_11 (c_grant x b) (of_cons k o) a e = grant_is s k (and_l _ _ a) _ (λ q r z. no_number z) e
  wrong_is_11 (c_newkey x r y b T) (of_cons k o) a e = lim_is s k (and_l _ _ a) _ (λ q u i z. by_condition _ (no_12 _ no_number) (λ j. other_name i j) z) e
  wrong_is_11 (c_assoc x y) (of_cons k (of_cons l o)) a e = lim_is s l (and_l _ _ (and_r _ _ a)) _ (λ q r i z. no_number z) e
  wrong_is_11 (c_access x y z T) (of_cons k o) a e = lim_is s k (and_l _ _ a) _ (λ q r i w. no_12 _ (no_12 _ no_number) w) e
  wrong_is_11 (c_divide x y) (of_cons k (of_cons l o)) a e = num_is s k (and_l _ _ a) _ (λ p c z. num_is s l (and_l _ _ (and_r _ _ a)) _ (λ q d y. no_number y) z) e
  wrong_is_11 (c_spawn b) o a e = no_other 16 (λ w. omega arith) _ no_number e
