-- The table of types is filled in order, and an entry stays as it was written; what a typed command says of its operands.
use Rattle.std.specs.Prelude.{◌≡◌, ℕ, zero, suc, ◌≤◌, ◌<◌, Bool, List, [], ◌∷◌, ◌++◌, ◌≢◌, length, eqb}
use Rattle.std.proofs.Math.Path.{refl, subst⁻¹}
use Rattle.std.proofs.Common.{sym, ap, ◌∙◌, arith, eqb-true}
use Rattle.std.proofs.Math.Bool.{true, false}
use Rattle.std.proofs.Math.Option.{Option, none, some}
use Rattle.std.proofs.lemmas.Bool.{eqb-false}
use Rattle.order.proofs.OrderLaws.{length_snoc}
use Rattle.order.specs.Effects.{Effect, pure}
use Rattle.syntax.specs.Types.{Ty, num, pair, cell, fn, lim, grant, by_type, on_cell, on_fn, on_grant, on_lim, on_num, on_pair}
use Rattle.syntax.specs.Operands.{nth}
use Rattle.syntax.specs.Job.{Src}
use Rattle.typing.specs.Least.{Typed, typed, untyped, with, want_num, want_pair, want_cell, want_fn, want_lim, want_grant, require, of_var, type_at, get, extend, types_to, types, type_of, first_untyped}

-- The table

get_old : (l m : List Typed) (c : ℕ) → c < length l → get (l ++ m) c ≡ get l c
unfolding get
get_old [] m c h = absurd (omega arith)
get_old (x ∷ l) m zero h = refl
get_old (x ∷ l) m (suc c) h = get_old l m c (omega arith)

get_new : (l : List Typed) (x : Typed) → get (l ++ (x ∷ [])) (length l) ≡ x
unfolding get
get_new [] x = refl
get_new (y ∷ l) x = get_new l x

pub types_to_length : (S : Src) (n : ℕ) → length (types_to S n) ≡ n
unfolding types_to extend
types_to_length S zero = refl
types_to_length S (suc n) = length_snoc (types_to S n) _ ∙ ap suc (types_to_length S n)

row : Src → ℕ → Typed
row S e = type_at S (get (types_to S e)) (nth S.cmds e)

entry : (S : Src) (n c : ℕ) → c < n → get (types_to S n) c ≡ row S c
unfolding types_to extend row
entry S zero c h = absurd (omega arith)
entry S (suc n) c h = at (eqb c n) refl (λ l. entry S n c l)
  where
    at : (b : Bool) → eqb c n ≡ b → (c < n → get (types_to S n) c ≡ row S c) → get (types_to S n ++ (row S n ∷ [])) c ≡ row S c
    at true e f = let z : c ≡ n = eqb-true c n e in
        subst⁻¹ (λ i. get (types_to S n ++ (row S n ∷ [])) i ≡ row S i) z (ap (get (types_to S n ++ (row S n ∷ []))) (sym (types_to_length S n)) ∙ get_new (types_to S n) (row S n))
    at false e f = let z : c ≢ n = eqb-false c n e in let l : c < n = omega arith in get_old (types_to S n) _ c (omega (arith, l, types_to_length S n)) ∙ f l

-- what the expressions before e saw is what is there in the end
pub seen : (S : Src) (e c : ℕ) → e ≤ length S.cmds → c < e → get (types_to S e) c ≡ type_of S c
unfolding type_of types
seen S e c h k = entry S e c k ∙ sym (entry S (length S.cmds) c (omega arith))

-- and each is typed by those before it
pub type_of_is : (S : Src) (e : ℕ) → e < length S.cmds → type_of S e ≡ type_at S (get (types_to S e)) (nth S.cmds e)
unfolding type_of types row
type_of_is S e h = entry S (length S.cmds) e h

-- What is typed

pub untyped_not : {X : Type 0} {n : ℕ} {T : Ty} {s : Effect} → untyped n ≡ typed T s → X
untyped_not e = let z : ◌≡◌ {A = ℕ} 0 1 = cc in absurd (omega arith)

-- where every expression is typed, none is the first that is not
pub all_typed : (l : List Typed) (i : ℕ) → ((e : ℕ) → e < length l → (T : Ty) × (s : Effect) × (get l e ≡ typed T s)) → first_untyped i l ≡ none
unfolding first_untyped get
all_typed [] i f = refl
all_typed (typed T s ∷ l) i f = all_typed l (suc i) (λ e h. f (suc e) (omega arith))
all_typed (untyped n ∷ l) i f = untyped_not (f 0 (omega arith)).2

pub typed_ty : {A T : Ty} {s t : Effect} → typed A s ≡ typed T t → A ≡ T
typed_ty e = cc

pub typed_eff : {A T : Ty} {s t : Effect} → typed A s ≡ typed T t → s ≡ t
typed_eff e = cc

pub of_var_lem : (o : Option Ty) {A T : Ty} {s : Effect} → o ≡ some A → of_var o ≡ typed T s → typed A pure ≡ typed T s
unfolding of_var
of_var_lem o {A} e h = rw e at h

-- where a command is typed its parts were
module _ {X : Type 0} {T : Ty} {s : Effect} where
  pub by_with : (o : Typed) (f : Ty → Effect → Typed) → with o f ≡ typed T s → ((A : Ty) (t : Effect) → o ≡ typed A t → f A t ≡ typed T s → X) → X
  unfolding with
  by_with (typed A t) f h g = g A t refl h
  by_with (untyped n) f h g = untyped_not h

  pub by_require : (n : ℕ) (b : Bool) (o : Typed) → require n b o ≡ typed T s → (b ≡ true → o ≡ typed T s → X) → X
  unfolding require
  by_require n true o h g = g refl h
  by_require n false o h g = untyped_not h

  pub by_num : (P : Ty) (f : ℕ → Typed) → want_num P f ≡ typed T s → ((q : ℕ) → P ≡ num q → f q ≡ typed T s → X) → X
  unfolding want_num on_num by_type
  by_num (num q) f h g = g q refl h
  by_num (pair q A B) f h g = untyped_not h
  by_num (cell q A) f h g = untyped_not h
  by_num (fn q A B t) f h g = untyped_not h
  by_num (lim q r) f h g = untyped_not h
  by_num (grant q r) f h g = untyped_not h

  pub by_pair : (P : Ty) (f : ℕ → Ty → Ty → Typed) → want_pair P f ≡ typed T s → ((q : ℕ) (A B : Ty) → P ≡ pair q A B → f q A B ≡ typed T s → X) → X
  unfolding want_pair on_pair by_type
  by_pair (num q) f h g = untyped_not h
  by_pair (pair q A B) f h g = g q A B refl h
  by_pair (cell q A) f h g = untyped_not h
  by_pair (fn q A B t) f h g = untyped_not h
  by_pair (lim q r) f h g = untyped_not h
  by_pair (grant q r) f h g = untyped_not h

  pub by_cell : (P : Ty) (f : ℕ → Ty → Typed) → want_cell P f ≡ typed T s → ((q : ℕ) (A : Ty) → P ≡ cell q A → f q A ≡ typed T s → X) → X
  unfolding want_cell on_cell by_type
  by_cell (num q) f h g = untyped_not h
  by_cell (pair q A B) f h g = untyped_not h
  by_cell (cell q A) f h g = g q A refl h
  by_cell (fn q A B t) f h g = untyped_not h
  by_cell (lim q r) f h g = untyped_not h
  by_cell (grant q r) f h g = untyped_not h

  pub by_fn : (P : Ty) (f : ℕ → Ty → Ty → Effect → Typed) → want_fn P f ≡ typed T s → ((q : ℕ) (A B : Ty) (t : Effect) → P ≡ fn q A B t → f q A B t ≡ typed T s → X) → X
  unfolding want_fn on_fn by_type
  by_fn (num q) f h g = untyped_not h
  by_fn (pair q A B) f h g = untyped_not h
  by_fn (cell q A) f h g = untyped_not h
  by_fn (fn q A B t) f h g = g q A B t refl h
  by_fn (lim q r) f h g = untyped_not h
  by_fn (grant q r) f h g = untyped_not h

  pub by_lim : (P : Ty) (f : ℕ → ℕ → Typed) → want_lim P f ≡ typed T s → ((q r : ℕ) → P ≡ lim q r → f q r ≡ typed T s → X) → X
  unfolding want_lim on_lim by_type
  by_lim (num q) f h g = untyped_not h
  by_lim (pair q A B) f h g = untyped_not h
  by_lim (cell q A) f h g = untyped_not h
  by_lim (fn q A B t) f h g = untyped_not h
  by_lim (lim q r) f h g = g q r refl h
  by_lim (grant q r) f h g = untyped_not h

  pub by_grant : (P : Ty) (f : ℕ → ℕ → Typed) → want_grant P f ≡ typed T s → ((q r : ℕ) → P ≡ grant q r → f q r ≡ typed T s → X) → X
  unfolding want_grant on_grant by_type
  by_grant (num q) f h g = untyped_not h
  by_grant (pair q A B) f h g = untyped_not h
  by_grant (cell q A) f h g = untyped_not h
  by_grant (fn q A B t) f h g = untyped_not h
  by_grant (lim q r) f h g = untyped_not h
  by_grant (grant q r) f h g = g q r refl h
