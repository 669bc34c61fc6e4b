-- 16 is the refusal of a 0x42 alone (F-6 of document 02): bytes are refused with 16 only where they are a job, at a 0x42 whose body has a type, with a least effect that has a name.
use Rattle.std.specs.Prelude.{◌≡◌, ℕ, zero, suc, ◌+◌, ◌≤◌, ◌<◌, Bool, true, false, ◌⊎◌, length}
use Rattle.std.proofs.Math.Path.{refl}
use Rattle.std.proofs.Common.{sym, ap, ◌∙◌, subst, arith, inl, inr}
use mathlib.Core.List.{List, [], ◌∷◌}
use Rattle.std.proofs.Math.Option.{Option, none, some}
use Rattle.order.specs.Effects.{Effect, pure, eff_below}
use Rattle.syntax.specs.Types.{Ty, num, pair, cell, fn, lim, grant, by_type, on_num, on_pair, on_cell, on_fn, on_lim, on_grant}
use Rattle.syntax.specs.Commands.{Cmd, c_num, c_top, c_var, c_pair, c_part, c_fn, c_app, c_new, c_asg, c_read, c_sum, c_test, c_lim, c_grant, c_newkey, c_assoc, c_access, c_divide, c_spawn}
use Rattle.syntax.specs.Operands.{nth}
use Rattle.syntax.specs.Job.{Job, Src, source_of, up_of}
use Rattle.syntax.specs.Reading.{Refusal, read, reading}
use Rattle.syntax.specs.Tree.{root, tree_refusal}
use Rattle.typing.specs.Least.{Typed, typed, untyped, with, want_num, want_pair, want_cell, want_fn, want_lim, want_grant, require, of_var, var_type, keys_at, type_at, get, types_to, types, type_of, first_untyped}
use Rattle.typing.proofs.Filled.{types_to_length, seen, type_of_is, untyped_not}
use Rattle.typing.proofs.SpawnLaws.{spawn_16}
use Rattle.typing.specs.Verdict.{Verdict, accept, refuse, unless, within, judged, judge, judge_read, verdict_of}
use Rattle.typing.specs.RefusalLaws.{Among, no_refusal, among}
use Rattle.typing.proofs.RefusalLaws.{tree_among, refused_read}
use Rattle.typing.specs.SpawnRefused.{SpawnEffect}

abbrev Other : Typed → Type 0
Other o = o ≡ untyped 16 → ⊥

typed_other : {T : Ty} {s : Effect} → Other (typed T s)
typed_other h = untyped_not (sym h)

other : (n : ℕ) → n < 16 → Other (untyped n)
other n l h = let e : n ≡ 16 = cc in omega (arith, e, l)

with_other : (o : Typed) {f : Ty → Effect → Typed} → Other o → ((T : Ty) (s : Effect) → Other (f T s)) → Other (with o f)
unfolding with
with_other (typed T s) g h = h T s
with_other (untyped n) g h = g

require_other : (n : ℕ) → n < 16 → (b : Bool) {o : Typed} → Other o → Other (require n b o)
unfolding require
require_other n l true g = g
require_other n l false g = other n l

wrong_kind : Other (untyped 11)
wrong_kind = other 11 (omega arith)

num_other : (T : Ty) {f : ℕ → Typed} → ((q : ℕ) → Other (f q)) → Other (want_num T f)
unfolding want_num on_num by_type
num_other (num q) g = g q
num_other (pair q A B) g = wrong_kind
num_other (cell q A) g = wrong_kind
num_other (fn q A B t) g = wrong_kind
num_other (lim q r) g = wrong_kind
num_other (grant q r) g = wrong_kind

pair_other : (T : Ty) {f : ℕ → Ty → Ty → Typed} → ((q : ℕ) (A B : Ty) → Other (f q A B)) → Other (want_pair T f)
unfolding want_pair on_pair by_type
pair_other (num q) g = wrong_kind
pair_other (pair q A B) g = g q A B
pair_other (cell q A) g = wrong_kind
pair_other (fn q A B t) g = wrong_kind
pair_other (lim q r) g = wrong_kind
pair_other (grant q r) g = wrong_kind

cell_other : (T : Ty) {f : ℕ → Ty → Typed} → ((q : ℕ) (A : Ty) → Other (f q A)) → Other (want_cell T f)
unfolding want_cell on_cell by_type
cell_other (num q) g = wrong_kind
cell_other (pair q A B) g = wrong_kind
cell_other (cell q A) g = g q A
cell_other (fn q A B t) g = wrong_kind
cell_other (lim q r) g = wrong_kind
cell_other (grant q r) g = wrong_kind

fn_other : (T : Ty) {f : ℕ → Ty → Ty → Effect → Typed} → ((q : ℕ) (A B : Ty) (t : Effect) → Other (f q A B t)) → Other (want_fn T f)
unfolding want_fn on_fn by_type
fn_other (num q) g = wrong_kind
fn_other (pair q A B) g = wrong_kind
fn_other (cell q A) g = wrong_kind
fn_other (fn q A B t) g = g q A B t
fn_other (lim q r) g = wrong_kind
fn_other (grant q r) g = wrong_kind

lim_other : (T : Ty) {f : ℕ → ℕ → Typed} → ((q r : ℕ) → Other (f q r)) → Other (want_lim T f)
unfolding want_lim on_lim by_type
lim_other (num q) g = wrong_kind
lim_other (pair q A B) g = wrong_kind
lim_other (cell q A) g = wrong_kind
lim_other (fn q A B t) g = wrong_kind
lim_other (lim q r) g = g q r
lim_other (grant q r) g = wrong_kind

grant_other : (T : Ty) {f : ℕ → ℕ → Typed} → ((q r : ℕ) → Other (f q r)) → Other (want_grant T f)
unfolding want_grant on_grant by_type
grant_other (num q) g = wrong_kind
grant_other (pair q A B) g = wrong_kind
grant_other (cell q A) g = wrong_kind
grant_other (fn q A B t) g = wrong_kind
grant_other (lim q r) g = wrong_kind
grant_other (grant q r) g = g q r

var_other : (o : Option Ty) → Other (of_var o)
unfolding of_var
var_other none = wrong_kind
var_other (some T) = typed_other

module _ (S : Src) (tab : ℕ → Typed) (low : (e : ℕ) → Other (tab e)) where
  keys_other : (ks : List ℕ) {f : List ℕ → Effect → Typed} → ((rs : List ℕ) (s : Effect) → Other (f rs s)) → Other (keys_at tab ks f)
  unfolding keys_at
  keys_other [] g = g [] pure
  keys_other (a ∷ ks) g = with_other (tab a) (low a) (λ K s. lim_other K (λ q r. keys_other ks (λ rs t. g _ _)))

  two : (a b : ℕ) {f : Ty → Effect → Ty → Effect → Typed} → ((A : Ty) (s : Effect) (B : Ty) (t : Effect) → Other (f A s B t)) → Other (with (tab a) (λ A s. with (tab b) (λ B t. f A s B t)))
  two a b g = with_other (tab a) (low a) (λ A s. with_other (tab b) (low b) (λ B t. g A s B t))

  spawned : (b : ℕ) (o : Typed) → tab b ≡ o → type_at S tab (c_spawn b) ≡ untyped 16 → SpawnEffect tab (c_spawn b)
  unfolding type_at with
  spawned b (typed T t) e h = record { body = b; is = refl; type = T; effect = t; has = e; named = (spawn_16 S tab e).0 h }
  spawned b (untyped n) e h = absurd (low b (e ∙ (let z : untyped n ≡ untyped 16 = rw e at h in z)))

  -- no other command is refused with 16, where no operand is
  pub spawn_only : (c : Cmd Ty) → type_at S tab c ≡ untyped 16 → SpawnEffect tab c
  unfolding type_at
  spawn_only (c_num n) h = absurd (typed_other h)
  spawn_only c_top h = absurd (typed_other h)
  spawn_only (c_var x) h = absurd (var_other (var_type S x) h)
  spawn_only (c_pair a b) h = absurd (two a b (λ A s B t. typed_other) h)
  spawn_only (c_part a i) h = absurd (with_other (tab a) (low a) (λ P s. pair_other P (λ q A B. typed_other)) h)
  spawn_only (c_fn x T b) h = absurd (with_other (tab b) (low b) (λ U s. typed_other) h)
  spawn_only (c_app f a) h = absurd (two f a (λ F s A t. fn_other F (λ q T U l. require_other 12 (omega arith) _ typed_other)) h)
  spawn_only (c_new T a) h = absurd (with_other (tab a) (low a) (λ A s. require_other 12 (omega arith) _ typed_other) h)
  spawn_only (c_asg a b) h = absurd (two a b (λ C s A t. cell_other C (λ q T. require_other 12 (omega arith) _ typed_other)) h)
  spawn_only (c_read a) h = absurd (with_other (tab a) (low a) (λ C s. cell_other C (λ q T. typed_other)) h)
  spawn_only (c_sum i a b) h = absurd (two a b (λ A s B t. num_other A (λ p. num_other B (λ q. typed_other))) h)
  spawn_only (c_test a b c T) h =
      absurd
      (two a b (λ A s B t. with_other (tab c) (low c) (λ C u. num_other A (λ q. require_other 12 (omega arith) _ (require_other 12 (omega arith) _ typed_other)))) h)
  spawn_only (c_lim ks b) h = absurd (keys_other ks (λ rs s. with_other (tab b) (low b) (λ T t. require_other 13 (omega arith) _ typed_other)) h)
  spawn_only (c_grant a b) h = absurd (two a b (λ A s T t. grant_other A (λ q r. typed_other)) h)
  spawn_only (c_newkey x r a b T) h =
      absurd (two a b (λ A s B t. lim_other A (λ q u. require_other 11 (omega arith) _ (require_other 12 (omega arith) _ typed_other))) h)
  spawn_only (c_assoc a b) h = absurd (two a b (λ A s B t. lim_other B (λ q r. typed_other)) h)
  spawn_only (c_access a b c T) h =
      absurd
      (two a b (λ A s B t. with_other (tab c) (low c) (λ C u. lim_other A (λ q r. require_other 12 (omega arith) _ (require_other 12 (omega arith) _ typed_other)))) h)
  spawn_only (c_divide a b) h = absurd (two a b (λ A s B t. num_other A (λ p. num_other B (λ q. typed_other))) h)
  spawn_only (c_spawn b) h = spawned b (tab b) refl h

-- the first that has no type: those before it have one
record FirstOf (l : List Typed) (i : ℕ) (q : Refusal) : Type 0 where
  k : ℕ
  there : k < length l
  place : q.place ≡ i + k
  number : get l k ≡ untyped q.number
  before : (j : ℕ) → j < k → (T : Ty) × (s : Effect) × (get l j ≡ typed T s)

first_of : (l : List Typed) (i : ℕ) (q : Refusal) → first_untyped i l ≡ some q → FirstOf l i q
unfolding first_untyped get
first_of [] i q h = absurd (let z : ◌≡◌ {A = ℕ} 0 1 = cc in omega arith)
first_of (typed T s ∷ l) i q h =
    let f = first_of l (suc i) q h in
    record { k = suc f.k; there = omega (arith, f.there); place = omega (arith, f.place); number = f.number; before = at f.before }
  where
    at : {k : ℕ} → ((j : ℕ) → j < k → (A : Ty) × (t : Effect) × (get l j ≡ typed A t)) → (j : ℕ) → j < suc k → (A : Ty) × (t : Effect) × (get (typed T s ∷ l) j ≡ typed A t)
    at g zero h = (T, s, refl)
    at g (suc j) h = g j (omega arith)
first_of (untyped n ∷ l) i q h =
    let e : n ≡ q.number = cc in
    let p : i ≡ q.place = cc in
    record { k = 0; there = omega arith; place = omega (arith, p); number = ap untyped e; before = λ j z. absurd (omega arith) }

below_or : (e k : ℕ) → (e < k) ⊎ (k ≤ e)
below_or e zero = inr (omega arith)
below_or zero (suc k) = inl (omega arith)
below_or (suc e) (suc k) = at (below_or e k)
  where
    at : (e < k) ⊎ (k ≤ e) → (suc e < suc k) ⊎ (suc k ≤ suc e)
    at (inl h) = inl (omega arith)
    at (inr h) = inr (omega arith)

past : (l : List Typed) (e : ℕ) → length l ≤ e → get l e ≡ untyped 0
unfolding get
past [] e h = refl
past (o ∷ l) zero h = absurd (omega arith)
past (o ∷ l) (suc e) h = past l e (omega arith)

-- typing refuses with 16 only there
typing_16 : (S : Src) (q : Refusal) → first_untyped 0 (types S) ≡ some q → q.number ≡ 16 → SpawnEffect (type_of S) (nth S.cmds q.place)
unfolding type_of types
typing_16 S q h n = at (first_of (types S) 0 q h)
  where
    at : FirstOf (types S) 0 q → SpawnEffect (type_of S) (nth S.cmds q.place)
    at f = subst (λ e. SpawnEffect (type_of S) (nth S.cmds e)) p (widened (spawn_only S tab low (nth S.cmds k) (sym (type_of_is S k inside) ∙ f.number ∙ ap untyped n)))
      where
        k : ℕ
        k = f.k

        p : k ≡ q.place
        p = omega (arith, f.place)

        inside : k < length S.cmds
        inside = omega (arith, f.there, types_to_length S (length S.cmds))

        tab : ℕ → Typed
        tab = get (types_to S k)

        beyond : (e : ℕ) → k ≤ e → tab e ≡ untyped 0
        beyond e l = past (types_to S k) e (omega (arith, types_to_length S k, l))

        same : (e : ℕ) → e < k → tab e ≡ type_of S e
        same e l = seen S k e (omega (arith, inside)) l

        each : (e : ℕ) → (e < k) ⊎ (k ≤ e) → Other (tab e)
        each e (inl l) h = let z = f.before e l in untyped_not (sym h ∙ same e l ∙ z.2)
        each e (inr l) h = other 0 (omega arith) (sym (beyond e l) ∙ h)

        low : (e : ℕ) → Other (tab e)
        low e = each e (below_or e k)

        of : (e : ℕ) {T : Ty} {t : Effect} → tab e ≡ typed T t → (e < k) ⊎ (k ≤ e) → type_of S e ≡ typed T t
        of e h (inl l) = sym (same e l) ∙ h
        of e h (inr l) = untyped_not (sym (beyond e l) ∙ h)

        widened : {c : Cmd Ty} → SpawnEffect tab c → SpawnEffect (type_of S) c
        widened x = record { body = x.body; is = x.is; type = x.type; effect = x.effect; has = of x.body x.has (below_or x.body k); named = x.named }

-- where none is without a type, none has the number of a refusal
none_first : (l : List Typed) (i : ℕ) → first_untyped i l ≡ none → (k : ℕ) → k < length l → {n : ℕ} → get l k ≡ untyped n → ⊥
unfolding first_untyped get
none_first [] i h k l e = omega arith
none_first (typed T s ∷ l) i h zero z e = untyped_not (sym e)
none_first (typed T s ∷ l) i h (suc k) z e = none_first l (suc i) h k (omega arith) e
none_first (untyped n ∷ l) i h k z e = let y : ◌≡◌ {A = ℕ} 0 1 = cc in omega arith

tree_not : {k : ℕ} {o : Option Refusal} {q : Refusal} → Among 8 10 k o → o ≡ some q → q.number ≡ 16 → ⊥
tree_not no_refusal e n = let y : ◌≡◌ {A = ℕ} 0 1 = cc in omega arith
tree_not {q = q} (among p a b h) e n = let z : p ≡ q = cc in let y : p.number ≡ q.number = ap (λ (x : Refusal). x.number) z in omega (arith, y, b, n)

-- bytes are refused with 16 only there
pub refused_16 : (s : List ℕ) (q : Refusal) → verdict_of s ≡ refuse q → q.number ≡ 16 → (J : Job) × (reading s ≡ read J) × SpawnEffect (type_of (source_of J)) (nth (source_of J).cmds q.place)
unfolding verdict_of judge_read judge unless judged within type_of
refused_16 s q e n = let z = refused_read s q e (omega (arith, n)) in (z.0, z.1, tree z.0 (tree_refusal (source_of z.0)) refl (sym (ap judge_read z.1) ∙ e))
  where
    number : Verdict → ℕ
    number (accept T t) = 0
    number (refuse r) = r.number

    not_14 : (k : ℕ) (T : Ty) (t : Effect) (b : Bool) → within b k T t ≡ refuse q → ⊥
    not_14 k T t true h = let y : 0 ≡ q.number = ap number h in omega (arith, y, n)
    not_14 k T t false h = let y : 14 ≡ q.number = ap number h in omega (arith, y, n)

    last : (S : Src) → first_untyped 0 (types S) ≡ none → (o : Typed) → type_of S (root S) ≡ o → judged S o ≡ refuse q → ⊥
    last S f (typed T t) g h = not_14 (root S) T t (eff_below (up_of S) t S.rights) h
    last S f (untyped k) g h = at (below_or (root S) (length (types S)))
      where
        at : (root S < length (types S)) ⊎ (length (types S) ≤ root S) → ⊥
        at (inl l) = none_first (types S) 0 f (root S) l g
        at (inr l) = let y : k ≡ q.number = ap number h in let z : untyped 0 ≡ untyped k = sym (past (types S) (root S) l) ∙ g in let w : 0 ≡ k = cc in omega (arith, y, n, w)

    typing : (S : Src) (o : Option Refusal) → first_untyped 0 (types S) ≡ o → unless o (judged S (type_of S (root S))) ≡ refuse q → SpawnEffect (type_of S) (nth S.cmds q.place)
    typing S none f g = absurd (last S f (type_of S (root S)) refl g)
    typing S (some r) f g = let z : r ≡ q = cc in typing_16 S q (f ∙ ap some z) n

    tree : (K : Job) (o : Option Refusal) → tree_refusal (source_of K) ≡ o → unless o (unless (first_untyped 0 (types (source_of K))) (judged (source_of K) (type_of (source_of K) (root (source_of K))))) ≡ refuse q
        → SpawnEffect (type_of (source_of K)) (nth (source_of K).cmds q.place)
    tree K none f g = typing (source_of K) (first_untyped 0 (types (source_of K))) refl g
    tree K (some r) f g = let z : r ≡ q = cc in absurd (tree_not (tree_among K) (f ∙ ap some z) n)
