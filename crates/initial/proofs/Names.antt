-- The names of a job, entered one after another.
use Prim.Native.Nat.{ℕ, zero, suc, ◌+◌, ◌-◌, ◌/◌, ◌%◌, ◌<◌, ◌≤◌}
use mathlib.Core.Path.{◌≡◌, refl, ap, sym, ◌∙◌, subst}
use mathlib.Core.Bool.{Bool, true, false}
use mathlib.Core.List.{List, [], ◌∷◌, ◌++◌}
use native.Mathlib.Omega.{arith}
use native.Mathlib.Numerals.{add-one}
use borrow.Author.Tests.{eq-eqb, ne_eqb}
use lib.ListN.{length, get_or, set}
use lib.ListN.{get_or-eq_default}
use Rattle.order.proofs.OrderLaws.{get_elem?_get_d, length_snoc}
use Rattle.syntax.specs.Job.{Name}
use Rattle.semantics.specs.Machine.{b_name}
use Rattle.semantics.specs.Start.{bind_to, Named, add_name, add_names}
use Rattle.names.specs.Ancestors.{name_of, names_in}
use Rattle.store.specs.Words.{up_in, link_in}
use Rattle.store.specs.Tables.{Wrote, list_of}
use Rattle.store.proofs.Laws.{list_length, list_extended, list_get}
use Rattle.store.proofs.Writes.{up_put}
use Rattle.initial.specs.Entries.{key_in, Within, named_in, unnamed, NameEntered, NamesEntered}

pub key_at : (of : List ℕ) (n q : ℕ) → q < n → get_or of q 0 ≡ key_in of n q
unfolding up_in
key_at of n q h = sym (get_elem?_get_d (list_of up_in of n) q (get_or of q 0) 0 (list_get up_in of n q h))

pub key_past : (of : List ℕ) (n q : ℕ) → n ≤ q → 0 ≡ key_in of n q
key_past of n q h = sym (get_or-eq_default (list_of up_in of n) 0 (omega (arith, list_length up_in of n)))

-- the key of a name is stored
pub key_stored : (of : List ℕ) (i k : ℕ) → i < length of → Wrote up_in of (set of i k) i k
key_stored of i k h = (up_put of (set of i k) i k (length of) refl (record { same = refl })).wrote h

-- one name more
pub add_snoc : (l : List Name) (d : Name) (s : Named) → add_names (l ++ (d ∷ [])) s ≡ add_name d (add_names l s)
unfolding add_names
add_snoc [] d s = refl
add_snoc (x ∷ l) d s = add_snoc l d (add_name x s)

module _ (names keys of bindings keys' of' bindings' : List ℕ) (a nkeys w : ℕ) (ew : w ≡ get_or names a 0) where
  pub host_entered :
      (up : ℕ) → 2 ≤ nkeys → nkeys ≤ a → w / 256 ≡ 1 → up ≡ key_in of a (w % 256) → Wrote up_in keys keys' nkeys up → Wrote up_in of of' a nkeys →
      Wrote link_in bindings bindings' (nkeys - 2) (record { bind = b_name a nkeys; next = nkeys - 2 }) →
      NameEntered names a nkeys keys of bindings keys' of' bindings' (nkeys + 1)
  unfolding named_in add_name name_of bind_to
  host_entered up h g e u wk wo wb =
      let m : nkeys + 1 - 2 ≡ nkeys - 2 + 1 = omega arith in
      record {
        same = simp (← ew, eq-eqb _ _ e, m, list_extended up_in keys keys' nkeys up wk, list_extended up_in of of' a nkeys wo, list_extended link_in bindings bindings' (nkeys - 2) _ wb, u, list_length);
        low = omega arith;
        few = omega arith;
      }

  pub local_entered :
      2 ≤ nkeys → nkeys ≤ a → (w / 256 ≡ 1 → ⊥) → Wrote up_in of of' a 0 → NameEntered names a nkeys keys of bindings keys of' bindings nkeys
  unfolding named_in add_name name_of
  local_entered h g e wo = record { same = simp (← ew, ne_eqb _ _ e, list_extended up_in of of' a 0 wo); low = h; few = omega arith }

-- 0 and 1
pub first_two :
    (k₀ k₁ k₂ o₀ o₁ o₂ b : List ℕ) → Wrote up_in k₀ k₁ 0 0 → Wrote up_in k₁ k₂ 1 1 → Wrote up_in o₀ o₁ 0 0 → Wrote up_in o₁ o₂ 1 1 → (names : List ℕ) →
    NamesEntered (names_in names 0) k₂ o₂ b 2 (0 + 2)
unfolding named_in add_names names_in list_of
first_two k₀ k₁ k₂ o₀ o₁ o₂ b p q r s names =
    record {
      same = simp (q.there 0 (λ z. omega arith), p.here, q.here, s.there 0 (λ z. omega arith), r.here, s.here);
      low = omega arith;
      few = omega arith;
    }

pub next_name :
    {names keys of bindings keys' of' bindings' : List ℕ} (k : ℕ) {nkeys r : ℕ} → NamesEntered (names_in names k) keys of bindings nkeys (k + 2) →
    NameEntered names (k + 2) nkeys keys of bindings keys' of' bindings' r → NamesEntered (names_in names (k + 1)) keys' of' bindings' r (k + 1 + 2)
unfolding names_in
next_name {names} {keys} {of} {bindings} {keys'} {of'} {bindings'} k {nkeys} {r} e s =
    let x : k + 2 + 1 ≡ k + 1 + 2 = omega arith in
    let y : k + 2 ≡ 2 + k = omega arith in
    record {
      same = ap (named_in keys' of' bindings' r) (sym x) ∙ s.same ∙ ap (add_name (name_of (get_or names (k + 2) 0))) e.same
          ∙ ap (λ (i : ℕ). add_name (name_of (get_or names i 0)) (add_names (names_in names k) unnamed)) y
          ∙ sym (ap (λ (i : ℕ). add_names (names_in names i) unnamed) (add-one k) ∙ add_snoc (names_in names k) (name_of (get_or names (2 + k) 0)) unnamed);
      low = s.low;
      few = omega (arith, s.few);
    }

pub all_named :
    (names : List ℕ) {keys of bindings : List ℕ} (k n : ℕ) {r : ℕ} → n ≤ k → k ≤ n → NamesEntered (names_in names k) keys of bindings r (k + 2) →
    NamesEntered (names_in names n) keys of bindings r (n + 2)
all_named names {keys} {of} {bindings} k n {r} h g e =
    let z : k ≡ n = omega arith in
    subst (λ (i : ℕ). NamesEntered (names_in names i) keys of bindings r (i + 2)) z e

-- the key of a name is one of the keys
below_snoc : (l : List ℕ) (x m : ℕ) → ((q : ℕ) → get_or l q 0 < m) → x < m → (q : ℕ) → get_or (l ++ (x ∷ [])) q 0 < m
below_snoc [] x m f h zero = h
below_snoc [] x m f h (suc q) = omega arith
below_snoc (y ∷ l) x m f h zero = f 0
below_snoc (y ∷ l) x m f h (suc q) = below_snoc l x m (λ p. f (suc p)) h q

add_below : (d : Name) (s : Named) → ((q : ℕ) → get_or s.of q 0 < length s.keys) → (q : ℕ) → get_or (add_name d s).of q 0 < length (add_name d s).keys
unfolding add_name
add_below d s f = at d.host refl
  where
    at : (b : Bool) → d.host ≡ b → (q : ℕ) → get_or (add_name d s).of q 0 < length (add_name d s).keys
    at true e q =
        rw (e, length_snoc s.keys (get_or s.of d.upper 0))
        (below_snoc s.of (length s.keys) (suc (length s.keys)) (λ p. let z = f p in omega arith) (omega arith) q)
    at false e q = rw e (below_snoc s.of 0 (length s.keys) f (let z = f 0 in omega arith) q)

all_below : (ds : List Name) (s : Named) → ((q : ℕ) → get_or s.of q 0 < length s.keys) → (q : ℕ) → get_or (add_names ds s).of q 0 < length (add_names ds s).keys
unfolding add_names
all_below [] s f q = f q
all_below (d ∷ ds) s f q = all_below ds (add_name d s) (add_below d s f) q

two_below : (q : ℕ) → get_or (0 ∷ 1 ∷ []) q 0 < 2
two_below zero = omega arith
two_below (suc zero) = omega arith
two_below (suc (suc q)) = omega arith

pub keys_within : (ds : List Name) (keys of bindings : List ℕ) (r a : ℕ) → NamesEntered ds keys of bindings r a → r ≤ 128 → Within (key_in of a) r
unfolding named_in
keys_within ds keys of bindings r a n h =
    record {
      each = λ q. let x : key_in of a q < length (list_of up_in keys r) = rw (ap (λ (s : Named). s.of) n.same, ap (λ (s : Named). s.keys) n.same) (all_below ds unnamed two_below q) in omega (arith, list_length up_in keys r);
      few = h;
    }
