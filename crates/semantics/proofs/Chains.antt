-- The bindings that a number leads to, as a list, newest first; what such a list says of variables and names.
use Rattle.std.specs.Prelude.{◌≡◌, refl, ℕ, zero, suc, ◌≤◌, List, [], ◌∷◌, ◌++◌, length}
use Rattle.std.proofs.Common.{ap, arith}
use Rattle.std.proofs.Math.Option.{some}
use Rattle.std.proofs.Math.ListN.{get_elem?}
use Rattle.order.proofs.OrderLaws.{get_elem?_lt}
use Rattle.semantics.specs.Machine.{Bind, b_var, b_name, Link}
use Rattle.semantics.specs.Step.{seek, seek_at, seek_in}
use Rattle.semantics.specs.Chains.{Chain, ch_cons, ch_nil, look_var}

pub chain_wider : {B C : List Link} → ((i : ℕ) (l : Link) → get_elem? B i ≡ some l → get_elem? C i ≡ some l) → {e : ℕ} {E : List Bind} → Chain B e E → Chain C e E
chain_wider f ch_nil = ch_nil
chain_wider f (ch_cons g h c) = ch_cons (f _ _ g) h (chain_wider f c)

pub chain_le : {B : List Link} {e : ℕ} {E : List Bind} → Chain B e E → e ≤ length B
chain_le ch_nil = omega arith
chain_le {B} (ch_cons {i = i} {l = l} g h c) = omega (arith, get_elem?_lt B i l g)

-- links added at the end
pub seam {ℓ} : {A : Type ℓ} (l : List A) (a : A) (m : List A) → get_elem? (l ++ (a ∷ m)) (length l) ≡ some a
seam [] a m = refl
seam (x ∷ l) a m = seam l a m

pub seam_next {ℓ} : {A : Type ℓ} (l : List A) (a b : A) (m : List A) → get_elem? (l ++ (a ∷ b ∷ m)) (suc (length l)) ≡ some b
seam_next [] a b m = refl
seam_next (x ∷ l) a b m = seam_next l a b m

pub length_two {ℓ} : {A : Type ℓ} (l : List A) (a b : A) → length (l ++ (a ∷ b ∷ [])) ≡ suc (suc (length l))
length_two [] a b = refl
length_two (x ∷ l) a b = ap suc (length_two l a b)

-- the machine's search finds what the list has
seek_one : (b : Bind) (E : List Bind) (x : ℕ) → seek_in b x (look_var E x) ≡ look_var (b ∷ E) x
unfolding seek_in look_var
seek_one (b_var y v) E x = refl
seek_one (b_name n k) E x = refl

pub chain_seek : {B : List Link} {e : ℕ} {E : List Bind} → Chain B e E → (f : ℕ) → e ≤ f → (x : ℕ) → seek f B e x ≡ look_var E x
unfolding seek seek_at look_var
chain_seek ch_nil zero h x = refl
chain_seek ch_nil (suc f) h x = refl
chain_seek (ch_cons g p c) zero h x = absurd (omega arith)
chain_seek {B} (ch_cons {i = i} {l = l} {E = E} g p c) (suc f) h x = rw (g, chain_seek c f (omega arith) x) (seek_one l.bind E x)
