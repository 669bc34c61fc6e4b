-- The host's scope as sets: its variables, and its names with 0 and 1.
use Rattle.std.specs.Prelude.{◌≡◌, Bool, ◌||◌, ◌≢◌, get_or}
use Rattle.std.proofs.Math.Path.{refl, sym, ap, ap₂}
use Rattle.std.proofs.Common.{◌∙◌, pow-suc, arith, lt-ltb, le-ltb, ltb-true, ltb-false, eq-eqb, ne_eqb, eqb-true}
use Prim.Native.Nat.{ℕ, zero, suc, ◌+◌, ◌-◌, ◌*◌, ◌/◌, ◌%◌, ◌^◌, ◌≤◌, ◌<◌}
use Rattle.std.proofs.Math.Bool.{true, false, cond}
use mathlib.Core.List.{List, [], ◌∷◌, ◌++◌}
use Rattle.std.proofs.Math.Option.{some}
use Rattle.std.proofs.Math.ListN.{length, get_elem?, take, length-take}
use Rattle.std.proofs.Math.Seq.{take-length}
use Rattle.std.proofs.Math.Dec.{eqb, ltb}
use Rattle.std.proofs.lemmas.Bool.{eqb-false}
use Rattle.order.specs.Sets.{bit, some_of}
use Rattle.order.proofs.SetLaws.{bool_ext, bit_or_lem, bit_zero, lt_pow}
use Rattle.syntax.specs.Types.{Ty}
use Rattle.syntax.specs.Job.{Name, HostValue, Src}
use Rattle.syntax.specs.Reading.{name_ok}
use Rattle.syntax.specs.Words.{name_word}
use Rattle.syntax.specs.Tree.{Entry, e_var, e_name, vars_of, names_of, mem_b, add_host, name_ctx, value_ctx, host_ctx, name_in}
use Rattle.syntax.specs.ReadLaws.{NamesOk}
use Rattle.syntax.proofs.ReadLaws.{built_at}
use Rattle.syntax.proofs.ReadFormed.{upper_ok}
use Rattle.names.specs.Ancestors.{one_of}
use Rattle.tree.specs.Passes.{host_vars, host_name, host_names}
use Rattle.uses.specs.Heads.{pow_fits, one_bit}
use Rattle.uses.specs.Binders.{mem_b_cons}

-- variables

ltb_suc : (v n : ℕ) → ltb v n ≡ ltb (suc v) (suc n)
ltb_suc v n = bool_ext (ltb v n) (ltb (suc v) (suc n)) (λ e. lt-ltb (suc v) (suc n) (omega (arith, ltb-true v n e))) (λ e. lt-ltb v n (omega (arith, ltb-true (suc v) (suc n) e)))

low_bits : (n v : ℕ) → bit (2 ^ n - 1) v ≡ ltb v n
unfolding bit
low_bits zero v = bit_zero v ∙ sym (le-ltb v 0 (omega arith))
low_bits (suc n) zero =
    let z : (2 ^ suc n - 1) % 2 ≡ 1 = omega (arith, pow-suc 2 n, lt_pow n 0 (omega arith)) in ap (λ (x : ℕ). eqb x 1) z ∙ sym (lt-ltb 0 (suc n) (omega arith))
low_bits (suc n) (suc v) =
    let z : (2 ^ suc n - 1) / 2 ≡ 2 ^ n - 1 = omega (arith, pow-suc 2 n, lt_pow n 0 (omega arith)) in ap (λ (x : ℕ). bit x v) z ∙ low_bits n v ∙ ltb_suc v n

pub host_vars_bit : (n v : ℕ) → v < 64 → bit (host_vars n) v ≡ ltb v n
unfolding host_vars
host_vars_bit n v h = at (ltb n 64) refl
  where
    at : (b : Bool) → ltb n 64 ≡ b → bit (cond (ltb n 64) (1 * 2 ^ n % 2 ^ 64 - 1) 0xFFFFFFFFFFFFFFFF) v ≡ ltb v n
    at true e = rw e (ap (λ (x : ℕ). bit (x - 1) v) (pow_fits n (ltb-true n 64 e)) ∙ low_bits n v)
    at false e = let k : 64 ≤ n = ltb-false n 64 e in rw e (low_bits 64 v ∙ lt-ltb v 64 h ∙ sym (lt-ltb v n (omega arith)))

vars_names : (k : ℕ) (ds : List Name) (Γ : List Entry) → vars_of (name_ctx k ds Γ) ≡ vars_of Γ
unfolding name_ctx add_host vars_of
vars_names k [] Γ = refl
vars_names k (d ∷ ds) Γ = vars_names (suc k) ds (add_host k d Γ) ∙ at d.host
  where
    at : (b : Bool) → vars_of (cond b (e_name k ∷ Γ) Γ) ≡ vars_of Γ
    at true = refl
    at false = refl

vars_values : (v : ℕ) (hs : List (HostValue Ty)) (Γ : List Entry) (x : ℕ) → mem_b x (vars_of Γ) ≡ ltb x v → mem_b x (vars_of (value_ctx v hs Γ)) ≡ ltb x (v + length hs)
unfolding value_ctx vars_of
vars_values v [] Γ x e = let z : v ≡ v + 0 = omega arith in e ∙ ap (ltb x) z
vars_values v (h ∷ hs) Γ x e =
    let z : suc v + length hs ≡ v + suc (length hs) = omega arith in
    vars_values (suc v) hs (e_var v h.ty ∷ Γ) x (mem_b_cons x v (vars_of Γ) ∙ ap (λ (b : Bool). eqb x v || b) e ∙ at (eqb x v) refl) ∙ ap (ltb x) z
  where
    at : (b : Bool) → eqb x v ≡ b → (b || ltb x v) ≡ ltb x (suc v)
    at true y = sym (lt-ltb x (suc v) (omega (arith, eqb-true x v y)))
    at false y =
        let ne : x ≢ v = eqb-false x v y in
        bool_ext (ltb x v) (ltb x (suc v)) (λ w. lt-ltb x (suc v) (omega (arith, ltb-true x v w))) (λ w. lt-ltb x v (omega (arith, ltb-true x (suc v) w)))

pub host_vars_are : (S : Src) (x : ℕ) → mem_b x (vars_of (host_ctx S)) ≡ ltb x (length S.values)
unfolding host_ctx vars_of mem_b some_of
host_vars_are S x =
    let z : 0 + length S.values ≡ length S.values = omega arith in
    vars_values 0 S.values (name_ctx 2 S.names []) x (ap (mem_b x) (vars_names 2 S.names []) ∙ sym (le-ltb x 0 (omega arith))) ∙ ap (ltb x) z

-- names

names_values : (v : ℕ) (hs : List (HostValue Ty)) (Γ : List Entry) → names_of (value_ctx v hs Γ) ≡ names_of Γ
unfolding value_ctx names_of
names_values v [] Γ = refl
names_values v (h ∷ hs) Γ = names_values (suc v) hs (e_var v h.ty ∷ Γ)

names_snoc : (k : ℕ) (ds : List Name) (d : Name) (Γ : List Entry) → name_ctx k (ds ++ (d ∷ [])) Γ ≡ add_host (k + length ds) d (name_ctx k ds Γ)
unfolding name_ctx
names_snoc k [] d Γ = let z : k ≡ k + 0 = omega arith in ap (λ (j : ℕ). add_host j d Γ) z
names_snoc k (x ∷ ds) d Γ =
    let z : suc k + length ds ≡ k + suc (length ds) = omega arith in names_snoc (suc k) ds d (add_host k x Γ) ∙ ap (λ (j : ℕ). add_host j d (name_ctx (suc k) ds (add_host k x Γ))) z

take_next : {A : Type 0} (l : List A) (i : ℕ) → i < length l → (d : A) × (get_elem? l i ≡ some d) × (take (suc i) l ≡ take i l ++ (d ∷ []))
take_next [] i h = absurd (omega arith)
take_next (x ∷ l) zero h = (x, refl, refl)
take_next {A} (x ∷ l) (suc i) h = let z = take_next l i (omega arith) in (z.0, z.1, ap (λ (m : List A). x ∷ m) z.2)

host_word : (d : Name) → d.upper < 256 → eqb (name_word d / 256) 1 ≡ d.host
unfolding name_word
host_word d h = at d.host
  where
    at : (b : Bool) → eqb ((d.upper + 256 * cond b 1 2) / 256) 1 ≡ b
    at true = let z : (d.upper + 256 * 1) / 256 ≡ 1 = omega arith in eq-eqb _ 1 z
    at false = let z : (d.upper + 256 * 2) / 256 ≡ 2 = omega arith in ne_eqb ((d.upper + 256 * 2) / 256) 1 (λ e. omega arith)

three_bits : (n : ℕ) → bit 3 n ≡ ltb n 2
unfolding bit
three_bits zero = refl
three_bits (suc zero) = refl
three_bits (suc (suc n)) = bit_zero n ∙ sym (le-ltb (suc (suc n)) 2 (omega arith))

or_none : (a : Bool) → (a || false) ≡ a
or_none true = refl
or_none false = refl

or_swap : (a b c : Bool) → ((a || b) || c) ≡ (a || (c || b))
or_swap true b c = refl
or_swap false true true = refl
or_swap false true false = refl
or_swap false false true = refl
or_swap false false false = refl

add_host_lem : (j : ℕ) (d : Name) (Γ : List Entry) (n : ℕ) → n < 64 → (a : Bool) → (a || mem_b n (names_of (add_host j d Γ))) ≡ ((a || mem_b n (names_of Γ)) || bit (cond d.host (one_of j) 0) n)
unfolding add_host names_of
add_host_lem j d Γ n h a = at d.host
  where
    at : (b : Bool) → (a || mem_b n (names_of (cond b (e_name j ∷ Γ) Γ))) ≡ ((a || mem_b n (names_of Γ)) || bit (cond b (one_of j) 0) n)
    at true = ap (λ (c : Bool). a || c) (mem_b_cons n j (names_of Γ)) ∙ sym (ap (λ (c : Bool). (a || mem_b n (names_of Γ)) || c) (one_bit j n h) ∙ or_swap a (mem_b n (names_of Γ)) (eqb n j))
    at false = sym (ap (λ (c : Bool). (a || mem_b n (names_of Γ)) || c) (bit_zero n) ∙ or_none (a || mem_b n (names_of Γ)))

module _ (ds : List Name) (ok : NamesOk ds) (few : 2 + length ds ≤ 64) (names : List ℕ) (word : (i : ℕ) (d : Name) → get_elem? ds i ≡ some d → get_or names (i + 2) 0 ≡ name_word d) where
  prefix : (i n : ℕ) → i ≤ length ds → n < 64 → bit (host_names names i) n ≡ (ltb n 2 || mem_b n (names_of (name_ctx 2 (take i ds) [])))
  unfolding host_names host_name name_ctx names_of mem_b some_of
  prefix zero n h k = three_bits n ∙ sym (or_none (ltb n 2))
  prefix (suc i) n h k = at (take_next ds i h) (prefix i n (omega arith) k)
    where
      at : (d : Name) × (get_elem? ds i ≡ some d) × (take (suc i) ds ≡ take i ds ++ (d ∷ [])) → bit (host_names names i) n ≡ (ltb n 2 || mem_b n (names_of (name_ctx 2 (take i ds) [])))
          → bit (host_names names (suc i)) n ≡ (ltb n 2 || mem_b n (names_of (name_ctx 2 (take (suc i) ds) [])))
      at (d, e, t) ih =
          let low : d.upper < 256 = omega (arith, (upper_ok (take i ds) d (built_at name_ok ok i d e)).earlier, length-take i ds) in
          let flag : eqb (get_or names (i + 2) 0 / 256) 1 ≡ d.host = ap (λ (w : ℕ). eqb (w / 256) 1) (word i d e) ∙ host_word d low in
          let z : 2 + length (take i ds) ≡ i + 2 = omega (arith, length-take i ds) in
          bit_or_lem n (host_names names i) (cond (eqb (get_or names (i + 2) 0 / 256) 1) (one_of (i + 2)) 0)
          ∙ ap₂ (λ (a b : Bool). a || bit (cond b (one_of (i + 2)) 0) n) ih flag
          ∙ sym (add_host_lem (i + 2) d (name_ctx 2 (take i ds) []) n k (ltb n 2))
          ∙ ap (λ (Γ : List Entry). ltb n 2 || mem_b n (names_of Γ)) (ap (λ (j : ℕ). add_host j d (name_ctx 2 (take i ds) [])) (sym z) ∙ sym (names_snoc 2 (take i ds) d []) ∙ ap (λ (l : List Name). name_ctx 2 l []) (sym t))

  pub host_names_bit : (S : Src) → S.names ≡ ds → (n : ℕ) → n < 64 → bit (host_names names (length ds)) n ≡ name_in (host_ctx S) n
  unfolding name_in host_ctx
  host_names_bit S e n h =
      prefix (length ds) n (omega arith) h
      ∙ ap (λ (l : List Name). ltb n 2 || mem_b n (names_of (name_ctx 2 l []))) (take-length ds ∙ sym e)
      ∙ ap (λ (l : List ℕ). ltb n 2 || mem_b n l) (sym (names_values 0 S.values (name_ctx 2 S.names [])))
      ∙ at (ltb n 2)
    where
      at : (b : Bool) → (b || mem_b n (names_of (value_ctx 0 S.values (name_ctx 2 S.names [])))) ≡ cond b true (mem_b n (names_of (value_ctx 0 S.values (name_ctx 2 S.names []))))
      at true = refl
      at false = refl
