-- The names table: the declared names that it holds, read by number.
use Rattle.std.specs.Prelude.{◌≡◌, refl, ℕ, zero, suc, ◌+◌, ◌-◌, ◌*◌, ◌/◌, ◌%◌, ◌≤◌, ◌<◌, Bool, true, false, cond, List, [], ◌∷◌, ◌++◌, map, ◌⊎◌, length, get_or, eqb, ltb, leb}
use Rattle.std.proofs.Common.{sym, ap, ap₂, ◌∙◌, arith, inl, inr, ltb-true, ltb-false, le-leb, eq-eqb, ne_eqb}
use Rattle.std.proofs.Math.Option.{none, some, none-ne-some, some-injective}
use Rattle.std.proofs.Math.ListN.{get_elem?}
use Rattle.std.proofs.lemmas.List.{length-map}
use Rattle.std.proofs.lemmas.Bool.{lt-leb}
use Rattle.order.specs.Bools.{◌and◌, ◌or◌}
use Rattle.order.specs.OrderLaws.{Proper}
use Rattle.order.proofs.OrderLaws.{get_elem?_append, get_elem?_at, get_elem?_lt, length_snoc}
use Rattle.syntax.specs.Job.{Name, Job, uppers}
use Rattle.syntax.specs.Words.{name_word, name_words}
use Rattle.syntax.specs.Reading.{declared, is_host, host_name}
use Rattle.names.specs.Ancestors.{name_of, names_in, declared_of}

pub names_in_length : (t : List ℕ) (n : ℕ) → length (names_in t n) ≡ n
unfolding names_in
names_in_length t zero = refl
names_in_length t (suc n) = length_snoc (names_in t n) (name_of (get_or t (2 + n) 0)) ∙ ap suc (names_in_length t n)

pub names_in_at : (t : List ℕ) (n k : ℕ) → k < n → get_elem? (names_in t n) k ≡ some (name_of (get_or t (2 + k) 0))
unfolding names_in
names_in_at t zero k h = absurd (omega arith)
names_in_at t (suc n) k h = at (ltb k n) refl (λ q. names_in_at t n k q)
  where
    at : (b : Bool) → ltb k n ≡ b → (k < n → get_elem? (names_in t n) k ≡ some (name_of (get_or t (2 + k) 0))) → get_elem? (names_in t n ++ (name_of (get_or t (2 + n) 0) ∷ [])) k ≡ some (name_of (get_or t (2 + k) 0))
    at true e f = get_elem?_append (names_in t n) (name_of (get_or t (2 + n) 0) ∷ []) k (name_of (get_or t (2 + k) 0)) (f (ltb-true k n e))
    at false e f =
        let q : k ≡ n = omega (arith, ltb-false k n e) in
        get_elem?_at (names_in t n) (name_of (get_or t (2 + n) 0)) k (q ∙ sym (names_in_length t n)) ∙ ap (λ (j : ℕ). some (name_of (get_or t (2 + j) 0))) (sym q)

get_elem?_none {ℓ} : {A : Type ℓ} (l : List A) (k : ℕ) → length l ≤ k → get_elem? l k ≡ none
get_elem?_none [] k h = refl
get_elem?_none (x ∷ l) zero h = absurd (omega arith)
get_elem?_none (x ∷ l) (suc k) h = get_elem?_none l k (omega arith)

pub names_in_past : (t : List ℕ) (n k : ℕ) → n ≤ k → get_elem? (names_in t n) k ≡ none
names_in_past t n k h = get_elem?_none (names_in t n) k (omega (arith, names_in_length t n))

-- what reading asks of a name, by the table
pub declared_of_lem : (t : List ℕ) (n q : ℕ) → declared (names_in t n) q ≡ declared_of n q
unfolding declared declared_of
declared_of_lem t n q = ap (λ (k : ℕ). ltb q (2 + k)) (names_in_length t n)

pub host_one : (t : List ℕ) (n q : ℕ) → q ≡ 1 → true ≡ host_name (names_in t n) q
unfolding host_name ◌or◌
host_one t n q e = sym (ap (λ (b : Bool). b or (leb 2 q and is_host (get_elem? (names_in t n) (q - 2)))) (eq-eqb q 1 e))

pub host_low : (t : List ℕ) (n q : ℕ) → (q ≡ 1 → ⊥) → q < 2 → false ≡ host_name (names_in t n) q
unfolding host_name ◌or◌ ◌and◌
host_low t n q e h = sym (simp (ne_eqb q 1 e, lt-leb 2 q h))

host_at_lem : (t : List ℕ) (n q : ℕ) → (q ≡ 1 → ⊥) → 2 ≤ q → host_name (names_in t n) q ≡ is_host (get_elem? (names_in t n) (q - 2))
unfolding host_name ◌or◌ ◌and◌
host_at_lem t n q e h = simp (ne_eqb q 1 e, le-leb 2 q h)

pub host_in : (t : List ℕ) (n q w : ℕ) → (q ≡ 1 → ⊥) → 2 ≤ q → q - 2 < n → w ≡ get_or t q 0 → eqb (w / 256) 1 ≡ host_name (names_in t n) q
unfolding is_host name_of
host_in t n q w e h k z =
    let y : 2 + (q - 2) ≡ q = omega arith in
    sym (host_at_lem t n q e h ∙ ap is_host (names_in_at t n (q - 2) k) ∙ ap (λ (j : ℕ). eqb (get_or t j 0 / 256) 1) y ∙ ap (λ (j : ℕ). eqb (j / 256) 1) (sym z))

pub host_past : (t : List ℕ) (n q : ℕ) → (q ≡ 1 → ⊥) → 2 ≤ q → n ≤ q - 2 → false ≡ host_name (names_in t n) q
unfolding is_host
host_past t n q e h k = sym (host_at_lem t n q e h ∙ ap is_host (names_in_past t n (q - 2) k))

-- a table that holds the words of names gives them back
name_of_parts : (b : Bool) (u : ℕ) → u < 256 → (eqb ((u + 256 * cond b 1 2) / 256) 1 ≡ b) × ((u + 256 * cond b 1 2) % 256 ≡ u)
name_of_parts true u h = let q : (u + 256 * 1) / 256 ≡ 1 = omega arith in (ap (λ (x : ℕ). eqb x 1) q, omega arith)
name_of_parts false u h = let q : (u + 256 * 2) / 256 ≡ 2 = omega arith in (ap (λ (x : ℕ). eqb x 1) q, omega arith)

pub name_of_word : (d : Name) → d.upper < 256 → name_of (name_word d) ≡ d
unfolding name_of name_word
name_of_word d h = let z = name_of_parts d.host d.upper h in ap₂ (λ (x : Bool) (y : ℕ). record { host = x; upper = y }) z.0 z.1

ext {ℓ} : {A : Type ℓ} (l m : List A) → length l ≡ length m → ((k : ℕ) (a : A) → get_elem? m k ≡ some a → get_elem? l k ≡ some a) → l ≡ m
ext [] [] e f = refl
ext [] (y ∷ m) e f = absurd (omega (arith, e))
ext (x ∷ l) [] e f = absurd (omega (arith, e))
ext (x ∷ l) (y ∷ m) e f = ap₂ ◌∷◌ (some-injective x y (f 0 y refl)) (ext l m (omega (arith, e)) (λ k a h. f (suc k) a h))

pub names_held : (t : List ℕ) (ds : List Name) → ((k : ℕ) (d : Name) → get_elem? ds k ≡ some d → (get_or t (2 + k) 0 ≡ name_word d) × (d.upper < 256)) → names_in t (length ds) ≡ ds
names_held t ds f = ext (names_in t (length ds)) ds (names_in_length t (length ds)) one
  where
    one : (k : ℕ) (d : Name) → get_elem? ds k ≡ some d → get_elem? (names_in t (length ds)) k ≡ some d
    one k d e = let z = f k d e in names_in_at t (length ds) k (get_elem?_lt ds k d e) ∙ ap some (ap name_of z.0 ∙ name_of_word d z.1)

get_d_words : (ds : List Name) (rest : List ℕ) (k : ℕ) (d : Name) → get_elem? ds k ≡ some d → get_or (map name_word ds ++ rest) k 0 ≡ name_word d
get_d_words [] rest k d e = absurd (none-ne-some d e)
get_d_words (x ∷ ds) rest zero d e = ap name_word (some-injective x d e)
get_d_words (x ∷ ds) rest (suc k) d e = get_d_words ds rest k d e

pub names_back : (J : Job) (rest : List ℕ) → ((k : ℕ) (d : Name) → get_elem? J.names k ≡ some d → d.upper < 256) → names_in (name_words J ++ rest) (length J.names) ≡ J.names
names_back J rest f = names_held (name_words J ++ rest) J.names (λ k d e. (let h : 2 + k ≡ suc (suc k) = omega arith in ap (λ (i : ℕ). get_or (name_words J ++ rest) i 0) h ∙ get_d_words J.names rest k d e, f k d e))

pub upper_at : (ds : List Name) (k : ℕ) (d : Name) → get_elem? ds k ≡ some d → get_elem? (uppers ds) (suc (suc k)) ≡ some d.upper
unfolding uppers
upper_at ds k d e = at ds k e
  where
    at : (l : List Name) (j : ℕ) → get_elem? l j ≡ some d → get_elem? (map (λ x. x.upper) l) j ≡ some d.upper
    at [] j h = absurd (none-ne-some d h)
    at (x ∷ l) zero h = ap (λ (y : Name). some y.upper) (some-injective x d h)
    at (x ∷ l) (suc j) h = at l j h

pub uppers_length : (ds : List Name) → length (uppers ds) ≡ 2 + length ds
unfolding uppers
uppers_length ds = omega (arith, length-map ds (λ (d : Name). d.upper))

-- names whose upper names are declared earlier, 62 at most
pub names_proper : (J : Job) (rest : List ℕ) → Proper (uppers J.names) → length J.names ≤ 62 → names_in (name_words J ++ rest) (length J.names) ≡ J.names
names_proper J rest ok few = names_back J rest (λ k d e. small k d (get_elem?_lt J.names k d e) (ok.down (suc (suc k)) d.upper (upper_at J.names k d e)))
  where
    small : (k : ℕ) (d : Name) → k < length J.names → ((d.upper < suc (suc k)) × (0 < d.upper)) ⊎ ((d.upper ≡ suc (suc k)) × (suc (suc k) < 2)) → d.upper < 256
    small k d h (inl z) = omega arith
    small k d h (inr z) = omega arith
