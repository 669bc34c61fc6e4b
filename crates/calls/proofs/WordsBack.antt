-- The words of calls, given and read back: a list of calls written as nine words each is the list that those words are read as. So each allowance stands at its own thread's place, and no word is read twice or left out.
use Rattle.std.specs.Prelude.{◌≡◌, refl, ℕ, ◌+◌, ◌*◌, List, [], ◌∷◌, ◌++◌, length, get_or}
use Rattle.std.proofs.Common.{ap, ap₂, ◌∙◌, subst, arith, append_assoc, length-append, get_or-append-add}
use Rattle.semantics.specs.Calls.{Call, one_step}
use Rattle.calls.specs.Words.{call_words, allowances_at, call_at, calls_from, call_count, calls_in}
use Rattle.calls.specs.WordsBack.{AllNine, Nine, all_more, all_none, all_words, of_run, of_step, words_of}

nine_long : {c : Call} → Nine c → length (words_of c) ≡ call_words
unfolding words_of
nine_long of_step = refl
nine_long (of_run a b c d e f g h) = refl

pub words_long : {cs : List Call} → AllNine cs → length (all_words cs) ≡ call_words * length cs
unfolding all_words
words_long all_none = refl
words_long (all_more {c = c} {cs = cs} n h) = length-append (words_of c) (all_words cs) ∙ (let y = nine_long n in let z = words_long h in omega (arith, y, z))

-- word k of those that stand behind others
behind : (pre ys : List ℕ) (p k : ℕ) → length pre ≡ p → get_or (pre ++ ys) (p + k) 0 ≡ get_or ys k 0
behind pre ys p k e = subst (λ n. get_or (pre ++ ys) (n + k) 0 ≡ get_or ys k 0) e (get_or-append-add pre ys k 0)

first_behind : (pre ys : List ℕ) (p : ℕ) → length pre ≡ p → get_or (pre ++ ys) p 0 ≡ get_or ys 0 0
first_behind pre ys p e = subst (λ n. get_or (pre ++ ys) n 0 ≡ get_or ys 0 0) (let z : p + 0 ≡ p = omega arith in z) (behind pre ys p 0 e)

one_back : {c : Call} → Nine c → (pre rest : List ℕ) (p : ℕ) → length pre ≡ p → call_at (pre ++ (words_of c ++ rest)) p ≡ c
unfolding call_at allowances_at words_of
one_back of_step pre rest p q = rw (first_behind pre (words_of one_step ++ rest) p q)
one_back (of_run a b c d e f g h) pre rest p q =
    let ys : List ℕ = 1 ∷ a ∷ b ∷ c ∷ d ∷ e ∷ f ∷ g ∷ h ∷ rest in
    rw (first_behind pre ys p q, behind pre ys p 1 q, behind pre ys p 2 q, behind pre ys p 3 q, behind pre ys p 4 q, behind pre ys p 5 q, behind pre ys p 6 q, behind pre ys p 7 q, behind pre ys p 8 q)

from_back : {cs : List Call} → AllNine cs → (pre : List ℕ) (p : ℕ) → length pre ≡ p → calls_from (pre ++ all_words cs) p (length cs) ≡ cs
unfolding calls_from all_words
from_back all_none pre p q = refl
from_back (all_more {c = c} {cs = cs} n h) pre p q =
    ap₂ (λ (x : Call) (l : List Call). x ∷ l) (one_back n pre (all_words cs) p q)
    (subst (λ ws. calls_from ws (p + call_words) (length cs) ≡ cs) (append_assoc pre (words_of c) (all_words cs))
    (from_back h (pre ++ words_of c) (p + call_words) (length-append pre (words_of c) ∙ (let y = nine_long n in omega (arith, y, q)))))

pub words_back : {cs : List Call} → AllNine cs → calls_in (all_words cs) ≡ cs
unfolding calls_in call_count
words_back {cs} h = ap (λ n. calls_from (all_words cs) 0 n) (let z = words_long h in omega (arith, z)) ∙ from_back h [] 0 refl
