-- The pass over the expressions by the tables: each writes its type entry and its effect, and the entries that it makes.
use Rattle.std.specs.Prelude.{◌≡◌, ℕ, zero, suc, ◌+◌, ◌%◌, List, [], ◌∷◌, ◌++◌, get_or, set, replicate}
use Rattle.std.proofs.Common as std
use Rattle.std.proofs.Common.{Ok, Err}
use Rattle.order.specs.Effects.{of_word}
use Rattle.syntax.specs.Types.{TypeEntry}
use Rattle.syntax.specs.Words.{type_words, set_words, code_in, entry_in}
use Rattle.typing.specs.Numbered.{Result, makes, points, wrong, result_at}
use Rattle.equality.specs.Known.{Known}
use Rattle.rules.specs.Ops.{ops_by}
use Rattle.table.specs.declared.Refusal.{Refusal}
use Rattle.elaborate.specs.Binders.{Bound, bound, bound_from, hosts_from}

-- the number of entries, and the tables that the pass writes
pub record Work : Type 0 where
  pub count : ℕ
  pub types : List ℕ
  pub sets : List ℕ
  pub entries : List ℕ
  pub effects : List ℕ

abbrev pub work : ℕ → List ℕ → List ℕ → List ℕ → List ℕ → Work
work n types sets entries effects = record { count = n; types = types; sets = sets; entries = entries; effects = effects }

-- the place after entries l from n on
unfoldable pub after : ℕ → List TypeEntry → ℕ
after n [] = n
after n (x ∷ l) = after (n + 1) l

-- words written one after another from place n on
unfoldable pub stored : List ℕ → ℕ → List ℕ → List ℕ
stored t n [] = t
stored t n (w ∷ l) = stored (set t n w) (n + 1) l

-- the answer of a pass: all expressions have a type, or the first refusal
abbrev pub Answer : Type 0
Answer = std.Result (Unit {0}) Refusal

-- number, place
abbrev pub refusal : ℕ → ℕ → Refusal
refusal n e = record { number = n; place = e }

-- the result of expression e is written
unfoldable pub settled : Result → ℕ → Work → Work
settled (makes l x s) e w =
    work (after w.count l + 1) (stored w.types w.count (type_words (l ++ (x ∷ [])))) (stored w.sets w.count (set_words (l ++ (x ∷ []))))
    (set w.entries e (after w.count l % 65536)) (set w.effects e s.set)
settled (points i s) e w = work w.count w.types w.sets (set w.entries e i) (set w.effects e s.set)
settled (wrong k) e w = w

-- so it is after `settle`
pub record Settled (r : Result) (e : ℕ) (w : Work) (n : ℕ) (ts ss os es : List ℕ) : Type 0 where
  pub count : n ≡ (settled r e w).count
  pub types : ts ≡ (settled r e w).types
  pub sets : ss ≡ (settled r e w).sets
  pub entries : os ≡ (settled r e w).entries
  pub effects : es ≡ (settled r e w).effects

-- what was known of comparisons is right of the tables afterwards
pub record Kept (types sets known types' sets' known' : List ℕ) : Type 0 where
  pub right : (anc : List ℕ) → Known anc types sets known → Known anc types' sets' known'

-- the answer, and the tables afterwards
pub record Out : Type 0 where
  pub answer : Answer
  pub work : Work

abbrev pub out : Answer → Work → Out
out a w = record { answer = a; work = w }

unfoldable pub turn : Result → ℕ → Work → (Work → Out) → Out
turn (makes l x s) e w go = go (settled (makes l x s) e w)
turn (points i s) e w go = go (settled (points i s) e w)
turn (wrong k) e w go = out (Err (refusal k e)) w

-- ancestors, names, the entries of the variables, heads, slots
module _ (anc names vars heads slots : List ℕ) where
  -- the result of expression e, by the tables
  unfoldable pub result_by : ℕ → Work → Result
  result_by e w =
      result_at (ops_by anc names) (λ v. get_or vars v 0) (entry_in w.types w.sets) (λ a. get_or w.entries a 0) (λ a. of_word (get_or w.effects a 0)) (w.count % 65536) (code_in heads slots e)

  -- n expressions from e on
  unfoldable pub typed_from : ℕ → ℕ → Work → Out
  typed_from zero e w = out (Ok tt) w
  typed_from (suc n) e w = turn (result_by e w) e w (λ v. typed_from n (e + 1) v)

-- the answer of a pass and the tables after it
pub record Ended (o : Out) (r : Answer) (ts ss os es : List ℕ) : Type 0 where
  pub answer : r ≡ o.answer
  pub types : ts ≡ o.work.types
  pub sets : ss ≡ o.work.sets
  pub entries : os ≡ o.work.entries
  pub effects : es ≡ o.work.effects

-- the binders, then the expressions: with the numbers of declared types, host values and expressions
unfoldable pub binders_by : List ℕ → List ℕ → List ℕ → ℕ → ℕ → ℕ → List ℕ → Bound
binders_by values heads slots nt nv nc types = bound_from heads slots nc 0 (bound nt types (hosts_from values nv 0 (replicate 64 0)))

unfoldable pub after_binders : List ℕ → List ℕ → List ℕ → List ℕ → ℕ → Bound → List ℕ → List ℕ → List ℕ → Out
after_binders anc names heads slots nc b sets entries effects = typed_from anc names b.vars heads slots nc 0 (work b.count b.types sets entries effects)

unfoldable pub numbered_by : List ℕ → List ℕ → List ℕ → List ℕ → List ℕ → ℕ → ℕ → ℕ → List ℕ → List ℕ → List ℕ → List ℕ → Out
numbered_by anc names values heads slots nt nv nc types sets entries effects =
    after_binders anc names heads slots nc (binders_by values heads slots nt nv nc types) sets entries effects
