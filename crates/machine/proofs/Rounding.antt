-- The loop of turns that are known ahead, in words: what holds before each turn, and after it.
use mathlib.Core.Path.{◌≡◌, refl, sym, ap, ◌∙◌, subst, subst⁻¹}
use Prim.Native.Nat.{ℕ, ◌+◌, ◌-◌, ◌≤◌, ◌<◌}
use native.Mathlib.Omega.{arith}
use mathlib.Core.Bool.{Bool, true, false}
use mathlib.Core.List.{List, [], ◌∷◌}
use mathlib.Core.Option.{some}
use mathlib.Core.Logic.{◌⊎◌, inl, inr, ⊎_elim}
use lib.Dec.{eqb}
use lib.ListN.{length, get_or, set, length-set, replicate, length-replicate, get_or-replicate}
use lib.Seq.{get_or-set_same}
use borrow.Author.Tests.{eqb-true, eqb-false, lt-ltb, le-ltb}
use types.Run.{OneOf, miss}
use denote.Enum.Declared.{tag_of}
use Rattle.syntax.specs.Commands.{Cmd}
use Rattle.syntax.specs.Words.{code_in}
use Rattle.semantics.specs.Machine.{Thread as SThread, most_threads}
use Rattle.semantics.specs.Threads.{steps_of}
use Rattle.semantics.specs.Calls.{total}
use Rattle.store.specs.declared.Used.{Used}
use Rattle.store.specs.Frames.{threads_words}
use Rattle.acts.specs.declared.Answer.{Answer}
use Rattle.acts.specs.declared.Answer.TheVariants.{Taken}
use Rattle.acts.specs.declared.Answer.TheVariants as answers
use Rattle.acts.specs.contracts.Answer.{the_type as answer_type}
use Rattle.acts.specs.Meaning.{s_taken, answer_in}
use Rattle.acts.specs.View.{Tables, tables}
use Rattle.acts.specs.Inner.{acted}
use Rattle.thread.specs.declared.Ended.{Ended}
use Rattle.thread.specs.Inner.{own_state, ended_as, stepped_by}
use Rattle.machine.specs.declared.Scheduler.{Scheduler}
use Rattle.machine.specs.Turns.{has_left, less, turns_of}
use Rattle.machine.specs.Ahead.{next_in, Held, RoundsFrom, rounded_by, Rounded, all_taken, one_refused}
use Rattle.machine.specs.OneTurn.{less_total, less_close, less_few}
use Rattle.machine.specs.Scheduled.{part_of, system_in}
use Rattle.machine.proofs.Moves.{takes, held_stepped}

is_taken : (a : Answer) → OneOf (0 ∷ []) (tag_of answer_type a) → answer_in a ≡ s_taken
is_taken answers.Taken t = refl
is_taken answers.Finished t = absurd (miss (0 ∷ []) 1 tt t)
is_taken answers.NoRoom t = absurd (miss (0 ∷ []) 2 tt t)
is_taken answers.Stuck t = absurd (miss (0 ∷ []) 3 tt t)
is_taken answers.Denied t = absurd (miss (0 ∷ []) 4 tt t)
is_taken answers.Starts t = absurd (miss (0 ∷ []) 5 tt t)

not_taken : (a : Answer) → OneOf (1 ∷ 2 ∷ 3 ∷ 4 ∷ 5 ∷ []) (tag_of answer_type a) → a ≡ Taken → ⊥
not_taken a t e = miss (1 ∷ 2 ∷ 3 ∷ 4 ∷ 5 ∷ []) 0 tt (subst (λ (b : Answer). OneOf (1 ∷ 2 ∷ 3 ∷ 4 ∷ 5 ∷ []) (tag_of answer_type b)) e t)

abbrev pub begun : List ℕ → List ℕ → ℕ → ℕ → ℕ → Used → Scheduler
begun lv rest count round from u = record { live = lv; rest = rest; count = count; round = round; from = from; used = u }

-- after some turn
rounded_some : (c : Scheduler) (r n left last : ℕ) (rest : List ℕ) (u : Used) → left < n → rounded_by c r n left last rest u ≡ begun c.live rest c.count r (last + 1) u
rounded_some c r n left last rest u h = rw (lt-ltb left n h)

-- after none
rounded_none : (c : Scheduler) (r n last : ℕ) (rest : List ℕ) (u : Used) → rounded_by c r n n last rest u ≡ begun c.live rest c.count c.round c.from u
rounded_none c r n last rest u = rw (le-ltb n n (let z : n ≤ n = omega arith in z))

-- where turns that are known ahead have led so far
pub record Led (code : ℕ → Cmd ℕ) (c : Scheduler) (v : Tables) (r n i left last : ℕ) (rest : List ℕ) (u : Used) (w : Tables) : Type 0 where
  pub held : Held (rounded_by c r n left last rest u) w
  pub turns : turns_of (steps_of code) c.rest (system_in c v) ≡ turns_of (steps_of code) rest (system_in (rounded_by c r n left last rest u) w)
  pub next : 0 < left → next_in c.live (rounded_by c r n left last rest u).from (rounded_by c r n left last rest u).round c.count ≡ some (record { at = i; round = r })

-- a thread that can be asked, with n steps to begin with
pub record Able (n i : ℕ) (rest : List ℕ) : Type 0 where
  pub small : i < most_threads
  pub enough : n ≤ get_or rest i 0

pub record RoundsTo (heads slots : List ℕ) (n first : ℕ) (known rest₀ : List ℕ) (u₀ : Used) (w₀ : Tables) (rest : List ℕ) (w : Tables) (i last : ℕ) (u : Used) (left : ℕ) : Type 0 where
  pub few : left ≤ n
  pub able : Able n i rest₀ ⊎ left ≡ 0
  pub last_few : last < most_threads
  pub place : i ≤ most_threads
  pub room : length w.frames ≡ threads_words
  pub fewer : (j : ℕ) → get_or rest j 0 ≤ get_or rest₀ j 0
  -- no thread has lost more than was taken in all
  pub close : (j : ℕ) → get_or rest₀ j 0 + left ≤ get_or rest j 0 + n
  pub sum : total rest + n ≡ total rest₀ + left
  pub leads : (lv : List ℕ) (count round from r : ℕ) → RoundsFrom lv count round from r n known first rest₀ u₀ w₀ → Led (code_in heads slots) (begun lv rest₀ count round from u₀) w₀ r n i left last rest u w

pub start_rounds : (heads slots : List ℕ) (n first : ℕ) (known rest : List ℕ) (u : Used) (w : Tables) → length w.frames ≡ threads_words → first < most_threads → n ≤ get_or rest first 0
    → RoundsTo heads slots n first known rest u w rest w first first u n
start_rounds heads slots n first known rest u w l h k = record {
  few = omega arith;
  able = inl (record { small = h; enough = k });
  last_few = h;
  place = omega (arith, h);
  room = l;
  fewer = λ j. omega arith;
  close = λ j. omega arith;
  sum = refl;
  leads = λ lv count round from r z. record {
    held = subst⁻¹ (λ (c : Scheduler). Held c w) (rounded_none (begun lv rest count round from u) r n first rest u) z.held;
    turns = ap (λ (c : Scheduler). turns_of (steps_of (code_in heads slots)) rest (system_in c w)) (sym (rounded_none (begun lv rest count round from u) r n first rest u));
    next = λ g. ap (λ (c : Scheduler). next_in lv c.from c.round count) (rounded_none (begun lv rest count round from u) r n first rest u) ∙ z.first_turn;
  };
}

module _ {heads slots : List ℕ} {n first : ℕ} {known rest₀ : List ℕ} {u₀ : Used} {w₀ : Tables} {rest : List ℕ} {w : Tables} {i last : ℕ} {u : Used} {left : ℕ}
    (v : RoundsTo heads slots n first known rest₀ u₀ w₀ rest w i last u left) where
  abbrev code : ℕ → Cmd ℕ
  code = code_in heads slots

  -- all turns are taken
  pub all_rounds : left ≤ 0 → (lv : List ℕ) (count round from r : ℕ) → RoundsFrom lv count round from r n known first rest₀ u₀ w₀
      → Rounded code (begun lv rest₀ count round from u₀) w₀ r n (record { used = u; left = left; last = last; at = last; answer = Taken }) rest w
  all_rounds h lv count round from r z = record {
    used = u;
    w = w;
    last = v.last_few;
    at = v.last_few;
    room = v.room;
    few = v.fewer;
    sum = v.sum;
    held = (v.leads lv count round from r z).held;
    turns = (v.leads lv count round from r z).turns;
    ended = all_taken refl (let y : left ≡ 0 = omega (arith, h) in y) refl refl;
  }

  module _ (more : 0 < left) where
    is_able : Able n i rest₀
    is_able = ⊎_elim (λ g. g) (λ g. absurd (omega (arith, more, g))) v.able

    pub i_small : i < most_threads
    i_small = is_able.small

    pub some_steps : 0 < get_or rest i 0
    some_steps = omega (arith, is_able.enough, v.close i, more)

    -- who comes next is a thread, or no thread
    pub few_known : ((f : ℕ) → f ≤ most_threads → get_or known f 0 ≤ most_threads) → get_or known (i + 1) 0 ≤ most_threads
    few_known few = few (i + 1) (omega (arith, i_small))

    some_left : has_left rest i ≡ true
    unfolding has_left
    some_left = lt-ltb 0 (get_or rest i 0) some_steps

    module _ (e : Ended) (x : Tables) (long : length x.frames ≡ threads_words)
        (its : (ts : List SThread) →
        acted (ended_as e (part_of x.frames i)) (tables ts (part_of x.frames i) x.cells x.keys x.pairs x.functions x.bindings) ≡
        stepped_by code (own_state u (part_of w.frames i)) (tables ts (part_of w.frames i) w.cells w.keys w.pairs w.functions w.bindings))
        (others : (j : ℕ) → (j ≡ i → ⊥) → part_of x.frames j ≡ part_of w.frames j) where
      -- a step is not taken
      pub refused : OneOf (1 ∷ 2 ∷ 3 ∷ 4 ∷ 5 ∷ []) (tag_of answer_type e.answer) → (lv : List ℕ) (count round from r : ℕ) → RoundsFrom lv count round from r n known first rest₀ u₀ w₀
          → Rounded code (begun lv rest₀ count round from u₀) w₀ r n (record { used = e.used; left = left; last = last; at = i; answer = e.answer }) rest x
      refused t lv count round from r z = record {
        used = u;
        w = w;
        last = v.last_few;
        at = i_small;
        room = v.room;
        few = v.fewer;
        sum = v.sum;
        held = (v.leads lv count round from r z).held;
        turns = (v.leads lv count round from r z).turns;
        ended = one_refused (record { is = (v.leads lv count round from r z).next more; left = some_left; its = its; others = others; not_taken = not_taken e.answer t; long = long });
      }

      -- a step is taken
      pub next_round : OneOf (0 ∷ []) (tag_of answer_type e.answer) → ((f : ℕ) → f ≤ most_threads → 1 < n → (get_or known f 0 < most_threads) × (n ≤ get_or rest₀ (get_or known f 0) 0)) → ((f : ℕ) → f ≤ most_threads → get_or known f 0 ≤ most_threads)
          → RoundsTo heads slots n first known rest₀ u₀ w₀ (less i rest) x (get_or known (i + 1) 0) i e.used (left - 1)
      next_round t small few = record {
        few = omega (arith, v.few);
        able = at (eqb (left - 1) 0) refl;
        last_few = i_small;
        place = few_known few;
        room = long;
        fewer = λ j. let y = less_few i j rest in omega (arith, y, v.fewer j);
        close = λ j. let y = less_close i j rest in omega (arith, y, v.close j, more);
        sum = let y = less_total i rest some_left in omega (arith, y, v.sum, more);
        leads = λ lv count round from r z. led lv count round from r z (v.leads lv count round from r z);
      }
        where
          at : (b : Bool) → eqb (left - 1) 0 ≡ b → Able n (get_or known (i + 1) 0) rest₀ ⊎ left - 1 ≡ 0
          at true q = inr (eqb-true (left - 1) 0 q)
          at false q = let y = eqb-false (left - 1) 0 q in let z = small (i + 1) (omega (arith, i_small)) (omega (arith, y, v.few)) in inl (record { small = z.0; enough = z.1 })

          led : (lv : List ℕ) (count round from r : ℕ) → RoundsFrom lv count round from r n known first rest₀ u₀ w₀ → Led code (begun lv rest₀ count round from u₀) w₀ r n i left last rest u w
              → Led code (begun lv rest₀ count round from u₀) w₀ r n (get_or known (i + 1) 0) (left - 1) i (less i rest) e.used x
          led lv count round from r z l = record {
            held = subst⁻¹ (λ (c : Scheduler). Held c x) is (held_stepped code c₁ w l.held i r (l.next more) some_left e.used (answer_in e.answer) x its others);
            turns =
                l.turns
                ∙ takes code c₁ w l.held i r (l.next more) some_left e.used (answer_in e.answer) x its others (is_taken e.answer t)
                ∙ ap (λ (c : Scheduler). turns_of (steps_of code) (less i rest) (system_in c x)) (sym is);
            next = λ g. ap (λ (c : Scheduler). next_in lv c.from c.round count) is ∙ z.all_known (omega (arith, g, v.few)) (i + 1) (omega (arith, i_small));
          }
            where
              c₁ : Scheduler
              c₁ = rounded_by (begun lv rest₀ count round from u₀) r n left last rest u

              is : rounded_by (begun lv rest₀ count round from u₀) r n (left - 1) i (less i rest) e.used ≡ begun lv (less i rest) count r (i + 1) e.used
              is = rounded_some (begun lv rest₀ count round from u₀) r n (left - 1) i (less i rest) e.used (omega (arith, more, v.few))

-- the same with who stepped before each thread in an array, of which the entry of the thread whose turn it is counts
pub record PriorTo (heads slots : List ℕ) (n first : ℕ) (known rest₀ : List ℕ) (u₀ : Used) (w₀ : Tables) (rest : List ℕ) (w : Tables) (i : ℕ) (prior : List ℕ) (u : Used) (left : ℕ) : Type 0 where
  pub long : length prior ≡ 9
  pub to : RoundsTo heads slots n first known rest₀ u₀ w₀ rest w i (get_or prior i 0) u left

pub start_prior : (heads slots : List ℕ) (n first : ℕ) (known rest : List ℕ) (u : Used) (w : Tables) → length w.frames ≡ threads_words → first < most_threads → n ≤ get_or rest first 0
    → PriorTo heads slots n first known rest u w rest w first (replicate 9 first) u n
start_prior heads slots n first known rest u w l h k = record {
  long = length-replicate 9 first;
  to = subst⁻¹ (λ x. RoundsTo heads slots n first known rest u w rest w first x u n) (get_or-replicate 9 first first 0 (omega (arith, h))) (start_rounds heads slots n first known rest u w l h k);
}

pub step_prior : {heads slots : List ℕ} {n first : ℕ} {known rest₀ : List ℕ} {u₀ : Used} {w₀ : Tables} {rest : List ℕ} {w : Tables} {i j : ℕ} (prior : List ℕ) {u : Used} {left : ℕ}
    → length prior ≡ 9 → RoundsTo heads slots n first known rest₀ u₀ w₀ rest w j i u left → PriorTo heads slots n first known rest₀ u₀ w₀ rest w j (set prior j i) u left
step_prior {heads} {slots} {n} {first} {known} {rest₀} {u₀} {w₀} {rest} {w} {i} {j} prior {u} {left} l v = record {
  long = length-set prior j i ∙ l;
  to = subst⁻¹ (λ x. RoundsTo heads slots n first known rest₀ u₀ w₀ rest w j x u left) (get_or-set_same prior j i 0 (omega (arith, l, v.place))) v;
}
