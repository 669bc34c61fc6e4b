-- Fairness from the start of every job, and whatever calls the turns are cut into: the calls of a list take turns one after another, and of these turns each live thread that is not at its allowance has its own,
-- by their order alone.
use Rattle.std.specs.Prelude.{ℕ}
use mathlib.Core.List.{List, [], ◌∷◌, ◌++◌}
use Rattle.semantics.specs.Calls.{Call, one_step, run_of, bump, no_steps, Policy, always, allowed}
use Rattle.semantics.specs.Rounds.{Gone}

-- The turns of calls

-- turns of the threads l that a policy allows; c were taken before
unfoldable pub traced : Policy → List ℕ → List ℕ → List Gone
traced may c [] = []
traced may c (i ∷ l) = record { may = may c; at = i } ∷ traced may (bump i c) l

-- turns of a call: of a step one or none, at which anybody might step; of a run those at which a thread might step that had some of its allowance left
pub data OfCall : Call → List Gone → Type 0 where
  of_step : {i : ℕ} → OfCall one_step (record { may = always no_steps; at = i } ∷ [])
  of_none : OfCall one_step []
  of_run : {allow : List ℕ} (l : List ℕ) → OfCall (run_of allow) (traced (allowed allow) no_steps l)

-- turns of a list of calls
pub data OfCalls : List Call → List Gone → Type 0 where
  of_nil : OfCalls [] []
  of_cons : {c : Call} {cs : List Call} {l m : List Gone} → OfCall c l → OfCalls cs m → OfCalls (c ∷ cs) (l ++ m)
