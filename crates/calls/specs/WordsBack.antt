-- The words of calls, given and read back: a list of calls written as nine words each is the list that those words are read as. So each allowance stands at its own thread's place, and no word is read twice or left out.
use Rattle.std.specs.Prelude.{ℕ, List, [], ◌∷◌, ◌++◌}
use Rattle.semantics.specs.Calls.{Call, one_step, run_of, no_steps}

-- 0 and eight words at which a step does not look; 1 and the allowances of a run
unfoldable pub words_of : Call → List ℕ
words_of one_step = 0 ∷ no_steps
words_of (run_of allow) = 1 ∷ allow

unfoldable pub all_words : List Call → List ℕ
all_words [] = []
all_words (c ∷ cs) = words_of c ++ all_words cs

-- a call that nine words can hold: a step, or a run with eight allowances
pub data Nine : Call → Type 0 where
  of_step : Nine one_step
  of_run : (a b c d e f g h : ℕ) → Nine (run_of (a ∷ b ∷ c ∷ d ∷ e ∷ f ∷ g ∷ h ∷ []))

pub data AllNine : List Call → Type 0 where
  all_none : AllNine []
  all_more : {c : Call} {cs : List Call} → Nine c → AllNine cs → AllNine (c ∷ cs)
