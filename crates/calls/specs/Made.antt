-- What making a list of calls gives: the answers that the calls themselves give, each made on the machine that the last one gave.
use Rattle.std.specs.Prelude.{ℕ, ◌≡◌, List, ◌∷◌, ◌++◌}
use Rattle.std.proofs.lemmas.List.Edits.{sets}
use Rattle.semantics.specs.Machine.{System}
use Rattle.semantics.specs.Threads.{Steps}
use Rattle.semantics.specs.Calls.{calls, last_of}
use Rattle.calls.specs.Words.{calls_in, result_words, over}

-- on machine m the calls `words` are made, `before` being what the lent answers held and `after` what they hold then; `last` is the machine handed back
pub record Made (K : Steps) (words : List ℕ) (m : System) (before after : List ℕ) (last : System) : Type 0 where
  pub answers : after ≡ over before (result_words (calls K (calls_in words) m))
  pub machine : last ≡ last_of K (calls_in words) m

-- one number more is noted at a place, if there is one, and `r` is the next place
pub record Noted (before after : List ℕ) (at x r : ℕ) : Type 0 where
  pub onward : (xs : List ℕ) → sets after r xs ≡ sets before at (x ∷ xs)

-- so many numbers more
pub record NotedAll (before after : List ℕ) (at : ℕ) (l : List ℕ) (r : ℕ) : Type 0 where
  pub onward : (xs : List ℕ) → sets after r xs ≡ sets before at (l ++ xs)
