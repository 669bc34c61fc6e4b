-- A session for C and Rust: a job is checked and, if it is accepted, started and called. `SessionTo` has what that gives, demand 3 among it.
use Rattle.std.specs.Prelude.{◌≡◌, ℕ, true, false, List, ◌++◌, drop}
use Rattle.typing.specs.Tables.{Tables}
use Rattle.machine.specs.View.{seen}
use Rattle.calls.specs.Words.{over}
use Rattle.table.specs.Lent.{Table}
use Rattle.session.specs.declared.Held.{Held}
use Rattle.session.specs.Session.{SessionTo}
use Rattle.results.specs.Told.{number_for, out_words, cell_words_lem, lent_short}
use Rattle.results.specs.Values.{value_words, cell_words}

-- the slices for what a session gives: answers, value, cells, and what is told of the verdict
pub record Lent : Type 0 where
  pub answers : List ℕ
  pub value : List ℕ
  pub cells : List ℕ
  pub out : List ℕ

abbrev pub lent : List ℕ → List ℕ → List ℕ → List ℕ → Lent
lent a v c o = record { answers = a; value = v; cells = c; out = o }

-- the same as parameters of a contract, before the call and after it
abbrev pub lent_before : Table → Table → Table → Table → Lent
lent_before a v c o = lent a.entry.now v.entry.now c.entry.now o.entry.now

abbrev pub lent_after : Table → Table → Table → Table → Lent
lent_after a v c o = lent a.exit.now v.exit.now c.exit.now o.exit.now

-- what is told of a session that ended, as far as there are places, whatever the frames hold
pub record Reported (h : Held) (r : ℕ) (v v' c c' o o' : List ℕ) : Type 0 where
  pub number : r ≡ number_for h.verdict
  pub value : (fs : List ℕ) → v' ≡ over v (value_words (seen h.machine fs))
  pub cells : (fs : List ℕ) → c' ≡ over c (cell_words (seen h.machine fs))
  pub out : o' ≡ over o (out_words h.verdict)

-- a session that ended, all of it told, for some frames that it lends the calls, before and after: they are seen with its machine alone
pub record Ended (bytes words : List ℕ) (r : ℕ) (w x : Tables) (l k : Lent) : Type 0 where
  pub held : Held
  pub frames : List ℕ
  pub frames_after : List ℕ
  pub to : SessionTo bytes words held w x frames frames_after l.answers k.answers
  pub number : r ≡ number_for held.verdict
  pub value : k.value ≡ value_words (seen held.machine frames_after) ++ drop 2 l.value
  pub cells : k.cells ≡ cell_words (seen held.machine frames_after) ++ drop cell_words_lem l.cells
  pub out : k.out ≡ out_words held.verdict ++ drop 2 l.out

-- 1, and nothing is written
pub record Untouched (r : ℕ) (w x : Tables) (l k : Lent) : Type 0 where
  pub number : r ≡ 1
  pub tables : x ≡ w
  pub lent_same : k ≡ l

-- the answer r to `bytes` and the calls `words` with the lent tables w and slices l, which are x and k afterwards
pub record Sessions (bytes words : List ℕ) (r : ℕ) (w x : Tables) (l k : Lent) : Type 0 where
  pub short : lent_short words l.answers l.value l.cells l.out ≡ true → Untouched r w x l k
  pub long : lent_short words l.answers l.value l.cells l.out ≡ false → Ended bytes words r w x l k
