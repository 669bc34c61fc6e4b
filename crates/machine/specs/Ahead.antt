-- Whose turn it is by marks of the threads that may have one, the same looked up ahead, and what the turns that are known so lead to.
use Rattle.std.specs.Prelude.{◌≡◌, ℕ, ◌+◌, ◌-◌, ◌≤◌, ◌<◌, Bool, true, false, cond, List, length, get_or, set, ltb}
use Rattle.std.proofs.Math.Option.{Option, none, some}
use Rattle.order.specs.Bools.{◌and◌}
use Rattle.syntax.specs.Commands.{Cmd}
use Rattle.semantics.specs.Machine.{Thread as SThread, most_threads}
use Rattle.semantics.specs.Threads.{steps_of, live, first_from, Turn, in_round}
use Rattle.semantics.specs.Calls.{total}
use Rattle.store.specs.declared.Used.{Used}
use Rattle.store.specs.Frames.{threads_words}
use Rattle.acts.specs.declared.Answer.{Answer}
use Rattle.acts.specs.declared.Answer.TheVariants.{Taken, Finished, NoRoom, Stuck, Denied, Starts}
use Rattle.acts.specs.View.{Tables, tables}
use Rattle.acts.specs.Inner.{acted}
use Rattle.thread.specs.Inner.{own_state, ended_as, stepped_by}
use Rattle.machine.specs.declared.Scheduler.{Scheduler}
use Rattle.machine.specs.declared.Turned.{Turned}
use Rattle.machine.specs.declared.Rounds.{Rounds}
use Rattle.machine.specs.Turns.{has_left, less, turns_of}
use Rattle.machine.specs.Scheduled.{part_of, system_in, marked, turned_in, Started}

-- the next marked thread of the round, else the lowest of all, in a new round of the threads that there are
unfoldable pub next_in : List ℕ → ℕ → ℕ → ℕ → Option Turn
next_in live from round count = in_round round (first_from (marked live) from (round - from)) (in_round count (first_from (marked live) 0 count) none)

-- the thread whose turn it is; past all threads where there is none
unfoldable pub at_of : Option Turn → ℕ
at_of none = most_threads
at_of (some t) = t.at

-- the scheduler's words are in order: no more threads than there are places, a mark for each that is live and has a step left, and none where there is no thread
pub record Held (c : Scheduler) (w : Tables) : Type 0 where
  pub count : c.count ≤ most_threads
  pub round : c.round ≤ most_threads
  pub from : c.from ≤ 255
  pub marks : (j : ℕ) → live (system_in c w) j ≡ true → has_left c.rest j ≡ true → marked c.live j ≡ true
  pub below : (j : ℕ) → marked c.live j ≡ true → j < c.count
  pub live_long : length c.live ≡ 8
  pub rest_long : length c.rest ≡ 8

-- the marks of those that have a step left
pub record MarksLeft (live rest left : List ℕ) : Type 0 where
  pub long : length left ≡ 8
  pub each : (j : ℕ) → marked left j ≡ (marked live j and has_left rest j)
  pub fewer : total left ≤ total live

-- n is at most `most`, and no marked thread has fewer steps left; where all of these are above 0, it is
pub record Least (live rest : List ℕ) (most n : ℕ) : Type 0 where
  pub within : n ≤ most
  pub each : (j : ℕ) → j < most_threads → marked live j ≡ true → n ≤ get_or rest j 0
  pub some : 0 < most → ((j : ℕ) → marked live j ≡ true → 0 < get_or rest j 0) → 0 < n

-- the scheduler with other marks
abbrev pub with_marks : Scheduler → List ℕ → Scheduler
with_marks c lv = record { live = lv; rest = c.rest; count = c.count; round = c.round; from = c.from; used = c.used }

-- what n turns that are known ahead start from: the words are in order, `first` has the turn, and of more than one turn all are known
pub record RoundsFrom (lv : List ℕ) (count round from r n : ℕ) (known : List ℕ) (first : ℕ) (rest : List ℕ) (u : Used) (w : Tables) : Type 0 where
  pub held : Held (record { live = lv; rest = rest; count = count; round = round; from = from; used = u }) w
  pub first_turn : next_in lv from round count ≡ some (record { at = first; round = r })
  pub all_known : 1 < n → (f : ℕ) → f ≤ most_threads → next_in lv f r count ≡ some (record { at = get_or known f 0; round = r })

-- a thread that was asked and took no step
pub record Refused (code : ℕ → Cmd ℕ) (c : Scheduler) (w : Tables) (i r : ℕ) (u : Used) (a : Answer) (x : Tables) : Type 0 where
  pub is : next_in c.live c.from c.round c.count ≡ some (record { at = i; round = r })
  pub left : has_left c.rest i ≡ true
  pub its : (ts : List SThread) →
      acted (ended_as (record { used = u; answer = a }) (part_of x.frames i)) (tables ts (part_of x.frames i) x.cells x.keys x.pairs x.functions x.bindings) ≡
      stepped_by code (own_state c.used (part_of w.frames i)) (tables ts (part_of w.frames i) w.cells w.keys w.pairs w.functions w.bindings)
  pub others : (j : ℕ) → (j ≡ i → ⊥) → part_of x.frames j ≡ part_of w.frames j
  pub not_taken : a ≡ Taken → ⊥
  pub long : length x.frames ≡ threads_words

-- the scheduler after turns that were known ahead, of which so many are left of n, with what is left to each thread and what the store uses then
abbrev pub rounded_by : Scheduler → ℕ → ℕ → ℕ → ℕ → List ℕ → Used → Scheduler
rounded_by c r n left last rest u =
    record { live = c.live; rest = rest; count = c.count; round = cond (ltb left n) r c.round; from = cond (ltb left n) (last + 1) c.from; used = u }

-- why such turns ended: all were taken; or the thread that was asked took no step
pub data Ended (code : ℕ → Cmd ℕ) (c : Scheduler) (w : Tables) (r : ℕ) (res : Rounds) (x : Tables) : Type 0 where
  all_taken : res.answer ≡ Taken → res.left ≡ 0 → res.used ≡ c.used → x ≡ w → Ended code c w r res x
  one_refused : Refused code c w res.at r res.used res.answer x → Ended code c w r res x

-- turns that were known ahead, from c on: the machine w before the step that was not taken, or after all
pub record Rounded (code : ℕ → Cmd ℕ) (c : Scheduler) (v : Tables) (r n : ℕ) (res : Rounds) (rest : List ℕ) (x : Tables) : Type 0 where
  pub used : Used
  pub w : Tables
  pub last : res.last < most_threads
  pub at : res.at < most_threads
  pub room : length w.frames ≡ threads_words
  pub few : (j : ℕ) → get_or rest j 0 ≤ get_or c.rest j 0
  pub sum : total rest + n ≡ total c.rest + res.left
  pub held : Held (rounded_by c r n res.left res.last rest used) w
  pub turns : turns_of (steps_of code) c.rest (system_in c v) ≡ turns_of (steps_of code) rest (system_in (rounded_by c r n res.left res.last rest used) w)
  pub ended : Ended code (rounded_by c r n res.left res.last rest used) w r res x

-- thread i has no mark
abbrev pub without : Scheduler → ℕ → Scheduler
without c i = record { live = set c.live i 0; rest = c.rest; count = c.count; round = c.round; from = c.from; used = c.used }

-- turns go on from a scheduler
abbrev pub onward : Scheduler → Turned
onward c = record { scheduler = c; thread = 0; answer = Taken }

unfoldable pub is_onward : Answer → Bool
is_onward Taken = true
is_onward Finished = false
is_onward NoRoom = false
is_onward Stuck = false
is_onward Denied = false
is_onward Starts = false

-- a thread more, which thread i of a round of r starts
abbrev pub joined : Scheduler → ℕ → ℕ → Scheduler
joined c i r = record { live = set c.live c.count 1; rest = less i c.rest; count = c.count + 1; round = r; from = i + 1; used = c.used }

-- thread i enters a 0x42: all stays where there is no place for one more; else it is started
pub record Begun (c : Scheduler) (i r : ℕ) (slots a : List ℕ) (z : Turned) (b : List ℕ) : Type 0 where
  pub full : most_threads ≤ c.count → (z ≡ record { scheduler = c; thread = i; answer = NoRoom }) × (b ≡ a)
  pub placed : c.count < most_threads → (z ≡ onward (joined c i r)) × Started a b i c.count slots
  pub long : length b ≡ length a

-- the words that are told of turns that ended are small, and no thread has more steps left than it had
pub record Few (rest : List ℕ) (z : Turned) : Type 0 where
  pub count : z.scheduler.count ≤ most_threads
  pub round : z.scheduler.round ≤ most_threads
  pub from : z.scheduler.from ≤ 255
  pub thread : z.thread < most_threads
  pub left : (j : ℕ) → get_or z.scheduler.rest j 0 ≤ get_or rest j 0

-- turns that go on lead where all lead
pub record Onward (code : ℕ → Cmd ℕ) (c : Scheduler) (v : Tables) (d : Scheduler) (x : Tables) : Type 0 where
  pub held : Held d x
  pub turns : turns_of (steps_of code) c.rest (system_in c v) ≡ turns_of (steps_of code) d.rest (system_in d x)

-- some turns, from c on: they go on, or all that there are have ended so
pub record Leads (code : ℕ → Cmd ℕ) (c : Scheduler) (v : Tables) (z : Turned) (x : Tables) : Type 0 where
  pub long : length x.frames ≡ threads_words
  pub few : Few c.rest z
  pub on : z.answer ≡ Taken → Onward code c v z.scheduler x
  pub over : (z.answer ≡ Taken → ⊥) → turned_in z x ≡ turns_of (steps_of code) c.rest (system_in c v)

-- what is to be done: two for each step that is left, one for each mark
unfoldable pub to_do : Scheduler → ℕ
to_do c = total c.rest + total c.rest + total c.live

-- and less is to be done then
pub record Advanced (code : ℕ → Cmd ℕ) (c : Scheduler) (v : Tables) (z : Turned) (x : Tables) : Type 0 where
  pub leads : Leads code c v z x
  pub falls : z.answer ≡ Taken → to_do z.scheduler < to_do c
