-- Document 01's marked cases, "proved together of the rules as one table", and its example, whole.
use Rattle.std.specs.Prelude.{◌≡◌, refl, ℕ, Bool, true, false, get_or}
use mathlib.Core.List.{List, [], ◌∷◌, ◌++◌, flat_map}
use Rattle.std.proofs.Math.Option.{Option, none, some}
use Rattle.order.specs.Bools as Bools
use Rattle.order.specs.Order as Order
use Rattle.order.specs.Sets as Sets
use Rattle.order.specs.Effects as Effects
use Rattle.syntax.specs.Types as Types
use Rattle.syntax.specs.Commands as Commands
use Rattle.syntax.specs.Operands as Operands
use Rattle.syntax.specs.Job as Job
use Rattle.syntax.specs.Reading as Reading
use Rattle.syntax.specs.Tree as Tree
use Rattle.typing.specs.Subtype as Subtype
use Rattle.typing.specs.Least as Least
use Rattle.typing.specs.Verdict as Verdict
use Rattle.typing.specs.Demand2 as Demand2
use Rattle.typing.proofs.Examples as Examples
use Rattle.typing.specs.Examples as Examples_defs
use Rattle.semantics.specs.Keys as Keys
use Rattle.semantics.specs.Step as Step
use Rattle.semantics.specs.Room as Room
use Rattle.semantics.specs.Start as Start
use Rattle.semantics.specs.Threads as Threads
use Rattle.semantics.specs.Calls as Calls
use Rattle.syntax.specs.Loading as Loading
use Rattle.semantics.specs.Starting as Starting
use Rattle.output.specs.Lines as Lines
use Rattle.marked.specs.Jobs as Jobs

-- "With names 2 under 1, and 3 and 4 under 2"
abbrev up : List ℕ
up = 0 ∷ 1 ∷ 1 ∷ 2 ∷ 2 ∷ []

-- the lines as the paper prints them, in bytes:
--   accepted 0000000000000004 number
--   done 3 number 7
abbrev example_lines : List ℕ
example_lines =
    0x61 ∷ 0x63 ∷ 0x63 ∷ 0x65 ∷ 0x70 ∷ 0x74 ∷ 0x65 ∷ 0x64 ∷ 0x20 ∷ 0x30 ∷ 0x30 ∷ 0x30 ∷ 0x30 ∷ 0x30 ∷ 0x30 ∷ 0x30 ∷ 0x30 ∷ 0x30 ∷ 0x30 ∷ 0x30 ∷ 0x30
    ∷ 0x30 ∷ 0x30 ∷ 0x30 ∷ 0x34 ∷ 0x20 ∷ 0x6E ∷ 0x75 ∷ 0x6D ∷ 0x62 ∷ 0x65 ∷ 0x72 ∷ 0x0A ∷ 0x64 ∷ 0x6F ∷ 0x6E ∷ 0x65 ∷ 0x20 ∷ 0x33 ∷ 0x20 ∷ 0x6E
    ∷ 0x75 ∷ 0x6D ∷ 0x62 ∷ 0x65 ∷ 0x72 ∷ 0x20 ∷ 0x37 ∷ 0x0A ∷ []

--   refused 14 at 1
abbrev refused_line : List ℕ
refused_line =
    0x72 ∷ 0x65 ∷ 0x66 ∷ 0x75 ∷ 0x73 ∷ 0x65 ∷ 0x64 ∷ 0x20 ∷ 0x31 ∷ 0x34 ∷ 0x20 ∷ 0x61 ∷ 0x74 ∷ 0x20 ∷ 0x31 ∷ 0x0A ∷ []

--   accepted 0000000000000000 number
--   done 3 number 5
abbrev unkeyed_lines : List ℕ
unkeyed_lines =
    0x61 ∷ 0x63 ∷ 0x63 ∷ 0x65 ∷ 0x70 ∷ 0x74 ∷ 0x65 ∷ 0x64 ∷ 0x20 ∷ 0x30 ∷ 0x30 ∷ 0x30 ∷ 0x30 ∷ 0x30 ∷ 0x30 ∷ 0x30 ∷ 0x30 ∷ 0x30 ∷ 0x30 ∷ 0x30 ∷ 0x30
    ∷ 0x30 ∷ 0x30 ∷ 0x30 ∷ 0x30 ∷ 0x20 ∷ 0x6E ∷ 0x75 ∷ 0x6D ∷ 0x62 ∷ 0x65 ∷ 0x72 ∷ 0x0A ∷ 0x64 ∷ 0x6F ∷ 0x6E ∷ 0x65 ∷ 0x20 ∷ 0x33 ∷ 0x20 ∷ 0x6E
    ∷ 0x75 ∷ 0x6D ∷ 0x62 ∷ 0x65 ∷ 0x72 ∷ 0x20 ∷ 0x35 ∷ 0x0A ∷ []

--   accepted 0000000000000000 number
--   done 6 number 7
abbrev lent_lines : List ℕ
lent_lines =
    0x61 ∷ 0x63 ∷ 0x63 ∷ 0x65 ∷ 0x70 ∷ 0x74 ∷ 0x65 ∷ 0x64 ∷ 0x20 ∷ 0x30 ∷ 0x30 ∷ 0x30 ∷ 0x30 ∷ 0x30 ∷ 0x30 ∷ 0x30 ∷ 0x30 ∷ 0x30 ∷ 0x30 ∷ 0x30 ∷ 0x30
    ∷ 0x30 ∷ 0x30 ∷ 0x30 ∷ 0x30 ∷ 0x20 ∷ 0x6E ∷ 0x75 ∷ 0x6D ∷ 0x62 ∷ 0x65 ∷ 0x72 ∷ 0x0A ∷ 0x64 ∷ 0x6F ∷ 0x6E ∷ 0x65 ∷ 0x20 ∷ 0x36 ∷ 0x20 ∷ 0x6E
    ∷ 0x75 ∷ 0x6D ∷ 0x62 ∷ 0x65 ∷ 0x72 ∷ 0x20 ∷ 0x37 ∷ 0x0A ∷ []

--   accepted 0000000000000000 number
--   done 4 number 0
abbrev unlent_lines : List ℕ
unlent_lines =
    0x61 ∷ 0x63 ∷ 0x63 ∷ 0x65 ∷ 0x70 ∷ 0x74 ∷ 0x65 ∷ 0x64 ∷ 0x20 ∷ 0x30 ∷ 0x30 ∷ 0x30 ∷ 0x30 ∷ 0x30 ∷ 0x30 ∷ 0x30 ∷ 0x30 ∷ 0x30 ∷ 0x30 ∷ 0x30 ∷ 0x30
    ∷ 0x30 ∷ 0x30 ∷ 0x30 ∷ 0x30 ∷ 0x20 ∷ 0x6E ∷ 0x75 ∷ 0x6D ∷ 0x62 ∷ 0x65 ∷ 0x72 ∷ 0x0A ∷ 0x64 ∷ 0x6F ∷ 0x6E ∷ 0x65 ∷ 0x20 ∷ 0x34 ∷ 0x20 ∷ 0x6E
    ∷ 0x75 ∷ 0x6D ∷ 0x62 ∷ 0x65 ∷ 0x72 ∷ 0x20 ∷ 0x30 ∷ 0x0A ∷ []

--   accepted 0000000000000000 number
--   and the line l
unfoldable pub accepted_then : List ℕ → List ℕ
accepted_then l =
    (0x61 ∷ 0x63 ∷ 0x63 ∷ 0x65 ∷ 0x70 ∷ 0x74 ∷ 0x65 ∷ 0x64 ∷ 0x20 ∷ 0x30 ∷ 0x30 ∷ 0x30 ∷ 0x30 ∷ 0x30 ∷ 0x30 ∷ 0x30 ∷ 0x30 ∷ 0x30 ∷ 0x30 ∷ 0x30 ∷ 0x30
    ∷ 0x30 ∷ 0x30 ∷ 0x30 ∷ 0x30 ∷ 0x20 ∷ 0x6E ∷ 0x75 ∷ 0x6D ∷ 0x62 ∷ 0x65 ∷ 0x72 ∷ 0x0A ∷ []) ++ l ++ (0x0A ∷ [])

--   accepted 0000000000000000 number
--   done, after so many steps (a digit), number, and which
unfoldable pub number_lines : ℕ → List ℕ → List ℕ
number_lines d n =
    (0x61 ∷ 0x63 ∷ 0x63 ∷ 0x65 ∷ 0x70 ∷ 0x74 ∷ 0x65 ∷ 0x64 ∷ 0x20 ∷ 0x30 ∷ 0x30 ∷ 0x30 ∷ 0x30 ∷ 0x30 ∷ 0x30 ∷ 0x30 ∷ 0x30 ∷ 0x30 ∷ 0x30 ∷ 0x30 ∷ 0x30 ∷ 0x30 ∷ 0x30 ∷ 0x30 ∷ 0x30 ∷ 0x20 ∷ 0x6E ∷ 0x75 ∷ 0x6D ∷ 0x62 ∷ 0x65 ∷ 0x72 ∷ 0x0A ∷ 0x64 ∷ 0x6F ∷ 0x6E ∷ 0x65 ∷ 0x20 ∷ d ∷ 0x20 ∷ 0x6E ∷ 0x75 ∷ 0x6D ∷ 0x62 ∷ 0x65 ∷ 0x72 ∷ 0x20 ∷ []) ++ (n ++ (0x0A ∷ []))

--   accepted 0000000000000020 number
--   done 145 number 36
abbrev every_lines : List ℕ
every_lines =
    0x61 ∷ 0x63 ∷ 0x63 ∷ 0x65 ∷ 0x70 ∷ 0x74 ∷ 0x65 ∷ 0x64 ∷ 0x20 ∷ 0x30 ∷ 0x30 ∷ 0x30 ∷ 0x30 ∷ 0x30 ∷ 0x30 ∷ 0x30 ∷ 0x30 ∷ 0x30 ∷ 0x30 ∷ 0x30 ∷ 0x30
    ∷ 0x30 ∷ 0x30 ∷ 0x32 ∷ 0x30 ∷ 0x20 ∷ 0x6E ∷ 0x75 ∷ 0x6D ∷ 0x62 ∷ 0x65 ∷ 0x72 ∷ 0x0A ∷ 0x64 ∷ 0x6F ∷ 0x6E ∷ 0x65 ∷ 0x20 ∷ 0x31 ∷ 0x34 ∷ 0x35
    ∷ 0x20 ∷ 0x6E ∷ 0x75 ∷ 0x6D ∷ 0x62 ∷ 0x65 ∷ 0x72 ∷ 0x20 ∷ 0x33 ∷ 0x36 ∷ 0x0A ∷ []

unfoldable pub is_read : Reading.Read → Bool
is_read (Reading.refused r) = false
is_read (Reading.read J) = true

-- how a run of the job ends, "started anyway": after how many steps of each thread, and who failed
pub record Told : Type 0 where
  pub answer : Calls.Answer
  pub counts : List ℕ
  pub thread : ℕ

-- with the counts of threads 0 and 1, and none of another
abbrev ended : Calls.Answer → ℕ → ℕ → ℕ → Option Told
ended a m n i = some (record { answer = a; counts = m ∷ n ∷ 0 ∷ 0 ∷ 0 ∷ 0 ∷ 0 ∷ 0 ∷ []; thread = i })

unfoldable pub told : Calls.Ran → Told
told r = record { answer = r.answer; counts = r.counts; thread = r.thread }

unfoldable pub ran_from : List ℕ → Reading.Read → Starting.Started → Option Told
ran_from allow (Reading.refused r) st = none
ran_from allow (Reading.read J) (Starting.unstarted r) = none
ran_from allow (Reading.read J) (Starting.started m) = some (told (Calls.call (Threads.steps_of (Operands.nth J.cmds)) (Calls.run_of allow) m))

-- a run with these allowances
unfoldable pub started_with : List ℕ → List ℕ → Option Told
started_with allow s = ran_from allow (Reading.reading s) (Starting.starting s)

-- with the desk program's
abbrev started : List ℕ → Option Told
started s = started_with Lines.desk_allows s

pub record Marked : Type 0 where
  -- "bit i stands for name i"
  pub bits : (Effects.of_names (2 ∷ 3 ∷ [])).set ≡ 0x0C
  -- {3} below {2}
  pub below : Effects.eff_below up (Effects.of_names (3 ∷ [])) (Effects.of_names (2 ∷ [])) ≡ true
  -- {2} not below {3}
  pub not_below : Effects.eff_below up (Effects.of_names (2 ∷ [])) (Effects.of_names (3 ∷ [])) ≡ false
  -- {2,3} reduces to {2}
  pub reduces : Effects.reduce up (Effects.of_names (2 ∷ 3 ∷ [])) ≡ Effects.of_names (2 ∷ [])
  -- 2 enabled and limit 3 leaves 3
  pub limit_leaves : Keys.narrow up 4 (3 ∷ []) ≡ 8
  -- 3 enabled and limit 4 leaves nothing
  pub limit_nothing : Keys.narrow up 8 (4 ∷ []) ≡ 0
  -- a grant of 2 drops {3,4}
  pub grant_drops : Effects.drop up 2 (Effects.of_names (3 ∷ 4 ∷ [])) ≡ Effects.pure
  -- 3 raised is 2, its upper name in the tree
  pub raised : Effects.raise 3 (get_or up 3 0) (Effects.of_names (3 ∷ [])) ≡ Effects.of_names (2 ∷ [])
  -- depth 16 read, 17 refused with 6
  pub depth_16 : is_read (Reading.reading (Jobs.nested 15)) ≡ true
  pub depth_17 : Reading.reading (Jobs.nested 16) ≡ Reading.refused_at 6 62
  -- 4294967295 + 1 = 4294967295 and 3 − 5 = 0, as document 02 has them (F-2): jobs of three expressions, printed whole; and two that pass no end
  pub sum_stops : Lines.desk_of (Jobs.reckoning 0 0xFF 0xFF 1 0) ≡ number_lines 0x35 (0x34 ∷ 0x32 ∷ 0x39 ∷ 0x34 ∷ 0x39 ∷ 0x36 ∷ 0x37 ∷ 0x32 ∷ 0x39 ∷ 0x35 ∷ [])
  pub difference_stops : Lines.desk_of (Jobs.reckoning 1 3 0 5 0) ≡ number_lines 0x35 (0x30 ∷ [])
  pub sum_true : Lines.desk_of (Jobs.reckoning 0 3 0 5 0) ≡ number_lines 0x35 (0x38 ∷ [])
  pub difference_true : Lines.desk_of (Jobs.reckoning 1 5 0 3 0) ≡ number_lines 0x35 (0x32 ∷ [])
  -- 17 over 5 is 3, with 2 left, and 4294967295 over 0 is 0, with all left (F-5): jobs of four expressions, printed whole
  pub share : Lines.desk_of (Jobs.sharing 1 17 0 5 0) ≡ number_lines 0x37 (0x33 ∷ [])
  pub share_left : Lines.desk_of (Jobs.sharing 2 17 0 5 0) ≡ number_lines 0x37 (0x32 ∷ [])
  pub share_of_none : Lines.desk_of (Jobs.sharing 1 0xFF 0xFF 0 0) ≡ number_lines 0x37 (0x30 ∷ [])
  pub share_all_left : Lines.desk_of (Jobs.sharing 2 0xFF 0xFF 0 0) ≡ number_lines 0x37 (0x34 ∷ 0x32 ∷ 0x39 ∷ 0x34 ∷ 0x39 ∷ 0x36 ∷ 0x37 ∷ 0x32 ∷ 0x39 ∷ 0x35 ∷ [])
  -- both are touched: with a key on either the rights must lend it, and the machine, started anyway, is denied
  pub share_keyed : Verdict.verdict_of (Jobs.keyed_sharing 0x04 2 3) ≡ Verdict.accept (Types.pair 0 (Types.num 0) (Types.num 0)) (Effects.of_word 0x04)
  pub share_refused : Verdict.verdict_of (Jobs.keyed_sharing 0x00 2 3) ≡ Verdict.refuse (record { number = 14; place = 4 })
  pub share_denied : started (Jobs.keyed_sharing 0x00 2 3) ≡ ended Calls.denied 8 0 0
  pub share_keyed_by : Verdict.verdict_of (Jobs.keyed_sharing 0x04 3 2) ≡ Verdict.accept (Types.pair 0 (Types.num 0) (Types.num 0)) (Effects.of_word 0x04)
  pub share_refused_by : Verdict.verdict_of (Jobs.keyed_sharing 0x00 3 2) ≡ Verdict.refuse (record { number = 14; place = 4 })
  pub share_denied_by : started (Jobs.keyed_sharing 0x00 3 2) ≡ ended Calls.denied 8 0 0
  -- threads (F-6), in turn by number: thread 0 reads a cell in the round in which thread 1 puts 5 into it, and finds 0, since it goes first; one round later it finds 5
  pub same_round : Lines.desk_of (Jobs.threaded_read (Jobs.one_step_more 5) 6) ≡ accepted_then (0x64 ∷ 0x6F ∷ 0x6E ∷ 0x65 ∷ 0x20 ∷ 0x38 ∷ 0x20 ∷ 0x6E ∷ 0x75 ∷ 0x6D ∷ 0x62 ∷ 0x65 ∷ 0x72 ∷ 0x20 ∷ 0x30 ∷ [])
  pub next_round : Lines.desk_of (Jobs.threaded_read (Jobs.one_step_more 5 ++ Jobs.one_step_more 6) 7) ≡ accepted_then (0x64 ∷ 0x6F ∷ 0x6E ∷ 0x65 ∷ 0x20 ∷ 0x39 ∷ 0x20 ∷ 0x6E ∷ 0x75 ∷ 0x6D ∷ 0x62 ∷ 0x65 ∷ 0x72 ∷ 0x20 ∷ 0x35 ∷ [])
  -- a thread whose body has an effect is refused with 16 and, started anyway, denied: the keys of the thread that starts it are not handed on
  pub spawn_refused : Verdict.verdict_of Jobs.spawned_read ≡ Verdict.refuse (record { number = 16; place = 2 })
  pub spawn_denied : started Jobs.spawned_read ≡ ended Calls.denied 1 2 1
  -- eight threads run to their ends; "a ninth is no room"
  pub eight_threads : Lines.desk_of Jobs.seven_more ≡ accepted_then (0x64 ∷ 0x6F ∷ 0x6E ∷ 0x65 ∷ 0x20 ∷ 0x32 ∷ 0x35 ∷ 0x20 ∷ 0x6E ∷ 0x75 ∷ 0x6D ∷ 0x62 ∷ 0x65 ∷ 0x72 ∷ 0x20 ∷ 0x30 ∷ [])
  pub ninth_thread : Lines.desk_of Jobs.eight_more ≡ accepted_then (0x6E ∷ 0x6F ∷ 0x20 ∷ 0x72 ∷ 0x6F ∷ 0x6F ∷ 0x6D ∷ 0x20 ∷ 0x32 ∷ 0x31 ∷ [])
  -- an allowance for each thread (F-7), of the job in which thread 0 finds 5 after 9 steps, and thread 1 takes 5: a thread at its allowance is passed over, and the other goes on to its end; with no allowance at all nobody steps
  pub first_spent : started_with (3 ∷ 100 ∷ []) (Jobs.threaded_read (Jobs.one_step_more 5 ++ Jobs.one_step_more 6) 7) ≡ ended Calls.spent 3 5 0
  pub second_spent : started_with (100 ∷ 2 ∷ []) (Jobs.threaded_read (Jobs.one_step_more 5 ++ Jobs.one_step_more 6) 7) ≡ ended Calls.spent 9 2 0
  pub none_allowed : started_with [] (Jobs.threaded_read (Jobs.one_step_more 5 ++ Jobs.one_step_more 6) 7) ≡ ended Calls.spent 0 0 0
  -- done to the last step of each, and spent one step before it
  pub to_the_last : started_with (9 ∷ 5 ∷ []) (Jobs.threaded_read (Jobs.one_step_more 5 ++ Jobs.one_step_more 6) 7) ≡ ended Calls.finished 9 5 0
  pub one_before : started_with (8 ∷ 5 ∷ []) (Jobs.threaded_read (Jobs.one_step_more 5 ++ Jobs.one_step_more 6) 7) ≡ ended Calls.spent 8 5 0
  -- an unkeyed cell read with no rights done
  pub unkeyed_done : Lines.desk_of Jobs.unkeyed_read ≡ unkeyed_lines
  -- a keyed read inside a limit without keys refused with 13
  pub limited_refused : Verdict.verdict_of Jobs.limited_read ≡ Verdict.refuse (record { number = 13; place = 2 })
  -- and denied, when it is started anyway: a limit without keys enables nothing
  pub limited_denied : started Jobs.limited_read ≡ ended Calls.denied 3 0 0
  -- the example "prints, whole"
  pub example_lines_lem : Lines.desk_of (Jobs.example 0x04) ≡ example_lines
  -- "With rights 00 in place of 04: `refused 14 at 1`"
  pub example_refused : Lines.desk_of (Jobs.example 0x00) ≡ refused_line
  -- "the machine, started anyway, is denied after 2 steps"
  pub example_denied : started (Jobs.example 0x00) ≡ ended Calls.denied 2 0 0
  -- beyond the paper's: a job that asks for a key, where the rights lend it and where they do not: the same verdict, another branch
  pub asking_lent : Lines.desk_of (Jobs.asking 0x04) ≡ lent_lines
  pub asking_unlent : Lines.desk_of (Jobs.asking 0x00) ≡ unlent_lines
  -- the key is touched: with its own key the effect has it, the rights must lend it, and the machine, started anyway, is denied
  pub asking_keyed : Verdict.verdict_of (Jobs.asking_with 0x14 0x02 0x04 2 3 0) ≡ Verdict.accept (Types.num 0) (Effects.of_word 0x04)
  pub asking_keyed_refused : Verdict.verdict_of (Jobs.asking_with 0x14 0x02 0x00 2 3 0) ≡ Verdict.refuse (record { number = 14; place = 4 })
  pub asking_keyed_denied : started (Jobs.asking_with 0x14 0x02 0x00 2 3 0) ≡ ended Calls.denied 2 0 0
  -- nothing is dropped from the second branch
  pub asking_turned : Verdict.verdict_of (Jobs.asking_with 0x14 0x00 0x00 3 2 0) ≡ Verdict.refuse (record { number = 14; place = 4 })
  -- a grant key is of the wrong kind, also where a branch is of the wrong type; then the branches
  pub asking_grant : Verdict.verdict_of (Jobs.asking_with 0x15 0x00 0x04 2 3 2) ≡ Verdict.refuse (record { number = 11; place = 4 })
  pub asking_other : Verdict.verdict_of (Jobs.asking_with 0x14 0x00 0x04 2 3 2) ≡ Verdict.refuse (record { number = 12; place = 4 })
  -- a job that runs every command
  pub every_command_lem : Lines.desk_of Jobs.every_command ≡ every_lines
  -- and one with a name out of scope: it is refused with 10, and the rules give it no type
  pub unscoped_refused : Verdict.verdict_of Jobs.unscoped ≡ Verdict.refuse (record { number = 10; place = 1 })
  pub unscoped_read : Reading.reading Jobs.unscoped ≡ Reading.read Examples_defs.unscoped
  pub unscoped_untyped : (T : Types.Ty) (s : Effects.Effect) → Demand2.JobHas Examples_defs.unscoped T s → ⊥

pub marked : Marked
unfolding Bools.◌and◌ Bools.◌or◌ Order.on_upper Order.below_in Order.below Sets.bit Sets.cons_if Sets.members_from Sets.members Sets.set_of Sets.keep Sets.some_of Sets.all_of Effects.of_names Effects.names Effects.touch Effects.join Effects.eff_below Effects.maximal Effects.reduced Effects.reduce Effects.drop Effects.raise Types.key_of Types.rekey Types.depth Types.names_in Types.entry_tree Types.tree_in Types.tree Commands.map_cmd Commands.commands Commands.find_op Commands.op_of Commands.operands Commands.total Commands.width Commands.section_of Commands.little Commands.fields Operands.nth Operands.plain Operands.inner Operands.children Operands.types_of Operands.uses_var Operands.binds_var Operands.binds_name Job.uppers Job.value_of Job.source_of Reading.declared Reading.is_host Reading.host_name Reading.open_name Reading.local_name Reading.set_ok Reading.name_ok Reading.parts_ok Reading.type_ok Reading.unkeyed_number Reading.host_type_ok Reading.host_value_ok Reading.rights_ok Reading.cmd_ok Reading.written Reading.given Reading.enter Reading.misplaced Reading.full Reading.settle Reading.command Reading.ended Reading.onward Reading.on_op Reading.read_from Reading.reading Tree.binds Tree.vars_of Tree.names_of Tree.mem_b Tree.uses_name Tree.add_host Tree.name_ctx Tree.value_ctx Tree.host_ctx Tree.root Tree.count Tree.uses Tree.used_right Tree.bound_by Tree.binds_new Tree.parent Tree.scope_in Tree.ctx Tree.name_in Tree.in_scope Tree.first_bad Tree.or_else Tree.numbered Tree.lowest Tree.tree_refusal Subtype.same_ty Subtype.sub_ty Subtype.super_ty Least.with Least.want_num Least.want_pair Least.want_cell Least.want_fn Least.want_lim Least.want_grant Least.require Least.is_upper Least.type_in Least.var_type Least.of_var Least.keys_at Least.type_at Least.get Least.extend Least.types_to Least.types Least.type_of Least.first_untyped Verdict.unless Verdict.within Verdict.judged Verdict.judge Verdict.judge_read Verdict.verdict_of Keys.enabled Keys.upto Keys.narrow Keys.add Step.room Step.touch Step.touch_all Step.settle Step.as_num Step.as_pair Step.as_fn Step.as_cell Step.as_lim Step.as_grant Step.found Step.bare Step.one Step.two Step.act_pair Step.part_of Step.act_part Step.act_fn Step.act_app Step.act_new Step.act_asg Step.act_read Step.sum_n Step.act_sum Step.branch Step.act_test Step.limit_keys Step.keys_of Step.act_lim Step.act_grant Step.make_key Step.act_newkey Step.act_assoc Step.act_access Step.quotient Step.remainder Step.act_divide Step.act_spawn Operands.evaluated Step.push Step.act Step.seek_in Step.seek_at Step.seek Step.variable Step.enter_at Step.enter_cmd Step.receive Step.hand_to Step.plan_on Step.plan Step.step Room.done_at Room.is_done Start.bind_to Start.add_name Start.add_names Start.named Start.host_value Start.host_cell Start.add_values Start.key_named Start.valued Start.first_thread Start.first_store Start.start_of Threads.value_of Threads.live_thread Threads.all_done Threads.handed_on Threads.first_value Threads.first_from Threads.in_round Threads.next Threads.took Threads.step_thread Threads.take_turn Threads.turn Calls.bump Calls.total Calls.always Calls.allowed Calls.closing Calls.on_turn Calls.run Calls.call Calls.calls accepted_then Jobs.one_step_more Jobs.threaded_read Jobs.spawned_read Jobs.seven_more Jobs.eight_more Lines.decimal_in Lines.decimal Lines.hex_digit Lines.hex Lines.w_refused Lines.w_at Lines.w_accepted Lines.w_done Lines.w_spent Lines.w_no_room Lines.w_number Lines.w_pair Lines.w_cell Lines.w_function Lines.w_limit Lines.w_grant Lines.space Lines.line Lines.type_kind Lines.value_kind Lines.handed Lines.refused_line Lines.accepted_line Lines.ran_line Lines.ran_of Lines.run_line Lines.run_read Lines.reported Lines.desk_of Lines.printed flat_map Jobs.example Jobs.asking Jobs.cells_from Jobs.nested Jobs.reckoning Jobs.sharing Jobs.keyed_sharing number_lines Jobs.unkeyed_read Jobs.limited_read Jobs.every_command Jobs.unscoped is_read told ran_from started_with Loading.unless Loading.in_tree Loading.loading Starting.start_loaded Starting.starting Tree.predecessor Types.by_type Types.on_num Types.on_pair Types.on_cell Types.on_fn Types.on_lim Types.on_grant Effects.set_names Effects.set_touch Effects.set_below Effects.set_reduced Effects.set_reduce Effects.set_drop Effects.set_raise
marked =
    record {
      bits = refl;
      below = refl;
      not_below = refl;
      reduces = refl;
      limit_leaves = refl;
      limit_nothing = refl;
      grant_drops = refl;
      raised = refl;
      depth_16 = refl;
      depth_17 = refl;
      sum_stops = refl;
      difference_stops = refl;
      sum_true = refl;
      difference_true = refl;
      share = refl;
      share_left = refl;
      share_of_none = refl;
      share_all_left = refl;
      share_keyed = refl;
      share_refused = refl;
      share_denied = refl;
      share_keyed_by = refl;
      share_refused_by = refl;
      share_denied_by = refl;
      same_round = refl;
      next_round = refl;
      spawn_refused = refl;
      spawn_denied = refl;
      eight_threads = refl;
      ninth_thread = refl;
      first_spent = refl;
      second_spent = refl;
      none_allowed = refl;
      to_the_last = refl;
      one_before = refl;
      unkeyed_done = refl;
      limited_refused = refl;
      limited_denied = refl;
      example_lines_lem = refl;
      example_refused = refl;
      example_denied = refl;
      asking_lent = refl;
      asking_unlent = refl;
      asking_keyed = refl;
      asking_keyed_refused = refl;
      asking_keyed_denied = refl;
      asking_turned = refl;
      asking_grant = refl;
      asking_other = refl;
      every_command_lem = refl;
      unscoped_refused = refl;
      unscoped_read = refl;
      unscoped_untyped = Examples.unscoped_untyped;
    }
