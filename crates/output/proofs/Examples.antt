-- The lines of document 01 and of the sheet as bytes, for values that stand here: computed, and equal to what is written out.
use Rattle.std.specs.Prelude.{◌≡◌, refl, ℕ, true, false, [], ◌∷◌}
use Rattle.std.proofs.Common.{ap}
use Rattle.std.proofs.Math.Option.{Option}
use Rattle.order.specs.Order.{on_upper, below_in, below}
use Rattle.order.specs.Sets.{members, members_from, cons_if, keep, some_of}
use Rattle.order.specs.Effects.{set_names, names, of_word}
use Rattle.syntax.specs.Types.{Ty, num, pair, cell, fn, lim, grant, by_type, on_cell}
use Rattle.syntax.specs.Job.{HostValue, Src, uppers}
use Rattle.semantics.specs.Machine.{Kind, k_num, k_pair, k_fn, k_cell, k_lim, k_grant, Value, System}
use Rattle.semantics.specs.Calls.{spent, noroom}
use Rattle.output.specs.Lines.{decimal_in, decimal, hex_digit, hex, w_refused, w_at, w_accepted, w_done, w_spent, w_no_room, w_number, w_pair, w_cell, w_function, w_limit, w_grant, space, line, type_kind, value_kind, handed, refused_line, accepted_line, ran_line}
use Rattle.output.specs.Sheet.{is_used, carries, count_of, row_of, rows_from, rows_of, aligned, w_yes, w_no, row_line, laid, sheet_text}
use Rattle.output.specs.Examples.{Prints}

-- `refused 14 at 1`, `refused 4 at 10309`
pub refused_lines :
    (refused_line (record { number = 14; place = 1 }) ≡ 0x72 ∷ 0x65 ∷ 0x66 ∷ 0x75 ∷ 0x73 ∷ 0x65 ∷ 0x64 ∷ 0x20 ∷ 0x31 ∷ 0x34 ∷ 0x20 ∷ 0x61 ∷ 0x74 ∷ 0x20 ∷ 0x31 ∷ 0x0A ∷ [])
    × (refused_line (record { number = 4; place = 10309 }) ≡ 0x72 ∷ 0x65 ∷ 0x66 ∷ 0x75 ∷ 0x73 ∷ 0x65 ∷ 0x64 ∷ 0x20 ∷ 0x34 ∷ 0x20 ∷ 0x61 ∷ 0x74 ∷ 0x20 ∷ 0x31 ∷ 0x30 ∷ 0x33 ∷ 0x30 ∷ 0x39 ∷ 0x0A ∷ [])
unfolding decimal_in decimal w_refused w_at space line refused_line
refused_lines = (refl, refl)

-- `accepted 0000000000000004 number`, `accepted fedcba9876543210 number`
pub accepted_lines :
    (accepted_line (num 0) (of_word 4) ≡
    0x61 ∷ 0x63 ∷ 0x63 ∷ 0x65 ∷ 0x70 ∷ 0x74 ∷ 0x65 ∷ 0x64 ∷ 0x20 ∷ 0x30 ∷ 0x30 ∷ 0x30 ∷ 0x30 ∷ 0x30 ∷ 0x30 ∷ 0x30 ∷ 0x30 ∷ 0x30 ∷ 0x30 ∷ 0x30 ∷ 0x30 ∷ 0x30 ∷ 0x30 ∷ 0x30 ∷ 0x34 ∷ 0x20 ∷
    0x6E ∷ 0x75 ∷ 0x6D ∷ 0x62 ∷ 0x65 ∷ 0x72 ∷ 0x0A ∷ [])
    × (accepted_line (num 0) (of_word 0xFEDCBA9876543210) ≡
    0x61 ∷ 0x63 ∷ 0x63 ∷ 0x65 ∷ 0x70 ∷ 0x74 ∷ 0x65 ∷ 0x64 ∷ 0x20 ∷ 0x66 ∷ 0x65 ∷ 0x64 ∷ 0x63 ∷ 0x62 ∷ 0x61 ∷ 0x39 ∷ 0x38 ∷ 0x37 ∷ 0x36 ∷ 0x35 ∷ 0x34 ∷ 0x33 ∷ 0x32 ∷ 0x31 ∷ 0x30 ∷ 0x20 ∷
    0x6E ∷ 0x75 ∷ 0x6D ∷ 0x62 ∷ 0x65 ∷ 0x72 ∷ 0x0A ∷ [])
unfolding hex_digit hex w_accepted w_number space line type_kind accepted_line
accepted_lines = (refl, refl)

-- `number`, `pair`, `cell`, `function`, `limit`, `grant`
pub type_kinds :
    (type_kind (num 2) ≡ 0x6E ∷ 0x75 ∷ 0x6D ∷ 0x62 ∷ 0x65 ∷ 0x72 ∷ [])
    × (type_kind (pair 2 (num 0) (num 0)) ≡ 0x70 ∷ 0x61 ∷ 0x69 ∷ 0x72 ∷ [])
    × (type_kind (cell 2 (num 0)) ≡ 0x63 ∷ 0x65 ∷ 0x6C ∷ 0x6C ∷ [])
    × (type_kind (fn 2 (num 0) (num 0) (of_word 4)) ≡ 0x66 ∷ 0x75 ∷ 0x6E ∷ 0x63 ∷ 0x74 ∷ 0x69 ∷ 0x6F ∷ 0x6E ∷ [])
    × (type_kind (lim 2 3) ≡ 0x6C ∷ 0x69 ∷ 0x6D ∷ 0x69 ∷ 0x74 ∷ [])
    × (type_kind (grant 2 3) ≡ 0x67 ∷ 0x72 ∷ 0x61 ∷ 0x6E ∷ 0x74 ∷ [])
unfolding w_number w_pair w_cell w_function w_limit w_grant type_kind
type_kinds = (refl, refl, refl, refl, refl, refl)

-- `spent 100000`, `spent 7`, `no room 41`: the count of thread 0 and, without room, of the thread without it
pub run_lines :
    (m : System) →
    (ran_line spent (100000 ∷ 7 ∷ []) 0 m ≡ 0x73 ∷ 0x70 ∷ 0x65 ∷ 0x6E ∷ 0x74 ∷ 0x20 ∷ 0x31 ∷ 0x30 ∷ 0x30 ∷ 0x30 ∷ 0x30 ∷ 0x30 ∷ 0x0A ∷ [])
    × (ran_line spent (7 ∷ 100000 ∷ []) 0 m ≡ 0x73 ∷ 0x70 ∷ 0x65 ∷ 0x6E ∷ 0x74 ∷ 0x20 ∷ 0x37 ∷ 0x0A ∷ [])
    × (ran_line noroom (7 ∷ 3 ∷ 41 ∷ []) 2 m ≡ 0x6E ∷ 0x6F ∷ 0x20 ∷ 0x72 ∷ 0x6F ∷ 0x6F ∷ 0x6D ∷ 0x20 ∷ 0x34 ∷ 0x31 ∷ 0x0A ∷ [])
unfolding decimal_in decimal w_spent w_no_room space line ran_line
run_lines m = (refl, refl, refl)

-- `done 3 number 7`, `done 12 number 4294967295`, `done 3 pair`, `done 3 cell`, `done 3 function`, `done 3 limit`, `done 3 grant`
pub done_lines :
    Prints 3 (k_num 7) (0x64 ∷ 0x6F ∷ 0x6E ∷ 0x65 ∷ 0x20 ∷ 0x33 ∷ 0x20 ∷ 0x6E ∷ 0x75 ∷ 0x6D ∷ 0x62 ∷ 0x65 ∷ 0x72 ∷ 0x20 ∷ 0x37 ∷ 0x0A ∷ [])
    × Prints 12 (k_num 4294967295) (0x64 ∷ 0x6F ∷ 0x6E ∷ 0x65 ∷ 0x20 ∷ 0x31 ∷ 0x32 ∷ 0x20 ∷ 0x6E ∷ 0x75 ∷ 0x6D ∷ 0x62 ∷ 0x65 ∷ 0x72 ∷ 0x20 ∷ 0x34 ∷ 0x32 ∷ 0x39 ∷ 0x34 ∷ 0x39 ∷ 0x36 ∷ 0x37 ∷ 0x32 ∷ 0x39 ∷ 0x35 ∷ 0x0A ∷ [])
    × Prints 3 (k_pair 5) (0x64 ∷ 0x6F ∷ 0x6E ∷ 0x65 ∷ 0x20 ∷ 0x33 ∷ 0x20 ∷ 0x70 ∷ 0x61 ∷ 0x69 ∷ 0x72 ∷ 0x0A ∷ [])
    × Prints 3 (k_cell 5) (0x64 ∷ 0x6F ∷ 0x6E ∷ 0x65 ∷ 0x20 ∷ 0x33 ∷ 0x20 ∷ 0x63 ∷ 0x65 ∷ 0x6C ∷ 0x6C ∷ 0x0A ∷ [])
    × Prints 3 (k_fn 5) (0x64 ∷ 0x6F ∷ 0x6E ∷ 0x65 ∷ 0x20 ∷ 0x33 ∷ 0x20 ∷ 0x66 ∷ 0x75 ∷ 0x6E ∷ 0x63 ∷ 0x74 ∷ 0x69 ∷ 0x6F ∷ 0x6E ∷ 0x0A ∷ [])
    × Prints 3 (k_lim 5) (0x64 ∷ 0x6F ∷ 0x6E ∷ 0x65 ∷ 0x20 ∷ 0x33 ∷ 0x20 ∷ 0x6C ∷ 0x69 ∷ 0x6D ∷ 0x69 ∷ 0x74 ∷ 0x0A ∷ [])
    × Prints 3 (k_grant 5) (0x64 ∷ 0x6F ∷ 0x6E ∷ 0x65 ∷ 0x20 ∷ 0x33 ∷ 0x20 ∷ 0x67 ∷ 0x72 ∷ 0x61 ∷ 0x6E ∷ 0x74 ∷ 0x0A ∷ [])
unfolding decimal_in decimal w_done w_number w_pair w_cell w_function w_limit w_grant space line value_kind handed ran_line
done_lines = (
  at 3 (k_num 7),
  at 12 (k_num 4294967295),
  at 3 (k_pair 5),
  at 3 (k_cell 5),
  at 3 (k_fn 5),
  at 3 (k_lim 5),
  at 3 (k_grant 5),
)
  where
    at : (n : ℕ) (k : Kind) → Prints n k (line (space w_done (space (decimal n) (value_kind k))))
    at n k = record { prints = λ m q e c. ap (λ (o : Option Value). line (space w_done (space (decimal n) (handed o)))) e }

-- ` 2  1 yes   1`, `63 10 no   64`: the narrowest numbers and the widest
pub sheet_lines :
    (row_line (record { name = 2; upper = 1; used = true; cells = 1 }) ≡ 0x20 ∷ 0x32 ∷ 0x20 ∷ 0x20 ∷ 0x31 ∷ 0x20 ∷ 0x79 ∷ 0x65 ∷ 0x73 ∷ 0x20 ∷ 0x20 ∷ 0x20 ∷ 0x31 ∷ 0x0A ∷ [])
    × (row_line (record { name = 63; upper = 10; used = false; cells = 64 }) ≡ 0x36 ∷ 0x33 ∷ 0x20 ∷ 0x31 ∷ 0x30 ∷ 0x20 ∷ 0x6E ∷ 0x6F ∷ 0x20 ∷ 0x20 ∷ 0x20 ∷ 0x36 ∷ 0x34 ∷ 0x0A ∷ [])
unfolding decimal_in decimal space line aligned w_yes w_no row_line
sheet_lines = (refl, refl)

-- host names 2 and 5, and 4 under 2; 3 is local. Host values: a cell of 4, a grant key of 2 keyed by 4, a cell of 2, an unkeyed one, another of 4, and one of the top
abbrev a_job : Src
a_job = record {
  names = record { host = true; upper = 1 } ∷ record { host = false; upper = 2 } ∷ record { host = true; upper = 2 } ∷ record { host = true; upper = 1 } ∷ [];
  values = value (cell 4 (num 0)) ∷ value (grant 4 2) ∷ value (cell 2 (num 0)) ∷ value (cell 0 (num 0)) ∷ value (cell 4 (num 0)) ∷ value (cell 1 (num 0)) ∷ [];
  rights = of_word 2;
  cmds = [];
}
  where
    value : Ty → HostValue Ty
    value T = record { ty = T; init = 7 }

-- with the effect {2} its sheet is ` 2  1 yes   1`, ` 4  2 yes   2`, ` 5  1 no    0`; with {4} the first line says `no `
pub sheet_lines_of_a_job :
    (sheet_text (rows_of a_job (of_word 4)) ≡
    0x20 ∷ 0x32 ∷ 0x20 ∷ 0x20 ∷ 0x31 ∷ 0x20 ∷ 0x79 ∷ 0x65 ∷ 0x73 ∷ 0x20 ∷ 0x20 ∷ 0x20 ∷ 0x31 ∷ 0x0A ∷
    0x20 ∷ 0x34 ∷ 0x20 ∷ 0x20 ∷ 0x32 ∷ 0x20 ∷ 0x79 ∷ 0x65 ∷ 0x73 ∷ 0x20 ∷ 0x20 ∷ 0x20 ∷ 0x32 ∷ 0x0A ∷
    0x20 ∷ 0x35 ∷ 0x20 ∷ 0x20 ∷ 0x31 ∷ 0x20 ∷ 0x6E ∷ 0x6F ∷ 0x20 ∷ 0x20 ∷ 0x20 ∷ 0x20 ∷ 0x30 ∷ 0x0A ∷ [])
    × (sheet_text (rows_of a_job (of_word 16)) ≡
    0x20 ∷ 0x32 ∷ 0x20 ∷ 0x20 ∷ 0x31 ∷ 0x20 ∷ 0x6E ∷ 0x6F ∷ 0x20 ∷ 0x20 ∷ 0x20 ∷ 0x20 ∷ 0x31 ∷ 0x0A ∷
    0x20 ∷ 0x34 ∷ 0x20 ∷ 0x20 ∷ 0x32 ∷ 0x20 ∷ 0x79 ∷ 0x65 ∷ 0x73 ∷ 0x20 ∷ 0x20 ∷ 0x20 ∷ 0x32 ∷ 0x0A ∷
    0x20 ∷ 0x35 ∷ 0x20 ∷ 0x20 ∷ 0x31 ∷ 0x20 ∷ 0x6E ∷ 0x6F ∷ 0x20 ∷ 0x20 ∷ 0x20 ∷ 0x20 ∷ 0x30 ∷ 0x0A ∷ [])
unfolding decimal_in decimal space line aligned w_yes w_no row_line laid sheet_text is_used carries count_of row_of rows_from rows_of uppers on_cell by_type some_of names set_names keep members members_from cons_if below below_in on_upper
sheet_lines_of_a_job = (refl, refl)
