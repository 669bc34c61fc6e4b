-- Demand 3 of `jobdesk_run`: of bytes that the check accepts, with tables and answers that are long enough, it gives only answers that demand 3 allows. The hypotheses are what
-- `check` and `jobdesk_run` ensure, and nothing else.
use Rattle.std.specs.Prelude.{◌≡◌, refl, ℕ, ◌*◌, Bool, true, false, List, ◌++◌, drop}
use Rattle.std.proofs.Common.{ap, ◌∙◌}
use Rattle.std.proofs.Math.Path.{fun_ext}
use Rattle.syntax.specs.Commands.{Cmd}
use Rattle.syntax.specs.Job.{source_of}
use Rattle.syntax.specs.Reading.{read}
use Rattle.syntax.specs.Words.{code_in}
use Rattle.syntax.specs.WordLaws.{Bytes}
use Rattle.syntax.specs.Loading.{JobTables, short, loading, tables_after_load}
use Rattle.typing.specs.Tables.{Tables}
use Rattle.semantics.specs.Start.{start_of}
use Rattle.semantics.specs.Starting.{started}
use Rattle.semantics.specs.Threads.{steps_of}
use Rattle.semantics.specs.Calls.{calls}
use Rattle.semantics.specs.Demand3.{expr_of, calls_of}
use Rattle.calls.specs.Words.{answer_words_lem, call_count, calls_in, room_for, result_words}
use Rattle.checker.specs.declared.Checked.{Checked}
use Rattle.std.specs.Prelude.{Ok}
use Rattle.checker.specs.Answer.{CheckTo}
use Rattle.safety.proofs.Accepting.{accepting}
use Rattle.safety.proofs.FromContracts.{accepted_loads, start_is, loaded_code}
use Rattle.capi.specs.Runs.{number_of, opened_with, opened_tables, Runs}
use Rattle.capi.specs.RunSafety.{SafeRun}

pub accepted_run : (bytes words : List ℕ) → Bytes bytes → {c : Checked} {w x : Tables} → CheckTo bytes (Ok c) w x
    → {r : ℕ} (u : JobTables) {y : JobTables} {a a' k k' : List ℕ} → Runs bytes r words u y a a' k k' → short u ≡ false → room_for words a ≡ true → SafeRun bytes words r a a'
unfolding opened_with opened_tables number_of
accepted_run bytes words by {c} {w} {x} to {r} u {y} {a} {a'} h l room =
    let its = accepting bytes by c w x to in
    let J = its.job in
    let loads : loading bytes ≡ read J = accepted_loads bytes J its.verdict its.is in
    let opens : opened_with (room_for words a) u bytes ≡ started (start_of (source_of J)) = ap (λ (b : Bool). opened_with b u bytes) room ∙ start_is u bytes J l loads in
    let holds : y ≡ tables_after_load u bytes = h.tables ∙ ap (λ (b : Bool). opened_tables b u bytes) room in
    let code : code_in y.heads y.slots ≡ expr_of J = fun_ext (loaded_code bytes J by its.is loads u l holds) in
    record {
      job = J;
      is = its.is;
      number = h.number ∙ ap number_of opens;
      results = calls_of J (calls_in words);
      actual = refl;
      allowed = its.allowed (calls_in words);
      written =
          (h.goes (start_of (source_of J)) opens).answers
          ∙ ap (λ (f : ℕ → Cmd ℕ). result_words (calls (steps_of f) (calls_in words) (start_of (source_of J))) ++ drop (answer_words_lem * call_count words) a) code;
    }
