-- The ways that a run ends: answers with no room, a refused start, all calls made.
use mathlib.Core.Path.{◌≡◌, refl, sym, ap, ◌∙◌, subst}
use Prim.Native.Nat.{ℕ, ◌≤◌}
use native.Mathlib.Omega.{arith}
use mathlib.Core.Bool.{Bool, true, false}
use mathlib.Core.List.{List, []}
use lib.ListN.{length, set}
use Rattle.syntax.specs.Words.{code_in}
use Rattle.semantics.specs.Machine.{System, most_threads}
use Rattle.syntax.specs.Loading.{JobTables}
use Rattle.semantics.specs.Threads.{steps_of}
use Rattle.semantics.proofs.TurnLaws.{lawful}
use Rattle.semantics.specs.Starting.{started, unstarted}
use Rattle.table.specs.Told.{Tells}
use Rattle.machine.specs.View.{seen}
use Rattle.machine.proofs.Tells.{seen_few}
use Rattle.calls.specs.Words.{room_for, over}
use Rattle.calls.proofs.Laws.{results_fit}
use Rattle.std.specs.Prelude.{Ok, Err}
use Rattle.table.specs.declared.Refusal.{Refusal}
use Rattle.start.specs.declared.Opened.{Opened}
use Rattle.start.specs.Starts.{Told, told_in, Starts}
use Rattle.results.specs.Told.{room_words}
use Rattle.capi.specs.Runs.{number_of, opened_with, opened_tables, Goes, Ran, Runs}

all_ran : (heads slots : List ℕ) {ws a a' k k' : List ℕ} {m : System} → length m.threads ≤ most_threads → room_for ws a ≡ true → Goes (steps_of (code_in heads slots)) ws m a a' k k'
    → Ran (steps_of (code_in heads slots)) ws m a a' k k'
all_ran heads slots {ws} {a} {k = k} {m = m} few h g = record {
  answers = g.made.answers ∙ results_fit (steps_of (code_in heads slots)) (lawful (code_in heads slots)) ws a m few h;
  rooms = g.rooms ∙ ap (λ (z : System). over k (room_words z)) g.made.machine;
}

pub runs_short : (bytes ws : List ℕ) (w : JobTables) (a k k' : List ℕ) {r : ℕ} → room_for ws a ≡ false → Tells 1 0 r k k' → Runs bytes r ws w w a a k k'
unfolding opened_with opened_tables number_of
runs_short bytes ws w a k k' h f =
    record {
      tables = rw h;
      number = f.number ∙ rw h;
      goes = λ m z. absurd (let y : unstarted (record { number = 1; place = 0 }) ≡ started m = rw h at z in let u : ◌≡◌ {A = ℕ} 0 1 = cc in omega arith);
      stops =
          λ q z. let y : unstarted (record { number = 1; place = 0 }) ≡ unstarted q = rw h at z in
          let p : 0 ≡ q.place = cc in
          record { answers = refl; rooms = f.told ∙ ap (λ (i : ℕ). set k 0 i) p };
    }

module _ (bytes ws a : List ℕ) {w x : JobTables} (o : Opened) (to : Starts bytes o w x) (room : room_for ws a ≡ true) where
  -- what the answer of the start stands for
  outcome : (fs : List ℕ) {u : Told} → o.told ≡ u → opened_with (room_for ws a) w bytes ≡ told_in u (seen o.machine fs)
  unfolding opened_with
  outcome fs e = ap (λ (b : Bool). opened_with b w bytes) room ∙ sym (to.answer fs) ∙ ap (λ (u : Told). told_in u (seen o.machine fs)) e

  tables_are : x ≡ opened_tables (room_for ws a) w bytes
  unfolding opened_tables
  tables_are = to.tables ∙ sym (ap (λ (b : Bool). opened_tables b w bytes) room)

  module _ {k k' : List ℕ} where
    pub runs_started : (fs : List ℕ) {a' : List ℕ} → o.told ≡ Ok tt → Goes (steps_of (code_in x.heads x.slots)) ws (seen o.machine fs) a a' k k' → Runs bytes 0 ws w x a a' k k'
    unfolding number_of
    runs_started fs {a'} e g =
        record {
          tables = tables_are;
          number = sym (ap number_of (outcome fs e));
          goes = λ m z. let y : seen o.machine fs ≡ m = cc (sym (outcome fs e) ∙ z) in subst (λ (c : System). Ran (steps_of (code_in x.heads x.slots)) ws c a a' k k') y (all_ran _ _ (seen_few o.machine fs) room g);
          stops = λ q z. absurd (let y : ◌≡◌ {A = ℕ} 0 1 = cc (sym (outcome fs e) ∙ z) in omega arith);
        }

    pub runs_refused : (d : Refusal) {r : ℕ} → o.told ≡ Err d → Tells d.number d.place r k k' → Runs bytes r ws w x a a k k'
    unfolding number_of
    runs_refused d e z =
        record {
          tables = tables_are;
          number = z.number ∙ sym (ap number_of (outcome [] e));
          goes = λ m y. absurd (let q : ◌≡◌ {A = ℕ} 0 1 = cc (sym (outcome [] e) ∙ y) in omega arith);
          stops = λ q y. let s : d.place ≡ q.place = cc (sym (outcome [] e) ∙ y) in record { answers = refl; rooms = z.told ∙ ap (λ (i : ℕ). set k 0 i) s };
        }
