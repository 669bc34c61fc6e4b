-- The cases of a session: too short answers, a refused job, an accepted job.
use mathlib.Core.Path.{◌≡◌, refl, sym, ap, ◌∙◌, subst, fun_ext}
use Prim.Native.Nat.{ℕ, ◌*◌}
use native.Mathlib.Omega.{arith}
use mathlib.Core.Bool.{true, false}
use mathlib.Core.List.{List, ◌++◌}
use lib.ListN.{length, drop}
use Rattle.order.specs.Effects.{of_word}
use Rattle.syntax.specs.Types.{Ty}
use Rattle.syntax.specs.Reading.{Refusal, read}
use Rattle.syntax.specs.Job.{Job, source_of}
use Rattle.syntax.specs.Commands.{Cmd}
use Rattle.syntax.specs.Words.{code_in}
use Rattle.syntax.specs.WordLaws.{Bytes}
use Rattle.typing.specs.Verdict.{accept, refuse}
use Rattle.typing.specs.Tables.{Tables, verdict_with, tables_after}
use Rattle.semantics.specs.Machine.{System}
use Rattle.semantics.specs.Start.{start_of}
use Rattle.semantics.specs.Threads.{Steps, steps_of}
use Rattle.semantics.specs.Calls.{calls, last_of}
use Rattle.semantics.proofs.TurnLaws.{lawful}
use Rattle.semantics.specs.Demand3.{expr_of, steps_in, calls_of}
use Rattle.machine.specs.declared.Machine.{Machine}
use Rattle.machine.specs.View.{seen}
use Rattle.calls.specs.Words.{answer_words_lem, call_count, calls_in, room_for, result_words, over}
use Rattle.calls.proofs.Laws.{results_fit}
use Rattle.calls.specs.Made.{Made}
use Rattle.checker.specs.declared.Checked.{Checked}
use Rattle.std.specs.Prelude.{Ok, Err}
use Rattle.table.specs.declared.Refusal.{Refusal as Told}
use Rattle.judge.specs.declared.Accepted.{Accepted}
use Rattle.judge.specs.Answer.{accepted_by, refused_by}
use Rattle.checker.specs.Answer.{verdict_in, last_in, CheckTo}
use Rattle.entry.specs.declared.Shape.{Shape}
use Rattle.entry.specs.Shapes.{shape_of}
use Rattle.start.specs.Starts.{built_from}
use Rattle.start.proofs.Starts.{ready_built}
use Rattle.safety.specs.Accepting.{Accepting}
use Rattle.safety.proofs.Accepting.{accepting}
use Rattle.safety.proofs.FromContracts.{threads_of}
use Rattle.session.specs.declared.Held.{Held}
use Rattle.session.specs.Session.{session_verdict, session_tables, RefusedWith, SessionTo}

pub made_from : {K : Steps} {ws a b : List ℕ} {m n last : System} → m ≡ n → Made K ws m a b last → Made K ws n a b last
made_from {K} {ws} {a} {b} {last = last} e x = subst (λ (z : System). Made K ws z a b last) e x

-- the calls from the start of the job that the tables hold, with its expressions
answers_are : (J : Job) (h p ws a b : List ℕ) (m last : System) → Made (steps_of (code_in h p)) ws m a b last → m ≡ start_of (source_of J) → ((i : ℕ) → code_in h p i ≡ expr_of J i)
    → b ≡ over a (result_words (calls_of J (calls_in ws)))
answers_are J h p ws a b m last x e c =
    x.answers ∙ ap (λ z. over a (result_words (calls (steps_of (code_in h p)) (calls_in ws) z))) e
    ∙ ap (λ (z : ℕ → Cmd ℕ). over a (result_words (calls (steps_of z) (calls_in ws) (start_of (source_of J))))) (fun_ext c)

last_is : (J : Job) (h p ws a b : List ℕ) (m last : System) → Made (steps_of (code_in h p)) ws m a b last → m ≡ start_of (source_of J) → ((i : ℕ) → code_in h p i ≡ expr_of J i)
    → last ≡ last_of (steps_in J) (calls_in ws) (start_of (source_of J))
last_is J h p ws a b m last x e c =
    x.machine ∙ ap (λ z. last_of (steps_of (code_in h p)) (calls_in ws) z) e ∙ ap (λ (z : ℕ → Cmd ℕ). last_of (steps_of z) (calls_in ws) (start_of (source_of J))) (fun_ext c)

pub session_short : (bytes ws fs a : List ℕ) (w : Tables) (o : Held) → room_for ws a ≡ false → RefusedWith 1 0 o → SessionTo bytes ws o w w fs fs a a
unfolding session_verdict session_tables verdict_in
session_short bytes ws fs a w o h f =
    record {
      verdict = rw (f.verdict, h);
      tables = rw (h);
      entry = λ i s e J q. absurd (let g : refused_by 1 0 ≡ accepted_by i s = sym f.verdict ∙ e in let z : ◌≡◌ {A = ℕ} 0 1 = cc in omega arith);
      refused = λ q e. record { written = refl; frames = refl; machine = f.machine fs };
      accepted = λ T s e. absurd (let f : refuse (record { number = 1; place = 0 }) ≡ accept T s = rw (h) at e in let z : ◌≡◌ {A = ℕ} 0 1 = cc in omega arith);
    }

with_room : (bytes ws a : List ℕ) (w : Tables) → room_for ws a ≡ true → session_verdict (room_for ws a) w bytes ≡ verdict_with w bytes
unfolding session_verdict
with_room bytes ws a w h = rw (h)

tables_room : (bytes ws a : List ℕ) (w : Tables) → room_for ws a ≡ true → tables_after w bytes ≡ session_tables (room_for ws a) w bytes
unfolding session_tables
tables_room bytes ws a w h = rw (h)

pub session_refused : (bytes ws fs a : List ℕ) (w x : Tables) (k : Told) (o : Held) → room_for ws a ≡ true → CheckTo bytes (Err k) w x
    → RefusedWith k.number k.place o → SessionTo bytes ws o w x fs fs a a
unfolding verdict_in
session_refused bytes ws fs a w x k o h c f =
    let e : refuse (record { number = k.number; place = k.place }) ≡ verdict_with w bytes = c.verdict in
    let b = with_room bytes ws a w h in
    record {
      verdict = ap (verdict_in x.job.types x.job.sets) f.verdict ∙ e ∙ sym b;
      tables = c.tables ∙ tables_room bytes ws a w h;
      entry = λ i s y J q. absurd (let g : refused_by k.number k.place ≡ accepted_by i s = sym f.verdict ∙ y in let z : ◌≡◌ {A = ℕ} 0 1 = cc in omega arith);
      refused = λ q y. record { written = refl; frames = refl; machine = f.machine fs };
      accepted = λ T s y. absurd (let z : ◌≡◌ {A = ℕ} 0 1 = cc in omega arith);
    }

fits : (J : Job) (ws a : List ℕ) → room_for ws a ≡ true
    → over a (result_words (calls_of J (calls_in ws))) ≡ result_words (calls_of J (calls_in ws)) ++ drop (answer_words_lem * call_count ws) a
unfolding start_of
fits J ws a h = results_fit (steps_in J) (lawful (expr_of J)) ws a (start_of (source_of J)) (omega arith) h

never : {A : Type 0} (t u : List ℕ) (i s : ℕ) (q : Refusal) → verdict_in t u (accepted_by i s) ≡ refuse q → A
unfolding verdict_in
never t u i s q k = absurd (let z : ◌≡◌ {A = ℕ} 0 1 = cc in omega arith)

counted : (l : List ℕ) (J K : Job) → read J ≡ read K → last_in l (shape_of J).cmds ≡ last_in l (length K.cmds)
unfolding shape_of
counted l J K e = let z : J ≡ K = cc in ap (λ (L : Job). last_in l (length L.cmds)) z

pub session_accepted : (bytes ws fs fs' a b : List ℕ) (r : Checked) (w x : Tables) (m : Machine) → room_for ws a ≡ true → CheckTo bytes (Ok r) w x
    → Made (steps_of (code_in x.job.heads x.job.slots)) ws (built_from r.shape x.job.names x.job.types x.job.values) a b (seen m fs')
    → Bytes bytes → SessionTo bytes ws (record { verdict = Ok r.accepted; machine = m }) w x fs fs' a b
session_accepted bytes ws fs fs' a b r w x m h c f by = go (accepting bytes by r w x c)
  where
    go : {T : Ty} → Accepting bytes r.shape T (of_word r.accepted.effect) x → SessionTo bytes ws (record { verdict = Ok r.accepted; machine = m }) w x fs fs' a b
    go y =
        let e = with_room bytes ws a w h in
        record {
          verdict = c.verdict ∙ sym e;
          tables = c.tables ∙ tables_room bytes ws a w h;
          entry =
              λ j t k J q. let z : r.accepted ≡ record { entry = j; effect = t } = cc in
              ap (λ (d : Accepted). d.entry) (sym z) ∙ c.entry ∙ ap (λ (g : Shape). last_in x.entries g.cmds) y.ready.shape ∙ counted x.entries y.job J (sym y.is ∙ q);
          refused = λ q k. never x.job.types x.job.sets _ _ q (c.verdict ∙ sym e ∙ k);
          accepted =
              λ T t k. record {
                job = y.job;
                is = y.is;
                results = calls_of y.job (calls_in ws);
                actual = refl;
                allowed = y.allowed (calls_in ws);
                written = answers_are y.job _ _ ws a b _ _ f (ready_built y.ready) y.code ∙ fits y.job ws a h;
                machine = last_is y.job _ _ ws a b _ _ f (ready_built y.ready) y.code;
                threads = threads_of bytes y.job y.verdict y.is (calls_in ws) (last_is y.job _ _ ws a b _ _ f (ready_built y.ready) y.code);
              };
        }
