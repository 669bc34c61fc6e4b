-- What a turn and a run say, exactly, of every machine of at most eight threads, typed or not, and whatever the expressions are. `Says` has the words of documents 01 and 02, a constructor for
-- each answer, and a call says that and nothing else: so each answer is given exactly when its conditions hold. Done, stuck, denied and no room are defined apart from the step.
use Rattle.std.specs.Prelude.{◌≡◌, List}
use Prim.Native.Nat.{ℕ}
use Rattle.std.proofs.Math.Bool.{true, false}
use Rattle.semantics.specs.Machine.{Thread, System}
use Rattle.semantics.specs.Wants.{Stuck, Denied, NoRoom}
use Rattle.semantics.specs.Threads.{Steps, alone, live, all_done, Turn, t_step, turn, Asked}
use Rattle.semantics.specs.Calls.{taken, finished, spent, noroom, stuck, denied, Ran, ran, bump, no_steps, Policy, always, allowed, Call, one_step, run_of, Takes}

module _ (K : Steps) where
  -- what a run says, when c were taken before: document 01's words, meant as changed by document 02
  pub data RunSays (may : Policy) (c : List ℕ) (s : System) : Ran → Type 0 where
    -- "A job is done when all are"
    run_done : {l d : List ℕ} {t : System} → Takes K may c s l d t → all_done t.threads ≡ true → RunSays may c s (ran finished d 0 t)
    -- "spent only when every unfinished thread has used its allowance to the last step", and only if it isn't done then: no thread that is left may step
    run_spent : {l d : List ℕ} {t : System} → Takes K may c s l d t → all_done t.threads ≡ false → ((i : ℕ) → live t i ≡ true → may d i ≡ false) → RunSays may c s (ran spent d 0 t)
    -- "stuck, denied or no room only if a step .. failed with that": the step of the thread whose turn it is
    run_noroom : {l d : List ℕ} {p : Turn} {x : Thread} {t : System} → Takes K may c s l d t → Asked (may d) t p x → NoRoom K.needs (alone t x) → RunSays may c s (ran noroom d p.at t)
    run_stuck : {l d : List ℕ} {p : Turn} {x : Thread} {t : System} → Takes K may c s l d t → Asked (may d) t p x → Stuck K.needs (alone t x) → RunSays may c s (ran stuck d p.at t)
    run_denied : {l d : List ℕ} {p : Turn} {x : Thread} {t : System} → Takes K may c s l d t → Asked (may d) t p x → Denied K.needs (alone t x) → RunSays may c s (ran denied d p.at t)

  pub data Says (s : System) : Call → Ran → Type 0 where
    one_taken : {i : ℕ} {t : System} → turn K (always no_steps) s ≡ t_step i t → Says s one_step (ran taken (bump i no_steps) i t)
    one_done : all_done s.threads ≡ true → Says s one_step (ran finished no_steps 0 s)
    one_noroom : {p : Turn} {x : Thread} → Asked (always no_steps) s p x → NoRoom K.needs (alone s x) → Says s one_step (ran noroom no_steps p.at s)
    one_stuck : {p : Turn} {x : Thread} → Asked (always no_steps) s p x → Stuck K.needs (alone s x) → Says s one_step (ran stuck no_steps p.at s)
    one_denied : {p : Turn} {x : Thread} → Asked (always no_steps) s p x → Denied K.needs (alone s x) → Says s one_step (ran denied no_steps p.at s)
    -- how many turns of each thread these are, by the answer, is `says_count` of `CountLaws`
    run_says : {allow : List ℕ} {r : Ran} → RunSays (allowed allow) no_steps s r → Says s (run_of allow) r
