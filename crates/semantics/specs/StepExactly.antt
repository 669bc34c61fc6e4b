-- What a step answers, exactly, of every machine: stuck exactly when a kind is wrong or a needed entry is not there, else denied exactly when a touched key is not enabled,
-- else no room exactly when a place lacks, else it is taken; done exactly when the machine is finished. The conditions are defined apart from the step (`Wants`, `Room`).
use Rattle.std.specs.Prelude.{◌≡◌, ℕ, Bool, not}
use Rattle.std.proofs.Math.Bool.{true, false}
use mathlib.Core.List.{List, []}
use Rattle.semantics.specs.Machine.{Thread, Store, Machine}
use Rattle.semantics.specs.Step.{Out, o_step, o_done, o_room, o_stuck, o_denied, Plan, p_done, p_wrong, p_try}
use Rattle.semantics.specs.Room.{is_done}
use Rattle.semantics.specs.Wants.{wrong, shut, lacks}
use Rattle.semantics.specs.Threads.{Steps}

-- done, wrong, shut and lacking, in this order, against an outcome
pub data Exact : Bool → Bool → Bool → Bool → Out → Type 0 where
  ex_done : Exact true false false false o_done
  ex_stuck : {x l : Bool} → Exact false true x l o_stuck
  ex_denied : {l : Bool} → Exact false false true l o_denied
  ex_room : Exact false false false true o_room
  ex_step : {n : Machine} → Exact false false false false (o_step n)

-- of every machine
pub record Exactly (K : Steps) : Type 0 where
  pub at : (m : Machine) → Exact (is_done m) (wrong K.needs m) (shut K.needs m) (lacks K.needs m) (K.step m)

-- the same of a plan over the store s, with the keys that it touches and the set of enabled keys that it touches them with
pub data ExactPlan (s : Store) (on : ℕ) : Bool → Bool → List ℕ → Bool → Plan → Type 0 where
  xp_done : ExactPlan s on true false [] false p_done
  xp_wrong : {ks : List ℕ} {l : Bool} → ExactPlan s on false true ks l p_wrong
  xp_try : {ks : List ℕ} {l : Bool} {t : Thread} {ts : List Thread} {free : Bool} {n : Machine} → t.on ≡ on → l ≡ not free
      → ExactPlan s on false false ks l (p_try ks free (record { thread = t; store = s; threads = ts }) n)
