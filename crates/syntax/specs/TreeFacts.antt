-- What refusals 8, 9 and 10 are about, as facts of a job and apart from the tests: where each expression is used, what is bound a second time, and what is in scope where an
-- expression stands.
use Rattle.std.specs.Prelude.{◌≡◌, ℕ, ◌<◌, ◌≢◌, length}
use mathlib.Core.List.{List, ◌++◌, Memᴰ}
use Rattle.std.proofs.Math.Option.{some}
use Rattle.std.proofs.Math.ListN.{get_elem?}
use Rattle.syntax.specs.Types.{Ty}
use Rattle.syntax.specs.Operands.{nth, plain, inner, children, types_of, uses_var, binds_var, binds_name}
use Rattle.syntax.specs.Job.{Src}
use Rattle.syntax.specs.Tree.{Entry, binds, vars_of, host_ctx, root}
use Rattle.syntax.specs.WellScoped.{ScopedType}

-- refusal 8: "used other than once (the last: not at all)"

-- expression c stands at place i among the operands of expression p
pub record UsedAt (S : Src) (p i c : ℕ) : Type 0 where
  pub is : get_elem? (children (nth S.cmds p)) i ≡ some c

-- c is an operand once: at this place, and at no other
pub record UsedOnce (S : Src) (c : ℕ) : Type 0 where
  pub user : ℕ
  pub place : ℕ
  pub used : UsedAt S user place c
  pub only : (p i : ℕ) → UsedAt S p i c → (p ≡ user) × (i ≡ place)

-- every expression but the last is an operand once, the last one never
pub record UsedAsDue (S : Src) (e : ℕ) : Type 0 where
  pub once : e ≢ root S → UsedOnce S e
  pub last : e ≡ root S → (p i : ℕ) → UsedAt S p i e → ⊥

-- refusal 9: "binds a variable or name bound before"

-- what e binds no earlier expression binds
pub record BindsAnew (S : Src) (e : ℕ) : Type 0 where
  pub variable : (d v : ℕ) → d < e → Memᴰ v (binds_var (nth S.cmds d)) → Memᴰ v (binds_var (nth S.cmds e)) → ⊥
  pub name : (d r : ℕ) → d < e → Memᴰ r (binds_name (nth S.cmds d)) → Memᴰ r (binds_name (nth S.cmds e)) → ⊥

-- refusal 10: "variable, or name in its type operand, out of scope"

-- the context in which an expression stands, by the path from the last expression down to it. "The last expression is the job": it stands in the host's context. An operand stands in the
-- context of its expression, with what that binds where it is the body
pub data Ctx (S : Src) : ℕ → List Entry → Type 0 where
  x_root : Ctx S (root S) (host_ctx S)
  x_plain : {p c : ℕ} {Γ : List Entry} → Memᴰ c (plain (nth S.cmds p)) → Ctx S p Γ → Ctx S c Γ
  x_inner : {p c : ℕ} {Γ : List Entry} → Memᴰ c (inner (nth S.cmds p)) → Ctx S p Γ → Ctx S c (binds (nth S.cmds p) ++ Γ)

-- the variable that e uses, and each name in its type operand, is in this context
pub record UsesOf (S : Src) (e : ℕ) (Γ : List Entry) : Type 0 where
  pub variable : (v : ℕ) → Memᴰ v (uses_var (nth S.cmds e)) → Memᴰ v (vars_of Γ)
  pub type_operand : (T : Ty) → Memᴰ T (types_of (nth S.cmds e)) → ScopedType Γ T

-- in the context in which e stands
pub record UsesInScope (S : Src) (e : ℕ) : Type 0 where
  pub context : List Entry
  pub stands : Ctx S e context
  pub uses : UsesOf S e context

-- Of all expressions

abbrev pub Each : Src → (ℕ → Type 0) → Type 0
Each S P = (e : ℕ) → e < length S.cmds → P e

-- "lowest expression": e is the first at which the fact fails
pub record Lowest (S : Src) (P : ℕ → Type 0) (e : ℕ) : Type 0 where
  pub is : e < length S.cmds
  pub fails : P e → ⊥
  pub before : (d : ℕ) → d < e → P d

-- free of refusals 8, 9 and 10
pub record TreeOk (S : Src) : Type 0 where
  pub used : Each S (UsedAsDue S)
  pub anew : Each S (BindsAnew S)
  pub scoped : Each S (UsesInScope S)
