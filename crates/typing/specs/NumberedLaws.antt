-- Typing by numbers is typing by trees: each expression's entry has the tree that `Least` gives the expression, the effects are the same, the refusals are the same,
-- and the entries are those of `Layout`.
use Rattle.std.specs.Prelude.{◌≡◌}
use Prim.Native.Nat.{ℕ, ◌≤◌, ◌<◌}
use mathlib.Core.List.{map}
use Rattle.std.proofs.Math.Option.{Option, none, some}
use Rattle.std.proofs.Math.ListN.{length, get_or, get_elem?}
use Rattle.order.specs.Effects.{pure}
use Rattle.order.specs.EffectLaws.{Within}
use Rattle.syntax.specs.Types.{TypeEntry}
use Rattle.syntax.specs.Job.{Job, source_of}
use Rattle.syntax.specs.Reading.{Refusal, most_names, most_types}
use Rattle.typing.specs.Least.{types}
use Rattle.typing.specs.Layout.{Layout}
use Rattle.syntax.specs.Loading.{most_entries}
use Rattle.typing.specs.Tables.{effect_of, layout_for}
use Rattle.typing.specs.Numbered.{Sofar, Whole, whole, halted}
use Rattle.typing.specs.NumberedTables.{EntryOk}

-- the entries and where the expressions' types stand
abbrev pub layout_in : Sofar → Layout
layout_in σ = record { entries = σ.entries; of = σ.of }

-- the layout of the job and the effects of its expressions
unfoldable pub final_of : Job → Sofar
final_of J = record { entries = (layout_for J).entries; of = (layout_for J).of; effects = map effect_of (types (source_of J)) }

unfoldable pub whole_of : Option Refusal → Sofar → Whole
whole_of none σ = whole σ
whole_of (some r) σ = halted r

-- no more entries than the type table has; numbers of entries are numbers of entries there; names and those of sets below 64
pub record Fits (σ : Sofar) : Type 0 where
  pub few : length σ.entries ≤ most_entries
  pub of : (e : ℕ) → e < length σ.of → get_or σ.of e 0 < length σ.entries
  pub entry : (i : ℕ) (x : TypeEntry) → get_elem? σ.entries i ≡ some x → EntryOk most_types most_names i x
  pub effect : (e : ℕ) → e < length σ.effects → Within most_names (get_or σ.effects e pure)
