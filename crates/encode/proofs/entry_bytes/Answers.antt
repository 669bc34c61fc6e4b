use native.Mathlib.Nat.{add-zero}
use mathlib.Core.Logic.{inl, inr}
use Rattle.encode.specs.Entries.{entry_item}
use Rattle.encode.proofs.Pens.{penned_as}
use Rattle.encode.proofs.entry_bytes.Goals as goal

pub returns-in-Names : goal.returns-in-Names
unfolding entry_item
returns-in-Names c = penned_as (simp (c.in-Names.is, c.get_or.ensures)) c.name_bytes.ensures

pub returns-in-Types : goal.returns-in-Types
unfolding entry_item
returns-in-Types c = penned_as (simp (c.in-Types.is, c.get_or-in-Types.ensures, c.get_or-in-Types-2.ensures)) c.type_bytes.ensures

pub returns-in-Values : goal.returns-in-Values
unfolding entry_item
returns-in-Values c = penned_as (simp (c.in-Values.is, c.get_or-in-Values.ensures)) c.value_bytes.ensures

pub returns-in-Rights : goal.returns-in-Rights
unfolding entry_item
returns-in-Rights c =
    elim c.in-Rights.is [
      | inl e ↦ penned_as (simp (add-zero, e, c.get_or-in-Rights.ensures, c.get_or-a.ensures, c.get_or-b.ensures, c.get_or-c.ensures, c.get_or-d.ensures, c.get_or-e.ensures)) c.expr_bytes.ensures
      | inr (inl e) ↦ penned_as (simp (add-zero, e, c.get_or-in-Rights.ensures, c.get_or-a.ensures, c.get_or-b.ensures, c.get_or-c.ensures, c.get_or-d.ensures, c.get_or-e.ensures)) c.expr_bytes.ensures
      | inr (inr e) ↦ penned_as (simp (add-zero, e, c.get_or-in-Rights.ensures, c.get_or-a.ensures, c.get_or-b.ensures, c.get_or-c.ensures, c.get_or-d.ensures, c.get_or-e.ensures)) c.expr_bytes.ensures
    ]
