use Rattle.std.proofs.Common.{◌≡◌, ◌+◌, ◌-◌, ◌∙◌, arith}
use Rattle.calls.proofs.Going.{eight_are}
use Rattle.calls.proofs.allowances.Goals as goal

pub returns : goal.returns
returns c = let e : c.args.at + 9 - (c.args.at + 1) ≡ 8 = omega arith in c.copy_from_slice.ensures.after ∙ rw e (eight_are _ _ c.requires)
