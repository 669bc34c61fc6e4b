use mathlib.Core.Path.{◌∙◌}
use Rattle.encode.proofs.Laying.{pushed_as, bytes_four}
use Rattle.encode.proofs.push.push32.Goals as goal

pub returns : goal.returns
returns c = pushed_as (c.to_le_bytes.ensures ∙ bytes_four _) c.push.ensures
