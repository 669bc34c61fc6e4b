use mathlib.Core.Path.{◌∙◌}
use Rattle.encode.proofs.Laying.{pushed_as, bytes_eight}
use Rattle.encode.proofs.push.push64.Goals as goal

pub returns : goal.returns
returns c = pushed_as (c.to_le_bytes.ensures ∙ bytes_eight _) c.push.ensures
