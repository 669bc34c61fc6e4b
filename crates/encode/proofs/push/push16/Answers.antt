use mathlib.Core.Path.{◌∙◌}
use Rattle.encode.proofs.Laying.{pushed_as, bytes_two}
use Rattle.encode.proofs.push.push16.Goals as goal

pub returns : goal.returns
returns c = pushed_as (c.to_le_bytes.ensures ∙ bytes_two _) c.push.ensures
