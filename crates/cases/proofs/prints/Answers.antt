use Rattle.std.proofs.Common.{◌≡◌, length, min, ◌∙◌, rules}
use Rattle.std.proofs.lemmas.List.{take_min}
use Rattle.format.specs.Text.{text_of}
use Rattle.cases.proofs.Counting.{prints_is}
use Rattle.cases.proofs.prints.Goals as goal

pub returns : goal.returns
unfolding text_of
returns c =
    let full : length c.print-text.result.bytes ≡ 128 = search rules in
    let least : c.min.result ≡ min c.print-text.result.len (length c.print-text.result.bytes) = rw full c.min.ensures in
    prints_is _ _ _ _ c.same.ensures.0 c.same.ensures.1 (rw least (take_min c.print-text.result.len c.print-text.result.bytes) ∙ c.print-text.ensures)
