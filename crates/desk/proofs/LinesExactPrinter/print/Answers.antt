use Rattle.std.proofs.Common.{◌≡◌, length, sym, ◌∙◌, rules, length-take-le}
use Rattle.format.specs.Text.{text_of}
use Rattle.desk.proofs.Serving.{count_lines, put_lines}
use Rattle.desk.proofs.LinesExactPrinter.print.Goals as goal

pub copy_from_slice-requires : goal.copy_from_slice-requires
copy_from_slice-requires c =
    let full : length c.print-text.result.bytes ≡ 128 = search rules in
    length-take-le 128 c.args.buffer.now c.requires ∙ sym full

pub returns : goal.returns
unfolding text_of
returns c =
    let full : length c.print-text.result.bytes ≡ 128 = search rules in
    record {
      len = count_lines c.print-text.result.len c.min.result c.print-text.result.bytes _ c.print-text.ensures (rw full c.min.ensures);
      printed = put_lines c.print-text.result.len c.min.result c.print-text.result.bytes c.copy_from_slice.new.self _ _ c.copy_from_slice.ensures.after c.print-text.ensures (rw full c.min.ensures);
    }
