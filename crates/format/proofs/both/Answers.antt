use Rattle.std.proofs.Common.{◌≡◌, ◌∙◌, ap, sym, length, min, take, rules}
use Rattle.std.proofs.lemmas.List.{take_min}
use Rattle.format.specs.Text.{text_of, joined}
use Rattle.format.proofs.both.Goals as goal

-- The second text after the first: its first len bytes, or all 128.
pub returns : goal.returns
unfolding text_of
returns c =
    let h : length c.args.b.bytes ≡ 128 = search rules in
    c.put.ensures ∙ ap (joined (text_of c.args.a)) (ap (λ k. take k c.args.b.bytes) (c.min.ensures ∙ ap (min c.args.b.len) (sym h)) ∙ take_min _ _)
