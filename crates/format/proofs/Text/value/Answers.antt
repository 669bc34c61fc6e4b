use Rattle.std.proofs.Common.{◌∙◌, ap, sym}
use Rattle.format.proofs.Whole.{number_joined}
use Rattle.output.specs.Lines.{decimal, space}
use Rattle.format.specs.Text.{text_of, joined, sort_word, sort_words}
use Rattle.format.specs.Laws.{no_number}
use Rattle.format.proofs.Text.value.Goals as goal

pub returns-in-Number : goal.returns-in-Number
unfolding sort_word sort_words decimal space
returns-in-Number c = number_joined _ _ _ _ _ _ c.in-Number.is c.word-t.ensures c.push.ensures (rw c.from.ensures at c.decimal.ensures)

pub returns-in_default : goal.returns-in_default
returns-in_default c = c.word-t.ensures ∙ ap (joined (text_of c.args.self)) (sym (no_number c.args.kind c.args.n c.in_default.not-Number))
