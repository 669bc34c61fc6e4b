-- The digits above the last are written first; the number of digits falls.
use Rattle.format.proofs.Fit.{text_nil}
use Rattle.format.proofs.Digits.{no_hex, next_hex}
use borrow.Author.Rules.{rules}
use Rattle.format.proofs.Text.+hex.Goals as goal

pub returns-then-digits-eq0 : goal.returns-then-digits-eq0
returns-then-digits-eq0 t c = rw (no_hex _ _ c.if-digits-eq0.true) (text_nil c.args.self (search rules))

pub returns : goal.returns
returns t c = next_hex _ _ _ _ _ _ c.if-digits-eq0.false c.hex-upper.ensures c.hex_digit.ensures c.push.ensures
