-- The digits above the last are written first; the number of digits falls.
use Rattle.format.proofs.Fit.{text_nil}
use Rattle.format.proofs.Digits.{no_digit, first_digit, next_digit}
use borrow.Author.Rules.{rules}
use Rattle.format.proofs.Text.+decimal.Goals as goal

pub returns-then-most-eq0 : goal.returns-then-most-eq0
returns-then-most-eq0 t c = rw (no_digit _ _ c.if-most-eq0.true) (text_nil c.args.self (search rules))

pub returns-then-n-lt10 : goal.returns-then-n-lt10
returns-then-n-lt10 t c = first_digit _ _ _ _ c.if-most-eq0.false c.if-n-lt10.true c.push.ensures

pub returns : goal.returns
returns t c = next_digit _ _ _ _ _ c.if-most-eq0.false c.if-n-lt10.false c.decimal-upper.ensures c.push-2.ensures
