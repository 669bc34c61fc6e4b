use Rattle.std.proofs.lemmas.Result.{err_from_is_err_and}
use Rattle.judge.specs.Judging.{typed_halted, typed_within, typed_beyond}
use Rattle.judge.proofs.typed.Goals as goal

pub returns-in_err-number_all : goal.returns-in_err-number_all
returns-in_err-number_all c = λ bytes J given scoped.
    let p = err_from_is_err_and c.from_residual.result c.from_residual.ensures.1 in
    rw (p.1, p.2) (typed_halted given scoped c.ancestors-anc.ensures c.narrow.ensures c.narrow-2.ensures c.narrow-3.ensures c.number_all.ensures.by c.in_err-number_all.was)

pub returns-then-not-eff_below : goal.returns-then-not-eff_below
returns-then-not-eff_below c = λ bytes J given scoped. typed_beyond given scoped c.ancestors-anc.ensures c.narrow.ensures c.narrow-2.ensures c.narrow-3.ensures c.number_all.ensures.by c.in_ok-number_all.was c.last-e.ensures c.get_or-effect.ensures c.eff_below.ensures c.if-not-eff_below.true

pub returns : goal.returns
returns c = λ bytes J given scoped. typed_within given scoped c.ancestors-anc.ensures c.narrow.ensures c.narrow-2.ensures c.narrow-3.ensures c.number_all.ensures.by c.in_ok-number_all.was c.last-e.ensures c.get_or-effect.ensures c.eff_below.ensures c.if-not-eff_below.false c.get_or.ensures
