use Rattle.semantics.specs.Step.{limit_keys, as_lim, found}
use Rattle.acts.proofs.Sorts.{no_limit}
use borrow.Enum.Refused.{opened}
use Rattle.acts.proofs.act.limit_keys.Goals as goal

pub returns-in_default : goal.returns-in_default
unfolding limit_keys
returns-in_default c = λ f. simp (no_limit c.args.a.kind (opened c.in_default.in_default-own.keys2))

pub returns-in_default-kind : goal.returns-in_default-kind
unfolding limit_keys as_lim found
returns-in_default-kind c = λ f. simp c.in-Limit.is (no_limit c.args.b.kind (opened c.in_default-kind.in_default-kind-own.keys2) _ _)

pub returns-in_default-kind-2 : goal.returns-in_default-kind-2
unfolding limit_keys as_lim found
returns-in_default-kind-2 c = λ f. simp (c.in-Limit.is, c.in-Limit-kind.is) (no_limit c.args.c.kind (opened c.in_default-kind-2.in_default-kind-2-own.keys2) _ _)

pub returns-in_default-kind-3 : goal.returns-in_default-kind-3
unfolding limit_keys as_lim found
returns-in_default-kind-3 c = λ f. simp (c.in-Limit.is, c.in-Limit-kind.is, c.in-Limit-kind-2.is) (no_limit c.args.d.kind (opened c.in_default-kind-3.in_default-kind-3-own.keys2) _ _)

pub returns : goal.returns
unfolding limit_keys as_lim found
returns c = λ f. simp (c.in-Limit.is, c.in-Limit-kind.is, c.in-Limit-kind-2.is, c.in-Limit-kind-3.is, c.key_in.ensures, c.key_in-2.ensures, c.key_in-3.ensures, c.key_in-4.ensures)
