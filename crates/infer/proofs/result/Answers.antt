use borrow.Author.Tests.{ne_eqb}
use Rattle.order.specs.Effects.{of_word}
use Rattle.typing.specs.Numbered.{result_at}
use Rattle.syntax.specs.Words.{code_in, decode, entry_in}
use Rattle.syntax.specs.DecodeLaws.{decode_by}
use Rattle.syntax.proofs.DecodeLaws.{decode_is}
use Rattle.rules.proofs.Keys.{keys_any}
use lib.ListN.{get_or}
use Rattle.infer.proofs.result.Goals as goal

pub returns-in-60 : goal.returns-in-60
unfolding result_at code_in decode
returns-in-60 c = (simp (← c.get_or-w.ensures, c.in-60.is, c.limit.ensures, c.lead-in-60.ensures) (keys_any c.args.table.now.anc.now c.args.names.now (λ v. get_or c.args.vars.now v 0) (entry_in c.args.table.now.types.now c.args.table.now.sets.now) (λ a. get_or c.args.entries.now a 0) (λ a. of_word (get_or c.args.effects.now a 0)) _ _ _ _), c.requires)

pub returns-in_default : goal.returns-in_default
unfolding result_at code_in decode_by
returns-in_default c = (simp (decode_is, ← c.get_or-w.ensures, ne_eqb _ _ c.in_default.in_default-own.rest.1, ne_eqb _ _ c.in_default.in_default-own.rest.0.1, ne_eqb _ _ c.in_default.in_default-own.rest.0.0.1, ne_eqb _ _ c.in_default.in_default-own.rest.0.0.0.1, ne_eqb _ _ c.in_default.in_default-own.rest.0.0.0.0.1, ne_eqb _ _ c.in_default.in_default-own.rest.0.0.0.0.0.1, ne_eqb _ _ c.in_default.in_default-own.rest.0.0.0.0.0.0.1, ne_eqb _ _ c.in_default.in_default-own.rest.0.0.0.0.0.0.0.1) (c.two.ensures.0 (λ v. get_or c.args.vars.now v 0)), c.two.ensures.1)
