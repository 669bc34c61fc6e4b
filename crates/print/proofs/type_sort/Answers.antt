use Rattle.print.proofs.Prints.{is_pair, is_cell_lem, is_function, is_limit, is_grant, is_number}
use Rattle.print.proofs.type_sort.Goals as goal

pub returns-in-17 : goal.returns-in-17
returns-in-17 c = λ q a b s f. is_pair _ q a b s f c.in-17.is

pub returns-in-18 : goal.returns-in-18
returns-in-18 c = λ q a b s f. is_cell_lem _ q a b s f c.in-18.is

pub returns-in-19 : goal.returns-in-19
returns-in-19 c = λ q a b s f. is_function _ q a b s f c.in-19.is

pub returns-in-20 : goal.returns-in-20
returns-in-20 c = λ q a b s f. is_limit _ q a b s f c.in-20.is

pub returns-in-21 : goal.returns-in-21
returns-in-21 c = λ q a b s f. is_grant _ q a b s f c.in-21.is

pub returns-in_default : goal.returns-in_default
returns-in_default c = λ q a b s f. is_number _ q a b s f c.in_default.in_default-own.rest.0.0.0.0.1 c.in_default.in_default-own.rest.0.0.0.1 c.in_default.in_default-own.rest.0.0.1 c.in_default.in_default-own.rest.0.1 c.in_default.in_default-own.rest.1
