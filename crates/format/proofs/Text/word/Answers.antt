use Rattle.output.specs.Lines.{w_number, w_pair, w_cell, w_function, w_limit, w_grant}
use Rattle.format.specs.Text.{sort_word}
use Rattle.format.proofs.Text.word.Goals as goal

pub returns-in-Number : goal.returns-in-Number
unfolding sort_word w_number
returns-in-Number c = simp c.in-Number.is c.put.ensures

pub returns-in-Pair : goal.returns-in-Pair
unfolding sort_word w_pair
returns-in-Pair c = simp c.in-Pair.is c.put-in-Pair.ensures

pub returns-in-Cell : goal.returns-in-Cell
unfolding sort_word w_cell
returns-in-Cell c = simp c.in-Cell.is c.put-in-Cell.ensures

pub returns-in-Function : goal.returns-in-Function
unfolding sort_word w_function
returns-in-Function c = simp c.in-Function.is c.put-in-Function.ensures

pub returns-in-Limit : goal.returns-in-Limit
unfolding sort_word w_limit
returns-in-Limit c = simp c.in-Limit.is c.put-in-Limit.ensures

pub returns-in-Grant : goal.returns-in-Grant
unfolding sort_word w_grant
returns-in-Grant c = simp c.in-Grant.is c.put-in-Grant.ensures
