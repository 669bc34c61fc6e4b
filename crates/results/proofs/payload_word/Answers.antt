use native.Mathlib.Omega.{arith}
use Rattle.results.specs.Values.{payload_of}
use Rattle.results.proofs.payload_word.Goals as goal

pub returns-in-Number : goal.returns-in-Number
unfolding payload_of
returns-in-Number c = grind arith

pub returns-in-Limit : goal.returns-in-Limit
unfolding payload_of
returns-in-Limit c = grind arith
