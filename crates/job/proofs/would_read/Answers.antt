use mathlib.Core.Path.{refl}
use Rattle.job.specs.Answer.{long_enough}
use Rattle.job.proofs.Zeros.{zeros_ready}
use Rattle.job.proofs.would_read.Goals as goal

pub fill-requires : goal.fill-requires
unfolding long_enough
fill-requires c = let asked = zeros_ready 64 2304 2304 64 512 2560 refl in record { slots_value = asked.0; cleared = asked.1 }
