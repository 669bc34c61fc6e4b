use Rattle.types.proofs.+above_below.Given as goal

abbrev pub decreases-above : goal.decreases-above
decreases-above l = l.d

abbrev pub decreases-below : goal.decreases-below
decreases-below l = l.d
