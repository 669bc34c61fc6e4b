use Rattle.format.proofs.Text.+hex.Given as goal

-- proposed from what the function passes where it calls itself
abbrev pub decreases-hex : goal.decreases-hex
decreases-hex l = l.digits
