use Rattle.record_cascade.proofs.levels.+with_details.Given as goal

abbrev pub decreases-with_details : goal.decreases-with_details
decreases-with_details g l = l.levels
