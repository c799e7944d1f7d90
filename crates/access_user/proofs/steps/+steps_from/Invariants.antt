use Rattle.access_user.proofs.steps.+steps_from.Given as goal

abbrev pub decreases-steps_from : goal.decreases-steps_from
decreases-steps_from g l = l.most
