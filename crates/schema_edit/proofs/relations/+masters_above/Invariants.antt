use Rattle.schema_edit.proofs.relations.+masters_above.Given as goal

abbrev pub decreases-masters_above : goal.decreases-masters_above
decreases-masters_above l = l.most
