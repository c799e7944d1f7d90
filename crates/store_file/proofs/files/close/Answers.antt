use Rattle.store_file.proofs.files.close.Goals as goal

pub returns-in-Ok : goal.returns-in-Ok
returns-in-Ok g c = λ _. (c.in-Ok.files, c.in-Ok.ensures.copied)
