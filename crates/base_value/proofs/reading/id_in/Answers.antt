use Rattle.std.proofs.Common.{◌∙◌, sym}
use Rattle.base_value.proofs.Spelled.{id_read, no_id, id_in-chars}
use Rattle.base_value.proofs.reading.id_in.Goals as goal

pub returns-in-Ok-clause-bytes : goal.returns-in-Ok-clause-bytes
returns-in-Ok-clause-bytes c = sym (id_read c.args.text.now c.in-Ok.id c.as_bytes.ensures.id c.in-Ok.ensures.found)

pub returns-in-Ok-clause-characters : goal.returns-in-Ok-clause-characters
returns-in-Ok-clause-characters c =
    sym (id_in-chars c.args.text.now c.utf8.text ∙ id_read c.args.text.now c.in-Ok.id c.as_bytes.ensures.id c.in-Ok.ensures.found)

pub returns-in-Err-clause-bytes : goal.returns-in-Err-clause-bytes
returns-in-Err-clause-bytes c =
    no_id c.args.text.now (λ id h t. let wrong = sym c.in-Err.is ∙ c.read.ensures.only id h t in absurd cc)

pub returns-in-Err-clause-characters : goal.returns-in-Err-clause-characters
returns-in-Err-clause-characters c =
    no_id c.args.text.now (λ id h t. let wrong = sym c.in-Err.is ∙ c.read.ensures.only id h t in absurd cc)
    ∙ sym (id_in-chars c.args.text.now c.utf8.text)
