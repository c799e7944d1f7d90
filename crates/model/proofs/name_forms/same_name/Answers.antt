use Rattle.model.proofs.NameForms.{same_of_texts}
use Rattle.model.proofs.name_forms.same_name.Goals as goal

pub returns : goal.returns
returns c = same_of_texts c.args.a.now c.args.b.now c.utf8.a c.utf8.b c.eq_ignore_ascii_case.result c.eq_ignore_ascii_case.ensures.test
