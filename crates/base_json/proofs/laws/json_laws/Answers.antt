use Rattle.base_json.proofs.Plain.{plain_printed}
use Rattle.base_json.proofs.Values.{text_told}
use Rattle.base_json.proofs.Written.{number_printed, text_printed}
use Rattle.base_json.proofs.Wholes.{whole_printed}
use Rattle.base_json.proofs.laws.json_laws.Goals as goal

pub returns-clause-plain : goal.returns-clause-plain
returns-clause-plain c = plain_printed

pub returns-clause-numbers : goal.returns-clause-numbers
returns-clause-numbers c = number_printed

pub returns-clause-texts : goal.returns-clause-texts
returns-clause-texts c = text_printed

pub returns-clause-values : goal.returns-clause-values
returns-clause-values c = whole_printed

pub returns-clause-spelled : goal.returns-clause-spelled
returns-clause-spelled c = text_told
