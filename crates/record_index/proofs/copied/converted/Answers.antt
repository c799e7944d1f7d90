use Rattle.record_index.proofs.CopiedText.{given_is}
use Rattle.record_index.proofs.copied.converted.Goals as goal
use Rattle.base_value.specs.Conversion.{convert}

pub returns-in-Ok : goal.returns-in-Ok
returns-in-Ok c = record { value = given_is (convert c.args.to.now c.args.value.now) c.in-Ok.value c.in-Ok.ensures }
