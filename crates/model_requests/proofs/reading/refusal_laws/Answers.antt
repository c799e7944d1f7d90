use Rattle.model_requests.proofs.Refusing.{refused}
use Rattle.model_requests.proofs.reading.refusal_laws.Goals as goal

pub returns : goal.returns
returns c = record { refused = refused }
