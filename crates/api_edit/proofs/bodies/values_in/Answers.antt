use Rattle.std.proofs.Common.{sym, subst}
use Rattle.std.specs.Prelude.{IfOk}
use Rattle.api_edit.specs.inner.Edits.{Asks}
use Rattle.api_input.specs.Bodies.{request_in, values_request}
use Rattle.record_input.specs.Given.{IsInJson}
use Rattle.model_requests.specs.RequestOf.{request_or}
use Rattle.api_edit.proofs.Asked.{asks_values}
use Rattle.api_edit.proofs.Values.{given_json}
use Rattle.api_edit.proofs.bodies.values_in.Goals as goal

pub returns-clause-values : goal.returns-clause-values
returns-clause-values c make =
    let body = c.args.body.now in
    subst (λ r. Asks make (request_or (request_in (values_request make) body)) r) (sym c.form_of.ensures) (asks_values make body c.field_values.result c.field_values.ensures)

pub returns-clause-json : goal.returns-clause-json
returns-clause-json c = subst (λ r. IfOk r IsInJson) (sym c.form_of.ensures) (given_json c.args.body.now c.field_values.result c.field_values.ensures)
