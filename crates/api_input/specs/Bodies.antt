-- What the bytes of a body say.
use Rattle.std.specs.Prelude.{ℕ, List, Option}
use Rattle.std.specs.Option.{option_map}
use Rattle.base_json.specs.Reading.{◌>>=◌}
use Rattle.model.specs.declared.record_bodies.Assignment.{Assignment}
use Rattle.model.specs.Members.{Body, assignments, body_in}
use Rattle.model_requests.specs.Requests.{Request, adds_role, begins_retype}
use Rattle.api_input.specs.declared.people.NewRole.{NewRole}
use Rattle.api_input.specs.declared.retyping.NewRetype.{NewRetype}

-- the request that a form gives for the members of the body
abbrev pub request_in : (form : Body → Option Request) → (bytes : List ℕ) → Option Request
request_in form bytes = body_in bytes >>= form

-- the request that is made of the values which a body gives to fields
abbrev pub values_request : (make : List Assignment → Request) → Body → Option Request
values_request make b = option_map make (assignments b)

-- the request that is made of what a body says of a new role
abbrev pub adds_new_role : NewRole → Request
adds_new_role new = adds_role new.name new.parent

-- the request that is made of what a body says of the change of a field's type
abbrev pub begins_new_retype : NewRetype → Request
begins_new_retype new = begins_retype new.object new.field new.kind
