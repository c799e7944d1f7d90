-- The members that a body of the code has.
use Rattle.model.specs.Members as model
use Rattle.api_input.specs.declared.body.Body.{Body}
use Rattle.api_input.specs.inner.Spelled.{body_of}

abbrev pub said : Body → model.Body
said b = body_of b.members.now
