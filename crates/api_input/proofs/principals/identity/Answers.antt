use Rattle.base_value.specs.Principals.{kind_number}
use Rattle.model.specs.Principals.{principal_of, spelled_id}
use Rattle.api_input.proofs.Identities.{identity_spelled}
use Rattle.api_input.proofs.principals.identity.Goals as goal

pub returns : goal.returns
returns c =
    let p = c.args.principal.now in
    identity_spelled _ _ _ _ c.kind_mark.result (kind_number (principal_of p)) c.new-string.ensures.bytes c.in_ok-push.ensures.bytes (c.kind_mark.ensures (spelled_id p.text)) c.in_ok-append_id_or_text.ensures
