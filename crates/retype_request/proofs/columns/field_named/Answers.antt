use Rattle.std.proofs.Common.{◌∙◌, List, ap}
use Rattle.std.specs.List.{list_any}
use Rattle.std.specs.Str.{chars}
use Rattle.base_lemmas.proofs.Results.{IfOk-same as if_same}
use Rattle.model.specs.Fields.{is_master}
use Rattle.retype_request.specs.inner.Columns.{field_by}
use Rattle.retype_request.proofs.FieldNames.{field_is}
use Rattle.retype_request.proofs.columns.field_named.Goals as goal
use Rattle.store_abstraction.specs.declared.layout.FieldPlace.{FieldPlace}

pub returns : goal.returns
returns c =
    let l = c.args.layout.now in
    if_same c.named_among.result _ _
    (ap (λ (fields : List FieldPlace). field_by (list_any (λ (f : FieldPlace). is_master f.kind) fields) fields (chars c.as_str.result.now)) c.as_slice.ensures
    ∙ ap (field_by (list_any (λ (f : FieldPlace). is_master f.kind) l.fields) l.fields) c.as_str.ensures.characters
    ∙ field_is l c.args.name.now)
    c.named_among.ensures
