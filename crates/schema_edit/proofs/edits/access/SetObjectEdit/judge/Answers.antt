use Rattle.std.proofs.Common.{unwrap_or, [], ◌∷◌, ℕ, Some, refl, ap, arith, ◌≡◌, sym, subst}
use Rattle.std.specs.Str.{chars}
use Rattle.store_edit.specs.Edits.{Takes}
use Rattle.store_edit.specs.Rows.{change_to}
use Rattle.store_codec.specs.declared.choices.ObjectAccess.{ObjectAccess}
use Rattle.store_rows.specs.declared.object.ObjectRow.{ObjectRow}
use Rattle.store_rows.specs.Forms.{FitsForm}
use Rattle.store_edit.proofs.Judged.{done_so, passed_on}
use Rattle.store_edit.proofs.Reading.{found_before, two_reads}
use Rattle.store_kv.specs.Draft.{tables_of}
use Rattle.store_rows.specs.Rows.{object_form}
use Rattle.model.specs.Metadata.{changed_object, set_object}
use Rattle.model.specs.Paths.{Asked}
use Rattle.model.specs.Tenant.{Object}
use Rattle.model.specs.Verdict.{done}
use Rattle.store_abstraction.specs.Fails.{of_store}
use Rattle.store_abstraction.specs.Layouts.{own_object_row}
use Rattle.schema_edit.specs.inner.Access.{changed_access}
use Rattle.schema_edit.proofs.AccessEdits.{SamePlan, access_fits, access_takes, accepted_on, refused_on, row_missed, row_read}
use Rattle.store_edit.proofs.Putting.{put_is_in}
use Rattle.schema_edit.proofs.edits.access.SetObjectEdit.judge.Goals as goal

pub returns-in_err-object-clause-what : goal.returns-in_err-object-clause-what
returns-in_err-object-clause-what g c told =
    let e = c.args.self.now in
    let name = chars e.object.now in
    let org = c.args.org in
    passed_on org (λ (a : Asked). set_object a.tenant name e.change) SamePlan _ (tables_of g.K.Keeper.state c.args.draft.now) c.in_err-object.field-0.0 c.from_residual.result c.from_residual.ensures.1
    (λ q a s f. refused_on a.tenant name (set_object a.tenant name e.change) c.object_to_set.result c.in_err-object.field-0.0 (c.object_to_set.ensures.accepts told q a.tenant e.change s) c.in_err-object.was)

pub returns-in_err-row-clause-what : goal.returns-in_err-row-clause-what
returns-in_err-row-clause-what g c told =
    let state = g.K.Keeper.state in
    let m = tables_of state c.args.draft.now in
    let org = c.args.org in
    let e = c.args.self.now in
    let name = chars e.object.now in
    let n = c.in_ok-object.object in
    let calls = c.call_laws.ensures in
    let reads = two_reads state calls.told_first calls.told_then calls.tables c.args.draft.now c.object_to_set.new.draft c.object_there.new.draft c.object_to_set.ensures.calls c.object_there.ensures.calls told in
    let found = found_before state org (own_object_row org n) c.object_there.result reads (c.object_there.ensures.finds reads.then).0 in
    passed_on org (λ (a : Asked). set_object a.tenant name e.change) SamePlan _ m (of_store c.in_err-row.field-0.0) c.from_residual-in_err-row.result c.from_residual-in_err-row.ensures.1
    (λ q a s f.
    let on = accepted_on a.tenant name (set_object a.tenant name e.change) c.object_to_set.result n (c.object_to_set.ensures.accepts reads.first q a.tenant e.change s) c.in_ok-object.was in
    row_missed org a.tenant name n m q s on.1 (set_object a.tenant name e.change) c.object_there.result c.in_err-row.field-0.0 found c.in_err-row.was)

pub returns-clause-what : goal.returns-clause-what
returns-clause-what g c told =
    let state = g.K.Keeper.state in
    let m = tables_of state c.args.draft.now in
    let org = c.args.org in
    let e = c.args.self.now in
    let name = chars e.object.now in
    let n = c.in_ok-object.object in
    let row = c.in_ok-row.row in
    let calls = c.call_laws.ensures in
    let reads = two_reads state calls.told_first calls.told_then calls.tables c.args.draft.now c.object_to_set.new.draft c.object_there.new.draft c.object_to_set.ensures.calls c.object_there.ensures.calls told in
    let found = found_before state org (own_object_row org n) c.object_there.result reads (c.object_there.ensures.finds reads.then).0 in
    let next : ObjectRow = record row { access = c.changed_access-row.result } in
    let said : next ≡ record row { access = changed_access e.change row.access } =
    ap (λ (a : ObjectAccess). record row { access = a }) c.changed_access-row.ensures in
    done_so org (λ (a : Asked). set_object a.tenant name e.change) SamePlan _ m (change_to object_form next ∷ []) c.one_row.result c.one_row.ensures.made c.one_row.ensures.cause
    (put_is_in object_form org next (subst (FitsForm object_form) (sym said) (access_fits row e.change c.in_ok-row.ensures.fits)) (ap (λ (k : ℕ × ℕ). Some k.0) (c.in_ok-row.ensures.finds reads.then).1), tt)
    (λ q a s f.
    let on = accepted_on a.tenant name (set_object a.tenant name e.change) c.object_to_set.result n (c.object_to_set.ensures.accepts reads.first q a.tenant e.change s) c.in_ok-object.was in
    subst (λ (r : ObjectRow). Takes org q a.tenant (set_object a.tenant name e.change) done SamePlan (change_to object_form r ∷ [])) (sym said)
    (access_takes (λ p t n change k sound e. c.metadata_laws.ensures.described p t n (changed_object change) k sound (λ o. refl) (λ (o : Object). c.metadata_laws.ensures.accessed n (unwrap_or change.access o.access) (unwrap_or change.hierarchy o.hierarchy) k o) e) c.slot_laws.ensures.described c.metadata_laws.ensures.object_fits c.objects_sound.ensures.set_object org a.tenant name e.change row q (omega arith)
    s.plan s.sound f on.0 (row_read org a.tenant name n m q s on.1 c.object_there.result row found c.in_ok-row.was)))
