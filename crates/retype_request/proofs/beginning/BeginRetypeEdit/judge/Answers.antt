use Rattle.std.proofs.Common.{[], ◌∷◌, IsTrue, arith, subst, sym}
use Rattle.store_edit.proofs.Judged.{done_so, passed_on}
use Rattle.store_edit.specs.Edits.{FailsBy}
use Rattle.store_edit.specs.Rows.{change_to}
use Rattle.store_kv.specs.Draft.{tables_of}
use Rattle.store_rows.specs.Rows.{job_form}
use Rattle.model.specs.Paths.{Asked}
use Rattle.model.specs.Retyping.{begin_retype, new_type}
use Rattle.retype_request.specs.inner.Beginning.{begin_by}
use Rattle.retype_request.proofs.Begun.{OtherSlot, begun_org, begun_same, begun_so, begun_takes, free_in, its_type, not_made, plain, row_own}
use Rattle.retype_request.proofs.beginning.BeginRetypeEdit.judge.Goals as goal
use Rattle.store_abstraction.specs.Fails.{of_store}
use Rattle.base_value.specs.declared.value.FieldType.{FieldType}
use Rattle.base_value.specs.Types.{is_type}

pub returns-in_err-chosen-clause-what : goal.returns-in_err-chosen-clause-what
returns-in_err-chosen-clause-what g c told =
    let org = c.args.org in
    let object = c.args.self.now.object.now in
    let field = c.args.self.now.field.now in
    let spelled = c.args.self.now.kind.now in
    let e = c.in_err-chosen.field-0.0 in
    let m = tables_of g.K.Keeper.state c.args.draft.now in
    passed_on org (λ (a : Asked). begin_retype a.tenant object field spelled) OtherSlot (λ (a : Asked). IsTrue (is_type (new_type spelled))) m e c.from_residual-in_err-chosen.result c.from_residual-in_err-chosen.ensures.1
    (λ q a s f. subst (λ (k : FieldType). FailsBy (begin_by a.tenant object field k) e) c.in_ok-kind.ensures (c.in_err-chosen.ensures.begins told q a.tenant s))

pub returns-in_err-row-clause-what : goal.returns-in_err-row-clause-what
returns-in_err-row-clause-what g c told =
    let org = c.args.org in
    let object = c.args.self.now.object.now in
    let field = c.args.self.now.field.now in
    let spelled = c.args.self.now.kind.now in
    let e = c.in_err-row.field-0.0 in
    let m = tables_of g.K.Keeper.state c.args.draft.now in
    passed_on org (λ (a : Asked). begin_retype a.tenant object field spelled) OtherSlot (λ (a : Asked). IsTrue (is_type (new_type spelled))) m (of_store e) c.from_residual-in_err-row.result c.from_residual-in_err-row.ensures.1
    (λ q a s f.
    let t = a.tenant in
    let begins = begun_so org q t object field spelled c.in_ok-kind.kind c.choose.result c.in_ok-chosen.chosen c.in_ok-kind.ensures (c.choose.ensures.begins told q t s) c.in_ok-chosen.was in
    let typed = its_type org q t object field (new_type spelled) c.in_ok-chosen.chosen begins (c.jobs_sound.ensures.begin t object field spelled f s.sound) in
    not_made (begin_retype t object field spelled) c.row_of.result e (c.row_of.ensures.damaged (subst (λ (k : FieldType). IsTrue (plain k)) (sym c.in_ok-kind.ensures) typed)) c.in_err-row.was)

pub returns-clause-what : goal.returns-clause-what
returns-clause-what g c told =
    let org = c.args.org in
    let object = c.args.self.now.object.now in
    let field = c.args.self.now.field.now in
    let spelled = c.args.self.now.kind.now in
    let row = c.in_ok-row.row in
    let chosen = c.in_ok-chosen.chosen in
    let m = tables_of g.K.Keeper.state c.args.draft.now in
    done_so org (λ (a : Asked). begin_retype a.tenant object field spelled) OtherSlot _ m (change_to job_form row ∷ []) c.one_row.result c.one_row.ensures.made c.one_row.ensures.cause
    (row_own org row c.in_ok-row.ensures.fits (begun_org org chosen c.in_ok-kind.kind c.free_slot-slot.result row c.in_ok-row.ensures.same))
    (λ q a s f.
    let t = a.tenant in
    let begins = begun_so org q t object field spelled c.in_ok-kind.kind c.choose.result chosen c.in_ok-kind.ensures (c.choose.ensures.begins told q t s) c.in_ok-chosen.was in
    let free = free_in org q t object field (new_type spelled) chosen begins s.sound c.slot_laws.ensures.free c.slot_laws.ensures.seen c.free_slot-slot.result c.free_slot-slot.ensures.least in
    begun_takes org q t object field (new_type spelled) chosen begins (c.jobs_sound.ensures.begin t object field spelled f s.sound) c.switch_laws.ensures.begins (omega arith) s.sound s.plan c.free_slot-slot.result c.free_slot-slot.ensures.within free row
    (begun_same org chosen c.in_ok-kind.kind (new_type spelled) c.free_slot-slot.result row c.in_ok-row.ensures.same c.in_ok-kind.ensures))
