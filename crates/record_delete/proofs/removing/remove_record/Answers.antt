use Rattle.std.proofs.Common.{◌≡◌, ◌∙◌, ℕ, None, OnOk, Some, ap, subst, sym}
use Rattle.std.specs.Prelude.{is_some, slice_get}
use Rattle.std.specs.Option.{option_copied}
use Rattle.store_kv.specs.Draft.{tables_of}
use Rattle.model.specs.Objects.{object_number, record_at}
use Rattle.store_abstraction.specs.Local.{StandsIn}
use Rattle.record_index.specs.diff.Touched.{changes_at}
use Rattle.record_delete.specs.inner.Adding.{Adds, AddsThese}
use Rattle.record_delete.proofs.Layouts.{laid, ready_at, some_record, unplaced}
use Rattle.record_delete.proofs.removing.remove_record.Goals as goal

pub returns-in-Some-clause-adds : goal.returns-in-Some-clause-adds
returns-in-Some-clause-adds g c told q t u s are there gone =
    let id = c.args.id.now in
    let l = c.in-Some.layout.now in
    let placed : slice_get c.args.layouts.now (object_number id) ≡ Some l = sym c.layout_for.ensures ∙ ap option_copied c.in-Some.is in
    let (r, at) = some_record (record_at t id) there in
    let it = laid c.args.org q t c.args.layouts.now are s.sound id r at l placed in
    let stands = subst (λ (n : ℕ). StandsIn n q (tables_of g.K.Keeper.state c.args.draft.now) (Some t)) (sym it.own) s in
    subst (λ (n : ℕ). AddsThese (changes_at n q q t u id) c.args.changes.now.items c.remove_by.new.changes.items c.remove_by.result) it.own
    (c.remove_by.ensures.adds told q t u stands it.its (ap is_some it.found) gone)

pub returns-in-Some-clause-own : goal.returns-in-Some-clause-own
returns-in-Some-clause-own g c =
    let l = c.in-Some.layout.now in
    let placed : slice_get c.args.layouts.now (object_number c.args.id.now) ≡ Some l = sym c.layout_for.ensures ∙ ap option_copied c.in-Some.is in
    let ready = ready_at c.args.org c.args.layouts.now (object_number c.args.id.now) l c.requires.ready placed in
    subst (λ (n : ℕ). OnOk c.remove_by.result (Adds n 145 1 c.args.changes.now.items c.remove_by.new.changes.items)) ready.own c.remove_by.ensures.own

pub returns-in-None-clause-adds : goal.returns-in-None-clause-adds
returns-in-None-clause-adds g c told q t u s are there gone =
    let none : slice_get c.args.layouts.now (object_number c.args.id.now) ≡ None = sym c.layout_for.ensures ∙ ap option_copied c.in-None.is in
    let (r, at) = some_record (record_at t c.args.id.now) there in
    absurd (unplaced c.args.org q t c.args.layouts.now are s.sound c.args.id.now r at none)
