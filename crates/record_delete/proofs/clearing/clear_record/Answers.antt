use Rattle.std.proofs.Common.{◌≡◌, ◌∙◌, ℕ, List, None, OnOk, Some, ap, refl, subst, sym, w64}
use Rattle.std.specs.Prelude.{slice_get, ℤ}
use Rattle.std.proofs.lemmas.Int.{to_z-of_z}
use Rattle.std.specs.Option.{option_copied}
use Rattle.store_kv.specs.Draft.{tables_of}
use Rattle.model.specs.declared.record.Record.{Record}
use Rattle.model.specs.Deletes.{has_id, without}
use Rattle.model.specs.Objects.{object_number, record_at}
use Rattle.store_abstraction.specs.declared.layout.Layout.{Layout}
use Rattle.store_abstraction.specs.Local.{StandsIn}
use Rattle.record_index.specs.diff.Touched.{changes_at}
use Rattle.record_delete.specs.inner.Adding.{AddsThese, Clears}
use Rattle.record_delete.specs.inner.Clearing.{cleared_in}
use Rattle.record_delete.proofs.Cleared.{cleared_is}
use Rattle.record_delete.proofs.Layouts.{laid, ready_at, unplaced}
use Rattle.record_delete.proofs.Without.{left_at, stays_not_gone}
use Rattle.record_delete.proofs.clearing.clear_record.Goals as goal

pub returns-in-Some-clause-adds : goal.returns-in-Some-clause-adds
returns-in-Some-clause-adds g c told q t rs r s are same at loses =
    let org = c.args.org in
    let now = c.args.now in
    let gone = c.args.gone.now in
    let id = c.args.id.now in
    let l = c.in-Some.layout.now in
    let u = without now rs t in
    let placed : slice_get c.args.layouts.now (object_number id) ≡ Some l = sym c.layout_for.ensures ∙ ap option_copied c.in-Some.is in
    let it = laid org q t c.args.layouts.now are s.sound id r at l placed in
    let stays = ap (λ (i : List ℕ). has_id rs i) (sym it.there.same) ∙ stays_not_gone t rs r loses in
    let cleared = ap (λ (x : Layout). cleared_in x now gone r) it.made ∙ cleared_is org q t (object_number id) it.there.object it.there.at gone rs same r (ap object_number it.there.same) now loses in
    let after : record_at u id ≡ Some (cleared_in l now gone r) = left_at now t rs id r stays at ∙ ap (λ (x : Record). Some x) (sym cleared) in
    let stands = subst (λ (n : ℕ). StandsIn n q (tables_of g.K.Keeper.state c.args.draft.now) (Some t)) (sym it.own) s in
    subst (λ (n : ℕ). AddsThese (changes_at n q q t u id) c.args.changes.now.items c.clear_by.new.changes.items c.clear_by.result) it.own
    (c.clear_by.ensures.adds told q t u r stands it.its it.found refl refl (subst (λ (z : ℤ). record_at u id ≡ Some (cleared_in l z gone r)) (sym (to_z-of_z w64 now c.ranges.now)) after))

pub returns-in-Some-clause-own : goal.returns-in-Some-clause-own
returns-in-Some-clause-own g c =
    let l = c.in-Some.layout.now in
    let placed : slice_get c.args.layouts.now (object_number c.args.id.now) ≡ Some l = sym c.layout_for.ensures ∙ ap option_copied c.in-Some.is in
    let ready = ready_at c.args.org c.args.layouts.now (object_number c.args.id.now) l c.requires.ready placed in
    subst (λ (n : ℕ). OnOk c.clear_by.result (Clears n 1 c.args.changes.now.items c.clear_by.new.changes.items)) ready.own c.clear_by.ensures.own

pub returns-in-None-clause-adds : goal.returns-in-None-clause-adds
returns-in-None-clause-adds g c told q t rs r s are same at loses =
    let none : slice_get c.args.layouts.now (object_number c.args.id.now) ≡ None = sym c.layout_for.ensures ∙ ap option_copied c.in-None.is in
    absurd (unplaced c.args.org q t c.args.layouts.now are s.sound c.args.id.now r at none)
