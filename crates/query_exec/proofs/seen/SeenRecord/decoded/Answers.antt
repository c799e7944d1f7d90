use Rattle.std.proofs.Common.{◌≡◌, ◌∙◌, ◌-◌, ℕ, suc, List, Option, Some, None, ap, arith, subst, sym, slice_get}
use Rattle.std.proofs.lemmas.Option.{slice_get_past as none_got}
use Rattle.query_plan.specs.Given.{GivesJust}
use Rattle.record_read.specs.Decoding.{read_slot}
use Rattle.formula.specs.Meaning.{value_at}
use Rattle.store_codec.specs.Gives.{Gives}
use Rattle.store_abstraction.specs.declared.layout.FieldPlace.{FieldPlace}
use Rattle.store_view.specs.Slots.{slot_in}
use Rattle.query_exec.proofs.Seeing.{field_read, item_got, null_read}
use Rattle.query_exec.proofs.seen.SeenRecord.decoded.Goals as goal

pub returns-in-Some : goal.returns-in-Some
returns-in-Some c r e =
    let n : c.args.position ≡ suc (c.args.position - 1) = omega (arith, c.if-position-eq0.false) in
    let l = c.args.self.now.layout.now in
    let row = c.args.self.now.row in
    let field = c.in-Some.field.now in
    let result = c.read_text-in-Some.result in
    let at : slice_get l.fields (c.args.position - 1) ≡ Some field =
    ap (λ (fs : List FieldPlace). slice_get fs (c.args.position - 1)) (sym c.as_slice.ensures)
    ∙ item_got c.as_slice.result.now (c.args.position - 1) field c.in-Some.ensures.lookup.3.0 c.in-Some.ensures.lookup.3.1 in
    let given = subst (λ (t : Option (List ℕ)). Gives result (read_slot field.kind t)) (c.slot-text.ensures ∙ ap (slot_in row.slots) c.from.ensures) c.read_text-in-Some.ensures in
    subst (λ (k : ℕ). GivesJust (value_at r.values k) result) (sym n) (field_read l row r e (c.args.position - 1) field result at given)

pub returns-in-None : goal.returns-in-None
returns-in-None c r e =
    let n : c.args.position ≡ suc (c.args.position - 1) = omega (arith, c.if-position-eq0.false) in
    let l = c.args.self.now.layout.now in
    let at : slice_get l.fields (c.args.position - 1) ≡ None =
    ap (λ (fs : List FieldPlace). slice_get fs (c.args.position - 1)) (sym c.as_slice.ensures) ∙ none_got c.as_slice.result.now (c.args.position - 1) c.in-None.ensures.lookup.3 in
    null_read l c.args.self.now.row r e (c.args.position - 1) at ∙ ap (λ (k : ℕ). value_at r.values k) (sym n)
