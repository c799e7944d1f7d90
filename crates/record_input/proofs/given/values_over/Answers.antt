use Rattle.std.proofs.Common.{◌≡◌, ℕ, List, ◌∷◌, length, Ok, Err, subst, sym}
use Rattle.formula.specs.Meaning.{value_at}
use Rattle.model.specs.Edits.{given_to}
use Rattle.store_abstraction.specs.declared.layout.FieldPlace.{FieldPlace}
use Rattle.base_value.specs.declared.value.Value.{Value}
use Rattle.record_input.specs.Given.{all_given}
use Rattle.record_input.specs.inner.Fields.{column_at}
use Rattle.record_input.specs.inner.Read.{JudgesValue}
use Rattle.record_input.proofs.Judging.{Judged, known_at, judged_more, judged_refused, type_here}
use Rattle.record_input.proofs.given.values_over.Goals as goal

pub returns-in-Err : goal.returns-in-Err
returns-in-Err c types t finds =
    let given = all_given c.args.given.now in
    let old = c.args.old.now in
    let fields = c.args.fields.now in
    let values = c.fields.values.items in
    let field = c.in-Some.field.now in
    let more = c.in-Some.more.now in
    let front : c.fields.rest.now ≡ field ∷ more = c.in-Some.ensures.cases.0 in
    let count : c.len.result ≡ length values = search in
    let j = subst (λ (rest : List FieldPlace). Judged t c.args.given.now old fields c.args.name rest values) front (c.fields.invariant types t finds) in
    judged_refused t c.args.given.now old fields c.args.name field more values c.in-Err.unread j
    (subst (λ (k : ℕ). JudgesValue (given_to t given (column_at k field)) (value_at old.values k) (Err c.in-Err.unread)) count
    (c.in-Err.ensures (type_here field more j.types) t (known_at t c.args.given.now old fields c.args.name field more values _ (sym count) j)))

pub fields-preserved : goal.fields-preserved
fields-preserved c =
    let given = all_given c.args.given.now in
    let old = c.args.old.now in
    let fields = c.args.fields.now in
    let values = c.fields.values.items in
    let field = c.in-Some.field.now in
    let more = c.in-Some.more.now in
    let front : c.fields.rest.now ≡ field ∷ more = c.in-Some.ensures.cases.0 in
    let count : c.len.result ≡ length values = search in
    λ types t finds.
    let j = subst (λ (rest : List FieldPlace). Judged t c.args.given.now old fields c.args.name rest values) front (c.fields.invariant types t finds) in
    subst (λ (vs : List Value). Judged t c.args.given.now old fields c.args.name more vs) (sym c.in_ok-push-in-Ok.ensures.items)
    (judged_more t c.args.given.now old fields c.args.name field more values c.in-Ok.value j
    (subst (λ (k : ℕ). JudgesValue (given_to t given (column_at k field)) (value_at old.values k) (Ok c.in-Ok.value)) count
    (c.in-Ok.ensures (type_here field more j.types) t (known_at t c.args.given.now old fields c.args.name field more values _ (sym count) j))))
