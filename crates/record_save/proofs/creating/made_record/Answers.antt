use Rattle.std.proofs.Common.{◌∙◌, IsTrue, List, subst, sym, w64}
use Rattle.std.proofs.lemmas.Int.{to_z-of_z}
use Rattle.record_input.specs.Given.{key_of}
use Rattle.model.specs.declared.record.Record.{Record}
use Rattle.model.specs.SoundRecords.{all_valid}
use Rattle.schema_rules.specs.Objects.{object_of_layout}
use Rattle.base_value.specs.declared.value.FieldType.{FieldType}
use Rattle.record_save.specs.inner.Giving.{Alters}
use Rattle.record_save.proofs.GivenRules.{kinds_same}
use Rattle.record_save.proofs.creating.made_record.Goals as goal

pub altered_record-requires-clause-values : goal.altered_record-requires-clause-values
altered_record-requires-clause-values c =
    subst (λ (kinds : List FieldType). IsTrue (all_valid kinds c.in_ok-empty.empty.values)) (kinds_same c.args.layout.now) c.in_ok-empty.ensures.valid

pub returns-clause-proposes : goal.returns-clause-proposes
returns-clause-proposes c a user now id well finds =
    let at = now ∙ sym (to_z-of_z w64 c.args.now c.ranges.now) in
    let given = c.args.given.now in
    subst (λ (old : Record). Alters a (object_of_layout c.args.layout.now) (key_of given) given.body.now old c.altered_record.result) (c.in_ok-empty.ensures.same a user at id) (c.altered_record.ensures.alters a at well finds)
