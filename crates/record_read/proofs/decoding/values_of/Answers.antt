use Rattle.std.proofs.Common.{◌≡◌, ◌<◌, List, ℕ, Option, Some, length, subst, arith}
use Rattle.record_read.specs.Decoding.{all_from, value_from}
use Rattle.record_read.proofs.Loops.{goes_on, valids_go_on}
use Rattle.record_read.proofs.decoding.values_of.Goals as goal

pub loop-field-preserved : goal.loop-field-preserved
loop-field-preserved c =
    let fields = c.args.fields.now in
    let i = c.loop-field.field-index in
    let field = c.field-item.result in
    let lt : i < length fields = omega (arith, c.loop-field-test.true) in
    let read : value_from c.args.row.now.slots field ≡ Some c.in-Ok-value_of.value =
    subst (λ (slots : List (Option (List ℕ))). value_from slots field ≡ Some c.in-Ok-value_of.value) c.texts.ensures c.in-Ok-value_of.ensures.gives in
    record {
      gives = goes_on (value_from c.args.row.now.slots) fields i field c.loop-field.values.items c.push-in-loop-field.new.self.items c.in-Ok-value_of.value (all_from c.args.row.now fields)
          lt c.field-item.is read c.in_ok-push-2.ensures.items c.loop-field.invariant.gives;
      valid = valids_go_on fields i field c.loop-field.values.items c.push-in-loop-field.new.self.items c.in-Ok-value_of.value
          lt c.field-item.is c.in-Ok-value_of.ensures.valid c.in_ok-push-2.ensures.items c.loop-field.invariant.valid;
    }
