use Rattle.model.specs.Paths.{Asked}
use Rattle.cmd_sandbox.specs.Making.{IsOwned}
use Rattle.model.specs.Metadata.{add_object}
use Rattle.model.specs.NewFields.{add_field}
use Rattle.cmd_demo.specs.Demos.{comes_to, new_amount, new_item}
use Rattle.cmd_demo.proofs.Coming.{come_ok, come_then, handed_on}
use Rattle.cmd_demo.proofs.items.make_both.Goals as goal

pub returns-in_err-make_item_object : goal.returns-in_err-make_item_object
returns-in_err-make_item_object c now a made =
    let mid = c.make_item_object.new.draft in
    handed_on (λ (b : Asked) (u : Unit {0}). IsOwned now mid b) (λ (b : Asked) (u : Unit {0}). IsOwned now mid b) (comes_to a (add_object a.tenant new_item)) (λ b. comes_to b (add_field b.tenant new_amount))
    c.from_residual.result c.in_err-make_item_object.field-0.0 c.from_residual.ensures (c.in_err-make_item_object.ensures now a made)

pub returns : goal.returns
returns c now a made =
    let mid = c.make_item_object.new.draft in
    let after = c.make_amount_field.new.draft in
    let h = come_ok (λ (b : Asked) (u : Unit {0}). IsOwned now mid b) (comes_to a (add_object a.tenant new_item)) tt (c.in_ok-make_item_object.ensures now a made) in
    come_then (λ (b : Asked) (u : Unit {0}). IsOwned now mid b) (λ (b : Asked) (u : Unit {0}). IsOwned now after b) (comes_to a (add_object a.tenant new_item)) (λ b. comes_to b (add_field b.tenant new_amount)) h.0
    c.make_amount_field.result h.1 (c.make_amount_field.ensures now h.0 h.2)
