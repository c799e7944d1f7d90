use Rattle.std.proofs.Common.{◌≡◌, ◌∙◌, ℕ, List, Some, ap, find, sym}
use Rattle.std.specs.List.{enumerate_from}
use Rattle.model.specs.Fields.{is_master}
use Rattle.model.specs.Rules.{Rule}
use Rattle.model.specs.declared.refusal.Refusal.{Refusal}
use Rattle.model.specs.declared.refusal.Refusal.TheVariants.{InvalidField}
use Rattle.record_save.proofs.Stays.{moved_so}
use Rattle.record_save.proofs.staying.master_moved.Goals as goal
use Rattle.store_abstraction.specs.declared.layout.FieldPlace.{FieldPlace}

abbrev some_rule : Refusal → Rule
some_rule r = Some r

pub returns-in_ok-name-in-Some : goal.returns-in_ok-name-in-Some
returns-in_ok-name-in-Some c =
    let l = c.args.layout.now in
    let f = c.in-Some.field.now in
    let name : c.in_ok-name-in-Some.name ≡ f.name = c.in_ok-name-in-Some.ensures in
    ap (λ (n : List ℕ). some_rule (InvalidField n)) name
    ∙ moved_so l c.args.old.now c.args.new.now c.in-Some.position f
    (c.in-Some.ensures ∙ ap (λ (fs : List FieldPlace). find (λ (f : ℕ × FieldPlace). is_master f.1.kind) (enumerate_from 1 fs)) c.as_slice.ensures) (sym c.same_at.ensures ∙ c.if-not-same_at.true)
