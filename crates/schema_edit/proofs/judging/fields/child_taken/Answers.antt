use Rattle.std.proofs.Common.{◌≡◌, ◌∙◌, ℕ, ◌||◌, Bool, List, sym, ap}
use Rattle.std.specs.List.{list_any}
use Rattle.base_lemmas.proofs.Results.{IfOk-same as if_ok}
use Rattle.base_lemmas.proofs.Bools.{or_from_false as or_second}
use Rattle.model.specs.declared.refusal.Refusal.TheVariants.{NameTaken}
use Rattle.model.specs.Fields.{same_name}
use Rattle.model.specs.NewFields.{child_taken, own_parent}
use Rattle.model.specs.Rules.{refuse_if}
use Rattle.schema_edit.specs.inner.Relations.{layout_gives}
use Rattle.schema_edit.proofs.JudgedFields.{child_taken_is}
use Rattle.schema_edit.proofs.Steps.{or_first}
use Rattle.schema_edit.proofs.judging.fields.child_taken.Goals.{then-is_taken, else-is_taken}
use Rattle.schema_edit.proofs.judging.fields.child_taken.Goals as goal

pub returns : goal.returns
returns c =
    λ t h.
    let b = c.args.new.now in
    let ls = c.args.layouts.now in
    let n : ℕ = c.args.number in
    let target : ℕ = c.args.target in
    let name : List ℕ = c.in-Some.child.now in
    let theirs : Bool = list_any (layout_gives target name) ls in
    let own : Bool = list_any (same_name name) (own_parent n target b) in
    let given : c.in_ok-is_taken.is_taken ≡ theirs = c.in_ok-is_taken.ensures ∙ ap (λ (x : List ℕ). list_any (layout_gives target x) ls) c.as_str.ensures.characters in
    let mine : c.in_ok-is_own.is_own ≡ own = c.in_ok-is_own.ensures ∙ ap (λ (x : List ℕ). list_any (same_name x) (own_parent n target b)) c.as_str-2.ensures.characters in
    let taken : c.if-is_taken.name_taken ≡ (theirs || own) =
    elim c.if-is_taken.branch [
      | then-is_taken w ↦ or_first theirs own c.if-is_taken.name_taken (sym given ∙ w.if-is_taken.true) (w.name_taken-is ∙ w.if-is_taken.true)
      | else-is_taken w ↦ or_second theirs own c.if-is_taken.name_taken (sym given ∙ w.if-is_taken.false) (w.name_taken-is ∙ mine)
    ] in
    if_ok c.name_taken.result (refuse_if c.if-is_taken.name_taken (NameTaken name)) (child_taken t n b target)
    (ap (λ (x : Bool). refuse_if x (NameTaken name)) taken ∙ sym (child_taken_is t ls h n target b name c.in-Some.ensures))
    c.name_taken.ensures
