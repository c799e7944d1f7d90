use Rattle.std.proofs.Common.{◌≡◌, ◌∙◌, ℕ, ◌||◌, Bool, List, sym, ap}
use Rattle.std.specs.List.{list_any}
use Rattle.base_lemmas.proofs.Results.{IfOk-same as if_ok}
use Rattle.base_lemmas.proofs.Bools.{or_from_false as or_second}
use Rattle.model.specs.declared.refusal.Refusal.TheVariants.{NameTaken}
use Rattle.model.specs.Fields.{same_name}
use Rattle.model.specs.NewFields.{own_child, parent_taken}
use Rattle.model.specs.Relationships.{parent_name}
use Rattle.model.specs.Rules.{refuse_if}
use Rattle.schema_edit.specs.inner.Relations.{layout_gives}
use Rattle.schema_edit.proofs.JudgedFields.{parent_taken_is}
use Rattle.schema_edit.proofs.Steps.{or_first}
use Rattle.schema_edit.proofs.judging.fields.parent_taken.Goals.{then-is_taken, else-is_taken}
use Rattle.schema_edit.proofs.judging.fields.parent_taken.Goals as goal

pub returns : goal.returns
returns c =
    λ t h.
    let b = c.args.new.now in
    let ls = c.args.layouts.now in
    let n : ℕ = c.args.number in
    let name : List ℕ = parent_name b.name in
    let is : c.in_ok-parent.parent ≡ name = c.in_ok-parent.ensures ∙ ap parent_name c.as_str.ensures.characters in
    let theirs : Bool = list_any (layout_gives n name) ls in
    let own : Bool = list_any (same_name name) (own_child n c.args.target b) in
    let given : c.in_ok-is_taken.is_taken ≡ theirs = c.in_ok-is_taken.ensures ∙ ap (λ (x : List ℕ). list_any (layout_gives n x) ls) (c.as_str-2.ensures.characters ∙ is) in
    let taken : c.if-is_taken.is_taken ≡ (theirs || own) =
    elim c.if-is_taken.branch [
      | then-is_taken w ↦ or_first theirs own c.if-is_taken.is_taken (sym given ∙ w.if-is_taken.true) (w.is_taken-is ∙ w.if-is_taken.true)
      | else-is_taken w ↦
          or_second theirs own c.if-is_taken.is_taken (sym given ∙ w.if-is_taken.false)
          (w.is_taken-is ∙ w.is_own_child-is_taken.ensures ∙ ap (λ (x : List ℕ). list_any (same_name x) (own_child n c.args.target b)) (w.as_str-else-is_taken.ensures.characters ∙ is))
    ] in
    if_ok c.name_taken.result (refuse_if c.if-is_taken.is_taken (NameTaken c.in_ok-parent.parent)) (parent_taken t n b c.args.target)
    (ap (λ (x : Bool). refuse_if x (NameTaken c.in_ok-parent.parent)) taken
    ∙ ap (λ (x : List ℕ). refuse_if (theirs || own) (NameTaken x)) is
    ∙ sym (parent_taken_is t ls h n c.args.target b))
    c.name_taken.ensures
