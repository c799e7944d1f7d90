use Rattle.std.proofs.Common.{◌≡◌, ◌∙◌, ℕ, Bool, List, Some, None, sym, ap}
use Rattle.std.specs.Str.{chars}
use Rattle.std.specs.List.{list_any}
use Rattle.base_lemmas.proofs.Results.{IfOk-same as if_ok}
use Rattle.model.specs.declared.refusal.Refusal.TheVariants.{NameTaken}
use Rattle.model.specs.Metadata.{child_name_taken}
use Rattle.model.specs.Rules.{refuse_if}
use Rattle.schema_edit.specs.inner.Relations.{layout_gives}
use Rattle.schema_edit.proofs.Judged.{child_free, child_is_taken}
use Rattle.schema_edit.proofs.Steps.{at_name}
use Rattle.schema_edit.proofs.judging.objects.child_name_taken.Goals as goal

pub returns-in_default : goal.returns-in_default
returns-in_default c =
    λ t h.
    let none = at_name c.args.layouts.now (chars c.as_str.result.now) c.args.master.now.parent None c.as_str.ensures.characters c.in_default.ensures in
    sym (child_free t c.args.layouts.now h c.args.master.now none)

pub returns : goal.returns
returns c =
    λ t h.
    let m = c.args.master.now in
    let ls = c.args.layouts.now in
    let l = c.in-Some.parent.now in
    let some = at_name c.args.layouts.now (chars c.as_str.result.now) c.args.master.now.parent (Some c.in-Some.parent.now) c.as_str.ensures.characters c.in-Some.ensures in
    let taken : c.in_ok-is_taken.is_taken ≡ list_any (layout_gives l.object m.child) ls =
    c.in_ok-is_taken.ensures ∙ ap (λ (n : List ℕ). list_any (layout_gives l.object n) ls) c.as_str-2.ensures.characters in
    if_ok c.name_taken.result (refuse_if c.in_ok-is_taken.is_taken (NameTaken m.child)) (child_name_taken t m)
    (ap (λ (x : Bool). refuse_if x (NameTaken m.child)) taken ∙ sym (child_is_taken t ls h m l some)) c.name_taken.ensures
