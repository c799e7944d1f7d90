use Rattle.std.proofs.Common.{◌≡◌, ◌∙◌, ℕ, ◌+◌, [], ◌∷◌, length, Option, None, sym, ap}
use Rattle.model.specs.declared.limit.Limit.TheVariants as limit
use Rattle.model.specs.declared.metadata_bodies.NewMaster.{NewMaster}
use Rattle.model.specs.Cases.{in_case}
use Rattle.model.specs.Metadata.{no_parent, too_deep}
use Rattle.model.specs.Rules.{Rule, over_limit}
use Rattle.schema_edit.proofs.Layouts.{length_is}
use Rattle.schema_edit.proofs.Steps.{last_of_three, middle_of}
use Rattle.schema_edit.proofs.judging.objects.bad_place.Goals.{in-Some+in_ok-refusal+in_default-2, in_default}
use Rattle.schema_edit.proofs.judging.objects.bad_place.Goals as goal

pub returns-in-Some-over_limit : goal.returns-in-Some-over_limit
returns-in-Some-over_limit c =
    λ t h.
    let b = c.args.new.now in
    let ls = c.args.layouts.now in
    let count : over_limit ((limit.Objects, length ls + 1) ∷ []) ≡ over_limit ((limit.Objects, length t.objects + 1) ∷ []) =
    ap (λ (n : ℕ). over_limit ((limit.Objects, n + 1) ∷ [])) (length_is t ls h) in
    let parent : in_case b.master None (no_parent t) ≡ None =
    elim c.match-new.branch [
      | in-Some+in_ok-refusal+in_default-2 w ↦ ap (λ (m : Option NewMaster). in_case m None (no_parent t)) w.in-Some.is ∙ sym (w.in_ok-refusal.ensures t h) ∙ w.in_default-2.is
      | in_default w ↦ ap (λ (m : Option NewMaster). in_case m None (no_parent t)) w.in_default.is
    ] in
    let rule1 : Rule = in_case b.master None (no_parent t) in
    let rule2 : Rule = over_limit ((limit.Objects, length t.objects + 1) ∷ []) in
    let rule3 : Rule = in_case b.master None (too_deep t) in
    middle_of rule1 rule2 rule3 c.in-Some-over_limit.refusal parent (sym count ∙ sym c.over_limit.ensures ∙ c.in-Some-over_limit.is)

pub returns-in-Some-master : goal.returns-in-Some-master
returns-in-Some-master c =
    λ t h.
    let b = c.args.new.now in
    let ls = c.args.layouts.now in
    let count : over_limit ((limit.Objects, length ls + 1) ∷ []) ≡ over_limit ((limit.Objects, length t.objects + 1) ∷ []) =
    ap (λ (n : ℕ). over_limit ((limit.Objects, n + 1) ∷ [])) (length_is t ls h) in
    let parent : in_case b.master None (no_parent t) ≡ None =
    elim c.match-new.branch [
      | in-Some+in_ok-refusal+in_default-2 w ↦ ap (λ (m : Option NewMaster). in_case m None (no_parent t)) w.in-Some.is ∙ sym (w.in_ok-refusal.ensures t h) ∙ w.in_default-2.is
      | in_default w ↦ ap (λ (m : Option NewMaster). in_case m None (no_parent t)) w.in_default.is
    ] in
    let rule1 : Rule = in_case b.master None (no_parent t) in
    let rule2 : Rule = over_limit ((limit.Objects, length t.objects + 1) ∷ []) in
    let rule3 : Rule = in_case b.master None (too_deep t) in
    c.too_deep.ensures t h
    ∙ ap (λ (m : Option NewMaster). in_case m None (too_deep t)) (sym c.in-Some-master.is)
    ∙ last_of_three rule1 rule2 rule3 parent (sym count ∙ sym c.over_limit.ensures ∙ c.in_default-over_limit.is)

pub returns-in-None : goal.returns-in-None
returns-in-None c =
    λ t h.
    let b = c.args.new.now in
    let ls = c.args.layouts.now in
    let count : over_limit ((limit.Objects, length ls + 1) ∷ []) ≡ over_limit ((limit.Objects, length t.objects + 1) ∷ []) =
    ap (λ (n : ℕ). over_limit ((limit.Objects, n + 1) ∷ [])) (length_is t ls h) in
    let parent : in_case b.master None (no_parent t) ≡ None =
    elim c.match-new.branch [
      | in-Some+in_ok-refusal+in_default-2 w ↦ ap (λ (m : Option NewMaster). in_case m None (no_parent t)) w.in-Some.is ∙ sym (w.in_ok-refusal.ensures t h) ∙ w.in_default-2.is
      | in_default w ↦ ap (λ (m : Option NewMaster). in_case m None (no_parent t)) w.in_default.is
    ] in
    let rule1 : Rule = in_case b.master None (no_parent t) in
    let rule2 : Rule = over_limit ((limit.Objects, length t.objects + 1) ∷ []) in
    let rule3 : Rule = in_case b.master None (too_deep t) in
    ap (λ (m : Option NewMaster). in_case m None (too_deep t)) (sym c.in-None.is)
    ∙ last_of_three rule1 rule2 rule3 parent (sym count ∙ sym c.over_limit.ensures ∙ c.in_default-over_limit.is)
