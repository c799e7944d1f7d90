-- The steps of adding an object or a field: what was read is the tenant's, and what a failure says.
use Rattle.std.proofs.Common.{◌≡◌, ◌∙◌, ℕ, ◌+◌, List, [], ◌∷◌, ◌++◌, length, map, Some, None, refl, sym, ap, subst}
use Rattle.std.specs.Prelude.{Err, IfErr, IfOk, IfSome, IsErrAnd, Ok, Result, codes}
use Rattle.std.proofs.lemmas.Result.{IfErr-at_err}
use Rattle.std.proofs.lemmas.Option.{same_Some as some_is}
use Rattle.store_edit.proofs.Reading.{not_missed}
use Rattle.store_edit.specs.Edits.{FailsBy}
use Rattle.store_kv.specs.Tables.{Tables}
use Rattle.store_rows.specs.declared.fail.StoreFail.{StoreFail}
use Rattle.store_rows.specs.declared.fail.StoreFail.TheVariants.{Damaged, Memory}
use Rattle.store_rows.specs.declared.org.OrgRow.{OrgRow}
use Rattle.model.specs.declared.metadata_bodies.NewObject.{NewObject}
use Rattle.model.specs.declared.limit.Limit.TheVariants as limit
use Rattle.model.specs.declared.refusal.Refusal.{Refusal}
use Rattle.model.specs.Cases.{in_case}
use Rattle.model.specs.Metadata.{add_object, child_name_taken, master_names, new_object, no_parent, object_rules, too_deep}
use Rattle.model.specs.Names.{bad_name, is_custom_name, taken}
use Rattle.model.specs.Rules.{MemberRules, Rule, first_refusal, in_body_order, over_limit}
use Rattle.model.specs.Tenant.{Object, Tenant}
use Rattle.model.specs.Verdict.{Verdict, accept, done, unless}
use Rattle.store_abstraction.specs.declared.fail.EditFail.{EditFail}
use Rattle.store_abstraction.specs.declared.layout.Layout.{Layout}
use Rattle.store_abstraction.specs.Fails.{of_store}
use Rattle.store_abstraction.specs.Layouts.{own_layouts, own_row}
use Rattle.store_abstraction.specs.Local.{FindsIn, FindsThere, StandsIn}
use Rattle.store_abstraction.specs.Metadata.{org_of}
use Rattle.store_abstraction.specs.Plan.{OrgPlan}
use Rattle.schema_edit.specs.Judging.{AcceptsBy, layouts_in, verdict_refusal}

-- ---- refused

pub refusal_is : (t : Tenant) (b : NewObject) → first_refusal (object_rules t b) ≡ verdict_refusal (add_object t b)
refusal_is t b = by (first_refusal (object_rules t b)) (record t { objects = t.objects ++ new_object t b ∷ [] })
  where
    by : (rule : Rule) (u : Tenant) → rule ≡ verdict_refusal (unless rule t (accept done u))
    by None u = refl
    by (Some r) u = refl

-- the first rule alone
pub early_object : {E : Type 0} (t : Tenant) (b : NewObject) (members : List (List ℕ)) (r : Result Rule E) → members ≡ b.members
    → IfOk r (λ x. x ≡ in_body_order members ((codes "name", bad_name is_custom_name b.name) ∷ in_case b.master [] master_names))
    → IfOk r (λ x. IfSome x (λ why. Some why ≡ verdict_refusal (add_object t b)))
early_object t b members (Err e) same h = tt
early_object t b members (Ok None) same h = tt
early_object t b members (Ok (Some why)) same h =
    let forms : MemberRules = (codes "name", bad_name is_custom_name b.name) ∷ in_case b.master [] master_names in
    let first : in_body_order b.members forms ≡ Some why = ap (λ (ms : List (List ℕ)). in_body_order ms forms) (sym same) ∙ sym h in
    sym (first_some (in_body_order b.members forms) why first) ∙ refusal_is t b
  where
    rest : List Rule
    rest =
        in_body_order b.members ((codes "name", taken (map (λ (o : Object). o.name) t.objects) b.name) ∷ (codes "child", in_case b.master None (child_name_taken t)) ∷ [])
        ∷ in_case b.master None (no_parent t) ∷ over_limit ((limit.Objects, length t.objects + 1) ∷ []) ∷ in_case b.master None (too_deep t) ∷ []

    first_some : (rule : Rule) (x : Refusal) → rule ≡ Some x → first_refusal (rule ∷ rest) ≡ Some x
    first_some rule x e = rw e refl

-- no layouts are returned
pub accepts_none : (org : ℕ) (q : OrgPlan) (t : Tenant) (v : Verdict) (e : EditFail) (result : Result (List Layout) EditFail) → IsErrAnd result (λ y. y ≡ e) → FailsBy v e → AcceptsBy org q t v result
accepts_none org q t v e (Ok layouts) passed h = absurd passed
accepts_none org q t v e (Err y) passed h = subst (FailsBy v) (sym passed) h

-- ---- what was read

pub layouts_are : (org : ℕ) (q : OrgPlan) (m : Tables) (t : Tenant) (r : Result (List Layout) StoreFail) (ls : List Layout) → r ≡ Ok ls → FindsIn org (own_layouts org) m r → StandsIn org q m (Some t) → ls ≡ layouts_in org q t
unfolding own_layouts
layouts_are org q m t r ls was h s = subst (FindsIn org (own_layouts org) m) was h q (Some t) s

pub org_row_is : (org : ℕ) (q : OrgPlan) (m : Tables) (t : Tenant) (r : Result OrgRow StoreFail) (row : OrgRow) → r ≡ Ok row → FindsThere org (own_row org) m r → StandsIn org q m (Some t) → row ≡ org_of org t
org_row_is org q m t r row was h s = some_is row (org_of org t) (subst (FindsThere org (own_row org) m) was h q (Some t) s)

-- ---- what failed

-- a read of the organisation's row
pub org_missed : (org : ℕ) (q : OrgPlan) (m : Tables) (t : Tenant) (v : Verdict) (r : Result OrgRow StoreFail) (e : StoreFail)
    → r ≡ Err e → FindsThere org (own_row org) m r → StandsIn org q m (Some t) → FailsBy v (of_store e)
org_missed org q m t v r e was h s = not_missed org q m t v r e was s (own_row org) (org_of org t) refl h

-- rows that aren't made for want of memory
pub rows_fail : {X : Type 0} (v : Verdict) (r : Result X StoreFail) (e : StoreFail) → IfErr r (λ e. e ≡ Memory) → r ≡ Err e → FailsBy v (of_store e)
rows_fail v r e h was = λ d. apart (sym (IfErr-at_err (λ (e : StoreFail). e ≡ Memory) was h) ∙ d)
  where
    apart : Memory ≡ Damaged → ⊥
    apart d = cc

pub not_memory : (v : Verdict) → FailsBy v (of_store Memory)
not_memory v = λ d. apart d
  where
    apart : Memory ≡ Damaged → ⊥
    apart d = cc
