-- Objects are described as their layouts show them.
use Rattle.std.proofs.Common.{◌≡◌, ◌∙◌, ℕ, ◌+◌, Bool, cond, List, [], ◌∷◌, ◌++◌, map, Option, Some, None, refl, sym, ap, ap₂, Bor}
use Rattle.std.specs.Prelude.{codes, Result, Ok, Err}
use Rattle.std.specs.List.{find}
use Rattle.std.specs.Option.{option_copied, option_map}
use Rattle.std.proofs.lemmas.Simd.{map-map as map_again}
use Rattle.base_lemmas.proofs.Bools.{by_answer as pick}
use Rattle.base_json.specs.declared.tree.Json.{Json}
use Rattle.base_json_tree.specs.Words.{list, member, number, object, text}
use Rattle.model.specs.declared.refusal.Refusal.{Refusal}
use Rattle.model.specs.declared.refusal.Refusal.TheVariants.{InvalidType}
use Rattle.model.specs.Cases.{in_case}
use Rattle.model.specs.Fields.{same_name}
use Rattle.model.specs.Objects.{Numbered, numbered, object_named}
use Rattle.model.specs.Tenant.{Tenant}
use Rattle.model_reads.specs.DescribeJson.{description_json, object_json, objects_json, summary_members}
use Rattle.model_reads.specs.Reads.{description_told}
use Rattle.model_reads.specs.Told.{Telling, of_object}
use Rattle.store_abstraction.specs.declared.fail.EditFail.{EditFail}
use Rattle.store_abstraction.specs.declared.fail.EditFail.TheVariants.{Refused}
use Rattle.store_abstraction.specs.declared.layout.Layout.{Layout}
use Rattle.store_abstraction.specs.Layouts.{layout_of, own_layouts}
use Rattle.store_abstraction.specs.Plan.{OrgPlan}
use Rattle.store_edit.specs.Naming.{NamesLayout}
use Rattle.api_read.specs.Tells.{TellsSo}
use Rattle.api_read.specs.inner.DescribedLayouts.{description_by, object_by, objects_by, summary_by, told_by}
use Rattle.api_read.proofs.ChildrenListed.{children_are}
use Rattle.api_read.proofs.DescribedFields.{fields_are}
use Rattle.api_read.proofs.ObjectsTold.{told_again}

-- ---- in short

pub objects_are : (org : ℕ) (q : OrgPlan) (t : Tenant) (layouts : List Layout) → layouts ≡ own_layouts org q (Some t) → objects_by layouts ≡ objects_json t
unfolding own_layouts
objects_are org q t layouts is =
    ap objects_by is
    ∙ ap (λ (all : List Json). object (member (codes "encoding") (text (codes "UTF-8")) ∷ member (codes "maxBatchSize") (number 1) ∷ member (codes "sobjects") (list all) ∷ []))
    (map_again (λ (l : Layout). object (summary_by l)) (layout_of org q t) (numbered t.objects))

pub object_told_so : (org : ℕ) (q : OrgPlan) (t : Tenant) (name : List ℕ) (l : Layout) (r : Result Json EditFail) → NamesLayout org q t name (Ok l)
    → TellsSo (Ok (object_by l)) r → TellsSo (of_object t name (λ o. Ok (object_json o))) r
object_told_so org q t name l r h told =
    told_again (of_object t name (λ o. Ok (object_json o))) (Ok (object_by l)) r
    (ap (λ (o : Option Numbered). in_case o (Err (InvalidType name)) (λ (o : Numbered). Ok (object_json o))) h.1 ∙ sym (ap (λ (l : Layout). Ok (object_by l)) h.2))
    told

-- ---- the whole

description_is : (org : ℕ) (q : OrgPlan) (t : Tenant) (layouts : List Layout) (o : Numbered) → layouts ≡ own_layouts org q (Some t)
    → description_by layouts (layout_of org q t o) ≡ description_json t o
description_is org q t layouts o is =
    ap₂ (λ (fields children : List Json). object (summary_members o ++ (member (codes "fields") (list fields) ∷ member (codes "childRelationships") (list children) ∷ [])))
    (fields_are org q t layouts o is) (children_are org q t o.number layouts is)

find_layout : (make : Numbered → Layout) (test : Layout → Bool) (os : List Numbered) → find test (map make os) ≡ option_map make (find (λ o. test (make o)) os)
find_layout make test [] = refl
find_layout make test (o ∷ os) =
    pick (test (make o)) (λ b. cond b (Some (make o)) (find test (map make os)) ≡ option_map make (cond b (Some o) (find (λ o. test (make o)) os)))
    (λ _. refl)
    (λ _. find_layout make test os)

pub told_is : (org : ℕ) (q : OrgPlan) (t : Tenant) (layouts : List Layout) (name : List ℕ) → layouts ≡ own_layouts org q (Some t) → told_by layouts name ≡ description_told t name
unfolding own_layouts object_named
told_is org q t layouts name is =
    ap (λ (found : Option Layout). in_case found (Err (InvalidType name)) (λ (l : Layout). Ok (description_by layouts l)))
    (ap (find (λ (l : Layout). same_name l.name name)) is ∙ find_layout (layout_of org q t) (λ (l : Layout). same_name l.name name) (numbered t.objects))
    ∙ by (find (λ (o : Numbered). same_name o.object.name name) (numbered t.objects))
  where
    by : (o : Option Numbered)
        → in_case (option_map (layout_of org q t) o) (Err (InvalidType name)) (λ (l : Layout). Ok (description_by layouts l)) ≡ in_case o (Err (InvalidType name)) (λ (o : Numbered). Ok (description_json t o))
    by None = refl
    by (Some o) = ap Ok (description_is org q t layouts o is)

-- ---- a layout that is found by its name

copied_some : (layouts : List Layout) (name other : List ℕ) (found : Option (Bor Layout)) → option_copied found ≡ find (λ l. same_name l.name other) layouts → other ≡ name
    → told_by layouts name ≡ in_case (option_copied found) (Err (InvalidType name)) (λ (l : Layout). Ok (description_by layouts l))
copied_some layouts name other found is same =
    ap (λ (found : Option Layout). in_case found (Err (InvalidType name)) (λ (l : Layout). Ok (description_by layouts l)))
    (sym (is ∙ ap (λ (x : List ℕ). find (λ (l : Layout). same_name l.name x) layouts) same))

pub found_told : (layouts : List Layout) (name other : List ℕ) (found : Option (Bor Layout)) (l : Bor Layout) (r : Result Json EditFail)
    → option_copied found ≡ find (λ l. same_name l.name other) layouts → other ≡ name → found ≡ Some l → TellsSo (Ok (description_by layouts l.now)) r → TellsSo (told_by layouts name) r
found_told layouts name other found l r is same here told =
    told_again (told_by layouts name) (Ok (description_by layouts l.now)) r
    (copied_some layouts name other found is same
    ∙ ap (λ (found : Option (Bor Layout)). in_case (option_copied found) (Err (InvalidType name)) (λ (l : Layout). Ok (description_by layouts l))) here)
    told

pub missing_told : (layouts : List Layout) (name other : List ℕ) (found : Option (Bor Layout)) (refusal : Refusal)
    → option_copied found ≡ find (λ l. same_name l.name other) layouts → other ≡ name → found ≡ None → refusal ≡ InvalidType name → TellsSo (told_by layouts name) (Err (Refused refusal))
missing_told layouts name other found refusal is same none why =
    copied_some layouts name other found is same
    ∙ ap (λ (found : Option (Bor Layout)). in_case (option_copied found) (Err (InvalidType name)) (λ (l : Layout). Ok (description_by layouts l))) none
    ∙ sym (ap Err why)
