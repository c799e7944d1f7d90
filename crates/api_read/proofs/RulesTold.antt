-- What is told of the rows of sharing rules, with the names that layouts have, is what is told of the tenant's rules.
use Rattle.std.proofs.Common.{◌≡◌, ◌∙◌, ℕ, zero, suc, ◌+◌, List, [], ◌∷◌, ◌++◌, Some, refl, sym, ap, map}
use Rattle.std.specs.Prelude.{Ok, codes, slice_get}
use Rattle.std.specs.List.{enumerate_from}
use Rattle.std.proofs.lemmas.Simd.{map-map as map_again}
use Rattle.base_json.specs.declared.tree.Json.{Json}
use Rattle.base_json.specs.declared.tree.Member.{Member}
use Rattle.base_json_tree.specs.Words.{id_text, member, object, or_null, text}
use Rattle.base_value.specs.declared.sharing.Principal.{Principal}
use Rattle.base_value.specs.declared.sharing.RuleSource.{RuleSource}
use Rattle.base_value.specs.declared.sharing.RuleSource.TheVariants as source
use Rattle.base_lemmas.proofs.Lists.{map-same}
use Rattle.model.specs.Cases.{in_case}
use Rattle.model.specs.Objects.{Numbered, numbered}
use Rattle.model.specs.Tenant.{Object, SharingRule, Source, Tenant, owned, meets}
use Rattle.model_reads.specs.PeopleJson.{listed, principal_json}
use Rattle.model_reads.specs.SettingsJson.{level_name, object_name_at, sharing_rule_json, source_member, state_name}
use Rattle.model_reads.specs.Told.{Telling}
use Rattle.people_rows.specs.sharing.SharingRules.{sharing_rows}
use Rattle.store_abstraction.specs.Layouts.{layout_of, own_layouts}
use Rattle.store_abstraction.specs.Metadata.{sharing_of, source_part}
use Rattle.store_abstraction.specs.Plan.{OrgPlan}
use Rattle.store_abstraction.specs.declared.layout.Layout.{Layout}
use Rattle.store_rows.specs.declared.sharing.SharingRow.{SharingRow}
use Rattle.api_read.specs.inner.People.{name_at, source_told, told_rule}

-- ---- the names of objects

name_in : (layout : ℕ × Object → Layout) → ((o : ℕ × Object) → (layout o).name ≡ o.1.name) → (os : List Object) (k n : ℕ) → name_at (map layout (enumerate_from k os)) n ≡ in_case (slice_get os n) [] (λ o. o.name)
name_in layout named [] k n = refl
name_in layout named (o ∷ os) k zero = named (k, o)
name_in layout named (o ∷ os) k (suc n) = name_in layout named os (k + 1) n

name_is : (org : ℕ) (q : OrgPlan) (t : Tenant) (n : ℕ) → name_at (own_layouts org q (Some t)) n ≡ object_name_at t n
unfolding own_layouts
name_is org q t n =
    let layout : ℕ × Object → Layout = λ (o : ℕ × Object). layout_of org q t (record { number = o.0; object = o.1 }) in
    ap (λ (ls : List Layout). name_at ls n) (map_again (layout_of org q t) (λ (o : ℕ × Object). record { number = o.0; object = o.1 }) (enumerate_from 0 t.objects)) ∙ name_in layout (λ o. refl) t.objects 0 n

-- ---- rules

source_is : (s : Source) → source_told (source_part s) ≡ source_member s
source_is (owned p) = refl
source_is (meets formula) = refl

rule_is : (org : ℕ) (q : OrgPlan) (t : Tenant) (r : SharingRule) → told_rule (own_layouts org q (Some t)) (sharing_of org r) ≡ sharing_rule_json t r
rule_is org q t r =
    let name = name_is org q t r.object in
    let records = source_is r.source in
    λ i.
    object
    (member (codes "object") (text (name i))
    ∷ member (codes "name") (text r.name)
    ∷ records i
    ∷ member (codes "to") (principal_json r.to)
    ∷ member (codes "level") (text (level_name r.level))
    ∷ member (codes "state") (text (state_name r.state))
    ∷ member (codes "cursor") (or_null id_text r.cursor)
    ∷ [])

-- one more member for the source
module _ (m0 m1 : List Member) (s : RuleSource) where
  pub from_put : (p : Principal) (v : Json) → s ≡ source.Owner p → v ≡ principal_json p → m1 ≡ m0 ++ member (codes "from") v ∷ [] → m1 ≡ m0 ++ source_told s ∷ []
  from_put p v is same e = e ∙ ap (λ (v : Json). m0 ++ member (codes "from") v ∷ []) same ∙ ap (λ (s : RuleSource). m0 ++ source_told s ∷ []) (sym is)

  pub formula_put : (formula given : List ℕ) → s ≡ source.Criteria formula → given ≡ formula → m1 ≡ m0 ++ member (codes "formula") (text given) ∷ [] → m1 ≡ m0 ++ source_told s ∷ []
  formula_put formula given is same e = e ∙ ap (λ (cs : List ℕ). m0 ++ member (codes "formula") (text cs) ∷ []) same ∙ ap (λ (s : RuleSource). m0 ++ source_told s ∷ []) (sym is)

-- the members that tell a rule
pub rule_members : (objects : List Layout) (row : SharingRow) (object_name name level state : List ℕ) (to cursor : Json) → object_name ≡ name_at objects row.object → name ≡ row.name → to ≡ principal_json row.to → level ≡ level_name row.level → state ≡ state_name row.state
    → cursor ≡ or_null id_text row.cursor
    → object
    (member (codes "object") (text object_name)
    ∷ member (codes "name") (text name)
    ∷ source_told row.source
    ∷ member (codes "to") to
    ∷ member (codes "level") (text level)
    ∷ member (codes "state") (text state)
    ∷ member (codes "cursor") cursor
    ∷ [])
    ≡ told_rule objects row
rule_members objects row object_name name level state to cursor one two three four five six =
    λ i.
    object
    (member (codes "object") (text (one i))
    ∷ member (codes "name") (text (two i))
    ∷ source_told row.source
    ∷ member (codes "to") (three i)
    ∷ member (codes "level") (text (four i))
    ∷ member (codes "state") (text (five i))
    ∷ member (codes "cursor") (six i)
    ∷ [])

pub rules_told : (org : ℕ) (q : OrgPlan) (t : Tenant) (v : Json) (objects : List Layout) (rows : List SharingRow) → v ≡ listed (codes "sharingRules") (map (told_rule objects) rows) → objects ≡ own_layouts org q (Some t) → rows ≡ sharing_rows org (Some t)
    → ◌≡◌ {A = Telling} (Ok (listed (codes "sharingRules") (map (sharing_rule_json t) t.sharing_rules))) (Ok v)
rules_told org q t v objects rows is one two =
    let given : map (told_rule objects) rows ≡ map (told_rule (own_layouts org q (Some t))) (sharing_rows org (Some t)) = λ i. map (told_rule (one i)) (two i) in
    let all = map_again (told_rule (own_layouts org q (Some t))) (sharing_of org) t.sharing_rules ∙ map-same (λ (r : SharingRule). told_rule (own_layouts org q (Some t)) (sharing_of org r)) (sharing_rule_json t) (rule_is org q t) t.sharing_rules in
    ap Ok (sym (is ∙ ap (λ (items : List Json). listed (codes "sharingRules") items) (given ∙ all)))
