-- How a new user, role or group is judged, rule by rule, and what it is given.
use Rattle.std.proofs.Common.{◌≡◌, ◌∙◌, ℕ, ◌+◌, List, [], ◌∷◌, None, Some, Option, refl, sym, ap₂, subst}
use Rattle.std.specs.Prelude.{Err, Ok}
use Rattle.std.specs.Option.{option_map}
use Rattle.std.proofs.lemmas.Option.{same_Some as some_is}
use Rattle.store_edit.proofs.Reading.{not_missed}
use Rattle.store_kv.specs.Tables.{Tables}
use Rattle.store_rows.specs.declared.fail.StoreFail.{StoreFail}
use Rattle.store_rows.specs.declared.org.OrgRow.{OrgRow}
use Rattle.model.specs.declared.limit.Limit.{Limit}
use Rattle.model.specs.declared.limit.Limit.TheVariants as limit
use Rattle.model.specs.Names.{bad_name}
use Rattle.model.specs.People.{no_role}
use Rattle.model.specs.Principals.{bad_id_if_any, spelled_id}
use Rattle.model.specs.Rules.{Rule, first_refusal, over_limit}
use Rattle.model.specs.Sound.{is_name}
use Rattle.model.specs.Tenant.{Tenant}
use Rattle.model.specs.Verdict.{accept, done}
use Rattle.store_abstraction.specs.declared.fail.EditFail.{EditFail}
use Rattle.store_abstraction.specs.Fails.{of_store}
use Rattle.store_abstraction.specs.Layouts.{own_row}
use Rattle.store_abstraction.specs.Local.{FindsThere, StandsIn}
use Rattle.store_abstraction.specs.Metadata.{org_of}
use Rattle.store_abstraction.specs.Plan.{OrgPlan}
use Rattle.people_edit.specs.declared.edits.kind.Kind.{Kind}
use Rattle.people_edit.specs.inner.Drawing.{kind_count, kind_limit, kind_member, new_rules}
use Rattle.people_edit.specs.inner.Judging.{lacks_role}
use Rattle.store_edit.specs.Judging.{FailsRule}
use Rattle.store_edit.proofs.StepByStep.{fails_here, fails_next, none_next}

-- ---- the role that a text names

pub no_role_is : (t : Tenant) (member : List ℕ) (text : Option (List ℕ)) → no_role t member text ≡ lacks_role t member (option_map spelled_id text)
no_role_is t member None = refl
no_role_is t member (Some text) = refl

-- ---- the rules in turn

abbrev pub room : Limit → (count counter : ℕ) → Rule
room what count counter = over_limit ((what, count + 1) ∷ (limit.Ids, counter + 1) ∷ [])

module _ (k : Kind) (row : OrgRow) (t : Tenant) (name : List ℕ) (role : Option (List ℕ)) where
  abbrev rules : Rule
  rules = first_refusal (new_rules k row t name role)

  pub name_fails : (e : EditFail) → FailsRule (bad_name is_name name) e → FailsRule rules e
  name_fails e h = fails_here (bad_name is_name name) (bad_id_if_any role ∷ no_role t (kind_member k) role ∷ room (kind_limit k) (kind_count k row) row.counter ∷ []) e h

  module _ (good : bad_name is_name name ≡ None) where
    pub id_fails : (e : EditFail) → FailsRule (bad_id_if_any role) e → FailsRule rules e
    id_fails e h =
        fails_next (bad_name is_name name) (bad_id_if_any role ∷ no_role t (kind_member k) role ∷ room (kind_limit k) (kind_count k row) row.counter ∷ []) e good
        (fails_here (bad_id_if_any role) (no_role t (kind_member k) role ∷ room (kind_limit k) (kind_count k row) row.counter ∷ []) e h)

    module _ (spelled : bad_id_if_any role ≡ None) (member : List ℕ) (named : Option (List ℕ)) (its : member ≡ kind_member k) (is : named ≡ option_map spelled_id role) where
      same_role : lacks_role t member named ≡ no_role t (kind_member k) role
      same_role = ap₂ (λ (m : List ℕ) (id : Option (List ℕ)). lacks_role t m id) its is ∙ sym (no_role_is t (kind_member k) role)

      pub role_fails : (e : EditFail) → FailsRule (lacks_role t member named) e → FailsRule rules e
      role_fails e h =
          fails_next (bad_name is_name name) (bad_id_if_any role ∷ no_role t (kind_member k) role ∷ room (kind_limit k) (kind_count k row) row.counter ∷ []) e good
          (fails_next (bad_id_if_any role) (no_role t (kind_member k) role ∷ room (kind_limit k) (kind_count k row) row.counter ∷ []) e spelled
          (fails_here (no_role t (kind_member k) role) (room (kind_limit k) (kind_count k row) row.counter ∷ []) e (subst (λ (r : Rule). FailsRule r e) same_role h)))

      module _ (there : lacks_role t member named ≡ None) (what : Limit) (count : ℕ) (its_limit : what ≡ kind_limit k) (its_count : count ≡ kind_count k row) where
        same_room : room what count row.counter ≡ room (kind_limit k) (kind_count k row) row.counter
        same_room = ap₂ (λ (l : Limit) (n : ℕ). room l n row.counter) its_limit its_count

        pub room_fails : (e : EditFail) → FailsRule (room what count row.counter) e → FailsRule rules e
        room_fails e h =
            fails_next (bad_name is_name name) (bad_id_if_any role ∷ no_role t (kind_member k) role ∷ room (kind_limit k) (kind_count k row) row.counter ∷ []) e good
            (fails_next (bad_id_if_any role) (no_role t (kind_member k) role ∷ room (kind_limit k) (kind_count k row) row.counter ∷ []) e spelled
            (fails_next (no_role t (kind_member k) role) (room (kind_limit k) (kind_count k row) row.counter ∷ []) e (sym same_role ∙ there)
            (fails_here (room (kind_limit k) (kind_count k row) row.counter) [] e (subst (λ (r : Rule). FailsRule r e) same_room h))))

        pub none_fails : room what count row.counter ≡ None → rules ≡ None
        none_fails free =
            none_next (bad_name is_name name) (bad_id_if_any role ∷ no_role t (kind_member k) role ∷ room (kind_limit k) (kind_count k row) row.counter ∷ []) good
            (none_next (bad_id_if_any role) (no_role t (kind_member k) role ∷ room (kind_limit k) (kind_count k row) row.counter ∷ []) spelled
            (none_next (no_role t (kind_member k) role) (room (kind_limit k) (kind_count k row) row.counter ∷ []) (sym same_role ∙ there)
            (none_next (room (kind_limit k) (kind_count k row) row.counter) [] (sym same_room ∙ free) refl)))

-- ---- the organisation's row

pub row_is : (org : ℕ) (q : OrgPlan) (t : Tenant) (m : Tables) (row : OrgRow) → FindsThere org (own_row org) m (Ok row) → StandsIn org q m (Some t) → row ≡ org_of org t
row_is org q t m row h s = some_is row (org_of org t) (h q (Some t) s)

pub row_missed : (org : ℕ) (q : OrgPlan) (t : Tenant) (m : Tables) (rule : Rule) (e : StoreFail) → FindsThere org (own_row org) m (Err e) → StandsIn org q m (Some t) → FailsRule rule (of_store e)
row_missed org q t m rule e h s = not_missed org q m t (accept done t) (Err e) e refl s (own_row org) (org_of org t) refl h
