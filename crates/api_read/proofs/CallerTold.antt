-- What is told of who asks, and of limits, from rows.
use Rattle.std.proofs.Common.{◌≡◌, ◌∙◌, ℕ, List, [], ◌∷◌, ◌++◌, Option, Some, None, sym, ap, subst}
use Rattle.std.specs.Prelude.{Ok, Result, codes}
use Rattle.std.specs.Option.{option_map}
use Rattle.base_json.specs.declared.tree.Json.{Json}
use Rattle.base_json.specs.declared.tree.Member.{Member}
use Rattle.base_json_tree.specs.Words.{id_text, member, object, or_null, text, truth}
use Rattle.model.specs.Tenant.{Tenant, User}
use Rattle.model.specs.World.{org_id, user_at, users_in}
use Rattle.model_reads.specs.CallerJson.{caller_json, limits_json}
use Rattle.model_reads.specs.Told.{Telling}
use Rattle.store_abstraction.specs.Layouts.{own_row}
use Rattle.store_abstraction.specs.Local.{FindsIn, FindsThere, StandsIn}
use Rattle.store_abstraction.specs.Metadata.{org_of, user_of}
use Rattle.store_abstraction.specs.Plan.{OrgPlan}
use Rattle.store_kv.specs.Tables.{Tables}
use Rattle.store_rows.specs.declared.fail.StoreFail.{StoreFail}
use Rattle.store_rows.specs.declared.org.OrgRow.{OrgRow}
use Rattle.store_rows.specs.declared.user.UserRow.{UserRow}
use Rattle.api_read.specs.inner.CallerParts.{told_caller, told_limits}

-- one more member
pub put : (m0 m1 ms : List Member) (a : Member) → m0 ≡ ms → m1 ≡ m0 ++ a ∷ [] → m1 ≡ ms ++ a ∷ []
put m0 m1 ms a e f = f ∙ ap (λ (xs : List Member). xs ++ a ∷ []) e

-- the members that tell who asks
pub caller_members : (org : ℕ) (row : UserRow) (id name : List ℕ) (role : Json) → id ≡ org_id org → name ≡ row.name → role ≡ or_null id_text row.role
    → object
    (member (codes "user_id") (id_text row.id)
    ∷ member (codes "organization_id") (id_text id)
    ∷ member (codes "preferred_username") (id_text row.id)
    ∷ member (codes "name") (text name)
    ∷ member (codes "active") (truth row.active)
    ∷ member (codes "is_admin") (truth row.admin)
    ∷ member (codes "role") role
    ∷ [])
    ≡ told_caller org row
caller_members org row id name role one two three =
    λ i.
    object
    (member (codes "user_id") (id_text row.id)
    ∷ member (codes "organization_id") (id_text (one i))
    ∷ member (codes "preferred_username") (id_text row.id)
    ∷ member (codes "name") (text (two i))
    ∷ member (codes "active") (truth row.active)
    ∷ member (codes "is_admin") (truth row.admin)
    ∷ member (codes "role") (three i)
    ∷ [])

-- two members that were put behind one another
pub two_members : (m0 m1 m2 : List Member) (v : Json) (a b : Member) → m0 ≡ [] → m1 ≡ m0 ++ a ∷ [] → m2 ≡ m1 ++ b ∷ [] → v ≡ object m2 → v ≡ object (a ∷ b ∷ [])
two_members m0 m1 m2 v a b none one two is =
    is ∙ ap (λ (ms : List Member). object ms) (two ∙ ap (λ (ms : List Member). ms ++ b ∷ []) (one ∙ ap (λ (ms : List Member). ms ++ a ∷ []) none))

-- three members
pub three_members : (m0 m1 m2 m3 : List Member) (v : Json) (a b c : Member) → m0 ≡ [] → m1 ≡ m0 ++ a ∷ [] → m2 ≡ m1 ++ b ∷ [] → m3 ≡ m2 ++ c ∷ [] → v ≡ object m3 → v ≡ object (a ∷ b ∷ c ∷ [])
three_members m0 m1 m2 m3 v a b c none one two three is =
    is ∙ ap (λ (ms : List Member). object ms) (three ∙ ap (λ (ms : List Member). ms ++ c ∷ []) (two ∙ ap (λ (ms : List Member). ms ++ b ∷ []) (one ∙ ap (λ (ms : List Member). ms ++ a ∷ []) none)))

-- the row of the user with this id, if there is one
abbrev pub row_of_user : (org : ℕ) → (id : List ℕ) → OrgPlan → Option Tenant → Option UserRow
row_of_user org id q t = option_map (user_of org) (user_at (users_in t) id)

module _ (org : ℕ) (id : List ℕ) (q : OrgPlan) (m : Tables) (t : Tenant) (u : User) (s : StandsIn org q m (Some t)) (there : user_at t.users id ≡ Some u) where
  found : (r : Result (Option UserRow) StoreFail) (row : Option UserRow) → FindsIn org (row_of_user org id) m r → r ≡ Ok row → row ≡ Some (user_of org u)
  found r row h was = subst (FindsIn org (row_of_user org id) m) was h q (Some t) s ∙ ap (option_map (user_of org)) there

  pub caller_told : (r : Result (Option UserRow) StoreFail) (row : UserRow) (v : Json) → FindsIn org (row_of_user org id) m r → r ≡ Ok (Some row) → v ≡ told_caller org row → ◌≡◌ {A = Telling} (Ok (caller_json org u)) (Ok v)
  caller_told r row v h was is =
      let same : ◌≡◌ {A = Option UserRow} (Some row) (Some (user_of org u)) = found r (Some row) h was in
      let row_is : row ≡ user_of org u = cc in
      ap Ok (sym (is ∙ ap (told_caller org) row_is))

  pub caller_there : (r : Result (Option UserRow) StoreFail) → FindsIn org (row_of_user org id) m r → r ≡ Ok None → ⊥
  caller_there r h was =
      let same : ◌≡◌ {A = Option UserRow} None (Some (user_of org u)) = found r None h was in
      cc

pub limits_told : (org : ℕ) (q : OrgPlan) (m : Tables) (t : Tenant) (r : Result OrgRow StoreFail) (row : OrgRow) (v : Json) → StandsIn org q m (Some t) → FindsThere org (own_row org) m r → r ≡ Ok row → v ≡ told_limits row
    → ◌≡◌ {A = Telling} (Ok (limits_json t)) (Ok v)
limits_told org q m t r row v s h was is =
    let same : ◌≡◌ {A = Option OrgRow} (Some row) (Some (org_of org t)) = subst (FindsThere org (own_row org) m) was h q (Some t) s in
    let row_is : row ≡ org_of org t = cc in
    ap Ok (sym (is ∙ ap told_limits row_is))
