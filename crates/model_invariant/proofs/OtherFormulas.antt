-- Requests on people, shares and records leave objects, rules and the job as they are, and so the formulas sound.
use Rattle.std.proofs.Common.{ℕ, true, false, List, [], ◌∷◌, map, Option, Some, None, codes}
use Rattle.std.specs.Option.{option_map}
use Rattle.base_value.specs.declared.sharing.Level.TheVariants as level
use Rattle.model.specs.declared.record.Record.{Record}
use Rattle.model.specs.declared.refusal.Refusal.TheVariants as refusal
use Rattle.model.specs.Cases.{in_case}
use Rattle.model.specs.Creates.{create, create_on, create_rules, empty_record, with_record}
use Rattle.model.specs.Deletes.{cascade, delete, delete_record, restricted_by, too_many, without}
use Rattle.model.specs.Edits.{with_given}
use Rattle.model.specs.Fields.{column, of_type, value_site}
use Rattle.model.specs.declared.record_bodies.Assignment.{Assignment}
use Rattle.model.specs.Keys.{Key, with_key}
use Rattle.model.specs.Known.{group_id, role_id}
use Rattle.model.specs.Objects.{Numbered, record_at}
use Rattle.model.specs.Paths.{Asked}
use Rattle.model.specs.declared.people_bodies.GroupChange.{GroupChange}
use Rattle.model.specs.declared.people_bodies.NewUser.{NewUser}
use Rattle.model.specs.declared.people_bodies.RoleChange.{RoleChange}
use Rattle.model.specs.declared.people_bodies.UserChange.{UserChange}
use Rattle.model.specs.Names.{bad_name}
use Rattle.model.specs.SoundPeople.{is_name}
use Rattle.model.specs.People.{add_group, add_role, add_user, changed, changed_group, changed_role, group_rules, new_group_rules, new_role_rules, new_user, new_user_rules, next_id, role_rules, set_group, set_organisation, set_role, set_user, user_rules, users_with, with_group, with_role, with_user}
use Rattle.model.specs.declared.people_bodies.Spelled.{Spelled}
use Rattle.model.specs.Principals.{bad_id, principal_of, spelled_id}
use Rattle.model.specs.Rights.{denied, on_named, on_readable}
use Rattle.model.specs.Rules.{in_body_order}
use Rattle.model.specs.declared.sharing_bodies.NewShare.{NewShare}
use Rattle.model.specs.Shares.{share, share_of, share_rules, unshare, unshare_rules, unshare_with, with_share, without_share}
use Rattle.model.specs.SoundFormulas.{AreFormulasSound}
use Rattle.model.specs.Tenant.{Field, Group, Role, Share, Tenant}
use Rattle.model.specs.Updates.{update, update_on, update_rules, with_changed}
use Rattle.model.specs.Upserts.{declared_name, key_value, on_value, unique_named, upsert, upsert_by}
use Rattle.model.specs.Verdict.{accept, done, judged, made_new, refuse, upserted}
use Rattle.model.specs.World.{group_prefix, role_prefix}
use Rattle.model_invariant.proofs.PeopleSound.{when_judged}
use Rattle.model_invariant.proofs.SharingSound.{when_object, when_readable}
use Rattle.model_invariant.proofs.UpdatesSound.{when_named}
use Rattle.model_invariant.proofs.UpsertsSound.{when_read}
use Rattle.model.specs.Given.{record_by_value}

abbrev P : Tenant → Type 0
P t = AreFormulasSound t

-- ---- people
module _ (t : Tenant) (s : AreFormulasSound t) where
  pub add_user_formulas : (b : NewUser) → AreFormulasSound (add_user t b).tenant
  add_user_formulas b = let u = new_user t b in when_judged P t (new_user_rules t b) (accept (made_new u.id) (with_user u t)) s (λ _. s)

  pub set_user_formulas : (user : List ℕ) (b : UserChange) → AreFormulasSound (set_user t user b).tenant
  set_user_formulas user b = when_judged P t (user_rules t user b) (accept done (record t { users = users_with b user t.users })) s (λ _. s)

  pub add_role_formulas : (name : List ℕ) (parent : Option (List ℕ)) → AreFormulasSound (add_role t name parent).tenant
  add_role_formulas name parent =
      let r : Role = record { id = next_id t role_prefix; name = name; parent = option_map spelled_id parent } in
      when_judged P t (new_role_rules t name parent) (accept (made_new r.id) (with_role r t)) s (λ _. s)

  pub set_role_formulas : (role : List ℕ) (b : RoleChange) → AreFormulasSound (set_role t role b).tenant
  set_role_formulas role b =
      when_judged P t (role_rules t role b) (accept done (record t { roles = changed role_id (changed_role b) (spelled_id role) t.roles })) s (λ _. s)

  pub add_group_formulas : (name : List ℕ) → AreFormulasSound (add_group t name).tenant
  add_group_formulas name =
      let x : Group = record { id = next_id t group_prefix; name = name; members = [] } in
      when_judged P t (new_group_rules t name) (accept (made_new x.id) (with_group x t)) s (λ _. s)

  pub set_group_formulas : (group : List ℕ) (b : GroupChange) → AreFormulasSound (set_group t group b).tenant
  set_group_formulas group b =
      when_judged P t (group_rules t group b) (accept done (record t { groups = changed group_id (changed_group b) (spelled_id group) t.groups })) s (λ _. s)

  pub set_organisation_formulas : (name : List ℕ) → AreFormulasSound (set_organisation t name).tenant
  set_organisation_formulas name = when_judged P t (bad_name is_name name ∷ []) (accept done (record t { name = name })) s (λ _. s)

-- ---- shares and records
module _ (a : Asked) (s : AreFormulasSound a.tenant) where
  pub share_formulas : (b : NewShare) → AreFormulasSound (share a b).tenant
  share_formulas b =
      let t = a.tenant in
      let x = share_of b in
      when_judged P t (in_body_order b.members ((codes "record", bad_id b.item) ∷ (codes "to", bad_id b.to.text) ∷ []) ∷ [])
      (on_readable a (record_at t (spelled_id b.item)) (λ r. judged t (share_rules a x r) (accept done (record t { shares = with_share x t.shares })))) s (λ _.
      when_readable P a (record_at t (spelled_id b.item)) (λ r. judged t (share_rules a x r) (accept done (record t { shares = with_share x t.shares }))) s (λ r found.
      when_judged P t (share_rules a x r) (accept done (record t { shares = with_share x t.shares })) s (λ _. s)))

  pub unshare_formulas : (item part : List ℕ) (to : Option Spelled) → AreFormulasSound (unshare a item part to).tenant
  unshare_formulas item part to =
      when_judged P a.tenant (bad_id item ∷ []) (in_case to (refuse a.tenant (refusal.MalformedId part)) (λ p. judged a.tenant (bad_id p.text ∷ []) (unshare_with a item p))) s (λ _. by to)
    where
      by : (to : Option Spelled) → AreFormulasSound (in_case to (refuse a.tenant (refusal.MalformedId part)) (λ p. judged a.tenant (bad_id p.text ∷ []) (unshare_with a item p))).tenant
      by None = s
      by (Some p) =
          let x : Share = record { item = spelled_id item; to = principal_of p; level = level.Full } in
          when_judged P a.tenant (bad_id p.text ∷ []) (unshare_with a item p) s (λ _.
          when_readable P a (record_at a.tenant x.item) (λ r. judged a.tenant (unshare_rules a x r) (accept done (record a.tenant { shares = without_share x a.tenant.shares }))) s (λ r found.
          when_judged P a.tenant (unshare_rules a x r) (accept done (record a.tenant { shares = without_share x a.tenant.shares })) s (λ _. s)))

  create_on_formulas : (o : Numbered) (key : Option Key) (given : List Assignment) → AreFormulasSound (create_on a o key given).tenant
  create_on_formulas o key given =
      let new = with_given a o.object (with_key key given) (empty_record a o) in
      when_judged P a.tenant (create_rules a o key given new) (accept (in_case key (made_new new.id) (λ k. upserted new.id true)) (with_record new a.tenant)) s (λ _. s)

  update_on_formulas : (o : Numbered) (key : Option Key) (given : List Assignment) (old : Record) → AreFormulasSound (update_on a o key given old).tenant
  update_on_formulas o key given old =
      let new = with_given a o.object (with_key key given) old in
      when_judged P a.tenant (update_rules a o key given old new) (accept (in_case key done (λ k. upserted old.id false)) (with_changed old new a.tenant)) s (λ _. s)

  pub create_formulas : (object : List ℕ) (given : List Assignment) → AreFormulasSound (create a object given).tenant
  create_formulas object given = when_object P a.tenant object (λ o. create_on a o None given) s (λ o at. create_on_formulas o None given)

  pub update_formulas : (object key : List ℕ) (given : List Assignment) → AreFormulasSound (update a object key given).tenant
  update_formulas object key given =
      when_object P a.tenant object (λ o. on_named a o key level.Edit (update_on a o None given)) s (λ o at.
      when_named P a o key level.Edit (update_on a o None given) s (λ r among of. update_on_formulas o None given r))

  pub upsert_formulas : (object key : List ℕ) (text : Option (List ℕ)) (given : List Assignment) → AreFormulasSound (upsert a object key text given).tenant
  upsert_formulas object key text given =
      when_object P a.tenant object
      (λ o. in_case (unique_named o.object key) (refuse a.tenant (refusal.InvalidField (declared_name o.object key))) (λ f. on_value a.tenant (key_value f.1 text) (upsert_by a o given f))) s
      (λ o at. by o (unique_named o.object key))
    where
      by_record : (o : Numbered) (k : Key) (r : Option Record) → AreFormulasSound (in_case r (create_on a o (Some k) given) (λ r. judged a.tenant (denied a level.Edit r ∷ []) (update_on a o (Some k) given r))).tenant
      by_record o k None = create_on_formulas o (Some k) given
      by_record o k (Some r) = when_judged P a.tenant (denied a level.Edit r ∷ []) (update_on a o (Some k) given r) s (λ _. update_on_formulas o (Some k) given r)

      by : (o : Numbered) (f : Option (ℕ × Field))
          → AreFormulasSound (in_case f (refuse a.tenant (refusal.InvalidField (declared_name o.object key))) (λ f. on_value a.tenant (key_value f.1 text) (upsert_by a o given f))).tenant
      by o None = s
      by o (Some f) =
          when_read P a.tenant (key_value f.1 text) (upsert_by a o given f) s (λ v w.
          by_record o (record { column = column f.1.name (of_type f.1.kind) (value_site f.0); value = v }) (record_by_value a.tenant o.number f.0 v))

  pub delete_formulas : (object key : List ℕ) → AreFormulasSound (delete a object key).tenant
  delete_formulas object key =
      when_object P a.tenant object (λ o. on_named a o key level.Full (delete_record a)) s (λ o at.
      when_named P a o key level.Full (delete_record a) s (λ r among of.
      let gone = cascade a.tenant r in
      when_judged P a.tenant (restricted_by a.tenant gone ∷ too_many a.tenant gone ∷ []) (accept done (without a.now gone a.tenant)) s (λ _. s)))
