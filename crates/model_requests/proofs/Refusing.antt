-- A verdict that refuses leaves the organisation as it was.
use Rattle.std.proofs.Common.{◌≡◌, ℕ, not, List, [], ◌∷◌, Option, Some, None, Ok, Err, refl}
use Rattle.std.specs.Prelude.{codes}
use Rattle.std.specs.List.{list_any}
use Rattle.std.specs.Option.{option_and_then}
use Rattle.base_value.specs.Id.{id_in}
use Rattle.base_value.specs.declared.sharing.Level.{Level}
use Rattle.base_value.specs.declared.sharing.Level.TheVariants.{Edit, Full}
use Rattle.base_value.specs.declared.value.FieldType.{FieldType}
use Rattle.base_value.specs.declared.value.Value.{Value}
use Rattle.model.specs.declared.metadata_bodies.SpelledType.{SpelledType}
use Rattle.model.specs.declared.metadata_bodies.SpelledType.TheVariants.{Plain, LookupTo}
use Rattle.model.specs.declared.people_bodies.Spelled.{Spelled}
use Rattle.model.specs.declared.record.Record.{Record}
use Rattle.model.specs.declared.refusal.Refusal.{Refusal}
use Rattle.model.specs.declared.refusal.Refusal.TheVariants.{InvalidField, InvalidType, MalformedId, NotFound, RetypeUnsupported}
use Rattle.model.specs.Asking.{query_rules}
use Rattle.model.specs.Cases.{in_case}
use Rattle.model.specs.Creates.{create_on, create_rules, empty_record}
use Rattle.model.specs.Deletes.{cascade, delete_record, restricted_by, too_many}
use Rattle.model.specs.Edits.{with_given}
use Rattle.model.specs.Fields.{Column, column, column_named, is_detail, of_type, same_name, value_site}
use Rattle.model.specs.Given.{ReadOr, record_by_value}
use Rattle.model.specs.declared.record_bodies.Assignment.{Assignment}
use Rattle.model.specs.Keys.{Key, with_key}
use Rattle.model.specs.Metadata.{object_rules}
use Rattle.model.specs.NewFields.{field_rules, on_target}
use Rattle.model.specs.Names.{bad_name}
use Rattle.model.specs.Objects.{Numbered, object_named, record_at}
use Rattle.model.specs.Paths.{Asked, if_readable}
use Rattle.model.specs.People.{group_rules, new_group_rules, new_role_rules, new_user_rules, role_rules, user_rules}
use Rattle.model.specs.Principals.{bad_id, principal_of, spelled_id}
use Rattle.model_requests.specs.Removals.{remove_group_rules, remove_role_rules}
use Rattle.model_requests.specs.Requests.{Request, verdict_on, asks, creates, updates, deletes, upserts, shares, unshares, adds_object, sets_object, adds_field, adds_validation_rule, adds_sharing_rule, removes_sharing_rule, removes_validation_rule, adds_user, sets_user, adds_role, sets_role, removes_role, adds_group, sets_group, removes_group, sets_organisation, begins_retype, gets_retype, cancels_retype}
use Rattle.model.specs.Retyping.{begin_on, in_use, new_type, place_to_change, under_way}
use Rattle.model.specs.Rights.{denied, on_named, record_of_object}
use Rattle.model.specs.Rules.{Rule, first_refusal, in_body_order, refuse_if}
use Rattle.model.specs.RuleFormulas.{is_copy}
use Rattle.model.specs.Shares.{share, share_of, share_rules, unshare, unshare_rules}
use Rattle.model.specs.declared.sharing_bodies.NewShare.{NewShare}
use Rattle.model.specs.SharingRules.{new_sharing_rule_rules}
use Rattle.model.specs.SoundPeople.{is_name}
use Rattle.model.specs.Tenant.{Field, Share, Tenant}
use Rattle.model.specs.Updates.{update_on, update_rules}
use Rattle.model.specs.Upserts.{declared_name, key_value, on_value, unique_named, upsert_by}
use Rattle.model.specs.ValidationRules.{new_validation_rule_rules}
use Rattle.model.specs.Verdict.{Done, Verdict, accept, judged, on_object, refuse, unless}

-- if it refuses, the organisation stays this one
record Keeps (t : Tenant) (v : Verdict) : Type 0 where
  pub refused : (r : Refusal) → v.answer ≡ Err r → v.tenant ≡ t

by_refusing : {t : Tenant} {r : Refusal} → Keeps t (refuse t r)
by_refusing = record { refused = λ r e. refl }

by_accepting : {t u : Tenant} {d : Done} → Keeps t (accept d u)
by_accepting = record { refused = λ r e. absurd cc }

by_rule : {t : Tenant} (rule : Rule) (v : Verdict) → Keeps t v → Keeps t (unless rule t v)
by_rule None v h = h
by_rule (Some r) v h = by_refusing

by_case : {t : Tenant} {X : Type 0} (o : Option X) (r : Refusal) (f : X → Verdict) → ((x : X) → Keeps t (f x)) → Keeps t (in_case o (refuse t r) f)
by_case None r f each = by_refusing
by_case (Some x) r f each = each x

-- in either case
by_either : {t : Tenant} {X : Type 0} (o : Option X) (v : Verdict) (f : X → Verdict) → Keeps t v → ((x : X) → Keeps t (f x)) → Keeps t (in_case o v f)
by_either None v f none each = none
by_either (Some x) v f none each = each x

by_read : {t : Tenant} (r : ReadOr) (f : Value → Verdict) → ((v : Value) → Keeps t (f v)) → Keeps t (on_value t r f)
by_read (Ok v) f each = each v
by_read (Err why) f each = by_refusing

by_target : {t : Tenant} (kind : SpelledType) (f : Option ℕ → Verdict) → ((target : Option ℕ) → Keeps t (f target)) → Keeps t (on_target t kind f)
by_target (Plain kind) f each = each None
by_target {t} (LookupTo object on_delete child) f each = by_case (object_named t object) (InvalidType object) (λ o. f (Some o.number)) (λ o. each (Some o.number))

by_name : (a : Asked) (o : Numbered) (text : List ℕ) (least : Level) (f : Record → Verdict) → ((r : Record) → Keeps a.tenant (f r)) → Keeps a.tenant (on_named a o text least f)
by_name a o text least f each =
    by_case (id_in text) (MalformedId text) _ (λ id.
    by_case (option_and_then (if_readable a) (record_of_object a.tenant o.number id)) NotFound _ (λ r. by_rule _ (f r) (each r)))

by_rules : {t : Tenant} (rules : List Rule) (v : Verdict) → Keeps t v → Keeps t (judged t rules v)
by_rules rules v h = by_rule (first_refusal rules) v h

by_object : {t : Tenant} (name : List ℕ) (f : Numbered → Verdict) → ((o : Numbered) → Keeps t (f o)) → Keeps t (on_object t name f)
by_object {t} name f each = by_case (object_named t name) (InvalidType name) f each

-- ---- records

create_keeps : (a : Asked) (o : Numbered) (key : Option Key) (given : List Assignment) → Keeps a.tenant (create_on a o key given)
create_keeps a o key given =
    let new = with_given a o.object (with_key key given) (empty_record a o) in
    by_rules (create_rules a o key given new) _ by_accepting

update_keeps : (a : Asked) (o : Numbered) (key : Option Key) (given : List Assignment) (old : Record) → Keeps a.tenant (update_on a o key given old)
update_keeps a o key given old =
    let new = with_given a o.object (with_key key given) old in
    by_rules (update_rules a o key given old new) _ by_accepting

delete_keeps : (a : Asked) (r : Record) → Keeps a.tenant (delete_record a r)
delete_keeps a r =
    let gone = cascade a.tenant r in
    by_rules (restricted_by a.tenant gone ∷ too_many a.tenant gone ∷ []) _ by_accepting

upsert_keeps : (a : Asked) (o : Numbered) (given : List Assignment) (f : ℕ × Field) (v : Value) → Keeps a.tenant (upsert_by a o given f v)
upsert_keeps a o given f v =
    let key : Option Key = Some (record { column = column f.1.name (of_type f.1.kind) (value_site f.0); value = v }) in
    by_either (record_by_value a.tenant o.number f.0 v) (create_on a o key given) _ (create_keeps a o key given)
    (λ r. by_rules (denied a Edit r ∷ []) (update_on a o key given r) (update_keeps a o key given r))

-- ---- shares

share_keeps : (a : Asked) (b : NewShare) → Keeps a.tenant (share a b)
share_keeps a b =
    by_rules (in_body_order b.members ((codes "record", bad_id b.item) ∷ (codes "to", bad_id b.to.text) ∷ []) ∷ []) _
    (by_case (option_and_then (if_readable a) (record_at a.tenant (spelled_id b.item))) NotFound _ (λ r.
    by_rules (share_rules a (share_of b) r) _ by_accepting))

unshare_keeps : (a : Asked) (item part : List ℕ) (to : Option Spelled) → Keeps a.tenant (unshare a item part to)
unshare_keeps a item part to =
    by_rules (bad_id item ∷ []) _ (by_case to (MalformedId part) _ (λ p.
    by_rules (bad_id p.text ∷ []) _
    (let s : Share = record { item = spelled_id item; to = principal_of p; level = Full } in
    by_case (option_and_then (if_readable a) (record_at a.tenant s.item)) NotFound _ (λ r. by_rules (unshare_rules a s r) _ by_accepting))))

-- ---- the change of a type

begin_keeps : (t : Tenant) (o : Numbered) (to : FieldType) (c : Column) → Keeps t (begin_on t o to c.name c.at)
begin_keeps t o to c =
    by_rules (under_way t ∷ []) _ (by_case (place_to_change o.object to c.at) (RetypeUnsupported c.name) _ (λ place.
    by_rules (in_use t o place c.name ∷ []) _ by_accepting))

-- ---- any request

judges : (a : Asked) (x : Request) → Keeps a.tenant (verdict_on a x)
judges a (asks q) = by_object q.tail.from _ (λ o. by_rules (query_rules a.tenant o.number q) _ by_accepting)
judges a (creates object given) = by_object object _ (λ o. create_keeps a o None given)
judges a (updates object key given) = by_object object _ (λ o. by_name a o key Edit (update_on a o None given) (update_keeps a o None given))
judges a (deletes object key) = by_object object _ (λ o. by_name a o key Full (delete_record a) (delete_keeps a))
judges a (upserts object key text given) =
    by_object object _ (λ o. by_case (unique_named o.object key) (InvalidField (declared_name o.object key)) _ (λ f.
    by_read (key_value f.1 text) (upsert_by a o given f) (upsert_keeps a o given f)))
judges a (shares b) = share_keeps a b
judges a (unshares item part to) = unshare_keeps a item part to
judges a (adds_object b) = by_rules (object_rules a.tenant b) _ by_accepting
judges a (sets_object object change) = by_object object _ (λ o. by_rules (refuse_if (is_detail o.object) (InvalidType o.object.name) ∷ []) _ by_accepting)
judges a (adds_field b) =
    by_object b.object _ (λ o. by_target b.kind _ (λ target. by_rules (field_rules a.tenant o target b) _ by_accepting))
judges a (adds_validation_rule b) = by_object b.object _ (λ o. by_rules (new_validation_rule_rules a.tenant o b) _ by_accepting)
judges a (removes_validation_rule object name) =
    by_object object _ (λ o. by_rules (refuse_if (not (list_any (λ r. same_name r.name name) o.object.validation_rules)) NotFound ∷ []) _ by_accepting)
judges a (adds_sharing_rule b) = by_object b.object _ (λ o. by_rules (new_sharing_rule_rules a.tenant o b) _ by_accepting)
judges a (removes_sharing_rule name) = by_rules (refuse_if (not (list_any (λ r. same_name r.name name) a.tenant.sharing_rules)) NotFound ∷ []) _ by_accepting
judges a (adds_user b) = by_rules (new_user_rules a.tenant b) _ by_accepting
judges a (sets_user id change) = by_rules (user_rules a.tenant id change) _ by_accepting
judges a (adds_role name parent) = by_rules (new_role_rules a.tenant name parent) _ by_accepting
judges a (sets_role id change) = by_rules (role_rules a.tenant id change) _ by_accepting
judges a (removes_role id) = by_rules (remove_role_rules a.tenant id) _ by_accepting
judges a (adds_group name) = by_rules (new_group_rules a.tenant name) _ by_accepting
judges a (sets_group id change) = by_rules (group_rules a.tenant id change) _ by_accepting
judges a (removes_group id) = by_rules (remove_group_rules a.tenant id) _ by_accepting
judges a (sets_organisation name) = by_rules (bad_name is_name name ∷ []) _ by_accepting
judges a (begins_retype object field to) =
    by_object object _ (λ o. by_case (column_named o.object field) (InvalidField field) _ (λ c. begin_keeps a.tenant o (new_type to) c))
judges a gets_retype = by_case a.tenant.job NotFound _ (λ j. by_accepting)
judges a cancels_retype = by_case a.tenant.job NotFound _ (λ j. by_rules (refuse_if (not (is_copy j.phase)) NotFound ∷ []) _ by_accepting)

pub refused : (a : Asked) (x : Request) (r : Refusal) → (verdict_on a x).answer ≡ Err r → (verdict_on a x).tenant ≡ a.tenant
refused a x r e = (judges a x).refused r e
