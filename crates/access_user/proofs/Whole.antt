-- The level by what is known of an object, by the owner and then by the shares of a record is that of the user.
use Rattle.std.proofs.Common.{◌≡◌, ◌∙◌, ℕ, Bool, true, false, ◌&&◌, ◌||◌, cond, List, [], ◌∷◌, map, bytes_eq, Option, Some, None, refl, sym, ap, ap₂, subst}
use Rattle.std.specs.Prelude.{IfSome}
use Rattle.std.specs.Option.{option_and_then}
use Rattle.std.proofs.lemmas.List.{map-append as map_both}
use Rattle.access_closure.specs.declared.people.People.{People}
use Rattle.store_rows.specs.declared.share.ShareRow.{ShareRow}
use Rattle.base_value.specs.declared.sharing.Level.{Level}
use Rattle.base_value.specs.declared.sharing.Level.TheVariants.{Nothing, Read, Full}
use Rattle.model.specs.declared.record.Record.{Record}
use Rattle.model.specs.Cases.{in_case}
use Rattle.model.specs.Levels.{Grant, at_least, by_access, by_grant, by_owner, grants, greatest, has_hierarchy, own_level, owns}
use Rattle.model.specs.Membership.{is_above}
use Rattle.model.specs.Objects.{object_number, object_of_record}
use Rattle.model.specs.Shares.{shares_of}
use Rattle.model.specs.Tenant.{Object, Share, Tenant, User}
use Rattle.model.specs.World.{user_at}
use Rattle.store_abstraction.specs.Metadata.{row_of_share}
use Rattle.access_user.specs.declared.level.knowing.Criterion.{Criterion}
use Rattle.access_user.specs.declared.level.knowing.OwnLevels.{OwnLevels}
use Rattle.access_user.specs.declared.level.knowing.OwnerRule.{OwnerRule}
use Rattle.access_user.specs.level.Own.{IsOwnLevels, MembersFor, greater, level_apart, rule_grants, up_to}
use Rattle.access_user.specs.level.inner.Parts.{by_criterion, by_share, rules_on_owner}
use Rattle.access_user.proofs.Covered.{rules_are}
use Rattle.access_user.proofs.Greatest.{full_left, greatest_both, in_turn, none_left, read_left, read_right, settled_left}

abbrev of_share : Share → Grant
of_share s = record { to = s.to; level = s.level }

module _ (t : Tenant) (u : User) where
  shares_are : (h : Bool) (its : ℕ) (shares : List Share) → greatest (map (by_grant h t u) (map of_share shares)) ≡ greatest (map (by_share h t u) (map (row_of_share its) shares))
  shares_are h its [] = refl
  shares_are h its (s ∷ shares) = ap (greater (by_grant h t u (of_share s))) (shares_are h its shares)

  module _ (r : Record) where
    -- whether the role hierarchy counts
    abbrev h : Bool
    h = has_hierarchy t r

    -- by sharing rules, and by manual shares
    abbrev by_rules : Level
    by_rules = greatest (map (by_grant h t u) (rule_grants t r))

    abbrev by_all_shares : Level
    by_all_shares = greatest (map (by_grant h t u) (map of_share (shares_of r.id t.shares)))

    abbrev of_object : Level
    of_object = in_case (object_of_record t r) Nothing (λ o. by_access o.access)

    apart_is : level_apart t u r ≡ greater (by_owner t u r) (greater of_object by_rules)
    unfolding level_apart
    apart_is = refl

    whole_is : own_level t u r ≡ greater (by_owner t u r) (greater of_object (greatest (map (by_grant h t u) (grants t r))))
    unfolding own_level
    whole_is = refl

    grants_are : greatest (map (by_grant h t u) (grants t r)) ≡ greater by_rules by_all_shares
    unfolding grants
    grants_are =
        ap greatest (map_both (by_grant h t u) (rule_grants t r) (map of_share (shares_of r.id t.shares)))
        ∙ greatest_both (map (by_grant h t u) (rule_grants t r)) (map (by_grant h t u) (map of_share (shares_of r.id t.shares)))

    -- shares add to the level without them
    own_is : own_level t u r ≡ greater (level_apart t u r) by_all_shares
    own_is =
        whole_is
        ∙ ap (λ (x : Level). greater (by_owner t u r) (greater of_object x)) grants_are
        ∙ ap (greater (by_owner t u r)) (sym (in_turn of_object by_rules by_all_shares))
        ∙ sym (in_turn (by_owner t u r) (greater of_object by_rules) by_all_shares)
        ∙ ap (λ (x : Level). greater x by_all_shares) (sym apart_is)

    pub with_is : (its : ℕ) (apart : Level) (shares : List ShareRow) → apart ≡ level_apart t u r → shares ≡ map (row_of_share its) (shares_of r.id t.shares)
        → greater apart (greatest (map (by_share h t u) shares)) ≡ own_level t u r
    with_is its apart shares is e =
        ap₂ greater is (ap (λ (rows : List ShareRow). greatest (map (by_share h t u) rows)) e ∙ sym (shares_are h its (shares_of r.id t.shares)))
        ∙ sym own_is

    pub settled_is : (asked apart : Level) → at_least asked apart ≡ true → apart ≡ level_apart t u r → up_to asked apart ≡ up_to asked (own_level t u r)
    settled_is asked apart e is = settled_left asked apart by_all_shares e ∙ ap (λ (x : Level). up_to asked (greater x by_all_shares)) is ∙ ap (up_to asked) (sym own_is)

    -- by the id of the owner
    pub by_owner_id : (owner : Option (List ℕ)) → r.owner ≡ owner → owns t u r ≡ in_case (option_and_then (user_at t.users) owner) false (λ x. bytes_eq x.id u.id || (h && is_above t u x))
    by_owner_id owner e = ap (λ (i : Option (List ℕ)). in_case (option_and_then (user_at t.users) i) false (λ x. bytes_eq x.id u.id || (h && is_above t u x))) e

    owner_has : owns t u r ≡ true → by_owner t u r ≡ Full
    owner_has e = ap (λ (b : Bool). cond b Full Nothing) (ap (λ (b : Bool). u.admin || b) e ∙ either u.admin)
      where
        either : (b : Bool) → (b || true) ≡ true
        either true = refl
        either false = refl

    -- on what the user owns
    pub owned_is : owns t u r ≡ true → own_level t u r ≡ Full
    owned_is e =
        let all = greatest (map (by_grant h t u) (grants t r)) in
        whole_is ∙ ap (λ (x : Level). greater x (greater of_object all)) (owner_has e) ∙ full_left (greater of_object all)

    pub full_is : owns t u r ≡ true → Full ≡ level_apart t u r
    full_is e = sym (apart_is ∙ ap (λ (x : Level). greater x (greater of_object by_rules)) (owner_has e) ∙ full_left (greater of_object by_rules))

    module _ (o : Object) (at : object_of_record t r ≡ Some o) where
      object_gives : of_object ≡ by_access o.access
      object_gives = ap (λ (x : Option Object). in_case x Nothing (λ o. by_access o.access)) at

      hierarchy_is : h ≡ o.hierarchy
      hierarchy_is = ap (λ (x : Option Object). in_case x false (λ o. o.hierarchy)) at

      -- whom the user is a member of is known as the record's object says
      pub members_are : (people : People) (own : OwnLevels) → IsOwnLevels people t u (object_number r.id) o own → MembersFor h people u.id own.members
      members_are people own is = subst (λ (b : Bool). MembersFor b people u.id own.members) (sym hierarchy_is) is.members

      -- on what the user doesn't own
      pub level_is : (people : People) (own : OwnLevels) → u.admin ≡ false → owns t u r ≡ false → IsOwnLevels people t u (object_number r.id) o own
          → greater own.base (greater (rules_on_owner t r own.owners) (greatest (map (by_criterion r.values) own.criteria))) ≡ level_apart t u r
      level_is people own plain not_own is =
          ap₂ greater (is.base ∙ sym object_gives)
          (sym (ap (λ (b : Bool). greatest (map (by_grant b t u) (rule_grants t r))) hierarchy_is ∙ rules_are o.hierarchy t u r o at t.sharing_rules ∙ ap₂ (λ (os : List OwnerRule) (cs : List Criterion). greater (rules_on_owner t r os) (greatest (map (by_criterion r.values) cs))) (sym is.owners) (sym is.criteria)))
          ∙ sym (apart_is ∙ ap₂ (λ (a b : Bool). greater (cond (a || b) Full Nothing) (greater of_object by_rules)) plain not_own ∙ none_left (greater of_object by_rules))

      pub readable_is : (base : Level) → base ≡ by_access o.access → at_least Read base ≡ true → at_least Read (own_level t u r) ≡ true
      readable_is base is e =
          let all = greatest (map (by_grant h t u) (grants t r)) in
          ap (at_least Read) whole_is
          ∙ read_right (by_owner t u r) (greater of_object all) (read_left of_object all (ap (at_least Read) (object_gives ∙ sym is) ∙ e))

-- ---- what is known where there is an owner

pub where_owned : {X P : Type 0} (o : Option X) → P → IfSome o (λ _. P)
where_owned None p = tt
where_owned (Some x) p = p

pub of_owned : {X P : Type 0} (o : Option X) (x : X) → o ≡ Some x → IfSome o (λ _. P) → P
of_owned None x e h = absurd cc
of_owned (Some y) x e h = h
