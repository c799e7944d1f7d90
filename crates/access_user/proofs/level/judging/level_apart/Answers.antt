use Rattle.std.proofs.Common.{◌≡◌, ◌∙◌, List, Option, Some, ap, ap₂, map, refl, subst, sym}
use Rattle.std.specs.Prelude.{IfSome}
use Rattle.access_closure.specs.declared.membership.Membership.{Membership}
use Rattle.access_closure.specs.declared.people.People.{People}
use Rattle.access_user.specs.level.Own.{IsOwnLevels, MembersFor, greater}
use Rattle.access_user.specs.level.inner.Parts.{by_criterion, rules_on_owner}
use Rattle.access_user.specs.declared.level.knowing.Criterion.{Criterion}
use Rattle.access_user.specs.declared.level.knowing.OwnLevels.{OwnLevels}
use Rattle.model.specs.Levels.{greatest, has_hierarchy}
use Rattle.model.specs.Objects.{object_number, object_of_record}
use Rattle.model.specs.Tenant.{Object, Tenant, User}
use Rattle.model.specs.declared.record.Record.{Record}
use Rattle.access_user.proofs.Whole.{full_is, level_is, members_are, where_owned}
use Rattle.access_user.proofs.level.judging.level_apart.Goals as goal

-- whom the user is a member of is known as the record's object says
seen : (people : People) (t : Tenant) (u : User) (r : Record) (o : Object) (own : OwnLevels) → object_of_record t r ≡ Some o → IsOwnLevels people t u (object_number r.id) o own
    → (members : Option Membership) → members ≡ own.members → IfSome r.owner (λ _. MembersFor (has_hierarchy t r) people u.id members)
seen people t u r o own at is members same =
    where_owned r.owner (subst (MembersFor (has_hierarchy t r) people u.id) (sym same) (members_are t u r o at people own is))

pub returns-then-owns : goal.returns-then-owns
returns-then-owns c = λ org t u o is has at own.
    let item = c.args.item in
    let members = seen c.args.sharer.now.people t u item o c.args.own.now at own _ c.as_ref.ensures.value in
    full_is t u item (sym (c.owns.ensures.value org t u item is refl members) ∙ c.if-owns.true)

pub returns : goal.returns
returns c = λ org t u o is has at own.
    let item = c.args.item in
    let people = c.args.sharer.now.people in
    let members = seen people t u item o c.args.own.now at own _ c.as_ref.ensures.value in
    let owners = c.in_ok-by_owner.ensures org t u is has ∙ ap (rules_on_owner t item) c.as_slice.ensures in
    let criteria = c.by_each_criterion-by_criteria.ensures ∙ ap (λ (cs : List Criterion). greatest (map (by_criterion item.values) cs)) c.as_slice-2.ensures in
    c.greater-2.ensures
    ∙ ap (greater c.args.own.now.base) (c.greater.ensures ∙ ap₂ greater owners criteria)
    ∙ level_is t u item o at people c.args.own.now is.plain (sym (c.owns.ensures.value org t u item is refl members) ∙ c.if-owns.false) own
