-- New users, roles and groups: each takes the organisation's rows to those that its verdict leaves.
use Rattle.std.proofs.Common.{◌≡◌, ◌∙◌, ◌<◌, ◌^◌, ℕ, ◌+◌, Bool, zero, suc, true, false, lit<, List, [], ◌∷◌, Some, None, Option, refl, sym, ap, ap₂, subst, arith, IsTrue, length, length-append}
use Rattle.std.specs.Prelude.{encode_utf8_all}
use Rattle.std.specs.List.{list_all}
use Rattle.std.specs.Option.{option_map}
use Rattle.std.specs.Str.{IsAscii}
use Rattle.std.proofs.lemmas.Bool.Decides.{nat_tests}
use Rattle.std.proofs.lemmas.List.Elements.{All-from_recursion}
use Rattle.std.proofs.lemmas.Str.{IsUtf8-from_ascii, chars-IsAscii, encodes-chars}
use Rattle.base_lemmas.proofs.Bools.{and_first as and_left, and_second as and_right}
use Rattle.sha2.specs.Sha256.{sha256}
use Rattle.store_edit.specs.Edits.{Takes}
use Rattle.store_edit.specs.Rows.{change_to}
use Rattle.store_rows.specs.declared.group.GroupRow.{GroupRow}
use Rattle.store_rows.specs.declared.role.RoleRow.{RoleRow}
use Rattle.store_rows.specs.declared.user.UserRow.{UserRow}
use Rattle.store_rows.specs.Forms.{FitsForm, row_bytes}
use Rattle.store_rows.specs.Keys as key
use Rattle.store_rows.specs.Keys.{Key}
use Rattle.store_rows.specs.Rows.{group_form, org_form, role_form, user_form}
use Rattle.model.specs.declared.people_bodies.NewUser.{NewUser}
use Rattle.model.specs.declared.limit.Limit.TheVariants as limit
use Rattle.model.specs.Membership.{Has}
use Rattle.model.specs.Names.{bad_name}
use Rattle.model.specs.Organisations.{is_secret}
use Rattle.model.specs.People.{add_group, add_role, add_user, new_group_rules, new_role_rules, new_user, new_user_rules, next_id, no_room, with_group, with_role, with_user}
use Rattle.model.specs.Principals.{group_at, role_at, spelled_id}
use Rattle.model.specs.Rules.{Rule, first_refusal}
use Rattle.model.specs.Sound.{IsSound, is_name}
use Rattle.model.specs.Tenant.{Group, Role, Tenant, User}
use Rattle.model.specs.Verdict.{Verdict, accept, made_new}
use Rattle.model.specs.World.{group_prefix, role_prefix, user_at, user_prefix}
use Rattle.store_codec.specs.Composed.{FitsItems, FitsPrincipal}
use Rattle.store_codec.specs.Plain.{FitsText}
use Rattle.people_rows.specs.Roster.{is_group_key, is_role_key, is_user_key}
use Rattle.store_abstraction.specs.Metadata.{group_of, org_of, role_of, user_of}
use Rattle.store_abstraction.specs.Plan.{FitsPlan, OrgPlan}
use Rattle.store_abstraction.specs.Records.{is_org_key}
use Rattle.store_abstraction.specs.Stands.{row_in}
use Rattle.base_value.specs.declared.sharing.Principal.{Principal}
use Rattle.base_value.specs.Id.{is_digit62}
use Rattle.people_edit.specs.declared.edits.drawing.Drawn.{Drawn}
use Rattle.people_edit.specs.declared.edits.kind.Kind.TheVariants as kind
use Rattle.people_edit.specs.inner.Drawing.{FitsDrawn, IsDrawn, new_rules}
use Rattle.people_edit.proofs.Joining.{NamesAreShort, NamesAreTexts, OrgLaws, SamePlan, has_last, name_fits, new_takes}
use Rattle.store_edit.proofs.StepByStep.{accepted}
use Rattle.people_edit.proofs.Putting.{other_group, other_role, other_user}

-- ---- roles

-- what `people_rows` and `model_invariant` say of a new role
pub record RoleLaws : Type 0 where
  pub org : OrgLaws
  pub rows : (p : OrgPlan) (t : Tenant) (r : Role) (k : Key) → is_org_key k ≡ false → is_role_key r.id k ≡ false → row_in p (with_role r t) k ≡ row_in p t k
  pub own : (p : OrgPlan) (t : Tenant) (org : ℕ) (r : Role) → role_at t r.id ≡ None → row_in p (with_role r t) (key.Role org r.id) ≡ Some (row_bytes role_form (role_of org r))
  pub none : (t : Tenant) → IsSound t → role_at t (next_id t role_prefix) ≡ None
  pub fits : (org : ℕ) (t : Tenant) (r : Role) → org < 2 ^ 32 → IsSound t → Has t.roles r → FitsForm role_form (role_of org r)
  pub sound : (t : Tenant) (name : List ℕ) (parent : Option (List ℕ)) → IsSound t → IsSound (add_role t name parent).tenant

role_row_is : (org : ℕ) (i j n m : List ℕ) (p o : Option (List ℕ)) → i ≡ j → n ≡ m → p ≡ o
    → ◌≡◌ {A = RoleRow} (record { org = org; id = i; name = n; parent = p }) (record { org = org; id = j; name = m; parent = o })
role_row_is org i j n m p o e f g = ap₂ (λ (x y : List ℕ). record { org = org; id = x; name = y; parent = p }) e f ∙ ap (λ (x : Option (List ℕ)). record { org = org; id = j; name = m; parent = x }) g

pub role_takes : RoleLaws → (org : ℕ) (q : OrgPlan) (t : Tenant) (name : List ℕ) (parent : Option (List ℕ)) (d : Drawn) (copy : List ℕ)
    → org < 2 ^ 32 → FitsPlan q t → IsSound t → first_refusal (new_rules kind.Role (org_of org t) t name parent) ≡ None → IsDrawn kind.Role org t parent d → copy ≡ name
    → Takes org q t (add_role t name parent) (made_new d.id) SamePlan (change_to org_form d.org ∷ change_to role_form (record { org = org; id = d.id; name = copy; parent = d.role }) ∷ [])
role_takes laws org q t name parent d copy small plan sound free is same =
    let r : Role = record { id = next_id t role_prefix; name = name; parent = option_map spelled_id parent } in
    let u = with_role r t in
    let v = add_role t name parent in
    let accepts : v ≡ accept (made_new r.id) u = accepted (first_refusal (new_role_rules t name parent)) t (accept (made_new r.id) u) free in
    let sound_v = laws.sound t name parent sound in
    let sound_u : IsSound u = subst IsSound (ap (λ (v : Verdict). v.tenant) accepts) sound_v in
    new_takes laws.org role_form org q t u v d.id r.id d.org (record { org = org; id = d.id; name = copy; parent = d.role }) (role_of org r) small plan accepts sound_v refl refl
    is.id
    (is.row ∙ ap (λ (n : ℕ). record (org_of org t) { counter = t.counter + 1; roles = n }) (sym (length-append t.roles (r ∷ []))))
    (role_row_is org d.id r.id copy name d.role r.parent is.id same is.role)
    (record {
      fits = laws.fits org u r small sound_u (has_last t.roles r);
      own = refl;
      there = laws.own q t org r (laws.none t sound);
      rest = λ k of other e. laws.rows q t r k other (other_role org r.id k of e);
    })

pub role_row_fits : NamesAreTexts → NamesAreShort → (org : ℕ) (name copy : List ℕ) (d : Drawn) → org < 2 ^ 32 → FitsDrawn name d → copy ≡ name
    → FitsForm role_form (record { org = org; id = d.id; name = copy; parent = d.role })
role_row_fits texts short org name copy d small fits same = ((small, (tt, fits.id)), (subst FitsText (sym same) (name_fits texts short name fits.name), fits.role))

-- ---- users

-- what `people_rows` and `model_invariant` say of a new user
pub record UserLaws : Type 0 where
  pub org : OrgLaws
  pub rows : (p : OrgPlan) (t : Tenant) (u : User) (k : Key) → is_org_key k ≡ false → is_user_key u.id k ≡ false → row_in p (with_user u t) k ≡ row_in p t k
  pub own : (p : OrgPlan) (t : Tenant) (org : ℕ) (u : User) → user_at t.users u.id ≡ None → row_in p (with_user u t) (key.User org u.id) ≡ Some (row_bytes user_form (user_of org u))
  pub none : (t : Tenant) → IsSound t → user_at t.users (next_id t user_prefix) ≡ None
  pub fits : (org : ℕ) (t : Tenant) (u : User) → org < 2 ^ 32 → IsSound t → Has t.users u → FitsForm user_form (user_of org u)
  pub sound : (t : Tenant) (b : NewUser) → IsSound t → IsSound (add_user t b).tenant

user_row_is : (org : ℕ) (i j n m x y : List ℕ) (p o : Option (List ℕ)) (admin : Bool) → i ≡ j → n ≡ m → x ≡ y → p ≡ o
    → ◌≡◌ {A = UserRow} (record { org = org; id = i; name = n; digest = x; role = p; admin = admin; active = true }) (record { org = org; id = j; name = m; digest = y; role = o; admin = admin; active = true })
user_row_is org i j n m x y p o admin e f g h =
    ap₂ (λ (a b : List ℕ). record { org = org; id = a; name = b; digest = x; role = p; admin = admin; active = true }) e f
    ∙ ap₂ (λ (a : List ℕ) (b : Option (List ℕ)). record { org = org; id = j; name = m; digest = a; role = b; admin = admin; active = true }) g h

pub user_takes : UserLaws → (org : ℕ) (q : OrgPlan) (t : Tenant) (b : NewUser) (d : Drawn) (copy digest : List ℕ)
    → org < 2 ^ 32 → FitsPlan q t → IsSound t → first_refusal (new_rules kind.User (org_of org t) t b.name b.role) ≡ None → IsDrawn kind.User org t b.role d → copy ≡ b.name → digest ≡ sha256 b.secret
    → Takes org q t (add_user t b) (made_new d.id) SamePlan (change_to org_form d.org ∷ change_to user_form (record { org = org; id = d.id; name = copy; digest = digest; role = d.role; admin = b.admin; active = true }) ∷ [])
user_takes laws org q t b d copy digest small plan sound free is same hashed =
    let x : User = new_user t b in
    let u = with_user x t in
    let v = add_user t b in
    let accepts : v ≡ accept (made_new x.id) u = accepted (first_refusal (new_user_rules t b)) t (accept (made_new x.id) u) free in
    let sound_v = laws.sound t b sound in
    let sound_u : IsSound u = subst IsSound (ap (λ (v : Verdict). v.tenant) accepts) sound_v in
    new_takes laws.org user_form org q t u v d.id x.id d.org (record { org = org; id = d.id; name = copy; digest = digest; role = d.role; admin = b.admin; active = true }) (user_of org x) small plan accepts sound_v refl refl
    is.id
    (is.row ∙ ap (λ (n : ℕ). record (org_of org t) { counter = t.counter + 1; users = n }) (sym (length-append t.users (x ∷ []))))
    (user_row_is org d.id x.id copy b.name digest x.digest d.role x.role b.admin is.id same hashed is.role)
    (record {
      fits = laws.fits org u x small sound_u (has_last t.users x);
      own = refl;
      there = laws.own q t org x (laws.none t sound);
      rest = λ k of other e. laws.rows q t x k other (other_user org x.id k of e);
    })

pub user_row_fits : NamesAreTexts → NamesAreShort → (org : ℕ) (name copy digest : List ℕ) (admin : Bool) (d : Drawn) → org < 2 ^ 32 → FitsDrawn name d → copy ≡ name → length digest ≡ 32
    → FitsForm user_form (record { org = org; id = d.id; name = copy; digest = digest; role = d.role; admin = admin; active = true })
user_row_fits texts short org name copy digest admin d small fits same size =
    ((small, (tt, fits.id)), (subst FitsText (sym same) (name_fits texts short name fits.name), (size, (fits.role, refl))))

-- the bytes of a secret are its characters
digit_ascii : (c : ℕ) → is_digit62 c ≡ true → c < 128
digit_ascii c h = grind (arith, nat_tests)

digits_ascii : (cs : List ℕ) → list_all is_digit62 cs ≡ true → IsAscii cs
digits_ascii [] h i = lit< tt
digits_ascii (c ∷ cs) h zero = digit_ascii c (and_left (is_digit62 c) (list_all is_digit62 cs) h)
digits_ascii (c ∷ cs) h (suc i) = digits_ascii cs (and_right (is_digit62 c) (list_all is_digit62 cs) h) i

pub secret_bytes : (secret : List ℕ) → IsTrue (is_secret secret) → encode_utf8_all secret ≡ secret
unfolding is_secret
secret_bytes secret h =
    let ascii = digits_ascii secret (and_left (list_all is_digit62 secret) _ h) in
    ap encode_utf8_all (sym (chars-IsAscii secret ascii)) ∙ encodes-chars secret (IsUtf8-from_ascii secret ascii)

-- ---- groups

-- what `people_rows` and `model_invariant` say of a new group
pub record GroupLaws : Type 0 where
  pub org : OrgLaws
  pub rows : (p : OrgPlan) (t : Tenant) (g : Group) (k : Key) → is_org_key k ≡ false → is_group_key g.id k ≡ false → row_in p (with_group g t) k ≡ row_in p t k
  pub own : (p : OrgPlan) (t : Tenant) (org : ℕ) (g : Group) → group_at t g.id ≡ None → row_in p (with_group g t) (key.Group org g.id) ≡ Some (row_bytes group_form (group_of org g))
  pub none : (t : Tenant) → IsSound t → group_at t (next_id t group_prefix) ≡ None
  pub fits : (org : ℕ) (t : Tenant) (g : Group) → org < 2 ^ 32 → IsSound t → Has t.groups g → FitsForm group_form (group_of org g)
  pub sound : (t : Tenant) (name : List ℕ) → IsSound t → IsSound (add_group t name).tenant

-- a group names no role: the rules on one never refuse
pub group_rules_are : (org : ℕ) (t : Tenant) (name : List ℕ) → first_refusal (new_rules kind.Group (org_of org t) t name None) ≡ first_refusal (new_group_rules t name)
group_rules_are org t name = by (bad_name is_name name)
  where
    by : (a : Rule) → first_refusal (a ∷ None ∷ None ∷ no_room t limit.Groups (length t.groups) ∷ []) ≡ first_refusal (a ∷ no_room t limit.Groups (length t.groups) ∷ [])
    by None = refl
    by (Some x) = refl

group_row_is : (org : ℕ) (i j n m : List ℕ) (ps : List Principal) → i ≡ j → n ≡ m → ps ≡ []
    → ◌≡◌ {A = GroupRow} (record { org = org; id = i; name = n; members = ps }) (record { org = org; id = j; name = m; members = [] })
group_row_is org i j n m ps e f g = ap₂ (λ (x y : List ℕ). record { org = org; id = x; name = y; members = ps }) e f ∙ ap (λ (x : List Principal). record { org = org; id = j; name = m; members = x }) g

pub group_takes : GroupLaws → (org : ℕ) (q : OrgPlan) (t : Tenant) (name : List ℕ) (d : Drawn) (copy : List ℕ) (members : List Principal)
    → org < 2 ^ 32 → FitsPlan q t → IsSound t → first_refusal (new_rules kind.Group (org_of org t) t name None) ≡ None → IsDrawn kind.Group org t None d → copy ≡ name → members ≡ []
    → Takes org q t (add_group t name) (made_new d.id) SamePlan (change_to org_form d.org ∷ change_to group_form (record { org = org; id = d.id; name = copy; members = members }) ∷ [])
group_takes laws org q t name d copy members small plan sound free is same none =
    let g : Group = record { id = next_id t group_prefix; name = name; members = [] } in
    let u = with_group g t in
    let v = add_group t name in
    let accepts : v ≡ accept (made_new g.id) u = accepted (first_refusal (new_group_rules t name)) t (accept (made_new g.id) u) (sym (group_rules_are org t name) ∙ free) in
    let sound_v = laws.sound t name sound in
    let sound_u : IsSound u = subst IsSound (ap (λ (v : Verdict). v.tenant) accepts) sound_v in
    new_takes laws.org group_form org q t u v d.id g.id d.org (record { org = org; id = d.id; name = copy; members = members }) (group_of org g) small plan accepts sound_v refl refl
    is.id
    (is.row ∙ ap (λ (n : ℕ). record (org_of org t) { counter = t.counter + 1; groups = n }) (sym (length-append t.groups (g ∷ []))))
    (group_row_is org d.id g.id copy name members is.id same none)
    (record {
      fits = laws.fits org u g small sound_u (has_last t.groups g);
      own = refl;
      there = laws.own q t org g (laws.none t sound);
      rest = λ k of other e. laws.rows q t g k other (other_group org g.id k of e);
    })

pub group_row_fits : NamesAreTexts → NamesAreShort → (org : ℕ) (name copy : List ℕ) (members : List Principal) (d : Drawn) → org < 2 ^ 32 → FitsDrawn name d → copy ≡ name → members ≡ []
    → FitsForm group_form (record { org = org; id = d.id; name = copy; members = members })
group_row_fits texts short org name copy members d small fits same none =
    ((small, (tt, fits.id)), (subst FitsText (sym same) (name_fits texts short name fits.name), subst (FitsItems FitsPrincipal) (sym none) (lit< tt, All-from_recursion FitsPrincipal [] tt)))
