-- The rows of users, roles and groups: those that stay, one's own, and the one that is found; ids that are nobody's yet.
use Rattle.std.proofs.Common.{◌≡◌, ◌∙◌, inl, inr, ℕ, ◌^◌, ◌<◌, ◌≤◌, Bool, true, false, cond, IsTrue, List, [], ◌∷◌, ◌++◌, length, Option, Some, None, refl, sym, ap, subst, arith, bytes_eq}
use Rattle.std.specs.Prelude.{Result, is_some}
use Rattle.std.specs.List.{AllByRecursion, list_all}
use Rattle.std.specs.Option.{option_and_then, option_map}
use Rattle.std.specs.FinMap as map
use Rattle.std.specs.FinMap.{IsAntisymmetric}
use Rattle.std.proofs.lemmas.List.Elements.{All-from_recursion}
use Rattle.std.proofs.lemmas.Slice.Eq.{bytes_eq-Decides}
use Rattle.std.proofs.lemmas.Bool.{true≢false as clash}
use Rattle.base_lemmas.proofs.Bools.{and_first as and_left, and_second as and_right}
use Rattle.base_lemmas.proofs.Options.{option_map-compose as map_twice}
use Rattle.base_lemmas.proofs.Lists.{length-map_by as mapped_length}
use Rattle.std.proofs.lemmas.Option.{same_Some as some_is}
use Rattle.base_value.specs.Id.{is_digit62, is_id, made}
use Rattle.base_value.specs.declared.sharing.Principal.{Principal}
use Rattle.base_value.specs.declared.sharing.Principal.TheVariants as to
use Rattle.store_kv.specs.Tables.{Tables, place_cmp}
use Rattle.store_rows.specs.declared.fail.StoreFail.{StoreFail}
use Rattle.store_rows.specs.declared.group.GroupRow.{GroupRow}
use Rattle.store_rows.specs.declared.role.RoleRow.{RoleRow}
use Rattle.store_rows.specs.Forms.{FitsForm, row_bytes}
use Rattle.store_rows.specs.Keys as key
use Rattle.store_rows.specs.Keys.{Key, spell}
use Rattle.store_rows.specs.Reads.{MayStandAt, ReadsAs}
use Rattle.store_rows.specs.Rows.{group_form, org_form, role_form, user_form}
use Rattle.store_codec.specs.Composed.{FitsPrincipal}
use Rattle.model.specs.Known.{IsDrawn, group_id, known, knows, role_id}
use Rattle.model.specs.Membership.{Has}
use Rattle.model.specs.People.{changed, next_id, with_group, with_role, with_user}
use Rattle.model.specs.Principals.{group_at, role_at}
use Rattle.model.specs.Sound.{IsSound}
use Rattle.model.specs.SoundPeople.{IsSoundGroup, IsSoundRole, IsSoundUser}
use Rattle.model.specs.Tenant as model
use Rattle.model.specs.Tenant.{Tenant}
use Rattle.model.specs.World.{group_prefix, role_prefix, user_at, user_id, user_prefix, having_id}
use Rattle.store_abstraction.specs.Local.{FindsIn}
use Rattle.store_abstraction.specs.Metadata.{group_of, org_of, role_of, user_of}
use Rattle.people_rows.specs.Roster.{group_in, is_group_key, is_role_key, is_user_key, role_in}
use Rattle.store_abstraction.specs.Plan.{FitsPlan, OrgPlan}
use Rattle.store_abstraction.specs.Records.{is_org_key}
use Rattle.store_abstraction.specs.Stands.{kept_at, row_in}
use Rattle.store_abstraction.proofs.Found.{FindsRow, IsRowOf, found_same, found_with_id, row_finds, row_in_org}
use Rattle.store_abstraction.proofs.Names.{MakesIds, NamesAreShort, NamesAreTexts, drawn_is_id, name_fits, role_is_id}
use Rattle.store_abstraction.proofs.Places.{PrefixLaws}

-- ---- one more, and one changed

-- another id isn't that of the last
pub beside_last : {X : Type 0} (id : X → List ℕ) (xs : List X) (x : X) (i : List ℕ) → bytes_eq i (id x) ≡ false → having_id id (xs ++ x ∷ []) i ≡ having_id id xs i
beside_last id [] x i e = ap (λ (b : Bool). cond b (Some x) None) e
beside_last id (y ∷ xs) x i e = ap (cond (bytes_eq i (id y)) (Some y)) (beside_last id xs x i e)

-- another id isn't that of the one that is changed
beside_changed : {X : Type 0} (id : X → List ℕ) (change : X → X) → ((x : X) → id (change x) ≡ id x) → (j : List ℕ) (xs : List X) (i : List ℕ) → bytes_eq i j ≡ false → having_id id (changed id change j xs) i ≡ having_id id xs i
beside_changed id change same j [] i e = refl
beside_changed {X = X} id change same j (y ∷ xs) i e =
    by (beside_changed id change same j xs i e) (bytes_eq (id y) j) refl (bytes_eq i (id y)) refl
  where
    by : having_id id (changed id change j xs) i ≡ having_id id xs i → (b : Bool) → bytes_eq (id y) j ≡ b → (c : Bool) → bytes_eq i (id y) ≡ c
        → having_id id (cond b (change y) y ∷ changed id change j xs) i ≡ having_id id (y ∷ xs) i
    by rest false other c is = ap (cond (bytes_eq i (id y)) (Some y)) rest
    by rest true its true is = absurd (clash (sym ((bytes_eq-Decides i j).1 ((bytes_eq-Decides i (id y)).0 is ∙ (bytes_eq-Decides (id y) j).0 its)) ∙ e))
    by rest true its false is = rw (same y, is) rest

module _ (p : OrgPlan) (t : Tenant) where
  pub user_rest : (u : model.User) (k : Key) → is_org_key k ≡ false → is_user_key u.id k ≡ false → row_in p (with_user u t) k ≡ row_in p t k
  unfolding row_in kept_at
  user_rest u (key.Org org) o e = absurd cc
  user_rest u (key.User org i) o e = ap (option_map (λ x. row_bytes user_form (user_of org x))) (beside_last user_id t.users u i e)
  user_rest u k o e = refl

  pub role_rest : (r : model.Role) (k : Key) → is_org_key k ≡ false → is_role_key r.id k ≡ false → row_in p (with_role r t) k ≡ row_in p t k
  unfolding row_in kept_at
  role_rest r (key.Org org) o e = absurd cc
  role_rest r (key.Role org i) o e = ap (option_map (λ x. row_bytes role_form (role_of org x))) (beside_last role_id t.roles r i e)
  role_rest r k o e = refl

  pub group_rest : (g : model.Group) (k : Key) → is_org_key k ≡ false → is_group_key g.id k ≡ false → row_in p (with_group g t) k ≡ row_in p t k
  unfolding row_in kept_at
  group_rest g (key.Org org) o e = absurd cc
  group_rest g (key.Group org i) o e = ap (option_map (λ x. row_bytes group_form (group_of org x))) (beside_last group_id t.groups g i e)
  group_rest g k o e = refl

  pub user_changed : (i : List ℕ) (change : model.User → model.User) (k : Key) → ((u : model.User) → (change u).id ≡ u.id) → is_user_key i k ≡ false → row_in p (record t { users = changed user_id change i t.users }) k ≡ row_in p t k
  unfolding row_in kept_at
  user_changed i change (key.Org org) same e = rw (mapped_length (λ (x : model.User). cond (bytes_eq x.id i) (change x) x) t.users) refl
  user_changed i change (key.User org j) same e = ap (option_map (λ x. row_bytes user_form (user_of org x))) (beside_changed user_id change same i t.users j e)
  user_changed i change k same e = refl

  pub role_changed : (i : List ℕ) (change : model.Role → model.Role) (k : Key) → ((r : model.Role) → (change r).id ≡ r.id) → is_role_key i k ≡ false → row_in p (record t { roles = changed role_id change i t.roles }) k ≡ row_in p t k
  unfolding row_in kept_at
  role_changed i change (key.Org org) same e = rw (mapped_length (λ (x : model.Role). cond (bytes_eq x.id i) (change x) x) t.roles) refl
  role_changed i change (key.Role org j) same e = ap (option_map (λ x. row_bytes role_form (role_of org x))) (beside_changed role_id change same i t.roles j e)
  role_changed i change k same e = refl

  pub group_changed : (i : List ℕ) (change : model.Group → model.Group) (k : Key) → ((g : model.Group) → (change g).id ≡ g.id) → is_group_key i k ≡ false → row_in p (record t { groups = changed group_id change i t.groups }) k ≡ row_in p t k
  unfolding row_in kept_at
  group_changed i change (key.Org org) same e = rw (mapped_length (λ (x : model.Group). cond (bytes_eq x.id i) (change x) x) t.groups) refl
  group_changed i change (key.Group org j) same e = ap (option_map (λ x. row_bytes group_form (group_of org x))) (beside_changed group_id change same i t.groups j e)
  group_changed i change k same e = refl

-- ---- one's own row

some_none : {X : Type 0} (x : X) → ◌≡◌ {A = Option X} (Some x) None → ⊥
some_none x e = cc

-- the last is found, where no other has its id
found_last : {X : Type 0} (id : X → List ℕ) (xs : List X) (x : X) → having_id id xs (id x) ≡ None → having_id id (xs ++ x ∷ []) (id x) ≡ Some x
found_last id [] x e = ap (λ (b : Bool). cond b (Some x) None) ((bytes_eq-Decides (id x) (id x)).1 refl)
found_last {X = X} id (y ∷ xs) x e = by (found_last id xs x) (bytes_eq (id x) (id y)) e
  where
    by : (having_id id xs (id x) ≡ None → having_id id (xs ++ x ∷ []) (id x) ≡ Some x) → (b : Bool) → cond b (Some y) (having_id id xs (id x)) ≡ None
        → cond b (Some y) (having_id id (xs ++ x ∷ []) (id x)) ≡ Some x
    by rest true h = absurd (some_none y h)
    by rest false h = rest h

-- the one that is changed is found as it was changed
found_changed : {X : Type 0} (id : X → List ℕ) (change : X → X) → ((x : X) → id (change x) ≡ id x) → (i : List ℕ) (xs : List X) (x : X) → having_id id xs i ≡ Some x
    → having_id id (changed id change i xs) i ≡ Some (change x)
found_changed id change same i [] x e = absurd cc
found_changed {X = X} id change same i (y ∷ xs) x e = by (found_changed id change same i xs x) (bytes_eq (id y) i) refl (bytes_eq i (id y)) refl
  where
    by : (having_id id xs i ≡ Some x → having_id id (changed id change i xs) i ≡ Some (change x)) → (b : Bool) → bytes_eq (id y) i ≡ b → (c : Bool) → bytes_eq i (id y) ≡ c
        → having_id id (cond b (change y) y ∷ changed id change i xs) i ≡ Some (change x)
    by rest true its true is =
        let one : y ≡ x = some_is y x (sym (ap (λ (b : Bool). cond b (Some y) (having_id id xs i)) is) ∙ e) in
        rw (same y, is) (ap (λ (z : X). Some (change z)) one)
    by rest true its false is = absurd (clash (sym ((bytes_eq-Decides i (id y)).1 (sym ((bytes_eq-Decides (id y) i).0 its))) ∙ is))
    by rest false its true is = absurd (clash (sym ((bytes_eq-Decides (id y) i).1 (sym ((bytes_eq-Decides i (id y)).0 is))) ∙ its))
    by rest false its false is =
        let later : having_id id xs i ≡ Some x = sym (ap (λ (b : Bool). cond b (Some y) (having_id id xs i)) is) ∙ e in
        ap (λ (b : Bool). cond b (Some y) (having_id id (changed id change i xs) i)) is ∙ rest later

module _ (p : OrgPlan) (t : Tenant) (org : ℕ) where
  pub user_row : (u : model.User) → user_at t.users u.id ≡ None → row_in p (with_user u t) (key.User org u.id) ≡ Some (row_bytes user_form (user_of org u))
  unfolding row_in
  user_row u none = ap (option_map (λ x. row_bytes user_form (user_of org x))) (found_last user_id t.users u none)

  pub role_row : (r : model.Role) → role_at t r.id ≡ None → row_in p (with_role r t) (key.Role org r.id) ≡ Some (row_bytes role_form (role_of org r))
  unfolding row_in
  role_row r none = ap (option_map (λ x. row_bytes role_form (role_of org x))) (found_last role_id t.roles r none)

  pub group_row : (g : model.Group) → group_at t g.id ≡ None → row_in p (with_group g t) (key.Group org g.id) ≡ Some (row_bytes group_form (group_of org g))
  unfolding row_in
  group_row g none = ap (option_map (λ x. row_bytes group_form (group_of org x))) (found_last group_id t.groups g none)

  pub user_kept : (i : List ℕ) (change : model.User → model.User) (u : model.User) → ((v : model.User) → (change v).id ≡ v.id) → user_at t.users i ≡ Some u
      → row_in p (record t { users = changed user_id change i t.users }) (key.User org i) ≡ Some (row_bytes user_form (user_of org (change u)))
  unfolding row_in
  user_kept i change u same e = ap (option_map (λ x. row_bytes user_form (user_of org x))) (found_changed user_id change same i t.users u e)

  pub role_kept : (i : List ℕ) (change : model.Role → model.Role) (r : model.Role) → ((s : model.Role) → (change s).id ≡ s.id) → role_at t i ≡ Some r
      → row_in p (record t { roles = changed role_id change i t.roles }) (key.Role org i) ≡ Some (row_bytes role_form (role_of org (change r)))
  unfolding row_in
  role_kept i change r same e = ap (option_map (λ x. row_bytes role_form (role_of org x))) (found_changed role_id change same i t.roles r e)

  pub group_kept : (i : List ℕ) (change : model.Group → model.Group) (g : model.Group) → ((h : model.Group) → (change h).id ≡ h.id) → group_at t i ≡ Some g
      → row_in p (record t { groups = changed group_id change i t.groups }) (key.Group org i) ≡ Some (row_bytes group_form (group_of org (change g)))
  unfolding row_in
  group_kept i change g same e = ap (option_map (λ x. row_bytes group_form (group_of org x))) (found_changed group_id change same i t.groups g e)

  pub counted : row_in p t (key.Org org) ≡ Some (row_bytes org_form (org_of org t))
  unfolding row_in
  counted = refl

-- ---- the next id

-- what `base_value` says of ids
abbrev pub IdsDiffer : Type 0
IdsDiffer = (prefix : List ℕ) (m n : ℕ) → m < 62 ^ 12 → n < 62 ^ 12 → made prefix m ≡ made prefix n → m ≡ n

pub unnamed : IdsDiffer → {X : Type 0} (id : X → List ℕ) (prefix : List ℕ) (counter : ℕ) (P : X → Type 0) (xs : List X) → counter ≤ 999999999999999 → ((x : X) → P x → IsDrawn prefix counter (id x)) → AllByRecursion P xs
    → having_id id xs (made prefix counter) ≡ None
unnamed differ id prefix counter P [] small drawn all = refl
unnamed differ {X} id prefix counter P (x ∷ xs) small drawn all =
    by (unnamed differ id prefix counter P xs small drawn all.1) (bytes_eq (made prefix counter) (id x)) refl
  where
    by : having_id id xs (made prefix counter) ≡ None → (b : Bool) → bytes_eq (made prefix counter) (id x) ≡ b → cond b (Some x) (having_id id xs (made prefix counter)) ≡ None
    by rest false e = rest
    by rest true e =
        let d = drawn x all.0 in
        let low = d.1 in
        let same : counter ≡ d.0 = differ prefix counter d.0 (omega (arith, small)) (omega (arith, small, low)) ((bytes_eq-Decides (made prefix counter) (id x)).0 e ∙ d.2) in
        absurd (omega (arith, same, low))

pub no_user : IdsDiffer → (t : Tenant) → IsSound t → user_at t.users (next_id t user_prefix) ≡ None
no_user differ t s = unnamed differ user_id user_prefix t.counter (IsSoundUser (known t)) t.users s.counter (λ u x. x.id) s.users.each

pub no_role : IdsDiffer → (t : Tenant) → IsSound t → role_at t (next_id t role_prefix) ≡ None
no_role differ t s = unnamed differ role_id role_prefix t.counter (IsSoundRole (known t)) t.roles s.counter (λ r x. x.id) s.roles.each

pub no_group : IdsDiffer → (t : Tenant) → IsSound t → group_at t (next_id t group_prefix) ≡ None
no_group differ t s = unnamed differ group_id group_prefix t.counter (IsSoundGroup (known t)) t.groups s.counter (λ g x. x.id) s.groups.each

-- ---- rows that fit their forms

of_each : {X : Type 0} (P : X → Type 0) (xs : List X) → AllByRecursion P xs → (x : X) → Has xs x → P x
of_each P [] all x h = absurd h
of_each P (y ∷ xs) all x (inl e) = subst P (sym e) all.0
of_each P (y ∷ xs) all x (inr h) = of_each P xs all.1 x h

-- a thing that is found has an id
named_is_id : MakesIds → {X : Type 0} (id : X → List ℕ) (prefix : List ℕ) (counter : ℕ) (P : X → Type 0) (xs : List X) → length prefix ≡ 3 → IsTrue (list_all is_digit62 prefix) → ((x : X) → P x → IsDrawn prefix counter (id x)) → AllByRecursion P xs
    → (i : List ℕ) → IsTrue (is_some (having_id id xs i)) → IsTrue (is_id i)
named_is_id makes {X} id prefix counter P xs size digits drawn all i h = by (having_id id xs i) refl h
  where
    by : (o : Option X) → having_id id xs i ≡ o → IsTrue (is_some o) → IsTrue (is_id i)
    by None e h = absurd cc
    by (Some x) e h =
        let f = found_with_id id P xs i x all e in
        subst (λ (j : List ℕ). IsTrue (is_id j)) f.0 (drawn_is_id makes prefix counter (id x) size digits (drawn x f.1))

module _ (makes : MakesIds) (texts : NamesAreTexts) (short : NamesAreShort) (org : ℕ) (t : Tenant) (lo : org < 2 ^ 32) (s : IsSound t) where
  pub user_fits : (u : model.User) → Has t.users u → FitsForm user_form (user_of org u)
  user_fits u h =
      let x = of_each (IsSoundUser (known t)) t.users s.users.each u h in
      ((lo, (tt, drawn_is_id makes user_prefix t.counter u.id refl refl x.id)), (name_fits texts short u.name x.name, (x.digest, (role_is_id makes (known t) t.roles s.roles.each u.role x.role, refl))))

  pub role_row_fits : (r : model.Role) → IsSoundRole (known t) r → FitsForm role_form (role_of org r)
  role_row_fits r x =
      ((lo, (tt, drawn_is_id makes role_prefix t.counter r.id refl refl x.id)), (name_fits texts short r.name x.name, role_is_id makes (known t) t.roles s.roles.each r.parent x.parent))

  pub role_fits : (r : model.Role) → Has t.roles r → FitsForm role_form (role_of org r)
  role_fits r h = role_row_fits r (of_each (IsSoundRole (known t)) t.roles s.roles.each r h)

  principal_fits : (p : Principal) → IsTrue (knows (known t) p) → FitsPrincipal p
  principal_fits (to.User i) h = named_is_id makes user_id user_prefix t.counter (IsSoundUser (known t)) t.users refl refl (λ u x. x.id) s.users.each i h
  principal_fits (to.Role i) h = named_is_id makes role_id role_prefix t.counter (IsSoundRole (known t)) t.roles refl refl (λ u x. x.id) s.roles.each i h
  principal_fits (to.Subordinates i) h = named_is_id makes role_id role_prefix t.counter (IsSoundRole (known t)) t.roles refl refl (λ u x. x.id) s.roles.each i h
  principal_fits (to.Group i) h = named_is_id makes group_id group_prefix t.counter (IsSoundGroup (known t)) t.groups refl refl (λ u x. x.id) s.groups.each i h

  principals_fit : (ps : List Principal) → list_all (knows (known t)) ps ≡ true → AllByRecursion FitsPrincipal ps
  principals_fit [] h = tt
  principals_fit (p ∷ ps) h = (principal_fits p (and_left (knows (known t) p) (list_all (knows (known t)) ps) h), principals_fit ps (and_right (knows (known t) p) (list_all (knows (known t)) ps) h))

  pub group_row_fits : (g : model.Group) → IsSoundGroup (known t) g → FitsForm group_form (group_of org g)
  group_row_fits g x =
      let few = x.members in
      ((lo, (tt, drawn_is_id makes group_prefix t.counter g.id refl refl x.id)), (name_fits texts short g.name x.name, (omega (arith, few), All-from_recursion FitsPrincipal g.members (principals_fit g.members x.named))))

  pub group_fits : (g : model.Group) → Has t.groups g → FitsForm group_form (group_of org g)
  group_fits g h = group_row_fits g (of_each (IsSoundGroup (known t)) t.groups s.groups.each g h)

-- ---- the role, and the group, with an id

-- the row of a role, if there is one
abbrev role_there : ℕ → List ℕ → OrgPlan → Tenant → Option RoleRow
role_there org i p t = option_map (role_of org) (role_at t i)

abbrev group_there : ℕ → List ℕ → OrgPlan → Tenant → Option GroupRow
group_there org i p t = option_map (group_of org) (group_at t i)

role_rows_are : (org : ℕ) (i : List ℕ) (p : OrgPlan) (t : Tenant) → row_in p t (key.Role org i) ≡ option_map (row_bytes role_form) (role_there org i p t)
unfolding row_in
role_rows_are org i p t = map_twice (row_bytes role_form) (role_of org) (role_at t i)

group_rows_are : (org : ℕ) (i : List ℕ) (p : OrgPlan) (t : Tenant) → row_in p t (key.Group org i) ≡ option_map (row_bytes group_form) (group_there org i p t)
unfolding row_in
group_rows_are org i p t = map_twice (row_bytes group_form) (group_of org) (group_at t i)

module _ (makes : MakesIds) (texts : NamesAreTexts) (short : NamesAreShort) where
  role_may : (org : ℕ) (i : List ℕ) (t : Tenant) → org < 2 ^ 32 → IsSound t → (o : Option model.Role) → role_at t i ≡ o → MayStandAt role_form (org, (tt, i)) (option_map (role_of org) o)
  role_may org i t lo s None e = tt
  role_may org i t lo s (Some r) e =
      let x = found_with_id role_id (IsSoundRole (known t)) t.roles i r s.roles.each e in
      (ap (λ (j : List ℕ). (org, (tt, j))) x.0, role_row_fits makes texts short org t lo s r x.1)

  group_may : (org : ℕ) (i : List ℕ) (t : Tenant) → org < 2 ^ 32 → IsSound t → (o : Option model.Group) → group_at t i ≡ o → MayStandAt group_form (org, (tt, i)) (option_map (group_of org) o)
  group_may org i t lo s None e = tt
  group_may org i t lo s (Some g) e =
      let x = found_with_id group_id (IsSoundGroup (known t)) t.groups i g s.groups.each e in
      (ap (λ (j : List ℕ). (org, (tt, j))) x.0, group_row_fits makes texts short org t lo s g x.1)

  module _ (laws : PrefixLaws) (exact : IsAntisymmetric place_cmp) (m : Tables) (org : ℕ) (i : List ℕ) (lo : org < 2 ^ 32) (id : IsTrue (is_id i)) where
    role_is_row : IsRowOf role_form org (org, (tt, i)) (role_there org i)
    role_is_row = record {
      owned = refl;
      fits = (lo, (tt, id));
      rows = role_rows_are org i;
      stands = λ p t s f. role_may org i t lo s (role_at t i) refl;
    }

    group_is_row : IsRowOf group_form org (org, (tt, i)) (group_there org i)
    group_is_row = record {
      owned = refl;
      fits = (lo, (tt, id));
      rows = group_rows_are org i;
      stands = λ p t s f. group_may org i t lo s (group_at t i) refl;
    }

    -- what is read at a role's key is that role
    pub role_finds : FindsRow role_form → (r : Result (Option RoleRow) StoreFail) → ReadsAs role_form (org, (tt, i)) (map.get m (spell (key.Role org i))) r
        → FindsIn org (λ q t. option_map (role_of org) (role_in t i)) m r
    role_finds finds r e =
        found_same org (row_in_org (role_there org i)) (λ q t. option_map (role_of org) (role_in t i)) m r same
        (row_finds laws exact role_form org lo (org, (tt, i)) (role_there org i) role_is_row finds m r e)
      where
        same : (q : OrgPlan) (t : Option Tenant) → option_and_then (role_there org i q) t ≡ option_map (role_of org) (role_in t i)
        same q None = refl
        same q (Some t) = refl

    -- and at a group's key that group
    pub group_finds : FindsRow group_form → (r : Result (Option GroupRow) StoreFail) → ReadsAs group_form (org, (tt, i)) (map.get m (spell (key.Group org i))) r
        → FindsIn org (λ q t. option_map (group_of org) (group_in t i)) m r
    group_finds finds r e =
        found_same org (row_in_org (group_there org i)) (λ q t. option_map (group_of org) (group_in t i)) m r same
        (row_finds laws exact group_form org lo (org, (tt, i)) (group_there org i) group_is_row finds m r e)
      where
        same : (q : OrgPlan) (t : Option Tenant) → option_and_then (group_there org i q) t ≡ option_map (group_of org) (group_in t i)
        same q None = refl
        same q (Some t) = refl

-- ---- plans

pub same_plan : (p : OrgPlan) (t u : Tenant) → u.objects ≡ t.objects → u.job ≡ t.job → FitsPlan p t → FitsPlan p u
same_plan p t u objects job fits = subst (λ (j : Option model.Job). FitsPlan p (record u { job = j })) (sym job) (subst (λ (os : List model.Object). FitsPlan p (record u { objects = os; job = t.job })) (sym objects) plain)
  where
    plain : FitsPlan p (record u { objects = t.objects; job = t.job })
    plain = record { below = fits.below; differ = fits.differ; other = fits.other; apart = fits.apart; was = fits.was; switched = fits.switched; left = fits.left }
