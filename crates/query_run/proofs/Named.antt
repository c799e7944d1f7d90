-- An object that is found by its name, and who asks for its records.
use Rattle.std.proofs.Common.{◌≡◌, ℕ, List, Option, Some, None, Result, Ok, Err, refl, sym, ap, subst, ◌∙◌}
use Rattle.std.specs.Prelude.{ℤ}
use Rattle.std.specs.Option.{option_map}
use Rattle.store_kv.specs.Tables.{Tables}
use Rattle.store_rows.specs.declared.fail.StoreFail.{StoreFail}
use Rattle.store_rows.specs.declared.fail.StoreFail.TheVariants.{Damaged, Keeper, Memory}
use Rattle.soql.specs.declared.query.Query.{Query}
use Rattle.model.specs.declared.caller.Caller.{Caller}
use Rattle.model.specs.Objects.{Numbered, object_named, object_numbered}
use Rattle.model.specs.Paths.{Asked}
use Rattle.model.specs.Tenant.{Object, Tenant}
use Rattle.query_json.specs.Answers.{IsAskedOf, IsAskedOver}
use Rattle.access_traits.specs.Rights.{Whose}
use Rattle.query_run.specs.Callers.{IsCallerAt, IsObjectOf}
use Rattle.query_run.specs.Forms.{IsAnswer}
use Rattle.access_user.specs.Granting.{FindsRights, IsUserRights}
use Rattle.access_user.specs.Sights.{FindsSight}
use Rattle.access_user.specs.declared.rights.UserRights.{UserRights}
use Rattle.store_abstraction.specs.declared.layout.Layout.{Layout}
use Rattle.store_abstraction.specs.Layouts.{IsLayout, layout_of, own_layout, own_layout_named, own_layouts}
use Rattle.store_abstraction.specs.Local.{FindsIn, StandsIn}
use Rattle.store_abstraction.specs.Plan.{OrgPlan}

abbrev pub NamedAt : Type 0
NamedAt = (t : Tenant) (name : List ℕ) (o : Numbered) → object_named t name ≡ Some o → object_numbered t o.number ≡ Some o.object

-- ---- the layout of an object with a name

-- what is found by a name's characters
pub found_by : (org : ℕ) (m : Tables) (spelled name : List ℕ) (result : Result (Option Layout) StoreFail) (l : Option Layout) → spelled ≡ name → result ≡ Ok l
    → FindsIn org (own_layout_named org spelled) m result → FindsIn org (own_layout_named org name) m (Ok l)
found_by org m spelled name result l same is h = subst (FindsIn org (own_layout_named org name) m) is (subst (λ name. FindsIn org (own_layout_named org name) m result) same h)

layout_there : (org : ℕ) (name : List ℕ) (p : OrgPlan) (t : Tenant) → own_layout_named org name p (Some t) ≡ option_map (layout_of org p t) (object_named t name)
unfolding own_layout_named
layout_there org name p t = refl

-- an object, and its layout
record IsFound (org : ℕ) (p : OrgPlan) (t : Tenant) (name : List ℕ) (l : Layout) : Type 0 where
  object : Numbered
  there : object_named t name ≡ Some object
  same : l ≡ layout_of org p t object

one_named : (org : ℕ) (p : OrgPlan) (t : Tenant) (name : List ℕ) (l : Layout) → Some l ≡ option_map (layout_of org p t) (object_named t name) → IsFound org p t name l
one_named org p t name l e = by (object_named t name) refl e
  where
    by : (o : Option Numbered) → object_named t name ≡ o → Some l ≡ option_map (layout_of org p t) o → IsFound org p t name l
    by None there e = absurd cc
    by (Some o) there e = record { object = o; there = there; same = cc }

none_named : (org : ℕ) (p : OrgPlan) (t : Tenant) (name : List ℕ) → None ≡ option_map (layout_of org p t) (object_named t name) → object_named t name ≡ None
none_named org p t name e = by (object_named t name) e
  where
    by : (o : Option Numbered) → None ≡ option_map (layout_of org p t) o → o ≡ None
    by None e = refl
    by (Some o) e = absurd cc

is_layout : NamedAt → (org : ℕ) (name : List ℕ) (p : OrgPlan) (t : Tenant) (o : Numbered) → object_named t name ≡ Some o → IsLayout p t (layout_of org p t o)
unfolding own_layout
is_layout named_at org name p t o there =
    ap (λ x. option_map (layout_of org p t) (option_map (λ (y : Object). record { number = o.number; object = y }) x)) (named_at t name o there)

-- ---- replies

-- the object whose layout was found
pub object_of : (org : ℕ) (q : Query) (m : Tables) (p : OrgPlan) (a : Asked) (l : Layout) → StandsIn org p m (Some a.tenant) → FindsIn org (own_layout_named org q.tail.from) m (Ok (Some l))
    → IsObjectOf l q m p a
object_of org q m p a l s finds =
    let f = one_named org p a.tenant q.tail.from l (finds p (Some a.tenant) s ∙ layout_there org q.tail.from p a.tenant) in
    let own : l.org ≡ org = ap (λ (x : Layout). x.org) f.same in
    record {
      stands = subst (λ (n : ℕ). StandsIn n p m (Some a.tenant)) (sym own) s;
      object = f.object;
      named = f.there;
      its = f.same ∙ ap (λ (n : ℕ). layout_of n p a.tenant f.object) (sym own);
    }

-- over the tables after a read
pub object_later : (l : Layout) (q : Query) (m n : Tables) (p : OrgPlan) (a : Asked) → n ≡ m → IsObjectOf l q m p a → IsObjectOf l q n p a
object_later l q m n p a same is = record { stands = subst (λ (x : Tables). StandsIn l.org p x (Some a.tenant)) (sym same) is.stands; object = is.object; named = is.named; its = is.its }

-- its layout is the tenant's
pub layout_there_is : NamedAt → (l : Layout) (q : Query) (m : Tables) (p : OrgPlan) (a : Asked) → IsObjectOf l q m p a → IsLayout p a.tenant l
layout_there_is named_at l q m p a is = subst (IsLayout p a.tenant) (sym is.its) (is_layout named_at l.org q.tail.from p a.tenant is.object is.named)

-- it is asked for at a moment by who sees so
pub asked_by : (l : Layout) (sees : Whose) (moment : ℤ) (q : Query) (m n : Tables) (p : OrgPlan) (a : Asked) → n ≡ m → IsObjectOf l q m p a → sees a.tenant a.user → a.now ≡ moment
    → IsAskedOf l sees moment q n p a
asked_by l sees moment q m n p a same is sight now =
    record { stands = subst (λ (x : Tables). StandsIn l.org p x (Some a.tenant)) (sym same) is.stands; object = is.object; named = is.named; its = is.its; sight = sight; now = now }

-- and over all layouts of the tenant, with these rights
pub asked_over : (l : Layout) (sees whose : Whose) (moment : ℤ) (q : Query) (m : Tables) (p : OrgPlan) (a : Asked) → IsAskedOf l sees moment q m p a → {ls : List Layout}
    → ls ≡ own_layouts l.org p (Some a.tenant) → whose a.tenant a.user → IsAskedOver ls l sees whose moment q m p a
asked_over l sees whose moment q m p a asked layouts rights = record { asked = asked; all = layouts; rights = rights }

-- the caller, at the same moment
pub caller_at : (c : Caller) (moment other : ℤ) (a : Asked) → other ≡ moment → IsCallerAt c moment a → IsCallerAt c other a
caller_at c moment other a same is = record { user = is.user; admin = is.admin; now = is.now ∙ sym same }

-- there is no such object
pub no_object : (org : ℕ) (a : Asked) (q : Query) (p : OrgPlan) (m : Tables) → StandsIn org p m (Some a.tenant) → FindsIn org (own_layout_named org q.tail.from) m (Ok None)
    → object_named a.tenant q.tail.from ≡ None
no_object org a q p m s finds = none_named org p a.tenant q.tail.from (finds p (Some a.tenant) s ∙ layout_there org q.tail.from p a.tenant)

-- what stopped the search for it
pub search_failed : {X Y : Type 0} (org : ℕ) (value : OrgPlan → Option Tenant → X) (a : Asked) (y : Y) (p : OrgPlan) (m : Tables) (f : StoreFail) → StandsIn org p m (Some a.tenant) → FindsIn org value m (Err f) → IsAnswer y (Err f)
search_failed org value a y p m Damaged s finds = absurd (finds p (Some a.tenant) s)
search_failed org value a y p m Keeper s finds = λ e. absurd cc
search_failed org value a y p m Memory s finds = λ e. absurd cc

-- what stopped the reading of rights, and the making of a sight
pub rights_failed : {Y : Type 0} (org : ℕ) (id : List ℕ) (a : Asked) (y : Y) (p : OrgPlan) (m : Tables) (f : StoreFail) → StandsIn org p m (Some a.tenant) → FindsRights org id m (Err f) → IsAnswer y (Err f)
rights_failed org id a y p m Damaged s finds = absurd (finds p (Some a.tenant) s)
rights_failed org id a y p m Keeper s finds = λ e. absurd cc
rights_failed org id a y p m Memory s finds = λ e. absurd cc

pub sight_failed : {Y : Type 0} (r : UserRights) (l : Layout) (a : Asked) (y : Y) (p : OrgPlan) (m : Tables) (f : StoreFail) → StandsIn l.org p m (Some a.tenant) → IsLayout p a.tenant l → IsUserRights a.tenant a.user r
    → FindsSight r l m (Err f) → IsAnswer y (Err f)
sight_failed r l a y p m Damaged s its is finds = absurd (finds p a.tenant a.user s its is)
sight_failed r l a y p m Keeper s its is finds = λ e. absurd cc
sight_failed r l a y p m Memory s its is finds = λ e. absurd cc
