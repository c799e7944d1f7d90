-- The object into which a text is loaded, by the organisation that is named.
use Rattle.std.proofs.Common.{◌≡◌, ◌≢◌, ◌∙◌, ℕ, List, Option, Some, None, Result, Ok, Err, refl, sym, ap, subst}
use Rattle.std.specs.Option.{option_map}
use Rattle.std.specs.Str.{chars}
use Rattle.store_kv.specs.Tables.{Tables}
use Rattle.store_rows.specs.declared.fail.StoreFail.{StoreFail}
use Rattle.store_rows.specs.declared.fail.StoreFail.TheVariants.{Damaged, Keeper, Memory}
use Rattle.model.specs.declared.caller.Caller.{Caller}
use Rattle.model.specs.declared.refusal.Refusal.{Refusal}
use Rattle.model.specs.declared.refusal.Refusal.TheVariants.{InvalidSession, InvalidType}
use Rattle.model.specs.Callers.{Named}
use Rattle.model.specs.Cases.{in_case}
use Rattle.model.specs.Objects.{Numbered, object_named, object_numbered}
use Rattle.model.specs.Tenant.{Object, Tenant}
use Rattle.people_edit.specs.People.{FindsCaller, FindsNamed, caller_among}
use Rattle.store_abstraction.specs.declared.layout.Layout.{Layout}
use Rattle.store_abstraction.specs.Layouts.{IsLayout, layout_of, own_layout, own_layout_named, own_layouts}
use Rattle.store_abstraction.specs.Local.{FindsIn, StandsIn}
use Rattle.store_abstraction.specs.Plan.{OrgPlan}
use Rattle.cmd_load.specs.Targets.{FindsTarget, FindsTargetFor, IsTargetFound, LoadObject, caller_object, organisation_object}
use Rattle.cmd_load.specs.inner.Owned.{FindsBehind, FindsOwned}
use Rattle.cmd_load.specs.declared.target.Target.{Target}

-- ---- of one organisation

abbrev pub NamedAt : Type 0
NamedAt = (t : Tenant) (name : List ℕ) (o : Numbered) → object_named t name ≡ Some o → object_numbered t o.number ≡ Some o.object

layout_there : (org : ℕ) (name : List ℕ) (p : OrgPlan) (t : Tenant) → own_layout_named org name p (Some t) ≡ option_map (layout_of org p t) (object_named t name)
unfolding own_layout_named
layout_there org name p t = refl

is_layout : NamedAt → (org : ℕ) (name : List ℕ) (p : OrgPlan) (t : Tenant) (o : Numbered) → object_named t name ≡ Some o → IsLayout p t (layout_of org p t o)
unfolding own_layout
is_layout named_at org name p t o there =
    ap (λ x. option_map (layout_of org p t) (option_map (λ (y : Object). record { number = o.number; object = y }) x)) (named_at t name o there)

-- what stopped the search
pub search_failed : {X : Type 0} (org : ℕ) (value : OrgPlan → Option Tenant → X) (m : Tables) (q : OrgPlan) (t : Option Tenant) (f : StoreFail) → StandsIn org q m t → FindsIn org value m (Err f) → f ≢ Damaged
search_failed org value m q t Damaged s finds = λ e. finds q t s
search_failed org value m q t Keeper s finds = λ e. cc
search_failed org value m q t Memory s finds = λ e. cc

module _ (named_at : NamedAt) (org : ℕ) (object : List ℕ) (m : Tables) (q : OrgPlan) (t : Tenant) (s : StandsIn org q m (Some t)) where
  abbrev Expected : Option Numbered → Result LoadObject Refusal
  Expected o = in_case o (Err (InvalidType (chars object))) (λ x. Ok (t, x))

  -- it is there, and its layouts are found
  its_target : (l : Layout) (found : Target) → Some l ≡ own_layout_named org (chars object) q (Some t) → found.layout ≡ l → found.layouts ≡ own_layouts org q (Some t) → FindsOwned t object (Ok (Ok found))
  its_target l found there own all = by (object_named t (chars object)) refl (there ∙ layout_there org (chars object) q t)
    where
      by : (o : Option Numbered) → object_named t (chars object) ≡ o → Some l ≡ option_map (layout_of org q t) o → IsTargetFound (Expected o) (Ok found)
      by None is e = absurd cc
      by (Some o) is e =
          let same : l ≡ layout_of org q t o = cc in
          let its : found.layout ≡ layout_of org q t o = own ∙ same in
          let number : found.layout.org ≡ org = ap (λ (x : Layout). x.org) its in
          record {
            plan = q;
            layouts = record {
              sound = s.sound;
              all = subst (λ (n : ℕ). found.layouts ≡ own_layouts n q (Some t)) (sym number) all;
              layout = subst (IsLayout q t) (sym its) (is_layout named_at org (chars object) q t o is);
            };
            its = subst (λ (n : ℕ). found.layout ≡ layout_of n q t o) (sym number) its;
          }

  pub target_found : (l : Layout) (r : Result (Result Target Refusal) StoreFail) → FindsIn org (own_layout_named org (chars object)) m (Ok (Some l)) → FindsBehind org l m r → FindsOwned t object r
  target_found l (Ok (Ok found)) there h = its_target l found (there q (Some t) s) h.0 (h.1 q t s)
  target_found l (Ok (Err x)) there h = absurd h
  target_found l (Err e) there h = h q t s

  -- there is none
  pub no_target : (r : Refusal) → r ≡ InvalidType (chars object) → FindsIn org (own_layout_named org (chars object)) m (Ok None) → FindsOwned t object (Ok (Err r))
  no_target r is there = by (object_named t (chars object)) (there q (Some t) s ∙ layout_there org (chars object) q t)
    where
      by : (o : Option Numbered) → None ≡ option_map (layout_of org q t) o → IsTargetFound (Expected o) (Err r)
      by None e = is
      by (Some o) e = absurd cc

-- ---- by who is named

no_caller : (c : Caller) → ◌≡◌ {A = Result (Option Caller) StoreFail} (Ok (Some c)) (Ok None) → ⊥
no_caller c e = cc

not_failed : (f : StoreFail) → ◌≡◌ {A = Result (Option Caller) StoreFail} (Err f) (Ok None) → ⊥
not_failed f e = cc

module _ (object : List ℕ) (m : Tables) where
  -- of a caller of the organisation
  called_in : (n : Named) (c : Caller) (r : Result (Result Target Refusal) StoreFail) (q : OrgPlan) (t : Option Tenant) → FindsNamed n m (Ok (Some c)) → ((q : OrgPlan) (t : Tenant) → StandsIn c.org q m (Some t) → FindsOwned t object r)
      → StandsIn n.org q m t → Some c ≡ caller_among n t → FindsTarget (organisation_object n object t) r
  called_in n c r q None found h s e = absurd cc
  called_in n c r q (Some t) found h s e =
      subst (λ (o : Option Caller). FindsTarget (caller_object t object o) r) e (h q t (subst (λ (k : ℕ). StandsIn k q m (Some t)) (sym found.own) s))

  pub called_target : (key : Option Named) (c : Caller) (r : Result (Result Target Refusal) StoreFail) → FindsCaller key m (Ok (Some c)) → ((q : OrgPlan) (t : Tenant) → StandsIn c.org q m (Some t) → FindsOwned t object r) → FindsTargetFor key object m r
  called_target None c r found h = absurd (no_caller c found)
  called_target (Some n) c r found h = ((λ lo q t s. called_in n c r q t found h s (found.finds lo q t s)), (λ hi. absurd (no_caller c (found.none hi))))

  -- of no caller
  uncalled_in : (n : Named) (t : Option Tenant) → None ≡ caller_among n t → FindsTarget (organisation_object n object t) (Ok (Err InvalidSession))
  uncalled_in n None e = refl
  uncalled_in n (Some t) e = subst (λ (o : Option Caller). FindsTarget (caller_object t object o) (Ok (Err InvalidSession))) e refl

  pub uncalled_target : (key : Option Named) → FindsCaller key m (Ok None) → FindsTargetFor key object m (Ok (Err InvalidSession))
  uncalled_target None found = refl
  uncalled_target (Some n) found = ((λ lo q t s. uncalled_in n t (found.finds lo q t s)), (λ hi. refl))

  pub failed_target : (key : Option Named) (f : StoreFail) → FindsCaller key m (Err f) → FindsTargetFor key object m (Err f)
  failed_target None f found = absurd (not_failed f found)
  failed_target (Some n) f found = ((λ lo q t s. search_failed n.org (λ q t. caller_among n t) m q t f s (found.finds lo)), (λ hi. absurd (not_failed f (found.none hi))))
