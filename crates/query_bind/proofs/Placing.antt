-- Where the values of paths are.
use Rattle.std.proofs.Common.{◌≡◌, ℕ, Bool, true, false, List, [], ◌∷◌, ◌++◌, Option, Some, None, refl, sym, ap, subst, ◌∙◌, append-nil, inl, inr, filter, cond}
use Rattle.std.specs.Option.{option_map, option_and_then}
use Rattle.std.proofs.lemmas.Bool.{eqb-true}
use Rattle.std.proofs.lemmas.Option.{none-some as no_clash, same_Some as some_is}
use Rattle.base_lemmas.proofs.Numbers.{eqb-self as eqb_same}
use Rattle.base_value.specs.Printing.{day_of_moment}
use Rattle.base_value.specs.declared.value.Value.TheVariants as value
use Rattle.model.specs.declared.record.Record.{Record}
use Rattle.model.specs.Cases.{in_case}
use Rattle.model.specs.Fields.{column_named, value_in}
use Rattle.model.specs.Membership.{Has}
use Rattle.model.specs.Objects.{is_of, object_number, object_numbered, records_of}
use Rattle.model.specs.Paths.{Asked, field_value, path_value}
use Rattle.model.specs.Sound.{IsSound}
use Rattle.model.specs.Tenant.{Tenant}
use Rattle.store_abstraction.specs.Layouts.{IsLayout, own_layouts}
use Rattle.store_abstraction.specs.Plan.{OrgPlan}
use Rattle.store_abstraction.specs.declared.layout.Layout.{Layout}
use Rattle.model.specs.Flat.{has_one_name}
use Rattle.query_plan.specs.declared.paths.branches.Branch.{Branch}
use Rattle.query_plan.specs.declared.paths.branches.Place.{Place}
use Rattle.query_plan.specs.paths.Branches.{AddsBranches, AreBranches, FindsPlace, LeadTo}
use Rattle.query_plan.specs.paths.Ways.{led_to, path_end}
use Rattle.query_plan.proofs.Branching.{records_stay}
use Rattle.query_plan.proofs.Ends.{EndsAt, end_column, ends_at}
use Rattle.query_check.specs.declared.columns.Column.{Column}
use Rattle.query_check.specs.declared.columns.Family.{Family}
use Rattle.query_check.specs.declared.columns.Family.TheVariants as family
use Rattle.query_plan.specs.declared.check.Site.{Site}
use Rattle.query_bind.specs.declared.spots.Bound.{Bound}
use Rattle.query_plan.specs.Checks.{site_of, spot_value}
use Rattle.query_plan.specs.Plans.{shown_name}
use Rattle.query_bind.specs.inner.Binding.{Fits, IsFound}
use Rattle.query_check.specs.Columns.{column_in, placed}
use Rattle.query_check.specs.Rules.{own_name}
use Rattle.query_bind.specs.inner.Spots.{Binds, IsBound, IsOf, Serve, Setting, bound_at, bound_name, far_of}
use Rattle.query_check.specs.Ways.{path_column_in}
use Rattle.query_check.proofs.Judged.{own_column}
use Rattle.query_plan.proofs.Lists.{kept}
use Rattle.query_check.proofs.Reaching.{column_same}
use Rattle.query_bind.proofs.Records.{known_of}

pub unchanged : (bs : List Branch) → AreBranches bs → AddsBranches bs bs
unchanged bs order = record { more = []; behind = sym (append-nil bs); order = order }

-- ---- names

one_is : (names : List (List ℕ)) (name : List ℕ) → own_name names ≡ Some name → names ≡ name ∷ []
one_is [] name e = absurd (no_clash name e)
one_is (n ∷ []) name e = ap (λ (x : List ℕ). x ∷ []) (some_is n name e)
one_is (n ∷ m ∷ names) name e = absurd (no_clash name e)

several : (names : List (List ℕ)) → own_name names ≡ None → has_one_name names ≡ false
several [] e = refl
several (n ∷ []) e = absurd (no_clash n (sym e))
several (n ∷ m ∷ names) e = refl

-- ---- a path of one name

own_found : (s : Setting) (l : Layout) (r : Record) (name : List ℕ) (c : Column) → IsOf s l r → column_in l name ≡ Some c → IsFound s.asked l r name c
own_found s l r name c is there = (known_of s.plan s.asked l (day_of_moment s.asked.now) r is.laid is.sound refl is.has).found name c there

pub own_bound : (ls : List Layout) (l : Layout) (branches : List Branch) (names : List (List ℕ)) (name : List ℕ) → own_name names ≡ Some name
    → Binds ls l branches names (bound_at (column_in l name) None)
own_bound ls l branches names name one = subst (λ (ns : List (List ℕ)). Binds ls l branches ns (bound_at (column_in l name) None)) (sym (one_is names name one)) at
  where
    at : Binds ls l branches (name ∷ []) (bound_at (column_in l name) None)
    at s c r serve there is =
        let found = own_found s l r name c is there in
        subst (IsBound s l branches (name ∷ []) c r) (ap (λ (o : Option Column). bound_at o None) (sym there))
        (record {
          family = refl;
          value = λ more. sym found.value;
          fits = subst (Fits c.family) (sym found.value) found.fits;
          declared = sym found.declared;
        })

-- ---- a path of several

null_fits : (f : Family) → Fits f value.Null
null_fits family.Ids = tt
null_fits family.Text = tt
null_fits family.Picklist = tt
null_fits family.Number = tt
null_fits family.Day = tt
null_fits family.Moment = tt
null_fits family.Truth = tt

far_named : (l : Layout) (a : Asked) (r : Record) (names : List (List ℕ)) (at : Site) → has_one_name names ≡ false → bound_name l names at ≡ shown_name a r names
far_named l a r [] at e = refl
far_named l a r (n ∷ []) at e = absurd cc
far_named l a r (n ∷ m ∷ names) at e = refl

all_serve : (s : Setting) (ls : List Layout) (names : List (List ℕ)) → has_one_name names ≡ false → Serve s ls names → ls ≡ own_layouts s.org s.plan (Some s.asked.tenant)
all_serve s ls names e (inl one) = absurd (clash (sym e ∙ one))
  where
    clash : false ≡ true → ⊥
    clash e = cc
all_serve s ls names e (inr all) = all

filtered : (p : Record → Bool) (rs : List Record) (r : Record) → p r ≡ true → Has rs r → Has (filter p rs) r
filtered p [] r e h = absurd h
filtered p (x ∷ rs) r e (inl same) = subst (λ (b : Bool). Has (cond b (x ∷ filter p rs) (filter p rs)) r) (sym (ap p (sym same) ∙ e)) (inl same)
filtered p (x ∷ rs) r e (inr h) = by (p x) (filtered p rs r e h)
  where
    by : (b : Bool) → Has (filter p rs) r → Has (cond b (x ∷ filter p rs) (filter p rs)) r
    by true h = inr h
    by false h = h

of_object : (t : Tenant) (n : ℕ) (r : Record) → Has t.records r → object_number r.id ≡ n → Has (records_of t n) r
of_object t n r h e = filtered (is_of n) t.records r (ap (λ (m : ℕ). is_of m r) (sym e) ∙ eqb_same (object_number r.id)) h

module _ (ls : List Layout) (l : Layout) (branches : List Branch) (before : List (List ℕ)) (last : List ℕ) (place : Place) (s : Setting) (all : ls ≡ own_layouts s.org s.plan (Some s.asked.tenant)) where
  abbrev end : Layout
  end = place.layout.now

  module _ (lead : LeadTo s.plan s.asked.tenant l.object before branches place) (laid : IsLayout s.plan s.asked.tenant l) (sound : IsSound s.asked.tenant) where
    column_there : column_in end last ≡ path_column_in ls l (before ++ last ∷ [])
    column_there =
        let t = s.asked.tenant in
        sym (own_column s.plan t end last lead.layout)
        ∙ ap (option_map placed) (sym (end_column t last l.object before ∙ ap (λ e. in_case e None (λ e. option_and_then (λ o. column_named o last) (object_numbered t e.1))) lead.spelled))
        ∙ column_same s.org s.plan t sound ls all l laid (before ++ last ∷ [])

    module _ (c : Column) (there : column_in end last ≡ Some c) (r : Record) (has : Has (records_of s.asked.tenant l.object) r) where
      its_end : EndsAt s.asked sound last r before (lead.steps, end.object)
      its_end =
          let k = kept (is_of l.object) s.asked.tenant.records r has in
          ends_at s.asked sound last before r (lead.steps, end.object) k.0
          (ap (λ (n : ℕ). path_end s.asked.tenant n before) (eqb-true (object_number r.id) l.object k.1) ∙ lead.spelled)

      end_found : (p : Record) → led_to s.asked lead.steps r ≡ Some p → IsFound s.asked end p last c
      end_found p led =
          let it = its_end.number p led in
          own_found s end p last c (record { laid = lead.layout; sound = sound; has = of_object s.asked.tenant end.object p it.0 it.1 }) there

      end_value : (o : Option Record) → led_to s.asked lead.steps r ≡ o
          → in_case o value.Null (value_in (site_of c.site)) ≡ in_case o value.Null (λ p. field_value s.asked.tenant p last)
      end_value None led = refl
      end_value (Some p) led = sym (end_found p led).value

      end_fits : (o : Option Record) → led_to s.asked lead.steps r ≡ o → Fits c.family (in_case o value.Null (λ p. field_value s.asked.tenant p last))
      end_fits None led = null_fits c.family
      end_fits (Some p) led = let f = end_found p led in subst (Fits c.family) (sym f.value) f.fits

      far_value_is : (more : List Branch)
          → spot_value (far_of s r (branches ++ more)) r (record { branch = place.branch; site = c.site }) ≡ path_value s.asked r (before ++ last ∷ [])
      far_value_is more =
          ap (λ (o : Option Record). in_case o value.Null (value_in (site_of c.site))) (records_stay s.asked r branches more place.branch lead.among ∙ lead.reached s.asked r)
          ∙ end_value (led_to s.asked lead.steps r) refl
          ∙ sym its_end.value

      far_fits : Fits c.family (path_value s.asked r (before ++ last ∷ []))
      far_fits = subst (Fits c.family) (sym its_end.value) (end_fits (led_to s.asked lead.steps r) refl)

module _ (ls : List Layout) (l : Layout) (branches : List Branch) (names before : List (List ℕ)) (last : List ℕ) (split : names ≡ before ++ last ∷ []) (far : has_one_name names ≡ false) where
  pub place_bound : (place : Place)
      → ((org : ℕ) (q : OrgPlan) (t : Tenant) → ls ≡ own_layouts org q (Some t) → IsLayout q t l → IsSound t → FindsPlace q t l.object before branches (Some place))
      → Binds ls l branches names (bound_at (column_in place.layout.now last) place.branch)
  place_bound place finds s c r serve there is =
      let all = all_serve s ls names far serve in
      let lead = finds s.org s.plan s.asked.tenant all is.laid is.sound in
      let at : column_in place.layout.now last ≡ Some c = column_there ls l branches before last place s all lead is.laid is.sound ∙ ap (path_column_in ls l) (sym split) ∙ there in
      subst (IsBound s l branches names c r) (ap (λ (o : Option Column). bound_at o place.branch) (sym at))
      (record {
        family = refl;
        value = λ more. far_value_is ls l branches before last place s all lead is.laid is.sound c at r is.has more ∙ ap (path_value s.asked r) (sym split);
        fits = subst (λ (ns : List (List ℕ)). Fits c.family (path_value s.asked r ns)) (sym split) (far_fits ls l branches before last place s all lead is.laid is.sound c at r is.has);
        declared = far_named l s.asked r names c.site far;
      })

  -- where there is no place, there is no field
  pub nowhere_bound : (b : Bound)
      → ((org : ℕ) (q : OrgPlan) (t : Tenant) → ls ≡ own_layouts org q (Some t) → IsLayout q t l → IsSound t → FindsPlace q t l.object before branches None)
      → Binds ls l branches names b
  nowhere_bound b finds s c r serve there is =
      let all = all_serve s ls names far serve in
      let t = s.asked.tenant in
      absurd (no_clash c
      (ap (option_map placed) (sym (end_column t last l.object before ∙ ap (λ e. in_case e None (λ e. option_and_then (λ o. column_named o last) (object_numbered t e.1))) (finds s.org s.plan t all is.laid is.sound)))
      ∙ column_same s.org s.plan t is.sound ls all l is.laid (before ++ last ∷ [])
      ∙ ap (path_column_in ls l) (sym split)
      ∙ there))

pub empty_bound : (ls : List Layout) (l : Layout) (branches : List Branch) (names : List (List ℕ)) (b : Bound) → names ≡ [] → Binds ls l branches names b
empty_bound ls l branches names b e s c r serve there is = absurd (no_clash c (ap (path_column_in ls l) (sym e) ∙ there))

pub several_names : (names : List (List ℕ)) → own_name names ≡ None → has_one_name names ≡ false
several_names names e = several names e
