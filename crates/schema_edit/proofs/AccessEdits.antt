-- A change of an object takes its row to the one with the access that it says.
use Rattle.std.proofs.Common.{unwrap_or, ◌||◌, ◌≡◌, ◌∙◌, ◌<◌, ◌^◌, ℕ, zero, suc, Bool, true, false, not, IsTrue, List, [], ◌∷◌, Option, Some, None, refl, sym, ap, subst}
use Rattle.std.specs.Prelude.{Err, IsErrAnd, Ok, Result, slice_get}
use Rattle.std.specs.Option.{option_map}
use Rattle.std.proofs.lemmas.Option.{same_Some as some_is}
use Rattle.store_edit.proofs.Reading.{not_damaged, not_missed}
use Rattle.store_edit.specs.Edits.{FailsBy, Planned, Takes}
use Rattle.store_edit.specs.Rows.{change_to}
use Rattle.store_kv.specs.Tables.{Tables}
use Rattle.store_rows.specs.declared.fail.StoreFail.{StoreFail}
use Rattle.store_rows.specs.declared.object.ObjectRow.{ObjectRow}
use Rattle.store_rows.specs.Forms.{FitsForm, row_bytes}
use Rattle.store_rows.specs.Keys as key
use Rattle.store_rows.specs.Keys.{Key}
use Rattle.store_rows.specs.Rows.{object_form}
use Rattle.model.specs.declared.refusal.Refusal.TheVariants.{InvalidType}
use Rattle.model.specs.Fields.{by_parent, is_detail}
use Rattle.model.specs.declared.metadata_bodies.ObjectChange.{ObjectChange}
use Rattle.model_invariant.specs.Fit.{is_fit_object_change}
use Rattle.store_codec.specs.Choices.{is_own}
use Rattle.store_codec.specs.declared.choices.ObjectAccess.{ObjectAccess}
use Rattle.base_value.specs.declared.sharing.Access.TheVariants as access
use Rattle.schema_edit.specs.inner.Access.{changed_access, spelled_access}
use Rattle.model.specs.Metadata.{changed_object, set_object}
use Rattle.model.specs.Objects.{Numbered, change_at, object_named, object_numbered, with_object_changed}
use Rattle.model.specs.Rules.{first_refusal, refuse_if}
use Rattle.model.specs.Sound.{IsSound}
use Rattle.model.specs.Tenant.{Object, Tenant}
use Rattle.model.specs.Verdict.{Verdict, accept, done, unless}
use Rattle.store_abstraction.specs.declared.fail.EditFail.{EditFail}
use Rattle.store_abstraction.specs.declared.layout.Layout.{Layout}
use Rattle.store_abstraction.specs.Fails.{of_store}
use Rattle.store_abstraction.specs.Layouts.{own_layout_named, own_object_row}
use Rattle.store_abstraction.specs.Local.{FindsIn, FindsThere, StandsIn}
use Rattle.store_abstraction.specs.Metadata.{access_of, row_of_object}
use Rattle.store_abstraction.specs.Plan.{FitsPlan, OrgPlan}
use Rattle.store_abstraction.specs.Records.{is_object_key}
use Rattle.store_abstraction.specs.Stands.{row_in}
use Rattle.base_value.specs.declared.sharing.Access.{Access}
use Rattle.schema_edit.specs.inner.Rows.{HasRow}
use Rattle.schema_edit.specs.Judging.{AcceptsOn, IsNamedLayout, verdict_refusal}
use Rattle.schema_edit.proofs.Editing.{beside, named_at, other_object, unrefused}
use Rattle.store_edit.proofs.Putting.{put_is_of}

-- what `store_abstraction` says of rows and plans where an object has another access, and `model_invariant` of the tenant
abbrev pub AccessRows : Type 0
AccessRows = (p : OrgPlan) (t : Tenant) (n : ℕ) (c : ObjectChange) (k : Key) → IsSound t → is_object_key n k ≡ false
    → row_in p (with_object_changed n (changed_object c) t) k ≡ row_in p t k

abbrev pub DescribedFits : Type 0
DescribedFits = (p : OrgPlan) (t : Tenant) (n : ℕ) (change : Object → Object) → FitsPlan p t → ((o : Object) → (change o).fields ≡ o.fields) → FitsPlan p (with_object_changed n change t)

abbrev pub ObjectFits : Type 0
ObjectFits = (org : ℕ) (t : Tenant) (n : ℕ) (o : Object) → org < 2 ^ 32 → IsSound t → object_numbered t n ≡ Some o → FitsForm object_form (row_of_object org t n o)

abbrev pub AccessSound : Type 0
AccessSound = (t : Tenant) (object : List ℕ) (c : ObjectChange) → is_fit_object_change c ≡ true → IsSound t → IsSound (set_object t object c).tenant

pub get_changed : {X : Type 0} (n : ℕ) (change : X → X) (xs : List X) (x : X) → slice_get xs n ≡ Some x → slice_get (change_at n change xs) n ≡ Some (change x)
get_changed n change [] x e = absurd cc
get_changed zero change (y ∷ xs) x e = ap (option_map change) e
get_changed (suc n) change (y ∷ xs) x e = get_changed n change xs x e

pub own_row : (q : OrgPlan) (u : Tenant) (org n : ℕ) (o : Object) → object_numbered u n ≡ Some o → row_in q u (key.Object org n) ≡ Some (row_bytes object_form (row_of_object org u n o))
unfolding row_in
own_row q u org n o there = ap (option_map (λ (o : Object). row_bytes object_form (row_of_object org u n o))) there

accepted : (t : Tenant) (name : List ℕ) (c : ObjectChange) (o : Numbered) → object_named t name ≡ Some o → None ≡ verdict_refusal (set_object t name c)
    → set_object t name c ≡ accept done (with_object_changed o.number (changed_object c) t)
accepted t name c o there free =
    let rule = first_refusal (refuse_if (is_detail o.object) (InvalidType o.object.name) ∷ []) in
    let u = with_object_changed o.number (changed_object c) t in
    let found : set_object t name c ≡ unless rule t (accept done u) = rw there refl in
    found ∙ unrefused rule t u (free ∙ ap verdict_refusal found)

-- ---- what was read

-- the layout is that of the object with the name
pub layout_seen : (m : Tables) (org : ℕ) (name : List ℕ) (q : OrgPlan) (t : Tenant) (r : Result (Option Layout) StoreFail) (found : Option Layout) → r ≡ Ok found → FindsIn org (own_layout_named org name) m r
    → StandsIn org q m (Some t) → IsNamedLayout t name found
unfolding own_layout_named
layout_seen m org name q t r found was h s = (org, q, subst (FindsIn org (own_layout_named org name) m) was h q (Some t) s)

-- a read that fails is passed on
pub read_failed : {X : Type 0} (org : ℕ) (value : OrgPlan → Option Tenant → X) (m : Tables) (r : Result X StoreFail) (e : StoreFail) (t : Tenant) (name : List ℕ) (v : Verdict) (out : Result ℕ EditFail) (q : OrgPlan)
    → FindsIn org value m r → r ≡ Err e → IsErrAnd out (λ y. y ≡ of_store e) → StandsIn org q m (Some t) → AcceptsOn t name v out
read_failed org value m r e t name v (Ok x) q h was passed s = absurd passed
read_failed org value m r e t name v (Err y) q h was passed s = subst (λ (z : EditFail). AcceptsOn t name v (Err z)) (sym passed) (not_damaged org q m t v r e was s value h)

-- what judging found
pub accepted_on : (t : Tenant) (name : List ℕ) (v : Verdict) (r : Result ℕ EditFail) (n : ℕ) → AcceptsOn t name v r → r ≡ Ok n → (None ≡ verdict_refusal v) × ((o : Numbered) × (object_named t name ≡ Some o) × (n ≡ o.number))
accepted_on t name v r n h was = subst (AcceptsOn t name v) was h

pub refused_on : (t : Tenant) (name : List ℕ) (v : Verdict) (r : Result ℕ EditFail) (e : EditFail) → AcceptsOn t name v r → r ≡ Err e → FailsBy v e
refused_on t name v r e h was = subst (AcceptsOn t name v) was h

module _ (org : ℕ) (t : Tenant) (name : List ℕ) (n : ℕ) (m : Tables) (q : OrgPlan) (s : StandsIn org q m (Some t)) (on : (o : Numbered) × (object_named t name ≡ Some o) × (n ≡ o.number)) where
  its_row : own_object_row org n q (Some t) ≡ Some (row_of_object org t on.0.number on.0.object)
  its_row = ap (λ (i : ℕ). own_object_row org i q (Some t)) on.2 ∙ ap (option_map (row_of_object org t on.0.number)) (named_at t name on.0 on.1)

  pub row_read : (r : Result ObjectRow StoreFail) (row : ObjectRow) → FindsThere org (own_object_row org n) m r → r ≡ Ok row → HasRow org t name row
  row_read r row h was =
      let found = subst (FindsThere org (own_object_row org n) m) was h in
      record { numbered = on.0; there = on.1; is = some_is row (row_of_object org t on.0.number on.0.object) (found q (Some t) s ∙ its_row) }

  pub row_missed : (v : Verdict) (r : Result ObjectRow StoreFail) (e : StoreFail) → FindsThere org (own_object_row org n) m r → r ≡ Err e → FailsBy v (of_store e)
  row_missed v r e h was = not_missed org q m t v r e was s (own_object_row org n) (row_of_object org t on.0.number on.0.object) its_row h

-- ---- what is changed

-- the rows are kept as they were
abbrev pub SamePlan : Planned
SamePlan q t next = next ≡ q

-- an access that has a spelling is said as it is
pub own_hierarchy : (a : Access) (h : Bool) → (h || is_own a) ≡ true → (h || by_parent a) ≡ h
own_hierarchy a true e = refl
own_hierarchy access.Private false e = refl
own_hierarchy access.Read false e = refl
own_hierarchy access.ReadWrite false e = refl
own_hierarchy access.ControlledByParent false e = absurd cc

pub access_takes : AccessRows → DescribedFits → ObjectFits → AccessSound
    → (org : ℕ) (t : Tenant) (name : List ℕ) (c : ObjectChange) (row : ObjectRow) (q : OrgPlan)
    → org < 2 ^ 32 → FitsPlan q t → IsSound t → is_fit_object_change c ≡ true → None ≡ verdict_refusal (set_object t name c)
    → HasRow org t name row
    → Takes org q t (set_object t name c) done SamePlan (change_to object_form (record row { access = changed_access c row.access }) ∷ [])
access_takes rows described fits sound org t name c row q small plan sound_t fit free h =
    let o = h.numbered in
    let n = o.number in
    let v = set_object t name c in
    let u = with_object_changed n (changed_object c) t in
    let x : Object = changed_object c o.object in
    let at_u : object_numbered u n ≡ Some x = get_changed n (changed_object c) t.objects o.object (named_at t name o h.there) in
    let is : v ≡ accept done u = accepted t name c o h.there free in
    let sound_u : IsSound u = subst IsSound (ap (λ (v : Verdict). v.tenant) is) (sound t name c fit sound_t) in
    let next : ObjectRow = row_of_object org u n x in
    let its_fit : FitsForm object_form next = fits org u n x small sound_u at_u in
    let said : spelled_access x.access x.hierarchy ≡ access_of x =
    ap (λ (h : Bool). record { access = x.access; hierarchy = h }) (own_hierarchy x.access x.hierarchy its_fit.1.1.0) in
    let takes : Takes org q t (accept done u) done SamePlan (change_to object_form next ∷ []) = record {
      answer = refl;
      sound = sound_u;
      plan = q;
      kept = refl;
      fits = described q t n (changed_object c) plan (λ x. refl);
      are = (put_is_of object_form org q u next its_fit refl (own_row q u org n x at_u), tt);
      rest = λ k of same. rows q t n c k sound_t (other_object org n k of (beside (change_to object_form next) [] k same).0);
    } in
    subst (λ (r : ObjectRow). Takes org q t v done SamePlan (change_to object_form (record r { access = changed_access c r.access }) ∷ [])) (sym h.is)
    (subst (λ (a : ObjectAccess). Takes org q t v done SamePlan (change_to object_form (record (row_of_object org t n o.object) { access = a }) ∷ [])) (sym said)
    (subst (λ (y : Verdict). Takes org q t y done SamePlan (change_to object_form next ∷ [])) (sym is) takes))

-- a row after a change has a spelling too
pub access_fits : (row : ObjectRow) (c : ObjectChange) → FitsForm object_form row → FitsForm object_form (record row { access = changed_access c row.access })
access_fits row c f = (f.0, (f.1.0, (has_byte (unwrap_or c.access row.access.access) (unwrap_or c.hierarchy row.access.hierarchy), f.1.1.1)))
  where
    has_byte : (a : Access) (h : Bool) → ((h || by_parent a) || is_own a) ≡ true
    has_byte a true = refl
    has_byte access.Private false = refl
    has_byte access.Read false = refl
    has_byte access.ReadWrite false = refl
    has_byte access.ControlledByParent false = refl
