-- A record of a sound tenant's object has its fields where the layout says, with values that fit them.
use Rattle.std.proofs.Common.{◌≡◌, ℕ, zero, suc, ◌+◌, ◌-◌, ◌<◌, ◌≤◌, Bool, true, false, cond, List, [], ◌∷◌, ◌++◌, length, Option, Some, None, refl, sym, ap, ◌∙◌, arith, subst, ℤ}
use Rattle.std.specs.Prelude.{codes, slice_get}
use Rattle.std.specs.List.{AllByRecursion}
use Rattle.std.specs.Option.{option_and_then, option_map}
use Rattle.std.specs.Str.{chars}
use Rattle.std.proofs.Math.Dec.{eqb-suc-zero}
use Rattle.std.proofs.lemmas.Bool.{eqb-true, lt-ltb}
use Rattle.std.proofs.lemmas.Option.{slice_get-map, slice_get_within, same_Some as some_is}
use Rattle.base_lemmas.proofs.Bools.{and_first as and_left, and_second as and_right}
use Rattle.base_lemmas.proofs.Lists.{each_at_number as of_numbered}
use Rattle.formula.specs.Meaning.{value_at}
use Rattle.base_value.specs.Printing.{day_of_moment}
use Rattle.base_value.specs.Values.{valid}
use Rattle.base_value.specs.declared.value.FieldType.{FieldType}
use Rattle.base_value.specs.declared.value.FieldType.TheVariants as type
use Rattle.base_value.specs.declared.value.Value.{Value}
use Rattle.base_value.specs.declared.value.Value.TheVariants as value
use Rattle.model.specs.declared.record.Record.{Record}
use Rattle.model.specs.Cases.{in_case}
use Rattle.model.specs.Fields as model
use Rattle.model.specs.Fields.{as_ref, column_named, columns, custom_columns, is_detail, its_owner, name_column, of_ids, of_type, owner_column, same_name, value_in, value_site}
use Rattle.model.specs.Known.{known}
use Rattle.model.specs.Limits.{name_limit}
use Rattle.model.specs.Membership.{Has}
use Rattle.model.specs.Objects.{is_of, object_number, object_numbered, object_of_record, records_of}
use Rattle.model.specs.Paths.{Asked, field_value}
use Rattle.model.specs.RowsJson.{field_name}
use Rattle.model.specs.Sound.{IsSound}
use Rattle.model.specs.SoundMetadata.{IsSoundObject}
use Rattle.model.specs.SoundRecords.{IsSoundRecord, all_valid, kinds_of}
use Rattle.model.specs.Tenant.{Field, Object, Tenant}
use Rattle.store_abstraction.specs.Layouts.{IsLayout, place_of}
use Rattle.store_abstraction.specs.Plan.{OrgPlan}
use Rattle.store_abstraction.specs.declared.layout.FieldPlace.{FieldPlace}
use Rattle.store_abstraction.specs.declared.layout.Layout.{Layout}
use Rattle.query_plan.specs.declared.check.Site.TheVariants as site
use Rattle.query_check.specs.declared.columns.Column.{Column}
use Rattle.query_plan.specs.Checks.{site_of}
use Rattle.query_bind.specs.inner.Binding.{Fits, IsFound, Knows}
use Rattle.query_check.specs.Columns.{column_in, custom_name, family_of, family_of_type, name_at, place_at, placed, value_place}
use Rattle.query_check.proofs.Joined.{column_is, created_text, custom, id_text, layout_at, modified_text, name_text, object_there, owner_text}
use Rattle.query_plan.proofs.Lists.{all_numbered, at_number, kept, of_each, of_found}

-- ---- values

-- a value that is valid for a type fits the type
valid_fits : (k : FieldType) (v : Value) → valid k v ≡ true → Fits (family_of_type k) v
valid_fits (type.Text most) (value.Ref id) e = absurd cc
valid_fits (type.Text most) v e = tt
valid_fits (type.Number digits decimals) (value.Ref id) e = absurd cc
valid_fits (type.Number digits decimals) v e = tt
valid_fits type.Checkbox (value.Ref id) e = absurd cc
valid_fits type.Checkbox v e = tt
valid_fits type.Day (value.Ref id) e = absurd cc
valid_fits type.Day v e = tt
valid_fits type.Moment (value.Ref id) e = absurd cc
valid_fits type.Moment v e = tt
valid_fits (type.Picklist values) (value.Ref id) e = absurd cc
valid_fits (type.Picklist values) v e = tt
valid_fits (type.Lookup object on_delete) value.Null e = tt
valid_fits (type.Lookup object on_delete) (value.Ref id) e = tt
valid_fits (type.Lookup object on_delete) v e = absurd cc
valid_fits (type.Master object) value.Null e = tt
valid_fits (type.Master object) (value.Ref id) e = tt
valid_fits (type.Master object) v e = absurd cc

valid_at : (ks : List FieldType) (vs : List Value) (i : ℕ) (k : FieldType) → all_valid ks vs ≡ true → slice_get ks i ≡ Some k → valid k (value_at vs i) ≡ true
valid_at [] vs i k e at = absurd cc
valid_at (x ∷ ks) [] i k e at = absurd cc
valid_at (x ∷ ks) (v ∷ vs) zero k e at = subst (λ (z : FieldType). valid z v ≡ true) (some_is x k at) (and_left (valid x v) (all_valid ks vs) e)
valid_at (x ∷ ks) (v ∷ vs) (suc i) k e at = valid_at ks vs i k (and_right (valid x v) (all_valid ks vs) e) at

owner_fits : (o : Option (List ℕ)) → Fits (family_of of_ids) (as_ref o)
owner_fits None = tt
owner_fits (Some id) = tt

-- ---- columns

-- a column is where the layout has it, under its name, and the record's value there fits it
record IsPlaced (l : Layout) (r : Record) (c : model.Column) : Type 0 where
  there : site_of (place_at c.at) ≡ c.at
  fits : Fits (family_of c.content) (value_in c.at r)
  named : name_at l (place_at c.at) ≡ c.name

within : (n : ℕ) → n < 256 → value_place n ≡ site.Value n
within n lt = ap (λ b. site.Value (cond b n 255)) (lt-ltb n 256 lt)

custom_named : (fs : List FieldPlace) (i n : ℕ) (f : FieldPlace) → 1 + i ≡ n → slice_get fs i ≡ Some f → custom_name fs n ≡ f.name
custom_named fs i n f e at =
    let less : n - 1 ≡ i = omega (arith, e) in
    ap (λ (m : ℕ). in_case (slice_get fs m) (chars (codes "")) (λ (f : FieldPlace). f.name)) less ∙ ap (λ (x : Option FieldPlace). in_case x (chars (codes "")) (λ (f : FieldPlace). f.name)) at

module _ (q : OrgPlan) (t : Tenant) (l : Layout) (o : Object) (r : Record) (few : length o.fields ≤ 40) (sound : all_valid (kinds_of o) r.values ≡ true) where
  abbrev here : Layout
  here = layout_at l q t o

  custom_placed : (i n : ℕ) (f : Field) → 1 + i ≡ n → slice_get o.fields i ≡ Some f → IsPlaced here r (custom (n, f))
  custom_placed i n f e at =
      let inside : i < length o.fields = slice_get_within o.fields i f at in
      let place = within n (omega (arith, e, inside, few)) in
      let kind : slice_get (kinds_of o) (suc i) ≡ Some f.kind = slice_get-map (λ (f : Field). f.kind) o.fields i ∙ ap (λ x. option_map (λ (f : Field). f.kind) x) at in
      let same : suc i ≡ n = omega (arith, e) in
      record {
        there = ap site_of place;
        fits = valid_fits f.kind (value_at r.values n) (subst (λ (m : ℕ). valid f.kind (value_at r.values m) ≡ true) same (valid_at (kinds_of o) r.values (suc i) f.kind sound kind));
        named = ap (name_at here) place ∙ named n e;
      }
    where
      named : (n : ℕ) → 1 + i ≡ n → name_at here (site.Value n) ≡ f.name
      named zero e = absurd (omega (arith, e))
      named (suc m) e =
          ap (λ b. cond b (chars (codes "Name")) (custom_name here.fields (suc m))) (eqb-suc-zero m)
          ∙ custom_named here.fields i (suc m) (place_of q l.object (i, f)) e (at_number (place_of q l.object) o.fields 0 i i f (omega arith) at)

  owners_placed : (b : Bool) → (xs : List model.Column) → AllByRecursion (IsPlaced here r) xs → AllByRecursion (IsPlaced here r) (cond b [] (owner_column ∷ []) ++ xs)
  owners_placed true xs all = all
  owners_placed false xs all = (record { there = refl; fits = owner_fits r.owner; named = owner_text }, all)

  all_placed : AllByRecursion (IsPlaced here r) (columns o)
  all_placed = (
    record { there = refl; fits = tt; named = id_text },
    (
      record { there = refl; fits = tt; named = created_text },
      (
        record { there = refl; fits = tt; named = modified_text },
        (
          record { there = refl; fits = valid_fits (type.Text name_limit) (value_at r.values 0) (valid_at (kinds_of o) r.values 0 (type.Text name_limit) sound refl); named = name_text },
          owners_placed (is_detail o) (custom_columns o) (all_numbered (IsPlaced here r) custom o.fields 1 (λ i n f e at. custom_placed i n f e at)),
        ),
      ),
    ),
  )

  named_placed : (name : List ℕ) (m : model.Column) → column_named o name ≡ Some m → IsPlaced here r m
  unfolding column_named
  named_placed name m e = of_found (IsPlaced here r) (λ c. same_name c.name name) (columns o) m all_placed e

  pub found_there : object_of_record t r ≡ Some o → (a : Asked) → a.tenant ≡ t → here ≡ l → (name : List ℕ) (c : Column) → column_in l name ≡ Some c → IsFound a l r name c
  found_there its a of same name c e = by (column_named o name) refl (column_is q t l o name same ∙ e)
    where
      by : (x : Option model.Column) → column_named o name ≡ x → option_map placed x ≡ Some c → IsFound a l r name c
      by None is e = absurd cc
      by (Some m) is e =
          let it : placed m ≡ c = some_is (placed m) c e in
          let p = named_placed name m is in
          let held : option_and_then (λ o. column_named o name) (object_of_record t r) ≡ Some m = ap (λ (x : Option Object). option_and_then (λ o. column_named o name) x) its ∙ is in
          let value : field_value t r name ≡ value_in m.at r = ap (λ (x : Option model.Column). in_case x value.Null (λ (c : model.Column). value_in c.at r)) held in
          let named : field_name a r name ≡ m.name =
          ap (λ (u : Tenant). in_case (option_and_then (λ o. column_named o name) (object_of_record u r)) name (λ (c : model.Column). c.name)) of
          ∙ ap (λ (x : Option model.Column). in_case x name (λ (c : model.Column). c.name)) held in
          record {
            value = ap (λ (u : Tenant). field_value u r name) of ∙ value ∙ ap (λ s. value_in s r) (sym p.there) ∙ ap (λ (d : Column). value_in (site_of d.site) r) it;
            fits = subst (λ (d : Column). Fits d.family (value_in (site_of d.site) r)) it (subst (λ s. Fits (family_of m.content) (value_in s r)) (sym p.there) p.fits);
            declared = named ∙ sym p.named ∙ ap (λ (x : Layout). name_at x (place_at m.at)) same ∙ ap (λ (d : Column). name_at l d.site) it;
          }

-- ---- of a sound tenant

sound_object : (t : Tenant) (n : ℕ) (o : Object) → IsSound t → object_numbered t n ≡ Some o → IsSoundObject t.objects (record { number = n; object = o })
sound_object t n o s e =
    of_numbered (IsSoundObject t.objects) (λ (x : ℕ × Object). record { number = x.0; object = x.1 }) t.objects 0 n n o (omega arith) e s.metadata.objects

pub known_of : (q : OrgPlan) (a : Asked) (l : Layout) (day : ℤ) (r : Record) → IsLayout q a.tenant l → IsSound a.tenant → day ≡ day_of_moment a.now → Has (records_of a.tenant l.object) r → Knows a l day r
known_of q a l day r e s today has =
    let t = a.tenant in
    let o = object_there q t l e in
    let k = kept (is_of l.object) t.records r has in
    let number : object_number r.id ≡ l.object = eqb-true (object_number r.id) l.object k.1 in
    let its : object_of_record t r ≡ Some o.0 = ap (object_numbered t) number ∙ o.1 in
    let sound = of_each (IsSoundRecord (known t) t.objects) t.records r s.records.each k.0 in
    let own : sound.object ≡ o.0 = some_is sound.object o.0 (sym sound.there ∙ its) in
    let values : all_valid (kinds_of o.0) r.values ≡ true = subst (λ (x : Object). all_valid (kinds_of x) r.values ≡ true) own sound.values in
    record {
      today = today;
      found = found_there q t l o.0 r (sound_object t l.object o.0 s o.1).few_fields values its a refl o.2;
    }
