-- What a record has, by the row that spells it.
use Rattle.std.proofs.Common.{◌≡◌, ◌∙◌, ◌<◌, ℕ, zero, suc, Bool, true, false, cond, List, [], ◌∷◌, Option, Some, None, refl, sym, ap, arith, get_or, length, slice_get}
use Rattle.std.specs.Prelude.{Result, Ok, Err}
use Rattle.std.specs.Option.{option_map}
use Rattle.std.proofs.lemmas.Option.{same_Some as some_inner}
use Rattle.base_value.specs.declared.value.FieldType.TheVariants as type
use Rattle.base_value.specs.declared.value.Value.{Value}
use Rattle.base_value.specs.declared.value.Value.TheVariants as value
use Rattle.formula.specs.Meaning.{value_at}
use Rattle.store_rows.specs.declared.data.DataRow.{DataRow}
use Rattle.store_codec.specs.Gives.{Gives}
use Rattle.store_codec.specs.Plain.{◌>>=◌}
use Rattle.store_codec.specs.declared.fail.CodecFail.{CodecFail}
use Rattle.store_codec.specs.declared.fail.CodecFail.TheVariants.{Damaged, Memory}
use Rattle.model.specs.declared.record.Record.{Record}
use Rattle.store_abstraction.specs.declared.layout.FieldPlace.{FieldPlace}
use Rattle.store_abstraction.specs.declared.layout.Layout.{Layout}
use Rattle.store_view.specs.Slots.{slot_in}
use Rattle.query_plan.specs.Given.{GivesJust}
use Rattle.record_read.specs.Decoding.{all_from, each_from, has_types, read_slot, record_from, value_from}
use Rattle.query_exec.proofs.Offering.{each_cons, each_none}

-- the values of a record: its name's, and those of its fields
pub record Spelled (l : Layout) (row : DataRow) (r : Record) : Type 0 where
  pub first : Value
  pub others : List Value
  pub named : read_slot (type.Text 80) row.name ≡ Some first
  pub rest : each_from (value_from row.slots) l.fields ≡ Some others
  pub is : r ≡ record { id = row.id; owner = row.owner; created = row.created; modified = row.modified; values = first ∷ others }

abbrev made_of : DataRow → List Value → Record
made_of row vs = record { id = row.id; owner = row.owner; created = row.created; modified = row.modified; values = vs }

pub spelled_so : (l : Layout) (row : DataRow) (r : Record) → record_from l row ≡ Some r → Spelled l row r
spelled_so l row r e = typed (has_types l) e
  where
    by : (v : Option Value) (vs : Option (List Value)) → read_slot (type.Text 80) row.name ≡ v → each_from (value_from row.slots) l.fields ≡ vs
        → option_map (made_of row) (v >>= λ x. vs >>= λ xs. Some (x ∷ xs)) ≡ Some r → Spelled l row r
    by None vs named rest e = absurd cc
    by (Some x) None named rest e = absurd cc
    by (Some x) (Some xs) named rest e = record { first = x; others = xs; named = named; rest = rest; is = sym (some_inner (made_of row (x ∷ xs)) r e) }

    typed : (b : Bool) → cond b (option_map (made_of row) (all_from row l.fields)) None ≡ Some r → Spelled l row r
    typed true e = by (read_slot (type.Text 80) row.name) (each_from (value_from row.slots) l.fields) refl refl e
    typed false e = absurd cc

-- ---- what is given

pub gives_just : {X : Type 0} (o : Option X) (x : X) (result : Result X CodecFail) → Gives result o → o ≡ Some x → GivesJust x result
gives_just o x (Ok y) g e = some_inner y x (sym g ∙ e)
gives_just o x (Err Damaged) g e = absurd (apart (sym g ∙ e))
  where
    apart : None ≡ Some x → ⊥
    apart e = cc
gives_just o x (Err Memory) g e = tt

-- ---- fields

-- what `get` of a slice finds
pub item_got : (xs : List FieldPlace) (n : ℕ) (x : FieldPlace) → n < length xs → ((d : FieldPlace) → x ≡ get_or xs n d) → slice_get xs n ≡ Some x
item_got [] n x low is = absurd (omega (arith, low))
item_got (y ∷ ys) zero x low is = ap Some (sym (is y))
item_got (y ∷ ys) (suc n) x low is = item_got ys n x (omega (arith, low)) is

each_at : (make : FieldPlace → Option Value) (fields : List FieldPlace) (vs : List Value) (n : ℕ) (f : FieldPlace) → each_from make fields ≡ Some vs → slice_get fields n ≡ Some f → make f ≡ Some (value_at vs n)
each_at make [] vs n f e at = absurd cc
each_at make (x ∷ fields) vs zero f e at =
    let c = each_cons make x fields vs e in
    ap make (sym (some_inner x f at)) ∙ c.made ∙ ap (λ (ws : List Value). Some (value_at ws 0)) (sym c.is)
each_at make (x ∷ fields) vs (suc n) f e at =
    let c = each_cons make x fields vs e in
    each_at make fields c.others n f c.rest at ∙ ap (λ (ws : List Value). Some (value_at ws (suc n))) (sym c.is)

none_at : (make : FieldPlace → Option Value) (fields : List FieldPlace) (vs : List Value) (n : ℕ) → each_from make fields ≡ Some vs → slice_get fields n ≡ None → value_at vs n ≡ value.Null
none_at make [] vs n e at = ap (λ (ws : List Value). value_at ws n) (each_none make vs e) ∙ none n
  where
    none : (n : ℕ) → value_at [] n ≡ value.Null
    none zero = refl
    none (suc n) = refl
none_at make (x ∷ fields) vs zero e at = absurd cc
none_at make (x ∷ fields) vs (suc n) e at =
    let c = each_cons make x fields vs e in
    ap (λ (ws : List Value). value_at ws (suc n)) c.is ∙ none_at make fields c.others n c.rest at

slot_there : (slots : List (Option (List ℕ))) (n : ℕ) (t : Option (List ℕ)) → slice_get slots n ≡ Some t → slot_in slots n ≡ t
slot_there [] n t at = absurd cc
slot_there (s ∷ slots) zero t at = some_inner s t at
slot_there (s ∷ slots) (suc n) t at = slot_there slots n t at

-- a slot from which a value comes has its text
slot_read : (slots : List (Option (List ℕ))) (f : FieldPlace) (v : Value) → value_from slots f ≡ Some v → read_slot f.kind (slot_in slots f.slot) ≡ Some v
slot_read slots f v e = by (slice_get slots f.slot) refl e
  where
    by : (o : Option (Option (List ℕ))) → slice_get slots f.slot ≡ o → (o >>= read_slot f.kind) ≡ Some v → read_slot f.kind (slot_in slots f.slot) ≡ Some v
    by None at e = absurd cc
    by (Some t) at e = ap (read_slot f.kind) (slot_there slots f.slot t at) ∙ e

module _ (l : Layout) (row : DataRow) (r : Record) (e : record_from l row ≡ Some r) where
  abbrev s : Spelled l row r
  s = spelled_so l row r e

  pub id_is : r.id ≡ row.id
  id_is = ap (λ (x : Record). x.id) s.is

  pub owner_is : r.owner ≡ row.owner
  owner_is = ap (λ (x : Record). x.owner) s.is

  pub created_is : r.created ≡ row.created
  created_is = ap (λ (x : Record). x.created) s.is

  pub modified_is : r.modified ≡ row.modified
  modified_is = ap (λ (x : Record). x.modified) s.is

  values_are : r.values ≡ s.first ∷ s.others
  values_are = ap (λ (x : Record). x.values) s.is

  -- its name
  pub name_read : (result : Result Value CodecFail) → Gives result (read_slot (type.Text 80) row.name) → GivesJust (value_at r.values 0) result
  name_read result g = gives_just (read_slot (type.Text 80) row.name) (value_at r.values 0) result g (s.named ∙ ap (λ (vs : List Value). Some (value_at vs 0)) (sym values_are))

  -- a field's value, and none behind the last field
  pub field_read : (n : ℕ) (f : FieldPlace) (result : Result Value CodecFail) → slice_get l.fields n ≡ Some f → Gives result (read_slot f.kind (slot_in row.slots f.slot)) → GivesJust (value_at r.values (suc n)) result
  field_read n f result at g =
      gives_just (read_slot f.kind (slot_in row.slots f.slot)) (value_at r.values (suc n)) result g
      (slot_read row.slots f (value_at s.others n) (each_at (value_from row.slots) l.fields s.others n f s.rest at) ∙ ap (λ (vs : List Value). Some (value_at vs (suc n))) (sym values_are))

  pub null_read : (n : ℕ) → slice_get l.fields n ≡ None → value.Null ≡ value_at r.values (suc n)
  null_read n at = sym (ap (λ (vs : List Value). value_at vs (suc n)) values_are ∙ none_at (value_from row.slots) l.fields s.others n s.rest at)
