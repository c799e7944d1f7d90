-- The text of a valid value in its slot reads back as the value.
use Rattle.std.proofs.Common.{◌≡◌, ℕ, Bool, true, false, IsTrue, List, [], ◌∷◌, ◌++◌, length, take, drop, Some, refl, sym, ap, ◌∙◌, append-nil, eqb-true}
use Rattle.std.specs.Prelude.{Ok, ◌==◌}
use Rattle.std.specs.List.{list_all}
use Rattle.std.proofs.lemmas.List.{take_at, drop_at}
use Rattle.base_lemmas.proofs.Bools.{and_first as and_left}
use Rattle.base_value.specs.Conversion.{where_read}
use Rattle.base_value.specs.Id.{id_in, is_digit62, is_id}
use Rattle.base_value.specs.Printing.{print_value}
use Rattle.base_value.specs.Reading.{read_truth, read_value, read_written}
use Rattle.base_value.specs.Types.{is_type}
use Rattle.base_value.specs.Values.{valid}
use Rattle.base_value.specs.declared.value.FieldType.{FieldType}
use Rattle.base_value.specs.declared.value.FieldType.TheVariants as type
use Rattle.base_value.specs.declared.value.Value.{Value}
use Rattle.base_value.specs.declared.value.Value.TheVariants as value
use Rattle.store_abstraction.specs.Entries.{name_text, slot_text}
use Rattle.record_read.specs.Decoding.{read_slot}

-- what `base_value` says of what is printed
abbrev pub PrintsBack : Type 0
PrintsBack = (kind : FieldType) (v : Value) → IsTrue (is_type kind) → IsTrue (valid kind v) → read_value kind (print_value v) ≡ Ok v

-- the fifteen characters of an id are one of its texts
id_reads : (id : List ℕ) → IsTrue (is_id id) → id_in id ≡ Some id
unfolding id_in
id_reads id h =
    let size : length id ≡ 15 = eqb-true (length id) 15 (and_left (length id == 15) (list_all is_digit62 id) h) in
    let parts : id ≡ id ++ [] = sym (append-nil id) in
    let front : take 15 id ≡ id = ap (take 15) parts ∙ take_at id [] 15 size in
    let behind : drop 15 id ≡ [] = ap (drop 15) parts ∙ drop_at id [] 15 size in
    rw (front, behind, h) refl

-- an id isn't the empty text
id_written : (kind : FieldType) (id : List ℕ) → IsTrue (is_id id) → read_value kind id ≡ read_written kind id
id_written kind [] h = absurd cc
id_written kind (c ∷ cs) h = refl

id_back : (kind : FieldType) (id : List ℕ) → IsTrue (valid kind (value.Ref id)) → where_read (read_value kind id) ≡ Some (value.Ref id)
id_back (type.Lookup object on_delete) id h = rw (id_written (type.Lookup object on_delete) id h, id_reads id h) refl
id_back (type.Master object) id h = rw (id_written (type.Master object) id h, id_reads id h) refl
id_back (type.Text most) id h = absurd cc
id_back (type.Number digits decimals) id h = absurd cc
id_back type.Checkbox id h = absurd cc
id_back type.Day id h = absurd cc
id_back type.Moment id h = absurd cc
id_back (type.Picklist values) id h = absurd cc

truth_back : (kind : FieldType) (truth : Bool) → IsTrue (valid kind (value.Bool truth)) → read_slot kind (slot_text (value.Bool truth)) ≡ Some (value.Bool truth)
unfolding read_truth
truth_back type.Checkbox true h = refl
truth_back type.Checkbox false h = refl
truth_back (type.Text most) truth h = absurd cc
truth_back (type.Number digits decimals) truth h = absurd cc
truth_back type.Day truth h = absurd cc
truth_back type.Moment truth h = absurd cc
truth_back (type.Picklist values) truth h = absurd cc
truth_back (type.Lookup object on_delete) truth h = absurd cc
truth_back (type.Master object) truth h = absurd cc

pub slot_back : PrintsBack → (kind : FieldType) (v : Value) → IsTrue (is_type kind) → IsTrue (valid kind v) → read_slot kind (slot_text v) ≡ Some v
slot_back prints kind value.Null typed h = ap where_read (prints kind value.Null typed h)
slot_back prints kind (value.Text cs) typed h = ap where_read (prints kind (value.Text cs) typed h)
slot_back prints kind (value.Num count) typed h = ap where_read (prints kind (value.Num count) typed h)
slot_back prints kind (value.Bool truth) typed h = truth_back kind truth h
slot_back prints kind (value.Day day) typed h = ap where_read (prints kind (value.Day day) typed h)
slot_back prints kind (value.Moment second) typed h = ap where_read (prints kind (value.Moment second) typed h)
slot_back prints kind (value.Ref id) typed h = id_back kind id h

pub name_back : PrintsBack → (v : Value) → IsTrue (valid (type.Text 80) v) → read_slot (type.Text 80) (name_text v) ≡ Some v
name_back prints value.Null h = ap where_read (prints (type.Text 80) value.Null refl h)
name_back prints (value.Text cs) h = ap where_read (prints (type.Text 80) (value.Text cs) refl h)
name_back prints (value.Num count) h = absurd cc
name_back prints (value.Bool truth) h = absurd cc
name_back prints (value.Day day) h = absurd cc
name_back prints (value.Moment second) h = absurd cc
name_back prints (value.Ref id) h = absurd cc
