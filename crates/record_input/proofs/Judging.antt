-- Values that are judged one after another.
use Rattle.std.proofs.Common.{◌≡◌, inl, inr, ℕ, ◌+◌, IsTrue, List, [], ◌∷◌, ◌++◌, map, length, append_assoc, Some, None, Ok, Err, refl, sym, ap, subst, ◌∙◌}
use Rattle.std.specs.List.{list_all}
use Rattle.std.proofs.lemmas.List.{append-nil, length-append, map-append}
use Rattle.base_lemmas.proofs.Bools.{and_first as and_left, and_second as and_right}
use Rattle.base_value.specs.Types.{is_type}
use Rattle.base_value.specs.declared.value.Value.{Value}
use Rattle.formula.specs.Meaning.{value_at}
use Rattle.model.specs.declared.record.Record.{Record}
use Rattle.model.specs.declared.record_bodies.Assignment.{Assignment}
use Rattle.model.specs.declared.refusal.Refusal.{Refusal}
use Rattle.model.specs.Cases.{in_case}
use Rattle.model.specs.Edits.{bad_value, given_to}
use Rattle.model.specs.Fields.{Column, custom_columns, name_column, owner_columns}
use Rattle.model.specs.Membership.{Has}
use Rattle.model.specs.Rules.{Rule, first_refusal}
use Rattle.model.specs.Tenant.{Object, Tenant}
use Rattle.store_abstraction.specs.declared.layout.FieldPlace.{FieldPlace}
use Rattle.record_input.specs.declared.key.AllGiven.{AllGiven}
use Rattle.record_input.specs.declared.unread.Unread.{Unread}
use Rattle.record_input.specs.declared.unread.Unread.TheVariants.{Refused, Memory}
use Rattle.record_input.specs.Given.{FindsFor, all_given}
use Rattle.record_input.specs.inner.Fields.{column_at, columns_from}
use Rattle.record_input.specs.inner.Found.{FindsAmong}
use Rattle.record_input.specs.inner.Read.{JudgesValue, Refuses, refused, refused_among, value_over}

-- these values were read, none of them refused, and those of the rest are still to be read
pub record Judged (t : Tenant) (x : AllGiven) (old : Record) (fields : List FieldPlace) (name : Value) (rest : List FieldPlace) (read : List Value) : Type 0 where
  pub known : FindsAmong t x.found.now x.body.now (columns_from (length read) rest)
  pub types : IsTrue (list_all (λ f. is_type f.kind) rest)
  pub rules : refused_among t (all_given x) (columns_from 1 fields) ≡ refused_among t (all_given x) (columns_from (length read) rest)
  pub values : read ++ map (value_over t (all_given x) old) (columns_from (length read) rest) ≡ name ∷ map (value_over t (all_given x) old) (columns_from 1 fields)

pub judged_first : (t : Tenant) (x : AllGiven) (old : Record) (fields : List FieldPlace) (name : Value)
    → IsTrue (list_all (λ f. is_type f.kind) fields) → FindsAmong t x.found.now x.body.now (columns_from 1 fields) → Judged t x old fields name fields (name ∷ [])
judged_first t x old fields name types known = record { known = known; types = types; rules = refl; values = refl }

-- what is given to the next column, at its position
pub known_at : (t : Tenant) (x : AllGiven) (old : Record) (fields : List FieldPlace) (name : Value) (f : FieldPlace) (more : List FieldPlace) (values : List Value) (position : ℕ) → length values ≡ position
    → Judged t x old fields name (f ∷ more) values → FindsFor t x.found.now x.body.now (column_at position f)
known_at t x old fields name f more values position is j =
    subst (λ (k : ℕ). FindsFor t x.found.now x.body.now (column_at k f)) is (j.known (column_at (length values) f) (inl refl))

pub type_here : (f : FieldPlace) (more : List FieldPlace) → IsTrue (list_all (λ f. is_type f.kind) (f ∷ more)) → IsTrue (is_type f.kind)
type_here f more = and_left (is_type f.kind) (list_all (λ f. is_type f.kind) more)

passes : (rule : Rule) (rules : List Rule) → rule ≡ None → first_refusal (rule ∷ rules) ≡ first_refusal rules
passes rule rules none = rw none refl

refuses : (rule : Rule) (rules : List Rule) (refusal : Refusal) → rule ≡ Some refusal → first_refusal (rule ∷ rules) ≡ Some refusal
refuses rule rules refusal some = rw some refl

pub judged_more : (t : Tenant) (x : AllGiven) (old : Record) (fields : List FieldPlace) (name : Value) (f : FieldPlace) (more : List FieldPlace) (values : List Value) (v : Value)
    → Judged t x old fields name (f ∷ more) values
    → JudgesValue (given_to t (all_given x) (column_at (length values) f)) (value_at old.values (length values)) (Ok v)
    → Judged t x old fields name more (values ++ v ∷ [])
judged_more t x old fields name f more values v j (none, is) =
    let count : length (values ++ v ∷ []) ≡ length values + 1 = length-append values (v ∷ []) in
    let over = value_over t (all_given x) old in
    record {
      known = λ c has. j.known c (inr (subst (λ (k : ℕ). Has (columns_from k more) c) count has));
      types = and_right (is_type f.kind) (list_all (λ f. is_type f.kind) more) j.types;
      rules = j.rules ∙ passes (refused (given_to t (all_given x) (column_at (length values) f))) (map (λ c. refused (given_to t (all_given x) c)) (columns_from (length values + 1) more)) none
          ∙ ap (λ (k : ℕ). refused_among t (all_given x) (columns_from k more)) (sym count);
      values = append_assoc values (v ∷ []) (map over (columns_from (length (values ++ v ∷ [])) more))
          ∙ ap (λ (k : ℕ). values ++ v ∷ map over (columns_from k more)) count
          ∙ ap (λ (x : Value). values ++ x ∷ map over (columns_from (length values + 1) more)) is
          ∙ j.values;
    }

pub judged_last : (t : Tenant) (x : AllGiven) (old : Record) (fields : List FieldPlace) (name : Value) (values : List Value)
    → Judged t x old fields name [] values
    → (refused_among t (all_given x) (columns_from 1 fields) ≡ None) × (values ≡ name ∷ map (value_over t (all_given x) old) (columns_from 1 fields))
judged_last t x old fields name values j = (j.rules, sym (append-nil values) ∙ j.values)

pub judged_refused : (t : Tenant) (x : AllGiven) (old : Record) (fields : List FieldPlace) (name : Value) (f : FieldPlace) (more : List FieldPlace) (values : List Value) (e : Unread)
    → Judged t x old fields name (f ∷ more) values
    → JudgesValue (given_to t (all_given x) (column_at (length values) f)) (value_at old.values (length values)) (Err e)
    → Refuses (refused_among t (all_given x) (columns_from 1 fields)) e
judged_refused t x old fields name f more values (Refused refusal) j some =
    j.rules ∙ refuses (refused (given_to t (all_given x) (column_at (length values) f))) (map (λ c. refused (given_to t (all_given x) c)) (columns_from (length values + 1) more)) refusal some
judged_refused t x old fields name f more values Memory j some = tt

-- ---- the name, the owner and the custom fields

first_append : (rules more : List Rule) → first_refusal (rules ++ more) ≡ in_case (first_refusal rules) (first_refusal more) (λ r. Some r)
first_append [] more = refl
first_append (Some refusal ∷ rules) more = refl
first_append (None ∷ rules) more = first_append rules more

pub name_refused : (t : Tenant) (o : Object) (given : List Assignment) (refusal : Refusal)
    → refused (given_to t given name_column) ≡ Some refusal → bad_value t o given ≡ Some refusal
name_refused t o given refusal name =
    refuses (refused (given_to t given name_column)) (map (λ c. refused (given_to t given c)) (owner_columns o ++ custom_columns o)) refusal name

behind_name : (t : Tenant) (o : Object) (given : List Assignment) → refused (given_to t given name_column) ≡ None
    → bad_value t o given ≡ in_case (refused_among t given (owner_columns o)) (refused_among t given (custom_columns o)) (λ r. Some r)
behind_name t o given name =
    let rule = λ (c : Column). refused (given_to t given c) in
    passes (rule name_column) (map rule (owner_columns o ++ custom_columns o)) name
    ∙ ap first_refusal (map-append rule (owner_columns o) (custom_columns o))
    ∙ first_append (map rule (owner_columns o)) (map rule (custom_columns o))

pub owner_refused : (t : Tenant) (o : Object) (given : List Assignment) (refusal : Refusal)
    → refused (given_to t given name_column) ≡ None → refused_among t given (owner_columns o) ≡ Some refusal → bad_value t o given ≡ Some refusal
owner_refused t o given refusal name owner = behind_name t o given name ∙ rw owner refl

pub fields_judged : (t : Tenant) (o : Object) (given : List Assignment)
    → refused (given_to t given name_column) ≡ None → refused_among t given (owner_columns o) ≡ None
    → bad_value t o given ≡ refused_among t given (custom_columns o)
fields_judged t o given name owner = behind_name t o given name ∙ rw owner refl

-- ---- what is said of an error under the rule of all

pub name_stops : (t : Tenant) (o : Object) (given : List Assignment) (e : Unread)
    → Refuses (refused (given_to t given name_column)) e → Refuses (bad_value t o given) e
name_stops t o given (Refused refusal) name = name_refused t o given refusal name
name_stops t o given Memory name = tt

pub owner_stops : (t : Tenant) (o : Object) (given : List Assignment) (e : Unread)
    → refused (given_to t given name_column) ≡ None → Refuses (refused_among t given (owner_columns o)) e → Refuses (bad_value t o given) e
owner_stops t o given (Refused refusal) name owner = owner_refused t o given refusal name owner
owner_stops t o given Memory name owner = tt

-- `creating` hands it to its tactic by this name
pub no_more : (vs : List Value) → vs ++ [] ≡ vs
no_more vs = append-nil vs

-- the same, where the columns are those of other fields
pub error_of_fields : (t : Tenant) (o : Object) (given : List Assignment) (fields : List FieldPlace) (e : Unread)
    → columns_from 1 fields ≡ custom_columns o
    → refused (given_to t given name_column) ≡ None → refused_among t given (owner_columns o) ≡ None
    → Refuses (refused_among t given (columns_from 1 fields)) e → Refuses (bad_value t o given) e
error_of_fields t o given fields (Refused refusal) same name owner judged = fields_judged t o given name owner ∙ ap (refused_among t given) (sym same) ∙ judged
error_of_fields t o given fields Memory same name owner judged = tt
