-- What an edit writes into a record is sound, where no rule refuses it.
use Rattle.std.proofs.Common.{◌≡◌, ℕ, zero, suc, ◌+◌, Bool, true, false, not, ◌&&◌, ◌||◌, ◌==◌, cond, List, [], ◌∷◌, ◌++◌, map, filter, Option, Some, None, is_some, is_none, refl, ap, sym, subst, ◌∙◌, arith, inl, inr, bytes_eq, slice_get}
use Rattle.std.specs.List.{enumerate_from, find, flat_map, list_all}
use Rattle.std.specs.Option.{option_and_then, option_eq, option_map, option_or, unwrap_or}
use Rattle.std.proofs.lemmas.Option.{slice_get-map}
use Rattle.std.proofs.lemmas.Bool.{and_from as both, not-false as holds_not}
use Rattle.base_lemmas.proofs.Bools.{and_first as both_left, and_second as both_right, by_answer as pick}
use Rattle.base_lemmas.proofs.Texts.{same_from_bytes_eq as same_exact}
use Rattle.base_value.specs.Reading.{empty_value}
use Rattle.base_value.specs.Values.{equal, same_value, valid}
use Rattle.base_value.specs.declared.value.FieldType.{FieldType}
use Rattle.base_value.specs.declared.value.FieldType.TheVariants as type
use Rattle.base_value.specs.declared.value.Value.{Value}
use Rattle.base_value.specs.declared.value.Value.TheVariants as value
use Rattle.formula.specs.Meaning.{value_at}
use Rattle.model.specs.declared.record.Record.{Record}
use Rattle.model.specs.declared.refusal.Refusal.TheVariants as refusal
use Rattle.model.specs.Cases.{in_case}
use Rattle.model.specs.Edits.{bad_owner, bad_reference, bad_target, clash, duplicate, duplicate_of, given_owner, is_target, missing, required_missing, same_owner}
use Rattle.model.specs.Fields.{is_detail, is_master, is_null, owner_column, ref_of}
use Rattle.model.specs.declared.record_bodies.Assignment.{Assignment}
use Rattle.model.specs.Given.{has_value}
use Rattle.model.specs.Known.{item_of, known}
use Rattle.model.specs.Levels.{can_read}
use Rattle.model.specs.Membership.{Has}
use Rattle.model.specs.Objects.{Numbered, is_of, object_number, record_at, records_of}
use Rattle.model.specs.Paths.{Asked}
use Rattle.model.specs.Relationships.{Reference, reference_at, references_of, target_of}
use Rattle.model.specs.Rules.{Rule, first_of, first_refusal, refuse_if}
use Rattle.model.specs.SoundRecords.{all_valid, is_sound_owner, is_sound_reference, kinds_of, record_id}
use Rattle.model.specs.Tenant.{Field, Object, Tenant}
use Rattle.model.specs.World.{user_at}
use Rattle.model_invariant.proofs.Parts.{kept_among, list_all_from, none_refuses, unrefused}
use Rattle.model_invariant.proofs.Growing.{some_of}
use Rattle.model_invariant.proofs.Roles.{found_at}

-- ---- rules over lists
pub none_for_each : {A : Type 0} (f : A → Rule) (xs : List A) → first_of f xs ≡ None → (x : A) → Has xs x → f x ≡ None
none_for_each f [] e x m = absurd m
none_for_each f (y ∷ xs) e x (inl i) = ap f i ∙ (none_refuses (f y ∷ map f xs) e).0
none_for_each f (y ∷ xs) e x (inr m) = none_for_each f xs (rest (f y) e) x m
  where
    rest : (r : Rule) → first_refusal (r ∷ map f xs) ≡ None → first_refusal (map f xs) ≡ None
    rest None e = e
    rest (Some z) e = absurd cc

pub none_found : {A : Type 0} (p : A → Bool) (xs : List A) → find p xs ≡ None → (x : A) → Has xs x → p x ≡ false
none_found p [] e x m = absurd m
none_found p (y ∷ xs) e x m = by (p y) refl e m (none_found p xs)
  where
    by : (b : Bool) → p y ≡ b → cond b (Some y) (find p xs) ≡ None → Has (y ∷ xs) x → (find p xs ≡ None → (x : _) → Has xs x → p x ≡ false) → p x ≡ false
    by true t e m more = absurd cc
    by false t e (inl i) more = ap p i ∙ t
    by false t e (inr m) more = more e x m

-- what is at a place is among what is numbered
pub has_numbered : {A : Type 0} (n i : ℕ) (xs : List A) (x : A) → slice_get xs i ≡ Some x → Has (enumerate_from n xs) (n + i, x)
has_numbered n i [] x e = absurd cc
has_numbered n zero (y ∷ xs) x e = let same : y ≡ x = ap (λ o. unwrap_or o y) e in let one : n + zero ≡ n = omega arith in inl (λ i. (one i, sym same i))
has_numbered n (suc i) (y ∷ xs) x e =
    let one : n + 1 + i ≡ n + suc i = omega arith in
    inr (subst (λ (k : ℕ). Has (enumerate_from ((n + 1)) xs) (k, x)) one (has_numbered ((n + 1)) i xs x e))

-- ---- a value at its place
pub valid_at : (ks : List FieldType) (vs : List Value) (i : ℕ) (k : FieldType) → all_valid ks vs ≡ true → slice_get ks i ≡ Some k → valid k (value_at vs i) ≡ true
valid_at [] vs i k h e = absurd cc
valid_at (x ∷ ks) [] i k h e = absurd cc
valid_at (x ∷ ks) (v ∷ vs) zero k h e = ap (λ z. valid z v) (sym (ap (λ o. unwrap_or o x) e)) ∙ both_left (valid x v) (all_valid ks vs) h
valid_at (x ∷ ks) (v ∷ vs) (suc i) k h e = valid_at ks vs i k (both_right (valid x v) (all_valid ks vs) h) e

-- a reference is at its field's place
pub record At (o : Numbered) (f : Reference) : Type 0 where
  pub place : ℕ
  pub is : f.position ≡ suc place
  pub field : slice_get o.object.fields place ≡ Some f.field
  pub target : target_of f.field.kind ≡ Some f.target
  pub object : f.object ≡ o.number

pub reference_in : (object n : ℕ) (fs : List Field) (f : Reference) → Has (flat_map (reference_at object) (enumerate_from n fs)) f
    → (i : ℕ) × (f.position ≡ n + i) × (slice_get fs i ≡ Some f.field) × (target_of f.field.kind ≡ Some f.target) × (f.object ≡ object)
reference_in object n [] f m = absurd m
reference_in object n (x ∷ fs) f m = by (target_of x.kind) refl m (reference_in object (n + 1) fs f)
  where
    by : (target : Option ℕ) → target_of x.kind ≡ target
        → Has (in_case target [] (λ t. record { object = object; position = n; field = x; target = t } ∷ []) ++ flat_map (reference_at object) (enumerate_from (n + 1) fs)) f
        → (Has (flat_map (reference_at object) (enumerate_from (n + 1) fs)) f → (i : ℕ) × (f.position ≡ n + 1 + i) × (slice_get fs i ≡ Some f.field) × (target_of f.field.kind ≡ Some f.target) × (f.object ≡ object))
        → (i : ℕ) × (f.position ≡ n + i) × (slice_get (x ∷ fs) i ≡ Some f.field) × (target_of f.field.kind ≡ Some f.target) × (f.object ≡ object)
    by None e m more = let r = more m in (suc r.0, r.1 ∙ omega arith, r.2, r.3, r.4)
    by (Some t) e (inl is) more =
        (0, ap (λ (z : Reference). z.position) is ∙ omega arith, ap (λ (z : Reference). Some z.field) (sym is), ap (λ (z : Reference). target_of z.field.kind) is ∙ e ∙ ap (λ (z : Reference). Some z.target) (sym is), ap (λ (z : Reference). z.object) is)
    by (Some t) e (inr m) more = let r = more m in (suc r.0, r.1 ∙ omega arith, r.2, r.3, r.4)

pub reference_place : (o : Numbered) (f : Reference) → Has (references_of o) f → At o f
reference_place o f m =
    let r = reference_in o.number 1 o.object.fields f m in
    record { place = r.0; is = r.1 ∙ omega arith; field = r.2; target = r.3; object = r.4 }

pub kind_at : (o : Object) (i : ℕ) (f : Field) → slice_get o.fields i ≡ Some f → slice_get (kinds_of o) (suc i) ≡ Some f.kind
kind_at o i f e = slice_get-map (λ (f : Field). f.kind) o.fields i ∙ ap (option_map (λ (f : Field). f.kind)) e

-- ---- a Master value isn't null
master_ref : (k : FieldType) (v : Value) → is_master k ≡ true → valid k v ≡ true → is_null v ≡ false → ref_of v ≡ None → ⊥
master_ref (type.Master object) (value.Ref id) m w n e = cc
master_ref k v m w n e = cc

missing_at : (i : ℕ) (o : Object) (new : Record) (f : Field) → required_missing o new ≡ None → slice_get o.fields i ≡ Some f → is_master f.kind ≡ true → is_null (value_at new.values (1 + i)) ≡ false
missing_at i o new f h e m =
    let rule = none_for_each (missing new) (enumerate_from 1 o.fields) h (1 + i, f) (has_numbered 1 i o.fields f e) in
    parts f.required (is_master f.kind) (is_null (value_at new.values (1 + i))) m
    (unrefused ((f.required || is_master f.kind) && is_null (value_at new.values (1 + i))) (refusal.RequiredMissing f.name) rule)
  where
    parts : (a b c : Bool) → b ≡ true → ((a || b) && c) ≡ false → c ≡ false
    parts true b c p h = h
    parts false true c p h = h
    parts false false c p h = absurd cc

-- ---- the owner
pub owner_sound : (t : Tenant) (o : Object) (given : List Assignment) (old new : Record) → new.owner ≡ option_or (given_owner t o given) old.owner → is_sound_owner (known t) o old.owner ≡ true
    → bad_owner t old new ≡ None → is_sound_owner (known t) o new.owner ≡ true
owner_sound t o given old new is h e = by (is_detail o) old.owner new.owner _ is h (unrefused (not (same_owner old new) && is_none (option_and_then (user_at t.users) new.owner)) (refusal.InvalidReference owner_column.name) e)
  where
    by : (d : Bool) → (a b x : Option (List ℕ)) → b ≡ option_or (cond d None x) a → in_case a d (λ i. not d && (known t).user i) ≡ true
        → (not (option_eq bytes_eq a b) && is_none (option_and_then (user_at t.users) b)) ≡ false → in_case b d (λ i. not d && (known t).user i) ≡ true
    by true a b x is h e = subst (λ (z : Option (List ℕ)). in_case z true (λ i. not true && (known t).user i) ≡ true) (sym is) h
    by false None b x is h e = absurd cc
    by false (Some i) b None is h e = subst (λ (z : Option (List ℕ)). in_case z false (λ i. not false && (known t).user i) ≡ true) (sym is) h
    by false (Some i) b (Some j) is h e =
        subst (λ (z : Option (List ℕ)). in_case z false (λ i. not false && (known t).user i) ≡ true) (sym is) (
        pick (bytes_eq i j) (λ b. (not b && is_none (user_at t.users j)) ≡ false → (known t).user j ≡ true)
        (λ same _. subst (λ (z : List ℕ). (known t).user z ≡ true) (same_exact i j same) h)
        (λ _ no. some_of (user_at t.users j) no)
        (subst (λ (z : Option (List ℕ)). (not (option_eq bytes_eq (Some i) z) && is_none (option_and_then (user_at t.users) z)) ≡ false) is e))

-- ---- references
pub references_sound : (a : Asked) (o : Numbered) (old new : Record) → bad_target a o old new ≡ None → required_missing o.object new ≡ None → all_valid (kinds_of o.object) new.values ≡ true
    → ((f : Reference) → Has (references_of o) f → (id : List ℕ) → same_value (value_at old.values f.position) (value.Ref id) ≡ true → item_of (known a.tenant) f.target id ≡ true)
    → list_all (is_sound_reference (known a.tenant) new.values) (references_of o) ≡ true
references_sound a o old new target missing fit before =
    list_all_from (is_sound_reference (known a.tenant) new.values) (references_of o) (λ f m.
    by f m (ref_of (value_at new.values f.position)) refl (none_for_each (bad_reference a old new) (references_of o) (second target) f m))
  where
    second : first_refusal (bad_owner a.tenant old new ∷ first_of (bad_reference a old new) (references_of o) ∷ []) ≡ None → first_of (bad_reference a old new) (references_of o) ≡ None
    second e = (none_refuses (bad_owner a.tenant old new ∷ first_of (bad_reference a old new) (references_of o) ∷ []) e).1.0

    known_target : (n : ℕ) (id : List ℕ) → is_target a n id ≡ true → item_of (known a.tenant) n id ≡ true
    known_target n id h = found (record_at a.tenant id) refl h
      where
        found : (r : Option Record) → record_at a.tenant id ≡ r → in_case (option_and_then (λ r. cond (is_of n r) (Some r) None) r) false (can_read a.tenant a.user) ≡ true → (is_some (record_at a.tenant id) && (object_number id == n)) ≡ true
        found None e h = absurd cc
        found (Some r) e h = its (is_of n r) refl h
          where
            its : (b : Bool) → is_of n r ≡ b → in_case (cond b (Some r) None) false (can_read a.tenant a.user) ≡ true → (is_some (record_at a.tenant id) && (object_number id == n)) ≡ true
            its true w h = both (is_some (record_at a.tenant id)) (object_number id == n) (ap is_some e) (ap (λ (i : List ℕ). object_number i == n) ((found_at record_id a.tenant.records id r e).1) ∙ w)
            its false w h = absurd cc

    by : (f : Reference) → Has (references_of o) f → (r : Option (List ℕ)) → ref_of (value_at new.values f.position) ≡ r
        → in_case r None (λ id. refuse_if (not (same_value (value_at old.values f.position) (value.Ref id)) && not (is_target a f.target id)) (refusal.InvalidReference f.field.name)) ≡ None
        → is_sound_reference (known a.tenant) new.values f ≡ true
    by f m None e h =
        let w = reference_place o f m in
        rw e (pick (is_master f.field.kind) (λ b. not b ≡ true)
        (λ master. absurd (master_ref f.field.kind (value_at new.values f.position) master
        (ap (λ n. valid f.field.kind (value_at new.values n)) w.is ∙ valid_at (kinds_of o.object) new.values (suc w.place) f.field.kind fit (kind_at o.object w.place f.field w.field))
        (ap (λ n. is_null (value_at new.values n)) (w.is ∙ omega arith) ∙ missing_at w.place o.object new f.field missing w.field master) e))
        (λ _. refl))
    by f m (Some id) e h =
        rw e (pick (same_value (value_at old.values f.position) (value.Ref id)) (λ b. (not b && not (is_target a f.target id)) ≡ false → item_of (known a.tenant) f.target id ≡ true)
        (λ same _. before f m id same)
        (λ _ no. known_target f.target id (holds_not (is_target a f.target id) no))
        (unrefused (not (same_value (value_at old.values f.position) (value.Ref id)) && not (is_target a f.target id)) (refusal.InvalidReference f.field.name) h))

-- ---- unique values: no other record of the object has the new one
pub unique_sound : (a : Asked) (o : Numbered) (new : Record) (i : ℕ) (f : Field) → duplicate a o new ≡ None → slice_get o.object.fields i ≡ Some f → f.unique ≡ true → is_null (value_at new.values (suc i)) ≡ false
    → (x : Record) → Has (records_of a.tenant o.number) x → bytes_eq x.id new.id ≡ false → equal (value_at x.values (suc i)) (value_at new.values (suc i)) ≡ false
unique_sound a o new i f h e u null x m other =
    let others = filter (λ r. not (bytes_eq r.id new.id)) (records_of a.tenant o.number) in
    let rule = none_for_each (clash a others new) (enumerate_from 1 o.object.fields) h (1 + i, f) (has_numbered 1 i o.object.fields f e) in
    let one : 1 + i ≡ suc i = omega arith in
    let found = unique_rule f.unique u (find (has_value (1 + i) (value_at new.values (1 + i))) others) rule in
    let free = none_found (has_value (1 + i) (value_at new.values (1 + i))) others found x (kept_among (λ r. not (bytes_eq r.id new.id)) (records_of a.tenant o.number) x m (ap not other)) in
    parts (is_null (value_at new.values (suc i))) (equal (value_at x.values (suc i)) (value_at new.values (suc i))) null
    (subst (λ (n : ℕ). (not (is_null (value_at new.values n)) && equal (value_at x.values n) (value_at new.values n)) ≡ false) one free)
  where
    unique_rule : (b : Bool) → b ≡ true → (r : Option Record) → cond b (option_map (duplicate_of a f) r) None ≡ None → r ≡ None
    unique_rule true w None g = refl
    unique_rule true w (Some r) g = absurd cc
    unique_rule false w r g = absurd cc

    parts : (b c : Bool) → b ≡ false → (not b && c) ≡ false → c ≡ false
    parts true c w g = absurd cc
    parts false c w g = g

-- ---- what a new record has where nothing is given
pub empty_fits : (o : Object) → all_valid (kinds_of o) (value.Null ∷ map (λ (f : Field). empty_value f.kind) o.fields) ≡ true
empty_fits o = custom o.fields
  where
    empty : (k : FieldType) → valid k (empty_value k) ≡ true
    empty type.Checkbox = refl
    empty k = refl

    custom : (fs : List Field) → all_valid (map (λ (f : Field). f.kind) fs) (map (λ (f : Field). empty_value f.kind) fs) ≡ true
    custom [] = refl
    custom (f ∷ fs) = both (valid f.kind (empty_value f.kind)) (all_valid (map (λ (f : Field). f.kind) fs) (map (λ (f : Field). empty_value f.kind) fs)) (empty f.kind) (custom fs)

-- nothing in it is a reference
pub empty_no_ref : (fs : List Field) (n : ℕ) (id : List ℕ) → same_value (value_at (value.Null ∷ map (λ (f : Field). empty_value f.kind) fs) n) (value.Ref id) ≡ true → ⊥
empty_no_ref fs zero id e = cc
empty_no_ref fs (suc n) id e = custom fs n e
  where
    empty : (k : FieldType) → same_value (empty_value k) (value.Ref id) ≡ true → ⊥
    empty type.Checkbox e = cc
    empty k e = cc

    custom : (fs : List Field) (n : ℕ) → same_value (value_at (map (λ (f : Field). empty_value f.kind) fs) n) (value.Ref id) ≡ true → ⊥
    custom [] n e = cc
    custom (f ∷ fs) zero e = empty f.kind e
    custom (f ∷ fs) (suc n) e = custom fs n e
