-- The rows that stay where an object, a field or another access comes: all but those of the objects and fields that are told.
use Rattle.std.proofs.Common.{◌≡◌, ℕ, zero, suc, ◌≤◌, Bool, true, false, ◌&&◌, cond, eqb, is_lt, IsTrue, List, [], ◌∷◌, ◌++◌, map, length, Option, Some, None, refl, sym, ap, ◌∙◌, subst, arith}
use Rattle.std.specs.Prelude.{bytes_eq, filter, if◌then◌else◌, slice_get}
use Rattle.std.specs.Option.{option_and_then, option_map}
use Rattle.std.proofs.lemmas.Bool.{eqb-true}
use Rattle.base_lemmas.proofs.Texts.{bytes_eq_false_sym as apart_too}
use Rattle.base_lemmas.proofs.Lists.{slice_get-length as get_past, length-map_by as mapped_length}
use Rattle.base_lemmas.proofs.Bools.{by_answer as pick}
use Rattle.std.proofs.lemmas.Option.{same_Some as some_is}
use Rattle.store_rows.specs.Forms.{row_bytes}
use Rattle.store_rows.specs.Keys.{Key, Version, Org, Object, Field, Job, User, Role, Group, Validation, Sharing, Data, Index, Unique, Relation, Owner, Share, Grant}
use Rattle.store_rows.specs.Rows.{field_form, job_form}
use Rattle.model.specs.declared.record.Record.{Record}
use Rattle.model.specs.NewFields.{with_field}
use Rattle.model.specs.Ordered.{put_in}
use Rattle.model.specs.RuleFormulas.{name_cmp}
use Rattle.model.specs.ValidationRules.{with_validation_rule}
use Rattle.model.specs.Objects.{change_at, is_of, object_numbered, records_of, with_object_changed}
use Rattle.model.specs.Sound.{IsSound}
use Rattle.model.specs.Tenant as model
use Rattle.model.specs.Tenant.{Tenant}
use Rattle.store_abstraction.specs.Metadata.{field_of, job_of, lower_bytes, named_so}
use Rattle.store_abstraction.specs.Plan.{OrgPlan}
use Rattle.store_abstraction.specs.Records.{is_field_key, is_free, is_object_key, is_org_key, is_rule_key, rule_at, suits_flags, with_slot}
use Rattle.store_abstraction.specs.Stands.{row_in}
use Rattle.store_abstraction.proofs.Lookups.{get_push}
use Rattle.store_abstraction.proofs.Placed.{changed_rows, get_changed, object_rows, placed, there_same}
use Rattle.store_abstraction.proofs.Widened.{field_rows}
use Rattle.base_value.specs.Reading.{empty_value}
use Rattle.base_value.specs.declared.sharing.Access.{Access}

-- ---- objects that are changed

length_changed : {X : Type 0} (n : ℕ) (change : X → X) (xs : List X) → length (change_at n change xs) ≡ length xs
length_changed n change [] = refl
length_changed zero change (x ∷ xs) = refl
length_changed (suc n) change (x ∷ xs) = ap suc (length_changed n change xs)

-- what is looked for in the object with a number, where the change keeps it
through : {Y : Type 0} (look : model.Object → Option Y) (n : ℕ) (change : model.Object → model.Object) (os : List model.Object) (m : ℕ)
    → ((x : model.Object) → slice_get os m ≡ Some x → eqb m n ≡ true → look (change x) ≡ look x)
    → option_and_then look (slice_get (change_at n change os) m) ≡ option_and_then look (slice_get os m)
through {Y} look n change os m same = ap (option_and_then look) (get_changed n change os m) ∙ by (slice_get os m) refl
  where
    by : (o : Option model.Object) → slice_get os m ≡ o → option_and_then look (option_map (λ (x : model.Object). cond (eqb m n) (change x) x) o) ≡ option_and_then look o
    by None at = refl
    by (Some x) at = pick (eqb m n) (λ b. eqb m n ≡ b → look (cond b (change x) x) ≡ look x) (λ _ e. same x at e) (λ _ _. refl) refl

-- another object
elsewhere : (n : ℕ) (change : model.Object → model.Object) (os : List model.Object) (m : ℕ) → eqb m n ≡ false → slice_get (change_at n change os) m ≡ slice_get os m
elsewhere n change os m apart = get_changed n change os m ∙ rw apart (same (slice_get os m))
  where
    same : (o : Option model.Object) → option_map (λ (x : model.Object). x) o ≡ o
    same None = refl
    same (Some x) = refl

-- the row of a change under other slots
job_row : (slots : ℕ → ℕ → ℕ) (p : OrgPlan) (org : ℕ) (job : Option model.Job) → option_map (λ j. row_bytes job_form (job_of org (placed slots p) j)) job ≡ option_map (λ j. row_bytes job_form (job_of org p j)) job
job_row slots p org None = refl
job_row slots p org (Some j) = rw (there_same slots p j j.phase j.outcome) refl

-- ---- an object that is changed but for its fields

-- another access changes no rule
pub rule_of_access : (n : ℕ) (a : Access) (h : Bool) (k : Key) (o : model.Object) → rule_at n k (record o { access = a; hierarchy = h }) ≡ rule_at n k o
rule_of_access n a h (Validation org m name) o = refl
rule_of_access n a h _ o = refl

-- one rule more changes no other
other_rule : (key : List ℕ) (r : model.ValidationRule) (rules : List model.ValidationRule) → bytes_eq (lower_bytes r.name) key ≡ false
    → named_so (λ x. x.name) (put_in (λ a b. name_cmp a.name b.name) r rules) key ≡ named_so (λ x. x.name) rules key
other_rule key r [] apart = rw apart refl
other_rule key r (x ∷ rules) apart =
    pick (is_lt (name_cmp r.name x.name)) (λ b. named_so (λ x. x.name) (cond b (r ∷ x ∷ rules) (x ∷ put_in (λ a b. name_cmp a.name b.name) r rules)) key ≡ named_so (λ x. x.name) (x ∷ rules) key)
    (λ _. rw apart refl)
    (λ _. ap (λ (z : Option model.ValidationRule). cond (bytes_eq (lower_bytes x.name) key) (Some x) z) (other_rule key r rules apart))

pub rule_of_more : (n : ℕ) (r : model.ValidationRule) (k : Key) (o : model.Object) → is_rule_key n (lower_bytes r.name) k ≡ false → rule_at n k (with_validation_rule r o) ≡ rule_at n k o
rule_of_more n r (Validation org m name) o e =
    pick (eqb m n) (λ b. (b && bytes_eq name (lower_bytes r.name)) ≡ false → cond b (named_so (λ x. x.name) (with_validation_rule r o).validation_rules name) None ≡ cond b (named_so (λ x. x.name) o.validation_rules name) None)
    (λ _ apart. other_rule name r o.validation_rules (apart_too name (lower_bytes r.name) apart))
    (λ _ _. refl)
    e
rule_of_more n r _ o e = refl

module _ (p : OrgPlan) (t : Tenant) (n : ℕ) (set : model.Object → model.Object) (sound : IsSound t) (same : (o : model.Object) → (set o).fields ≡ o.fields) where
  same_rule : (org m : ℕ) (name : List ℕ) → ((o : model.Object) → rule_at n (Validation org m name) (set o) ≡ rule_at n (Validation org m name) o) → (x : model.Object) → eqb m n ≡ true
      → named_so (λ r. r.name) (set x).validation_rules name ≡ named_so (λ r. r.name) x.validation_rules name
  same_rule org m name rules x is =
      subst (λ (b : Bool). cond b (named_so (λ r. r.name) (set x).validation_rules name) None ≡ cond b (named_so (λ r. r.name) x.validation_rules name) None) is (rules x)

  pub described_rest : (k : Key) → ((o : model.Object) → rule_at n k (set o) ≡ rule_at n k o) → is_object_key n k ≡ false → row_in p (with_object_changed n set t) k ≡ row_in p t k
  unfolding row_in
  described_rest Version rules e = refl
  described_rest (Org org) rules e = rw (length_changed n set t.objects) refl
  described_rest (Object org m) rules e = rw (elsewhere n set t.objects m e) refl
  described_rest (Field org m g) rules e =
      ap (option_map (λ f. row_bytes field_form (field_of org p m g f))) (through (λ (x : model.Object). slice_get x.fields g) n set t.objects m (λ x at is. ap (λ (fs : List model.Field). slice_get fs g) (same x)))
  described_rest (Job org) rules e = refl
  described_rest (User org id) rules e = refl
  described_rest (Role org id) rules e = refl
  described_rest (Group org id) rules e = refl
  described_rest (Validation org m name) rules e =
      ap (option_map _) (through (λ (x : model.Object). named_so (λ r. r.name) x.validation_rules name) n set t.objects m (λ x at is. same_rule org m name rules x is))
  described_rest (Sharing org name) rules e = refl
  described_rest (Data org m id) rules e = changed_rows p t n set m sound same (Data org m id) refl
  described_rest (Index org m slot value id) rules e = changed_rows p t n set m sound same (Index org m slot value id) refl
  described_rest (Unique org m slot value) rules e = changed_rows p t n set m sound same (Unique org m slot value) refl
  described_rest (Relation org m slot target id) rules e = changed_rows p t n set m sound same (Relation org m slot target id) refl
  described_rest (Owner org m owner id) rules e = refl
  described_rest (Share org id to) rules e = refl
  described_rest (Grant org to m id cause) rules e = refl

-- ---- one more object

module _ (p : OrgPlan) (t : Tenant) (o : model.Object) (s : ℕ) (sound : IsSound t) (few : length o.fields ≤ 1) (unruled : o.validation_rules ≡ []) where
  abbrev next : Tenant
  next = record t { objects = t.objects ++ o ∷ [] }

  abbrev plan : OrgPlan
  plan = with_slot (length t.objects) 0 s p

  before : (m : ℕ) → eqb m (length t.objects) ≡ false → slice_get next.objects m ≡ slice_get t.objects m
  before m e = get_push t.objects o m ∙ rw e refl

  -- what is looked for in the object with a number, where the new one hasn't it
  looked : {Y : Type 0} (look : model.Object → Option Y) (m : ℕ) → (eqb m (length t.objects) ≡ true → look o ≡ None) → option_and_then look (slice_get next.objects m) ≡ option_and_then look (slice_get t.objects m)
  looked {Y} look m none =
      ap (option_and_then look) (get_push t.objects o m)
      ∙ pick (eqb m (length t.objects)) (λ b. eqb m (length t.objects) ≡ b → option_and_then look (cond b (Some o) (slice_get t.objects m)) ≡ option_and_then look (slice_get t.objects m))
      (λ _ e. none e ∙ sym (ap (option_and_then look) (ap (slice_get t.objects) (eqb-true m (length t.objects) e) ∙ get_past t.objects)))
      (λ _ _. refl)
      refl

  further : (m g : ℕ) → (eqb m (length t.objects) && eqb g 0) ≡ false → eqb m (length t.objects) ≡ true → slice_get o.fields g ≡ None
  further m g e is = beyond o.fields g few (ap (λ (b : Bool). b && eqb g 0) (sym is) ∙ e)
    where
      beyond : (fs : List model.Field) (g : ℕ) → length fs ≤ 1 → (true && eqb g 0) ≡ false → slice_get fs g ≡ None
      beyond [] g few e = refl
      beyond (x ∷ fs) zero few e = absurd cc
      beyond (x ∷ []) (suc g) few e = refl
      beyond (x ∷ y ∷ fs) (suc g) few e = absurd (omega (arith, few))

  pub object_rest : (k : Key) → is_org_key k ≡ false → is_object_key (length t.objects) k ≡ false → is_field_key (length t.objects) 0 k ≡ false → row_in plan next k ≡ row_in p t k
  unfolding row_in
  object_rest Version w e f = refl
  object_rest (Org org) w e f = absurd cc
  object_rest (Object org m) w e f = rw (before m e) refl
  object_rest (Field org m g) w e f =
      ap (option_map (λ x. row_bytes field_form (field_of org plan m g x))) (looked (λ (x : model.Object). slice_get x.fields g) m (further m g f)) ∙ rw f refl
  object_rest (Job org) w e f = job_row plan.slot p org t.job
  object_rest (User org id) w e f = refl
  object_rest (Role org id) w e f = refl
  object_rest (Group org id) w e f = refl
  object_rest (Validation org m name) w e f = ap (option_map _) (looked (λ (x : model.Object). named_so (λ r. r.name) x.validation_rules name) m (λ _. rw unruled refl))
  object_rest (Sharing org name) w e f = refl
  object_rest (Data org m id) w e f = object_rows p t o 0 s m sound (Data org m id) refl
  object_rest (Index org m slot value id) w e f = object_rows p t o 0 s m sound (Index org m slot value id) refl
  object_rest (Unique org m slot value) w e f = object_rows p t o 0 s m sound (Unique org m slot value) refl
  object_rest (Relation org m slot target id) w e f = object_rows p t o 0 s m sound (Relation org m slot target id) refl
  object_rest (Owner org m owner id) w e f = refl
  object_rest (Share org id to) w e f = refl
  object_rest (Grant org to m id cause) w e f = refl

-- ---- one more field

-- the records of each object, when one object's have one more value
abbrev pub more : (n : ℕ) → model.Field → Record → Record
more n f r = if is_of n r then record r { values = r.values ++ empty_value f.kind ∷ [] } else r

counted_in : (n m : ℕ) (f : model.Field) (rs : List Record) → length (filter (is_of m) (map (more n f) rs)) ≡ length (filter (is_of m) rs)
counted_in n m f [] = refl
counted_in n m f (r ∷ rs) =
    subst (λ (b : Bool). length (cond b (more n f r ∷ filter (is_of m) (map (more n f) rs)) (filter (is_of m) (map (more n f) rs))) ≡ length (cond (is_of m r) (r ∷ filter (is_of m) rs) (filter (is_of m) rs)))
    (sym same)
    (pick (is_of m r) (λ b. length (cond b (more n f r ∷ filter (is_of m) (map (more n f) rs)) (filter (is_of m) (map (more n f) rs))) ≡ length (cond b (r ∷ filter (is_of m) rs) (filter (is_of m) rs)))
    (λ _. ap suc (counted_in n m f rs))
    (λ _. counted_in n m f rs))
  where
    same : is_of m (more n f r) ≡ is_of m r
    same = pick (is_of n r) (λ b. is_of m (cond b (record r { values = r.values ++ empty_value f.kind ∷ [] }) r) ≡ is_of m r) (λ _. refl) (λ _. refl)

pub counted : (t : Tenant) (n m : ℕ) (f : model.Field) → length (records_of (with_field n f t) m) ≡ length (records_of t m)
counted t n m f = counted_in n m f t.records

module _ (p : OrgPlan) (t : Tenant) (n : ℕ) (o : model.Object) (f : model.Field) (s : ℕ) (sound : IsSound t) (here : object_numbered t n ≡ Some o) (vacant : IsTrue (is_free p t.job n o s)) (suits : IsTrue (suits_flags f)) where
  abbrev wide : Tenant
  wide = with_field n f t

  abbrev wide_plan : OrgPlan
  wide_plan = with_slot n (length o.fields) s p

  abbrev widen : model.Object → model.Object
  widen x = record x { fields = x.fields ++ f ∷ [] }

  field_there : (m g : ℕ) → (eqb m n && eqb g (length o.fields)) ≡ false → option_and_then (λ (x : model.Object). slice_get x.fields g) (object_numbered wide m) ≡ option_and_then (λ (x : model.Object). slice_get x.fields g) (object_numbered t m)
  field_there m g e = through (λ (x : model.Object). slice_get x.fields g) n widen t.objects m same
    where
      same : (x : model.Object) → slice_get t.objects m ≡ Some x → eqb m n ≡ true → slice_get (widen x).fields g ≡ slice_get x.fields g
      same x at is =
          let object : x ≡ o = some_is x o (sym at ∙ ap (slice_get t.objects) (eqb-true m n is) ∙ here) in
          let inner : eqb g (length x.fields) ≡ false = ap (λ (y : model.Object). eqb g (length y.fields)) object ∙ ap (λ (b : Bool). b && eqb g (length o.fields)) (sym is) ∙ e in
          get_push x.fields f g ∙ rw inner refl

  pub field_rest : (k : Key) → is_object_key n k ≡ false → is_field_key n (length o.fields) k ≡ false → row_in wide_plan wide k ≡ row_in p t k
  unfolding row_in
  field_rest Version e g = refl
  field_rest (Org org) e g = rw (length_changed n widen t.objects, mapped_length (more n f) t.records) refl
  field_rest (Object org m) e g = rw (elsewhere n widen t.objects m e, counted t n m f) refl
  field_rest (Field org m place) e g = ap (option_map (λ x. row_bytes field_form (field_of org wide_plan m place x))) (field_there m place g) ∙ rw g refl
  field_rest (Job org) e g = job_row wide_plan.slot p org t.job
  field_rest (User org id) e g = refl
  field_rest (Role org id) e g = refl
  field_rest (Group org id) e g = refl
  field_rest (Validation org m name) e g = ap (option_map _) (through (λ (x : model.Object). named_so (λ r. r.name) x.validation_rules name) n widen t.objects m (λ x at is. refl))
  field_rest (Sharing org name) e g = refl
  field_rest (Data org m id) e g = field_rows p t n o f s sound here vacant suits m (Data org m id) refl
  field_rest (Index org m slot value id) e g = field_rows p t n o f s sound here vacant suits m (Index org m slot value id) refl
  field_rest (Unique org m slot value) e g = field_rows p t n o f s sound here vacant suits m (Unique org m slot value) refl
  field_rest (Relation org m slot target id) e g = field_rows p t n o f s sound here vacant suits m (Relation org m slot target id) refl
  field_rest (Owner org m owner id) e g = refl
  field_rest (Share org id to) e g = refl
  field_rest (Grant org to m id cause) e g = refl
