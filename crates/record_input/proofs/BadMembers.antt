-- The members of a body, judged one after another.
use Rattle.std.proofs.Common.{◌≡◌, inl, inr, ℕ, Bool, true, false, not, List, [], ◌∷◌, map, Option, Some, None, Result, Ok, Err, refl, ap, subst, sym, ◌∙◌}
use Rattle.std.specs.Option.{option_map}
use Rattle.base_value.specs.declared.value.Value.{Value}
use Rattle.model.specs.declared.record_bodies.Assignment.{Assignment}
use Rattle.model.specs.declared.refusal.Refusal.{Refusal}
use Rattle.model.specs.declared.refusal.Refusal.TheVariants.{InvalidField}
use Rattle.model.specs.Cases.{in_case}
use Rattle.model.specs.Edits.{bad_field}
use Rattle.model.specs.Given.{ReadOr}
use Rattle.model.specs.Keys.{Key, bad_fields, other_key, reads_as}
use Rattle.model.specs.Membership.{Has}
use Rattle.model.specs.Rules.{Rule, first_refusal, refuse_if}
use Rattle.model.specs.Tenant.{Object, Tenant}
use Rattle.record_input.specs.declared.key.AllGiven.{AllGiven}
use Rattle.record_input.specs.declared.unread.Unread.{Unread}
use Rattle.record_input.specs.declared.key.UpsertKey.{UpsertKey}
use Rattle.record_input.specs.Given.{FindsAll, key_in, key_of}
use Rattle.record_input.specs.inner.Keys.{KnowsKeyOf, bad_member, has_other}
use Rattle.record_input.specs.inner.Read.{Reads, as_unread}
use Rattle.record_input.proofs.Known.{of_key}

-- one more member of a body
members_more : (t : Tenant) (o : Object) (key : Option Key) (x : Assignment) (xs : List Assignment)
    → bad_fields t o key (x ∷ xs) ≡ in_case (bad_member t o key x) (bad_fields t o key xs) (λ r. Some r)
members_more t o key x xs = by (bad_member t o key x)
  where
    by : (bad : Rule) → first_refusal (bad ∷ map (bad_member t o key) xs) ≡ in_case bad (bad_fields t o key xs) (λ r. Some r)
    by None = refl
    by (Some r) = refl

pub member_passes : (t : Tenant) (o : Object) (key : Option Key) (x : Assignment) (xs : List Assignment)
    → bad_member t o key x ≡ None → bad_fields t o key (x ∷ xs) ≡ bad_fields t o key xs
member_passes t o key x xs none = members_more t o key x xs ∙ rw none refl

pub member_stops : (t : Tenant) (o : Object) (key : Option Key) (x : Assignment) (xs : List Assignment) (refusal : Refusal)
    → bad_member t o key x ≡ Some refusal → Some refusal ≡ bad_fields t o key (x ∷ xs)
member_stops t o key x xs refusal some = sym (members_more t o key x xs ∙ rw some refl)

-- what was read is what is defined, where there was memory
reads_ended : (defined : ReadOr) (given : Result Value Unread) (read : ReadOr) → Reads defined given → given ≡ as_unread read → defined ≡ read
reads_ended defined given (Ok v) reads is = subst (λ (r : Result Value Unread). Reads defined r) is reads
reads_ended defined given (Err refusal) reads is = subst (λ (r : Result Value Unread). Reads defined r) is reads

-- so it is the same value, or another
pub other_read : (defined : ReadOr) (given : Result Value Unread) (read : ReadOr) (value : Value) (same : Bool) → Reads defined given → given ≡ as_unread read
    → same ≡ reads_as value read → not same ≡ not (reads_as value defined)
other_read defined given read value same reads is tested = ap not (tested ∙ ap (reads_as value) (sym (reads_ended defined given read reads is)))

-- ---- one member

-- refused for its name
pub member_named : (t : Tenant) (o : Object) (key : Option Key) (x : Assignment) (refusal : Refusal) → bad_field o x ≡ Some refusal → Some refusal ≡ bad_member t o key x
member_named t o key x refusal is = rw is refl

-- or else for what it gives the key
pub member_other : (t : Tenant) (o : Object) (key : Option Key) (x : Assignment) → bad_field o x ≡ None → other_key t key x ≡ bad_member t o key x
member_other t o key x none = rw none (by (other_key t key x))
  where
    by : (rule : Rule) → rule ≡ first_refusal (rule ∷ [])
    by None = refl
    by (Some refusal) = refl

-- it gives the key another value
pub key_refused : (t : Tenant) (key : Option UpsertKey) (k : UpsertKey) (x : Assignment) (name : List ℕ) → key ≡ Some k → has_other t (key_in k) x ≡ true → name ≡ k.field.now.name
    → Some (InvalidField name) ≡ other_key t (option_map key_in key) x
key_refused t key k x name is other named =
    ap (λ (n : List ℕ). Some (InvalidField n)) named
    ∙ sym (ap (λ (b : Bool). refuse_if b (InvalidField k.field.now.name)) other)
    ∙ sym (ap (λ (y : Option UpsertKey). other_key t (option_map key_in y) x) is)

-- or no other
pub key_passes : (t : Tenant) (key : Option UpsertKey) (k : UpsertKey) (x : Assignment) → key ≡ Some k → has_other t (key_in k) x ≡ false → None ≡ other_key t (option_map key_in key) x
key_passes t key k x is other =
    sym (ap (λ (b : Bool). refuse_if b (InvalidField k.field.now.name)) other)
    ∙ sym (ap (λ (y : Option UpsertKey). other_key t (option_map key_in y) x) is)

-- ---- a body

-- these are the members that are left, and none before them is refused
pub record Passed (t : Tenant) (o : Object) (x : AllGiven) (rest : List Assignment) : Type 0 where
  pub known : (member : Assignment) → Has rest member → KnowsKeyOf t x.found.now (key_of x) member
  pub same : bad_fields t o (key_of x) x.body.now ≡ bad_fields t o (key_of x) rest

pub passed_none : (t : Tenant) (o : Object) (x : AllGiven) → FindsAll t o x → Passed t o x x.body.now
passed_none t o x finds = record { known = λ member has k is. finds k.column (of_key o (key_of x) k is) member has; same = refl }

module _ (t : Tenant) (o : Object) (x : AllGiven) (first : Assignment) (more : List Assignment) (passed : Passed t o x (first ∷ more)) where
  pub known_first : KnowsKeyOf t x.found.now (key_of x) first
  known_first = passed.known first (inl refl)

  pub passed_more : bad_member t o (key_of x) first ≡ None → Passed t o x more
  passed_more none = record {
    known = λ member has. passed.known member (inr has);
    same = passed.same ∙ member_passes t o (key_of x) first more none;
  }

  pub passed_stops : (refusal : Refusal) → bad_member t o (key_of x) first ≡ Some refusal → Some refusal ≡ bad_fields t o (key_of x) x.body.now
  passed_stops refusal some = member_stops t o (key_of x) first more refusal some ∙ sym passed.same
