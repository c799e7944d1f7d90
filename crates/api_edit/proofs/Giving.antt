-- What is given to the fields of a record has its form, for who asks; and so does a deletion.
use Rattle.std.proofs.Common.{◌≡◌, ℕ, Bool, true, false, IsTrue, List, [], ◌∷◌, Option, None, Some, refl, sym, ap, subst, ◌∙◌, ℤ, pos}
use Rattle.std.proofs.lemmas.Slice.Eq.{bytes_eq-Decides}
use Rattle.std.specs.Prelude.{if◌then◌else◌, is_some}
use Rattle.std.specs.Str.{bytes_eq}
use Rattle.api_edit.specs.Administration.{AsksWith}
use Rattle.record_delete.specs.Deleting.{IsDeleting}
use Rattle.record_input.specs.Given.{FindNone, Finds}
use Rattle.record_input.specs.declared.found.Found.{Found}
use Rattle.model.specs.declared.caller.Caller.{Caller}
use Rattle.model.specs.declared.record_bodies.Assignment.{Assignment}
use Rattle.model.specs.Paths.{Asked}
use Rattle.model.specs.Keys.{Key}
use Rattle.model.specs.Tenant.{Object, Tenant, User}
use Rattle.model.specs.World.{user_at}
use Rattle.record_save.specs.Creating.{IsGiving, ReadsFound}
use Rattle.access_traits.specs.Rights.{Whose}
use Rattle.model_invariant.specs.Fit.{IsCaller, OfObjects, ReadsWell, ReadsWellByKey}
use Rattle.record_save.specs.upsert.Upserting.{ReadsFoundByKey}
use Rattle.base_value.specs.Dates.{is_moment}

-- who is found by an id has it
has_id : (users : List User) (i : List ℕ) (u : User) → user_at users i ≡ Some u → i ≡ u.id
has_id [] i u e = absurd cc
has_id (x ∷ xs) i u e = by (bytes_eq i x.id) refl (has_id xs i u)
  where
    by : (b : Bool) → bytes_eq i x.id ≡ b → (user_at xs i ≡ Some u → i ≡ u.id) → i ≡ u.id
    by true same rest =
        let is : x ≡ u = first (sym (ap (λ b. if b then Some x else user_at xs i) same) ∙ e) in
        (bytes_eq-Decides i x.id).0 same ∙ ap (λ (y : User). y.id) is
      where
        first : Some x ≡ Some u → x ≡ u
        first e = cc
    by false same rest = rest (sym (ap (λ b. if b then Some x else user_at xs i) same) ∙ e)

-- who asks is a user, at a moment of the calendar
asks_within : (whose : Whose) (c : Caller) (n : ℕ) (a : Asked) → IsTrue (is_moment (pos n)) → AsksWith whose c n a → (a.user.id ≡ c.user) × IsCaller a
asks_within whose c n a moment h =
    let id : a.user.id ≡ c.user = sym (has_id a.tenant.users c.user a.user h.0.user) in
    (id, (subst (λ (i : List ℕ). IsTrue (is_some (user_at a.tenant.users i))) (sym id) (ap is_some h.0.user), subst (λ (z : ℤ). IsTrue (is_moment z)) (sym h.0.now) moment))

-- the moment and the values, as the edit has them: what is given reads as the form of the request has it
pub giving : (whose : Whose) (c : Caller) (n : ℕ) (now : ℤ) (reads : List Assignment → Asked → Object → Type 0) (given spelled : List Assignment) (a : Asked) → now ≡ pos n → IsTrue (is_moment (pos n))
    → spelled ≡ given → OfObjects a (reads given a) → AsksWith whose c n a → IsGiving whose c.user now (reads spelled) a
giving whose c n now reads given spelled a at moment is fit h =
    let asked = asks_within whose c n a moment h in
    record {
      asker = record { rights = h.1; user = asked.0; now = h.0.now ∙ sym at };
      caller = asked.1;
      reads = subst (λ (g : List Assignment). OfObjects a (reads g a)) (sym is) fit;
    }

-- the same, where what finds a record finds one that is told
abbrev FindsNone : Type 0
FindsNone = (t : Tenant) (o : Object) (key : Option Key) (found : List Found) (body : List Assignment) → FindNone body → Finds t o key found body

pub reads_found : {found : List Found} (law : FindsNone) (name : List ℕ) (given : List Assignment) (a : Asked) → FindNone given → OfObjects a (λ o. ReadsWell a o given)
    → OfObjects a (ReadsFound name found given a)
reads_found {found = found} law name given a none fit n o there = record { reads = fit n o there; finds = λ x named is. law a.tenant o None found given none }

pub reads_found_by_key : {found : List Found} (law : FindsNone) (name key : List ℕ) (text : Option (List ℕ)) (given : List Assignment) (a : Asked) → FindNone given
    → OfObjects a (λ o. ReadsWellByKey a key text o given) → OfObjects a (ReadsFoundByKey name key text found given a)
reads_found_by_key {found = found} law name key text given a none fit n o there = record { reads = fit n o there; finds = λ x named is. law a.tenant o None found given none }

-- the moment, as a deletion has it
pub deleting : (whose : Whose) (c : Caller) (n : ℕ) (now : ℤ) (a : Asked) → now ≡ pos n → IsTrue (is_moment (pos n)) → AsksWith whose c n a → IsDeleting whose now a
deleting whose c n now a at moment h = record { rights = h.1; caller = (asks_within whose c n a moment h).1; now = h.0.now ∙ sym at }
