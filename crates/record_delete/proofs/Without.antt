-- The record that an id names once some are gone.
use Rattle.std.proofs.Common.{◌≡◌, ◌∙◌, ℕ, Bool, true, false, not, ◌&&◌, cond, List, [], ◌∷◌, map, filter, Option, Some, None, refl, sym, ap, bytes_eq, ℤ}
use Rattle.std.proofs.lemmas.Bool.{true≢false as true_false}
use Rattle.base_lemmas.proofs.Texts.{same_from_bytes_eq as same_exact}
use Rattle.base_lemmas.proofs.Bools.{and_first as and_left, and_second as and_right, by_answer as pick}
use Rattle.std.proofs.lemmas.Option.{same_Some as some_is}
use Rattle.record_cascade.proofs.Among.{any_has}
use Rattle.model.specs.declared.record.Record.{Record}
use Rattle.model.specs.Deletes.{cleared, has_id, is_cleared, loses_lookup, refers_into, refers_to_one_of, without}
use Rattle.model.specs.Objects.{is_of, record_at}
use Rattle.model.specs.Relationships.{Reference, references}
use Rattle.model.specs.Tenant.{Tenant}
use Rattle.model.specs.World.{having_id}

-- a record that loses a lookup stays
pub stays_not_gone : (t : Tenant) (rs : List Record) (r : Record) → loses_lookup t rs r ≡ true → has_id rs r.id ≡ false
stays_not_gone t rs r loses =
    let f = any_has (λ (f : Reference). is_cleared f.field.kind && refers_into rs f r) (references t.objects) loses in
    by (has_id rs r.id) (and_left (not (has_id rs r.id)) (is_of f.0.object r && refers_to_one_of rs f.0 r) (and_right (is_cleared f.0.field.kind) (refers_into rs f.0 r) f.2))
  where
    by : (b : Bool) → not b ≡ true → b ≡ false
    by true e = absurd cc
    by false e = refl

module _ (now : ℤ) (t : Tenant) (gone : List Record) where
  abbrev after : Record → Record
  after r = cleared now t gone r

  abbrev stays : Record → Bool
  stays r = not (has_id gone r.id)

  pub same_id : (r : Record) → (after r).id ≡ r.id
  same_id r = pick (loses_lookup t gone r) (λ b. (after r).id ≡ r.id) (λ e. rw e refl) (λ e. rw e refl)

  abbrev named_in : List Record → List ℕ → Option Record
  named_in rs i = having_id (λ (r : Record). r.id) rs i

  -- one that is named, or another
  named_same : (x : Record) (rs : List Record) (i : List ℕ) → named_in (after x ∷ rs) i ≡ cond (bytes_eq i x.id) (Some (after x)) (named_in rs i)
  named_same x rs i = ap (λ (j : List ℕ). cond (bytes_eq i j) (Some (after x)) (named_in rs i)) (same_id x)

  none_named : (i : List ℕ) → has_id gone i ≡ true → (rs : List Record) → named_in (map after (filter stays rs)) i ≡ None
  none_named i goes [] = refl
  none_named i goes (x ∷ rs) =
      pick (has_id gone x.id) (λ b. has_id gone x.id ≡ b → named_in (map after (cond (not b) (x ∷ filter stays rs) (filter stays rs))) i ≡ None)
      (λ _ _. none_named i goes rs)
      (λ _ out.
      named_same x (map after (filter stays rs)) i
      ∙ pick (bytes_eq i x.id) (λ b. cond b (Some (after x)) (named_in (map after (filter stays rs)) i) ≡ None)
      (λ same. absurd (true_false (sym goes ∙ ap (has_id gone) (same_exact i x.id same) ∙ out)))
      (λ _. none_named i goes rs))
      refl

  one_named : (i : List ℕ) → has_id gone i ≡ false → (r : Record) (rs : List Record) → named_in rs i ≡ Some r → named_in (map after (filter stays rs)) i ≡ Some (after r)
  one_named i left r [] e = absurd cc
  one_named i left r (x ∷ rs) e =
      pick (bytes_eq i x.id) (λ b. bytes_eq i x.id ≡ b → cond b (Some x) (named_in rs i) ≡ Some r → named_in (map after (cond (stays x) (x ∷ filter stays rs) (filter stays rs))) i ≡ Some (after r))
      (λ _ same here.
      rw (ap not (ap (has_id gone) (sym (same_exact i x.id same)) ∙ left))
      (named_same x (map after (filter stays rs)) i
      ∙ ap (λ b. cond b (Some (after x)) (named_in (map after (filter stays rs)) i)) same
      ∙ ap (λ (y : Record). Some (after y)) (some_is x r here)))
      (λ _ other rest.
      pick (stays x) (λ b. named_in (map after (cond b (x ∷ filter stays rs) (filter stays rs))) i ≡ Some (after r))
      (λ _.
      named_same x (map after (filter stays rs)) i
      ∙ ap (λ b. cond b (Some (after x)) (named_in (map after (filter stays rs)) i)) other
      ∙ one_named i left r rs rest)
      (λ _. one_named i left r rs rest))
      refl e

  pub gone_at : (i : List ℕ) → has_id gone i ≡ true → record_at (without now gone t) i ≡ None
  gone_at i goes = none_named i goes t.records

  pub left_at : (i : List ℕ) (r : Record) → has_id gone i ≡ false → record_at t i ≡ Some r → record_at (without now gone t) i ≡ Some (after r)
  left_at i r left e = one_named i left r t.records e
