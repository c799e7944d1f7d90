-- The ids of the records that go are those of what a cascade has, and all that it has is there.
use Rattle.std.proofs.Common.{◌≡◌, ◌∙◌, inl, inr, ℕ, zero, suc, Bool, true, false, ◌||◌, List, [], ◌∷◌, ◌++◌, Some, refl, sym, ap, subst, bytes_eq}
use Rattle.std.specs.List.{filter}
use Rattle.std.proofs.lemmas.List.Folds.{list_any-append}
use Rattle.base_lemmas.proofs.Bools.{same_both_ways as alike}
use Rattle.base_lemmas.proofs.Texts.{same_from_bytes_eq as same_exact, bytes_eq-self as same_itself}
use Rattle.record_cascade.proofs.Among.{any_has, has_any, has_id_of, id_of_has}
use Rattle.record_cascade.specs.Deletion.{cleared_ids, gone_ids}
use Rattle.record_read.proofs.Rising.{filter_has, has_filter}
use Rattle.record_delete.proofs.Lists.{append_has}
use Rattle.model.specs.declared.limit.Limit.TheVariants as limit
use Rattle.model.specs.declared.record.Record.{Record}
use Rattle.model.specs.Cases.{in_case}
use Rattle.model.specs.Deletes.{and_details, cascade, details_of, has_id, loses_lookup, refers_to_one_of}
use Rattle.model.specs.Limits.{limit_number}
use Rattle.model.specs.Membership.{Has}
use Rattle.model.specs.Objects.{object_number, record_at}
use Rattle.model.specs.Relationships.{Reference, master_of_object}
use Rattle.model.specs.Tenant.{Tenant}
use Rattle.record_index.proofs.Records.{named}
use Rattle.record_index.specs.diff.Touched.{has, record_ids, touched_by}

-- ---- one of some ids

in_ids : (ids : List (List ℕ)) (i : List ℕ) → has ids i ≡ true → Has ids i
in_ids ids i e =
    let one = any_has (λ (x : List ℕ). bytes_eq x i) ids e in
    subst (λ (x : List ℕ). Has ids x) (same_exact one.0 i one.2) one.1

ids_in : (ids : List (List ℕ)) (i : List ℕ) → Has ids i → has ids i ≡ true
ids_in ids i h = has_any (λ (x : List ℕ). bytes_eq x i) ids i h (same_itself i)

-- ---- the ids of what goes

pub has_own_id : (rs : List Record) (r : Record) → Has rs r → has_id rs r.id ≡ true
has_own_id rs r h = has_any (λ (x : Record). bytes_eq x.id r.id) rs r h (same_itself r.id)

module _ (t : Tenant) (gone : List Record) where
  -- what has such an id goes
  pub goes : (i : List ℕ) → Has (gone_ids t gone) i → has_id gone i ≡ true
  goes i h =
      let one = id_of_has (filter (λ (r : Record). has_id gone r.id) t.records) i h in
      let its = has_filter (λ (r : Record). has_id gone r.id) t.records one.0 one.1 in
      subst (λ (j : List ℕ). has_id gone j ≡ true) (sym one.2) its.1

  -- and a record that is there and goes has such an id
  pub is_gone : (r : Record) → Has t.records r → has_id gone r.id ≡ true → Has (gone_ids t gone) r.id
  is_gone r h so =
      has_id_of (filter (λ (r : Record). has_id gone r.id) t.records) r (filter_has (λ (r : Record). has_id gone r.id) t.records r h so)

  -- the ids of what goes, where all that goes is there
  module _ (there : (r : Record) → Has gone r → Has t.records r) where
    same_gone : (i : List ℕ) → has (gone_ids t gone) i ≡ has (record_ids gone) i
    same_gone i = alike (has (gone_ids t gone) i) (has (record_ids gone) i) onward backward
      where
        onward : has (gone_ids t gone) i ≡ true → has (record_ids gone) i ≡ true
        onward e =
            let one = any_has (λ (r : Record). bytes_eq r.id i) gone (goes i (in_ids (gone_ids t gone) i e)) in
            ids_in (record_ids gone) i (subst (λ (j : List ℕ). Has (record_ids gone) j) (same_exact one.0.id i one.2) (has_id_of gone one.0 one.1))

        backward : has (record_ids gone) i ≡ true → has (gone_ids t gone) i ≡ true
        backward e =
            let one = id_of_has gone i (in_ids (record_ids gone) i e) in
            ids_in (gone_ids t gone) i
            (subst (λ (j : List ℕ). Has (gone_ids t gone) j) (sym one.2) (is_gone one.0 (there one.0 one.1) (has_own_id gone one.0 one.1)))

    -- so they say of each id whether it goes
    pub gone_alike : (i : List ℕ) → has (gone_ids t gone) i ≡ has_id gone i
    gone_alike i = same_gone i ∙ by gone
      where
        by : (rs : List Record) → has (record_ids rs) i ≡ has_id rs i
        by [] = refl
        by (r ∷ rs) = ap (λ (b : Bool). bytes_eq r.id i || b) (by rs)

    -- with those that lose a lookup they are all that a delete touches
    pub same_touched : (i : List ℕ) → has (gone_ids t gone ++ cleared_ids t gone) i ≡ has (touched_by t gone) i
    same_touched i =
        list_any-append (λ (x : List ℕ). bytes_eq x i) (gone_ids t gone) (cleared_ids t gone)
        ∙ (ap (λ (b : Bool). b || has (cleared_ids t gone) i) (same_gone i)
        ∙ sym (list_any-append (λ (x : List ℕ). bytes_eq x i) (record_ids gone) (record_ids (filter (loses_lookup t gone) t.records))))

-- ---- a cascade

-- details are there
details_there : (t : Tenant) (rs : List Record) (r : Record) → Has (details_of t rs) r → Has t.records r
details_there t rs r h =
    (has_filter (λ (r : Record). in_case (master_of_object t.objects (object_number r.id)) false (λ (f : Reference). refers_to_one_of rs f r)) t.records r h).0

all_there : (n : ℕ) (t : Tenant) (rs : List Record) → ((r : Record) → Has rs r → Has t.records r) → (r : Record) → Has (and_details n t rs) r → Has t.records r
all_there zero t rs there r h = there r h
all_there (suc n) t rs there r h =
    elim (append_has rs (and_details n t (details_of t rs)) r h) [
      | inl own ↦ there r own
      | inr more ↦ all_there n t (details_of t rs) (details_there t rs) r more
    ]

-- so is all that goes with a record that is there
pub cascade_there : (t : Tenant) (r : Record) → record_at t r.id ≡ Some r → (x : Record) → Has (cascade t r) x → Has t.records x
unfolding cascade
cascade_there t r at = all_there (limit_number limit.DetailLevels) t (r ∷ []) own
  where
    own : (x : Record) → Has (r ∷ []) x → Has t.records x
    own x (inl same) = subst (λ (y : Record). Has t.records y) (sym same) (named t.records r.id r at).0
    own x (inr none) = absurd none
