-- What edits touch: a create the new record, an update the one that changes, a delete what goes and what loses a lookup.
use Rattle.std.proofs.Common.{◌≡◌, ℕ, Bool, true, false, not, ◌||◌, cond, List, [], ◌∷◌, map, filter, Option, Some, None, refl, sym, ap, subst, ◌∙◌, bytes_eq, ℤ, is_lt, Ordering, nat_cmp}
use Rattle.std.specs.Prelude.{if◌then◌else◌}
use Rattle.std.specs.Cmp.Lexicographic.{slice_cmp}
use Rattle.std.proofs.lemmas.List.Folds.{list_any-append}
use Rattle.std.proofs.lemmas.Bool.{true≢false as clash}
use Rattle.base_lemmas.proofs.Bools.{or_first_false as or_left_false, or_second_false as or_right_false, by_answer as pick}
use Rattle.base_lemmas.proofs.Texts.{same_from_bytes_eq as same_exact, bytes_eq-self as same_itself}
use Rattle.model.specs.declared.record.Record.{Record}
use Rattle.model.specs.Creates.{with_record}
use Rattle.model.specs.Deletes.{cleared, has_id, loses_lookup, without}
use Rattle.model.specs.Ordered.{put_in}
use Rattle.model.specs.Tenant.{Tenant}
use Rattle.model.specs.Updates.{with_changed}
use Rattle.model.specs.World.{having_id}
use Rattle.store_abstraction.specs.Plan.{OrgPlan}
use Rattle.record_index.proofs.DiffTurned.{bytes_turned}
use Rattle.record_index.specs.diff.Touched.{IsTouched, fresh_plan, has, record_ids, touched_by}

-- ---- a create

abbrev id_order : Record → Record → Ordering
id_order a b = slice_cmp nat_cmp a.id b.id

-- another id names what it named
found_put : (r : Record) (i : List ℕ) → bytes_eq i r.id ≡ false → (rs : List Record)
    → having_id (λ (x : Record). x.id) (put_in id_order r rs) i ≡ having_id (λ (x : Record). x.id) rs i
found_put r i e [] = rw e refl
found_put r i e (y ∷ rs) =
    pick (is_lt (id_order r y)) (λ b. having_id (λ (x : Record). x.id) (cond b (r ∷ y ∷ rs) (y ∷ put_in id_order r rs)) i ≡ having_id (λ (x : Record). x.id) (y ∷ rs) i)
    (λ _. ap (λ b. cond b (Some r) (having_id (λ (x : Record). x.id) (y ∷ rs) i)) e)
    (λ _. ap (λ z. cond (bytes_eq i y.id) (Some y) z) (found_put r i e rs))

pub created : (p : OrgPlan) (t : Tenant) (r : Record) → IsTouched p (fresh_plan r.id p) t (with_record r t) (r.id ∷ [])
created p t r = record {
  content = refl;
  plan = refl;
  records = λ i h. found_put r i (apart i h) t.records;
  left = λ i h. ap (λ b. cond b None (p.left i)) (apart i h);
}
  where
    apart : (i : List ℕ) → has (r.id ∷ []) i ≡ false → bytes_eq i r.id ≡ false
    apart i h = bytes_turned i r.id ∙ or_left_false (bytes_eq r.id i) false h

-- ---- an update

found_changed : (new : Record) (i : List ℕ) → bytes_eq i new.id ≡ false → (rs : List Record)
    → having_id (λ (x : Record). x.id) (map (λ r. if bytes_eq r.id new.id then new else r) rs) i ≡ having_id (λ (x : Record). x.id) rs i
found_changed new i e [] = refl
found_changed new i e (r ∷ rs) =
    pick (bytes_eq r.id new.id)
    (λ b. cond (bytes_eq i (cond b new r).id) (Some (cond b new r)) (having_id (λ (x : Record). x.id) (map (λ r. if bytes_eq r.id new.id then new else r) rs) i)
    ≡ cond (bytes_eq i r.id) (Some r) (having_id (λ (x : Record). x.id) rs i))
    (λ g. rw (e, ap (bytes_eq i) (same_exact r.id new.id g) ∙ e) (found_changed new i e rs))
    (λ _. ap (λ z. cond (bytes_eq i r.id) (Some r) z) (found_changed new i e rs))

pub changed : (p : OrgPlan) (t : Tenant) (old new : Record) → IsTouched p p t (with_changed old new t) (new.id ∷ [])
changed p t old new = record {
  content = refl;
  plan = refl;
  records = λ i h. found_changed new i (bytes_turned i new.id ∙ or_left_false (bytes_eq new.id i) false h) t.records;
  left = λ i h. refl;
}

-- ---- a delete

has_ids : (rs : List Record) (i : List ℕ) → has_id rs i ≡ has (record_ids rs) i
has_ids [] i = refl
has_ids (r ∷ rs) i = ap (λ b. bytes_eq r.id i || b) (has_ids rs i)

module _ (now : ℤ) (t : Tenant) (gone : List Record) (i : List ℕ) (stays : has_id gone i ≡ false) where
  cleared_id : (r : Record) → (cleared now t gone r).id ≡ r.id
  cleared_id r = pick (loses_lookup t gone r) (λ b. (cleared now t gone r).id ≡ r.id) (λ e. rw e refl) (λ e. rw e refl)

  -- the record with the id isn't cleared
  kept : (r : Record) → (loses_lookup t gone r ≡ true → bytes_eq r.id i ≡ false) → bytes_eq i r.id ≡ true → cleared now t gone r ≡ r
  kept r free e = rw (not_loses (loses_lookup t gone r) free) refl
    where
      not_loses : (b : Bool) → (b ≡ true → bytes_eq r.id i ≡ false) → b ≡ false
      not_loses true h = absurd (clash (sym (ap (bytes_eq r.id) (same_exact i r.id e) ∙ same_itself r.id) ∙ h refl))
      not_loses false h = refl

  abbrev losers : List Record → List (List ℕ)
  losers rs = record_ids (filter (loses_lookup t gone) rs)

  abbrev left : List Record → List Record
  left rs = map (cleared now t gone) (filter (λ r. not (has_id gone r.id)) rs)

  abbrev at_id : List Record → Option Record
  at_id rs = having_id (λ (r : Record). r.id) rs i

  rest_of : (r : Record) (rs : List Record) → has (losers (r ∷ rs)) i ≡ false → has (losers rs) i ≡ false
  rest_of r rs h = pick (loses_lookup t gone r) (λ b. has (record_ids (cond b (r ∷ filter (loses_lookup t gone) rs) (filter (loses_lookup t gone) rs))) i ≡ false → has (losers rs) i ≡ false) (λ _ e. or_right_false (bytes_eq r.id i) _ e) (λ _ e. e) h

  own_of : (r : Record) (rs : List Record) → has (losers (r ∷ rs)) i ≡ false → loses_lookup t gone r ≡ true → bytes_eq r.id i ≡ false
  own_of r rs h g = or_left_false (bytes_eq r.id i) _ (subst (λ (b : Bool). has (record_ids (cond b (r ∷ filter (loses_lookup t gone) rs) (filter (loses_lookup t gone) rs))) i ≡ false) g h)

  some_record : Record → Option Record
  some_record x = Some x

  step : (r : Record) (rs : List Record) → has (losers (r ∷ rs)) i ≡ false → at_id (left rs) ≡ at_id rs → at_id (left (r ∷ rs)) ≡ at_id (r ∷ rs)
  unfolding some_record
  step r rs h more =
      pick (has_id gone r.id) (λ b. at_id (map (cleared now t gone) (cond (not b) (r ∷ filter (λ r. not (has_id gone r.id)) rs) (filter (λ r. not (has_id gone r.id)) rs))) ≡ at_id (r ∷ rs))
      (λ g. more ∙ sym (pick (bytes_eq i r.id) (λ b. cond b (Some r) (at_id rs) ≡ at_id rs)
      (λ e. absurd (clash (sym (ap (has_id gone) (same_exact i r.id e) ∙ g) ∙ stays)))
      (λ _. refl)))
      (λ _. subst (λ (x : List ℕ). cond (bytes_eq i x) (Some (cleared now t gone r)) (at_id (left rs)) ≡ cond (bytes_eq i r.id) (Some r) (at_id rs)) (sym (cleared_id r))
      (pick (bytes_eq i r.id) (λ b. bytes_eq i r.id ≡ b → cond b (Some (cleared now t gone r)) (at_id (left rs)) ≡ cond b (Some r) (at_id rs))
      (λ e _. ap some_record (kept r (own_of r rs h) e))
      (λ _ _. more)
      refl))

  found : (rs : List Record) → has (record_ids (filter (loses_lookup t gone) rs)) i ≡ false
      → having_id (λ (r : Record). r.id) (map (cleared now t gone) (filter (λ r. not (has_id gone r.id)) rs)) i ≡ having_id (λ (r : Record). r.id) rs i
  found [] h = refl
  found (r ∷ rs) h = step r rs h (found rs (rest_of r rs h))

pub taken : (p : OrgPlan) (now : ℤ) (t : Tenant) (gone : List Record) → IsTouched p p t (without now gone t) (touched_by t gone)
taken p now t gone = record {
  content = refl;
  plan = refl;
  records = λ i e.
      let split = sym (list_any-append (λ x. bytes_eq x i) (record_ids gone) (record_ids (filter (loses_lookup t gone) t.records))) ∙ e in
      found now t gone i (has_ids gone i ∙ or_left_false (has (record_ids gone) i) _ split) t.records (or_right_false (has (record_ids gone) i) _ split);
  left = λ i e. refl;
}
