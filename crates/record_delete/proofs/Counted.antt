-- Which rows count or share records that go.
use Rattle.std.proofs.Common.{◌≡◌, ℕ, ◌<◌, ◌^◌, true, false, List, ◌++◌, Some, sym, subst, ℤ}
use Rattle.std.specs.List.{AllByRecursion}
use Rattle.base_lemmas.proofs.Lists.{each-append as all_append}
use Rattle.std.proofs.lemmas.Option.{same_Some as some_is}
use Rattle.record_cascade.specs.Deletion.{gone_ids}
use Rattle.record_delete.specs.Deleting.{counts_less, shares_ended}
use Rattle.record_delete.proofs.Counting.{counts_are, object_rest, org_changed}
use Rattle.record_delete.proofs.Sharing.{SamePrincipals, share_rest, shares_are}
use Rattle.store_rows.specs.Keys as key
use Rattle.store_rows.specs.Keys.{FitsKey, Key}
use Rattle.model.specs.declared.record.Record.{Record}
use Rattle.model.specs.Deletes.{without}
use Rattle.model.specs.Sound.{IsSound}
use Rattle.model.specs.Tenant.{Tenant}
use Rattle.store_abstraction.specs.Changes.{Change, IsOf, is_changed}
use Rattle.store_abstraction.specs.Plan.{OrgPlan}
use Rattle.store_abstraction.specs.Stands.{org_of_key, row_in}
use Rattle.record_index.proofs.DiffTurned.{left_unchanged, right_unchanged}
use Rattle.record_index.specs.diff.Touched.{AreCounts, is_counted}

module _ (same : SamePrincipals) (org : ℕ) (q : OrgPlan) (now : ℤ) (t : Tenant) (gone : List Record) (sound : IsSound t) where
  abbrev u : Tenant
  u = without now gone t

  abbrev ids : List (List ℕ)
  ids = gone_ids t gone

  abbrev changes : List Change
  changes = counts_less org t ids ++ shares_ended org t ids

  -- at a key of the organisation itself
  own_rest : (k : Key) → org_of_key k ≡ Some org → is_counted k ≡ true → is_changed changes k ≡ false → row_in q u k ≡ row_in q t k
  own_rest (key.Org m) own c e =
      let at : m ≡ org = some_is m org own in
      absurd (org_changed org q now t gone (left_unchanged (counts_less org t ids) (shares_ended org t ids) (key.Org org) (subst (λ (n : ℕ). is_changed changes (key.Org n) ≡ false) at e)))
  own_rest (key.Object m n) own c e =
      let at : m ≡ org = some_is m org own in
      subst (λ (x : ℕ). row_in q u (key.Object x n) ≡ row_in q t (key.Object x n)) (sym at)
      (object_rest org q now t gone n
      (left_unchanged (counts_less org t ids) (shares_ended org t ids) (key.Object org n) (subst (λ (x : ℕ). is_changed changes (key.Object x n) ≡ false) at e)))
  own_rest (key.Share m id to) own c e =
      let at : m ≡ org = some_is m org own in
      subst (λ (x : ℕ). row_in q u (key.Share x id to) ≡ row_in q t (key.Share x id to)) (sym at)
      (share_rest same org q now t gone sound id to
      (right_unchanged (counts_less org t ids) (shares_ended org t ids) (key.Share org id to) (subst (λ (x : ℕ). is_changed changes (key.Share x id to) ≡ false) at e)))
  own_rest key.Version own c e = absurd cc
  own_rest (key.Field m i f) own c e = absurd cc
  own_rest (key.Job m) own c e = absurd cc
  own_rest (key.User m i) own c e = absurd cc
  own_rest (key.Role m i) own c e = absurd cc
  own_rest (key.Group m i) own c e = absurd cc
  own_rest (key.Validation m i name) own c e = absurd cc
  own_rest (key.Sharing m name) own c e = absurd cc
  own_rest (key.Data m i id) own c e = absurd cc
  own_rest (key.Index m i s v id) own c e = absurd cc
  own_rest (key.Unique m i s v) own c e = absurd cc
  own_rest (key.Relation m i s v id) own c e = absurd cc
  own_rest (key.Owner m i w id) own c e = absurd cc
  own_rest (key.Grant m to i id cause) own c e = absurd cc

  pub counted : org < 2 ^ 32 → AllByRecursion (λ (c : Change). FitsKey c.0) (shares_ended org t ids) → AreCounts org q q t u changes
  counted lo keys = record {
    of = all_append (IsOf org q u) (counts_less org t ids) (shares_ended org t ids) (counts_are org q now t gone lo sound) (shares_are same org q now t gone keys);
    rest = own_rest;
  }
