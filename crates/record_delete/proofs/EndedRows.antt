-- The rows of manual shares that end, as changes.
use Rattle.std.proofs.Common.{◌≡◌, ◌∙◌, ℕ, ◌≤◌, cond, List, [], ◌∷◌, ◌++◌, length, map, None, refl, sym, ap, subst, arith, bytes_eq}
use Rattle.std.specs.Prelude.{Ok}
use Rattle.std.specs.List.{AllByRecursion}
use Rattle.std.specs.Cmp.Lexicographic.{bytes_decides}
use Rattle.std.proofs.lemmas.List.{append-nil}
use Rattle.base_lemmas.proofs.Bools.{by_answer as pick}
use Rattle.store_edit.specs.Rows.{gone_of}
use Rattle.store_edit.specs.Rows as rows
use Rattle.store_kv.specs.declared.keeper.Change.{Change as Spelled}
use Rattle.store_rows.specs.Keys as key
use Rattle.store_rows.specs.Keys.{FitsKey}
use Rattle.store_rows.specs.declared.share.ShareRow.{ShareRow}
use Rattle.model.specs.Shares.{shares_of}
use Rattle.model.specs.Tenant.{Share, Tenant}
use Rattle.record_target.specs.Shares.{shares_removed}
use Rattle.store_abstraction.specs.Changes.{Change}
use Rattle.store_abstraction.specs.Local.{IsIn}
use Rattle.store_abstraction.specs.Metadata.{row_of_share}
use Rattle.record_delete.specs.Deleting.{shares_ended}
use Rattle.record_delete.specs.inner.Adding.{Adds, AddsThese}

-- ---- they are those of the record's shares

abbrev ended : (org : ℕ) → Share → Change
ended org s = (key.Share org s.item s.to, None)

rows_are : (org : ℕ) (id : List ℕ) (shares : List Share) → shares_removed org id (map (row_of_share org) (shares_of id shares)) ≡ map (ended org) (shares_of id shares)
rows_are org id [] = refl
rows_are org id (s ∷ shares) =
    pick (bytes_eq s.item id) (λ b. shares_removed org id (map (row_of_share org) (cond b (s ∷ shares_of id shares) (shares_of id shares))) ≡ map (ended org) (cond b (s ∷ shares_of id shares) (shares_of id shares)))
    (λ h. ap (λ (i : List ℕ). (key.Share org i s.to, None) ∷ shares_removed org id (map (row_of_share org) (shares_of id shares))) (sym ((bytes_decides s.item id).0 h))
    ∙ ap (λ (cs : List Change). ended org s ∷ cs) (rows_are org id shares))
    (λ h. rows_are org id shares)

pub ended_are : (org : ℕ) (t : Tenant) (id : List ℕ) (us : List ShareRow) → us ≡ map (row_of_share org) (shares_of id t.shares) → shares_removed org id us ≡ shares_ended org t (id ∷ [])
ended_are org t id us is = ap (shares_removed org id) is ∙ rows_are org id t.shares ∙ sym (append-nil (map (ended org) (shares_of id t.shares)))

-- ---- they are few, and of the organisation

are_in : (org : ℕ) (id : List ℕ) (us : List ShareRow) → AllByRecursion (λ (c : Change). FitsKey c.0) (shares_removed org id us) → AllByRecursion (IsIn org) (shares_removed org id us)
are_in org id [] h = tt
are_in org id (u ∷ us) h = ((h.0, refl), are_in org id us h.1)

as_many : (org : ℕ) (id : List ℕ) (us : List ShareRow) → length (shares_removed org id us) ≡ length us
as_many org id [] = refl
as_many org id (u ∷ us) = let e = as_many org id us in omega (arith, e)

none_gone : (org : ℕ) (id : List ℕ) (us : List ShareRow) → gone_of (map rows.spelled (shares_removed org id us)) ≡ 0
none_gone org id [] = refl
none_gone org id (u ∷ us) = let e = none_gone org id us in omega (arith, e)

pub adds_ended : (org : ℕ) (id : List ℕ) (us : List ShareRow) (old new : List Spelled) → length us ≤ 100 → AllByRecursion (λ (c : Change). FitsKey c.0) (shares_removed org id us)
    → new ≡ old ++ map rows.spelled (shares_removed org id us) → Adds org 100 0 old new
adds_ended org id us old new few keys are =
    let many = as_many org id us in
    let none = none_gone org id us in
    record { changes = shares_removed org id us; are = are; own = are_in org id us keys; few = omega (arith, many, few); gone = omega (arith, none) }

pub these_ended : (org : ℕ) (t : Tenant) (id : List ℕ) (us : List ShareRow) (old new : List Spelled) → us ≡ map (row_of_share org) (shares_of id t.shares) → AllByRecursion (λ (c : Change). FitsKey c.0) (shares_removed org id us)
    → new ≡ old ++ map rows.spelled (shares_removed org id us) → AddsThese {X = Unit {0}} (shares_ended org t (id ∷ [])) old new (Ok tt)
these_ended org t id us old new is keys are = subst (λ (cs : List Change). AddsThese {X = Unit {0}} cs old new (Ok tt)) (ended_are org t id us is) (are, keys)

-- one record's behind those of others
pub ended_both : (org : ℕ) (t : Tenant) (id : List ℕ) (ids : List (List ℕ)) → shares_ended org t (id ∷ ids) ≡ shares_ended org t (id ∷ []) ++ shares_ended org t ids
ended_both org t id ids = ap (λ (cs : List Change). cs ++ shares_ended org t ids) (sym (append-nil (map (ended org) (shares_of id t.shares))))
