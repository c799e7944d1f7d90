-- An operation whose draft was judged, once it is ended.
use Rattle.std.proofs.Common.{◌≡◌, ◌∙◌, ℕ, sym, ap, subst}
use Rattle.std.specs.Prelude.{OnErr, Result, Ok, Err}
use Rattle.std.specs.FinMap as map
use Rattle.store_kv.specs.Draft.{ChangesNothing, DraftTells, Held, keeper_of, tables_of}
use Rattle.store_kv.specs.Laid.{laid}
use Rattle.store_kv.specs.State.{KeeperState, Shows, Steps, Tells}
use Rattle.store_kv.specs.Tables.{Tables}
use Rattle.store_rows.specs.declared.fail.StoreFail.{StoreFail}
use Rattle.store_abstraction.specs.Local.{KeepsOthers}
use Rattle.store_abstraction.specs.Operations.{Does, Ends, IsChange, Judges}
use Rattle.store_abstraction.specs.declared.judged.Judged.{Judged}
use Rattle.store_abstraction.specs.declared.judged.Judged.TheVariants.{Changed, Same}

module _ {X : Type 0} (before drafted : Tables) (new : KeeperState) where
  -- it is done whole, or nothing is changed
  pub done : {S : Type 0} (stands : Tables → S → Type 0) (does : S → X × S) (s : S) (j : Result (Judged X) StoreFail) (r : Result X StoreFail)
      → Ends j before drafted new r → Judges stands does s drafted j → stands before s → Does stands does s new r
  done stands does s (Ok (Same x)) (Ok y) h k b = (h.0 ∙ k.0, (h.1.0, subst (λ (m : Tables). stands m (does s).1) (sym h.1.1) (subst (stands before) (sym k.1) b)))
  done stands does s (Ok (Same x)) (Err e) h k b = absurd h
  done stands does s (Ok (Changed x)) (Ok y) h k b = (h.0 ∙ k.0, (h.1.0, subst (λ (m : Tables). stands m (does s).1) (sym h.1.1) k.1))
  done stands does s (Ok (Changed x)) (Err e) h k b = (h.0, (h.1.0, subst (λ (m : Tables). stands m s) (sym h.1.1) b))
  done stands does s (Err e) (Ok y) h k b = absurd h
  done stands does s (Err e) (Err f) h k b = ((λ d. k (sym h.0 ∙ d)), (h.1.0, subst (λ (m : Tables). stands m s) (sym h.1.1) b))

  pub kept_if_failed : (j : Result (Judged X) StoreFail) (r : Result X StoreFail) → Ends j before drafted new r → OnErr r (Shows new before)
  kept_if_failed j (Ok y) h = tt
  kept_if_failed (Ok (Same x)) (Err e) h = absurd h
  kept_if_failed (Ok (Changed x)) (Err e) h = h.1
  kept_if_failed (Err e) (Err f) h = h.1

  pub unchanged : (j : Result (Judged X) StoreFail) (r : Result X StoreFail) → Ends j before drafted new r → (IsChange j → ⊥) → Shows new before
  unchanged (Ok (Same x)) (Ok y) h none = h.1
  unchanged (Ok (Same x)) (Err e) h none = absurd h
  unchanged (Ok (Changed x)) r h none = absurd (none tt)
  unchanged (Err e) (Ok y) h none = absurd h
  unchanged (Err e) (Err f) h none = h.1

  -- no row of others changes
  pub others_stay : (n : ℕ) (j : Result (Judged X) StoreFail) (r : Result X StoreFail) → Ends j before drafted new r → (IsChange j → KeepsOthers n before drafted) → KeepsOthers n before new.tables
  others_stay n (Ok (Same x)) (Ok y) h k place other = ap (λ (m : Tables). map.get m place) h.1.1
  others_stay n (Ok (Same x)) (Err e) h k place other = absurd h
  others_stay n (Ok (Changed x)) (Ok y) h k place other = ap (λ (m : Tables). map.get m place) h.1.1 ∙ k tt place other
  others_stay n (Ok (Changed x)) (Err e) h k place other = ap (λ (m : Tables). map.get m place) h.1.1
  others_stay n (Err e) (Ok y) h k place other = absurd h
  others_stay n (Err e) (Err f) h k place other = ap (λ (m : Tables). map.get m place) h.1.1

-- ---- drafts

module _ {K : Type 0} (state : K → KeeperState) where
  -- a draft without changes reads as its keeper
  pub empty_tables : (d : Held K) → ChangesNothing d → tables_of state d ≡ (state (keeper_of d)).tables
  empty_tables d e = ap (λ es. laid es (state (keeper_of d)).tables) e

  pub told_draft : (a b : Held K) (new : KeeperState) → Tells (state (keeper_of a)) new → Steps (state (keeper_of b)) new → DraftTells state a b
  told_draft a b new told steps = (told.0, steps.stood told.1)

-- between keepers by other names
pub moved : {K : Type 0} (P : K → K → Type 0) (a b c d : K) → a ≡ c → d ≡ b → P a b → P c d
moved P a b c d p q h = subst (λ x. P x d) p (subst (λ y. P a y) (sym q) h)
