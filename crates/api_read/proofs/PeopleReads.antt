-- Lists of rows that fail to be read, and three reads one after the other.
use Rattle.std.proofs.Common.{◌≡◌, ◌∙◌, ℕ, List, Option, Some, subst}
use Rattle.std.specs.Prelude.{Err, Result, Vec}
use Rattle.model.specs.Tenant.{Tenant}
use Rattle.people_rows.specs.Roster.{ListsIn}
use Rattle.store_abstraction.specs.Calls.{Calls, Ending}
use Rattle.store_abstraction.specs.Local.{StandsIn}
use Rattle.store_abstraction.specs.Plan.{OrgPlan}
use Rattle.store_edit.proofs.Reading.{SameTables, TellsFirst, TellsThen, two_reads}
use Rattle.store_kv.specs.Draft.{DraftTells, Held, tables_of}
use Rattle.store_kv.specs.State.{KeeperState}
use Rattle.store_kv.specs.Tables.{Tables}
use Rattle.store_rows.specs.declared.fail.StoreFail.{StoreFail}
use Rattle.store_rows.specs.declared.fail.StoreFail.TheVariants.{Damaged, Keeper, Memory}

-- ---- a list that isn't read

module _ (org : ℕ) (q : OrgPlan) (m : Tables) (t : Tenant) where
  pub unlisted : {U A : Type 0} (rows : OrgPlan → Option Tenant → List U) (r : Result (Vec U A) StoreFail) (e : StoreFail) → ListsIn org rows m r → r ≡ Err e → StandsIn org q m (Some t) → e ≡ Damaged → ⊥
  unlisted {U} {A} rows r e h was s = by e (subst (ListsIn org rows m) was h)
    where
      by : (e : StoreFail) → ListsIn {A = A} org rows m (Err e) → e ≡ Damaged → ⊥
      by Damaged h d = h q (Some t) s
      by Keeper h d = absurd cc
      by Memory h d = absurd cc

-- ---- three reads

module _ {K : Type 0} (state : K → KeeperState) where
  -- what the draft tells over all of them it tells over each, and they leave the tables
  pub record ThreeReads (a b c d : Held K) : Type 0 where
    pub first : DraftTells state a b
    pub second : DraftTells state b c
    pub third : DraftTells state c d
    pub after_first : tables_of state b ≡ tables_of state a
    pub after_second : tables_of state c ≡ tables_of state a

  pub three_reads : TellsFirst state → TellsThen state → SameTables state → {e f g : Ending} (a b c d : Held K) → Calls state 0 e a b → Calls state 0 f b c → Calls state 0 g c d → DraftTells state a d → ThreeReads a b c d
  three_reads tells_first tells_then same {e} {f} {g} a b c d one two three told =
      let both = two_reads state tells_first tells_then same a b c one two (tells_first 0 g a c d three told) in
      let rest = tells_then 0 e a b d one both.first told in
      record {
        first = both.first;
        second = both.then;
        third = tells_then 0 f b c d two both.then rest;
        after_first = both.same;
        after_second = same 0 f b c two both.then ∙ both.same;
      }
