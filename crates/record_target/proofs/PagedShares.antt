-- What a page of a record's manual shares gives is the shares that its tenant has of it.
use Rattle.std.proofs.Common.{◌≡◌, ℕ, ◌≤◌, ◌<◌, ◌^◌, false, cond, IsTrue, List, ◌++◌, length, map, take, Option, Some, sym, subst, arith, nat_le}
use Rattle.std.specs.Prelude.{Result, Ok, Err, Vec}
use Rattle.std.proofs.lemmas.Bool.Decides.{nat_tests}
use Rattle.std.proofs.lemmas.List.{length-map, take_all}
use Rattle.base_lemmas.proofs.Options.{some_from_IsSome as some_of}
use Rattle.base_lemmas.proofs.Bools.{by_answer as pick}
use Rattle.store_kv.specs.declared.keeper.KeptRow.{KeptRow}
use Rattle.store_kv.specs.Prefixes.{raised}
use Rattle.store_kv.specs.Tables.{Tables, rows_between}
use Rattle.store_rows.specs.declared.fail.StoreFail.{StoreFail}
use Rattle.store_rows.specs.declared.fail.StoreFail.TheVariants.{Keeper, Memory, Damaged}
use Rattle.store_rows.specs.declared.share.ShareRow.{ShareRow}
use Rattle.store_rows.specs.Listings.{rows_to}
use Rattle.store_rows.specs.Reads.{ListsAs}
use Rattle.store_rows.specs.Rows.{share_form}
use Rattle.model.specs.Shares.{shares_of}
use Rattle.model.specs.Tenant.{Tenant}
use Rattle.record_target.proofs.ListedShares.{KeyLaws, prefix_of, shares_listed}
use Rattle.record_target.specs.Shares.{ListsShares}
use Rattle.store_codec.specs.Plain.{number8}
use Rattle.schema_rules.proofs.Read.{ListedIn, PrefixEnds, UnderOrg}
use Rattle.schema_rules.specs.inner.Pages.{at_most}
use Rattle.store_abstraction.specs.Local.{StandsIn, part_of, rows_alone}
use Rattle.store_abstraction.specs.Metadata.{row_of_share}
use Rattle.store_abstraction.specs.Plan.{OrgPlan}
use Rattle.store_abstraction.proofs.Pages.{GivesRows, PageLaws, page_gives}
use Rattle.base_value.specs.Id.{is_id}

-- ---- laws of rows, as `store_rows` and `store_abstraction` say

pub record ReadLaws : Type 0 where
  pub keys : KeyLaws
  pub pages : PageLaws share_form
  pub ends : PrefixEnds
  pub under : UnderOrg
  pub listed : ListedIn

-- ---- what is read

module _ {A : Type 0} (laws : ReadLaws) (m : Tables) (org : ℕ) (lo : org < 2 ^ 32) (id : List ℕ) (is : IsTrue (is_id id)) where
  module _ (r : Result (Vec ShareRow A) StoreFail) (e : ListsAs share_form (take 101 (rows_to m 12 (prefix_of org id) (raised (prefix_of org id)))) r) where
    record Given (t : Tenant) : Type 0 where
      few : length (map (row_of_share org) (shares_of id t.shares)) ≤ 100
      gives : GivesRows (map (row_of_share org) (shares_of id t.shares)) r

    given : (q : OrgPlan) (t : Tenant) → StandsIn org q m (Some t) → Given t
    given q t s =
        let (above, raise) = some_of (raised (prefix_of org id)) (laws.ends org (number8 0 ++ id) s.number) in
        let lists = shares_listed laws.keys q t org lo s.sound id is above raise in
        let part : rows_between m 12 (prefix_of org id) above ≡ rows_between (part_of org m) 12 (prefix_of org id) above =
        laws.listed m org 12 (prefix_of org id) above (λ key inside. laws.under org (number8 0 ++ id) above key raise inside) in
        let found = subst (λ (o : Option (List ℕ)). ListsAs share_form (take 101 (rows_to m 12 (prefix_of org id) o)) r) raise e in
        let page = subst (λ (kept : List KeptRow). ListsAs share_form (take 101 kept) r) part found in
        let all = map (row_of_share org) (shares_of id t.shares) in
        let short : length all ≤ 100 = omega (arith, length-map (shares_of id t.shares) (row_of_share org), s.sound.shares.few id) in
        record {
          few = short;
          gives = subst (λ (us : List ShareRow). GivesRows us r) (take_all 101 all (omega (arith, short)))
              (page_gives share_form laws.pages (part_of org m) (rows_alone org q (Some t)) s.rows (prefix_of org id) (Some above) all 101 lists r page);
        }

  pub lists_shares : (r : Result (Vec ShareRow A) StoreFail) → ListsAs share_form (take 101 (rows_to m 12 (prefix_of org id) (raised (prefix_of org id)))) r
      → (q : OrgPlan) (t : Tenant) → StandsIn org q m (Some t) → ListsShares org t id (at_most 100 r)
  lists_shares (Err Keeper) e q t s = λ x. absurd cc
  lists_shares (Err Memory) e q t s = λ x. absurd cc
  lists_shares (Err Damaged) e q t s = absurd (given (Err Damaged) e q t s).gives
  lists_shares (Ok rows) e q t s =
      let g = given (Ok rows) e q t s in
      pick (nat_le (length rows.items) 100) (λ b. ListsShares org t id (cond b (Ok rows.items) (Err Damaged)))
      (λ _. g.gives)
      (λ many.
      let few : length rows.items ≤ 100 = subst (λ (us : List ShareRow). length us ≤ 100) (sym g.gives) g.few in
      absurd (too_many (length rows.items) few many))
    where
      too_many : (n : ℕ) → n ≤ 100 → nat_le n 100 ≡ false → ⊥
      too_many n few many = grind (arith, nat_tests)
