-- What a page of an object's rows gives is its records, from an id on.
use Rattle.std.proofs.Common.{◌≡◌, ℕ, ◌<◌, ◌≤◌, ◌^◌, false, true, IsTrue, List, [], ◌∷◌, ◌++◌, length, map, take, Option, Some, None, refl, sym, ap, subst, ◌∙◌, inl, inr, arith}
use Rattle.std.specs.Prelude.{◌==◌, IfSome, Result, Ok, Err, Vec}
use Rattle.std.specs.Option.{option_map}
use Rattle.std.proofs.lemmas.List.{take-map}
use Rattle.base_lemmas.proofs.Lists.{length-map_by as length_mapped, length-take_most as short_take}
use Rattle.base_lemmas.proofs.Options.{some_from_IsSome as some_of}
use Rattle.base_value.specs.Causes.{GivesOr}
use Rattle.base_value.specs.Id.{is_id}
use Rattle.store_kv.specs.declared.keeper.KeptRow.{KeptRow}
use Rattle.store_kv.specs.Prefixes.{raised}
use Rattle.store_kv.specs.State.{seen}
use Rattle.store_kv.specs.Tables.{Tables, is_between, rows_between}
use Rattle.store_rows.specs.declared.data.DataRow.{DataRow}
use Rattle.store_rows.specs.declared.fail.StoreFail.{StoreFail}
use Rattle.store_rows.specs.declared.fail.StoreFail.TheVariants.{Keeper, Memory, Damaged}
use Rattle.store_rows.specs.Forms.{kept_as}
use Rattle.store_rows.specs.Listings.{rows_to, start_of}
use Rattle.store_rows.specs.Reads.{ListsAs}
use Rattle.store_rows.specs.Rows.{data_form}
use Rattle.model.specs.declared.record.Record.{Record}
use Rattle.model.specs.Cases.{in_case}
use Rattle.model.specs.Membership.{Has}
use Rattle.model.specs.Tenant.{Object, Tenant}
use Rattle.store_codec.specs.Plain.{number16, number32}
use Rattle.store_abstraction.specs.declared.layout.Layout.{Layout}
use Rattle.store_abstraction.specs.Entries.{data_of, slot_entry}
use Rattle.store_abstraction.specs.Layouts.{FindsOf, IsLayout, records_after}
use Rattle.store_abstraction.specs.Local.{StandsIn, is_under, part_of, rows_alone}
use Rattle.store_abstraction.specs.Plan.{OrgPlan}
use Rattle.store_abstraction.proofs.LayoutReads.{ListedIn}
use Rattle.store_abstraction.proofs.MetadataLists.{PrefixEnds}
use Rattle.store_abstraction.proofs.Pages.{GivesRows, PageLaws, page_gives}
use Rattle.record_read.specs.Decoding.{each_from, has_types, record_from}
use Rattle.record_read.specs.Rows.{FindsRows, rows_of_records}
use Rattle.record_read.specs.inner.Found.{listed_from}
use Rattle.record_read.proofs.Listed.{KeyLaws, begins_so, key_at, member, prefix_of, row_of, rows_listed, those}
use Rattle.record_read.proofs.Loading.{err_is, no_ok, ok_is}
use Rattle.record_read.proofs.RecordFits.{MakesIds, record_is_id}
use Rattle.record_read.proofs.Rising.{has_take}
use Rattle.record_read.proofs.Standing.{Laws, layout_is, row_in_plan}

-- the keys of an interval that begins with the organisation's number are under it, as `local_laws` says
abbrev pub UnderNumber : Type 0
UnderNumber = (n : ℕ) (rest above key : List ℕ) → raised (number32 n ++ rest) ≡ Some above → IsTrue (is_between (number32 n ++ rest) above key) → is_under (number32 n) key ≡ true

pub record WalkLaws : Type 0 where
  pub laws : Laws
  pub keys : KeyLaws
  pub pages : PageLaws data_form
  pub makes : MakesIds
  pub ends : PrefixEnds
  pub under : UnderNumber
  pub listed : ListedIn

rows_read : (l : Layout) (row : Record → DataRow) (rs : List Record) → ((r : Record) → Has rs r → record_from l (row r) ≡ Some r) → each_from (record_from l) (map row rs) ≡ Some rs
rows_read l row [] h = refl
rows_read l row (r ∷ rs) h = rw (h r (inl refl), rows_read l row rs (λ x has. h x (inr has))) refl

after_is : (n : ℕ) (after : Option (List ℕ)) (limit : ℕ) (t : Tenant) → records_after n after limit t ≡ take limit (those t n after)
unfolding records_after
after_is n after limit t = refl

-- by a layout whose types aren't within their bounds no row spells a record
pub none_typed : (l : Layout) (rows : List DataRow) → has_types l ≡ false → (length rows == 0) ≡ false → each_from (record_from l) rows ≡ None
none_typed l [] h e = absurd cc
none_typed l (row ∷ rows) h e = rw h refl

-- ---- options, and how many rows are seen

pub some_mapped : {X Y : Type 0} (P : Y → Type 0) (g : X → Y) (o : Option X) → IfSome o (λ x. P (g x)) → IfSome (option_map g o) P
some_mapped P g None h = tt
some_mapped P g (Some x) h = h

pub few_seen : {A : Type 0} (limit : ℕ) (kept : List KeptRow) (r : Result (Vec DataRow A) StoreFail) → ListsAs data_form (take limit kept) r → seen limit r ≤ limit
few_seen limit kept (Ok rows) e =
    let same : length rows.items ≡ length (take limit kept) = sym (length_mapped (kept_as data_form) rows.items) ∙ ap length e.0 in
    omega (arith, same, short_take limit kept)
few_seen limit kept (Err f) e = omega arith

-- what is in the tables: the records, and that they are read
record Walked (A : Type 0) (q : OrgPlan) (t : Tenant) (l : Layout) (after : Option (List ℕ)) (limit : ℕ) (rows : Result (Vec DataRow A) StoreFail) : Type 0 where
  listed : List Record
  is : records_after l.object after limit t ≡ listed
  row : Record → DataRow
  reads : each_from (record_from l) (map row listed) ≡ Some listed
  are : map row listed ≡ rows_of_records q t l listed
  gives : GivesRows (map row listed) rows

module _ {A : Type 0} (walk : WalkLaws) (m : Tables) (l : Layout) (after : Option (List ℕ)) (limit : ℕ) (lo : l.org < 2 ^ 32) (small : l.object < 2 ^ 16) (ha : IfSome after (λ j. IsTrue (is_id j))) (rows : Result (Vec DataRow A) StoreFail)
    (e : ListsAs data_form (take limit (rows_to m 7 (start_of (prefix_of l.org l.object) (option_map (key_at l.org l.object) after)) (raised (prefix_of l.org l.object)))) rows) where
  abbrev from : List ℕ
  from = start_of (prefix_of l.org l.object) (option_map (key_at l.org l.object) after)

  walked : (q : OrgPlan) (t : Tenant) → StandsIn l.org q m (Some t) → IsLayout q t l → Walked A q t l after limit rows
  walked q t s h =
      let one = layout_is q t l h in
      let ids : (r : Record) → Has t.records r → IsTrue (is_id r.id) = λ r has. record_is_id walk.makes t r s.sound has in
      let row = row_of walk.laws walk.keys q t l one s.sound s.plan ids lo small in
      let (above, rises) = some_of (raised (prefix_of l.org l.object)) (walk.ends l.org (number16 l.object) s.number) in
      let all = those t l.object after in
      let lists = rows_listed walk.laws walk.keys q t l one s.sound s.plan ids lo small above rises after ha in
      let begins = begins_so walk.laws walk.keys q t l one s.sound s.plan ids lo small above rises after in
      let part : rows_between m 7 from above ≡ rows_between (part_of l.org m) 7 from above =
      walk.listed m l.org 7 from above (λ key inside. walk.under l.org (number16 l.object) above key rises (begins key ha inside)) in
      let found = subst (λ (o : Option (List ℕ)). ListsAs data_form (take limit (rows_to m 7 from o)) rows) rises e in
      let page = subst (λ (kept : List KeptRow). ListsAs data_form (take limit kept) rows) part found in
      record {
        listed = take limit all;
        is = after_is l.object after limit t;
        row = row;
        reads = rows_read l row (take limit all) (λ r has.
            let (here, of, past) = member walk.laws walk.keys q t l one s.sound s.plan ids lo small after r (has_take limit all r has) in
            subst (λ (k : Layout). record_from k (row r) ≡ Some r) one.made
            (walk.laws.read l.org l.object q t one.object r s.sound s.plan one.there here of));
        are = sym (ap (λ (o : Option Object). in_case o [] (λ o. map (row_in_plan l.org q t l.object o) (take limit all))) one.there);
        gives = subst (λ (us : List DataRow). GivesRows us rows) (take-map row limit all) (page_gives data_form walk.pages (part_of l.org m) (rows_alone l.org q (Some t)) s.rows from (Some above) (map row all) limit lists rows page);
      }

  given : (q : OrgPlan) (t : Tenant) (k : Walked A q t l after limit rows) (v : Vec DataRow A) → rows ≡ Ok v → v.items ≡ map k.row k.listed → listed_from l rows ≡ Ok k.listed
  given q t k v is same = rw (is, same, k.reads) refl

  found_ok : (q : OrgPlan) (t : Tenant) (k : Walked A q t l after limit rows) (x : List Record) → (r : Result (Vec DataRow A) StoreFail) → rows ≡ r → listed_from l r ≡ Ok x → x ≡ records_after l.object after limit t
  found_ok q t k x (Ok v) is g = ok_is x k.listed (sym g ∙ ap (listed_from l) (sym is) ∙ given q t k v is (subst (GivesRows (map k.row k.listed)) is k.gives)) ∙ sym k.is
  found_ok q t k x (Err f) is g = absurd (no_ok x f g)

  found_damaged : (q : OrgPlan) (t : Tenant) (k : Walked A q t l after limit rows) → (r : Result (Vec DataRow A) StoreFail) → rows ≡ r → listed_from l r ≡ Err Damaged → ⊥
  found_damaged q t k (Ok v) is g = no_ok k.listed Damaged (sym g ∙ ap (listed_from l) (sym is) ∙ given q t k v is (subst (GivesRows (map k.row k.listed)) is k.gives))
  found_damaged q t k (Err Damaged) is g = subst (GivesRows (map k.row k.listed)) is k.gives
  found_damaged q t k (Err Keeper) is g = absurd (cc (err_is Keeper Damaged g))
  found_damaged q t k (Err Memory) is g = absurd (cc (err_is Memory Damaged g))

  pub walk_finds : (result : Result (List Record) StoreFail) → GivesOr Memory (listed_from l rows) result → FindsOf l (records_after l.object after limit) m result
  walk_finds (Ok x) g = λ q t s h. found_ok q t (walked q t s h) x rows refl g
  walk_finds (Err Keeper) g = tt
  walk_finds (Err Memory) g = tt
  walk_finds (Err Damaged) (inl e) = absurd cc
  walk_finds (Err Damaged) (inr g) = λ q t s h. found_damaged q t (walked q t s h) rows refl g

  -- ---- the rows themselves

  pub rows_found : FindsRows l (records_after l.object after limit) m rows
  rows_found = by rows refl
    where
      by : (r : Result (Vec DataRow A) StoreFail) → rows ≡ r → FindsRows l (records_after l.object after limit) m r
      by (Ok v) is = λ q t s h. let k = walked q t s h in subst (GivesRows (map k.row k.listed)) is k.gives ∙ k.are ∙ ap (rows_of_records q t l) (sym k.is)
      by (Err Damaged) is = λ q t s h. let k = walked q t s h in subst (GivesRows (map k.row k.listed)) is k.gives
      by (Err Keeper) is = tt
      by (Err Memory) is = tt
