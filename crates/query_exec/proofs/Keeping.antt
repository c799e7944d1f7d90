-- The records that the kept rows of a page spell.
use Rattle.std.proofs.Common.{◌≡◌, ◌∙◌, ℕ, ◌<◌, ◌≤◌, ◌^◌, IsTrue, List, [], ◌∷◌, length, map, take, Option, Some, refl, sym, ap, subst, inl, inr, arith}
use Rattle.std.specs.Prelude.{IfSome, Result, Ok, Err, Vec}
use Rattle.std.specs.Option.{option_map}
use Rattle.std.specs.List.{AllByRecursion}
use Rattle.std.proofs.lemmas.List.{take-map}
use Rattle.base_lemmas.proofs.Options.{some_from_IsSome as some_of}
use Rattle.base_lemmas.proofs.Lists.{length-take_most as short_take}
use Rattle.base_value.specs.Id.{is_id}
use Rattle.store_kv.specs.declared.keeper.KeptRow.{KeptRow}
use Rattle.store_kv.specs.Prefixes.{raised}
use Rattle.store_kv.specs.Tables.{Tables, rows_between}
use Rattle.store_rows.specs.declared.data.DataRow.{DataRow}
use Rattle.store_rows.specs.declared.fail.StoreFail.{StoreFail}
use Rattle.store_rows.specs.declared.fail.StoreFail.TheVariants.{Damaged, Keeper, Memory}
use Rattle.store_rows.specs.Forms.{FitsForm, Form, kept_as, key_bytes, read_row, row_bytes}
use Rattle.store_rows.specs.Listings.{rows_to, start_of}
use Rattle.store_rows.specs.Rows.{data_form}
use Rattle.model.specs.declared.record.Record.{Record}
use Rattle.model.specs.Membership.{Has}
use Rattle.model.specs.Tenant.{Tenant}
use Rattle.store_codec.specs.Plain.{◌>>=◌, number16, whole}
use Rattle.store_codec.specs.Shapes.{FitsIn, Shape, Val, spelled, taken}
use Rattle.store_abstraction.specs.declared.layout.Layout.{Layout}
use Rattle.store_abstraction.specs.Layouts.{IsLayout, records_after}
use Rattle.store_abstraction.specs.Local.{StandsIn, part_of, rows_alone}
use Rattle.store_abstraction.specs.Plan.{OrgPlan}
use Rattle.store_abstraction.specs.Stands.{all_tables}
use Rattle.record_read.specs.Decoding.{each_from, record_from}
use Rattle.record_read.proofs.Listed.{begins_so, key_at, member, prefix_of, row_of, rows_listed, those}
use Rattle.record_read.proofs.RecordFits.{record_is_id}
use Rattle.record_read.proofs.Rising.{has_take}
use Rattle.record_read.proofs.Standing.{layout_is}
use Rattle.record_read.proofs.Walking.{WalkLaws}
use Rattle.access_traits.specs.Rights.{kept_record}
use Rattle.query_exec.specs.inner.Reading.{FindsPage, KeepsPage}

-- what is spelled is read again, as `shape_laws` says
abbrev pub ReadsAgain : Type 0
ReadsAgain = (s : Shape) (v : Val s) → FitsIn s v → whole (taken s) (spelled s v) ≡ Some v

module _ {U : Type 0} (f : Form U) (again : ReadsAgain) where
  -- a row is read from its bytes
  read_again : (u : U) → FitsForm f u → read_row f (key_bytes f u) (row_bytes f u) ≡ Some u
  read_again u fits =
      ap (λ (k : Option (Val f.key)). option_map (λ (p : Val f.key × Val f.rest). f.make p.0 p.1) (k >>= λ x. whole (taken f.rest) (row_bytes f u) >>= λ y. Some (x, y))) (again f.key (f.keyed u) fits.0)
      ∙ ap (λ (r : Option (Val f.rest)). option_map (λ (p : Val f.key × Val f.rest). f.make p.0 p.1) (r >>= λ y. Some (f.keyed u, y))) (again f.rest (f.rested u) fits.1)
      ∙ ap Some (f.made_again u)

-- rows as they are kept spell what the rows spell
kept_back : ReadsAgain → (l : Layout) (us : List DataRow) → AllByRecursion (FitsForm data_form) us → each_from (kept_record l) (map (kept_as data_form) us) ≡ each_from (record_from l) us
kept_back again l [] fits = refl
kept_back again l (u ∷ us) fits =
    ap (λ (o : Option DataRow). (o >>= record_from l) >>= λ y. each_from (kept_record l) (map (kept_as data_form) us) >>= λ ys. Some (y ∷ ys)) (read_again data_form again u fits.0)
    ∙ ap (λ (o : Option (List Record)). record_from l u >>= λ y. o >>= λ ys. Some (y ∷ ys)) (kept_back again l us fits.1)

rows_read : (l : Layout) (row : Record → DataRow) (rs : List Record) → ((r : Record) → Has rs r → record_from l (row r) ≡ Some r) → each_from (record_from l) (map row rs) ≡ Some rs
rows_read l row [] h = refl
rows_read l row (r ∷ rs) h = rw (h r (inl refl), rows_read l row rs (λ x has. h x (inr has))) refl

after_is : (n : ℕ) (after : Option (List ℕ)) (limit : ℕ) (t : Tenant) → records_after n after limit t ≡ take limit (those t n after)
unfolding records_after
after_is n after limit t = refl

module _ (walk : WalkLaws) (again : ReadsAgain) (m : Tables) (l : Layout) (after : Option (List ℕ)) (limit : ℕ) (lo : l.org < 2 ^ 32) (small : l.object < 2 ^ 16) (ha : IfSome after (λ j. IsTrue (is_id j))) where
  abbrev from : List ℕ
  from = start_of (prefix_of l.org l.object) (option_map (key_at l.org l.object) after)

  -- the rows that are kept there
  abbrev pub page : List KeptRow
  page = take limit (rows_to m 7 from (raised (prefix_of l.org l.object)))

  page_reads : (q : OrgPlan) (t : Tenant) → StandsIn l.org q m (Some t) → IsLayout q t l → each_from (kept_record l) page ≡ Some (records_after l.object after limit t)
  page_reads q t s h =
      let one = layout_is q t l h in
      let ids : (r : Record) → Has t.records r → IsTrue (is_id r.id) = λ r has. record_is_id walk.makes t r s.sound has in
      let row = row_of walk.laws walk.keys q t l one s.sound s.plan ids lo small in
      let (above, rises) = some_of (raised (prefix_of l.org l.object)) (walk.ends l.org (number16 l.object) s.number) in
      let all = those t l.object after in
      let lists = rows_listed walk.laws walk.keys q t l one s.sound s.plan ids lo small above rises after ha in
      let begins = begins_so walk.laws walk.keys q t l one s.sound s.plan ids lo small above rises after in
      let part : rows_between m 7 from above ≡ rows_between (part_of l.org m) 7 from above =
      walk.listed m l.org 7 from above (λ key inside. walk.under l.org (number16 l.object) above key rises (begins key ha inside)) in
      let kept = walk.pages.kept all_tables (part_of l.org m) (rows_alone l.org q (Some t)) from (Some above) (map row all) limit refl s.rows lists in
      let same : page ≡ map (kept_as data_form) (take limit (map row all)) =
      ap (λ (o : Option (List ℕ)). take limit (rows_to m 7 from o)) rises ∙ ap (λ (rows : List KeptRow). take limit rows) part ∙ sym kept.1 in
      let reads = rows_read l row (take limit all) (λ r has.
      let (here, of, past) = member walk.laws walk.keys q t l one s.sound s.plan ids lo small after r (has_take limit all r has) in
      subst (λ (k : Layout). record_from k (row r) ≡ Some r) one.made
      (walk.laws.read l.org l.object q t one.object r s.sound s.plan one.there here of)) in
      ap (λ (rows : List KeptRow). each_from (kept_record l) rows) same
      ∙ kept_back again l (take limit (map row all)) kept.0
      ∙ ap (λ (us : List DataRow). each_from (record_from l) us) (take-map row limit all)
      ∙ reads ∙ ap Some (sym (after_is l.object after limit t))

  pub page_found : {A : Type 0} → limit ≤ 250 → (rows : Result (Vec KeptRow A) StoreFail) → limit ≡ 250 → KeepsPage page rows → FindsPage l after m rows
  page_found few (Ok v) is same = (
    subst (λ (rows : List KeptRow). length rows ≤ 250) (sym same) (omega (arith, few, short_take limit (rows_to m 7 from (raised (prefix_of l.org l.object))))),
    λ q t s h. ap (λ (rows : List KeptRow). each_from (kept_record l) rows) same ∙ page_reads q t s h ∙ ap (λ (n : ℕ). Some (records_after l.object after n t)) is,
  )
  page_found few (Err Damaged) is same = absurd same
  page_found few (Err Keeper) is same = tt
  page_found few (Err Memory) is same = tt
