-- What a page of an object's rows gives.
use Rattle.std.proofs.Common.{◌≡◌, ◌∙◌, ℕ, suc, ◌+◌, ◌-◌, ◌*◌, ◌<◌, ◌≤◌, Bool, true, false, cond, List, [], ◌∷◌, ◌++◌, Option, Some, None, refl, sym, ap, arith, length, take}
use Rattle.std.specs.Prelude.{Result, Ok, Err, Vec, min, nat_lt, option_copied, slice_get}
use Rattle.std.specs.Option.{option_map}
use Rattle.std.specs.Borrow.{Bor}
use Rattle.std.proofs.lemmas.List.{length-append, length-take}
use Rattle.std.proofs.lemmas.Bool.Decides.{nat_tests}
use Rattle.base_value.specs.declared.value.Value.{Value}
use Rattle.store_kv.specs.declared.keeper.KeptRow.{KeptRow}
use Rattle.store_kv.specs.Tables.{Tables}
use Rattle.store_rows.specs.declared.data.DataRow.{DataRow}
use Rattle.store_rows.specs.Forms.{read_row}
use Rattle.store_rows.specs.Rows.{data_form}
use Rattle.store_rows.specs.declared.fail.StoreFail.{StoreFail}
use Rattle.store_rows.specs.declared.fail.StoreFail.TheVariants.{Damaged, Keeper, Memory}
use Rattle.record_read.specs.Decoding.{all_from, each_from, has_types, record_from}
use Rattle.model.specs.declared.record.Record.{Record}
use Rattle.model.specs.Cases.{in_case}
use Rattle.model.specs.Objects.{records_of}
use Rattle.model.specs.Sound.{IsSound}
use Rattle.model.specs.Tenant.{Tenant}
use Rattle.store_codec.specs.Plain.{◌>>=◌}
use Rattle.store_abstraction.specs.declared.layout.Layout.{Layout}
use Rattle.store_abstraction.specs.Layouts.{records_after}
use Rattle.query_exec.specs.declared.pages.Pages.{Pages}
use Rattle.access_traits.specs.Rights.{kept_record}
use Rattle.query_exec.specs.inner.Reading.{FindsPage, ReadsPage, ReadsOn, beyond, id_in, last_of, pages_left}
use Rattle.query_exec.proofs.Offering.{each_cons, each_none}
use Rattle.query_exec.proofs.Paging.{Ascends, page_on}

-- ---- lists of which something is made

pub each_length : {X Y : Type 0} (make : X → Option Y) (xs : List X) (ys : List Y) → each_from make xs ≡ Some ys → length ys ≡ length xs
each_length make [] ys e = ap length (each_none make ys e)
each_length make (x ∷ xs) ys e =
    let n = each_cons make x xs ys e in
    ap length n.is ∙ ap suc (each_length make xs n.others n.rest)

record Last {X Y : Type 0} (make : X → Option Y) (x : X) (ys : List Y) : Type 0 where
  last : Y
  at : slice_get ys (length ys - 1) ≡ Some last
  made : make x ≡ Some last

each_last : {X Y : Type 0} (make : X → Option Y) (xs : List X) (ys : List Y) (x : X) → each_from make xs ≡ Some ys → slice_get xs (length xs - 1) ≡ Some x → Last make x ys
each_last make [] ys x e h = absurd cc
each_last {X = X} {Y = Y} make (a ∷ []) ys x e h =
    let n = each_cons make a [] ys e in
    let is : ys ≡ n.first ∷ [] = n.is ∙ ap (λ (zs : List Y). n.first ∷ zs) (each_none make n.others n.rest) in
    let same : a ≡ x = cc in
    record { last = n.first; at = ap (λ (l : List Y). slice_get l (length l - 1)) is; made = ap make (sym same) ∙ n.made }
each_last {X = X} {Y = Y} make (a ∷ b ∷ xs) ys x e h =
    let n = each_cons make a (b ∷ xs) ys e in
    let m = each_cons make b xs n.others n.rest in
    let k : length (a ∷ b ∷ xs) - 1 ≡ suc (length (b ∷ xs) - 1) = omega arith in
    let some : length n.others ≡ suc (length m.others) = ap length m.is in
    let j : length (n.first ∷ n.others) - 1 ≡ suc (length n.others - 1) = omega (arith, some) in
    let later = each_last make (b ∷ xs) n.others x n.rest (ap (slice_get (a ∷ b ∷ xs)) (sym k) ∙ h) in
    record {
      last = later.last;
      at = ap (λ (l : List Y). slice_get l (length l - 1)) n.is ∙ ap (slice_get (n.first ∷ n.others)) j ∙ later.at;
      made = later.made;
    }

-- no last is none
none_last : {X : Type 0} (xs : List X) → slice_get xs (length xs - 1) ≡ None → xs ≡ []
none_last [] h = refl
none_last (x ∷ []) h = absurd cc
none_last (x ∷ y ∷ xs) h =
    let k : length (x ∷ y ∷ xs) - 1 ≡ suc (length (y ∷ xs) - 1) = omega arith in
    let none : y ∷ xs ≡ [] = none_last (y ∷ xs) (ap (slice_get (x ∷ y ∷ xs)) (sym k) ∙ h) in
    absurd cc

abbrev made_of : DataRow → List Value → Record
made_of row vs = record { id = row.id; owner = row.owner; created = row.created; modified = row.modified; values = vs }

-- a record has the id of its row
id_of_row : (l : Layout) (row : DataRow) (r : Record) → record_from l row ≡ Some r → r.id ≡ row.id
id_of_row l row r e = by (has_types l) (all_from row l.fields) e
  where
    by : (b : Bool) (vs : Option (List Value)) → cond b (option_map (made_of row) vs) None ≡ Some r → r.id ≡ row.id
    by true (Some vs) e = let same : made_of row vs ≡ r = cc in sym (ap (λ (x : Record). x.id) same)
    by true None e = absurd cc
    by false vs e = absurd cc

-- so has the record of a row that is kept
id_of_kept : (l : Layout) (row : KeptRow) (r : Record) → kept_record l row ≡ Some r → id_in row ≡ Some r.id
id_of_kept l row r e = by (read_row data_form row.key row.row) e
  where
    by : (o : Option DataRow) → (o >>= record_from l) ≡ Some r → option_map (λ (d : DataRow). d.id) o ≡ Some r.id
    by None e = absurd cc
    by (Some d) e = ap Some (sym (id_of_row l d r e))

-- ---- a page

module _ (l : Layout) (rs : List Record) (a b : Pages) (rows : List KeptRow) (up : Ascends rs) (some : 0 < a.left)
    (read : each_from (kept_record l) rows ≡ Some (take 250 (beyond a.after rs))) (behind : b.after ≡ last_of a.after rows) (left : b.left ≡ pages_left a.left rows) where
  abbrev page : List Record
  page = take 250 (beyond a.after rs)

  on : page ++ beyond b.after rs ≡ beyond a.after rs
  on = by (slice_get rows (length rows - 1)) refl
    where
      by : (o : Option KeptRow) → slice_get rows (length rows - 1) ≡ o → page ++ beyond b.after rs ≡ beyond a.after rs
      by None e =
          let empty : page ≡ [] = each_none (kept_record l) page (ap (each_from (kept_record l)) (sym (none_last rows e)) ∙ read) in
          let same : b.after ≡ a.after = behind ∙ ap (λ (o : Option KeptRow). in_case o a.after id_in) e in
          ap (λ (p : List Record). p ++ beyond b.after rs) empty ∙ ap (λ (after : Option (List ℕ)). beyond after rs) same
      by (Some row) e =
          let end = each_last (kept_record l) rows page row read e in
          let same : b.after ≡ Some end.last.id =
          behind ∙ ap (λ (o : Option KeptRow). in_case o a.after id_in) e ∙ id_of_kept l row end.last end.made in
          ap (λ (after : Option (List ℕ)). page ++ beyond after rs) same ∙ page_on rs a.after 250 page end.last up refl end.at

  enough : length (beyond a.after rs) ≤ 250 * a.left → length (beyond b.after rs) ≤ 250 * b.left
  enough h =
      let both : length page + length (beyond b.after rs) ≡ length (beyond a.after rs) = sym (length-append page (beyond b.after rs)) ∙ ap length on in
      fits (length rows) (length page) (length (beyond a.after rs)) (length (beyond b.after rs)) a.left b.left
      (each_length (kept_record l) rows page read) both (length-take 250 (beyond a.after rs)) some left h
    where
      fits : (rows page all rest from to : ℕ) → page ≡ rows → page + rest ≡ all → page ≡ min 250 all → 0 < from → to ≡ cond (nat_lt rows 250) 0 (from - 1) → all ≤ 250 * from → rest ≤ 250 * to
      fits rows page all rest from to same both few some left h = by (nat_lt rows 250) refl
        where
          by : (t : Bool) → nat_lt rows 250 ≡ t → rest ≤ 250 * to
          by true e =
              let short : rows < 250 = grind (arith, nat_tests) in
              omega (arith, short)
          by false e =
              let full : 250 ≤ rows = grind (arith, nat_tests) in
              let is : to ≡ from - 1 = left ∙ ap (λ (t : Bool). cond t 0 (from - 1)) e in
              omega (arith, full, is)

  full : 0 < b.left → 250 ≤ length rows
  full more = by (nat_lt (length rows) 250) refl
    where
      by : (t : Bool) → nat_lt (length rows) 250 ≡ t → 250 ≤ length rows
      by true e =
          let none : b.left ≡ 0 = left ∙ ap (λ (t : Bool). cond t 0 (a.left - 1)) e in
          absurd (omega (arith, none, more))
      by false e = grind (arith, nat_tests)

  pub turns : ReadsOn l rs a b rows
  turns = record { page = page; read = read; on = on; full = full; enough = enough }

-- ---- what was read

after_is : (n : ℕ) (after : Option (List ℕ)) (limit : ℕ) (t : Tenant) → records_after n after limit t ≡ take limit (beyond after (records_of t n))
unfolding records_after
after_is n after limit t = refl

pub reads_page : {A : Type 0} (l : Layout) (m : Tables) (a b : Pages) → ((t : Tenant) (n : ℕ) → IsSound t → Ascends (records_of t n)) → 0 < a.left → (rows : Result (Vec KeptRow A) StoreFail)
    → FindsPage l a.after m rows → ((v : Vec KeptRow A) → rows ≡ Ok v → (b.after ≡ last_of a.after v.items) × (b.left ≡ pages_left a.left v.items)) → ReadsPage l a b m rows
reads_page l m a b up some (Ok v) found turned = (
  found.0,
  λ q t s h.
      turns l (records_of t l.object) a b v.items (up t l.object s.sound) some (found.1 q t s h ∙ ap Some (after_is l.object a.after 250 t)) (turned v refl).0 (turned v refl).1,
)
reads_page l m a b up some (Err Damaged) found turned = found
reads_page l m a b up some (Err Keeper) found turned = tt
reads_page l m a b up some (Err Memory) found turned = tt

-- ---- what is behind a reference

pub copied_same : {X : Type 0} (read : Option (Bor X)) (last : Option X) → option_copied read ≡ last → option_map (λ x. x.now) read ≡ last
copied_same None last e = e
copied_same (Some x) last e = e

pub ok_items : {A : Type 0} (v w : Vec KeptRow A) → ◌≡◌ {A = Result (Vec KeptRow A) StoreFail} (Ok v) (Ok w) → v.items ≡ w.items
ok_items v w e = let same : v ≡ w = cc in ap (λ x. x.items) same
