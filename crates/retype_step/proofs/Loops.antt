-- One record of a page after the other.
use Rattle.std.proofs.Common.{◌≡◌, Bool, true, List, [], ◌∷◌, ◌++◌, length, map, None, refl, sym, ap, subst, ◌∙◌, append_assoc, arith}
use Rattle.std.specs.List.{AllByRecursion, list_all}
use Rattle.base_lemmas.proofs.Bools.{and_second as second}
use Rattle.std.proofs.lemmas.List.{append-nil as append_nothing}
use Rattle.base_lemmas.proofs.Lists.{each-append as all_append}
use Rattle.record_read.specs.Decoding.{kinds_in}
use Rattle.store_edit.specs.Rows.{change_to, spelled}
use Rattle.store_kv.specs.declared.keeper.Change.{Change as Spelled}
use Rattle.store_rows.specs.declared.data.DataRow.{DataRow}
use Rattle.store_rows.specs.Forms.{FitsForm}
use Rattle.store_rows.specs.Keys.{FitsKey}
use Rattle.store_rows.specs.Rows.{data_form}
use Rattle.record_read.specs.Encoding.{row_from}
use Rattle.model.specs.declared.record.Record.{Record}
use Rattle.model.specs.SoundRecords.{all_valid}
use Rattle.record_index.specs.Turned.{turned_row}
use Rattle.record_index.proofs.Turned.{map_both, then_these}
use Rattle.retype_step.specs.backfill.Progress.{record_moves, records_move, twin_changes}
use Rattle.store_abstraction.specs.Changes.{Change}
use Rattle.store_abstraction.specs.declared.layout.Layout.{Layout}

abbrev pub AllFit : List Change → Type 0
AllFit cs = AllByRecursion (λ c. FitsKey c.0) cs

-- ---- the values of what is left

abbrev pub all_valid_in : Layout → Record → Bool
all_valid_in l r = all_valid (kinds_in l.fields) r.values

pub values_after : (f : Record → Bool) (those : List Record) (r : Record) (rs : List Record) → those ≡ r ∷ rs → list_all f those ≡ true → list_all f rs ≡ true
values_after f those r rs e h = second (f r) (list_all f rs) (ap (list_all f) (sym e) ∙ h)

-- ---- one record

pub moves_on : (l m : Layout) (kept : DataRow) (r : Record) (bare row : DataRow) (start middle after : List Spelled) → bare ≡ row_from m r None → row ≡ turned_row m bare r
    → middle ≡ start ++ spelled (change_to data_form row) ∷ [] → after ≡ middle ++ map spelled (twin_changes l m kept r) → after ≡ start ++ map spelled (record_moves l m kept r)
moves_on l m kept r bare row start middle after e f made turned =
    then_these (change_to data_form (turned_row m (row_from m r None) r) ∷ []) (twin_changes l m kept r) start middle after
    (made ∙ ap (λ (d : DataRow). start ++ spelled (change_to data_form d) ∷ []) (f ∙ ap (λ (d : DataRow). turned_row m d r) e)) turned

pub moves_fit : (l m : Layout) (kept : DataRow) (r : Record) (bare row : DataRow) → bare ≡ row_from m r None → row ≡ turned_row m bare r → FitsForm data_form row → AllFit (twin_changes l m kept r) → AllFit (record_moves l m kept r)
moves_fit l m kept r bare row e f fits twin = ((subst (λ (d : DataRow). FitsForm data_form d) (f ∙ ap (λ (d : DataRow). turned_row m d r) e) fits).0, twin)

-- ---- all of them

module _ (l m : Layout) where
  abbrev moved : List DataRow → List Record → List Spelled
  moved rows rs = map spelled (records_move l m rows rs)

  pub more_move : (kept : DataRow) (rows : List DataRow) (r : Record) (rs : List Record) (whole now after : List Spelled) → whole ≡ now ++ moved (kept ∷ rows) (r ∷ rs)
      → after ≡ now ++ map spelled (record_moves l m kept r) → whole ≡ after ++ moved rows rs
  unfolding records_move
  more_move kept rows r rs whole now after e f =
      e
      ∙ ap (λ (x : List Spelled). now ++ x) (map_both (record_moves l m kept r) (records_move l m rows rs))
      ∙ sym (append_assoc now (map spelled (record_moves l m kept r)) (moved rows rs))
      ∙ ap (λ (x : List Spelled). x ++ moved rows rs) (sym f)

  pub more_fit : (kept : DataRow) (rows : List DataRow) (r : Record) (rs : List Record) → AllFit (record_moves l m kept r) → AllFit (records_move l m rows rs) → AllFit (records_move l m (kept ∷ rows) (r ∷ rs))
  unfolding records_move
  more_fit kept rows r rs a b = all_append (λ (c : Change). FitsKey c.0) (record_moves l m kept r) (records_move l m rows rs) a b

  pub no_rows : (rs : List Record) → records_move l m [] rs ≡ []
  unfolding records_move
  no_rows rs = refl

  pub no_records : (rows : List DataRow) → records_move l m rows [] ≡ []
  unfolding records_move
  no_records [] = refl
  no_records (kept ∷ rows) = refl

  pub ended : (rows : List DataRow) (rs : List Record) (whole now : List Spelled) → records_move l m rows rs ≡ [] → whole ≡ now ++ moved rows rs → now ≡ whole
  ended rows rs whole now none e = sym (e ∙ ap (λ (cs : List Change). now ++ map spelled cs) none ∙ append_nothing now)

  pub ended_fit : (rows : List DataRow) (rs : List Record) → records_move l m rows rs ≡ [] → AllFit (records_move l m rows rs)
  ended_fit rows rs none = subst AllFit (sym none) tt

  pub no_length : (rows : List DataRow) (rs : List Record) → length rows ≡ 0 → records_move l m rows rs ≡ []
  no_length [] rs none = no_rows rs
  no_length (kept ∷ rows) rs none = absurd (omega (arith, none))

  pub no_lengths : (rows : List DataRow) (rs : List Record) → length rs ≡ 0 → records_move l m rows rs ≡ []
  no_lengths rows [] none = no_records rows
  no_lengths rows (r ∷ rs) none = absurd (omega (arith, none))

  -- a turn of the loop, from all rows and records that are left to those behind the first
  pub page_moves : (left : List DataRow) (kept : DataRow) (rows : List DataRow) (those : List Record) (r : Record) (rs : List Record) (whole now after : List Spelled) → left ≡ kept ∷ rows → those ≡ r ∷ rs
      → whole ≡ now ++ moved left those → after ≡ now ++ map spelled (record_moves l m kept r) → whole ≡ after ++ moved rows rs
  page_moves left kept rows those r rs whole now after a b e f =
      more_move kept rows r rs whole now after (e ∙ ap (λ (xs : List DataRow). now ++ moved xs those) a ∙ ap (λ (xs : List Record). now ++ moved (kept ∷ rows) xs) b) f

  pub page_fits : (left : List DataRow) (kept : DataRow) (rows : List DataRow) (those : List Record) (r : Record) (rs : List Record) → left ≡ kept ∷ rows → those ≡ r ∷ rs
      → AllFit (record_moves l m kept r) → AllFit (records_move l m rows rs) → AllFit (records_move l m left those)
  page_fits left kept rows those r rs a b one rest =
      subst (λ (xs : List DataRow). AllFit (records_move l m xs those)) (sym a)
      (subst (λ (xs : List Record). AllFit (records_move l m (kept ∷ rows) xs)) (sym b) (more_fit kept rows r rs one rest))
