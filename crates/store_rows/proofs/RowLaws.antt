-- One key and one spelling are of one row, and what is read is what is known to stand there.
use Rattle.std.proofs.Common.{◌≡◌, ℕ, List, Option, Some, None, refl, sym, ap, ap₂, ◌∙◌}
use Rattle.std.specs.Prelude.{Result, Ok, Err}
use Rattle.std.specs.Option.{option_map}
use Rattle.std.proofs.lemmas.Option.{same_Some as some_is}
use Rattle.store_rows.specs.declared.fail.StoreFail.{StoreFail}
use Rattle.store_rows.specs.declared.fail.StoreFail.TheVariants.{Keeper, Memory, Damaged}
use Rattle.store_rows.specs.Forms.{Form, row_bytes, FitsForm}
use Rattle.store_rows.specs.Reads.{FoundAs, MayStandAt, ReadsAs}
use Rattle.store_codec.specs.Plain.{whole}
use Rattle.store_codec.specs.Shapes.{Val, taken}
use Rattle.store_rows.proofs.KeyLaws.{ReadsAgain}

module _ {U : Type 0} (f : Form U) (again : ReadsAgain) where
  pub one_row : (u v : U) → FitsForm f u → FitsForm f v → f.keyed u ≡ f.keyed v → row_bytes f u ≡ row_bytes f v → u ≡ v
  one_row u v fu fv key row =
      let rest : f.rested u ≡ f.rested v = some_is (f.rested u) (f.rested v) (sym (again f.rest (f.rested u) fu.1) ∙ ap (whole (taken f.rest)) row ∙ again f.rest (f.rested v) fv.1) in
      sym (f.made_again u) ∙ ap₂ f.make key rest ∙ f.made_again v

  pub found_row : (k : Val f.key) (kept : Option (List ℕ)) (there : Option U) (result : Result (Option U) StoreFail)
      → ReadsAs f k kept result → kept ≡ option_map (row_bytes f) there → MayStandAt f k there → FoundAs f there result
  found_row k kept None (Ok None) r e m = refl
  found_row k kept None (Ok (Some u)) r e m = absurd (no_row (sym e ∙ r.is_kept))
    where
      no_row : {x : List ℕ} → ◌≡◌ {A = Option (List ℕ)} None (Some x) → ⊥
      no_row e = cc
  found_row k kept (Some v) (Ok None) r e m = absurd (no_row (sym r ∙ e))
    where
      no_row : {x : List ℕ} → ◌≡◌ {A = Option (List ℕ)} None (Some x) → ⊥
      no_row e = cc
  found_row k kept (Some v) (Ok (Some u)) r e m =
      ap Some (one_row u v r.fits m.1 (r.has_key ∙ sym m.0) (some_is (row_bytes f u) (row_bytes f v) (sym r.is_kept ∙ e)))
  found_row k kept None (Err Damaged) r e m = r.0 e
  found_row k kept (Some v) (Err Damaged) r e m = r.1 v (record { is_kept = e; has_key = m.0; fits = m.1 })
  found_row k kept there (Err Keeper) r e m = tt
  found_row k kept there (Err Memory) r e m = tt
