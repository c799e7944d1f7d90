-- A scan for the ends of records, byte by byte, and the bytes after so many records.
use Rattle.std.proofs.Common.{◌≡◌, ℕ, zero, suc, Bool, true, false, List, [], ◌∷◌, refl, sym, if◌then◌else◌}
use Rattle.csv.specs.Machine.{ends_at_end, field_after, fields_after, is_end, next_record, step}
use Rattle.csv.specs.Reading.{default_config}
use Rattle.csv.specs.declared.parser.State.{State}
use Rattle.csv.specs.declared.parser.State.TheVariants as st
use Rattle.base_csv.specs.Place.{after_next, after_records}

-- the bytes after so many ends of records
unfoldable pub scan : ℕ → State → List ℕ → List ℕ
scan n s [] = []
scan zero s (c ∷ rest) = c ∷ rest
scan (suc n) s (c ∷ rest) = scan (if is_end (step default_config s c).1 then n else suc n) (step default_config s c).0 rest

none_after : (n : ℕ) → after_records n st.StartRecord [] ≡ []
unfolding after_records next_record
none_after zero = refl
none_after (suc n) = refl

-- with the cells of the record at hand, which don't matter
scan_in : (n : ℕ) (s : State) (fields : List (List ℕ)) (field bytes : List ℕ) → ((s : State) (bytes : List ℕ) → scan n s bytes ≡ after_records n s bytes)
    → scan (suc n) s bytes ≡ after_next (after_records n) (next_record default_config s fields field bytes)
unfolding scan next_record
scan_in n s fields field [] more = by (ends_at_end s) refl
  where
    by : (b : Bool) → ends_at_end s ≡ b → [] ≡ after_next (after_records n) (next_record default_config s fields field [])
    by true e = rw e (sym (none_after n))
    by false e = rw e refl
scan_in n s fields field (c ∷ rest) more = by (is_end (step default_config s c).1) refl (scan_in n (step default_config s c).0 _ _ rest more)
  where
    by : (b : Bool) → is_end (step default_config s c).1 ≡ b
        → scan (suc n) (step default_config s c).0 rest ≡ after_next (after_records n) (next_record default_config (step default_config s c).0 (fields_after (step default_config s c).1 fields field) (field_after (step default_config s c).1 c field) rest)
        → scan (suc n) s (c ∷ rest) ≡ after_next (after_records n) (next_record default_config s fields field (c ∷ rest))
    by true e h = rw e (more (step default_config s c).0 rest)
    by false e h = rw e h

pub scan_is : (n : ℕ) (s : State) (bytes : List ℕ) → scan n s bytes ≡ after_records n s bytes
unfolding scan after_records
scan_is zero s [] = refl
scan_is zero s (c ∷ rest) = refl
scan_is (suc n) s bytes = scan_in n s [] [] bytes (λ s bytes. scan_is n s bytes)

-- a scan that is at its end, and one at the end of the bytes
pub at_zero : (n : ℕ) (s : State) (bytes : List ℕ) → n ≡ 0 → bytes ≡ scan n s bytes
unfolding scan
at_zero zero s [] e = refl
at_zero zero s (c ∷ rest) e = refl
at_zero (suc n) s bytes e = cc e

pub at_end : (n : ℕ) (s : State) (bytes : List ℕ) → bytes ≡ [] → bytes ≡ scan n s bytes
unfolding scan
at_end n s [] e = refl
at_end n s (c ∷ rest) e = cc e
