-- What a keeper in memory shows.
use Rattle.std.specs.Prelude.{◌≡◌, ℕ, ◌+◌, ◌==◌, List, [], ◌∷◌, Bool, true, false, slice_index, IsTrue, refl}
use Rattle.std.specs.Coded.{Coded, code_by, coded×, coded_ℕ, coded_list}
use Rattle.std.specs.FinMap as map
use Rattle.std.specs.List.{list_any}
use Rattle.base_value.specs.Causes.{up_to_last}
use Rattle.store_kv.specs.Tables.{Tables, no_rows}
use Rattle.store_kv.specs.State.{KeeperState}
use Rattle.store_kv.specs.Laid.{Entry, laid}

-- the rows that entries show
unfoldable pub tables_in : List Entry → Tables
tables_in es = laid es no_rows

-- a keeper in memory
pub record InMemory : Type 0 where
  pub tables : Tables
  -- how many calls there were
  pub calls : ℕ
  -- the numbers of the calls that fail
  pub failing : List ℕ
  pub faults : ℕ
  -- by table
  pub shown : List ℕ
  pub written : ℕ

abbrev counts : Coded (ℕ × (List ℕ × (ℕ × (List ℕ × ℕ))))
counts = coded× coded_ℕ (coded× (coded_list coded_ℕ) (coded× coded_ℕ (coded× (coded_list coded_ℕ) coded_ℕ)))

-- such a keeper is stored as its parts
abbrev pub memory_code : Coded InMemory
memory_code = code_by (Tables × (ℕ × (List ℕ × (ℕ × (List ℕ × ℕ))))) (coded× (map.code (coded× coded_ℕ (coded_list coded_ℕ)) (coded_list coded_ℕ)) counts)
    (λ k. (k.tables, (k.calls, (k.failing, (k.faults, (k.shown, k.written))))))
    (λ p. record { tables = p.0; calls = p.1.0; failing = p.1.1.0; faults = p.1.1.1.0; shown = p.1.1.1.1.0; written = p.1.1.1.1.1 }) (λ _. refl)

-- the call with this number fails
abbrev pub is_listed : ℕ → List ℕ → Bool
is_listed n ns = list_any (λ m. m == n) ns

-- no call fails
abbrev pub none_listed : List ℕ → Bool
none_listed [] = true
none_listed (n ∷ ns) = false

-- it always tells its tables, and a crash leaves just these: over memory a crash is none of the process, whose end loses all tables
abbrev pub memory_state : InMemory → KeeperState
memory_state k = record {
  tells = Unit {0};
  tables = k.tables;
  may_leave = λ m. m ≡ k.tables;
  trusted = true;
  is_clean = true;
  faults = k.faults;
  never_fails = none_listed k.failing;
  shown = λ t. slice_index k.shown t;
  written = k.written;
}

-- a call counts itself, and fails and counts a fault exactly where its number is listed
pub record FailsByNumber (old new : InMemory) (failed : Type 0) : Type 0 where
  pub calls : new.calls ≡ up_to_last (old.calls + 1)
  pub failing : new.failing ≡ old.failing
  pub listed : IsTrue (is_listed new.calls old.failing) → failed × (new.faults ≡ up_to_last (old.faults + 1))
  pub unlisted : is_listed new.calls old.failing ≡ false → (failed → ⊥) × (new.faults ≡ old.faults)
