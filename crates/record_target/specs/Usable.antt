-- Layouts by which records can be read and changed.
use Rattle.std.specs.Prelude.{◌≡◌, ◌≤◌, ℕ, IsTrue, length}
use Rattle.record_read.specs.Decoding.{has_types}
use Rattle.record_index.specs.Turned.{converts}
use Rattle.store_abstraction.specs.declared.layout.Layout.{Layout}

-- the layout has as few fields as an object may have, of types within their bounds
pub record IsUsable (l : Layout) : Type 0 where
  pub few : length l.fields ≤ 40
  pub types : IsTrue (has_types l)

-- it is one of the organisation with this number, can be used, and converts what a change of a field's type copies
pub record IsReady (org : ℕ) (l : Layout) : Type 0 where
  pub own : l.org ≡ org
  pub usable : IsUsable l
  pub converting : IsTrue (converts l)
