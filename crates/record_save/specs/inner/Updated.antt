-- An update that no rule refuses.
use Rattle.std.specs.Prelude.{◌≡◌, ◌≤◌, ℕ, List, ◌++◌, Option, None, Result, Ok, Err, IsTrue, length}
use Rattle.record_read.specs.Decoding.{kinds_in}
use Rattle.store_edit.specs.Edits.{FailsBy}
use Rattle.model.specs.Keys.{Key}
use Rattle.model.specs.Objects.{Numbered}
use Rattle.model.specs.Paths.{Asked}
use Rattle.model.specs.Rules.{first_refusal}
use Rattle.model.specs.SoundRecords.{all_valid}
use Rattle.model.specs.Updates.{update_on, update_rules}
use Rattle.model.specs.declared.record.Record.{Record}
use Rattle.model.specs.declared.record_bodies.Assignment.{Assignment}
use Rattle.record_target.specs.declared.kept.KeptRecord.{KeptRecord}
use Rattle.record_target.specs.Shares.{shares_removed}
use Rattle.record_index.specs.Turned.{turned_changes}
use Rattle.record_save.specs.declared.updating.Altered.{Altered}
use Rattle.record_save.specs.inner.Ended.{EndsShares}
use Rattle.record_save.specs.inner.Giving.{altered}
use Rattle.store_abstraction.specs.Changes.{Change}
use Rattle.store_abstraction.specs.declared.fail.EditFail.{EditFail}
use Rattle.store_abstraction.specs.declared.layout.Layout.{Layout}

-- the record that an update of this one makes, which no rule refuses, and the shares that end
pub record IsAltered (org : ℕ) (a : Asked) (o : Numbered) (key : Option Key) (given : List Assignment) (old : Record)
    (x : Altered) : Type 0 where
  pub new : x.new ≡ altered a o.object key given old
  pub free : None ≡ first_refusal (update_rules a o key given old x.new)
  pub shares : EndsShares org a.tenant old x.new (Ok x.shares)

-- the same, or why there is none
abbrev pub Updates : (org : ℕ) → Asked → Numbered → Option Key → List Assignment → (old : Record) → Result Altered EditFail
    → Type 0
Updates org a o key given old (Ok x) = IsAltered org a o key given old x
Updates org a o key given old (Err e) = FailsBy (update_on a o key given old) e

-- whatever the tables have, what its rows are made of fits
pub record FitsAltered (l : Layout) (x : Altered) : Type 0 where
  pub values : IsTrue (all_valid (kinds_in l.fields) x.new.values)
  pub few : length x.shares ≤ 100

-- the changes that it makes
abbrev pub altered_changes : Layout → KeptRecord → Altered → List Change
altered_changes l kept x = shares_removed l.org x.new.id x.shares ++ turned_changes l kept.row kept.item x.new
