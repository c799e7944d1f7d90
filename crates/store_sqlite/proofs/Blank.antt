-- The map of a database with the table, and of one without any.
use Rattle.std.proofs.Common.{◌≡◌, List, [], ◌∷◌, Bool, true, false, refl, subst}
use Rattle.sqlite.specs.Order.{Row}
use Rattle.sqlite.specs.Tree.{Trees}
use Rattle.sqlite_trees.specs.Objects.{catalog_tree}
use Rattle.sqlite_schema.specs.declared.schema.Schema.{Schema}
use Rattle.sqlite_catalog.specs.Listing.{IsSound, AreListed, is_table_row, is_view_row, is_index_row}
use Rattle.sqlite.specs.State.{State}
use Rattle.store_kv.specs.Tables.{no_rows}
use Rattle.store_sqlite.specs.Kept.{kept_schema, no_schema, tables_in, map_in, map_by, IsKept, IsBlank}
use Rattle.store_sqlite.specs.inner.Steps.{IsGood}

pub sound_kept : (s : State) → IsKept s → IsSound kept_schema s.now.trees
sound_kept s it = subst (λ (x : Schema). IsSound x s.now.trees) it.schema it.sound

pub sound_good : (s : State) → IsGood s → IsSound kept_schema s.now.trees
sound_good s it = subst (λ (x : Schema). IsSound x s.now.trees) it.schema it.sound

pub sound_blank : (s : State) → IsBlank s → IsSound no_schema s.now.trees
sound_blank s it = subst (λ (x : Schema). IsSound x s.now.trees) it.schema it.sound

pub map_kept : (db : Trees) → IsSound kept_schema db → map_in db ≡ tables_in db
unfolding map_in
map_kept db sound = go (db catalog_tree) sound.lists.listed
  where
    go : (rows : List Row) → AreListed rows kept_schema → map_by rows db ≡ tables_in db
    go [] all = absurd all.tables
    go (row ∷ rows) all = refl

pub map_blank : (db : Trees) → IsSound no_schema db → map_in db ≡ no_rows
unfolding map_in
map_blank db sound = go (db catalog_tree) sound.lists.listed
  where
    go : (rows : List Row) → AreListed rows no_schema → map_by rows db ≡ no_rows
    go [] all = refl
    go (row ∷ rows) all = absurd (by (is_table_row row) refl (is_view_row row) refl)
      where
        by : (t : Bool) → is_table_row row ≡ t → (v : Bool) → is_view_row row ≡ v → ⊥
        by true is v _ = rw is at all.tables
        by false is true that = rw that at all.views
        by false is false that = let other : is_index_row row ≡ true = rw (is, that) refl in rw other at all.indexes
