-- What a keeper tells of files that were opened, and what a close leaves of it.
use Rattle.std.proofs.Common.{◌≡◌, ◌↔◌, inl, inr, [], length, IsTrue, refl, sym, ap, subst, ◌∙◌, arith}
use Rattle.std.proofs.Math.Logic.{∥∥₁_elim}
use Rattle.std.proofs.Math.Path.{fun_ext}
use Rattle.std.specs.Coded.{Coded-set, coded_list}
use Rattle.sqlite.specs.Tree.{Trees}
use Rattle.sqlite.specs.Schema.{Schema}
use Rattle.sqlite.specs.Effect.{Database, IsDatabase}
use Rattle.sqlite.specs.State.{State, Opens, IsLive, IsUnchanged, HasCleanDisk}
use Rattle.sqlite.specs.Start.{FindsIn}
use Rattle.sqlite.specs.Files.{HoldsDatabase, AreFoundIn, IsEmpty, image_of, file_state}
use Rattle.sqlite.specs.Held.{Held}
use Rattle.sqlite.specs.Closing.{IsCopied, HoldsAlone}
use Rattle.sqlite_catalog.specs.Listing.{IsSound}
use Rattle.sqlite_disk.specs.declared.Disk.{Ghosts}
use Rattle.sqlite_disk.specs.declared.Files.{Files}
use Rattle.sqlite_store.specs.declared.store.FileStore.{FileStore}
use Rattle.sqlite_trees.proofs.Doubt.{no_doubt}
use Rattle.sqlite_trees.specs.Objects.{catalog_tree}
use Rattle.sqlite_trees.specs.View.{IsShaped}
use Rattle.sqlite_trees.specs.declared.store.Shape.TheVariants as shape
use Rattle.sqlite_value.specs.contracts.row.Row.{the_row}
use Rattle.sqlite_wal.specs.Reads.{AreClean}
use Rattle.sqlite_wal.specs.Recovery.{Image}
use Rattle.store_kv.specs.State.{KeeperState, Shows}
use Rattle.store_kv.specs.Tables.{no_rows}
use Rattle.store_sqlite.specs.Kept.{kept_schema, no_schema, map_in, IsReady}
use Rattle.store_file.specs.Files.{Finds, IsOwn, Keeps, LeavesIn}
use Rattle.store_file.proofs.Schemas.{one_schema, none_schema, empty_schema}

-- what holds of an opened connection holds of it after a statement that changed nothing
pub opens_on : (s t : State) → IsUnchanged s t → Opens s × IsLive s → Opens t × IsLive t
opens_on s t same (opens, live) = (
  record {
    is_open = same.0.is_open;
    clean = same.0.now_is ∙ opens.clean ∙ sym same.0.committed_is;
    autocommit = same.0.mode ∙ opens.autocommit;
    unmarked = same.2 ∙ opens.unmarked;
    uncounted = (same.1.changes ∙ opens.uncounted.0, same.1.last_rowid ∙ opens.uncounted.1);
  },
  λ shown. (subst IsDatabase (sym same.0.now_is) (live opens.is_open).0, subst IsDatabase (sym same.0.committed_is) (live opens.is_open).1),
)

pub finds_on : (image : Image) (s t : State) → IsUnchanged s t → FindsIn image s → FindsIn image t
finds_on image s t same found =
    let trees : t.committed.trees ≡ s.committed.trees = ap (λ (d : Database). d.trees) same.0.committed_is in
    record { holds = λ db held. trees ∙ found.holds db held; reads = subst (λ (db : Trees). AreFoundIn image db) (sym trees) found.reads }

-- a connection that was opened over a database of this program is ready
ready : (s : State) → Opens s → IsLive s → IsOwn s.committed.trees → IsReady s
ready s opens live (inl own) =
    let sound = (live opens.is_open).0 in
    let trees : s.committed.trees ≡ s.now.trees = ap (λ (d : Database). d.trees) (sym opens.clean) in
    let its : IsSound kept_schema s.now.trees = subst (λ (db : Trees). IsSound kept_schema db) trees own.0 in
    inl (record {
      settled = opens.clean;
      autocommit = opens.autocommit;
      schema = one_schema s.now.trees s.now.schema its sound;
      sound = sound;
      shaped = subst (λ (db : Trees). IsShaped shape.Table (db 0)) trees own.1;
    })
ready s opens live (inr own) =
    let sound = (live opens.is_open).0 in
    let trees : s.committed.trees ≡ s.now.trees = ap (λ (d : Database). d.trees) (sym opens.clean) in
    let its : IsSound no_schema s.now.trees = subst (λ (db : Trees). IsSound no_schema db) trees own in
    inr (record { settled = opens.clean; autocommit = opens.autocommit; schema = none_schema s.now.trees s.now.schema its sound; sound = sound })

ready_new : (s : State) → Opens s → IsLive s → s.committed.trees catalog_tree ≡ [] → IsReady s
ready_new s opens live empty =
    let sound = (live opens.is_open).0 in
    let trees : s.committed.trees ≡ s.now.trees = ap (λ (d : Database). d.trees) (sym opens.clean) in
    inr (record { settled = opens.clean; autocommit = opens.autocommit; schema = empty_schema s.now.trees s.now.schema (subst (λ (db : Trees). db catalog_tree ≡ []) trees empty) sound; sound = sound })

map_new : (db : Trees) → db catalog_tree ≡ [] → map_in db ≡ no_rows
unfolding map_in
map_new db empty = rw empty refl

-- an empty database file holds no pages
found_new : (image : Image) (db : Trees) → length image.db ≡ 0 → AreFoundIn image db → IsEmpty db
found_new image db none (inl (size, pages, wanted, adopts, ours, is)) = absurd (omega (arith, none, adopts.found.present))
found_new image db none (inr (nothing, empty)) = empty

-- the database that the files hold is one, also where only some reading of them is known
held_by : (image : Image) (found db : Trees) → ((d : Trees) → HoldsDatabase image d → found ≡ d) → ∥ HoldsDatabase image db ∥₁ → found ≡ db
held_by image found db holds known =
    fun_ext (λ n. ∥∥₁_elim known (Coded-set (coded_list the_row.coded) (found n) (db n)) (λ h. ap (λ (t : Trees). t n) (holds db h)))

-- what is asked of the words of an opening, over plain states
module _ (image : Image) (s : State) (k : KeeperState)
    (told : k.tells ↔ (IsTrue s.is_open × IsReady s)) (tables : k.tables ≡ map_in s.now.trees) (stands : k.trusted ≡ s.is_open) (clean : k.is_clean ≡ s.is_clean)
    (opened : HasCleanDisk s → Opens s × IsLive s) (found : HasCleanDisk s → FindsIn image s) where
  disk : IsTrue k.is_clean → HasCleanDisk s
  disk h = no_doubt s.is_clean (sym clean ∙ h)

  tells_map : Opens s → IsReady s → (db : Trees) → s.committed.trees ≡ db → Shows k (map_in db)
  tells_map opens is db same =
      (told.1 (opens.is_open, is), tables ∙ ap map_in (ap (λ (d : Database). d.trees) opens.clean ∙ same))

  pub finds : k.faults ≡ 0 → Finds image k
  finds none = record {
    trusted = λ h. stands ∙ (opened (disk h)).0.is_open;
    own = λ h db holds own.
        let o = opened (disk h) in
        let same = held_by image s.committed.trees db (found (disk h)).holds holds in
        tells_map o.0 (ready s o.0 o.1 (subst IsOwn (sym same) own)) db same;
    new = λ h none.
        let o = opened (disk h) in
        let empty = (found_new image s.committed.trees none (found (disk h)).reads).1 in
        let shows = tells_map o.0 (ready_new s o.0 o.1 empty) s.committed.trees refl in
        (shows.0, shows.1 ∙ map_new s.committed.trees empty);
    faults = none;
  }

-- the last commit of a connection that is ready is a database of this program
own_of : (s : State) → IsReady s → IsOwn s.committed.trees
own_of s (inl it) =
    let trees : s.now.trees ≡ s.committed.trees = ap (λ (d : Database). d.trees) it.settled in
    let its : IsSound kept_schema s.now.trees = subst (λ (x : Schema). IsSound x s.now.trees) it.schema it.sound in
    inl (subst (λ (db : Trees). IsSound kept_schema db) trees its, subst (λ (db : Trees). IsShaped shape.Table (db 0)) trees it.shaped)
own_of s (inr it) =
    let trees : s.now.trees ≡ s.committed.trees = ap (λ (d : Database). d.trees) it.settled in
    let its : IsSound no_schema s.now.trees = subst (λ (x : Schema). IsSound x s.now.trees) it.schema it.sound in
    inr (subst (λ (db : Trees). IsSound no_schema db) trees its)

settled_of : (s : State) → IsReady s → s.now ≡ s.committed
settled_of s (inl it) = it.settled
settled_of s (inr it) = it.settled

module _ {D : Type 0} {g : Ghosts D} (c : Held (FileStore D g)) (k : KeeperState)
    (told : k.tells ↔ (IsTrue (file_state c).is_open × IsReady (file_state c))) (tables : k.tables ≡ map_in (file_state c).now.trees) where
  keeps : k.tells → (image : Image) → HoldsAlone image (file_state c).committed.trees → Keeps k (file_state c).committed.trees image
  keeps tells image holds =
      let is = (told.0 tells).1 in
      record {
        own = own_of (file_state c) is;
        tables = tables ∙ ap map_in (ap (λ (d : Database). d.trees) (settled_of (file_state c) is));
        holds = holds;
      }

  pub leaves : (files : Files D) → (AreClean g files.log files.db → IsCopied c files) → LeavesIn g k
  leaves files copied = record {
    files = files;
    db = (file_state c).committed.trees;
    now = λ tells clean. keeps tells (image_of g files) (copied clean).seen;
    crash = λ tells clean image left. keeps tells image ((copied clean).left image left);
  }
