-- A list of objects that is that of the table `kept` alone, or of no table, is that of no other schema.
use Rattle.std.proofs.Common.{◌≡◌, inl, inr, ℕ, zero, suc, ◌+◌, List, [], ◌∷◌, Bool, filter, Some, Result, Ok, pos, slice_get, refl, sym, ap, subst, ◌∙◌, arith}
use Rattle.std.specs.List.{AllZip}
use Rattle.sqlite.specs.Order.{Row, column}
use Rattle.sqlite.specs.Schema.{Schema}
use Rattle.sqlite.specs.Table.{Table}
use Rattle.sqlite.specs.Tree.{Trees}
use Rattle.sqlite_catalog.specs.Listing.{IsSound, AreListed, IsTableRow, IsIndexRow, IsViewRow, IsDefined, automatic, is_table_row, is_view_row, is_index_row}
use Rattle.sqlite_resolve.specs.Compile.{table_defined_by, index_defined_by}
use Rattle.sqlite_rules.specs.Lists.{Has}
use Rattle.sqlite_schema.specs.declared.schema.Index.{Index}
use Rattle.sqlite_schema.specs.declared.schema.View.{View}
use Rattle.sqlite_trees.specs.Objects.{catalog_tree}
use Rattle.sqlite_value.specs.declared.value.Value.{Value}
use Rattle.sqlite_value.specs.declared.value.Value.TheVariants.{Null, Int, Real, Text, Blob}
use Rattle.store_sqlite.specs.Kept.{kept, kept_schema, no_schema}

module _ {A B : Type 0} (R : A → B → Type 0) where
  zip_none : (xs : List A) → AllZip R xs [] → xs ≡ []
  zip_none [] all = refl
  zip_none (x ∷ xs) all = absurd all

  zip_empty : (ys : List B) → AllZip R [] ys → ys ≡ []
  zip_empty [] all = refl
  zip_empty (y ∷ ys) all = absurd all

  zip_one : (xs : List A) (y : B) → AllZip R xs (y ∷ []) → (x : A) × (xs ≡ x ∷ []) × R x y
  zip_one [] y all = absurd all
  zip_one (x ∷ []) y all = (x, refl, all.0)
  zip_one (x ∷ (w ∷ xs)) y all = absurd all.1

  zip_other : (x : A) (ys : List B) → AllZip R (x ∷ []) ys → (y : B) × (ys ≡ y ∷ []) × R x y
  zip_other x [] all = absurd all
  zip_other x (y ∷ []) all = (y, refl, all.0)
  zip_other x (y ∷ (w ∷ ys)) all = absurd all.1

  -- two lists that are tied to one, where what is tied to one element is one element
  zip_same : (same : (x : A) (y z : B) → R x y → R x z → y ≡ z) (xs : List A) (y : B) (ys : List B)
      → AllZip R xs (y ∷ []) → AllZip R xs ys → ys ≡ y ∷ []
  zip_same same xs y ys one all =
      let first = zip_one xs y one in
      let other = zip_other first.0 ys (subst (λ (l : List A). AllZip R l ys) first.1 all) in
      other.1 ∙ ap (λ (z : B). z ∷ []) (same first.0 other.0 y other.2 first.2)

same_place : (a b : ℕ) → Int (pos (a + 1)) ≡ Int (pos (b + 1)) → a ≡ b
same_place a b e = let f : a + 1 ≡ b + 1 = cc in omega (arith, f)

abbrev retreed : Table → ℕ → Table
retreed made tree = record made { tree = tree }

same_text : {a b : List ℕ} → Text a ≡ Text b → a ≡ b
same_text e = cc

same_made : {X E : Type 0} (r : Result X E) {a b : X} → r ≡ Ok a → r ≡ Ok b → a ≡ b
same_made r p q = cc

same_table : (row : Row) (t u : Table) → IsTableRow row t → IsTableRow row u → t ≡ u
same_table row t u a b =
    let texts : a.sql ≡ b.sql = same_text (sym a.sql_is ∙ b.sql_is) in
    let made : a.defined.0 ≡ b.defined.0 = same_made (table_defined_by a.sql) a.defined.1 (ap table_defined_by texts ∙ b.defined.1) in
    let trees : t.tree ≡ u.tree = same_place t.tree u.tree (sym a.described.id ∙ b.described.id) in
    a.defined.2 ∙ (ap (λ (m : Table). retreed m t.tree) made ∙ (ap (retreed b.defined.0) trees ∙ sym b.defined.2))

one_place : (k key : List ℕ) (at : ℕ) → slice_get (k ∷ []) at ≡ Some key → (at ≡ 0) × (key ≡ k)
one_place k key zero e = (refl, cc)
one_place k key (suc at) e = absurd (cc)

abbrev placed : Index → ℕ → ℕ → Index
placed made tree table = record made { tree = tree; table = table }

same_index : (t : Table) (k : List ℕ) → t.uniques ≡ k ∷ [] → (row : Row) (i j : Index) → IsIndexRow (t ∷ []) row i → IsIndexRow (t ∷ []) row j → i ≡ j
same_index t k uniques row i j a b =
    by_value (column row 4) a.table b.table (only a.table a.listed) (only b.table b.listed) a.defined b.defined
  where
    trees : i.tree ≡ j.tree
    trees = same_place i.tree j.tree (sym a.described.id ∙ b.described.id)

    only : (u : Table) → Has (t ∷ []) u → u ≡ t
    only u (inl is) = is
    only u (inr none) = absurd none

    keys : (u : Table) → u ≡ t → u.uniques ≡ k ∷ []
    keys u is = ap (λ (w : Table). w.uniques) is ∙ uniques

    by_value : (v : Value) (u w : Table) → u ≡ t → w ≡ t → IsDefined u i v → IsDefined w j v → i ≡ j
    by_value Null u w is that (at, key, from, first, low) (place, other, source, second, below) =
        let here = one_place k key at (subst (λ (l : List (List ℕ)). slice_get l at ≡ Some key) (keys u is) from) in
        let there = one_place k other place (subst (λ (l : List (List ℕ)). slice_get l place ≡ Some other) (keys w that) source) in
        let tables : u ≡ w = is ∙ sym that in
        let places : at ≡ place = here.0 ∙ sym there.0 in
        let columns : key ≡ other = here.1 ∙ sym there.1 in
        first ∙ (ap (λ (x : Table). automatic x at key i.tree) tables ∙ (ap (λ (n : ℕ). automatic w n key i.tree) places
        ∙ (ap (λ (l : List ℕ). automatic w place l i.tree) columns ∙ (ap (automatic w place other) trees ∙ sym second))))
    by_value (Int n) u w is that first second = absurd first
    by_value (Real x) u w is that first second = absurd first
    by_value (Text sql) u w is that (made, from, first) (other, source, second) =
        let tables : u ≡ w = is ∙ sym that in
        let same : made ≡ other = same_made (index_defined_by u sql) from (ap (λ (x : Table). index_defined_by x sql) tables ∙ source) in
        first ∙ (ap (λ (m : Index). placed m i.tree u.tree) same ∙ (ap (λ (n : ℕ). placed other n u.tree) trees
        ∙ (ap (λ (x : Table). placed other j.tree x.tree) tables ∙ sym second)))
    by_value (Blob b) u w is that first second = absurd first

-- the table and the index of its keys as the database has them
abbrev the_table : Table
the_table = record kept { tree = 0 }

abbrev the_index : Index
the_index = automatic the_table 0 (1 ∷ 2 ∷ []) 1

schema_of : {s : Schema} {tables : List Table} {indexes : List Index} {views : List View} → s.tables ≡ tables → s.indexes ≡ indexes → s.views ≡ views
    → s ≡ record { tables = tables; indexes = indexes; views = views }
schema_of {s} {tables} {indexes} {views} a b c =
    let made : List Table → List Index → List View → Schema = λ t i v. record { tables = t; indexes = i; views = v } in
    ap (λ (t : List Table). made t s.indexes s.views) a ∙ (ap (λ (i : List Index). made tables i s.views) b ∙ ap (λ (v : List View). made tables indexes v) c)

pub one_schema : (db : Trees) (s : Schema) → IsSound kept_schema db → IsSound s db → s ≡ kept_schema
one_schema db s kept sound =
    let a = kept.lists.listed in
    let b = sound.lists.listed in
    let objects = db catalog_tree in
    let tables : s.tables ≡ kept_schema.tables
    = zip_same IsTableRow same_table (filter is_table_row objects) the_table s.tables a.tables b.tables in
    let indexes : s.indexes ≡ kept_schema.indexes
    = zip_same (IsIndexRow (the_table ∷ [])) (same_index the_table (1 ∷ 2 ∷ []) refl) (filter is_index_row objects) the_index s.indexes a.indexes
    (subst (λ (l : List Table). AllZip (IsIndexRow l) (filter is_index_row objects) s.indexes) tables b.indexes) in
    let none : filter is_view_row objects ≡ [] = zip_none IsViewRow (filter is_view_row objects) a.views in
    let views : s.views ≡ [] = zip_empty IsViewRow s.views (subst (λ (l : List Row). AllZip IsViewRow l s.views) none b.views) in
    schema_of tables indexes views

nothing_listed : (objects : List Row) (s : Schema) → filter is_table_row objects ≡ [] → filter is_index_row objects ≡ [] → filter is_view_row objects ≡ []
    → AreListed objects s → s ≡ no_schema
nothing_listed objects s no_tables no_indexes no_views all =
    let tables : s.tables ≡ [] = zip_empty IsTableRow s.tables (subst (λ (l : List Row). AllZip IsTableRow l s.tables) no_tables all.tables) in
    let indexes : s.indexes ≡ [] = zip_empty (IsIndexRow s.tables) s.indexes (subst (λ (l : List Row). AllZip (IsIndexRow s.tables) l s.indexes) no_indexes all.indexes) in
    let views : s.views ≡ [] = zip_empty IsViewRow s.views (subst (λ (l : List Row). AllZip IsViewRow l s.views) no_views all.views) in
    schema_of tables indexes views

pub none_schema : (db : Trees) (s : Schema) → IsSound no_schema db → IsSound s db → s ≡ no_schema
none_schema db s none sound =
    let a = none.lists.listed in
    let b = sound.lists.listed in
    let objects = db catalog_tree in
    let no_tables : filter is_table_row objects ≡ [] = zip_none IsTableRow (filter is_table_row objects) a.tables in
    let no_indexes : filter is_index_row objects ≡ [] = zip_none (IsIndexRow []) (filter is_index_row objects) a.indexes in
    let no_views : filter is_view_row objects ≡ [] = zip_none IsViewRow (filter is_view_row objects) a.views in
    nothing_listed objects s no_tables no_indexes no_views b

-- a list without objects is that of no table
pub empty_schema : (db : Trees) (s : Schema) → db catalog_tree ≡ [] → IsSound s db → s ≡ no_schema
empty_schema db s empty sound =
    let none : (p : Row → Bool) → filter p (db catalog_tree) ≡ [] = λ p. ap (filter p) empty in
    nothing_listed (db catalog_tree) s (none is_table_row) (none is_index_row) (none is_view_row) sound.lists.listed
