-- What the fixed texts mean.
use Rattle.std.proofs.Common.{◌≡◌, pos, negsuc, List, [], ◌∷◌, codes, Ok, Some, None, false, refl}
use Rattle.sqlite.specs.declared.types.Value.TheVariants.{Null, Int}
use Rattle.sqlite.specs.Collation.TheVariants.{Binary}
use Rattle.sqlite.specs.Compile.{table_defined_by}
use Rattle.sqlite.specs.Command.TheVariants.{CreateTable, Nothing, Select, InsertOr, Delete}
use Rattle.sqlite.specs.Term.{Term, lit, col, op2}
use Rattle.sqlite.specs.Query.{Query, inner, end}
use Rattle.sqlite_sql.specs.declared.ops.BinaryOp.TheVariants.{Compare}
use Rattle.sqlite_sql.specs.declared.ops.CompareOp.TheVariants.{Eq, Ge, Lt}
use Rattle.sqlite_schema.specs.declared.command.Upsert.{Upsert}
use Rattle.sqlite_schema.specs.declared.command.Conflict.TheVariants.{Abort}
use Rattle.sqlite.specs.Source.TheVariants.{Values}
use Rattle.sqlite_value.specs.Keys.{plain, first_key}
use Rattle.sqlite_value.specs.declared.keys.Key.{Key}
use Rattle.sqlite_tied.specs.Compute.{everything}
use Rattle.sqlite.specs.Listing.{understood, reads_listing}
use Rattle.sqlite.proofs.Callers.{IsPlain, command_of}
use Rattle.store_sqlite.specs.Kept.{create_text, get_text, scan_text, put_text, remove_text, kept, no_schema, kept_schema}

pub create_is : command_of (understood no_schema create_text) ≡ CreateTable
unfolding understood everything
create_is = refl

pub defines : table_defined_by create_text ≡ Ok kept
unfolding understood everything
defines = refl

pub again_is : command_of (understood kept_schema create_text) ≡ Nothing
unfolding understood everything
again_is = refl

-- a query over the one table
abbrev pub query_of : List Term → List Term → List (Term × Key) → Term → Query
query_of filter project order limit = record {
  from = inner 0 end;
  filter = filter;
  group = None;
  project = project;
  distinct = false;
  collations = [];
  order = order;
  limit = limit;
  offset = lit (Int (pos 0));
}

abbrev pub whole : Term
whole = lit (Int (negsuc 0))

-- the row has the table's number and the key that are the first two parameters
abbrev pub at_key : List Term
at_key = op2 (Compare Eq Binary) (col 1 1) (col 0 0) ∷ op2 (Compare Eq Binary) (col 1 2) (col 0 1) ∷ []

abbrev pub get_query : Query
get_query = query_of at_key (col 1 3 ∷ []) [] whole

pub get_is : command_of (understood kept_schema get_text) ≡ Select (record { lets = []; body = get_query }) (codes "r" ∷ [])
unfolding understood everything
get_is = refl

pub remove_is : command_of (understood kept_schema remove_text) ≡ Delete 0 (record { lets = []; body = query_of at_key (col 1 0 ∷ []) [] whole })
unfolding understood everything
remove_is = refl

abbrev pub in_range : List Term
in_range = op2 (Compare Eq Binary) (col 1 1) (col 0 0) ∷ op2 (Compare Ge Binary) (col 1 2) (col 0 1) ∷ op2 (Compare Lt Binary) (col 1 2) (col 0 2) ∷ []

abbrev pub scan_query : Query
scan_query = query_of in_range (col 1 2 ∷ col 1 3 ∷ []) ((col 1 2, first_key plain) ∷ []) (col 0 3)

pub scan_is : command_of (understood kept_schema scan_text) ≡ Select (record { lets = []; body = scan_query }) (codes "k" ∷ codes "r" ∷ [])
unfolding understood everything
scan_is = refl

abbrev pub put_terms : List Term
put_terms = lit Null ∷ col 0 0 ∷ col 0 1 ∷ col 0 2 ∷ []

abbrev pub mend_query : Query
mend_query = query_of (op2 (Compare Eq Binary) (col 1 0) (col 0 3) ∷ []) (col 1 0 ∷ col 1 0 ∷ col 1 1 ∷ col 1 2 ∷ col 0 7 ∷ []) [] whole

abbrev pub put_clauses : List Upsert
put_clauses = (record { target = Some (1 ∷ 2 ∷ []); update = Some (record { lets = []; body = mend_query }) }) ∷ []

pub put_is : command_of (understood kept_schema put_text) ≡ InsertOr 0 Abort (Values put_terms 4) put_clauses
unfolding understood everything
put_is = refl

pub get_plain : IsPlain (understood kept_schema get_text)
unfolding understood everything
get_plain = (refl, refl)

pub get_unlisted : reads_listing kept_schema get_text ≡ false
unfolding understood everything
get_unlisted = refl

pub scan_plain : IsPlain (understood kept_schema scan_text)
unfolding understood everything
scan_plain = (refl, refl)

pub scan_unlisted : reads_listing kept_schema scan_text ≡ false
unfolding understood everything
scan_unlisted = refl

pub put_plain : IsPlain (understood kept_schema put_text)
unfolding understood everything
put_plain = (refl, refl)

pub remove_plain : IsPlain (understood kept_schema remove_text)
unfolding understood everything
remove_plain = (refl, refl)
