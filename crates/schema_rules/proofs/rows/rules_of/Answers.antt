use Rattle.std.proofs.Common.{subst, sym}
use Rattle.std.specs.Prelude.{List, Result}
use Rattle.store_kv.specs.Draft.{tables_of}
use Rattle.store_rows.specs.declared.fail.StoreFail.{StoreFail}
use Rattle.store_rows.specs.declared.validation.ValidationRow.{ValidationRow}
use Rattle.store_abstraction.specs.Calls.{Calls, ended}
use Rattle.store_abstraction.specs.Layouts.{FindsOf}
use Rattle.schema_rules.specs.Rows.{rule_rows}
use Rattle.schema_rules.proofs.Read.{ReadLaws, at_most_calls, rules_found}
use Rattle.schema_rules.proofs.rows.rules_of.Goals as goal

pub returns-clause-finds : goal.returns-clause-finds
returns-clause-finds g c told =
    let m = tables_of g.K.Keeper.state c.args.draft.now in
    let l = c.args.layout.now in
    let laws : ReadLaws = record {
      keys = record { under = c.table_laws.ensures.under; compares = c.shape_laws.ensures.compared; begins = c.shape_laws.ensures.begins; fits = c.metadata_laws.ensures.rule_fits };
      pages = record { kept = c.listing_laws.ensures.kept; page = c.listing_laws.ensures.page };
      ends = c.table_laws.ensures.ends;
      under = c.local_laws.ensures.under;
      listed = c.local_laws.ensures.listed;
    } in
    subst (FindsOf l (rule_rows l.org l.object) m) (sym c.at_most_all.ensures)
    (rules_found laws m l c.page_of.ensures.fits.0 c.page_of.ensures.fits.1 c.page_of.result (c.page_of.ensures.rows told))

pub returns-clause-calls : goal.returns-clause-calls
returns-clause-calls g c =
    let state = g.K.Keeper.state in
    let a = c.args.draft.now in
    let b = c.page_of.new.draft in
    subst (λ (r : Result (List ValidationRow) StoreFail). Calls state 0 (ended r) a b) (sym c.at_most_all.ensures)
    (at_most_calls state c.call_laws.ensures.weaker a b 50 c.page_of.result c.page_of.ensures.calls)
