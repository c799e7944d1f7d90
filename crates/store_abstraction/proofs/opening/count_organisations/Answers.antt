use Rattle.std.proofs.Common.{◌≡◌, ◌∙◌, None, Ok, Some, ap, length, subst, sym}
use Rattle.std.specs.FinMap as map
use Rattle.store_kv.specs.Draft.{tables_of}
use Rattle.store_kv.specs.Tables.{Tables}
use Rattle.store_rows.specs.Keys.{Version, spell}
use Rattle.store_abstraction.specs.Opening.{OpensAs}
use Rattle.store_abstraction.proofs.Versions.{ReadsVersion, count_found, none_counted, opens_failed, opens_known, opens_unknown}
use Rattle.store_abstraction.proofs.opening.count_organisations.Goals as goal

pub returns-in-Ok-None-clause-opens : goal.returns-in-Ok-None-clause-opens
returns-in-Ok-None-clause-opens g c told =
    let a = c.args.draft.now in
    let b = c.row_at.new.draft in
    let d = c.count_none.new.draft in
    let m = tables_of g.K.Keeper.state a in
    let tell = c.draft_laws.ensures.both 0 0 a b d c.row_at.ensures.reads c.count_none.ensures.calls.reads told in
    let none : ReadsVersion m (Ok None) = subst (ReadsVersion m) (c.in-Ok-None.is ∙ ap Ok c.in-Ok-None.field-0-is) (c.row_at.ensures.row tell.0) in
    subst (λ (t : Tables). OpensAs t c.count_none.result) tell.2
    (c.count_none.ensures.opens tell.1 (subst (λ (t : Tables). map.get t (spell Version) ≡ None) (sym tell.2) none))

pub returns-in-Ok-None-clause-counts : goal.returns-in-Ok-None-clause-counts
returns-in-Ok-None-clause-counts g c told w s =
    let a = c.args.draft.now in
    let b = c.row_at.new.draft in
    let d = c.count_none.new.draft in
    let m = tables_of g.K.Keeper.state a in
    let tell = c.draft_laws.ensures.both 0 0 a b d c.row_at.ensures.reads c.count_none.ensures.calls.reads told in
    none_counted c.count_none.result (length w) c.count_none.ensures.counts
    (count_found c.row_laws.ensures.found m None (subst (ReadsVersion m) (c.in-Ok-None.is ∙ ap Ok c.in-Ok-None.field-0-is) (c.row_at.ensures.row tell.0)) w s)

pub returns-then-row-eq-KNOWN_VERSION-clause-opens : goal.returns-then-row-eq-KNOWN_VERSION-clause-opens
returns-then-row-eq-KNOWN_VERSION-clause-opens g c told =
    let m = tables_of g.K.Keeper.state c.args.draft.now in
    opens_known m c.in-Ok-Some.row (subst (ReadsVersion m) (c.in-Ok-Some.is ∙ ap Ok c.in-Ok-Some.field-0-is) (c.row_at.ensures.row told)) c.if-row-eq-KNOWN_VERSION.true

pub returns-then-row-eq-KNOWN_VERSION-clause-counts : goal.returns-then-row-eq-KNOWN_VERSION-clause-counts
returns-then-row-eq-KNOWN_VERSION-clause-counts g c told w s =
    let m = tables_of g.K.Keeper.state c.args.draft.now in
    count_found c.row_laws.ensures.found m (Some c.in-Ok-Some.row) (subst (ReadsVersion m) (c.in-Ok-Some.is ∙ ap Ok c.in-Ok-Some.field-0-is) (c.row_at.ensures.row told)) w s

pub returns-else-row-eq-KNOWN_VERSION-clause-opens : goal.returns-else-row-eq-KNOWN_VERSION-clause-opens
returns-else-row-eq-KNOWN_VERSION-clause-opens g c told =
    let m = tables_of g.K.Keeper.state c.args.draft.now in
    opens_unknown m c.in-Ok-Some.row (subst (ReadsVersion m) (c.in-Ok-Some.is ∙ ap Ok c.in-Ok-Some.field-0-is) (c.row_at.ensures.row told)) c.if-row-eq-KNOWN_VERSION.false

pub returns-in-Err-clause-opens : goal.returns-in-Err-clause-opens
returns-in-Err-clause-opens g c told =
    let m = tables_of g.K.Keeper.state c.args.draft.now in
    opens_failed m c.in-Err.fail (subst (ReadsVersion m) c.in-Err.is (c.row_at.ensures.row told))
