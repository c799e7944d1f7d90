use Rattle.std.proofs.Common.{◌≡◌, sym, ap, ◌∙◌, subst, IsSome, true≢false}
use Rattle.std.specs.Option.{option_copied_mut}
use Rattle.std.specs.BTreeMap.{get}
use Rattle.store_kv.specs.Tables.{place_cmp}
use Rattle.store_kv.specs.Laid.{Entry, row_laid}
use Rattle.store_kv.specs.Memory.{tables_in}
use Rattle.store_kv.proofs.Laid.{tables-updates}
use Rattle.store_kv.proofs.changes.put_back_one.Goals as goal

pub returns-in-Some-clause-shown : goal.returns-in-Some-clause-shown
returns-in-Some-clause-shown c =
    let h = c.get_mut.follows.holds c.replaced.inside.row in
    let is = subst (λ (e : Entry). IsSome (get place_cmp c.args.rows.now e.0)) (sym c.replaced.view_is) c.requires in
    subst (λ (e : Entry). tables_in (c.get_mut.follows.lender c.replaced.inside.row).entries ≡ row_laid e.0 e.1 (tables_in c.args.rows.now.entries)) c.replaced.view_is
    (tables-updates c.args.rows.now (c.get_mut.follows.lender c.replaced.inside.row) c.replaced.inside.place c.replaced.inside.row (h.3 is))

pub returns-clause-shown : goal.returns-clause-shown
returns-clause-shown c =
    let is = subst (λ (e : Entry). IsSome (get place_cmp c.args.rows.now e.0)) (sym c.replaced.view_is) c.requires in
    absurd (true≢false (sym (subst IsSome (sym c.get_mut.ensures.value ∙ ap option_copied_mut c.in_default.is) is)))
