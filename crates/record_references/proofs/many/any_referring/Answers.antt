use Rattle.std.proofs.Common.{ℕ, None, subst}
use Rattle.base_lemmas.proofs.Lists.{slice_get_as_read as read_there}
use Rattle.store_kv.specs.Draft.{tables_of}
use Rattle.record_references.specs.inner.Many.{Scans, kept_after}
use Rattle.record_references.proofs.Seeking.{ManyLaws, any_finds}
use Rattle.record_references.proofs.many.any_referring.Goals as goal

pub returns-clause-finds : goal.returns-clause-finds
returns-clause-finds g c told =
    let m = tables_of g.K.Keeper.state c.args.draft.now in
    let l = c.args.layout.now in
    let f = c.index-fields-number.result in
    let targets = c.args.targets.now.keys in
    let without = c.args.without.now.keys in
    let laws : ManyLaws = record {
      begins = c.shape_laws.ensures.begins;
      prefix = c.table_laws.ensures.under;
      ends = c.table_laws.ensures.ends;
      lists = c.walk_laws.ensures.is_listing;
      makes = c.id_laws.ensures.made;
      under = c.local_laws.ensures.under;
      listed = c.local_laws.ensures.listed;
    } in
    let at = read_there l.fields c.as_slice-fields.result.now c.args.number f c.as_slice-fields.ensures c.requires.field c.index-fields-number.is in
    any_finds laws m l c.args.number f at c.place_of-place.ensures.fits targets without c.is_any_sought.result
    (subst (λ (p : ℕ × (ℕ × ℕ)). Scans (kept_after m p None) targets without c.is_any_sought.result) c.place_of-place.ensures.is (c.is_any_sought.ensures.scans told))
