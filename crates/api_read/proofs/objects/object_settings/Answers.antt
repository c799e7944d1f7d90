use Rattle.std.proofs.Common.{◌∙◌, Some, Ok, ap, sym}
use Rattle.model_reads.specs.SettingsJson.{settings_json}
use Rattle.store_abstraction.specs.inner.LayoutRows.{object_rows}
use Rattle.store_kv.specs.Draft.{tables_of}
use Rattle.api_read.specs.inner.Settings.{settings_by_rows}
use Rattle.api_read.proofs.ObjectsTold.{settings_are, stopped_listing, told_again}
use Rattle.api_read.proofs.objects.object_settings.Goals as goal

pub returns-in-Ok-clause-tells : goal.returns-in-Ok-clause-tells
returns-in-Ok-clause-tells g c told q t s =
    let rows = c.as_slice.result.now in
    told_again (Ok (settings_json t)) (Ok (settings_by_rows rows)) c.settings_told.result
    (ap Ok (sym (settings_are c.args.org q t rows (c.as_slice.ensures.value ∙ c.in-Ok.ensures.finds told q (Some t) s))))
    c.settings_told.ensures.value

pub returns-in-Err-clause-tells : goal.returns-in-Err-clause-tells
returns-in-Err-clause-tells g c told q t s =
    stopped_listing c.args.org (object_rows c.args.org) (tables_of g.K.Keeper.state c.args.draft.now) (Ok (settings_json t)) q t c.object_rows.result c.in-Err.fail c.in-Err.is s
    (c.object_rows.ensures.finds told)
