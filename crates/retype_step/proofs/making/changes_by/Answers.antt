use Rattle.std.proofs.Common.{◌<◌, ◌^◌, arith, subst}
use Rattle.retype_step.proofs.Stepping.{Laws, decided_few, decided_own, decided_takes, never_damaged}
use Rattle.retype_step.proofs.making.changes_by.Goals as goal
use Rattle.retype_step.specs.inner.Pages.{FindsPage}

pub returns-in-Ok-changes_of-clause-takes : goal.returns-in-Ok-changes_of-clause-takes
returns-in-Ok-changes_of-clause-takes g c told q t j s is busy its =
    let page = c.in-Ok.page in
    let laws : Laws = record {
      step = record {
        stops = c.switch_laws.ensures.stops;
        switches = c.switch_laws.ensures.switches;
        finishes = c.switch_laws.ensures.finishes;
        moves = c.progress_laws.ensures.moves;
        few = c.progress_laws.ensures.few;
      };
      sound = c.jobs_sound.ensures.step;
      reads = c.data_laws.ensures.read;
      typed = c.data_laws.ensures.typed;
      converting = c.pivot_laws.ensures.converting;
      field = c.metadata_laws.ensures.field_fits;
    } in
    let lo : c.args.org < 2 ^ 32 = omega arith in
    let read = subst (FindsPage c.args.org q t j) c.in-Ok.is (c.page_of.ensures.finds told q t j s is busy its) in
    decided_takes laws c.args.org lo q t j s.sound s.plan page.row page.layout page.rows read c.in-Ok-changes_of.changes c.in-Ok-changes_of.ensures.made

pub returns-in-Ok-changes_of-clause-form : goal.returns-in-Ok-changes_of-clause-form
returns-in-Ok-changes_of-clause-form g c =
    let page = c.in-Ok.page in
    let changes = c.in-Ok-changes_of.changes.items in
    record {
      own = decided_own c.args.org page.row page.layout page.rows changes c.in-Ok.ensures.own c.in-Ok-changes_of.ensures.made;
      few = decided_few c.progress_laws.ensures.gone c.args.org page.row page.layout page.rows changes c.in-Ok-changes_of.ensures.made;
    }

pub returns-in-Err-changes_of-clause-takes : goal.returns-in-Err-changes_of-clause-takes
returns-in-Err-changes_of-clause-takes g c told q t j s is busy its =
    let page = c.in-Ok.page in
    let laws : Laws = record {
      step = record {
        stops = c.switch_laws.ensures.stops;
        switches = c.switch_laws.ensures.switches;
        finishes = c.switch_laws.ensures.finishes;
        moves = c.progress_laws.ensures.moves;
        few = c.progress_laws.ensures.few;
      };
      sound = c.jobs_sound.ensures.step;
      reads = c.data_laws.ensures.read;
      typed = c.data_laws.ensures.typed;
      converting = c.pivot_laws.ensures.converting;
      field = c.metadata_laws.ensures.field_fits;
    } in
    let lo : c.args.org < 2 ^ 32 = omega arith in
    let read = subst (FindsPage c.args.org q t j) c.in-Ok.is (c.page_of.ensures.finds told q t j s is busy its) in
    never_damaged laws c.args.org lo q t j s.sound s.plan page.row page.layout page.rows read c.in-Err-changes_of.fail c.from.result c.in-Err-changes_of.ensures.cause c.from.ensures
