use Rattle.record_index.proofs.Deleting.{deleted}
use Rattle.record_index.proofs.Keeping.{kept}
use Rattle.record_index.proofs.Plans as plans
use Rattle.record_index.proofs.Puts.{all_puts, touched_puts}
use Rattle.record_index.proofs.Rest.{rest, valued_rest}
use Rattle.record_index.proofs.Same.{alike}
use Rattle.record_index.proofs.Single.{single}
use Rattle.record_index.proofs.Unmoved.{unmoved}
use Rattle.record_index.proofs.Edits.{changed, created, taken}
use Rattle.record_index.proofs.diff.laws.touched_laws.Goals as goal

pub returns-clause-are : goal.returns-clause-are
returns-clause-are c org p q t u ids counts is kept_t kept_u none_takes counted keys = all_puts org p q t u ids (alike p q t u ids is) kept_t kept_u none_takes counts counted.of keys

pub returns-clause-rest : goal.returns-clause-rest
returns-clause-rest c org p q t u ids counts k is kept_t kept_u counted own unchanged = rest c.table_laws.ensures.equal org p q t u ids counts is kept_t kept_u counted k own unchanged

pub returns-clause-alike_are : goal.returns-clause-alike_are
returns-clause-alike_are c org p q t u ids is kept_t kept_u none_takes keys = touched_puts org p q t u ids is kept_t kept_u none_takes keys

pub returns-clause-alike_rest : goal.returns-clause-alike_rest
returns-clause-alike_rest c org p q t u ids k is kept_t kept_u own valued unchanged = valued_rest c.table_laws.ensures.equal org p q t u ids is kept_t kept_u k own valued unchanged

pub returns-clause-created : goal.returns-clause-created
returns-clause-created c p t r = created p t r

pub returns-clause-changed : goal.returns-clause-changed
returns-clause-changed c p t old new same = changed p t old new

pub returns-clause-taken : goal.returns-clause-taken
returns-clause-taken c p now t gone = taken p now t gone

pub returns-clause-single : goal.returns-clause-single
returns-clause-single c p q t u id is kept = single p q t u id is kept

pub returns-clause-fresh : goal.returns-clause-fresh
returns-clause-fresh c p t r fits = plans.fresh p t r fits

pub returns-clause-same : goal.returns-clause-same
returns-clause-same c p t u ids is fits = plans.same p t u ids is fits

pub returns-clause-kept : goal.returns-clause-kept
returns-clause-kept c p t sound fits = kept c.value_laws.ensures.fits c.order_laws.ensures.same p t sound fits

pub returns-clause-deleted : goal.returns-clause-deleted
returns-clause-deleted c p now t gone sound fits = deleted c.value_laws.ensures.fits c.order_laws.ensures.same p now t gone sound fits

pub returns-clause-unmoved : goal.returns-clause-unmoved
returns-clause-unmoved c p t u ids sound_t sound_u objects records = unmoved c.value_laws.ensures.fits c.order_laws.ensures.same p t u ids sound_t sound_u objects records
