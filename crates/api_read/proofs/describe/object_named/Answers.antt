use Rattle.std.proofs.Common.{Ok, subst}
use Rattle.model_reads.specs.DescribeJson.{object_json}
use Rattle.store_edit.specs.Naming.{NamesLayout}
use Rattle.api_read.proofs.DescribedObjects.{object_told_so}
use Rattle.api_read.proofs.ObjectsTold.{unnamed}
use Rattle.api_read.proofs.describe.object_named.Goals as goal

pub returns-in-Ok-clause-tells : goal.returns-in-Ok-clause-tells
returns-in-Ok-clause-tells g c told q t s =
    let org = c.args.org in
    let name = c.args.name.now in
    object_told_so org q t name c.in-Ok.layout c.object_told.result (subst (NamesLayout org q t name) c.in-Ok.is (c.layout_there.ensures.names told q t s)) c.object_told.ensures.value

pub returns-in-Err-clause-tells : goal.returns-in-Err-clause-tells
returns-in-Err-clause-tells g c told q t s =
    let org = c.args.org in
    let name = c.args.name.now in
    unnamed org q t name (λ o. Ok (object_json o)) c.in-Err.fail (subst (NamesLayout org q t name) c.in-Err.is (c.layout_there.ensures.names told q t s))
