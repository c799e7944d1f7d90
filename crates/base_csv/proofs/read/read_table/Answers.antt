use Rattle.std.proofs.Common.{◌∙◌, ◌<◌, arith, sym, ap, subst, length, map, take, List, ℕ}
use Rattle.std.specs.Prelude.{slice_get}
use Rattle.std.proofs.lemmas.Option.{slice_get_within}
use Rattle.csv.specs.Records.{fields_of}
use Rattle.base_csv.specs.Place.{TellsPlace}
use Rattle.base_csv.specs.Table.{first_refused, table_of}
use Rattle.base_csv.proofs.Kept.{all_read, one_more, take_none}
use Rattle.base_csv.proofs.read.read_table.Goals as goal

pub loop-record-init : goal.loop-record-init
loop-record-init c = record {
  source = c.new-records.ensures.source;
  kept = ap (map fields_of) c.new-rows.ensures.items ∙ take_none c.args.most c.new-records.result.read (table_of c.args.source.now) c.new-records.ensures.read;
}

pub loop-record-smaller : goal.loop-record-smaller
loop-record-smaller c =
    let is = c.loop-record.invariant.source in
    let table = table_of c.args.source.now in
    let next = rw c.in-Ok-Some.field-0-is at (c.in-Ok-Some.ensures.record ∙ ap (λ (x : List ℕ). slice_get (table_of x) c.loop-record.records.read) is) in
    let within : c.loop-record.records.read < length table = slice_get_within table c.loop-record.records.read (fields_of c.in-Ok-Some.record) (sym next) in
    omega (arith, within, rw c.in-Ok-Some.field-0-is at c.in-Ok-Some.ensures.read)

pub loop-record-preserved : goal.loop-record-preserved
loop-record-preserved c =
    let is = c.loop-record.invariant.source in
    let table = table_of c.args.source.now in
    let next = rw c.in-Ok-Some.field-0-is at (c.in-Ok-Some.ensures.record ∙ ap (λ (x : List ℕ). slice_get (table_of x) c.loop-record.records.read) is) in
    record {
      source = c.next.ensures.source ∙ is;
      kept = one_more table c.loop-record.records.read c.next.new.self.read c.args.most (fields_of c.in-Ok-Some.record) _ _ next (rw c.in-Ok-Some.field-0-is at c.in-Ok-Some.ensures.read) c.loop-record.invariant.kept c.in_ok-keep-in-Ok-Some.ensures.kept;
    }

pub returns-in-Ok-None-clause-records : goal.returns-in-Ok-None-clause-records
returns-in-Ok-None-clause-records c =
    let is = c.loop-record.invariant.source in
    let next = rw c.in-Ok-None.field-0-is at (c.in-Ok-None.ensures.record ∙ ap (λ (x : List ℕ). slice_get (table_of x) c.loop-record.records.read) is) in
    c.loop-record.invariant.kept ∙ ap (take c.args.most) (all_read (table_of c.args.source.now) c.loop-record.records.read next)

pub returns-in-Ok-None-clause-accepted : goal.returns-in-Ok-None-clause-accepted
returns-in-Ok-None-clause-accepted c = ap first_refused (sym c.loop-record.invariant.source) ∙ c.in-Ok-None.ensures.accepted c.in-Ok-None.field-0-is

pub returns-in-Err-clause-refused : goal.returns-in-Err-clause-refused
returns-in-Err-clause-refused c = subst (λ (source : List ℕ). TellsPlace source c.in-Err.fail) c.loop-record.invariant.source c.in-Err.ensures.refused
