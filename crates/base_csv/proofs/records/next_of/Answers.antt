use Rattle.std.proofs.Common.{◌∙◌, sym, ap, subst, Option, Some, List, ℕ, Bor}
use Rattle.csv.specs.Reading.{error_kind}
use Rattle.csv.specs.Records.{fields_of}
use Rattle.base_csv.specs.Place.{TellsPlace}
use Rattle.base_csv.proofs.Steps.{empty_refused, goes_on, is_read, record_is, text_tells, width_refused}
use Rattle.base_csv.proofs.records.next_of.Goals as goal

abbrev rem : Bor (List ℕ) → Option (List ℕ)
rem s = Some s.now

pub returns-in-Ok-clause-record : goal.returns-in-Ok-clause-record
returns-in-Ok-clause-record c =
    let s = c.requires in
    let r = rw c.in-Ok-true.field-0-test at (c.in-Ok-true.ensures.reads s.trim s.ready) in
    ap (λ (f : List (List ℕ)). Some f) c.in-Ok.ensures.same ∙ record_is rem c.args.source.now c.args.read c.args.reader.now c.read_byte_record.new.self s (fields_of c.read_byte_record.new.row) r

pub returns-in-Ok-clause-stands : goal.returns-in-Ok-clause-stands
returns-in-Ok-clause-stands c =
    let s = c.requires in
    let r = rw c.in-Ok-true.field-0-test at (c.in-Ok-true.ensures.reads s.trim s.ready) in
    goes_on rem c.args.source.now c.args.read c.args.reader.now c.read_byte_record.new.self s (fields_of c.read_byte_record.new.row) r c.in-Ok.ensures.text (c.in-Ok-true.ensures.ready s.trim) c.in-Ok-true.ensures.flexible

pub returns-in-Err-text_of-clause-refused : goal.returns-in-Err-text_of-clause-refused
returns-in-Err-text_of-clause-refused c =
    let s = c.requires in
    let r = rw c.in-Ok-true.field-0-test at (c.in-Ok-true.ensures.reads s.trim s.ready) in
    text_tells rem c.args.source.now c.args.read c.args.reader.now c.read_byte_record.new.self s (fields_of c.read_byte_record.new.row) c.in-Err-text_of.fail r c.in-Err-text_of.ensures.bytes

pub returns-in-Ok-false-clause-refused : goal.returns-in-Ok-false-clause-refused
returns-in-Ok-false-clause-refused c =
    let s = c.requires in
    let r = rw c.in-Ok-false.field-0-test at (c.in-Ok-false.ensures.reads s.trim s.ready) in
    subst (TellsPlace c.args.source.now) (sym c.refusal.ensures)
    (empty_refused rem c.args.source.now c.args.read c.args.reader.now c.read_byte_record.new.self s (fields_of c.read_byte_record.new.row) r c.if-read-eq0.true)

pub returns-in-Ok-false-2-clause-record : goal.returns-in-Ok-false-2-clause-record
returns-in-Ok-false-2-clause-record c =
    let s = c.requires in
    let r = rw c.in-Ok-false.field-0-test at (c.in-Ok-false.ensures.reads s.trim s.ready) in
    (is_read rem c.args.source.now c.args.read c.args.reader.now c.read_byte_record.new.self s (fields_of c.read_byte_record.new.row) r c.if-read-eq0.false).0

pub returns-in-Ok-false-2-clause-accepted : goal.returns-in-Ok-false-2-clause-accepted
returns-in-Ok-false-2-clause-accepted c none =
    let s = c.requires in
    let r = rw c.in-Ok-false.field-0-test at (c.in-Ok-false.ensures.reads s.trim s.ready) in
    (is_read rem c.args.source.now c.args.read c.args.reader.now c.read_byte_record.new.self s (fields_of c.read_byte_record.new.row) r c.if-read-eq0.false).1

pub returns-in-Err-clause-refused : goal.returns-in-Err-clause-refused
returns-in-Err-clause-refused c =
    let s = c.requires in
    width_refused rem c.args.source.now c.args.read c.args.reader.now c.read_byte_record.new.self s (error_kind c.in-Err.error) c.width_fail.result (c.in-Err.ensures.why s.ready) c.width_fail.ensures
