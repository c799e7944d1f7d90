use Rattle.std.proofs.Common.{◌∙◌, sym, refl, inr, []}
use Rattle.csv.specs.Reading.{Reached, strip_bom}
use Rattle.base_csv.proofs.records.Records.new.Goals as goal

pub invariant_of-result : goal.invariant_of-result
unfolding Reached
invariant_of-result c =
    let fr = c.from_reader-reader.ensures in
    let named = c.has_headers.ensures in
    record {
      failed = c.failure_at_start.ensures.marked;
      here = c.failure_at_start.ensures.first;
      ended = λ e. cc e;
      stands = λ e none. record {
        trim = rw named at fr.trim ∙ c.new.ensures.trim;
        ready = inr (inr (rw named at fr.has_headers, fr.headers));
        config = rw named at fr.config ∙ c.new.ensures.config;
        flexible = rw named at fr.flexible ∙ c.new.ensures.flexible;
        marks = c.failure_at_start.ensures.other none;
        all = [];
        number = refl;
        expected = fr.expected;
        fit = refl;
        rest = strip_bom c.args.source.now;
        left = fr.source;
        reached = (sym fr.state, refl);
      };
    }
