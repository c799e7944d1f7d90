-- What `demo` prints: what is seen of the change of a field's type, or the one line of a refusal.
-- What a demo comes to is in `cmd_demo` (`demo_outcome`).
use Rattle.std.specs.Prelude.{ℕ, List, ◌++◌, codes, Option, Some, None, Result, Ok, Err, pos}
use Rattle.std.specs.Fmt.{decimal}
use Rattle.model.specs.declared.refusal.Refusal.{Refusal}
use Rattle.cmd_demo.specs.Demos.{demo_outcome}
use Rattle.cmd_demo.specs.declared.show.Demo.{Demo}
use Rattle.commands.specs.Printed.{PrintoutText, refused}

-- ---- its lines

abbrev pub records_lines : (count : ℕ) → List ℕ
records_lines count = codes "records " ++ (decimal count ++ codes "\nfirst as text ")

abbrev pub number_or_none : Option ℕ → List ℕ
number_or_none (Some n) = decimal n
number_or_none None = codes "none"

abbrev pub steps_lines : (switched : Option ℕ) → (done : ℕ) → List ℕ
steps_lines switched done = codes "switched at step " ++ (number_or_none switched ++ (codes "\ndone at step " ++ (decimal done ++ codes "\nleast ")))

abbrev pub above_line : (above : ℕ) → List ℕ
above_line above = codes "above 500: " ++ (decimal above ++ codes "\n")

abbrev pub demo_text : (count : ℕ) → Demo → List ℕ
demo_text count d = records_lines count ++ (d.first ++ (steps_lines d.switched d.repeats ++ (d.least ++ above_line d.above)))

-- ---- the printout

abbrev pub demo_printout : (count : ℕ) → Result Demo Refusal → PrintoutText
demo_printout count (Ok d) = record { text = demo_text count d; status = 0 }
demo_printout count (Err why) = refused why

abbrev pub demo_printed : (count now : ℕ) → PrintoutText
demo_printed count now = demo_printout count (demo_outcome count (pos now))
