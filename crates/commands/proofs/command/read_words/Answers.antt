use Rattle.std.proofs.Common.{rules, None, Some, ap, refl, sym, ◌∙◌}
use Rattle.std.specs.Prelude.{codes, string_bytes}
use Rattle.std.proofs.lemmas.Slice.Eq.{bytes_eq-Decides}
use Rattle.commands.specs.Commands.{count_in, demo, export, load, most_connections, most_records, prints, records_in, serves}
use Rattle.commands.proofs.Counts.{answer_words, between, five_words, number_words}
use Rattle.commands.proofs.command.read_words.Goals as goal

pub returns-then-eq : goal.returns-then-eq
returns-then-eq c =
    let bytes = c.as_bytes in
    let name = c.as_slice in
    let same = (bytes_eq-Decides bytes.result.now name.result.now).0 (sym c.if-eq.ensures) in
    answer_words string_bytes c.args.words.now c.index-words-0.result (search rules) c.index-words-0.is (sym bytes.ensures.value ∙ same ∙ name.ensures)

pub returns-in-Some : goal.returns-in-Some
returns-in-Some c =
    let bytes = c.as_bytes-else-eq-3 in
    let name = c.as_slice-else-eq-3 in
    let same = (bytes_eq-Decides bytes.result.now name.result.now).0 (sym c.if-eq-4.ensures) in
    let counts = c.in-Some.ensures ∙ ap count_in c.as_str-then-eq-4.ensures.value in (
      (between 1 most_connections c.as_str-then-eq-4.result.now c.in-Some.count c.in-Some.ensures).0,
      number_words (codes "serve") serves count_in (λ w. refl) string_bytes c.args.words.now c.index-words-0-else-eq-3.result c.index-words-1-then-eq-4.result (Some c.in-Some.count) (search rules)
          c.index-words-0-else-eq-3.is c.index-words-1-then-eq-4.is (sym bytes.ensures.value ∙ same ∙ name.ensures) counts,
    )

pub returns-in-None : goal.returns-in-None
returns-in-None c =
    let bytes = c.as_bytes-else-eq-3 in
    let name = c.as_slice-else-eq-3 in
    let same = (bytes_eq-Decides bytes.result.now name.result.now).0 (sym c.if-eq-4.ensures) in
    number_words (codes "serve") serves count_in (λ w. refl) string_bytes c.args.words.now c.index-words-0-else-eq-3.result c.index-words-1-then-eq-4.result None (search rules)
    c.index-words-0-else-eq-3.is c.index-words-1-then-eq-4.is (sym bytes.ensures.value ∙ same ∙ name.ensures) (c.in-None.ensures ∙ ap count_in c.as_str-then-eq-4.ensures.value)

pub returns-in-Some-records_of : goal.returns-in-Some-records_of
returns-in-Some-records_of c =
    let bytes = c.as_bytes-else-eq-4 in
    let name = c.as_slice-else-eq-4 in
    let same = (bytes_eq-Decides bytes.result.now name.result.now).0 (sym c.if-eq-5.ensures) in
    let counts = c.in-Some-records_of.ensures ∙ ap records_in c.as_str-then-eq-5.ensures.value in (
      (between 0 most_records c.as_str-then-eq-5.result.now c.in-Some-records_of.count c.in-Some-records_of.ensures).1,
      number_words (codes "demo") (λ n. prints (demo n)) records_in (λ w. refl) string_bytes c.args.words.now c.index-words-0-else-eq-4.result c.index-words-1-then-eq-5.result (Some c.in-Some-records_of.count) (search rules)
          c.index-words-0-else-eq-4.is c.index-words-1-then-eq-5.is (sym bytes.ensures.value ∙ same ∙ name.ensures) counts,
    )

pub returns-in-None-records_of : goal.returns-in-None-records_of
returns-in-None-records_of c =
    let bytes = c.as_bytes-else-eq-4 in
    let name = c.as_slice-else-eq-4 in
    let same = (bytes_eq-Decides bytes.result.now name.result.now).0 (sym c.if-eq-5.ensures) in
    number_words (codes "demo") (λ n. prints (demo n)) records_in (λ w. refl) string_bytes c.args.words.now c.index-words-0-else-eq-4.result c.index-words-1-then-eq-5.result None (search rules)
    c.index-words-0-else-eq-4.is c.index-words-1-then-eq-5.is (sym bytes.ensures.value ∙ same ∙ name.ensures) (c.in-None-records_of.ensures ∙ ap records_in c.as_str-then-eq-5.ensures.value)

pub returns-then-eq-8 : goal.returns-then-eq-8
returns-then-eq-8 c =
    let bytes = c.as_bytes-in-5 in
    let name = c.as_slice-in-5 in
    let same = (bytes_eq-Decides bytes.result.now name.result.now).0 (sym c.if-eq-8.ensures) in
    five_words (codes "export") export (λ a b c d. refl) string_bytes c.args.words.now c.index-words-0-in-5.result c.index-words-1-then-eq-8.result c.index-words-2-then-eq-8.result c.index-words-3-then-eq-8.result c.index-words-4.result
    c.as_str-then-eq-8.result.now c.as_str-then-eq-8-2.result.now c.as_str-then-eq-8-3.result.now c.as_str-then-eq-8-4.result.now (search rules)
    c.index-words-0-in-5.is c.index-words-1-then-eq-8.is c.index-words-2-then-eq-8.is c.index-words-3-then-eq-8.is c.index-words-4.is (sym bytes.ensures.value ∙ same ∙ name.ensures)
    c.as_str-then-eq-8.ensures.value c.as_str-then-eq-8-2.ensures.value c.as_str-then-eq-8-3.ensures.value c.as_str-then-eq-8-4.ensures.value

pub returns-then-eq-9 : goal.returns-then-eq-9
returns-then-eq-9 c =
    let bytes = c.as_bytes-else-eq-8 in
    let name = c.as_slice-else-eq-8 in
    let same = (bytes_eq-Decides bytes.result.now name.result.now).0 (sym c.if-eq-9.ensures) in
    five_words (codes "load") load (λ a b c d. refl) string_bytes c.args.words.now c.index-words-0-else-eq-8.result c.index-words-1-then-eq-9.result c.index-words-2-then-eq-9.result c.index-words-3-then-eq-9.result c.index-words-4-then-eq-9.result
    c.as_str-then-eq-9.result.now c.as_str-then-eq-9-2.result.now c.as_str-then-eq-9-3.result.now c.as_str-then-eq-9-4.result.now (search rules)
    c.index-words-0-else-eq-8.is c.index-words-1-then-eq-9.is c.index-words-2-then-eq-9.is c.index-words-3-then-eq-9.is c.index-words-4-then-eq-9.is (sym bytes.ensures.value ∙ same ∙ name.ensures)
    c.as_str-then-eq-9.ensures.value c.as_str-then-eq-9-2.ensures.value c.as_str-then-eq-9-3.ensures.value c.as_str-then-eq-9-4.ensures.value
