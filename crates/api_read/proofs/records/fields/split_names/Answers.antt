use Rattle.std.proofs.Common.{◌≡◌, ◌++◌, ◌∙◌, List, ℕ, [], ◌∷◌, ap, sym}
use Rattle.std.proofs.lemmas.Iterator.{YieldsList-from_chars}
use Rattle.std.proofs.lemmas.Iterator.Consumers.{YieldsList-end}
use Rattle.std.proofs.lemmas.List.{map-id}
use Rattle.std.proofs.lemmas.Str.{IsUtf8-string_bytes, chars-nil}
use Rattle.std.specs.Str.{chars}
use Rattle.std.specs.String.{string_bytes}
use Rattle.form_urlencoded.specs.Form.{split}
use Rattle.api_read.proofs.ColumnsSplit.{comma_begins, none_yet, other_joins}
use Rattle.api_read.proofs.records.fields.split_names.Goals as goal

pub characters-init : goal.characters-init
characters-init c =
    ap (λ (names : List (List ℕ)). names ++ chars (string_bytes c.new-last.result) ∷ []) c.new-names.ensures
    ∙ ap (λ (bytes : List ℕ). chars bytes ∷ []) c.new-last.ensures.bytes ∙ none_yet

pub characters-preserved-then-c-eq44 : goal.characters-preserved-then-c-eq44
characters-preserved-then-c-eq44 c =
    comma_begins 44 c.in-Some.c c.characters.names c.push.new.self (chars (string_bytes c.characters.last)) (chars (string_bytes c.new-last-then-c-eq44.result)) c.characters.yielded
    c.characters.invariant
    (c.in_ok-push.ensures.ok ∙ ap (λ (x : List ℕ). c.characters.names ++ x ∷ []) c.from_string.ensures)
    (ap chars c.new-last-then-c-eq44.ensures.bytes ∙ chars-nil)
    c.if-c-eq44.true

pub characters-preserved : goal.characters-preserved
characters-preserved c =
    other_joins 44 c.in-Some.c c.characters.names (string_bytes c.characters.last) (string_bytes c.push-else-c-eq44.new.self) c.characters.yielded
    (IsUtf8-string_bytes c.characters.last) (IsUtf8-string_bytes c.push-else-c-eq44.new.self) c.characters.invariant c.in_ok-push-2.ensures.bytes c.if-c-eq44.false

pub returns : goal.returns
returns c =
    let t = YieldsList-end (YieldsList-from_chars c.args.text.now c.utf8.text cc) c.characters.yielded _ c.characters.yielded_by _ _ c.in-None.is c.next.ensures.steps in
    c.in_ok-push-3.ensures.ok ∙ ap (λ (x : List ℕ). c.characters.names ++ x ∷ []) c.from_string-2.ensures ∙ c.characters.invariant
    ∙ ap (split 44) (sym (map-id c.characters.yielded) ∙ t.0)
