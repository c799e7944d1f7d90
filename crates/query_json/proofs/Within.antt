-- The members within another, as a row and as a list.
use Rattle.std.proofs.Common.{◌≡◌, ◌∙◌, ℕ, List, [], ◌∷◌, ◌++◌, map, Option, Some, None, refl, sym, ap}
use Rattle.std.specs.Prelude.{codes}
use Rattle.std.specs.Str.{encode_utf8_all}
use Rattle.base_json.specs.Printing.{printed_null, printed_text}
use Rattle.model.specs.Cases.{in_case}
use Rattle.model.specs.RowsJson.{member_json, object_json}
use Rattle.model.specs.declared.record.Record.{Record}
use mathlib.Core.Former.{Count}
use Rattle.query_plan.specs.declared.plan.Member.{Member, Parent, Parent', Row_of-Member, end_of-Member, more_of-Member, items-the_row-Member, items_hidden-the_row-Member-0}
use Rattle.query_plan.specs.Shown.{Shows, member_text, member_texts, type_and_address}
use Rattle.api_output.specs.Rows.{attributes_member, behind_commas}
use Rattle.api_output.proofs.Written.{after}
use Rattle.query_json.specs.row.inner.Members.{parent_text, record_at}
use Rattle.query_json.proofs.Pieces.{record_written}

abbrev row_of : Member → (n : Count) × Row_of-Member n
row_of (Parent' _ _ _ _ row) = (_, row)
row_of _ = (_, end_of-Member)

module _ (shows : Shows) (far : List (Option Record)) (r : Record) where
  in_row : (n : _) (row : Row_of-Member n) → member_texts shows far r row ≡ map (member_text shows far r) (items-the_row-Member n row)
  in_row n end_of-Member = refl
  in_row n (more_of-Member member rest) = ap (λ (ts : List (List ℕ)). member_text shows far r member ∷ ts) (in_row _ rest)

  -- a parent's text, by the list of its members
  pub text_of_parent : (name : List ℕ) (branch : ℕ) (object : List ℕ) (members : List Member)
      → member_text shows far r (Parent name branch object members) ≡ member_json name (in_case (record_at far branch) printed_null (parent_text shows far r object members))
  text_of_parent name branch object members =
      let row = row_of (Parent name branch object members) in
      ap (λ (ts : List (List ℕ)). member_json name (in_case (record_at far branch) printed_null (λ p. object_json (type_and_address object p.id ∷ ts))))
      (in_row row.0 row.1 ∙ ap (map (member_text shows far r)) (items_hidden-the_row-Member-0 members))

  -- there is no record
  pub null_written : (w0 w1 w2 : List ℕ) {name name0 : List ℕ} (branch : ℕ) (object : List ℕ) (members : List Member) {m : Member} → name0 ≡ name → m ≡ Parent name branch object members
      → record_at far branch ≡ None → w1 ≡ w0 ++ encode_utf8_all (44 ∷ (printed_text name0 ++ codes ":"))
      → w2 ≡ w1 ++ encode_utf8_all printed_null → w2 ≡ w0 ++ encode_utf8_all (44 ∷ member_text shows far r m)
  null_written w0 w1 w2 {name} {name0} branch object members {m} named is none e1 e2 =
      after w0 w1 w2 (44 ∷ (printed_text name0 ++ codes ":")) printed_null e1 e2
      ∙ ap (λ (n : List ℕ). w0 ++ encode_utf8_all (44 ∷ member_json n printed_null)) named
      ∙ ap (λ (o : Option Record). w0 ++ encode_utf8_all (44 ∷ member_json name (in_case o printed_null (parent_text shows far r object members)))) (sym none)
      ∙ ap (λ (t : List ℕ). w0 ++ encode_utf8_all (44 ∷ t)) (sym (text_of_parent name branch object members))
      ∙ ap (λ (k : Member). w0 ++ encode_utf8_all (44 ∷ member_text shows far r k)) (sym is)

  -- there is this one
  pub parent_written : (w0 w1 w2 w3 w4 : List ℕ) {name name0 object object0 : List ℕ} (branch : ℕ) {members members0 : List Member} {m : Member} (p : Record)
      → name0 ≡ name → object0 ≡ object → members0 ≡ members → m ≡ Parent name branch object members → record_at far branch ≡ Some p
      → w1 ≡ w0 ++ encode_utf8_all (44 ∷ (printed_text name0 ++ codes ":")) → w2 ≡ w1 ++ encode_utf8_all (123 ∷ attributes_member object0 p.id)
      → w3 ≡ w2 ++ encode_utf8_all (behind_commas (map (member_text shows far r) members0)) → w4 ≡ w3 ++ encode_utf8_all (125 ∷ [])
      → w4 ≡ w0 ++ encode_utf8_all (44 ∷ member_text shows far r m)
  parent_written w0 w1 w2 w3 w4 {name} {name0} {object} {object0} branch {members} {members0} {m} p named typed listed is found e1 e2 e3 e4 =
      let text = member_text shows far r in
      let whole = record_written w1 w2 w3 w4 (123 ∷ []) (attributes_member object0 p.id) (map text members0) e2 e3 e4 in
      after w0 w1 w4 (44 ∷ (printed_text name0 ++ codes ":")) (parent_text shows far r object0 members0 p) e1 whole
      ∙ ap (λ (n : List ℕ). w0 ++ encode_utf8_all (44 ∷ member_json n (parent_text shows far r object0 members0 p))) named
      ∙ ap (λ (o : List ℕ). w0 ++ encode_utf8_all (44 ∷ member_json name (parent_text shows far r o members0 p))) typed
      ∙ ap (λ (ms : List Member). w0 ++ encode_utf8_all (44 ∷ member_json name (parent_text shows far r object ms p))) listed
      ∙ ap (λ (o : Option Record). w0 ++ encode_utf8_all (44 ∷ member_json name (in_case o printed_null (parent_text shows far r object members)))) (sym found)
      ∙ ap (λ (t : List ℕ). w0 ++ encode_utf8_all (44 ∷ t)) (sym (text_of_parent name branch object members))
      ∙ ap (λ (k : Member). w0 ++ encode_utf8_all (44 ∷ text k)) (sym is)
