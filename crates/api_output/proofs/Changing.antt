-- How far the change of a field's type is, as it is written.
use Rattle.std.proofs.Common.{◌≡◌, ℕ, List, [], ◌∷◌, ◌++◌, Option, ap, ◌∙◌, append_assoc}
use Rattle.std.specs.Prelude.{codes}
use Rattle.std.specs.Str.{encode_utf8_all}
use Rattle.base_value.specs.declared.job.Outcome.{Outcome}
use Rattle.base_value.specs.declared.job.Phase.{Phase}
use Rattle.base_json.specs.Printing.{printed_text}
use Rattle.base_json.specs.Whole.{joined}
use Rattle.model.specs.Replies.{job_json}
use Rattle.model.specs.RowsJson.{member_json, object_json}
use Rattle.model.specs.Tenant.{Job, Tenant}
use Rattle.api_output.specs.States.{IsStateOf, changing_field, changing_object}
use Rattle.api_output.specs.inner.States.{place_members, progress_members, state_members}
use Rattle.api_output.proofs.Written.{after, in_object}

-- two members, with a comma between them
pub two : (w0 w1 w2 w3 a b : List ℕ) → w1 ≡ w0 ++ encode_utf8_all a → w2 ≡ w1 ++ encode_utf8_all (44 ∷ []) → w3 ≡ w2 ++ encode_utf8_all b
    → w3 ≡ w0 ++ encode_utf8_all (joined (a ∷ b ∷ []))
two w0 w1 w2 w3 a b e1 e2 e3 =
    after w0 w2 w3 (a ++ 44 ∷ []) b (after w0 w1 w2 a (44 ∷ []) e1 e2) e3 ∙ ap (λ (t : List ℕ). w0 ++ encode_utf8_all t) (append_assoc a (44 ∷ []) b)

-- more of them behind a comma
behind : (a b far : List ℕ) → ((a ++ 44 ∷ b) ++ 44 ∷ []) ++ far ≡ a ++ 44 ∷ (b ++ 44 ∷ far)
behind a b far = append_assoc (a ++ 44 ∷ b) (44 ∷ []) far ∙ append_assoc a (44 ∷ b) (44 ∷ far)

-- all members, in their braces
pub state_written : (w0 w1 w2 w3 w4 w5 object field : List ℕ) (p : Phase) (x : Outcome) (r : Option (List ℕ))
    → w1 ≡ w0 ++ encode_utf8_all (123 ∷ []) → w2 ≡ w1 ++ encode_utf8_all (joined (place_members object field)) → w3 ≡ w2 ++ encode_utf8_all (44 ∷ [])
    → w4 ≡ w3 ++ encode_utf8_all (joined (progress_members p x r)) → w5 ≡ w4 ++ encode_utf8_all (125 ∷ [])
    → w5 ≡ w0 ++ encode_utf8_all (object_json (state_members object field p x r))
state_written w0 w1 w2 w3 w4 w5 object field p x r e1 e2 e3 e4 e5 =
    let named = joined (place_members object field) in
    let far = joined (progress_members p x r) in
    let comma = after w1 w2 w3 named (44 ∷ []) e2 e3 in
    let last = after w1 w3 w4 (named ++ 44 ∷ []) far comma e4 in
    let shape : (named ++ 44 ∷ []) ++ far ≡ joined (state_members object field p x r) =
    behind (member_json (codes "object") (printed_text object)) (member_json (codes "field") (printed_text field)) far in
    in_object w0 w1 w4 w5 (state_members object field p x r) e1 (last ∙ ap (λ (t : List ℕ). w1 ++ encode_utf8_all t) shape) e5

-- the members are those of the change, by its parts
members_of : (t : Tenant) (j : Job) (object field : List ℕ) (p : Phase) (x : Outcome) (r : Option (List ℕ)) → IsStateOf t j object field p x r
    → state_members object field p x r ≡ state_members (changing_object t j) (changing_field t j) j.phase j.outcome j.failed
members_of t j object field p x r is =
    ap (λ (v : List ℕ). state_members v field p x r) is.object
    ∙ ap (λ (v : List ℕ). state_members (changing_object t j) v p x r) is.field
    ∙ ap (λ (v : Phase). state_members (changing_object t j) (changing_field t j) v x r) is.phase
    ∙ ap (λ (v : Outcome). state_members (changing_object t j) (changing_field t j) j.phase v r) is.outcome
    ∙ ap (λ (v : Option (List ℕ)). state_members (changing_object t j) (changing_field t j) j.phase j.outcome v) is.failed

pub body_of_state : (w0 w1 body object field : List ℕ) (p : Phase) (x : Outcome) (r : Option (List ℕ)) → w0 ≡ []
    → w1 ≡ w0 ++ encode_utf8_all (object_json (state_members object field p x r)) → body ≡ w1
    → (t : Tenant) (j : Job) → IsStateOf t j object field p x r → body ≡ encode_utf8_all (job_json t j)
body_of_state w0 w1 body object field p x r none e same t j is =
    same ∙ e ∙ ap (λ (w : List ℕ). w ++ encode_utf8_all (object_json (state_members object field p x r))) none
    ∙ ap (λ (ms : List (List ℕ)). encode_utf8_all (object_json ms)) (members_of t j object field p x r is)
