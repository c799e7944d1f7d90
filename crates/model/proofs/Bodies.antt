-- The bodies of refusals, as they are written.
use Rattle.std.proofs.Common.{◌≡◌, ℕ, List, [], ◌∷◌, ◌++◌, refl, sym, ap, ◌∙◌, append_assoc}
use Rattle.std.specs.Prelude.{codes}
use Rattle.std.specs.Char.{encode_utf8}
use Rattle.std.specs.Str.{chars}
use Rattle.base_json.specs.Printing.{escaped}
use Rattle.model.specs.Bodies.{body_of, quoted}

message_name : quoted (codes "message") ≡ codes "\"message\""
unfolding chars encode_utf8 escaped
message_name = refl

code_name : quoted (codes "errorCode") ≡ codes "\"errorCode\""
unfolding chars encode_utf8 escaped
code_name = refl

-- what is written: marks, a member, a comma, a member and marks
framed : (first second : List ℕ) → List ℕ
framed first second = (((((([] ++ 91 ∷ []) ++ 123 ∷ []) ++ first) ++ 44 ∷ []) ++ second) ++ 125 ∷ []) ++ 93 ∷ []

in_place : (front behind : List ℕ) → (((front ++ 44 ∷ []) ++ behind) ++ 125 ∷ []) ++ 93 ∷ [] ≡ front ++ (44 ∷ (behind ++ (125 ∷ 93 ∷ [])))
in_place front behind =
    append_assoc ((front ++ 44 ∷ []) ++ behind) (125 ∷ []) (93 ∷ []) ∙ append_assoc (front ++ 44 ∷ []) behind (125 ∷ 93 ∷ []) ∙ append_assoc front (44 ∷ []) (behind ++ (125 ∷ 93 ∷ []))

in_frame : (first second : List ℕ) → framed first second ≡ 91 ∷ 123 ∷ (first ++ (44 ∷ (second ++ (125 ∷ 93 ∷ []))))
unfolding framed
in_frame first second = in_place (91 ∷ 123 ∷ first) second

member : (name text : List ℕ) → List ℕ
member name text = name ++ (codes ":" ++ text)

-- the frame round members with these names
first_is : (message rest : List ℕ) → 91 ∷ 123 ∷ (member (codes "\"message\"") message ++ rest) ≡ codes "[{\"message\":" ++ (message ++ rest)
unfolding member
first_is message rest = refl

second_is : (code : List ℕ) → 44 ∷ (member (codes "\"errorCode\"") code ++ (125 ∷ 93 ∷ [])) ≡ codes ",\"errorCode\":" ++ (code ++ codes "}]")
unfolding member
second_is code = refl

grouped : (a b c d e : List ℕ) → a ++ (b ++ (c ++ (d ++ e))) ≡ a ++ b ++ c ++ d ++ e
grouped a b c d e = sym (append_assoc (a ++ b ++ c) d e ∙ append_assoc (a ++ b) c (d ++ e) ∙ append_assoc a b (c ++ (d ++ e)))

whole : (message code : List ℕ) → framed (member (quoted (codes "message")) (quoted message)) (member (quoted (codes "errorCode")) (quoted code)) ≡ body_of message code
unfolding body_of
whole message code =
    ap (λ (n : List ℕ). framed (member n (quoted message)) (member (quoted (codes "errorCode")) (quoted code))) message_name
    ∙ ap (λ (n : List ℕ). framed (member (codes "\"message\"") (quoted message)) (member n (quoted code))) code_name
    ∙ in_frame (member (codes "\"message\"") (quoted message)) (member (codes "\"errorCode\"") (quoted code))
    ∙ first_is (quoted message) (44 ∷ (member (codes "\"errorCode\"") (quoted code) ++ (125 ∷ 93 ∷ [])))
    ∙ ap (λ (rest : List ℕ). codes "[{\"message\":" ++ (quoted message ++ rest)) (second_is (quoted code))
    ∙ grouped (codes "[{\"message\":") (quoted message) (codes ",\"errorCode\":") (quoted code) (codes "}]")

pub body_written : (message code w0 w1 w2 w3 w4 w5 w6 w7 : List ℕ) → w0 ≡ [] → w1 ≡ w0 ++ 91 ∷ [] → w2 ≡ w1 ++ 123 ∷ []
    → w3 ≡ w2 ++ (quoted (codes "message") ++ (codes ":" ++ quoted message)) → w4 ≡ w3 ++ 44 ∷ []
    → w5 ≡ w4 ++ (quoted (codes "errorCode") ++ (codes ":" ++ quoted code)) → w6 ≡ w5 ++ 125 ∷ [] → w7 ≡ w6 ++ 93 ∷ [] → w7 ≡ body_of message code
unfolding framed member
body_written message code w0 w1 w2 w3 w4 w5 w6 w7 e0 e1 e2 e3 e4 e5 e6 e7 = by (member (quoted (codes "message")) (quoted message)) (member (quoted (codes "errorCode")) (quoted code)) e3 e5 ∙ whole message code
  where
    by : (first second : List ℕ) → w3 ≡ w2 ++ first → w5 ≡ w4 ++ second → w7 ≡ framed first second
    by first second e3 e5 = cc
