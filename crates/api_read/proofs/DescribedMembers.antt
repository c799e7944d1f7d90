-- Members that are put behind others, one after another.
use Rattle.std.proofs.Common.{◌≡◌, ◌∙◌, ℕ, Bool, List, [], ◌∷◌, ◌++◌, map, ap}
use Rattle.std.specs.Prelude.{codes}
use Rattle.std.proofs.lemmas.List.{append_assoc}
use Rattle.base_json.specs.declared.tree.Json.{Json}
use Rattle.base_json.specs.declared.tree.Member.{Member}
use Rattle.base_json_tree.specs.Words.{list, member, object, or_null, text, texts}
use Rattle.model_reads.specs.DescribeJson.{Described, field_json, picklist_json}
use Rattle.api_read.specs.inner.DescribedLayouts.{flag_members, head_members}

pub put_behind : (old before after new : List Member) (m : Member) → before ≡ old ++ new → after ≡ before ++ m ∷ [] → after ≡ old ++ (new ++ m ∷ [])
put_behind old before after new m first then = then ∙ ap (λ (ms : List Member). ms ++ m ∷ []) first ∙ append_assoc old new (m ∷ [])

pub head_of : (d : Described) (a : List Member) (name kind : List ℕ) (x y z : ℕ) → a ≡ head_members name kind x y z → name ≡ d.name → kind ≡ d.kind → x ≡ d.characters → y ≡ d.digits → z ≡ d.decimals
    → a ≡ head_members d.name d.kind d.characters d.digits d.decimals
head_of d a name kind x y z is first second third fourth fifth = is ∙ (λ i. head_members (first i) (second i) (third i) (fourth i) (fifth i))

pub flags_of : (d : Described) (a b : List Member) (nillable unique custom is_name createable updateable : Bool)
    → b ≡ a ++ flag_members nillable unique custom is_name createable updateable
    → nillable ≡ d.nillable → unique ≡ d.unique → custom ≡ d.custom → is_name ≡ d.is_name → createable ≡ d.createable → updateable ≡ d.updateable
    → b ≡ a ++ flag_members d.nillable d.unique d.custom d.is_name d.createable d.updateable
flags_of d a b nillable unique custom is_name createable updateable is first second third fourth fifth sixth =
    is ∙ (λ i. a ++ flag_members (first i) (second i) (third i) (fourth i) (fifth i) (sixth i))

-- a field's members, put one behind another, are those of what is said of it
pub field_value : (d : Described) (a b c e f : List Member) (v refers relationship values : Json)
    → a ≡ head_members d.name d.kind d.characters d.digits d.decimals
    → b ≡ a ++ flag_members d.nillable d.unique d.custom d.is_name d.createable d.updateable
    → c ≡ b ++ member (codes "referenceTo") refers ∷ []
    → e ≡ c ++ member (codes "relationshipName") relationship ∷ []
    → f ≡ e ++ member (codes "picklistValues") values ∷ []
    → v ≡ object f → refers ≡ texts d.refers → relationship ≡ or_null text d.relationship → values ≡ list (map picklist_json d.values) → v ≡ field_json d
field_value d a b c e f v refers relationship values head flags first second third whole one two three =
    let front = head_members d.name d.kind d.characters d.digits d.decimals ++ flag_members d.nillable d.unique d.custom d.is_name d.createable d.updateable in
    let make : Json → Json → Json → Json =
    λ r n p. object (front ++ (member (codes "referenceTo") r ∷ member (codes "relationshipName") n ∷ member (codes "picklistValues") p ∷ [])) in
    let all : f ≡ front ++ (member (codes "referenceTo") refers ∷ member (codes "relationshipName") relationship ∷ member (codes "picklistValues") values ∷ []) =
    third
    ∙ ap (λ (ms : List Member). ms ++ member (codes "picklistValues") values ∷ [])
    (second
    ∙ ap (λ (ms : List Member). ms ++ member (codes "relationshipName") relationship ∷ [])
    (first ∙ ap (λ (ms : List Member). ms ++ member (codes "referenceTo") refers ∷ [])
    (flags ∙ ap (λ (ms : List Member). ms ++ flag_members d.nillable d.unique d.custom d.is_name d.createable d.updateable) head))) in
    whole ∙ ap object all
    ∙ ap (λ (r : Json). make r relationship values) one
    ∙ ap (λ (n : Json). make (texts d.refers) n values) two
    ∙ ap (λ (p : Json). make (texts d.refers) (or_null text d.relationship) p) three
