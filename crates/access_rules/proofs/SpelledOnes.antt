-- The principals that a body spells: the rules of the members that spell them, and what a text that is no id names.
use Rattle.std.proofs.Common.{◌≡◌, ◌∙◌, ℕ, Bool, true, false, not, ◌||◌, cond, IsTrue, List, [], ◌∷◌, map, Option, Some, None, refl, sym, ap, bytes_eq, codes}
use Rattle.std.specs.Prelude.{is_none, is_some, unwrap_or}
use Rattle.std.specs.List.{list_any}
use Rattle.std.specs.Option.{option_map}
use Rattle.std.specs.Str.{chars}
use Rattle.std.proofs.lemmas.Slice.Eq.{bytes_eq-Decides}
use Rattle.base_value.specs.Id.{id_in, is_id}
use Rattle.model.specs.declared.people_bodies.PrincipalKind.{PrincipalKind}
use Rattle.model.specs.declared.people_bodies.PrincipalKind.TheVariants as kind
use Rattle.model.specs.declared.people_bodies.Spelled.{Spelled}
use Rattle.model.specs.declared.refusal.Refusal.TheVariants.{InvalidReference, MalformedId}
use Rattle.model.specs.Principals.{bad_id, is_there, kind_of, not_there, principal_of, spelled_id}
use Rattle.model.specs.Rules.{MemberRules, Rule, first_of, first_refusal, refuse_if, rule_of}
use Rattle.model.specs.Sound.{IsSound}
use Rattle.model.specs.Tenant.{Tenant}
use Rattle.store_abstraction.proofs.Names.{MakesIds}
use Rattle.access_rules.proofs.SharingFits.{principal_fits}

-- ---- the rules of two members

abbrev pub of_two : Rule → Rule → MemberRules
of_two a b = (codes "to", a) ∷ (codes "from", b) ∷ []

pub to_text : chars (codes "to") ≡ codes "to"
unfolding chars
to_text = refl

pub from_text : chars (codes "from") ≡ codes "from"
unfolding chars
from_text = refl

-- a test of the member against a text
pub is_to : (member : List ℕ) (v : Bool) → v ≡ bytes_eq (chars (codes "to")) member → bytes_eq (codes "to") member ≡ v
is_to member v h = ap (λ (x : List ℕ). bytes_eq x member) (sym to_text) ∙ sym h

pub is_from : (member : List ℕ) (v : Bool) → v ≡ bytes_eq (chars (codes "from")) member → bytes_eq (codes "from") member ≡ v
is_from member v h = ap (λ (x : List ℕ). bytes_eq x member) (sym from_text) ∙ sym h

module _ (a b : Rule) (member : List ℕ) where
  pub at_to : bytes_eq (codes "to") member ≡ true → rule_of (of_two a b) member ≡ a
  at_to e = ap (λ (x : Bool). cond x a (cond (bytes_eq (codes "from") member) b None)) e

  pub at_from : bytes_eq (codes "to") member ≡ false → bytes_eq (codes "from") member ≡ true → rule_of (of_two a b) member ≡ b
  at_from e f = ap (λ (x : Bool). cond x a (cond (bytes_eq (codes "from") member) b None)) e ∙ ap (λ (x : Bool). cond x b None) f

  pub at_none : bytes_eq (codes "to") member ≡ false → bytes_eq (codes "from") member ≡ false → rule_of (of_two a b) member ≡ None
  at_none e f = ap (λ (x : Bool). cond x a (cond (bytes_eq (codes "from") member) b None)) e ∙ ap (λ (x : Bool). cond x b None) f

-- ---- what is no id

no_id : is_id [] ≡ true → ⊥
no_id e = cc

names_nothing : MakesIds → (t : Tenant) → IsSound t → (k : PrincipalKind) → is_there t (kind_of k []) ≡ true → ⊥
names_nothing makes t s kind.User h = no_id (principal_fits makes t s (kind_of kind.User []) h)
names_nothing makes t s kind.Role h = no_id (principal_fits makes t s (kind_of kind.Role []) h)
names_nothing makes t s kind.Subordinates h = no_id (principal_fits makes t s (kind_of kind.Subordinates []) h)
names_nothing makes t s kind.Group h = no_id (principal_fits makes t s (kind_of kind.Group []) h)

pub is_absent : (b : Bool) (member name : List ℕ) → b ≡ false → name ≡ member → refuse_if (not b) (InvalidReference member) ≡ Some (InvalidReference name)
is_absent b member name e same = ap (λ (x : Bool). refuse_if (not x) (InvalidReference member)) e ∙ ap (λ (x : List ℕ). Some (InvalidReference x)) (sym same)

-- a text that is no id names nothing
pub spells_nothing : MakesIds → (t : Tenant) → IsSound t → (p : Spelled) (member name : List ℕ) → option_map (kind_of p.kind) (id_in p.text) ≡ None → name ≡ member
    → not_there t member (principal_of p) ≡ Some (InvalidReference name)
spells_nothing makes t s p member name e same = by (id_in p.text) refl e
  where
    by : (o : Option (List ℕ)) → id_in p.text ≡ o → option_map (kind_of p.kind) o ≡ None → not_there t member (principal_of p) ≡ Some (InvalidReference name)
    by (Some i) is e = absurd cc
    by None is e =
        let empty : spelled_id p.text ≡ [] = ap (λ (o : Option (List ℕ)). unwrap_or o []) is in
        is_absent (is_there t (principal_of p)) member name (ap (λ (i : List ℕ). is_there t (kind_of p.kind i)) empty ∙ nothing (is_there t (kind_of p.kind [])) refl) same
      where
        nothing : (b : Bool) → is_there t (kind_of p.kind []) ≡ b → is_there t (kind_of p.kind []) ≡ false
        nothing false h = h
        nothing true h = absurd (names_nothing makes t s p.kind h)

-- ---- what the body's members spell

-- no rule that is judged refuses
pub member_passes : (rule : List ℕ → Rule) (members : List (List ℕ)) (name : List ℕ) → first_of rule members ≡ None → list_any (bytes_eq name) members ≡ true → rule name ≡ None
member_passes rule [] name e h = absurd cc
member_passes rule (m ∷ members) name e h = by (λ e h. member_passes rule members name e h) (rule m) refl e (bytes_eq name m) refl h
  where
    by : (first_of rule members ≡ None → list_any (bytes_eq name) members ≡ true → rule name ≡ None)
        → (r : Rule) → rule m ≡ r → first_refusal (r ∷ map rule members) ≡ None → (b : Bool) → bytes_eq name m ≡ b → (b || list_any (bytes_eq name) members) ≡ true → rule name ≡ None
    by rest (Some x) is e b same h = absurd cc
    by rest None is e true same h = ap rule ((bytes_eq-Decides name m).0 same) ∙ is
    by rest None is e false same h = rest e h

pub is_spelled_id : (text : List ℕ) → bad_id text ≡ None → IsTrue (is_some (id_in text))
is_spelled_id text e = by (id_in text) refl
  where
    by : (o : Option (List ℕ)) → id_in text ≡ o → IsTrue (is_some (id_in text))
    by (Some i) is = ap is_some is
    by None is = absurd (refused (sym (ap (λ (o : Option (List ℕ)). refuse_if (is_none o) (MalformedId text)) is) ∙ e))
      where
        refused : ◌≡◌ {A = Rule} (Some (MalformedId text)) None → ⊥
        refused e = cc
