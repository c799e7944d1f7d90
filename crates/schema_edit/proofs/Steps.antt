-- Steps of judging: what a rule that was tried says of all rules.
use Rattle.std.proofs.Common.{◌≡◌, ◌∙◌, ℕ, Bool, true, false, ◌&&◌, ◌||◌, ◌==◌, cond, List, [], ◌∷◌, map, Option, Some, None, refl, sym, ap}
use Rattle.std.specs.Prelude.{bytes_eq, codes}
use Rattle.std.specs.List.{list_any}
use Rattle.std.specs.Str.{chars}
use Rattle.base_lemmas.proofs.Bools.{by_answer as pick}
use Rattle.model.specs.declared.metadata_bodies.NewField.{NewField}
use Rattle.model.specs.declared.refusal.Refusal.{Refusal}
use Rattle.model.specs.declared.refusal.Refusal.TheVariants.{NameTaken}
use Rattle.model.specs.Fields.{same_name}
use Rattle.model.specs.Names.{taken}
use Rattle.model.specs.NewFields.{child_of, is_before, own_child, own_parent}
use Rattle.model.specs.Objects.{Numbered}
use Rattle.model.specs.Relationships.{parent_name}
use Rattle.model.specs.Rules.{MemberRules, Rule, first_refusal, refuse_if, rule_of}
use Rattle.model.specs.Tenant.{Field, Object, Tenant}
use Rattle.store_abstraction.specs.declared.layout.FieldPlace.{FieldPlace}
use Rattle.store_abstraction.specs.declared.layout.Layout.{Layout}
use Rattle.schema_edit.specs.Judging.{AreLayouts}
use Rattle.schema_edit.specs.inner.Fields.{Places}
use Rattle.schema_edit.specs.inner.Relations.{layout_by_name}
use Rattle.schema_edit.proofs.JudgedFields.{field_names}
use Rattle.schema_edit.proofs.Layouts.{names_are}

-- a layout's name is given as a text
pub at_name : (ls : List Layout) (a b : List ℕ) (x : Option Layout) → a ≡ b → layout_by_name ls a ≡ x → layout_by_name ls b ≡ x
at_name ls a b x e h = ap (layout_by_name ls) (sym e) ∙ h

-- ---- the rule of a member

-- the first of the rules, where the member has its name, and the others where it doesn't
pub rule_here : (name member : List ℕ) (rule : Rule) (more rules : MemberRules) → rules ≡ (name, rule) ∷ more → bytes_eq name member ≡ true → rule ≡ rule_of rules member
rule_here name member rule more rules is e = rw (is, e) refl

pub rule_there : (name member : List ℕ) (rule : Rule) (more rules : MemberRules) → rules ≡ (name, rule) ∷ more → bytes_eq name member ≡ false → rule_of more member ≡ rule_of rules member
rule_there name member rule more rules is e = rw (is, e) refl

-- ---- several rules

pub last_of_three : (a b c : Rule) → a ≡ None → b ≡ None → c ≡ first_refusal (a ∷ b ∷ c ∷ [])
last_of_three a b c ea eb = rw (ea, eb) (one_rule c)
  where
    one_rule : (r : Rule) → r ≡ first_refusal (r ∷ [])
    one_rule None = refl
    one_rule (Some x) = refl

pub second_of : (a b : Rule) → a ≡ None → b ≡ first_refusal (a ∷ b ∷ [])
second_of a b ea = rw ea (one_rule b)
  where
    one_rule : (r : Rule) → r ≡ first_refusal (r ∷ [])
    one_rule None = refl
    one_rule (Some x) = refl

pub middle_of : (a b c : Rule) (x : Refusal) → a ≡ None → b ≡ Some x → Some x ≡ first_refusal (a ∷ b ∷ c ∷ [])
middle_of a b c x ea eb = rw (ea, eb) refl

pub first_of_all : (a : Rule) (more : List Rule) (x : Refusal) → a ≡ Some x → Some x ≡ first_refusal (a ∷ more)
first_of_all a more x e = rw e refl

pub after_two : (a b : Rule) (more : List Rule) → a ≡ None → b ≡ None → first_refusal more ≡ first_refusal (a ∷ b ∷ more)
after_two a b more ea eb = rw (ea, eb) refl

-- ---- names

pub object_taken : (t : Tenant) (ls : List Layout) → AreLayouts t ls → (name : List ℕ)
    → refuse_if (list_any (same_name name) (map (λ (l : Layout). l.name) ls)) (NameTaken name) ≡ taken (map (λ (o : Object). o.name) t.objects) name
object_taken t ls h name = ap (λ (names : List (List ℕ)). refuse_if (list_any (same_name name) names) (NameTaken name)) (names_are t ls h)

pub field_taken : (t : Tenant) (o : Numbered) (ls : List Layout) (l : Layout) → Places t o ls l → (name : List ℕ)
    → refuse_if (list_any (same_name name) (map (λ (f : FieldPlace). f.name) l.fields)) (NameTaken name) ≡ taken (map (λ (f : Field). f.name) o.object.fields) name
field_taken t o ls l h name = ap (λ (names : List (List ℕ)). refuse_if (list_any (same_name name) names) (NameTaken name)) (field_names t o ls l h)

-- ---- a lookup to its own object

pub own_child_first : (n target : ℕ) (b : NewField) (name child : List ℕ) → child_of b.kind ≡ Some child → ((n == target) && is_before b.members (codes "type") (codes "name")) ≡ true
    → same_name name child ≡ list_any (same_name name) (own_child n target b)
own_child_first n target b name child e first = rw (first, e) (one (same_name name child))
  where
    one : (x : Bool) → x ≡ (x || false)
    one true = refl
    one false = refl

pub own_child_none : (n target : ℕ) (b : NewField) (name : List ℕ) → child_of b.kind ≡ None → ((n == target) && is_before b.members (codes "type") (codes "name")) ≡ true
    → false ≡ list_any (same_name name) (own_child n target b)
own_child_none n target b name e first = rw (first, e) refl

pub own_child_later : (n target : ℕ) (b : NewField) (name : List ℕ) → ((n == target) && is_before b.members (codes "type") (codes "name")) ≡ false
    → false ≡ list_any (same_name name) (own_child n target b)
own_child_later n target b name first = rw first refl

pub own_parent_first : (n target : ℕ) (b : NewField) (name : List ℕ) → ((n == target) && is_before b.members (codes "name") (codes "type")) ≡ true
    → same_name name (parent_name b.name) ≡ list_any (same_name name) (own_parent n target b)
own_parent_first n target b name first = rw first (one (same_name name (parent_name b.name)))
  where
    one : (x : Bool) → x ≡ (x || false)
    one true = refl
    one false = refl

pub own_parent_later : (n target : ℕ) (b : NewField) (name : List ℕ) → ((n == target) && is_before b.members (codes "name") (codes "type")) ≡ false
    → false ≡ list_any (same_name name) (own_parent n target b)
own_parent_later n target b name first = rw first refl

-- ---- words of bodies

pub name_text : chars (codes "name") ≡ codes "name"
unfolding chars
name_text = refl

pub type_text : chars (codes "type") ≡ codes "type"
unfolding chars
type_text = refl

pub field_text : chars (codes "field") ≡ codes "field"
unfolding chars
field_text = refl

pub child_text : chars (codes "child") ≡ codes "child"
unfolding chars
child_text = refl

-- a test of a text that is spelled so
pub spelled : (a b m : List ℕ) (v : Bool) → a ≡ b → v ≡ bytes_eq a m → bytes_eq b m ≡ v
spelled a b m v e h = ap (λ (x : List ℕ). bytes_eq x m) (sym e) ∙ sym h

pub first_is : (n target : ℕ) (members : List (List ℕ)) (a b c d : List ℕ) (v : Bool) → a ≡ c → b ≡ d → v ≡ ((n == target) && is_before members a b)
    → ((n == target) && is_before members c d) ≡ v
first_is n target members a b c d v e f h =
    ap (λ (x : List ℕ). (n == target) && is_before members x d) (sym e) ∙ ap (λ (x : List ℕ). (n == target) && is_before members a x) (sym f) ∙ sym h

-- the only rule refuses nothing
pub no_rule : (name member : List ℕ) (rule : Rule) → rule ≡ None → None ≡ rule_of ((name, rule) ∷ []) member
no_rule name member rule e = rw e (pick (bytes_eq name member) (λ b. None ≡ cond {A = Rule} b None None) (λ _. refl) (λ _. refl))

-- ---- one or the other

pub or_first : (a b x : Bool) → a ≡ true → x ≡ true → x ≡ (a || b)
or_first a b x e h = rw e h
