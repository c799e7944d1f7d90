-- What the form of each body gives.
use Rattle.std.proofs.Common.{◌≡◌, ℕ, Bool, true, false, not, ◌&&◌, ◌||◌, cond, List, [], ◌∷◌, ◌++◌, map, Option, Some, None, refl, ap, sym, subst, ◌∙◌, bytes_eq, codes}
use Rattle.std.specs.Prelude.{is_some, is_none, unwrap_or}
use Rattle.std.specs.Bool.{beq}
use Rattle.std.specs.Str.{all_scalars}
use Rattle.std.specs.List.{AllByRecursion, find, flat_map, list_all, list_any}
use Rattle.std.specs.Option.{option_map}
use Rattle.std.proofs.lemmas.Option.{same_Some as some_is}
use Rattle.std.proofs.lemmas.Bool.{and_from as both, or_left, or_right}
use Rattle.base_lemmas.proofs.Bools.{and_first as both_left, and_second as both_right}
use Rattle.base_lemmas.proofs.Texts.{same_from_bytes_eq as same_exact, bytes_eq-self as same_itself}
use Rattle.base_json.specs.Reading.{◌>>=◌}
use Rattle.base_json.specs.declared.tree.Json.{Json}
use Rattle.base_value.specs.Texts.{texts_differ}
use Rattle.base_value.specs.Types.{is_reference, is_type}
use Rattle.base_value.specs.declared.sharing.Access.{Access}
use Rattle.base_value.specs.declared.sharing.Level.{Level}
use Rattle.base_value.specs.declared.value.FieldType.{FieldType}
use Rattle.base_value.specs.declared.value.FieldType.TheVariants as type
use Rattle.model.specs.Cases.{in_case}
use Rattle.model.specs.Fields.{by_parent}
use Rattle.model_requests.specs.Forms.{accesses, all_names, as_access, field_request, master_form, master_member, object_change_request, object_request, share_request, sharing_rule_request, source_in, validation_request}
use Rattle.model.specs.TypeForms.{flags_suit}
use Rattle.model.specs.Members.{Body, all_there, as_text, as_truth, changing, entry_named, flag_in, formed, if_any, is_one_of, levels, list_in, member_names, object_in, principal_in, text_in, whole_in}
use Rattle.model.specs.declared.metadata_bodies.NewMaster.{NewMaster}
use Rattle.model.specs.declared.metadata_bodies.SpelledType.{SpelledType}
use Rattle.model.specs.declared.metadata_bodies.SpelledType.TheVariants.{Plain, LookupTo}
use Rattle.model.specs.Paths.{Asked}
use Rattle.model_requests.specs.PeopleForms.{retype_request}
use Rattle.model_requests.specs.Requests.{Request, adds_field}
use Rattle.model.specs.Retyping.{new_type}
use Rattle.model.specs.declared.sharing_bodies.SpelledSource.TheVariants.{Owner, Criteria}
use Rattle.model.specs.declared.sharing_bodies.SpelledSource.{SpelledSource}
use Rattle.model.specs.Sound.{is_name}
use Rattle.model.specs.SoundSharing.{is_grant}
use Rattle.model.specs.TypeForms.{deletions, in_bounds_type, lookup_type, number_type, picklist_type, simple_type, text_type, type_forms, type_member, type_of, where_so}
use Rattle.model_requests.specs.Fit.{IsFit}
use Rattle.model_invariant.specs.Fit.{has_member, has_source}
use Rattle.model_invariant.proofs.BodyTexts.{bound}
use Rattle.model_invariant.proofs.RuleTexts.{AreSpelled, formed_same, text_spelled}

-- ---- what is there
pub mapped : {X Y : Type 0} (o : Option X) (f : X → Y) (y : Y) → option_map f o ≡ Some y → (x : X) × (o ≡ Some x) × (f x ≡ y)
mapped None f y e = absurd cc
mapped (Some x) f y e = (x, refl, some_is (f x) y e)

pub where_is : {X : Type 0} (good : Bool) (x y : X) → where_so good x ≡ Some y → (good ≡ true) × (x ≡ y)
where_is true x y e = (refl, some_is x y e)
where_is false x y e = absurd cc

-- ---- entries and members
entry_all : {X : Type 0} (P : X → Type 0) (table : List (List ℕ × X)) (name : List ℕ) (v : X) → AllByRecursion (λ (x : List ℕ × X). P x.1) table → entry_named table name ≡ Some v → P v
entry_all P [] name v all e = absurd cc
entry_all P (x ∷ xs) name v all e = by (bytes_eq x.0 name) e (entry_all P xs name v all.1)
  where
    by : (b : Bool) → option_map (λ (x : List ℕ × _). x.1) (cond b (Some x) (find (λ x. bytes_eq x.0 name) xs)) ≡ Some v → (entry_named xs name ≡ Some v → P v) → P v
    by true e more = subst P (some_is x.1 v e) all.0
    by false e more = more e

entry_member : (b : Body) (name : List ℕ) (v : Json) → entry_named b name ≡ Some v → has_member (member_names b) name ≡ true
entry_member [] name v e = absurd cc
entry_member (m ∷ ms) name v e = by (bytes_eq m.0 name) refl e (entry_member ms name v)
  where
    by : (b : Bool) → bytes_eq m.0 name ≡ b → option_map (λ (x : List ℕ × Json). x.1) (cond b (Some m) (find (λ x. bytes_eq x.0 name) ms)) ≡ Some v → (entry_named ms name ≡ Some v → has_member (member_names ms) name ≡ true) → has_member (member_names (m ∷ ms)) name ≡ true
    by true w e more = or_left (bytes_eq name m.0) (has_member (member_names ms) name) (ap (λ (z : List ℕ). bytes_eq name z) (same_exact m.0 name w) ∙ same_itself name)
    by false w e more = or_right (bytes_eq name m.0) (has_member (member_names ms) name) (more e)

-- a body of a form has the members that it needs
formed_is : (needed optional : List (List ℕ)) (b c : Body) → formed needed optional b ≡ Some c → list_all (has_member (member_names c)) needed ≡ true
formed_is needed optional b c e =
    by (texts_differ (member_names b)) (list_all (is_one_of (needed ++ optional)) (member_names b)) (list_all (is_one_of (member_names b)) needed) refl e
  where
    by : (x y z : Bool) → list_all (is_one_of (member_names b)) needed ≡ z → cond (x && (y && z)) (Some b) None ≡ Some c → list_all (has_member (member_names c)) needed ≡ true
    by true true true w e = subst (λ (z : Body). list_all (has_member (member_names z)) needed ≡ true) (some_is b c e) w
    by true true false w e = absurd cc
    by true false z w e = absurd cc
    by false y z w e = absurd cc

-- ---- shares and sharing rules
level_fits : (name : List ℕ) (l : Level) → entry_named levels name ≡ Some l → is_grant l ≡ true
level_fits name l e = entry_all (λ l. is_grant l ≡ true) levels name l (refl, (refl, tt)) e

pub share_fits : (a : Asked) (body : Body) (x : Request) → share_request body ≡ Some x → IsFit a x
share_fits a body x e =
    let b = bound (formed (codes "record" ∷ codes "to" ∷ codes "level" ∷ []) [] body) _ x e in
    let item = bound (text_in b.0 (codes "record")) _ x b.2 in
    let p = bound (text_in b.0 (codes "to") >>= principal_in) _ x item.2 in
    let l = bound (text_in b.0 (codes "level") >>= entry_named levels) _ x p.2 in
    let named = bound (text_in b.0 (codes "level")) (entry_named levels) l.0 l.1 in
    subst (IsFit a) (some_is _ x l.2) (level_fits named.0 l.0 named.2)

source_fits : (b : Body) (s : SpelledSource) → AreSpelled b → source_in b ≡ Some s → has_source (member_names b) s ≡ true
source_fits b s spelled e = by (entry_named b (codes "from")) refl e
  where
    one : (c : Bool) (v : Json) → entry_named b (codes "from") ≡ Some v → cond c (option_map Owner (as_text v >>= principal_in)) None ≡ Some s → has_source (member_names b) s ≡ true
    one true v w e =
        let p = mapped (as_text v >>= principal_in) Owner s e in
        subst (λ (z : SpelledSource). has_source (member_names b) z ≡ true) p.2 (entry_member b (codes "from") v w)
    one false v w e = absurd cc

    by : (o : Option Json) → entry_named b (codes "from") ≡ o
        → in_case o (option_map Criteria (text_in b (codes "formula"))) (λ v. cond (is_none (entry_named b (codes "formula"))) (option_map Owner (as_text v >>= principal_in)) None) ≡ Some s
        → has_source (member_names b) s ≡ true
    by None w e = let t = mapped (text_in b (codes "formula")) Criteria s e in subst (λ (z : SpelledSource). has_source (member_names b) z ≡ true) t.2 (text_spelled b (codes "formula") t.0 spelled t.1)
    by (Some v) w e = one (is_none (entry_named b (codes "formula"))) v w e

pub rule_fits : (a : Asked) (body : Body) (x : Request) → AreSpelled body → sharing_rule_request body ≡ Some x → IsFit a x
rule_fits a body x spelled e =
    let b = bound (formed (codes "object" ∷ codes "name" ∷ codes "to" ∷ codes "level" ∷ []) (codes "from" ∷ codes "formula" ∷ []) body) _ x e in
    let object = bound (text_in b.0 (codes "object")) _ x b.2 in
    let name = bound (text_in b.0 (codes "name")) _ x object.2 in
    let p = bound (text_in b.0 (codes "to") >>= principal_in) _ x name.2 in
    let l = bound (text_in b.0 (codes "level") >>= entry_named levels) _ x p.2 in
    let named = bound (text_in b.0 (codes "level")) (entry_named levels) l.0 l.1 in
    let s = bound (source_in b.0) _ x l.2 in
    let value = bound (text_in b.0 (codes "to")) principal_in p.0 p.1 in
    let member = bound (entry_named b.0 (codes "to")) as_text value.0 value.1 in
    subst (IsFit a) (some_is _ x s.2)
    (both (is_grant l.0) (has_member (member_names b.0) (codes "to") && has_source (member_names b.0) s.0) (level_fits named.0 l.0 named.2)
    (both (has_member (member_names b.0) (codes "to")) (has_source (member_names b.0) s.0) (entry_member b.0 (codes "to") member.0 member.1) (source_fits b.0 s.0 (subst AreSpelled (formed_same (codes "object" ∷ codes "name" ∷ codes "to" ∷ codes "level" ∷ []) (codes "from" ∷ codes "formula" ∷ []) body b.0 b.1) spelled) s.1)))

-- ---- objects
any_before : (p : List ℕ → Bool) (xs ys : List (List ℕ)) → list_any p xs ≡ true → list_any p (xs ++ ys) ≡ true
any_before p [] ys h = absurd cc
any_before p (x ∷ xs) ys h = by (p x) h (any_before p xs ys)
  where
    by : (b : Bool) → (b || list_any p xs) ≡ true → (list_any p xs ≡ true → list_any p (xs ++ ys) ≡ true) → (b || list_any p (xs ++ ys)) ≡ true
    by true h more = refl
    by false h more = more h

any_behind : (p : List ℕ → Bool) (xs ys : List (List ℕ)) → list_any p ys ≡ true → list_any p (xs ++ ys) ≡ true
any_behind p [] ys h = h
any_behind p (x ∷ xs) ys h = or_right (p x) (list_any p (xs ++ ys)) (any_behind p xs ys h)

-- where a name is one of a list, what stands in its place is in the whole
in_place : (p : List ℕ → Bool) (make : List ℕ → List (List ℕ)) (name : List ℕ) (names : List (List ℕ)) → list_any p (make name) ≡ true → has_member names name ≡ true → list_any p (flat_map make names) ≡ true
in_place p make name [] good h = absurd cc
in_place p make name (x ∷ xs) good h = by (bytes_eq name x) refl h (in_place p make name xs good)
  where
    by : (b : Bool) → bytes_eq name x ≡ b → (b || has_member xs name) ≡ true → (has_member xs name ≡ true → list_any p (flat_map make xs) ≡ true) → list_any p (make x ++ flat_map make xs) ≡ true
    by true w h more = any_before p (make x) (flat_map make xs) (subst (λ (z : List ℕ). list_any p (make z) ≡ true) (same_exact name x w) good)
    by false w h more = any_behind p (make x) (flat_map make xs) (more h)

-- what stands for a member among all names
abbrev place_of : Body → List ℕ → List (List ℕ)
place_of b name = cond (bytes_eq name (codes "master")) (in_case (entry_named b name >>= object_in) [] member_names) (name ∷ [])

master_names : (b m : Body) (v : Json) (name : List ℕ) → entry_named b (codes "master") ≡ Some v → object_in v ≡ Some m → has_member (member_names m) name ≡ true → has_member (all_names b) name ≡ true
master_names b m v name e o h =
    let there : (entry_named b (codes "master") >>= object_in) ≡ Some m = ap (λ (z : Option Json). z >>= object_in) e ∙ o in
    in_place (bytes_eq name) (place_of b) (codes "master") (member_names b) (ap (λ (z : Option Body). has_member (in_case z [] member_names) name) there ∙ h) (entry_member b (codes "master") v e)

master_has : (mb : Body) (m : NewMaster) → master_form mb ≡ Some m → (has_member (member_names mb) (codes "field") ≡ true) × (has_member (member_names mb) (codes "child") ≡ true)
master_has mb m e =
    let b = bound (formed (codes "field" ∷ codes "parent" ∷ codes "child" ∷ []) [] mb) _ m e in
    let same = formed_same (codes "field" ∷ codes "parent" ∷ codes "child" ∷ []) [] mb b.0 b.1 in
    let needed = subst (λ (z : Body). list_all (has_member (member_names z)) (codes "field" ∷ codes "parent" ∷ codes "child" ∷ []) ≡ true) (sym same) (formed_is (codes "field" ∷ codes "parent" ∷ codes "child" ∷ []) [] mb b.0 b.1) in
    let f = has_member (member_names mb) (codes "field") in
    let p = has_member (member_names mb) (codes "parent") in
    let c = has_member (member_names mb) (codes "child") in
    (both_left f (p && (c && true)) needed, both_left c true (both_right p (c && true) (both_right f (p && (c && true)) needed)))
  where
    formed_same : (needed optional : List (List ℕ)) (b c : Body) → formed needed optional b ≡ Some c → b ≡ c
    formed_same needed optional b c e = by (texts_differ (member_names b) && (list_all (is_one_of (needed ++ optional)) (member_names b) && list_all (is_one_of (member_names b)) needed)) e
      where
        by : (x : Bool) → cond x (Some b) None ≡ Some c → b ≡ c
        by true e = some_is b c e
        by false e = absurd cc

beq_false : (x : Bool) → beq x false ≡ true → not x ≡ true
beq_false true e = absurd cc
beq_false false e = refl

beq_true : (x : Bool) → beq x true ≡ true → x ≡ true
beq_true true e = refl
beq_true false e = absurd cc

-- with a master nothing is said of the role hierarchy, and so it counts
unsaid : (said : Option Bool) → not (is_some said && true) ≡ true → unwrap_or said true ≡ true
unsaid None e = refl
unsaid (Some hierarchy) e = absurd cc

master_fits : (b : Body) (access : Access) (said : Option Bool) (master : Option NewMaster) → master_member b ≡ Some master → beq (by_parent access) (is_some master) ≡ true
    → not (is_some said && is_some master) ≡ true
    → in_case master (not (by_parent access)) (λ m. by_parent access && (unwrap_or said true && (has_member (all_names b) (codes "field") && has_member (all_names b) (codes "child")))) ≡ true
master_fits b access said None e h apart = beq_false (by_parent access) h
master_fits b access said (Some m) e h apart = by (entry_named b (codes "master")) refl e
  where
    by : (o : Option Json) → entry_named b (codes "master") ≡ o → in_case o (Some None) (λ v. option_map Some (object_in v >>= master_form)) ≡ Some (Some m)
        → (by_parent access && (unwrap_or said true && (has_member (all_names b) (codes "field") && has_member (all_names b) (codes "child")))) ≡ true
    by None w e = absurd cc
    by (Some v) w e =
        let made = mapped (object_in v >>= master_form) Some (Some m) e in
        let inner = bound (object_in v) master_form made.0 made.1 in
        let has = master_has inner.0 made.0 inner.2 in
        both (by_parent access) (unwrap_or said true && (has_member (all_names b) (codes "field") && has_member (all_names b) (codes "child"))) (beq_true (by_parent access) h)
        (both (unwrap_or said true) (has_member (all_names b) (codes "field") && has_member (all_names b) (codes "child")) (unsaid said apart)
        (both (has_member (all_names b) (codes "field")) (has_member (all_names b) (codes "child")) (master_names b inner.0 v (codes "field") w inner.1 has.0) (master_names b inner.0 v (codes "child") w inner.1 has.1)))

pub object_fits : (a : Asked) (body : Body) (x : Request) → object_request body ≡ Some x → IsFit a x
object_fits a body x e =
    let b = bound (formed (codes "name" ∷ codes "access" ∷ []) (codes "hierarchy" ∷ codes "master" ∷ []) body) _ x e in
    let name = bound (text_in b.0 (codes "name")) _ x b.2 in
    let access = bound (text_in b.0 (codes "access") >>= entry_named accesses) _ x name.2 in
    let said = bound (if_any as_truth b.0 (codes "hierarchy")) _ x access.2 in
    let master = bound (master_member b.0) _ x said.2 in
    let so = where_is (beq (by_parent access.0) (is_some master.0) && not (is_some said.0 && is_some master.0)) _ x master.2 in
    let member = bound (entry_named b.0 (codes "name")) as_text name.0 name.1 in
    let whole = in_case master.0 (not (by_parent access.0)) (λ m. by_parent access.0 && (unwrap_or said.0 true && (has_member (all_names b.0) (codes "field") && has_member (all_names b.0) (codes "child")))) in
    subst (IsFit a) so.1
    (both (has_member (all_names b.0) (codes "name")) whole
    (in_place (bytes_eq (codes "name")) (place_of b.0) (codes "name") (member_names b.0) refl (entry_member b.0 (codes "name") member.0 member.1))
    (master_fits b.0 access.0 said.0 master.0 master.1
    (both_left (beq (by_parent access.0) (is_some master.0)) (not (is_some said.0 && is_some master.0)) so.0)
    (both_right (beq (by_parent access.0) (is_some master.0)) (not (is_some said.0 && is_some master.0)) so.0)))

pub object_change_fits : (a : Asked) (object : List ℕ) (body : Body) (x : Request) → object_change_request object body ≡ Some x → IsFit a x
object_change_fits a object body x e =
    let b = bound (changing (codes "access" ∷ codes "hierarchy" ∷ []) body) _ x e in
    let access = bound (if_any as_access b.0 (codes "access")) _ x b.2 in
    let said = bound (if_any as_truth b.0 (codes "hierarchy")) _ x access.2 in
    let so = where_is (in_case access.0 true (λ a. not (by_parent a))) _ x said.2 in
    subst (IsFit a) so.1 so.0

pub validation_fits : (a : Asked) (body : Body) (x : Request) → AreSpelled body → validation_request body ≡ Some x → IsFit a x
validation_fits a body x spelled e =
    let b = bound (formed (codes "object" ∷ codes "name" ∷ codes "formula" ∷ codes "message" ∷ []) [] body) _ x e in
    let object = bound (text_in b.0 (codes "object")) _ x b.2 in
    let name = bound (text_in b.0 (codes "name")) _ x object.2 in
    let formula = bound (text_in b.0 (codes "formula")) _ x name.2 in
    let message = bound (text_in b.0 (codes "message")) _ x formula.2 in
    let so = where_is (is_name message.0) _ x message.2 in
    let same = formed_same (codes "object" ∷ codes "name" ∷ codes "formula" ∷ codes "message" ∷ []) [] body b.0 b.1 in
    subst (IsFit a) so.1 (both (is_name message.0) (all_scalars formula.0) so.0 (text_spelled b.0 (codes "formula") formula.0 (subst AreSpelled same spelled) formula.1))

-- ---- types: within their bounds, and no reference but a lookup
abbrev IsRead : SpelledType → Type 0
IsRead (Plain kind) = (is_type kind ≡ true) × (not (is_reference kind) ≡ true)
IsRead (LookupTo object o child) = Unit {0}

abbrev ReadsType : (Body → Option SpelledType) → Type 0
ReadsType form = (b : Body) (kind : SpelledType) → form b ≡ Some kind → IsRead kind

in_bounds : (k : FieldType) (kind : SpelledType) → not (is_reference k) ≡ true → in_bounds_type k ≡ Some kind → IsRead kind
in_bounds k kind h e = let so = where_is (is_type k) (Plain k) kind e in subst IsRead so.1 (so.0, h)

text_read : ReadsType text_type
text_read body kind e =
    let b = bound (formed (codes "kind" ∷ codes "length" ∷ []) [] body) _ kind e in
    let n = bound (whole_in b.0 (codes "length")) _ kind b.2 in
    in_bounds (type.Text n.0) kind refl n.2

number_read : ReadsType number_type
number_read body kind e =
    let b = bound (formed (codes "kind" ∷ codes "digits" ∷ codes "decimals" ∷ []) [] body) _ kind e in
    let digits = bound (whole_in b.0 (codes "digits")) _ kind b.2 in
    let decimals = bound (whole_in b.0 (codes "decimals")) _ kind digits.2 in
    in_bounds (type.Number digits.0 decimals.0) kind refl decimals.2

simple_read : (k : FieldType) → not (is_reference k) ≡ true → ReadsType (simple_type k)
simple_read k h body kind e = let b = bound (formed (codes "kind" ∷ []) [] body) _ kind e in in_bounds k kind h b.2

picklist_read : ReadsType picklist_type
picklist_read body kind e =
    let b = bound (formed (codes "kind" ∷ codes "values" ∷ []) [] body) _ kind e in
    let items = bound (list_in b.0 (codes "values")) _ kind b.2 in
    let values = bound (all_there (map as_text items.0)) _ kind items.2 in
    in_bounds (type.Picklist values.0) kind refl values.2

lookup_read : ReadsType lookup_type
lookup_read body kind e =
    let b = bound (formed (codes "kind" ∷ codes "object" ∷ codes "onDelete" ∷ codes "child" ∷ []) [] body) _ kind e in
    let object = bound (text_in b.0 (codes "object")) _ kind b.2 in
    let o = bound (text_in b.0 (codes "onDelete") >>= entry_named deletions) _ kind object.2 in
    let child = bound (text_in b.0 (codes "child")) _ kind o.2 in
    subst IsRead (some_is _ kind child.2) tt

type_read : (b : Body) (name : List ℕ) (kind : SpelledType) → type_member b name ≡ Some kind → IsRead kind
type_read b name kind e =
    let inner = bound (entry_named b name >>= object_in) type_of kind e in
    let form = bound (text_in inner.0 (codes "kind") >>= entry_named type_forms) _ kind inner.2 in
    let named = bound (text_in inner.0 (codes "kind")) (entry_named type_forms) form.0 form.1 in
    entry_all ReadsType type_forms named.0 form.0
    (text_read, (number_read, (simple_read type.Checkbox refl, (simple_read type.Day refl, (simple_read type.Moment refl, (picklist_read, (lookup_read, tt))))))) named.2 inner.0 kind form.2

pub retype_fits : (a : Asked) (body : Body) (x : Request) → retype_request body ≡ Some x → IsFit a x
retype_fits a body x e =
    let b = bound (formed (codes "object" ∷ codes "field" ∷ codes "type" ∷ []) [] body) _ x e in
    let object = bound (text_in b.0 (codes "object")) _ x b.2 in
    let field = bound (text_in b.0 (codes "field")) _ x object.2 in
    let kind = bound (type_member b.0 (codes "type")) _ x field.2 in
    subst (IsFit a) (some_is _ x kind.2) (by kind.0 (type_read b.0 (codes "type") kind.0 kind.1))
  where
    by : (kind : SpelledType) → IsRead kind → is_type (new_type kind) ≡ true
    by (Plain k) h = h.0
    by (LookupTo object o child) h = refl

-- ---- fields
pub field_fits : (a : Asked) (body : Body) (x : Request) → field_request body ≡ Some x → IsFit a x
field_fits a body x e =
    let b = bound (formed (codes "object" ∷ codes "name" ∷ codes "type" ∷ []) (codes "required" ∷ codes "unique" ∷ codes "indexed" ∷ []) body) _ x e in
    let object = bound (text_in b.0 (codes "object")) _ x b.2 in
    let name = bound (text_in b.0 (codes "name")) _ x object.2 in
    let kind = bound (type_member b.0 (codes "type")) _ x name.2 in
    let required = bound (flag_in b.0 (codes "required")) _ x kind.2 in
    let unique = bound (flag_in b.0 (codes "unique")) _ x required.2 in
    let indexed = bound (flag_in b.0 (codes "indexed")) _ x unique.2 in
    let so = where_is (flags_suit kind.0 required.0 unique.0 indexed.0) _ x indexed.2 in
    let called = bound (entry_named b.0 (codes "name")) as_text name.0 name.1 in
    let inner = bound (entry_named b.0 (codes "type") >>= object_in) type_of kind.0 kind.1 in
    let member = bound (entry_named b.0 (codes "type")) object_in inner.0 inner.1 in
    subst (IsFit a) so.1
    (by kind.0 (type_read b.0 (codes "type") kind.0 kind.1) (member_names b.0) object.0 name.0 required.0 unique.0 indexed.0 (entry_member b.0 (codes "name") called.0 called.1) (entry_member b.0 (codes "type") member.0 member.1) so.0)
  where
    by : (kind : SpelledType) → IsRead kind → (members : List (List ℕ)) (object name : List ℕ) (required unique indexed : Bool) → has_member members (codes "name") ≡ true → has_member members (codes "type") ≡ true
        → flags_suit kind required unique indexed ≡ true
        → IsFit a (adds_field (record { members = members; object = object; name = name; kind = kind; required = required; unique = unique; indexed = indexed }))
    by (Plain k) h members object name required unique indexed n t s =
        let flags = flags_suit (Plain k) required unique indexed in
        both (has_member members (codes "name")) (not (is_reference k) && (is_type k && flags)) n
        (both (not (is_reference k)) (is_type k && flags) h.1 (both (is_type k) flags h.0 s))
    by (LookupTo target o child) h members object name required unique indexed n t s =
        let flags = flags_suit (LookupTo target o child) required unique indexed in
        both (has_member members (codes "name")) (has_member members (codes "type") && flags) n
        (both (has_member members (codes "type")) flags t s)
