-- The rows of validation rules: they fit their form, and what is read is what the tenant has.
use Rattle.std.proofs.Common.{◌≡◌, ◌⊎◌, inl, inr, ℕ, ◌<◌, ◌^◌, Bool, true, ◌||◌, cond, IsTrue, List, [], ◌∷◌, length, map, Option, Some, None, refl, sym, ap, subst, ◌∙◌, arith, bytes_eq, is_lt, nat_le}
use Rattle.std.specs.List.{AllByRecursion, list_any}
use Rattle.std.specs.Option.{option_and_then, option_map}
use Rattle.std.specs.Prelude.{is_some}
use Rattle.std.specs.Str.{all_scalars}
use Rattle.std.proofs.lemmas.Bool.Decides.{nat_tests}
use Rattle.std.proofs.lemmas.Option.{slice_get_within, same_Some as some_is}
use Rattle.std.proofs.lemmas.Slice.Eq.{bytes_eq-Decides}
use Rattle.std.proofs.lemmas.Bool.{and_parts as both}
use Rattle.base_lemmas.proofs.Bools.{same_both_ways as agree, by_answer as pick}
use Rattle.base_lemmas.proofs.Options.{option_map-compose as map_twice}
use Rattle.store_rows.specs.declared.validation.ValidationRow.{ValidationRow}
use Rattle.store_rows.specs.Forms.{FitsForm, row_bytes}
use Rattle.store_rows.specs.Keys.{Validation}
use Rattle.store_rows.specs.Reads.{MayStandAt}
use Rattle.store_rows.specs.Rows.{validation_form}
use Rattle.model.specs.Fields.{same_name}
use Rattle.model.specs.Membership.{Has}
use Rattle.model.specs.Names.{is_stem}
use Rattle.model.specs.Objects.{object_numbered}
use Rattle.model.specs.Ordered.{put_in}
use Rattle.model.specs.RuleFormulas.{name_cmp}
use Rattle.model.specs.Sound.{IsSound}
use Rattle.model.specs.SoundMetadata.{IsSoundValidation}
use Rattle.model.specs.Tenant as model
use Rattle.model.specs.Tenant.{Tenant, ValidationRule}
use Rattle.model.specs.ValidationRules.{with_validation_rule}
use Rattle.store_abstraction.specs.Metadata.{lower_bytes, named_so, validation_of}
use Rattle.store_abstraction.specs.Plan.{FitsPlan, OrgPlan}
use Rattle.store_abstraction.specs.Stands.{row_in}
use Rattle.store_abstraction.proofs.Found.{IsRowOf}
use Rattle.store_abstraction.proofs.MetadataRows.{sound_object}
use Rattle.store_abstraction.proofs.Names.{NamesAreShort, NamesAreTexts, name_fits}
use Rattle.store_abstraction.proofs.Spelled.{short_fits, stem_bytes, stem_encoded, stem_fits}
use Rattle.base_value.specs.Bytes.{IsBytes}
use Rattle.base_value.specs.Texts.{lower}

all_has : {X : Type 0} (P : X → Type 0) (xs : List X) (x : X) → AllByRecursion P xs → Has xs x → P x
all_has P [] x h m = absurd m
all_has P (y ∷ xs) x h (inl e) = subst P (sym e) h.0
all_has P (y ∷ xs) x h (inr m) = all_has P xs x h.1 m

-- the row of a sound object's rule
pub rule_fits : NamesAreTexts → NamesAreShort → (org : ℕ) (t : Tenant) (n : ℕ) (o : model.Object) (r : ValidationRule) → org < 2 ^ 32 → IsSound t → object_numbered t n ≡ Some o → Has o.validation_rules r
    → FitsForm validation_form (validation_of org n r)
rule_fits texts short org t n o r lo s e has =
    let so = sound_object t n o s e in
    let sr : IsSoundValidation r = all_has IsSoundValidation o.validation_rules r so.rules has in
    let there : n < length t.objects = slice_get_within t.objects n o e in
    let f = both (all_scalars r.formula) (nat_le (length r.formula) 4000) sr.formula in
    let few : nat_le (length r.formula) 4000 ≡ true = f.1 in (
      (lo, (tt, (omega (arith, there, s.metadata.few), stem_bytes r.name sr.name))),
      (stem_fits r.name sr.name, (short_fits r.formula (grind (arith, nat_tests)) f.0, name_fits texts short r.message sr.message)),
    )

-- ---- what is read

-- the rule that a name finds has it
named_found : (rules : List ValidationRule) (key : List ℕ) (r : ValidationRule) → named_so (λ x. x.name) rules key ≡ Some r → Has rules r × (lower_bytes r.name ≡ key)
named_found [] key r e = absurd cc
named_found (x ∷ rules) key r e =
    pick (bytes_eq (lower_bytes x.name) key) (λ b. bytes_eq (lower_bytes x.name) key ≡ b → cond b (Some x) (named_so (λ x. x.name) rules key) ≡ Some r → Has (x ∷ rules) r × (lower_bytes r.name ≡ key))
    (λ _ is g. let same : x ≡ r = some_is x r g in (inl (sym same), subst (λ (y : ValidationRule). lower_bytes y.name ≡ key) same ((bytes_eq-Decides (lower_bytes x.name) key).0 is)))
    (λ _ _ g. let more = named_found rules key r g in (inr more.0, more.1))
    refl
    e

-- the row of a rule, if there is one
abbrev pub rule_there : (org n : ℕ) → List ℕ → OrgPlan → Tenant → Option ValidationRow
rule_there org n key p t = option_map (validation_of org n) (option_and_then (λ o. named_so (λ r. r.name) o.validation_rules key) (object_numbered t n))

module _ (texts : NamesAreTexts) (short : NamesAreShort) where
  rule_may : (org n : ℕ) (key : List ℕ) (t : Tenant) → org < 2 ^ 32 → IsSound t → (o : Option model.Object) → object_numbered t n ≡ o
      → MayStandAt validation_form (org, (tt, (n, key))) (option_map (validation_of org n) (option_and_then (λ o. named_so (λ r. r.name) o.validation_rules key) o))
  rule_may org n key t lo s None e = tt
  rule_may org n key t lo s (Some o) e = by (named_so (λ r. r.name) o.validation_rules key) refl
    where
      by : (r : Option ValidationRule) → named_so (λ r. r.name) o.validation_rules key ≡ r → MayStandAt validation_form (org, (tt, (n, key))) (option_map (validation_of org n) r)
      by None g = tt
      by (Some r) g =
          let found = named_found o.validation_rules key r g in
          (ap (λ (k : List ℕ). (org, (tt, (n, k)))) found.1, rule_fits texts short org t n o r lo s e found.0)

  rule_rows_are : (org n : ℕ) (key : List ℕ) (p : OrgPlan) (t : Tenant) → row_in p t (Validation org n key) ≡ option_map (row_bytes validation_form) (rule_there org n key p t)
  unfolding row_in
  rule_rows_are org n key p t = map_twice (row_bytes validation_form) (validation_of org n) (option_and_then (λ o. named_so (λ r. r.name) o.validation_rules key) (object_numbered t n))

  pub rule_is_row : (org n : ℕ) (key : List ℕ) → org < 2 ^ 32 → n < 2 ^ 16 → IsBytes key → IsRowOf validation_form org (org, (tt, (n, key))) (rule_there org n key)
  rule_is_row org n key lo small bytes = record {
    owned = refl;
    fits = (lo, (tt, (small, bytes)));
    rows = rule_rows_are org n key;
    stands = λ p t s f. rule_may org n key t lo s (object_numbered t n) refl;
  }

-- ---- rules by their names in lower case

-- stems are one name exactly if they are the same in lower case, in UTF-8 too
same_lower : (a b : List ℕ) → is_stem a ≡ true → is_stem b ≡ true → bytes_eq (lower_bytes a) (lower_bytes b) ≡ same_name b a
same_lower a b ha hb =
    let ea = stem_encoded a ha in
    let eb = stem_encoded b hb in
    agree (bytes_eq (lower_bytes a) (lower_bytes b)) (same_name b a)
    (λ h. (bytes_eq-Decides (lower b) (lower a)).1 (sym eb ∙ sym ((bytes_eq-Decides (lower_bytes a) (lower_bytes b)).0 h) ∙ ea))
    (λ h. (bytes_eq-Decides (lower_bytes a) (lower_bytes b)).1 (ea ∙ sym ((bytes_eq-Decides (lower b) (lower a)).0 h) ∙ sym eb))

found_among : (name : List ℕ) → is_stem name ≡ true → (rules : List ValidationRule) → AllByRecursion IsSoundValidation rules
    → is_some (named_so (λ r. r.name) rules (lower_bytes name)) ≡ list_any (same_name name) (map (λ r. r.name) rules)
found_among name stem [] h = refl
found_among name stem (r ∷ rules) h =
    let more = found_among name stem rules h.1 in
    let here = same_lower r.name name h.0.name stem in
    subst (λ (b : Bool). is_some (cond b (Some r) (named_so (λ x. x.name) rules (lower_bytes name))) ≡ (same_name name r.name || list_any (same_name name) (map (λ x. x.name) rules))) (sym here)
    (pick (same_name name r.name) (λ b. is_some (cond b (Some r) (named_so (λ x. x.name) rules (lower_bytes name))) ≡ (b || list_any (same_name name) (map (λ x. x.name) rules)))
    (λ _. refl)
    (λ _. more))

pub rule_found : (t : Tenant) (n : ℕ) (o : model.Object) (name : List ℕ) → IsSound t → object_numbered t n ≡ Some o → IsTrue (is_stem name)
    → is_some (named_so (λ r. r.name) o.validation_rules (lower_bytes name)) ≡ list_any (same_name name) (map (λ r. r.name) o.validation_rules)
rule_found t n o name s e stem = found_among name stem o.validation_rules (sound_object t n o s e).rules

put_among : (r : ValidationRule) (rules : List ValidationRule) → named_so (λ x. x.name) rules (lower_bytes r.name) ≡ None
    → named_so (λ x. x.name) (put_in (λ a b. name_cmp a.name b.name) r rules) (lower_bytes r.name) ≡ Some r
put_among r [] none = rw ((bytes_eq-Decides (lower_bytes r.name) (lower_bytes r.name)).1 refl) refl
put_among r (x ∷ rules) none =
    let key = lower_bytes r.name in
    pick (bytes_eq (lower_bytes x.name) key) (λ b. bytes_eq (lower_bytes x.name) key ≡ b → cond b (Some x) (named_so (λ x. x.name) rules key) ≡ None → named_so (λ x. x.name) (put_in (λ a b. name_cmp a.name b.name) r (x ∷ rules)) key ≡ Some r)
    (λ _ _ g. absurd (some_none x g))
    (λ _ apart g.
    pick (is_lt (name_cmp r.name x.name)) (λ b. named_so (λ x. x.name) (cond b (r ∷ x ∷ rules) (x ∷ put_in (λ a b. name_cmp a.name b.name) r rules)) key ≡ Some r)
    (λ _. rw ((bytes_eq-Decides (lower_bytes r.name) (lower_bytes r.name)).1 refl) refl)
    (λ _. ap (λ (b : Bool). cond b (Some x) (named_so (λ x. x.name) (put_in (λ a b. name_cmp a.name b.name) r rules) key)) apart ∙ put_among r rules g))
    refl
    none
  where
    some_none : (x : ValidationRule) → ◌≡◌ {A = Option ValidationRule} (Some x) None → ⊥
    some_none x e = cc

pub rule_put : (r : ValidationRule) (o : model.Object) → named_so (λ x. x.name) o.validation_rules (lower_bytes r.name) ≡ None
    → named_so (λ x. x.name) (with_validation_rule r o).validation_rules (lower_bytes r.name) ≡ Some r
rule_put r o none = put_among r o.validation_rules none
