-- The texts of rules spell formulas, and none names a field whose values are being copied: what keeps this so.
use Rattle.std.proofs.Common.{unwrap_or, ◌≡◌, ℕ, zero, suc, Bool, true, false, not, ◌&&◌, ◌||◌, ◌==◌, cond, List, [], ◌∷◌, length, filter, Option, Some, None, refl, ap, sym, subst, ◌∙◌, eq-eqb, slice_get, Ordering, nat_lt}
use Rattle.std.specs.Prelude.{Result, Ok, Err, is_ok, IsTrue, IfSome}
use Rattle.std.specs.List.{list_all, list_any}
use Rattle.std.proofs.lemmas.Bool.{eqb-true, and_from as both}
use Rattle.std.proofs.lemmas.Option.{same_Some as some_is}
use Rattle.base_lemmas.proofs.Bools.{and_first as both_left, and_second as both_right, by_answer as pick}
use Rattle.base_value.specs.declared.sharing.Access.{Access}
use Rattle.formula.specs.declared.formula.Formula.{Formula}
use Rattle.model.specs.Limits.{formula_limit}
use Rattle.model.specs.declared.refusal.Refusal.TheVariants as refusal
use Rattle.model.specs.Cases.{in_case}
use Rattle.model.specs.Fields.{is_detail, same_name}
use Rattle.model.specs.declared.metadata_bodies.ObjectChange.{ObjectChange}
use Rattle.model.specs.Metadata.{changed_object, set_object}
use Rattle.model.specs.Objects.{Numbered, change_at, with_object_changed}
use Rattle.model.specs.Ordered.{put_in}
use Rattle.model.specs.Retyping.{source_uses, uses}
use Rattle.model.specs.RuleFormulas.{busy, formula_of, is_copy, malformed, name_cmp, names_field}
use Rattle.model.specs.Rules.{refuse_if}
use Rattle.model.specs.declared.sharing_bodies.SpelledSource.TheVariants.{Owner, Criteria}
use Rattle.model.specs.declared.sharing_bodies.NewSharingRule.{NewSharingRule}
use Rattle.model.specs.declared.sharing_bodies.SpelledSource.{SpelledSource}
use Rattle.model.specs.SharingRules.{add_sharing_rule, new_rule, new_sharing_rule_rules, remove_sharing_rule, source_formula, source_of, with_rule}
use Rattle.model.specs.SoundFormulas.{AreFormulasSound, HasSoundFormulas, criteria_read, is_unnamed, source_reads, validations_read}
use Rattle.model.specs.Tenant.{Job, Object, SharingRule, Source, owned, meets, Tenant, ValidationRule}
use Rattle.model.specs.declared.metadata_bodies.NewValidationRule.{NewValidationRule}
use Rattle.model.specs.ValidationRules.{add_validation_rule, new_validation_rule_rules, remove_validation_rule, validation_of, with_validation_rule, without_validation_rule}
use Rattle.model.specs.Verdict.{accept, done, judged}
use Rattle.model_invariant.specs.rule_text.Reading.{ReadsByFields}
use Rattle.model_invariant.proofs.Parts.{list_all_kept, list_all_more, list_all_put, unrefused}
use Rattle.model_invariant.proofs.ObjectsSound.{changed_at, or_not, with_one, without_one}
use Rattle.model_invariant.proofs.PeopleSound.{when_judged}
use Rattle.model_invariant.proofs.SharingSound.{when_object}

formed : (f : Result Formula ℕ) → malformed f ≡ None → is_ok f ≡ true
formed (Ok f) e = refl
formed (Err place) e = absurd cc

-- a sharing rule of the object doesn't name the job's field, and a validation rule doesn't
abbrev pub free : Job → Object → SharingRule → Bool
free j x r = not ((r.object == j.object) && source_uses x j.field r.source)

abbrev pub free_rule : Job → Object → ValidationRule → Bool
free_rule j x r = not (uses x false j.field r.formula)

-- the job's field is named by none, while values are copied
abbrev pub IsUnnamed : List Object → List SharingRule → Option Job → Type 0
IsUnnamed os rules job = IfSome job (λ j. IsTrue (not (is_copy j.phase) || in_case (slice_get os j.object) true (is_unnamed rules j)))

-- with other sharing rules
unnamed_with : (os : List Object) (old new : List SharingRule) (job : Option Job) → IsUnnamed os old job
    → ((j : Job) → job ≡ Some j → is_copy j.phase ≡ true → (x : Object) → slice_get os j.object ≡ Some x → list_all (free j x) old ≡ true → list_all (free j x) new ≡ true)
    → IsUnnamed os new job
unnamed_with os old new None h g = tt
unnamed_with os old new (Some j) h g = by (is_copy j.phase) refl h
  where
    by : (b : Bool) → is_copy j.phase ≡ b → (not b || in_case (slice_get os j.object) true (is_unnamed old j)) ≡ true → (not b || in_case (slice_get os j.object) true (is_unnamed new j)) ≡ true
    by false e h = refl
    by true e h = found (slice_get os j.object) refl h
      where
        found : (x : Option Object) → slice_get os j.object ≡ x → in_case x true (is_unnamed old j) ≡ true → in_case x true (is_unnamed new j) ≡ true
        found None w h = refl
        found (Some x) w h =
            let first = list_all (free_rule j x) x.validation_rules in
            both first (list_all (free j x) new) (both_left first (list_all (free j x) old) h) (g j refl e x w (both_right first (list_all (free j x) old) h))

-- ---- a new sharing rule
new_reads : (o : Object) (source : SpelledSource) → in_case (source_formula o source) None malformed ≡ None → source_reads (source_of source) o ≡ true
new_reads o (Owner p) e = refl
new_reads o (Criteria text) e = formed (formula_of o true text) e

-- the formula of a rule that isn't refused doesn't name the job's field
not_busy : (t : Tenant) (n : ℕ) (f : Result Formula ℕ) → busy t n f ≡ None → (j : Job) → t.job ≡ Some j → is_copy j.phase ≡ true → j.object ≡ n → names_field (suc j.field) f ≡ false
not_busy t n f e j is copy same =
    parts (is_copy j.phase) (j.object == n) (names_field (suc j.field) f) copy (eq-eqb j.object n same)
    (unrefused (is_copy j.phase && ((j.object == n) && names_field (suc j.field) f)) refusal.JobBusy
    (subst (λ (z : Option Job). in_case z None (λ j. refuse_if (is_copy j.phase && ((j.object == n) && names_field (suc j.field) f)) refusal.JobBusy) ≡ None) is e))
  where
    parts : (a b c : Bool) → a ≡ true → b ≡ true → (a && (b && c)) ≡ false → c ≡ false
    parts true true c p q h = h
    parts true false c p q h = absurd cc
    parts false b c p q h = absurd cc

new_free : (t : Tenant) (o : Numbered) → slice_get t.objects o.number ≡ Some o.object → (source : SpelledSource) → in_case (source_formula o.object source) None (busy t o.number) ≡ None
    → (j : Job) → t.job ≡ Some j → is_copy j.phase ≡ true → (x : Object) → slice_get t.objects j.object ≡ Some x → not ((o.number == j.object) && source_uses x j.field (source_of source)) ≡ true
new_free t o at (Owner p) e j is copy x w = pick (o.number == j.object) (λ b. not (b && false) ≡ true) (λ _. refl) (λ _. refl)
new_free t o at (Criteria text) e j is copy x w =
    pick (o.number == j.object) (λ b. not (b && names_field (suc j.field) (formula_of x true text)) ≡ true)
    (λ h.
    let same : o.number ≡ j.object = eqb-true o.number j.object h in
    let object : o.object ≡ x = some_is o.object x (sym at ∙ ap (slice_get t.objects) same ∙ w) in
    ap (λ (z : Object). not (names_field (suc j.field) (formula_of z true text))) (sym object) ∙ ap not (not_busy t o.number (formula_of o.object true text) e j is copy (sym same)))
    (λ _. refl)

pub add_rule_formulas : (t : Tenant) (b : NewSharingRule) → AreFormulasSound t → AreFormulasSound (add_sharing_rule t b).tenant
add_rule_formulas t b s =
    when_object AreFormulasSound t b.object (λ o. judged t (new_sharing_rule_rules t o b) (accept done (with_rule (new_rule t o.number b) t))) s (λ o at.
    when_judged AreFormulasSound t (new_sharing_rule_rules t o b) (accept done (with_rule (new_rule t o.number b) t)) s (λ h.
    let r = new_rule t o.number b in
    let order : SharingRule → SharingRule → Ordering = λ a b. name_cmp a.name b.name in
    record {
      validations = s.validations;
      criteria =
          list_all_put (criteria_read t.objects) order r t.sharing_rules s.criteria
          (ap (λ z. in_case z false (source_reads (source_of b.source))) at ∙ new_reads o.object b.source h.1.1.1.1.1.0);
      unnamed = unnamed_with t.objects t.sharing_rules (put_in order r t.sharing_rules) t.job s.unnamed (λ j is copy x w old.
          list_all_put (free j x) order r t.sharing_rules old (new_free t o at b.source h.1.1.1.1.1.1.0 j is copy x w));
    }))

pub remove_rule_formulas : (t : Tenant) (name : List ℕ) → AreFormulasSound t → AreFormulasSound (remove_sharing_rule t name).tenant
remove_rule_formulas t name s =
    let p : SharingRule → Bool = λ r. not (same_name r.name name) in
    when_judged AreFormulasSound t (refuse_if (not (list_any (λ r. same_name r.name name) t.sharing_rules)) refusal.NotFound ∷ []) (accept done (record t { sharing_rules = filter p t.sharing_rules })) s (λ h.
    record {
      validations = s.validations;
      criteria = list_all_kept (criteria_read t.objects) p t.sharing_rules s.criteria;
      unnamed = unnamed_with t.objects t.sharing_rules (filter p t.sharing_rules) t.job s.unnamed (λ j is copy x w old. list_all_kept (free j x) p t.sharing_rules old);
    })

-- ---- another access or other validation rules of one object
module _ (law : ReadsByFields) (A : Object → Access) (H : Object → Bool) (R : Object → List ValidationRule) where
  same_formula : (b : Bool) (x : Object) (c : Bool) (text : List ℕ) → formula_of (or_not A H R b x) c text ≡ formula_of x c text
  unfolding formula_of
  same_formula b x c text = ap (λ z. cond (nat_lt formula_limit (length text)) (Err 0) z) (law (or_not A H R b x) x refl c text)

  abbrev spells : Object → ValidationRule → Bool
  spells x r = is_ok (formula_of x false r.formula)

  validations_changed : (n : ℕ) (os : List Object) → ((x : Object) → slice_get os n ≡ Some x → list_all (spells x) x.validation_rules ≡ true → list_all (spells x) (R x) ≡ true)
      → list_all validations_read os ≡ true → list_all validations_read (change_at n (λ o. record o { access = A o; hierarchy = H o; validation_rules = R o }) os) ≡ true
  validations_changed n [] g h = refl
  validations_changed zero (x ∷ os) g h =
      let now : Object = record x { access = A x; hierarchy = H x; validation_rules = R x } in
      both (validations_read now) (list_all validations_read os)
      (list_all_more (spells x) (spells now) (λ r e. ap (λ (z : Result Formula ℕ). is_ok z) (same_formula true x false r.formula) ∙ e) (R x) (g x refl (both_left (validations_read x) (list_all validations_read os) h)))
      (both_right (validations_read x) (list_all validations_read os) h)
  validations_changed (suc n) (x ∷ os) g h =
      both (validations_read x) (list_all validations_read (change_at n (λ o. record o { access = A o; hierarchy = H o; validation_rules = R o }) os))
      (both_left (validations_read x) (list_all validations_read os) h) (validations_changed n os g (both_right (validations_read x) (list_all validations_read os) h))

  source_changed : (b : Bool) (x : Object) (source : Source) → source_reads source (or_not A H R b x) ≡ source_reads source x
  source_changed b x (owned p) = refl
  source_changed b x (meets text) = ap (λ (z : Result Formula ℕ). is_ok z) (same_formula b x true text)

  uses_changed : (b : Bool) (x : Object) (place : ℕ) (source : Source) → source_uses (or_not A H R b x) place source ≡ source_uses x place source
  uses_changed b x place (owned p) = refl
  uses_changed b x place (meets text) = ap (names_field (suc place)) (same_formula b x true text)

  module _ (t : Tenant) (s : AreFormulasSound t) (n : ℕ) where
    abbrev now : List Object
    now = change_at n (λ o. record o { access = A o; hierarchy = H o; validation_rules = R o }) t.objects

    criteria_changed : (r : SharingRule) → criteria_read t.objects r ≡ true → criteria_read now r ≡ true
    criteria_changed r h = by (slice_get t.objects r.object) refl h
      where
        by : (x : Option Object) → slice_get t.objects r.object ≡ x → in_case x false (source_reads r.source) ≡ true → criteria_read now r ≡ true
        by None w h = absurd cc
        by (Some x) w h = let c = changed_at A H R n t.objects r.object x w in ap (λ z. in_case z false (source_reads r.source)) c.1 ∙ source_changed c.0 x r.source ∙ h

    pub object_formulas : ((x : Object) → slice_get t.objects n ≡ Some x → list_all (spells x) x.validation_rules ≡ true → list_all (spells x) (R x) ≡ true)
        → ((j : Job) → t.job ≡ Some j → is_copy j.phase ≡ true → (x : Object) → slice_get t.objects j.object ≡ Some x → j.object ≡ n → list_all (free_rule j x) x.validation_rules ≡ true → list_all (free_rule j x) (R x) ≡ true)
        → HasSoundFormulas now t.sharing_rules t.job
    object_formulas good good_free =
        record {
          validations = validations_changed n t.objects good s.validations;
          criteria = list_all_more (criteria_read t.objects) (criteria_read now) criteria_changed t.sharing_rules s.criteria;
          unnamed = job_free t.job refl s.unnamed;
        }
      where
        still : (j : Job) (x : Object) (b : Bool) → (b ≡ true → list_all (free_rule j x) x.validation_rules ≡ true → list_all (free_rule j x) (R x) ≡ true) → is_unnamed t.sharing_rules j x ≡ true → is_unnamed t.sharing_rules j (or_not A H R b x) ≡ true
        still j x b g h =
            let y = or_not A H R b x in
            let first = list_all (free_rule j x) x.validation_rules in
            let second = list_all (free j x) t.sharing_rules in
            both (list_all (free_rule j y) y.validation_rules) (list_all (free j y) t.sharing_rules)
            (list_all_more (free_rule j x) (free_rule j y) (λ r e. ap (λ (z : Result Formula ℕ). not (names_field (suc j.field) z)) (same_formula b x false r.formula) ∙ e) y.validation_rules (rules_free b g (both_left first second h)))
            (list_all_more (free j x) (free j y) (λ r e. ap (λ z. not ((r.object == j.object) && z)) (uses_changed b x j.field r.source) ∙ e) t.sharing_rules (both_right first second h))
          where
            rules_free : (b : Bool) → (b ≡ true → list_all (free_rule j x) x.validation_rules ≡ true → list_all (free_rule j x) (R x) ≡ true) → list_all (free_rule j x) x.validation_rules ≡ true → list_all (free_rule j x) (cond b (R x) x.validation_rules) ≡ true
            rules_free true g h = g refl h
            rules_free false g h = h

        job_free : (job : Option Job) → t.job ≡ job → IsUnnamed t.objects t.sharing_rules job → IsUnnamed now t.sharing_rules job
        job_free None e h = tt
        job_free (Some j) e h = by (is_copy j.phase) refl h
          where
            by : (b : Bool) → is_copy j.phase ≡ b → (not b || in_case (slice_get t.objects j.object) true (is_unnamed t.sharing_rules j)) ≡ true → (not b || in_case (slice_get now j.object) true (is_unnamed t.sharing_rules j)) ≡ true
            by false w h = refl
            by true w h = found (slice_get t.objects j.object) refl h
              where
                found : (x : Option Object) → slice_get t.objects j.object ≡ x → in_case x true (is_unnamed t.sharing_rules j) ≡ true → in_case (slice_get now j.object) true (is_unnamed t.sharing_rules j) ≡ true
                found None v h = ap (λ z. in_case z true (is_unnamed t.sharing_rules j)) (none_changed n t.objects j.object v)
                  where
                    none_changed : (n : ℕ) (os : List Object) (m : ℕ) → slice_get os m ≡ None → slice_get (change_at n (λ o. record o { access = A o; hierarchy = H o; validation_rules = R o }) os) m ≡ None
                    none_changed n [] m e = e
                    none_changed zero (x ∷ os) zero e = absurd cc
                    none_changed zero (x ∷ os) (suc m) e = e
                    none_changed (suc n) (x ∷ os) zero e = absurd cc
                    none_changed (suc n) (x ∷ os) (suc m) e = none_changed n os m e
                found (Some x) v h =
                    let c = changed_at A H R n t.objects j.object x v in
                    ap (λ z. in_case z true (is_unnamed t.sharing_rules j)) c.1 ∙ still j x c.0 (λ b. good_free j e w x v (c.2 b)) h

pub set_object_formulas : ReadsByFields → (t : Tenant) (object : List ℕ) (c : ObjectChange) → AreFormulasSound t → AreFormulasSound (set_object t object c).tenant
set_object_formulas law t object c s =
    when_object AreFormulasSound t object (λ o. judged t (refuse_if (is_detail o.object) (refusal.InvalidType o.object.name) ∷ []) (accept done (with_object_changed o.number (changed_object c) t))) s (λ o at.
    when_judged AreFormulasSound t (refuse_if (is_detail o.object) (refusal.InvalidType o.object.name) ∷ []) (accept done (with_object_changed o.number (changed_object c) t)) s (λ h.
    object_formulas law (λ x. unwrap_or c.access x.access) (λ x. unwrap_or c.hierarchy x.hierarchy) (λ x. x.validation_rules) t s o.number (λ x e g. g) (λ j is copy x w same g. g)))

pub add_validation_formulas : ReadsByFields → (t : Tenant) (b : NewValidationRule) → AreFormulasSound t → AreFormulasSound (add_validation_rule t b).tenant
add_validation_formulas law t b s =
    let r : ValidationRule = validation_of b in
    when_object AreFormulasSound t b.object (λ o. judged t (new_validation_rule_rules t o b) (accept done (with_object_changed o.number (with_validation_rule r) t))) s (λ o at.
    when_judged AreFormulasSound t (new_validation_rule_rules t o b) (accept done (with_object_changed o.number (with_validation_rule r) t)) s (λ h.
    object_formulas law (λ x. x.access) (λ x. x.hierarchy) (with_one r) t s o.number
    (λ x e g.
    let same : o.object ≡ x = some_is o.object x (sym at ∙ e) in
    list_all_put (λ (q : ValidationRule). is_ok (formula_of x false q.formula)) (λ a b. name_cmp a.name b.name) r x.validation_rules g
    (ap (λ (z : Object). is_ok (formula_of z false r.formula)) (sym same) ∙ formed (formula_of o.object false r.formula) h.1.1.0))
    (λ j is copy x w here_is g.
    let same : o.object ≡ x = some_is o.object x (sym at ∙ ap (slice_get t.objects) (sym here_is) ∙ w) in
    list_all_put (free_rule j x) (λ a b. name_cmp a.name b.name) r x.validation_rules g
    (ap (λ (z : Object). not (names_field (suc j.field) (formula_of z false r.formula))) (sym same) ∙ ap not (not_busy t o.number (formula_of o.object false r.formula) h.1.1.1.0 j is copy here_is)))))

pub remove_validation_formulas : ReadsByFields → (t : Tenant) (object name : List ℕ) → AreFormulasSound t → AreFormulasSound (remove_validation_rule t object name).tenant
remove_validation_formulas law t object name s =
    let p : ValidationRule → Bool = λ r. not (same_name r.name name) in
    when_object AreFormulasSound t object (λ o. judged t (refuse_if (not (list_any (λ r. same_name r.name name) o.object.validation_rules)) refusal.NotFound ∷ []) (accept done (with_object_changed o.number (without_validation_rule name) t))) s (λ o at.
    when_judged AreFormulasSound t (refuse_if (not (list_any (λ r. same_name r.name name) o.object.validation_rules)) refusal.NotFound ∷ []) (accept done (with_object_changed o.number (without_validation_rule name) t)) s (λ h.
    object_formulas law (λ x. x.access) (λ x. x.hierarchy) (without_one name) t s o.number
    (λ x e g. list_all_kept (λ (q : ValidationRule). is_ok (formula_of x false q.formula)) p x.validation_rules g)
    (λ j is copy x w here_is g. list_all_kept (free_rule j x) p x.validation_rules g)))
