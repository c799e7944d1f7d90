-- The rules on a new sharing rule, by the layout of its object as by the object.
use Rattle.std.proofs.Common.{◌≡◌, ◌∙◌, ℕ, suc, Bool, true, false, ◌&&◌, ◌||◌, eqb, cond, List, [], ◌∷◌, length, map, Option, Some, None, refl, sym, ap, subst}
use Rattle.std.specs.Prelude.{Result, Err, nat_lt}
use Rattle.std.specs.List.{list_any}
use Rattle.std.specs.Option.{ok_or, option_and_then}
use Rattle.base_lemmas.proofs.Bools.{by_answer as pick}
use Rattle.formula.specs.declared.formula.Formula.{Formula}
use Rattle.formula.specs.grammar.Spelling.{formula_in, place_in}
use Rattle.base_grammar.specs.Tokens.{byte_len}
use Rattle.store_rows.specs.declared.org.OrgRow.{OrgRow}
use Rattle.model.specs.declared.refusal.Refusal.TheVariants.{InvalidType, JobBusy}
use Rattle.model.specs.declared.sharing_bodies.NewSharingRule.{NewSharingRule}
use Rattle.model.specs.declared.sharing_bodies.SpelledSource.{SpelledSource}
use Rattle.model.specs.declared.sharing_bodies.SpelledSource.TheVariants.{Owner, Criteria}
use Rattle.model.specs.Cases.{in_case}
use Rattle.model.specs.Fields.{is_master}
use Rattle.model.specs.FormulaTexts.{formula_fields, reads_text}
use Rattle.model.specs.Limits.{formula_limit}
use Rattle.model.specs.Names.{bad_name, is_stem}
use Rattle.model.specs.Objects.{Numbered}
use Rattle.model.specs.RuleFormulas.{busy, formula_of, is_copy, malformed, names_field}
use Rattle.model.specs.Rules.{Rule, first_refusal, in_body_order, refuse_if}
use Rattle.model.specs.SharingRules.{new_sharing_rule_rules, source_formula}
use Rattle.model.specs.Tenant.{Field, Job, Object, Tenant}
use Rattle.schema_rules.specs.Objects.{field_of_place, object_of_layout}
use Rattle.schema_rules.proofs.Objects.{fields_back}
use Rattle.store_abstraction.specs.declared.fail.EditFail.{EditFail}
use Rattle.store_abstraction.specs.declared.layout.FieldPlace.{FieldPlace}
use Rattle.store_abstraction.specs.declared.layout.Layout.{Layout}
use Rattle.store_abstraction.specs.Layouts.{job_on, job_place, layout_of}
use Rattle.store_abstraction.specs.Metadata.{org_of}
use Rattle.store_abstraction.specs.Plan.{OrgPlan}
use Rattle.access_rules.specs.inner.Adding.{busy_by, detail_rule, formula_rule, id_rules, room_rule, rules_by, taken_rule, there_rules}
use Rattle.store_edit.specs.Judging.{FailsRule}
use Rattle.store_edit.proofs.StepByStep.{fails_here, fails_next, none_next}

-- ---- the fields of a layout

masters_of : (fs : List FieldPlace) → list_any (λ (f : Field). is_master f.kind) (map field_of_place fs) ≡ list_any (λ (f : FieldPlace). is_master f.kind) fs
masters_of [] = refl
masters_of (f ∷ fs) = ap (λ (b : Bool). is_master f.kind || b) (masters_of fs)

pub detail_by : (l : Layout) (b : Bool) → b ≡ list_any (λ (f : FieldPlace). is_master f.kind) l.fields → detail_rule l ≡ refuse_if b (InvalidType l.name)
detail_by l b e = ap (λ (x : Bool). refuse_if x (InvalidType l.name)) (masters_of l.fields ∙ sym e)

-- ---- by the object

formula_same : (o p : Object) (text : List ℕ) → o.fields ≡ p.fields → formula_of o true text ≡ formula_of p true text
unfolding formula_of reads_text
formula_same o p text e =
    ap (λ (fs : List Field). cond (nat_lt formula_limit (length text)) (Err 0) (ok_or (formula_in true (formula_fields fs) text) (place_in true (formula_fields fs) text (byte_len text)))) e

busy_is : (q : OrgPlan) (t : Tenant) (n : ℕ) (f : Result Formula ℕ) → busy_by (job_on q t n) f ≡ busy t n f
busy_is q t n f = by t.job
  where
    by : (job : Option Job)
        → busy_by (option_and_then (λ (j : Job). cond (eqb j.object n) (Some (job_place q j)) None) job) f ≡ in_case job None (λ j. refuse_if (is_copy j.phase && (eqb j.object n && names_field (suc j.field) f)) JobBusy)
    by None = refl
    by (Some j) =
        pick (eqb j.object n) (λ b. busy_by (cond b (Some (job_place q j)) None) f ≡ refuse_if (is_copy j.phase && (b && names_field (suc j.field) f)) JobBusy)
        (λ _. refl)
        (λ _. none (is_copy j.phase))
      where
        none : (b : Bool) → None ≡ refuse_if (b && false) JobBusy
        none true = refl
        none false = refl

-- two rules as one
grouped : (m u : Rule) (rest : List Rule) → first_refusal (first_refusal (m ∷ u ∷ []) ∷ rest) ≡ first_refusal (m ∷ u ∷ rest)
grouped None None rest = refl
grouped None (Some x) rest = refl
grouped (Some x) u rest = refl

module _ (org : ℕ) (q : OrgPlan) (t : Tenant) (o : Numbered) (b : NewSharingRule) where
  abbrev l : Layout
  l = layout_of org q t o

  back : (object_of_layout l).fields ≡ o.object.fields
  back = fields_back q o.number 0 o.object.fields

  formula_is : (s : SpelledSource) → source_formula (object_of_layout l) s ≡ source_formula o.object s
  formula_is (Owner p) = refl
  formula_is (Criteria text) = ap (λ (f : Result Formula ℕ). Some f) (formula_same (object_of_layout l) o.object text back)

  abbrev formula : Option (Result Formula ℕ)
  formula = source_formula o.object b.source

  busy_of : (f : Option (Result Formula ℕ)) → in_case f None (busy_by l.job) ≡ in_case f None (busy t o.number)
  busy_of None = refl
  busy_of (Some f) = busy_is q t o.number f

  abbrev rest : Rule → List Rule
  rest detail = detail ∷ bad_name is_stem b.name ∷ taken_rule t b.name ∷ in_body_order b.members (id_rules b) ∷ in_body_order b.members (there_rules t b) ∷ []

  behind : (xs ys : List Rule) → first_refusal xs ≡ first_refusal ys → (r : Rule) → first_refusal (r ∷ xs) ≡ first_refusal (r ∷ ys)
  behind xs ys e None = e
  behind xs ys e (Some x) = refl

  last_two : first_refusal (formula_rule l b.source ∷ room_rule (org_of org t) ∷ []) ≡ first_refusal (in_case formula None malformed ∷ in_case formula None (busy t o.number) ∷ room_rule (org_of org t) ∷ [])
  last_two =
      grouped (in_case (source_formula (object_of_layout l) b.source) None malformed) (in_case (source_formula (object_of_layout l) b.source) None (busy_by l.job)) (room_rule (org_of org t) ∷ [])
      ∙ ap (λ (f : Option (Result Formula ℕ)). first_refusal (in_case f None malformed ∷ in_case f None (busy_by l.job) ∷ room_rule (org_of org t) ∷ [])) (formula_is b.source)
      ∙ ap (λ (r : Rule). first_refusal (in_case formula None malformed ∷ r ∷ room_rule (org_of org t) ∷ [])) (busy_of formula)

  -- they are those of the definition
  pub rules_are : first_refusal (rules_by l (org_of org t) t b) ≡ first_refusal (new_sharing_rule_rules t o b)
  rules_are =
      ap (λ (fs : List Field). first_refusal (refuse_if (list_any (λ (f : Field). is_master f.kind) fs) (InvalidType o.object.name) ∷ bad_name is_stem b.name ∷ taken_rule t b.name ∷ in_body_order b.members (id_rules b) ∷ in_body_order b.members (there_rules t b) ∷ formula_rule l b.source ∷ room_rule (org_of org t) ∷ [])) back
      ∙ behind _ _ (behind _ _ (behind _ _ (behind _ _ (behind _ _ last_two (in_body_order b.members (there_rules t b))) (in_body_order b.members (id_rules b))) (taken_rule t b.name)) (bad_name is_stem b.name))
      (refuse_if (list_any (λ (f : Field). is_master f.kind) o.object.fields) (InvalidType o.object.name))

-- ---- each behind those before it

module _ (l : Layout) (row : OrgRow) (t : Tenant) (b : NewSharingRule) where
  abbrev named : Rule
  named = bad_name is_stem b.name

  abbrev ids : Rule
  ids = in_body_order b.members (id_rules b)

  abbrev there : Rule
  there = in_body_order b.members (there_rules t b)

  abbrev formed : Rule
  formed = formula_rule l b.source

  abbrev from_formed : List Rule
  from_formed = formed ∷ room_rule row ∷ []

  abbrev from_ids : List Rule
  from_ids = ids ∷ there ∷ from_formed

  abbrev all : Rule
  all = first_refusal (rules_by l row t b)

  pub object_fails : (e : EditFail) → FailsRule (detail_rule l) e → FailsRule all e
  object_fails e h = fails_here (detail_rule l) (named ∷ taken_rule t b.name ∷ from_ids) e h

  module _ (plain : detail_rule l ≡ None) where
    pub name_fails : (e : EditFail) → FailsRule named e → FailsRule all e
    name_fails e h = fails_next (detail_rule l) (named ∷ taken_rule t b.name ∷ from_ids) e plain (fails_here named (taken_rule t b.name ∷ from_ids) e h)

    module _ (good : named ≡ None) where
      after_name : (e : EditFail) → FailsRule (first_refusal (taken_rule t b.name ∷ from_ids)) e → FailsRule all e
      after_name e h = fails_next (detail_rule l) (named ∷ taken_rule t b.name ∷ from_ids) e plain (fails_next named (taken_rule t b.name ∷ from_ids) e good h)

      pub taken_fails : (e : EditFail) → FailsRule (taken_rule t b.name) e → FailsRule all e
      taken_fails e h = after_name e (fails_here (taken_rule t b.name) from_ids e h)

      module _ (free : taken_rule t b.name ≡ None) (members : List (List ℕ)) (are : members ≡ b.members) where
        after_free : (e : EditFail) → FailsRule (first_refusal from_ids) e → FailsRule all e
        after_free e h = after_name e (fails_next (taken_rule t b.name) from_ids e free h)

        pub ids_fail : (e : EditFail) → FailsRule (in_body_order members (id_rules b)) e → FailsRule all e
        ids_fail e h = after_free e (fails_here ids (there ∷ from_formed) e (subst (λ (ms : List (List ℕ)). FailsRule (in_body_order ms (id_rules b)) e) are h))

        module _ (spelled : in_body_order members (id_rules b) ≡ None) where
          ids_pass : ids ≡ None
          ids_pass = subst (λ (ms : List (List ℕ)). in_body_order ms (id_rules b) ≡ None) are spelled

          pub there_fails : (e : EditFail) → FailsRule (in_body_order members (there_rules t b)) e → FailsRule all e
          there_fails e h =
              after_free e (fails_next ids (there ∷ from_formed) e ids_pass (fails_here there from_formed e (subst (λ (ms : List (List ℕ)). FailsRule (in_body_order ms (there_rules t b)) e) are h)))

          module _ (found : in_body_order members (there_rules t b) ≡ None) where
            there_pass : there ≡ None
            there_pass = subst (λ (ms : List (List ℕ)). in_body_order ms (there_rules t b) ≡ None) are found

            after_there : (e : EditFail) → FailsRule (first_refusal from_formed) e → FailsRule all e
            after_there e h = after_free e (fails_next ids (there ∷ from_formed) e ids_pass (fails_next there from_formed e there_pass h))

            pub formula_fails : (e : EditFail) → FailsRule formed e → FailsRule all e
            formula_fails e h = after_there e (fails_here formed (room_rule row ∷ []) e h)

            module _ (well : formed ≡ None) where
              pub room_fails : (e : EditFail) → FailsRule (room_rule row) e → FailsRule all e
              room_fails e h = after_there e (fails_next formed (room_rule row ∷ []) e well (fails_here (room_rule row) [] e h))

              pub none_fails : room_rule row ≡ None → all ≡ None
              none_fails free_room =
                  none_next (detail_rule l) (named ∷ taken_rule t b.name ∷ from_ids) plain
                  (none_next named (taken_rule t b.name ∷ from_ids) good
                  (none_next (taken_rule t b.name) from_ids free
                  (none_next ids (there ∷ from_formed) ids_pass
                  (none_next there from_formed there_pass
                  (none_next formed (room_rule row ∷ []) well (none_next (room_rule row) [] free_room refl))))))
