-- A new sharing rule takes the organisation's row to the one with a rule and a number more, and puts its own.
use Rattle.std.proofs.Common.{◌≡◌, ◌∙◌, ℕ, suc, ◌+◌, ◌<◌, ◌≤◌, ◌^◌, Bool, true, false, not, ◌&&◌, cond, IsTrue, List, [], ◌∷◌, length, map, Some, None, refl, sym, ap, subst, arith, codes}
use Rattle.std.specs.Prelude.{Err, IfErr, IsErrAnd, Ok, Result, nat_lt, slice_get}
use Rattle.std.specs.List.{AllByRecursion, enumerate_from, find, list_any}
use Rattle.std.specs.Str.{IsUtf8}
use Rattle.std.proofs.lemmas.Bool.Decides.{nat_tests}
use Rattle.std.proofs.lemmas.Result.{IfErr-at_err}
use Rattle.std.proofs.lemmas.Option.{same_Some as some_is}
use Rattle.std.proofs.lemmas.Bool.{not-false as so, and_parts as both}
use Rattle.base_lemmas.proofs.Options.{none_from_is_some as none_so}
use Rattle.store_edit.proofs.Reading.{SameTables, TellsFirst, TellsThen, TwoReads, two_reads}
use Rattle.store_edit.specs.Edits.{FailsBy, Takes}
use Rattle.store_edit.specs.Naming.{NamesLayout}
use Rattle.store_edit.specs.Rows.{change_to}
use Rattle.store_kv.specs.Draft.{DraftTells, Held}
use Rattle.store_kv.specs.State.{KeeperState}
use Rattle.store_rows.specs.declared.fail.StoreFail.{StoreFail}
use Rattle.store_rows.specs.declared.fail.StoreFail.TheVariants.{Damaged, Memory}
use Rattle.store_rows.specs.declared.org.OrgRow.{OrgRow}
use Rattle.store_rows.specs.Forms.{FitsForm, row_bytes}
use Rattle.store_rows.specs.Keys as key
use Rattle.store_rows.specs.Keys.{Key}
use Rattle.store_rows.specs.Rows.{org_form, sharing_form}
use Rattle.model.specs.Cases.{in_case}
use Rattle.model.specs.declared.refusal.Refusal.{Refusal}
use Rattle.model.specs.declared.refusal.Refusal.TheVariants.{InvalidName, NameTaken}
use Rattle.model.specs.declared.sharing_bodies.NewSharingRule.{NewSharingRule}
use Rattle.model.specs.declared.sharing_bodies.SpelledSource.{SpelledSource}
use Rattle.model.specs.declared.sharing_bodies.SpelledSource.TheVariants.{Owner, Criteria}
use Rattle.model.specs.Fields.{same_name}
use Rattle.model.specs.FormulaTexts.{reads_text}
use Rattle.model.specs.Limits.{formula_limit}
use Rattle.model.specs.Membership.{Has}
use Rattle.model.specs.Names.{is_stem}
use Rattle.model.specs.Objects.{Numbered, object_named, object_numbered}
use Rattle.model.specs.Principals.{bad_id}
use Rattle.model.specs.RuleFormulas.{formula_of, malformed}
use Rattle.model.specs.Rules.{Rule, first_refusal, refuse_if, rule_of}
use Rattle.model.specs.SharingRules.{add_sharing_rule, new_rule, new_sharing_rule_rules, source_formula, source_owner, with_rule}
use Rattle.model.specs.Sound.{IsSound}
use Rattle.model.specs.SoundSharing.{is_grant}
use Rattle.model.specs.Tenant.{Field, Object, SharingRule, Tenant}
use Rattle.model.specs.Verdict.{Verdict, accept, done, unless}
use Rattle.schema_rules.specs.Objects.{object_of_layout}
use Rattle.model_invariant.specs.Fit.{has_member, has_source, is_fit_rule}
use Rattle.store_abstraction.specs.Calls.{Calls, Ending}
use Rattle.store_abstraction.specs.declared.fail.EditFail.{EditFail}
use Rattle.store_abstraction.specs.declared.layout.Layout.{Layout}
use Rattle.store_abstraction.specs.Fails.{of_store}
use Rattle.store_abstraction.specs.Layouts.{layout_of, place_of}
use Rattle.store_abstraction.specs.Local.{IsIn}
use Rattle.store_abstraction.specs.Metadata.{lower_bytes, named_so, org_of, sharing_of}
use Rattle.store_abstraction.specs.Plan.{FitsPlan, OrgPlan}
use Rattle.store_abstraction.specs.Records.{is_org_key}
use Rattle.store_abstraction.specs.Stands.{row_in}
use Rattle.store_abstraction.proofs.MetadataRows.{sound_object}
use Rattle.store_abstraction.proofs.Spelled.{short_fits, stem_fits}
use Rattle.access_rules.specs.declared.adding.NewRows.{NewRows}
use Rattle.access_rules.specs.inner.Adding.{AddsTo, FitNewRows, IsSpelledRule, IsSpelledSource, busy_by, changes_of, id_rules, rules_by}
use Rattle.store_edit.specs.Judging.{FailsRule}
use Rattle.access_rules.specs.Sharing.{is_sharing_key}
use Rattle.access_rules.proofs.NewRules.{rules_are}
use Rattle.access_rules.proofs.Putting.{OrgLaws, SamePlan, other_sharing}
use Rattle.store_edit.proofs.Putting.{beside, other_org, put_is_in, put_is_of}
use Rattle.access_rules.proofs.RuleGone.{NamesFind}
use Rattle.access_rules.proofs.SpelledOnes.{is_spelled_id, member_passes}
use Rattle.store_edit.proofs.StepByStep.{accepted, rule_fails}

-- ---- three calls in turn

module _ {K : Type 0} (state : K → KeeperState) where
  -- what the draft tells over all three it tells over each, and the first two leave the tables
  pub record ThreeReads (a b c d : Held K) : Type 0 where
    pub before : TwoReads state a b c
    pub behind : TwoReads state b c d

  pub three_reads : TellsFirst state → TellsThen state → SameTables state → {e f g : Ending} (a b c d : Held K) → Calls state 0 e a b → Calls state 0 f b c → Calls state 0 g c d → DraftTells state a d → ThreeReads a b c d
  three_reads tells_first tells_then same {e} {f} {g} a b c d one two three told =
      let before = two_reads state tells_first tells_then same a b c one two (tells_first 0 g a c d three told) in
      record { before = before; behind = two_reads state tells_first tells_then same b c d two three (tells_then 0 e a b d one before.first told) }

-- ---- the object

abbrev pair : ℕ × Object → Numbered
pair o = record { number = o.0; object = o.1 }

found_at : (q : Numbered → Bool) (k : ℕ) (os : List Object) (o : Numbered) → find q (map pair (enumerate_from k os)) ≡ Some o
    → (i : ℕ) × (o.number ≡ k + i) × (slice_get os i ≡ Some o.object)
found_at q k [] o e = absurd cc
found_at q k (x ∷ os) o e = by (found_at q (k + 1) os o) (q (pair (k, x))) refl
  where
    by : (find q (map pair (enumerate_from (k + 1) os)) ≡ Some o → (i : ℕ) × (o.number ≡ (k + 1) + i) × (slice_get os i ≡ Some o.object))
        → (b : Bool) → q (pair (k, x)) ≡ b → (i : ℕ) × (o.number ≡ k + i) × (slice_get (x ∷ os) i ≡ Some o.object)
    by more true h =
        let is : pair (k, x) ≡ o = some_is (pair (k, x)) o (sym (ap (λ (b : Bool). cond b (Some (pair (k, x))) (find q (map pair (enumerate_from (k + 1) os)))) h) ∙ e) in
        let number : k ≡ o.number = ap (λ (n : Numbered). n.number) is in
        (0, omega (arith, number), ap (λ (n : Numbered). Some n.object) is)
    by more false h =
        let (i, number, there) = more (sym (ap (λ (b : Bool). cond b (Some (pair (k, x))) (find q (map pair (enumerate_from (k + 1) os)))) h) ∙ e) in
        (suc i, omega (arith, number), there)

named_at : (t : Tenant) (name : List ℕ) (o : Numbered) → object_named t name ≡ Some o → object_numbered t o.number ≡ Some o.object
unfolding object_named
named_at t name o e =
    let (i, number, there) = found_at (λ (o : Numbered). same_name o.object.name name) 0 t.objects o e in
    let is : o.number ≡ i = omega (arith, number) in
    ap (slice_get t.objects) is ∙ there

pub layout_is : (org : ℕ) (q : OrgPlan) (t : Tenant) (name : List ℕ) (r : Result Layout EditFail) (l : Layout) → NamesLayout org q t name r → r ≡ Ok l → (o : Numbered) × (object_named t name ≡ Some o) × (l ≡ layout_of org q t o)
layout_is org q t name r l h was = subst (NamesLayout org q t name) was h

length_fields : (q : OrgPlan) (n k : ℕ) (fs : List Field) → length (map (place_of q n) (enumerate_from k fs)) ≡ length fs
length_fields q n k [] = refl
length_fields q n k (f ∷ fs) = omega (arith, length_fields q n (k + 1) fs)

-- a layout has few fields
pub few_fields : (org : ℕ) (q : OrgPlan) (t : Tenant) (name : List ℕ) (o : Numbered) (l : Layout) → IsSound t → object_named t name ≡ Some o → l ≡ layout_of org q t o → length l.fields ≤ 40
few_fields org q t name o l s there is =
    let few = (sound_object t o.number o.object s (named_at t name o there)).few_fields in
    subst (λ (l : Layout). length l.fields ≤ 40) (sym is) (subst (λ (n : ℕ). n ≤ 40) (sym (length_fields q o.number 0 o.object.fields)) few)

-- the rules by what was read are those of the definition
pub rules_of : (org : ℕ) (q : OrgPlan) (t : Tenant) (o : Numbered) (b : NewSharingRule) (l : Layout) (row : OrgRow) → l ≡ layout_of org q t o → row ≡ org_of org t → first_refusal (rules_by l row t b) ≡ first_refusal (new_sharing_rule_rules t o b)
rules_of org q t o b l row is counts =
    ap (λ (l : Layout). first_refusal (rules_by l row t b)) is ∙ ap (λ (r : OrgRow). first_refusal (rules_by (layout_of org q t o) r t b)) counts ∙ rules_are org q t o b

-- ---- verdicts

added_by : (t : Tenant) (b : NewSharingRule) (o : Numbered) → object_named t b.object ≡ Some o
    → add_sharing_rule t b ≡ unless (first_refusal (new_sharing_rule_rules t o b)) t (accept done (with_rule (new_rule t o.number b) t))
added_by t b o there = rw there refl

-- the step that judges it fails
pub judged_not : (t : Tenant) (b : NewSharingRule) (o : Numbered) (rule : Rule) (e : EditFail) → object_named t b.object ≡ Some o → rule ≡ first_refusal (new_sharing_rule_rules t o b) → FailsRule rule e → FailsBy (add_sharing_rule t b) e
judged_not t b o rule e there is h =
    subst (λ (v : Verdict). FailsBy v e) (sym (added_by t b o there))
    (rule_fails (first_refusal (new_sharing_rule_rules t o b)) t (accept done (with_rule (new_rule t o.number b) t)) e (subst (λ (r : Rule). FailsRule r e) is h))

-- rows that aren't made for want of memory
pub rows_fail : {X : Type 0} (v : Verdict) (r : Result X StoreFail) (e : StoreFail) → IfErr r (λ e. e ≡ Memory) → r ≡ Err e → FailsBy v (of_store e)
rows_fail v r e h was = λ d. apart (sym (IfErr-at_err (λ (e : StoreFail). e ≡ Memory) was h) ∙ d)
  where
    apart : Memory ≡ Damaged → ⊥
    apart d = cc

pub passed_on : (org : ℕ) (t : Tenant) (b : NewSharingRule) (e : EditFail) (r : Result NewRows EditFail) → IsErrAnd r (λ y. y ≡ e) → FailsBy (add_sharing_rule t b) e → AddsTo org t b r
passed_on org t b e (Ok rows) passed h = absurd passed
passed_on org t b e (Err y) passed h = subst (FailsBy (add_sharing_rule t b)) (sym passed) h

-- ---- rules that don't refuse

all_pass : (rules : List Rule) → first_refusal rules ≡ None → AllByRecursion (λ r. r ≡ None) rules
all_pass [] e = tt
all_pass (None ∷ rules) e = (refl, all_pass rules e)
all_pass (Some x ∷ rules) e = absurd cc

unstopped : (a : Bool) (x : Refusal) → refuse_if a x ≡ None → a ≡ false
unstopped true x e = absurd cc
unstopped false x e = refl

-- a text that spells a formula isn't too long
short_text : (o : Object) (text : List ℕ) → malformed (formula_of o true text) ≡ None → length text ≤ 4000
unfolding formula_of
short_text o text e = by (nat_lt formula_limit (length text)) refl e
  where
    by : (b : Bool) → nat_lt 4000 (length text) ≡ b → malformed (cond b (Err 0) (reads_text o true text)) ≡ None → length text ≤ 4000
    by true h e = absurd cc
    by false h e = grind (arith, nat_tests)

-- the parts of a rule that isn't refused can stand in rows
source_spelled : (members : List (List ℕ)) (o : Object) (source : SpelledSource) → has_source members source ≡ true
    → (has_member members (codes "from") ≡ true → in_case (source_owner source) None (λ p. bad_id p.text) ≡ None)
    → in_case (source_formula o source) None malformed ≡ None → IsSpelledSource source
source_spelled members o (Owner p) has ids form = is_spelled_id p.text (ids has)
source_spelled members o (Criteria text) has ids form = short_fits text (short_text o text form) has

pub rule_spelled : (l : Layout) (row : OrgRow) (t : Tenant) (b : NewSharingRule) → IsTrue (is_fit_rule b) → first_refusal (rules_by l row t b) ≡ None → IsSpelledRule b
rule_spelled l row t b fit free =
    let grant = both (is_grant b.level) (has_member b.members (codes "to") && has_source b.members b.source) fit in
    let has = both (has_member b.members (codes "to")) (has_source b.members b.source) grant.1 in
    let (plain, (good, (unused, (ids, (there, (form, room)))))) = all_pass (rules_by l row t b) free in
    let formed = all_pass (in_case (source_formula (object_of_layout l) b.source) None malformed ∷ in_case (source_formula (object_of_layout l) b.source) None (busy_by l.job) ∷ []) form in
    record {
      name = stem_fits b.name (so (is_stem b.name) (unstopped (not (is_stem b.name)) (InvalidName b.name) good));
      source = source_spelled b.members (object_of_layout l) b.source has.1 (λ h. member_passes (rule_of (id_rules b)) b.members (codes "from") ids h) formed.0;
      to = is_spelled_id b.to.text (member_passes (rule_of (id_rules b)) b.members (codes "to") ids has.0);
      level = grant.0;
    }

-- ---- what is changed

abbrev pub RuleStays : Type 0
RuleStays = (p : OrgPlan) (t : Tenant) (r : SharingRule) (k : Key) → is_org_key k ≡ false → is_sharing_key r.name k ≡ false → row_in p (with_rule r t) k ≡ row_in p t k

abbrev pub RuleRow : Type 0
RuleRow = (p : OrgPlan) (t : Tenant) (org : ℕ) (r : SharingRule) → named_so (λ (x : SharingRule). x.name) t.sharing_rules (lower_bytes r.name) ≡ None
    → row_in p (with_rule r t) (key.Sharing org (lower_bytes r.name)) ≡ Some (row_bytes sharing_form (sharing_of org r))

abbrev pub OneMore : Type 0
OneMore = (t : Tenant) (r : SharingRule) → length (with_rule r t).sharing_rules ≡ length t.sharing_rules + 1

abbrev pub HasIt : Type 0
HasIt = (t : Tenant) (r : SharingRule) → Has (with_rule r t).sharing_rules r

abbrev pub RuleFits : Type 0
RuleFits = (org : ℕ) (t : Tenant) (r : SharingRule) → org < 2 ^ 32 → IsSound t → Has t.sharing_rules r → FitsForm sharing_form (sharing_of org r)

abbrev pub AddsSound : Type 0
AddsSound = (t : Tenant) (b : NewSharingRule) → IsTrue (is_fit_rule b) → IsSound t → IsSound (add_sharing_rule t b).tenant

pub record ComesLaws : Type 0 where
  pub org : OrgLaws
  pub rest : RuleStays
  pub row : RuleRow
  pub found : NamesFind
  pub more : OneMore
  pub has : HasIt
  pub fits : RuleFits
  pub sound : AddsSound

pub comes_takes : ComesLaws → (org : ℕ) (q : OrgPlan) (t : Tenant) (b : NewSharingRule) (rows : NewRows) → org < 2 ^ 32 → FitsPlan q t → IsSound t → IsTrue (is_fit_rule b) → IsUtf8 (lower_bytes b.name) → AddsTo org t b (Ok rows)
    → Takes org q t (add_sharing_rule t b) done SamePlan (changes_of rows)
comes_takes laws org q t b rows small plan sound fit utf8 (o, there, free, made) =
    let r = new_rule t o.number b in
    let u = with_rule r t in
    let v = add_sharing_rule t b in
    let rules = first_refusal (new_sharing_rule_rules t o b) in
    let same : v ≡ accept done u = added_by t b o there ∙ accepted rules t (accept done u) free in
    let sound_u : IsSound u = subst IsSound (ap (λ (v : Verdict). v.tenant) same) (laws.sound t b fit sound) in
    let (plain, (good, (unused, more))) = all_pass (new_sharing_rule_rules t o b) free in
    let alone : named_so (λ (x : SharingRule). x.name) t.sharing_rules (lower_bytes b.name) ≡ None =
    none_so _ (laws.found t b.name utf8 ∙ unstopped (list_any (same_name b.name) (map (λ (r : SharingRule). r.name) t.sharing_rules)) (NameTaken b.name) unused) in
    let next : NewRows = record { row = org_of org u; rule = sharing_of org r } in
    let takes : Takes org q t (accept done u) done SamePlan (changes_of next) = record {
      answer = refl;
      sound = sound_u;
      plan = q;
      kept = refl;
      fits = laws.org.plan q t u refl refl plan;
      are = (
        put_is_of org_form org q u (org_of org u) (laws.org.fits org u small sound_u) refl (laws.org.counted q u org),
        (put_is_of sharing_form org q u (sharing_of org r) (laws.fits org u r small sound_u (laws.has t r)) refl (laws.row q t org r alone), tt),
      );
      rest = λ k of apart.
          let one = beside (change_to org_form (org_of org u)) (change_to sharing_form (sharing_of org r) ∷ []) k apart in
          let two = beside (change_to sharing_form (sharing_of org r)) [] k one.1 in
          laws.rest q t r k (other_org org k of one.0) (other_sharing org b.name k of two.0);
    } in
    let are : rows ≡ next = made ∙ ap (λ (n : ℕ). record { row = record (org_of org u) { sharing_rules = n }; rule = sharing_of org r }) (sym (laws.more t r)) in
    subst (λ (y : Verdict). Takes org q t y done SamePlan (changes_of rows)) (sym same)
    (subst (λ (x : NewRows). Takes org q t (accept done u) done SamePlan (changes_of x)) (sym are) takes)

-- whatever the organisation has, both rows are at its keys
pub comes_own : (org : ℕ) (name : List ℕ) (rows : NewRows) → FitNewRows name rows → rows.row.org ≡ org → rows.rule.org ≡ org → AllByRecursion (IsIn org) (changes_of rows)
comes_own org name rows fits own its = (
  put_is_in org_form org rows.row fits.row (ap (λ (n : ℕ). Some n) own),
  (put_is_in sharing_form org rows.rule fits.rule (ap (λ (n : ℕ). Some n) its), tt),
)
