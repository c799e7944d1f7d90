-- The removal of a sharing rule takes the organisation's row to the one with a rule less, and the rule's own row away.
use Rattle.std.proofs.Common.{◌≡◌, ◌∙◌, ℕ, ◌+◌, ◌-◌, ◌<◌, ◌^◌, Bool, true, false, not, List, [], ◌∷◌, length, map, Option, Some, None, refl, sym, ap, subst, arith}
use Rattle.std.specs.Prelude.{Ok, Result, is_some}
use Rattle.std.specs.List.{AllByRecursion, list_any}
use Rattle.std.specs.Option.{option_map}
use Rattle.std.specs.Str.{IsUtf8}
use Rattle.std.proofs.lemmas.Option.{same_Some as some_is}
use Rattle.store_edit.specs.Edits.{Takes}
use Rattle.store_edit.specs.Rows.{change_to}
use Rattle.store_kv.specs.Tables.{Tables}
use Rattle.store_rows.specs.declared.fail.StoreFail.{StoreFail}
use Rattle.store_rows.specs.declared.org.OrgRow.{OrgRow}
use Rattle.store_rows.specs.declared.sharing.SharingRow.{SharingRow}
use Rattle.store_rows.specs.Keys as key
use Rattle.store_rows.specs.Keys.{Key}
use Rattle.store_rows.specs.Rows.{org_form, sharing_form}
use Rattle.model.specs.declared.refusal.Refusal.TheVariants.{NotFound}
use Rattle.model.specs.Fields.{same_name}
use Rattle.model.specs.Rules.{Rule, first_refusal, refuse_if}
use Rattle.model.specs.SharingRules.{remove_sharing_rule}
use Rattle.model.specs.Sound.{IsSound}
use Rattle.model.specs.Tenant.{SharingRule, Tenant}
use Rattle.model.specs.Verdict.{Verdict, accept, done, unless}
use Rattle.store_codec.specs.Shapes.{Val}
use Rattle.store_abstraction.specs.Layouts.{own_row}
use Rattle.store_abstraction.specs.Local.{FindsIn, FindsThere, IsIn, StandsIn}
use Rattle.store_abstraction.specs.Metadata.{lower_bytes, named_so, org_of, sharing_of}
use Rattle.store_abstraction.specs.Plan.{FitsPlan, OrgPlan}
use Rattle.store_abstraction.specs.Records.{is_org_key}
use Rattle.store_abstraction.specs.Stands.{row_in}
use Rattle.access_rules.specs.declared.removing.Remaining.{Remaining}
use Rattle.access_rules.specs.inner.Removing.{FitsRemaining, changes_of, no_such_rule}
use Rattle.access_rules.specs.inner.Rows.{key_of_name, own_sharing_row}
use Rattle.access_rules.specs.Sharing.{is_sharing_key, without_rule}
use Rattle.access_rules.proofs.Putting.{OrgLaws, SamePlan, other_sharing}
use Rattle.store_edit.proofs.Putting.{beside, other_org, put_is_in, put_is_of}
use Rattle.access_rules.proofs.SharingRows.{turned}

-- what the laws of rows say of a rule that goes
abbrev pub NamesFind : Type 0
NamesFind = (t : Tenant) (name : List ℕ) → IsUtf8 (lower_bytes name)
    → is_some (named_so (λ (r : SharingRule). r.name) t.sharing_rules (lower_bytes name)) ≡ list_any (same_name name) (map (λ (r : SharingRule). r.name) t.sharing_rules)

abbrev pub OneLess : Type 0
OneLess = (t : Tenant) (name : List ℕ) (r : SharingRule) → IsSound t → IsUtf8 (lower_bytes name) → named_so (λ (x : SharingRule). x.name) t.sharing_rules (lower_bytes name) ≡ Some r
    → length (without_rule name t).sharing_rules + 1 ≡ length t.sharing_rules

-- ---- what was read

any_flipped : (name : List ℕ) (rules : List SharingRule) → list_any (λ r. same_name r.name name) rules ≡ list_any (same_name name) (map (λ r. r.name) rules)
any_flipped name [] = refl
any_flipped name (r ∷ rules) = rw (turned r.name name, any_flipped name rules) refl

-- the row that was read at the key of a name
pub found_is : (org : ℕ) (q : OrgPlan) (t : Tenant) (m : Tables) (name : List ℕ) (its : Val sharing_form.key) (r : Result (Option SharingRow) StoreFail) (found : Option SharingRow)
    → its ≡ key_of_name org name → FindsIn its.0 (own_sharing_row its.0 its.1.1) m r → r ≡ Ok found → StandsIn org q m (Some t)
    → found ≡ option_map (sharing_of org) (named_so (λ r. r.name) t.sharing_rules (lower_bytes name))
found_is org q t m name its r found is h was s =
    subst (FindsIn org (own_sharing_row org (lower_bytes name)) m) was (subst (λ (k : Val sharing_form.key). FindsIn k.0 (own_sharing_row k.0 k.1.1) m r) is h) q (Some t) s

mapped : (org : ℕ) (x : Option SharingRule) → is_some (option_map (sharing_of org) x) ≡ is_some x
mapped org None = refl
mapped org (Some x) = refl

module _ (laws : NamesFind) (org : ℕ) (t : Tenant) (name : List ℕ) (u : IsUtf8 (lower_bytes name)) (found : Option SharingRow) (is : found ≡ option_map (sharing_of org) (named_so (λ r. r.name) t.sharing_rules (lower_bytes name))) where
  any_is : list_any (λ r. same_name r.name name) t.sharing_rules ≡ is_some found
  any_is = any_flipped name t.sharing_rules ∙ sym (laws t name u) ∙ sym (mapped org (named_so (λ r. r.name) t.sharing_rules (lower_bytes name))) ∙ ap is_some (sym is)

  pub absent : is_some found ≡ false → no_such_rule t name ≡ Some NotFound
  absent e = ap (λ (b : Bool). refuse_if (not b) NotFound) (any_is ∙ e)

  pub present : is_some found ≡ true → no_such_rule t name ≡ None
  present e = ap (λ (b : Bool). refuse_if (not b) NotFound) (any_is ∙ e)

  pub its_rule : is_some found ≡ true → (r : SharingRule) × (named_so (λ r. r.name) t.sharing_rules (lower_bytes name) ≡ Some r)
  its_rule e = by (named_so (λ r. r.name) t.sharing_rules (lower_bytes name)) refl
    where
      by : (o : Option SharingRule) → named_so (λ r. r.name) t.sharing_rules (lower_bytes name) ≡ o → (r : SharingRule) × (named_so (λ r. r.name) t.sharing_rules (lower_bytes name) ≡ Some r)
      by (Some r) h = (r, h)
      by None h = absurd (apart (sym (ap is_some (is ∙ ap (option_map (sharing_of org)) h)) ∙ e))
        where
          apart : false ≡ true → ⊥
          apart e = cc

-- the organisation's row with one rule less
pub one_rule_less : OneLess → (org : ℕ) (t : Tenant) (name : List ℕ) (r : SharingRule) (row : OrgRow) (count : ℕ) → IsSound t → IsUtf8 (lower_bytes name)
    → named_so (λ r. r.name) t.sharing_rules (lower_bytes name) ≡ Some r → row ≡ org_of org t → count ≡ row.sharing_rules - 1 → record row { sharing_rules = count } ≡ org_of org (without_rule name t)
one_rule_less laws org t name r row count s u there is less =
    let counted : row.sharing_rules ≡ length t.sharing_rules = ap (λ (x : OrgRow). x.sharing_rules) is in
    let fewer = laws t name r s u there in
    let same : count ≡ length (without_rule name t).sharing_rules = omega (arith, less, counted, fewer) in
    ap (λ (n : ℕ). record row { sharing_rules = n }) same ∙ ap (λ (x : OrgRow). record x { sharing_rules = length (without_rule name t).sharing_rules }) is

-- ---- what is changed

abbrev pub NoRule : Type 0
NoRule = (p : OrgPlan) (t : Tenant) (name : List ℕ) (k : Key) → is_org_key k ≡ false → is_sharing_key name k ≡ false → row_in p (without_rule name t) k ≡ row_in p t k

abbrev pub NoRuleRow : Type 0
NoRuleRow = (p : OrgPlan) (t : Tenant) (org : ℕ) (name : List ℕ) → IsUtf8 (lower_bytes name) → row_in p (without_rule name t) (key.Sharing org (lower_bytes name)) ≡ None

abbrev pub RemovesSound : Type 0
RemovesSound = (t : Tenant) (name : List ℕ) → IsSound t → IsSound (remove_sharing_rule t name).tenant

pub record GoneLaws : Type 0 where
  pub org : OrgLaws
  pub rest : NoRule
  pub row : NoRuleRow
  pub sound : RemovesSound

one_first : (a : Rule) → a ≡ None → first_refusal (a ∷ []) ≡ None
one_first a e = ap (λ (x : Rule). first_refusal (x ∷ [])) e

pub gone_takes : GoneLaws → (org : ℕ) (q : OrgPlan) (t : Tenant) (name : List ℕ) (x : Remaining) → org < 2 ^ 32 → FitsPlan q t → IsSound t → no_such_rule t name ≡ None → x.row ≡ org_of org (without_rule name t) → FitsRemaining org name x
    → Takes org q t (remove_sharing_rule t name) done SamePlan (changes_of x)
gone_takes laws org q t name x small plan sound free is fits =
    let u = without_rule name t in
    let v = remove_sharing_rule t name in
    let same : v ≡ accept done u = ap (λ (rule : Rule). unless rule t (accept done u)) (one_first (no_such_rule t name) free) in
    let sound_u : IsSound u = subst IsSound (ap (λ (v : Verdict). v.tenant) same) (laws.sound t name sound) in
    let next : Remaining = record { row = org_of org u; key = key_of_name org name } in
    let takes : Takes org q t (accept done u) done SamePlan (changes_of next) = record {
      answer = refl;
      sound = sound_u;
      plan = q;
      kept = refl;
      fits = laws.org.plan q t u refl refl plan;
      are = (
        put_is_of org_form org q u (org_of org u) (laws.org.fits org u small sound_u) refl (laws.org.counted q u org),
        ((subst (λ (k : Val sharing_form.key). Rattle.store_rows.specs.Keys.FitsKey (sharing_form.named k)) fits.is (sharing_form.fits x.key fits.key), refl, laws.row q t org name fits.utf8), tt),
      );
      rest = λ k of apart.
          let one = beside (change_to org_form (org_of org u)) ((key.Sharing org (lower_bytes name), None) ∷ []) k apart in
          let two = beside (key.Sharing org (lower_bytes name), None) [] k one.1 in
          laws.rest q t name k (other_org org k of one.0) (other_sharing org name k of two.0);
    } in
    subst (λ (y : Verdict). Takes org q t y done SamePlan (changes_of x)) (sym same)
    (subst (λ (r : OrgRow). Takes org q t (accept done u) done SamePlan (change_to org_form r ∷ (sharing_form.named x.key, None) ∷ [])) (sym is)
    (subst (λ (k : Val sharing_form.key). Takes org q t (accept done u) done SamePlan (change_to org_form (org_of org u) ∷ (sharing_form.named k, None) ∷ [])) (sym fits.is) takes))

-- whatever the organisation has, both rows are at its keys
pub gone_own : (org : ℕ) (name : List ℕ) (x : Remaining) → FitsRemaining org name x → x.row.org ≡ org → AllByRecursion (IsIn org) (changes_of x)
gone_own org name x fits own = (
  put_is_in org_form org x.row fits.row (ap (λ (n : ℕ). Some n) own),
  ((sharing_form.fits x.key fits.key, ap (λ (k : Val sharing_form.key). Rattle.store_abstraction.specs.Stands.org_of_key (sharing_form.named k)) fits.is), tt),
)

-- ---- the organisation's row

pub row_is : (org : ℕ) (q : OrgPlan) (t : Tenant) (m : Tables) (r : Result OrgRow StoreFail) (row : OrgRow) → FindsThere org (own_row org) m r → r ≡ Ok row → StandsIn org q m (Some t) → row ≡ org_of org t
row_is org q t m r row h was s = some_is row (org_of org t) (subst (FindsThere org (own_row org) m) was h q (Some t) s)
