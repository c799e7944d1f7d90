-- The rows of an object's validation rules among those of its organisation alone, in the order of their keys.
use Rattle.std.proofs.Common.{◌≡◌, ℕ, ◌<◌, ◌^◌, true, cond, T, IsTrue, List, [], ◌∷◌, ◌++◌, map, Option, Some, None, refl, sym, ap, subst, ◌∙◌, inl, inr, arith, Ordering}
use Rattle.std.specs.Prelude.{slice_index}
use Rattle.std.specs.FinMap.{is_sorted}
use Rattle.std.specs.FinMap.Entries.{below_all}
use Rattle.std.specs.Option.{option_and_then, option_map}
use Rattle.std.specs.Ordering.{is_lt, nat_cmp, ordering_then}
use Rattle.std.specs.Str.{bytes_eq}
use Rattle.std.proofs.lemmas.Cmp.{nat_list_cmp_total, tied_itself}
use Rattle.std.proofs.lemmas.Slice.Eq.{bytes_eq-Decides}
use Rattle.std.proofs.lemmas.Bool.{false≢true as differ}
use Rattle.base_lemmas.proofs.Bools.{T-and_first as t_first, T-and_second as t_second, true_from_T as t_true, T-and_from as t_both, by_answer as pick}
use Rattle.base_lemmas.proofs.Orders.{nat_cmp-self as tied}
use Rattle.base_lemmas.proofs.Numbers.{eqb-self as eqb_same}
use Rattle.std.proofs.lemmas.Option.{same_Some as some_is}
use Rattle.store_kv.specs.Prefixes.{raised}
use Rattle.store_kv.specs.Tables.{Has as HasRow, bytes_cmp, is_between}
use Rattle.store_rows.specs.declared.validation.ValidationRow.{ValidationRow}
use Rattle.store_rows.specs.Forms.{FitsForm, key_bytes, row_bytes}
use Rattle.store_rows.specs.Keys.{FitsKey, Key, Sharing, Validation, spell}
use Rattle.store_rows.specs.Listings.{ListsBetween, with_key}
use Rattle.store_rows.specs.Rows.{validation_form}
use Rattle.model.specs.Membership.{Has}
use Rattle.model.specs.Names.{is_stem}
use Rattle.model.specs.Objects.{object_numbered}
use Rattle.model.specs.RuleFormulas.{name_cmp}
use Rattle.model.specs.Sound.{IsSound}
use Rattle.model.specs.Tenant as model
use Rattle.model.specs.Tenant.{Tenant, ValidationRule}
use Rattle.store_codec.specs.Composed.{ordered}
use Rattle.store_codec.specs.Plain.{number16, number32, number8}
use Rattle.store_codec.specs.Shapes.{spelled}
use Rattle.store_abstraction.specs.Local.{rows_alone}
use Rattle.store_abstraction.specs.Metadata.{lower_bytes, named_so, validation_of}
use Rattle.store_abstraction.specs.Plan.{OrgPlan}
use Rattle.store_abstraction.specs.Stands.{row_in}
use Rattle.store_abstraction.proofs.MetadataLists.{BeginsSo, ComparesKeys, UnderPrefix}
use Rattle.store_abstraction.proofs.Spelled.{stem_bytes, stem_encoded}
use Rattle.base_value.specs.Texts.{lower}

-- ---- laws of keys and of rows, as `store_rows`, `store_codec` and `store_abstraction` say

abbrev pub RulesFit : Type 0
RulesFit = (org : ℕ) (t : Tenant) (n : ℕ) (o : model.Object) (r : ValidationRule) → org < 2 ^ 32 → IsSound t → object_numbered t n ≡ Some o
    → Has o.validation_rules r → FitsForm validation_form (validation_of org n r)

pub record KeyLaws : Type 0 where
  pub under : UnderPrefix
  pub compares : ComparesKeys
  pub begins : BeginsSo
  pub fits : RulesFit

-- ---- tests as types

-- ---- rules in the order of their names

abbrev named : List ValidationRule → List (List ℕ × ValidationRule)
named rules = map (λ (r : ValidationRule). (r.name, r)) rules

-- these are stems
abbrev pub HaveStems : List ValidationRule → Type 0
HaveStems rules = (r : ValidationRule) → Has rules r → IsTrue (is_stem r.name)

below_has : (k : List ℕ) (rules : List ValidationRule) (r : ValidationRule) → T (below_all name_cmp k (named rules)) → Has rules r → is_lt (name_cmp k r.name) ≡ true
below_has k [] r h has = absurd has
below_has k (x ∷ rules) r h (inl e) =
    subst (λ (y : ValidationRule). is_lt (name_cmp k y.name) ≡ true) (sym e) (t_true (is_lt (name_cmp k x.name)) (t_first (is_lt (name_cmp k x.name)) (below_all name_cmp k (named rules)) h))
below_has k (x ∷ rules) r h (inr has) = below_has k rules r (t_second (is_lt (name_cmp k x.name)) (below_all name_cmp k (named rules)) h) has

not_less : (a b : List ℕ) → lower a ≡ lower b → is_lt (name_cmp a b) ≡ true → ⊥
not_less a b same h =
    differ (sym (ap (λ (o : Ordering). is_lt o) (tied_itself nat_list_cmp_total (lower b))) ∙ ap (λ (x : List ℕ). is_lt (bytes_cmp x (lower b))) (sym same) ∙ h)

same_lower : (a b : List ℕ) → IsTrue (is_stem a) → IsTrue (is_stem b) → lower_bytes a ≡ lower_bytes b → lower a ≡ lower b
same_lower a b ha hb e = sym (stem_encoded a ha) ∙ e ∙ stem_encoded b hb

-- a rule is found by its name
found_itself : (rules : List ValidationRule) (r : ValidationRule) → HaveStems rules → T (is_sorted name_cmp (named rules)) → Has rules r → named_so (λ x. x.name) rules (lower_bytes r.name) ≡ Some r
found_itself [] r stems h has = absurd has
found_itself (x ∷ rules) r stems h (inl e) =
    subst (λ (y : ValidationRule). named_so (λ z. z.name) (x ∷ rules) (lower_bytes y.name) ≡ Some y) (sym e) (rw ((bytes_eq-Decides (lower_bytes x.name) (lower_bytes x.name)).1 refl) refl)
found_itself (x ∷ rules) r stems h (inr has) =
    let above = t_first (below_all name_cmp x.name (named rules)) (is_sorted name_cmp (named rules)) h in
    let rest = found_itself rules r (λ y there. stems y (inr there)) (t_second (below_all name_cmp x.name (named rules)) (is_sorted name_cmp (named rules)) h) has in
    pick (bytes_eq (lower_bytes x.name) (lower_bytes r.name)) (λ b. bytes_eq (lower_bytes x.name) (lower_bytes r.name) ≡ b → cond b (Some x) (named_so (λ z. z.name) rules (lower_bytes r.name)) ≡ Some r)
    (λ _ same. absurd (not_less x.name r.name (same_lower x.name r.name (stems x (inl refl)) (stems r (inr has)) ((bytes_eq-Decides (lower_bytes x.name) (lower_bytes r.name)).0 same)) (below_has x.name rules r above has)))
    (λ _ _. rest)
    refl

-- what is found by a name has it
named_found : (rules : List ValidationRule) (key : List ℕ) (r : ValidationRule) → named_so (λ x. x.name) rules key ≡ Some r → Has rules r × (lower_bytes r.name ≡ key)
named_found [] key r e = absurd cc
named_found (x ∷ rules) key r e =
    pick (bytes_eq (lower_bytes x.name) key) (λ b. bytes_eq (lower_bytes x.name) key ≡ b → cond b (Some x) (named_so (λ x. x.name) rules key) ≡ Some r → Has (x ∷ rules) r × (lower_bytes r.name ≡ key))
    (λ _ is g. let same : x ≡ r = some_is x r g in (inl (sym same), subst (λ (y : ValidationRule). lower_bytes y.name ≡ key) same ((bytes_eq-Decides (lower_bytes x.name) key).0 is)))
    (λ _ _ g. let more = named_found rules key r g in (inr more.0, more.1))
    refl
    e

-- ---- their keys

abbrev pub prefix_of : (org n : ℕ) → List ℕ
prefix_of org n = number32 org ++ (number8 0 ++ number16 n)

abbrev pub key_at : (org n : ℕ) → List ℕ → List ℕ
key_at org n name = spelled validation_form.key (org, (tt, (n, lower_bytes name)))

-- the key of a sharing rule doesn't begin so
marks_apart : (org n other : ℕ) (name rest : List ℕ) → number32 other ++ (number8 1 ++ name) ≡ (number32 org ++ (number8 0 ++ number16 n)) ++ rest → ⊥
unfolding number32
marks_apart org n other name rest e =
    let wrong : 1 ≡ 0 = ap (λ (bytes : List ℕ). slice_index bytes 4) e in
    omega (arith, wrong)

module _ (keys : KeyLaws) (q : OrgPlan) (t : Tenant) (org n : ℕ) (lo : org < 2 ^ 32) (small : n < 2 ^ 16) (sound : IsSound t) (o : model.Object) (there : object_numbered t n ≡ Some o) where
  abbrev rows : Key → Option (List ℕ)
  rows = rows_alone org q (Some t)

  compare : (a b : List ℕ) → IsTrue (is_stem a) → IsTrue (is_stem b) → bytes_cmp (key_at org n a) (key_at org n b) ≡ name_cmp a b
  compare a b ha hb =
      keys.compares validation_form.key refl (org, (tt, (n, lower_bytes a))) (org, (tt, (n, lower_bytes b))) (lo, (tt, (small, stem_bytes a ha))) (lo, (tt, (small, stem_bytes b hb)))
      ∙ ap (λ (x : Ordering). ordering_then x (ordering_then (nat_cmp n n) (bytes_cmp (lower_bytes a) (lower_bytes b)))) (tied org)
      ∙ ap (λ (x : Ordering). ordering_then x (bytes_cmp (lower_bytes a) (lower_bytes b))) (tied n)
      ∙ ap (λ (x : List ℕ). bytes_cmp x (lower_bytes b)) (stem_encoded a ha)
      ∙ ap (λ (x : List ℕ). bytes_cmp (lower a) x) (stem_encoded b hb)

  below_keys : (a : List ℕ) (rules : List ValidationRule) → IsTrue (is_stem a) → HaveStems rules → T (below_all name_cmp a (named rules))
      → T (below_all bytes_cmp (key_at org n a) (map (with_key validation_form) (map (validation_of org n) rules)))
  below_keys a [] ha stems h = tt
  below_keys a (r ∷ rules) ha stems h =
      let less = t_first (is_lt (name_cmp a r.name)) (below_all name_cmp a (named rules)) h in
      t_both (is_lt (bytes_cmp (key_at org n a) (key_at org n r.name))) (below_all bytes_cmp (key_at org n a) (map (with_key validation_form) (map (validation_of org n) rules)))
      (subst (λ (x : Ordering). T (is_lt x)) (sym (compare a r.name ha (stems r (inl refl)))) less)
      (below_keys a rules ha (λ x has. stems x (inr has)) (t_second (is_lt (name_cmp a r.name)) (below_all name_cmp a (named rules)) h))

  keys_rise : (rules : List ValidationRule) → HaveStems rules → T (is_sorted name_cmp (named rules)) → T (is_sorted bytes_cmp (map (with_key validation_form) (map (validation_of org n) rules)))
  keys_rise [] stems h = tt
  keys_rise (r ∷ rules) stems h =
      t_both (below_all bytes_cmp (key_at org n r.name) (map (with_key validation_form) (map (validation_of org n) rules))) (is_sorted bytes_cmp (map (with_key validation_form) (map (validation_of org n) rules)))
      (below_keys r.name rules (stems r (inl refl)) (λ x has. stems x (inr has)) (t_first (below_all name_cmp r.name (named rules)) (is_sorted name_cmp (named rules)) h))
      (keys_rise rules (λ x has. stems x (inr has)) (t_second (below_all name_cmp r.name (named rules)) (is_sorted name_cmp (named rules)) h))

  -- ---- their members

  row_has : (rules : List ValidationRule) (u : ValidationRow) → HasRow (map (validation_of org n) rules) u → (r : ValidationRule) × Has rules r × (u ≡ validation_of org n r)
  row_has [] u h = absurd h
  row_has (x ∷ rules) u (inl e) = (x, inl refl, e)
  row_has (x ∷ rules) u (inr h) = let (r, has, is) = row_has rules u h in (r, inr has, is)

  has_row : (rules : List ValidationRule) (r : ValidationRule) → Has rules r → HasRow (map (validation_of org n) rules) (validation_of org n r)
  has_row [] r h = absurd h
  has_row (x ∷ rules) r (inl e) = inl (ap (validation_of org n) e)
  has_row (x ∷ rules) r (inr h) = inr (has_row rules r h)

  rows_are : (name : List ℕ) → row_in q t (Validation org n name) ≡ option_map (λ r. row_bytes validation_form (validation_of org n r)) (named_so (λ r. r.name) o.validation_rules name)
  unfolding row_in
  rows_are name = ap (λ (x : Option model.Object). option_map (λ r. row_bytes validation_form (validation_of org n r)) (option_and_then (λ o. named_so (λ r. r.name) o.validation_rules name) x)) there

  row_there : (name : List ℕ) → rows (Validation org n name) ≡ option_map (λ r. row_bytes validation_form (validation_of org n r)) (named_so (λ r. r.name) o.validation_rules name)
  row_there name = ap (λ b. cond b (row_in q t (Validation org n name)) None) (eqb_same org) ∙ rows_are name

  some_found : (x : Option ValidationRule) (bytes : List ℕ) → option_map (λ r. row_bytes validation_form (validation_of org n r)) x ≡ Some bytes → (r : ValidationRule) × (x ≡ Some r)
  some_found None bytes e = absurd cc
  some_found (Some r) bytes e = (r, refl)

  -- ---- the interval of their keys

  module _ (above : List ℕ) (rises : raised (prefix_of org n) ≡ Some above) (stems : HaveStems o.validation_rules) (sorted : T (is_sorted name_cmp (named o.validation_rules))) where
    inside : (name : List ℕ) → IsTrue (is_stem name) → is_between (prefix_of org n) above (key_at org n name) ≡ true
    inside name h =
        (keys.under (Validation org n (lower_bytes name)) (prefix_of org n) above (lo, (tt, (small, stem_bytes name h))) rises).1
        ((keys.begins 3 validation_form.key (org, (tt, (n, lower_bytes name))) (org, (tt, n)) (lo, (tt, (small, stem_bytes name h))) (lo, (tt, small))).1 refl)

    complete : (k : Key) (bytes : List ℕ) → FitsKey k → (spell k).0 ≡ 6 → IsTrue (is_between (prefix_of org n) above (spell k).1) → rows k ≡ Some bytes
        → (u : ValidationRow) × HasRow (map (validation_of org n) o.validation_rules) u × (Validation u.org u.object u.lower_name ≡ k)
    complete (Validation a m name) bytes fits table within here =
        let starts = (keys.under (Validation a m name) (prefix_of org n) above fits rises).0 within in
        let same : ◌≡◌ {A = ℕ × (Unit {0} × ℕ)} (a, (tt, m)) (org, (tt, n)) = (keys.begins 3 validation_form.key (a, (tt, (m, name))) (org, (tt, n)) fits (lo, (tt, small))).0 starts in
        let is : Validation a m name ≡ Validation org n name = ap (λ (x : ℕ × (Unit {0} × ℕ)). Validation x.0 x.1.1 name) same in
        let (r, found) = some_found (named_so (λ r. r.name) o.validation_rules name) bytes (sym (row_there name) ∙ ap rows (sym is) ∙ here) in
        let (has, named_so_too) = named_found o.validation_rules name r found in
        (validation_of org n r, has_row o.validation_rules r has, ap (λ (x : List ℕ). Validation org n x) named_so_too ∙ sym is)
    complete (Sharing a name) bytes fits table within here =
        let (rest, starts) = (keys.under (Sharing a name) (prefix_of org n) above fits rises).0 within in
        absurd (marks_apart org n a (ordered name) rest starts)
    complete k bytes fits table within here = absurd (omega (arith, table))

    pub rules_listed : ListsBetween validation_form rows (prefix_of org n) above (map (validation_of org n) o.validation_rules)
    rules_listed = record {
      rises = keys_rise o.validation_rules stems sorted;
      sound = λ u has.
          let (r, among, is) = row_has o.validation_rules u has in
          subst (λ (v : ValidationRow). FitsForm validation_form v × IsTrue (is_between (prefix_of org n) above (key_bytes validation_form v)) × (rows (Validation v.org v.object v.lower_name) ≡ Some (row_bytes validation_form v))) (sym is) (
            keys.fits org t n o r lo sound there among,
            inside r.name (stems r among),
            row_there (lower_bytes r.name) ∙ ap (option_map (λ r. row_bytes validation_form (validation_of org n r))) (found_itself o.validation_rules r stems sorted among),
          );
      complete = complete;
    }
