-- The rows of an organisation's sharing rules, in the order of their lower-case names, are the rules of its tenant.
use Rattle.std.proofs.Common.{◌≡◌, ℕ, ◌<◌, ◌≤◌, ◌^◌, Bool, true, cond, T, IsTrue, List, [], ◌∷◌, ◌++◌, length, map, take, Option, Some, None, refl, sym, ap, subst, ◌∙◌, inl, inr, arith, bytes_eq, Ordering}
use Rattle.std.specs.Prelude.{◌-◌, IsSome, Result, Ok, Err, Vec}
use Rattle.std.specs.Cmp.Lexicographic.{nat_list_cmp_total}
use Rattle.std.specs.FinMap.{is_sorted}
use Rattle.std.specs.FinMap.Entries.{below_all}
use Rattle.std.specs.Option.{option_and_then, option_map}
use Rattle.std.specs.Ordering.{is_lt, ordering_then}
use Rattle.std.proofs.lemmas.Cmp.{tied_itself}
use Rattle.std.proofs.lemmas.List.{length-map, take_all}
use Rattle.std.proofs.lemmas.Slice.Eq.{bytes_eq-Decides}
use Rattle.std.proofs.lemmas.Bool.{false≢true as differ}
use Rattle.std.proofs.lemmas.Option.{none-some as clash_some, same_Some as some_is}
use Rattle.base_lemmas.proofs.Bools.{T-and_first as t_first, T-and_second as t_second, true_from_T as t_true, T-and_from as t_both, by_answer as pick}
use Rattle.base_lemmas.proofs.Orders.{nat_cmp-self as tied}
use Rattle.base_lemmas.proofs.Numbers.{eqb-self as eqb_same}
use Rattle.store_kv.specs.declared.keeper.KeptRow.{KeptRow}
use Rattle.store_kv.specs.Prefixes.{StartsWith, raised}
use Rattle.store_kv.specs.Tables.{Has as HasRow, Tables, bytes_cmp, is_between}
use Rattle.store_rows.specs.declared.fail.StoreFail.{StoreFail}
use Rattle.store_rows.specs.declared.fail.StoreFail.TheVariants.{Damaged, Keeper, Memory}
use Rattle.store_rows.specs.declared.sharing.SharingRow.{SharingRow}
use Rattle.store_rows.specs.Forms.{FitsForm, key_bytes, row_bytes}
use Rattle.store_rows.specs.Keys.{FitsKey, Key, Sharing, Validation, spell}
use Rattle.store_rows.specs.Listings.{ListsBetween, ListsTo, rows_to, with_key}
use Rattle.store_rows.specs.Reads.{ListsAs}
use Rattle.store_rows.specs.Rows.{sharing_form}
use Rattle.model.specs.Known.{known}
use Rattle.model.specs.Membership.{Has}
use Rattle.model.specs.Names.{is_stem}
use Rattle.model.specs.RuleFormulas.{name_cmp}
use Rattle.model.specs.Sound.{IsSound}
use Rattle.model.specs.SoundSharing.{IsSoundRule}
use Rattle.model.specs.Tenant.{SharingRule, Tenant}
use Rattle.store_codec.specs.Plain.{number32}
use Rattle.store_codec.specs.Shapes.{Both, Number16, Number32, Number8, Ordered, spelled}
use Rattle.people_rows.specs.Roster.{ListsIn}
use Rattle.store_abstraction.specs.Local.{StandsIn, part_of, rows_alone}
use Rattle.store_abstraction.specs.Metadata.{lower_bytes, named_so, sharing_of}
use Rattle.store_abstraction.specs.Plan.{OrgPlan}
use Rattle.store_abstraction.specs.Stands.{row_in}
use Rattle.store_abstraction.proofs.Intervals.{under_shorter}
use Rattle.store_abstraction.proofs.LayoutReads.{ListedIn}
use Rattle.store_abstraction.proofs.MetadataLists.{KeyLaws}
use Rattle.store_abstraction.proofs.Names.{MakesIds}
use Rattle.store_abstraction.proofs.Pages.{GivesRows, PageLaws, page_gives}
use Rattle.store_abstraction.proofs.Spelled.{stem_bytes, stem_encoded}
use Rattle.base_value.specs.Texts.{lower}
use Rattle.people_rows.specs.sharing.SharingRules.{sharing_rows}
use Rattle.people_rows.proofs.SharingFits.{all_has, rule_fits}

-- ---- tests as types

-- ---- rules in the order of their names

abbrev named : List SharingRule → List (List ℕ × SharingRule)
named rules = map (λ (r : SharingRule). (r.name, r)) rules

-- these are stems
abbrev HaveStems : List SharingRule → Type 0
HaveStems rules = (r : SharingRule) → Has rules r → IsTrue (is_stem r.name)

below_has : (k : List ℕ) (rules : List SharingRule) (r : SharingRule) → T (below_all name_cmp k (named rules)) → Has rules r → is_lt (name_cmp k r.name) ≡ true
below_has k [] r h has = absurd has
below_has k (x ∷ rules) r h (inl e) =
    subst (λ (y : SharingRule). is_lt (name_cmp k y.name) ≡ true) (sym e) (t_true (is_lt (name_cmp k x.name)) (t_first (is_lt (name_cmp k x.name)) (below_all name_cmp k (named rules)) h))
below_has k (x ∷ rules) r h (inr has) = below_has k rules r (t_second (is_lt (name_cmp k x.name)) (below_all name_cmp k (named rules)) h) has

not_less : (a b : List ℕ) → lower a ≡ lower b → is_lt (name_cmp a b) ≡ true → ⊥
not_less a b same h =
    differ (sym (ap (λ (o : Ordering). is_lt o) (tied_itself nat_list_cmp_total (lower b))) ∙ ap (λ (x : List ℕ). is_lt (bytes_cmp x (lower b))) (sym same) ∙ h)

same_lower : (a b : List ℕ) → IsTrue (is_stem a) → IsTrue (is_stem b) → lower_bytes a ≡ lower_bytes b → lower a ≡ lower b
same_lower a b ha hb e = sym (stem_encoded a ha) ∙ e ∙ stem_encoded b hb

-- a rule is found by its name
found_itself : (rules : List SharingRule) (r : SharingRule) → HaveStems rules → T (is_sorted name_cmp (named rules)) → Has rules r → named_so (λ x. x.name) rules (lower_bytes r.name) ≡ Some r
found_itself [] r stems h has = absurd has
found_itself (x ∷ rules) r stems h (inl e) =
    subst (λ (y : SharingRule). named_so (λ z. z.name) (x ∷ rules) (lower_bytes y.name) ≡ Some y) (sym e) (rw ((bytes_eq-Decides (lower_bytes x.name) (lower_bytes x.name)).1 refl) refl)
found_itself (x ∷ rules) r stems h (inr has) =
    let above = t_first (below_all name_cmp x.name (named rules)) (is_sorted name_cmp (named rules)) h in
    let rest = found_itself rules r (λ y there. stems y (inr there)) (t_second (below_all name_cmp x.name (named rules)) (is_sorted name_cmp (named rules)) h) has in
    pick (bytes_eq (lower_bytes x.name) (lower_bytes r.name)) (λ b. bytes_eq (lower_bytes x.name) (lower_bytes r.name) ≡ b → cond b (Some x) (named_so (λ z. z.name) rules (lower_bytes r.name)) ≡ Some r)
    (λ _ same. absurd (not_less x.name r.name (same_lower x.name r.name (stems x (inl refl)) (stems r (inr has)) ((bytes_eq-Decides (lower_bytes x.name) (lower_bytes r.name)).0 same)) (below_has x.name rules r above has)))
    (λ _ _. rest)
    refl

-- what is found by a name has it
named_found : (rules : List SharingRule) (key : List ℕ) (r : SharingRule) → named_so (λ x. x.name) rules key ≡ Some r → Has rules r × (lower_bytes r.name ≡ key)
named_found [] key r e = absurd cc
named_found (x ∷ rules) key r e =
    pick (bytes_eq (lower_bytes x.name) key) (λ b. bytes_eq (lower_bytes x.name) key ≡ b → cond b (Some x) (named_so (λ x. x.name) rules key) ≡ Some r → Has (x ∷ rules) r × (lower_bytes r.name ≡ key))
    (λ _ is g. let same : x ≡ r = some_is x r g in (inl (sym same), subst (λ (y : SharingRule). lower_bytes y.name ≡ key) same ((bytes_eq-Decides (lower_bytes x.name) key).0 is)))
    (λ _ _ g. let more = named_found rules key r g in (inr more.0, more.1))
    refl
    e

-- ---- their keys

abbrev pub prefix_of : (org : ℕ) → List ℕ
prefix_of org = number32 org ++ 1 ∷ []

abbrev key_at : (org : ℕ) → List ℕ → List ℕ
key_at org name = spelled sharing_form.key (org, (tt, lower_bytes name))

row_has : (org : ℕ) (rules : List SharingRule) (u : SharingRow) → HasRow (map (sharing_of org) rules) u → (r : SharingRule) × Has rules r × (u ≡ sharing_of org r)
row_has org [] u h = absurd h
row_has org (x ∷ rules) u (inl e) = (x, inl refl, e)
row_has org (x ∷ rules) u (inr h) = let (r, has, is) = row_has org rules u h in (r, inr has, is)

has_row : (org : ℕ) (rules : List SharingRule) (r : SharingRule) → Has rules r → HasRow (map (sharing_of org) rules) (sharing_of org r)
has_row org [] r h = absurd h
has_row org (x ∷ rules) r (inl e) = inl (ap (sharing_of org) e)
has_row org (x ∷ rules) r (inr h) = inr (has_row org rules r h)

some_found : (org : ℕ) (x : Option SharingRule) (bytes : List ℕ) → option_map (λ r. row_bytes sharing_form (sharing_of org r)) x ≡ Some bytes → (r : SharingRule) × (x ≡ Some r)
some_found org None bytes e = absurd cc
some_found org (Some r) bytes e = (r, refl)

module _ (laws : KeyLaws) (makes : MakesIds) (org : ℕ) (lo : org < 2 ^ 32) where
  compare : (a b : List ℕ) → IsTrue (is_stem a) → IsTrue (is_stem b) → bytes_cmp (key_at org a) (key_at org b) ≡ name_cmp a b
  compare a b ha hb =
      laws.compares sharing_form.key refl (org, (tt, lower_bytes a)) (org, (tt, lower_bytes b)) (lo, (tt, stem_bytes a ha)) (lo, (tt, stem_bytes b hb))
      ∙ ap (λ (x : Ordering). ordering_then x (bytes_cmp (lower_bytes a) (lower_bytes b))) (tied org)
      ∙ ap (λ (x : List ℕ). bytes_cmp x (lower_bytes b)) (stem_encoded a ha)
      ∙ ap (λ (x : List ℕ). bytes_cmp (lower a) x) (stem_encoded b hb)

  below_keys : (a : List ℕ) (rules : List SharingRule) → IsTrue (is_stem a) → HaveStems rules → T (below_all name_cmp a (named rules))
      → T (below_all bytes_cmp (key_at org a) (map (with_key sharing_form) (map (sharing_of org) rules)))
  below_keys a [] ha stems h = tt
  below_keys a (r ∷ rules) ha stems h =
      let less = t_first (is_lt (name_cmp a r.name)) (below_all name_cmp a (named rules)) h in
      t_both (is_lt (bytes_cmp (key_at org a) (key_at org r.name))) (below_all bytes_cmp (key_at org a) (map (with_key sharing_form) (map (sharing_of org) rules)))
      (subst (λ (x : Ordering). T (is_lt x)) (sym (compare a r.name ha (stems r (inl refl)))) less)
      (below_keys a rules ha (λ x has. stems x (inr has)) (t_second (is_lt (name_cmp a r.name)) (below_all name_cmp a (named rules)) h))

  keys_rise : (rules : List SharingRule) → HaveStems rules → T (is_sorted name_cmp (named rules)) → T (is_sorted bytes_cmp (map (with_key sharing_form) (map (sharing_of org) rules)))
  keys_rise [] stems h = tt
  keys_rise (r ∷ rules) stems h =
      t_both (below_all bytes_cmp (key_at org r.name) (map (with_key sharing_form) (map (sharing_of org) rules))) (is_sorted bytes_cmp (map (with_key sharing_form) (map (sharing_of org) rules)))
      (below_keys r.name rules (stems r (inl refl)) (λ x has. stems x (inr has)) (t_first (below_all name_cmp r.name (named rules)) (is_sorted name_cmp (named rules)) h))
      (keys_rise rules (λ x has. stems x (inr has)) (t_second (below_all name_cmp r.name (named rules)) (is_sorted name_cmp (named rules)) h))

  -- a key of the table under the mark is one of a sharing rule
  marks_same : (o m n : ℕ) (name : List ℕ) → FitsKey (Validation o n name) → StartsWith (prefix_of org) (spell (Validation o n name)).1 → ◌≡◌ {A = ℕ × ℕ} (o, 0) (org, 1)
  marks_same o m n name fits starts = (laws.begins 2 (Both Number32 (Both Number8 (Both Number16 Ordered))) (o, (0, (n, name))) (org, 1) (fits.0, (omega arith, fits.1.1)) (lo, omega arith)).0 starts

  rule_under : (k : Key) → FitsKey k → (spell k).0 ≡ 6 → StartsWith (prefix_of org) (spell k).1 → (name : List ℕ) × (k ≡ Sharing org name)
  rule_under (Sharing o name) fits table starts =
      let same : ◌≡◌ {A = ℕ × Unit {0}} (o, tt) (org, tt) = (laws.begins 2 sharing_form.key (o, (tt, name)) (org, tt) fits (lo, tt)).0 starts in
      (name, ap (λ (x : ℕ × Unit {0}). Sharing x.0 name) same)
  rule_under (Validation o n name) fits table starts =
      let wrong = ap (λ (x : ℕ × ℕ). x.1) (marks_same o 0 n name fits starts) in
      absurd (omega (arith, wrong))
  rule_under k fits table starts = absurd (omega (arith, table))

  module _ (q : OrgPlan) where
    rows_are : (t : Tenant) (name : List ℕ) → row_in q t (Sharing org name) ≡ option_map (λ r. row_bytes sharing_form (sharing_of org r)) (named_so (λ r. r.name) t.sharing_rules name)
    unfolding row_in
    rows_are t name = refl

    row_there : (t : Option Tenant) (name : List ℕ) → rows_alone org q t (Sharing org name) ≡ option_and_then (λ u. row_in q u (Sharing org name)) t
    row_there t name = ap (λ (b : Bool). cond b (option_and_then (λ u. row_in q u (Sharing org name)) t) None) (eqb_same org)

    module _ (t : Tenant) (sound : IsSound t) (above : List ℕ) (g : raised (prefix_of org) ≡ Some above) where
      stems : HaveStems t.sharing_rules
      stems r has = (all_has (IsSoundRule (known t) t.objects t.rule_numbers) t.sharing_rules r sound.rules.each has).name

      inside : (name : List ℕ) → IsTrue (is_stem name) → is_between (prefix_of org) above (key_at org name) ≡ true
      inside name h =
          (laws.under (Sharing org (lower_bytes name)) (prefix_of org) above (lo, (tt, stem_bytes name h)) g).1
          ((laws.begins 2 sharing_form.key (org, (tt, lower_bytes name)) (org, tt) (lo, (tt, stem_bytes name h)) (lo, tt)).1 refl)

      here : (name : List ℕ) → rows_alone org q (Some t) (Sharing org name) ≡ option_map (λ r. row_bytes sharing_form (sharing_of org r)) (named_so (λ r. r.name) t.sharing_rules name)
      here name = row_there (Some t) name ∙ rows_are t name

      listed : ListsBetween sharing_form (rows_alone org q (Some t)) (prefix_of org) above (map (sharing_of org) t.sharing_rules)
      listed = record {
        rises = keys_rise t.sharing_rules stems sound.rules.rise;
        sound = λ u has.
            let (r, among, is) = row_has org t.sharing_rules u has in
            subst (λ (v : SharingRow). FitsForm sharing_form v × IsTrue (is_between (prefix_of org) above (key_bytes sharing_form v)) × (rows_alone org q (Some t) (Sharing v.org v.lower_name) ≡ Some (row_bytes sharing_form v))) (sym is) (
              rule_fits makes t sound org lo r among,
              inside r.name (stems r among),
              here (lower_bytes r.name) ∙ ap (option_map (λ r. row_bytes sharing_form (sharing_of org r))) (found_itself t.sharing_rules r stems sound.rules.rise among),
            );
        complete = λ k row fits table between has.
            let it = rule_under k fits table ((laws.under k (prefix_of org) above fits g).0 between) in
            let there : option_map (λ r. row_bytes sharing_form (sharing_of org r)) (named_so (λ r. r.name) t.sharing_rules it.0) ≡ Some row = sym (here it.0) ∙ ap (rows_alone org q (Some t)) (sym it.1) ∙ has in
            let found = some_found org (named_so (λ r. r.name) t.sharing_rules it.0) row there in
            let one = named_found t.sharing_rules it.0 found.0 found.1 in
            (sharing_of org found.0, has_row org t.sharing_rules found.0 one.0, ap (λ (x : List ℕ). Sharing org x) one.1 ∙ sym it.1);
      }

    none_here : (above : List ℕ) → raised (prefix_of org) ≡ Some above → ListsBetween sharing_form (rows_alone org q None) (prefix_of org) above []
    none_here above g = record {
      rises = tt;
      sound = λ u has. absurd has;
      complete = λ k row fits table between has.
          let it = rule_under k fits table ((laws.under k (prefix_of org) above fits g).0 between) in
          absurd (clash_some row (sym (row_there None it.0) ∙ ap (rows_alone org q None) (sym it.1) ∙ has));
    }

    has_end : org < 2 ^ 32 - 1 → raised (prefix_of org) ≡ None → ⊥
    has_end known none = apart (raised (prefix_of org)) (laws.ends org (1 ∷ []) known) none
      where
        apart : (o : Option (List ℕ)) → IsSome o → o ≡ None → ⊥
        apart None it n = absurd cc
        apart (Some x) it n = absurd cc

    rules_listed : (m : Tables) (t : Option Tenant) → StandsIn org q m t → ListsTo sharing_form (rows_alone org q t) (prefix_of org) (raised (prefix_of org)) (sharing_rows org t)
    rules_listed m t s = by t s (raised (prefix_of org)) refl
      where
        by : (t : Option Tenant) → StandsIn org q m t → (a : Option (List ℕ)) → raised (prefix_of org) ≡ a → ListsTo sharing_form (rows_alone org q t) (prefix_of org) a (sharing_rows org t)
        by None s None g = refl
        by None s (Some above) g = none_here above g
        by (Some t) s None g = absurd (has_end s.number g)
        by (Some t) s (Some above) g = listed t s.sound above g

    few_rows : (m : Tables) (t : Option Tenant) → StandsIn org q m t → length (sharing_rows org t) ≤ 301
    few_rows m None s = omega arith
    few_rows m (Some t) s =
        let few = s.sound.rules.few in
        omega (arith, few, length-map t.sharing_rules (sharing_of org))

  -- the rows under the mark are those of the organisation's part
  in_part : ListedIn → (m : Tables) → rows_to m 6 (prefix_of org) (raised (prefix_of org)) ≡ rows_to (part_of org m) 6 (prefix_of org) (raised (prefix_of org))
  in_part listed m = by (raised (prefix_of org)) refl
    where
      by : (a : Option (List ℕ)) → raised (prefix_of org) ≡ a → rows_to m 6 (prefix_of org) a ≡ rows_to (part_of org m) 6 (prefix_of org) a
      by None e = refl
      by (Some above) e = listed m org 6 (prefix_of org) above (λ key inside. under_shorter (number32 org) (1 ∷ []) above key e inside)

  -- what is read under the mark is what the tenant has
  pub rules_read : ListedIn → PageLaws sharing_form → (m : Tables) {A : Type 0} (r : Result (Vec SharingRow A) StoreFail)
      → ListsAs sharing_form (take 301 (rows_to m 6 (prefix_of org) (raised (prefix_of org)))) r → ListsIn org (λ q t. sharing_rows org t) m r
  rules_read listed pages m r e =
      let e = subst (λ (rows : List KeptRow). ListsAs sharing_form (take 301 rows) r) (in_part listed m) e in
      given r (λ q t s.
      subst (λ (rows : List SharingRow). GivesRows rows r) (take_all 301 (sharing_rows org t) (few_rows q m t s))
      (page_gives sharing_form pages (part_of org m) (rows_alone org q t) s.rows (prefix_of org) (raised (prefix_of org)) (sharing_rows org t) 301 (rules_listed q m t s) r e))
    where
      given : {A : Type 0} (r : Result (Vec SharingRow A) StoreFail) → ((q : OrgPlan) (t : Option Tenant) → StandsIn org q m t → GivesRows (sharing_rows org t) r) → ListsIn org (λ q t. sharing_rows org t) m r
      given (Ok rows) h = h
      given (Err Damaged) h = h
      given (Err Keeper) h = tt
      given (Err Memory) h = tt
