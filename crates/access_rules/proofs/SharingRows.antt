-- The rows of sharing rules: those that stay where one comes or goes, and its own.
use Rattle.std.proofs.Common.{◌≡◌, ◌∙◌, inl, inr, ℕ, ◌+◌, Bool, true, false, not, ◌||◌, cond, is_lt, List, [], ◌∷◌, length, map, filter, Option, Some, None, refl, sym, ap, subst, arith, bytes_eq}
use Rattle.std.specs.Prelude.{T, is_some, encode_utf8_all}
use Rattle.std.specs.List.{find, list_any}
use Rattle.std.specs.Option.{option_map}
use Rattle.std.specs.declared.cmp.Ordering.{Ordering}
use Rattle.std.specs.FinMap.{is_sorted}
use Rattle.std.specs.FinMap.Entries.{below_all}
use Rattle.std.specs.Ordering.{nat_cmp}
use Rattle.std.specs.Cmp.Lexicographic.{slice_cmp}
use Rattle.std.specs.Str.{IsUtf8}
use Rattle.std.proofs.lemmas.Cmp.{nat_list_cmp_total, tied_itself}
use Rattle.std.proofs.lemmas.Slice.Eq.{bytes_eq-Decides}
use Rattle.std.proofs.lemmas.Str.{chars_from_encodes}
use Rattle.std.proofs.lemmas.Bool.{true≢false as clash}
use Rattle.base_lemmas.proofs.Bools.{by_answer as pick, same_both_ways as agree, T-and_first as t_first, T-and_second as t_second, true_from_T as t_true}
use Rattle.base_value.specs.Texts.{lower}
use Rattle.store_rows.specs.Forms.{row_bytes}
use Rattle.store_rows.specs.Keys as key
use Rattle.store_rows.specs.Keys.{Key}
use Rattle.store_rows.specs.Rows.{sharing_form}
use Rattle.model.specs.Fields.{same_name}
use Rattle.model.specs.Membership.{Has}
use Rattle.model.specs.Ordered.{put_in}
use Rattle.model.specs.RuleFormulas.{name_cmp}
use Rattle.model.specs.SharingRules.{with_rule}
use Rattle.model.specs.Tenant.{SharingRule, Tenant}
use Rattle.store_abstraction.specs.Metadata.{lower_bytes, named_so, sharing_of}
use Rattle.store_abstraction.specs.Plan.{OrgPlan}
use Rattle.store_abstraction.specs.Records.{is_org_key}
use Rattle.store_abstraction.specs.Stands.{kept_at, row_in}
use Rattle.access_rules.specs.Sharing.{is_sharing_key, without_rule}

-- ---- what is looked for in a list

abbrev in_names : SharingRule → SharingRule → Ordering
in_names a b = name_cmp a.name b.name

-- one that doesn't pass changes nothing
find_put : (q : SharingRule → Bool) (s : SharingRule) (xs : List SharingRule) → q s ≡ false → find q (put_in in_names s xs) ≡ find q xs
find_put q s [] e = ap (λ (b : Bool). cond b (Some s) None) e
find_put q s (y ∷ ys) e = by (find_put q s ys e) (is_lt (in_names s y))
  where
    by : find q (put_in in_names s ys) ≡ find q ys → (b : Bool) → find q (cond b (s ∷ y ∷ ys) (y ∷ put_in in_names s ys)) ≡ find q (y ∷ ys)
    by rest true = ap (λ (b : Bool). cond b (Some s) (find q (y ∷ ys))) e
    by rest false = ap (cond (q y) (Some y)) rest

-- one that passes is found where no other does
find_new : (q : SharingRule → Bool) (s : SharingRule) (xs : List SharingRule) → q s ≡ true → find q xs ≡ None → find q (put_in in_names s xs) ≡ Some s
find_new q s [] e none = ap (λ (b : Bool). cond b (Some s) None) e
find_new q s (y ∷ ys) e none = by (q y) refl (find_new q s ys e) (is_lt (in_names s y))
  where
    gone : ◌≡◌ {A = Option SharingRule} (Some y) None → ⊥
    gone e = cc

    by : (c : Bool) → q y ≡ c → (find q ys ≡ None → find q (put_in in_names s ys) ≡ Some s) → (b : Bool) → find q (cond b (s ∷ y ∷ ys) (y ∷ put_in in_names s ys)) ≡ Some s
    by true h rest b = absurd (gone (sym (ap (λ (c : Bool). cond c (Some y) (find q ys)) h) ∙ none))
    by false h rest true = ap (λ (b : Bool). cond b (Some s) (find q (y ∷ ys))) e
    by false h rest false = ap (λ (b : Bool). cond b (Some y) (find q (put_in in_names s ys))) h ∙ rest (sym (ap (λ (c : Bool). cond c (Some y) (find q ys)) h) ∙ none)

-- what passes is kept
find_kept : (q keep : SharingRule → Bool) (xs : List SharingRule) → ((x : SharingRule) → q x ≡ true → keep x ≡ true) → find q (filter keep xs) ≡ find q xs
find_kept q keep [] kept = refl
find_kept q keep (x ∷ xs) kept = by (find_kept q keep xs kept) (keep x) refl (q x) refl
  where
    by : find q (filter keep xs) ≡ find q xs → (b : Bool) → keep x ≡ b → (c : Bool) → q x ≡ c → find q (cond b (x ∷ filter keep xs) (filter keep xs)) ≡ find q (x ∷ xs)
    by rest true k c is = ap (cond (q x) (Some x)) rest
    by rest false k true is = absurd (clash (sym (kept x is) ∙ k))
    by rest false k false is = rest ∙ sym (ap (λ (b : Bool). cond b (Some x) (find q xs)) is)

-- ---- one rule more

pub length_put : (r : SharingRule) (rules : List SharingRule) → length (put_in in_names r rules) ≡ length rules + 1
length_put r [] = refl
length_put r (x ∷ rules) = by (is_lt (in_names r x)) (length_put r rules)
  where
    by : (b : Bool) → length (put_in in_names r rules) ≡ length rules + 1 → length (cond b (r ∷ x ∷ rules) (x ∷ put_in in_names r rules)) ≡ length (x ∷ rules) + 1
    by true e = omega arith
    by false e = omega (arith, e)

pub has_put : (r : SharingRule) (rules : List SharingRule) → Has (put_in in_names r rules) r
has_put r [] = inl refl
has_put r (x ∷ rules) = by (is_lt (in_names r x)) (has_put r rules)
  where
    by : (b : Bool) → Has (put_in in_names r rules) r → Has (cond b (r ∷ x ∷ rules) (x ∷ put_in in_names r rules)) r
    by true h = inl refl
    by false h = inr h

-- ---- names in lower case

-- texts with the same bytes in lower case have the same characters in lower case
lower_one : (a b : List ℕ) → IsUtf8 (lower_bytes b) → lower_bytes a ≡ lower_bytes b → lower a ≡ lower b
lower_one a b u e = chars_from_encodes (lower a) (lower_bytes b) u e ∙ sym (chars_from_encodes (lower b) (lower_bytes b) u refl)

same_names : (x name : List ℕ) → same_name x name ≡ true → lower_bytes x ≡ lower_bytes name
same_names x name h = ap encode_utf8_all ((bytes_eq-Decides (lower x) (lower name)).0 h)

-- a name is found by its bytes exactly if it is the name
bytes_are : (x name : List ℕ) → IsUtf8 (lower_bytes name) → bytes_eq (lower_bytes x) (lower_bytes name) ≡ same_name name x
bytes_are x name u =
    agree (bytes_eq (lower_bytes x) (lower_bytes name)) (same_name name x)
    (λ h. (bytes_eq-Decides (lower name) (lower x)).1 (sym (lower_one x name u ((bytes_eq-Decides (lower_bytes x) (lower_bytes name)).0 h))))
    (λ h. (bytes_eq-Decides (lower_bytes x) (lower_bytes name)).1 (sym (same_names name x h)))

pub turned : (a b : List ℕ) → same_name a b ≡ same_name b a
turned a b =
    agree (same_name a b) (same_name b a)
    (λ h. (bytes_eq-Decides (lower b) (lower a)).1 (sym ((bytes_eq-Decides (lower a) (lower b)).0 h)))
    (λ h. (bytes_eq-Decides (lower a) (lower b)).1 (sym ((bytes_eq-Decides (lower b) (lower a)).0 h)))

pub found : (name : List ℕ) → IsUtf8 (lower_bytes name) → (rules : List SharingRule)
    → is_some (named_so (λ r. r.name) rules (lower_bytes name)) ≡ list_any (same_name name) (map (λ r. r.name) rules)
found name u [] = refl
found name u (r ∷ rules) =
    subst (λ (b : Bool). is_some (cond b (Some r) (named_so (λ x. x.name) rules (lower_bytes name))) ≡ (same_name name r.name || list_any (same_name name) (map (λ x. x.name) rules))) (sym (bytes_are r.name name u))
    (pick (same_name name r.name) (λ b. is_some (cond b (Some r) (named_so (λ x. x.name) rules (lower_bytes name))) ≡ (b || list_any (same_name name) (map (λ x. x.name) rules)))
    (λ _. refl)
    (λ _. found name u rules))

-- none has the name of one that is gone
gone : (name : List ℕ) → IsUtf8 (lower_bytes name) → (rules : List SharingRule) → named_so (λ r. r.name) (filter (λ r. not (same_name r.name name)) rules) (lower_bytes name) ≡ None
gone name u [] = refl
gone name u (r ∷ rules) =
    pick (same_name r.name name) (λ b. same_name r.name name ≡ b → named_so (λ r. r.name) (cond (not b) (r ∷ filter (λ r. not (same_name r.name name)) rules) (filter (λ r. not (same_name r.name name)) rules)) (lower_bytes name) ≡ None)
    (λ _ _. gone name u rules)
    (λ _ apart.
    ap (λ (b : Bool). cond b (Some r) (named_so (λ r. r.name) (filter (λ r. not (same_name r.name name)) rules) (lower_bytes name))) (bytes_are r.name name u ∙ turned name r.name ∙ apart) ∙ gone name u rules)
    refl

-- ---- one rule less

abbrev named : List SharingRule → List (List ℕ × SharingRule)
named rules = map (λ (r : SharingRule). (r.name, r)) rules

-- a name that is less than another differs from it
not_less : (a b : List ℕ) → lower a ≡ lower b → is_lt (name_cmp a b) ≡ true → ⊥
not_less a b same h =
    clash (sym h ∙ ap (λ (x : List ℕ). is_lt (slice_cmp nat_cmp x (lower b))) same ∙ ap (λ (o : Ordering). is_lt o) (tied_itself nat_list_cmp_total (lower b)))

-- rules behind that with the name are others
all_stay : (a name : List ℕ) (rules : List SharingRule) → lower a ≡ lower name → T (below_all name_cmp a (named rules)) → length (filter (λ r. not (same_name r.name name)) rules) ≡ length rules
all_stay a name [] same h = refl
all_stay a name (x ∷ rules) same h =
    let first = t_true (is_lt (name_cmp a x.name)) (t_first (is_lt (name_cmp a x.name)) (below_all name_cmp a (named rules)) h) in
    let rest = all_stay a name rules same (t_second (is_lt (name_cmp a x.name)) (below_all name_cmp a (named rules)) h) in
    pick (same_name x.name name) (λ b. same_name x.name name ≡ b → length (cond (not b) (x ∷ filter (λ r. not (same_name r.name name)) rules) (filter (λ r. not (same_name r.name name)) rules)) ≡ length (x ∷ rules))
    (λ _ is. absurd (not_less a x.name (same ∙ sym ((bytes_eq-Decides (lower x.name) (lower name)).0 is)) first))
    (λ _ _. omega (arith, rest))
    refl

pub one_less : (name : List ℕ) → IsUtf8 (lower_bytes name) → (rules : List SharingRule) (r : SharingRule) → T (is_sorted name_cmp (named rules)) → named_so (λ x. x.name) rules (lower_bytes name) ≡ Some r
    → length (filter (λ r. not (same_name r.name name)) rules) + 1 ≡ length rules
one_less name u [] r sorted e = absurd cc
one_less name u (x ∷ rules) r sorted e =
    let below = t_first (below_all name_cmp x.name (named rules)) (is_sorted name_cmp (named rules)) sorted in
    let rise = t_second (below_all name_cmp x.name (named rules)) (is_sorted name_cmp (named rules)) sorted in
    pick (same_name x.name name) (λ b. same_name x.name name ≡ b → length (cond (not b) (x ∷ filter (λ r. not (same_name r.name name)) rules) (filter (λ r. not (same_name r.name name)) rules)) + 1 ≡ length (x ∷ rules))
    (λ _ is. let all = all_stay x.name name rules ((bytes_eq-Decides (lower x.name) (lower name)).0 is) below in omega (arith, all))
    (λ _ apart.
    let behind = sym (ap (λ (b : Bool). cond b (Some x) (named_so (λ y. y.name) rules (lower_bytes name))) (bytes_are x.name name u ∙ turned name x.name ∙ apart)) ∙ e in
    let less = one_less name u rules r rise behind in
    omega (arith, less))
    refl

-- ---- rows

module _ (p : OrgPlan) (t : Tenant) where
  pub rule_rest : (r : SharingRule) (k : Key) → is_org_key k ≡ false → is_sharing_key r.name k ≡ false → row_in p (with_rule r t) k ≡ row_in p t k
  unfolding row_in kept_at
  rule_rest r (key.Org org) o e = absurd cc
  rule_rest r (key.Sharing org name) o e = ap (option_map (λ r. row_bytes sharing_form (sharing_of org r))) (find_put (λ x. bytes_eq (lower_bytes x.name) name) r t.sharing_rules e)
  rule_rest r k o e = refl

  rule_kept : (name key : List ℕ) (x : SharingRule) → bytes_eq (lower_bytes name) key ≡ false → bytes_eq (lower_bytes x.name) key ≡ true → not (same_name x.name name) ≡ true
  rule_kept name key x apart is = by (same_name x.name name) refl
    where
      by : (b : Bool) → same_name x.name name ≡ b → not b ≡ true
      by false e = refl
      by true e = absurd (clash (sym is ∙ ap (λ (bytes : List ℕ). bytes_eq bytes key) (same_names x.name name e) ∙ apart))

  pub no_rule_rest : (name : List ℕ) (k : Key) → is_org_key k ≡ false → is_sharing_key name k ≡ false → row_in p (without_rule name t) k ≡ row_in p t k
  unfolding row_in kept_at
  no_rule_rest name (key.Org org) o e = absurd cc
  no_rule_rest name (key.Sharing org its) o e =
      ap (option_map (λ r. row_bytes sharing_form (sharing_of org r))) (find_kept (λ x. bytes_eq (lower_bytes x.name) its) (λ r. not (same_name r.name name)) t.sharing_rules (λ x is. rule_kept name its x e is))
  no_rule_rest name k o e = refl

  pub rule_row : (org : ℕ) (r : SharingRule) → named_so (λ x. x.name) t.sharing_rules (lower_bytes r.name) ≡ None
      → row_in p (with_rule r t) (key.Sharing org (lower_bytes r.name)) ≡ Some (row_bytes sharing_form (sharing_of org r))
  unfolding row_in
  rule_row org r none =
      ap (option_map (λ r. row_bytes sharing_form (sharing_of org r))) (find_new (λ x. bytes_eq (lower_bytes x.name) (lower_bytes r.name)) r t.sharing_rules ((bytes_eq-Decides (lower_bytes r.name) (lower_bytes r.name)).1 refl) none)

  pub no_rule_row : (org : ℕ) (name : List ℕ) → IsUtf8 (lower_bytes name) → row_in p (without_rule name t) (key.Sharing org (lower_bytes name)) ≡ None
  unfolding row_in
  no_rule_row org name u = ap (option_map (λ r. row_bytes sharing_form (sharing_of org r))) (gone name u t.sharing_rules)
