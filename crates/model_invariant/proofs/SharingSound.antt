-- What a request about sharing leaves is sound.
use Rattle.std.proofs.Common.{◌≡◌, ℕ, suc, ◌+◌, ◌≤◌, Bool, true, false, not, ◌&&◌, ◌||◌, cond, List, [], ◌∷◌, map, length, filter, Option, Some, None, is_some, refl, ap, sym, subst, ◌∙◌, arith, inl, inr, bytes_eq, codes, nat_le, nat_lt, slice_get, Equal, Ordering, is_eq, find}
use Rattle.std.specs.Str.{all_scalars}
use Rattle.std.specs.List.{AllByRecursion, enumerate_from, list_any}
use Rattle.std.specs.Ordering.{ordering_reverse}
use Rattle.std.specs.Cmp.{IsTotalOrder}
use Rattle.std.specs.Cmp.Lexicographic.{on_texts}
use Rattle.std.proofs.lemmas.Cmp.{nat_list_cmp_total, on_total, then_total}
use Rattle.std.proofs.lemmas.Bool.Decides.{nat_tests}
use Rattle.std.proofs.lemmas.Map.Text.{is_eq-slice_cmp}
use Rattle.std.proofs.lemmas.Option.{same_Some as some_is}
use Rattle.base_lemmas.proofs.Lists.{each-filter as all_kept, each_weaker as all_more, length-filter_most as length_kept}
use Rattle.std.proofs.lemmas.Bool.{and_from as both, true≢false as clash, not-false as holds_not}
use Rattle.base_lemmas.proofs.Bools.{and_first as both_left, and_second as both_right, by_answer as pick}
use Rattle.base_lemmas.proofs.Texts.{same_from_bytes_eq as same_exact}
use Rattle.base_value.specs.Principals.{principals_total}
use Rattle.base_value.specs.Texts.{lower}
use Rattle.base_value.specs.declared.sharing.Level.TheVariants as level
use Rattle.base_value.specs.declared.sharing.Principal.{Principal}
use Rattle.base_value.specs.declared.sharing.Principal.TheVariants as to
use Rattle.base_value.specs.declared.job.RuleState.TheVariants as state
use Rattle.model.specs.Limits.{formula_limit}
use Rattle.model.specs.declared.record.Record.{Record}
use Rattle.model.specs.declared.refusal.Refusal.TheVariants as refusal
use Rattle.model.specs.declared.limit.Limit.TheVariants as limit
use Rattle.model.specs.Cases.{in_case}
use Rattle.model.specs.Fields.{is_detail, same_name}
use Rattle.model.specs.Known.{known, knows}
use Rattle.model.specs.Levels.{can_read}
use Rattle.model.specs.Membership.{Has}
use Rattle.model.specs.Names.{is_stem, taken}
use Rattle.model.specs.Objects.{Numbered, object_named, object_number, record_at}
use Rattle.model.specs.Ordered.{put_in}
use Rattle.model.specs.Paths.{Asked}
use Rattle.model.specs.declared.people_bodies.Spelled.{Spelled}
use Rattle.model.specs.Principals.{bad_id, spelled_id, is_there, not_there, principal_of}
use Rattle.model.specs.Rights.{on_readable}
use Rattle.model.specs.RuleFormulas.{malformed, name_cmp}
use Rattle.model.specs.Rules.{Rule, in_body_order, refuse_if}
use Rattle.model.specs.declared.sharing_bodies.NewShare.{NewShare}
use Rattle.model.specs.Shares.{same_share, share, share_cmp, share_of, share_rules, shares_of, unshare, unshare_rules, unshare_with, with_share, without_share}
use Rattle.model.specs.declared.sharing_bodies.SpelledSource.TheVariants.{Owner, Criteria}
use Rattle.model.specs.declared.sharing_bodies.NewSharingRule.{NewSharingRule}
use Rattle.model.specs.declared.sharing_bodies.SpelledSource.{SpelledSource}
use Rattle.model.specs.SharingRules.{add_sharing_rule, new_rule, new_sharing_rule_rules, remove_sharing_rule, source_formula, source_of, source_owner, with_rule}
use Rattle.model_invariant.proofs.SoundParts.{HasSoundParts}
use Rattle.model.specs.SoundRecords.{IsSoundRecord, record_id}
use Rattle.model.specs.SoundSharing.{NumbersOnce, HasSoundRules, HasSoundShares, IsSoundRule, IsSoundShare, is_grant, is_sound_source}
use Rattle.model.specs.Tenant.{Object, Share, SharingRule, Tenant}
use Rattle.model.specs.Verdict.{Verdict, accept, done, judged, on_object, refuse}
use Rattle.model_invariant.specs.Fit.{has_member, has_source, is_fit_rule, is_fit_share}
use Rattle.model_invariant.proofs.Parts.{all_at, all_from, all_put, among_kept, among_put, count_put_out, length_kept_twice, length_put, member_rule, none_refuses, none_so, unrefused}
use Rattle.model_invariant.proofs.Orders.{rise_kept, rise_put}
use Rattle.model_invariant.proofs.Growing.{within_limit}
use Rattle.model_invariant.proofs.Roles.{found_at}
use Rattle.model_invariant.proofs.PeopleSound.{when_judged}
use Rattle.model_invariant.proofs.RuleTexts.{short_text}

-- ---- an object that is found by its name is at its number
abbrev pub numbered_from : ℕ → List Object → List Numbered
numbered_from n os = map (λ (o : ℕ × Object). record { number = o.0; object = o.1 }) (enumerate_from n os)

found_object : (name : List ℕ) (os : List Object) (n : ℕ) (o : Numbered) → find (λ o. same_name o.object.name name) (numbered_from n os) ≡ Some o → (k : ℕ) × (o.number ≡ n + k) × (slice_get os k ≡ Some o.object)
found_object name [] n o e = absurd cc
found_object name (x ∷ os) n o e = by (same_name x.name name) e (found_object name os ((n + 1)) o)
  where
    by : (b : Bool) → cond b (Some (record { number = n; object = x })) (find (λ o. same_name o.object.name name) (numbered_from ((n + 1)) os)) ≡ Some o
        → (find (λ o. same_name o.object.name name) (numbered_from ((n + 1)) os) ≡ Some o → (k : ℕ) × (o.number ≡ n + 1 + k) × (slice_get os k ≡ Some o.object))
        → (k : ℕ) × (o.number ≡ n + k) × (slice_get (x ∷ os) k ≡ Some o.object)
    by true e more =
        let is = some_is (record { number = n; object = x }) o e in
        (0, ap (λ (z : Numbered). z.number) (sym is) ∙ omega arith, ap (λ (z : Numbered). Some z.object) is)
    by false e more = let m = more e in (suc m.0, m.1 ∙ omega arith, m.2)

pub named_at : (t : Tenant) (name : List ℕ) (o : Numbered) → object_named t name ≡ Some o → slice_get t.objects o.number ≡ Some o.object
unfolding object_named
named_at t name o e =
    let f = found_object name t.objects 0 o e in
    let k : o.number ≡ f.0 = f.1 ∙ omega arith in
    ap (slice_get t.objects) k ∙ f.2

pub when_object : (P : Tenant → Type 0) (t : Tenant) (name : List ℕ) (verdict : Numbered → Verdict) → P t → ((o : Numbered) → slice_get t.objects o.number ≡ Some o.object → P (verdict o).tenant) → P (on_object t name verdict).tenant
when_object P t name verdict h f = by (object_named t name) refl
  where
    by : (found : Option Numbered) → object_named t name ≡ found → P (in_case found (refuse t (refusal.InvalidType name)) verdict).tenant
    by None e = h
    by (Some o) e = f o (named_at t name o e)

-- ---- one part alone is changed
pub rules_changed : (t : Tenant) (rules : List SharingRule) (drawn : ℕ) → HasSoundParts t → HasSoundRules (known t) t.objects drawn rules → HasSoundParts (record t { sharing_rules = rules; rule_numbers = drawn })
rules_changed t rules drawn s h =
    record { name = s.name; counter = s.counter; numbers = s.numbers; users = s.users; roles = s.roles; groups = s.groups; metadata = s.metadata; records = s.records; rules = h; shares = s.shares; job = s.job }

pub shares_changed : (t : Tenant) (shares : List Share) → HasSoundParts t → HasSoundShares (known t) t.objects shares → HasSoundParts (record t { shares = shares })
shares_changed t shares s h =
    record { name = s.name; counter = s.counter; numbers = s.numbers; users = s.users; roles = s.roles; groups = s.groups; metadata = s.metadata; records = s.records; rules = s.rules; shares = h; job = s.job }

-- ---- a new sharing rule
drawn_more : (t : Tenant) (r : SharingRule) → IsSoundRule (known t) t.objects t.rule_numbers r → IsSoundRule (known t) t.objects (t.rule_numbers + 1) r
drawn_more t r s = record { name = s.name; object = s.object; number = more r.number t.rule_numbers s.number; source = s.source; to = s.to; level = s.level; cursor = s.cursor }
  where
    more : (n m : ℕ) → (nat_le 1 n && nat_le n m) ≡ true → (nat_le 1 n && nat_le n (m + 1)) ≡ true
    more n m h = both (nat_le 1 n) (nat_le n (m + 1)) (both_left (nat_le 1 n) (nat_le n m) h) (let e = both_right (nat_le 1 n) (nat_le n m) h in grind (arith, nat_tests))

number_within : (n m : ℕ) → (nat_le 1 n && nat_le n m) ≡ true → n ≤ m
number_within n m h = let e = both_right (nat_le 1 n) (nat_le n m) h in grind (arith, nat_tests)

there_named : (t : Tenant) (member : List ℕ) (p : Principal) → not_there t member p ≡ None → knows (known t) p ≡ true
there_named t member p e = same p ∙ holds_not (is_there t p) (unrefused (not (is_there t p)) (refusal.InvalidReference member) e)
  where
    same : (q : Principal) → knows (known t) q ≡ is_there t q
    same (to.User i) = refl
    same (to.Role i) = refl
    same (to.Subordinates i) = refl
    same (to.Group i) = refl

-- the source is sound
new_source : (t : Tenant) (o : Object) (members : List (List ℕ)) (source : SpelledSource) → has_source members source ≡ true → in_case (source_formula o source) None malformed ≡ None → in_case (source_owner source) None (λ p. not_there t (codes "from") (principal_of p)) ≡ None → is_sound_source (known t) state.Whole (source_of source) ≡ true
new_source t o members (Owner p) fit short e = both (knows (known t) (principal_of p)) true (there_named t (codes "from") (principal_of p) e) refl
new_source t o members (Criteria text) fit short e = both (all_scalars text) (nat_le (length text) formula_limit) fit (short_text o true text short)

-- two names in one place of the order are one name
pub tied_names : (a b : List ℕ) → name_cmp a b ≡ Equal → same_name a b ≡ true
tied_names a b e = sym (is_eq-slice_cmp (lower a) (lower b)) ∙ ap is_eq e

-- no rule has the new name
apart : (t : Tenant) (name : List ℕ) → taken (map (λ (r : SharingRule). r.name) t.sharing_rules) name ≡ None → AllByRecursion (λ (y : SharingRule). name_cmp name y.name ≡ Equal → ⊥) t.sharing_rules
apart t name e = by t.sharing_rules (unrefused (list_any (same_name name) (map (λ (r : SharingRule). r.name) t.sharing_rules)) (refusal.NameTaken name) e)
  where
    by : (rs : List SharingRule) → list_any (same_name name) (map (λ (r : SharingRule). r.name) rs) ≡ false → AllByRecursion (λ (y : SharingRule). name_cmp name y.name ≡ Equal → ⊥) rs
    by [] h = tt
    by (r ∷ rs) h =
        let f = none_so (same_name name) (map (λ (r : SharingRule). r.name) (r ∷ rs)) h in
        (λ is. clash (sym (tied_names name r.name is) ∙ f.0), by rs (rest (same_name name r.name) (list_any (same_name name) (map (λ (r : SharingRule). r.name) rs)) h))
      where
        rest : (a b : Bool) → (a || b) ≡ false → b ≡ false
        rest true b e = absurd cc
        rest false b e = e

own_number : (n : ℕ) → (nat_le 1 (n + 1) && nat_le (n + 1) (n + 1)) ≡ true
own_number n = both (nat_le 1 (n + 1)) (nat_le (n + 1) (n + 1)) (grind (arith, nat_tests)) (grind (arith, nat_tests))

-- its number is that of no other
once : (t : Tenant) (r : SharingRule) → r.number ≡ t.rule_numbers + 1 → HasSoundParts t → NumbersOnce (put_in (λ a b. name_cmp a.name b.name) r t.sharing_rules)
once t r is s x y a b e =
    elim (among_put (λ a b. name_cmp a.name b.name) r t.sharing_rules x a) [
      | inl m ↦ elim (among_put (λ a b. name_cmp a.name b.name) r t.sharing_rules y b) [ inl n ↦ s.rules.numbers x y m n e | inr i ↦ absurd (low x m (e ∙ ap (λ (z : SharingRule). z.number) i)) ]
      | inr j ↦ elim (among_put (λ a b. name_cmp a.name b.name) r t.sharing_rules y b) [ inl n ↦ absurd (low y n (sym e ∙ ap (λ (z : SharingRule). z.number) j)) | inr i ↦ j ∙ sym i ]
    ]
  where
    low : (z : SharingRule) → Has t.sharing_rules z → z.number ≡ r.number → ⊥
    low z m e = let w = number_within z.number t.rule_numbers (all_at (IsSoundRule (known t) t.objects t.rule_numbers) z t.sharing_rules s.rules.each m).number in omega (arith, w, e, is)

-- the source of an owner rule, which is a member of the body
from_there : (t : Tenant) (members : List (List ℕ)) (source : SpelledSource) → has_source members source ≡ true → (p : Principal)
    → in_body_order members ((codes "to", not_there t (codes "to") p) ∷ (codes "from", in_case (source_owner source) None (λ p. not_there t (codes "from") (principal_of p))) ∷ []) ≡ None
    → in_case (source_owner source) None (λ p. not_there t (codes "from") (principal_of p)) ≡ None
from_there t members (Owner q) fit p e = member_rule ((codes "to", not_there t (codes "to") p) ∷ (codes "from", not_there t (codes "from") (principal_of q)) ∷ []) members (codes "from") e fit
from_there t members (Criteria text) fit p e = refl

pub add_rule_sound : (t : Tenant) (b : NewSharingRule) → is_fit_rule b ≡ true → HasSoundParts t → HasSoundParts (add_sharing_rule t b).tenant
add_rule_sound t b fit s =
    when_object HasSoundParts t b.object (λ o. judged t (new_sharing_rule_rules t o b) (accept done (with_rule (new_rule t o.number b) t))) s (λ o at.
    when_judged HasSoundParts t (new_sharing_rule_rules t o b) (accept done (with_rule (new_rule t o.number b) t)) s (λ h.
    let r = new_rule t o.number b in
    let k = known t in
    let order : SharingRule → SharingRule → Ordering = λ a b. name_cmp a.name b.name in
    let limits = none_refuses (refuse_if (nat_lt 300 (length t.sharing_rules + 1)) (refusal.LimitExceeded limit.SharingRules) ∷ refuse_if (nat_lt 4000000000 (t.rule_numbers + 1)) (refusal.LimitExceeded limit.RuleNumbers) ∷ []) h.1.1.1.1.1.1.1.0 in
    let owner_rule : Rule = in_case (source_owner b.source) None (λ p. not_there t (codes "from") (principal_of p)) in
    let members = both_right (is_grant b.level) (has_member b.members (codes "to") && has_source b.members b.source) fit in
    let to_there = member_rule ((codes "to", not_there t (codes "to") (principal_of b.to)) ∷ (codes "from", owner_rule) ∷ []) b.members (codes "to") h.1.1.1.1.0 (both_left (has_member b.members (codes "to")) (has_source b.members b.source) members) in
    let sound : IsSoundRule k t.objects (t.rule_numbers + 1) r =
    record {
      name = holds_not (is_stem b.name) (unrefused (not (is_stem b.name)) (refusal.InvalidName b.name) h.1.0);
      object = ap (λ z. in_case z false (λ (o : Object). not (is_detail o))) at ∙ ap not (unrefused (is_detail o.object) (refusal.InvalidType o.object.name) h.0);
      number = own_number t.rule_numbers;
      source = new_source t o.object b.members b.source (both_right (has_member b.members (codes "to")) (has_source b.members b.source) members) h.1.1.1.1.1.0 (from_there t b.members b.source (both_right (has_member b.members (codes "to")) (has_source b.members b.source) members) (principal_of b.to) h.1.1.1.1.0);
      to = there_named t (codes "to") (principal_of b.to) to_there;
      level = both_left (is_grant b.level) (has_member b.members (codes "to") && has_source b.members b.source) fit;
      cursor = tt;
    } in
    rules_changed t (put_in order r t.sharing_rules) (t.rule_numbers + 1) s
    (record {
      each = all_put (IsSoundRule k t.objects (t.rule_numbers + 1)) order r t.sharing_rules (all_more (IsSoundRule k t.objects t.rule_numbers) (IsSoundRule k t.objects (t.rule_numbers + 1)) (drawn_more t) t.sharing_rules s.rules.each) sound;
      rise = rise_put name_cmp (λ (r : SharingRule). r.name) (on_texts lower) order (λ x y. refl) r t.sharing_rules s.rules.rise (apart t b.name h.1.1.0);
      numbers = once t r refl s;
      few = omega (arith, length_put order r t.sharing_rules, within_limit 300 (length t.sharing_rules + 1) (refusal.LimitExceeded limit.SharingRules) limits.0);
      few_drawn = within_limit 4000000000 (t.rule_numbers + 1) (refusal.LimitExceeded limit.RuleNumbers) limits.1.0;
    })))

-- ---- a sharing rule that is removed
pub remove_rule_sound : (t : Tenant) (name : List ℕ) → HasSoundParts t → HasSoundParts (remove_sharing_rule t name).tenant
remove_rule_sound t name s =
    let p : SharingRule → Bool = λ r. not (same_name r.name name) in
    when_judged HasSoundParts t (refuse_if (not (list_any (λ r. same_name r.name name) t.sharing_rules)) refusal.NotFound ∷ []) (accept done (record t { sharing_rules = filter p t.sharing_rules })) s (λ h.
    rules_changed t (filter p t.sharing_rules) t.rule_numbers s
    (record {
      each = all_kept (IsSoundRule (known t) t.objects t.rule_numbers) p t.sharing_rules s.rules.each;
      rise = rise_kept name_cmp (λ (r : SharingRule). r.name) p t.sharing_rules s.rules.rise;
      numbers = λ x y a b e. s.rules.numbers x y (among_kept p t.sharing_rules x a).0 (among_kept p t.sharing_rules y b).0 e;
      few = omega (arith, length_kept p t.sharing_rules, s.rules.few);
      few_drawn = s.rules.few_drawn;
    }))

-- ---- shares
share_total : IsTotalOrder share_cmp
share_total = then_total (on_total (λ (s : Share). s.item) nat_list_cmp_total) (on_total (λ (s : Share). s.to) principals_total)

pub shares_kept : (t : Tenant) (p : Share → Bool) → HasSoundShares (known t) t.objects t.shares → HasSoundShares (known t) t.objects (filter p t.shares)
shares_kept t p s =
    record {
      each = all_kept (IsSoundShare (known t) t.objects) p t.shares s.each;
      rise = rise_kept share_cmp (λ (x : Share). x) p t.shares s.rise;
      few = λ id. omega (arith, length_kept_twice (λ x. bytes_eq x.item id) p t.shares, s.few id);
    }

share_put : (t : Tenant) (x : Share) → IsSoundShare (known t) t.objects x → length (shares_of x.item (with_share x t.shares)) ≤ 100 → HasSoundShares (known t) t.objects t.shares
    → HasSoundShares (known t) t.objects (with_share x t.shares)
share_put t x sound few s =
    let p : Share → Bool = λ y. not (same_share y x) in
    let kept = shares_kept t p s in
    record {
      each = all_put (IsSoundShare (known t) t.objects) share_cmp x (filter p t.shares) kept.each sound;
      rise = rise_put share_cmp (λ (y : Share). y) share_total share_cmp (λ a b. refl) x (filter p t.shares) kept.rise
          (all_from (λ y. share_cmp x y ≡ Equal → ⊥) (filter p t.shares) (λ y m e.
          let turned : share_cmp y x ≡ Equal = share_total.antisymm y x ∙ ap ordering_reverse e in
          clash (sym (among_kept p t.shares y m).1 ∙ ap (λ o. not (is_eq o)) turned)));
      few = λ id. count id (bytes_eq x.item id) refl;
    }
  where
    count : (id : List ℕ) (b : Bool) → bytes_eq x.item id ≡ b → length (shares_of id (with_share x t.shares)) ≤ 100
    count id true e = subst (λ (i : List ℕ). length (shares_of i (with_share x t.shares)) ≤ 100) (same_exact x.item id e) few
    count id false e =
        let p : Share → Bool = λ y. not (same_share y x) in
        let q : Share → Bool = λ y. bytes_eq y.item id in
        let same = ap (λ (xs : List Share). length xs) (count_put_out q share_cmp x (filter p t.shares) e) in
        omega (arith, same, length_kept_twice q p t.shares, s.few id)

pub when_readable : (P : Tenant → Type 0) (a : Asked) (found : Option Record) (verdict : Record → Verdict) → P a.tenant → ((r : Record) → found ≡ Some r → P (verdict r).tenant) → P (on_readable a found verdict).tenant
when_readable P a None verdict h f = h
when_readable P a (Some r) verdict h f =
    pick (can_read a.tenant a.user r) (λ b. P (in_case (cond b (Some r) None) (refuse a.tenant refusal.NotFound) verdict).tenant) (λ _. f r refl) (λ _. h)

pub share_sound : (a : Asked) (b : NewShare) → is_fit_share b ≡ true → HasSoundParts a.tenant → HasSoundParts (share a b).tenant
share_sound a b fit s =
    let t = a.tenant in
    let x = share_of b in
    when_judged HasSoundParts t (in_body_order b.members ((codes "record", bad_id b.item) ∷ (codes "to", bad_id b.to.text) ∷ []) ∷ [])
    (on_readable a (record_at t (spelled_id b.item)) (λ r. judged t (share_rules a x r) (accept done (record t { shares = with_share x t.shares })))) s (λ _.
    when_readable HasSoundParts a (record_at t (spelled_id b.item)) (λ r. judged t (share_rules a x r) (accept done (record t { shares = with_share x t.shares }))) s (λ r found.
    when_judged HasSoundParts t (share_rules a x r) (accept done (record t { shares = with_share x t.shares })) s (λ h.
    let at = found_at record_id t.records (spelled_id b.item) r found in
    let sound = all_at (IsSoundRecord (known t) t.objects) r t.records s.records.each at.0 in
    let here_is : slice_get t.objects (object_number x.item) ≡ Some sound.object = ap (λ (i : List ℕ). slice_get t.objects (object_number i)) at.1 ∙ sound.there in
    let free : refuse_if (is_detail sound.object) (refusal.InvalidType sound.object.name) ≡ None
    = subst (λ (o : Option Object). in_case o None (λ o. refuse_if (is_detail o) (refusal.InvalidType o.name)) ≡ None) sound.there h.0 in
    let limits = none_refuses (refuse_if (nat_lt 100 (length (shares_of x.item (with_share x t.shares)))) (refusal.LimitExceeded limit.SharesPerRecord) ∷ []) h.1.1.1.0 in
    shares_changed t (with_share x t.shares) s
    (share_put t x
    (record {
      item = ap is_some found;
      object = ap (λ z. in_case z false (λ (o : Object). not (is_detail o))) here_is ∙ ap not (unrefused (is_detail sound.object) (refusal.InvalidType sound.object.name) free);
      to = there_named t (codes "to") x.to h.1.1.0;
      level = fit;
    })
    (within_limit 100 (length (shares_of x.item (with_share x t.shares))) (refusal.LimitExceeded limit.SharesPerRecord) limits.0)
    s.shares))))

pub unshare_sound : (a : Asked) (item part : List ℕ) (to : Option Spelled) → HasSoundParts a.tenant → HasSoundParts (unshare a item part to).tenant
unshare_sound a item part to s =
    when_judged HasSoundParts a.tenant (bad_id item ∷ []) (in_case to (refuse a.tenant (refusal.MalformedId part)) (λ p. judged a.tenant (bad_id p.text ∷ []) (unshare_with a item p))) s (λ _. by to)
  where
    by : (to : Option Spelled) → HasSoundParts (in_case to (refuse a.tenant (refusal.MalformedId part)) (λ p. judged a.tenant (bad_id p.text ∷ []) (unshare_with a item p))).tenant
    by None = s
    by (Some p) =
        let x : Share = record { item = spelled_id item; to = principal_of p; level = level.Full } in
        when_judged HasSoundParts a.tenant (bad_id p.text ∷ []) (unshare_with a item p) s (λ _.
        when_readable HasSoundParts a (record_at a.tenant x.item) (λ r. judged a.tenant (unshare_rules a x r) (accept done (record a.tenant { shares = without_share x a.tenant.shares }))) s (λ r found.
        when_judged HasSoundParts a.tenant (unshare_rules a x r) (accept done (record a.tenant { shares = without_share x a.tenant.shares })) s (λ h.
        shares_changed a.tenant (without_share x a.tenant.shares) s (shares_kept a.tenant (λ y. not (same_share y x)) s.shares))))
