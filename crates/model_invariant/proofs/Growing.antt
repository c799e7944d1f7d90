-- What is known grows: soundness of each part stays. And numbers of ids differ where a new one is drawn.
use Rattle.std.proofs.Common.{◌≡◌, ℕ, ◌<◌, ◌≤◌, ◌^◌, Bool, true, false, not, ◌&&◌, ◌||◌, ◌==◌, cond, List, take, drop, length, Option, Some, None, is_some, is_none, refl, ap, sym, subst, ◌∙◌, arith, ◌⊎◌, inl, inr, bytes_eq, nat_lt, nat_cmp, Less}
use Rattle.std.specs.List.{AllByRecursion}
use Rattle.std.specs.Cmp.Lexicographic.{slice_cmp}
use Rattle.std.proofs.lemmas.Bool.Decides.{nat_tests}
use Rattle.std.proofs.lemmas.Option.{IfSome_then}
use Rattle.base_lemmas.proofs.Lists.{each_weaker as all_more}
use Rattle.std.proofs.lemmas.Bool.{and_from as both, or_cases}
use Rattle.base_lemmas.proofs.Bools.{and_first as both_left, and_second as both_right}
use Rattle.base_value.specs.Digits.{digits}
use Rattle.base_value.specs.Id.{made, number_in, number62}
use Rattle.base_value.specs.declared.sharing.Principal.{Principal}
use Rattle.base_value.specs.declared.sharing.Principal.TheVariants as to
use Rattle.base_value.specs.declared.job.RuleState.{RuleState}
use Rattle.model.specs.declared.record.Record.{Record}
use Rattle.model.specs.declared.refusal.Refusal.{Refusal}
use Rattle.formula.specs.Meaning.{value_at}
use Rattle.model.specs.Fields.{is_detail, is_master, ref_of}
use Rattle.model.specs.Known.{Grows, IsDrawn, KeepsPeople, Known, NumbersDiffer, group_id, item_of, known, knows, names_any, number_part, role_id}
use Rattle.model.specs.Objects.{object_number, record_prefix}
use Rattle.model.specs.Relationships.{Reference, references_of}
use Rattle.model.specs.Rules.{refuse_if}
use Rattle.model.specs.Cases.{in_case}
use Rattle.model_invariant.proofs.SoundParts.{HasSoundParts}
use Rattle.model.specs.SoundJob.{HasSoundJob, IsSoundJob}
use Rattle.model.specs.SoundPeople.{HasSoundUsers, HasSoundRoles, HasSoundGroups, IsSoundUser, IsSoundRole, IsSoundGroup}
use Rattle.model.specs.SoundRecords.{HasSoundRecords, IsSoundRecord, is_sound_owner, is_sound_reference, record_id}
use Rattle.model.specs.SoundSharing.{HasSoundRules, HasSoundShares, IsSoundRule, IsSoundShare, IsCursor, is_sound_source, is_whole}
use Rattle.model.specs.Tenant.{Group, Job, Object, Role, Share, SharingRule, Source, owned, meets, Tenant, User}
use Rattle.model.specs.World.{user_id, user_prefix, role_prefix, group_prefix}
use Rattle.model_invariant.proofs.Parts.{has_all, list_all_more}

-- ---- limits
pub within_limit : (n m : ℕ) (r : Refusal) → refuse_if (nat_lt n m) r ≡ None → m ≤ n
within_limit n m r e = by (nat_lt n m) refl e
  where
    by : (b : Bool) → nat_lt n m ≡ b → refuse_if b r ≡ None → m ≤ n
    by true t e = absurd cc
    by false t e = grind (arith, nat_tests)

below_more : (n a b : ℕ) → a ≤ b → nat_lt n a ≡ true → nat_lt n b ≡ true
below_more n a b h e = grind (arith, nat_tests)

pub some_of : {A : Type 0} (o : Option A) → is_none o ≡ false → is_some o ≡ true
some_of None e = absurd cc
some_of (Some x) e = refl

-- ---- each part
pub drawn_more : (p id : List ℕ) (a b : ℕ) → a ≤ b → IsDrawn p a id → IsDrawn p b id
drawn_more p id a b h d = (d.0, omega (arith, d.1), d.2)

pub cursor_more : (a b n : ℕ) (cursor : Option (List ℕ)) → a ≤ b → IsCursor a n cursor → IsCursor b n cursor
cursor_more a b n cursor h e = IfSome_then cursor e (λ id d. drawn_more (record_prefix n) id a b h d)

module _ (k l : Known) (g : KeepsPeople k l) where
  pub knows_more : (p : Principal) → knows k p ≡ true → knows l p ≡ true
  knows_more (to.User i) h = g.user i h
  knows_more (to.Role i) h = g.role i h
  knows_more (to.Subordinates i) h = g.role i h
  knows_more (to.Group i) h = g.group i h

  user_more : (u : User) → IsSoundUser k u → IsSoundUser l u
  user_more u s = record { id = drawn_more user_prefix u.id k.counter l.counter g.counter s.id; name = s.name; digest = s.digest; role = IfSome_then u.role s.role g.role }

  pub users_more : (us : List User) → HasSoundUsers k us → HasSoundUsers l us
  users_more us s = record { each = all_more (IsSoundUser k) (IsSoundUser l) user_more us s.each; rise = s.rise; few = s.few; administered = s.administered }

  role_more : (r : Role) → IsSoundRole k r → IsSoundRole l r
  role_more r s = record { id = drawn_more role_prefix r.id k.counter l.counter g.counter s.id; name = s.name; parent = IfSome_then r.parent s.parent g.role }

  pub each_role_more : (rs : List Role) → AllByRecursion (IsSoundRole k) rs → AllByRecursion (IsSoundRole l) rs
  each_role_more rs s = all_more (IsSoundRole k) (IsSoundRole l) role_more rs s

  pub roles_more : (rs : List Role) → HasSoundRoles k rs → HasSoundRoles l rs
  roles_more rs s = record { each = each_role_more rs s.each; rise = s.rise; few = s.few; no_cycle = s.no_cycle }

  group_more : (x : Group) → IsSoundGroup k x → IsSoundGroup l x
  group_more x s =
      record {
        id = drawn_more group_prefix x.id k.counter l.counter g.counter s.id;
        name = s.name;
        members = s.members;
        named = list_all_more (knows k) (knows l) knows_more x.members s.named;
      }

  pub each_group_more : (xs : List Group) → AllByRecursion (IsSoundGroup k) xs → AllByRecursion (IsSoundGroup l) xs
  each_group_more xs s = all_more (IsSoundGroup k) (IsSoundGroup l) group_more xs s

  pub groups_more : (xs : List Group) → HasSoundGroups k xs → HasSoundGroups l xs
  groups_more xs s = record { each = each_group_more xs s.each; rise = s.rise; few = s.few }

  pub owner_more : (o : Object) (owner : Option (List ℕ)) → is_sound_owner k o owner ≡ true → is_sound_owner l o owner ≡ true
  owner_more o None h = h
  owner_more o (Some i) h = both (not (is_detail o)) (l.user i) (both_left (not (is_detail o)) (k.user i) h) (g.user i (both_right (not (is_detail o)) (k.user i) h))

  pub source_more : (st : RuleState) (s : Source) → is_sound_source k st s ≡ true → is_sound_source l st s ≡ true
  source_more st (owned p) h = both (knows l p) (is_whole st) (knows_more p (both_left (knows k p) (is_whole st) h)) (both_right (knows k p) (is_whole st) h)
  source_more st (meets text) h = h

  rule_more : (os : List Object) (drawn : ℕ) (r : SharingRule) → IsSoundRule k os drawn r → IsSoundRule l os drawn r
  rule_more os drawn r s =
      record {
        name = s.name;
        object = s.object;
        number = s.number;
        source = source_more r.state r.source s.source;
        to = knows_more r.to s.to;
        level = s.level;
        cursor = cursor_more k.counter l.counter r.object r.cursor g.counter s.cursor;
      }

  pub rules_more : (os : List Object) (drawn : ℕ) (rs : List SharingRule) → HasSoundRules k os drawn rs → HasSoundRules l os drawn rs
  rules_more os drawn rs s =
      record { each = all_more (IsSoundRule k os drawn) (IsSoundRule l os drawn) (rule_more os drawn) rs s.each; rise = s.rise; numbers = s.numbers; few = s.few; few_drawn = s.few_drawn }

module _ (k l : Known) (g : Grows k l) where
  item_more : (n : ℕ) (i : List ℕ) → item_of k n i ≡ true → item_of l n i ≡ true
  item_more n i h = both (l.item i) (object_number i == n) (g.item i (both_left (k.item i) (object_number i == n) h)) (both_right (k.item i) (object_number i == n) h)

  pub reference_more : (values : List _) (f : Reference) → is_sound_reference k values f ≡ true → is_sound_reference l values f ≡ true
  reference_more values f h = by (ref_of (value_at values f.position)) h
    where
      by : (o : Option (List ℕ)) → in_case o (not (is_master f.field.kind)) (item_of k f.target) ≡ true → in_case o (not (is_master f.field.kind)) (item_of l f.target) ≡ true
      by None h = h
      by (Some i) h = item_more f.target i h

  pub record_more : (os : List Object) (r : Record) → IsSoundRecord k os r → IsSoundRecord l os r
  record_more os r s =
      record {
        object = s.object;
        there = s.there;
        number = s.number;
        drawn = omega (arith, s.drawn, g.people.counter);
        id = s.id;
        owner = owner_more k l g.people s.object r.owner s.owner;
        created = s.created;
        modified = s.modified;
        values = s.values;
        references = list_all_more (is_sound_reference k r.values) (is_sound_reference l r.values) (reference_more r.values)
            (references_of (record { number = object_number r.id; object = s.object })) s.references;
      }

  pub each_record_more : (os : List Object) (rs : List Record) → AllByRecursion (IsSoundRecord k os) rs → AllByRecursion (IsSoundRecord l os) rs
  each_record_more os rs s = all_more (IsSoundRecord k os) (IsSoundRecord l os) (record_more os) rs s

  pub records_more : (os : List Object) (rs : List Record) → HasSoundRecords k os rs → HasSoundRecords l os rs
  records_more os rs s = record { each = each_record_more os rs s.each; rise = s.rise; unique = s.unique; few = s.few; few_of = s.few_of }

  share_more : (os : List Object) (x : Share) → IsSoundShare k os x → IsSoundShare l os x
  share_more os x s = record { item = g.item x.item s.item; object = s.object; to = knows_more k l g.people x.to s.to; level = s.level }

  pub shares_more : (os : List Object) (xs : List Share) → HasSoundShares k os xs → HasSoundShares l os xs
  shares_more os xs s = record { each = all_more (IsSoundShare k os) (IsSoundShare l os) (share_more os) xs s.each; rise = s.rise; few = s.few }

pub job_more : (a b : ℕ) → a ≤ b → (os : List Object) (rs : List Record) (job : Option Job) → HasSoundJob a os rs job → HasSoundJob b os rs job
job_more a b h os rs job s =
    IfSome_then job {P = IsSoundJob a os rs} {Q = IsSoundJob b os rs} s (λ j x.
    record {
      field = x.field;
      there = x.there;
      change = x.change;
      cursor = cursor_more a b j.object j.cursor h x.cursor;
      failed = cursor_more a b j.object j.failed h x.failed;
      open_in_copy = x.open_in_copy;
      failed_where = x.failed_where;
      copied = x.copied;
    })

-- ---- numbers
-- what is needed of ids
pub record IdLaws : Type 0 where
  pub ordered : (prefix : List ℕ) (m n : ℕ) → m < 62 ^ 12 → n < 62 ^ 12 → slice_cmp nat_cmp (made prefix m) (made prefix n) ≡ nat_cmp m n
  pub number : (prefix : List ℕ) (n : ℕ) → length prefix ≡ 3 → n < 10 ^ 15 → number_in prefix (made prefix n) ≡ Some n

part_value : IdLaws → (p : List ℕ) (n : ℕ) → length p ≡ 3 → n < 10 ^ 15 → number62 (number_part (made p n)) ≡ n
unfolding number_in
part_value ids p n size h = by (bytes_eq (take 3 (made p n)) p) (nat_lt (number62 (drop 3 (made p n))) 1000000000000000) (number62 (drop 3 (made p n))) (ids.number p n size h)
  where
    by : (a b : Bool) (m : ℕ) → cond (a && b) (Some m) None ≡ Some n → m ≡ n
    by true true m e = cc
    by true false m e = absurd cc
    by false b m e = absurd cc

-- an id of three characters and a number below the counter
abbrev pub IsNumbered : ℕ → List ℕ → Type 0
IsNumbered counter id = (p : List ℕ) × (n : ℕ) × (length p ≡ 3) × (n < counter) × (id ≡ made p n)

pub record_prefix_size : (n : ℕ) → length (record_prefix n) ≡ 3
unfolding record_prefix digits
record_prefix_size n = refl

pub names_numbered : (t : Tenant) → HasSoundParts t → (i : List ℕ) → names_any (known t) i ≡ true → IsNumbered t.counter i
names_numbered t s i h =
    let k = known t in
    elim (or_cases (k.user i) (k.role i || (k.group i || k.item i)) h) [
      | inl a ↦ has_all user_id (IsSoundUser k) (IsNumbered t.counter) (λ u x. (user_prefix, x.id.0, refl, x.id.1, x.id.2)) t.users s.users.each i a
      | inr more ↦ elim (or_cases (k.role i) (k.group i || k.item i) more) [
        | inl a ↦ has_all role_id (IsSoundRole k) (IsNumbered t.counter) (λ u x. (role_prefix, x.id.0, refl, x.id.1, x.id.2)) t.roles s.roles.each i a
        | inr rest ↦ elim (or_cases (k.group i) (k.item i) rest) [
          | inl a ↦ has_all group_id (IsSoundGroup k) (IsNumbered t.counter) (λ u x. (group_prefix, x.id.0, refl, x.id.1, x.id.2)) t.groups s.groups.each i a
          | inr a ↦ has_all record_id (IsSoundRecord k t.objects) (IsNumbered t.counter) (λ r x. (record_prefix (object_number r.id), x.number, record_prefix_size (object_number r.id), x.drawn, x.id)) t.records s.records.each i a
        ]
      ]
    ]

-- nothing new: the numbers that differed differ
pub numbers_less : (k l : Known) → ((i : List ℕ) → names_any l i ≡ true → names_any k i ≡ true) → NumbersDiffer k → NumbersDiffer l
numbers_less k l back h i j a b e = h i j (back i a) (back j b) e

-- one more, whose number is the counter
pub numbers_more : IdLaws → (t : Tenant) → HasSoundParts t → (l : Known) (p : List ℕ) → length p ≡ 3
    → ((i : List ℕ) → names_any l i ≡ true → (names_any (known t) i ≡ true) ⊎ (i ≡ made p t.counter)) → NumbersDiffer l
numbers_more ids t s l p size back i j a b e =
    elim (back i a) [
      | inl x ↦ elim (back j b) [ inl y ↦ s.numbers i j x y e | inr y ↦ absurd (differ i x (ap number_part (sym y) ∙ sym e)) ]
      | inr x ↦ elim (back j b) [ inl y ↦ absurd (differ j y (ap number_part (sym x) ∙ e)) | inr y ↦ x ∙ sym y ]
    ]
  where
    differ : (z : List ℕ) → names_any (known t) z ≡ true → number_part (made p t.counter) ≡ number_part z → ⊥
    differ z h e =
        let d = names_numbered t s z h in
        let c : t.counter ≤ 999999999999999 = s.counter in
        let low = d.3 in
        let new = part_value ids p t.counter size (omega (arith, c)) in
        let old = part_value ids d.0 d.1 d.2 (omega (arith, c, low)) in
        let same : t.counter ≡ d.1 = sym new ∙ ap number62 (e ∙ ap number_part d.4) ∙ old in
        omega (arith, same, low)

-- the new id names nothing yet
pub unnamed_yet : IdLaws → (t : Tenant) → HasSoundParts t → (p : List ℕ) → length p ≡ 3 → names_any (known t) (made p t.counter) ≡ true → ⊥
unnamed_yet ids t s p size h =
    let d = names_numbered t s (made p t.counter) h in
    let c : t.counter ≤ 999999999999999 = s.counter in
    let low = d.3 in
    let new = part_value ids p t.counter size (omega (arith, c)) in
    let old = part_value ids d.0 d.1 d.2 (omega (arith, c, low)) in
    let same : t.counter ≡ d.1 = sym new ∙ ap (λ z. number62 (number_part z)) d.4 ∙ old in
    omega (arith, same, low)

-- ids of one prefix rise with their numbers
pub drawn_less : IdLaws → (p id : List ℕ) (counter : ℕ) → counter ≤ 999999999999999 → IsDrawn p counter id → slice_cmp nat_cmp id (made p counter) ≡ Less
drawn_less ids p id counter c d =
    let low = d.1 in
    let less : nat_cmp d.0 counter ≡ Less = grind (arith, nat_tests, low) in
    subst (λ (z : List ℕ). slice_cmp nat_cmp z (made p counter) ≡ Less) (sym d.2) (ids.ordered p d.0 counter (omega (arith, c, low)) (omega (arith, c)) ∙ less)
