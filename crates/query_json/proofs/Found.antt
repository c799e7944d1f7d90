-- What a plan finds is what its query finds.
use Rattle.std.proofs.Common.{◌≡◌, ◌∙◌, ◌<◌, ◌≤◌, arith, length, subst, Result, Ok, Err, inl, inr, ℕ, zero, suc, Bool, true, false, cond, IsTrue, List, [], ◌∷◌, ◌++◌, map, filter, take, drop, Option, Some, None, refl, sym, ap, slice_get}
use Rattle.std.proofs.lemmas.Bool.{eqb-true}
use Rattle.std.proofs.lemmas.Bool.Decides.{nat_tests}
use Rattle.std.proofs.lemmas.List.{length-map}
use Rattle.std.proofs.lemmas.Str.{encodes-append}
use Rattle.std.specs.Prelude.{◌==◌, ◌⊎◌, nat_lt, ℤ}
use Rattle.std.specs.Option.{option_map}
use Rattle.std.specs.Ordering.{is_lt}
use Rattle.std.specs.Str.{encode_utf8_all}
use Rattle.std.specs.List.{AllByRecursion, flat_map, list_all}
use Rattle.std.specs.List.Sorted.{IsStrictlySortedBy}
use Rattle.std.specs.declared.cmp.Ordering.{Ordering}
use Rattle.std.specs.declared.cmp.Ordering.TheVariants.{Less}
use Rattle.base_lemmas.proofs.Bools.{and_first as left, and_second as right}
use Rattle.store_kv.specs.Draft.{DraftReads, DraftTells, Held}
use Rattle.store_kv.specs.State.{KeeperState}
use Rattle.store_kv.specs.Tables.{Tables}
use Rattle.store_rows.specs.declared.fail.StoreFail.{StoreFail}
use Rattle.store_rows.specs.declared.fail.StoreFail.TheVariants.{Damaged, Keeper, Memory}
use Rattle.base_value.specs.Printing.{is_printable}
use Rattle.base_value.specs.declared.value.Value.{Value}
use Rattle.base_value.specs.declared.value.Value.TheVariants as value
use Rattle.formula.specs.Meaning.{value_at}
use Rattle.soql.specs.declared.query.Query.{Query}
use Rattle.model.specs.Asking.{ask, query_rules}
use Rattle.model.specs.Cases.{in_case}
use Rattle.model.specs.Fields.{Site, value_in, its_id, its_owner, its_created, its_modified, value_site}
use Rattle.model.specs.Known.{known}
use Rattle.model.specs.Levels.{can_read, readable}
use Rattle.model.specs.Limits.{reply_limit}
use Rattle.model.specs.Membership.{Has}
use Rattle.model.specs.Objects.{Numbered, is_of, object_named, object_number, object_numbered, object_of_record, records_of}
use Rattle.model.specs.Ordered.{before, by_id, in_order, put_in}
use Rattle.model.specs.Paths.{Asked}
use Rattle.model.specs.Replies.{json_reply, reply_of, unless_too_large}
use Rattle.model.specs.Rows.{found, limited, readable_of}
use Rattle.model.specs.RowsJson.{found_json, rows_json, object_name, row_json, value_json}
use Rattle.model.specs.Rules.{Rule, first_refusal}
use Rattle.model.specs.Sound.{IsSound}
use Rattle.model.specs.SoundRecords.{IsSoundRecord}
use Rattle.model.specs.Step.{refusal_reply}
use Rattle.model.specs.Tenant.{Object, Tenant}
use Rattle.model.specs.Verdict.{Verdict, accept, judged, refuse, rows_of, unless}
use Rattle.model.specs.declared.record.Record.{Record}
use Rattle.model.specs.declared.refusal.Refusal.{Refusal}
use Rattle.model.specs.declared.refusal.Refusal.TheVariants.{InvalidType, ReplyTooLarge}
use Rattle.model.specs.declared.reply.Reply.{Reply}
use Rattle.query_plan.specs.Checks.{takes}
use Rattle.query_plan.specs.Plans.{Means, by_keys, children_by, chosen_by, is_taken, parents_by}
use Rattle.query_plan.specs.Shown.{ShowsJson, row_text}
use Rattle.query_plan.specs.declared.plan.Choice.{Choice}
use Rattle.query_plan.specs.declared.plan.Plan.{Plan}
use Rattle.query_plan.specs.declared.plan.Shown.{Shown}
use Rattle.query_plan.specs.declared.plan.SortKey.{SortKey}
use Rattle.query_plan.specs.order.Ranks.{rank_by, rank_cmp}
use Rattle.access_traits.specs.Rights.{Whose}
use Rattle.query_json.specs.row.Shows.{shows}
use Rattle.query_exec.specs.Ranks.{by_rank}
use Rattle.query_exec.specs.Relatives.{by_parents, by_relatives}
use Rattle.query_exec.specs.Fails.{ended_exec}
use Rattle.query_exec.specs.Written.{AppendsRows, IfDone, InTenants, WritesRows, rows_kept, rows_sorted}
use Rattle.query_exec.specs.declared.fail.ExecFail.{ExecFail}
use Rattle.query_exec.specs.declared.fail.ExecFail.TheVariants.{Store, TooLarge}
use Rattle.query_exec.specs.declared.window.Window.{Window}
use Rattle.api_output.specs.Rows.{behind_commas}
use Rattle.api_output.proofs.Bodies.{longer}
use Rattle.query_json.proofs.Lists.{all_at, kept_from, same_map}
use Rattle.store_abstraction.specs.Calls.{Calls, Ending, done, fell, stopped}
use Rattle.store_abstraction.specs.Layouts.{IsLayout, layout_of, own_layout}
use Rattle.store_abstraction.specs.Plan.{OrgPlan}
use Rattle.store_abstraction.specs.declared.layout.Layout.{Layout}
use Rattle.query_json.specs.Answers.{AnswersBy, IsAskedOf, Refuses}
use Rattle.query_json.specs.Planned.{Parents, choice_rows, rows_by, window_of}
use Rattle.query_json.specs.inner.Found.{AnswersPlan, Children, plan_reply, row_json_by}

-- ---- lists

all_kept : (P : Record → Type 0) (p : Record → Bool) (rs : List Record) → AllByRecursion P rs → AllByRecursion P (filter p rs)
all_kept P p [] h = tt
all_kept P p (r ∷ rs) h = by (p r) (all_kept P p rs h.1)
  where
    by : (b : Bool) → AllByRecursion P (filter p rs) → AllByRecursion P (cond b (r ∷ filter p rs) (filter p rs))
    by true rest = (h.0, rest)
    by false rest = rest

kept_rise : (p : Record → Bool) (rs : List Record) → IsStrictlySortedBy by_id rs → IsStrictlySortedBy by_id (filter p rs)
unfolding IsStrictlySortedBy
kept_rise p [] h = tt
kept_rise p (r ∷ rs) h = by (p r) (kept_rise p rs h.1)
  where
    by : (b : Bool) → IsStrictlySortedBy by_id (filter p rs) → IsStrictlySortedBy by_id (cond b (r ∷ filter p rs) (filter p rs))
    by true rest = (all_kept (λ s. by_id r s ≡ Less) p rs h.0, rest)
    by false rest = rest

has_taken : (n : ℕ) (rs : List Record) (r : Record) → Has (take n rs) r → Has rs r
has_taken zero rs r m = absurd m
has_taken (suc n) [] r m = absurd m
has_taken (suc n) (x ∷ rs) r (inl e) = inl e
has_taken (suc n) (x ∷ rs) r (inr m) = inr (has_taken n rs r m)

has_dropped : (n : ℕ) (rs : List Record) (r : Record) → Has (drop n rs) r → Has rs r
has_dropped zero rs r m = m
has_dropped (suc n) [] r m = absurd m
has_dropped (suc n) (x ∷ rs) r m = inr (has_dropped n rs r m)

has_limited : (most : Option ℕ) (rs : List Record) (r : Record) → Has (limited most rs) r → Has rs r
has_limited None rs r m = m
has_limited (Some n) rs r m = has_taken n rs r m

has_put : (f : Record → Record → Ordering) (x : Record) (rs : List Record) (r : Record) → Has (put_in f x rs) r → (r ≡ x) ⊎ Has rs r
has_put f x [] r (inl e) = inl e
has_put f x [] r (inr m) = absurd m
has_put f x (y ∷ rs) r m = by (is_lt (f x y)) (has_put f x rs r) m
  where
    along : (r ≡ x) ⊎ Has rs r → (r ≡ x) ⊎ Has (y ∷ rs) r
    along (inl e) = inl e
    along (inr k) = inr (inr k)

    by : (b : Bool) → (Has (put_in f x rs) r → (r ≡ x) ⊎ Has rs r) → Has (cond b (x ∷ y ∷ rs) (y ∷ put_in f x rs)) r → (r ≡ x) ⊎ Has (y ∷ rs) r
    by true more (inl e) = inl e
    by true more (inr k) = inr k
    by false more (inl e) = inr (inl e)
    by false more (inr k) = along (more k)

has_ordered : (f : Record → Record → Ordering) (rs : List Record) (r : Record) → Has (in_order f rs) r → Has rs r
unfolding in_order
has_ordered f [] r m = absurd m
has_ordered f (x ∷ rs) r m = along (has_put f x (in_order f rs) r m) (has_ordered f rs r)
  where
    along : (r ≡ x) ⊎ Has (in_order f rs) r → (Has (in_order f rs) r → Has rs r) → Has (x ∷ rs) r
    along (inl e) more = inl e
    along (inr k) more = inr (more k)

-- two orders that agree on the elements of a list
put_there : (f g : Record → Record → Ordering) (x : Record) (rs : List Record) → ((r : Record) → Has rs r → f x r ≡ g x r) → put_in f x rs ≡ put_in g x rs
put_there f g x [] e = refl
put_there f g x (y ∷ rs) e =
    ap (λ (o : Ordering). cond (is_lt o) (x ∷ y ∷ rs) (y ∷ put_in f x rs)) (e y (inl refl))
    ∙ ap (λ (xs : List Record). cond (is_lt (g x y)) (x ∷ y ∷ rs) (y ∷ xs)) (put_there f g x rs (λ r h. e r (inr h)))

in_order_there : (f g : Record → Record → Ordering) (rs : List Record) → ((r s : Record) → Has rs r → Has rs s → f r s ≡ g r s) → in_order f rs ≡ in_order g rs
unfolding in_order
in_order_there f g [] e = refl
in_order_there f g (x ∷ rs) e =
    put_there f g x (in_order f rs) (λ r h. e x r (inl refl) (inr (has_ordered f rs r h)))
    ∙ ap (put_in g x) (in_order_there f g rs (λ r s h i. e r s (inr h) (inr i)))

-- ---- the values of a record can be printed

printable_at : (vs : List Value) (n : ℕ) → list_all is_printable vs ≡ true → is_printable (value_at vs n) ≡ true
printable_at [] n h = refl
printable_at (v ∷ vs) zero h = left (is_printable v) (list_all is_printable vs) h
printable_at (v ∷ vs) (suc n) h = printable_at vs n (right (is_printable v) (list_all is_printable vs) h)

abbrev pub Printable : Type 0
Printable = (t : Tenant) (r : Record) → IsSound t → Has t.records r → IsTrue (list_all is_printable r.values)

module _ (t : Tenant) (r : Record) (sound : IsSound t) (has : Has t.records r) (printable : Printable) where
  it : IsSoundRecord (known t) t.objects r
  it = all_at (IsSoundRecord (known t) t.objects) t.records sound.records.each r has

  pub site_printable : (s : Site) → is_printable (value_in s r) ≡ true
  site_printable its_id = refl
  site_printable its_owner = by r.owner
    where
      by : (o : Option (List ℕ)) → is_printable (value_in its_owner (record r { owner = o })) ≡ true
      by None = refl
      by (Some id) = refl
  site_printable its_created = it.created
  site_printable its_modified = it.modified
  site_printable (value_site n) = printable_at r.values n (printable t r sound has)

-- so they are shown as they are in JSON
shows_json : (t : Tenant) → IsSound t → Printable → ShowsJson t shows
shows_json t sound printable = record {
  values = λ r s has. ap (λ (b : Bool). value_json (cond b (value_in s r) value.Null)) (site_printable t r sound has printable s);
  null = refl;
}

-- ---- what other crates' laws say

pub record Laws : Type 0 where
  pub rise : (t : Tenant) (n : ℕ) → IsSound t → IsStrictlySortedBy by_id (records_of t n)
  pub already : (a : Asked) (rs : List Record) → IsStrictlySortedBy by_id rs → in_order (before a []) rs ≡ rs
  pub named : (t : Tenant) (name : List ℕ) (o : Numbered) → object_named t name ≡ Some o → object_numbered t o.number ≡ Some o.object
  pub printable : Printable
  pub found : (a : Asked) (q : Query) (o : Numbered) (p : Plan) → object_named a.tenant q.tail.from ≡ Some o → Means a o.number q p
      → chosen_by a p.choice (readable_of a o.number) ≡ found a q

-- ---- what a user may read

readable_is : (a : Asked) (n : ℕ) → readable_of a n ≡ filter (can_read a.tenant a.user) (records_of a.tenant n)
unfolding readable
readable_is a n = refl

read_has : (a : Asked) (n : ℕ) (r : Record) → Has (readable_of a n) r → Has (records_of a.tenant n) r
read_has a n r m = (kept_from (can_read a.tenant a.user) (records_of a.tenant n) r (subst (λ (rs : List Record). Has rs r) (readable_is a n) m)).0

read_rise : (a : Asked) (n : ℕ) → IsStrictlySortedBy by_id (records_of a.tenant n) → IsStrictlySortedBy by_id (readable_of a n)
read_rise a n up = subst (IsStrictlySortedBy by_id) (sym (readable_is a n)) (kept_rise (can_read a.tenant a.user) (records_of a.tenant n) up)

-- ---- which rows

module _ (laws : Laws) (a : Asked) (n : ℕ) (sound : IsSound a.tenant) (c : Choice) where
  abbrev own : Parents
  own = λ b. parents_by b c

  abbrev kept : List Record
  kept = filter (is_taken a c) (readable_of a n)

  ordered : (ks : List SortKey) → rows_by own ks (window_of c) (by_parents own (takes c.check)) n a ≡ limited c.most (drop c.skip (in_order (by_keys ks (own a)) kept))
  ordered [] =
      ap (λ (xs : List Record). limited c.most (drop c.skip xs))
      (sym (laws.already a kept (kept_rise (is_taken a c) (readable_of a n) (read_rise a n (laws.rise a.tenant n sound)))))
  ordered (k ∷ ks) = refl

  pub rows_chosen : choice_rows own c n a ≡ chosen_by a c (readable_of a n)
  rows_chosen = ordered c.order

  has_chosen : (ks : List SortKey) (r : Record) → Has (limited c.most (drop c.skip (in_order (by_keys ks (own a)) kept))) r → Has (records_of a.tenant n) r
  has_chosen ks r m =
      let taken = has_dropped c.skip (in_order (by_keys ks (own a)) kept) r (has_limited c.most (drop c.skip (in_order (by_keys ks (own a)) kept)) r m) in
      read_has a n r (kept_from (is_taken a c) (readable_of a n) r (has_ordered (by_keys ks (own a)) kept r taken)).0

  pub has_row : (r : Record) → Has (choice_rows own c n a) r → Has (records_of a.tenant n) r
  has_row r m = has_chosen c.order r (subst (λ (xs : List Record). Has xs r) rows_chosen m)

-- ---- a query of an object

module _ (laws : Laws) (a : Asked) (q : Query) (o : Numbered) (named : object_named a.tenant q.tail.from ≡ Some o) (sound : IsSound a.tenant) where
  module _ (plan : Plan) (means : Means a o.number q plan) where
    abbrev parents : Parents
    parents = λ b. parents_by b plan.choice

    abbrev children : Children
    children = λ b r. map (children_by b r) plan.children

    pub rows_found : choice_rows parents plan.choice o.number a ≡ found a q
    rows_found = rows_chosen laws a o.number sound plan.choice ∙ laws.found a q o plan named means

    row_is : (r : Record) → Has (records_of a.tenant o.number) r → row_json_by parents children o.object.name plan.shown a r ≡ row_json a r q.select
    row_is r m =
        let h = kept_from (is_of o.number) a.tenant.records r m in
        let at : object_of_record a.tenant r ≡ Some o.object = ap (slice_get a.tenant.objects) (eqb-true (object_number r.id) o.number h.1) ∙ laws.named a.tenant q.tail.from o named in
        let called : object_name a r ≡ o.object.name = ap (λ (x : Option Object). in_case x [] (λ v. v.name)) at in
        ap (λ (name : List ℕ). row_text shows name plan.shown (parents a r) (children a r) r) (sym called)
        ∙ means.shown shows (shows_json a.tenant sound laws.printable) r m

    pub texts_are : map (row_json_by parents children o.object.name plan.shown a) (choice_rows parents plan.choice o.number a) ≡ map (λ r. row_json a r q.select) (choice_rows parents plan.choice o.number a)
    texts_are =
        same_map (row_json_by parents children o.object.name plan.shown a) (λ r. row_json a r q.select) (choice_rows parents plan.choice o.number a)
        (λ r m. row_is r (has_row laws a o.number sound plan.choice r m))

  -- ---- the verdict

  verdict_by : (rule : Rule) → first_refusal (query_rules a.tenant o.number q) ≡ rule → ask a q ≡ unless rule a.tenant (accept (rows_of q) a.tenant)
  verdict_by rule e =
      ap (λ (x : Option Numbered). in_case x (refuse a.tenant (InvalidType q.tail.from)) (λ o. judged a.tenant (query_rules a.tenant o.number q) (accept (rows_of q) a.tenant))) named
      ∙ ap (λ (x : Rule). unless x a.tenant (accept (rows_of q) a.tenant)) e

  pub accepted : first_refusal (query_rules a.tenant o.number q) ≡ None → ask a q ≡ accept (rows_of q) a.tenant
  accepted e = verdict_by None e

  pub refused : (why : Refusal) → first_refusal (query_rules a.tenant o.number q) ≡ Some why → ask a q ≡ refuse a.tenant why
  refused why e = verdict_by (Some why) e

-- ---- the reply

bytes_of_rows : (f : Record → List ℕ) (rs : List Record) → flat_map (λ r. encode_utf8_all (44 ∷ f r)) rs ≡ encode_utf8_all (behind_commas (map f rs))
bytes_of_rows f [] = refl
bytes_of_rows f (r ∷ rs) =
    ap (λ (t : List ℕ). encode_utf8_all (44 ∷ f r) ++ t) (bytes_of_rows f rs) ∙ sym (encodes-append (44 ∷ f r) (behind_commas (map f rs)))

abbrev pub Who : Type 1
Who = OrgPlan → Asked → Type 0

-- rows that are written for one list are written for another that is the same
module _ (l : Layout) (who : Who) (row : Asked → Record → List ℕ) (room : ℕ) (old new : List ℕ) (m : Tables) (one other : Asked → List Record) (same : (a : Asked) → one a ≡ other a) where
  pub written_alike : (r : Result ℕ ExecFail) → WritesRows l who one row room old new m r → WritesRows l who other row room old new m r
  written_alike (Ok count) h = λ q a s i its. subst (λ (xs : List Record). AppendsRows (row a) room xs old new count) (same a) (h q a s i its)
  written_alike (Err TooLarge) h = λ q a s i its. subst (λ (xs : List Record). room < length (flat_map (row a) xs)) (same a) (h q a s i its)
  written_alike (Err (Store Damaged)) h = h
  written_alike (Err (Store Keeper)) h = tt
  written_alike (Err (Store Memory)) h = tt

-- without keys
pub in_no_keys : (parents : Parents) (keys : List SortKey) (w : Window) (keep : Asked → Record → Bool) (n : ℕ) → (length keys == 0) ≡ true → (a : Asked) → rows_kept w keep n a ≡ rows_by parents keys w keep n a
in_no_keys parents [] w keep n none a = refl
in_no_keys parents (k ∷ ks) w keep n none a =
    let empty : length (k ∷ ks) ≡ 0 = eqb-true (length (k ∷ ks)) 0 none in
    absurd (omega (arith, empty))

-- with some keys
pub in_keys : ((ks : List SortKey) (far : Record → List (Option Record)) (r s : Record) → by_rank rank_cmp (λ x. rank_by ks (far x) x) r s ≡ by_keys ks far r s)
    → (parents : Parents) (keys : List SortKey) (w : Window) (keep : Asked → Record → Bool) (n : ℕ) → (length keys ≡ 0 → ⊥) → (a : Asked)
    → rows_sorted w (λ a. by_rank rank_cmp (by_parents parents (rank_by keys) a)) keep n a ≡ rows_by parents keys w keep n a
in_keys order parents [] w keep n some a = absurd (some refl)
in_keys order parents (k ∷ ks) w keep n some a =
    ap (λ (xs : List Record). limited w.most (drop w.skip xs))
    (in_order_there (by_rank rank_cmp (by_parents parents (rank_by (k ∷ ks)) a)) (by_keys (k ∷ ks) (parents a)) (filter (keep a) (readable a.tenant a.user n)) (λ r s h i. order (k ∷ ks) (parents a) r s))

module _ (parents : Parents) (children : Children) where
  abbrev row_by : (object : List ℕ) → List Shown → Asked → Record → List ℕ
  row_by object shown = row_json_by parents children object shown

  -- the bytes of a row
  abbrev pub written_by : (object : List ℕ) → List Shown → Asked → Record → List ℕ
  written_by object shown = by_relatives parents children (λ ps cs r. encode_utf8_all (44 ∷ row_text shows object shown ps cs r))

  -- these rows were written
  pub rows_so : (l : Layout) (p : Plan) (a : Asked) (object : List ℕ) (shown : List Shown) (reply : Reply) (old out rows : List ℕ) (count room : ℕ) → object ≡ l.name → shown ≡ p.shown → old ≡ []
      → AppendsRows (written_by object shown a) room (choice_rows parents p.choice l.object a) old out count
      → rows ≡ out
      → ((texts : List (List ℕ)) → count ≡ length texts → rows ≡ encode_utf8_all (behind_commas texts) → reply ≡ unless_too_large (json_reply 200 (rows_json texts)))
      → reply ≡ plan_reply parents children l p a
  rows_so l p a object shown reply old out rows count room named so empty appends same makes =
      let found = choice_rows parents p.choice l.object a in
      makes (map (row_by object shown a) found) (appends.counted ∙ sym (length-map found (row_by object shown a)))
      (same ∙ appends.appended ∙ ap (λ (w : List ℕ). w ++ flat_map (written_by object shown a) found) empty ∙ bytes_of_rows (row_by object shown a) found)
      ∙ ap (λ (xs : List Shown). unless_too_large (json_reply 200 (rows_json (map (row_by object xs a) found)))) so
      ∙ ap (λ (name : List ℕ). unless_too_large (json_reply 200 (rows_json (map (row_by name p.shown a) found)))) named

  -- they are too large
  too_large : (l : Layout) (p : Plan) (a : Asked) → reply_limit < length (flat_map (written_by l.name p.shown a) (choice_rows parents p.choice l.object a))
      → plan_reply parents children l p a ≡ refusal_reply ReplyTooLarge
  too_large l p a over =
      let found = choice_rows parents p.choice l.object a in
      let texts = map (row_by l.name p.shown a) found in
      let more : reply_limit < length (encode_utf8_all (behind_commas texts)) = subst (λ (bytes : List ℕ). reply_limit < length bytes) (bytes_of_rows (row_by l.name p.shown a) found) over in
      ap (λ (b : Bool). cond b (refusal_reply ReplyTooLarge) (json_reply 200 (rows_json texts)))
      (limit_passed (length (encode_utf8_all (behind_commas texts))) (length (encode_utf8_all (rows_json texts))) more (longer texts))
    where
      limit_passed : (n m : ℕ) → reply_limit < n → n ≤ m → nat_lt reply_limit m ≡ true
      limit_passed n m a b = grind (arith, nat_tests)

  pub too_large_so : (l : Layout) (who : Who) (p : Plan) (m : Tables) (object : List ℕ) (shown : List Shown) (r : Result Reply StoreFail) → object ≡ l.name → shown ≡ p.shown → Refuses ReplyTooLarge r
      → InTenants l who m (λ a. reply_limit < length (flat_map (written_by object shown a) (choice_rows parents p.choice l.object a)))
      → AnswersPlan l who parents children p m r
  too_large_so l who p m object shown (Ok r) named so is over = λ q a s i its.
      let rows = choice_rows parents p.choice l.object a in
      is ∙ sym (too_large l p a (subst (λ (name : List ℕ). reply_limit < length (flat_map (written_by name p.shown a) rows)) named
      (subst (λ (xs : List Shown). reply_limit < length (flat_map (written_by object xs a) rows)) so (over q a s i its))))
  too_large_so l who p m object shown (Err e) named so is over = λ q a s i its. λ d. apart (sym is ∙ d)
    where
      apart : Memory ≡ Damaged → ⊥
      apart d = cc

-- what was written is so however the bytes of a row are spelled
pub written_so : (l : Layout) (who : Who) (rows : Asked → List Record) (row : Asked → Record → List ℕ) (room : ℕ) (old new : List ℕ) (m : Tables) (r : Result ℕ ExecFail) → r ≡ Err TooLarge
    → WritesRows l who rows row room old new m r → InTenants l who m (λ a. room < length (flat_map (row a) (rows a)))
written_so l who rows row room old new m r is h = subst (WritesRows l who rows row room old new m) is h

-- a refusal
pub refused_so : (a : Asked) (why : Refusal) (result : Result Reply StoreFail) → Refuses why result → AnswersBy a (refuse a.tenant why) result
refused_so a why (Ok r) e = (e, refl)
refused_so a why (Err f) e = λ d. apart (sym e ∙ d)
  where
    apart : Memory ≡ Damaged → ⊥
    apart d = cc

pub is_layout : ((t : Tenant) (name : List ℕ) (o : Numbered) → object_named t name ≡ Some o → object_numbered t o.number ≡ Some o.object)
    → (org : ℕ) (name : List ℕ) (p : OrgPlan) (t : Tenant) (o : Numbered) → object_named t name ≡ Some o → IsLayout p t (layout_of org p t o)
unfolding own_layout
is_layout named_at org name p t o there =
    ap (λ (x : Option Object). option_map (layout_of org p t) (option_map (λ (y : Object). record { number = o.number; object = y }) x)) (named_at t name o there)

module _ (laws : Laws) (l : Layout) (sees : Whose) (moment : ℤ) (q : Query) (m : Tables) (p : OrgPlan) (a : Asked) (asked : IsAskedOf l sees moment q m p a) where
  pub its_layout : IsLayout p a.tenant l
  its_layout = subst (IsLayout p a.tenant) (sym asked.its) (is_layout laws.named l.org q.tail.from p a.tenant asked.object asked.named)

  number : l.object ≡ asked.object.number
  number = ap (λ (x : Layout). x.object) asked.its

  pub query_refused : (why : Refusal) (result : Result Reply StoreFail) → Some why ≡ first_refusal (query_rules a.tenant l.object q) → Refuses why result → AnswersBy a (ask a q) result
  query_refused why result e is =
      let at : first_refusal (query_rules a.tenant asked.object.number q) ≡ Some why = ap (λ (n : ℕ). first_refusal (query_rules a.tenant n q)) (sym number) ∙ sym e in
      subst (λ (v : Verdict). AnswersBy a v result) (sym (refused laws a q asked.object asked.named asked.stands.sound why at)) (refused_so a why result is)

  module _ (plan : Plan) (means : Means a l.object q plan) (free : first_refusal (query_rules a.tenant l.object q) ≡ None) where
    by_number : Means a asked.object.number q plan
    by_number = subst (λ (n : ℕ). Means a n q plan) number means

    abbrev its_parents : Parents
    its_parents = λ b. parents_by b plan.choice

    abbrev its_children : Children
    its_children = λ b r. map (children_by b r) plan.children

    own_reply : plan_reply its_parents its_children l plan a ≡ unless_too_large (json_reply 200 (found_json a q))
    unfolding found_json
    own_reply =
        ap (λ (x : Layout). plan_reply its_parents its_children x plan a) asked.its
        ∙ ap (λ (ts : List (List ℕ)). unless_too_large (json_reply 200 (rows_json ts)))
        (texts_are laws a q asked.object asked.named asked.stands.sound plan by_number
        ∙ ap (map (λ r. row_json a r q.select)) (rows_found laws a q asked.object asked.named asked.stands.sound plan by_number))

    reply_is : (parents : Parents) (children : Children) → parents ≡ its_parents → children ≡ its_children → plan_reply parents children l plan a ≡ unless_too_large (json_reply 200 (found_json a q))
    reply_is parents children ps cs = ap (λ (xs : Parents). plan_reply xs children l plan a) ps ∙ ap (λ (ys : Children). plan_reply its_parents ys l plan a) cs ∙ own_reply

    verdict_is : ask a q ≡ accept (rows_of q) a.tenant
    verdict_is = accepted laws a q asked.object asked.named asked.stands.sound (ap (λ (n : ℕ). first_refusal (query_rules a.tenant n q)) (sym number) ∙ free)

    pub plan_answers : (who : Who) (parents : Parents) (children : Children) → parents ≡ its_parents → children ≡ its_children → who p a
        → (result : Result Reply StoreFail) → AnswersPlan l who parents children plan m result → AnswersBy a (ask a q) result
    plan_answers who parents children ps cs it (Ok r) answers =
        (answers p a asked.stands its_layout it ∙ reply_is parents children ps cs ∙ ap (λ (v : Verdict). reply_of a v.answer) (sym verdict_is), ap (λ (v : Verdict). v.tenant) verdict_is)
    plan_answers who parents children ps cs it (Err e) answers = answers p a asked.stands its_layout it

-- ---- what was shown

-- it is so, whether the call was done or not
pub so_if_done : (e : Ending) (P : Type 0) → P → IfDone e P
so_if_done done P p = p
so_if_done fell P p = tt
so_if_done stopped P p = tt

-- what is so of a call that was done
pub then_if_done : (e : Ending) (P Q : Type 0) → (P → Q) → IfDone e P → IfDone e Q
then_if_done done P Q f p = f p
then_if_done fell P Q f p = tt
then_if_done stopped P Q f p = tt

-- rows that are too large were all looked at
pub shown_so : (r : Result ℕ ExecFail) (e : Ending) (P : Type 0) → r ≡ Err TooLarge → IfDone (ended_exec r) P → IfDone e P
shown_so r e P is h = so_if_done e P (subst (λ (x : Result ℕ ExecFail). IfDone (ended_exec x) P) is h)

-- a bound may be wider
pub wider_calls : {K : Type 0} (state : K → KeeperState) → ((shown most : ℕ) (a b : Held K) → (DraftTells state a b → shown ≤ most) → DraftReads state shown a b → DraftReads state most a b)
    → (shown most : ℕ) (e : Ending) (a b : Held K) → shown ≤ most → Calls state shown e a b → Calls state most e a b
wider_calls state wider shown most e a b few h = record { reads = wider shown most a b (λ _. few) h.reads; stays = h.stays; cause = h.cause; quiet = h.quiet }
