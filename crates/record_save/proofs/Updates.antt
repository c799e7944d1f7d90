-- The changes of an update that is accepted take the organisation's rows to those of the tenant that it leaves.
use Rattle.std.proofs.Common.{◌≡◌, ◌∙◌, ℕ, ◌+◌, ◌<◌, ◌≤◌, Bool, cond, IsTrue, List, [], ◌∷◌, ◌++◌, length, map, Option, Some, None, refl, sym, ap, subst, arith, bytes_eq}
use Rattle.std.specs.Prelude.{Result, Ok, Err, IfOk}
use Rattle.std.specs.List.{AllByRecursion, list_all}
use Rattle.std.specs.Option.{option_and_then}
use Rattle.std.proofs.lemmas.Bool.{eqb-true}
use Rattle.std.proofs.lemmas.List.{append-nil}
use Rattle.base_lemmas.proofs.Bools.{by_answer as pick}
use Rattle.base_lemmas.proofs.Texts.{bytes_eq-self as same_text, bytes_eq_false_sym as turned}
use Rattle.std.proofs.lemmas.Option.{same_Some as some_is}
use Rattle.record_read.proofs.Standing.{Found, found_of}
use Rattle.record_read.specs.Decoding.{kinds_in}
use Rattle.store_edit.specs.Edits.{Takes}
use Rattle.store_edit.specs.Rows.{AreFew, AreSpelled, gone_of}
use Rattle.store_edit.specs.Rows as rows
use Rattle.store_edit.specs.declared.decided.Decided.{Decided}
use Rattle.store_kv.specs.declared.keeper.Change.{Change as Spelled}
use Rattle.store_rows.specs.declared.data.DataRow.{DataRow}
use Rattle.store_rows.specs.declared.share.ShareRow.{ShareRow}
use Rattle.store_rows.specs.Keys.{FitsKey}
use Rattle.model.specs.declared.record.Record.{Record}
use Rattle.model.specs.declared.record_bodies.Assignment.{Assignment}
use Rattle.model.specs.Keys.{Key}
use Rattle.model.specs.Objects.{Numbered, is_of, object_number, object_numbered, record_at}
use Rattle.model.specs.Paths.{Asked}
use Rattle.model.specs.Rights.{record_of_object}
use Rattle.model.specs.Rules.{first_refusal}
use Rattle.model.specs.Sound.{IsSound}
use Rattle.model.specs.SoundRecords.{all_valid}
use Rattle.model.specs.Tenant.{Object, Tenant}
use Rattle.model.specs.Updates.{update_on, update_rules, with_changed}
use Rattle.model.specs.World.{having_id}
use Rattle.record_index.specs.Changed.{record_changes}
use Rattle.record_index.specs.Turned.{turned_changes}
use Rattle.store_abstraction.specs.Changes.{Change}
use Rattle.store_abstraction.specs.declared.fail.EditFail.{EditFail}
use Rattle.store_abstraction.specs.declared.layout.Layout.{Layout}
use Rattle.store_abstraction.specs.Entries.{data_of, slot_entry}
use Rattle.store_abstraction.specs.Layouts.{layout_of}
use Rattle.store_abstraction.specs.Plan.{FitsPlan, OrgPlan}
use Rattle.store_abstraction.specs.Stands.{kept_at}
use Rattle.record_index.specs.diff.Touched.{touched_changes}
use Rattle.base_value.specs.Printing.{is_printable}
use Rattle.record_save.specs.Creating.{IsObject}
use Rattle.record_save.specs.declared.updating.Altered.{Altered}
use Rattle.record_target.specs.declared.kept.KeptRecord.{KeptRecord}
use Rattle.record_target.specs.Shares.{shares_removed}
use Rattle.record_save.specs.inner.Judged.{HaveKeys}
use Rattle.record_target.specs.Kept.{IsKept}
use Rattle.record_save.specs.inner.Giving.{altered}
use Rattle.record_save.specs.inner.Updated.{IsAltered, altered_changes}
use Rattle.record_save.specs.Updating.{PlansSame, answered_changed, shares_gone, updated_changes}
use Rattle.record_save.proofs.Creates.{Printable, all_printable}

-- ---- the record is the one that its id names, before and after

abbrev named_in : List Record → List ℕ → Option Record
named_in rs id = having_id (λ (y : Record). y.id) rs id

changed_itself : (old r : Record) (rs : List Record) → named_in rs r.id ≡ Some old → named_in (map (λ (y : Record). cond (bytes_eq y.id r.id) r y) rs) r.id ≡ Some r
changed_itself old r [] e = absurd cc
changed_itself old r (x ∷ rs) e =
    pick (bytes_eq x.id r.id) (λ b. named_in (cond b r x ∷ map (λ (y : Record). cond (bytes_eq y.id r.id) r y) rs) r.id ≡ Some r)
    (λ _. rw (same_text r.id) refl)
    (λ apart.
    let other = turned x.id r.id apart in
    rw other (changed_itself old r rs (subst (λ (b : Bool). cond b (Some x) (named_in rs r.id) ≡ Some old) other e)))

-- ---- what other crates say

abbrev RowsTurned : Type 0
RowsTurned = (org n : ℕ) (p : OrgPlan) (t u : Tenant) (o : Object) (old new : Record) → u.objects ≡ t.objects → u.job ≡ t.job → new.id ≡ old.id
    → IsTrue (list_all is_printable new.values) → IsTrue (is_of n new) → record_at t old.id ≡ Some old → record_at u new.id ≡ Some new → object_numbered t n ≡ Some o
    → turned_changes (layout_of org p t (record { number = n; object = o })) (data_of org n old (slot_entry p t.job n o old)) old new
    ≡ record_changes org n new.id (kept_at p t n new.id) (kept_at p u n new.id)

pub record UpdateLaws : Type 0 where
  pub takes : (org : ℕ) (q : OrgPlan) (a : Asked) (o : Numbered) (key : Option Key) (given : List Assignment) (old : Record)
      → IsSound a.tenant → FitsPlan q a.tenant → IsSound (update_on a o key given old).tenant
      → None ≡ first_refusal (update_rules a o key given old (altered a o.object key given old))
      → AllByRecursion (λ (c : Change). FitsKey c.0) (shares_gone org a.tenant old (altered a o.object key given old))
      → AllByRecursion (λ (c : Change). FitsKey c.0) (touched_changes org q q a.tenant (with_changed old (altered a o.object key given old) a.tenant) (old.id ∷ []))
      → Takes org q a.tenant (update_on a o key given old) (answered_changed key old.id) PlansSame (updated_changes org q a.tenant old (altered a o.object key given old))
  pub rows : RowsTurned
  pub printable : Printable

-- ---- the record that is kept

found_there : (n : ℕ) (x : Option Record) (r : Record) → option_and_then (λ (y : Record). cond (is_of n y) (Some y) None) x ≡ Some r → x ≡ Some r
found_there n None r e = absurd cc
found_there n (Some s) r e = pick (is_of n s) (λ b. cond b (Some s) None ≡ Some r → ◌≡◌ {A = Option Record} (Some s) (Some r)) (λ _ h. h) (λ _ h. absurd cc) e

-- it has that id, is one of the tenant's, and is of the object
pub kept_found : (org : ℕ) (q : OrgPlan) (t : Tenant) (o : Numbered) (l : Layout) (id : List ℕ) (k : KeptRecord) → IsObject org q t o l → IsKept q t l id k → Found t o.number id k.item
kept_found org q t o l id k at kept = found_of t o.number id k.item (record_at t id) refl (ap (λ (l : Layout). record_of_object t l.object id) (sym at.layout) ∙ kept.is)

-- ---- the changes

keys_first : (xs ys : List Change) → HaveKeys (xs ++ ys) → HaveKeys xs
keys_first [] ys h = tt
keys_first (x ∷ xs) ys h = (h.0, keys_first xs ys h.1)

keys_second : (xs ys : List Change) → HaveKeys (xs ++ ys) → HaveKeys ys
keys_second [] ys h = h
keys_second (x ∷ xs) ys h = keys_second xs ys h.1

module _ (laws : UpdateLaws) (q : OrgPlan) (a : Asked) (o : Numbered) (l : Layout) (key : Option Key) (given : List Assignment) (sound : IsSound a.tenant) (at : IsObject l.org q a.tenant o l) (id : List ℕ) (k : KeptRecord) (kept : IsKept q a.tenant l id k) (x : Altered) (is : IsAltered l.org a o key given k.item x) where
  abbrev t : Tenant
  t = a.tenant

  abbrev org : ℕ
  org = l.org

  abbrev old : Record
  old = k.item

  abbrev r : Record
  r = altered a o.object key given old

  its : Found t o.number id old
  its = kept_found org q t o l id k at kept

  before : record_at t old.id ≡ Some old
  before = ap (record_at t) its.same ∙ found_there o.number (record_at t id) old (ap (λ (l : Layout). record_of_object t l.object id) (sym at.layout) ∙ kept.is)

  after : record_at (with_changed old r t) r.id ≡ Some r
  after = changed_itself old r t.records before

  same_object : kept.object ≡ o.object
  same_object = some_is kept.object o.object (sym kept.there ∙ (ap (λ (l : Layout). object_numbered t l.object) at.layout ∙ at.there))

  row_is : k.row ≡ data_of org o.number old (slot_entry q t.job o.number o.object old)
  row_is =
      kept.row
      ∙ (ap (λ (l : Layout). data_of org l.object old (slot_entry q t.job l.object kept.object old)) at.layout
      ∙ ap (λ (object : Object). data_of org o.number old (slot_entry q t.job o.number object old)) same_object)

  number : o.number ≡ object_number r.id
  number = sym (eqb-true (object_number r.id) o.number its.of)

  module _ (printable : IsTrue (list_all is_printable r.values)) where
    touched_is : turned_changes (layout_of org q t o) (data_of org o.number old (slot_entry q t.job o.number o.object old)) old r ≡ touched_changes org q q t (with_changed old r t) (r.id ∷ [])
    touched_is =
        let u = with_changed old r t in
        laws.rows org o.number q t u o.object old r refl refl refl printable its.of before after at.there
        ∙ (ap (λ (m : ℕ). record_changes org m r.id (kept_at q t m r.id) (kept_at q u m r.id)) number
        ∙ sym (append-nil (record_changes org (object_number r.id) r.id (kept_at q t (object_number r.id) r.id) (kept_at q u (object_number r.id) r.id))))

    turned_are : turned_changes l k.row old x.new ≡ touched_changes org q q t (with_changed old r t) (r.id ∷ [])
    turned_are =
        ap (λ (l : Layout). turned_changes l k.row old x.new) at.layout
        ∙ (ap (λ (row : DataRow). turned_changes (layout_of org q t o) row old x.new) row_is
        ∙ (ap (λ (z : Record). turned_changes (layout_of org q t o) (data_of org o.number old (slot_entry q t.job o.number o.object old)) old z) is.new
        ∙ touched_is))

    shares_are : shares_removed org x.new.id x.shares ≡ shares_gone org t old r
    shares_are = is.shares ∙ ap (λ (z : Record). shares_gone org t old z) is.new

    changes_are : altered_changes l k x ≡ updated_changes org q t old r
    changes_are =
        ap (λ (cs : List Change). cs ++ turned_changes l k.row old x.new) shares_are
        ∙ ap (λ (cs : List Change). shares_gone org t old r ++ cs) turned_are

  pub update_taken : IsTrue (all_valid (kinds_in l.fields) x.new.values) → FitsPlan q t → IsSound (update_on a o key given old).tenant → HaveKeys (altered_changes l k x)
      → Takes org q t (update_on a o key given old) (answered_changed key old.id) PlansSame (altered_changes l k x)
  update_taken values plan leaves keys =
      let printable = subst (λ (z : Record). IsTrue (list_all is_printable z.values)) is.new (all_printable laws.printable (kinds_in l.fields) x.new.values values) in
      let free = subst (λ (z : Record). None ≡ first_refusal (update_rules a o key given old z)) is.new is.free in
      let are = changes_are printable in
      let fit = subst HaveKeys are keys in
      let gone = shares_gone org t old r in
      let touched = touched_changes org q q t (with_changed old r t) (r.id ∷ []) in
      subst (λ (cs : List Change). Takes org q t (update_on a o key given old) (answered_changed key old.id) PlansSame cs) (sym are)
      (laws.takes org q a o key given old sound plan leaves free (keys_first gone touched fit) (keys_second gone touched fit))

-- ---- they are few

module _ (few : (l : Layout) (kept : DataRow) (old new : Record) → length (turned_changes l kept old new) ≤ 289) (gone : (l : Layout) (kept : DataRow) (old new : Record) → gone_of (map rows.spelled (turned_changes l kept old new)) ≡ 0) where
  length_both : (xs ys : List Change) → length (map rows.spelled (xs ++ ys)) ≡ length xs + length ys
  length_both [] [] = refl
  length_both [] (y ∷ ys) = let e = length_both [] ys in omega (arith, e)
  length_both (x ∷ xs) ys = let e = length_both xs ys in omega (arith, e)

  some_removed : (org : ℕ) (id : List ℕ) (us : List ShareRow) → length (shares_removed org id us) ≡ length us
  some_removed org id [] = refl
  some_removed org id (u ∷ us) = let e = some_removed org id us in omega (arith, e)

  none_gone : (org : ℕ) (id : List ℕ) (us : List ShareRow) (ys : List Change) → gone_of (map rows.spelled (shares_removed org id us ++ ys)) ≡ gone_of (map rows.spelled ys)
  none_gone org id [] ys = refl
  none_gone org id (u ∷ us) ys = let e = none_gone org id us ys in omega (arith, e)

  head : (l : Layout) (kept : DataRow) (old new : Record) → 0 < length (turned_changes l kept old new)
  unfolding turned_changes
  head l kept old new = omega arith

  are_few : (l : Layout) (k : KeptRecord) (x : Altered) (items : List Spelled) → length x.shares ≤ 100 → AreSpelled (altered_changes l k x) items → AreFew 389 0 items
  are_few l k x items short is =
      let ys = turned_changes l k.row k.item x.new in
      let both = length_both (shares_removed l.org x.new.id x.shares) ys in
      let shares = some_removed l.org x.new.id x.shares in
      let most = few l k.row k.item x.new in
      let some = head l k.row k.item x.new in
      let none = none_gone l.org x.new.id x.shares ys ∙ gone l k.row k.item x.new in
      subst (AreFew 389 0) (sym is) (record { some = omega (arith, both, some); most = omega (arith, both, shares, most, short); gone = omega (arith, none) })

  pub altered_few : (l : Layout) (k : KeptRecord) (x : Altered) (result : Result (Decided (Unit {0})) EditFail) → length x.shares ≤ 100 → IfOk result (λ y. AreSpelled (altered_changes l k x) y.changes.items) → IfOk result (λ y. AreFew 389 0 y.changes.items)
  altered_few l k x (Ok y) short made = are_few l k x y.changes.items short made
  altered_few l k x (Err e) short made = tt
