-- The changes of a page and that of the change itself make of an organisation's rows those after the step.
use Rattle.std.proofs.Common.{◌≡◌, ◌↔◌, ℕ, ◌<◌, ◌≤◌, ◌*◌, ◌^◌, true, false, IsTrue, List, [], ◌∷◌, ◌++◌, length, map, Option, Some, None, refl, sym, ap, subst, ◌∙◌, arith}
use Rattle.std.specs.List.{AllByRecursion, list_all}
use Rattle.std.proofs.lemmas.Bool.{true≢false as clash}
use Rattle.base_lemmas.proofs.Bools.{or_first_false as or_left, by_answer as pick}
use Rattle.std.proofs.lemmas.Option.{same_Some as some_is}
use Rattle.base_lemmas.proofs.Lists.{each-append as all_append}
use Rattle.store_edit.specs.Edits.{Takes}
use Rattle.store_edit.specs.Rows.{change_to}
use Rattle.store_rows.specs.declared.data.DataRow.{DataRow}
use Rattle.store_rows.specs.Keys.{FitsKey, Key, Version, Org, Object, Field, Job, User, Role, Group, Validation, Sharing, Data, Index, Unique, Relation, Owner, Share, Grant, key_eq}
use Rattle.store_rows.specs.Rows.{job_form}
use Rattle.model.specs.declared.record.Record.{Record}
use Rattle.model.specs.Jobs.{is_past, last_id, moved, next_hundred}
use Rattle.model.specs.Membership.{Has}
use Rattle.model.specs.Objects.{is_of}
use Rattle.model.specs.Retyping.{with_job}
use Rattle.model.specs.Sound.{IsSound}
use Rattle.model.specs.Tenant as model
use Rattle.model.specs.Tenant.{Tenant}
use Rattle.model.specs.Verdict.{accept, done}
use Rattle.retype_step.specs.backfill.Progress.{IsPage, come_to, page_changes, record_moves}
use Rattle.retype_step.proofs.Alike.{alike}
use Rattle.retype_step.proofs.BackfillFew.{ArePlain, ConvertsValid, page_few, twin_few}
use Rattle.retype_step.proofs.Fits.{fits_moved, vacant}
use Rattle.retype_step.proofs.Moving.{Beside, ComeEntry, ComeRow, SlotSame, page_is, twin_is}
use Rattle.retype_step.proofs.Order as order
use Rattle.store_abstraction.specs.Changes.{Change, IsOf, is_changed}
use Rattle.store_abstraction.specs.Entries.{data_of, slot_entry, slot_field}
use Rattle.store_abstraction.specs.Layouts.{layout_of}
use Rattle.store_abstraction.specs.Metadata.{job_of}
use Rattle.store_abstraction.specs.Plan.{FitsPlan, OrgPlan}
use Rattle.store_abstraction.specs.Stands.{org_of_key, row_in}
use Rattle.store_abstraction.specs.declared.layout.Layout.{Layout}
use Rattle.record_index.specs.diff.Touched.{HasSoundRows, IsAlike, NoneTakes, has, is_valued, record_ids, touched_changes}
use Rattle.record_index.proofs.DiffTurned.{left_unchanged, right_unchanged}
use Rattle.base_value.specs.Printing.{is_printable}

-- ---- what other crates say

-- of `record_read`, `store_rows`, `record_index`
pub record Laws : Type 0 where
  pub printable : (t : Tenant) (r : Record) → IsSound t → Has t.records r → IsTrue (list_all is_printable r.values)
  pub equal : (a b : Key) → IsTrue (key_eq a b) ↔ (a ≡ b)
  pub slot_same : SlotSame
  pub beside : Beside
  pub come_entry : ComeEntry
  pub come_row : ComeRow
  pub are : (org : ℕ) (p q : OrgPlan) (t u : Tenant) (ids : List (List ℕ)) → IsAlike p q t u ids → HasSoundRows p t → HasSoundRows q u → NoneTakes p q t u ids
      → AllByRecursion (λ c. FitsKey c.0) (touched_changes org p q t u ids) → AllByRecursion (IsOf org q u) (touched_changes org p q t u ids)
  pub rest : (org : ℕ) (p q : OrgPlan) (t u : Tenant) (ids : List (List ℕ)) (k : Key) → IsAlike p q t u ids → HasSoundRows p t → HasSoundRows q u → org_of_key k ≡ Some org → is_valued k ≡ true
      → is_changed (touched_changes org p q t u ids) k ≡ false → row_in q u k ≡ row_in p t k
  pub kept : (p : OrgPlan) (t : Tenant) → IsSound t → FitsPlan p t → HasSoundRows p t
  pub unmoved : (p : OrgPlan) (t u : Tenant) (ids : List (List ℕ)) → IsSound t → IsSound u → u.objects ≡ t.objects → u.records ≡ t.records → NoneTakes p p t u ids

-- the row of a key that is neither of a record nor of a value stays, but for the change's
steady : (equal : (a b : Key) → IsTrue (key_eq a b) ↔ (a ≡ b)) (org : ℕ) (q : OrgPlan) (t : Tenant) (j : model.Job) (k : Key) → org_of_key k ≡ Some org → is_valued k ≡ false → key_eq k (Job org) ≡ false
    → row_in q (with_job j t) k ≡ row_in q t k
unfolding row_in
steady equal org q t j Version own v out = refl
steady equal org q t j (Org a) own v out = refl
steady equal org q t j (Object a n) own v out = refl
steady equal org q t j (Field a n f) own v out = refl
steady equal org q t j (Job a) own v out = absurd (clash (sym ((equal (Job a) (Job org)).1 (ap (λ (x : ℕ). Job x) (some_is a org own))) ∙ out))
steady equal org q t j (User a i) own v out = refl
steady equal org q t j (Role a i) own v out = refl
steady equal org q t j (Group a i) own v out = refl
steady equal org q t j (Validation a n name) own v out = refl
steady equal org q t j (Sharing a name) own v out = refl
steady equal org q t j (Data a n i) own v out = absurd cc
steady equal org q t j (Index a n s key i) own v out = absurd cc
steady equal org q t j (Unique a n s key) own v out = absurd cc
steady equal org q t j (Relation a n s target i) own v out = absurd cc
steady equal org q t j (Owner a n i k) own v out = refl
steady equal org q t j (Share a i to) own v out = refl
steady equal org q t j (Grant a to n i c) own v out = refl

-- ---- a page

module _ (laws : Laws) (org : ℕ) (q : OrgPlan) (t : Tenant) (j : model.Job) (o : model.Object) (rs : List Record) (page : IsPage q t j o rs) (sound_after : IsSound (with_job (moved j rs) t)) where
  abbrev after : model.Job
  after = moved j rs

  abbrev u : Tenant
  u = with_job after t

  abbrev c : Option (List ℕ)
  c = last_id rs

  abbrev l : Layout
  l = layout_of org q t (record { number = j.object; object = o })

  abbrev row : Record → DataRow
  row r = data_of org j.object r (slot_entry q t.job j.object o r)

  abbrev changes : List Change
  changes = page_changes l c (map row rs) rs

  none_has : slot_field q j.object o.fields q.other ≡ None
  none_has = vacant q t j o page.fits page.job page.busy page.there

  fits_after : FitsPlan q u
  fits_after = fits_moved q t j c page.job page.fits

  kept_before : HasSoundRows q t
  kept_before = laws.kept q t page.sound page.fits

  kept_after : HasSoundRows q u
  kept_after = laws.kept q u sound_after fits_after

  -- where the page ends
  ends : (i : List ℕ) × (last_id (next_hundred t j) ≡ Some i) × (c ≡ Some i)
  ends = let (i, last) = order.last_there rs page.some in (i, ap last_id page.next ∙ last, last)

  -- its records
  record OnPage (r : Record) : Type 0 where
    in_all : Has t.records r
    of : is_of j.object r ≡ true
    past : is_past j.cursor r.id ≡ true
    come : is_past c r.id ≡ false

  on_page : (r : Record) → Has rs r → OnPage r
  on_page r has =
      let (i, last, end) = ends in
      let there = subst (λ (xs : List Record). Has xs r) (sym page.next) has in
      let (in_all, of, past) = order.among t j i page.sound last r there in
      record {
        in_all = in_all;
        of = of;
        past = past;
        come = subst (λ (x : Option (List ℕ)). is_past x r.id ≡ false) (sym end) (order.come t j i page.sound last r there);
      }

  stays : (r : Record) → Has t.records r → is_of j.object r ≡ true → has (record_ids rs) r.id ≡ false → is_past c r.id ≡ is_past j.cursor r.id
  stays r in_all of out =
      let (i, last, end) = ends in
      subst (λ (x : Option (List ℕ)). is_past x r.id ≡ is_past j.cursor r.id) (sym end)
      (order.stays t j i page.sound last r in_all of (subst (λ (xs : List Record). has (record_ids xs) r.id ≡ false) (sym page.next) out))

  same : IsAlike q q t u (record_ids rs)
  same = alike q t j c (record_ids rs) page.job stays

  changes_are : changes ≡ touched_changes org q q t u (record_ids rs)
  changes_are =
      page_is laws.slot_same laws.beside laws.come_entry laws.come_row org q t j o c page.sound page.fits page.job page.there none_has rs
      (λ r has. let on = on_page r has in (on.come, laws.printable t r page.sound on.in_all, on.of, kept_before.each r on.in_all))

  are_page : AllByRecursion (λ x. FitsKey x.0) changes → AllByRecursion (IsOf org q u) changes
  are_page keys =
      subst (AllByRecursion (IsOf org q u)) (sym changes_are)
      (laws.are org q q t u (record_ids rs) same kept_before kept_after (laws.unmoved q t u (record_ids rs) page.sound sound_after refl refl) (subst (AllByRecursion (λ x. FitsKey x.0)) changes_are keys))

  job_is : org < 2 ^ 32 → IsOf org q u (change_to job_form (job_of org q after))
  unfolding row_in
  job_is lo = (lo, refl, refl)

  rest_stays : (k : Key) → org_of_key k ≡ Some org → is_changed (changes ++ change_to job_form (job_of org q after) ∷ []) k ≡ false → row_in q u k ≡ row_in q t k
  rest_stays k own out =
      let on_page = left_unchanged changes (change_to job_form (job_of org q after) ∷ []) k out in
      let of_job = right_unchanged changes (change_to job_form (job_of org q after) ∷ []) k out in
      pick (is_valued k) (λ b. is_valued k ≡ b → row_in q u k ≡ row_in q t k)
      (λ _ valued. laws.rest org q q t u (record_ids rs) k same kept_before kept_after own valued (subst (λ (cs : List Change). is_changed cs k ≡ false) changes_are on_page))
      (λ _ not_valued. steady laws.equal org q t after k own not_valued (or_left (key_eq k (Job org)) false of_job))
      refl

  pub takes : org < 2 ^ 32 → AllByRecursion (λ x. FitsKey x.0) changes
      → Takes org q t (accept done u) done (λ q t next. Unit {0}) (changes ++ change_to job_form (job_of org q after) ∷ [])
  takes lo keys = record {
    answer = refl;
    sound = sound_after;
    plan = q;
    kept = tt;
    fits = fits_after;
    are = all_append (IsOf org q u) changes (change_to job_form (job_of org q after) ∷ []) (are_page keys) (job_is lo, tt);
    rest = rest_stays;
  }

  pub few : ConvertsValid → ArePlain → length changes ≤ 2 * length rs
  few valids plain = page_few l (come_to c l) row rs each
    where
      each : (r : Record) → Has rs r → length (record_moves l (come_to c l) (row r) r) ≤ 2
      each r has =
          let on = on_page r has in
          let twin = twin_few valids plain q t j o c page.sound page.fits page.job page.busy page.there none_has r on.in_all on.of on.past on.come org in
          let is = ap (λ (cs : List Change). length cs) (twin_is laws.slot_same laws.beside laws.come_entry laws.come_row org q t j o c page.sound page.fits page.job page.there none_has r on.come) in
          omega (arith, twin, is)
