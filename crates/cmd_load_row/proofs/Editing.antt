-- The edit that a row asks for, as what is told of the row.
use Rattle.std.proofs.Common.{◌≡◌, ◌≤◌, ◌<◌, ◌^◌, ◌∙◌, ℕ, ◌+◌, Bool, true, false, IsTrue, List, [], ◌∷◌, Option, Some, None, Result, Ok, Err, refl, sym, ap, subst, arith, ℤ, pos}
use Rattle.std.proofs.lemmas.Slice.Eq.{bytes_eq-Decides}
use Rattle.std.specs.Prelude.{IfErr, OnOk, if◌then◌else◌, is_some}
use Rattle.std.specs.List.{list_all}
use Rattle.std.specs.Str.{all_scalars, bytes_eq}
use Rattle.base_lemmas.proofs.Numbers.{seconds_below as few_seconds}
use Rattle.cmd_load_plan.specs.Rows.{done_line, has_characters, row_line}
use Rattle.record_read.proofs.RecordFits.{MakesIds, record_is_id}
use Rattle.store_edit.specs.Edits.{DraftsEdit, EditsAt, MakesEdit, OthersStay, Planned}
use Rattle.record_input.specs.Given.{Finds}
use Rattle.record_input.specs.declared.found.Found.{Found}
use Rattle.store_kv.specs.Draft.{DraftReads, DraftTells, Held, count_of}
use Rattle.store_kv.specs.State.{KeeperState}
use Rattle.store_kv.specs.Tables.{Tables}
use Rattle.store_rows.specs.declared.fail.StoreFail.{StoreFail}
use Rattle.store_rows.specs.declared.fail.StoreFail.TheVariants.{Damaged, Memory}
use Rattle.model.specs.declared.caller.Caller.{Caller}
use Rattle.model.specs.declared.record_bodies.Assignment.{Assignment}
use Rattle.model.specs.declared.refusal.Refusal.{Refusal}
use Rattle.model.specs.Cases.{in_case}
use Rattle.model.specs.Paths.{Asked}
use Rattle.model_requests.specs.Requests.{Request, verdict_on}
use Rattle.model.specs.Sound.{IsSound}
use Rattle.model.specs.Tenant.{Object, Tenant, User}
use Rattle.model.specs.Verdict.{Done, Verdict}
use Rattle.model.specs.World.{user_at}
use Rattle.record_save.specs.Creating.{IsGiving, ReadsFound}
use Rattle.access_traits.specs.Rights.{Whose}
use Rattle.model_invariant.specs.Fit.{IsCaller, OfObjects, ReadsWell, ReadsWellByKey, is_spelled}
use Rattle.store_abstraction.specs.Calls.{Calls, Ending, Makes, done, ended_by, ended_edit, fell, stopped}
use Rattle.store_abstraction.specs.Fails.{IsRefusal}
use Rattle.store_abstraction.specs.Local.{StandsIn}
use Rattle.store_abstraction.specs.Plan.{OrgPlan}
use Rattle.store_abstraction.specs.declared.fail.EditFail.{EditFail}
use Rattle.store_abstraction.specs.declared.fail.EditFail.TheVariants.{Refused, Store}
use Rattle.record_save.specs.upsert.Upserting.{ReadsFoundByKey}
use Rattle.record_save.specs.declared.upsert.upsert.Upserted.{Upserted}
use Rattle.base_value.specs.Dates.{is_moment}
use Rattle.cmd_load_row.specs.Loads.{load_shown, row_changes}
use Rattle.cmd_load_row.specs.inner.Edits.{AsksBy, EditsRow, EditsTo, KnowsFound, seen, text_is_spelled}
use Rattle.cmd_load_row.proofs.Reading.{HasIds, ReadLaw, reads_well, reads_well_by_key}

-- ---- who asks

-- who is found by an id has it
has_id : (users : List User) (i : List ℕ) (u : User) → user_at users i ≡ Some u → i ≡ u.id
has_id [] i u e = absurd cc
has_id (x ∷ xs) i u e = by (bytes_eq i x.id) refl (has_id xs i u)
  where
    first : Some x ≡ Some u → x ≡ u
    first e = cc

    by : (b : Bool) → bytes_eq i x.id ≡ b → (user_at xs i ≡ Some u → i ≡ u.id) → i ≡ u.id
    by true same rest =
        let is : x ≡ u = first (sym (ap (λ b. if b then Some x else user_at xs i) same) ∙ e) in
        (bytes_eq-Decides i x.id).0 same ∙ ap (λ (y : User). y.id) is
    by false same rest = rest (sym (ap (λ b. if b then Some x else user_at xs i) same) ∙ e)

-- who asks is a user, at a moment of the calendar
asks_within : (whose : Whose) (c : Caller) (n : ℕ) (a : Asked) → IsTrue (is_moment (pos n)) → AsksBy whose c n a → (a.user.id ≡ c.user) × IsCaller a
asks_within whose c n a moment h =
    let id : a.user.id ≡ c.user = sym (has_id a.tenant.users c.user a.user h.0.user) in
    (id, (subst (λ (i : List ℕ). IsTrue (is_some (user_at a.tenant.users i))) (sym id) (ap is_some h.0.user), subst (λ (z : ℤ). IsTrue (is_moment z)) (sym h.0.now) moment))

-- ---- what is given has its form

-- what `base_value` and `model_invariant` say of values, ids and what is given
pub record FitLaws : Type 0 where
  pub read : ReadLaw
  pub ids : MakesIds
  pub given : (a : Asked) (o : Object) (given : List Assignment) → IsTrue (list_all (λ x. is_spelled x.given) given) → ReadsWell a o given
  pub key : (a : Asked) (key : List ℕ) (text : Option (List ℕ)) (given : List Assignment) → IsSound a.tenant
      → IsTrue (list_all (λ x. is_spelled x.given) given) → IsTrue (in_case text true all_scalars) → OfObjects a (λ o. ReadsWellByKey a key text o given)

module _ (laws : FitLaws) (whose : Whose) (c : Caller) (n : ℕ) (now : ℤ) (object : List ℕ) (given : List Assignment) (found : List Found)
    (at : now ≡ pos n) (moment : IsTrue (is_moment (pos n))) (spelled : IsTrue (list_all (λ x. has_characters x.given) given)) where
  ids_in : (t : Tenant) → IsSound t → HasIds t
  ids_in t sound r has = record_is_id laws.ids t r sound has

  -- of a create
  pub create_fits : (a : Asked) → IsSound a.tenant → KnowsFound whose c n object given found a → IsGiving whose c.user now (ReadsFound object found given) a
  create_fits a sound h =
      let asked = asks_within whose c n a moment h.0 in
      record {
        asker = record { rights = h.0.1; user = asked.0; now = h.0.0.now ∙ sym at };
        caller = asked.1;
        reads = λ m o there. record {
          reads = reads_well laws.read a (ids_in a.tenant sound) given spelled o (laws.given a o [] refl);
          finds = λ x named is. subst (λ (y : Object). Finds a.tenant y None found given) is (h.1 x named);
        };
      }

  -- of an upsert
  pub upsert_fits : (key : List ℕ) (text : Option (List ℕ)) → IsTrue (text_is_spelled text) → (a : Asked) → IsSound a.tenant → KnowsFound whose c n object given found a
      → IsGiving whose c.user now (ReadsFoundByKey object key text found given) a
  upsert_fits key text scalars a sound h =
      let asked = asks_within whose c n a moment h.0 in
      record {
        asker = record { rights = h.0.1; user = asked.0; now = h.0.0.now ∙ sym at };
        caller = asked.1;
        reads = λ m o there. record {
          reads = reads_well_by_key laws.read a (ids_in a.tenant sound) given spelled key text o (laws.key a key text [] sound refl scalars m o there);
          finds = λ x named is. subst (λ (y : Object). Finds a.tenant y None found given) is (h.1 x named);
        };
      }

-- ---- what the edit comes to

abbrev KeepsRefused : Tenant → Verdict → Type 0
KeepsRefused t v = (r : Refusal) → v.answer ≡ Err r → v.tenant ≡ t

-- an edit of which the answer is seen by view, and whose line is that of what the verdict calls it
module _ {X : Type 0} (view : X → Upserted) (answered : X → Done) (same_line : (x : X) (number : ℕ) → row_line number (Ok (answered x)) ≡ done_line number (view x).id (view x).created) where
  edits_to : (org : ℕ) (t : Tenant) (v : Verdict) (planned : OrgPlan → Type 0) (after : Tables) (edit : Result X EditFail) → KeepsRefused t v → EditsAt org v answered planned after edit
      → EditsTo org t v after (seen view edit)
  edits_to org t v planned after (Ok x) kept e = (λ number. ap (row_line number) e.0 ∙ same_line x number, (e.1.0, e.1.2))
  edits_to org t v planned after (Err (Refused r)) kept e = (e, kept r e)
  edits_to org t v planned after (Err (Store f)) kept e = e

  others_seen : (org : ℕ) (m after : Tables) (edit : Result X EditFail) → OthersStay org m after edit → OthersStay org m after (seen view edit)
  others_seen org m after (Ok x) stay = stay
  others_seen org m after (Err e) stay = stay

  pub row_edited : (org : ℕ) (asks : Asked → Type 0) (request : Request) (verdict : Asked → Verdict) (planned : Planned) (fits : Asked → Type 0) (m after : Tables) (edit : Result X EditFail) (result : Result Upserted EditFail)
      → result ≡ seen view edit → ((a : Asked) → verdict a ≡ verdict_on a request) → ((a : Asked) → KeepsRefused a.tenant (verdict_on a request)) → ((a : Asked) → IsSound a.tenant → asks a → fits a)
      → MakesEdit org verdict answered planned fits m after edit → EditsRow org asks request m after result
  row_edited org asks request verdict planned fits m after edit result is same kept fit h =
      subst (λ (r : Result Upserted EditFail). EditsRow org asks request m after r) (sym is) (record {
        others = others_seen org m after edit h.others;
        edited = λ q a stands asking.
            subst (λ (v : Verdict). EditsTo org a.tenant v after (seen view edit)) (same a)
            (edits_to org a.tenant (verdict a) (planned q a.tenant) after edit (subst (KeepsRefused a.tenant) (sym (same a)) (kept a)) (h.edited q a stands (fit a stands.sound asking)));
      })

-- what is answered as it is
pub seen_itself : (edit : Result Upserted EditFail) → edit ≡ seen (λ x. x) edit
seen_itself (Ok x) = refl
seen_itself (Err e) = refl

-- for fewer who ask
pub asked_fewer : (org : ℕ) (some asks : Asked → Type 0) (request : Request) (m after : Tables) (result : Result Upserted EditFail)
    → ((q : OrgPlan) (a : Asked) → StandsIn org q m (Some a.tenant) → asks a → some a) → EditsRow org some request m after result → EditsRow org asks request m after result
asked_fewer org some asks request m after result among h = record { others = h.others; edited = λ q a stands asking. h.edited q a stands (among q a stands asking) }

-- the work on the tables stopped
pub row_stopped : (org : ℕ) (asks : Asked → Type 0) (request : Request) (m after : Tables) (e : StoreFail) (result : Result Upserted EditFail) → result ≡ Err (Store e)
    → ((q : OrgPlan) (a : Asked) → StandsIn org q m (Some a.tenant) → asks a → e ≡ Damaged → ⊥) → EditsRow org asks request m after result
row_stopped org asks request m after e result is never =
    subst (λ (r : Result Upserted EditFail). EditsRow org asks request m after r) (sym is) (record { others = tt; edited = λ q a stands asking. never q a stands asking })

pub never_damaged : Memory ≡ Damaged → ⊥
never_damaged e = cc

-- ---- what is left of the draft

-- what `store_abstraction` says of no call at all, of reads, and of wider bounds
pub record CallLaws {K : Type 0} (state : K → KeeperState) : Type 0 where
  pub weaker : (shown : ℕ) (e : Ending) (a b : Held K) → (e ≡ fell → ⊥) → Calls state shown done a b → Calls state shown e a b
  pub none : (e : Ending) (a : Held K) → e ≡ done → Calls state 0 e a a
  pub makes : (shown : ℕ) (e : Ending) (a b : Held K) → Calls state shown e a b → Makes state 0 0 shown e a b
  pub most : (most gone shown more taken larger : ℕ) (e : Ending) (a b : Held K) → most ≤ more → gone ≤ taken → (DraftTells state a b → shown ≤ larger) → Makes state most gone shown e a b → Makes state more taken larger e a b

module _ {K : Type 0} (state : K → KeeperState) (laws : CallLaws state) where
  wider : (shown : ℕ) (a b : Held K) → shown ≤ load_shown → DraftReads state shown a b → DraftReads state load_shown a b
  wider shown a b few h = record { same_reference = h.same_reference; changes = h.changes; reads = h.reads; shows = λ told. let e = h.shows told in omega (arith, e, few) }

  -- a read that stopped
  pub stopped_drafts : (e : StoreFail) (a b : Held K) (result : Result Upserted EditFail) → result ≡ Err (Store e) → Calls state 0 (ended_by e) a b → DraftsEdit state row_changes 0 load_shown result a b
  stopped_drafts e a b result is calls =
      subst (λ (r : Result Upserted EditFail). DraftsEdit state row_changes 0 load_shown r a b) (sym is) (record {
        makes = laws.most 0 0 0 row_changes 0 load_shown (ended_by e) a b (omega arith) (omega arith) (λ _. omega arith) (laws.makes 0 (ended_by e) a b calls);
        some = tt;
        refused = λ r. absurd r;
      })

  -- out of memory after a read
  pub memory_drafts : (a b : Held K) (result : Result Upserted EditFail) → result ≡ Err (Store Memory) → Calls state 0 done a b → DraftsEdit state row_changes 0 load_shown result a b
  memory_drafts a b result is calls = stopped_drafts Memory a b result is (laws.weaker 0 stopped a b (λ e. cc) calls)

  module _ {X : Type 0} (view : X → Upserted) (most gone shown : ℕ) (a b : Held K) where
    ended_so : (edit : Result X EditFail) → ended_edit (seen view edit) ≡ ended_edit edit
    ended_so (Ok x) = refl
    ended_so (Err (Refused r)) = refl
    ended_so (Err (Store f)) = refl

    some_so : (edit : Result X EditFail) → OnOk edit (0 < count_of b) → OnOk (seen view edit) (0 < count_of b)
    some_so (Ok x) h = h
    some_so (Err e) h = h

    refused_so : (edit : Result X EditFail) → shown ≤ load_shown → IfErr edit (λ e. IsRefusal e → DraftReads state shown a b) → IfErr (seen view edit) (λ e. IsRefusal e → DraftReads state load_shown a b)
    refused_so (Ok x) few h = tt
    refused_so (Err e) few h = λ refusal. wider shown a b few (h refusal)

    -- an edit changes at most as many rows as a row of a text may, and few are shown to it
    pub drafts_seen : (edit : Result X EditFail) (result : Result Upserted EditFail) → result ≡ seen view edit → most ≤ row_changes → gone ≤ 0 → shown ≤ load_shown → DraftsEdit state most gone shown edit a b
        → DraftsEdit state row_changes 0 load_shown result a b
    drafts_seen edit result is few none seldom h = subst (λ (q : Result Upserted EditFail). DraftsEdit state row_changes 0 load_shown q a b) (sym is) (record {
      makes = subst (λ (e : Ending). Makes state row_changes 0 load_shown e a b) (sym (ended_so edit)) (laws.most most gone shown row_changes 0 load_shown (ended_edit edit) a b few none (λ _. seldom) h.makes);
      some = some_so edit h.some;
      refused = refused_so edit seldom h.refused;
    })

  -- a read, and then the edit
  pub after_read : ((shown most gone later : ℕ) (e : Ending) (a b c : Held K) → Calls state shown done a b → Makes state most gone later e b c → Makes state most gone (shown + later) e a c)
      → ((shown later : ℕ) (a b c : Held K) → DraftReads state shown a b → DraftReads state later b c → DraftReads state (shown + later) a c)
      → (result : Result Upserted EditFail) (a b c : Held K) → Calls state 0 done a b → DraftsEdit state row_changes 0 load_shown result b c → DraftsEdit state row_changes 0 load_shown result a c
  after_read reads_then reads result a b c calls h = record {
    makes = reads_then 0 row_changes 0 load_shown (ended_edit result) a b c calls h.makes;
    some = h.some;
    refused = refused result h.refused;
  }
    where
      refused : (result : Result Upserted EditFail) → IfErr result (λ e. IsRefusal e → DraftReads state load_shown b c) → IfErr result (λ e. IsRefusal e → DraftReads state load_shown a c)
      refused (Ok x) more = tt
      refused (Err e) more = λ refusal. reads 0 load_shown a b c calls.reads (more refusal)

-- ---- moments

pub moment_small : (n : ℕ) → IsTrue (is_moment (pos n)) → n < 2 ^ 63
moment_small n h = few_seconds n h
