-- Records that are kept alike have the same rows.
use Rattle.std.proofs.Common.{◌≡◌, ℕ, Bool, true, false, cond, List, [], ◌∷◌, map, Option, Some, None, refl, sym, ap, subst, inl, inr}
use Rattle.std.specs.Prelude.{filter, if◌then◌else◌}
use Rattle.std.specs.List.{find, range_with_len}
use Rattle.std.specs.Option.{option_and_then, option_map}
use Rattle.std.specs.Str.{bytes_eq}
use Rattle.base_lemmas.proofs.Lists.{map-same as map_same}
use Rattle.base_lemmas.proofs.Bools.{by_answer as pick}
use Rattle.std.proofs.lemmas.Option.{same_Some as some_is}
use Rattle.store_rows.specs.Forms.{row_bytes}
use Rattle.store_rows.specs.Keys.{Key, Data, Index, Unique, Relation}
use Rattle.store_rows.specs.Rows.{data_form, unique_form}
use Rattle.model.specs.declared.record.Record.{Record}
use Rattle.model.specs.Membership.{Has}
use Rattle.model.specs.Objects.{is_of, object_numbered}
use Rattle.model.specs.Tenant.{Object, Tenant}
use Rattle.model.specs.World.{having_id}
use Rattle.store_abstraction.specs.Entries.{Entry, data_of, entry_text, is_indexed, is_reference_to, is_unique, slot_entry, slots_of}
use Rattle.store_abstraction.specs.Plan.{OrgPlan, slot_count}
use Rattle.store_abstraction.specs.Records.{Alike, KeptAlike, object_of_records}
use Rattle.store_abstraction.specs.Stands.{Kept, kept_at, kept_in, row_in, row_where, unique_at, unique_of}

-- ---- one record

slots_same : (e f : ℕ → Option Entry) → ((s : ℕ) → Alike (e s) (f s)) → slots_of e ≡ slots_of f
unfolding slots_of
slots_same e f h = map_same (λ s. entry_text (e s)) (λ s. entry_text (f s)) (λ s. (h s).text) (range_with_len 0 slot_count)

data_same : (org n : ℕ) (k l : Kept) → KeptAlike k l → data_of org n k.item k.entries ≡ data_of org n l.item l.entries
data_same org n k l h = rw (h.id, h.name, h.owner, h.created, h.modified, slots_same k.entries l.entries h.entries) refl

-- two records that may be missing
abbrev KeptSame : Option Kept → Option Kept → Type 0
KeptSame None None = Unit {0}
KeptSame (Some k) (Some l) = KeptAlike k l
KeptSame _ _ = ⊥

data_row_same : (org n : ℕ) (a b : Option Kept) → KeptSame a b → option_map (λ (k : Kept). row_bytes data_form (data_of org n k.item k.entries)) a ≡ option_map (λ (k : Kept). row_bytes data_form (data_of org n k.item k.entries)) b
data_row_same org n None None h = refl
data_row_same org n None (Some l) h = absurd h
data_row_same org n (Some k) None h = absurd h
data_row_same org n (Some k) (Some l) h = ap (λ d. Some (row_bytes data_form d)) (data_same org n k l h)

where_same : (is : Option Entry → Bool) (s : ℕ) (a b : Option Kept) → ((k l : Kept) → KeptAlike k l → is (k.entries s) ≡ is (l.entries s)) → KeptSame a b → row_where is s a ≡ row_where is s b
where_same is s None None same h = refl
where_same is s None (Some l) same h = absurd h
where_same is s (Some k) None same h = absurd h
where_same is s (Some k) (Some l) same h = ap (λ (x : Bool). cond x (Some []) None) (same k l h)

-- ---- the records of an object

record_id : Record → List ℕ
record_id r = r.id

module _ (p q : OrgPlan) (t u : Tenant) (n : ℕ) (o v : Object) (change : Record → Record) (ids : (r : Record) → (change r).id ≡ r.id) where
  abbrev AllAlike : List Record → Type 0
  AllAlike rs = (r : Record) → Has rs r → is_of n r ≡ true → KeptAlike (kept_in q u n v (change r)) (kept_in p t n o r)

  of_same : (r : Record) → is_of n (change r) ≡ is_of n r
  of_same r = rw (ids r) refl

  -- the one with an id, if it is of the object
  abbrev of_new : Option Record → Option Kept
  of_new x = option_and_then (λ (r : Record). if is_of n r then Some (kept_in q u n v r) else None) x

  abbrev of_old : Option Record → Option Kept
  of_old x = option_and_then (λ (r : Record). if is_of n r then Some (kept_in p t n o r) else None) x

  found : (rs : List Record) (id : List ℕ) → AllAlike rs → KeptSame (of_new (having_id (λ r. r.id) (map change rs) id)) (of_old (having_id (λ r. r.id) rs id))
  found [] id all = tt
  found (r ∷ rs) id all =
      subst (λ (i : List ℕ). KeptSame (of_new (cond (bytes_eq id i) (Some (change r)) (having_id (λ r. r.id) (map change rs) id))) (of_old (cond (bytes_eq id r.id) (Some r) (having_id (λ r. r.id) rs id)))) (sym (ids r))
      (pick (bytes_eq id r.id) (λ b. KeptSame (of_new (cond b (Some (change r)) (having_id (λ r. r.id) (map change rs) id))) (of_old (cond b (Some r) (having_id (λ r. r.id) rs id))))
      (λ _. rw (of_same r) (pick (is_of n r) (λ b. KeptSame (cond b (Some (kept_in q u n v (change r))) None) (cond b (Some (kept_in p t n o r)) None)) (λ e. all r (inl refl) e) (λ _. tt)))
      (λ _. found rs id (λ s h. all s (inr h))))

  -- the first of them whose value is unique and has a key
  unique_found : {Y : Type 0} (row : List ℕ → Y) (slot : ℕ) (key : List ℕ) (rs : List Record) → AllAlike rs
      → option_map (λ (r : Record). row r.id) (find (λ r. is_unique key (slot_entry q u.job n v r slot)) (filter (is_of n) (map change rs)))
      ≡ option_map (λ (r : Record). row r.id) (find (λ r. is_unique key (slot_entry p t.job n o r slot)) (filter (is_of n) rs))
  unique_found row slot key [] all = refl
  unique_found row slot key (r ∷ rs) all =
      rw (of_same r)
      (pick (is_of n r) (λ b. option_map (λ (r : Record). row r.id) (find (λ r. is_unique key (slot_entry q u.job n v r slot)) (cond b (change r ∷ filter (is_of n) (map change rs)) (filter (is_of n) (map change rs))))
      ≡ option_map (λ (r : Record). row r.id) (find (λ r. is_unique key (slot_entry p t.job n o r slot)) (cond b (r ∷ filter (is_of n) rs) (filter (is_of n) rs))))
      (λ e. rw (((all r (inl refl) e).entries slot).unique key)
      (pick (is_unique key (slot_entry p t.job n o r slot)) (λ b. option_map (λ (r : Record). row r.id) (cond b (Some (change r)) (find (λ r. is_unique key (slot_entry q u.job n v r slot)) (filter (is_of n) (map change rs))))
      ≡ option_map (λ (r : Record). row r.id) (cond b (Some r) (find (λ r. is_unique key (slot_entry p t.job n o r slot)) (filter (is_of n) rs))))
      (λ _. ap (λ i. Some (row i)) (ids r))
      (λ _. unique_found row slot key rs (λ s h. all s (inr h)))))
      (λ _. unique_found row slot key rs (λ s h. all s (inr h))))

  module _ (here : object_numbered t n ≡ Some o) (there : object_numbered u n ≡ Some v) (records : u.records ≡ map change t.records) (all : AllAlike t.records) where
    kept_same : (id : List ℕ) → KeptSame (kept_at q u n id) (kept_at p t n id)
    unfolding kept_at
    kept_same id = rw (here, there, records) (found t.records id all)

    unique_same : (org slot : ℕ) (key : List ℕ)
        → option_map (λ (r : Record). row_bytes unique_form (unique_of org n slot key r)) (unique_at q u n slot key)
        ≡ option_map (λ (r : Record). row_bytes unique_form (unique_of org n slot key r)) (unique_at p t n slot key)
    unique_same org slot key =
        rw (here, there, records)
        (unique_found (λ i. row_bytes unique_form (record { org = org; object = n; slot = slot; value = key; id = i })) slot key t.records all)

    pub kept : (k : Key) → object_of_records k ≡ Some n → row_in q u k ≡ row_in p t k
    unfolding row_in
    kept (Data org m id) e = subst (λ (j : ℕ). row_in q u (Data org j id) ≡ row_in p t (Data org j id)) (sym (some_is m n e)) (data_row_same org n (kept_at q u n id) (kept_at p t n id) (kept_same id))
    kept (Index org m slot key id) e =
        subst (λ (j : ℕ). row_in q u (Index org j slot key id) ≡ row_in p t (Index org j slot key id)) (sym (some_is m n e))
        (where_same (is_indexed key) slot (kept_at q u n id) (kept_at p t n id) (λ k l h. (h.entries slot).indexed key) (kept_same id))
    kept (Relation org m slot target id) e =
        subst (λ (j : ℕ). row_in q u (Relation org j slot target id) ≡ row_in p t (Relation org j slot target id)) (sym (some_is m n e))
        (where_same (is_reference_to target) slot (kept_at q u n id) (kept_at p t n id) (λ k l h. (h.entries slot).reference target) (kept_same id))
    kept (Unique org m slot key) e = subst (λ (j : ℕ). row_in q u (Unique org j slot key) ≡ row_in p t (Unique org j slot key)) (sym (some_is m n e)) (unique_same org slot key)
    kept k e = absurd cc

-- ---- no records

pub nothing : {A B : Type 0} (o : Option A) → ◌≡◌ {A = Option B} (option_and_then (λ (x : A). None) o) None
nothing None = refl
nothing (Some x) = refl

module _ (p : OrgPlan) (t : Tenant) (n : ℕ) where
  abbrev NoneOf : List Record → Type 0
  NoneOf rs = (r : Record) → Has rs r → is_of n r ≡ false

  none_found : (of : Record → Option Kept) (rs : List Record) (id : List ℕ) → NoneOf rs → option_and_then (λ (r : Record). if is_of n r then of r else None) (having_id (λ r. r.id) rs id) ≡ None
  none_found of [] id idle = refl
  none_found of (r ∷ rs) id idle =
      pick (bytes_eq id r.id) (λ b. option_and_then (λ (r : Record). if is_of n r then of r else None) (cond b (Some r) (having_id (λ r. r.id) rs id)) ≡ None)
      (λ _. rw (idle r (inl refl)) refl)
      (λ _. none_found of rs id (λ s h. idle s (inr h)))

  none_of : (rs : List Record) → NoneOf rs → filter (is_of n) rs ≡ []
  none_of [] idle = refl
  none_of (r ∷ rs) idle = rw (idle r (inl refl)) (none_of rs (λ s h. idle s (inr h)))

  module _ (idle : NoneOf t.records) where
    none_at : (id : List ℕ) → kept_at p t n id ≡ None
    unfolding kept_at
    none_at id = none_found (λ r. option_map (λ o. kept_in p t n o r) (object_numbered t n)) t.records id idle

    none_unique : (slot : ℕ) (key : List ℕ) → unique_at p t n slot key ≡ None
    none_unique slot key = rw (none_of t.records idle) (nothing (object_numbered t n))

    pub none : (k : Key) → object_of_records k ≡ Some n → row_in p t k ≡ None
    unfolding row_in
    none (Data org m id) e = rw (some_is m n e, none_at id) refl
    none (Index org m slot key id) e = rw (some_is m n e, none_at id) refl
    none (Relation org m slot target id) e = rw (some_is m n e, none_at id) refl
    none (Unique org m slot key) e = rw (some_is m n e, none_unique slot key) refl
    none k e = absurd cc
