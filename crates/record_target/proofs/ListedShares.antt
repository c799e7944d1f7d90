-- The rows of a record's manual shares among those of its organisation alone, in the order of their keys.
use Rattle.std.proofs.Common.{◌≡◌, ◌∙◌, ℕ, ◌<◌, ◌^◌, Bool, true, false, cond, T, IsTrue, List, [], ◌∷◌, ◌++◌, length, map, Option, Some, None, is_some, refl, sym, ap, subst, inl, inr, arith, is_lt, is_eq, find, Ordering, bytes_eq}
use Rattle.std.specs.Prelude.{slice_index}
use Rattle.std.specs.Cmp.{IsTotalOrder, on_total, then_total}
use Rattle.std.specs.Cmp.Lexicographic.{nat_list_cmp_total}
use Rattle.std.specs.FinMap.{is_sorted}
use Rattle.std.specs.FinMap.Entries.{below_all}
use Rattle.std.specs.List.{AllByRecursion, list_all}
use Rattle.std.specs.Option.{option_map}
use Rattle.std.specs.Ordering.{ordering_reverse, ordering_then}
use Rattle.std.proofs.lemmas.Cmp.{tied_itself}
use Rattle.std.proofs.lemmas.Slice.Eq.{bytes_eq-Decides}
use Rattle.base_lemmas.proofs.Orders.{nat_cmp-self as tied}
use Rattle.base_lemmas.proofs.Bools.{T-and_from as t_both, T-and_first as t_left, T-and_second as t_right}
use Rattle.base_lemmas.proofs.Numbers.{eqb-self as eqb_same}
use Rattle.std.proofs.lemmas.Option.{same_Some as some_is}
use Rattle.record_read.proofs.RecordFits.{MakesIds, record_is_id}
use Rattle.record_read.proofs.Standing.{found_id}
use Rattle.store_kv.specs.Prefixes.{raised}
use Rattle.store_kv.specs.Tables.{Has as HasRow, bytes_cmp, is_between}
use Rattle.store_rows.specs.declared.share.ShareRow.{ShareRow}
use Rattle.store_rows.specs.Forms.{FitsForm, key_bytes, row_bytes}
use Rattle.store_rows.specs.Keys.{FitsKey, Grant, Key, spell}
use Rattle.store_rows.specs.Keys as key
use Rattle.store_rows.specs.Listings.{ListsBetween, with_key}
use Rattle.store_rows.specs.Rows.{share_form}
use Rattle.model.specs.Known.{IsDrawn, group_id, knows, known, role_id}
use Rattle.model.specs.Membership.{Has}
use Rattle.model.specs.Objects.{record_at}
use Rattle.model.specs.Shares.{same_share, share_cmp, shares_of}
use Rattle.model.specs.Sound.{IsSound}
use Rattle.model.specs.SoundPeople.{IsSoundGroup, IsSoundRole, IsSoundUser}
use Rattle.model.specs.SoundSharing.{IsSoundShare, is_grant}
use Rattle.model.specs.Tenant.{Share, Tenant}
use Rattle.model.specs.World.{group_prefix, having_id, role_prefix, user_id, user_prefix}
use Rattle.model.specs.declared.record.Record.{Record}
use Rattle.store_codec.specs.Choices.{Levels, is_spelled}
use Rattle.store_codec.specs.Plain.{number32, number8}
use Rattle.store_codec.specs.Shapes.{Both, Identity, Named, Number16, Number32, spelled}
use Rattle.record_target.proofs.Among.{all_at, among_kept, below_at, kept_among, rise_kept}
use Rattle.record_target.proofs.SharePlaces.{SamePrincipals, one_place}
use Rattle.store_abstraction.specs.Local.{rows_alone}
use Rattle.store_abstraction.specs.Metadata.{row_of_share}
use Rattle.store_abstraction.specs.Plan.{OrgPlan}
use Rattle.store_abstraction.specs.Stands.{row_in, share_at}
use Rattle.store_abstraction.proofs.MetadataLists.{BeginsSo, ComparesKeys, UnderPrefix}
use Rattle.base_value.specs.Id.{is_digit62, is_id}
use Rattle.base_value.specs.Principals.{principal_cmp, principal_id, principals_total}
use Rattle.base_value.specs.declared.sharing.Level.{Level}
use Rattle.base_value.specs.declared.sharing.Level.TheVariants as level
use Rattle.base_value.specs.declared.sharing.Level.TheVariants.{Read}
use Rattle.base_value.specs.declared.sharing.Principal.{Principal}
use Rattle.base_value.specs.declared.sharing.Principal.TheVariants as to

-- ---- laws of keys and ids, as `store_rows`, `store_codec` and `base_value` say

pub record KeyLaws : Type 0 where
  pub under : UnderPrefix
  pub compares : ComparesKeys
  pub begins : BeginsSo
  pub makes : MakesIds
  pub same : SamePrincipals

-- ---- ids

drawn_is_id : MakesIds → (prefix : List ℕ) (counter : ℕ) (id : List ℕ) → length prefix ≡ 3 → list_all is_digit62 prefix ≡ true → IsDrawn prefix counter id → IsTrue (is_id id)
drawn_is_id makes prefix counter id long digits d = subst (λ (i : List ℕ). IsTrue (is_id i)) (sym d.2) (makes prefix d.0 long digits)

named_is_id : {X : Type 0} (id_of : X → List ℕ) (P : X → Type 0) → ((x : X) → P x → IsTrue (is_id (id_of x))) → (xs : List X) (i : List ℕ) → AllByRecursion P xs → is_some (having_id id_of xs i) ≡ true → IsTrue (is_id i)
named_is_id id_of P each [] i all h = absurd cc
named_is_id {X = X} id_of P each (x ∷ xs) i all h = by (λ f. named_is_id id_of P each xs i all.1 f) (bytes_eq i (id_of x)) refl
  where
    by : (is_some (having_id id_of xs i) ≡ true → IsTrue (is_id i)) → (b : Bool) → bytes_eq i (id_of x) ≡ b → IsTrue (is_id i)
    by rest true e = subst (λ (j : List ℕ). IsTrue (is_id j)) (sym ((bytes_eq-Decides i (id_of x)).0 e)) (each x all.0)
    by rest false e = rest (subst (λ (b : Bool). is_some (cond b (Some x) (having_id id_of xs i)) ≡ true) e h)

level_fits : (l : Level) → is_grant l ≡ true → is_spelled Levels l ≡ true
level_fits level.Read h = refl
level_fits level.Edit h = refl
level_fits level.Nothing h = absurd cc
level_fits level.Full h = absurd cc

module _ (makes : MakesIds) (t : Tenant) (sound : IsSound t) where
  user_named : (i : List ℕ) → (known t).user i ≡ true → IsTrue (is_id i)
  user_named i h = named_is_id user_id (IsSoundUser (known t)) (λ u s. drawn_is_id makes user_prefix t.counter u.id refl refl s.id) t.users i sound.users.each h

  role_named : (i : List ℕ) → (known t).role i ≡ true → IsTrue (is_id i)
  role_named i h = named_is_id role_id (IsSoundRole (known t)) (λ r s. drawn_is_id makes role_prefix t.counter r.id refl refl s.id) t.roles i sound.roles.each h

  group_named : (i : List ℕ) → (known t).group i ≡ true → IsTrue (is_id i)
  group_named i h = named_is_id group_id (IsSoundGroup (known t)) (λ g s. drawn_is_id makes group_prefix t.counter g.id refl refl s.id) t.groups i sound.groups.each h

  principal_named : (p : Principal) → knows (known t) p ≡ true → IsTrue (is_id (principal_id p))
  principal_named (to.User i) h = user_named i h
  principal_named (to.Role i) h = role_named i h
  principal_named (to.Subordinates i) h = role_named i h
  principal_named (to.Group i) h = group_named i h

  item_named : (i : List ℕ) → is_some (record_at t i) ≡ true → IsTrue (is_id i)
  item_named i h = by (record_at t i) refl h
    where
      by : (x : Option Record) → record_at t i ≡ x → is_some x ≡ true → IsTrue (is_id i)
      by None e h = absurd cc
      by (Some r) e h = let (same, has) = found_id t.records i r e in subst (λ (j : List ℕ). IsTrue (is_id j)) same (record_is_id makes t r sound has)

  -- a share's row has a spelling
  share_fits : (org : ℕ) → org < 2 ^ 32 → (s : Share) → Has t.shares s → FitsForm share_form (row_of_share org s)
  share_fits org lo s has =
      let one = all_at (IsSoundShare (known t) t.objects) s t.shares sound.shares.each has in
      ((lo, (tt, (item_named s.item one.item, principal_named s.to one.to))), level_fits s.level one.level)

-- ---- shares in their order

share_total : IsTotalOrder share_cmp
share_total = then_total (on_total (λ (s : Share). s.item) nat_list_cmp_total) (on_total (λ (s : Share). s.to) principals_total)

abbrev as_asked : Share → Share
as_asked s = record { item = s.item; to = s.to; level = Read }

-- a share is found by its record and its principal
found_itself : (ss : List Share) (s : Share) → T (is_sorted share_cmp (map (λ (x : Share). (x, x)) ss)) → Has ss s → find (same_share (as_asked s)) ss ≡ Some s
found_itself [] s h has = absurd has
found_itself (x ∷ ss) s h (inl e) =
    subst (λ (y : Share). find (same_share (as_asked y)) (x ∷ ss) ≡ Some y) (sym e)
    (ap (λ (o : Ordering). cond (is_eq o) (Some x) (find (same_share (as_asked x)) ss)) (tied_itself share_total x))
found_itself (x ∷ ss) s h (inr has) =
    let less = below_at share_cmp x ss (t_left (below_all share_cmp x (map (λ (y : Share). (y, y)) ss)) (is_sorted share_cmp (map (λ (y : Share). (y, y)) ss)) h) s has in
    ap (λ (o : Ordering). cond (is_eq o) (Some x) (find (same_share (as_asked s)) ss)) (share_total.antisymm s x ∙ ap ordering_reverse less)
    ∙ found_itself ss s (t_right (below_all share_cmp x (map (λ (y : Share). (y, y)) ss)) (is_sorted share_cmp (map (λ (y : Share). (y, y)) ss)) h) has

-- what is found is there, and is asked for
share_found : (x : Share) (ss : List Share) (s : Share) → find (same_share x) ss ≡ Some s → Has ss s × (same_share x s ≡ true)
share_found x [] s e = absurd cc
share_found x (y ∷ ss) s e = by (λ f. share_found x ss s f) (same_share x y) refl e
  where
    by : (find (same_share x) ss ≡ Some s → Has ss s × (same_share x s ≡ true)) → (b : Bool) → same_share x y ≡ b → cond b (Some y) (find (same_share x) ss) ≡ Some s → Has (y ∷ ss) s × (same_share x s ≡ true)
    by rest true is e = let same : y ≡ s = some_is y s e in (inl (sym same), subst (λ (z : Share). same_share x z ≡ true) same is)
    by rest false is e = let more = rest e in (inr more.0, more.1)

-- ---- their keys

abbrev pub prefix_of : (org : ℕ) (id : List ℕ) → List ℕ
prefix_of org id = number32 org ++ (number8 0 ++ id)

abbrev key_at : (org : ℕ) → Share → List ℕ
key_at org s = spelled share_form.key (org, (tt, (s.item, s.to)))

-- the key of a grant doesn't begin so
marks_apart : (org other : ℕ) (id rest more : List ℕ) → number32 other ++ (number8 1 ++ more) ≡ (number32 org ++ (number8 0 ++ id)) ++ rest → ⊥
unfolding number32
marks_apart org other id rest more e =
    let wrong : 1 ≡ 0 = ap (λ (bytes : List ℕ). slice_index bytes 4) e in
    omega (arith, wrong)

module _ (keys : KeyLaws) (q : OrgPlan) (t : Tenant) (org : ℕ) (lo : org < 2 ^ 32) (sound : IsSound t) where
  abbrev rows : Key → Option (List ℕ)
  rows = rows_alone org q (Some t)

  abbrev all_of : List Share → List ShareRow
  all_of ss = map (row_of_share org) ss

  fit : (s : Share) → Has t.shares s → FitsForm share_form (row_of_share org s)
  fit s has = share_fits keys.makes t sound org lo s has

  compare : (a b : Share) → Has t.shares a → Has t.shares b → bytes_cmp (key_at org a) (key_at org b) ≡ share_cmp a b
  compare a b ha hb =
      keys.compares share_form.key refl (org, (tt, (a.item, a.to))) (org, (tt, (b.item, b.to))) (fit a ha).0 (fit b hb).0
      ∙ ap (λ (x : Ordering). ordering_then x (ordering_then (bytes_cmp a.item b.item) (principal_cmp a.to b.to))) (tied org)

  below_keys : (a : Share) (ss : List Share) → Has t.shares a → ((s : Share) → Has ss s → Has t.shares s) → T (below_all share_cmp a (map (λ (s : Share). (s, s)) ss))
      → T (below_all bytes_cmp (key_at org a) (map (with_key share_form) (all_of ss)))
  below_keys a [] ha each h = tt
  below_keys a (s ∷ ss) ha each h =
      let less = t_left (is_lt (share_cmp a s)) (below_all share_cmp a (map (λ (s : Share). (s, s)) ss)) h in
      t_both (is_lt (bytes_cmp (key_at org a) (key_at org s))) (below_all bytes_cmp (key_at org a) (map (with_key share_form) (all_of ss)))
      (subst (λ (x : Ordering). T (is_lt x)) (sym (compare a s ha (each s (inl refl)))) less)
      (below_keys a ss ha (λ x has. each x (inr has)) (t_right (is_lt (share_cmp a s)) (below_all share_cmp a (map (λ (s : Share). (s, s)) ss)) h))

  keys_rise : (ss : List Share) → ((s : Share) → Has ss s → Has t.shares s) → T (is_sorted share_cmp (map (λ (s : Share). (s, s)) ss)) → T (is_sorted bytes_cmp (map (with_key share_form) (all_of ss)))
  keys_rise [] each h = tt
  keys_rise (s ∷ ss) each h =
      t_both (below_all bytes_cmp (key_at org s) (map (with_key share_form) (all_of ss))) (is_sorted bytes_cmp (map (with_key share_form) (all_of ss)))
      (below_keys s ss (each s (inl refl)) (λ x has. each x (inr has)) (t_left (below_all share_cmp s (map (λ (s : Share). (s, s)) ss)) (is_sorted share_cmp (map (λ (s : Share). (s, s)) ss)) h))
      (keys_rise ss (λ x has. each x (inr has)) (t_right (below_all share_cmp s (map (λ (s : Share). (s, s)) ss)) (is_sorted share_cmp (map (λ (s : Share). (s, s)) ss)) h))

  -- ---- their members

  row_has : (ss : List Share) (u : ShareRow) → HasRow (all_of ss) u → (s : Share) × Has ss s × (u ≡ row_of_share org s)
  row_has [] u h = absurd h
  row_has (x ∷ ss) u (inl e) = (x, inl refl, e)
  row_has (x ∷ ss) u (inr h) = let (s, has, is) = row_has ss u h in (s, inr has, is)

  has_row : (ss : List Share) (s : Share) → Has ss s → HasRow (all_of ss) (row_of_share org s)
  has_row [] s h = absurd h
  has_row (x ∷ ss) s (inl e) = inl (ap (row_of_share org) e)
  has_row (x ∷ ss) s (inr h) = inr (has_row ss s h)

  rows_are : (id : List ℕ) (p : Principal) → row_in q t (key.Share org id p) ≡ option_map (λ s. row_bytes share_form (row_of_share org s)) (share_at t id p)
  unfolding row_in
  rows_are id p = refl

  row_there : (id : List ℕ) (p : Principal) → rows (key.Share org id p) ≡ option_map (λ s. row_bytes share_form (row_of_share org s)) (share_at t id p)
  row_there id p = ap (λ b. cond b (row_in q t (key.Share org id p)) None) (eqb_same org) ∙ rows_are id p

  some_found : (x : Option Share) (bytes : List ℕ) → option_map (λ s. row_bytes share_form (row_of_share org s)) x ≡ Some bytes → (s : Share) × (x ≡ Some s)
  some_found None bytes e = absurd cc
  some_found (Some s) bytes e = (s, refl)

  -- ---- the interval of their keys

  module _ (id : List ℕ) (is : IsTrue (is_id id)) (above : List ℕ) (raise : raised (prefix_of org id) ≡ Some above) where
    abbrev of_it : List Share
    of_it = shares_of id t.shares

    among : (s : Share) → Has of_it s → Has t.shares s × (bytes_eq s.item id ≡ true)
    among s has = among_kept (λ (x : Share). bytes_eq x.item id) t.shares s has

    inside : (s : Share) → Has of_it s → is_between (prefix_of org id) above (key_at org s) ≡ true
    inside s has =
        let (there, same) = among s has in
        (keys.under (key.Share org s.item s.to) (prefix_of org id) above (fit s there).0 raise).1
        ((keys.begins 3 share_form.key (org, (tt, (s.item, s.to))) (org, (tt, id)) (fit s there).0 (lo, (tt, is))).1
        (ap (λ (i : List ℕ). (org, (tt, i))) ((bytes_eq-Decides s.item id).0 same)))

    complete : (k : Key) (bytes : List ℕ) → FitsKey k → (spell k).0 ≡ 12 → IsTrue (is_between (prefix_of org id) above (spell k).1) → rows k ≡ Some bytes
        → (u : ShareRow) × HasRow (all_of of_it) u × (key.Share u.org u.id u.to ≡ k)
    complete (key.Share a i p) bytes fits table within here =
        let starts = (keys.under (key.Share a i p) (prefix_of org id) above fits raise).0 within in
        let same : ◌≡◌ {A = ℕ × (Unit {0} × List ℕ)} (a, (tt, i)) (org, (tt, id)) = (keys.begins 3 share_form.key (a, (tt, (i, p))) (org, (tt, id)) fits (lo, (tt, is))).0 starts in
        let one : key.Share a i p ≡ key.Share org id p = ap (λ (x : ℕ × (Unit {0} × List ℕ)). key.Share x.0 x.1.1 p) same in
        let (s, found) = some_found (share_at t id p) bytes (sym (row_there id p) ∙ ap rows (sym one) ∙ here) in
        let (has, asked) = share_found (record { item = id; to = p; level = Read }) t.shares s found in
        let (item, to) = one_place keys.same (record { item = id; to = p; level = Read }) s asked in (
          row_of_share org s,
          has_row of_it s (kept_among (λ (x : Share). bytes_eq x.item id) t.shares s has ((bytes_eq-Decides s.item id).1 (sym item))),
          ap (λ (j : List ℕ). key.Share org j s.to) (sym item) ∙ ap (λ (r : Principal). key.Share org id r) (sym to) ∙ sym one,
        )
    complete (Grant a p n i c) bytes fits table within here =
        let (rest, starts) = (keys.under (Grant a p n i c) (prefix_of org id) above fits raise).0 within in
        absurd (marks_apart org a id rest (spelled (Both Named (Both Number16 (Both Identity Number32))) (p, (n, (i, c)))) starts)
    complete k bytes fits table within here = absurd (omega (arith, table))

    pub shares_listed : ListsBetween share_form rows (prefix_of org id) above (all_of of_it)
    shares_listed = record {
      rises = keys_rise of_it (λ s has. (among s has).0) (rise_kept share_cmp (λ (x : Share). bytes_eq x.item id) t.shares sound.shares.rise);
      sound = λ u has.
          let (s, of, same) = row_has of_it u has in
          let there = (among s of).0 in
          subst (λ (v : ShareRow). FitsForm share_form v × IsTrue (is_between (prefix_of org id) above (key_bytes share_form v)) × (rows (key.Share v.org v.id v.to) ≡ Some (row_bytes share_form v))) (sym same) (
            fit s there,
            inside s of,
            row_there s.item s.to ∙ ap (option_map (λ s. row_bytes share_form (row_of_share org s))) (found_itself t.shares s sound.shares.rise there),
          );
      complete = complete;
    }
