-- A keeper that falls while the connections of a door are served.
use Rattle.std.proofs.Common.{◌≡◌, ◌⊎◌, inl, inr, ℕ, true, false, IsTrue, List, [], ◌∷◌, ◌++◌, Option, Some, None, Ok, Err, refl, sym, ap, subst, ◌∙◌, append_assoc, append-nil}
use Rattle.std.specs.List.{AllByRecursion}
use Rattle.base_lemmas.proofs.Lists.{each-append as all_more}
use Rattle.std.proofs.lemmas.Bool.{cases_Bool as either}
use Rattle.base_io.specs.Doors.{DoorState, Nexts, brought, has_next, input_of, output_of, output_so_far, outputs}
use Rattle.base_io.specs.declared.traits.IoFail.{IoFail}
use Rattle.store_kv.specs.State.{KeeperState, Steps}
use Rattle.store_kv.specs.Tables.{Tables}
use Rattle.model.specs.World.{World}
use Rattle.store_abstraction.specs.Stands.{Stands}
use Rattle.server.specs.Connections.{inputs_of, outputs_of}
use Rattle.server.specs.Falls.{Falls, FallsBringing, Fell, IsUndoneBehind, OutputsUndone, WritesUndone}
use Rattle.server.specs.Present.{PresentKeeps}
use Rattle.server.specs.Senses.{of_all}
use Rattle.server.proofs.Brought.{Gone, inputs_more, outputs_more, served_more, on_next, last_output}
use Rattle.server.proofs.Fallen.{falls_less}

-- ---- the next one

output_last : (d : DoorState) (input : List ℕ) (rest : List (List ℕ)) (b : DoorState) → PresentKeeps (Some (brought (input ∷ rest) (outputs d))) (Some b) → outputs b ≡ outputs d ++ output_so_far b.present ∷ []
output_last d input rest b (left, ended, present) = last_output b.done b.present present ∙ ap (λ (os : List (List ℕ)). os ++ output_so_far b.present ∷ []) ended

module _ (w : World) (moments : List ℕ) (new : KeeperState) where
  -- it fell over the connection that a door in this state brought
  abbrev FallsOver : Option DoorState → Option DoorState → Type 0
  FallsOver held2 held = PresentKeeps held held2 × ((input : List ℕ) → input_of held ≡ Some input → Falls w moments input (output_of held) (output_of held2) new)

  one_fell : (d : DoorState) (input : List ℕ) (rest : List (List ℕ)) (held2 : Option DoorState) → d.coming ≡ input ∷ rest → PresentKeeps (Some (brought (input ∷ rest) (outputs d))) held2
      → Falls w moments input (Some []) (output_of held2) new → FallsBringing w moments d held2 new
  one_fell d input rest None e keeps falls = absurd keeps
  one_fell d input rest (Some b) e keeps falls = (
    b,
    refl,
    record {
      served = [];
      between = w;
      later = moments;
      are_served = (refl, refl);
      input = input;
      coming = rest;
      inputs = e;
      output = output_so_far b.present;
      more = [];
      outputs_are = output_last d input rest b keeps;
      falls = falls;
      undone = tt;
    },
  )

  by_coming : (d : DoorState) (held2 : Option DoorState) (xs : List (List ℕ)) → d.coming ≡ xs → true ≡ has_next xs → FallsOver held2 (Some (brought xs (outputs d))) → FallsBringing w moments d held2 new
  by_coming d held2 [] e t h = absurd cc
  by_coming d held2 (input ∷ rest) e t (keeps, falls) = one_fell d input rest held2 e keeps (falls input refl)

  pub next_fell : (d : DoorState) (told held held2 : Option DoorState) → told ≡ Some d → Nexts {E = IoFail} told held (Ok true) → PresentKeeps held held2
      → ((input : List ℕ) → input_of held ≡ Some input → Falls w moments input (output_of held) (output_of held2) new) → FallsBringing w moments d held2 new
  next_fell d told held held2 e n keeps falls =
      let m = on_next d held true (subst (λ (o : Option DoorState). Nexts {E = IoFail} o held (Ok true)) e n) in
      by_coming d held2 d.coming refl m.0 (subst (FallsOver held2) m.1 (keeps, falls))

-- ---- outputs that acknowledge nothing

pub undone_by_failure : (told held : Option DoorState) (f : IoFail) → Nexts told held (Err f) → OutputsUndone told held
undone_by_failure told None f n d e = absurd (subst (λ (o : Option DoorState). Nexts o None (Err f)) e n)
undone_by_failure told (Some b) f n d e = (b, refl, [], tt, ap outputs (subst (λ (o : Option DoorState). Nexts o (Some b) (Err f)) e n) ∙ sym (append-nil (outputs d)))

pub undone_by_none : (told held : Option DoorState) → Nexts {E = IoFail} told held (Ok false) → OutputsUndone told held
undone_by_none told held n d e = let m = on_next d held false (subst (λ (o : Option DoorState). Nexts {E = IoFail} o held (Ok false)) e n) in none d.coming m.0 m.1
  where
    none : (xs : List (List ℕ)) → false ≡ has_next xs → held ≡ Some (brought xs (outputs d)) → (b : DoorState) × (held ≡ Some b) × (more : List (List ℕ)) × AllByRecursion (IsUndoneBehind []) more × (outputs b ≡ outputs d ++ more)
    none [] f h = (brought [] (outputs d), h, [], tt, sym (append-nil (outputs d)))
    none (input ∷ rest) f h = absurd cc

pub undone_by_one : (told held held2 : Option DoorState) → Nexts {E = IoFail} told held (Ok true) → PresentKeeps held held2 → WritesUndone false (output_of held) (output_of held2) → OutputsUndone told held2
undone_by_one told held held2 n keeps wrote d e =
    let m = on_next d held true (subst (λ (o : Option DoorState). Nexts {E = IoFail} o held (Ok true)) e n) in
    one d.coming m.0 held2 (subst (λ (o : Option DoorState). PresentKeeps o held2) m.1 keeps) (subst (λ (o : Option DoorState). WritesUndone false (output_of o) (output_of held2)) m.1 wrote)
  where
    one : (xs : List (List ℕ)) → true ≡ has_next xs → (o : Option DoorState) → PresentKeeps (Some (brought xs (outputs d))) o → WritesUndone false (output_of (Some (brought xs (outputs d)))) (output_of o)
        → (b : DoorState) × (o ≡ Some b) × (more : List (List ℕ)) × AllByRecursion (IsUndoneBehind []) more × (outputs b ≡ outputs d ++ more)
    one [] t o k u = absurd cc
    one (input ∷ rest) t None k u = absurd k
    one (input ∷ rest) t (Some b) k u = (
      b,
      refl,
      output_so_far b.present ∷ [],
      ((u.texts, u.undone, u.rest, ap (λ o. o ++ u.rest) u.output ∙ u.front), tt),
      output_last d input rest b k,
    )

-- ---- one connection after the other

abbrev pub FallsNext : KeeperState → KeeperState → Option (List ℕ) → Option DoorState → Option DoorState → Type 0
FallsNext mid new coming held held2 = Fell mid new → (w : World) (d : DoorState) (moments : List ℕ) → Stands mid.tables w → held ≡ Some d → coming ≡ Some moments → FallsBringing w moments d held2 new

module _ (w : World) (moments : List ℕ) (d : DoorState) (first mid new : KeeperState) (coming : Option (List ℕ)) (held held2 : Option DoorState) where
  -- in a later one than these
  in_later : (n before now : ℕ) → IsTrue mid.trusted → new.trusted ≡ false → IsTrue new.is_clean → Gone of_all w moments d n coming held before now first mid → FallsNext mid new coming held held2 → FallsBringing w moments d held2 new
  in_later n before now stands fell clean (cs, e, later, here, asked, h, count) next =
      let at = h.kept.tables stands in
      let (f, same, s) = next (at.0, stands, fell, clean) h.end e later at.1 here asked in (
        f,
        same,
        record {
          served = cs ++ s.served;
          between = s.between;
          later = s.later;
          are_served = served_more of_all cs s.served w h.end s.between moments later s.later h.served s.are_served;
          input = s.input;
          coming = s.coming;
          inputs = h.inputs ∙ ap (λ (xs : List (List ℕ)). inputs_of cs ++ xs) s.inputs ∙ sym (append_assoc (inputs_of cs) (inputs_of s.served) (s.input ∷ s.coming)) ∙ ap (λ (xs : List (List ℕ)). xs ++ s.input ∷ s.coming) (sym (inputs_more cs s.served));
          output = s.output;
          more = s.more;
          outputs_are = s.outputs_are ∙ ap (λ (xs : List (List ℕ)). xs ++ (outputs_of s.served ++ s.output ∷ s.more)) h.outputs_are ∙ append_assoc (outputs d) (outputs_of cs) (outputs_of s.served ++ s.output ∷ s.more)
              ∙ ap (λ (xs : List (List ℕ)). outputs d ++ xs) (sym (append_assoc (outputs_of cs) (outputs_of s.served) (s.output ∷ s.more)) ∙ ap (λ (xs : List (List ℕ)). xs ++ s.output ∷ s.more) (sym (outputs_more cs s.served)));
          falls = s.falls;
          undone = s.undone;
        },
      )

  -- before this one
  before_it : ((t : Tables) → new.may_leave t → mid.may_leave t) → OutputsUndone held held2 → FallsBringing w moments d held mid → FallsBringing w moments d held2 new
  before_it less undone (e, same, s) =
      let (f, here, more, are, is) = undone e same in (
        f,
        here,
        record {
          served = s.served;
          between = s.between;
          later = s.later;
          are_served = s.are_served;
          input = s.input;
          coming = s.coming;
          inputs = s.inputs;
          output = s.output;
          more = s.more ++ more;
          outputs_are = is ∙ ap (λ (xs : List (List ℕ)). xs ++ more) s.outputs_are ∙ append_assoc (outputs d) (outputs_of s.served ++ s.output ∷ s.more) more
              ∙ ap (λ (xs : List (List ℕ)). outputs d ++ xs) (append_assoc (outputs_of s.served) (s.output ∷ s.more) more);
          falls = falls_less s.between s.later s.input (Some []) (Some s.output) mid new less s.falls;
          undone = all_more (IsUndoneBehind []) s.more more s.undone are;
        },
      )

  pub fell_on : (n before now : ℕ) → Steps mid new → Fell first new → (IsTrue mid.trusted → Gone of_all w moments d n coming held before now first mid) → (mid.trusted ≡ false → FallsBringing w moments d held mid)
      → FallsNext mid new coming held held2 → (mid.trusted ≡ false → IsTrue new.is_clean → OutputsUndone held held2) → FallsBringing w moments d held2 new
  fell_on n before now steps (tells, stands, fell, clean) gone fallen next undone = by (either mid.trusted)
    where
      by : (mid.trusted ≡ true) ⊎ (mid.trusted ≡ false) → FallsBringing w moments d held2 new
      by (inl open_) = in_later n before now open_ fell clean (gone open_) next
      by (inr shut) = before_it (λ t left. steps.shut shut clean t left) (undone shut clean) (fallen shut)
