-- Connections of a door, one after the other.
use Rattle.std.proofs.Common.{◌≡◌, inl, inr, ℕ, ◌+◌, ◌<◌, ◌≤◌, Bool, true, false, cond, IsTrue, List, [], ◌∷◌, ◌++◌, length, Option, Some, None, Result, Ok, Err, refl, sym, ap, subst, ◌∙◌, arith, append_assoc, append-nil, length-append}
use Rattle.std.specs.Prelude.{is_err, is_some, IsErrOf}
use Rattle.std.specs.List.{AllByRecursion}
use Rattle.base_value.specs.Causes.{Cause, Rose, RoseBy, last_count}
use Rattle.base_io.specs.Doors as doors
use Rattle.base_io.specs.Doors.{DoorState, Nexts, brought, has_next, input_of, output_of, output_so_far, outputs, with_last, KeepsDoor}
use Rattle.base_io.specs.declared.traits.IoFail.{IoFail}
use Rattle.store_kv.specs.State.{KeeperState, Steps, Tells}
use Rattle.model.specs.World.{World}
use Rattle.server.specs.Senses.{Sense, StandsAs}
use Rattle.server.specs.Connections.{Connection, AreServed, end_of, exchanges_of, inputs_of, outputs_of, faulted}
use Rattle.server.specs.Doors.{Brings, BringsTo, IsUnfaulted, ManyEnds, NextEnds}
use Rattle.server.specs.Exchanges.{Exchange, LeavesBehind}
use Rattle.server.specs.Present.{PresentKeeps}
use Rattle.server.specs.Turning.{Serves}
use Rattle.server.specs.declared.wire.LineFail.{LineFail}
use Rattle.server.specs.declared.wire.LineFail.TheVariants.{Read, Write}
use Rattle.server.proofs.Kept.{kept_on, kept_same}

pub inputs_more : (cs ds : List Connection) → inputs_of (cs ++ ds) ≡ inputs_of cs ++ inputs_of ds
inputs_more [] ds = refl
inputs_more (c ∷ cs) ds = ap (λ (xs : List (List ℕ)). c.input ∷ xs) (inputs_more cs ds)

pub outputs_more : (cs ds : List Connection) → outputs_of (cs ++ ds) ≡ outputs_of cs ++ outputs_of ds
outputs_more [] ds = refl
outputs_more (c ∷ cs) ds = ap (λ (xs : List (List ℕ)). c.output ∷ xs) (outputs_more cs ds)

exchanges_more : (cs ds : List Connection) → exchanges_of (cs ++ ds) ≡ exchanges_of cs ++ exchanges_of ds
exchanges_more [] ds = refl
exchanges_more (c ∷ cs) ds = ap (λ (xs : List Exchange). c.exchanges ++ xs) (exchanges_more cs ds) ∙ sym (append_assoc c.exchanges (exchanges_of cs) (exchanges_of ds))

faulted_more : (cs ds : List Connection) → faulted (cs ++ ds) ≡ faulted cs + faulted ds
faulted_more [] ds = omega arith
faulted_more (c ∷ cs) ds = let e = faulted_more cs ds in omega (arith, e)

pub served_more : (sense : Sense) (cs ds : List Connection) (w v u : World) (a b c : List ℕ) → AreServed sense cs w a v b → AreServed sense ds v b u c → AreServed sense (cs ++ ds) w a u c
served_more sense [] ds w v u a b c (same, here) h = subst (λ (x : World). AreServed sense ds x a u c) same (subst (λ (ms : List ℕ). AreServed sense ds v ms u c) here h)
served_more sense (x ∷ cs) ds w v u a b c (next, between, one, more) h = (next, between, one, served_more sense cs ds next v u between b c more h)

pub brings_none : (sense : Sense) (w : World) (moments : List ℕ) (d : DoorState) (before now : ℕ) (k : KeeperState) → k.tells → StandsAs sense k.tables w → before ≤ now → Brings sense w moments d d [] moments before now k k
brings_none sense w moments d before now k tells stands later = record { end = w; inputs = refl; outputs_are = sym (append-nil (outputs d)); served = (refl, refl); kept = kept_same sense w k tells stands; lines = omega (arith, later) }

brings_on : (sense : Sense) (w : World) (moments : List ℕ) (d e f : DoorState) (cs ds : List Connection) (between later : List ℕ) (before mid now : ℕ) (a b c : KeeperState) (h : Brings sense w moments d e cs between before mid a b) → Steps b c
    → Brings sense h.end between e f ds later mid now b c → Brings sense w moments d f (cs ++ ds) later before now a c
brings_on sense w moments d e f cs ds between later before mid now a b c h steps k = record {
  end = k.end;
  inputs = h.inputs ∙ ap (λ (xs : List (List ℕ)). inputs_of cs ++ xs) k.inputs ∙ sym (append_assoc (inputs_of cs) (inputs_of ds) f.coming) ∙ ap (λ (xs : List (List ℕ)). xs ++ f.coming) (sym (inputs_more cs ds));
  outputs_are = k.outputs_are ∙ ap (λ (xs : List (List ℕ)). xs ++ outputs_of ds) h.outputs_are ∙ append_assoc (outputs d) (outputs_of cs) (outputs_of ds) ∙ ap (λ (xs : List (List ℕ)). outputs d ++ xs) (sym (outputs_more cs ds));
  served = served_more sense cs ds w h.end k.end moments between later h.served k.served;
  kept = subst (λ (xs : List Exchange). LeavesBehind sense k.end xs a c) (sym (exchanges_more cs ds)) (kept_on sense h.end k.end (exchanges_of cs) (exchanges_of ds) a b c h.kept k.kept);
  lines = let m = faulted_more cs ds in omega (arith, h.lines, k.lines, m);
}

-- ---- the next one

pub on_next : (d : DoorState) (held : Option DoorState) (found : Bool) → Nexts {E = IoFail} (Some d) held (Ok found) → (found ≡ has_next d.coming) × (held ≡ Some (brought d.coming (outputs d)))
on_next d None found h = absurd h
on_next d (Some b) found h = (h.0, ap Some h.1)

fault_count : (s : Result (Unit {0}) LineFail) (before now : ℕ) → before ≤ now → ((f : LineFail) → s ≡ Err f → Rose before now) → RoseBy (cond (is_err s) 1 0 + 0) before now
fault_count (Ok done) before now later rose = omega (arith, later)
fault_count (Err f) before now later rose = let r = rose f refl in omega (arith, r)

pub last_output : (done : List (List ℕ)) (p : Option doors.Connection) → is_some p ≡ true → with_last done p ≡ done ++ output_so_far p ∷ []
last_output done None e = absurd cc
last_output done (Some c) e = refl

module _ (sense : Sense) (w : World) (moments : List ℕ) (old new : KeeperState) (coming : Option (List ℕ)) (before now : ℕ) (later : before ≤ now) where
  one : (d : DoorState) (input : List ℕ) (rest : List (List ℕ)) (held : Option DoorState) (s : Result (Unit {0}) LineFail) → d.coming ≡ input ∷ rest → PresentKeeps (Some (brought (input ∷ rest) (outputs d))) held
      → ((f : LineFail) → s ≡ Err f → Rose before now) → Serves sense w moments input old new coming (Some []) (output_of held) s → BringsTo sense w moments d (NextEnds (Ok true)) coming held before now old new
  one d input rest None s e keeps rose serves = absurd keeps
  one d input rest (Some b) s e (left, ended, present) rose (c, end, after, same, served, kept, asked, app, is) = (
    c ∷ [],
    b,
    after,
    refl,
    asked,
    record {
      end = end;
      inputs = e ∙ ap (λ (xs : List (List ℕ)). input ∷ xs) (sym left) ∙ ap (λ (i : List ℕ). i ∷ b.coming) (sym same);
      outputs_are = last_output b.done b.present present ∙ ap (λ (os : List (List ℕ)). os ++ output_so_far b.present ∷ []) ended ∙ ap (λ (o : List ℕ). outputs d ++ o ∷ []) app;
      served = (end, after, served, (refl, refl));
      kept = subst (λ (xs : List Exchange). LeavesBehind sense end xs old new) (sym (append-nil c.exchanges)) kept;
      lines = subst (λ (r : Result (Unit {0}) LineFail). RoseBy (cond (is_err r) 1 0 + 0) before now) is (fault_count s before now later rose);
    },
    refl,
  )

  abbrev Goes : Option DoorState → Result (Unit {0}) LineFail → Option DoorState → Type 0
  Goes held2 s held = PresentKeeps held held2 × ((input : List ℕ) → input_of held ≡ Some input → Serves sense w moments input old new coming (output_of held) (output_of held2) s)

  by : (d : DoorState) (held2 : Option DoorState) (s : Result (Unit {0}) LineFail) → ((f : LineFail) → s ≡ Err f → Rose before now) → (xs : List (List ℕ)) → d.coming ≡ xs → true ≡ has_next xs → Goes held2 s (Some (brought xs (outputs d)))
      → BringsTo sense w moments d (NextEnds (Ok true)) coming held2 before now old new
  by d held2 s rose [] e t h = absurd cc
  by d held2 s rose (input ∷ rest) e t (keeps, serves) = one d input rest held2 s e keeps rose (serves input refl)

  pub next_true : (d : DoorState) (told held held2 : Option DoorState) (s : Result (Unit {0}) LineFail) → told ≡ Some d → Nexts {E = IoFail} told held (Ok true) → ((f : LineFail) → s ≡ Err f → Rose before now) → PresentKeeps held held2
      → ((input : List ℕ) → input_of held ≡ Some input → Serves sense w moments input old new coming (output_of held) (output_of held2) s) → BringsTo sense w moments d (NextEnds (Ok true)) coming held2 before now old new
  next_true d told held held2 s e n rose keeps serves =
      let m = on_next d held true (subst (λ (o : Option DoorState). Nexts {E = IoFail} o held (Ok true)) e n) in
      by d held2 s rose d.coming refl m.0 (subst (Goes held2 s) m.1 (keeps, serves))

module _ (sense : Sense) (w : World) (moments : List ℕ) (d : DoorState) (told held : Option DoorState) (coming : Option (List ℕ)) (before now : ℕ) (k : KeeperState) (tells : k.tells) (stands : StandsAs sense k.tables w) (later : before ≤ now) (e : told ≡ Some d) (asked : coming ≡ Some moments) where
  none : (xs : List (List ℕ)) → d.coming ≡ xs → false ≡ has_next xs → held ≡ Some (brought xs (outputs d)) → BringsTo sense w moments d (NextEnds (Ok false)) coming held before now k k
  none [] is f h = ([], brought [] (outputs d), moments, h, asked, record { end = w; inputs = is; outputs_are = sym (append-nil (outputs d)); served = (refl, refl); kept = kept_same sense w k tells stands; lines = omega (arith, later) }, (refl, refl))
  none (input ∷ rest) is f h = absurd cc

  pub next_false : Nexts {E = IoFail} told held (Ok false) → BringsTo sense w moments d (NextEnds (Ok false)) coming held before now k k
  next_false n = let m = on_next d held false (subst (λ (o : Option DoorState). Nexts {E = IoFail} o held (Ok false)) e n) in none d.coming refl m.0 m.1

  pub stayed : (f : IoFail) → Nexts (Some d) held (Err f) → held ≡ Some d
  stayed f n = by held n refl
    where
      by : (o : Option DoorState) → Nexts (Some d) o (Err f) → held ≡ o → held ≡ Some d
      by None h same = absurd h
      by (Some b) h same = same ∙ ap Some h

  pub next_failed : (f : IoFail) → Nexts told held (Err f) → BringsTo sense w moments d (NextEnds (Err f)) coming held before now k k
  next_failed f n = ([], d, moments, stayed f (subst (λ (o : Option DoorState). Nexts o held (Err f)) e n), asked, brings_none sense w moments d before now k tells stands later, refl)

-- a door that only opened
pub kept_door : (told held : Option DoorState) (d : DoorState) → told ≡ Some d → KeepsDoor told held → held ≡ Some d
kept_door told None d e k = absurd (subst (λ (o : Option DoorState). KeepsDoor o None) e k)
kept_door told (Some b) d e k = ap Some (subst (λ (o : Option DoorState). KeepsDoor o (Some b)) e k)

-- ---- the loop over connections

-- so many were served
abbrev pub Gone : Sense → World → List ℕ → DoorState → ℕ → Option (List ℕ) → Option DoorState → ℕ → ℕ → KeeperState → KeeperState → Type 0
Gone sense w moments d n coming held before now old new = BringsTo sense w moments d (λ cs e. length cs ≡ n) coming held before now old new

abbrev pub NextFrom : KeeperState → KeeperState → Option (List ℕ) → Option DoorState → Option (List ℕ) → Option DoorState → ℕ → ℕ → Result Bool IoFail → Type 0
NextFrom mid new coming held coming2 held2 before now result =
    Tells mid new → (sense : Sense) (w : World) (d : DoorState) (moments : List ℕ) → StandsAs sense mid.tables w → held ≡ Some d → coming ≡ Some moments → BringsTo sense w moments d (NextEnds result) coming2 held2 before now mid new

-- n were served, and then the next one
abbrev More : Result Bool IoFail → ℕ → ℕ → DoorState → Type 0
More (Ok true) n k e = k ≡ n + 1
More (Ok false) n k e = (k ≡ n) × (e.coming ≡ [])
More (Err f) n k e = k ≡ n

more : (r : Result Bool IoFail) (cs ds : List Connection) (n : ℕ) (e : DoorState) → length cs ≡ n → NextEnds r ds e → More r n (length (cs ++ ds)) e
more (Ok true) cs ds n e h k = let l = length-append cs ds in omega (arith, l, h, k)
more (Ok false) cs ds n e h k = let l = length-append cs ds in let s = k.0 in (omega (arith, l, h, s), k.1)
more (Err f) cs ds n e h k = let l = length-append cs ds in omega (arith, l, h, k)

pub gone_on : (sense : Sense) (r : Result Bool IoFail) (w : World) (moments : List ℕ) (d : DoorState) (n : ℕ) (first mid new : KeeperState) (coming coming2 : Option (List ℕ)) (held held2 : Option DoorState) (before between now : ℕ) → IsTrue new.trusted → Steps mid new
    → Gone sense w moments d n coming held before between first mid → NextFrom mid new coming held coming2 held2 between now r → BringsTo sense w moments d (λ cs e. More r n (length cs) e) coming2 held2 before now first new
gone_on sense r w moments d n first mid new coming coming2 held held2 before between now stands steps (cs, e, later, here, asked, h, count) next =
    let at = h.kept.tables (steps.stood stands) in
    let k = next (at.0, stands) sense h.end e later at.1 here asked in
    (cs ++ k.0, k.1, k.2, k.3, k.4, brings_on sense w moments d e k.1 cs k.0 later k.2 before between now first mid new h steps k.5, more r cs k.0 n k.1 count k.6)

module _ (sense : Sense) (w : World) (moments : List ℕ) (d : DoorState) (n count : ℕ) (coming : Option (List ℕ)) (held : Option DoorState) (before now : ℕ) (old new : KeeperState) where
  pub failed_many : (f : IoFail) → n < count → BringsTo sense w moments d (λ cs e. More (Err f) n (length cs) e) coming held before now old new → BringsTo sense w moments d (ManyEnds count (Err f)) coming held before now old new
  failed_many f few (cs, e, later, h, k, b, is) = (cs, e, later, h, k, b, omega (arith, is, few))

  pub ended_many : n < count → BringsTo sense w moments d (λ cs e. More (Ok false) n (length cs) e) coming held before now old new → BringsTo sense w moments d (ManyEnds count (Ok tt)) coming held before now old new
  ended_many few (cs, e, later, h, k, b, is) = let l = is.0 in (cs, e, later, h, k, b, (omega (arith, l, few), inr is.1))

  pub full_many : n ≤ count → count ≤ n → Gone sense w moments d n coming held before now old new → BringsTo sense w moments d (ManyEnds count (Ok tt)) coming held before now old new
  full_many few all (cs, e, later, h, k, b, is) = (cs, e, later, h, k, b, (omega (arith, is, few), inl (omega (arith, is, few, all))))

-- ---- faults of lines

pub rose_by : (s : Result (Unit {0}) LineFail) (a b c : ℕ) → b ≡ a → Cause b c (IsErrOf s Read) → Cause b c (IsErrOf s Write) → (f : LineFail) → s ≡ Err f → Rose a c
rose_by s a b c e reads writes Read is = subst (λ n. Rose n c) e (reads.rose is)
rose_by s a b c e reads writes Write is = subst (λ n. Rose n c) e (writes.rose is)

pub later_by : (a b c : ℕ) (F : Type 0) → b ≡ a → Cause b c F → a ≤ c
later_by a b c F e cause = let h = cause.later in omega (arith, e, h)

ended : (s : Result (Unit {0}) LineFail) (n : ℕ) → cond (is_err s) 1 0 + n ≡ 0 → (s ≡ Ok tt) × (n ≡ 0)
ended (Ok done) n e = (refl, omega (arith, e))
ended (Err f) n e = let no : ⊥ = omega (arith, e) in absurd no

all_unfaulted : (cs : List Connection) → faulted cs ≡ 0 → AllByRecursion IsUnfaulted cs
all_unfaulted [] e = tt
all_unfaulted (c ∷ cs) e = let h = ended (end_of c) (faulted cs) e in (h.0, all_unfaulted cs h.1)

pub unfaulted : (cs : List Connection) (count : ℕ) → RoseBy (faulted cs) count count → count < last_count → AllByRecursion IsUnfaulted cs
unfaulted cs count rose below = all_unfaulted cs (omega (arith, rose, below))
