-- Deeds that were done before others.
use Rattle.std.proofs.Common.{◌≡◌, inl, inr, ◌∙◌, ℕ, List, [], ◌∷◌, ◌++◌, ◌≤◌, length, take, Option, Some, None, Result, Ok, Err, refl, sym, ap, subst, append-nil, append_assoc}
use Rattle.std.specs.Io.KnownBytes.{Appends}
use Rattle.std.proofs.KnownBytes.{Appends-trans}
use Rattle.model.specs.World.{World}
use Rattle.commands.specs.Deeds.{CutShort, Deed, Printed, Prints, StopsBefore, one_deed, text_of, world_of}
use Rattle.commands.specs.Printed.{PrintoutText}
use Rattle.commands.specs.declared.stop.Stop.{Stop}
use Rattle.commands.specs.declared.stop.Stop.TheVariants.{Damaged, DoorFailed, KeeperFailed, NoMemory, SinkFailed, SourceFailed, UnknownVersion}

pub text_both : (xs ys : List Deed) → text_of (xs ++ ys) ≡ text_of xs ++ text_of ys
text_both [] ys = refl
text_both (x ∷ xs) ys = ap (λ (t : List ℕ). x.text ++ t) (text_both xs ys) ∙ sym (append_assoc x.text (text_of xs) (text_of ys))

pub world_both : (w : World) (xs ys : List Deed) → world_of w (xs ++ ys) ≡ world_of (world_of w xs) ys
world_both w [] ys = refl
world_both w (x ∷ xs) ys = world_both x.world xs ys

pub nothing : (old : Option (List ℕ)) → Appends old old []
nothing None = tt
nothing (Some xs) = sym (append-nil xs)

module _ (w : World) (past rest : List Deed) (status : ℕ) (old mid new : Option (List ℕ)) (before : Appends old mid (text_of past)) where
  abbrev Rest : Printed
  Rest = record { deeds = rest; status = status }

  abbrev Whole : Printed
  Whole = record { deeds = past ++ rest; status = status }

  split : (more : List Deed) (d : Deed) (others : List Deed) → rest ≡ more ++ d ∷ others → past ++ rest ≡ (past ++ more) ++ d ∷ others
  split more d others is = ap (λ (ds : List Deed). past ++ ds) is ∙ sym (append_assoc past more (d ∷ others))

  text_on : (more : List Deed) (text : List ℕ) → Appends mid new (text_of more ++ text) → Appends old new (text_of (past ++ more) ++ text)
  text_on more text h =
      subst (Appends old new) (sym (append_assoc (text_of past) (text_of more) text) ∙ ap (λ (t : List ℕ). t ++ text) (sym (text_both past more)))
      (Appends-trans old mid new (text_of past) (text_of more ++ text) before h)

  text_to : (more : List Deed) → Appends mid new (text_of more) → Appends old new (text_of (past ++ more))
  text_to more h = subst (Appends old new) (sym (text_both past more)) (Appends-trans old mid new (text_of past) (text_of more) before h)

  stops_before : (end : World) → StopsBefore (world_of w past) Rest mid new end → StopsBefore w Whole old new end
  stops_before end h = record {
    past = past ++ h.past;
    next = h.next;
    rest = h.rest;
    all = split h.past h.next h.rest h.all;
    text = text_to h.past h.text;
    world = h.world ∙ sym (world_both w past h.past);
  }

  -- what is printed behind them
  pub after_deeds : (r : Result ℕ Stop) (end : World) → Prints (world_of w past) Rest mid new r end → Prints w Whole old new r end
  after_deeds (Ok s) end h = (h.0, text_to rest h.1, h.2 ∙ sym (world_both w past rest))
  after_deeds (Err SinkFailed) end h = record {
    past = past ++ h.past;
    next = h.next;
    rest = h.rest;
    all = split h.past h.next h.rest h.all;
    taken = h.taken;
    front = h.front;
    text = text_on h.past (take h.taken h.next.text) h.text;
    world = h.world;
  }
  after_deeds (Err NoMemory) end h = stops_before end h
  after_deeds (Err KeeperFailed) end h = stops_before end h
  after_deeds (Err SourceFailed) end h = stops_before end h
  after_deeds (Err DoorFailed) end h = absurd h
  after_deeds (Err Damaged) end h = absurd h
  after_deeds (Err UnknownVersion) end h = absurd h

  -- what a crash leaves behind them
  pub cut_behind : (end : World) → CutShort (world_of w past) Rest mid new end → CutShort w Whole old new end
  cut_behind end h = record {
    past = past ++ h.past;
    rest = h.rest;
    all = ap (λ (ds : List Deed). past ++ ds) h.all ∙ sym (append_assoc past h.past h.rest);
    text = text_to h.past h.text;
    world = elim h.world [ inl e ↦ inl (e ∙ sym (world_both w past h.past)) | inr next ↦ inr next ];
  }

-- ---- one deed, and others behind it

no_more : (d e : Deed) (xs ys : List Deed) → ◌≡◌ {A = List Deed} [] (xs ++ e ∷ ys) → ⊥
no_more d e [] ys h = cc
no_more d e (x ∷ xs) ys h = cc

pub record IsOnly (d : Deed) (past : List Deed) (next : Deed) : Type 0 where
  pub none : past ≡ []
  pub same : next ≡ d

pub is_only : (d : Deed) (past : List Deed) (next : Deed) (rest : List Deed) → d ∷ [] ≡ past ++ next ∷ rest → IsOnly d past next
is_only d [] next rest h = record { none = refl; same = cc }
is_only d (x ∷ past) next rest h = absurd (no_more d next past rest (behind h))
  where
    behind : ◌≡◌ {A = List Deed} (d ∷ []) (x ∷ (past ++ next ∷ rest)) → [] ≡ past ++ next ∷ rest
    behind e = cc

module _ (w : World) (printout : PrintoutText) (next : World) (rest : List Deed) (status : ℕ) (old new : Option (List ℕ)) where
  abbrev Made : Deed
  Made = record { text = printout.text; world = next }

  abbrev More : Printed
  More = record { deeds = Made ∷ rest; status = status }

  before_more : (end : World) → StopsBefore w (one_deed printout next) old new end → StopsBefore w More old new end
  before_more end h =
      let only = is_only Made h.past h.next h.rest h.all in
      record {
        past = [];
        next = Made;
        rest = rest;
        all = refl;
        text = subst (λ (ds : List Deed). Appends old new (text_of ds)) only.none h.text;
        world = h.world ∙ ap (world_of w) only.none;
      }

  -- a deed that failed
  pub failed_more : (e : Stop) (end : World) → Prints w (one_deed printout next) old new (Err e) end → Prints w More old new (Err e) end
  failed_more SinkFailed end h =
      let only = is_only Made h.past h.next h.rest h.all in
      record {
        past = [];
        next = Made;
        rest = rest;
        all = refl;
        taken = h.taken;
        front = subst (λ (d : Deed). h.taken ≤ length d.text) only.same h.front;
        text = subst (λ (d : Deed). Appends old new (take h.taken d.text)) only.same (subst (λ (ds : List Deed). Appends old new (text_of ds ++ take h.taken h.next.text)) only.none h.text);
        world = h.world ∙ ap (λ (d : Deed). d.world) only.same;
      }
  failed_more NoMemory end h = before_more end h
  failed_more KeeperFailed end h = before_more end h
  failed_more SourceFailed end h = before_more end h
  failed_more DoorFailed end h = absurd h
  failed_more Damaged end h = absurd h
  failed_more UnknownVersion end h = absurd h
