-- From what `run` promises over tables to what is said in worlds alone: one call.
use Rattle.std.proofs.Common.{◌≡◌, ◌⊎◌, inl, inr, ℕ, Bool, true, false, IsTrue, List, [], ◌∷◌, Option, Some, None, Result, refl, sym, ap, subst, ◌∙◌}
use Rattle.std.specs.Prelude.{IfSome, if◌then◌else◌, ◌++◌, ◌≤◌, length}
use Rattle.std.specs.Io.KnownBytes.{Appends}
use Rattle.std.proofs.lemmas.Bool.{true≢false as true_isnt_false}
use Rattle.base_io.specs.Doors.{DoorState, outputs}
use Rattle.store_kv.specs.State.{IsSettled, KeeperState}
use Rattle.store_kv.specs.Tables.{Tables}
use Rattle.model.specs.World.{World}
use Rattle.base_value.specs.Causes.{Rose, RoseBy}
use Rattle.server.specs.Connections.{Connection, end_of, faulted, inputs_of, outputs_of}
use Rattle.server.specs.Falls.{Falls, FallsBringing}
use Rattle.server.specs.Leads.{IsReached, StandsReached}
use Rattle.server.specs.Requests.{message_in}
use Rattle.server.specs.Senses.{of_all}
use Rattle.store_abstraction.specs.Stands.{Stands}
use Rattle.commands.specs.Commands.{Command, Printing, answers, csvq, export, load, org_add, prints, printed, serves, used_by, uses, uses_of, demo, user_set}
use Rattle.commands.specs.Deeds.{Prints}
use Rattle.platform.specs.Falling.{CrashPrints, Doubts, FallsOpening}
use Rattle.platform.specs.Promise.{IsStatus, Promise}
use Rattle.platform.specs.Run.{KeepsIf, KeepsWorld, MayBe, Runs, status_in}
use Rattle.platform.specs.Serving.{IsOpening, OpensOnly, Served, ServeEnds, answer_end}
use Rattle.commands.specs.declared.stop.Stop.{Stop}
use Rattle.platform_history.specs.Calls.{seen}
use Rattle.platform_history.specs.Histories.{Breaks, BreaksAnswers, BreaksServes, Fallen, Goes, Says, SaysAnswers, SaysServes, ServedSo}
use Rattle.platform_history.specs.Runs.{Around}
use Rattle.model_requests.specs.Step.{step}

module _ (k l : KeeperState) (a b : Around) (status : ℕ) (w : World) (m : Tables)
    (settled_k : IsSettled k) (settled_l : l.tells → IsTrue l.trusted → IsSettled l) (faults_a : a.keeper_faults ≡ k.faults) (faults_b : b.keeper_faults ≡ l.faults)
    (told : k.tells) (trusted : IsTrue k.trusted) (clean : IsTrue l.is_clean) (s : Stands k.tables w) (left : l.may_leave m) where
  abbrev Kept : Command → Type 0
  Kept c = Promise c (seen k a) (seen l b) status

  -- what was left before stands for the same world
  before : k.may_leave m → Stands m w
  before h = subst (λ (t : Tables). Stands t w) (sym (settled_k.only m h)) s

  -- some messages lead there
  abbrev Led : Type 0
  Led = (end : World) × IsReached w end × Stands m end

  served_so : (moments : List ℕ) (cs : List Connection) (h : Served of_all w moments cs (seen k a) (seen l b)) → ServedSo w h.end moments cs a b
  served_so moments cs h = record {
    later = h.later;
    served = h.served;
    isolated = h.isolated;
    asked = h.asked;
    faults = rw (faults_a, faults_b) h.kept.faults;
  }

  -- ---- the keeper is trusted at the end

  module _ (st : IsTrue l.trusted) where
    -- what it leaves are its tables
    after : (end : World) → KeepsWorld end l → Stands m end
    after end h = subst (λ (t : Tables). Stands t end) (sym ((settled_l h.0 st).only m left)) h.1

    led : l.tells × StandsReached w l.tables → Led
    led h = (h.1.0, h.1.1, after h.1.0 (h.0, h.1.2))

    whole_answers : Kept answers → (given coming : Option (List ℕ)) → a.left ≡ given → a.coming ≡ coming
        → (end : World) × SaysAnswers w end a b status given coming × Stands m end
    whole_answers p (Some input) (Some moments) e f = let h = p.does w (inr ((told, st), s)) in by h.0 h.1 (h.2 input moments e f)
      where
        by : (r : Result ℕ Stop) → status ≡ status_in r
            → (IsOpening r × OpensOnly of_all w (seen k a) (seen l b))
            ⊎ ((c : Connection) × (c.input ≡ input) × Served of_all w moments (c ∷ []) (seen k a) (seen l b) × Appends a.written b.written c.output × (r ≡ answer_end (end_of c)))
            → (end : World) × SaysAnswers w end a b status (Some input) (Some moments) × Stands m end
        by r same (inl (opening, only)) = (w, (r, same, inl (opening, refl, only.door, only.left, only.written, only.coming)), after w (only.kept.tables st))
        by r same (inr (c, is, served, appends, ends)) = (
          served.end,
          (r, same, inr (c, is, served_so moments (c ∷ []) served, appends, ends)),
          after served.end (served.kept.tables st),
        )
    whole_answers p None coming e f = led (p.leads refl (told, st) w s)
    whole_answers p (Some input) None e f = led (p.leads refl (told, st) w s)

    whole_serves : (count : ℕ) → Kept (serves count) → (held : Option DoorState) (coming : Option (List ℕ)) → a.door ≡ held → a.coming ≡ coming
        → (end : World) × SaysServes count w end a b status held coming × Stands m end
    whole_serves count p (Some d) (Some moments) e f = let h = p.does w (inr ((told, st), s)) in by h.0 h.1 (h.2 d moments e f)
      where
        by : (r : Result ℕ Stop) → status ≡ status_in r
            → (IsOpening r × OpensOnly of_all w (seen k a) (seen l b))
            ⊎ ((cs : List Connection) × (e : DoorState) × (b.door ≡ Some e) × (d.coming ≡ inputs_of cs ++ e.coming) × (outputs e ≡ outputs d ++ outputs_of cs)
            × Served of_all w moments cs (seen k a) (seen l b) × RoseBy (faulted cs) a.line_faults b.line_faults × (length cs ≤ count) × ServeEnds count (length cs) e.coming r)
            → (end : World) × SaysServes count w end a b status (Some d) (Some moments) × Stands m end
        by r same (inl (opening, only)) = (w, (r, same, inl (opening, refl, only.door, only.left, only.written, only.coming)), after w (only.kept.tables st))
        by r same (inr (cs, e, door, inputs, outs, served, lines, few, ends)) = (
          served.end,
          (r, same, inr (cs, e, door, inputs, outs, served_so moments cs served, lines, few, ends)),
          after served.end (served.kept.tables st),
        )
    whole_serves count p None coming e f = led (p.leads refl (told, st) w s)
    whole_serves count p (Some d) None e f = led (p.leads refl (told, st) w s)

    -- a text was printed of the tables
    abbrev SaysText : Printing → World → Type 0
    SaysText q end = (bytes moments : List ℕ) × MayBe (uses q).source a.left bytes × MayBe (uses q).dated a.coming moments
        × (r : Result ℕ Stop) × (status ≡ status_in r) × (said : World) × Prints w (printed q w bytes moments) a.written b.written r said × (end ≡ (if (uses q).keeper then said else w))

    whole_text : (q : Printing) → (uses q).keeper ≡ true → Kept (prints q) → (end : World) × Says (prints q) w end a b status × Stands m end
    whole_text q used p = let h = p.does w (inr ((told, st), s)) in by h.0 h.1 h.2
      where
        by : (r : Result ℕ Stop) → status ≡ status_in r → Runs (prints q) w (seen k a) (seen l b) r → (end : World) × Says (prints q) w end a b status × Stands m end
        by r same (bytes, moments, source, dated, end, printed, kept) = (
          end,
          (
            λ none. absurd (true_isnt_false (sym used ∙ none)),
            (bytes, moments, source, dated, r, same, end, printed, sym (ap (λ (v : Bool). if v then end else w) used)),
          ),
          after end (subst (λ (v : Bool). KeepsIf v end l) used kept),
        )

    -- the same where it has tables of its own
    whole_own : (q : Printing) → (uses q).keeper ≡ false → Kept (prints q) → k.may_leave m → (end : World) × Says (prints q) w end a b status × Stands m end
    whole_own q none p left = let h = p.does w (inl none) in (w, (λ e. refl, by h.0 h.1 h.2), before left)
      where
        by : (r : Result ℕ Stop) → status ≡ status_in r → Runs (prints q) w (seen k a) (seen l b) r → SaysText q w
        by r same (bytes, moments, source, dated, said, printed, kept) = (bytes, moments, source, dated, r, same, said, printed, sym (ap (λ (v : Bool). if v then said else w) none))

    whole : (command : Command) → Kept command → ((uses_of command).keeper ≡ false → k.may_leave m)
        → (end : World) × Says command w end a b status × Stands m end
    whole (prints (csvq query)) p unused = whole_own (csvq query) refl p (unused refl)
    whole (prints (demo count)) p unused = whole_own (demo count) refl p (unused refl)
    whole (prints (org_add name secret)) p unused = whole_text (org_add name secret) refl p
    whole (prints (user_set org user secret)) p unused = whole_text (user_set org user secret) refl p
    whole (prints (export org user secret query)) p unused = whole_text (export org user secret query) refl p
    whole (prints (load org user secret object)) p unused = whole_text (load org user secret object) refl p
    whole answers p unused = whole_answers p a.left a.coming refl refl
    whole (serves count) p unused = whole_serves count p a.door a.coming refl refl

  -- ---- it fell

  module _ (fell : l.trusted ≡ false) where
    doubts : (c : Command) → Kept c → Doubts c w (seen k a) (seen l b) status
    doubts c p = p.fell (told, trusted, fell, clean) w s

    doubted : (moments input : List ℕ) (from to : Option (List ℕ)) (u : World) → Falls u moments input from to l → (end : World) × Fallen u end moments input from to × Stands m end
    doubted moments input from to u x = by (x.at.crash m left)
      where
        in_doubt : (end : World) → (end ≡ x.place.world) ⊎ (end ≡ (step x.place.world (message_in x.at.request) x.at.now).1) → Fallen u end moments input from to
        in_doubt end doubt = record {
          answered = x.answered;
          place = x.place;
          follows = x.follows;
          goes_on = x.at.goes_on;
          request = x.at.request;
          rest = x.at.rest;
          item = x.at.item;
          now = x.at.now;
          moment = x.at.moment;
          text = x.text;
          undone = x.undone;
          out = x.out;
          goes_out = x.goes_out;
          output = x.output;
          doubt = doubt;
        }

        by : Stands m x.place.world ⊎ Stands m (step x.place.world (message_in x.at.request) x.at.now).1 → (end : World) × Fallen u end moments input from to × Stands m end
        by (inl h) = (x.place.world, in_doubt x.place.world (inl refl), h)
        by (inr h) = ((step x.place.world (message_in x.at.request) x.at.now).1, in_doubt (step x.place.world (message_in x.at.request) x.at.now).1 (inr refl), h)

    breaks_answers : Kept answers → (given coming : Option (List ℕ)) → a.left ≡ given → a.coming ≡ coming
        → (end : World) × BreaksAnswers w end a b status given coming × Stands m end
    breaks_answers p (Some input) (Some moments) e f = by ((doubts answers p).told input moments e f)
      where
        by : FallsOpening w l status ⊎ Falls w moments input a.written b.written l → (end : World) × BreaksAnswers w end a b status (Some input) (Some moments) × Stands m end
        by (inl o) = (w, inl (o.opening, refl), o.crash m left)
        by (inr x) = let h = doubted moments input a.written b.written w x in (h.0, inr h.1, h.2)
    breaks_answers p None coming e f = (doubts answers p).crash m left
    breaks_answers p (Some input) None e f = (doubts answers p).crash m left

    breaks_serves : (count : ℕ) → Kept (serves count) → (held : Option DoorState) (coming : Option (List ℕ)) → a.door ≡ held → a.coming ≡ coming
        → (end : World) × BreaksServes w end a b status held coming × Stands m end
    breaks_serves count p (Some d) (Some moments) e f = by ((doubts (serves count) p).told d moments e f)
      where
        by : FallsOpening w l status ⊎ FallsBringing w moments d b.door l → (end : World) × BreaksServes w end a b status (Some d) (Some moments) × Stands m end
        by (inl o) = (w, inl (o.opening, refl), o.crash m left)
        by (inr (e, door, x)) =
            let h = doubted x.later x.input (Some []) (Some x.output) x.between x.falls in (
              h.0,
              inr (
                e,
                door,
                record {
                  served = x.served;
                  between = x.between;
                  later = x.later;
                  are_served = x.are_served;
                  input = x.input;
                  coming = x.coming;
                  inputs = x.inputs;
                  output = x.output;
                  more = x.more;
                  outputs_are = x.outputs_are;
                  falls = h.1;
                  undone = x.undone;
                },
              ),
              h.2,
            )
    breaks_serves count p None coming e f = (doubts (serves count) p).crash m left
    breaks_serves count p (Some d) None e f = (doubts (serves count) p).crash m left

    -- a text that was to be printed of the tables
    breaks_text : (q : Printing) → (uses q).keeper ≡ true → Kept (prints q) → (end : World) × Breaks (prints q) w end a b status × Stands m end
    breaks_text q used p = by (doubts (prints q) p).crash
      where
        none : ((status ≡ 0) ⊎ (status ≡ 65)) → ⊥
        none is = true_isnt_false (sym (p.causes.acknowledged refl used is clean) ∙ fell)

        by : CrashPrints q w (seen k a) (seen l b) → (end : World) × Breaks (prints q) w end a b status × Stands m end
        by (bytes, moments, source, dated, crash) = let h = crash m left in (h.0, (used, none, (bytes, moments, source, dated, h.1)), h.2)

    breaks : (command : Command) → Kept command → ((uses_of command).keeper ≡ false → IsTrue l.trusted)
        → (end : World) × Breaks command w end a b status × Stands m end
    breaks (prints (csvq query)) p unused = absurd (true_isnt_false (sym (unused refl) ∙ fell))
    breaks (prints (demo count)) p unused = absurd (true_isnt_false (sym (unused refl) ∙ fell))
    breaks (prints (org_add name secret)) p unused = breaks_text (org_add name secret) refl p
    breaks (prints (user_set org user secret)) p unused = breaks_text (user_set org user secret) refl p
    breaks (prints (export org user secret query)) p unused = breaks_text (export org user secret query) refl p
    breaks (prints (load org user secret object)) p unused = breaks_text (load org user secret object) refl p
    breaks answers p unused = breaks_answers p a.left a.coming refl refl
    breaks (serves count) p unused = breaks_serves count p a.door a.coming refl refl

  -- ---- either

  -- its fall was counted
  counted : (command : Command) → Kept command → l.trusted ≡ false → Rose a.keeper_faults b.keeper_faults
  counted command p fell = by (p.causes.steps.closes trusted clean)
    where
      by : IsTrue l.trusted ⊎ Rose k.faults l.faults → Rose a.keeper_faults b.keeper_faults
      by (inl st) = absurd (true_isnt_false (sym st ∙ fell))
      by (inr rose) = rw (faults_a, faults_b) rose

  goes_by : (command : Command) → IsStatus (Some command) status → Kept command → ((uses_of command).keeper ≡ false → k.may_leave m) → ((uses_of command).keeper ≡ false → IsTrue l.trusted)
      → (v : Bool) → l.trusted ≡ v → (end : World) × Goes w end (Some command) a b status × Stands m end
  goes_by command is p unused stays true st = let h = whole st command p unused in (h.0, (is, inl h.1), h.2)
  goes_by command is p unused stays false fell = let h = breaks fell command p stays in (h.0, (is, inr (h.1, counted command p fell)), h.2)

  pub goes : (o : Option Command) → IsStatus o status → IfSome o Kept
      → ((used_by o status).keeper ≡ false → k.may_leave m) → ((used_by o status).keeper ≡ false → IsTrue l.trusted)
      → (end : World) × Goes w end o a b status × Stands m end
  goes None is p unused stays = (w, (is, refl), before (unused refl))
  goes (Some command) is p unused stays = goes_by command is p unused stays l.trusted refl
