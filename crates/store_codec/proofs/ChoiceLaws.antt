-- Names of one byte, and flags: what is read is spelled so, and what is spelled so is read.
use Rattle.std.proofs.Common.{◌≡◌, ℕ, zero, suc, ◌<◌, Bool, true, false, ltb, List, [], ◌∷◌, ◌++◌, Option, Some, IsTrue, refl, sym, ap, subst, arith}
use Rattle.std.proofs.lemmas.Bool.{ltb-true}
use Rattle.std.proofs.lemmas.Option.{cond_some as guard_some}
use Rattle.base_value.specs.declared.job.Outcome.TheVariants as outcome
use Rattle.base_value.specs.declared.job.Phase.TheVariants as phase
use Rattle.base_value.specs.declared.job.RuleState.TheVariants as state
use Rattle.base_value.specs.declared.sharing.Access.{Access}
use Rattle.base_value.specs.declared.sharing.Access.TheVariants as access
use Rattle.base_value.specs.declared.sharing.Level.TheVariants as level
use Rattle.base_value.specs.declared.value.OnDelete.TheVariants as delete
use Rattle.store_codec.specs.declared.choices.FieldFlags.{FieldFlags}
use Rattle.store_codec.specs.Choices.{Choice, Accesses, Standings, Levels, Phases, Outcomes, States, Deletes, Chosen, access_byte, byte_of, standing_byte, is_spelled, of_byte, choice, choice_at, flags, flags_of, flags_at}
use Rattle.store_codec.specs.PartLaws.{IsBytes, Takes, IsPart}
use Rattle.store_codec.proofs.PlainLaws.{IsBytes-rest, bind_some, some_is}

abbrev there : (c : Choice) → Chosen c → Option (Chosen c)
there c x = Some x

here : (c : Choice) (y x : Chosen c) → there c y ≡ there c x → is_spelled c y ≡ true → (byte_of c x ≡ byte_of c y) × IsTrue (is_spelled c x)
here c y x e s = subst (λ (z : Chosen c). (byte_of c z ≡ byte_of c y) × IsTrue (is_spelled c z)) (some_is y x e) (refl, s)

-- the name of a byte has that byte
named_so : (c : Choice) (b : ℕ) (x : Chosen c) → of_byte c b ≡ Some x → (byte_of c x ≡ b) × IsTrue (is_spelled c x)
named_so Accesses zero x e = here Accesses (record { access = access.Private; hierarchy = true }) x e refl
named_so Accesses (suc zero) x e = here Accesses (record { access = access.Read; hierarchy = true }) x e refl
named_so Accesses (suc (suc zero)) x e = here Accesses (record { access = access.ReadWrite; hierarchy = true }) x e refl
named_so Accesses (suc (suc (suc zero))) x e = here Accesses (record { access = access.ControlledByParent; hierarchy = true }) x e refl
named_so Accesses (suc (suc (suc (suc zero)))) x e = here Accesses (record { access = access.Private; hierarchy = false }) x e refl
named_so Accesses (suc (suc (suc (suc (suc zero))))) x e = here Accesses (record { access = access.Read; hierarchy = false }) x e refl
named_so Accesses (suc (suc (suc (suc (suc (suc zero)))))) x e = here Accesses (record { access = access.ReadWrite; hierarchy = false }) x e refl
named_so Accesses (suc (suc (suc (suc (suc (suc (suc b))))))) x e = absurd cc
named_so Standings zero x e = here Standings (record { admin = false; active = true }) x e refl
named_so Standings (suc zero) x e = here Standings (record { admin = true; active = true }) x e refl
named_so Standings (suc (suc zero)) x e = here Standings (record { admin = false; active = false }) x e refl
named_so Standings (suc (suc (suc zero))) x e = here Standings (record { admin = true; active = false }) x e refl
named_so Standings (suc (suc (suc (suc b)))) x e = absurd cc
named_so Levels zero x e = absurd cc
named_so Levels (suc zero) x e = here Levels level.Read x e refl
named_so Levels (suc (suc zero)) x e = here Levels level.Edit x e refl
named_so Levels (suc (suc (suc b))) x e = absurd cc
named_so Phases zero x e = here Phases phase.Copy x e refl
named_so Phases (suc zero) x e = here Phases phase.Clear x e refl
named_so Phases (suc (suc zero)) x e = here Phases phase.Done x e refl
named_so Phases (suc (suc (suc b))) x e = absurd cc
named_so Outcomes zero x e = here Outcomes outcome.Open x e refl
named_so Outcomes (suc zero) x e = here Outcomes outcome.Switched x e refl
named_so Outcomes (suc (suc zero)) x e = here Outcomes outcome.Failed x e refl
named_so Outcomes (suc (suc (suc zero))) x e = here Outcomes outcome.Cancelled x e refl
named_so Outcomes (suc (suc (suc (suc b)))) x e = absurd cc
named_so States zero x e = here States state.Whole x e refl
named_so States (suc zero) x e = here States state.Building x e refl
named_so States (suc (suc zero)) x e = here States state.Leaving x e refl
named_so States (suc (suc (suc b))) x e = absurd cc
named_so Deletes zero x e = here Deletes delete.Clear x e refl
named_so Deletes (suc zero) x e = here Deletes delete.Restrict x e refl
named_so Deletes (suc (suc b)) x e = absurd cc

access_again : (a : Access) (h : Bool) → IsTrue (is_spelled Accesses (record { access = a; hierarchy = h }))
    → of_byte Accesses (access_byte (record { access = a; hierarchy = h })) ≡ Some (record { access = a; hierarchy = h })
access_again access.Private true h = refl
access_again access.Private false h = refl
access_again access.Read true h = refl
access_again access.Read false h = refl
access_again access.ReadWrite true h = refl
access_again access.ReadWrite false h = refl
access_again access.ControlledByParent true h = refl
access_again access.ControlledByParent false h = absurd cc

standing_again : (admin active : Bool) → of_byte Standings (standing_byte (record { admin = admin; active = active })) ≡ Some (record { admin = admin; active = active })
standing_again false true = refl
standing_again true true = refl
standing_again false false = refl
standing_again true false = refl

-- and the byte of a name that is spelled has that name
byte_again : (c : Choice) (x : Chosen c) → IsTrue (is_spelled c x) → of_byte c (byte_of c x) ≡ Some x
byte_again Accesses x h = access_again x.access x.hierarchy h
byte_again Standings x h = standing_again x.admin x.active
byte_again Levels level.Nothing h = absurd cc
byte_again Levels level.Read h = refl
byte_again Levels level.Edit h = refl
byte_again Levels level.Full h = absurd cc
byte_again Phases phase.Copy h = refl
byte_again Phases phase.Clear h = refl
byte_again Phases phase.Done h = refl
byte_again Outcomes outcome.Open h = refl
byte_again Outcomes outcome.Switched h = refl
byte_again Outcomes outcome.Failed h = refl
byte_again Outcomes outcome.Cancelled h = refl
byte_again States state.Whole h = refl
byte_again States state.Building h = refl
byte_again States state.Leaving h = refl
byte_again Deletes delete.Clear h = refl
byte_again Deletes delete.Restrict h = refl

choice_takes : (c : Choice) (bytes : List ℕ) (x : Chosen c) (rest : List ℕ) → IsBytes bytes → choice_at c bytes ≡ Some (x, rest) → Takes bytes (choice c x) rest × IsTrue (is_spelled c x)
unfolding choice_at
choice_takes c [] x rest fits e = absurd cc
choice_takes c (b ∷ bytes) x rest fits e =
    let f = bind_some (of_byte c b) (λ y. Some (y, bytes)) (x, rest) e in
    let n = named_so c b f.0 f.1 in
    subst (λ (z : Chosen c × List ℕ). Takes (b ∷ bytes) (choice c z.0) z.1 × IsTrue (is_spelled c z.0)) (some_is (f.0, bytes) (x, rest) f.2)
    (record { parts = ap (λ (k : ℕ). k ∷ bytes) (sym n.0); rest_fits = IsBytes-rest b bytes fits }, n.1)

choice_again : (c : Choice) (x : Chosen c) (rest : List ℕ) → IsTrue (is_spelled c x) → choice_at c (choice c x ++ rest) ≡ Some (x, rest)
unfolding choice_at
choice_again c x rest ok = rw (byte_again c x ok) refl

pub choice_part : (c : Choice) → IsPart (choice c) (λ x. IsTrue (is_spelled c x)) (choice_at c)
choice_part c = record { takes = choice_takes c; again = choice_again c }

-- ---- flags

flags_so : (b : ℕ) → b < 8 → flags (flags_of b) ≡ b ∷ []
flags_so zero h = refl
flags_so (suc zero) h = refl
flags_so (suc (suc zero)) h = refl
flags_so (suc (suc (suc zero))) h = refl
flags_so (suc (suc (suc (suc zero)))) h = refl
flags_so (suc (suc (suc (suc (suc zero))))) h = refl
flags_so (suc (suc (suc (suc (suc (suc zero)))))) h = refl
flags_so (suc (suc (suc (suc (suc (suc (suc zero))))))) h = refl
flags_so (suc (suc (suc (suc (suc (suc (suc (suc b)))))))) h = absurd (omega (arith, h))

flags_takes : (bytes : List ℕ) (f : FieldFlags) (rest : List ℕ) → IsBytes bytes → flags_at bytes ≡ Some (f, rest) → Takes bytes (flags f) rest × Unit {0}
unfolding flags_at
flags_takes [] f rest fits e = absurd cc
flags_takes (b ∷ bytes) f rest fits e =
    let g = guard_some (ltb b 8) (flags_of b, bytes) (f, rest) e in
    let lt : b < 8 = ltb-true b 8 g.0 in
    subst (λ (z : FieldFlags × List ℕ). Takes (b ∷ bytes) (flags z.0) z.1 × Unit {0}) g.1
    (record { parts = ap (λ (w : List ℕ). w ++ bytes) (sym (flags_so b lt)); rest_fits = IsBytes-rest b bytes fits }, tt)

flags_back : (r u i : Bool) (rest : List ℕ) → flags_at (flags (record { required = r; unique = u; indexed = i }) ++ rest) ≡ Some (record { required = r; unique = u; indexed = i }, rest)
unfolding flags_at
flags_back true true true rest = refl
flags_back true true false rest = refl
flags_back true false true rest = refl
flags_back true false false rest = refl
flags_back false true true rest = refl
flags_back false true false rest = refl
flags_back false false true rest = refl
flags_back false false false rest = refl

pub flags_part : IsPart flags (λ _. Unit {0}) flags_at
flags_part = record { takes = flags_takes; again = λ f rest ok. flags_back f.required f.unique f.indexed rest }
