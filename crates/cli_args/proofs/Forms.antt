-- A name that no form has is no command's.
use Rattle.std.proofs.Common.{◌≡◌, ◌≢◌, ◌<◌, ◌≤◌, ◌+◌, ◌-◌, ℕ, suc, Bool, true, false, List, [], ◌∷◌, drop, length, map, take, get_or, refl, sym, ap, subst, ◌∙◌, arith}
use Rattle.std.specs.List.{All}
use Rattle.std.proofs.lemmas.List.Elements.{All-append, All-cons, All-nil}
use Rattle.std.proofs.Math.Seq.{take-length, take-suc}
use Rattle.std.specs.Prelude.{if◌then◌else◌, None, codes}
use Rattle.std.specs.Str.{bytes_eq}
use Rattle.std.proofs.lemmas.Slice.Eq.{bytes_eq-Decides}
use Rattle.commands.specs.Commands.{answer_of, command_of, csvq_of, demo_of, export_of, load_of, org_add_of, serve_of, user_set_of}
use Rattle.cli_args.specs.Lines.{IsCommandLine, IsPort}
use Rattle.cli_args.specs.inner.Forms.{IsUnknown}

-- a fact about one element more
pub one_more : {X : Type 0} (P : X → Type 0) (xs : List X) (i : ℕ) (d : X) → All P (take i xs) → i < length xs → P (get_or xs i d) → All P (take (i + 1) xs)
one_more P xs i d h few p =
    let next : suc i ≡ i + 1 = omega arith in
    subst (λ (n : ℕ). All P (take n xs)) next (subst (All P) (sym (take-suc xs i d few)) (All-append P (take i xs) (get_or xs i d ∷ []) h (All-cons P (get_or xs i d) [] p (All-nil P))))

pub unknown_by_names : (name : List ℕ) → codes "csvq" ≢ name → codes "org-add" ≢ name → codes "user-set" ≢ name → codes "export" ≢ name → codes "load" ≢ name → codes "demo" ≢ name → codes "answer" ≢ name → codes "serve" ≢ name → IsUnknown name
unknown_by_names name csvq org_add user_set export load demo answer serve others =
    by (bytes_eq name (codes "csvq")) (bytes_eq name (codes "org-add")) (bytes_eq name (codes "user-set")) (bytes_eq name (codes "export")) (bytes_eq name (codes "load")) (bytes_eq name (codes "demo")) (bytes_eq name (codes "answer")) (bytes_eq name (codes "serve"))
    refl refl refl refl refl refl refl refl
  where
    by : (x y s v l d z u : Bool) → bytes_eq name (codes "csvq") ≡ x → bytes_eq name (codes "org-add") ≡ y → bytes_eq name (codes "user-set") ≡ s → bytes_eq name (codes "export") ≡ v → bytes_eq name (codes "load") ≡ l → bytes_eq name (codes "demo") ≡ d → bytes_eq name (codes "answer") ≡ z → bytes_eq name (codes "serve") ≡ u
        → (if x then csvq_of others else (if y then org_add_of others else (if s then user_set_of others else (if v then export_of others else (if l then load_of others else (if d then demo_of others else (if z then answer_of others else (if u then serve_of others else None)))))))) ≡ None
    by true y s v l d z u e f m i k j g h = absurd (csvq (sym ((bytes_eq-Decides name (codes "csvq")).0 e)))
    by false true s v l d z u e f m i k j g h = absurd (org_add (sym ((bytes_eq-Decides name (codes "org-add")).0 f)))
    by false false true v l d z u e f m i k j g h = absurd (user_set (sym ((bytes_eq-Decides name (codes "user-set")).0 m)))
    by false false false true l d z u e f m i k j g h = absurd (export (sym ((bytes_eq-Decides name (codes "export")).0 i)))
    by false false false false true d z u e f m i k j g h = absurd (load (sym ((bytes_eq-Decides name (codes "load")).0 k)))
    by false false false false false true z u e f m i k j g h = absurd (demo (sym ((bytes_eq-Decides name (codes "demo")).0 j)))
    by false false false false false false true u e f m i k j g h = absurd (answer (sym ((bytes_eq-Decides name (codes "answer")).0 g)))
    by false false false false false false false true e f m i k j g h = absurd (serve (sym ((bytes_eq-Decides name (codes "serve")).0 h)))
    by false false false false false false false false e f m i k j g h = refl

-- words of which the second is a port, and those behind it a command
pub line_of_words : {X : Type 0} (f : X → List ℕ) (words : List X) (second : X) → 2 ≤ length words → second ≡ get_or words 1 second → IsPort (f second) → (command_of (map f (take (length words - 2) (drop 2 words))) ≡ None → ⊥)
    → IsCommandLine (map f words)
line_of_words f [] second two at port command = absurd (omega (arith, two))
line_of_words f (x ∷ []) second two at port command = absurd (omega (arith, two))
line_of_words {X} f (x ∷ y ∷ others) second two at port command =
    let few : length (x ∷ y ∷ others) - 2 ≡ length others = omega arith in (
      subst (λ (z : X). IsPort (f z)) at port,
      λ none. command (ap (λ (ys : List X). command_of (map f ys)) (ap (λ (n : ℕ). take n others) few ∙ take-length others) ∙ none),
    )

-- one word is no command line
pub not_one : {X : Type 0} (f : X → List ℕ) (words : List X) → length words < 2 → IsCommandLine (map f words) → ⊥
not_one f [] few line = line
not_one f (x ∷ []) few line = line
not_one f (x ∷ y ∷ others) few line = absurd (omega (arith, few))
