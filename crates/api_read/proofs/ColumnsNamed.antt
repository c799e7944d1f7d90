-- The sites so far, one by one.
use Rattle.std.proofs.Common.{◌≡◌, ◌∙◌, ℕ, zero, suc, ◌+◌, true, List, [], ◌∷◌, ◌++◌, Option, Some, None, refl, sym, ap, subst, arith, append_assoc, append-nil}
use Rattle.std.specs.Prelude.{Result, Ok, Err, bytes_eq}
use Rattle.model.specs.Cases.{in_case}
use Rattle.model.specs.declared.refusal.Refusal.TheVariants.{InvalidField}
use Rattle.query_plan.specs.declared.check.Site.{Site}
use Rattle.query_plan.specs.declared.check.Site.TheVariants as site
use Rattle.store_abstraction.specs.declared.layout.Layout.{Layout}
use Rattle.api_read.specs.inner.Columns.{Sites, shown_sites, site_named, sites_asked, sites_named, value_sites, with_site}
use Rattle.api_read.proofs.ColumnsPlaced.{found}

-- ---- those of custom fields

more_values : (n k : ℕ) → value_sites (suc n) k ≡ value_sites n k ++ site.Value (suc (n + k)) ∷ []
more_values zero k = let e : k ≡ 0 + k = omega arith in ap (λ (m : ℕ). site.Value (suc m) ∷ []) e
more_values (suc n) k =
    let e : n + suc k ≡ suc n + k = omega arith in
    ap (λ (ss : List Site). site.Value (suc k) ∷ ss) (more_values n (suc k) ∙ ap (λ (m : ℕ). value_sites n (suc k) ++ site.Value (suc m) ∷ []) e)

pub value_pushed : (first now next : List Site) (n : ℕ) → now ≡ first ++ value_sites n 0 → next ≡ now ++ site.Value (n + 1) ∷ [] → next ≡ first ++ value_sites (n + 1) 0
value_pushed first now next n so pushed =
    let e : n + 1 ≡ suc n = omega arith in
    let f : n + 1 ≡ suc (n + 0) = omega arith in
    pushed ∙ ap (λ (ss : List Site). ss ++ site.Value (n + 1) ∷ []) so ∙ append_assoc first (value_sites n 0) (site.Value (n + 1) ∷ [])
    ∙ ap (λ (m : ℕ). first ++ (value_sites n 0 ++ site.Value m ∷ [])) f
    ∙ ap (λ (ss : List Site). first ++ ss) (sym (more_values n 0)) ∙ ap (λ (m : ℕ). first ++ value_sites m 0) (sym e)

-- ---- those that are named

-- these, and then those
abbrev pub behind : List Site → Sites → Sites
behind sites (Ok more) = Ok (sites ++ more)
behind sites (Err refusal) = Err refusal

pub behind_none : (s : Sites) → s ≡ behind [] s
behind_none (Ok sites) = refl
behind_none (Err refusal) = refl

behind_one : (sites : List Site) (s : Site) (more : Sites) → behind sites (with_site s more) ≡ behind (sites ++ s ∷ []) more
behind_one sites s (Ok more) = ap found (sym (append_assoc sites (s ∷ []) more))
behind_one sites s (Err refusal) = refl

module _ (l : Layout) (before : List (List ℕ)) (name : List ℕ) (rest : List (List ℕ)) where
  abbrev by_site : Option Site → Sites
  by_site x = in_case x (Err (InvalidField name)) (λ s. with_site s (sites_named l (before ++ name ∷ []) rest))

  -- one more is found
  pub one_found : (whole : Sites) (sites next : List Site) (s : Site) → whole ≡ behind sites (sites_named l before (name ∷ rest)) → site_named l before name ≡ Some s → next ≡ sites ++ s ∷ []
      → whole ≡ behind next (sites_named l (before ++ name ∷ []) rest)
  one_found whole sites next s so is pushed =
      so ∙ ap (λ (x : Option Site). behind sites (by_site x)) is ∙ behind_one sites s (sites_named l (before ++ name ∷ []) rest)
      ∙ ap (λ (ss : List Site). behind ss (sites_named l (before ++ name ∷ []) rest)) (sym pushed)

  -- one isn't
  pub one_refused : (whole : Sites) (sites : List Site) → whole ≡ behind sites (sites_named l before (name ∷ rest)) → site_named l before name ≡ None → whole ≡ Err (InvalidField name)
  one_refused whole sites so is = so ∙ ap (λ (x : Option Site). behind sites (by_site x)) is

-- all were found
pub all_found : (l : Layout) (before names : List (List ℕ)) (whole : Sites) (sites : List Site) → whole ≡ behind sites (sites_named l before names) → names ≡ [] → whole ≡ Ok sites
all_found l before names whole sites so none =
    so ∙ ap (λ (ns : List (List ℕ)). behind sites (sites_named l before ns)) none ∙ ap found (append-nil sites)

-- an empty text asks for all of them
pub all_said : (l : Layout) (text : List ℕ) (sites : List Site) → bytes_eq text [] ≡ true → sites ≡ shown_sites l → sites_asked l (Some text) ≡ Ok sites
all_said l [] sites e is = ap found (sym is)
all_said l (c ∷ cs) sites e is = absurd cc
