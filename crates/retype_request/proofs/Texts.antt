-- The characters of the names of fields that objects have beside custom ones, and of the empty text.
use Rattle.std.proofs.Common.{◌≡◌, ◌∙◌, ℕ, Bool, true, false, not, ◌&&◌, cond, List, [], Option, None, Some, refl, sym, ap}
use Rattle.std.specs.Prelude.{codes}
use Rattle.std.specs.Str.{chars}
use Rattle.model.specs.Fields.{same_name}
use Rattle.retype_request.specs.inner.Columns.{system_name}

pub id_text : chars (codes "Id") ≡ codes "Id"
unfolding chars
id_text = refl

pub created_text : chars (codes "CreatedDate") ≡ codes "CreatedDate"
unfolding chars
created_text = refl

pub modified_text : chars (codes "LastModifiedDate") ≡ codes "LastModifiedDate"
unfolding chars
modified_text = refl

pub name_text : chars (codes "Name") ≡ codes "Name"
unfolding chars
name_text = refl

pub owner_text : chars (codes "OwnerId") ≡ codes "OwnerId"
unfolding chars
owner_text = refl

pub empty_text : chars [] ≡ []
unfolding chars
empty_text = refl

-- ---- one name after the other

abbrev pick : (a b c d e : Bool) → Option (List ℕ)
pick a b c d e =
    cond a (Some (codes "Id"))
    (cond b (Some (codes "CreatedDate")) (cond c (Some (codes "LastModifiedDate")) (cond d (Some (codes "Name")) (cond e (Some (codes "OwnerId")) None))))

module _ (detail : Bool) (name : List ℕ) where
  abbrev is : List ℕ → Bool
  is s = same_name s name

  abbrev owner : Bool
  owner = same_name (codes "OwnerId") name && not detail

  read : {s u : List ℕ} {b : Bool} → s ≡ u → is s ≡ b → is u ≡ b
  read e h = ap is (sym e) ∙ h

  module _ (a : is (chars (codes "Id")) ≡ false) (b : is (chars (codes "CreatedDate")) ≡ false) where
    third : system_name detail name ≡ pick false false (is (codes "LastModifiedDate")) (is (codes "Name")) owner
    third =
        ap (λ (x : Bool). pick x (is (codes "CreatedDate")) (is (codes "LastModifiedDate")) (is (codes "Name")) owner) (read id_text a)
        ∙ ap (λ (x : Bool). pick false x (is (codes "LastModifiedDate")) (is (codes "Name")) owner) (read created_text b)

    pub modified_here : is (chars (codes "LastModifiedDate")) ≡ true → Some (chars (codes "LastModifiedDate")) ≡ system_name detail name
    modified_here c =
        ap (λ (s : List ℕ). Some s) modified_text
        ∙ sym (third ∙ ap (λ (x : Bool). pick false false x (is (codes "Name")) owner) (read modified_text c))

    module _ (c : is (chars (codes "LastModifiedDate")) ≡ false) where
      fourth : system_name detail name ≡ pick false false false (is (codes "Name")) owner
      fourth = third ∙ ap (λ (x : Bool). pick false false x (is (codes "Name")) owner) (read modified_text c)

      pub name_here : is (chars (codes "Name")) ≡ true → Some (chars (codes "Name")) ≡ system_name detail name
      name_here d = ap (λ (s : List ℕ). Some s) name_text ∙ sym (fourth ∙ ap (λ (x : Bool). pick false false false x owner) (read name_text d))

      module _ (d : is (chars (codes "Name")) ≡ false) where
        fifth : system_name detail name ≡ pick false false false false owner
        fifth = fourth ∙ ap (λ (x : Bool). pick false false false x owner) (read name_text d)

        pub owner_here : owner ≡ true → Some (chars (codes "OwnerId")) ≡ system_name detail name
        owner_here e = ap (λ (s : List ℕ). Some s) owner_text ∙ sym (fifth ∙ ap (pick false false false false) e)

        pub none_here : owner ≡ false → ◌≡◌ {A = Option (List ℕ)} None (system_name detail name)
        none_here e = sym (fifth ∙ ap (pick false false false false) e)
