-- What writes leave of a count adds up over calls.
use Rattle.std.proofs.Common.{◌≡◌, ◌+◌, ◌==◌, ◌∙◌, ℕ, zero, suc, List, [], ◌∷◌, ◌++◌, Option, Some, None, refl, sym, ap, min, take, filter, length, length-append, append_assoc, append-nil, add-zero, arith}
use Rattle.std.specs.Io.KnownBytes.{Appends, Keeps}
use Rattle.std.proofs.lemmas.List.Elements.{filter-append}
use Rattle.base_value.specs.Causes.{last_count, up_to_last}
use Rattle.cli_notes.specs.Counts.{CountGoesOn}
use Rattle.cli_notes.specs.Written.{first_room, line_feeds}

Appends-refl : (written : Option (List ℕ)) → Appends written written []
Appends-refl None = tt
Appends-refl (Some xs) = sym (append-nil xs)

Appends-kept : (written written2 : Option (List ℕ)) → Keeps written written2 → Appends written written2 []
Appends-kept None written2 h = tt
Appends-kept (Some xs) None h = absurd h
Appends-kept (Some xs) (Some ys) h = h ∙ sym (append-nil xs)

Appends-trans : (a b c : Option (List ℕ)) (xs ys : List ℕ) → Appends a b xs → Appends b c ys → Appends a c (xs ++ ys)
Appends-trans None b c xs ys h k = tt
Appends-trans (Some a) None c xs ys h k = absurd h
Appends-trans (Some a) (Some b) None xs ys h k = absurd k
Appends-trans (Some a) (Some b) (Some c) xs ys h k = k ∙ ap (λ (zs : List ℕ). zs ++ ys) h ∙ append_assoc a xs ys

feeds-append : (xs ys : List ℕ) → line_feeds (xs ++ ys) ≡ line_feeds xs + line_feeds ys
feeds-append xs ys = ap length (filter-append (λ c. c == 10) xs ys) ∙ length-append (filter (λ c. c == 10) xs) (filter (λ c. c == 10) ys)

min-add : (most a b c x y : ℕ) → min b most ≡ min (a + x) most → min c most ≡ min (b + y) most → min c most ≡ min (a + (x + y)) most
min-add most a b c x y h k = grind arith

min-twice : (most a b : ℕ) → a ≡ min b most → min a most ≡ min b most
min-twice most a b h = grind arith

-- only the first bytes of a front matter
take-front : (n : ℕ) (xs ys : List ℕ) → take n (take n xs ++ ys) ≡ take n (xs ++ ys)
take-front zero xs ys = refl
take-front (suc n) [] ys = refl
take-front (suc n) (x ∷ xs) ys = ap (λ zs. x ∷ zs) (take-front n xs ys)

take-twice : (n : ℕ) (xs : List ℕ) → take n (take n xs) ≡ take n xs
take-twice n xs = ap (take n) (sym (append-nil (take n xs))) ∙ take-front n xs [] ∙ ap (take n) (append-nil xs)

pub CountGoesOn-refl : (written : Option (List ℕ)) (lines : ℕ) (front : List ℕ) → CountGoesOn written written lines lines front front
CountGoesOn-refl written lines front = record {
  bytes = [];
  appended = Appends-refl written;
  counted = ap up_to_last (sym (add-zero lines));
  seen = ap (take first_room) (sym (append-nil front));
}

pub CountGoesOn-trans : (a b c : Option (List ℕ)) (l m n : ℕ) (f g h : List ℕ) → CountGoesOn a b l m f g → CountGoesOn b c m n g h → CountGoesOn a c l n f h
CountGoesOn-trans a b c l m n f g h p q = record {
  bytes = p.bytes ++ q.bytes;
  appended = Appends-trans a b c p.bytes q.bytes p.appended q.appended;
  counted = min-add last_count l m n (line_feeds p.bytes) (line_feeds q.bytes) p.counted q.counted
      ∙ ap (λ (k : ℕ). up_to_last (l + k)) (sym (feeds-append p.bytes q.bytes));
  seen = q.seen ∙ sym (take-front first_room g q.bytes) ∙ ap (λ (zs : List ℕ). take first_room (zs ++ q.bytes)) p.seen
      ∙ take-front first_room (f ++ p.bytes) q.bytes ∙ ap (take first_room) (append_assoc f p.bytes q.bytes);
}

-- a write that failed
pub CountGoesOn-kept : (a b : Option (List ℕ)) (l : ℕ) (f : List ℕ) → Keeps a b → CountGoesOn a b l l f f
CountGoesOn-kept a b l f h = record {
  bytes = [];
  appended = Appends-kept a b h;
  counted = ap up_to_last (sym (add-zero l));
  seen = ap (take first_room) (sym (append-nil f));
}

-- a write of these bytes
pub CountGoesOn-more : (a b : Option (List ℕ)) (l m : ℕ) (f g bytes : List ℕ) → Appends a b bytes → m ≡ up_to_last (l + line_feeds bytes) → g ≡ take first_room (f ++ bytes) → CountGoesOn a b l m f g
CountGoesOn-more a b l m f g bytes appends counts sees = record {
  bytes = bytes;
  appended = appends;
  counted = min-twice last_count m (l + line_feeds bytes) counts;
  seen = ap (take first_room) sees ∙ take-twice first_room (f ++ bytes);
}
