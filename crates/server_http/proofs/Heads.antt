-- From the offsets of the parser to the head of the grammar.
use Rattle.std.proofs.Common.{◌≡◌, ◌⊎◌, ℕ, List, take, drop, map, Option, Some, Ok, Err, codes, refl, sym, ap, ◌∙◌, arith, subst, inl, inr}
use Rattle.std.proofs.lemmas.List.{length-take}
use Rattle.std.specs.Str.{chars}
use Rattle.std.proofs.Common.{IsUtf8}
use Rattle.httparse.specs.Grammar.{RequestHead}
use Rattle.httparse.specs.Spans.{IsRequestOf, IsRequestAt, header_bytes, span_bytes}
use Rattle.httparse.specs.declared.spans.RequestSpans.{RequestSpans}
use Rattle.httparse.specs.declared.spans.HeaderSpan.{HeaderSpan}
use Rattle.server_http.specs.declared.fail.HttpFail.{HttpFail}
use Rattle.server_http.specs.declared.fail.HttpFail.TheVariants.{BadHead, HeadTooLarge, TransferEncoding, LengthRequired, BodyTooLarge, Failed, Memory}
use Rattle.server_http.specs.declared.parts.Head.{Head}
use Rattle.server_http.specs.Item.{window}
use Rattle.server_http.specs.Steps.{HeadAnswer}
use Rattle.server_http.specs.Framing.{values_named, body_size, bearer, closes}
use Rattle.server_http.specs.Item.{size_of}
use Rattle.server_http.specs.Parts.{HeadIs, IsHeadOf}
use Rattle.server_http.specs.Steps.{NextHead}

same_size : (text : List ℕ) (lines : List HeaderSpan) (spans : RequestSpans) (h : RequestHead) → IsRequestAt text lines spans h
    → body_size (span_bytes text spans.method) (map (header_bytes text) (take spans.headers lines)) ≡ size_of h
same_size text lines spans h at = ap (λ m. body_size m (map (header_bytes text) (take spans.headers lines))) at.method ∙ ap (body_size h.method) at.fields

-- the parts that the code took are those of the head
parts_of_head : (text : List ℕ) (lines : List HeaderSpan) (spans : RequestSpans) (h : RequestHead) (parts : Head) → IsRequestAt text lines spans h
    → HeadIs (span_bytes text spans.method) (span_bytes text spans.path) (map (header_bytes text) (take spans.headers lines)) spans.version spans.len parts
    → IsHeadOf h parts
parts_of_head text lines spans h parts at is = record {
  method = is.method ∙ at.method;
  target = is.target ∙ ap chars at.path;
  bearer = is.bearer ∙ ap (λ ls. bearer (values_named (codes "authorization") ls)) at.fields;
  close = is.close ∙ ap (λ v. closes v (map (header_bytes text) (take spans.headers lines))) at.version ∙ ap (closes h.minor) at.fields;
  len = is.len ∙ at.len;
  size = sym (same_size text lines spans h at) ∙ is.size;
}

pub found_head : (bytes : List ℕ) (left : Option (List ℕ)) (lines : List HeaderSpan) (spans : RequestSpans) (parts : Head) → HeadAnswer bytes left lines (Ok (Some spans))
    → HeadIs (span_bytes (window bytes) spans.method) (span_bytes (window bytes) spans.path) (map (header_bytes (window bytes)) (take spans.headers lines)) spans.version spans.len parts
    → NextHead bytes left (Ok (Some parts))
found_head bytes left lines spans parts (within, (h, at)) is =
    let fits = within.section.len_fits in
    let size = length-take 16384 bytes in
    let same = is.len in
    (h, (drop spans.len (window bytes), at.reads), parts_of_head (window bytes) lines spans h parts at is, omega (arith, fits, size, same), omega (arith, fits, size, same))

pub refused_head : (bytes : List ℕ) (left : Option (List ℕ)) (lines : List HeaderSpan) (e : HttpFail) → HeadAnswer bytes left lines (Err e) → NextHead bytes left (Err e)
refused_head bytes left lines BadHead a = inr (inr (inl (inl (refl, a))))
refused_head bytes left lines HeadTooLarge a = inr (inr (inl (inr (refl, a.0, a.1, a.2))))
refused_head bytes left lines TransferEncoding a = absurd a
refused_head bytes left lines LengthRequired a = absurd a
refused_head bytes left lines BodyTooLarge a = absurd a
refused_head bytes left lines Failed a = inr (inl refl)
refused_head bytes left lines Memory a = inl refl

pub refused_size : (bytes : List ℕ) (left : Option (List ℕ)) (lines : List HeaderSpan) (spans : RequestSpans) (e : HttpFail) → HeadAnswer bytes left lines (Ok (Some spans))
    → (e ≡ Memory) ⊎ (body_size (span_bytes (window bytes) spans.method) (map (header_bytes (window bytes)) (take spans.headers lines)) ≡ Err e)
    → NextHead bytes left (Err e)
refused_size bytes left lines spans e a (inl memory) = inl memory
refused_size bytes left lines spans e (within, (h, at)) (inr size) =
    inr (inr (inr (h, (drop spans.len (window bytes), at.reads), sym (same_size (window bytes) lines spans h at) ∙ size)))

-- the target is text
pub target_is_text : (bytes : List ℕ) (lines : List HeaderSpan) (spans : RequestSpans) → IsRequestOf bytes lines spans → IsUtf8 (span_bytes bytes spans.path)
target_is_text bytes lines spans (h, at) = subst IsUtf8 (sym at.path) at.reads.0.target_text
