-- What bytes begin with, by their first sixteen.
use Rattle.std.proofs.Common.{◌≡◌, ◌*◌, ◌≤◌, ℕ, List, ◌++◌, length, take, drop, sym, ap, ◌∙◌, append_assoc, arith}
use Rattle.std.proofs.lemmas.List.{take-append-drop, length-take}
use Rattle.wire.specs.Frames.{IsFrame}
use Rattle.wire.specs.Records.{record_bytes, most_words, FitsRecord}
use Rattle.wire.specs.declared.header.Header.{Header}

pub front_is : (bytes first rest group : List ℕ) (h : Header) → first ≡ take 16 bytes → rest ≡ drop 16 bytes
    → group ≡ first → record_bytes h ≡ group → bytes ≡ record_bytes h ++ rest
front_is bytes first rest group h front back copied spelled =
    sym (take-append-drop 16 bytes) ∙ ap (λ l. l ++ drop 16 bytes) (sym (spelled ∙ copied ∙ front))
    ∙ ap (λ l. record_bytes h ++ l) (sym back)

pub whole_is : (bytes rest : List ℕ) (h : Header) (size : ℕ) → bytes ≡ record_bytes h ++ rest
    → bytes ≡ (record_bytes h ++ take size rest) ++ drop size rest
whole_is bytes rest h size is = is ∙ ap (λ l. record_bytes h ++ l) (sym (take-append-drop size rest))
    ∙ sym (append_assoc (record_bytes h) (take size rest) (drop size rest))

pub is_frame : (h : Header) (rest : List ℕ) → FitsRecord h → h.count ≤ most_words → 8 * h.count ≤ length rest
    → IsFrame (record { header = h; body = take (8 * h.count) rest })
is_frame h rest fits few long = record {
  fits = fits;
  long = omega (arith, length-take (8 * h.count) rest, long);
  few = few;
}
