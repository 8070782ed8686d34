-- What a writer has while a text is written.
use Rattle.std.proofs.Common.{◌≡◌, ℕ, ◌+◌, ◌-◌, ◌<◌, ◌≤◌, List, ◌++◌, length, take, drop, sym, subst, Option, arith}
use Rattle.std.proofs.Math.Seq.{take-add}
use Rattle.std.proofs.lemmas.List.{take_rest, take-append-drop, length-drop}
use Rattle.std.specs.Io.KnownBytes.{Appends}
use Rattle.std.proofs.KnownBytes.{Appends-trans}

pub wrote_more : (a b c : Option (List ℕ)) (text : List ℕ) (at n : ℕ) → at ≤ length text → Appends a b (take at text)
    → Appends b c (take n (take (length text - at) (drop at text))) → Appends a c (take (at + n) text)
wrote_more a b c text at n h p q =
    let next : Appends b c (take n (drop at text)) = subst (λ (l : List ℕ). Appends b c (take n l))
    (take_rest text at) q in
    subst (λ (l : List ℕ). Appends a c l) (sym (take-add at n text))
    (Appends-trans a b c (take at text) (take n (drop at text)) p next)

-- the written part of a text that isn't written to its end
pub wrote_part : (a c : Option (List ℕ)) (text : List ℕ) (n : ℕ) → n < length text → Appends a c (take n text)
    → (written : List ℕ) × (unwritten : List ℕ) × Appends a c written × (text ≡ written ++ unwritten)
    × (0 < length unwritten)
wrote_part a c text n h p = (
  take n text,
  drop n text,
  p,
  sym (take-append-drop n text),
  omega (arith, length-drop n text),
)
