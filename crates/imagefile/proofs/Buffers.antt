-- Bytes in a buffer are those of the file.
use Rattle.std.proofs.Common.{◌≡◌, ◌∙◌, ◌+◌, ◌<◌, ◌≤◌, ℕ, List, [], length, get_or, take, drop, refl, sym, ap, arith}
use Rattle.std.proofs.lemmas.List.{get_or-take, get_or-drop, ext_get_or, length-take, length-drop}
use Rattle.imagefile.specs.Common.{Bytes, Inside, window, window-same, HeldBytes, IsHeld}
use Rattle.imagefile.proofs.BlockReads.{window_part}

-- none are held
pub none_held : (b : Bytes) (held : HeldBytes) → held.bytes ≡ [] → IsHeld b held
unfolding window
none_held b held none = none ∙ ap (λ (l : List ℕ). window b held.at (length l)) (sym none)

-- a read of none
pub none_read : (b : Bytes) (at : ℕ) (got : List ℕ) → take 0 got ≡ window b at 0
unfolding window
none_read b at got = refl

-- a part of the first bytes of a list
part_of_first : (room : List ℕ) (held first count : ℕ) → first + count ≤ held
    → take count (drop first room) ≡ take count (drop first (take held room))
part_of_first room held first count within = ext_get_or 0 (take count (drop first room))
    (take count (drop first (take held room))) long each
  where
    long : length (take count (drop first room)) ≡ length (take count (drop first (take held room)))
    long = omega (
      arith,
      length-take count (drop first room),
      length-drop first room,
      length-take count (drop first (take held room)),
      length-drop first (take held room),
      length-take held room,
    )

    each : (i : ℕ) → i < length (take count (drop first room))
        → get_or (take count (drop first room)) i 0 ≡ get_or (take count (drop first (take held room))) i 0
    each i less =
        let short : i < count = omega (arith, length-take count (drop first room)) in
        get_or-take count (drop first room) i 0 short ∙ get_or-drop first room i 0
        ∙ sym (get_or-take held room (first + i) 0 (omega (arith, short, within)))
        ∙ sym (get_or-drop first (take held room) i 0)
        ∙ sym (get_or-take count (drop first (take held room)) i 0 short)

-- what is copied out of a buffer
pub part_held : (b : Bytes) (room got : List ℕ) (from held first count at : ℕ)
    → take held room ≡ window b from (length (take held room)) → held ≤ length room → first + count ≤ held
    → got ≡ take count (drop first room) → from + first ≡ at → got ≡ window b at count
part_held b room got from held first count at is some within copied place =
    let long : length (take held room) ≡ held = omega (arith, length-take held room) in
    copied ∙ part_of_first room held first count within
    ∙ ap (λ l. take count (drop first l)) is
    ∙ window_part b from (length (take held room)) first count (omega (arith, long, within))
    ∙ ap (λ k. window b k count) place

-- bytes beside those that change
pub beside_held : (b now : Bytes) (held : HeldBytes) (at count : ℕ)
    → ((p : ℕ) → (Inside at count p → ⊥) → now p ≡ b p)
    → ((p : ℕ) → Inside held.at (length held.bytes) p → Inside at count p → ⊥) → IsHeld b held → IsHeld now held
beside_held b now held at count others apart is =
    is ∙ sym (window-same b now held.at (length held.bytes) (λ p inside. others p (apart p inside)))
