-- A file's version is removed, or stays for its readers alone: the prime blocks of the others are held as little as
-- before.
use Rattle.std.proofs.Common.{◌≡◌, ⊎_elim, ℕ, ◌+◌, true, Some, sym, ap, ◌∙◌, arith}
use Rattle.std.proofs.lemmas.Bool.{cases_eq}
use Rattle.alloctab.specs.Common.{holds}
use Rattle.volume.specs.Common.{MemoryMap, slot, pinned_reaches, IsWholeMemory, live_left}
use Rattle.volume.specs.declared.live.LiveVersion.{LiveVersion}
use Rattle.volume.proofs.common.OnePlace.{first_elsewhere}
use Rattle.volume.proofs.PublishVersion.Memory.{not_left}
use Rattle.volume.proofs.PublishVersion.Slots.{counts}

pub retired_primes : (size : ℕ) (c c' : MemoryMap) (key : ℕ) (v : LiveVersion) → IsWholeMemory size c
    → slot c.live key ≡ Some v → v.is_current ≡ true → slot c'.live key ≡ live_left (Some (key, v))
    → ((k : ℕ) → (k ≡ key → ⊥) → slot c'.live k ≡ slot c.live k)
    → ((n : ℕ) → holds c'.known.table n ≡ holds c.known.table n + pinned_reaches n (live_left (Some (key, v))))
    → (k : ℕ) (u : LiveVersion) → slot c'.live k ≡ Some u → u.is_current ≡ true → holds c'.known.table u.at ≡ 0
retired_primes size c c' key v whole there current ended others held k u at of_file = ⊎_elim
    (λ (same : k ≡ key). absurd (not_left v u (sym ended ∙ ap (slot c'.live) (sym same) ∙ at) of_file))
    (λ other.
    let was = sym (others k other) ∙ at in
    let none = whole.primes k u was of_file in
    let sum = held u.at in
    let part = (counts c.live c'.live (Some (key, v)) u.at (there, current, ended)).held in
    let away = first_elsewhere size c whole k u was of_file key v there current other in
    omega arith) (cases_eq k key)
