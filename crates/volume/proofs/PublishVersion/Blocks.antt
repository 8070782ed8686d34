-- A version becomes the file of its name: which blocks are written for it, and that those of versions in use stay.
use Rattle.std.proofs.Common.{◌≡◌, ℕ, zero, suc, ◌+◌, ◌<◌, ◌≤◌, false, List, [], ◌∷◌, ◌++◌, length, Some, slice_get}
use Rattle.std.proofs.Common.{refl, sym, ap, subst, ◌∙◌, arith}
use Rattle.std.specs.List.{AllByRecursion}
use Rattle.blockdisk.specs.Common.{DiskState}
use Rattle.spec_image.specs.declared.put.Put.{Put}
use Rattle.spec_image.specs.Common.{blocks_of, file_words, InSpace, total, times}
use Rattle.spec_image.proofs.Common.{some_same, some_none, times-append, each_times, all_left, all_right}
use Rattle.alloctab.specs.Common.{bit, IsFree}
use Rattle.changeset.specs.Common.{IsPutIn, times_head}
use Rattle.retrieval.specs.Common.{AreApart}
use Rattle.volume.specs.Common.{CurrentDirectory, MemoryMap, slot, IsWholePending, IsWholeMemory, before, MakesCurrent}
use Rattle.volume.specs.Common.{IsSoundMemory}
use Rattle.volume.specs.declared.live.LiveVersion.{LiveVersion}
use Rattle.volume.specs.declared.pending.PendingVersion.{PendingVersion}
use Rattle.volume.proofs.common.MapStays.{IsKept}
use Rattle.volume.proofs.common.MarkedBlocks.{all_weaker}
use Rattle.volume.proofs.common.ChainPuts.{PutsBoth, space_not_put}
use Rattle.volume.proofs.PublishVersion.Puts.{published_times, puts_both}
use Rattle.volume.proofs.PutWords.Memory.{waits}

-- The version that was put into memory, under its new key, is the one that was written.
pub record IsMadeCurrent (size : ℕ) (c c' : MemoryMap) (key : ℕ) (p : PendingVersion) (v : LiveVersion)
    (puts : List Put) : Type 0 where
  pub makes_current : MakesCurrent size c c' key p v.at v.version.ribs puts
  pub prime : v.prime ≡ p.prime
  pub words : v.version.words ≡ p.version.words
  pub blocks : v.version.blocks ≡ p.version.blocks

pub made_current_of : {s : DiskState} {c c' : MemoryMap} {key : ℕ} {p : PendingVersion} {v : LiveVersion}
    {puts : List Put} {current : ℕ} → IsSoundMemory s c false
    → (at : ℕ) × (ribs : List ℕ) × (makes_current : MakesCurrent c.known.table.size c c' key p at ribs puts)
    × (current ≡ makes_current.new_key) → Some v ≡ slot c'.live current → IsMadeCurrent s.size c c' key p v puts
made_current_of {s} {c} {c'} {key} {p} {v} {puts} sound made_current there =
    subst (λ (n : ℕ). IsMadeCurrent n c c' key p v puts) sound.whole.map.size_is
    (subst (λ (u : LiveVersion). IsMadeCurrent c.known.table.size c c' key p u puts)
    (sym (some_same (there ∙ ap (slot c'.live) made_current.3 ∙ made_current.2.here)))
    (record { makes_current = made_current.2; prime = refl; words = refl; blocks = refl }))

-- Lists.

-- one element counts in a sum
pub total_place : {A : Type 0} (f : A → ℕ) (xs : List A) (i : ℕ) (x : A) → slice_get xs i ≡ Some x → f x ≤ total f xs
total_place f [] i x is = absurd (some_none (sym is))
total_place f (y ∷ ys) zero x is = let same = ap f (some_same is) in omega arith
total_place f (y ∷ ys) (suc i) x is = let rest = total_place f ys i x is in omega arith

apart_once : (ns : List ℕ) → ((n : ℕ) → times n ns ≤ 1) → AreApart ns
apart_once [] once = tt
apart_once (n ∷ ns) once = (
  let head = times_head n n ns refl in let one = once n in omega arith,
  apart_once ns (λ k. let one = once k in omega arith),
)

-- The blocks of one that is published.

module _ {size : ℕ} {c c' : MemoryMap} {key : ℕ} {p : PendingVersion} {v : LiveVersion} {puts : List Put}
    (whole : IsWholeMemory size c) (made_current : IsMadeCurrent size c c' key p v puts) where
  abbrev is : MakesCurrent size c c' key p v.at v.version.ribs puts
  is = made_current.makes_current

  waiting : IsWholePending size p
  waiting = waits size c whole key p is.written

  inside : AllByRecursion (InSpace size) (v.at ∷ (v.version.ribs ++ p.version.blocks))
  inside = all_right (InSpace size) is.published.grown (v.at ∷ (v.version.ribs ++ p.version.blocks)) is.published.inside

  in_space : AllByRecursion (InSpace size) (v.at ∷ v.version.ribs)
  in_space = (inside.0, all_left (InSpace size) v.version.ribs p.version.blocks inside.1)

  -- each block that is taken for it was in no place
  taken : (n : ℕ) → bit c.known.table n + times n is.published.grown + times n (v.at ∷ v.version.ribs) ≤ 1
  taken n =
      let few = is.published.fresh n in
      let sum = times-append n is.published.grown (v.at ∷ v.version.ribs) in
      omega arith

  -- what the retrieval blocks are written with

  pub retrieval_inside : AllByRecursion (λ n. n < size) (v.at ∷ v.version.ribs)
  retrieval_inside = all_weaker (InSpace size) (λ n. n < size) (v.at ∷ v.version.ribs) (λ n there. there.below) in_space

  pub retrieval_apart : AreApart (v.at ∷ v.version.ribs)
  retrieval_apart = apart_once (v.at ∷ v.version.ribs) (λ n. let few = taken n in omega arith)

  pub retrieval_nonzero : times 0 v.version.ribs ≡ 0
  retrieval_nonzero = by (times 0 v.version.ribs) refl
    where
      by : (n : ℕ) → times 0 v.version.ribs ≡ n → n ≡ 0
      by zero none = refl
      by (suc n) some = absurd (let from = (each_times (InSpace size) v.version.ribs 0 in_space.1 (omega arith)).from in
          omega arith)

  pub version_words : v.version.words ≤ 2097152
  version_words = let few = waiting.whole.few in let same = made_current.words in omega arith

  pub version_enough : length v.version.blocks ≡ blocks_of v.version.words
  version_enough = ap (λ (l : List ℕ). length l) made_current.blocks ∙ waiting.whole.counted
      ∙ ap blocks_of (sym made_current.words)

  pub version_fits : AllByRecursion (λ n. n < 262144) v.version.blocks
  version_fits = subst (AllByRecursion (λ n. n < 262144)) (sym made_current.blocks)
      (all_weaker (InSpace size) (λ n. n < 262144) p.version.blocks (λ n there. let below = there.below in
      let large = whole.map.volume.large in omega arith) waiting.inside)

  -- which blocks are written

  pub retrieval_free : (n : ℕ) → 0 < times n (v.at ∷ v.version.ribs) → IsFree c.known.table n
  retrieval_free n there = record {
    clear = let few = taken n in omega arith;
    unheld = is.unheld n (let sum = times-append n is.published.grown (v.at ∷ v.version.ribs) in omega arith);
  }

  abbrev pub published_both : PutsBoth file_words size c.known.table c'.known.table is.published.directory.chain
      is.published.directory'.chain puts
  published_both = puts_both size c.known c'.known p.prime.ppn p.prime.file v.at _ (before is.old) puts whole.map
      is.published

  grown_free : (n : ℕ) → 0 < times n is.published.grown → IsFree c.known.table n
  grown_free n there = record {
    clear = let few = taken n in omega arith;
    unheld = is.unheld n (let sum = times-append n is.published.grown (v.at ∷ v.version.ribs) in omega arith);
  }

  kept_chain : (n : ℕ) → IsKept size c n → times n is.published.directory'.chain.blocks ≡ 0
  kept_chain n kept = by (times n is.published.grown) refl
    where
      by : (k : ℕ) → times n is.published.grown ≡ k → times n is.published.directory'.chain.blocks ≡ 0
      by zero none =
          let all = published_times size c.known c'.known p.prime.ppn p.prime.file v.at _
          (before is.old) puts whole.map is.published n in
          let part = total_place (λ (d : CurrentDirectory). times n d.chain.blocks) c.known.directories
          is.published.place
          is.published.directory is.published.directory_at in
          let apart = kept.apart in
          omega arith
      by (suc k) some = absurd (kept.used (grown_free n (omega arith)))

  -- a block of a version in use isn't put
  pub kept_put : (n : ℕ) → IsKept size c n → IsPutIn puts n → ⊥
  kept_put n kept = space_not_put published_both n kept.from (kept_chain n kept)
