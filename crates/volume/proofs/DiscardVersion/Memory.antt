-- A version that is dropped: what is freed and unbooked, and that memory stays whole.
use Rattle.std.proofs.Common.{◌≡◌, ℕ, ◌+◌, ◌<◌, ◌≤◌, ◌^◌, Bool, true, false, List, length, slice_get, slice_index}
use Rattle.std.proofs.Common.{Option, Some, None, IfSome, refl, sym, ap, subst, ◌∙◌, arith, if◌then◌else◌, ⊎_elim}
use Rattle.std.proofs.lemmas.Bool.{cases_eq}
use Rattle.std.specs.Ordering.{nat_cmp}
use Rattle.std.specs.FinMap.Entries.{find}
use Rattle.spec_image.specs.Common.{cost_of_blocks, total, times, growth}
use Rattle.spec_image.proofs.Common.{some_none}
use Rattle.alloctab.specs.Common.{holds}
use Rattle.slab.specs.Slab.{Slab, get, Updates}
use Rattle.volume.specs.declared.pending.PendingVersion.{PendingVersion}
use Rattle.volume.specs.Common.{CurrentDirectory, MemoryMap, pending_at, pending_cost, pending_reaches, is_creation}
use Rattle.volume.specs.Common.{creates, growths, IsWholePending, IsWholeMemory, IsDirectoryOf}
use Rattle.volume.proofs.common.Apart.{apart_same}
use Rattle.volume.proofs.common.Growths.{Adds, added_total, added_growths, kept_growths, created_once, entries_few}
use Rattle.volume.proofs.PinVersion.Pins.{all_updated}
use Rattle.volume.proofs.common.StillMatches.{counting, counts_whole}

-- the version that was taken out
pub taken_out : (old new : Slab PendingVersion) (key : ℕ) (p : PendingVersion) → Updates old new key None
    → get old key ≡ Some p → Adds new.slots old.slots key p
taken_out old new key p updates is = record {
  vacant = updates.changed;
  here = is;
  others = λ k other. sym (updates.others k other);
}

module _ (size : ℕ) (c : MemoryMap) (whole : IsWholeMemory size c) (less : List (Option PendingVersion))
    (key : ℕ) (p : PendingVersion) (adds : Adds less c.pending key p) where
  -- its directory is there
  pub dropped_there : is_creation p ≡ true → find nat_cmp p.prime.ppn c.known.master.entries ≡ None → ⊥
  dropped_there new none =
      let one = created_once less c.pending key p adds new in
      let all = whole.housed p.prime.ppn none in
      absurd (omega arith)

  pub dropped_few : (i : ℕ) (d : CurrentDirectory) → slice_get c.known.directories i ≡ Some d
      → length d.chain.entries + total (creates p.prime.ppn) less < 2 ^ 63
  dropped_few i d at =
      let few = entries_few size c p.prime.ppn i d whole at in
      let more = added_total less c.pending key p adds (creates p.prime.ppn) refl in
      omega arith

  -- its blocks are held
  pub dropped_held : (n : ℕ) → times n p.version.blocks ≤ holds c.known.table n
  dropped_held n =
      let more = added_total less c.pending key p adds (pending_reaches n) refl in
      let all = whole.held n in
      omega arith

  -- what its directory costs less
  pub dropped_growths : (share : ℕ) → (is_creation p ≡ false → share ≡ 0)
      → (is_creation p ≡ true → (d : CurrentDirectory) × IsDirectoryOf c p.prime.ppn d
      × (share ≡ growth (length d.chain.entries + total (creates p.prime.ppn) less)))
      → growths c.pending c.known.master.entries c.known.directories
      ≡ growths less c.known.master.entries c.known.directories + share
  dropped_growths share none some = by (is_creation p) refl
    where
      by : (b : Bool) → is_creation p ≡ b → growths c.pending c.known.master.entries c.known.directories
          ≡ growths less c.known.master.entries c.known.directories + share
      by false old =
          let same = kept_growths less c.pending key p adds old c.known.master.entries c.known.directories in
          let no_share = none old in
          omega arith
      by true new =
          let of = some new in
          let grown = added_growths less c.pending key p adds c.known.master.entries c.known.directories
          of.1.0 of.1.1 of.0 whole.map.chain.each_once of.1.2.is of.1.3 in
          let here = ap (λ (b : Bool). if b then growth (length of.0.chain.entries + total (creates p.prime.ppn) less)
          else 0) new in
          let is = of.2 in
          omega arith

  module _ (share : ℕ) (shrinks : growths c.pending c.known.master.entries c.known.directories
      ≡ growths less c.known.master.entries c.known.directories + share) where
    pub dropped_booked : cost_of_blocks (length p.version.blocks) + share ≤ c.known.table.booked
    dropped_booked =
        let more = added_total less c.pending key p adds pending_cost refl in
        let all = whole.booked in
        omega arith

    -- what is written still was
    still_written : (k : ℕ) (q : PendingVersion) → pending_at less k ≡ Some q → pending_at c.pending k ≡ Some q
    still_written k q at = ⊎_elim
        (λ (same : k ≡ key). absurd (some_none (sym at ∙ ap (pending_at less) same ∙ adds.vacant)))
        (λ other. adds.others k other ∙ at) (cases_eq k key)

    pub dropped_whole : (held : List ℕ) (booked : ℕ)
        → ((n : ℕ) → slice_index held n + times n p.version.blocks ≡ holds c.known.table n)
        → booked + (cost_of_blocks (length p.version.blocks) + share) ≡ c.known.table.booked
        → IsWholeMemory size (record c { known = counting c.known held booked; pending = less })
    dropped_whole held booked fewer costs = record {
      map = counts_whole size c.known held booked whole.map;
      keyed = whole.keyed;
      standing = whole.standing;
      waiting = all_updated (λ o. IfSome o (IsWholePending size)) c.pending less key
          (λ k other. sym (adds.others k other)) tt whole.waiting
          (subst (λ o. IfSome o (IsWholePending size)) (sym adds.vacant) tt);
      current = whole.current;
      housed = λ ppn none. let more = added_total less c.pending key p adds (creates ppn) refl in
          let all = whole.housed ppn none in omega arith;
      held = λ n. let more = added_total less c.pending key p adds (pending_reaches n) refl in let was = whole.held n in
          omega (arith, fewer n);
      own = λ k q at.
          apart_same c (record c { known = counting c.known held booked; pending = less }) q
          (whole.own k q (still_written k q at)) refl (λ n is. is) (λ n there set. set) still_written;
      inside = λ n there. whole.inside n (omega (arith, fewer n));
      apart = λ n there. whole.apart n (omega (arith, fewer n));
      primes = λ k v there current. let none = whole.primes k v there current in omega (arith, fewer v.at);
      fits = let fits = whole.fits in omega arith;
      beyond = λ some.
          let more = added_total less c.pending key p adds pending_cost refl in
          let most = whole.beyond (omega arith) in
          omega arith;
      within = λ some.
          let more = added_total less c.pending key p adds pending_cost refl in
          let most = whole.within (omega arith) in
          omega arith;
      booked =
          let more = added_total less c.pending key p adds pending_cost refl in
          let was = whole.booked in
          omega arith;
    }
