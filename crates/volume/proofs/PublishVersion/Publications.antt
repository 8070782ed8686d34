-- A publication with its last words: from the words put to the version published.
use Rattle.std.proofs.Common.{◌≡◌, inl, ℕ, length, slice_get, Some, sym, ap, subst, ◌∙◌}
use Rattle.blockdisk.specs.Common.{Contents, DiskState, MayLeave, LeavesOnly, leaves_start, leaves_on, leaves_weaker}
use Rattle.changeset.specs.Common.{rest_settles}
use Rattle.spec_image.specs.Common.{blocks_of, File, Files, pack_of, SettledStandsOn, StandsOn, Pack}
use Rattle.directory.specs.Common.{Places}
use Rattle.retrieval.specs.Common.{VersionState, rib_count}
use Rattle.volume.specs.Common.{IsDirectoryOf, CurrentDirectory, CurrentMap, MemoryMap, pending_at, IsWholeMemory}
use Rattle.volume.specs.Common.{IsPlaced}
use Rattle.volume.specs.Common.{IsSupplied, RestsAt, StandsForOneOf}
use Rattle.volume.specs.declared.pending.PendingVersion.{PendingVersion}
use Rattle.volume.proofs.common.Packs.{pack_kept}
use Rattle.volume.proofs.PutWords.Memory.{waits}

-- If nothing was done, a crash leaves what stands for the files.
pub unchanged_leaves : (s : DiskState) (f g : Files File) → RestsAt s f
    → ((c : Contents) → s.left_since s.clock c → MayLeave s c) → LeavesOnly s s (StandsForOneOf (pack_of s) f g)
unchanged_leaves s f g rests only_now = leaves_start s (StandsForOneOf (pack_of s) f g) only_now
    (λ c left. inl (rest_settles s (λ d. SettledStandsOn (pack_of s) d f) rests c left))

-- Quiet writes leave the one.
pub quiet_leaves_either : (s s' : DiskState) (f g : Files File) → LeavesOnly s s' (λ c. StandsOn (pack_of s) c f)
    → LeavesOnly s s' (StandsForOneOf (pack_of s) f g)
quiet_leaves_either s s' f g leaves =
    leaves_weaker s s' (λ c. StandsOn (pack_of s) c f) (StandsForOneOf (pack_of s) f g) leaves
    (λ c is. inl is)

-- Quiet writes, and then a publication.
pub both_leave : (s mid s' : DiskState) (f g : Files File) → mid.size ≡ s.size → RestsAt mid f
    → LeavesOnly s mid (λ c. StandsOn (pack_of s) c f) → LeavesOnly mid s' (StandsForOneOf (pack_of mid) f g)
    → LeavesOnly s s' (StandsForOneOf (pack_of s) f g)
both_leave s mid s' f g size rests first second =
    let either = quiet_leaves_either s mid f g first in
    leaves_on s mid s' (StandsForOneOf (pack_of s) f g) (StandsForOneOf (pack_of mid) f g)
    either second (λ c. subst (λ (p : Pack). StandsForOneOf p f g c) (pack_kept s mid f g f size either rests))

-- The chains stay when words are put.
module _ (c c' : MemoryMap) (known : c'.known ≡ record c.known { table = c'.known.table }) where
  directory_on : (ppn : ℕ) (d : CurrentDirectory) → IsDirectoryOf c ppn d → IsDirectoryOf c' ppn d
  directory_on ppn d there = subst (λ (k : CurrentMap). IsDirectoryOf (record c' { known = k }) ppn d) (sym known) there

  directory_back : (ppn : ℕ) (d : CurrentDirectory) → IsDirectoryOf c' ppn d → IsDirectoryOf c ppn d
  directory_back ppn d there = subst (λ (k : CurrentMap). IsDirectoryOf (record c' { known = k }) ppn d) known there

  pub placed_on : (p : PendingVersion) (v : VersionState) → IsPlaced c p → IsPlaced c' (record p { version = v })
  placed_on p v placed = record {
    named = placed.named;
    directory = placed.directory;
    there = directory_on p.prime.ppn placed.directory placed.there;
    is_new = placed.is_new;
  }

  pub supplied_on : c'.keys ≡ c.keys → (p : PendingVersion) (v : VersionState) (room : Places)
      (keys : ℕ) → IsSupplied c p room keys → IsSupplied c' (record p { version = v }) room keys
  unfolding directory_back
  supplied_on same p v room keys supplied = record {
    fits = λ d there. supplied.fits d (directory_back p.prime.ppn d there);
    roomy = λ i w d ks stands at is absent.
        let there = directory_back p.prime.ppn d (i, w, stands, at) in
        supplied.roomy i w d ks there.2 there.3 (ap (λ l. slice_get l i) (sym same) ∙ is) absent;
  }

-- There are as many ribs as the version's blocks need.
pub ribs_on : (size : ℕ) (c : MemoryMap) (key : ℕ) (p : PendingVersion) (words blocks ribs : ℕ) → IsWholeMemory size c
    → pending_at c.pending key ≡ Some p → p.version.words ≡ words → blocks ≡ blocks_of words → ribs ≡ rib_count blocks
    → ribs ≡ rib_count (length p.version.blocks)
ribs_on size c key p words blocks ribs whole there long many is =
    let counted = (waits size c whole key p there).whole.counted in
    is ∙ ap rib_count (many ∙ sym (counted ∙ ap blocks_of long))
