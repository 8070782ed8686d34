-- What a copy is after its log was read.
use Rattle.std.proofs.Common.{◌≡◌, ◌∙◌, ◌≤◌, length, refl, sym, subst, inr, Bool, false, true, List, ℕ}
use Rattle.blockdisk.specs.Common.{Contents, DiskState, Memory, held}
use Rattle.changeset.specs.Common.{ArePending, IsLost, IsRecovered}
use Rattle.spec_image.specs.declared.put.Put.{Put}
use Rattle.spec_image.specs.Common.{File, Files, SettledStandsOn, pack_in, with_puts, SettledStands, Stands}
use Rattle.spec_image.proofs.Common.{settled_same}
use Rattle.volume.proofs.VolumeStart.Starts.{stands_ignores_gate}
use Rattle.salvage.specs.Common.{AreCopies, IsCopyAt, held_to}
use Rattle.salvage.specs.Copies.{IsSettledCopy}
use Rattle.salvage.specs.Copies.IsSettledCopy.{settled, lost}
use Rattle.salvage.proofs.Agreement.{stands_agree}
use Rattle.salvage.proofs.CopySteps.{copies_of_all, copies_within, held_below}

-- what is recovered stands for what stood
recovered_stands : (size : ℕ) (before now : Contents) (files : Files File) → IsRecovered size before now
    → Stands size before files → SettledStands size now files
recovered_stands size before now files r stands =
    let layout = stands.2.0.layout in
    let pack = pack_in layout size in
    let there : SettledStandsOn pack r.settled
    files = subst (λ c. SettledStandsOn pack c files)
    (settled_same size before stands.0 r.settled stands.1 r.is_settled)
    (stands.2.0, stands.2.1, stands.2.2, refl) in
    let after = stands_ignores_gate pack files r.settled now r.others there in
    (after.0, after.1, after.2)

-- nothing is pending if nothing settles
pub none_pending : (size : ℕ) (c : Contents) (puts : List Put) → IsLost size c → ArePending size c puts → ⊥
none_pending size c puts bad p = bad (with_puts puts c) (inr (p.gate, puts, p.log, λ n. refl))

-- a copy at a size, by what became of its log
pub copy_recovered : (from : DiskState) (copied : Contents) (copy : Memory) (unread total size : ℕ) (is_lost : Bool)
    → AreCopies size (held_to from.size from.contents) copied unread → unread ≤ total → length copy.blocks ≡ size
    → is_lost ≡ false → IsRecovered size copied (held copy.blocks) → IsCopyAt from size copy total is_lost
copy_recovered from copied copy unread total size is_lost copies few long good recovered = record {
  size_is = long;
  copied = copied;
  copies = copies_within size (held_to from.size from.contents) copied unread total copies few;
  settled = subst (IsSettledCopy size copied (held copy.blocks)) (sym good) (settled recovered);
}

pub copy_lost : (from : DiskState) (copied : Contents) (copy : Memory) (unread total size : ℕ) (is_lost : Bool)
    → AreCopies size (held_to from.size from.contents) copied unread → unread ≤ total → length copy.blocks ≡ size
    → is_lost ≡ true → IsLost size copied → ((n : ℕ) → held copy.blocks n ≡ copied n)
    → IsCopyAt from size copy total is_lost
copy_lost from copied copy unread total size is_lost copies few long is bad kept = record {
  size_is = long;
  copied = copied;
  copies = copies_within size (held_to from.size from.contents) copied unread total copies few;
  settled = subst (IsSettledCopy size copied (held copy.blocks)) (sym is) (lost bad kept);
}

-- What stood on the disk stands on a copy of all of its blocks.
settled_stands : (size : ℕ) (copied now : Contents) (is_lost : Bool) (files : Files File)
    → IsSettledCopy size copied now is_lost → Stands size copied files
    → (is_lost ≡ false) × SettledStands size now files
settled_stands size copied now false files (settled r) stands = (refl, recovered_stands size copied now files r stands)
settled_stands size copied now true files (lost bad kept) stands = absurd (bad stands.0 stands.1)

pub copy_stands : (from : DiskState) (copy : Memory) (unread : ℕ) (is_lost : Bool)
    → IsCopyAt from from.size copy unread is_lost → unread ≡ 0 → (files : Files File)
    → Stands from.size from.contents files → (is_lost ≡ false) × SettledStands from.size (held copy.blocks) files
copy_stands from copy unread is_lost so none files stands =
    settled_stands from.size so.copied (held copy.blocks) is_lost files so.settled
    (stands_agree from.size from.contents so.copied (λ n below.
    copies_of_all from.size (held_to from.size from.contents) so.copied unread so.copies none n below
    ∙ held_below from.size from.contents n below)
    files stands)
