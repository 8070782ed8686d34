-- DeleteDir: what it asks the volume for, and the versions that are being written.
use Rattle.std.proofs.Common.{◌≡◌, ◌<◌, ◌+◌, ℕ, Bool, true, false, if◌then◌else◌, List, [], ◌∷◌, length, Option, None}
use Rattle.std.proofs.Common.{Some, refl, sym, ap, subst, ◌∙◌, ⊎_elim, ◌⊎◌, inl, inr, arith}
use Rattle.std.specs.Prelude.{◌==◌, is_none, Result, is_err}
use Rattle.std.proofs.lemmas.Bool.{cases_Bool, eq-eqb}
use Rattle.std.specs.Cmp.{nat_cmp_total}
use Rattle.std.specs.FinMap.{nat_cmp-IsAntisymmetric}
use Rattle.std.specs.Ordering.{nat_cmp}
use Rattle.std.specs.FinMap.Entries.{find}
use Rattle.words36.specs.Common.{IsPpn}
use Rattle.blockdisk.specs.Common.{DiskState}
use Rattle.spec_image.specs.Common.{number_of, SpecFileEntry, File, Files, name_cmp, get, total}
use Rattle.spec_image.specs.declared.code.ErrorCode.{ErrorCode}
use Rattle.spec_image.specs.declared.code.ErrorCode.TheVariants.{NoDirectory, NotEmpty}
use Rattle.volume.specs.Common.{entries_with, IsDirectoryOf, is_absent, CurrentDirectory, MemoryMap, pending_at}
use Rattle.volume.specs.Common.{creates, is_creation, IsPlaced, protection_answer, HasEntries, IsSoundMemory, RestsAt}
use Rattle.volume.specs.declared.error.CallError.{CallError}
use Rattle.volume.specs.declared.pending.PendingVersion.{PendingVersion}
use Rattle.volume.proofs.common.Answers.{directory_none, rest_holds, all_at_place}
use Rattle.volume.proofs.common.Lookups.{first_place}
use Rattle.volume.proofs.PinVersion.Pins.{total_at}
use Rattle.monitor.specs.Common.{IsNowhere, IsThere, is_kept_from, IsKeptBy, ArePlaced}

-- No file has a directory that memory lacks, and none has one whose number is no PPN.
module _ (d : DiskState) (c : MemoryMap) (failed : Bool) (sound : IsSoundMemory d c failed) (alive : failed ≡ false)
    (owner : ℕ) where
  pub nowhere_known : find nat_cmp owner c.known.master.entries ≡ None → IsNowhere d owner
  nowhere_known none honest f rests = directory_none d c.known f (rest_holds d c failed sound honest alive f rests)
      owner none

  pub nowhere_numbered : (IsPpn owner → ⊥) → IsNowhere d owner
  nowhere_numbered none = nowhere_known (by (find nat_cmp owner c.known.master.entries) refl)
    where
      by : (was : Option (ℕ × ℕ)) → find nat_cmp owner c.known.master.entries ≡ was
          → find nat_cmp owner c.known.master.entries ≡ None
      by None is = is
      by (Some v) is =
          let at = first_place nat_cmp_total nat_cmp-IsAntisymmetric c.known.master.entries owner v is in
          absurd (none (all_at_place _ c.known.master.entries at.0 (owner, v)
          sound.whole.map.chain.are_entries at.1.is).ppn)

-- The volume found one.
pub there_by : (d : DiskState) (owner : ℕ) (failed : Bool) (answer : Result ℕ CallError) → failed ≡ false
    → (d.honest → failed ≡ false → (f : Files File) → RestsAt d f → answer ≡ protection_answer (get f owner))
    → is_err answer ≡ false → IsThere d owner
there_by d owner failed answer alive value found honest f rests none =
    let wrong = sym found ∙ ap is_err (value honest alive f rests ∙ ap protection_answer none) in
    cc wrong

-- What the volume refuses with.
pub kept_by : (d : DiskState) (c : MemoryMap) (ppn owner : ℕ) (code : ErrorCode)
    → (code ≡ NoDirectory) ⊎ (code ≡ NotEmpty) → (code ≡ NoDirectory → IsNowhere d owner)
    → (code ≡ NotEmpty → HasEntries c owner) → IsThere d owner → is_kept_from c ppn owner ≡ false
    → IsKeptBy d c ppn owner (number_of code)
kept_by d c ppn owner code (inl is) nowhere filled there own = inl (ap number_of is, nowhere is)
kept_by d c ppn owner code (inr is) nowhere filled there own = inr (inr (ap number_of is, there, own, filled is))

-- A version that is being written has an entry in its directory, or will have one.
module _ (c : MemoryMap) (key : ℕ) (p : PendingVersion) (at : pending_at c.pending key ≡ Some p)
    (placed : IsPlaced c p) where
  abbrev has : ℕ
  has = entries_with c placed.directory p.prime.ppn

  creates_one : is_creation p ≡ true → 0 < has
  creates_one new =
      let one : creates p.prime.ppn (Some p) ≡ 1 = (λ i. if new i then (if here i then 1 else 0) else 0) in
      let some = total_at (creates p.prime.ppn) refl c.pending key in
      let counted = ap (creates p.prime.ppn) at in
      omega (arith, one, some, counted)
    where
      here : (p.prime.ppn == p.prime.ppn) ≡ true
      here = eq-eqb p.prime.ppn p.prime.ppn refl

  named_there : is_absent p.prime.file placed.directory ≡ false → 0 < has
  named_there is = by placed.directory.chain.entries is
    where
      by : (es : List SpecFileEntry) → is_none (find name_cmp p.prime.file es) ≡ false
          → 0 < length es + total (creates p.prime.ppn) c.pending
      by [] none = let wrong = none in cc
      by (e ∷ es) some = omega arith

  some_entry : 0 < has
  some_entry = ⊎_elim creates_one (λ old. named_there (sym placed.is_new ∙ old)) (cases_Bool (is_creation p))

  -- so that its directory isn't empty
  pub is_filled : (owner : ℕ) → p.prime.ppn ≡ owner → HasEntries c owner
  is_filled owner same = subst (HasEntries c) same (placed.directory, placed.there, some_entry)

-- If an empty directory is deleted, each may still be published.
pub placed_removed : (c c' : MemoryMap) (owner : ℕ) → c'.pending ≡ c.pending
    → ((ppn : ℕ) (d : CurrentDirectory) → IsDirectoryOf c ppn d → (ppn ≡ owner → ⊥) → IsDirectoryOf c' ppn d)
    → (HasEntries c owner → ⊥) → ArePlaced c → ArePlaced c'
placed_removed c c' owner pending stays bare placed = record {
  each = λ key p at.
      let here = before key p at in
      let was = placed.each key p here in
      record {
        named = was.named;
        directory = was.directory;
        there = stays p.prime.ppn was.directory was.there (λ same. bare (is_filled c key p here was owner same));
        is_new = was.is_new;
      };
  single = λ k key p q at here. placed.single k key p q (before k p at) (before key q here);
}
  where
    before : (key : ℕ) (p : PendingVersion) → pending_at c'.pending key ≡ Some p → pending_at c.pending key ≡ Some p
    before key p at = ap (λ ps. pending_at ps key) (sym pending) ∙ at
