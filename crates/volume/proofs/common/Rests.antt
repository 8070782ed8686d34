-- What any event says of the disk, from what is known of it.
use Rattle.std.proofs.Common.{◌≡◌, ℕ, ◌⊎◌, inl, inr, ⊎_elim, Bool, true, false}
use Rattle.std.proofs.Common.{refl, sym, ◌∙◌, subst}
use Rattle.blockdisk.specs.Common.{DiskState, LeavesOnly, leaves_weaker}
use Rattle.spec_image.specs.Common.{File, Files, pack_in, pack_of, DiskMap, files_of}
use Rattle.spec_image.proofs.Common.{stands_same, settled_in_any}
use Rattle.changeset.specs.Common.{AtRest, SettlesTo}
use Rattle.volume.specs.Common.{CurrentMap, MatchesMap, MemoryMap, IsWholeMemory, AreDated, IsSoundMemory, RestsAt}
use Rattle.volume.specs.Common.{StandsForOneOf}
use Rattle.volume.proofs.common.Packs.{pack_held, rests_in}
use Rattle.volume.proofs.common.LiveBodies.{HaveBodies}

-- the files of the map are those that the disk stands for
pub files_are : (s : DiskState) (k : CurrentMap) (m : DiskMap) (f : Files File) → AtRest s (MatchesMap s.size k m)
    → RestsAt s f → files_of m ≡ f
files_are s k m f rest rests = stands_same s.size s.contents (files_of m) f
    (m, (rest.all s.contents (λ n closed. refl)).stands, refl)
    (settled_in_any (pack_of s) s.contents f (rests.all s.contents (λ n closed. refl)))

pub crash_for : (s s' : DiskState) (k k' : CurrentMap) (m m' : DiskMap) (f f' : Files File)
    → AtRest s (MatchesMap s.size k m) → files_of m ≡ f → files_of m' ≡ f' → m'.layout ≡ m.layout
    → LeavesOnly s s' (λ c. SettlesTo s.size (MatchesMap s.size k m) c ⊎ SettlesTo s.size (MatchesMap s.size k' m') c)
    → LeavesOnly s s' (StandsForOneOf (pack_of s) f f')
crash_for s s' k k' m m' f f' rest is is' layout leaves =
    leaves_weaker s s' (λ c. SettlesTo s.size (MatchesMap s.size k m) c ⊎ SettlesTo s.size (MatchesMap s.size k' m') c)
    (StandsForOneOf (pack_of s) f f') leaves
    (λ c. ⊎_elim (λ old. inl (old.0, old.1, (m, old.2.stands, is, pack_held s k m rest)))
    (λ new. inr (new.0, new.1, (m', new.2.stands, is', layout ∙ pack_held s k m rest))))

pub rest_for : (s s' : DiskState) (k' : CurrentMap) (m' : DiskMap) (f' : Files File) → s'.size ≡ s.size
    → files_of m' ≡ f'
    → AtRest s' (MatchesMap s.size k' m') → RestsAt s' f'
rest_for s s' k' m' f' size is rest = rests_in s' (pack_in m'.layout s'.size) f' refl (record {
  shut = rest.shut;
  all = λ c left. (m', (subst (λ (b : ℕ). MatchesMap b k' m' c) (sym size) (rest.all c left)).stands, is, refl);
})

pub sound_for : (s s' : DiskState) (c' : MemoryMap) (failed : Bool) → s'.size ≡ s.size → IsWholeMemory s.size c'
    → (s'.honest → failed ≡ false → HaveBodies s'.contents c')
    → (s'.honest → failed ≡ false → AreDated (pack_of s).layout c')
    → (s'.honest → failed ≡ false → (m' : DiskMap) × AtRest s' (MatchesMap s.size c'.known m')
    × (m'.layout ≡ (pack_of s).layout)) → IsSoundMemory s' c' failed
sound_for s s' c' failed size whole bodies dated rest = record {
  whole = subst (λ (b : ℕ). IsWholeMemory b c') (sym size) whole;
  read = λ h ok. (bodies h ok).read;
  written = λ h ok. (bodies h ok).written;
  dated = λ h ok. let r = rest h ok in
      subst (λ (l : ℕ). AreDated l c') (sym r.2 ∙ pack_held s' c'.known r.0 (sized r.0 r.1)) (dated h ok);
  rest = λ h ok. let r = rest h ok in record { map = r.0; rest = sized r.0 r.1 };
}
  where
    sized : (m' : DiskMap) → AtRest s' (MatchesMap s.size c'.known m') → AtRest s' (MatchesMap s'.size c'.known m')
    sized m' = subst (λ (b : ℕ). AtRest s' (MatchesMap b c'.known m')) (sym size)

-- a sound volume that has failed stays sound, whatever the disk does
pub sound_failed : (s s' : DiskState) (c' : MemoryMap) (failed : Bool) → s'.size ≡ s.size → IsWholeMemory s.size c'
    → failed ≡ true → IsSoundMemory s' c' failed
sound_failed s s' c' failed size whole gone = record {
  whole = subst (λ (b : ℕ). IsWholeMemory b c') (sym size) whole;
  rest = λ h ok. absurd (apart (sym gone ∙ ok));
  read = λ h ok. absurd (apart (sym gone ∙ ok));
  written = λ h ok. absurd (apart (sym gone ∙ ok));
  dated = λ h ok. absurd (apart (sym gone ∙ ok));
}
  where
    apart : true ≡ false → ⊥
    apart e = cc
