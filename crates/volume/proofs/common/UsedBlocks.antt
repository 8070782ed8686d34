-- The map of the disk stays over writes that no map sees, as those of gate and log.
use Rattle.std.proofs.Common.{◌≡◌, ℕ, zero, suc, ◌+◌, ◌<◌, ◌≤◌, ⊎_elim, List, [], ◌∷◌, length, Some, slice_get, refl}
use Rattle.std.proofs.Common.{◌∙◌, ap, arith}
use Rattle.std.proofs.lemmas.Bool.{cases_lt}
use Rattle.std.proofs.lemmas.Option.{slice_get_within}
use Rattle.std.specs.Cmp.{nat_cmp_total}
use Rattle.std.specs.FinMap.{nat_cmp-IsAntisymmetric}
use Rattle.blockdisk.specs.Common.{Contents}
use Rattle.changeset.specs.Common.{IsGateOrLog, Ignores}
use Rattle.spec_image.specs.Common.{times, table_start, space_start, master_words, file_words, DiskMap, HasMap}
use Rattle.spec_image.specs.Common.{reaches_in_directory, reaches, table_bit, InSpace}
use Rattle.spec_image.proofs.Common.{at-le-sum, none_below, log_ignored, bits_kept_off}
use Rattle.directory.specs.Common.{on_kept}
use Rattle.volume.specs.Common.{CurrentDirectory, CurrentMap, AgreesOnMap, MatchesMap, IsAligned}

-- what is reached lies in the free space
pub reached_in_space : (size : ℕ) (contents : Contents) (m : DiskMap) → HasMap size contents m → (n : ℕ)
    → 0 < reaches n m → InSpace size n
reached_in_space size contents m s n there = record {
  from = ⊎_elim (λ below. absurd (omega (arith, none_below size contents m s.marked n below))) (λ from. from)
      (cases_lt n (space_start size));
  below = ⊎_elim (λ below. below) (λ past. absurd (omega (arith, s.marked.inside n past))) (cases_lt n size);
}

pub element_at : {A : Type 0} (xs : List A) (i : ℕ) → i < length xs → (x : A) × (slice_get xs i ≡ Some x)
element_at [] i below = absurd (omega arith)
element_at (x ∷ xs) zero below = (x, refl)
element_at (x ∷ xs) (suc i) below = element_at xs i (omega arith)

-- a directory's chain is reached by the map, besides the master directory's
pub chain_reached : (k : CurrentMap) (m : DiskMap) → AgreesOnMap k m → IsAligned k → (i : ℕ) (d : CurrentDirectory)
    → slice_get k.directories i ≡ Some d → (n : ℕ) → times n m.chain + times n d.chain.blocks ≤ reaches n m
chain_reached k m known aligned i d is n =
    let within = slice_get_within k.directories i d is in
    let e = element_at k.master.entries i (omega (arith, within, aligned)) in
    let found = known.each i e.0 d e.1 is in
    let part = at-le-sum nat_cmp_total nat_cmp-IsAntisymmetric (reaches_in_directory n) m.directories e.0.0
    found.0 found.1 in
    let same = ap (times n) found.2.chain in
    omega arith

pub master_reached : (k : CurrentMap) (m : DiskMap) → AgreesOnMap k m → (n : ℕ) → times n k.master.blocks ≤ reaches n m
master_reached k m known n = let same = ap (times n) known.chain in omega arith

-- If the map stays and its blocks do, memory still has the map of the disk.
pub held_kept : (size : ℕ) (k : CurrentMap) (m : DiskMap) (old new : Contents) → IsAligned k → MatchesMap size k m old
    → HasMap size new m → ((n : ℕ) → 0 < reaches n m → new n ≡ old n)
    → ((n : ℕ) → table_bit size new n ≡ table_bit size old n) → MatchesMap size k m new
held_kept size k m old new aligned h stands stays bits = record {
  known = h.known;
  stands = stands;
  master = on_kept master_words old new k.master h.master
      (λ n there. stays n (let most = master_reached k m h.known n in omega arith));
  chains = λ i d is. on_kept file_words old new d.chain (h.chains i d is)
      (λ n there. stays n (let most = chain_reached k m h.known aligned i d is n in omega arith));
  bits = λ n. bits n ∙ h.bits n;
}

-- Gate and log are not read.
pub ignores_log : (size : ℕ) (k : CurrentMap) (m : DiskMap) → IsAligned k
    → Ignores (IsGateOrLog size) (MatchesMap size k m)
ignores_log size k m aligned c d same h =
    held_kept size k m c d aligned h (log_ignored size c d m
    (λ n. ⊎_elim (λ one. same n (λ is. let low = is.0 in omega arith))
    (⊎_elim (λ two. same n (λ is. let low = is.0 in omega arith)) (high n))) h.stands)
    (λ n there. high n (let from = (reached_in_space size c m h.stands n there).from in omega arith))
    (λ n. bits_kept_off size c d n high)
  where
    high : (n : ℕ) → table_start size ≤ n → d n ≡ c n
    high n from = same n (λ is. let below = is.1 in omega arith)
