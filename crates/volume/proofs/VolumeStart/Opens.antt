-- A disk that is opened: what is handed on from its parts.
use Rattle.std.proofs.Common.{◌≡◌, inl, inr, ⊎_elim, ℕ, ◌+◌, ◌≤◌, Bool, false, List, length, replicate, Result, Err}
use Rattle.std.proofs.Common.{IfErr, ap, subst, ◌∙◌, arith}
use Rattle.std.proofs.lemmas.Bool.Decides.{nat_tests}
use Rattle.std.proofs.lemmas.List.{get_or_past}
use Rattle.std.specs.List.{AllByRecursion}
use Rattle.std.specs.Ordering.{nat_cmp}
use Rattle.blockdisk.specs.Common.{Contents, DiskState, Keeps, keeps_still}
use Rattle.changeset.specs.Common.{OnlyReads}
use Rattle.spec_image.specs.Common.{IsVolumeSize, space_start, table_blocks, fixed, InSpace, IsMasterEntryOf}
use Rattle.spec_image.specs.Common.{IsWrongTable}
use Rattle.alloctab.specs.Common.{digit, digit_at, IsBadTableBlock, TableState, bit, wanted_bit}
use Rattle.volume.specs.declared.error.VolumeError.{VolumeError}
use Rattle.volume.specs.declared.error.VolumeError.TheVariants.{NotVolume, BadHome, BadLog, BadDirectory}
use Rattle.volume.specs.declared.error.VolumeError.TheVariants.{BadRetrieval, BlockTwice, TableWrong, Device}
use Rattle.volume.specs.declared.error.VolumeError.TheVariants.{NoMemory, Failed, BadData}
use Rattle.directory.specs.Common.{IsChain}
use Rattle.volume.specs.Common.{CurrentMap, known_reaches, cost_of_known, IsWholeDirectory, IsWholeMap, IsBooked}
use Rattle.volume.specs.Common.{IsWrongFor, IsRightFor, SettledRefuses, IsTableRefusal}
use Rattle.volume.proofs.common.PassedErrors.{each_error}
use Rattle.volume.proofs.VolumeStart.FileFaults.{refusal}

pub reads_of : (s s' : DiskState) → Keeps s s' → OnlyReads s s'
reads_of s s' keeps = record { still = keeps_still s s' keeps; is_open = keeps.is_open }

none_past : (size : ℕ) (reached : List Bool) (k : ℕ) → IsVolumeSize size → length reached ≡ size → size ≤ k
    → wanted_bit size reached k ≡ 0
none_past size reached k volume long past =
    let large = volume.large in
    let small = volume.small in
    let outside : space_start size ≤ k = omega arith in
    let unreached : digit_at reached k ≡ 0 = ap digit (get_or_past reached k false (omega arith)) in
    let unfixed : fixed size k ≡ 0 = grind (arith, nat_tests) in
    omega arith

-- a table block that is no table's is wrong for any blocks reached
pub bad_block_wrong : (size : ℕ) (contents : Contents) (reached : List Bool) (n : ℕ) → IsVolumeSize size
    → length reached ≡ size → IsBadTableBlock size contents n → IsWrongFor size contents reached n
bad_block_wrong size contents reached n volume long bad = record {
  i = bad.i;
  in_table = bad.in_table;
  block = bad.block;
  wrong = ⊎_elim (λ d. inl d) (λ set.
      inr (
        set.0,
        set.2,
        λ is. let none = none_past size reached set.0 volume long set.1 in let one = set.3 in
            omega arith,
      )) bad.wrong;
}

pub table_refused : {T : Type 0} (size : ℕ) (contents now : Contents) (reached : List Bool)
    (result : Result T VolumeError) → now ≡ contents → IfErr result IsTableRefusal
    → ((n : ℕ) → result ≡ Err (TableWrong n) → IsWrongFor size now reached n)
    → ((n : ℕ) → IsWrongFor size contents reached n → IsWrongTable size contents n)
    → IfErr result (SettledRefuses size contents)
table_refused size contents now reached result same only wrong faulty = each_error
    (SettledRefuses size contents) result by_error
  where
    by_error : (e : VolumeError) → result ≡ Err e → SettledRefuses size contents e
    by_error NotVolume is = absurd (refusal IsTableRefusal result NotVolume is only)
    by_error BadHome is = absurd (refusal IsTableRefusal result BadHome is only)
    by_error BadLog is = refusal IsTableRefusal result BadLog is only
    by_error (BadDirectory n) is = absurd (refusal IsTableRefusal result (BadDirectory n) is only)
    by_error (BadRetrieval n) is = absurd (refusal IsTableRefusal result (BadRetrieval n) is only)
    by_error (BlockTwice n) is = absurd (refusal IsTableRefusal result (BlockTwice n) is only)
    by_error (TableWrong n) is = faulty n (subst (λ c. IsWrongFor size c reached n) same (wrong n is))
    by_error Device is = tt
    by_error NoMemory is = tt
    by_error Failed is = refusal IsTableRefusal result Failed is only
    by_error (BadData n) is = absurd (refusal IsTableRefusal result (BadData n) is only)

-- what is right of a table is so of one with the same bits
pub right_bits : (size : ℕ) (contents : Contents) (reached : List Bool) (t u : TableState) → u.bits ≡ t.bits
    → IsRightFor size contents reached t → IsRightFor size contents reached u
right_bits size contents reached t u same right = record {
  read = record {
    bits_are = λ n. ap (λ (bits : List Bool). digit_at bits n) same ∙ right.read.bits_are n;
    undamaged = right.read.undamaged;
  };
  right = λ n. ap (λ (bits : List Bool). digit_at bits n) same ∙ right.right n;
}

-- What was read is whole: its table has the bits that the reached blocks require.
pub read_whole : (size first then : ℕ) (k : CurrentMap) (t : TableState) (reached : List Bool) → first ≡ size
    → then ≡ size → IsVolumeSize size → IsChain nat_cmp (IsMasterEntryOf 2) k.master
    → AllByRecursion (InSpace first) k.master.blocks → length k.directories ≡ length k.master.entries
    → AllByRecursion (IsWholeDirectory first) k.directories
    → k.table ≡ record t { booked = cost_of_known k.master k.directories } → t.size ≡ then
    → t.changed ≡ replicate (table_blocks then) false
    → ((n : ℕ) → bit t n ≡ wanted_bit then reached n)
    → ((n : ℕ) → digit_at reached n ≡ known_reaches n k.master k.directories) → IsWholeMap size k
read_whole size first
    then k t reached same sizes volume chain inside aligned each table_is table_size unchanged wanted marked = record {
      volume = volume;
      size_is = ap (λ x. x.size) table_is ∙ table_size ∙ sizes;
      chain = chain;
      inside = subst (λ (n : ℕ). AllByRecursion (InSpace n) k.master.blocks) same inside;
      aligned = aligned;
      each = subst (λ (n : ℕ). AllByRecursion (IsWholeDirectory n) k.directories) same each;
      bits = λ n. ap (λ x. bit x n) table_is ∙ wanted n ∙ (λ i. fixed (sizes i) n + marked n i);
      unchanged = ap (λ x. x.changed) table_is ∙ unchanged ∙ ap (λ (n : ℕ). replicate (table_blocks n) false) sizes;
    }

-- Nothing of it is held yet.
pub read_booked : (size then : ℕ) (k : CurrentMap) (t : TableState) → then ≡ size
    → k.table ≡ record t { booked = cost_of_known k.master k.directories } → t.held ≡ replicate then 0 → IsBooked size k
read_booked size then k t sizes table_is unheld = record {
  unheld = ap (λ x. x.held) table_is ∙ unheld ∙ ap (λ (n : ℕ). replicate n 0) sizes;
  booked = ap (λ x. x.booked) table_is;
}
