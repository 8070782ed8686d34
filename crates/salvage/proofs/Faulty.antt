-- What is reported of a file is there in the contents.
use Rattle.std.proofs.Common.{◌≡◌, ◌⊎◌, inl, inr, ⊎_elim, ℕ, zero, suc, ◌<◌, ◌≤◌, Bool, true, false, List, []}
use Rattle.std.proofs.Common.{◌∷◌, Contains, slice_index, refl, ap, subst, arith}
use Rattle.std.specs.List.{AllByRecursion}
use Rattle.blockdisk.specs.Common.{Contents}
use Rattle.spec_image.specs.Common.{InSpace, times, SpecPrime, first_extension, prime_block}
use Rattle.alloctab.specs.Common.{digit, digit_at, flag_at}
use Rattle.retrieval.specs.Common.{with_length}
use Rattle.volume.specs.declared.error.VolumeError.TheVariants.{NotVolume, BadHome, BadLog, BadDirectory}
use Rattle.volume.specs.declared.error.VolumeError.TheVariants.{BadRetrieval, BlockTwice, TableWrong, Device}
use Rattle.volume.specs.declared.error.VolumeError.TheVariants.{NoMemory, Failed, BadData}
use Rattle.salvage.specs.Common.{AreApart, AreChains, AreFree, AreMarked, Concerns, CountTo, FitsDisk, IsAlone}
use Rattle.salvage.specs.Common.{IsChainBlock, IsDoubted, IsDoubtful, IsFinding, IsInPlace, IsItsOwn}
use Rattle.salvage.specs.Common.{IsNamedRead, IsPrimeAt, IsRead, IsSpoiled, IsUndamaged, blocks_of, claims, place_in}
use Rattle.salvage.specs.Common.{told_of, uses}
use Rattle.salvage.specs.Findings.{HasBlock, IsNamedTwice}
use Rattle.salvage.specs.declared.saved.SavedFile.{SavedFile}
use Rattle.salvage.specs.declared.finding.Defect.{Defect}
use Rattle.salvage.specs.declared.finding.Defect.TheVariants.{Start, FreeBlock, TwoOwners, Crowded, Missing, Surplus}
use Rattle.salvage.specs.declared.finding.Defect.TheVariants.{Tail}
use Rattle.salvage.proofs.Members.{contains_none}
use Rattle.spec_image.proofs.Common.{all_append, each_times}
use Rattle.directory.proofs.GatheredEntries.{all_of}

-- A block is in the files as often as in one of them, or more.
pub claims_each : (files : List SavedFile)
    → AllByRecursion (λ file. (n : ℕ) → times n (blocks_of file) ≤ claims files n) files
claims_each [] = tt
claims_each (x ∷ xs) = (
  λ n. omega arith,
  all_of (λ file. (n : ℕ) → times n (blocks_of file) ≤ claims xs n)
      (λ file. (n : ℕ) → times n (blocks_of file) ≤ claims (x ∷ xs) n) xs
      (λ file few n. let e = few n in omega arith) (claims_each xs),
)

digit_set : (marks : List Bool) (n : ℕ) → flag_at marks n ≡ true → digit_at marks n ≡ 1
digit_set marks n set = ap digit set

digit_clear : (marks : List Bool) (n : ℕ) → flag_at marks n ≡ false → digit_at marks n ≡ 0
digit_clear marks n clear = ap digit clear

set_or_clear : (flag : Bool) → (flag ≡ true) ⊎ (flag ≡ false)
set_or_clear true = inl refl
set_or_clear false = inr refl

-- Each block of a file that was read lies in the free space.
pub block_inside : (size layout : ℕ) (contents : Contents) (file : SavedFile) (n : ℕ)
    → IsNamedRead size layout contents file → 0 < times n (blocks_of file) → InSpace size n
block_inside size layout contents file n is among = each_times (InSpace size) (blocks_of file) n (
  is.inside,
  all_append (InSpace size) file.stored.version.ribs file.stored.version.blocks is.read.ribs_inside
      is.read.blocks_inside,
) among

-- The prime block of a file that was read says which place is its own.
pub says_place : (size layout : ℕ) (contents : Contents) (file : SavedFile) → IsRead size layout contents file
    → IsPrimeAt layout contents file.at (place_in file)
says_place size layout contents file read =
    let a = read.retrieved in
    let p : SpecPrime = with_length file.stored.prime file.stored.version.words in
    record {
      words = prime_block p a.runs (first_extension a.further);
      words_are = a.prime_is;
      p = p;
      runs = a.runs;
      next = first_extension a.further;
      spells = record {
        words_are = refl;
        ppn_fits = read.ppn_fits;
        ext_fits = read.ext_fits;
        fits = a.fits;
        few = a.few;
        are_runs = a.are_runs;
      };
      place_is = refl;
    }

-- Files that directories name, with the marks of chains and of free blocks, and how often each block was counted.
module _ (size layout : ℕ) (contents : Contents) (counts : List ℕ) (named : List SavedFile)
    (master directories free : List Bool)
    (counted : CountTo counts (uses named master directories free))
    (read : AllByRecursion (IsNamedRead size layout contents) named) (apart : AreApart named)
    (marked : AreMarked size layout contents named master directories)
    (is_free : AreFree size contents free) where
  -- what is known of each of them
  abbrev pub IsOne : SavedFile → Type 0
  IsOne file = Contains named file × IsNamedRead size layout contents file
      × ((n : ℕ) → times n (blocks_of file) ≤ claims named n)

  -- where there is a file, the marks are those of the chains
  chains : (file : SavedFile) → Contains named file → AreChains size layout contents master directories
  chains file among = ⊎_elim
      (λ (none : named ≡ []). absurd (contains_none file (subst (λ (l : List SavedFile). Contains l file) none among)))
      (λ are. are) marked

  own_block : (file : SavedFile) (n : ℕ) → IsOne file → IsAlone counts file → 0 < times n (blocks_of file)
      → IsItsOwn size layout contents named n
  own_block file n is alone among =
      let one = alone n among in
      let e = counted n in
      let few = is.2 n in
      record {
        once = omega arith;
        no_chain = λ chain. ⊎_elim
            (λ set. let d = digit_set master n set in omega arith)
            (λ set. let d = digit_set directories n set in omega arith) ((chains file is.0 n).0 chain);
        used = λ clear.
            let below = (block_inside size layout contents file n is.1 among).below in
            let d = digit_set free n ((is_free n below).1 clear) in
            omega arith;
      }

  pub in_place : (file : SavedFile) → IsOne file → IsUndamaged contents file → IsAlone counts file
      → IsInPlace size layout contents named file
  in_place file is undamaged alone = record {
    among = is.0;
    named = is.1;
    whole = record { read = is.1.read; undamaged = undamaged };
    own = λ n among. own_block file n is alone among;
  }

  has_block : (file : SavedFile) (n : ℕ) → IsOne file → 0 < times n (blocks_of file)
      → HasBlock layout contents (place_in file) file.at n
  has_block file n is among = record {
    p = with_length file.stored.prime file.stored.version.words;
    extensions = file.stored.version.ribs;
    blocks = file.stored.version.blocks;
    place_is = refl;
    retrieved = is.1.read.retrieved;
    among = among;
  }

  -- a block that isn't free and that isn't counted once is in two files or in a chain
  twice : (file : SavedFile) (n : ℕ) → IsOne file → 0 < times n (blocks_of file)
      → (slice_index counts n ≡ 1 → ⊥) → flag_at free n ≡ false
      → IsNamedTwice size layout contents n ⊎ IsChainBlock size layout contents n
  twice file n is among shared used = ⊎_elim (λ set. inr ((chains file is.0 n).1 (inl set)))
      (λ clear. ⊎_elim (λ set. inr ((chains file is.0 n).1 (inr set)))
      (λ clear'. inl (record {
        files = named;
        named = read;
        apart = apart;
        twice = let a = digit_clear master n clear in let b = digit_clear directories n clear' in
            let c = digit_clear free n used in many (claims named n) refl a b c;
      })) (set_or_clear (flag_at directories n))) (set_or_clear (flag_at master n))
    where
      many : (k : ℕ) → claims named n ≡ k → digit_at master n ≡ 0 → digit_at directories n ≡ 0 → digit_at free n ≡ 0
          → 2 ≤ claims named n
      many zero none a b c = absurd (let few = is.2 n in omega arith)
      many (suc zero) one a b c = absurd (shared (let e = counted n in omega arith))
      many (suc (suc k)) more a b c = omega arith

  doubt_concerns : (file : SavedFile) (fault : Defect) → IsOne file → IsDoubted counts free file fault
      → Concerns size layout contents (place_in file) file.at fault
  doubt_concerns file (Start (BlockTwice n)) is doubt =
      (has_block file n is doubt.0, twice file n is doubt.0 doubt.1 doubt.2)
  doubt_concerns file (FreeBlock n) is doubt = (
    has_block file n is doubt.0,
    (is_free n (block_inside size layout contents file n is.1 doubt.0).below).0 doubt.1,
  )
  doubt_concerns file (TwoOwners n) is doubt = absurd doubt
  doubt_concerns file (Crowded n) is doubt = absurd doubt
  doubt_concerns file (Missing n) is doubt = absurd doubt
  doubt_concerns file (Surplus n) is doubt = absurd doubt
  doubt_concerns file (Tail n) is doubt = absurd doubt
  doubt_concerns file (Start NotVolume) is doubt = absurd doubt
  doubt_concerns file (Start BadHome) is doubt = absurd doubt
  doubt_concerns file (Start BadLog) is doubt = absurd doubt
  doubt_concerns file (Start (BadDirectory n)) is doubt = absurd doubt
  doubt_concerns file (Start (BadRetrieval n)) is doubt = absurd doubt
  doubt_concerns file (Start (TableWrong n)) is doubt = absurd doubt
  doubt_concerns file (Start Device) is doubt = absurd doubt
  doubt_concerns file (Start NoMemory) is doubt = absurd doubt
  doubt_concerns file (Start Failed) is doubt = absurd doubt
  doubt_concerns file (Start (BadData n)) is doubt = absurd doubt

  spoiled_concerns : (file : SavedFile) (fault : Defect) → IsOne file → IsSpoiled contents file fault
      → Concerns size layout contents (place_in file) file.at fault
  spoiled_concerns file (Start (BadData n)) is spoiled = (
    each_times (InSpace size) file.stored.version.blocks n is.1.read.blocks_inside spoiled.0,
    record {
      p = with_length file.stored.prime file.stored.version.words;
      extensions = file.stored.version.ribs;
      blocks = file.stored.version.blocks;
      place_is = refl;
      retrieved = is.1.read.retrieved;
      inside = spoiled.0;
      damaged = spoiled.1;
    },
  )
  spoiled_concerns file (FreeBlock n) is spoiled = absurd spoiled
  spoiled_concerns file (TwoOwners n) is spoiled = absurd spoiled
  spoiled_concerns file (Crowded n) is spoiled = absurd spoiled
  spoiled_concerns file (Missing n) is spoiled = absurd spoiled
  spoiled_concerns file (Surplus n) is spoiled = absurd spoiled
  spoiled_concerns file (Tail n) is spoiled = absurd spoiled
  spoiled_concerns file (Start NotVolume) is spoiled = absurd spoiled
  spoiled_concerns file (Start BadHome) is spoiled = absurd spoiled
  spoiled_concerns file (Start BadLog) is spoiled = absurd spoiled
  spoiled_concerns file (Start (BadDirectory n)) is spoiled = absurd spoiled
  spoiled_concerns file (Start (BadRetrieval n)) is spoiled = absurd spoiled
  spoiled_concerns file (Start (BlockTwice n)) is spoiled = absurd spoiled
  spoiled_concerns file (Start (TableWrong n)) is spoiled = absurd spoiled
  spoiled_concerns file (Start Device) is spoiled = absurd spoiled
  spoiled_concerns file (Start NoMemory) is spoiled = absurd spoiled
  spoiled_concerns file (Start Failed) is spoiled = absurd spoiled

  pub doubt_stands : (file : SavedFile) (fault : Defect) → IsOne file
      → IsDoubtful contents counts free true file fault
      → IsFinding size layout contents (told_of true file fault)
  doubt_stands file fault is doubt = record {
    prime = file.at;
    named = is.1.named;
    concerns = doubt_concerns file fault is doubt.1;
  }

  pub spoiled_stands : (file : SavedFile) (fault : Defect) → IsOne file → IsSpoiled contents file fault
      → IsFinding size layout contents (told_of true file fault)
  spoiled_stands file fault is spoiled = record {
    prime = file.at;
    named = is.1.named;
    concerns = spoiled_concerns file fault is spoiled;
  }

-- One that no directory names.
pub unnamed_stands : (size layout : ℕ) (contents : Contents) (file : SavedFile) (fault : Defect)
    → IsRead size layout contents file × FitsDisk size file → IsSpoiled contents file fault
    → IsFinding size layout contents (told_of false file fault)
unnamed_stands size layout contents file fault is spoiled = by fault spoiled
  where
    by : (e : Defect) → IsSpoiled contents file e → IsFinding size layout contents (told_of false file e)
    by (Start (BadData n)) met = record {
      inside = is.1.at_inside;
      says = says_place size layout contents file is.0;
      concerns = record { file = file; at_is = refl; read = is.0; among = met.0; damaged = met.1 };
    }
    by (FreeBlock n) met = absurd met
    by (TwoOwners n) met = absurd met
    by (Crowded n) met = absurd met
    by (Missing n) met = absurd met
    by (Surplus n) met = absurd met
    by (Tail n) met = absurd met
    by (Start NotVolume) met = absurd met
    by (Start BadHome) met = absurd met
    by (Start BadLog) met = absurd met
    by (Start (BadDirectory n)) met = absurd met
    by (Start (BadRetrieval n)) met = absurd met
    by (Start (BlockTwice n)) met = absurd met
    by (Start (TableWrong n)) met = absurd met
    by (Start Device) met = absurd met
    by (Start NoMemory) met = absurd met
    by (Start Failed) met = absurd met
