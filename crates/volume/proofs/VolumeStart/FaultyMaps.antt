-- A disk whose reader stops has the fault that is named.
use Rattle.std.proofs.Common.{◌≡◌, inl, inr, ⊎_elim, ℕ, Bool, List, [], Some, sym, ap, subst, ◌∙◌, arith, nat_cmp}
use Rattle.std.specs.FinMap.Entries.{find}
use Rattle.std.specs.List.{AllByRecursion}
use Rattle.blockdisk.specs.Common.{Contents}
use Rattle.spec_image.specs.Common.{times, IsVolumeSize, IsHome, Node, SpecMasterEntry, master_words, numbers, items}
use Rattle.spec_image.specs.Common.{place_of, LeadsAlong, IsMasterWalk, IsDirectoryNamed, IsFileNamed, InSpace}
use Rattle.spec_image.specs.Common.{IsMasterEntryOf, IsBadRetrieval, IsDirectoryRead}
use Rattle.alloctab.specs.Common.{digit_at}
use Rattle.directory.specs.Common.{IsBadChain, IsTwiceInChain}
use Rattle.volume.specs.declared.error.VolumeError.{VolumeError}
use Rattle.volume.specs.declared.error.VolumeError.TheVariants.{NotVolume, BadHome, BadLog, BadDirectory}
use Rattle.volume.specs.declared.error.VolumeError.TheVariants.{BadRetrieval, BlockTwice, TableWrong, Device}
use Rattle.volume.specs.declared.error.VolumeError.TheVariants.{NoMemory, Failed, BadData}
use Rattle.volume.specs.Common.{home_in, IsOtherPlace, NamesInSpace, IsFaultOfDirectories, SettledRefuses}
use Rattle.volume.specs.Common.{IsBadFileOf, IsInChain}

-- A block of the master directory's chain is invalid.
pub master_fault : (size : ℕ) (contents : Contents) (layout first n : ℕ) → IsVolumeSize size
    → IsHome size contents (home_in layout first)
    → IsBadChain nat_cmp master_words (IsMasterEntryOf layout) (λ e. e.1.1) size contents first n
    → SettledRefuses size contents (BadDirectory n)
master_fault size contents layout first n volume home met = (
  met.inside,
  inl (record {
    layout = layout;
    before = met.before;
    walk = record { volume = volume; master = first; home = home; walk = met.walk };
    inside = met.inside;
    bad = met.bad;
  }),
)

-- A block of it was reached before.
pub master_twice : (size : ℕ) (contents : Contents) (reached : List Bool) (layout first n : ℕ)
    → IsVolumeSize size → IsHome size contents (home_in layout first)
    → ((k : ℕ) → digit_at reached k ≡ 0) → InSpace size n
    → IsTwiceInChain master_words contents reached first n
    → SettledRefuses size contents (BlockTwice n)
master_twice size contents reached layout first n volume home fresh inside met = (
  inside,
  record {
    m = record { nodes = met.before; last = n; directories = [] };
    read = record {
      layout = layout;
      walk = record { volume = volume; master = first; home = home; walk = met.walk };
      once = tt;
      directories = tt;
    };
    twice = let t = met.twice in let z = fresh n in omega arith;
  },
)

-- The master directory was read, and one that it names is at fault.
pub directories_fault : (size : ℕ) (contents : Contents) (layout first : ℕ) (nodes : List (Node SpecMasterEntry))
    (entries : List SpecMasterEntry) (marks : ℕ → ℕ) (error : VolumeError) → IsVolumeSize size
    → IsHome size contents (home_in layout first)
    → LeadsAlong master_words contents first nodes 0 → items nodes ≡ entries
    → ((n : ℕ) → marks n ≡ times n (numbers nodes))
    → NamesInSpace size error → IsFaultOfDirectories size layout contents marks entries error
    → SettledRefuses size contents error
directories_fault size contents layout first nodes entries marks error volume home walk all marked = by_error error
  where
    master_walk : IsMasterWalk size contents layout nodes 0
    master_walk = record { volume = volume; master = first; home = home; walk = walk }

    named : (ppn word at : ℕ) → find nat_cmp ppn entries ≡ Some (word, at)
        → IsDirectoryNamed size contents layout ppn word at
    named ppn word at is = record {
      nodes = nodes;
      last = 0;
      walk = master_walk;
      entry = ap (λ (es : List SpecMasterEntry). find nat_cmp ppn es) all ∙ is;
    }

    retrieval : (ppn word at n : ℕ) → find nat_cmp ppn entries ≡ Some (word, at)
        → IsInChain contents at (λ files. IsBadFileOf size layout contents ppn files n) → IsBadRetrieval size contents n
    retrieval ppn word at n is met =
        let bad = met.fault in
        let place = place_of ppn bad.name in
        let there : IsFileNamed size contents layout place bad.prime =
        record {
          nodes = met.nodes;
          last = met.last;
          walk = record { word = word; first = at; named = named ppn word at is; walk = met.walk };
          entry = bad.entry;
        } in
        ⊎_elim
        (λ v. IsBadRetrieval.of_version layout place bad.prime there v)
        (λ other. IsBadRetrieval.of_another_place layout place
        (subst (λ (p : ℕ). IsFileNamed size contents layout place p)
        (sym other.0) there) (subst (λ (p : ℕ). IsOtherPlace layout contents place p) (sym other.0) other.1)) bad.bad

    by_error : (er : VolumeError) → NamesInSpace size er → IsFaultOfDirectories size layout contents marks entries er
        → SettledRefuses size contents er
    by_error NotVolume inside met = absurd met
    by_error BadHome inside met = absurd met
    by_error BadLog inside met = met
    by_error (BadDirectory n) inside met =
        let bad = met.fault in (
          inside,
          inr (record {
            layout = layout;
            ppn = met.ppn;
            before = bad.before;
            walk = record {
              word = met.word;
              first = met.first;
              named = named met.ppn met.word met.first met.entry;
              walk = bad.walk;
            };
            inside = bad.inside;
            bad = bad.bad;
          }),
        )
    by_error (BadRetrieval n) inside met = (inside, retrieval met.ppn met.word met.first n met.entry met.fault)
    by_error (BlockTwice n) inside met = (
      inside,
      record {
        m = record { nodes = nodes; last = 0; directories = met.directories };
        read = record {
          layout = layout;
          walk = master_walk;
          once = met.once;
          directories = subst (λ (es : List SpecMasterEntry).
              AllByRecursion (IsDirectoryRead layout contents es) met.directories) (sym all) met.read;
        };
        twice = let t = met.twice in let m = marked n in omega arith;
      },
    )
    by_error (TableWrong n) inside met = absurd met
    by_error Device inside met = tt
    by_error NoMemory inside met = tt
    by_error Failed inside met = met
    by_error (BadData n) inside met =
        let in_chain = met.fault in
        let data_of = in_chain.fault in
        let bad = data_of.bad in (
          inside,
          record {
            layout = layout;
            place = place_of met.ppn data_of.name;
            p = bad.p;
            prime = data_of.prime;
            extensions = bad.extensions;
            blocks = bad.blocks;
            named = record {
              nodes = in_chain.nodes;
              last = in_chain.last;
              walk = record {
                word = met.word;
                first = met.first;
                named = named met.ppn met.word met.first met.entry;
                walk = in_chain.walk;
              };
              entry = data_of.entry;
            };
            place_is = bad.place_is;
            retrieved = bad.retrieved;
            inside = bad.inside;
            damaged = bad.damaged;
          },
        )
