-- Both home copies are rewritten, for another layout.
use Rattle.std.proofs.Common.{◌≡◌, ℕ, ◌<◌, ◌≤◌, ◌+◌, ◌≢◌, inl, inr, ⊎_elim, Some, ◌∙◌, arith}
use Rattle.std.proofs.lemmas.Bool.{cases_lt}
use Rattle.blockdisk.specs.Common.{Contents}
use Rattle.spec_image.specs.Files.{Place}
use Rattle.spec_image.specs.Changes.{in_layout}
use Rattle.spec_image.specs.Blocks.{head_or_zero}
use Rattle.spec_image.specs.Home.{home_block, IsLayout, IsHome}
use Rattle.spec_image.specs.Regions.{table_start, space_start}
use Rattle.spec_image.specs.Retrieval.{date_limit}
use Rattle.spec_image.specs.Stands.{StoredFile, StoredDirectory, DiskMap, home_of, reaches, quota_limit, IsVersion}
use Rattle.spec_image.specs.Stands.{IsWhole, HasMap, place_of}
use Rattle.spec_image.specs.Directories.{master_words, IsMasterEntry}
use Rattle.spec_image.proofs.Chains.{directory_kept}
use Rattle.spec_image.proofs.DiskMaps.{none_below, whole_kept, directory_part, bits_kept_off}

module _ (layout to : ℕ) (dates : date_limit layout ≤ date_limit to)
    (quotas : quota_limit layout ≤ quota_limit to) where
  version_raised : (contents : Contents) (place : Place) (f : StoredFile) → IsVersion layout contents place f
      → IsVersion to contents place f
  version_raised contents place f is = record {
    retrieved = record {
      runs = is.retrieved.runs;
      further = is.retrieved.further;
      fits = record {
        protection = is.retrieved.fits.protection;
        mode = is.retrieved.fits.mode;
        time = is.retrieved.fits.time;
        date = let below = is.retrieved.fits.date in omega arith;
        few = is.retrieved.fits.few;
      };
      prime_is = is.retrieved.prime_is;
      few = is.retrieved.few;
      full = is.retrieved.full;
      extended = is.retrieved.extended;
      extensions_are = is.retrieved.extensions_are;
      nonzero = is.retrieved.nonzero;
      are_runs = is.retrieved.are_runs;
      blocks_are = is.retrieved.blocks_are;
      enough = is.retrieved.enough;
    };
    body = is.body;
  }

  whole_raised : (contents : Contents) (ppn : ℕ) (d : StoredDirectory) → IsWhole layout contents ppn d
      → IsWhole to contents ppn d
  whole_raised contents ppn d is = record {
    protection = is.protection;
    quota = let below = is.quota in omega arith;
    chain = is.chain;
    files = λ name f at. version_raised contents (place_of ppn name) f (is.files name f at);
  }

pub homes_raised : (size : ℕ) (old new : Contents) (m : DiskMap) (to : ℕ) → IsLayout to
    → date_limit m.layout ≤ date_limit to → quota_limit m.layout ≤ quota_limit to → HasMap size old m
    → new 1 ≡ Some (home_block size (home_of (in_layout m to)))
    → new 2 ≡ Some (home_block size (home_of (in_layout m to)))
    → ((n : ℕ) → n ≢ 1 → n ≢ 2 → new n ≡ old n) → HasMap size new (in_layout m to)
homes_raised size old new m to layout dates quotas s first second others = record {
  volume = s.volume;
  mapped = record {
    home = inl (record {
      words = first;
      layout = layout;
      master_from = from s.mapped.home;
      master_below = below s.mapped.home;
    });
    master = directory_kept master_words IsMasterEntry old new m.chain _ s.mapped.master
        (λ n there. reached n (omega arith));
    directories = λ ppn d at. whole_raised m.layout to dates quotas new ppn d
        (whole_kept m.layout old new ppn d (s.mapped.directories ppn d at)
        (λ n there. reached n (let part = directory_part m ppn d at n in omega arith)));
  };
  marked = record {
    undamaged = λ i few. let e = high (table_start size + i) (omega arith) in rw e (s.marked.undamaged i few);
    inside = s.marked.inside;
    bits = λ n. bits_kept_off size old new n (λ k start. high k (omega arith)) ∙ s.marked.bits n;
  };
}
  where
    high : (n : ℕ) → 2 < n → new n ≡ old n
    high n more = others n (λ e. omega arith) (λ e. omega arith)

    reached : (n : ℕ) → 0 < reaches n m → new n ≡ old n
    reached n there = high n (⊎_elim
        (λ below. absurd (let none = none_below size old m s.marked n below in omega arith))
        (λ from. omega arith) (cases_lt n (space_start size)))

    from : IsHome size old (home_of m) → space_start size ≤ head_or_zero m.chain
    from (inl copy) = copy.master_from
    from (inr copy) = copy.1.master_from

    below : IsHome size old (home_of m) → head_or_zero m.chain < size
    below (inl copy) = copy.master_below
    below (inr copy) = copy.1.master_below
