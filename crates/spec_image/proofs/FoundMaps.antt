-- What a reader has found makes a map of the disk.
use Rattle.std.proofs.Common.{◌≡◌, ℕ, ◌+◌, refl, sym, ap, subst, ◌∙◌, nat_cmp}
use Rattle.std.specs.Cmp.{nat_cmp_total}
use Rattle.std.specs.FinMap.{nat_cmp-IsAntisymmetric}
use Rattle.spec_image.specs.Maps.{from_entries, EachOnce, times, total}
use Rattle.spec_image.specs.Home.{IsHome}
use Rattle.spec_image.specs.Table.{fixed}
use Rattle.spec_image.specs.Directories.{numbers}
use Rattle.spec_image.specs.Stands.{StoredFile, reaches_in_file, reaches_in_directory, reaches, place_of, entry_of}
use Rattle.spec_image.specs.Stands.{IsVersion, IsWhole}
use Rattle.spec_image.specs.ReadFindings.{FoundDirectoryIsWhole, FoundDirectoryReaches, found_map, FoundMapIsMapped}
use Rattle.spec_image.specs.ReadFindings.{FoundMapReaches, FoundMapStands}
use Rattle.spec_image.proofs.MapLists.{mapped-from_entries, each_in_map, EachOnce-from_map}
use Rattle.spec_image.proofs.MapSums.{sum-from_entries}
use Rattle.spec_image.proofs.Names.{name_total, name_exact}
use Rattle.spec_image.proofs.Chains.{head-numbers}

pub directory_whole : FoundDirectoryIsWhole
directory_whole layout contents ppn protection quota nodes files small limit chain are versions = record {
  protection = small;
  quota = limit;
  chain = record {
    nodes = nodes;
    spelled = chain.spelled;
    filled = chain.filled;
    blocks_are = refl;
    are_entries = chain.are_entries;
    each_once = chain.each_once;
    map_is = ap from_entries (sym are)
        ∙ sym (mapped-from_entries name_total name_exact (λ (f : StoredFile). f.prime) files);
  };
  files = each_in_map name_total name_exact (λ name f. IsVersion layout contents (place_of ppn name) f) files versions;
}

pub directory_reaches : FoundDirectoryReaches
directory_reaches n protection quota nodes files u = ap (λ k. times n (numbers nodes) + k)
    (sum-from_entries name_total name_exact (reaches_in_file n) files u)

pub map_mapped : FoundMapIsMapped
map_mapped size layout contents nodes directories home chain are whole = record {
  home = subst (λ first. IsHome size contents (record { layout = layout; master = first }))
      (sym (head-numbers nodes)) home;
  master = record {
    nodes = nodes;
    spelled = chain.spelled;
    filled = chain.filled;
    blocks_are = refl;
    are_entries = chain.are_entries;
    each_once = chain.each_once;
    map_is = ap from_entries (sym are)
        ∙ sym (mapped-from_entries nat_cmp_total nat_cmp-IsAntisymmetric entry_of directories);
  };
  directories = each_in_map nat_cmp_total nat_cmp-IsAntisymmetric (λ ppn d. IsWhole layout contents ppn d)
      directories whole;
}

pub map_reaches : FoundMapReaches
map_reaches n layout nodes directories once = ap (λ k. times n (numbers nodes) + k)
    (sum-from_entries nat_cmp_total nat_cmp-IsAntisymmetric (reaches_in_directory n) directories once)

pub map_stands : FoundMapStands
map_stands size layout contents nodes directories volume home chain are whole table outside bits =
    let once = EachOnce-from_map nat_cmp entry_of directories (subst (EachOnce nat_cmp) (sym are) chain.each_once) in
    let reached : (n : ℕ) → reaches n (found_map layout nodes directories)
    ≡ times n (numbers nodes) + total (λ e. reaches_in_directory n e.1) directories =
    λ n. map_reaches n layout nodes directories once in
    record {
      volume = volume;
      mapped = map_mapped size layout contents nodes directories home chain are whole;
      marked = record {
        undamaged = table;
        inside = λ n h. reached n ∙ outside n h;
        bits = λ n. bits n ∙ ap (λ k. fixed size n + k) (sym (reached n));
      };
    }
