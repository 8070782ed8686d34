-- The memory that a publication takes, in the directory that is meant.
use Rattle.std.proofs.Common.{◌≡◌, ℕ, List, map, length, slice_get, get_or, None, sym, ap, subst, ◌∙◌, arith}
use Rattle.std.proofs.lemmas.List.{length-map}
use Rattle.std.specs.Ordering.{nat_cmp}
use Rattle.std.specs.FinMap.Entries.{find}
use Rattle.spec_image.specs.Common.{name_cmp}
use Rattle.spec_image.proofs.Common.{some_same, some_none}
use Rattle.directory.specs.Common.{viewed, StandsAt, Places, IsReserve, IsSpareFor}
use Rattle.volume.specs.declared.live.LiveDirectory.{LiveDirectory}
use Rattle.volume.specs.declared.live.LiveMap.{LiveMap}
use Rattle.volume.specs.declared.pending.PendingVersion.{PendingVersion}
use Rattle.volume.specs.Common.{file_view, master_view, CurrentDirectory, MemoryMap, IsWholeMemory, memory_of}
use Rattle.volume.specs.Common.{live_directory, IsPlaced, IsSupplied}
use Rattle.volume.proofs.BeginVersion.Beginnings.{directory_at, same_directory}
use Rattle.volume.proofs.common.Growths.{one_place}
use Rattle.volume.proofs.common.Answers.{viewed_there}

-- the directory of a version that may be published is there
pub is_there : (c : MemoryMap) (p : PendingVersion) → IsPlaced c p
    → find nat_cmp p.prime.ppn c.known.master.entries ≡ None → ⊥
is_there c p placed none = some_none (sym placed.there.2.found ∙ none)

-- memory for the directory at the place of its entry
pub supplied : (size : ℕ) (m : LiveMap) (p : PendingVersion) (i : ℕ) (v : ℕ
    × ℕ) (x : LiveDirectory) (room : Places) (keys : ℕ) → IsWholeMemory size (memory_of m)
    → StandsAt nat_cmp (map master_view m.master.entries) p.prime.ppn v i → x ≡ get_or m.directories.items i x
    → IsReserve name_cmp (viewed file_view x.chain) p.prime.file room → IsSpareFor (length x.keys.items) keys
    → IsSupplied (memory_of m) p room keys
supplied size m p i v x room keys whole stands is fits roomy =
    let c = memory_of m in
    let at = directory_at size m p.prime.ppn i v x whole stands is in
    record {
      fits = λ d there.
          let same : d ≡ live_directory m.versions.slots x = same_directory size c p.prime.ppn i v d
          (live_directory m.versions.slots x) whole there stands.is at in
          subst (λ (e : CurrentDirectory). IsReserve name_cmp e.chain p.prime.file room) (sym same) fits;
      roomy = λ j w d ks stands' is_d is_ks none.
          let place = one_place c.known.master.entries i j p.prime.ppn v w whole.map.chain.each_once stands.is
          stands'.is in
          let within = stands.within in
          let aligned = whole.map.aligned in
          let many = length-map m.directories.items (live_directory m.versions.slots) in
          let here = viewed_there (λ (d : LiveDirectory). d.keys.items) m.directories.items i x x (omega arith) is in
          let same : x.keys.items ≡ ks = some_same (sym here ∙ ap (slice_get c.keys) place ∙ is_ks) in
          subst (λ (ns : List ℕ). IsSpareFor (length ns) keys) same roomy;
    }
