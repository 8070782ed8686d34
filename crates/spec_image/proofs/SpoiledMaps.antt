-- V1 with one change: the files that it still stands for.
use Rattle.std.proofs.Common.{◌≡◌, ℕ, ◌+◌, ◌/◌, ◌<◌, ◌≤◌, ◌⊎◌, inl, inr, ⊎_elim, Bool, true, false, cond, [], ◌∷◌}
use Rattle.std.proofs.Common.{get_or, Some, None, refl, sym, ap, subst, ◌∙◌, arith, nat_cmp, ltb, ltb-true, lit<}
use Rattle.std.proofs.Common.{lit≤}
use Rattle.std.specs.Cmp.{nat_cmp_total}
use Rattle.std.specs.FinMap.{nat_cmp-IsAntisymmetric}
use Rattle.blockdisk.specs.Common.{Contents}
use Rattle.spec_image.specs.Maps.{insert, entries, empty}
use Rattle.spec_image.specs.Files.{name_cmp}
use Rattle.spec_image.specs.Log.{open_gate}
use Rattle.spec_image.specs.Table.{table_bit, bit_in, fixed}
use Rattle.spec_image.specs.Directories.{master_words, IsMasterEntry}
use Rattle.spec_image.specs.Retrieval.{prime_of}
use Rattle.spec_image.specs.Stands.{StoredFile, StoredDirectory, DiskMap, reaches, place_of, IsVersion, IsWhole}
use Rattle.spec_image.specs.Stands.{IsMasterDirectory, HasMap, Stands}
use Rattle.spec_image.specs.Vector.{v1, data_block, foo_txt, owner, v1_map, v1_files}
use Rattle.spec_image.specs.Spoiled.{v1_untouched_copy, v1_latest_minute, latest_hello, latest_files}
use Rattle.spec_image.specs.Spoiled.{nearly_open_gate, v1_closed_gate}
use Rattle.spec_image.proofs.MapLaws.{inserted, get-empty, some_none}
use Rattle.spec_image.proofs.Names.{name_total, name_exact}
use Rattle.spec_image.proofs.Chains.{directory_kept}
use Rattle.spec_image.proofs.DiskMaps.{directory_part, whole_kept, log_ignored}
use Rattle.spec_image.proofs.Vectors.{v1_has_map}
use Rattle.spec_image.proofs.SpoiledRows.{zero_block, zero_gate, gate_closed, elsewhere, in_space, home_stands}
use Rattle.spec_image.proofs.SpoiledRows.{master_nodes, file_nodes, foo_place, retrieved}

-- the bits, if the table's block stays
same_bits : (c d : Contents) → c 14 ≡ d 14 → (n : ℕ) → table_bit 64 c n ≡ table_bit 64 d n
same_bits c d is n = step (ltb n 4608) refl
  where
    step : (b : Bool) → ltb n 4608 ≡ b → cond b (bit_in (c (14 + n / 4608)) n) 0
        ≡ cond b (bit_in (d (14 + n / 4608)) n) 0
    step true e =
        let l = ltb-true n 4608 e in
        let first : n / 4608 ≡ 0 = omega arith in
        ap (λ k. bit_in (c (14 + k)) n) first ∙ ap (λ o. bit_in o n) is ∙ sym (ap (λ k. bit_in (d (14 + k)) n) first)
    step false e = refl

-- The first home copy is damaged.

copy_map : HasMap 64 v1_untouched_copy v1_map
copy_map = record {
  volume = v1_has_map.volume;
  mapped = record {
    home = inr (
      λ other copy. some_none (sym copy.words),
      record { words = refl; layout = inl refl; master_from = lit≤ tt; master_below = lit< tt },
    );
    master = directory_kept master_words IsMasterEntry v1 v1_untouched_copy v1_map.chain _ v1_has_map.mapped.master
        (λ n h. kept n (omega arith));
    directories = λ ppn d is. whole_kept 1 v1 v1_untouched_copy ppn d (v1_has_map.mapped.directories ppn d is)
        (λ n h. kept n (let q = directory_part v1_map ppn d is n in omega arith));
  };
  marked = record {
    undamaged = λ i h. let e : i ≡ 0 = omega arith in rw e refl;
    inside = v1_has_map.marked.inside;
    bits = λ n. same_bits v1_untouched_copy v1 refl n ∙ v1_has_map.marked.bits n;
  };
}
  where
    kept : (n : ℕ) → 0 < reaches n v1_map → v1_untouched_copy n ≡ v1 n
    kept n h = elsewhere 1 None v1 n (λ e. let k = (in_space n h).from in absurd (omega arith))

pub untouched_copy : Stands 64 v1_untouched_copy v1_files
unfolding empty insert entries
untouched_copy = (
  v1_untouched_copy,
  inl (gate_closed v1_untouched_copy zero_block refl zero_gate, λ n. refl),
  (v1_map, copy_map, refl),
)

-- The gate is open except for its last word.

nearly_open : nearly_open_gate ≡ open_gate → ⊥
nearly_open is = let last : get_or nearly_open_gate 127 0
    ≡ get_or open_gate 127 0 = ap (λ words. get_or words 127 0) is in absurd (omega arith)

gate_map : HasMap 64 v1_closed_gate v1_map
gate_map = log_ignored 64 v1 v1_closed_gate v1_map kept v1_has_map
  where
    kept : (n : ℕ) → (n ≡ 1) ⊎ (n ≡ 2) ⊎ (14 ≤ n) → v1_closed_gate n ≡ v1 n
    kept n h = elsewhere 3 (Some nearly_open_gate) v1 n (λ e. absurd (omega arith))

pub closed_gate : Stands 64 v1_closed_gate v1_files
unfolding empty insert entries
closed_gate = (
  v1_closed_gate,
  inl (gate_closed v1_closed_gate nearly_open_gate refl nearly_open, λ n. refl),
  (v1_map, gate_map, refl),
)

-- The file's time is 23:59.

abbrev latest_file : StoredFile
latest_file = record { file = latest_hello; prime = 17; extensions = []; blocks = 18 ∷ [] }

abbrev latest_directory : StoredDirectory
latest_directory = record { protection = 0o775; quota = 0; chain = 16 ∷ []; files = insert empty foo_txt latest_file }

abbrev latest_map : DiskMap
latest_map = record { layout = 1; chain = 15 ∷ []; directories = insert empty owner latest_directory }

latest_version : IsVersion 1 v1_latest_minute foo_place latest_file
latest_version = record {
  retrieved = retrieved v1_latest_minute (prime_of foo_place latest_hello) 18 refl
      (record { protection = lit< tt; mode = inl refl; time = lit≤ tt; date = lit< tt; few = lit≤ tt }) refl (lit< tt);
  body = record { each = data_block ∷ []; undamaged = (refl, tt); whole = (refl, tt); body_is = refl };
}

latest_whole : IsWhole 1 v1_latest_minute owner latest_directory
unfolding empty insert entries
latest_whole = record {
  protection = lit< tt;
  quota = lit< tt;
  chain = record {
    nodes = file_nodes;
    spelled = (refl, tt);
    filled = lit≤ tt;
    blocks_are = refl;
    are_entries = (record { name = lit< tt; name_fits = lit< tt; ext_fits = lit< tt }, tt);
    each_once = (refl, tt);
    map_is = refl;
  };
  files = λ name f is. ⊎_elim
      (λ new. subst (λ z. IsVersion 1 v1_latest_minute (place_of owner z) f) (sym new.0)
      (subst (IsVersion 1 v1_latest_minute foo_place) (sym new.1) latest_version))
      (λ old. let e = get-empty name_cmp StoredFile name in cc)
      (inserted name_total name_exact empty foo_txt latest_file name f is);
}

latest_master : IsMasterDirectory v1_latest_minute latest_map
unfolding empty insert entries
latest_master = record {
  nodes = master_nodes;
  spelled = (refl, tt);
  filled = lit≤ tt;
  blocks_are = refl;
  are_entries = (record { word = lit< tt; project = lit< tt; programmer = lit< tt }, tt);
  each_once = (refl, tt);
  map_is = refl;
}

latest_reaches : (n : ℕ) → reaches n latest_map ≡ reaches n v1_map
unfolding empty insert entries
latest_reaches n = refl

latest_has_map : HasMap 64 v1_latest_minute latest_map
latest_has_map = record {
  volume = v1_has_map.volume;
  mapped = record {
    home = home_stands v1_latest_minute refl;
    master = latest_master;
    directories = λ ppn d is. ⊎_elim
        (λ new. subst (λ z. IsWhole 1 v1_latest_minute z d) (sym new.0)
        (subst (IsWhole 1 v1_latest_minute owner) (sym new.1) latest_whole))
        (λ old. let e = get-empty nat_cmp StoredDirectory ppn in cc)
        (inserted nat_cmp_total nat_cmp-IsAntisymmetric empty owner latest_directory ppn d is);
  };
  marked = record {
    undamaged = λ i h. let e : i ≡ 0 = omega arith in rw e refl;
    inside = λ n h. latest_reaches n ∙ v1_has_map.marked.inside n h;
    bits = λ n. same_bits v1_latest_minute v1 refl n ∙ v1_has_map.marked.bits n
        ∙ ap (λ k. fixed 64 n + k) (sym (latest_reaches n));
  };
}

pub latest_minute : Stands 64 v1_latest_minute latest_files
unfolding empty insert entries
latest_minute = (
  v1_latest_minute,
  inl (gate_closed v1_latest_minute zero_block refl zero_gate, λ n. refl),
  (latest_map, latest_has_map, refl),
)
