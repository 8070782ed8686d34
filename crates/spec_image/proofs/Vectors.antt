-- The vector V1 stands for its one file; with its gate open and a good log it stands for what the log makes of it.
use Rattle.std.proofs.Common.{◌≡◌, ℕ, suc, zero, ◌+◌, ◌-◌, ◌/◌, ◌%◌, ◌^◌, ◌<◌, ◌≤◌, inl, inr, ⊎_elim, Bool, true}
use Rattle.std.proofs.Common.{false, cond, List, [], ◌∷◌, replicate, get_or, Some, refl, sym, ap, subst, ◌∙◌, arith}
use Rattle.std.proofs.Common.{nat_cmp, eqb, eqb-true, ltb, ltb-true, lit<, lit≤}
use Rattle.std.specs.Cmp.{nat_cmp_total}
use Rattle.std.specs.FinMap.{nat_cmp-IsAntisymmetric}
use Rattle.std.proofs.lemmas.Bool.Decides.{nat_tests, eqb_tells}
use Rattle.std.proofs.lemmas.Bool.{cases_lt}
use Rattle.std.proofs.Math.Nat.{zero-div}
use Rattle.words36.specs.declared.names.FileName.{FileName}
use Rattle.spec_image.specs.Maps.{get, insert, entries, empty, size, times}
use Rattle.spec_image.specs.Costs.{cost_of_files}
use Rattle.spec_image.specs.declared.put.Put.{Put}
use Rattle.spec_image.specs.Blocks.{head_or_zero}
use Rattle.spec_image.specs.Files.{name_cmp}
use Rattle.spec_image.specs.Table.{table_bit, bit_in, bit_of, fixed}
use Rattle.blockdisk.specs.Common.{Contents}
use Rattle.spec_image.specs.Log.{IsGateOpen, open_gate, IsLog, with_puts}
use Rattle.spec_image.specs.Stands.{StoredFile, StoredDirectory, reaches, place_of, IsVersion, IsWhole}
use Rattle.spec_image.specs.Stands.{IsMasterDirectory, HasMap, Stands}
use Rattle.spec_image.specs.Vector.{v1, table_words, data_block, foo_txt, owner, v1_file, v1_directory, v1_map}
use Rattle.spec_image.specs.Vector.{v1_files, v1_open, bare_master, bare_table, bare_map}
use Rattle.spec_image.proofs.MapLaws.{inserted, get-empty, some_same}
use Rattle.spec_image.proofs.Names.{name_total, name_exact}

no_file : (name : FileName) (f : StoredFile) → get (empty {X = StoredFile} {R = name_cmp}) name ≡ Some f → ⊥
no_file name f is = let e = get-empty name_cmp StoredFile name in cc

no_directory : (ppn : ℕ) (d : StoredDirectory) → get (empty {X = StoredDirectory} {R = nat_cmp}) ppn ≡ Some d → ⊥
no_directory ppn d is = let e = get-empty nat_cmp StoredDirectory ppn in cc

version : IsVersion 1 v1 (place_of owner foo_txt) v1_file
version = record {
  retrieved = record {
    runs = (1, 18) ∷ [];
    further = [];
    fits = record { protection = lit< tt; mode = inl refl; time = lit≤ tt; date = lit< tt; few = lit≤ tt };
    prime_is = refl;
    few = lit≤ tt;
    full = λ h. absurd (omega arith);
    extended = tt;
    extensions_are = refl;
    nonzero = refl;
    are_runs = ((lit< tt, lit< tt, lit< tt), tt);
    blocks_are = refl;
    enough = refl;
  };
  body = record { each = data_block ∷ []; undamaged = (refl, tt); whole = (refl, tt); body_is = refl };
}

whole : IsWhole 1 v1 owner v1_directory
unfolding empty insert entries
whole = record {
  protection = lit< tt;
  quota = lit< tt;
  chain = record {
    nodes = (16, (foo_txt, 17) ∷ []) ∷ [];
    spelled = (refl, tt);
    filled = lit≤ tt;
    blocks_are = refl;
    are_entries = (record { name = lit< tt; name_fits = lit< tt; ext_fits = lit< tt }, tt);
    each_once = (refl, tt);
    map_is = refl;
  };
  files = λ name f is. ⊎_elim
      (λ new. subst (λ z. IsVersion 1 v1 (place_of owner z) f) (sym new.0)
      (subst (IsVersion 1 v1 (place_of owner foo_txt)) (sym new.1) version))
      (λ old. absurd (no_file name f old.1))
      (inserted name_total name_exact empty foo_txt v1_file name f is);
}

master : IsMasterDirectory v1 v1_map
unfolding empty insert entries
master = record {
  nodes = (15, (owner, (0o775000000000, 16)) ∷ []) ∷ [];
  spelled = (refl, tt);
  filled = lit≤ tt;
  blocks_are = refl;
  are_entries = (record { word = lit< tt; project = lit< tt; programmer = lit< tt }, tt);
  each_once = (refl, tt);
  map_is = refl;
}

-- Bits.

abbrev all_below : ℕ → (ℕ → Bool) → Bool
all_below zero p = true
all_below (suc k) p = cond (p k) (all_below k p) false

below : (k : ℕ) (p : ℕ → Bool) → all_below k p ≡ true → (n : ℕ) → n < k → p n ≡ true
below zero p h n l = absurd (omega arith)
below (suc k) p h n l = step (p k) refl h (λ g m. below k p g n m)
  where
    step : (b : Bool) → p k ≡ b → cond b (all_below k p) false ≡ true → (all_below k p ≡ true → n < k → p n ≡ true)
        → p n ≡ true
    step true e g r = ⊎_elim (λ same. ap p same.1 ∙ e) (λ other. r g (let differ = other.1 in omega arith))
        (eqb_tells n k)
    step false e g r = cc

abbrev want : ℕ → ℕ
want n = cond (ltb n 15) 1 0 + (times n (15 ∷ []) + (times n (16 ∷ []) + (times n (17 ∷ 18 ∷ []) + 0) + 0))

reached : (n : ℕ) → fixed 64 n + reaches n v1_map ≡ want n
unfolding empty insert entries
reached n = refl

first_word : (n : ℕ) → n < 36 → table_bit 64 v1 n ≡ want n
first_word n h = eqb-true (table_bit 64 v1 n) (want n) (below 36 (λ m. eqb (table_bit 64 v1 m) (want m)) refl n h)

want_none : (n : ℕ) → 36 ≤ n → want n ≡ 0
want_none n h = grind (arith, nat_tests)

zeros : (k j : ℕ) → get_or {A = ℕ} (replicate k 0) j 0 ≡ 0
zeros zero j = refl
zeros (suc k) zero = refl
zeros (suc k) (suc j) = zeros k j

past_first : (w i : ℕ) → 0 < i → get_or {A = ℕ} (w ∷ replicate 127 0) i 0 ≡ 0
past_first w zero h = absurd (omega arith)
past_first w (suc i) h = zeros 127 i

no_bit : (words : List ℕ) (n : ℕ) → get_or words (n / 36 % 128) 0 ≡ 0 → bit_of words n ≡ 0
no_bit words n h = ap (λ w. (w / 2 ^ (35 - n % 36)) % 2) h ∙ ap (λ k. k % 2) (zero-div (2 ^ (35 - n % 36)))

clear_bit : (n : ℕ) → 36 ≤ n → n < 4608 → bit_in (v1 (14 + n / 4608)) n ≡ 0
clear_bit n h l =
    let e : n / 4608 ≡ 0 = omega arith in
    let i : 0 < n / 36 % 128 = omega arith in
    ap (λ k. bit_in (v1 (14 + k)) n) e ∙ no_bit table_words n (past_first 0o777777400000 (n / 36 % 128) i)

later_words : (n : ℕ) → 36 ≤ n → (c : Bool) → ltb n 4608 ≡ c → cond c (bit_in (v1 (14 + n / 4608)) n) 0 ≡ 0
later_words n h true e = clear_bit n h (ltb-true n 4608 e)
later_words n h false e = refl

bits : (n : ℕ) → table_bit 64 v1 n ≡ want n
bits n = ⊎_elim (first_word n) (λ h. later_words n h (ltb n 4608) refl ∙ sym (want_none n h)) (cases_lt n 36)

pub v1_has_map : HasMap 64 v1 v1_map
v1_has_map = record {
  volume = record { small = lit≤ tt; large = lit≤ tt };
  mapped = record {
    home = inl (record { words = refl; layout = inl refl; master_from = lit≤ tt; master_below = lit< tt });
    master = master;
    directories = λ ppn d is. ⊎_elim
        (λ new. subst (λ z. IsWhole 1 v1 z d) (sym new.0) (subst (IsWhole 1 v1 owner) (sym new.1) whole))
        (λ old. absurd (no_directory ppn d old.1))
        (inserted nat_cmp_total nat_cmp-IsAntisymmetric empty owner v1_directory ppn d is);
  };
  marked = record {
    undamaged = λ i h. let e : i ≡ 0 = omega arith in rw e refl;
    inside = λ n h. let w = want_none n (omega arith) in omega (arith, reached n);
    bits = λ n. bits n ∙ sym (reached n);
  };
}

abbrev v1_gate : List ℕ
v1_gate = replicate 128 0

v1_closed : IsGateOpen 64 v1 → ⊥
v1_closed is =
    let words : v1_gate ≡ open_gate = some_same is.gate in
    let first : head_or_zero v1_gate ≡ head_or_zero open_gate = ap head_or_zero words in
    absurd (omega arith)

pub v1_stands : Stands 64 v1 v1_files
unfolding empty insert entries
v1_stands = (v1, inl (v1_closed, λ n. refl), (v1_map, v1_has_map, refl))

-- The same with its gate open.

abbrev puts : List Put
puts = record { block = 15; words = bare_master } ∷ record { block = 14; words = bare_table } ∷ []

abbrev settled : Contents
settled n = with_puts puts v1_open n

log : IsLog 64 v1_open puts
log = record {
  header = refl;
  some = omega arith;
  few = lit≤ tt;
  distinct = λ n. grind (arith, nat_tests);
  in_range = (inr (inr (lit≤ tt, lit< tt)), (inr (inr (lit≤ tt, lit< tt)), tt));
  images = (refl, (refl, tt));
}

bare_reached : (n : ℕ) → fixed 64 n + reaches n bare_map ≡ cond (ltb n 16) 1 0
unfolding empty entries
bare_reached n = grind (arith, nat_tests)

bare_first : (n : ℕ) → n < 36 → table_bit 64 settled n ≡ cond (ltb n 16) 1 0
bare_first n h = eqb-true (table_bit 64 settled n) (cond (ltb n 16) 1 0)
    (below 36 (λ m. eqb (table_bit 64 settled m) (cond (ltb m 16) 1 0)) refl n h)

bare_later : (n : ℕ) → 36 ≤ n → (c : Bool) → ltb n 4608 ≡ c → cond c (bit_in (settled (14 + n / 4608)) n) 0 ≡ 0
bare_later n h true e =
    let l = ltb-true n 4608 e in
    let first : n / 4608 ≡ 0 = omega arith in
    let i : 0 < n / 36 % 128 = omega arith in
    ap (λ k. bit_in (settled (14 + k)) n) first ∙ no_bit bare_table n (past_first 0o777774000000 (n / 36 % 128) i)
bare_later n h false e = refl

bare_bits : (n : ℕ) → table_bit 64 settled n ≡ cond (ltb n 16) 1 0
bare_bits n = ⊎_elim (bare_first n) (λ h. bare_later n h (ltb n 4608) refl ∙ past n h) (cases_lt n 36)
  where
    past : (n : ℕ) → 36 ≤ n → 0 ≡ cond {A = ℕ} (ltb n 16) 1 0
    past n h = grind (arith, nat_tests)

bare_master_stands : IsMasterDirectory settled bare_map
unfolding empty entries
bare_master_stands = record {
  nodes = (15, []) ∷ [];
  spelled = (refl, tt);
  filled = lit≤ tt;
  blocks_are = refl;
  are_entries = tt;
  each_once = tt;
  map_is = refl;
}

bare_outside : (n : ℕ) → 64 ≤ n → reaches n bare_map ≡ 0
unfolding empty entries
bare_outside n h = grind (arith, nat_tests)

bare_has_map : HasMap 64 settled bare_map
bare_has_map = record {
  volume = record { small = lit≤ tt; large = lit≤ tt };
  mapped = record {
    home = inl (record { words = refl; layout = inl refl; master_from = lit≤ tt; master_below = lit< tt });
    master = bare_master_stands;
    directories = λ ppn d is. absurd (no_directory ppn d is);
  };
  marked = record {
    undamaged = λ i h. let e : i ≡ 0 = omega arith in rw e refl;
    inside = λ n h. bare_outside n h;
    bits = λ n. bare_bits n ∙ sym (bare_reached n);
  };
}

-- Settled, the log has taken the directory away.
pub v1_open_stands : Stands 64 v1_open empty
unfolding empty entries
v1_open_stands = (
  settled,
  inr (
    record { volume = record { small = lit≤ tt; large = lit≤ tt }; gate = refl },
    puts,
    log,
    λ n. refl,
  ),
  (bare_map, bare_has_map, refl),
)

-- The master directory, the directory, the file's block and its prime block.
pub v1_costs : cost_of_files v1_files ≡ 4
unfolding empty insert entries size
v1_costs = refl
