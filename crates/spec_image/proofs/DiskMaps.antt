-- Settled contents have at most one map; writes to free blocks leave it; what differs outside its blocks
-- leaves it too.
use Rattle.std.proofs.Common.{◌≡◌, ℕ, ◌+◌, ◌*◌, ◌/◌, ◌^◌, ◌<◌, ◌≤◌, inl, inr, ⊎_elim, Bool, true, false, cond, List}
use Rattle.std.proofs.Common.{Option, Some, None, refl, sym, ap, subst, ◌∙◌, arith, eqb, ltb, lt-ltb, ltb-true}
use Rattle.std.proofs.lemmas.Bool.{cases_lt}
use Rattle.std.specs.Cmp.{nat_cmp_total}
use Rattle.std.specs.FinMap.{nat_cmp-IsAntisymmetric}
use Rattle.words36.specs.declared.names.FileName.{FileName}
use Rattle.blockdisk.specs.Common.{Contents}
use Rattle.spec_image.specs.Maps.{get}
use Rattle.spec_image.specs.Files.{File, Files}
use Rattle.spec_image.specs.Regions.{table_blocks, table_start, space_start}
use Rattle.spec_image.specs.Home.{SpecHome, home_block, IsHomeCopy, IsHome}
use Rattle.spec_image.specs.Table.{bit_in, table_bit, fixed}
use Rattle.spec_image.specs.Directories.{SpecMasterEntry, SpecFileEntry, master_words, IsMasterEntry, file_words}
use Rattle.spec_image.specs.Directories.{IsFileEntry}
use Rattle.spec_image.specs.Stands.{StoredFile, StoredDirectory, DiskMap, files_of, reaches_in_file}
use Rattle.spec_image.specs.Stands.{reaches_in_directory, reaches, quota_limit, place_of, IsWhole, entry_of, IsMapped}
use Rattle.spec_image.specs.Stands.{IsMarked, HasMap, SettledStands}
use Rattle.spec_image.specs.Quiet.{DifferInFree, SameOutsideLog}
use Rattle.spec_image.proofs.Lists.{TellsApart}
use Rattle.spec_image.proofs.MapLaws.{some_same}
use Rattle.spec_image.proofs.Names.{name_total, name_exact}
use Rattle.spec_image.proofs.MapLists.{same_under}
use Rattle.spec_image.proofs.MapSums.{at-le-sum}
use Rattle.spec_image.proofs.Chains.{directory_kept, directory_same}
use Rattle.spec_image.proofs.Versions.{version_kept, version_same}

-- Entries.

pub master_apart : TellsApart master_words
master_apart = record { three = λ e. refl; same = entry }
  where
    entry : (e f : SpecMasterEntry) → master_words e ≡ master_words f → e ≡ f
    entry e f is =
        let a : e.0 ≡ f.0 = cc in
        let b : e.1.0 ≡ f.1.0 = cc in
        let c : e.1.1 ≡ f.1.1 = cc in
        λ i. (a i, (b i, c i))

pub file_apart : TellsApart file_words
file_apart = record { three = λ e. refl; same = entry }
  where
    entry : (e f : SpecFileEntry) → file_words e ≡ file_words f → e ≡ f
    entry e f is =
        let a : e.0.name ≡ f.0.name = cc in
        let b : e.0.ext * 2 ^ 18 + 0 ≡ f.0.ext * 2 ^ 18 + 0 = cc in
        let b' : e.0.ext ≡ f.0.ext = omega arith in
        let c : e.1 ≡ f.1 = cc in
        λ i. (record { name = a i; ext = b' i }, c i)

-- Bits.

one_bit : (c : Bool) (o : Option (List ℕ)) (n : ℕ) → cond c (bit_in o n) 0 ≤ 1
one_bit true None n = omega arith
one_bit true (Some words) n = omega arith
one_bit false o n = omega arith

pub bit-le-one : (size : ℕ) (contents : Contents) (n : ℕ) → table_bit size contents n ≤ 1
bit-le-one size contents n = one_bit _ _ n

pub fixed_below : (size n : ℕ) → n < space_start size → fixed size n ≡ 1
fixed_below size n h = ap (λ c. cond c 1 0) (lt-ltb n (space_start size) h)

pub once : (size : ℕ) (contents : Contents) (m : DiskMap) → IsMarked size contents m → (n : ℕ) → reaches n m ≤ 1
once size contents m is n = let e = is.bits n in omega (arith, bit-le-one size contents n)

pub none_below : (size : ℕ) (contents : Contents) (m : DiskMap) → IsMarked size contents m → (n : ℕ)
    → n < space_start size → reaches n m ≡ 0
none_below size contents m is n h = let e = is.bits n in omega (arith, bit-le-one size contents n, fixed_below size n h)

-- what a directory or a file reaches, its map reaches
pub directory_part : (m : DiskMap) (ppn : ℕ) (d : StoredDirectory) → get m.directories ppn ≡ Some d → (n : ℕ)
    → reaches_in_directory n d ≤ reaches n m
directory_part m ppn d is n = let a = at-le-sum nat_cmp_total nat_cmp-IsAntisymmetric
    (reaches_in_directory n) m.directories ppn d is in omega arith

pub file_part : (d : StoredDirectory) (name : FileName) (f : StoredFile) → get d.files name ≡ Some f → (n : ℕ)
    → reaches_in_file n f ≤ reaches_in_directory n d
file_part d name f is n = let a = at-le-sum name_total name_exact (reaches_in_file n) d.files name f is in omega arith

-- What keeps the parts unchanged.

copy_kept : (size : ℕ) (old new : Contents) (n : ℕ) (home : SpecHome) → new n ≡ old n → IsHomeCopy size old n home
    → IsHomeCopy size new n home
copy_kept size old new n home e h = record {
  words = e ∙ h.words;
  layout = h.layout;
  master_from = h.master_from;
  master_below = h.master_below;
}

pub home_kept : (size : ℕ) (old new : Contents) (home : SpecHome) → new 1 ≡ old 1 → new 2 ≡ old 2 → IsHome size old home
    → IsHome size new home
home_kept size old new home e f (inl h) = inl (copy_kept size old new 1 home e h)
home_kept size old new home e f (inr h) = inr (
  λ other is. h.0 other (copy_kept size new old 1 other (sym e) is),
  copy_kept size old new 2 home f h.1,
)

pub whole_kept : (layout : ℕ) (old new : Contents) (ppn : ℕ) (d : StoredDirectory) → IsWhole layout old ppn d
    → ((n : ℕ) → 0 < reaches_in_directory n d → new n ≡ old n) → IsWhole layout new ppn d
whole_kept layout old new ppn d w a = record {
  protection = w.protection;
  quota = w.quota;
  chain = directory_kept file_words IsFileEntry old new d.chain _ w.chain (λ n h. a n (omega arith));
  files = λ name f is. version_kept layout old new (place_of ppn name) f (w.files name f is)
      (λ n h. a n (let q = file_part d name f is n in omega arith));
}

-- A map stays if the home copies and its own blocks do.
pub mapped_kept : (size : ℕ) (old new : Contents) (m : DiskMap) → IsMapped size old m → new 1 ≡ old 1
    → new 2 ≡ old 2 → ((n : ℕ) → 0 < reaches n m → new n ≡ old n) → IsMapped size new m
mapped_kept size old new m s e f a = record {
  home = home_kept size old new _ e f s.home;
  master = directory_kept master_words IsMasterEntry old new m.chain _ s.master (λ n h. a n (omega arith));
  directories = λ ppn d is. whole_kept m.layout old new ppn d (s.directories ppn d is)
      (λ n h. a n (let q = directory_part m ppn d is n in omega arith));
}

-- Writes to free blocks.

module _ (size : ℕ) (old new : Contents) (q : DifferInFree size old old new) where
  low_kept : (n : ℕ) → n < space_start size → new n ≡ old n
  low_kept n h = ⊎_elim (λ e. e) (λ free. absurd (let k = free.in_space in omega arith)) (q n)

  bits_kept : (n : ℕ) (c : Bool) → ltb n (4608 * table_blocks size) ≡ c
      → cond c (bit_in (new (table_start size + n / 4608)) n) 0
      ≡ cond c (bit_in (old (table_start size + n / 4608)) n) 0
  bits_kept n true e = ap (λ o. bit_in o n)
      (low_kept (table_start size + n / 4608) (let h = ltb-true n (4608 * table_blocks size) e in omega arith))
  bits_kept n false e = refl

  pub quiet_bits : (n : ℕ) → table_bit size new n ≡ table_bit size old n
  quiet_bits n = bits_kept n (ltb n (4608 * table_blocks size)) refl

  pub quiet : (m : DiskMap) → HasMap size old m → HasMap size new m
  quiet m s = record {
    volume = s.volume;
    mapped = mapped_kept size old new m s.mapped (low_kept 1 (omega arith)) (low_kept 2 (omega arith))
        (λ n h. ⊎_elim (λ e. e) (λ free. absurd (let k = free.clear in let e = s.marked.bits n in omega arith)) (q n));
    marked = record {
      undamaged = λ i h. let e = low_kept (table_start size + i) (omega arith) in rw e (s.marked.undamaged i h);
      inside = s.marked.inside;
      bits = λ n. quiet_bits n ∙ s.marked.bits n;
    };
  }

-- At most one.

copy_same : (size : ℕ) (contents : Contents) (n : ℕ) (h k : SpecHome) → IsHomeCopy size contents n h
    → IsHomeCopy size contents n k → h ≡ k
copy_same size contents n h k is also =
    let e : home_block size h ≡ home_block size k = some_same (sym is.words ∙ also.words) in
    let layouts : h.layout ≡ k.layout = cc in
    let masters : h.master ≡ k.master = cc in
    λ i. record { layout = layouts i; master = masters i }

pub home_same : (size : ℕ) (contents : Contents) (h k : SpecHome) → IsHome size contents h → IsHome size contents k
    → h ≡ k
home_same size contents h k (inl a) (inl b) = copy_same size contents 1 h k a b
home_same size contents h k (inl a) (inr b) = absurd (b.0 h a)
home_same size contents h k (inr a) (inl b) = absurd (a.0 k b)
home_same size contents h k (inr a) (inr b) = copy_same size contents 2 h k a.1 b.1

pub quota_bound : (layout q : ℕ) → q < quota_limit layout → q < 262144
quota_bound layout q h = bound (eqb layout 1) h
  where
    bound : (b : Bool) → q < cond b 1 262144 → q < 262144
    bound true h = omega arith
    bound false h = omega arith

whole_same : (layout : ℕ) (contents : Contents) (ppn : ℕ) (d e : StoredDirectory) → IsWhole layout contents ppn d
    → IsWhole layout contents ppn e
    → reaches_in_directory 0 d ≡ 0 → reaches_in_directory 0 e ≡ 0 → entry_of d ≡ entry_of e → d ≡ e
whole_same layout contents ppn d e v w y z is =
    let words : d.protection * 2 ^ 27 + d.quota ≡ e.protection * 2 ^ 27 + e.quota = ap (λ x. x.0) is in
    let d_small = quota_bound layout d.quota v.quota in
    let e_small = quota_bound layout e.quota w.quota in
    let protections : d.protection ≡ e.protection = omega arith in
    let quotas : d.quota ≡ e.quota = omega arith in
    let chains = directory_same file_words file_apart IsFileEntry contents d.chain e.chain _ _ v.chain w.chain
    (omega arith) (omega arith) (ap (λ x. x.1) is) in
    let files = same_under name_total name_exact (λ x. x.prime) d.files e.files chains.1 (λ name f g at at' same.
    version_same layout contents (place_of ppn name) f g (v.files name f at) (w.files name g at') same) in
    λ i. record { protection = protections i; quota = quotas i; chain = chains.0 i; files = files i }

-- Contents spell at most one map in which no block is numbered 0.
pub mapped_same : (size : ℕ) (contents : Contents) (m k : DiskMap) → IsMapped size contents m → IsMapped size contents k
    → reaches 0 m ≡ 0 → reaches 0 k ≡ 0 → m ≡ k
mapped_same size contents m k s r y z =
    let homes = home_same size contents _ _ s.home r.home in
    let masters = directory_same master_words master_apart IsMasterEntry contents m.chain k.chain _ _ s.master r.master
    (omega arith) (omega arith) (ap (λ h. h.master) homes) in
    let directories = same_under nat_cmp_total nat_cmp-IsAntisymmetric entry_of m.directories k.directories masters.1
    (λ ppn d e at at' same.
    whole_same m.layout contents ppn d e (s.directories ppn d at)
    (subst (λ l. IsWhole l contents ppn e) (sym (ap (λ h. h.layout) homes)) (r.directories ppn e at'))
    (let q = directory_part m ppn d at 0 in omega arith) (let q = directory_part k ppn e at' 0 in omega arith) same) in
    λ i. record { layout = (homes i).layout; chain = masters.0 i; directories = directories i }

-- Settled contents have at most one map.
pub map_same : (size : ℕ) (contents : Contents) (m k : DiskMap) → HasMap size contents m → HasMap size contents k
    → m ≡ k
map_same size contents m k s r = mapped_same size contents m k s.mapped r.mapped
    (none_below size contents m s.marked 0 (omega arith)) (none_below size contents k r.marked 0 (omega arith))

pub stands_same : (size : ℕ) (settled : Contents) (f g : Files File) → SettledStands size settled f
    → SettledStands size settled g → f ≡ g
stands_same size settled f g s r = sym s.2 ∙ ap files_of (map_same size settled s.0 r.0 s.1 r.1) ∙ r.2

-- the bits, if the table's blocks stay
pub bits_kept_off : (size : ℕ) (old new : Contents) (n : ℕ) → ((k : ℕ) → table_start size ≤ k → new k ≡ old k)
    → table_bit size new n ≡ table_bit size old n
bits_kept_off size old new n a = ap (λ o. cond (ltb n (4608 * table_blocks size)) (bit_in o n) 0)
    (a (table_start size + n / 4608) (omega arith))

-- The gate and the log are no part of a map.
pub log_ignored : (size : ℕ) (old new : Contents) (m : DiskMap) → SameOutsideLog size old new → HasMap size old m
    → HasMap size new m
log_ignored size old new m same s = record {
  volume = s.volume;
  mapped = mapped_kept size old new m s.mapped (same 1 (inl refl)) (same 2 (inr (inl refl)))
      (λ n h. same n (inr (inr (high n h))));
  marked = record {
    undamaged = λ i h. let e = same (table_start size + i) (inr (inr (omega arith))) in rw e (s.marked.undamaged i h);
    inside = s.marked.inside;
    bits = λ n. bits_kept_off size old new n (λ k h. same k (inr (inr h))) ∙ s.marked.bits n;
  };
}
  where
    high : (n : ℕ) → 0 < reaches n m → table_start size ≤ n
    high n h = ⊎_elim (λ below. absurd (omega (arith, none_below size old m s.marked n (let k = below in omega arith))))
        (λ e. e) (cases_lt n (table_start size))
