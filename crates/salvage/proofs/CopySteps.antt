-- Copying a disk block by block.
use Rattle.std.proofs.Common.{◌≡◌, ◌∙◌, ap, arith, inl, inr, refl, sym, subst, ⊎_elim, ◌⊎◌, ◌+◌, ◌<◌, ◌≤◌, ℕ, suc, zero}
use Rattle.std.proofs.Common.{List, [], ◌∷◌, Option, None, Some, Contains, length, replicate, true}
use Rattle.std.proofs.lemmas.List.{get_or-set_same, get_or-set_other, length-replicate}
use Rattle.std.proofs.lemmas.Bool.{cases_lt}
use Rattle.std.proofs.lemmas.Bool.Decides.{nat_tests}
use Rattle.std.specs.Prelude.{slice_set, nat_lt, if◌then◌else◌}
use Rattle.blockdisk.specs.Common.{Contents, DiskState, SameDisk, one_more, still_start, Memory, held, loaded, zeroed}
use Rattle.changeset.specs.Common.{OnlyReads}
use Rattle.changeset.proofs.LogRead.{only_reads_on}
use Rattle.salvage.specs.Common.{AreCopies, failed_by, held_to}
use Rattle.salvage.proofs.Members.{contains_here, contains_later}

-- The blocks below n of `size` blocks were copied, and `unread` of them couldn't be read.
pub record IsCopying (first now : DiskState) (size n : ℕ) (copy : Memory) (unread : ℕ) : Type 0 where
  pub copies : now.honest → AreCopies n (held_to first.size first.contents) (held copy.blocks) unread
  pub long : length copy.blocks ≡ size
  pub reads : now.honest → OnlyReads first now
  pub same : SameDisk first now
  pub failures : now.failures ≡ failed_by unread first.failures
  pub few : unread ≤ n
  pub fewer : unread ≤ first.size

pub copying_starts : (d : DiskState) (copy : Memory) (size calls : ℕ) → copy ≡ zeroed size calls
    → IsCopying d d size 0 copy 0
copying_starts d copy size calls made = record {
  copies = λ h. record { missed = []; few = omega arith; each = λ n below. absurd (omega arith) };
  long = ap (λ (m : Memory). length m.blocks) made ∙ length-replicate size (Some (replicate 128 0));
  reads = λ h. record { still = still_start d; is_open = λ n. refl };
  same = record { size = refl; was_honest = λ h. h };
  failures = refl;
  few = omega arith;
  fewer = omega arith;
}

-- a block that a disk has is what it holds
pub held_below : (size : ℕ) (contents : Contents) (n : ℕ) → n < size → held_to size contents n ≡ contents n
held_below size contents n below =
    let yes : nat_lt n size ≡ true = grind (arith, nat_tests) in
    ap (λ b. if b then contents n else None) yes

-- block n of a list that was set there, and another one
held_same : (blocks : List (Option (List ℕ))) (n : ℕ) (x : Option (List ℕ)) → n < length blocks
    → held (slice_set blocks n x) n ≡ x
held_same blocks n x inside = get_or-set_same blocks n x None inside

held_other : (blocks : List (Option (List ℕ))) (n m : ℕ) (x : Option (List ℕ)) → (m ≡ n → ⊥)
    → held (slice_set blocks n x) m ≡ held blocks m
held_other blocks n m x other = get_or-set_other blocks n m x None other

below_next : (m n : ℕ) → m < n + 1 → (m < n) ⊎ (m ≡ n)
below_next m n h = ⊎_elim (λ low. inl low) (λ high. inr (omega arith)) (cases_lt m n)

-- the next block was read
copies_more : (n : ℕ) (from : Contents) (blocks : List (Option (List ℕ))) (unread : ℕ) (x : Option (List ℕ))
    → n < length blocks → AreCopies n from (held blocks) unread → x ≡ from n
    → AreCopies (n + 1) from (held (slice_set blocks n x)) unread
copies_more n from blocks unread x inside so is = record {
  missed = so.missed;
  few = so.few;
  each = λ m below. ⊎_elim
      (λ low. subst (λ c. (c ≡ from m) ⊎ (Contains so.missed m × (c ≡ None)))
      (sym (held_other blocks n m x (λ e. omega arith))) (so.each m low))
      (λ e. inl (subst (λ k. held (slice_set blocks n x) k ≡ from k) (sym e) (held_same blocks n x inside ∙ is)))
      (below_next m n below);
}

one_missed_more : (c d : Option (List ℕ)) (n : ℕ) (missed : List ℕ) (m : ℕ) → (c ≡ d) ⊎ (Contains missed m × (c ≡ None))
    → (c ≡ d) ⊎ (Contains (n ∷ missed) m × (c ≡ None))
one_missed_more c d n missed m so = ⊎_elim (λ same. inl same)
    (λ damaged. inr (contains_later n m missed damaged.0, damaged.1)) so

-- it couldn't
copies_unread : (n : ℕ) (from : Contents) (blocks : List (Option (List ℕ))) (unread : ℕ) → n < length blocks
    → AreCopies n from (held blocks) unread → AreCopies (n + 1) from (held (slice_set blocks n None)) (unread + 1)
copies_unread n from blocks unread inside so = record {
  missed = n ∷ so.missed;
  few = let few = so.few in omega arith;
  each = λ m below. ⊎_elim
      (λ low. subst (λ c. (c ≡ from m) ⊎ (Contains (n ∷ so.missed) m × (c ≡ None)))
      (sym (held_other blocks n m None (λ e. omega arith)))
      (one_missed_more (held blocks m) (from m) n so.missed m (so.each m low)))
      (λ e. inr (
        subst (Contains (n ∷ so.missed)) (sym e) (contains_here n so.missed),
        subst (λ k. held (slice_set blocks n None) k ≡ None) (sym e) (held_same blocks n None inside),
      ))
      (below_next m n below);
}

-- a larger bound for the blocks that couldn't be read
pub copies_within : (end : ℕ) (from to : Contents) (unread total : ℕ) → AreCopies end from to unread → unread ≤ total
    → AreCopies end from to total
copies_within end from to unread total copies few = record {
  missed = copies.missed;
  few = let fewer = copies.few in omega arith;
  each = copies.each;
}

-- if all could be read, all blocks are those of the disk
pub copies_of_all : (end : ℕ) (from to : Contents) (unread : ℕ) → AreCopies end from to unread → unread ≡ 0 → (n : ℕ)
    → n < end → to n ≡ from n
copies_of_all end from to unread copies none n below = ⊎_elim (λ same. same)
    (λ damaged. let few = copies.few in let there = damaged.0.1 in absurd (omega arith)) (copies.each n below)

-- what a disk holds is what it held
pub held_still : (first mid : DiskState) (n : ℕ) → SameDisk first mid → OnlyReads first mid
    → held_to mid.size mid.contents n ≡ held_to first.size first.contents n
held_still first mid n same reads = ap (λ size. held_to size mid.contents n) same.size
    ∙ ap (λ c. if nat_lt n first.size then c else None) (reads.still.contents n)

pub copying_read : (first mid now : DiskState) (size n : ℕ) (copy after : Memory) (unread : ℕ) → n < size
    → IsCopying first mid size n copy unread
    → (now.honest → after ≡ loaded copy n (held_to mid.size mid.contents n))
    → length after.blocks ≡ length copy.blocks → (now.honest → OnlyReads mid now) → SameDisk mid now
    → now.failures ≡ mid.failures → IsCopying first now size (n + 1) after unread
copying_read first mid now size n copy after unread inside so is long reads same served = record {
  copies = λ h.
      let before = same.was_honest h in
      subst (λ (m : Memory). AreCopies (n + 1) (held_to first.size first.contents) (held m.blocks) unread)
      (sym (is h))
      (copies_more n (held_to first.size first.contents) copy.blocks unread (held_to mid.size mid.contents n)
      (omega (arith, so.long)) (so.copies before) (held_still first mid n so.same (so.reads before)));
  long = long ∙ so.long;
  reads = λ h. only_reads_on first mid now (so.reads (same.was_honest h)) (reads h);
  same = record { size = same.size ∙ so.same.size; was_honest = λ h. so.same.was_honest (same.was_honest h) };
  failures = served ∙ so.failures;
  few = let few = so.few in omega arith;
  fewer = so.fewer;
}

more : (k n : ℕ) → one_more (failed_by k n) ≡ failed_by (k + 1) n
more k n = ap (λ m. failed_by m n) (let e : suc k ≡ k + 1 = omega arith in e)

pub copying_unread : (first mid now : DiskState) (size n : ℕ) (copy after : Memory) (unread : ℕ) → n < size
    → n < mid.size → IsCopying first mid size n copy unread → after ≡ loaded copy n None
    → (now.honest → OnlyReads mid now) → SameDisk mid now → now.failures ≡ one_more mid.failures
    → length after.blocks ≡ length copy.blocks → IsCopying first now size (n + 1) after (unread + 1)
copying_unread first mid now size n copy after unread inside there so is reads same failed long = record {
  copies = λ h. subst
      (λ (m : Memory). AreCopies (n + 1) (held_to first.size first.contents) (held m.blocks) (unread + 1)) (sym is)
      (copies_unread n (held_to first.size first.contents) copy.blocks unread (omega (arith, so.long))
      (so.copies (same.was_honest h)));
  long = long ∙ so.long;
  reads = λ h. only_reads_on first mid now (so.reads (same.was_honest h)) (reads h);
  same = record { size = same.size ∙ so.same.size; was_honest = λ h. so.same.was_honest (same.was_honest h) };
  failures = failed ∙ ap one_more so.failures ∙ more unread first.failures;
  few = let few = so.few in omega arith;
  fewer = let few = so.few in let size_is = so.same.size in omega arith;
}

-- What failed in one part of a run, and then in another.
pub failed_on : (a b f g h : ℕ) → g ≡ failed_by a f → h ≡ failed_by b g → h ≡ failed_by (a + b) f
failed_on a b f g h first second = second ∙ ap (failed_by b) first ∙ both b
  where
    both : (k : ℕ) → failed_by k (failed_by a f) ≡ failed_by (a + k) f
    both zero = ap (λ n. failed_by n f) (let e : a ≡ a + 0 = omega arith in e)
    both (suc k) = ap one_more (both k) ∙ ap (λ n. failed_by n f) (let e : suc (a + k) ≡ a + suc k = omega arith in e)
