-- How a read or a write of neighbouring blocks is made of reads or writes of fewer.
use Rattle.std.specs.Prelude.{◌≡◌, ◌⊎◌, ◌+◌, ◌-◌, ◌<◌, ◌≤◌, ℕ, List, Option, Some, None, Result, Ok, Err, OnOk, IsOk}
use Rattle.std.specs.Prelude.{IsErrOf, false, [], ◌∷◌, length, get_or, take, drop}
use Rattle.std.proofs.Common.{inl, inr, ⊎_elim, refl, ap, ◌∙◌, sym, arith, subst}
use Rattle.std.proofs.lemmas.Bool.{cases_lt}
use Rattle.std.proofs.lemmas.List.{get_or-take, get_or-drop, length-take, length-drop}
use Rattle.blockdisk.specs.Calls.{IsRunRead, IsWrite, IsRunWrite}
use Rattle.blockdisk.specs.Disk.{Contents, DiskState, MayLeave, Passes, Keeps, SameDisk, HoldRun, IsInRun}
use Rattle.blockdisk.specs.Disk.{SameOutside, Near, Modifies, one_more}
use Rattle.blockdisk.specs.Laws.{same_contents, keeps_on, passes_weaker, same_disk_start, same_disk_on}
use Rattle.blockdisk.specs.Laws.{modifies_start, modifies_on, modifies_wider, modifies_write, writes_modifies}
use Rattle.blockdisk.specs.declared.fault.Fault.{Fault}
use Rattle.blockdisk.specs.declared.fault.Fault.TheVariants.{Device, Damaged}

no_fault : {T : Type 0} (value : T) (fault : Fault) → IsErrOf (Ok value) fault → ⊥
no_fault value fault is = cc

not_ok : (fault : Fault) → IsOk {T = Option ℕ} (Err fault) → ⊥
not_ok fault ok = cc

-- The first `count` blocks from `first` were read, and fill the first places.
pub record IsPartRead (first count : ℕ) (s s' : DiskState) (blocks : List (List ℕ)) : Type 0 where
  pub words : s'.honest → (i : ℕ) → i < count → s.contents (first + i) ≡ Some (get_or blocks i [])
  pub keeps : s'.honest → Keeps s s'
  pub same : SameDisk s s'
  pub served : s'.failures ≡ s.failures

-- all of a run
pub part_run : (first : ℕ) (s s' : DiskState) (blocks : List (List ℕ)) → IsRunRead first s s' blocks (Ok None)
    → IsPartRead first (length blocks) s s' blocks
part_run first s s' blocks run = record {
  words = run.words;
  keeps = run.keeps;
  same = run.same;
  served = run.served refl;
}

module _ (first count : ℕ) (s s' : DiskState) (blocks : List (List ℕ)) (before : IsPartRead first count s s' blocks)
  where
    same : s'.honest → s'.contents ≡ s.contents
    same h = same_contents s.contents s'.contents (before.keeps h).contents

    -- After them, `more` blocks were read, those of a group.
    pub part_on : (more : ℕ) (s'' : DiskState) (group new : List (List ℕ))
        → IsPartRead (first + count) more s' s'' group
        → ((i : ℕ) → i < count → get_or new i [] ≡ get_or blocks i [])
        → ((i : ℕ) → i < more → get_or new (count + i) [] ≡ get_or group i [])
        → IsPartRead first (count + more) s s'' new
    part_on more s'' group new behind kept put = record {
      words = λ h i less. ⊎_elim (λ low. before.words (honest h) i low ∙ ap Some (sym (kept i low)))
          (λ past. of_group h i less past) (cases_lt i count);
      keeps = λ h. keeps_on s s' s'' (before.keeps (honest h)) (behind.keeps h);
      same = same_disk_on s s' s'' before.same behind.same;
      served = behind.served ∙ before.served;
    }
      where
        honest : s''.honest → s'.honest
        honest h = behind.same.was_honest h

        of_group : s''.honest → (i : ℕ) → i < count + more → count ≤ i → s.contents (first + i) ≡ Some (get_or new i [])
        of_group h i less past =
            let at : first + count + (i - count) ≡ first + i = omega (arith, past) in
            let back : count + (i - count) ≡ i = omega (arith, past) in
            let low : i - count < more = omega (arith, less, past) in
            ap (λ (c : Contents). c (first + i)) (sym (same (honest h))) ∙ ap s'.contents (sym at)
            ∙ behind.words h (i - count) low ∙ ap Some (sym (put (i - count) low) ∙ ap (λ k. get_or new k []) back)

    -- All places are filled.
    pub part_all : length blocks ≡ count → IsRunRead first s s' blocks (Ok None)
    part_all all = record {
      within = tt;
      words = λ h i less. before.words h i (subst (λ k. i < k) all less);
      keeps = before.keeps;
      same = before.same;
      device = no_fault None Damaged;
      failed = λ is. absurd (no_fault None Device is);
      served = λ ok. before.served;
    }

    -- The next block that is read is damaged.
    pub part_damaged : (bad : ℕ) (s'' : DiskState) (group new : List (List ℕ)) → first + count + length group
        ≤ first + length new → IsRunRead (first + count) s' s'' group (Ok (Some bad))
        → ((i : ℕ) → i < count → get_or new i [] ≡ get_or blocks i [])
        → ((i : ℕ) → i < length group → get_or new (count + i) [] ≡ get_or group i [])
        → IsRunRead first s s'' new (Ok (Some bad))
    part_damaged bad s'' group new room behind kept put = record {
      within = (omega (arith, behind.within.0), omega (arith, behind.within.1, room));
      words = λ h. (
        subst (λ (c : Contents). c bad ≡ None) (same (honest h)) (behind.words h).0,
        λ i low. ⊎_elim (λ less. before.words (honest h) i less ∙ ap Some (sym (kept i less)))
            (λ past. of_group h i low past) (cases_lt i count),
      );
      keeps = λ h. keeps_on s s' s'' (before.keeps (honest h)) (behind.keeps h);
      same = same_disk_on s s' s'' before.same behind.same;
      device = no_fault (Some bad) Damaged;
      failed = λ is. absurd (no_fault (Some bad) Device is);
      served = λ ok. behind.served refl ∙ before.served;
    }
      where
        honest : s''.honest → s'.honest
        honest h = behind.same.was_honest h

        of_group : s''.honest → (i : ℕ) → first + i < bad → count ≤ i → s.contents (first + i) ≡ Some (get_or new i [])
        of_group h i low past =
            let at : first + count + (i - count) ≡ first + i = omega (arith, past) in
            let back : count + (i - count) ≡ i = omega (arith, past) in
            let less : first + count + (i - count) < bad = omega (arith, at, low) in
            let within : i - count < length group = omega (arith, less, behind.within.1) in
            ap (λ (c : Contents). c (first + i)) (sym (same (honest h))) ∙ ap s'.contents (sym at)
            ∙ (behind.words h).1 (i - count) less ∙ ap Some (sym (put (i - count) within)
            ∙ ap (λ k. get_or new k []) back)

    -- The device fails.
    pub part_failed : (fault : Fault) (s'' : DiskState) (group new : List (List ℕ))
        → IsRunRead (first + count) s' s'' group (Err fault) → IsRunRead first s s'' new (Err fault)
    part_failed fault s'' group new behind = record {
      within = tt;
      words = λ h. tt;
      keeps = λ h. keeps_on s s' s'' (before.keeps (behind.same.was_honest h)) (behind.keeps h);
      same = same_disk_on s s' s'' before.same behind.same;
      device = behind.device;
      failed = λ is. behind.failed is ∙ ap one_more before.served;
      served = λ ok. absurd (not_ok fault ok);
    }

-- Writes

-- The words of a block of a run before a write to it, and those of another block afterwards.
not_in_run : {n first end : ℕ} → (n < first) ⊎ (first ≤ n) → (n < end) ⊎ (end ≤ n) → Option (List ℕ) → Option (List ℕ)
    → Option (List ℕ)
not_in_run (inl before) high was now = now
not_in_run (inr from) (inl below) was now = was
not_in_run (inr from) (inr behind) was now = now

-- Only the blocks of a run were written: the others hold what they held, and are as open as they were.
module _ (first count : ℕ) (s s' : DiskState) (others : SameOutside (IsInRun first count) s.contents s'.contents)
    (opened : (n : ℕ) → (IsInRun first count n → ⊥) → s'.is_open n ≡ s.is_open n) (time : Passes s s' (MayLeave s'))
  where
    -- a crash after the write is one before it, except for the blocks of the run
    abbrev before : Contents → Contents
    before c n = not_in_run (cases_lt n first) (cases_lt n (first + count)) (s.contents n) (c n)

    kept : (c : Contents) → MayLeave s' c → (n : ℕ) → s.is_open n ≡ false → (IsInRun first count n → ⊥)
        → c n ≡ s.contents n
    kept c left n closed out = left n (opened n out ∙ closed) ∙ others n out

    at_before : (c : Contents) → MayLeave s' c → (n : ℕ) → s.is_open n ≡ false → (low : (n < first) ⊎ (first ≤ n))
        → (high : (n < first + count) ⊎ (first + count ≤ n)) → not_in_run low high (s.contents n) (c n) ≡ s.contents n
    unfolding not_in_run
    at_before c left n closed (inl low) high = kept c left n closed (λ within. omega (arith, low, within.0))
    at_before c left n closed (inr from) (inl below) = refl
    at_before c left n closed (inr from) (inr behind) = kept c left n closed (λ within. omega (arith, behind, within.1))

    elsewhere : (n : ℕ) (was now : Option (List ℕ)) → (IsInRun first count n → ⊥) → (low : (n < first) ⊎ (first ≤ n))
        → (high : (n < first + count) ⊎ (first + count ≤ n)) → now ≡ not_in_run low high was now
    unfolding not_in_run
    elsewhere n was now out (inl low) high = refl
    elsewhere n was now out (inr from) (inl below) = absurd (out (from, below))
    elsewhere n was now out (inr from) (inr behind) = refl

    near : (c : Contents) → MayLeave s' c → Near (IsInRun first count) s c
    near c left = (
      before c,
      λ n closed. at_before c left n closed (cases_lt n first) (cases_lt n (first + count)),
      λ n out. elsewhere n (s.contents n) (c n) out (cases_lt n first) (cases_lt n (first + count)),
    )

    pub run_modifies : Modifies (IsInRun first count) s s'
    run_modifies = record {
      contents = others;
      crash = near;
      time = passes_weaker s s' (MayLeave s') (Near (IsInRun first count) s) time near;
    }

-- The first `count` of these blocks were written, from `first`.
pub record IsPartWrite (first count : ℕ) (blocks : List (List ℕ)) (s s' : DiskState) : Type 0 where
  pub put : s'.honest → (i : ℕ) → i < count → s'.contents (first + i) ≡ Some (get_or blocks i [])
  pub moves : s'.honest → 0 < count → s.clock < s'.clock
  pub writes : s'.honest → Modifies (IsInRun first count) s s'
  pub same : SameDisk s s'
  pub served : s'.failures ≡ s.failures

-- none yet
pub no_part_write : (first : ℕ) (blocks : List (List ℕ)) (s : DiskState) → IsPartWrite first 0 blocks s s
no_part_write first blocks s = record {
  put = λ h i none. absurd (omega (arith, none));
  moves = λ h none. absurd (omega (arith, none));
  writes = λ h. modifies_start (IsInRun first 0) s;
  same = same_disk_start s;
  served = refl;
}

module _ (first count : ℕ) (blocks : List (List ℕ)) (s s' : DiskState)
    (before : IsPartWrite first count blocks s s') where
  -- All of them are written.
  pub part_written : (done : Unit {0}) → length blocks ≡ count → IsRunWrite first blocks s s' (Ok done)
  part_written done all = record {
    put = λ h i less. before.put h i (omega (arith, less, all));
    moves = λ h some. before.moves h (omega (arith, some, all));
    writes = λ h. subst (λ k. Modifies (IsInRun first k) s s') (sym all) (before.writes h);
    same = before.same;
    device = λ is. absurd (no_fault done Damaged is);
    failed = λ is. absurd (no_fault done Device is);
    served = before.served;
  }

  module _ (more : ℕ) (group : List (List ℕ)) (s'' : DiskState) (long : length group ≡ more)
      (are : (i : ℕ) → i < more → get_or group i [] ≡ get_or blocks (count + i) []) where
    both : Modifies (IsInRun first count) s s' → Modifies (IsInRun (first + count) (length group)) s' s''
        → Modifies (IsInRun first (count + more)) s s''
    both one two = modifies_on (IsInRun first (count + more)) s s' s''
        (modifies_wider (IsInRun first count) (IsInRun first (count + more)) s s'
        (λ n within. (within.0, omega (arith, within.1))) one)
        (modifies_wider (IsInRun (first + count) (length group)) (IsInRun first (count + more)) s' s''
        (λ n within. (omega (arith, within.0), omega (arith, within.1, long))) two)

    -- After them, a group is written.
    pub part_write_on : (done : Unit {0}) → IsRunWrite (first + count) group s' s'' (Ok done)
        → IsPartWrite first (count + more) blocks s s''
    part_write_on done behind = record {
      put = λ h i less. ⊎_elim (λ low. earlier h i low) (λ past. of_group h i less past) (cases_lt i count);
      moves = λ h some. ⊎_elim
          (λ here. omega (arith, before.moves (honest h) here, (behind.writes h).time.later))
          (λ none. omega
          (arith, (before.writes (honest h)).time.later, behind.moves h (omega (arith, some, none, long))))
          (cases_lt 0 count);
      writes = λ h. both (before.writes (honest h)) (behind.writes h);
      same = same_disk_on s s' s'' before.same behind.same;
      served = behind.served ∙ before.served;
    }
      where
        honest : s''.honest → s'.honest
        honest h = behind.same.was_honest h

        earlier : s''.honest → (i : ℕ) → i < count → s''.contents (first + i) ≡ Some (get_or blocks i [])
        earlier h i low = (behind.writes h).contents (first + i) (λ within. omega (arith, low, within.0))
            ∙ before.put (honest h) i low

        of_group : s''.honest → (i : ℕ) → i < count + more → count ≤ i
            → s''.contents (first + i) ≡ Some (get_or blocks i [])
        of_group h i less past =
            let at : first + count + (i - count) ≡ first + i = omega (arith, past) in
            let back : count + (i - count) ≡ i = omega (arith, past) in
            let low : i - count < more = omega (arith, less, past) in
            ap s''.contents (sym at) ∙ behind.put h (i - count) (omega (arith, low, long))
            ∙ ap Some (are (i - count) low ∙ ap (λ k. get_or blocks k []) back)

    -- The device fails in the group after them.
    pub part_write_failed : (fault : Fault) → count + more ≤ length blocks
        → IsRunWrite (first + count) group s' s'' (Err fault) → IsRunWrite first blocks s s'' (Err fault)
    part_write_failed fault room behind = record {
      put = λ h. tt;
      moves = λ h. tt;
      writes = λ h. modifies_wider (IsInRun first (count + more)) (IsInRun first (length blocks)) s s''
          (λ n within. (within.0, omega (arith, within.1, room)))
          (both (before.writes (behind.same.was_honest h)) (behind.writes h));
      same = same_disk_on s s' s'' before.same behind.same;
      device = behind.device;
      failed = λ is. behind.failed is ∙ ap one_more before.served;
      served = tt;
    }

-- A part of a list, place by place.
module _ (blocks : List (List ℕ)) (from n : ℕ) (room : from + n ≤ length blocks) where
  pub length_part : length (take n (drop from blocks)) ≡ n
  length_part = omega (arith, length-take n (drop from blocks), length-drop from blocks, room)

  pub part_at : (i : ℕ) → i < n → get_or (take n (drop from blocks)) i [] ≡ get_or blocks (from + i) []
  part_at i less = get_or-take n (drop from blocks) i [] less ∙ get_or-drop from blocks i []

-- A single block, whose number is that of the run.
pub write_of_one : (first : ℕ) (blocks : List (List ℕ)) (s s' : DiskState) (answer : Result (Unit {0}) Fault)
    → length blocks ≡ 1 → IsWrite first (get_or blocks 0 []) s s' answer → IsRunWrite first blocks s s' answer
write_of_one first blocks s s' answer one write = record {
  put = λ h. put answer (write.put h);
  moves = λ h. moves answer (write.moves h);
  writes = λ h. writes_modifies (IsInRun first (length blocks)) first s s' (omega arith, omega (arith, one))
      (write.writes h);
  same = write.same;
  device = write.device;
  failed = write.failed;
  served = write.served;
}
  where
    put : (answer : Result (Unit {0}) Fault) → OnOk answer (s'.contents first ≡ Some (get_or blocks 0 []))
        → OnOk answer (HoldRun s'.contents first blocks)
    put (Ok done) is = λ i less.
        let none : i ≡ 0 = omega (arith, less, one) in
        let at : first + i ≡ first = omega (arith, none) in
        ap s'.contents at ∙ is ∙ ap (λ k. Some (get_or blocks k [])) (sym none)
    put (Err fault) is = tt

    moves : (answer : Result (Unit {0}) Fault) → OnOk answer (s.clock < s'.clock)
        → OnOk answer (0 < length blocks → s.clock < s'.clock)
    moves (Ok done) later = λ some. later
    moves (Err fault) later = tt

-- A run that is written one block at a time
module _ (first count : ℕ) (blocks : List (List ℕ)) (s s' : DiskState) (before : IsPartWrite first count blocks s s')
    (s'' : DiskState) (words : List ℕ) where
  -- one block more
  pub part_write_next : (done : Unit {0}) → words ≡ get_or blocks count []
      → IsWrite (first + count) words s' s'' (Ok done) → IsPartWrite first (count + 1) blocks s s''
  part_write_next done is write = part_write_on first count blocks s s' before 1 (words ∷ []) s'' refl
      (λ i less. only i (omega (arith, less))) done
      (write_of_one (first + count) (words ∷ []) s' s'' (Ok done) refl write)
    where
      only : (i : ℕ) → i ≡ 0 → get_or (words ∷ []) i [] ≡ get_or blocks (count + i) []
      only i none =
          let here : count ≡ count + i = omega (arith, none) in
          ap (λ k. get_or (words ∷ []) k []) none ∙ is ∙ ap (λ k. get_or blocks k []) here

  -- the next one fails
  pub part_write_ends : (fault : Fault) → count < length blocks → IsWrite (first + count) words s' s'' (Err fault)
      → IsRunWrite first blocks s s'' (Err fault)
  part_write_ends fault below write = record {
    put = λ h. tt;
    moves = λ h. tt;
    writes = λ h. modifies_write (IsInRun first (length blocks)) (first + count) s s' s''
        (omega arith, omega (arith, below))
        (modifies_wider (IsInRun first count) (IsInRun first (length blocks)) s s'
        (λ n within. (within.0, omega (arith, within.1, below))) (before.writes (write.same.was_honest h)))
        (write.writes h);
    same = same_disk_on s s' s'' before.same write.same;
    device = write.device;
    failed = λ is. write.failed is ∙ ap one_more before.served;
    served = tt;
  }
