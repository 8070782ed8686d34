-- How a check of blocks is made of checks of fewer, and of reads.
use Rattle.std.specs.Prelude.{◌≡◌, ◌+◌, ◌<◌, ◌≤◌, ℕ, List, Option, Some, None, Ok, Err, IsOk, IsErrOf, length}
use Rattle.std.proofs.Common.{⊎_elim, refl, ap, ◌∙◌, arith, subst}
use Rattle.std.proofs.lemmas.Bool.{cases_lt}
use Rattle.blockdisk.specs.Calls.{IsRead, IsVerify}
use Rattle.blockdisk.specs.Disk.{Contents, DiskState, IsWholeBlock, one_more}
use Rattle.blockdisk.specs.Laws.{same_contents, keeps_on, same_disk_on}
use Rattle.blockdisk.specs.declared.fault.Fault.{Fault}
use Rattle.blockdisk.specs.declared.fault.Fault.TheVariants.{Device, Damaged}

no_fault : {T : Type 0} (value : T) (fault : Fault) → IsErrOf (Ok value) fault → ⊥
no_fault value fault is = cc

not_ok : (fault : Fault) → IsOk {T = Option ℕ} (Err fault) → ⊥
not_ok fault ok = cc

-- a check of fewer blocks
pub verify_fewer : (first end next : ℕ) (s s' : DiskState) → end ≤ next → IsVerify first next s s' (Ok None)
    → IsVerify first end s s' (Ok None)
verify_fewer first end next s s' fewer all = record {
  within = tt;
  verified = λ h n low high. all.verified h n low (omega (arith, fewer, high));
  keeps = all.keeps;
  same = all.same;
  device = all.device;
  failed = all.failed;
  served = all.served;
}

-- One block, by a read

module _ (n : ℕ) (s s' : DiskState) where
  pub read_whole : (words : List ℕ) → length words ≡ 128 → IsRead n s s' (Ok words) → IsVerify n (n + 1) s s' (Ok None)
  read_whole words long read = record {
    within = tt;
    verified = λ h m low high. subst (IsWholeBlock s.contents) (only m low high)
        (record { words = words; holds = read.words h; all = long });
    keeps = read.keeps;
    same = read.same;
    device = no_fault None Damaged;
    failed = λ is. absurd (no_fault None Device is);
    served = λ ok. read.served (no_fault words Device);
  }
    where
      only : (m : ℕ) → n ≤ m → m < n + 1 → n ≡ m
      only m low high = omega arith

-- Blocks after blocks that are whole

module _ (first next stop : ℕ) (s s' s'' : DiskState) (before : IsVerify first next s s' (Ok None)) where
  same : s'.honest → s'.contents ≡ s.contents
  same h = same_contents s.contents s'.contents (before.keeps h).contents

  -- the blocks before m are whole, if those from `next` are
  all_before : (m : ℕ) → s'.honest → ((n : ℕ) → next ≤ n → n < m → IsWholeBlock s'.contents n)
      → (n : ℕ) → first ≤ n → n < m → IsWholeBlock s.contents n
  all_before m h behind n low high = ⊎_elim (λ less. before.verified h n low less)
      (λ past. subst (λ (c : Contents). IsWholeBlock c n) (same h) (behind n past high)) (cases_lt n next)

  pub verify_on : IsVerify next stop s' s'' (Ok None) → IsVerify first stop s s'' (Ok None)
  verify_on more = record {
    within = tt;
    verified = λ h. all_before stop (more.same.was_honest h) (more.verified h);
    keeps = λ h. keeps_on s s' s'' (before.keeps (more.same.was_honest h)) (more.keeps h);
    same = same_disk_on s s' s'' before.same more.same;
    device = no_fault None Damaged;
    failed = λ is. absurd (no_fault None Device is);
    served = λ ok. more.served refl ∙ before.served refl;
  }

  pub verify_damaged : (bad end : ℕ) → first ≤ next → stop ≤ end → IsVerify next stop s' s'' (Ok (Some bad))
      → IsVerify first end s s'' (Ok (Some bad))
  verify_damaged bad end low high more = record {
    within = (omega (arith, more.within.0), omega (arith, more.within.1));
    verified = λ h. (
      subst (λ (c : Contents). c bad ≡ None) (same (more.same.was_honest h)) (more.verified h).0,
      all_before bad (more.same.was_honest h) (more.verified h).1,
    );
    keeps = λ h. keeps_on s s' s'' (before.keeps (more.same.was_honest h)) (more.keeps h);
    same = same_disk_on s s' s'' before.same more.same;
    device = no_fault (Some bad) Damaged;
    failed = λ is. absurd (no_fault (Some bad) Device is);
    served = λ ok. more.served refl ∙ before.served refl;
  }

  pub verify_failed : (fault : Fault) (end : ℕ) → IsVerify next stop s' s'' (Err fault)
      → IsVerify first end s s'' (Err fault)
  verify_failed fault end more = record {
    within = tt;
    verified = λ h. tt;
    keeps = λ h. keeps_on s s' s'' (before.keeps (more.same.was_honest h)) (more.keeps h);
    same = same_disk_on s s' s'' before.same more.same;
    device = more.device;
    failed = λ is. more.failed is ∙ ap one_more (before.served refl);
    served = λ ok. absurd (not_ok fault ok);
  }
