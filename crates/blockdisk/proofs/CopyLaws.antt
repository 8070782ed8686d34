-- Two copies written one after the other: while the first is written the second stays, and while the
-- second is written the first is new.
use Rattle.std.proofs.Common.{◌≡◌, inl, inr, ℕ, List, Some, sym, ◌∙◌}
use Rattle.blockdisk.specs.Common.{Contents, DiskState, NoneOpen, Near, Modifies, LeavesOnly, leaves_on}
use Rattle.blockdisk.specs.Common.{leaves_weaker, OneIsWhole}

module _ (first second : ℕ) (words : List ℕ) (apart : first ≡ second
    → ⊥) (s mid : DiskState) (first_near : LeavesOnly s mid (Near (λ n. n ≡ first) s)) where
  abbrev P : Contents → Type 0
  P c = OneIsWhole first second words s.contents c

  while_first : NoneOpen s → (c : Contents) → Near (λ n. n ≡ first) s c → P c
  while_first none c near = record {
    others = λ n out. same n (λ here. out (inl here));
    one = inl (same second (λ here. apart (sym here)));
  }
    where
      same : (n : ℕ) → (n ≡ first → ⊥) → c n ≡ s.contents n
      same n out = near.2 n out ∙ near.1 n (none n)

  while_second : Modifies (λ n. n ≡ first) s mid → NoneOpen mid → mid.contents first ≡ Some words → (c : Contents)
      → Near (λ n. n ≡ second) mid c → P c
  while_second first_write none new c near = record {
    others = λ n out. same n (λ here. out (inr here))
        ∙ first_write.contents n (λ here. out (inl here));
    one = inr (same first apart ∙ new);
  }
    where
      same : (n : ℕ) → (n ≡ second → ⊥) → c n ≡ mid.contents n
      same n out = near.2 n out ∙ near.1 n (none n)

  pub first_leaves : NoneOpen s → LeavesOnly s mid P
  first_leaves none = leaves_weaker s mid (Near (λ n. n ≡ first) s) P first_near (while_first none)

  pub both_leave : (end : DiskState) → NoneOpen s → Modifies (λ n. n ≡ first) s mid → NoneOpen mid
      → mid.contents first ≡ Some words
      → LeavesOnly mid end (Near (λ n. n ≡ second) mid) → LeavesOnly s end P
  both_leave end none first_write none_mid new second_near =
      leaves_on s mid end P (Near (λ n. n ≡ second) mid) (first_leaves none) second_near
      (while_second first_write none_mid new)
