-- What a crash leaves during recovery.
use Rattle.std.proofs.Common.{◌≡◌, inl, inr, ℕ, List, Option, Some, None, [], ◌∷◌, replicate, refl, sym, ◌∙◌, ap}
use Rattle.std.proofs.Common.{subst, arith}
use Rattle.blockdisk.specs.Common.{Contents, DiskState, MayLeave, NoneOpen, SameOutside, Still, LeavesOnly, leaves_on}
use Rattle.blockdisk.specs.Common.{leaves_still, leaves_weaker, none_open_leaves, same_contents}
use Rattle.spec_image.specs.declared.put.Put.{Put}
use Rattle.spec_image.specs.Common.{open_gate, IsGateOpen, with_puts, IsSettled}
use Rattle.spec_image.proofs.Common.{settled_same}
use Rattle.changeset.specs.Common.{IsGate, SettlesAs, SettlesLike, SettlesLikeBefore, ArePending, IsRecovered}
use Rattle.changeset.specs.Common.{OnlyReads}
use Rattle.changeset.proofs.PutLists.{with_puts_same}
use Rattle.changeset.proofs.Moments.{settles_from}

-- what holds for one disk holds for another of the same size and contents
pub along : (P : ℕ → Contents → Type 0) (s s' : DiskState) → s'.size ≡ s.size → ((n : ℕ) → s'.contents n ≡ s.contents n)
    → P s'.size s'.contents → P s.size s.contents
along P s s' size same is = subst (λ (n : ℕ). P n s.contents) size
    (subst (P s'.size) (same_contents s.contents s'.contents same) is)

settles_like : (size : ℕ) (d c : Contents) → c ≡ d → SettlesLike size d c
settles_like size d c same settled is = record {
  settled = settled;
  is_settled = subst (λ (k : Contents). IsSettled size k settled) (sym same) is;
  same = λ n out. refl;
}

abbrev first_word : Option (List ℕ) → ℕ
first_word None = 0
first_word (Some []) = 0
first_word (Some (word ∷ words)) = word

-- a gate of zeros is closed
pub zeros_shut : (size : ℕ) (c : Contents) → c 3 ≡ Some (replicate 128 0) → IsGateOpen size c → ⊥
zeros_shut size c zeros is_open = let words : 0 ≡ first_word (Some open_gate) = ap first_word (sym zeros
    ∙ is_open.gate) in absurd (omega arith)

-- a disk with no open block, of which gate and log were read
pub reading_leaves : (s read : DiskState) → ((c : Contents) → s.left_since s.clock c → MayLeave s c) → NoneOpen s
    → OnlyReads s read → LeavesOnly s read (SettlesLike s.size s.contents)
reading_leaves s read only_now none reads = leaves_still s read (SettlesLike s.size s.contents) only_now reads.still
    (λ c left. settles_like s.size s.contents c (none_open_leaves s none c left))

-- Puts are pending.
module _ (s read end : DiskState) (reads : OnlyReads s read) (puts : List Put)
    (pending : ArePending s.size s.contents puts) where
  settled_by_puts : IsSettled s.size s.contents (with_puts puts s.contents)
  settled_by_puts = inr (pending.gate, puts, pending.log, λ n. refl)

  with_puts_read : (n : ℕ) → with_puts puts read.contents n ≡ with_puts puts s.contents n
  with_puts_read n = with_puts_same puts read.contents s.contents n (λ other. reads.still.contents n)

  -- a redo of them, from what it leaves of the disk as it was read
  pub redone_leaves : ((c : Contents) → s.left_since s.clock c → MayLeave s c) → NoneOpen s
      → (NoneOpen read → (size : ℕ) → ArePending size read.contents puts
      → LeavesOnly read end (SettlesAs size (with_puts puts read.contents)))
      → LeavesOnly s end (SettlesLike s.size s.contents)
  redone_leaves only_now none redone = leaves_on s read end (SettlesLike s.size s.contents)
      (SettlesAs s.size (with_puts puts read.contents)) (reading_leaves s read only_now none reads)
      (redone (λ n. reads.is_open n ∙ none n) s.size (subst (λ (k : Contents). ArePending s.size k puts)
      (sym (same_contents s.contents read.contents reads.still.contents)) pending)) like
    where
      like : (c : Contents) → SettlesAs s.size (with_puts puts read.contents) c → SettlesLike s.size s.contents c
      like c settles settled is =
          let same : settled ≡ with_puts puts s.contents = settled_same s.size s.contents settled
          (with_puts puts s.contents) is settled_by_puts in
          settles_from s.size settled (with_puts puts read.contents) c (λ n out. with_puts_read n
          ∙ sym (ap (λ (k : Contents). k n) same)) settles

  pub redone_recovered : SameOutside IsGate (with_puts puts read.contents) end.contents
      → end.contents 3 ≡ Some (replicate 128 0) → IsRecovered s.size s.contents end.contents
  redone_recovered all zeros = record {
    settled = with_puts puts s.contents;
    is_settled = settled_by_puts;
    others = λ n out. all n out ∙ with_puts_read n;
    gate = zeros_shut s.size end.contents zeros;
    emptied = λ is_open. zeros;
    kept = λ shut. absurd (shut pending.gate);
  }

-- The gate is closed.
pub closed_recovered : (s read : DiskState) → OnlyReads s read → (IsGateOpen s.size s.contents → ⊥)
    → IsRecovered s.size s.contents read.contents
closed_recovered s read reads shut = record {
  settled = s.contents;
  is_settled = inl (shut, λ n. refl);
  others = λ n out. reads.still.contents n;
  gate = λ is_open.
      shut (subst (IsGateOpen s.size) (same_contents s.contents read.contents reads.still.contents) is_open);
  emptied = λ is_open. absurd (shut is_open);
  kept = λ closed. reads.still.contents 3;
}

pub like_before : (s synced : DiskState) → Still s synced → synced.size ≡ s.size → (c : Contents)
    → SettlesLike synced.size synced.contents c → SettlesLike s.size s.contents c
like_before s synced still size c = along (λ n d. SettlesLike n d c) s synced size still.contents

-- The first sync.
module _ (s synced : DiskState) (syncing : LeavesOnly s synced (MayLeave s)) where
  pub syncing_leaves : LeavesOnly s synced (SettlesLikeBefore s)
  syncing_leaves = leaves_weaker s synced (MayLeave s) (SettlesLikeBefore s) syncing
      (λ c left. (c, left, settles_like s.size c c refl))

  pub recovering_leaves : (end : DiskState) → Still s synced → synced.size ≡ s.size
      → LeavesOnly synced end (SettlesLike synced.size synced.contents) → LeavesOnly s end (SettlesLikeBefore s)
  recovering_leaves end still size recovered = leaves_on s synced end (SettlesLikeBefore s)
      (SettlesLike synced.size synced.contents) syncing_leaves recovered
      (λ c like. (s.contents, (λ n closed. refl), like_before s synced still size c like))

-- and after it
pub synced_leaves : (s synced end : DiskState) → Still s synced → synced.size ≡ s.size
    → LeavesOnly synced end (SettlesLike synced.size synced.contents)
    → LeavesOnly synced end (SettlesLike s.size s.contents)
synced_leaves s synced end still size recovered = leaves_weaker synced end (SettlesLike synced.size synced.contents)
    (SettlesLike s.size s.contents) recovered (like_before s synced still size)
