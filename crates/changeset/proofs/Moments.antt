-- What a crash leaves at each moment of a commit and of a redo.
use Rattle.std.proofs.Common.{◌≡◌, ◌⊎◌, inl, inr, ⊎_elim, ℕ, ◌<◌, ◌≤◌, Bool, true, false, List, Option, Some, None}
use Rattle.std.proofs.Common.{◌==◌, refl, sym, ◌∙◌, ap, arith}
use Rattle.std.specs.Cmp.Lexicographic.{pointwise}
use Rattle.std.specs.Bool.{Decides}
use Rattle.std.proofs.lemmas.Bool.Decides.{Decides-eqb}
use Rattle.std.proofs.lemmas.Slice.Eq.{slice_eq-Decides}
use Rattle.blockdisk.specs.Common.{Contents, DiskState, MayLeave, NoneOpen, SameOutside, Near, Modifies, LeavesOnly}
use Rattle.blockdisk.specs.Common.{modifies_on, modifies_wider, leaves_on, leaves_weaker}
use Rattle.spec_image.specs.declared.put.Put.{Put}
use Rattle.spec_image.specs.Common.{times, IsVolumeSize, log_start, table_start, open_gate, IsGateOpen, targets}
use Rattle.spec_image.specs.Common.{IsTarget, IsLog, with_puts}
use Rattle.spec_image.proofs.Common.{some_same, some_none}
use Rattle.changeset.specs.Common.{IsPutIn, IsGate, IsInLog, IsGateOrLog, IsShut, SettlesAs, AllOrNone, ArePending}
use Rattle.changeset.proofs.PutLists.{all_in, with_puts_same, with_puts_other, images_same}

-- A gate is open or closed.

test_cases : (b : Bool) (P : Type 0) → Decides b P → P ⊎ (P → ⊥)
test_cases true P test = inl (test.0 refl)
test_cases false P test = inr (λ is. let e : false ≡ true = test.1 is in cc)

gate_cases : (held : Option (List ℕ)) (words : List ℕ) → (held ≡ Some words) ⊎ (held ≡ Some words → ⊥)
gate_cases None words = inr (λ e. some_none (sym e))
gate_cases (Some held) words = ⊎_elim (λ same. inl (ap Some same)) (λ other. inr (λ e. other (some_same e)))
    (test_cases (pointwise (λ a b. a == b) held words) (held ≡ words)
    (slice_eq-Decides {E = λ a b. a == b} (λ a b. Decides-eqb a b) held words
    (pointwise (λ a b. a == b) held words) refl))

-- What contents settle to.

pub settles_itself : (size : ℕ) (wanted c : Contents) → (IsGateOpen size c → ⊥)
    → SameOutside (IsGateOrLog size) wanted c → SettlesAs size wanted c
settles_itself size wanted c shut same = record { settled = c; is_settled = inl (shut, λ n. refl); same = same }

pub settles_from : (size : ℕ) (first wanted c : Contents) → SameOutside (IsGateOrLog size) first wanted
    → SettlesAs size wanted c → SettlesAs size first c
settles_from size first wanted c same settles = record {
  settled = settles.settled;
  is_settled = settles.is_settled;
  same = λ n out. settles.same n out ∙ same n out;
}

module _ (size : ℕ) (puts : List Put) (logged : Contents) (volume : IsVolumeSize size)
    (log : IsLog size logged puts) where
  -- the targets are neither gate nor log
  pub target_outside : (n : ℕ) → IsPutIn puts n → IsGateOrLog size n → ⊥
  target_outside n there is = away (all_in (IsTarget size) puts n log.in_range there)
    where
      away : IsTarget size n → ⊥
      away (inl first) = omega (arith, is.0)
      away (inr (inl second)) = omega (arith, is.0)
      away (inr (inr behind)) = omega (arith, is.1)

  -- with nothing written but gate and targets the log stays good
  log_stays : (c : Contents) → SameOutside (λ n. IsGate n ⊎ IsPutIn puts n) logged c → IsLog size c puts
  log_stays c same = record {
    header = in_log 4 (omega arith) (omega arith) ∙ log.header;
    some = log.some;
    few = log.few;
    distinct = log.distinct;
    in_range = log.in_range;
    images = images_same logged c log_start puts log.images (λ n low high. in_log n (omega arith) (let few = log.few in
        omega arith));
  }
    where
      in_log : (n : ℕ) → 4 ≤ n → n < table_start size → c n ≡ logged n
      in_log n low high = same n (⊎_elim (λ gate. omega arith) (λ there. target_outside n there (omega arith, high)))

  -- an open gate then has the puts pending
  pub opened_pending : (c : Contents) → SameOutside IsGate logged c → c 3 ≡ Some open_gate → ArePending size c puts
  opened_pending c same gate = record {
    gate = record { volume = volume; gate = gate };
    log = log_stays c (λ n out. same n (λ here. out (inl here)));
  }

  -- then an open gate means all puts
  pub by_gate : (c : Contents) → SameOutside (λ n. IsGate n ⊎ IsPutIn puts n) logged c
      → SettlesAs size (with_puts puts logged) c ⊎ (IsGateOpen size c → ⊥)
  by_gate c same = ⊎_elim
      (λ gate. inl (record {
        settled = with_puts puts c;
        is_settled = inr (record { volume = volume; gate = gate }, puts, log_stays c same, λ n. refl);
        same = λ n out. with_puts_same puts c logged n
            (λ none. same n (⊎_elim (λ is. out (omega arith, omega arith)) (λ there. omega arith)));
      }))
      (λ other. inr (λ is_open. other is_open.gate)) (gate_cases (c 3) open_gate)

near_only : (In : ℕ → Type 0) (s : DiskState) (c : Contents) → NoneOpen s → Near In s c → SameOutside In s.contents c
near_only In s c none near n out = near.2 n out ∙ near.1 n (none n)

-- A redo: an open gate and a good log on the disk.
module _ (size : ℕ) (puts : List Put) (s placed : DiskState) (none : NoneOpen s)
    (pending : ArePending size s.contents puts)
    (places : LeavesOnly s placed (Near (IsPutIn puts) s)) where
  abbrev Redone : Contents → Type 0
  Redone = SettlesAs size (with_puts puts s.contents)

  pub placing_leaves : LeavesOnly s placed Redone
  placing_leaves = leaves_weaker s placed (Near (IsPutIn puts) s) Redone places near
    where
      near : (c : Contents) → Near (IsPutIn puts) s c → Redone c
      near c is =
          let same = near_only (IsPutIn puts) s c none is in
          let gate_stays : c 3 ≡ s.contents 3 = same 3
          (λ there. target_outside size puts s.contents pending.gate.volume pending.log 3 there
          (omega arith, omega arith)) in
          ⊎_elim (λ settles. settles)
          (λ shut. absurd (shut (record { volume = pending.gate.volume; gate = gate_stays ∙ pending.gate.gate })))
          (by_gate size puts s.contents pending.gate.volume pending.log c (λ n out. same n (λ there. out (inr there))))

  pub redo_leaves : (end : DiskState) → NoneOpen placed → ((n : ℕ) → placed.contents n ≡ with_puts puts s.contents n)
      → LeavesOnly placed end (Near IsGate placed) → LeavesOnly s end Redone
  redo_leaves end none_placed all closes = leaves_on s placed end Redone (Near IsGate placed) placing_leaves closes near
    where
      near : (c : Contents) → Near IsGate placed c → Redone c
      near c is =
          let same = near_only IsGate placed c none_placed is in
          ⊎_elim (λ settles. settles)
          (λ shut. settles_itself size (with_puts puts s.contents) c shut
          (λ n out. same n (λ here. out (omega arith, omega arith)) ∙ all n))
          (by_gate size puts s.contents pending.gate.volume pending.log c
          (λ n out. same n (λ here. out (inl here)) ∙ all n
          ∙ with_puts_other puts s.contents n (let not_there : 0 < times n (targets puts)
          → ⊥ = (λ there. out (inr there)) in omega arith)))

outside_log : (s logged : DiskState) → Modifies (IsInLog s.size) s logged
    → SameOutside (IsGateOrLog s.size) s.contents logged.contents
outside_log s logged logs n out = logs.contents n (λ behind. out (omega arith, behind.1))

-- what the puts make of the disk with its gate open, they make of the disk before
pub all_outside : (puts : List Put) (s logged opened : DiskState) → Modifies (IsInLog s.size) s logged
    → Modifies IsGate logged opened
    → SameOutside (IsGateOrLog s.size) (with_puts puts s.contents) (with_puts puts opened.contents)
all_outside puts s logged opened logs opens n out = with_puts_same puts opened.contents s.contents n
    (λ other. opens.contents n (λ here. out (omega arith, omega arith)) ∙ outside_log s logged logs n out)

-- the blocks of a commit
pub opening_modifies : (puts : List Put) (s logged opened : DiskState) → Modifies (IsInLog s.size) s logged
    → Modifies IsGate logged opened → Modifies (λ n. IsGateOrLog s.size n ⊎ IsPutIn puts n) s opened
opening_modifies puts s logged opened logs opens = modifies_on Written s logged opened
    (modifies_wider (IsInLog s.size) Written s logged (λ n behind. inl (omega (arith, behind.0), behind.1)) logs)
    (modifies_wider IsGate Written logged opened (λ n here. inl (omega arith, omega arith)) opens)
  where
    Written : ℕ → Type 0
    Written n = IsGateOrLog s.size n ⊎ IsPutIn puts n

-- A commit: the log is written, then the gate is opened, then it is redone.
module _ (puts : List Put) (s logged : DiskState) (volume : IsVolumeSize s.size) (shut : IsShut s)
    (near_log : LeavesOnly s logged (Near (IsInLog s.size) s)) where
  pub logging_leaves : LeavesOnly s logged (AllOrNone puts s)
  logging_leaves = leaves_weaker s logged (Near (IsInLog s.size) s) (AllOrNone puts s) near_log near
    where
      near : (c : Contents) → Near (IsInLog s.size) s c → AllOrNone puts s c
      near c is = inl (
        is.0,
        is.1,
        settles_itself s.size is.0 c (λ is_open. shut is.0 is.1
            (record { volume = is_open.volume; gate = sym (is.2 3 (λ behind. omega arith)) ∙ is_open.gate }))
            (λ n out. is.2 n (λ behind. out (omega arith, behind.1))),
      )

  module _ (logs : Modifies (IsInLog s.size) s logged) (none : NoneOpen logged)
      (log : IsLog s.size logged.contents puts)
      (opened : DiskState) (near_gate : LeavesOnly logged opened (Near IsGate logged)) where
    pub opening_leaves : LeavesOnly s opened (AllOrNone puts s)
    opening_leaves = leaves_on s logged opened (AllOrNone puts s) (Near IsGate logged) logging_leaves near_gate near
      where
        near : (c : Contents) → Near IsGate logged c → AllOrNone puts s c
        near c is =
            let same = near_only IsGate logged c none is in
            ⊎_elim
            (λ settles. inr (settles_from s.size (with_puts puts s.contents) (with_puts puts logged.contents) c
            (λ n out. with_puts_same puts logged.contents s.contents n (λ other. outside_log s logged logs n out))
            settles))
            (λ closed. inl (
              s.contents,
              (λ n is_closed. refl),
              settles_itself s.size s.contents c closed (λ n out. same n (λ here. out (omega arith, omega arith))
                  ∙ outside_log s logged logs n out),
            ))
            (by_gate s.size puts logged.contents volume log c (λ n out. same n (λ here. out (inl here))))

    pub commit_leaves : Modifies IsGate logged opened → (end : DiskState)
        → LeavesOnly opened end (SettlesAs s.size (with_puts puts opened.contents))
        → LeavesOnly s end (AllOrNone puts s)
    commit_leaves opens end redone = leaves_on s opened end (AllOrNone puts s)
        (SettlesAs s.size (with_puts puts opened.contents)) opening_leaves redone
        (λ c settles. inr (settles_from s.size (with_puts puts s.contents) (with_puts puts opened.contents) c
        (all_outside puts s logged opened logs opens) settles))

-- nothing written
pub still_leaves : (puts : List Put) (s s' : DiskState) → IsShut s → LeavesOnly s s' (MayLeave s)
    → LeavesOnly s s' (AllOrNone puts s)
still_leaves puts s s' shut still = leaves_weaker s s' (MayLeave s) (AllOrNone puts s) still
    (λ c left. inl (c, left, settles_itself s.size c c (shut c left) (λ n out. refl)))
