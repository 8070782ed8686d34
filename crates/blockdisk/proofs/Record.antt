-- How the record of a disk in memory continues: one more call leaves the moments before it as they were.
use Rattle.std.proofs.Common.{◌≡◌, ◌⊎◌, inl, inr, ⊎_elim, ℕ, ◌+◌, ◌<◌, ◌≤◌, Bool, true, false, List, [], ◌∷◌, ◌++◌}
use Rattle.std.proofs.Common.{length, get_or, slice_set, replicate, Option, Some, None, refl, sym, ◌∙◌, ap, subst}
use Rattle.std.proofs.Common.{arith, take, length-append, length-take, Result, Ok, Err, OnOk, OnErr, IfErr, IsErrOf}
use Rattle.std.proofs.lemmas.Bool.{cases_lt}
use Rattle.std.proofs.lemmas.List.{take_all, take-append-le, get_or-set_same, get_or-set_other, get_or-replicate}
use Rattle.std.proofs.lemmas.List.{get_or_past, length-replicate, take_more}
use Rattle.std.proofs.Math.ListN.{length-set}
use Rattle.blockdisk.specs.Common.{Contents, MayLeave, Passes, Writes, Syncs, Memory, DiskMoment, after_call}
use Rattle.blockdisk.specs.Common.{after_calls, moment_at, Leaves, moment_now, memory_state, IsReplayed, held}
use Rattle.blockdisk.specs.Common.{written, run_written, write_refused, synced, IsWrite}
use Rattle.blockdisk.specs.declared.fault.Fault.{Fault}
use Rattle.blockdisk.specs.declared.fault.Fault.TheVariants.{Device, Damaged}
use Rattle.blockdisk.specs.declared.memory.DiskCall.{DiskCall}
use Rattle.blockdisk.specs.declared.memory.DiskCall.TheVariants.{Write, Sync}

after_append : (m : DiskMoment) (xs ys : List DiskCall) → after_calls m (xs ++ ys) ≡ after_calls (after_calls m xs) ys
after_append m [] ys = refl
after_append m (x ∷ xs) ys = after_append (after_call m x) xs ys

one_longer : (calls : List DiskCall) (call : DiskCall) → length (calls ++ call ∷ []) ≡ length calls + 1
one_longer calls call = omega (arith, length-append calls (call ∷ []))

-- m with one more call in its record, which made these blocks of it
abbrev further : Memory → DiskCall → List (Option (List ℕ)) → List Bool → Memory
further m call blocks opened = record m { blocks = blocks; calls = m.calls ++ call ∷ []; opened = opened }

abbrev at_first : Memory → DiskMoment
at_first m = record { blocks = m.first; opened = replicate (length m.first) false }

module _ (m : Memory) (call : DiskCall) (blocks : List (Option (List ℕ))) (opened : List Bool) where
  before : (k : ℕ) → k ≤ length m.calls → moment_at (further m call blocks opened) k ≡ moment_at m k
  before k le = ap (λ (calls : List DiskCall). after_calls (at_first m) calls) (take-append-le k m.calls (call ∷ []) le)

  after : moment_at (further m call blocks opened) (length (m.calls ++ call ∷ []))
      ≡ after_call (moment_at m (length m.calls)) call
  after =
      ap (λ (calls : List DiskCall). after_calls (at_first m) calls)
      (take_all (length (m.calls ++ call ∷ [])) (m.calls ++ call ∷ []) (omega arith))
      ∙ after_append (at_first m) m.calls (call ∷ [])
      ∙ ap (λ (calls : List DiskCall). after_call (after_calls (at_first m) calls) call)
      (sym (take_all (length m.calls) m.calls (omega arith)))

  -- while there is room, the last moment of the record is now
  now_is : IsReplayed m → length m.calls < m.room → moment_at m (length m.calls) ≡ moment_now m
  now_is is room = λ i. record { blocks = is.blocks i; opened = is.opened room i }

  pub passes_further : IsReplayed m → length m.calls < m.room
      → Passes (memory_state m) (memory_state (further m call blocks opened))
      (MayLeave (memory_state (further m call blocks opened)))
  passes_further is room = record {
    later = omega (arith, one_longer m.calls call);
    nothing_else = λ t c le left. ⊎_elim
        (λ had. inl (past t c had.0 had.1 had.2 had.3 (cases_lt had.0 (length m.calls)))) (λ here. inr here) left;
    new_since = λ t u c le le' left. ⊎_elim
        (λ had. inl (past t c had.0 had.1 had.2 had.3 (cases_lt had.0 (length m.calls)))) (λ here. inr (inr here)) left;
    keeps = λ t c le left. ⊎_elim
        (λ had. inl (
          had.0,
          had.1,
          omega (arith, one_longer m.calls call, had.2),
          subst (λ (n : DiskMoment). Leaves n c) (sym (before had.0 (omega (arith, had.2)))) had.3,
        ))
        (λ here. inl (
          length m.calls,
          le,
          omega (arith, one_longer m.calls call),
          subst (λ (n : DiskMoment). Leaves n c) (sym (before (length m.calls) (omega arith) ∙ now_is is room)) here,
        )) left;
  }
    where
      past : (t : ℕ) (c : Contents) (k : ℕ) → t ≤ k → k < length (m.calls ++ call ∷ [])
          → Leaves (moment_at (further m call blocks opened) k) c → (k < length m.calls) ⊎ (length m.calls ≤ k)
          → (memory_state m).left_since t c
      past t c k since below leaves (inl earlier) = inl
          (k, since, earlier, subst (λ (n : DiskMoment). Leaves n c) (before k (omega arith)) leaves)
      past t c k since below leaves (inr last) =
          let here : k ≡ length m.calls = omega (arith, one_longer m.calls call) in
          inr (subst (λ (n : DiskMoment). Leaves n c) (before k (omega arith) ∙ ap (moment_at m) here
          ∙ now_is is room) leaves)

pub writes_written : (m : Memory) (n : ℕ) (words : List ℕ) → n < length m.blocks → IsReplayed m
    → length m.calls < m.room → Writes n (memory_state m) (memory_state (written m n words))
writes_written m n words inside is room = record {
  contents = λ k other. get_or-set_other m.blocks n k (Some words) None other;
  opened = get_or-set_same m.opened n true false (omega (arith, is.same_size));
  is_open = λ k other. get_or-set_other m.opened n k true false other;
  time = passes_further m (Write n words) (slice_set m.blocks n (Some words)) (slice_set m.opened n true) is room;
}

pub all_closed : (n k : ℕ) → (k < n) ⊎ (n ≤ k) → get_or (replicate n false) k false ≡ false
all_closed n k (inl less) = get_or-replicate n k false false less
all_closed n k (inr past) = get_or_past (replicate n false) k false (omega (arith, length-replicate n false))

pub syncs_synced : (m : Memory) → IsReplayed m → length m.calls < m.room
    → Syncs (memory_state m) (memory_state (synced m))
syncs_synced m is room = record {
  contents = λ k. refl;
  closed = λ k. all_closed (length m.opened) k (cases_lt k (length m.opened));
  time = passes_further m Sync m.blocks (replicate (length m.opened) false) is room;
}

pub replayed_written : (m : Memory) (n : ℕ) (words : List ℕ) → IsReplayed m → length m.calls < m.room
    → IsReplayed (written m n words)
replayed_written m n words is room =
    let last = after m (Write n words) (slice_set m.blocks n (Some words)) (slice_set m.opened n true) in
    let now = now_is m (Write n words) m.blocks m.opened is room in record {
      same_size = length-set m.opened n true ∙ is.same_size ∙ sym (length-set m.blocks n (Some words));
      first_size = is.first_size ∙ sym (length-set m.blocks n (Some words));
      blocks = ap (λ (w : DiskMoment). w.blocks) last
          ∙ ap (λ (w : DiskMoment). (after_call w (Write n words)).blocks) now;
      opened = λ more. ap (λ (w : DiskMoment). w.opened) last
          ∙ ap (λ (w : DiskMoment). (after_call w (Write n words)).opened) now;
      fits = omega (arith, one_longer m.calls (Write n words));
      few = omega (arith, is.few, length-set m.blocks n (Some words));
    }

pub replayed_synced : (m : Memory) → IsReplayed m → length m.calls < m.room → IsReplayed (synced m)
replayed_synced m is room =
    let last = after m Sync m.blocks (replicate (length m.opened) false) in
    let now = now_is m Sync m.blocks m.opened is room in record {
      same_size = length-replicate (length m.opened) false ∙ is.same_size;
      first_size = is.first_size;
      blocks = ap (λ (w : DiskMoment). w.blocks) last ∙ ap (λ (w : DiskMoment). (after_call w Sync).blocks) now;
      opened = λ more. ap (λ (w : DiskMoment). w.opened) last ∙ ap (λ (w : DiskMoment). (after_call w Sync).opened) now;
      fits = omega (arith, one_longer m.calls Sync);
      few = is.few;
    }

-- Runs

-- A run, and one more block of it
pub run_more : (m : Memory) (first : ℕ) (blocks : List (List ℕ)) (count : ℕ) → count < length blocks
    → run_written m first (take (count + 1) blocks)
    ≡ written (run_written m first (take count blocks)) (first + count) (get_or blocks count [])
run_more m first blocks count less = ap (run_written m first) (take_more blocks count [] less)
    ∙ run_append m first (take count blocks) (get_or blocks count [])
    ∙ ap (λ n. written (run_written m first (take count blocks)) (first + n) (get_or blocks count [])) long
  where
    run_append : (m : Memory) (first : ℕ) (xs : List (List ℕ)) (words : List ℕ)
        → run_written m first (xs ++ words ∷ []) ≡ written (run_written m first xs) (first + length xs) words
    run_append m first [] words =
        let here : first ≡ first + 0 = omega arith in
        ap (λ n. written m n words) here
    run_append m first (x ∷ xs) words =
        let there : first + 1 + length xs ≡ first + length (x ∷ xs) = omega arith in
        run_append (written m first x) (first + 1) xs words
        ∙ ap (λ n. written (run_written (written m first x) (first + 1) xs) n words) there

    long : length (take count blocks) ≡ count
    long = omega (arith, length-take count blocks, less)

-- one write of a run, as the trait states it
pub write_call : (m m' : Memory) (n : ℕ) (words : List ℕ) (answer : Result (Unit {0}) Fault) → n < length m.blocks
    → OnOk answer (m' ≡ written m n words) → OnErr answer (m' ≡ write_refused m n)
    → IfErr answer (λ fault. fault ≡ Device) → Writes n (memory_state m) (memory_state m')
    → IsWrite n words (memory_state m) (memory_state m') answer
write_call m m' n words (Ok done) inside made refused device writes = record {
  put = λ h. ap (λ (w : Memory). held w.blocks n) made ∙ get_or-set_same m.blocks n (Some words) None inside;
  moves = λ h. omega (arith, ap (λ (w : Memory). length w.calls) made, one_longer m.calls (Write n words));
  writes = λ h. writes;
  same = record {
    size = ap (λ (w : Memory). length w.blocks) made ∙ length-set m.blocks n (Some words);
    was_honest = λ h. h;
  };
  device = λ is. cc;
  failed = λ is. cc;
  served = ap (λ (w : Memory). w.failures) made;
}
write_call m m' n words (Err fault) inside made refused device writes = record {
  put = λ h. tt;
  moves = λ h. tt;
  writes = λ h. writes;
  same = record { size = ap (λ (w : Memory). length w.blocks) refused; was_honest = λ h. h };
  device = λ is. other fault device is;
  failed = λ is. ap (λ (w : Memory). w.failures) refused;
  served = tt;
}
  where
    other : (fault : Fault) → fault ≡ Device → IsErrOf {T = Unit {0}} (Err fault) Damaged → ⊥
    other Device is damaged = cc
    other Damaged is damaged = cc

-- the number of blocks and calls after a write that succeeded
pub write_sizes : (m m' : Memory) (n : ℕ) (words : List ℕ) → m' ≡ written m n words
    → (length m'.blocks ≡ length m.blocks) × (length m'.calls ≡ length m.calls + 1) × (m'.room ≡ m.room)
write_sizes m m' n words made = (
  ap (λ (w : Memory). length w.blocks) made ∙ length-set m.blocks n (Some words),
  ap (λ (w : Memory). length w.calls) made ∙ one_longer m.calls (Write n words),
  ap (λ (w : Memory). w.room) made,
)
