-- How the record of a file in memory continues: one more step leaves the moments before it as they were.
use Rattle.std.proofs.Common.{◌≡◌, ◌⊎◌, inl, inr, ⊎_elim, ℕ, suc, ◌+◌, ◌-◌, ◌*◌, ◌<◌, ◌≤◌, Bool, true, false, List}
use Rattle.std.proofs.Common.{[], ◌∷◌, ◌++◌, length, get_or, take, drop, replicate, refl, sym, ◌∙◌, ap, subst, arith}
use Rattle.std.proofs.Common.{length-append, add-zero, length-drop}
use Rattle.std.proofs.lemmas.Bool.{cases_lt, false≢true}
use Rattle.std.proofs.lemmas.List.{take_all, take-append-le, drop-append-le, get_or_append_left, get_or-append_right}
use Rattle.std.proofs.lemmas.List.{get_or-take, get_or-drop, get_or-replicate, length-replicate, length-take-le}
use Rattle.imagefile.specs.Common.{Remains, Inside, window, MayRemain, FilePasses, FileWrites, FileSyncs, Step, Wrote}
use Rattle.imagefile.specs.Common.{Synced, spelled, bytes_in, FileMemory, memory_of, put, FileMoment, after_step}
use Rattle.imagefile.specs.Common.{after_steps, moment_at, FileLeaves, moment_now, memory_state, IsFileReplayed}
use Rattle.imagefile.specs.Common.{begun, bytes_written, write_refused, bytes_synced}
use Rattle.blockdisk.specs.Common.{one_more}
use Rattle.imagefile.specs.declared.memory.FileCall.{FileCall}
use Rattle.imagefile.specs.declared.memory.FileCall.TheVariants.{Write, Sync}
use Rattle.blockdisk.proofs.Record.{all_closed}

-- Elements that are put from a place

module _ {A : Type 0} (at : ℕ) (xs all : List A) (fits : at + length xs ≤ length all) where
  front : length (take at all) ≡ at
  front = length-take-le at all (omega arith)

  pub length-put : length (put at xs all) ≡ length all
  unfolding put
  length-put =
      let rest = drop (at + length xs) all in
      omega (
        arith,
        length-append (take at all) (xs ++ rest),
        length-append xs rest,
        front,
        length-drop (at + length xs) all,
      )

  pub put_inside : (p : ℕ) (d : A) → Inside at (length xs) p → get_or (put at xs all) p d ≡ get_or xs (p - at) d
  unfolding put
  put_inside p d inside =
      let rest = drop (at + length xs) all in
      get_or-append_right (take at all) (xs ++ rest) at p d front inside.low
      ∙ get_or_append_left xs rest d (p - at) (omega (arith, inside.low, inside.high))

  pub put_outside : (p : ℕ) (d : A) → (Inside at (length xs) p → ⊥) → get_or (put at xs all) p d ≡ get_or all p d
  unfolding put
  put_outside p d out = ⊎_elim below (λ past. above past (cases_lt p (at + length xs))) (cases_lt p at)
    where
      below : p < at → get_or (put at xs all) p d ≡ get_or all p d
      below less = get_or_append_left (take at all) (xs ++ drop (at + length xs) all) d p (omega (arith, front))
          ∙ get_or-take at all p d less

      above : at ≤ p → (p < at + length xs) ⊎ (at + length xs ≤ p) → get_or (put at xs all) p d ≡ get_or all p d
      above low (inl high) = absurd (out (record { low = low; high = high }))
      above low (inr past) =
          let rest = drop (at + length xs) all in
          let back : at + length xs + (p - at - length xs) ≡ p = omega arith in
          get_or-append_right (take at all) (xs ++ rest) at p d front low
          ∙ get_or-append_right xs rest (length xs) (p - at) d refl (omega arith)
          ∙ get_or-drop (at + length xs) all (p - at - length xs) d ∙ ap (λ k. get_or all k d) back

-- Windows of a list

pub window-list : (b : ℕ → ℕ) (at : ℕ) (xs : List ℕ) → ((i : ℕ) → i < length xs → b (at + i) ≡ get_or xs i 0)
    → window b at (length xs) ≡ xs
unfolding window
window-list b at [] each = refl
window-list b at (x ∷ xs) each =
    let here : b at ≡ x = ap b (sym (add-zero at)) ∙ each 0 (omega arith) in
    let rest : window b (at + 1) (length xs) ≡ xs = window-list b (at + 1) xs (λ i less.
    let next : at + 1 + i ≡ at + suc i = omega arith in
    ap b next ∙ each (suc i) (omega arith)) in
    ap (λ y. y ∷ window b (at + 1) (length xs)) here ∙ ap (λ ys. x ∷ ys) rest

-- The record

pub begins : (bytes first written given : List ℕ) (calls : List FileCall) (opened : List Bool) (room byte_room : ℕ)
    → bytes ≡ given → first ≡ given → calls ≡ [] → written ≡ []
    → opened ≡ replicate (length given) false → byte_room ≡ 1024 * room
    → memory_of bytes first calls written opened room byte_room 0 ≡ begun given room
unfolding spelled
begins bytes first written given calls opened room byte_room b f c w o r =
    λ i. record {
      bytes = b i;
      first = f i;
      steps = spelled (c i) (w i);
      opened = o i;
      written = length (w i);
      room = room;
      byte_room = r i;
      failures = 0;
    }

pub replayed_begun : (given : List ℕ) (room : ℕ) → IsFileReplayed (begun given room)
replayed_begun given room = record {
  same_size = length-replicate (length given) false;
  first_size = refl;
  bytes = refl;
  opened = λ more. refl;
  fits = omega arith;
  bytes_fit = omega arith;
}

pub spelled-write : (calls : List FileCall) (written xs : List ℕ) (at : ℕ) → bytes_in calls ≡ length written
    → spelled (calls ++ Write at (length xs) ∷ []) (written ++ xs) ≡ spelled calls written ++ Wrote at xs ∷ []
unfolding spelled bytes_in
spelled-write [] [] xs at total = ap (λ ys. Wrote at ys ∷ []) (take_all (length xs) xs (omega arith))
spelled-write [] (w ∷ written) xs at total = absurd (too_many (length written) total)
  where
    too_many : (n : ℕ) → 0 ≡ suc n → ⊥
    too_many n h = omega (arith, h)
spelled-write (Write to n ∷ calls) written xs at total =
    let few : n ≤ length written = omega (arith, total) in
    let rest : bytes_in calls ≡ length (drop n written) = omega (arith, total, length-drop n written) in
    ap (λ ys. Wrote to ys ∷ spelled (calls ++ Write at (length xs) ∷ []) (drop n (written ++ xs)))
    (take-append-le n written xs few)
    ∙ ap (λ ys. Wrote to (take n written) ∷ spelled (calls ++ Write at (length xs) ∷ []) ys)
    (drop-append-le n written xs few)
    ∙ ap (λ steps. Wrote to (take n written) ∷ steps) (spelled-write calls (drop n written) xs at rest)
spelled-write (Sync ∷ calls) written xs at total = ap (λ steps. Synced ∷ steps)
    (spelled-write calls written xs at total)

pub spelled-sync : (calls : List FileCall) (written : List ℕ) → spelled (calls ++ Sync ∷ []) written
    ≡ spelled calls written ++ Synced ∷ []
unfolding spelled
spelled-sync [] written = refl
spelled-sync (Write to n ∷ calls) written = ap (λ steps. Wrote to (take n written) ∷ steps)
    (spelled-sync calls (drop n written))
spelled-sync (Sync ∷ calls) written = ap (λ steps. Synced ∷ steps) (spelled-sync calls written)

pub length-spelled : (calls : List FileCall) (written : List ℕ) → length (spelled calls written) ≡ length calls
unfolding spelled
length-spelled [] written = refl
length-spelled (Write at n ∷ calls) written = omega (arith, length-spelled calls (drop n written))
length-spelled (Sync ∷ calls) written = omega (arith, length-spelled calls written)

pub bytes_in-append : (calls more : List FileCall) → bytes_in (calls ++ more) ≡ bytes_in calls + bytes_in more
unfolding bytes_in
bytes_in-append [] more = omega arith
bytes_in-append (Write at n ∷ calls) more = omega (arith, bytes_in-append calls more)
bytes_in-append (Sync ∷ calls) more = bytes_in-append calls more

-- Moments

after_append : (m : FileMoment) (xs ys : List Step) → after_steps m (xs ++ ys) ≡ after_steps (after_steps m xs) ys
after_append m [] ys = refl
after_append m (x ∷ xs) ys = after_append (after_step m x) xs ys

one_longer : (steps : List Step) (step : Step) → length (steps ++ step ∷ []) ≡ length steps + 1
one_longer steps step = omega (arith, length-append steps (step ∷ []))

-- m with one more step in its record, which made this of it
abbrev further : FileMemory → Step → List ℕ → List Bool → ℕ → FileMemory
further m step bytes opened written = record m {
  bytes = bytes;
  steps = m.steps ++ step ∷ [];
  opened = opened;
  written = written;
}

abbrev at_first : FileMemory → FileMoment
at_first m = record { bytes = m.first; opened = replicate (length m.first) false }

module _ (m : FileMemory) (step : Step) (bytes : List ℕ) (opened : List Bool) (written : ℕ) where
  before : (k : ℕ) → k ≤ length m.steps → moment_at (further m step bytes opened written) k ≡ moment_at m k
  before k le = ap (λ (steps : List Step). after_steps (at_first m) steps) (take-append-le k m.steps (step ∷ []) le)

  after : moment_at (further m step bytes opened written) (length (m.steps ++ step ∷ []))
      ≡ after_step (moment_at m (length m.steps)) step
  after =
      ap (λ (steps : List Step). after_steps (at_first m) steps)
      (take_all (length (m.steps ++ step ∷ [])) (m.steps ++ step ∷ []) (omega arith))
      ∙ after_append (at_first m) m.steps (step ∷ [])
      ∙ ap (λ (steps : List Step). after_step (after_steps (at_first m) steps) step)
      (sym (take_all (length m.steps) m.steps (omega arith)))

  -- while there is room, the last moment of the record is now
  now_is : IsFileReplayed m → length m.steps < m.room → moment_at m (length m.steps) ≡ moment_now m
  now_is is room = λ i. record { bytes = is.bytes i; opened = is.opened room i }

  pub passes_further : IsFileReplayed m → length m.steps < m.room
      → FilePasses (memory_state m) (memory_state (further m step bytes opened written))
      (MayRemain (memory_state (further m step bytes opened written)))
  passes_further is room = record {
    later = omega (arith, one_longer m.steps step);
    nothing_else = λ t r le left. ⊎_elim
        (λ had. inl (past t r had.0 had.1 had.2 had.3 (cases_lt had.0 (length m.steps)))) (λ here. inr here) left;
    new_since = λ t u r le le' left. ⊎_elim
        (λ had. inl (past t r had.0 had.1 had.2 had.3 (cases_lt had.0 (length m.steps)))) (λ here. inr (inr here)) left;
    keeps = λ t r le left. ⊎_elim
        (λ had. inl (
          had.0,
          had.1,
          omega (arith, one_longer m.steps step, had.2),
          subst (λ (n : FileMoment). FileLeaves n r) (sym (before had.0 (omega (arith, had.2)))) had.3,
        ))
        (λ here. inl (
          length m.steps,
          le,
          omega (arith, one_longer m.steps step),
          subst (λ (n : FileMoment). FileLeaves n r) (sym (before (length m.steps) (omega arith) ∙ now_is is room))
              here,
        )) left;
  }
    where
      past : (t : ℕ) (r : Remains) (k : ℕ) → t ≤ k → k < length (m.steps ++ step ∷ [])
          → FileLeaves (moment_at (further m step bytes opened written) k) r → (k < length m.steps)
          ⊎ (length m.steps ≤ k)
          → (memory_state m).left_since t r
      past t r k since below leaves (inl earlier) = inl
          (k, since, earlier, subst (λ (n : FileMoment). FileLeaves n r) (before k (omega arith)) leaves)
      past t r k since below leaves (inr last) =
          let here : k ≡ length m.steps = omega (arith, one_longer m.steps step) in
          inr (subst (λ (n : FileMoment). FileLeaves n r) (before k (omega arith) ∙ ap (moment_at m) here
          ∙ now_is is room) leaves)

-- Calls

marks_fit : (m : FileMemory) (at n : ℕ) → IsFileReplayed m → at + n ≤ length m.bytes
    → at + length (replicate n true) ≤ length m.opened
marks_fit m at n is fits = omega (arith, is.same_size, length-replicate n true)

-- which bytes are open after a write
module _ (m : FileMemory) (at n : ℕ) (is : IsFileReplayed m) (fits : at + n ≤ length m.bytes) where
  abbrev marks : List Bool
  marks = replicate n true

  wide : (p : ℕ) → Inside at (length marks) p → Inside at n p
  wide p inside = record { low = inside.low; high = omega (arith, inside.high, length-replicate n true) }

  narrow : (p : ℕ) → Inside at n p → Inside at (length marks) p
  narrow p inside = record { low = inside.low; high = omega (arith, inside.high, length-replicate n true) }

  pub open_inside : (p : ℕ) → Inside at n p → get_or (put at marks m.opened) p false ≡ true
  open_inside p inside = put_inside at marks m.opened (marks_fit m at n is fits) p false (narrow p inside)
      ∙ get_or-replicate n (p - at) true false (omega (arith, inside.low, inside.high))

  pub open_outside : (p : ℕ) → (Inside at n p → ⊥) → get_or (put at marks m.opened) p false ≡ get_or m.opened p false
  open_outside p out = put_outside at marks m.opened (marks_fit m at n is fits) p false (λ inside. out (wide p inside))

  pub length_opened : length (put at marks m.opened) ≡ length m.opened
  length_opened = length-put at marks m.opened (marks_fit m at n is fits)

pub writes_written : (m : FileMemory) (at : ℕ) (xs : List ℕ) → IsFileReplayed m → at + length xs ≤ length m.bytes
    → length m.steps < m.room
    → FileWrites at (length xs) (memory_state m) (memory_state (bytes_written m at xs))
writes_written m at xs is fits room = record {
  bytes = λ p out. put_outside at xs m.bytes fits p 0 out;
  opened = open_inside m at (length xs) is fits;
  is_open = open_outside m at (length xs) is fits;
  time = passes_further m (Wrote at xs) (put at xs m.bytes) (put at (replicate (length xs) true) m.opened)
      (m.written + length xs) is room;
}

pub put_written : (m : FileMemory) (at : ℕ) (xs : List ℕ) → at + length xs ≤ length m.bytes
    → window (memory_state (bytes_written m at xs)).bytes at (length xs) ≡ xs
put_written m at xs fits = window-list (λ p. get_or (put at xs m.bytes) p 0) at xs (λ i less.
    let back : at + i - at ≡ i = omega arith in
    put_inside at xs m.bytes fits (at + i) 0 (record { low = omega arith; high = omega (arith, less) })
    ∙ ap (λ k. get_or xs k 0) back)

pub writes_refused : (m : FileMemory) (at n : ℕ) → IsFileReplayed m → at + n ≤ length m.bytes
    → FileWrites at n (memory_state m) (memory_state (write_refused m at n))
writes_refused m at n is fits = record {
  bytes = λ p out. refl;
  opened = open_inside m at n is fits;
  is_open = open_outside m at n is fits;
  time = record {
    later = omega arith;
    nothing_else = λ t r le left. ⊎_elim (λ had. inl (inl had)) (λ here. inr here) left;
    new_since = λ t u r le le' left. ⊎_elim (λ had. inl (inl had)) (λ here. inr (inr here)) left;
    keeps = λ t r le left. ⊎_elim (λ had. inl had) (λ here. inr (λ p closed. here p (still_closed p closed))) left;
  };
}
  where
    still_closed : (p : ℕ) → get_or (put at (replicate n true) m.opened) p false ≡ false
        → get_or m.opened p false ≡ false
    still_closed p closed = ⊎_elim (λ low. outside p (λ inside. before_it p low inside) closed)
        (λ past. ⊎_elim (λ high. absurd (false≢true (sym closed
        ∙ open_inside m at n is fits p (record { low = past; high = high }))))
        (λ end. outside p (λ inside. behind_it p end inside) closed) (cases_lt p (at + n)))
        (cases_lt p at)
      where
        before_it : (p : ℕ) → p < at → Inside at n p → ⊥
        before_it p low inside = omega (arith, inside.low)

        behind_it : (p : ℕ) → at + n ≤ p → Inside at n p → ⊥
        behind_it p end inside = omega (arith, inside.high)

        outside : (p : ℕ) → (Inside at n p → ⊥) → get_or (put at (replicate n true) m.opened) p false ≡ false
            → get_or m.opened p false ≡ false
        outside p out closed = sym (open_outside m at n is fits p out) ∙ closed

pub syncs_synced : (m : FileMemory) → IsFileReplayed m → length m.steps < m.room
    → FileSyncs (memory_state m) (memory_state (bytes_synced m))
syncs_synced m is room = record {
  bytes = λ k. refl;
  closed = λ k. all_closed (length m.opened) k (cases_lt k (length m.opened));
  time = passes_further m Synced m.bytes (replicate (length m.opened) false) m.written is room;
}

pub replayed_written : (m : FileMemory) (at : ℕ) (xs : List ℕ) → IsFileReplayed m → at + length xs ≤ length m.bytes
    → length m.steps < m.room → m.written + length xs ≤ m.byte_room → IsFileReplayed (bytes_written m at xs)
replayed_written m at xs is fits room bytes_room =
    let opened = put at (replicate (length xs) true) m.opened in
    let last = after m (Wrote at xs) (put at xs m.bytes) opened (m.written + length xs) in
    let now = now_is m (Wrote at xs) m.bytes m.opened m.written is room in record {
      same_size = length_opened m at (length xs) is fits ∙ is.same_size ∙ sym (length-put at xs m.bytes fits);
      first_size = is.first_size ∙ sym (length-put at xs m.bytes fits);
      bytes = ap (λ (w : FileMoment). w.bytes) last ∙ ap (λ (w : FileMoment). (after_step w (Wrote at xs)).bytes) now;
      opened = λ more. ap (λ (w : FileMoment). w.opened) last
          ∙ ap (λ (w : FileMoment). (after_step w (Wrote at xs)).opened) now;
      fits = omega (arith, one_longer m.steps (Wrote at xs));
      bytes_fit = bytes_room;
    }

pub replayed_refused : (m : FileMemory) (at n : ℕ) → IsFileReplayed m → at + n ≤ length m.bytes
    → IsFileReplayed (write_refused m at n)
replayed_refused m at n is fits = record {
  same_size = length_opened m at n is fits ∙ is.same_size;
  first_size = is.first_size;
  bytes = is.bytes;
  opened = λ more. absurd (no_room (length m.steps) more);
  fits = omega arith;
  bytes_fit = is.bytes_fit;
}
  where
    no_room : (k : ℕ) → k < k → ⊥
    no_room k h = omega arith

pub replayed_synced : (m : FileMemory) → IsFileReplayed m → length m.steps < m.room → IsFileReplayed (bytes_synced m)
replayed_synced m is room =
    let last = after m Synced m.bytes (replicate (length m.opened) false) m.written in
    let now = now_is m Synced m.bytes m.opened m.written is room in record {
      same_size = length-replicate (length m.opened) false ∙ is.same_size;
      first_size = is.first_size;
      bytes = ap (λ (w : FileMoment). w.bytes) last ∙ ap (λ (w : FileMoment). (after_step w Synced).bytes) now;
      opened = λ more. ap (λ (w : FileMoment). w.opened) last
          ∙ ap (λ (w : FileMoment). (after_step w Synced).opened) now;
      fits = omega (arith, one_longer m.steps Synced);
      bytes_fit = is.bytes_fit;
    }

pub written_in : (calls : List FileCall) (at n : ℕ) → bytes_in (calls ++ Write at n ∷ []) ≡ bytes_in calls + n
unfolding bytes_in
written_in calls at n = omega (arith, bytes_in-append calls (Write at n ∷ []))

pub synced_in : (calls : List FileCall) → bytes_in (calls ++ Sync ∷ []) ≡ bytes_in calls
unfolding bytes_in
synced_in calls = omega (arith, bytes_in-append calls (Sync ∷ []))

-- The fields after a call

module _ (bytes first written : List ℕ) (calls : List FileCall) (opened : List Bool) (room byte_room failures : ℕ) where
  abbrev old : FileMemory
  old = memory_of bytes first calls written opened room byte_room failures

  pub made_written : (bytes' written' xs : List ℕ) (calls' : List FileCall) (opened' : List Bool) (at : ℕ)
      → bytes_in calls ≡ length written → bytes' ≡ put at xs bytes → written' ≡ written ++ xs
      → calls' ≡ calls ++ Write at (length xs) ∷ [] → opened' ≡ put at (replicate (length xs) true) opened
      → memory_of bytes' first calls' written' opened' room byte_room failures ≡ bytes_written old at xs
  made_written bytes' written' xs calls' opened' at total b w c o =
      let steps : spelled calls' written' ≡ spelled calls written ++ Wrote at xs ∷ [] =
      ap (λ cs. spelled cs written') c ∙ ap (λ ws. spelled (calls ++ Write at (length xs) ∷ []) ws) w
      ∙ spelled-write calls written xs at total in
      let count : length written' ≡ length written + length xs = ap (λ ws. length ws) w ∙ length-append written xs in
      λ i. record {
        bytes = b i;
        first = first;
        steps = steps i;
        opened = o i;
        written = count i;
        room = room;
        byte_room = byte_room;
        failures = failures;
      }

  pub made_refused : (opened' : List Bool) (at n room' failures' : ℕ) → opened' ≡ put at (replicate n true) opened
      → room' ≡ length calls → failures' ≡ one_more failures
      → memory_of bytes first calls written opened' room' byte_room failures' ≡ write_refused old at n
  made_refused opened' at n room' failures' o r f =
      let full : room' ≡ length (spelled calls written) = r ∙ sym (length-spelled calls written) in
      λ i. record {
        bytes = bytes;
        first = first;
        steps = spelled calls written;
        opened = o i;
        written = length written;
        room = full i;
        byte_room = byte_room;
        failures = f i;
      }

  pub made_synced : (calls' : List FileCall) (opened' : List Bool) → calls' ≡ calls ++ Sync ∷ []
      → opened' ≡ replicate (length opened) false
      → memory_of bytes first calls' written opened' room byte_room failures ≡ bytes_synced old
  made_synced calls' opened' c o =
      let steps : spelled calls' written ≡ spelled calls written ++ Synced ∷ [] = ap (λ cs. spelled cs written) c
      ∙ spelled-sync calls written in
      λ i. record {
        bytes = bytes;
        first = first;
        steps = steps i;
        opened = o i;
        written = length written;
        room = room;
        byte_room = byte_room;
        failures = failures;
      }
