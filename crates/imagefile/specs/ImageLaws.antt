-- What the laws of a disk require of an image, from what a file promises.
use Rattle.std.specs.Prelude.{◌≡◌, ◌+◌, ◌*◌, ◌||◌, ℕ, zero, suc, Bool, true, false, ◌∷◌, Some, None, if◌then◌else◌}
use Rattle.std.proofs.Common.{inl, inr, ⊎_elim, refl, sym, ◌∙◌, ap, arith}
use Rattle.std.proofs.lemmas.Bool.{cases_eq, or_parts, or_from, or_left, cond-true, cond-false, false_from_ne_true}
use Rattle.blockdisk.specs.Common.{Contents, MayLeave, Passes, Keeps, Writes, Syncs, Fails, IsInRun, Modifies}
use Rattle.blockdisk.specs.Common.{run_modifies}
use Rattle.imagefile.specs.File.{Bytes, Remains, FileState, MayRemain, Inside, window, FilePasses, FileKeeps}
use Rattle.imagefile.specs.File.{FileWrites, FileSyncs, FileFails}
use Rattle.imagefile.specs.Image.{block_length, block_content, image_contents, opened_in, InBlock, ReadsAs}
use Rattle.imagefile.specs.Image.{image_state}
use Rattle.imagefile.specs.declared.form.Form.{Form}
use Rattle.imagefile.specs.declared.form.Form.TheVariants.{Wide, Packed}

-- Windows

pub window-same : (b c : Bytes) (at n : ℕ) → ((p : ℕ) → Inside at n p → c p ≡ b p) → window c at n ≡ window b at n
unfolding window
window-same b c at zero same = refl
window-same b c at (suc n) same =
    let here : c at ≡ b at = same at (record { low = omega arith; high = omega arith }) in
    let rest : window c (at + 1) n ≡ window b (at + 1) n = window-same b c (at + 1) n
    (λ p inside. same p (record { low = omega (arith, inside.low); high = omega (arith, inside.high) })) in
    ap (λ x. x ∷ window c (at + 1) n) here ∙ ap (λ xs. b at ∷ xs) rest

-- the contents of a block depend on its bytes alone
pub content-same : (form : Form) (b c : Bytes) (n : ℕ) → ((p : ℕ) → InBlock form n p → c p ≡ b p)
    → image_contents form c n ≡ image_contents form b n
content-same form b c n same = ap (block_content form)
    (window-same b c (block_length form * n) (block_length form) same)

-- Places

-- a block has a first byte
some_length : (form : Form) → (m : ℕ) × (block_length form ≡ suc m)
some_length Wide = (1023, refl)
some_length Packed = (575, refl)

first_in : (at len m : ℕ) → len ≡ suc m → Inside at len at
first_in at len m is = record { low = omega arith; high = omega (arith, is) }

-- no byte is in two blocks
apart : (form : Form) (n m p : ℕ) → (m ≡ n → ⊥) → InBlock form m p → InBlock form n p → ⊥
apart Wide n m p other there here = other (omega (arith, there.low, there.high, here.low, here.high))
apart Packed n m p other there here = other (omega (arith, there.low, there.high, here.low, here.high))

-- no byte of the blocks of a run is in another block
run_apart : (form : Form) (first count m p : ℕ) → (IsInRun first count m → ⊥) → InBlock form m p
    → Inside (block_length form * first) (block_length form * count) p → ⊥
run_apart Wide first count m p other there here = other (
  omega (arith, there.low, there.high, here.low, here.high),
  omega (arith, there.low, there.high, here.low, here.high),
)
run_apart Packed first count m p other there here = other (
  omega (arith, there.low, there.high, here.low, here.high),
  omega (arith, there.low, there.high, here.low, here.high),
)

-- Open blocks

first_inside : (at n : ℕ) → Inside at (suc n) at
first_inside at n = record { low = omega arith; high = omega arith }

rest_inside : (at n p : ℕ) → Inside (at + 1) n p → Inside at (suc n) p
rest_inside at n p inside = record { low = omega (arith, inside.low); high = omega (arith, inside.high) }

nothing_inside : (at p : ℕ) → Inside at 0 p → ⊥
nothing_inside at p inside = omega (arith, inside.low, inside.high)

pub closed_each : (o : ℕ → Bool) (at n : ℕ) → opened_in o at n ≡ false → (p : ℕ) → Inside at n p → o p ≡ false
unfolding opened_in
closed_each o at zero closed p inside = absurd (nothing_inside at p inside)
closed_each o at (suc n) closed p inside =
    let parts = or_parts (o at) (opened_in o (at + 1) n) closed in
    ⊎_elim (λ here. ap o here ∙ parts.0)
    (λ other. closed_each o (at + 1) n parts.1 p
    (record { low = omega (arith, inside.low, other); high = omega (arith, inside.high) })) (cases_eq p at)

pub all_closed : (o : ℕ → Bool) (at n : ℕ) → ((p : ℕ) → Inside at n p → o p ≡ false) → opened_in o at n ≡ false
unfolding opened_in
all_closed o at zero each = refl
all_closed o at (suc n) each =
    or_from (o at) (opened_in o (at + 1) n) (each at (first_inside at n))
    (all_closed o (at + 1) n (λ p inside. each p (rest_inside at n p inside)))

pub some_open : (o : ℕ → Bool) (at n m : ℕ) → n ≡ suc m → o at ≡ true → opened_in o at n ≡ true
unfolding opened_in
some_open o at n m is opened = ap (opened_in o at) is ∙ or_left (o at) (opened_in o (at + 1) m) opened

pub opened-same : (o o' : ℕ → Bool) (at n : ℕ) → ((p : ℕ) → Inside at n p → o' p ≡ o p)
    → opened_in o' at n ≡ opened_in o at n
unfolding opened_in
opened-same o o' at zero same = refl
opened-same o o' at (suc n) same =
    ap (λ b. b || opened_in o' (at + 1) n) (same at (first_inside at n))
    ∙ ap (λ b. o at || b) (opened-same o o' (at + 1) n (λ p inside. same p (rest_inside at n p inside)))

-- Crashes

module _ (form : Form) (blocks : ℕ) where
  -- what a crash leaves of the file, read as an image, is what it may leave of the disk
  pub image_may_leave : (s : FileState) (r : Remains) (c : Contents) → MayRemain s r → ReadsAs form r c
      → MayLeave (image_state form blocks s) c
  image_may_leave s r c may reads n closed = reads n s.bytes
      (λ p inside. may p (closed_each s.is_open (block_length form * n) (block_length form) closed p inside))

  known_or_not : FileState → Remains
  known_or_not s p = if s.is_open p then None else Some (s.bytes p)

  known : (s : FileState) (p : ℕ) → s.is_open p ≡ false → known_or_not s p ≡ Some (s.bytes p)
  unfolding known_or_not
  known s p closed = cond-false (s.is_open p) None (Some (s.bytes p)) closed

  known_closed : (s : FileState) (p byte : ℕ) → known_or_not s p ≡ Some byte → s.is_open p ≡ false
  unfolding known_or_not
  known_closed s p byte is = false_from_ne_true (s.is_open p) (λ opened.
      let none : None ≡ Some byte = sym (cond-true (s.is_open p) None (Some (s.bytes p)) opened) ∙ is in
      absurd (none_some byte none))
    where
      none_some : (byte : ℕ) → None ≡ Some byte → ⊥
      none_some byte h = cc

  known_reads : (s : FileState) (c : Contents) → MayLeave (image_state form blocks s) c
      → ReadsAs form (known_or_not s) c
  known_reads s c left n b all =
      let closed : opened_in s.is_open (block_length form * n) (block_length form)
      ≡ false = all_closed s.is_open (block_length form * n) (block_length form)
      (λ p inside. known_closed s p (b p) (all p inside)) in
      left n closed
      ∙ content-same form b s.bytes n (λ p inside. same_byte (s.bytes p) (b p)
      (sym (known s p (known_closed s p (b p) (all p inside))) ∙ all p inside))
    where
      same_byte : (x y : ℕ) → Some x ≡ Some y → x ≡ y
      same_byte x y h = cc

  pub image_counts_now : (s : FileState) (t : ℕ) (c : Contents) → ((r : Remains) → MayRemain s r → s.left_since t r)
      → MayLeave (image_state form blocks s) c → (image_state form blocks s).left_since t c
  image_counts_now s t c counts left = (known_or_not s, counts (known_or_not s) (known s), known_reads s c left)

  pub image_only_now : (s : FileState) (c : Contents) → ((r : Remains) → s.left_since s.clock r → MayRemain s r)
      → (image_state form blocks s).left_since s.clock c → MayLeave (image_state form blocks s) c
  image_only_now s c only left = image_may_leave s left.0 c (only left.0 left.1) left.2

  pub image_reaches_back : (s : FileState) (t u : ℕ) (c : Contents) → ((r : Remains) → s.left_since u r
      → s.left_since t r) → (image_state form blocks s).left_since u c → (image_state form blocks s).left_since t c
  image_reaches_back s t u c back left = (left.0, back left.0 left.1, left.2)

  -- Calls

  module _ (s s' : FileState) where
    image_passes : FilePasses s s' (MayRemain s')
        → Passes (image_state form blocks s) (image_state form blocks s') (MayLeave (image_state form blocks s'))
    image_passes time = record {
      later = time.later;
      nothing_else = λ t c le left. ⊎_elim (λ was. inl (left.0, was, left.2))
          (λ may. inr (image_may_leave s' left.0 c may left.2)) (time.nothing_else t left.0 le left.1);
      new_since = λ t u c le le' left. ⊎_elim (λ was. inl (left.0, was, left.2)) (λ new. inr (left.0, new, left.2))
          (time.new_since t u left.0 le le' left.1);
      keeps = λ t c le left. (left.0, time.keeps t left.0 le left.1, left.2);
    }

    pub image_keeps : FileKeeps s s' → Keeps (image_state form blocks s) (image_state form blocks s')
    image_keeps keeps = record {
      contents = λ n. content-same form s.bytes s'.bytes n (λ p inside. keeps.bytes p);
      is_open =
          λ n. opened-same s.is_open s'.is_open (block_length form * n) (block_length form)
          (λ p inside. keeps.is_open p);
      time = image_passes keeps.time;
    }

    pub image_writes : (n : ℕ) → FileWrites (block_length form * n) (block_length form) s s'
        → Writes n (image_state form blocks s) (image_state form blocks s')
    image_writes n writes = record {
      contents =
          λ m other. content-same form s.bytes s'.bytes m (λ p inside. writes.bytes p (apart form n m p other inside));
      opened = some_open s'.is_open (block_length form * n) (block_length form) (some_length form).0
          (some_length form).1
          (writes.opened (block_length form * n)
          (first_in (block_length form * n) (block_length form) (some_length form).0 (some_length form).1));
      is_open = λ m other. opened-same s.is_open s'.is_open (block_length form * m) (block_length form)
          (λ p inside. writes.is_open p (apart form n m p other inside));
      time = image_passes writes.time;
    }

    pub image_writes_run : (first count : ℕ)
        → FileWrites (block_length form * first) (block_length form * count) s s'
        → Modifies (IsInRun first count) (image_state form blocks s) (image_state form blocks s')
    image_writes_run first count writes = run_modifies first count (image_state form blocks s)
        (image_state form blocks s')
        (λ m out. content-same form s.bytes s'.bytes m
        (λ p inside. writes.bytes p (run_apart form first count m p out inside)))
        (λ m out. opened-same s.is_open s'.is_open (block_length form * m) (block_length form)
        (λ p inside. writes.is_open p (run_apart form first count m p out inside)))
        (image_passes writes.time)

    pub image_fails : FileFails s s' → Fails (image_state form blocks s) (image_state form blocks s')
    image_fails fails = record {
      contents = λ n closed. content-same form s.bytes s'.bytes n
          (λ p inside. fails.bytes p
          (closed_each s.is_open (block_length form * n) (block_length form) closed p inside));
      is_open =
          λ n. opened-same s.is_open s'.is_open (block_length form * n) (block_length form)
          (λ p inside. fails.is_open p);
      time = image_passes fails.time;
    }

    pub image_syncs : FileSyncs s s' → Syncs (image_state form blocks s) (image_state form blocks s')
    image_syncs syncs = record {
      contents = λ n. content-same form s.bytes s'.bytes n (λ p inside. syncs.bytes p);
      closed = λ n. all_closed s'.is_open (block_length form * n) (block_length form) (λ p inside. syncs.closed p);
      time = image_passes syncs.time;
    }
