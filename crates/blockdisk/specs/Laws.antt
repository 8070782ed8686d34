-- How stretches of calls of a disk follow each other. The layers above cite these laws and never use the clock: a
-- stretch begins with `modifies_start` or `leaves_start`, continues with one line for each call, and ends with
-- `modifies_leaves` or `leaves_on`.
use Rattle.std.specs.Prelude.{◌≡◌, ◌⊎◌, ◌≤◌, ℕ, false, if◌then◌else◌, ◌==◌, Result, Ok, Err, OnOk, OnErr}
use Rattle.std.proofs.Common.{inl, inr, ⊎_elim, refl, sym, ◌∙◌, arith, subst}
use Rattle.std.proofs.lemmas.Bool.{cases_eq}
use Rattle.std.proofs.lemmas.Bool.Decides.{nat_tests}
use Rattle.blockdisk.specs.Disk.{Contents, DiskState, MayLeave, NoneOpen, Passes, SameDisk, Keeps, Writes, Syncs}
use Rattle.blockdisk.specs.Disk.{Fails, Near, Modifies, Still, LeavesOnly, Between}

-- contents that agree at each block are equal
pub same_contents : (c d : Contents) → ((n : ℕ) → d n ≡ c n) → d ≡ c
same_contents c d same = λ i n. same n i

pub same_disk_start : (s : DiskState) → SameDisk s s
same_disk_start s = record { size = refl; was_honest = λ h. h }

pub same_disk_on : (s s' s'' : DiskState) → SameDisk s s' → SameDisk s' s'' → SameDisk s s''
same_disk_on s s' s'' first second = record {
  size = second.size ∙ first.size;
  was_honest = λ h. first.was_honest (second.was_honest h);
}

-- Time

pub passes_start : (s : DiskState) (P : Contents → Type 0) → Passes s s P
passes_start s P = record {
  later = omega arith;
  nothing_else = λ t c le left. inl left;
  new_since = λ t u c le le' left. inl left;
  keeps = λ t c le left. left;
}

pub passes_on : (s s' s'' : DiskState) (P Q : Contents → Type 0) → Passes s s' P → Passes s' s'' Q
    → ((c : Contents) → Q c → P c) → Passes s s'' P
passes_on s s' s'' P Q first second weaker = record {
  later = omega (arith, first.later, second.later);
  nothing_else = λ t c le left. ⊎_elim (first.nothing_else t c le) (λ new. inr (weaker c new))
      (second.nothing_else t c (omega (arith, le, first.later)) left);
  new_since = λ t u c le le' left. ⊎_elim
      (λ was. ⊎_elim (λ before. inl before) (λ new. inr (second.keeps u c (omega (arith, le', first.later)) new))
      (first.new_since t u c le le' was))
      (λ new. inr new) (second.new_since t u c (omega (arith, le, first.later)) (omega (arith, le', first.later)) left);
  keeps = λ t c le left. second.keeps t c (omega (arith, le, first.later)) (first.keeps t c le left);
}

pub passes_weaker : (s s' : DiskState) (P Q : Contents → Type 0) → Passes s s' P → ((c : Contents) → P c → Q c)
    → Passes s s' Q
passes_weaker s s' P Q passes weaker = record {
  later = passes.later;
  nothing_else = λ t c le left. ⊎_elim (λ was. inl was) (λ new. inr (weaker c new)) (passes.nothing_else t c le left);
  new_since = passes.new_since;
  keeps = passes.keeps;
}

-- A read after another

pub keeps_on : (s s' s'' : DiskState) → Keeps s s' → Keeps s' s'' → Keeps s s''
keeps_on s s' s'' first second = record {
  contents = λ n. second.contents n ∙ first.contents n;
  is_open = λ n. second.is_open n ∙ first.is_open n;
  time = passes_on s s' s'' (MayLeave s'') (MayLeave s'')
      (passes_weaker s s' (MayLeave s') (MayLeave s'') first.time (λ c left n closed. left n (sym (second.is_open n)
      ∙ closed) ∙ sym (second.contents n)))
      second.time (λ c left. left);
}

-- Nothing written

pub still_start : (s : DiskState) → Still s s
still_start s = record { contents = λ n. refl; crash = λ c left. left; time = passes_start s (MayLeave s) }

pub still_on : (s s' s'' : DiskState) → Still s s' → Still s' s'' → Still s s''
still_on s s' s'' first second = record {
  contents = λ n. second.contents n ∙ first.contents n;
  crash = λ c left. first.crash c (second.crash c left);
  time = passes_on s s' s'' (MayLeave s) (MayLeave s') first.time second.time first.crash;
}

-- a read
pub keeps_still : (s s' : DiskState) → Keeps s s' → Still s s'
keeps_still s s' keeps = record {
  contents = keeps.contents;
  crash = crash;
  time = passes_weaker s s' (MayLeave s') (MayLeave s) keeps.time crash;
}
  where
    crash : (c : Contents) → MayLeave s' c → MayLeave s c
    crash c left n closed = left n (keeps.is_open n ∙ closed) ∙ keeps.contents n

-- a sync that succeeded
pub syncs_still : (s s' : DiskState) → Syncs s s' → Still s s'
syncs_still s s' syncs = record {
  contents = syncs.contents;
  crash = crash;
  time = passes_weaker s s' (MayLeave s') (MayLeave s) syncs.time crash;
}
  where
    crash : (c : Contents) → MayLeave s' c → MayLeave s c
    crash c left n closed = left n (syncs.closed n) ∙ syncs.contents n

-- Only these blocks written

pub near_self : (In : ℕ → Type 0) (s : DiskState) (c : Contents) → MayLeave s c → Near In s c
near_self In s c left = (c, left, λ n out. refl)

pub near_wider : (In Out : ℕ → Type 0) (s : DiskState) → ((n : ℕ) → In n → Out n) → (c : Contents) → Near In s c
    → Near Out s c
near_wider In Out s wider c near = (near.0, near.1, λ n out. near.2 n (λ is. out (wider n is)))

pub near_on : (In : ℕ → Type 0) (s s' : DiskState) → Modifies In s s' → (c : Contents) → Near In s' c → Near In s c
near_on In s s' t c near =
    let from = t.crash near.0 near.1 in
    (from.0, from.1, λ n out. near.2 n out ∙ from.2 n out)

pub modifies_start : (In : ℕ → Type 0) (s : DiskState) → Modifies In s s
modifies_start In s = record { contents = λ n out. refl; crash = near_self In s; time = passes_start s (Near In s) }

pub modifies_on : (In : ℕ → Type 0) (s s' s'' : DiskState) → Modifies In s s' → Modifies In s' s'' → Modifies In s s''
modifies_on In s s' s'' first second = record {
  contents = λ n out. second.contents n out ∙ first.contents n out;
  crash = λ c left. near_on In s s' first c (second.crash c left);
  time = passes_on s s' s'' (Near In s) (Near In s') first.time second.time (near_on In s s' first);
}

pub modifies_wider : (In Out : ℕ → Type 0) (s s' : DiskState) → ((n : ℕ) → In n → Out n) → Modifies In s s'
    → Modifies Out s s'
modifies_wider In Out s s' wider t = record {
  contents = λ n out. t.contents n (λ is. out (wider n is));
  crash = λ c left. near_wider In Out s wider c (t.crash c left);
  time = passes_weaker s s' (Near In s) (Near Out s) t.time (near_wider In Out s wider);
}

pub still_modifies : (In : ℕ → Type 0) (s s' : DiskState) → Still s s' → Modifies In s s'
still_modifies In s s' still = record {
  contents = λ n out. still.contents n;
  crash = λ c left. near_self In s c (still.crash c left);
  time = passes_weaker s s' (MayLeave s) (Near In s) still.time (near_self In s);
}

-- a write to one of these blocks, whatever it answered
pub writes_modifies : (In : ℕ → Type 0) (n : ℕ) (s s' : DiskState) → In n → Writes n s s' → Modifies In s s'
writes_modifies In n s s' within writes = record {
  contents = λ m out. writes.contents m (λ here. out (inside m here));
  crash = near;
  time = passes_weaker s s' (MayLeave s') (Near In s) writes.time near;
}
  where
    inside : (m : ℕ) → m ≡ n → In m
    inside m here = subst In (sym here) within

    -- a crash after the write is one before it, except for block n
    before : Contents → Contents
    before c m = if m == n then s.contents m else c m

    at_before : (c : Contents) → MayLeave s' c → (m : ℕ) → s.is_open m ≡ false → (m ≡ n) ⊎ (m ≡ n → ⊥)
        → before c m ≡ s.contents m
    at_before c left m closed (inl here) = grind (arith, nat_tests)
    at_before c left m closed (inr other) =
        let kept : c m ≡ s.contents m = left m (writes.is_open m other ∙ closed) ∙ writes.contents m other in
        grind (arith, nat_tests)

    elsewhere : (c : Contents) (m : ℕ) → (m ≡ n → ⊥) → c m ≡ before c m
    elsewhere c m other = grind (arith, nat_tests)

    near : (c : Contents) → MayLeave s' c → Near In s c
    near c left = (
      before c,
      λ m closed. at_before c left m closed (cases_eq m n),
      λ m out. elsewhere c m (λ here. out (inside m here)),
    )

-- one more call of a stretch: a write to one of its blocks
pub modifies_write : (In : ℕ → Type 0) (n : ℕ) (s s' s'' : DiskState) → In n → Modifies In s s' → Writes n s' s''
    → Modifies In s s''
modifies_write In n s s' s'' within first writes = modifies_on In s s' s'' first
    (writes_modifies In n s' s'' within writes)

-- a read, or a sync that succeeded
pub modifies_still : (In : ℕ → Type 0) (s s' s'' : DiskState) → Modifies In s s' → Still s' s'' → Modifies In s s''
modifies_still In s s' s'' first still = modifies_on In s s' s'' first (still_modifies In s' s'' still)

-- Each moment

pub leaves_start : (s : DiskState) (P : Contents → Type 0) → ((c : Contents) → s.left_since s.clock c → MayLeave s c)
    → ((c : Contents) → MayLeave s c → P c) → LeavesOnly s s P
leaves_start s P only_now here = record {
  now = here;
  since = λ c left. here c (only_now c left);
  time = passes_start s P;
}

-- what a stretch leaves if it wrote only these blocks
pub modifies_leaves : (In : ℕ → Type 0) (s s' : DiskState) (P : Contents → Type 0)
    → ((c : Contents) → s.left_since s.clock c → MayLeave s c) → Modifies In s s'
    → ((c : Contents) → Near In s c → P c) → LeavesOnly s s' P
modifies_leaves In s s' P only_now t near = record {
  now = λ c left. near c (t.crash c left);
  since = λ c left. ⊎_elim (λ was. near c (near_self In s c (only_now c was))) (near c)
      (t.time.nothing_else s.clock c (omega arith) left);
  time = passes_weaker s s' (Near In s) P t.time near;
}

-- what a stretch leaves if it wrote nothing
pub leaves_still : (s s' : DiskState) (P : Contents → Type 0) → ((c : Contents) → s.left_since s.clock c → MayLeave s c)
    → Still s s' → ((c : Contents) → MayLeave s c → P c) → LeavesOnly s s' P
leaves_still s s' P only_now still here = record {
  now = λ c left. here c (still.crash c left);
  since = λ c left. ⊎_elim (λ was. here c (only_now c was)) (here c)
      (still.time.nothing_else s.clock c (omega arith) left);
  time = passes_weaker s s' (MayLeave s) P still.time here;
}

-- after a sync that failed, a crash leaves only what it could leave before
pub fails_leave : (s s' : DiskState) → Fails s s' → (c : Contents) → MayLeave s' c → MayLeave s c
fails_leave s s' fails c left n closed = left n (fails.is_open n ∙ closed) ∙ fails.contents n closed

pub fails_leaves : (s s' : DiskState) → ((c : Contents) → s.left_since s.clock c → MayLeave s c) → Fails s s'
    → LeavesOnly s s' (MayLeave s)
fails_leaves s s' only_now fails = record {
  now = fails_leave s s' fails;
  since = λ c left. ⊎_elim (only_now c) (fails_leave s s' fails c)
      (fails.time.nothing_else s.clock c (omega arith) left);
  time = passes_weaker s s' (MayLeave s') (MayLeave s) fails.time (fails_leave s s' fails);
}

-- a sync, whatever it answered
pub sync_leaves : {E : Type 0} (answer : Result (Unit {0}) E) (s s' : DiskState)
    → ((c : Contents) → s.left_since s.clock c → MayLeave s c)
    → OnOk answer (Syncs s s') → OnErr answer (Fails s s') → LeavesOnly s s' (MayLeave s)
sync_leaves (Ok done) s s' only_now syncs fails = leaves_still s s' (MayLeave s) only_now (syncs_still s s' syncs)
    (λ c left. left)
sync_leaves (Err fault) s s' only_now syncs fails = fails_leaves s s' only_now fails

-- one stretch after another
pub leaves_on : (s s' s'' : DiskState) (P Q : Contents → Type 0) → LeavesOnly s s' P → LeavesOnly s' s'' Q
    → ((c : Contents) → Q c → P c) → LeavesOnly s s'' P
leaves_on s s' s'' P Q first second weaker = record {
  now = λ c left. weaker c (second.now c left);
  since = λ c left. ⊎_elim (first.since c) (weaker c) (second.time.nothing_else s.clock c first.time.later left);
  time = passes_on s s' s'' P Q first.time second.time weaker;
}

pub leaves_weaker : (s s' : DiskState) (P Q : Contents → Type 0) → LeavesOnly s s' P → ((c : Contents) → P c → Q c)
    → LeavesOnly s s' Q
leaves_weaker s s' P Q leaves weaker = record {
  now = λ c left. weaker c (leaves.now c left);
  since = λ c left. weaker c (leaves.since c left);
  time = passes_weaker s s' P Q leaves.time weaker;
}

-- what a stretch leaves if it wrote only these blocks, and another one after it
pub modifies_near : (In : ℕ → Type 0) (s s' : DiskState) → ((c : Contents) → s.left_since s.clock c → MayLeave s c)
    → Modifies In s s' → LeavesOnly s s' (Near In s)
modifies_near In s s' only_now t = modifies_leaves In s s' (Near In s) only_now t (λ c near. near)

pub near_then : (In : ℕ → Type 0) (s s' s'' : DiskState) → ((c : Contents) → s.left_since s.clock c → MayLeave s c)
    → Modifies In s s' → LeavesOnly s' s'' (Near In s') → LeavesOnly s s'' (Near In s)
near_then In s s' s'' only_now t leaves = leaves_on s s' s'' (Near In s) (Near In s')
    (modifies_near In s s' only_now t) leaves (near_on In s s' t)

-- the end of such a stretch is a sync, whatever it answered
pub near_sync : {E : Type 0} (answer : Result (Unit {0}) E) (In : ℕ → Type 0) (s s' s'' : DiskState)
    → ((c : Contents) → s.left_since s.clock c → MayLeave s c)
    → ((c : Contents) → s'.left_since s'.clock c → MayLeave s' c) → Modifies In s s' → OnOk answer (Syncs s' s'')
    → OnErr answer (Fails s' s'') → LeavesOnly s s'' (Near In s)
near_sync answer In s s' s'' only_now only_now' t syncs fails =
    leaves_on s s' s'' (Near In s) (MayLeave s') (modifies_near In s s' only_now t)
    (sync_leaves answer s' s'' only_now' syncs fails) t.crash

pub leaves_wider : (In Out : ℕ → Type 0) (s s' : DiskState) → ((n : ℕ) → In n → Out n) → LeavesOnly s s' (Near In s)
    → LeavesOnly s s' (Near Out s)
leaves_wider In Out s s' wider leaves = leaves_weaker s s' (Near In s) (Near Out s) leaves (near_wider In Out s wider)

-- what a crash left between two moments is still all that it left there
pub between_on : (s s' : DiskState) (P Q : Contents → Type 0) (t u : ℕ) → t ≤ s.clock → u ≤ s.clock → Passes s s' Q
    → Between s t u P → Between s' t u P
between_on s s' P Q t u le le' passes between c left = ⊎_elim
    (λ was. ⊎_elim (λ later. inl (passes.keeps u c le' later)) (λ here. inr here) (between c was))
    (λ new. inl new) (passes.new_since t u c le le' left)

-- what a stretch leaves is what a crash left between its beginning and its end, or since its end
pub leaves_between : (s s' : DiskState) (P : Contents → Type 0) (t : ℕ) → LeavesOnly s s' P → Between s' s.clock t P
leaves_between s s' P t leaves c left = inr (leaves.since c left)

-- after a sync, a crash leaves what a read returns
pub none_open_leaves : (s : DiskState) → NoneOpen s → (c : Contents) → MayLeave s c → c ≡ s.contents
none_open_leaves s none c left = same_contents s.contents c (λ n. left n (none n))
