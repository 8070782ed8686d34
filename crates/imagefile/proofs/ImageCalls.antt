-- The calls of a disk over an image, from what a file promises of its own.
use Rattle.std.proofs.Common.{◌≡◌, ◌+◌, ◌*◌, ◌<◌, ℕ, length, List, Result, Ok, Err, Some, None, OnOk, OnErr, IsErrOf}
use Rattle.std.proofs.Common.{refl, Option}
use Rattle.blockdisk.specs.Common.{SameDisk, Syncs, Fails, AreFilled, AreVerified, HoldRun, IsWithin, one_more}
use Rattle.blockdisk.specs.Common.{IsRead, IsRunRead, IsVerify, IsWrite, IsRunWrite}
use Rattle.blockdisk.specs.declared.fault.Fault.{Fault}
use Rattle.blockdisk.specs.declared.fault.Fault.TheVariants.{Device, Damaged}
use Rattle.imagefile.specs.Common.{FileState, SameFile, FileKeeps, FileWrites, FileSyncs, FileFails, block_length}
use Rattle.imagefile.specs.Common.{image_contents, image_state, image_keeps, image_writes, image_writes_run}
use Rattle.imagefile.specs.Common.{image_syncs, image_fails}
use Rattle.imagefile.specs.declared.form.Form.{Form}

same_disk : (form : Form) (blocks : ℕ) (s s' : FileState) → SameFile s s'
    → SameDisk (image_state form blocks s) (image_state form blocks s')
same_disk form blocks s s' same = record { size = refl; was_honest = same.was_honest }

not_refused : (words : List ℕ) (fault : Fault) → IsErrOf {T = List ℕ} (Ok words) fault → ⊥
not_refused words fault is = cc

other_fault : IsErrOf {T = List ℕ} (Err Damaged) Device → ⊥
other_fault is = cc

module _ (form : Form) (blocks n : ℕ) (s s' : FileState) (same : SameFile s s') where
  pub block_read : (words : List ℕ) → (s'.honest → image_contents form s.bytes n ≡ Some words)
      → (s'.honest → FileKeeps s s') → s'.failures ≡ s.failures
      → IsRead n (image_state form blocks s) (image_state form blocks s') (Ok words)
  block_read words read keeps served = record {
    words = read;
    damaged = λ h is. absurd (not_refused words Damaged is);
    keeps = λ h. image_keeps form blocks s s' (keeps h);
    same = same_disk form blocks s s' same;
    failed = λ is. absurd (not_refused words Device is);
    served = λ other. served;
  }

  pub block_damaged : (s'.honest → image_contents form s.bytes n ≡ None)
      → (s'.honest → FileKeeps s s') → s'.failures ≡ s.failures
      → IsRead n (image_state form blocks s) (image_state form blocks s') (Err Damaged)
  block_damaged damaged keeps served = record {
    words = λ h. tt;
    damaged = λ h is. damaged h;
    keeps = λ h. image_keeps form blocks s s' (keeps h);
    same = same_disk form blocks s s' same;
    failed = λ is. absurd (other_fault is);
    served = λ other. served;
  }

no_device : (found : Option ℕ) (fault : Fault) → IsErrOf (Ok found) fault → ⊥
no_device found fault is = cc

pub run_read : (form : Form) (size first : ℕ) (s s' : FileState) (blocks : List (List ℕ)) (found : Option ℕ)
    → SameFile s s' → IsWithin first (first + length blocks) found
    → (s'.honest → AreFilled (image_contents form s.bytes) first blocks found)
    → (s'.honest → FileKeeps s s') → s'.failures ≡ s.failures
    → IsRunRead first (image_state form size s) (image_state form size s') blocks (Ok found)
run_read form size first s s' blocks found same within read keeps served = record {
  within = within;
  words = read;
  keeps = λ h. image_keeps form size s s' (keeps h);
  same = same_disk form size s s' same;
  device = no_device found Damaged;
  failed = λ is. absurd (no_device found Device is);
  served = λ ok. served;
}

pub group_verified : (form : Form) (blocks first end : ℕ) (s s' : FileState) (found : Option ℕ) → SameFile s s'
    → IsWithin first end found → (s'.honest → AreVerified (image_contents form s.bytes) first end found)
    → (s'.honest → FileKeeps s s') → s'.failures ≡ s.failures
    → IsVerify first end (image_state form blocks s) (image_state form blocks s') (Ok found)
group_verified form blocks first end s s' found same within verified keeps served = record {
  within = within;
  verified = verified;
  keeps = λ h. image_keeps form blocks s s' (keeps h);
  same = same_disk form blocks s s' same;
  device = no_device found Damaged;
  failed = λ is. absurd (no_device found Device is);
  served = λ ok. served;
}

pub block_written : (form : Form) (blocks n at len : ℕ) (s s' : FileState) (words : List ℕ)
    (answer : Result (Unit {0}) Fault) → at ≡ block_length form * n → len ≡ block_length form
    → (s'.honest → OnOk answer (image_contents form s'.bytes n ≡ Some words))
    → (s'.honest → OnOk answer (s.clock < s'.clock))
    → (s'.honest → FileWrites at len s s') → SameFile s s' → (IsErrOf answer Damaged → ⊥)
    → (IsErrOf answer Device → s'.failures ≡ one_more s.failures) → OnOk answer (s'.failures ≡ s.failures)
    → IsWrite n words (image_state form blocks s) (image_state form blocks s') answer
block_written form blocks n at len s s' words answer place long put moves writes same device failed served = record {
  put = put;
  moves = moves;
  writes = λ h. image_writes form blocks s s' n (rw (← place, ← long) (writes h));
  same = same_disk form blocks s s' same;
  device = device;
  failed = failed;
  served = served;
}

pub run_written : (form : Form) (size first at len : ℕ) (s s' : FileState) (blocks : List (List ℕ))
    (answer : Result (Unit {0}) Fault) → at ≡ block_length form * first → len ≡ block_length form * length blocks
    → (s'.honest → OnOk answer (HoldRun (image_contents form s'.bytes) first blocks))
    → (s'.honest → OnOk answer (s.clock < s'.clock))
    → (s'.honest → FileWrites at len s s') → SameFile s s' → (IsErrOf answer Damaged → ⊥)
    → (IsErrOf answer Device → s'.failures ≡ one_more s.failures) → OnOk answer (s'.failures ≡ s.failures)
    → IsRunWrite first blocks (image_state form size s) (image_state form size s') answer
run_written form size first at len s s' blocks answer place long put moves writes same device failed served = record {
  put = put;
  moves = λ h. where_some answer (moves h);
  writes = λ h. image_writes_run form size s s' first (length blocks) (rw (← place, ← long) (writes h));
  same = same_disk form size s s' same;
  device = device;
  failed = failed;
  served = served;
}
  where
    where_some : (answer : Result (Unit {0}) Fault) → OnOk answer (s.clock < s'.clock)
        → OnOk answer (0 < length blocks → s.clock < s'.clock)
    where_some (Ok done) later = λ some. later
    where_some (Err fault) later = tt

pub synced : {E : Type 0} (answer : Result (Unit {0}) E) (form : Form) (blocks : ℕ) (s s' : FileState)
    → OnOk answer (FileSyncs s s') → OnOk answer (Syncs (image_state form blocks s) (image_state form blocks s'))
synced (Ok done) form blocks s s' syncs = image_syncs form blocks s s' syncs
synced (Err fault) form blocks s s' syncs = tt

pub sync_failed : {E : Type 0} (answer : Result (Unit {0}) E) (form : Form) (blocks : ℕ) (s s' : FileState)
    → OnErr answer (FileFails s s') → OnErr answer (Fails (image_state form blocks s) (image_state form blocks s'))
sync_failed (Ok done) form blocks s s' fails = tt
sync_failed (Err fault) form blocks s s' fails = image_fails form blocks s s' fails
