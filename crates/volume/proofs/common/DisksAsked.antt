-- What calls leave of the disk that they are given, one after the other.
use Rattle.std.proofs.Common.{◌≡◌, ◌∙◌, Result, Ok, Err, IsErrOf, refl, ap}
use Rattle.blockdisk.specs.Common.{DiskState, MayLeave, one_more, keeps_on, same_disk_on, same_disk_start}
use Rattle.blockdisk.specs.Common.{passes_start}
use Rattle.changeset.proofs.LogRead.{only_reads_on}
use Rattle.volume.specs.Common.{KeepsDisk, ReadsDisk}
use Rattle.volume.proofs.VolumeStart.Opens.{reads_of}

-- Nothing was called yet.
pub keeps_disk_start : (s : DiskState) → KeepsDisk s s ⊥
keeps_disk_start s = record {
  keeps = λ h. record { contents = λ n. refl; is_open = λ n. refl; time = passes_start s (MayLeave s) };
  same = same_disk_start s;
  failed = λ is. absurd is;
  served = λ other. refl;
}

-- The call was served.

pub keeps_disk_served : (s s' : DiskState) (device : Type 0) → (device → ⊥) → KeepsDisk s s' device → KeepsDisk s s' ⊥
keeps_disk_served s s' device other keeps = record {
  keeps = keeps.keeps;
  same = keeps.same;
  failed = λ is. absurd is;
  served = λ is. keeps.served other;
}

pub reads_disk_served : (s s' : DiskState) (device : Type 0) → (device → ⊥) → ReadsDisk s s' device → ReadsDisk s s' ⊥
reads_disk_served s s' device other reads = record {
  reads = reads.reads;
  same = reads.same;
  failed = λ is. absurd is;
  served = λ is. reads.served other;
}

-- It answers something else.

pub keeps_disk_ok : {T E : Type 0} {x : T} {device : E} (s s' : DiskState) → KeepsDisk s s' ⊥
    → KeepsDisk s s' (IsErrOf (Ok x) device)
keeps_disk_ok {x = x} {device = device} s s' keeps = record {
  keeps = keeps.keeps;
  same = keeps.same;
  failed = λ (is : Ok x ≡ Err device). absurd cc;
  served = λ other. keeps.served (λ never. never);
}

pub reads_disk_ok : {T E : Type 0} {x : T} {device : E} (s s' : DiskState) → ReadsDisk s s' ⊥
    → ReadsDisk s s' (IsErrOf (Ok x) device)
reads_disk_ok {x = x} {device = device} s s' reads = record {
  reads = reads.reads;
  same = reads.same;
  failed = λ (is : Ok x ≡ Err device). absurd cc;
  served = λ other. reads.served (λ never. never);
}

-- The calls before were served, and then one more was made.

pub keeps_disk_on : (s s' s'' : DiskState) (device : Type 0) → KeepsDisk s s' ⊥ → KeepsDisk s' s'' device
    → KeepsDisk s s'' device
keeps_disk_on s s' s'' device before after = record {
  keeps = λ h. keeps_on s s' s'' (before.keeps (after.same.was_honest h)) (after.keeps h);
  same = same_disk_on s s' s'' before.same after.same;
  failed = λ is. after.failed is ∙ ap one_more (before.served (λ never. never));
  served = λ other. after.served other ∙ before.served (λ never. never);
}

pub reads_disk_on : (s s' s'' : DiskState) (device : Type 0) → ReadsDisk s s' ⊥ → ReadsDisk s' s'' device
    → ReadsDisk s s'' device
reads_disk_on s s' s'' device before after = record {
  reads = λ h. only_reads_on s s' s'' (before.reads (after.same.was_honest h)) (after.reads h);
  same = same_disk_on s s' s'' before.same after.same;
  failed = λ is. after.failed is ∙ ap one_more (before.served (λ never. never));
  served = λ other. after.served other ∙ before.served (λ never. never);
}

-- What leaves all as it is only reads.
pub reads_disk_of : (s s' : DiskState) (device : Type 0) → KeepsDisk s s' device → ReadsDisk s s' device
reads_disk_of s s' device keeps = record {
  reads = λ h. reads_of s s' (keeps.keeps h);
  same = keeps.same;
  failed = keeps.failed;
  served = keeps.served;
}

-- A refusal that is handed on says the same of the disk.

pub keeps_disk_handed : {T U E : Type 0} (s s' : DiskState) (outer : Result T E) (inner : Result U E) (x y device : E)
    → outer ≡ Err x → x ≡ y → inner ≡ Err y → KeepsDisk s s' (IsErrOf inner device)
    → KeepsDisk s s' (IsErrOf outer device)
keeps_disk_handed s s' outer inner x y device out same was keeps = record {
  keeps = keeps.keeps;
  same = keeps.same;
  failed = λ (is : outer ≡ Err device). keeps.failed cc;
  served = λ other. keeps.served (λ (is : inner ≡ Err device). other cc);
}

pub reads_disk_handed : {T U E : Type 0} (s s' : DiskState) (outer : Result T E) (inner : Result U E) (x y device : E)
    → outer ≡ Err x → x ≡ y → inner ≡ Err y → ReadsDisk s s' (IsErrOf inner device)
    → ReadsDisk s s' (IsErrOf outer device)
reads_disk_handed s s' outer inner x y device out same was reads = record {
  reads = reads.reads;
  same = reads.same;
  failed = λ (is : outer ≡ Err device). reads.failed cc;
  served = λ other. reads.served (λ (is : inner ≡ Err device). other cc);
}
