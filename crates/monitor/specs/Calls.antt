-- Which calls take no memory and leave the disk alone.
use Rattle.std.specs.Prelude.{◌≡◌, false, Option}
use Rattle.spec_machine.specs.declared.call.Call.{Call}
use Rattle.spec_machine.specs.declared.call.Call.TheVariants.{Open, Inbuf, Outbuf, Lookup, Enter, Rename, In, Out}
use Rattle.spec_machine.specs.declared.call.Call.TheVariants.{Useti, Useto, Close, Releas, Getsts, Reset, MakeDir}
use Rattle.spec_machine.specs.declared.call.Call.TheVariants.{DeleteDir, Quota}
use Rattle.monitor.specs.declared.job.Job.{Job}
use Rattle.monitor.specs.Rows.{publishes_by}

-- a call that takes no memory and leaves the disk alone, by the job that makes it
abbrev pub IsLight : Call → Option Job → Type 0
IsLight (Open channel address) job = Unit {0}
IsLight (Inbuf channel count) job = Unit {0}
IsLight (Outbuf channel count) job = Unit {0}
IsLight (Lookup channel address) job = Unit {0}
IsLight (Enter channel address) job = ⊥
IsLight (Rename channel address) job = ⊥
IsLight (In channel address) job = ⊥
IsLight (Out channel address) job = ⊥
IsLight (Useti channel block) job = Unit {0}
IsLight (Useto channel block) job = Unit {0}
IsLight (Close channel bits) job = publishes_by channel bits job ≡ false
IsLight (Releas channel) job = publishes_by channel 0 job ≡ false
IsLight (Getsts channel) job = Unit {0}
IsLight Reset job = Unit {0}
IsLight (MakeDir address) job = ⊥
IsLight (DeleteDir address) job = ⊥
IsLight (Quota address) job = ⊥

-- a call that leaves all that is known of the disk as it was, whatever its answer
abbrev pub KeepsCore : Call → Type 0
KeepsCore (Open channel address) = Unit {0}
KeepsCore (Inbuf channel count) = Unit {0}
KeepsCore (Outbuf channel count) = Unit {0}
KeepsCore (Lookup channel address) = ⊥
KeepsCore (Enter channel address) = ⊥
KeepsCore (Rename channel address) = ⊥
KeepsCore (In channel address) = Unit {0}
KeepsCore (Out channel address) = ⊥
KeepsCore (Useti channel block) = Unit {0}
KeepsCore (Useto channel block) = Unit {0}
KeepsCore (Close channel bits) = ⊥
KeepsCore (Releas channel) = ⊥
KeepsCore (Getsts channel) = Unit {0}
KeepsCore Reset = ⊥
KeepsCore (MakeDir address) = ⊥
KeepsCore (DeleteDir address) = ⊥
KeepsCore (Quota address) = ⊥
