-- A call's row, by the job that makes it.
use Rattle.std.proofs.Common.{◌≡◌, ℕ, List, Option, Some, refl, sym, ap, subst, ◌∙◌, inr, arith, None}
use Rattle.std.specs.Prelude.{option_map, slice_set, option_to_list, filter_map}
use Rattle.std.specs.List.{AllByRecursion}
use Rattle.spec_machine.specs.Common.{State, slot, channel_at, job_at, with_channel, with_job, on_channel, of_job}
use Rattle.spec_machine.proofs.Common.{set-slot, slot-map}
use Rattle.volume.specs.Common.{pending_at}
use Rattle.volume.specs.declared.live.LiveVersion.{LiveVersion}
use Rattle.volume.specs.declared.pending.PendingVersion.{PendingVersion}
use Rattle.monitor.specs.Common.{KeepsSides, KeepsReading, IsOldOrNew, IsSide, IsReader, HasReaders, UnderKeys}
use Rattle.monitor.specs.Common.{side_of, reader_of, channel_of, job_of}
use Rattle.monitor.specs.declared.channel.OpenChannel.{OpenChannel}
use Rattle.monitor.specs.declared.job.Job.{Job}
use Rattle.monitor.proofs.common.Dropped.{same_or_not}
use Rattle.monitor.proofs.common.ReaderLists.{held, held-channel}
use Rattle.monitor.proofs.common.JobReaders.{slot_set, length-slice_set}
use Rattle.monitor.proofs.common.SideLists.{count, count-channel, each-channel}
use Rattle.volume.proofs.RenameWithin.Renamings.{map_set}
use Rattle.spec_machine.specs.declared.call.Reply.{Reply}
use Rattle.spec_machine.specs.declared.call.Reply.TheVariants.{NoChannel}
use Rattle.spec_machine.specs.Jobs as machine

-- the channel of a number, as the machine has it
pub channel_is : (w : UnderKeys) (job : Job) (number : ℕ) (o : Option OpenChannel) → slot job.channels number ≡ o
    → channel_at (job_of w job) number ≡ option_map (channel_of w) o
channel_is w job number o is = slot-map (channel_of w) job.channels number ∙ ap (option_map (channel_of w)) is

-- a channel that is set
pub channel_set : (w : UnderKeys) (job : Job) (number : ℕ) (x : Option OpenChannel)
    → with_channel (job_of w job) number (option_map (channel_of w) x)
    ≡ job_of w (record job { channels = slice_set job.channels number x })
channel_set w job number x = ap (λ cs. record { ppn = job.ppn; core = job.core; channels = cs })
    (sym (map_set (option_map (channel_of w)) job.channels number x))

-- a job that is not changed
pub job_same : (s : State) (n : ℕ) (job : machine.SpecJob) → job_at s n ≡ Some job → s ≡ with_job s n job
job_same s n job there = ap (λ js. record s { jobs = js }) (sym (set-slot s.jobs n job there))

-- A row of a channel that is open.
pub on_row : (s : State) (n : ℕ) (w : UnderKeys) (job job' : Job) (number : ℕ) (c : OpenChannel) (reply : Reply)
    (row : machine.Channel → Reply × machine.SpecJob) → slot job.channels number ≡ Some c
    → row (channel_of w c) ≡ (reply, job_of w job')
    → on_channel s (channel_at (job_of w job) number) (λ x. of_job s n (row x)) ≡ (reply, with_job s n (job_of w job'))
on_row s n w job job' number c reply row there is = ap (λ o. on_channel s o (λ x. of_job s n (row x)))
    (channel_is w job number (Some c) there) ∙ ap (of_job s n) is

-- one that isn't
pub on_none : (s : State) (n : ℕ) (w : UnderKeys) (job : Job) (number : ℕ) (row : machine.Channel → Reply × State)
    → slot job.channels number ≡ None → job_at s n ≡ Some (job_of w job)
    → on_channel s (channel_at (job_of w job) number) row ≡ (NoChannel, with_job s n (job_of w job))
on_none s n w job number row none there = ap (λ o. on_channel s o row) (channel_is w job number None none)
    ∙ ap (λ t. (NoChannel, t)) (job_same s n (job_of w job) there)

-- Versions and output sides.

old_or_new : (pending : List (Option PendingVersion)) (key : ℕ) (p : PendingVersion) → pending_at pending key ≡ Some p
    → IsOldOrNew (pending_at pending key) p
old_or_new pending key p at = inr (p, at, refl)

pub keeps_same : (pending : List (Option PendingVersion)) (job : Job) → KeepsSides pending pending job job
keeps_same pending job = record { once = λ key. refl; known = old_or_new pending; each = λ all. all }

-- a channel is another one, which writes the same version or none
pub keeps_channel : (pending : List (Option PendingVersion)) (job : Job) (number : ℕ) (x : Option OpenChannel)
    → ((key : ℕ) → count key (option_to_list (side_of x))
    ≡ count key (option_to_list (side_of (slot job.channels number))))
    → (AllByRecursion (IsSide pending) (filter_map side_of job.channels)
    → AllByRecursion (IsSide pending) (option_to_list (side_of x)))
    → KeepsSides pending pending job (record job { channels = slice_set job.channels number x })
keeps_channel pending job number x same side = record {
  once = λ key.
      let set = count-channel key job.channels number x (λ e. same key
      ∙ ap (λ o. count key (option_to_list (side_of o))) e) in
      let alike = same key in
      omega arith;
  known = old_or_new pending;
  each = λ all. each-channel (IsSide pending) job.channels number x all (side all);
}

-- Versions and input sides.

pub reads_same : (live : List (Option LiveVersion)) (job : Job) → KeepsReading live live job job
reads_same live job = record { once = λ key. refl; each = λ has. has }

-- a channel is another one, which is valid
pub has_channel : (job : Job) (number : ℕ) (c : OpenChannel) → IsReader c → HasReaders job
    → HasReaders (record job { channels = slice_set job.channels number (Some c) })
has_channel job number c is has = record {
  each = λ k x at. same_or_not k number
      (λ same. subst IsReader ((slot_set job.channels number k c x at).0 same) is)
      (λ apart. has.each k x ((slot_set job.channels number k c x at).1 apart));
  sixteen = length-slice_set job.channels number (Some c) ∙ has.sixteen;
}

-- it reads the same version, or none
pub reads_channel : (live : List (Option LiveVersion)) (job : Job) (number : ℕ) (c : OpenChannel)
    → ((key : ℕ) → held key (option_to_list c.input) ≡ held key (option_to_list (reader_of (slot job.channels number))))
    → (HasReaders job → IsReader c)
    → KeepsReading live live job (record job { channels = slice_set job.channels number (Some c) })
reads_channel live job number c same reader = record {
  once = λ key.
      let set = held-channel key job.channels number (Some c) (λ e. same key
      ∙ ap (λ o. held key (option_to_list (reader_of o))) e) in
      let alike = same key in
      omega arith;
  each = λ has. has_channel job number c (reader has) has;
}

-- Core doesn't matter to what is written and read.

pub keeps_core : (pending pending' : List (Option PendingVersion)) (job job' : Job) (core : List ℕ)
    → KeepsSides pending pending' job job' → KeepsSides pending pending' job (record job' { core = core })
keeps_core pending pending' job job' core k = record { once = k.once; known = k.known; each = k.each }

pub reads_core : (live live' : List (Option LiveVersion)) (job job' : Job) (core : List ℕ)
    → KeepsReading live live' job job' → KeepsReading live live' job (record job' { core = core })
reads_core live live' job job' core k = record {
  once = k.once;
  each = λ has. let after = k.each has in record { each = after.each; sixteen = after.sixteen };
}
