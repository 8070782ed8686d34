-- What an ENTER does to a job and to a volume in memory.
use Rattle.std.specs.Prelude.{◌≡◌, ◌⊎◌, ℕ, Bool, false, if◌then◌else◌, is_none, Option, None, Some, slice_set}
use Rattle.words36.specs.declared.moment.Moment.{Moment}
use Rattle.spec_machine.specs.Common.{enter_answer, State, slot, cleared, place_at, with_attributes, refused_at}
use Rattle.spec_machine.specs.Common.{is_plain}
use Rattle.spec_image.specs.Common.{Pack}
use Rattle.spec_machine.specs.declared.call.Reply.{Reply}
use Rattle.spec_machine.specs.declared.call.Reply.TheVariants.{Done, NoChannel, NoMemory}
use Rattle.retrieval.specs.declared.prime.Prime.{Prime}
use Rattle.volume.specs.Common.{is_update, IsBegun, MemoryMap}
use Rattle.volume.specs.declared.pending.PendingKind.{PendingKind}
use Rattle.monitor.specs.FoundPlaces.{file_begun, IsPrimeAt}
use Rattle.monitor.specs.declared.channel.OpenChannel.{OpenChannel}
use Rattle.monitor.specs.declared.job.Job.{Job}
use Rattle.monitor.specs.declared.output.OutputKind.{OutputKind}
use Rattle.monitor.specs.declared.output.OutputKind.TheVariants.{Create, Supersede}
use Rattle.spec_machine.specs.Jobs as machine

-- how an output side began that writes a version without words
abbrev pub entered_kind : Bool → OutputKind
entered_kind is_new = if is_new then Create else Supersede

-- the channel with an output side that has written nothing
abbrev pub side_entered : OpenChannel → ℕ → OutputKind → OpenChannel
side_entered c key kind = record c {
  status = cleared c.status;
  output = Some (record { pending = record { key = key }; kind = kind; next = 1 });
}

-- A version is begun under this key, with this prime block, for a channel that had no sides.
pub record IsEntering (c c' : MemoryMap) (job job' : Job) (number address : ℕ) (moment : Moment) (channel : OpenChannel)
    (key : ℕ) (prime : Prime) : Type 0 where
  pub there : slot job.channels number ≡ Some channel
  pub free : channel.output ≡ None
  pub unread : channel.input ≡ None
  pub begins : PendingKind
  -- without words
  pub bare : is_update begins ≡ false
  pub begun : IsBegun c c' key begins prime
  pub at : IsPrimeAt job channel.mode address moment prime
  pub kind : OutputKind
  pub kind_is : kind ≡ entered_kind (is_none begun.old)
  pub job_is : job' ≡ record job {
    core = with_attributes 2 job.core address (file_begun prime);
    channels = slice_set job.channels number (Some (side_entered channel key kind));
  }

-- The answer on this channel, and what every answer except Done leaves of the job.
abbrev pub IsEnterAnswer : Pack → State → machine.SpecJob → machine.SpecJob → Option machine.Channel → ℕ → Reply
    → Type 0
IsEnterAnswer pack s job job' None e reply = (reply ≡ NoChannel) × (job' ≡ job)
IsEnterAnswer pack s job job' (Some c) e reply =
    ((reply ≡ NoMemory) × (is_plain (enter_answer pack s job c e (place_at job e)) ≡ false) × (job' ≡ job))
    ⊎ ((enter_answer pack s job c e (place_at job e) ≡ reply) × ((reply ≡ Done → ⊥) → job' ≡ refused_at job e reply))
