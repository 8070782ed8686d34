-- What readers have pinned, over an ENTER: no input side comes or goes.
use Rattle.std.proofs.Common.{◌≡◌, ℕ, List, Option, None, Some, refl, sym, ap, subst, ◌∙◌, slice_set, arith}
use Rattle.std.specs.Prelude.{option_to_list}
use Rattle.words36.specs.declared.moment.Moment.{Moment}
use Rattle.spec_machine.specs.Common.{slot}
use Rattle.spec_image.proofs.Common.{some_none}
use Rattle.retrieval.specs.declared.prime.Prime.{Prime}
use Rattle.volume.specs.Common.{MemoryMap}
use Rattle.volume.specs.declared.live.LiveVersion.{LiveVersion}
use Rattle.monitor.specs.Common.{IsEntering, side_entered, KeepsReading, IsReader, reader_of}
use Rattle.monitor.specs.declared.channel.OpenChannel.{OpenChannel}
use Rattle.monitor.specs.declared.job.Job.{Job}
use Rattle.monitor.proofs.common.Dropped.{same_or_not}
use Rattle.monitor.proofs.common.ReaderLists.{held, held-channel}
use Rattle.monitor.proofs.common.JobReaders.{slot_set, length-slice_set}

-- other words of core alone
pub reading_core : (live : List (Option LiveVersion)) (job : Job) (core : List ℕ)
    → KeepsReading live live job (record job { core = core })
reading_core live job core = record {
  once = λ key. refl;
  each = λ readers. record { each = readers.each; sixteen = readers.sixteen };
}

-- the versions are the same, and so are the input sides
pub reading_same : (c c' : MemoryMap) (job job' : Job) → c' ≡ c → job' ≡ record job { core = job'.core }
    → KeepsReading c.live c'.live job job'
reading_same c c' job job' map kept =
    subst (λ (x : MemoryMap). KeepsReading c.live x.live job job') (sym map)
    (subst (KeepsReading c.live c.live job) (sym kept) (reading_core c.live job job'.core))

-- a channel that doesn't read is another one, which doesn't read
pub reading_unread : (live : List (Option LiveVersion)) (job : Job) (core : List ℕ) (number : ℕ) (c x : OpenChannel)
    → slot job.channels number ≡ Some c → c.input ≡ None → x.input ≡ None
    → KeepsReading live live job (record job { core = core; channels = slice_set job.channels number (Some x) })
reading_unread live job core number c x there none still = record {
  once = λ key.
      let moved = held-channel key job.channels number (Some x) (λ gone. absurd (some_none (sym there ∙ gone))) in
      let was = ap (λ o. held key (option_to_list (reader_of o))) there ∙ ap (λ o. held key (option_to_list o)) none in
      let is = ap (λ o. held key (option_to_list o)) still in
      omega arith;
  each = λ readers. record {
    each = λ k d at. same_or_not k number
        (λ same. subst IsReader ((slot_set job.channels number k x d at).0 same)
        (λ i reads. absurd (some_none (sym reads ∙ still))))
        (λ apart. readers.each k d ((slot_set job.channels number k x d at).1 apart));
    sixteen = length-slice_set job.channels number (Some x) ∙ readers.sixteen;
  };
}

-- a version is begun
pub reading_entered : (map map' : MemoryMap) (job job' : Job) (number e : ℕ) (moment : Moment) (c : OpenChannel)
    (key : ℕ) (prime : Prime) → IsEntering map map' job job' number e moment c key prime
    → KeepsReading map.live map'.live job job'
reading_entered map map' job job' number e moment c key prime enters =
    subst (λ vs. KeepsReading map.live vs job job') (sym enters.begun.live)
    (subst (KeepsReading map.live map.live job) (sym enters.job_is)
    (reading_unread map.live job _ number c (side_entered c key enters.kind) enters.there enters.unread enters.unread))
