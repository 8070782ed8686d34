-- OUT, by its answer: what is being written may still be published, and a disk that isn't touched is as it was.
use Rattle.std.proofs.Common.{◌≡◌, ◌≤◌, ℕ, Bool, false, Some, refl, sym, subst, ◌⊎◌, inl, inr}
use Rattle.std.specs.Prelude.{◌↔◌, IsTrue}
use Rattle.blockdisk.specs.Common.{DiskState}
use Rattle.spec_machine.specs.Common.{slot}
use Rattle.spec_image.specs.Common.{times}
use Rattle.spec_machine.specs.declared.call.Reply.{Reply}
use Rattle.spec_machine.specs.declared.call.Reply.TheVariants.{Done, Value, Refused, Stopped, NoChannel, AddressCheck}
use Rattle.spec_machine.specs.declared.call.Reply.TheVariants.{NoJob, NoMemory, Device, Failed, DateRange}
use Rattle.volume.specs.Common.{MemoryMap, pending_at}
use Rattle.monitor.specs.Common.{IsIdle, IsOut, IsOther, ArePlaced, present, sides_in, keys_of}
use Rattle.monitor.specs.declared.job.Job.{Job}
use Rattle.monitor.proofs.common.EventAnswers.{contrary}
use Rattle.monitor.proofs.WriteOut.ByJobs.{other_side}
use Rattle.monitor.proofs.WriteOut.Outs.{version_there}
use Rattle.monitor.proofs.common.PlacedVersions.{placed_put}

module _ {D : Type 0} (state : D → DiskState) (disk disk' : D) (map map' : MemoryMap) (job job' : Job) (ch a : ℕ) where
  abbrev Outcome : Reply → Type 0
  Outcome reply = IsOut (state disk) (state disk') map map' ((disk' ≡ disk) × (map' ≡ map)) job job' ch a reply

  module _ (failed' : Bool) (live : (key : ℕ) → times key (keys_of (sides_in (Some job)))
      ≤ present (pending_at map.pending key))
      (others : (key : ℕ) → IsOther (slot job.channels ch) key
      → pending_at map'.pending key ≡ pending_at map.pending key)
      (known : map'.known ≡ record map.known { table = map'.known.table }) (placed : ArePlaced map) (alive : failed'
      ≡ false) where
    abbrev Fails : Reply → Type 0
    Fails reply = IsTrue failed' ↔ ((reply ≡ Device) ⊎ (reply ≡ Failed))

    -- memory is as it was
    unmoved : (disk' ≡ disk) × (map' ≡ map) → ArePlaced map'
    unmoved same = subst ArePlaced (sym same.1) placed

    pub out_placed : (reply : Reply) → Outcome reply → Fails reply → ArePlaced map'
    out_placed Done (out, job_is, put) fails =
        let p = version_there map.pending job ch out.at.channel out.at.there out.at.output out.at.side live in
        let is = put p.0 p.1 in
        placed_put map map' out.at.output.pending.key p.0 is.version p.1 is.here
        (λ k apart. others k (other_side (slot job.channels ch) out.at.channel out.at.output k out.at.there
        out.at.side apart))
        known placed
    out_placed (Stopped status) (out, is, job_is, none, same) fails = unmoved same
    out_placed (Refused code) (is, job_is, same, c, at, why) fails = unmoved same
    out_placed NoChannel (job_is, same, none) fails = unmoved same
    out_placed AddressCheck (job_is, same, at, none) fails = unmoved same
    out_placed NoMemory (job_is, same, out) fails = unmoved same
    out_placed Device (job_is, out) fails = absurd (contrary alive (fails.1 (inl refl)))
    out_placed Failed lies fails = absurd (contrary alive (fails.1 (inr refl)))
    out_placed (Value word) wrong fails = absurd wrong
    out_placed NoJob wrong fails = absurd wrong
    out_placed DateRange wrong fails = absurd wrong

  -- a disk that has kept to its laws isn't blamed by Failed
  pub out_blamed : (reply : Reply) → Outcome reply → (state disk').honest → reply ≡ Failed → ⊥
  out_blamed reply out honest is = subst Outcome is out honest

  pub out_idle : (reply : Reply) → Outcome reply → IsIdle reply → disk' ≡ disk
  out_idle Done out idle = absurd idle
  out_idle (Stopped status) (out, is, job_is, none, same) idle = same.0
  out_idle (Refused code) (is, job_is, same, c, at, why) idle = same.0
  out_idle NoChannel (job_is, same, none) idle = same.0
  out_idle AddressCheck (job_is, same, at, none) idle = same.0
  out_idle NoMemory (job_is, same, out) idle = same.0
  out_idle Device out idle = absurd idle
  out_idle Failed lies idle = absurd idle
  out_idle (Value word) wrong idle = absurd wrong
  out_idle NoJob wrong idle = absurd wrong
  out_idle DateRange wrong idle = absurd wrong
