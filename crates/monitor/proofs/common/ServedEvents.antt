-- A call, as an event.
use Rattle.std.proofs.Common.{◌≡◌, ℕ, true, ap, ◌∙◌}
use Rattle.words36.specs.declared.moment.Moment.{Moment}
use Rattle.blockdisk.specs.Common.{DiskState}
use Rattle.spec_image.specs.Common.{pack_of}
use Rattle.spec_machine.specs.Common.{Service, Serving, Broken, Answers}
use Rattle.spec_machine.specs.declared.call.Event.TheVariants.{Call as Calls}
use Rattle.spec_machine.specs.declared.call.Reply.{Reply}
use Rattle.spec_machine.specs.declared.call.Reply.TheVariants.{Failed}
use Rattle.monitor.specs.Common.{Serves, MonitorState}
use Rattle.spec_machine.specs.declared.call.Call.{Call}

-- A call, by what it ensures.
module _ {D : Type 0} (state : D → DiskState) (old new : MonitorState D) (n : ℕ) (call : Call) (moment : Moment)
    (reply : Reply) where
  abbrev pub Goes : Service → Type 0
  Goes s = (t : Service) × Serves (state new.disk) new.map new.failed new.jobs t
      × Answers (pack_of (state old.disk)) s (Calls n call moment) reply t

  -- the device had failed before
  broken_led : (reply ≡ Failed) × (new ≡ old) → old.failed ≡ true → Goes Broken
  broken_led same failed = (Broken, ap (λ m. m.failed) same.1 ∙ failed, same.0)

  pub call_answered : ((state new.disk).honest → (s : Service)
      → Serves (state old.disk) old.map old.failed old.jobs s → Goes s)
      → (old.failed ≡ true → (reply ≡ Failed) × (new ≡ old))
      → (state new.disk).honest → (s : Service) → Serves (state old.disk) old.map old.failed old.jobs s → Goes s
  call_answered answered broken honest Broken failed = broken_led (broken failed) failed
  call_answered answered broken honest (Serving s) serves = answered honest (Serving s) serves
