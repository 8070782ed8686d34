-- Runs on an image that put files of the host or write some.
use Rattle.std.proofs.Common.{◌≡◌, ◌⊎◌, ◌*◌, ◌∙◌, ⊎_elim, inl, inr, ℕ, List, Option, Result, refl, sym, subst}
use Rattle.std.specs.Prelude.{None as Nothing}
use Rattle.blockdisk.specs.Common.{DiskState}
use Rattle.imagefile.specs.Common.{BeganAs, begun_image, block_length, Unseen}
use Rattle.imagefile.specs.declared.form.Form.{Form}
use Rattle.monitor.specs.Common.{MonitorState}
use Rattle.collection.specs.Common.{FileAct}
use Rattle.commands.specs.declared.answer.Tally.{Tally}
use Rattle.commands.specs.declared.error.SessionError.{SessionError}
use Rattle.filser.specs.Common.{HostFacts, IsOpened, IsWhole, IsServed, IsUnserved, MovesIfServed}
use Rattle.filser.specs.declared.disks.Disks.{Disks}
use Rattle.filser.specs.declared.disks.Disks.TheVariants.{Unasked, None as Nowhere, NoImage, Unserved, Served, Made}
use Rattle.filser.specs.declared.host.Access.{Access}
use Rattle.filser.specs.declared.status.Status.{Status}
use Rattle.filser.proofs.Since.{served_since, unserved_since}

pub run_image : {H I : Type 0} {access : Access} (facts : HostFacts H) (state : I → DiskState) (path : List ℕ)
    (form : Form) (u : Unseen) (IsTranscript : MonitorState I → MonitorState I → Result Tally SessionError → Type 0)
    (before after : List FileAct) (sink full : Option (List ℕ)) (status : Status) (image end : I)
    → IsOpened facts path access u → BeganAs form u (state image) → (state image).failures ≡ 0
    → (state end).size ≡ (state image).size → ((state end).honest → (state image).honest)
    → IsServed state (state image) end status IsTranscript
    ⊎ ((after ≡ before) × IsUnserved (state image) (state end) Nothing Nothing sink full status)
    → IsOpened facts path access u × IsWhole form u (state end)
    × (IsServed state (begun_image form (state end).size u) end status IsTranscript
    ⊎ ((after ≡ before)
    × IsUnserved (begun_image form (state end).size u) (state end) Nothing Nothing sink full status))
run_image facts state path form u IsTranscript before after sink full status image end opened began sound size was
    ran = (
      opened,
      record { size = λ h. began.size (was h) ∙ (λ i. block_length form * sym size i) },
      subst (λ n. IsServed state (begun_image form n u) end status IsTranscript
          ⊎ ((after ≡ before) × IsUnserved (begun_image form n u) (state end) Nothing Nothing sink full status))
          (sym size) (⊎_elim (λ p. inl (served_since form u (state image) began sound state end status IsTranscript p))
          (λ p. inr (
            p.0,
            unserved_since form u (state image) began sound (state end) Nothing Nothing sink full status p.1,
          )) ran),
    )

-- nothing was done, whatever is left of the image
pub unmoved : {L F D I : Type 0} (disks : Disks L F D I) (acts : List FileAct) → MovesIfServed disks acts acts
unmoved (Unasked leave) acts = refl
unmoved Nowhere acts = refl
unmoved (NoImage file) acts = refl
unmoved (Unserved disk) acts = refl
unmoved (Served image) acts = tt
unmoved (Made disk right) acts = refl
