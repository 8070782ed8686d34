-- What became of an image whose files were to be written to files of the host.
use Rattle.std.specs.Prelude.{◌≡◌, ◌⊎◌, ℕ, List, Option, None as Nothing}
use Rattle.blockdisk.specs.Common.{DiskState}
use Rattle.imagefile.specs.Common.{Unseen}
use Rattle.imagefile.specs.declared.form.Form.{Form}
use Rattle.collection.specs.Common.{FileAct, IsExportRun}
use Rattle.collection.specs.declared.task.ExportTask.{ExportTask}
use Rattle.filser.specs.Hosts.{HostFacts}
use Rattle.filser.specs.Images.{IsOnImageBy}
use Rattle.filser.specs.ServedDisks.{IsServed, IsUnserved, machine_over}
use Rattle.filser.specs.Permits.{MovesIfServed}
use Rattle.filser.specs.Views.{Views}
use Rattle.filser.specs.declared.disks.Disks.{Disks}
use Rattle.filser.specs.declared.host.Access.TheVariants.{Read}
use Rattle.filser.specs.declared.status.Status.{Status}

-- The files were read by a service on a disk, or the disk was refused.
abbrev pub IsExportedFrom : {D : Type 0} → (D → DiskState) → ExportTask → List FileAct → List FileAct
    → Option (List ℕ) → Option (List ℕ) → DiskState → D → Status → Type 0
IsExportedFrom state task before after sink full begun end status =
    IsServed state begun end status (λ first last result.
    IsExportRun (machine_over state) task sink full (before, first) (after, last) result)
    ⊎ ((after ≡ before) × IsUnserved begun (state end) Nothing Nothing sink full status)

abbrev pub IsOnExported : {H L M F D I : Type 0} → HostFacts H → Views M F D I → List ℕ → Form → ExportTask
    → Unseen → List FileAct → List FileAct → Option (List ℕ) → Option (List ℕ) → Disks L F D I → Status → Type 0
IsOnExported facts views path form task u before after sink full disks status =
    IsOnImageBy facts views path Read form u (IsExportedFrom views.image task before after sink full) sink full disks
    status × MovesIfServed disks before after
