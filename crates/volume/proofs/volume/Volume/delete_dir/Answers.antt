use Rattle.std.proofs.Common.{refl}
use Rattle.spec_image.specs.declared.code.ErrorCode.TheVariants.{NotEmpty}
use Rattle.volume.specs.Common.{IsEdited, memory_of, directory_removed}
use Rattle.volume.specs.declared.error.CallError.TheVariants.{Refused}
use Rattle.volume.proofs.common.Edits.{ok_anyway, only_device, edited_alone, edited_volume, files_stay}
use Rattle.volume.proofs.common.Edits.{not_written_stays}
use Rattle.volume.proofs.DeleteDir.Memory.{not_written}
use Rattle.volume.proofs.DeleteDir.Places.{gone, directory_stays, primes_stay}
use Rattle.volume.proofs.DeleteDir.Transactions.{unmade_sized, unmade_edit}
use Rattle.volume.proofs.volume.Volume.delete_dir.Given
use Rattle.volume.proofs.volume.Volume.delete_dir.Goals as goal

pub commit_edit-requires-clause-in_range : goal.commit_edit-requires-clause-in_range
commit_edit-requires-clause-in_range g c =
    (unmade_edit c.self.invariant.map.whole c.remove_directory.ensures 0).in_range

-- What becomes of the disk.

edited : (g : Given.Over) (c : goal.After-commit_edit g)
    → IsEdited (g.D.Disk.state c.self.inside.disk) (g.D.Disk.state c.commit_edit.new.disk)
    (memory_of c.self.inside.map) (memory_of c.remove_directory.new.memory) (λ f. directory_removed f c.args.ppn)
    c.commit_edit.new.failed c.commit_edit.result
edited g c = edited_alone (unmade_edit c.self.invariant.map.whole c.remove_directory.ensures _)
    c.self.invariant.map c.if-self.false (λ h d left. g.met.D.Disk.only_now c.self.inside.disk d h left)
    c.commit_edit.ensures (λ h. refl)

pub invariant_of-self : goal.invariant_of-self
invariant_of-self g c = edited_volume c.self.invariant c.if-self.false (edited g c)

pub returns-clause-kept : goal.returns-clause-kept
returns-clause-kept g c = rw (← c.self.view_is) (λ h n from none closed.
    let is = unmade_sized c.self.invariant.map.whole c.remove_directory.ensures in
    not_written_stays c.commit_edit.ensures h n
    (not_written _ _ _ _ _ c.self.invariant.map.whole.map is.removed n from none) closed)

pub returns-clause-files : goal.returns-clause-files
returns-clause-files g c = rw (← c.self.view_is) (edited g c).files

-- What becomes of memory.

pub returns-clause-directories : goal.returns-clause-directories
returns-clause-directories g c = rw (← c.self.view_is) (
    let is = unmade_sized c.self.invariant.map.whole c.remove_directory.ensures in
    directory_stays _ _ (memory_of c.remove_directory.new.memory) _ _ c.self.invariant.map.whole is.removed)

pub returns-clause-primes : goal.returns-clause-primes
returns-clause-primes g c = rw (← c.self.view_is) (
    let is = unmade_sized c.self.invariant.map.whole c.remove_directory.ensures in
    primes_stay _ _ (memory_of c.remove_directory.new.memory) _ _ c.self.invariant.map.whole is.removed)

pub returns-clause-gone : goal.returns-clause-gone
returns-clause-gone g c =
    let is = unmade_sized c.self.invariant.map.whole c.remove_directory.ensures in
    ok_anyway c.commit_edit.result _ (gone _ _ _ _ _ c.self.invariant.map.whole.map is.removed)

pub returns-clause-not_empty : goal.returns-clause-not_empty
returns-clause-not_empty g c = rw (← c.self.view_is) (λ alive. (
  λ error. let other = only_device c.commit_edit.result (Refused NotEmpty) c.commit_edit.ensures.only error in
      absurd (cc),
  λ has. let none = c.in-Ok.ensures.filled.1 has in absurd (cc),
))

-- If nothing was done.

pub returns-then-self-clause-files : goal.returns-then-self-clause-files
returns-then-self-clause-files g c = rw (← c.self.view_is)
    (files_stay (λ h d left. g.met.D.Disk.only_now c.self.inside.disk d h left))

pub returns-in-Err-clause-files : goal.returns-in-Err-clause-files
returns-in-Err-clause-files g c = rw (← c.self.view_is)
    (files_stay (λ h d left. g.met.D.Disk.only_now c.self.inside.disk d h left))
