use Rattle.std.proofs.Common.{refl}
use Rattle.volume.specs.Common.{IsEdited, memory_of, files_removed}
use Rattle.spec_image.specs.declared.code.ErrorCode.TheVariants.{NotFound}
use Rattle.volume.specs.declared.error.CallError.TheVariants.{Refused}
use Rattle.volume.proofs.common.Edits.{ok_anyway, only_device, edited_alone, edited_volume, files_stay}
use Rattle.volume.proofs.DeleteFile.Places.{is_named, primes_elsewhere, primes_gone}
use Rattle.volume.proofs.DeleteFile.Transactions.{removed_sized, removed_edit}
use Rattle.volume.proofs.volume.Volume.delete.Given
use Rattle.volume.proofs.volume.Volume.delete.Goals as goal

pub commit_edit-requires-clause-in_range : goal.commit_edit-requires-clause-in_range
commit_edit-requires-clause-in_range g c =
    let made = c.remove_in_memory.ensures in
    (removed_edit c.self.invariant.map.whole made.removed.2 0 made.table).in_range

-- What becomes of the disk.

edited : (g : Given.Over) (c : goal.After-commit_edit g)
    → IsEdited (g.D.Disk.state c.self.inside.disk) (g.D.Disk.state c.commit_edit.new.disk)
    (memory_of c.self.inside.map) (memory_of c.remove_in_memory.new.memory)
    (λ f. files_removed f c.args.ppn c.args.name.now)
    c.commit_edit.new.failed c.commit_edit.result
edited g c =
    let made = c.remove_in_memory.ensures in
    edited_alone (removed_edit c.self.invariant.map.whole made.removed.2 _ made.table) c.self.invariant.map
    c.if-self.false (λ h d left. g.met.D.Disk.only_now c.self.inside.disk d h left) c.commit_edit.ensures (λ h. refl)

pub invariant_of-self : goal.invariant_of-self
invariant_of-self g c = edited_volume c.self.invariant c.if-self.false (edited g c)

pub returns-clause-files : goal.returns-clause-files
returns-clause-files g c = rw (← c.self.view_is) (edited g c).files

-- What becomes of memory.

pub returns-clause-removed : goal.returns-clause-removed
returns-clause-removed g c = rw (← c.self.view_is) (
    let is = removed_sized c.self.invariant.map.whole c.remove_in_memory.ensures.removed.2 in
    ok_anyway c.commit_edit.result _ (
      c.remove_in_memory.ensures.removed.0,
      c.remove_in_memory.ensures.removed.1,
      c.remove_in_memory.new.set,
      is,
    ))

pub returns-clause-primes : goal.returns-clause-primes
returns-clause-primes g c = rw (← c.self.view_is) (
    let is = removed_sized c.self.invariant.map.whole c.remove_in_memory.ensures.removed.2 in
    ok_anyway c.commit_edit.result _ (primes_elsewhere _ _ _ _ _ _ _ _ is))

pub returns-clause-gone : goal.returns-clause-gone
returns-clause-gone g c =
    let is = removed_sized c.self.invariant.map.whole c.remove_in_memory.ensures.removed.2 in
    ok_anyway c.commit_edit.result _ (primes_gone _ _ _ _ _ _ _ _ is)

pub returns-clause-not_found : goal.returns-clause-not_found
returns-clause-not_found g c = rw (← c.self.view_is) (λ alive. (
  λ error. let other = only_device c.commit_edit.result (Refused NotFound) c.commit_edit.ensures.only error in
      absurd (cc),
  λ absent. absurd (is_named (g.D.Disk.state c.self.inside.disk).size (memory_of c.self.inside.map)
      c.self.invariant.map.whole c.args.ppn c.args.name.now c.in_default.field-0 c.in_default.ensures.found absent.0
      absent.1 absent.2),
))

-- If nothing was done.

pub returns-then-self-clause-files : goal.returns-then-self-clause-files
returns-then-self-clause-files g c = rw (← c.self.view_is)
    (files_stay (λ h d left. g.met.D.Disk.only_now c.self.inside.disk d h left))

pub returns-in-Err-clause-files : goal.returns-in-Err-clause-files
returns-in-Err-clause-files g c = rw (← c.self.view_is)
    (files_stay (λ h d left. g.met.D.Disk.only_now c.self.inside.disk d h left))
