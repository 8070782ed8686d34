use Rattle.std.proofs.Common.{refl}
use Rattle.blockdisk.specs.Common.{writes_modifies}
use Rattle.volume.specs.Common.{IsEdited, memory_of, files_made}
use Rattle.volume.proofs.common.Edits.{edit_in_range, edited, edited_volume, files_stay}
use Rattle.volume.proofs.MakeDir.MadeDirectories.{not_written}
use Rattle.volume.proofs.MakeDir.Places.{directory_stays, primes_stay}
use Rattle.volume.proofs.MakeDir.Transactions.{made_sized, made_edit, made_ended, both_stay}
use Rattle.volume.proofs.volume.Volume.make_dir.Given
use Rattle.volume.proofs.volume.Volume.make_dir.Goals as goal

pub commit_edit-requires-clause-in_range : goal.commit_edit-requires-clause-in_range
commit_edit-requires-clause-in_range g c =
    let plan = c.make_in_memory.ensures in
    edit_in_range (made_edit c.self.invariant.map.whole c.in-Ok.ensures.made plan.live plan.pending
    c.in-Ok.ensures.keys c.requires.protection 0) c.write.ensures.same

-- What becomes of the disk.

changed : (g : Given.Over) (c : goal.After-commit_edit g)
    → IsEdited (g.D.Disk.state c.self.inside.disk) (g.D.Disk.state c.commit_edit.new.disk)
    (memory_of c.self.inside.map) (memory_of c.make_in_memory.new.memory)
    (λ f. files_made f c.args.ppn c.args.protection)
    c.commit_edit.new.failed c.commit_edit.result
changed g c =
    let s = g.D.Disk.state c.self.inside.disk in
    let plan = c.make_in_memory.ensures in
    let edit = made_edit c.self.invariant.map.whole c.in-Ok.ensures.made plan.live plan.pending c.in-Ok.ensures.keys
    c.requires.protection _ in
    edited c.self.invariant.map c.if-self.false (λ h d left. g.met.D.Disk.only_now c.self.inside.disk d h left)
    c.write.ensures.same edit.quiet edit c.commit_edit.ensures
    (λ m. writes_modifies _ c.in-Ok.first s (g.D.Disk.state c.write.new.self) refl (c.write.ensures.writes m))
    c.in-Ok-write.ensures.put (λ h. refl)

pub invariant_of-self-in-Ok-write : goal.invariant_of-self-in-Ok-write
invariant_of-self-in-Ok-write g c = edited_volume c.self.invariant c.if-self.false (changed g c)

pub invariant_of-self-in-Err-write : goal.invariant_of-self-in-Err-write
invariant_of-self-in-Err-write g c =
    let plan = c.make_in_memory.ensures in
    edited_volume c.self.invariant c.if-self.false
    (made_ended c.self.invariant.map c.if-self.false
    (λ h d left. g.met.D.Disk.only_now c.self.inside.disk d h left) c.write.ensures.same c.write.ensures.writes
    c.in-Ok.ensures.made plan.live plan.pending c.in-Ok.ensures.keys c.requires.protection)

pub returns-in-Ok-write-clause-kept : goal.returns-in-Ok-write-clause-kept
returns-in-Ok-write-clause-kept g c = rw (← c.self.view_is) (λ h n from none used closed.
    let whole = c.self.invariant.map.whole in
    both_stay c.write.ensures.same (c.write.ensures.writes (c.commit_edit.ensures.same.was_honest h))
    c.commit_edit.ensures h n
    (not_written _ _ _ _ _ _ _ whole.map (made_sized whole c.in-Ok.ensures.made) n from none used) closed)

pub returns-in-Ok-write-clause-files : goal.returns-in-Ok-write-clause-files
returns-in-Ok-write-clause-files g c = rw (← c.self.view_is) (changed g c).files

pub returns-in-Err-write-clause-files : goal.returns-in-Err-write-clause-files
returns-in-Err-write-clause-files g c = rw (← c.self.view_is) (
    let plan = c.make_in_memory.ensures in
    (made_ended c.self.invariant.map c.if-self.false
    (λ h d left. g.met.D.Disk.only_now c.self.inside.disk d h left) c.write.ensures.same c.write.ensures.writes
    c.in-Ok.ensures.made plan.live plan.pending c.in-Ok.ensures.keys c.requires.protection).files)

-- What becomes of memory.

pub returns-in-Ok-write-clause-directories : goal.returns-in-Ok-write-clause-directories
returns-in-Ok-write-clause-directories g c = rw (← c.self.view_is)
    (directory_stays c.self.inside.map.table.size (memory_of c.self.inside.map) (memory_of c.make_in_memory.new.memory)
    c.args.ppn c.args.protection c.in-Ok.first c.make_in_memory.new.set c.in-Ok.ensures.made)

pub returns-in-Err-write-clause-directories : goal.returns-in-Err-write-clause-directories
returns-in-Err-write-clause-directories g c = rw (← c.self.view_is)
    (directory_stays c.self.inside.map.table.size (memory_of c.self.inside.map) (memory_of c.make_in_memory.new.memory)
    c.args.ppn c.args.protection c.in-Ok.first c.make_in_memory.new.set c.in-Ok.ensures.made)

pub returns-in-Ok-write-clause-primes : goal.returns-in-Ok-write-clause-primes
returns-in-Ok-write-clause-primes g c = rw (← c.self.view_is)
    (primes_stay c.self.inside.map.table.size (memory_of c.self.inside.map) (memory_of c.make_in_memory.new.memory)
    c.args.ppn c.args.protection c.in-Ok.first c.make_in_memory.new.set c.in-Ok.ensures.made)

pub returns-in-Err-write-clause-primes : goal.returns-in-Err-write-clause-primes
returns-in-Err-write-clause-primes g c = rw (← c.self.view_is)
    (primes_stay c.self.inside.map.table.size (memory_of c.self.inside.map) (memory_of c.make_in_memory.new.memory)
    c.args.ppn c.args.protection c.in-Ok.first c.make_in_memory.new.set c.in-Ok.ensures.made)

-- If nothing was done.

pub returns-then-self-clause-files : goal.returns-then-self-clause-files
returns-then-self-clause-files g c = rw (← c.self.view_is)
    (files_stay (λ h d left. g.met.D.Disk.only_now c.self.inside.disk d h left))

pub returns-in-Err-clause-files : goal.returns-in-Err-clause-files
returns-in-Err-clause-files g c = rw (← c.self.view_is)
    (files_stay (λ h d left. g.met.D.Disk.only_now c.self.inside.disk d h left))
