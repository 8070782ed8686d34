use Rattle.std.proofs.Common.{◌<◌, subst, sym}
use Rattle.spec_image.specs.Common.{layout_number, files_limited, quota_limit}
use Rattle.volume.specs.Common.{IsEdited, memory_of}
use Rattle.volume.proofs.common.Edits.{edited_alone, edited_volume, files_stay, not_written_stays}
use Rattle.volume.proofs.common.ChainPuts.{both_in_range, space_not_written}
use Rattle.volume.proofs.SetQuota.Memory.{puts_both, directory_stays, primes_stay}
use Rattle.volume.proofs.SetQuota.Transactions.{limited_edit}
use Rattle.volume.proofs.volume.Volume.set_quota.Given
use Rattle.volume.proofs.volume.Volume.set_quota.Goals as goal

pub commit_edit-requires-clause-in_range : goal.commit_edit-requires-clause-in_range
commit_edit-requires-clause-in_range g c = both_in_range (puts_both (g.D.Disk.state c.self.inside.disk).size
    (memory_of c.self.inside.map) (memory_of c.limit_directory.new.memory) c.args.ppn c.args.quota
    c.limit_directory.new.set c.self.invariant.map.whole c.limit_directory.ensures)

-- What becomes of the disk.

edited : (g : Given.Over) (c : goal.After-commit_edit g)
    → IsEdited (g.D.Disk.state c.self.inside.disk) (g.D.Disk.state c.commit_edit.new.disk)
    (memory_of c.self.inside.map) (memory_of c.limit_directory.new.memory)
    (λ f. files_limited f c.args.ppn c.args.quota)
    c.commit_edit.new.failed c.commit_edit.result
edited g c =
    let layout = c.self.inside.layout in
    let fits : c.args.quota < quota_limit (layout_number layout) =
    subst (λ v. c.args.quota < quota_limit (layout_number v.layout)) (sym c.self.view_is) c.requires.fits in
    edited_alone (limited_edit c.self.invariant.map.whole c.limit_directory.ensures (layout_number layout) fits)
    c.self.invariant.map c.if-self.false (λ h d left. g.met.D.Disk.only_now c.self.inside.disk d h left)
    c.commit_edit.ensures (λ h. sym (c.self.invariant.layout_is h c.if-self.false))

pub invariant_of-self : goal.invariant_of-self
invariant_of-self g c = edited_volume c.self.invariant c.if-self.false (edited g c)

pub returns-clause-files : goal.returns-clause-files
returns-clause-files g c = rw (← c.self.view_is) (edited g c).files

pub returns-clause-kept : goal.returns-clause-kept
returns-clause-kept g c = rw (← c.self.view_is) (λ h n from none closed.
    not_written_stays c.commit_edit.ensures h n
    (space_not_written (puts_both _ _ (memory_of c.limit_directory.new.memory) _ _ _ c.self.invariant.map.whole
    c.limit_directory.ensures) n from none) closed)

-- What becomes of memory.

pub returns-clause-directories : goal.returns-clause-directories
returns-clause-directories g c = rw (← c.self.view_is)
    (directory_stays (g.D.Disk.state c.self.inside.disk).size (memory_of c.self.inside.map)
    (memory_of c.limit_directory.new.memory) c.args.ppn c.args.quota c.self.invariant.map.whole
    c.limit_directory.ensures.limited)

pub returns-clause-primes : goal.returns-clause-primes
returns-clause-primes g c = rw (← c.self.view_is)
    (primes_stay (g.D.Disk.state c.self.inside.disk).size (memory_of c.self.inside.map)
    (memory_of c.limit_directory.new.memory) c.args.ppn c.args.quota c.self.invariant.map.whole
    c.limit_directory.ensures.limited)

-- If nothing was done.

pub returns-then-self-clause-files : goal.returns-then-self-clause-files
returns-then-self-clause-files g c = rw (← c.self.view_is)
    (files_stay (λ h d left. g.met.D.Disk.only_now c.self.inside.disk d h left))

pub returns-in-Err-clause-files : goal.returns-in-Err-clause-files
returns-in-Err-clause-files g c = rw (← c.self.view_is)
    (files_stay (λ h d left. g.met.D.Disk.only_now c.self.inside.disk d h left))
