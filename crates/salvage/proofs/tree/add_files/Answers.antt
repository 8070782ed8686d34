use Rattle.std.proofs.Common.{ℕ, sym, subst, ◌∙◌}
use Rattle.std.specs.List.{AllByRecursion}
use Rattle.blockdisk.specs.Common.{same_contents, same_disk_on}
use Rattle.changeset.proofs.LogRead.{only_reads_on}
use Rattle.spec_image.specs.Common.{SpecFileEntry, InSpace, layout_number}
use Rattle.volume.specs.Common.{file_view}
use Rattle.volume.proofs.common.Lookups.{viewed_at}
use Rattle.salvage.specs.Common.{FitsDisk}
use Rattle.salvage.proofs.ReadLoops.{files_go_on}
use Rattle.salvage.proofs.tree.add_files.Goals as goal

pub add_named-requires-clause-inside : goal.add_named-requires-clause-inside
add_named-requires-clause-inside g c =
    let s = g.D.Disk.state c.args.disk.now in
    subst (λ (n : ℕ). InSpace n c.entry-item.result.prime) (sym c.loop-entry.invariant.same.size)
    (viewed_at file_view c.args.entries.now c.loop-entry.entry-index c.entry-item.result c.loop-entry-test.true
    c.entry-item.is (λ (e : SpecFileEntry). InSpace s.size e.1) c.requires.inside)

pub add_named-requires-clause-owners : goal.add_named-requires-clause-owners
add_named-requires-clause-owners g c =
    c.loop-entry.invariant.owners ∙ c.requires.owners ∙ sym c.loop-entry.invariant.same.size

pub returns-in_err-add_named-clause-reads : goal.returns-in_err-add_named-clause-reads
returns-in_err-add_named-clause-reads g c h =
    only_reads_on (g.D.Disk.state c.args.disk.now) (g.D.Disk.state c.loop-entry.disk)
    (g.D.Disk.state c.add_named.new.disk) (c.loop-entry.invariant.reads (c.add_named.ensures.same.was_honest h))
    (c.add_named.ensures.reads h)

pub loop-entry-preserved : goal.loop-entry-preserved
loop-entry-preserved g c =
    let s = g.D.Disk.state c.args.disk.now in
    let now = g.D.Disk.state c.loop-entry.disk in
    let new = g.D.Disk.state c.add_named.new.disk in
    let before = c.loop-entry.invariant in
    let ensures = c.in_ok-add_named.ensures in
    record {
      same = same_disk_on s now new before.same ensures.same;
      served = ensures.served (λ is. cc) ∙ before.served;
      reads = λ h. only_reads_on s now new (before.reads (ensures.same.was_honest h)) (ensures.reads h);
      fits = λ all. subst (λ (n : ℕ). AllByRecursion (FitsDisk n) c.add_named.new.reading.files.items)
          before.same.size
          (ensures.fits (subst (λ (n : ℕ). AllByRecursion (FitsDisk n) c.loop-entry.reading.files.items)
          (sym before.same.size) (before.fits all)));
      held = λ own. ensures.held (before.held own);
      owners = ensures.owners ∙ before.owners;
      read = λ h own directories named once new_directory r.
          let was = ensures.same.was_honest h in
          files_go_on file_view s.size now.size (layout_number c.args.layout) s.contents now.contents directories
          c.args.ppn c.args.entries.now c.loop-entry.entry-index c.entry-item.result c.loop-entry.reading.files.items
          c.add_named.new.reading.files.items c.loop-entry.reading.findings.items c.add_named.new.reading.findings.items
          c.loop-entry-test.true c.entry-item.is before.same.size
          (same_contents s.contents now.contents (before.reads was).still.contents)
          named once (before.read was own directories named once new_directory r)
          (λ names here new_name so_far.
          ensures.read h (before.held own) directories names here new_directory new_name so_far);
    }
