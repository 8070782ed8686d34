use Rattle.std.proofs.Common.{◌≡◌, ℕ, Bool, false, length, refl, sym, ap, subst, ◌∙◌}
use Rattle.std.proofs.lemmas.List.{length-replicate}
use Rattle.std.specs.List.{AllByRecursion}
use Rattle.blockdisk.specs.Common.{same_contents, same_disk_on, same_disk_start, still_start}
use Rattle.changeset.proofs.LogRead.{only_reads_on}
use Rattle.spec_image.specs.Common.{SpecMasterEntry, InSpace, layout_number}
use Rattle.volume.specs.Common.{master_view}
use Rattle.volume.proofs.common.Lookups.{viewed_at}
use Rattle.salvage.specs.Common.{FitsDisk}
use Rattle.salvage.proofs.ReadLoops.{directories_go_on}
use Rattle.salvage.proofs.WalkedChains.{marked_all, marked_go_on, marked_none}
use Rattle.salvage.proofs.tree.add_directories.Goals as goal

pub loop-entry-init : goal.loop-entry-init
loop-entry-init g c =
    let s = g.D.Disk.state c.args.disk.now in
    record {
      same = same_disk_start s;
      served = refl;
      reads = λ h. record { still = still_start s; is_open = λ n. refl };
      fits = λ all. all;
      held = λ own. own;
      owners = refl;
      long = refl;
      marked = λ h. marked_none s.size s.contents c.args.marks.now s.size c.requires.fresh;
      read = λ h own named once r. r;
    }

pub claim_directory-requires-clause-inside : goal.claim_directory-requires-clause-inside
claim_directory-requires-clause-inside g c =
    let s = g.D.Disk.state c.args.disk.now in
    subst (λ (n : ℕ). InSpace n c.entry-item.result.first) (sym c.loop-entry.invariant.same.size)
    (viewed_at master_view c.args.entries.now c.loop-entry.entry-index c.entry-item.result c.loop-entry-test.true
    c.entry-item.is (λ (e : SpecMasterEntry). InSpace s.size e.1.1) c.requires.inside)

pub claim_directory-requires-clause-long : goal.claim_directory-requires-clause-long
claim_directory-requires-clause-long g c =
    let s = g.D.Disk.state c.args.disk.now in
    let fresh : length c.args.marks.now ≡ s.size = ap length c.requires.fresh
    ∙ length-replicate {A = Bool} s.size false in
    c.loop-entry.invariant.long ∙ fresh ∙ sym c.loop-entry.invariant.same.size

pub claim_directory-requires-clause-owners : goal.claim_directory-requires-clause-owners
claim_directory-requires-clause-owners g c =
    c.loop-entry.invariant.owners ∙ c.requires.owners ∙ sym c.loop-entry.invariant.same.size

pub returns-in_err-claim_directory-clause-reads : goal.returns-in_err-claim_directory-clause-reads
returns-in_err-claim_directory-clause-reads g c h =
    only_reads_on (g.D.Disk.state c.args.disk.now) (g.D.Disk.state c.loop-entry.disk)
    (g.D.Disk.state c.claim_directory.new.disk)
    (c.loop-entry.invariant.reads (c.claim_directory.ensures.same.was_honest h))
    (c.claim_directory.ensures.reads h)

pub loop-entry-preserved : goal.loop-entry-preserved
loop-entry-preserved g c =
    let s = g.D.Disk.state c.args.disk.now in
    let now = g.D.Disk.state c.loop-entry.disk in
    let new = g.D.Disk.state c.claim_directory.new.disk in
    let before = c.loop-entry.invariant in
    let ensures = c.in_ok-claim_directory.ensures in
    record {
      same = same_disk_on s now new before.same ensures.same;
      served = ensures.served (λ is. cc) ∙ before.served;
      reads = λ h. only_reads_on s now new (before.reads (ensures.same.was_honest h)) (ensures.reads h);
      fits = λ all. subst (λ (n : ℕ). AllByRecursion (FitsDisk n) c.claim_directory.new.reading.files.items)
          before.same.size
          (ensures.fits (subst (λ (n : ℕ). AllByRecursion (FitsDisk n) c.loop-entry.reading.files.items)
          (sym before.same.size) (before.fits all)));
      held = λ own. ensures.held (before.held own);
      owners = ensures.owners ∙ before.owners;
      long = ensures.long ∙ before.long;
      marked = λ h.
          let was = ensures.same.was_honest h in
          marked_go_on master_view s.size now.size s.contents now.contents c.args.entries.now
          c.loop-entry.entry-index c.entry-item.result c.loop-entry.marks c.claim_directory.new.marks
          c.loop-entry-test.true c.entry-item.is before.same.size
          (same_contents s.contents now.contents (before.reads was).still.contents) (before.marked was)
          (λ directories marked. ensures.marked h directories marked);
      read = λ h own named once r.
          let was = ensures.same.was_honest h in
          directories_go_on master_view s.size now.size (layout_number c.args.layout) s.contents now.contents
          c.args.entries.now c.loop-entry.entry-index c.entry-item.result c.loop-entry.marks
          c.loop-entry.reading.files.items c.claim_directory.new.reading.files.items c.loop-entry.reading.findings.items
          c.claim_directory.new.reading.findings.items c.loop-entry-test.true c.entry-item.is before.same.size
          (same_contents s.contents now.contents (before.reads was).still.contents)
          named once (before.marked was).walked (before.read was own named once r)
          (λ directories word front walked here new_directory so_far.
          ensures.read h (before.held own) directories word front walked here new_directory so_far);
    }

pub returns-clause-walked : goal.returns-clause-walked
returns-clause-walked g c h =
    let s = g.D.Disk.state c.args.disk.now in
    marked_all master_view s.size s.contents c.args.entries.now c.loop-entry.entry-index c.loop-entry.marks
    c.loop-entry-test.false (c.loop-entry.invariant.marked h)

pub returns-clause-long : goal.returns-clause-long
returns-clause-long g c =
    c.loop-entry.invariant.long ∙ ap length c.requires.fresh
    ∙ length-replicate {A = Bool} (g.D.Disk.state c.args.disk.now).size false
