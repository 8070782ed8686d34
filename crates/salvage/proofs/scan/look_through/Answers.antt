use Rattle.std.proofs.Common.{◌≡◌, ℕ, ◌+◌, ◌≤◌, Bool, false, List, length, replicate, refl, sym, ap, subst, ◌∙◌}
use Rattle.std.proofs.Common.{arith}
use Rattle.std.proofs.lemmas.List.{length-replicate}
use Rattle.std.specs.List.{AllByRecursion}
use Rattle.blockdisk.specs.Common.{same_contents, same_disk_on, same_disk_start, still_start}
use Rattle.spec_image.specs.Common.{layout_number, space_start}
use Rattle.changeset.proofs.LogRead.{only_reads_on}
use Rattle.salvage.specs.Common.{AreFound, AreLoaded, AreOwned, FitsDisk}
use Rattle.salvage.specs.declared.saved.SavedFile.{SavedFile}
use Rattle.salvage.proofs.CarriedFacts.{moved}
use Rattle.salvage.proofs.ClaimedVersions.{none_loaded, owned_first}
use Rattle.salvage.proofs.LookedAt.{found_along, found_end, none_found}
use Rattle.salvage.proofs.scan.look_through.Goals as goal

pub loop-n-init : goal.loop-n-init
loop-n-init g c =
    let s = g.D.Disk.state c.args.disk.now in
    let d = c.args.searched.now in
    let layout = layout_number d.layout in
    let marks = c.in_ok-marks.marks in
    let findings = c.args.findings.now.items in
    let start = c.space_start-n.result in
    let none = sym c.new-files.ensures.items in
    let fresh : marks ≡ replicate s.size false = c.in_ok-marks.ensures
    ∙ ap (λ (k : ℕ). replicate k false) c.blocks-size.ensures in
    record {
      same = same_disk_start s;
      served = refl;
      reads = λ h. record { still = still_start s; is_open = λ n. refl };
      fits = subst (λ (l : List SavedFile). AllByRecursion (FitsDisk s.size) l) none tt;
      long = ap length fresh ∙ length-replicate {A = Bool} s.size false;
      owned = λ h. owned_first s.size layout s.contents marks s.size start fresh;
      loaded = λ h. subst (λ (l : List SavedFile). AreLoaded s.size layout s.contents marks l) none
          (none_loaded s.size layout s.contents marks);
      found = λ h are. subst
          (λ (l : List SavedFile). AreFound s.size layout s.contents d.search d.counts.now l findings findings start)
          none (none_found s.size layout s.contents d.search d.counts.now findings start
          (c.space_start-n.ensures ∙ ap space_start c.blocks-size.ensures));
    }

pub look_at-requires-clause-marks : goal.look_at-requires-clause-marks
look_at-requires-clause-marks g c = c.loop-n.invariant.long ∙ sym c.loop-n.invariant.same.size

pub loop-n-preserved : goal.loop-n-preserved
loop-n-preserved g c =
    let s = g.D.Disk.state c.args.disk.now in
    let now = g.D.Disk.state c.loop-n.disk in
    let new = g.D.Disk.state c.look_at.new.disk in
    let d = c.args.searched.now in
    let inv = c.loop-n.invariant in
    let e = c.in_ok-look_at.ensures in
    let before = c.look_at.ensures.same.was_honest in
    let there : new.honest → AreOwned now.size (layout_number d.layout) now.contents c.loop-n.marks c.loop-n.n =
    λ h. moved (λ z k. AreOwned z (layout_number d.layout) k c.loop-n.marks c.loop-n.n) now.size s.size now.contents
    s.contents (sym inv.same.size)
    (sym (same_contents s.contents now.contents (inv.reads (before h)).still.contents)) (inv.owned (before h)) in
    record {
      same = same_disk_on s now new inv.same c.look_at.ensures.same;
      served = e.served (λ is. cc) ∙ inv.served;
      reads = λ h. only_reads_on s now new (inv.reads (before h)) (c.look_at.ensures.reads h);
      fits = subst (λ (z : ℕ). AllByRecursion (FitsDisk z) c.look_at.new.files.items) inv.same.size
          (e.fits (subst (λ (z : ℕ). AllByRecursion (FitsDisk z) c.loop-n.files.items) (sym inv.same.size) inv.fits));
      found = λ h are. found_along s.size now.size (layout_number d.layout) s.contents now.contents d.search d.free.now
          d.counts.now c.loop-n.files.items c.look_at.new.files.items c.args.findings.now.items
          c.loop-n.findings.items c.look_at.new.findings.items c.loop-n.n inv.same.size
          (same_contents s.contents now.contents (inv.reads (before h)).still.contents)
          (λ begun is_free so_far. e.found h begun is_free (there h) so_far) are (inv.found (before h) are);
      long = e.long ∙ inv.long;
      loaded = λ h.
          let same = same_contents s.contents now.contents (inv.reads (before h)).still.contents in
          moved (λ z k. AreLoaded z (layout_number d.layout) k c.look_at.new.marks c.look_at.new.files.items) s.size
          now.size s.contents now.contents inv.same.size same
          (e.loaded h (moved (λ z k. AreLoaded z (layout_number d.layout) k c.loop-n.marks c.loop-n.files.items)
          now.size s.size now.contents s.contents (sym inv.same.size) (sym same) (inv.loaded (before h))));
      owned = λ h. moved
          (λ z k. AreOwned z (layout_number d.layout) k c.look_at.new.marks (c.loop-n.n + 1)) s.size now.size
          s.contents now.contents inv.same.size
          (same_contents s.contents now.contents (inv.reads (before h)).still.contents)
          (e.owned h (there h));
    }

pub returns-clause-found : goal.returns-clause-found
returns-clause-found g c h are =
    let s = g.D.Disk.state c.args.disk.now in
    let d = c.args.searched.now in
    let large = c.requires.volume.large in
    let small = c.requires.volume.small in
    let start : space_start s.size ≤ s.size = omega arith in
    let end : c.loop-n.n ≡ s.size = omega arith in
    found_end s.size (layout_number d.layout) s.contents d.search d.counts.now c.loop-n.files.items
    c.args.findings.now.items c.loop-n.findings.items c.loop-n.n end (c.loop-n.invariant.found h are)

pub returns-clause-alone : goal.returns-clause-alone
returns-clause-alone g c h = (c.loop-n.invariant.loaded h).alone

pub returns-in_err-look_at-clause-reads : goal.returns-in_err-look_at-clause-reads
returns-in_err-look_at-clause-reads g c h =
    only_reads_on (g.D.Disk.state c.args.disk.now) (g.D.Disk.state c.loop-n.disk) (g.D.Disk.state c.look_at.new.disk)
    (c.loop-n.invariant.reads (c.look_at.ensures.same.was_honest h)) (c.look_at.ensures.reads h)
