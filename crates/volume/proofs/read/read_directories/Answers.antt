use Rattle.std.proofs.Common.{◌≡◌, ◌+◌, ℕ, List, [], map, take, drop, length, refl, sym, ap, subst, ◌∙◌, arith, Err}
use Rattle.std.proofs.Common.{IsErrOf}
use Rattle.std.proofs.lemmas.Result.{err_from_is_err_and}
use Rattle.std.specs.List.{AllByRecursion}
use Rattle.blockdisk.specs.Common.{same_contents}
use Rattle.spec_image.specs.Common.{layout_number, InSpace, IsMasterEntryOf, SpecMasterEntry, total}
use Rattle.alloctab.specs.Common.{digit_at}
use Rattle.volume.specs.declared.error.VolumeError.TheVariants.{Device}
use Rattle.volume.specs.Common.{master_view, known_directory, CurrentDirectory, reaches_in_known, IsWholeDirectory}
use Rattle.volume.specs.Common.{IsOnlySpace, IsAdded, AreDirectoriesRead, NamesInSpace, IsFaultOfDirectory}
use Rattle.volume.specs.Common.{IsFaultOfDirectories}
use Rattle.volume.proofs.common.DisksAsked.{keeps_disk_start, keeps_disk_served, keeps_disk_on, keeps_disk_handed}
use Rattle.volume.proofs.common.PassedErrors.{handed, found_on, named_on}
use Rattle.volume.proofs.common.Lookups.{viewed_at, viewed_split}
use Rattle.volume.proofs.common.ReachedBlocks.{total_marked}
use Rattle.volume.proofs.VolumeStart.FoundDirectories.{no_directories, directories_go_on, all_added}
use Rattle.volume.proofs.VolumeStart.FaultyDirectories.{directory_fault}
use Rattle.volume.proofs.read.read_directories.Goals as goal

pub add_directory-requires-clause-inside : goal.add_directory-requires-clause-inside
add_directory-requires-clause-inside g c =
    let s = g.D.Disk.state c.args.disk.now in
    subst (λ (n : ℕ). InSpace n c.entry-item.result.first) (sym c.loop-entry.invariant.disk.same.size)
    (viewed_at master_view c.args.entries.now c.loop-entry.entry-index c.entry-item.result c.loop-entry-test.true
    c.entry-item.is (λ (e : SpecMasterEntry). InSpace s.size e.1.1) c.requires.inside)

pub add_directory-requires-clause-entry : goal.add_directory-requires-clause-entry
add_directory-requires-clause-entry g c =
    viewed_at master_view c.args.entries.now c.loop-entry.entry-index c.entry-item.result c.loop-entry-test.true
    c.entry-item.is (IsMasterEntryOf (layout_number c.args.layout)) c.requires.entries

pub returns-in_err-add_directory-clause-fault : goal.returns-in_err-add_directory-clause-fault
returns-in_err-add_directory-clause-fault g c h =
    let s = g.D.Disk.state c.args.disk.now in
    let now = g.D.Disk.state c.loop-entry.disk in
    let i = c.loop-entry.entry-index in
    let e = c.entry-item.result in
    let p = err_from_is_err_and c.from_residual.result c.from_residual.ensures.1 in
    let same = same_contents s.contents now.contents
    (c.loop-entry.invariant.disk.keeps (c.add_directory.ensures.disk.same.was_honest h)).contents in
    let marks = digit_at c.loop-entry.reached in
    handed (IsFaultOfDirectories s.size (layout_number c.args.layout) s.contents (digit_at c.args.reached.now)
    (map master_view c.args.entries.now))
    c.from_residual.result c.add_directory.result p.0 c.in_err-add_directory.field-0.0 p.1 p.2
    c.in_err-add_directory.was
    (found_on (IsFaultOfDirectory now.size (layout_number c.args.layout) now.contents marks e.ppn e.first)
    (IsFaultOfDirectories s.size (layout_number c.args.layout) s.contents (digit_at c.args.reached.now)
    (map master_view c.args.entries.now))
    c.add_directory.result
    (λ error met. directory_fault s.size (layout_number c.args.layout) s.contents (map master_view c.args.entries.now)
    (map master_view (take i c.args.entries.now)) (map master_view (drop (i + 1) c.args.entries.now))
    (map known_directory c.loop-entry.directories.items)
    (digit_at c.args.reached.now) marks (master_view e) error
    (viewed_split master_view c.args.entries.now i e c.loop-entry-test.true c.entry-item.is) c.requires.once
    (c.loop-entry.invariant.read (c.add_directory.ensures.disk.same.was_honest h))
    (subst (λ contents. IsFaultOfDirectory s.size (layout_number c.args.layout) contents marks e.ppn e.first error) same
    (subst (λ (n : ℕ). IsFaultOfDirectory n (layout_number c.args.layout) now.contents marks e.ppn e.first error)
    c.loop-entry.invariant.disk.same.size
    met)))
    (c.add_directory.ensures.fault h))

pub returns-in_err-add_directory-clause-disk : goal.returns-in_err-add_directory-clause-disk
returns-in_err-add_directory-clause-disk g c =
    let s = g.D.Disk.state c.args.disk.now in
    let now = g.D.Disk.state c.loop-entry.disk in
    let new = g.D.Disk.state c.add_directory.new.disk in
    let p = err_from_is_err_and c.from_residual.result c.from_residual.ensures.1 in
    keeps_disk_handed s new c.from_residual.result c.add_directory.result p.0 c.in_err-add_directory.field-0.0 Device
    p.1 p.2 c.in_err-add_directory.was (keeps_disk_on s now new (IsErrOf c.add_directory.result Device)
    c.loop-entry.invariant.disk c.add_directory.ensures.disk)

pub loop-entry-preserved : goal.loop-entry-preserved
loop-entry-preserved g c =
    let s = g.D.Disk.state c.args.disk.now in
    let now = g.D.Disk.state c.loop-entry.disk in
    let new = g.D.Disk.state c.add_directory.new.disk in
    record {
      disk = keeps_disk_on s now new ⊥ c.loop-entry.invariant.disk (keeps_disk_served now new
          (IsErrOf c.add_directory.result Device)
          (λ (is : c.add_directory.result ≡ Err Device). let was = c.in_ok-add_directory.was in cc)
          c.add_directory.ensures.disk);
      marks = c.add_directory.ensures.length ∙ c.loop-entry.invariant.marks;
      space = λ only. subst (λ (n : ℕ). IsOnlySpace n c.add_directory.new.reached) c.loop-entry.invariant.disk.same.size
          (c.in_ok-add_directory.ensures.space (subst (λ (n : ℕ). IsOnlySpace n c.loop-entry.reached)
          (sym c.loop-entry.invariant.disk.same.size) (c.loop-entry.invariant.space only)));
      aligned = c.in_ok-add_directory.ensures.aligned ∙ ap (λ (n : ℕ). n + 1) c.loop-entry.invariant.aligned;
      whole = all_added known_directory (IsWholeDirectory s.size) c.loop-entry.directories.items
          c.add_directory.new.directories.items c.loop-entry.invariant.whole
          (subst (λ (n : ℕ). IsAdded known_directory c.loop-entry.directories.items
          c.add_directory.new.directories.items (IsWholeDirectory n)) c.loop-entry.invariant.disk.same.size
          c.in_ok-add_directory.ensures.whole);
      marked = total_marked known_directory reaches_in_known c.loop-entry.directories.items
          c.add_directory.new.directories.items
          (digit_at c.args.reached.now) (digit_at c.loop-entry.reached) (digit_at c.add_directory.new.reached)
          c.loop-entry.invariant.marked c.in_ok-add_directory.ensures.marked;
      read = λ h. directories_go_on known_directory (layout_number c.args.layout) s.contents now.contents master_view
          c.args.entries.now
          c.loop-entry.entry-index c.entry-item.result c.loop-entry.directories.items
          c.add_directory.new.directories.items
          (digit_at c.args.reached.now) (digit_at c.loop-entry.reached) (digit_at c.add_directory.new.reached)
          c.loop-entry-test.true c.entry-item.is (same_contents s.contents now.contents
          (c.loop-entry.invariant.disk.keeps (c.add_directory.ensures.disk.same.was_honest h)).contents)
          (c.loop-entry.invariant.read (c.add_directory.ensures.disk.same.was_honest h))
          (c.in_ok-add_directory.ensures.read h);
    }

pub loop-entry-init : goal.loop-entry-init
loop-entry-init g c =
    let s = g.D.Disk.state c.args.disk.now in
    let none : map known_directory c.new-directories.result.items
    ≡ [] = ap (map known_directory) c.new-directories.ensures.items in
    record {
      disk = keeps_disk_start s;
      marks = refl;
      space = λ only. only;
      aligned = ap length c.new-directories.ensures.items;
      whole = subst (AllByRecursion (IsWholeDirectory s.size)) (sym none) tt;
      marked = λ n. let e = ap (total (reaches_in_known n)) none in omega arith;
      read = λ h. subst (λ (ds : List CurrentDirectory). AreDirectoriesRead (layout_number c.args.layout) s.contents []
          ds (digit_at c.args.reached.now)
          (digit_at c.args.reached.now)) (sym none)
          (no_directories (layout_number c.args.layout) s.contents (digit_at c.args.reached.now));
    }

pub returns-in_err-add_directory-clause-named : goal.returns-in_err-add_directory-clause-named
returns-in_err-add_directory-clause-named g c =
    let size = (g.D.Disk.state c.args.disk.now).size in
    let p = err_from_is_err_and c.from_residual.result c.from_residual.ensures.1 in
    handed (NamesInSpace size) c.from_residual.result c.add_directory.result p.0 c.in_err-add_directory.field-0.0
    p.1 p.2 c.in_err-add_directory.was
    (named_on (g.D.Disk.state c.loop-entry.disk).size size c.add_directory.result c.loop-entry.invariant.disk.same.size
    c.add_directory.ensures.named)
