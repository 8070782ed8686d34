use Rattle.std.proofs.Common.{◌+◌, ℕ, map, take, drop, sym, ap, subst, ◌∙◌, ◌≡◌, Err, IsErrOf}
use Rattle.std.proofs.lemmas.Result.{err_from_is_err_and}
use Rattle.blockdisk.specs.Common.{same_contents}
use Rattle.spec_image.specs.Common.{layout_number, place_of, InSpace, SpecFileEntry}
use Rattle.alloctab.specs.Common.{digit_at}
use Rattle.volume.specs.Common.{turn_view, placed_known, NamesInSpace, IsFaultOfFile, IsFaultOfFiles, IsWholeVersion}
use Rattle.volume.specs.Common.{IsOnlySpace}
use Rattle.volume.specs.declared.error.VolumeError.TheVariants.{Device}
use Rattle.volume.proofs.common.DisksAsked.{keeps_disk_served, keeps_disk_on, keeps_disk_handed}
use Rattle.volume.proofs.common.PassedErrors.{handed, found_on, named_on}
use Rattle.volume.proofs.common.Lookups.{viewed_at, viewed_split}
use Rattle.volume.proofs.VolumeStart.FoundDirectories.{all_added}
use Rattle.volume.proofs.common.ReachedBlocks.{entries_marked}
use Rattle.volume.proofs.VolumeStart.FoundFiles.{file_fault, files_go_on}
use Rattle.volume.proofs.VolumeStart.ReadTurns.{places_more}
use Rattle.volume.proofs.read.read_turns.Goals as goal

pub add_file-requires-clause-inside : goal.add_file-requires-clause-inside
add_file-requires-clause-inside g c =
    let s = g.D.Disk.state c.args.disk.now in
    subst (λ (n : ℕ). InSpace n c.turn-item.result.entry.prime) (sym c.loop-turn.invariant.disk.same.size)
    (viewed_at turn_view c.args.turns.now c.loop-turn.turn-index c.turn-item.result c.loop-turn-test.true
    c.turn-item.is (λ (e : SpecFileEntry). InSpace s.size e.1) c.requires.inside)

pub returns-in_err-add_file-clause-fault : goal.returns-in_err-add_file-clause-fault
returns-in_err-add_file-clause-fault g c h =
    let s = g.D.Disk.state c.args.disk.now in
    let now = g.D.Disk.state c.loop-turn.disk in
    let i = c.loop-turn.turn-index in
    let e = c.turn-item.result in
    let p = err_from_is_err_and c.from_residual.result c.from_residual.ensures.1 in
    let same = same_contents s.contents now.contents
    (c.loop-turn.invariant.disk.keeps (c.add_file.ensures.disk.same.was_honest h)).contents in
    handed (IsFaultOfFiles s.size (layout_number c.args.layout) s.contents (digit_at c.args.reached.now) c.args.ppn
    (map turn_view c.args.turns.now)) c.from_residual.result c.add_file.result p.0 c.in_err-add_file.field-0.0
    p.1 p.2 c.in_err-add_file.was
    (found_on (IsFaultOfFile now.size (layout_number c.args.layout) now.contents c.loop-turn.reached
    (place_of c.args.ppn e.entry.name) e.entry.prime)
    (IsFaultOfFiles s.size (layout_number c.args.layout) s.contents (digit_at c.args.reached.now) c.args.ppn
    (map turn_view c.args.turns.now))
    c.add_file.result
    (λ error met. file_fault s.size (layout_number c.args.layout) s.contents c.args.ppn (map turn_view c.args.turns.now)
    (map turn_view (take i c.args.turns.now)) (map turn_view (drop (i + 1) c.args.turns.now))
    (map placed_known c.loop-turn.read.items)
    (digit_at c.args.reached.now) (turn_view e) error c.loop-turn.reached
    (viewed_split turn_view c.args.turns.now i e c.loop-turn-test.true c.turn-item.is) c.requires.once
    (c.loop-turn.invariant.read (c.add_file.ensures.disk.same.was_honest h))
    (subst (λ contents. IsFaultOfFile s.size (layout_number c.args.layout) contents c.loop-turn.reached
    (place_of c.args.ppn e.entry.name) e.entry.prime error)
    same (subst (λ (n : ℕ). IsFaultOfFile n (layout_number c.args.layout) now.contents c.loop-turn.reached
    (place_of c.args.ppn e.entry.name) e.entry.prime error) c.loop-turn.invariant.disk.same.size met)))
    (c.add_file.ensures.fault h))

pub returns-in_err-add_file-clause-disk : goal.returns-in_err-add_file-clause-disk
returns-in_err-add_file-clause-disk g c =
    let s = g.D.Disk.state c.args.disk.now in
    let now = g.D.Disk.state c.loop-turn.disk in
    let new = g.D.Disk.state c.add_file.new.disk in
    let p = err_from_is_err_and c.from_residual.result c.from_residual.ensures.1 in
    keeps_disk_handed s new c.from_residual.result c.add_file.result p.0 c.in_err-add_file.field-0.0 Device p.1 p.2
    c.in_err-add_file.was (keeps_disk_on s now new (IsErrOf c.add_file.result Device) c.loop-turn.invariant.disk
    c.add_file.ensures.disk)

pub loop-turn-preserved : goal.loop-turn-preserved
loop-turn-preserved g c =
    let s = g.D.Disk.state c.args.disk.now in
    let now = g.D.Disk.state c.loop-turn.disk in
    let new = g.D.Disk.state c.add_file.new.disk in
    record {
      disk = keeps_disk_on s now new ⊥ c.loop-turn.invariant.disk (keeps_disk_served now new
          (IsErrOf c.add_file.result Device)
          (λ (is : c.add_file.result ≡ Err Device). let was = c.in_ok-add_file.was in cc) c.add_file.ensures.disk);
      marks = c.add_file.ensures.length ∙ c.loop-turn.invariant.marks;
      whole = all_added placed_known IsWholeVersion c.loop-turn.read.items c.add_file.new.read.items
          c.loop-turn.invariant.whole c.in_ok-add_file.ensures.whole;
      space = λ only. subst (λ (n : ℕ). IsOnlySpace n c.add_file.new.reached) c.loop-turn.invariant.disk.same.size
          (c.in_ok-add_file.ensures.space (subst (λ (n : ℕ). IsOnlySpace n c.loop-turn.reached)
          (sym c.loop-turn.invariant.disk.same.size) (c.loop-turn.invariant.space only)));
      aligned = c.in_ok-add_file.ensures.aligned ∙ ap (λ (n : ℕ). n + 1) c.loop-turn.invariant.aligned;
      placed = places_more (λ p. p.place) (λ t. t.place) c.args.turns.now c.loop-turn.turn-index c.turn-item.result
          c.loop-turn.read.items c.add_file.new.read.items c.loop-turn-test.true c.turn-item.is
          c.loop-turn.invariant.placed c.in_ok-add_file.ensures.placed;
      marked = entries_marked placed_known turn_view c.args.turns.now c.loop-turn.turn-index c.turn-item.result
          c.loop-turn.read.items c.add_file.new.read.items
          (digit_at c.args.reached.now) (digit_at c.loop-turn.reached) (digit_at c.add_file.new.reached)
          c.loop-turn-test.true c.turn-item.is c.loop-turn.invariant.aligned c.loop-turn.invariant.marked
          c.in_ok-add_file.ensures.marked;
      read = λ h. files_go_on placed_known (layout_number c.args.layout) s.contents now.contents c.args.ppn turn_view
          c.args.turns.now
          c.loop-turn.turn-index c.turn-item.result c.loop-turn.read.items c.add_file.new.read.items
          (digit_at c.args.reached.now) (digit_at c.loop-turn.reached) (digit_at c.add_file.new.reached)
          c.loop-turn-test.true c.turn-item.is (same_contents s.contents now.contents
          (c.loop-turn.invariant.disk.keeps (c.add_file.ensures.disk.same.was_honest h)).contents)
          (c.loop-turn.invariant.read (c.add_file.ensures.disk.same.was_honest h)) (c.in_ok-add_file.ensures.read h);
    }

pub returns-in_err-add_file-clause-named : goal.returns-in_err-add_file-clause-named
returns-in_err-add_file-clause-named g c =
    let size = (g.D.Disk.state c.args.disk.now).size in
    let p = err_from_is_err_and c.from_residual.result c.from_residual.ensures.1 in
    handed (NamesInSpace size) c.from_residual.result c.add_file.result p.0 c.in_err-add_file.field-0.0
    p.1 p.2 c.in_err-add_file.was
    (named_on (g.D.Disk.state c.loop-turn.disk).size size c.add_file.result c.loop-turn.invariant.disk.same.size
    c.add_file.ensures.named)
