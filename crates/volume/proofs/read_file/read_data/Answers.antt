use Rattle.std.proofs.Common.{IsErrOf, ◌<◌, ◌∙◌, subst, sym, arith}
use Rattle.std.proofs.lemmas.Result.{err_from_is_err_and}
use Rattle.std.specs.List.{AllByRecursion}
use Rattle.blockdisk.specs.Common.{IsWholeBlock}
use Rattle.spec_image.specs.Common.{times, InSpace}
use Rattle.changeset.proofs.LogRead.{passed_on}
use Rattle.volume.proofs.common.DisksAsked.{keeps_disk_served, keeps_disk_on}
use Rattle.volume.proofs.common.RunsRead.{in_run, runs_more, each_stands, whole_before}
use Rattle.volume.specs.declared.error.VolumeError.TheVariants.{BadData, Device}
use Rattle.volume.proofs.read_file.read_data.Goals as goal

pub read_run-requires-clause-inside : goal.read_run-requires-clause-inside
read_run-requires-clause-inside g c =
    let s = g.D.Disk.state c.args.disk.now in
    let runs = c.runs-run-items.result.now in
    let run = c.run-item.result in
    let inside : InSpace s.size run.last = in_run (InSpace s.size) runs c.loop-run.run-index run c.loop-run-test.true
    c.run-item.is (subst (AllByRecursion (InSpace s.size)) (sym c.runs-run-items.ensures.blocks) c.requires.inside)
    run.last run.ordered (omega arith) in
    omega (arith, inside.below, c.loop-run.invariant.disk.same.size)

pub returns-in_err-read_run-clause-named : goal.returns-in_err-read_run-clause-named
returns-in_err-read_run-clause-named g c k is =
    let s = g.D.Disk.state c.args.disk.now in
    let p = err_from_is_err_and c.from_residual.result c.from_residual.ensures.1 in
    let named = c.read_run.ensures.named k (passed_on c.from_residual.result c.read_run.result p.0
    c.in_err-read_run.field-0.0 (BadData k) is p.1 p.2 c.in_err-read_run.was) in
    in_run (InSpace s.size) c.runs-run-items.result.now c.loop-run.run-index c.run-item.result c.loop-run-test.true
    c.run-item.is (subst (AllByRecursion (InSpace s.size)) (sym c.runs-run-items.ensures.blocks) c.requires.inside) k
    named.0 named.1

pub returns-in_err-read_run-clause-damaged : goal.returns-in_err-read_run-clause-damaged
returns-in_err-read_run-clause-damaged g c h k is =
    let blocks = c.args.version.now.blocks in
    let p = err_from_is_err_and c.from_residual.result c.from_residual.ensures.1 in
    let bad = passed_on c.from_residual.result c.read_run.result p.0 c.in_err-read_run.field-0.0 (BadData k) is p.1 p.2
    c.in_err-read_run.was in
    let named = c.read_run.ensures.named k bad in (
      in_run (λ n. 0 < times n blocks) c.runs-run-items.result.now c.loop-run.run-index c.run-item.result
          c.loop-run-test.true c.run-item.is
          (subst (AllByRecursion (λ n. 0 < times n blocks)) (sym c.runs-run-items.ensures.blocks) (each_stands blocks))
          k named.0 named.1,
      sym ((c.loop-run.invariant.disk.keeps (c.read_run.ensures.disk.same.was_honest h)).contents k)
          ∙ c.read_run.ensures.damaged h k bad,
    )

pub loop-run-preserved : goal.loop-run-preserved
loop-run-preserved g c =
    let s = g.D.Disk.state c.args.disk.now in
    let now = g.D.Disk.state c.loop-run.disk in
    let new = g.D.Disk.state c.read_run.new.disk in
    let runs = c.runs-run-items.result.now in
    let i = c.loop-run.run-index in
    let run = c.run-item.result in
    record {
      disk = keeps_disk_on s now new ⊥ c.loop-run.invariant.disk (keeps_disk_served now new
          (IsErrOf c.read_run.result Device) (λ is. let was = c.in_ok-read_run.was in cc) c.read_run.ensures.disk);
      whole = λ h. runs_more (IsWholeBlock s.contents) runs i run c.loop-run-test.true c.run-item.is run.ordered
          (c.loop-run.invariant.whole (c.read_run.ensures.disk.same.was_honest h))
          (λ n low high. whole_before s.contents now.contents n
          (c.loop-run.invariant.disk.keeps (c.read_run.ensures.disk.same.was_honest h)).contents
          (c.in_ok-read_run.ensures.ok h n low high));
    }
