use Rattle.std.proofs.Common.{◌+◌, ◌∙◌, Some, [], ⊎_elim, length, get_or, ap, sym, refl, arith}
use Rattle.std.proofs.lemmas.Bool.{cases_eq}
use Rattle.std.proofs.lemmas.List.{get_or_read}
use Rattle.blockdisk.specs.Common.{IsInRun, modifies_start, modifies_write, same_disk_start, same_disk_on}
use Rattle.blockdisk.proofs.disk.Disk.write_run.Goals as goal

pub loop-place-init : goal.loop-place-init
loop-place-init g c =
    let s = g.Self.Disk.state c.args.self.now in
    record {
      put = λ h i none. absurd (omega (arith, none));
      moves = λ h none. absurd (omega (arith, none));
      writes = λ h. modifies_start (IsInRun c.args.first (length c.args.blocks.now)) s;
      same = same_disk_start s;
      served = refl;
    }

pub returns-in_err-write-clause-writes : goal.returns-in_err-write-clause-writes
returns-in_err-write-clause-writes g c h =
    let place = c.loop-place.place in
    let below = c.loop-place-test.true in
    modifies_write (IsInRun c.args.first (length c.args.blocks.now)) (c.args.first + place)
    (g.Self.Disk.state c.args.self.now) (g.Self.Disk.state c.loop-place.self) (g.Self.Disk.state c.write.new.self)
    (omega arith, omega (arith, below)) (c.loop-place.invariant.writes (c.write.ensures.same.was_honest h))
    (c.write.ensures.writes h)

pub loop-place-preserved : goal.loop-place-preserved
loop-place-preserved g c =
    let s = g.Self.Disk.state c.args.self.now in
    let now = g.Self.Disk.state c.loop-place.self in
    let new = g.Self.Disk.state c.write.new.self in
    let first = c.args.first in
    let blocks = c.args.blocks.now in
    let place = c.loop-place.place in
    let below = c.loop-place-test.true in
    let was : new.honest → now.honest = c.write.ensures.same.was_honest in
    record {
      put = λ h i less. ⊎_elim
          (λ here. ap (λ k. new.contents (first + k)) here ∙ c.in_ok-write.ensures.put h
          ∙ ap Some (get_or_read blocks place c.index-blocks-place.result below c.index-blocks-place.is [])
          ∙ ap (λ k. Some (get_or blocks k [])) (sym here))
          (λ other. (c.write.ensures.writes h).contents (first + i) (λ e. other (omega (arith, e)))
          ∙ c.loop-place.invariant.put (was h) i (omega (arith, less, other)))
          (cases_eq i place);
      moves = λ h some. omega (
        arith,
        (c.loop-place.invariant.writes (was h)).time.later,
        c.in_ok-write.ensures.moves h,
      );
      writes = λ h. modifies_write (IsInRun first (length blocks)) (first + place) s now new
          (omega arith, omega (arith, below)) (c.loop-place.invariant.writes (was h)) (c.write.ensures.writes h);
      same = same_disk_on s now new c.loop-place.invariant.same c.write.ensures.same;
      served = c.in_ok-write.ensures.served ∙ c.loop-place.invariant.served;
    }
