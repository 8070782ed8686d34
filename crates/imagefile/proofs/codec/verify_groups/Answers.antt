use Rattle.std.proofs.Common.{◌≤◌, ℕ, Ok, subst, arith}
use Rattle.blockdisk.specs.Common.{IsVerify, verify_on, verify_damaged, verify_failed, verify_fewer}
use Rattle.imagefile.specs.Common.{FileState, image_state}
use Rattle.imagefile.proofs.FileLaws.{same_on}
use Rattle.imagefile.proofs.codec.verify_groups.Goals as goal

pub loop-next-preserved : goal.loop-next-preserved
loop-next-preserved g c =
    let old = g.F.Durable.state c.args.file.now in
    let now = g.F.Durable.state c.loop-next.file in
    let new = g.F.Durable.state c.verify_group.new.file in
    let image = λ (s : FileState) (blocks : ℕ). image_state c.args.form blocks s in
    record {
      begun = omega arith;
      long = omega arith;
      same = same_on old now new c.loop-next.invariant.same c.verify_group.ensures.same;
      verified = λ blocks. verify_on c.args.first c.loop-next.next c.group_end-stop.result
          (image old blocks) (image now blocks) (image new blocks) (c.loop-next.invariant.verified blocks)
          (subst (λ found. IsVerify c.loop-next.next c.group_end-stop.result (image now blocks) (image new blocks)
          (Ok found)) c.in-Ok-None.field-0-is (c.in-Ok-None.ensures.verifies blocks));
    }

pub returns-in-Ok-Some-clause-verifies : goal.returns-in-Ok-Some-clause-verifies
returns-in-Ok-Some-clause-verifies g c =
    let old = g.F.Durable.state c.args.file.now in
    let now = g.F.Durable.state c.loop-next.file in
    let new = g.F.Durable.state c.verify_group.new.file in
    let image = λ (s : FileState) (blocks : ℕ). image_state c.args.form blocks s in
    λ blocks. verify_damaged c.args.first c.loop-next.next c.group_end-stop.result
    (image old blocks) (image now blocks) (image new blocks) (c.loop-next.invariant.verified blocks)
    c.in-Ok-Some.bad c.args.end c.loop-next.invariant.begun c.group_end-stop.ensures.within
    (subst (λ found. IsVerify c.loop-next.next c.group_end-stop.result (image now blocks) (image new blocks) (Ok found))
    c.in-Ok-Some.field-0-is (c.in-Ok-Some.ensures.verifies blocks))

pub returns-in-Err-clause-verifies : goal.returns-in-Err-clause-verifies
returns-in-Err-clause-verifies g c =
    let old = g.F.Durable.state c.args.file.now in
    let now = g.F.Durable.state c.loop-next.file in
    let new = g.F.Durable.state c.verify_group.new.file in
    λ blocks. verify_failed c.args.first c.loop-next.next c.group_end-stop.result
    (image_state c.args.form blocks old) (image_state c.args.form blocks now) (image_state c.args.form blocks new)
    (c.loop-next.invariant.verified blocks) c.in-Err.fault c.args.end (c.in-Err.ensures.verifies blocks)

pub returns-clause-verifies : goal.returns-clause-verifies
returns-clause-verifies g c =
    let ended : c.args.end ≤ c.loop-next.next = omega arith in
    λ blocks. verify_fewer c.args.first c.args.end c.loop-next.next
    (image_state c.args.form blocks (g.F.Durable.state c.args.file.now))
    (image_state c.args.form blocks (g.F.Durable.state c.loop-next.file)) ended (c.loop-next.invariant.verified blocks)
