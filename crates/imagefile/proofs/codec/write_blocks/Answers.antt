use Rattle.std.proofs.Common.{◌≡◌, ◌+◌, ◌-◌, ◌≤◌, ◌∙◌, ℕ, Err, length, take, drop, subst, sym, ap, arith}
use Rattle.std.proofs.lemmas.Result.{err_from_is_err_and}
use Rattle.blockdisk.specs.Common.{IsRunWrite, IsPartWrite, no_part_write, part_written, part_write_on}
use Rattle.blockdisk.specs.Common.{part_write_failed, length_part, part_at}
use Rattle.imagefile.specs.Common.{FileState, image_state}
use Rattle.imagefile.proofs.FileLaws.{same_start, same_on}
use Rattle.imagefile.proofs.codec.write_blocks.Goals as goal

pub loop-done-init : goal.loop-done-init
loop-done-init g c =
    let s = g.F.Durable.state c.args.file.now in
    record {
      same = same_start s;
      written = λ size. no_part_write c.args.first c.args.blocks.now (image_state c.args.form size s);
      within = omega arith;
    }

pub loop-done-preserved : goal.loop-done-preserved
loop-done-preserved g c =
    let old = g.F.Durable.state c.args.file.now in
    let now = g.F.Durable.state c.loop-done.file in
    let new = g.F.Durable.state c.write_group.new.file in
    let image = λ (s : FileState) (size : ℕ). image_state c.args.form size s in
    let done = c.loop-done.done in
    let stop = c.min-stop.result in
    let blocks = c.args.blocks.now in
    let more = stop - done in
    let room : done + more ≤ length blocks = omega arith in
    let end : done + more ≡ stop = omega arith in
    record {
      same = same_on old now new c.loop-done.invariant.same c.write_group.ensures.same;
      written = λ size. subst (λ k. IsPartWrite c.args.first k blocks (image old size) (image new size)) end
          (part_write_on c.args.first done blocks (image old size) (image now size)
          (c.loop-done.invariant.written size) more (take more (drop done blocks)) (image new size)
          (length_part blocks done more room) (part_at blocks done more room) c.in_ok-write_group.field-0
          (c.in_ok-write_group.ensures.writes size));
      within = omega arith;
    }

pub returns-in_err-write_group-clause-writes : goal.returns-in_err-write_group-clause-writes
returns-in_err-write_group-clause-writes g c =
    let old = g.F.Durable.state c.args.file.now in
    let now = g.F.Durable.state c.loop-done.file in
    let new = g.F.Durable.state c.write_group.new.file in
    let image = λ (s : FileState) (size : ℕ). image_state c.args.form size s in
    let done = c.loop-done.done in
    let stop = c.min-stop.result in
    let blocks = c.args.blocks.now in
    let more = stop - done in
    let room : done + more ≤ length blocks = omega arith in
    let p = err_from_is_err_and c.from_residual.result c.from_residual.ensures.1 in
    λ size. subst (IsRunWrite c.args.first blocks (image old size) (image new size)) (sym (p.1 ∙ ap Err p.2))
    (part_write_failed c.args.first done blocks (image old size) (image now size)
    (c.loop-done.invariant.written size) more (take more (drop done blocks)) (image new size)
    (length_part blocks done more room) (part_at blocks done more room) c.in_err-write_group.field-0.0 room
    (c.in_err-write_group.ensures.writes size))

pub returns-clause-writes : goal.returns-clause-writes
returns-clause-writes g c =
    let all : length c.args.blocks.now ≡ c.loop-done.done = omega arith in
    λ size. part_written c.args.first c.loop-done.done c.args.blocks.now
    (image_state c.args.form size (g.F.Durable.state c.args.file.now))
    (image_state c.args.form size (g.F.Durable.state c.loop-done.file)) (c.loop-done.invariant.written size) tt all
