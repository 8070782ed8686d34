use Rattle.std.proofs.Common.{◌≡◌, ◌+◌, ◌-◌, ◌≤◌, ℕ, Ok, length, subst, ◌∙◌, arith}
use borrow.Rule.Slice.PartMut.{put_mid}
use Rattle.blockdisk.specs.Common.{IsRunRead, IsPartRead, part_run, part_on, part_all, part_damaged, part_failed}
use Rattle.imagefile.specs.Common.{FileState, image_state}
use Rattle.imagefile.proofs.FileLaws.{same_on}
use Rattle.imagefile.proofs.BlockReads.{length-filled, filled_before, filled_in}
use Rattle.imagefile.proofs.codec.read_groups.Goals as goal

pub loop-done-preserved : goal.loop-done-preserved
loop-done-preserved g c =
    let old = g.F.Durable.state c.args.file.now in
    let now = g.F.Durable.state c.loop-done.file in
    let new = g.F.Durable.state c.read_group.new.file in
    let image = λ (s : FileState) (size : ℕ). image_state c.args.form size s in
    let done = c.loop-done.done in
    let stop = c.min-stop.result in
    let blocks = c.loop-done.blocks in
    let group = c.read_group.new.blocks in
    let room : done + (stop - done) ≤ length blocks = omega arith in
    let long : length group ≡ stop - done = omega arith in
    let end : done + (stop - done) ≡ stop = omega arith in
    let read = λ (size : ℕ). subst (λ found. IsRunRead (c.args.first + done) (image now size) (image new size) group
    (Ok found)) c.in-Ok-None.field-0-is (c.in-Ok-None.ensures.reads size) in
    let whole = length-filled done (stop - done) blocks group room long in
    record {
      same = same_on old now new c.loop-done.invariant.same c.read_group.ensures.same;
      read = λ size. subst (λ k. IsPartRead c.args.first k (image old size) (image new size)
          (put_mid done (stop - done) blocks group)) end
          (part_on c.args.first done (image old size) (image now size) blocks (c.loop-done.invariant.read size)
          (stop - done) (image new size) group (put_mid done (stop - done) blocks group)
          (subst (λ k. IsPartRead (c.args.first + done) k (image now size) (image new size) group) long
          (part_run (c.args.first + done) (image now size) (image new size) group (read size)))
          (filled_before done (stop - done) blocks group room long)
          (filled_in done (stop - done) blocks group room long));
      within = omega (arith, whole);
      long = whole ∙ c.loop-done.invariant.long;
    }

pub returns-in-Ok-Some-clause-reads : goal.returns-in-Ok-Some-clause-reads
returns-in-Ok-Some-clause-reads g c =
    let old = g.F.Durable.state c.args.file.now in
    let now = g.F.Durable.state c.loop-done.file in
    let new = g.F.Durable.state c.read_group.new.file in
    let image = λ (s : FileState) (size : ℕ). image_state c.args.form size s in
    let done = c.loop-done.done in
    let stop = c.min-stop.result in
    let blocks = c.loop-done.blocks in
    let group = c.read_group.new.blocks in
    let room : done + (stop - done) ≤ length blocks = omega arith in
    let long : length group ≡ stop - done = omega arith in
    let read = λ (size : ℕ). subst (λ found. IsRunRead (c.args.first + done) (image now size) (image new size) group
    (Ok found)) c.in-Ok-Some.field-0-is (c.in-Ok-Some.ensures.reads size) in
    let whole = length-filled done (stop - done) blocks group room long in
    λ size. part_damaged c.args.first done (image old size) (image now size) blocks (c.loop-done.invariant.read size)
    c.in-Ok-Some.bad (image new size) group (put_mid done (stop - done) blocks group) (omega (arith, whole, long))
    (read size) (filled_before done (stop - done) blocks group room long)
    (λ i less. filled_in done (stop - done) blocks group room long i (omega (arith, less, long)))

pub returns-in-Err-clause-reads : goal.returns-in-Err-clause-reads
returns-in-Err-clause-reads g c =
    let old = g.F.Durable.state c.args.file.now in
    let now = g.F.Durable.state c.loop-done.file in
    let new = g.F.Durable.state c.read_group.new.file in
    λ size. part_failed c.args.first c.loop-done.done (image_state c.args.form size old)
    (image_state c.args.form size now) c.loop-done.blocks (c.loop-done.invariant.read size) c.in-Err.fault
    (image_state c.args.form size new) c.read_group.new.blocks _ (c.in-Err.ensures.reads size)

pub returns-clause-reads : goal.returns-clause-reads
returns-clause-reads g c =
    let all : length c.loop-done.blocks ≡ c.loop-done.done = omega arith in
    λ size. part_all c.args.first c.loop-done.done (image_state c.args.form size (g.F.Durable.state c.args.file.now))
    (image_state c.args.form size (g.F.Durable.state c.loop-done.file)) c.loop-done.blocks
    (c.loop-done.invariant.read size) all
