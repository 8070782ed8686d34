use Rattle.std.proofs.Common.{◌≡◌, ◌+◌, ◌-◌, ◌/◌, ◌<◌, ◌≤◌, ℕ, length, take, drop, arith}
use Rattle.std.specs.Prelude.{slice_index}
use Rattle.std.specs.Simd.{first_chunks}
use Rattle.spec_image.specs.Common.{blocks_of, InSpace}
use Rattle.retrieval.proofs.Parts.{all_at}
use Rattle.retrieval.proofs.PlaceWrites.{run_written, one_first, one_written, run_modifies, one_modifies, part_is}
use Rattle.retrieval.proofs.PlaceWrites.{part_size, filled_fits, filled_within, whole_words}
use Rattle.retrieval.proofs.place.write_some.Goals as goal

pub returns-in_err-write-clause-modified : goal.returns-in_err-write-clause-modified
returns-in_err-write-clause-modified g c h =
    let blocks = c.args.blocks.now.blocks in
    let at_first : slice_index blocks c.args.i ≡ c.run_at-run.result.first =
    one_first blocks c.args.i c.run_at-run.result.first (c.run_at-run.ensures.side_by_side 0 (omega arith)) in
    one_modifies blocks c.args.i (c.args.at + blocks_of (length c.args.words.now)) c.run_at-run.result.first
    (g.D.Disk.state c.args.disk.now) (g.D.Disk.state c.write.new.self) c.requires.left at_first
    (c.write.ensures.writes h)

pub returns-then-filled-eq0-clause-written : goal.returns-then-filled-eq0-clause-written
returns-then-filled-eq0-clause-written g c h =
    let blocks = c.args.blocks.now.blocks in
    let at_first : slice_index blocks c.args.i ≡ c.run_at-run.result.first =
    one_first blocks c.args.i c.run_at-run.result.first (c.run_at-run.ensures.side_by_side 0 (omega arith)) in
    one_written c.args.at c.args.words.now c.args.kept.now.place c.args.kept.now.words
    (g.D.Disk.state c.write.new.self).contents blocks c.args.i c.run_at-run.result.first c.new_block.result at_first
    (c.in_ok-write.ensures.put h) c.new_block.ensures

pub returns-then-filled-eq0-clause-modified : goal.returns-then-filled-eq0-clause-modified
returns-then-filled-eq0-clause-modified g c h =
    let blocks = c.args.blocks.now.blocks in
    let at_first : slice_index blocks c.args.i ≡ c.run_at-run.result.first =
    one_first blocks c.args.i c.run_at-run.result.first (c.run_at-run.ensures.side_by_side 0 (omega arith)) in
    one_modifies blocks c.args.i (c.args.at + blocks_of (length c.args.words.now)) c.run_at-run.result.first
    (g.D.Disk.state c.args.disk.now) (g.D.Disk.state c.write.new.self) c.requires.left at_first
    (c.write.ensures.writes h)

pub write_run-requires : goal.write_run-requires
write_run-requires g c =
    let blocks = c.args.blocks.now.blocks in
    let d : ℕ = c.args.i - c.args.at in
    let count = c.min-count.result in
    let some = c.if-filled-eq0.false in
    let from = c.filled_from-filled.ensures.from (omega (arith, some)) in
    let within = c.filled_from-filled.ensures.within (omega (arith, some)) in
    let less_filled : count ≤ c.filled_from-filled.result = omega (arith, c.min-count.ensures) in
    let few : count ≤ c.run_at-run.result.last - c.run_at-run.result.first + 1 =
    omega (arith, c.min-count.ensures, c.count.ensures.value) in
    let chunks = c.as_chunks.result.0.now in
    let inside = filled_within c.args.at c.args.i c.filled_from-filled.result count (length c.args.words.now)
    (length chunks) within less_filled c.as_chunks.ensures.front_len in
    let long = part_size d count chunks inside in
    let more : 0 < count = omega (arith, c.min-count.ensures, c.count.ensures.value, some) in
    let below = c.run_at-run.ensures.within in
    let last = c.run_at-run.ensures.side_by_side (count - 1) (omega (arith, few, more)) in
    let space = all_at (InSpace (g.D.Disk.state c.args.disk.now).size) blocks (c.args.i + (count - 1)) c.requires.inside
    (omega (arith, below, few, more)) in
    omega (arith, last, space.below, more, long)

pub returns-in_err-write_run-clause-modified : goal.returns-in_err-write_run-clause-modified
returns-in_err-write_run-clause-modified g c h =
    let blocks = c.args.blocks.now.blocks in
    let d : ℕ = c.args.i - c.args.at in
    let count = c.min-count.result in
    let some = c.if-filled-eq0.false in
    let from = c.filled_from-filled.ensures.from (omega (arith, some)) in
    let within = c.filled_from-filled.ensures.within (omega (arith, some)) in
    let less_filled : count ≤ c.filled_from-filled.result = omega (arith, c.min-count.ensures) in
    let few : count ≤ c.run_at-run.result.last - c.run_at-run.result.first + 1 =
    omega (arith, c.min-count.ensures, c.count.ensures.value) in
    let chunks = c.as_chunks.result.0.now in
    let inside = filled_within c.args.at c.args.i c.filled_from-filled.result count (length c.args.words.now)
    (length chunks) within less_filled c.as_chunks.ensures.front_len in
    let long = part_size d count chunks inside in
    run_modifies blocks c.args.i (c.args.at + blocks_of (length c.args.words.now)) c.run_at-run.result.first count _
    (g.D.Disk.state c.args.disk.now) (g.D.Disk.state c.write_run.new.self) long
    (filled_fits c.args.at c.args.i c.filled_from-filled.result count (length c.args.words.now) from within less_filled)
    (λ j less. c.run_at-run.ensures.side_by_side j (omega (arith, less, few))) (c.write_run.ensures.writes h)

pub returns-clause-written : goal.returns-clause-written
returns-clause-written g c h =
    let blocks = c.args.blocks.now.blocks in
    let d : ℕ = c.args.i - c.args.at in
    let count = c.min-count.result in
    let some = c.if-filled-eq0.false in
    let from = c.filled_from-filled.ensures.from (omega (arith, some)) in
    let within = c.filled_from-filled.ensures.within (omega (arith, some)) in
    let less_filled : count ≤ c.filled_from-filled.result = omega (arith, c.min-count.ensures) in
    let few : count ≤ c.run_at-run.result.last - c.run_at-run.result.first + 1 =
    omega (arith, c.min-count.ensures, c.count.ensures.value) in
    let chunks = c.as_chunks.result.0.now in
    let inside = filled_within c.args.at c.args.i c.filled_from-filled.result count (length c.args.words.now)
    (length chunks) within less_filled c.as_chunks.ensures.front_len in
    let long = part_size d count chunks inside in
    run_written c.args.at c.args.words.now c.args.kept.now.place c.args.kept.now.words
    (g.D.Disk.state c.write_run.new.self).contents blocks c.args.i c.run_at-run.result.first count
    (length c.args.words.now / 128) (take (d + count - d) (drop d chunks)) from
    (omega (arith, inside, c.as_chunks.ensures.front_len)) (whole_words (length c.args.words.now))
    (part_is d count chunks (first_chunks 128 (length c.args.words.now / 128) c.args.words.now)
    c.as_chunks.ensures.front) long
    (λ j less. c.run_at-run.ensures.side_by_side j (omega (arith, less, few))) (c.in_ok-write_run.ensures.put h)

pub returns-clause-modified : goal.returns-clause-modified
returns-clause-modified g c h =
    let blocks = c.args.blocks.now.blocks in
    let d : ℕ = c.args.i - c.args.at in
    let count = c.min-count.result in
    let some = c.if-filled-eq0.false in
    let from = c.filled_from-filled.ensures.from (omega (arith, some)) in
    let within = c.filled_from-filled.ensures.within (omega (arith, some)) in
    let less_filled : count ≤ c.filled_from-filled.result = omega (arith, c.min-count.ensures) in
    let few : count ≤ c.run_at-run.result.last - c.run_at-run.result.first + 1 =
    omega (arith, c.min-count.ensures, c.count.ensures.value) in
    let chunks = c.as_chunks.result.0.now in
    let inside = filled_within c.args.at c.args.i c.filled_from-filled.result count (length c.args.words.now)
    (length chunks) within less_filled c.as_chunks.ensures.front_len in
    let long = part_size d count chunks inside in
    run_modifies blocks c.args.i (c.args.at + blocks_of (length c.args.words.now)) c.run_at-run.result.first count _
    (g.D.Disk.state c.args.disk.now) (g.D.Disk.state c.write_run.new.self) long
    (filled_fits c.args.at c.args.i c.filled_from-filled.result count (length c.args.words.now) from within less_filled)
    (λ j less. c.run_at-run.ensures.side_by_side j (omega (arith, less, few))) (c.write_run.ensures.writes h)
