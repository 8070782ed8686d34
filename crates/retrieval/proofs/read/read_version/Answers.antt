use Rattle.std.proofs.Common.{◌≡◌, inl, inr, ⊎_elim, ℕ, ◌<◌, ◌≤◌, length, Some, sym, ap, subst, ◌∙◌, arith}
use Rattle.std.proofs.lemmas.Result.{err_from_is_err_and}
use Rattle.std.specs.List.{AllByRecursion}
use Rattle.spec_image.specs.Common.{InSpace, blocks_of, layout_number}
use Rattle.blockdisk.specs.Common.{same_disk_on, keeps_on}
use Rattle.retrieval.specs.Common.{VersionState, IsReadTo, IsVersionAt}
use Rattle.retrieval.specs.declared.error.RetrievalError.TheVariants.{BadRetrieval}
use Rattle.retrieval.proofs.Readings.{read_started, read_more, damaged_extension, bad_extension, bad_overfilled}
use Rattle.retrieval.proofs.Readings.{read_whole, bad_count, damaged_prime, bad_prime, extended_longer, none_wrong}
use Rattle.retrieval.proofs.Readings.{extended_blocks, extended_ribs, falls, bad_of}
use Rattle.retrieval.proofs.RibCounts.{started_filled, extended_filled, filled_few}
use Rattle.retrieval.proofs.Whole.{read_as}
use Rattle.changeset.proofs.LogRead.{passed_on}
use Rattle.retrieval.proofs.read.read_version.Goals as goal

pub returns-in_err-block-clause-bad : goal.returns-in_err-block-clause-bad
returns-in_err-block-clause-bad g c h k is =
    let s = g.D.Disk.state c.args.disk.now in
    let layout = layout_number c.args.layout in
    let p = err_from_is_err_and c.from_residual.result c.from_residual.ensures.1 in
    let e = c.read_block.ensures.bad h k
    (passed_on c.from_residual.result c.read_block.result p.0 c.in_err-block.field-0.0
    (BadRetrieval k) is p.1 p.2 c.in_err-block.was) in
    bad_of s.size s.size s.contents layout c.args.at k c.args.at (λ i. s.size) e.0
    (damaged_prime s.size s.contents layout c.args.at e.1)

pub returns-in_err-prime-clause-bad : goal.returns-in_err-prime-clause-bad
returns-in_err-prime-clause-bad g c h k is =
    let s = g.D.Disk.state c.args.disk.now in
    let layout = layout_number c.args.layout in
    let p = err_from_is_err_and c.from_residual-in_err-prime.result c.from_residual-in_err-prime.ensures.1 in
    let e = c.start_version.ensures.bad k
    (passed_on c.from_residual-in_err-prime.result c.start_version.result p.0 c.in_err-prime.field-0.0
    (BadRetrieval k) is p.1 p.2 c.in_err-prime.was) in
    bad_of c.blocks-size.result s.size s.contents layout c.args.at k c.args.at c.blocks-size.ensures e.0
    (bad_prime c.blocks-size.result s.contents layout c.args.at c.in_ok-block.block (c.in_ok-block.ensures.words h) e.1)

pub loop-next-init : goal.loop-next-init
loop-next-init g c =
    let s = g.D.Disk.state c.args.disk.now in
    let layout = layout_number c.args.layout in
    let started = c.in_ok-prime.ensures.ok in
    record {
      same = c.read_block.ensures.same;
      served = c.in_ok-block.ensures.served (λ is. cc);
      keeps = λ h. c.read_block.ensures.keeps h;
      next_inside = λ some. started.next_inside some;
      blocks_inside = subst (AllByRecursion (InSpace c.blocks-size.result)) (sym started.blocks_are) started.inside;
      ribs_inside = subst (AllByRecursion (InSpace c.blocks-size.result)) (sym started.ribs_are) tt;
      words = started.spells.fits.few;
      room = started.room;
      filled = started_filled c.blocks-size.result layout c.in_ok-block.block c.in_ok-prime.prime c.in_ok-prime.version
          c.in_ok-prime.next started;
      read = λ h. read_started c.blocks-size.result s.contents layout c.args.at c.in_ok-block.block c.in_ok-prime.prime
          c.in_ok-prime.version c.in_ok-prime.next (c.in_ok-block.ensures.words h) started;
    }

pub returns-in_err-block-2-clause-bad : goal.returns-in_err-block-2-clause-bad
returns-in_err-block-2-clause-bad g c h k is =
    let s = g.D.Disk.state c.args.disk.now in
    let layout = layout_number c.args.layout in
    let next = c.loop-next.next in
    let some : 0 < next = let e = c.loop-next-test.true in omega arith in
    let p = err_from_is_err_and c.from_residual-in_err-block-2.result c.from_residual-in_err-block-2.ensures.1 in
    let e = c.read_block-in-loop-next.ensures.bad h k
    (passed_on c.from_residual-in_err-block-2.result c.read_block-in-loop-next.result p.0 c.in_err-block-2.field-0.0
    (BadRetrieval k) is p.1 p.2 c.in_err-block-2.was) in
    bad_of c.blocks-size.result s.size s.contents layout c.args.at k next c.blocks-size.ensures e.0
    (damaged_extension c.blocks-size.result s.contents layout c.args.at c.in_ok-prime.prime c.loop-next.version next
    (c.loop-next.invariant.read (c.read_block-in-loop-next.ensures.same.was_honest h)) some
    (sym ((c.loop-next.invariant.keeps (c.read_block-in-loop-next.ensures.same.was_honest h)).contents next) ∙ e.1))

pub returns-in_err-block-2-clause-keeps : goal.returns-in_err-block-2-clause-keeps
returns-in_err-block-2-clause-keeps g c h =
    keeps_on (g.D.Disk.state c.args.disk.now) (g.D.Disk.state c.loop-next.disk)
    (g.D.Disk.state c.read_block-in-loop-next.new.disk)
    (c.loop-next.invariant.keeps (c.read_block-in-loop-next.ensures.same.was_honest h))
    (c.read_block-in-loop-next.ensures.keeps h)

pub returns-in_err-next-clause-bad : goal.returns-in_err-next-clause-bad
returns-in_err-next-clause-bad g c h k is =
    let s = g.D.Disk.state c.args.disk.now in
    let layout = layout_number c.args.layout in
    let next = c.loop-next.next in
    let size = c.blocks-size.result in
    let words = c.in_ok-block-2.block in
    let some : 0 < next = let e = c.loop-next-test.true in omega arith in
    let has : s.contents next ≡ Some words = sym
    ((c.loop-next.invariant.keeps (c.in_ok-block-2.ensures.same.was_honest h)).contents next)
    ∙ c.in_ok-block-2.ensures.words h in
    let p = err_from_is_err_and c.from_residual-in_err-next.result c.from_residual-in_err-next.ensures.1 in
    let read = c.loop-next.invariant.read (c.in_ok-block-2.ensures.same.was_honest h) in
    ⊎_elim
    (λ x. bad_of size s.size s.contents layout c.args.at k next c.blocks-size.ensures x.0
    (bad_extension size s.contents layout c.args.at c.in_ok-prime.prime c.loop-next.version next read words some has
    x.1))
    (λ x. bad_of size s.size s.contents layout c.args.at k c.args.at c.blocks-size.ensures x.0
    (bad_overfilled size s.contents layout c.args.at c.in_ok-prime.prime c.loop-next.version next read words some has
    x.1))
    (c.extend_version.ensures.bad k (passed_on c.from_residual-in_err-next.result c.extend_version.result
    p.0 c.in_err-next.field-0.0 (BadRetrieval k) is p.1 p.2 c.in_err-next.was))

pub returns-in_err-next-clause-keeps : goal.returns-in_err-next-clause-keeps
returns-in_err-next-clause-keeps g c h =
    keeps_on (g.D.Disk.state c.args.disk.now) (g.D.Disk.state c.loop-next.disk)
    (g.D.Disk.state c.read_block-in-loop-next.new.disk)
    (c.loop-next.invariant.keeps (c.read_block-in-loop-next.ensures.same.was_honest h))
    (c.read_block-in-loop-next.ensures.keeps h)

pub loop-next-smaller : goal.loop-next-smaller
loop-next-smaller g c =
    let x = c.in_ok-next.ensures.ok in
    falls (blocks_of c.loop-next.version.words) (blocks_of c.extend_version.new.version.words)
    (length c.loop-next.version.blocks) (length c.extend_version.new.version.blocks)
    (ap (λ (v : VersionState). blocks_of v.words) x.version_is)
    (extended_longer c.blocks-size.result c.in_ok-block-2.block c.loop-next.next c.in_ok-next.next c.loop-next.version
    c.extend_version.new.version x) x.room

pub loop-next-preserved : goal.loop-next-preserved
loop-next-preserved g c =
    let s = g.D.Disk.state c.args.disk.now in
    let layout = layout_number c.args.layout in
    let now = g.D.Disk.state c.loop-next.disk in
    let new = g.D.Disk.state c.read_block-in-loop-next.new.disk in
    let x = c.in_ok-next.ensures.ok in
    let next = c.loop-next.next in
    let some : 0 < next = let e = c.loop-next-test.true in omega arith in
    record {
      same = same_disk_on s now new c.loop-next.invariant.same c.read_block-in-loop-next.ensures.same;
      served = c.in_ok-block-2.ensures.served (λ is. cc) ∙ c.loop-next.invariant.served;
      keeps = λ h. keeps_on s now new (c.loop-next.invariant.keeps
          (c.read_block-in-loop-next.ensures.same.was_honest h)) (c.read_block-in-loop-next.ensures.keeps h);
      next_inside = λ more. x.next_inside more;
      blocks_inside = extended_blocks c.blocks-size.result c.in_ok-block-2.block next c.in_ok-next.next
          c.loop-next.version c.extend_version.new.version x c.loop-next.invariant.blocks_inside;
      ribs_inside = extended_ribs c.blocks-size.result c.in_ok-block-2.block next c.in_ok-next.next c.loop-next.version
          c.extend_version.new.version x (c.loop-next.invariant.next_inside some) c.loop-next.invariant.ribs_inside;
      words = subst (λ (n : ℕ). n ≤ 2097152) (sym (ap (λ (v : VersionState). v.words) x.version_is))
          c.loop-next.invariant.words;
      room = x.room;
      filled = extended_filled c.blocks-size.result c.in_ok-block-2.block next c.in_ok-next.next c.loop-next.version
          c.extend_version.new.version some x c.loop-next.invariant.filled;
      read = λ h. read_more c.blocks-size.result s.contents layout c.args.at c.in_ok-prime.prime c.loop-next.version
          next (c.loop-next.invariant.read (c.read_block-in-loop-next.ensures.same.was_honest h)) c.in_ok-block-2.block
          c.in_ok-next.next
          c.extend_version.new.version some
          (sym ((c.loop-next.invariant.keeps (c.read_block-in-loop-next.ensures.same.was_honest h)).contents next)
          ∙ c.in_ok-block-2.ensures.words h) x;
    }

pub returns-then-count-blocks_of-clause-bad : goal.returns-then-count-blocks_of-clause-bad
returns-then-count-blocks_of-clause-bad g c h k is =
    let s = g.D.Disk.state c.args.disk.now in
    let layout = layout_number c.args.layout in
    let size = c.blocks-size.result in
    let end : IsReadTo size s.contents layout c.args.at c.in_ok-prime.prime c.loop-next.version 0 =
    subst (λ (n : ℕ). IsReadTo size s.contents layout c.args.at c.in_ok-prime.prime c.loop-next.version n)
    c.loop-next-test.false (c.loop-next.invariant.read h) in
    bad_of size s.size s.contents layout c.args.at k c.args.at c.blocks-size.ensures (cc)
    (bad_count size s.contents layout c.args.at c.in_ok-prime.prime c.loop-next.version end
    (λ same. c.if-count-blocks_of.true (c.count.ensures ∙ same
    ∙ sym (c.blocks_of.ensures.value ∙ ap blocks_of c.length.ensures))))

pub returns-clause-ok : goal.returns-clause-ok
returns-clause-ok g c h =
    let s = g.D.Disk.state c.args.disk.now in
    let layout = layout_number c.args.layout in
    let size = c.blocks-size.result in
    let end : IsReadTo size s.contents layout c.args.at c.in_ok-prime.prime c.loop-next.version 0 =
    subst (λ (n : ℕ). IsReadTo size s.contents layout c.args.at c.in_ok-prime.prime c.loop-next.version n)
    c.loop-next-test.false (c.loop-next.invariant.read h) in
    let enough : length c.loop-next.version.blocks
    ≡ blocks_of c.loop-next.version.words = sym c.count.ensures ∙ c.if-count-blocks_of.false
    ∙ c.blocks_of.ensures.value ∙ ap blocks_of c.length.ensures in
    subst (λ (n : ℕ). IsVersionAt n s.contents layout c.args.at c.in_ok-prime.prime c.loop-next.version)
    c.blocks-size.ensures
    (read_whole size s.contents layout c.args.at c.in_ok-prime.prime c.loop-next.version end enough)

pub returns-clause-reads : goal.returns-clause-reads
returns-clause-reads g c h p ribs blocks is ext =
    let s = g.D.Disk.state c.args.disk.now in
    let layout = layout_number c.args.layout in
    read_as s.size s.contents layout c.args.at c.in_ok-prime.prime c.loop-next.version p ribs blocks
    (returns-clause-ok g c h) is ext

pub returns-clause-blocks_inside : goal.returns-clause-blocks_inside
returns-clause-blocks_inside g c = subst (λ (n : ℕ). AllByRecursion (InSpace n) c.loop-next.version.blocks)
    c.blocks-size.ensures c.loop-next.invariant.blocks_inside

pub returns-clause-few_ribs : goal.returns-clause-few_ribs
returns-clause-few_ribs g c = filled_few (length c.loop-next.version.ribs)
    (length c.loop-next.version.blocks) c.loop-next.next c.loop-next.invariant.filled

pub returns-clause-ribs_inside : goal.returns-clause-ribs_inside
returns-clause-ribs_inside g c = subst (λ (n : ℕ). AllByRecursion (InSpace n) c.loop-next.version.ribs)
    c.blocks-size.ensures c.loop-next.invariant.ribs_inside

pub returns-clause-counted : goal.returns-clause-counted
returns-clause-counted g c = sym c.count.ensures ∙ c.if-count-blocks_of.false
    ∙ c.blocks_of.ensures.value ∙ ap blocks_of c.length.ensures

-- The block that is named.

pub returns-in_err-block-clause-named : goal.returns-in_err-block-clause-named
returns-in_err-block-clause-named g c k is =
    let p = err_from_is_err_and c.from_residual.result c.from_residual.ensures.1 in
    inl (c.read_block.ensures.named k (passed_on c.from_residual.result c.read_block.result p.0 c.in_err-block.field-0.0
    (BadRetrieval k) is p.1 p.2 c.in_err-block.was))

pub returns-in_err-prime-clause-named : goal.returns-in_err-prime-clause-named
returns-in_err-prime-clause-named g c k is =
    let p = err_from_is_err_and c.from_residual-in_err-prime.result c.from_residual-in_err-prime.ensures.1 in
    inl (c.start_version.ensures.bad k
    (passed_on c.from_residual-in_err-prime.result c.start_version.result p.0 c.in_err-prime.field-0.0
    (BadRetrieval k) is p.1 p.2 c.in_err-prime.was)).0

pub returns-in_err-block-2-clause-named : goal.returns-in_err-block-2-clause-named
returns-in_err-block-2-clause-named g c k is =
    let size = (g.D.Disk.state c.args.disk.now).size in
    let next = c.loop-next.next in
    let some : 0 < next = let e = c.loop-next-test.true in omega arith in
    let here : InSpace size next = subst (λ (n : ℕ). InSpace n next) c.blocks-size.ensures
    (c.loop-next.invariant.next_inside some) in
    let p = err_from_is_err_and c.from_residual-in_err-block-2.result c.from_residual-in_err-block-2.ensures.1 in
    inr (subst (InSpace size)
    (sym (c.read_block-in-loop-next.ensures.named k
    (passed_on c.from_residual-in_err-block-2.result c.read_block-in-loop-next.result p.0 c.in_err-block-2.field-0.0
    (BadRetrieval k) is p.1 p.2 c.in_err-block-2.was))) here)

pub returns-in_err-next-clause-named : goal.returns-in_err-next-clause-named
returns-in_err-next-clause-named g c k is =
    let size = (g.D.Disk.state c.args.disk.now).size in
    let next = c.loop-next.next in
    let some : 0 < next = let e = c.loop-next-test.true in omega arith in
    let here : InSpace size next = subst (λ (n : ℕ). InSpace n next) c.blocks-size.ensures
    (c.loop-next.invariant.next_inside some) in
    let p = err_from_is_err_and c.from_residual-in_err-next.result c.from_residual-in_err-next.ensures.1 in
    ⊎_elim (λ x. inr (subst (InSpace size) (sym x.0) here)) (λ x. inl x.0)
    (c.extend_version.ensures.bad k (passed_on c.from_residual-in_err-next.result c.extend_version.result
    p.0 c.in_err-next.field-0.0 (BadRetrieval k) is p.1 p.2 c.in_err-next.was))

pub returns-then-count-blocks_of-clause-named : goal.returns-then-count-blocks_of-clause-named
returns-then-count-blocks_of-clause-named g c k is = inl (cc)

pub returns-in_err-block-clause-whole : goal.returns-in_err-block-clause-whole
returns-in_err-block-clause-whole g c h p ribs blocks w k is =
    let s = g.D.Disk.state c.args.disk.now in
    let layout = layout_number c.args.layout in
    none_wrong s.size s.contents layout c.args.at p ribs blocks w k (returns-in_err-block-clause-bad g c h k is)

pub returns-in_err-prime-clause-whole : goal.returns-in_err-prime-clause-whole
returns-in_err-prime-clause-whole g c h p ribs blocks w k is =
    let s = g.D.Disk.state c.args.disk.now in
    let layout = layout_number c.args.layout in
    none_wrong s.size s.contents layout c.args.at p ribs blocks w k (returns-in_err-prime-clause-bad g c h k is)

pub returns-in_err-block-2-clause-whole : goal.returns-in_err-block-2-clause-whole
returns-in_err-block-2-clause-whole g c h p ribs blocks w k is =
    let s = g.D.Disk.state c.args.disk.now in
    let layout = layout_number c.args.layout in
    none_wrong s.size s.contents layout c.args.at p ribs blocks w k (returns-in_err-block-2-clause-bad g c h k is)

pub returns-in_err-next-clause-whole : goal.returns-in_err-next-clause-whole
returns-in_err-next-clause-whole g c h p ribs blocks w k is =
    let s = g.D.Disk.state c.args.disk.now in
    let layout = layout_number c.args.layout in
    none_wrong s.size s.contents layout c.args.at p ribs blocks w k (returns-in_err-next-clause-bad g c h k is)

pub returns-then-count-blocks_of-clause-whole : goal.returns-then-count-blocks_of-clause-whole
returns-then-count-blocks_of-clause-whole g c h p ribs blocks w k is =
    let s = g.D.Disk.state c.args.disk.now in
    let layout = layout_number c.args.layout in
    none_wrong s.size s.contents layout c.args.at p ribs blocks w k (returns-then-count-blocks_of-clause-bad g c h k is)
