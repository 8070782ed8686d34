use Rattle.std.proofs.Common.{◌<◌, ⊎_elim, refl, ap, map, sym, subst, ◌∙◌, arith}
use Rattle.std.proofs.lemmas.Result.{err_from_is_err_and}
use Rattle.std.specs.List.{AllByRecursion}
use Rattle.blockdisk.specs.Common.{same_disk_start, same_disk_on}
use Rattle.spec_image.specs.Common.{InSpace, LeadsAlong}
use Rattle.directory.specs.declared.error.DirectoryError.TheVariants.{BadDirectory, BlockTwice}
use Rattle.directory.specs.Common.{IsOn, nodes_of, IsTwiceInChain}
use Rattle.directory.proofs.ChainBlocks.{reads_start, loading_starts, loading_less, loading_on, fewer, bad_chain}
use Rattle.directory.proofs.ChainBlocks.{twice_in_chain, reads_moved, bad_moved, bad_of, loaded_walk, loaded_on}
use Rattle.directory.proofs.ChainBlocks.{whole_not_bad, whole_not_twice}
use Rattle.directory.proofs.GrownLists.{none_needed}
use Rattle.changeset.proofs.LogRead.{only_reads_on, passed_on}
use Rattle.directory.proofs.chain.Chain.load.Goals as goal

pub loop-next-init : goal.loop-next-init
loop-next-init g c =
    let s = g.D.Disk.state c.args.disk.now in
    record {
      same = same_disk_start s;
      served = refl;
      reads = λ h. reads_start s;
      places = none_needed c.new-blocks.result.len c.new-blocks.result.cap c.new-blocks.ensures.len;
      loading = loading_starts g.E.ChainEntry.order g.E.ChainEntry.words_of g.E.ChainEntry.IsEntry g.E.ChainEntry.target
          c.blocks-size.result s.honest s.contents c.args.reached.now c.args.first c.new-blocks.result.items
          (map g.E.ChainEntry.view c.new-entries.result) c.new-blocks.ensures.items
          (ap (map g.E.ChainEntry.view) c.new-entries.ensures)
          (subst (λ n. InSpace n c.args.first) (sym c.blocks-size.ensures) c.requires.first)
          (c.requires.marks ∙ sym c.blocks-size.ensures);
    }

pub returns-in_err-next-clause-bad : goal.returns-in_err-next-clause-bad
returns-in_err-next-clause-bad g c h k is =
    let s = g.D.Disk.state c.args.disk.now in
    let now = g.D.Disk.state c.loop-next.disk in
    let next = c.loop-next.next in
    let entries = map g.E.ChainEntry.view c.loop-next.entries in
    let some : 0 < next = let e = c.loop-next-test.true in omega arith in
    let p = err_from_is_err_and c.from_residual.result c.from_residual.ensures.1 in
    let e = c.read_on.ensures.bad h k (passed_on c.from_residual.result c.read_on.result p.0 c.in_err-next.field-0.0
    (BadDirectory k) is p.1 p.2 c.in_err-next.was) in
    bad_of g.E.ChainEntry.order g.E.ChainEntry.words_of g.E.ChainEntry.IsEntry g.E.ChainEntry.target
    c.blocks-size.result s.size
    s.contents c.args.first k next c.blocks-size.ensures e.0
    (bad_chain g.E.ChainEntry.order g.E.ChainEntry.words_of g.E.ChainEntry.IsEntry g.E.ChainEntry.target
    c.blocks-size.result
    now.honest s.contents c.args.reached.now c.args.first c.loop-next.reached c.loop-next.blocks.items entries next
    c.loop-next.invariant.loading some (c.read_on.ensures.same.was_honest h)
    (bad_moved g.E.ChainEntry.order g.E.ChainEntry.words_of g.E.ChainEntry.IsEntry g.E.ChainEntry.target
    c.blocks-size.result
    s.contents now.contents next entries
    (c.loop-next.invariant.reads (c.read_on.ensures.same.was_honest h)).still.contents e.1))

pub returns-in_err-next-clause-twice : goal.returns-in_err-next-clause-twice
returns-in_err-next-clause-twice g c h k is =
    let s = g.D.Disk.state c.args.disk.now in
    let next = c.loop-next.next in
    let entries = map g.E.ChainEntry.view c.loop-next.entries in
    let some : 0 < next = let e = c.loop-next-test.true in omega arith in
    let p = err_from_is_err_and c.from_residual.result c.from_residual.ensures.1 in
    let e = c.read_on.ensures.twice k (passed_on c.from_residual.result c.read_on.result p.0 c.in_err-next.field-0.0
    (BlockTwice k) is p.1 p.2 c.in_err-next.was) in
    subst (IsTwiceInChain g.E.ChainEntry.words_of s.contents c.args.reached.now c.args.first) (sym e.0)
    (twice_in_chain g.E.ChainEntry.order g.E.ChainEntry.words_of g.E.ChainEntry.IsEntry g.E.ChainEntry.target
    c.blocks-size.result
    (g.D.Disk.state c.loop-next.disk).honest s.contents c.args.reached.now c.args.first c.loop-next.reached
    c.loop-next.blocks.items entries next
    c.loop-next.invariant.loading some (c.read_on.ensures.same.was_honest h) e.1)

pub returns-in_err-next-clause-named : goal.returns-in_err-next-clause-named
returns-in_err-next-clause-named g c k is =
    let size = (g.D.Disk.state c.args.disk.now).size in
    let next = c.loop-next.next in
    let some : 0 < next = let e = c.loop-next-test.true in omega arith in
    let p = err_from_is_err_and c.from_residual.result c.from_residual.ensures.1 in
    let here : InSpace size next = subst (λ n. InSpace n next) c.blocks-size.ensures
    (c.loop-next.invariant.loading.next_inside some) in
    subst (InSpace size)
    (⊎_elim (λ bad. sym (c.read_on.ensures.named k
    (passed_on c.from_residual.result c.read_on.result p.0 c.in_err-next.field-0.0
    (BadDirectory k) bad p.1 p.2 c.in_err-next.was)))
    (λ twice. sym (c.read_on.ensures.twice k
    (passed_on c.from_residual.result c.read_on.result p.0 c.in_err-next.field-0.0
    (BlockTwice k) twice p.1 p.2 c.in_err-next.was)).0) is) here

pub returns-in_err-next-clause-whole : goal.returns-in_err-next-clause-whole
returns-in_err-next-clause-whole g c h nodes w k is =
    let s = g.D.Disk.state c.args.disk.now in
    whole_not_bad g.E.ChainEntry.order g.E.ChainEntry.words_of g.met.E.ChainEntry.apart g.E.ChainEntry.IsEntry
    g.E.ChainEntry.target
    s.size s.contents c.args.reached.now c.args.first nodes w k (returns-in_err-next-clause-bad g c h k is)

pub returns-in_err-next-clause-once : goal.returns-in_err-next-clause-once
returns-in_err-next-clause-once g c h nodes w k is =
    let s = g.D.Disk.state c.args.disk.now in
    whole_not_twice g.E.ChainEntry.order g.E.ChainEntry.words_of g.met.E.ChainEntry.apart g.E.ChainEntry.IsEntry
    g.E.ChainEntry.target
    s.size s.contents c.args.reached.now c.args.first nodes w k (returns-in_err-next-clause-twice g c h k is)

pub returns-in_err-next-clause-reads : goal.returns-in_err-next-clause-reads
returns-in_err-next-clause-reads g c h =
    only_reads_on (g.D.Disk.state c.args.disk.now) (g.D.Disk.state c.loop-next.disk) (g.D.Disk.state c.read_on.new.disk)
    (c.loop-next.invariant.reads (c.read_on.ensures.same.was_honest h)) (c.read_on.ensures.reads h)

pub loop-next-smaller : goal.loop-next-smaller
loop-next-smaller g c =
    let s = g.D.Disk.state c.args.disk.now in
    let some : 0 < c.loop-next.next = let e = c.loop-next-test.true in omega arith in
    fewer g.E.ChainEntry.order g.E.ChainEntry.words_of g.E.ChainEntry.IsEntry g.E.ChainEntry.target c.blocks-size.result
    (g.D.Disk.state c.loop-next.disk).honest s.contents c.args.reached.now c.args.first c.loop-next.reached
    c.loop-next.blocks.items
    (map g.E.ChainEntry.view c.loop-next.entries) c.loop-next.next c.loop-next.invariant.loading some
    c.read_on.new.reached c.read_on.ensures.marked c.in_ok-next.ensures.fresh

pub loop-next-preserved : goal.loop-next-preserved
loop-next-preserved g c =
    let s = g.D.Disk.state c.args.disk.now in
    let now = g.D.Disk.state c.loop-next.disk in
    let new = g.D.Disk.state c.read_on.new.disk in
    let next = c.loop-next.next in
    let old = map g.E.ChainEntry.view c.loop-next.entries in
    let some : 0 < next = let e = c.loop-next-test.true in omega arith in
    record {
      same = same_disk_on s now new c.loop-next.invariant.same c.read_on.ensures.same;
      served = c.in_ok-next.ensures.served (λ is. cc) ∙ c.loop-next.invariant.served;
      reads = λ h. only_reads_on s now new (c.loop-next.invariant.reads (c.read_on.ensures.same.was_honest h))
          (c.read_on.ensures.reads h);
      places = c.read_on.ensures.places;
      loading = loading_on g.E.ChainEntry.order g.E.ChainEntry.words_of g.E.ChainEntry.IsEntry g.E.ChainEntry.target
          c.blocks-size.result
          new.honest s.contents c.args.reached.now c.args.first c.loop-next.reached c.loop-next.blocks.items old next
          (loading_less g.E.ChainEntry.order g.E.ChainEntry.words_of g.E.ChainEntry.IsEntry g.E.ChainEntry.target
          c.blocks-size.result
          now.honest new.honest c.read_on.ensures.same.was_honest s.contents c.args.reached.now c.loop-next.reached
          c.args.first
          c.loop-next.blocks.items old next c.loop-next.invariant.loading) some c.read_on.new.reached
          c.read_on.new.blocks.items c.in_ok-next.next (map g.E.ChainEntry.view c.read_on.new.entries)
          c.read_on.ensures.marked c.in_ok-next.ensures.blocks
          c.in_ok-next.ensures.fresh
          (reads_moved g.E.ChainEntry.order g.E.ChainEntry.words_of g.E.ChainEntry.IsEntry g.E.ChainEntry.target
          c.blocks-size.result
          new.honest new.honest s.contents now.contents next c.in_ok-next.next old
          (map g.E.ChainEntry.view c.read_on.new.entries) (λ h. h)
          (λ h. (c.loop-next.invariant.reads (c.read_on.ensures.same.was_honest h)).still.contents)
          c.in_ok-next.ensures.ok);
    }

pub returns-clause-on : goal.returns-clause-on
returns-clause-on g c h =
    let s = g.D.Disk.state c.args.disk.now in
    let blocks = c.loop-next.blocks.items in
    subst (λ es. IsOn g.E.ChainEntry.words_of s.contents
    (record { blocks = blocks; entries = map g.E.ChainEntry.view es }))
    (sym c.in_ok-entries.ensures)
    (loaded_on g.E.ChainEntry.order g.E.ChainEntry.words_of g.E.ChainEntry.IsEntry g.E.ChainEntry.target
    c.blocks-size.result
    (g.D.Disk.state c.loop-next.disk).honest s.contents c.args.reached.now c.args.first c.loop-next.reached blocks
    (map g.E.ChainEntry.view c.loop-next.entries) c.loop-next.next c.loop-next.invariant.loading c.loop-next-test.false
    h)

pub returns-clause-walk : goal.returns-clause-walk
returns-clause-walk g c h =
    let s = g.D.Disk.state c.args.disk.now in
    let blocks = c.loop-next.blocks.items in
    subst (λ es. LeadsAlong g.E.ChainEntry.words_of s.contents c.args.first
    (nodes_of blocks (map g.E.ChainEntry.view es)) 0)
    (sym c.in_ok-entries.ensures)
    (loaded_walk g.E.ChainEntry.order g.E.ChainEntry.words_of g.E.ChainEntry.IsEntry g.E.ChainEntry.target
    c.blocks-size.result
    (g.D.Disk.state c.loop-next.disk).honest s.contents c.args.reached.now c.args.first c.loop-next.reached blocks
    (map g.E.ChainEntry.view c.loop-next.entries) c.loop-next.next c.loop-next.invariant.loading c.loop-next-test.false
    h)

pub returns-clause-targets : goal.returns-clause-targets
returns-clause-targets g c =
    let size = (g.D.Disk.state c.args.disk.now).size in
    subst (λ es. AllByRecursion (λ e. InSpace size (g.E.ChainEntry.target e)) (map g.E.ChainEntry.view es))
    (sym c.in_ok-entries.ensures)
    (subst (λ n. AllByRecursion (λ e. InSpace n (g.E.ChainEntry.target e))
    (map g.E.ChainEntry.view c.loop-next.entries))
    c.blocks-size.ensures c.loop-next.invariant.loading.good.inside)
