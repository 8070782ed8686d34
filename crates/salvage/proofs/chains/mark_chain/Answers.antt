use Rattle.std.proofs.Common.{◌<◌, true, inl, inr, length, refl, sym, ap, ◌∙◌, arith}
use Rattle.std.proofs.Math.ListN.{length-set}
use Rattle.blockdisk.specs.Common.{same_contents, same_disk_on, same_disk_start, still_start}
use Rattle.changeset.proofs.LogRead.{only_reads_on}
use Rattle.salvage.proofs.WalkedChains.{begins_end, closed_end, fewer_after, marked_after, marking_on}
use Rattle.salvage.proofs.WalkedChains.{marking_starts, met_end, unmet_end}
use Rattle.salvage.proofs.chains.mark_chain.Goals as goal

pub loop-next-init : goal.loop-next-init
loop-next-init g c =
    let s = g.D.Disk.state c.args.disk.now in
    record {
      same = same_disk_start s;
      served = refl;
      reads = λ h. record { still = still_start s; is_open = λ n. refl };
      marking = marking_starts g.E.ChainEntry.words_of g.E.ChainEntry.IsEntry s.size s.contents c.args.first
          c.args.marks.now s.honest c.requires.first;
    }

pub is_marked-requires : goal.is_marked-requires
is_marked-requires g c =
    let some : 0 < c.loop-next.next = let e = c.loop-next-test.true in omega arith in
    let inside = c.loop-next.invariant.marking.next_inside some in
    omega (arith, inside.below, c.loop-next.invariant.marking.long, c.requires.long)

pub mark-requires : goal.mark-requires
mark-requires g c =
    let some : 0 < c.loop-next.next = let e = c.loop-next-test.true in omega arith in
    let inside = c.loop-next.invariant.marking.next_inside some in
    omega (arith, inside.below, c.loop-next.invariant.marking.long, c.requires.long)

pub next_of-requires : goal.next_of-requires
next_of-requires g c =
    let some : 0 < c.loop-next.next = let e = c.loop-next-test.true in omega arith in
    let inside = c.loop-next.invariant.marking.next_inside some in
    omega (arith, inside.below, c.loop-next.invariant.same.size)

pub returns-in_err-next-clause-stays : goal.returns-in_err-next-clause-stays
returns-in_err-next-clause-stays g c n is =
    let some : 0 < c.loop-next.next = let e = c.loop-next-test.true in omega arith in
    let inside = c.loop-next.invariant.marking.next_inside some in
    marked_after c.loop-next.marks c.mark.new.self c.loop-next.next n c.mark.ensures.marked
    (omega (arith, inside.below, c.loop-next.invariant.marking.long, c.requires.long))
    (c.loop-next.invariant.marking.stays n is)

pub returns-in_err-next-clause-long : goal.returns-in_err-next-clause-long
returns-in_err-next-clause-long g c =
    ap length c.mark.ensures.marked ∙ length-set c.loop-next.marks c.loop-next.next true
    ∙ c.loop-next.invariant.marking.long

pub returns-in_err-next-clause-reads : goal.returns-in_err-next-clause-reads
returns-in_err-next-clause-reads g c h =
    only_reads_on (g.D.Disk.state c.args.disk.now) (g.D.Disk.state c.loop-next.disk)
    (g.D.Disk.state c.next_of.new.disk) (c.loop-next.invariant.reads (c.next_of.ensures.same.was_honest h))
    (c.next_of.ensures.reads h)

pub returns-in_err-next-clause-same : goal.returns-in_err-next-clause-same
returns-in_err-next-clause-same g c =
    same_disk_on (g.D.Disk.state c.args.disk.now) (g.D.Disk.state c.loop-next.disk)
    (g.D.Disk.state c.next_of.new.disk) c.loop-next.invariant.same c.next_of.ensures.same

pub loop-next-smaller : goal.loop-next-smaller
loop-next-smaller g c =
    let some : 0 < c.loop-next.next = let e = c.loop-next-test.true in omega arith in
    let inside = c.loop-next.invariant.marking.next_inside some in
    fewer_after c.loop-next.marks c.mark.new.self c.loop-next.next c.mark.ensures.marked
    (sym c.is_marked.ensures ∙ c.if-is_marked.false)
    (omega (arith, inside.below, c.loop-next.invariant.marking.long, c.requires.long))

pub loop-next-preserved : goal.loop-next-preserved
loop-next-preserved g c =
    let s = g.D.Disk.state c.args.disk.now in
    let now = g.D.Disk.state c.loop-next.disk in
    let new = g.D.Disk.state c.next_of.new.disk in
    let before = c.loop-next.invariant in
    let ensures = c.in_ok-next.ensures in
    let some : 0 < c.loop-next.next = let e = c.loop-next-test.true in omega arith in
    let inside = before.marking.next_inside some in
    record {
      same = same_disk_on s now new before.same ensures.same;
      served = ensures.served (λ is. cc) ∙ before.served;
      reads = λ h. only_reads_on s now new (before.reads (ensures.same.was_honest h)) (ensures.reads h);
      marking = marking_on g.E.ChainEntry.words_of g.E.ChainEntry.IsEntry s.size s.contents c.args.first
          c.args.marks.now now.honest new.honest ensures.same.was_honest c.loop-next.marks c.loop-next.next
          before.marking some (omega (arith, inside.below, before.marking.long, c.requires.long))
          (sym c.is_marked.ensures ∙ c.if-is_marked.false) c.mark.new.self c.in_ok-next.next now.size
          now.contents c.mark.ensures.marked before.same.size
          (λ h. same_contents s.contents now.contents (before.reads (ensures.same.was_honest h)).still.contents)
          ensures.inside ensures.link ensures.none;
    }

pub returns-then-is_marked-clause-begins : goal.returns-then-is_marked-clause-begins
returns-then-is_marked-clause-begins g c h =
    let s = g.D.Disk.state c.args.disk.now in
    begins_end g.E.ChainEntry.words_of g.E.ChainEntry.IsEntry s.size s.contents c.args.first c.args.marks.now
    (g.D.Disk.state c.loop-next.disk).honest c.loop-next.marks c.loop-next.next c.loop-next.invariant.marking
    (inr (sym c.is_marked.ensures ∙ c.if-is_marked.true)) c.requires.first

pub returns-then-is_marked-clause-stays : goal.returns-then-is_marked-clause-stays
returns-then-is_marked-clause-stays g c = c.loop-next.invariant.marking.stays

pub returns-then-is_marked-clause-only : goal.returns-then-is_marked-clause-only
returns-then-is_marked-clause-only g c h = c.loop-next.invariant.marking.only h

pub returns-then-is_marked-clause-closed : goal.returns-then-is_marked-clause-closed
returns-then-is_marked-clause-closed g c h closed =
    let s = g.D.Disk.state c.args.disk.now in
    closed_end g.E.ChainEntry.words_of g.E.ChainEntry.IsEntry s.size s.contents c.args.first c.args.marks.now
    (g.D.Disk.state c.loop-next.disk).honest c.loop-next.marks c.loop-next.next c.loop-next.invariant.marking
    (inr (sym c.is_marked.ensures ∙ c.if-is_marked.true)) h closed

pub returns-then-is_marked-clause-met : goal.returns-then-is_marked-clause-met
returns-then-is_marked-clause-met g c h =
    let s = g.D.Disk.state c.args.disk.now in
    let some : 0 < c.loop-next.next = let e = c.loop-next-test.true in omega arith in
    met_end g.E.ChainEntry.words_of g.E.ChainEntry.IsEntry s.size s.contents c.args.first c.args.marks.now
    (g.D.Disk.state c.loop-next.disk).honest c.loop-next.marks c.loop-next.next c.loop-next.invariant.marking some
    (sym c.is_marked.ensures ∙ c.if-is_marked.true) h

pub returns-then-is_marked-clause-long : goal.returns-then-is_marked-clause-long
returns-then-is_marked-clause-long g c = c.loop-next.invariant.marking.long

pub returns-then-is_marked-clause-reads : goal.returns-then-is_marked-clause-reads
returns-then-is_marked-clause-reads g c = c.loop-next.invariant.reads

pub returns-then-is_marked-clause-same : goal.returns-then-is_marked-clause-same
returns-then-is_marked-clause-same g c = c.loop-next.invariant.same

pub returns-then-is_marked-clause-served : goal.returns-then-is_marked-clause-served
returns-then-is_marked-clause-served g c is = c.loop-next.invariant.served

pub returns-clause-begins : goal.returns-clause-begins
returns-clause-begins g c h =
    let s = g.D.Disk.state c.args.disk.now in
    begins_end g.E.ChainEntry.words_of g.E.ChainEntry.IsEntry s.size s.contents c.args.first c.args.marks.now
    (g.D.Disk.state c.loop-next.disk).honest c.loop-next.marks c.loop-next.next c.loop-next.invariant.marking
    (inl c.loop-next-test.false) c.requires.first

pub returns-clause-stays : goal.returns-clause-stays
returns-clause-stays g c = c.loop-next.invariant.marking.stays

pub returns-clause-only : goal.returns-clause-only
returns-clause-only g c h = c.loop-next.invariant.marking.only h

pub returns-clause-closed : goal.returns-clause-closed
returns-clause-closed g c h closed =
    let s = g.D.Disk.state c.args.disk.now in
    closed_end g.E.ChainEntry.words_of g.E.ChainEntry.IsEntry s.size s.contents c.args.first c.args.marks.now
    (g.D.Disk.state c.loop-next.disk).honest c.loop-next.marks c.loop-next.next c.loop-next.invariant.marking
    (inl c.loop-next-test.false) h closed

pub returns-clause-unmet : goal.returns-clause-unmet
returns-clause-unmet g c h =
    let s = g.D.Disk.state c.args.disk.now in
    unmet_end g.E.ChainEntry.words_of g.E.ChainEntry.IsEntry s.size s.contents c.args.first c.args.marks.now
    (g.D.Disk.state c.loop-next.disk).honest c.loop-next.marks c.loop-next.next c.loop-next.invariant.marking
    c.loop-next-test.false h

pub returns-clause-long : goal.returns-clause-long
returns-clause-long g c = c.loop-next.invariant.marking.long

pub returns-clause-reads : goal.returns-clause-reads
returns-clause-reads g c = c.loop-next.invariant.reads

pub returns-clause-same : goal.returns-clause-same
returns-clause-same g c = c.loop-next.invariant.same

pub returns-clause-served : goal.returns-clause-served
returns-clause-served g c is = c.loop-next.invariant.served
