use Rattle.std.proofs.Common.{◌≡◌, List, ◌+◌, ◌<◌, length, Some, sym, ◌∙◌, ap, subst, arith}
use Rattle.std.specs.List.{AllByRecursion}
use Rattle.std.proofs.lemmas.Result.{err_from_is_err_and}
use Rattle.blockdisk.specs.Common.{same_disk_on}
use Rattle.spec_image.specs.declared.put.Put.{Put}
use Rattle.spec_image.specs.Common.{IsTarget, targets, log_header, log_start}
use Rattle.changeset.specs.declared.error.LogError.TheVariants.{BadLog}
use Rattle.changeset.specs.Common.{IsNextTarget, AreDistinct, all_behind, targets-behind, distinct_behind}
use Rattle.changeset.proofs.LogRead.{IsFront, only_reads_on, count_is, next_put_at, all_read, front_more, different}
use Rattle.changeset.proofs.LogRead.{not_different, passed_on}
use Rattle.changeset.proofs.log.read_log.Goals as goal

pub returns-in_err-read_put-clause-bad : goal.returns-in_err-read_put-clause-bad
returns-in_err-read_put-clause-bad g c h bad puts log =
    let s = g.D.Disk.state c.args.disk.now in
    let now = g.D.Disk.state c.loop-i.disk in
    let read = c.loop-i.puts.items in
    let held = c.loop-i.invariant.held (c.read_put.ensures.same.was_honest h) in
    let counted : c.index-header-1.result ≡ length puts = c.index-header-1.is
    ∙ count_is c.args.size s.contents c.in_ok-header.header puts held log c.index-header-1.result in
    let long = c.loop-i.invariant.count in
    let less : length read < length puts = omega arith in
    let next = next_put_at c.args.size s.contents c.in_ok-header.header puts held log read (omega arith)
    (c.loop-i.invariant.front (c.read_put.ensures.same.was_honest h)) c.as_slice.result.now c.loop-i.i now.contents
    c.as_slice.ensures.value long ((c.loop-i.invariant.reads (c.read_put.ensures.same.was_honest h)).still.contents
    (log_start + c.loop-i.i)) less in
    let p = err_from_is_err_and c.from_residual-in_err-read_put.result c.from_residual-in_err-read_put.ensures.1 in
    c.read_put.ensures.bad h (passed_on c.from_residual-in_err-read_put.result c.read_put.result p.0
    c.in_err-read_put.field-0.0 BadLog bad p.1 p.2 c.in_err-read_put.was)
    next.0 next.1 next.2

pub loop-i-preserved : goal.loop-i-preserved
loop-i-preserved g c =
    let s = g.D.Disk.state c.args.disk.now in
    let now = g.D.Disk.state c.loop-i.disk in
    let new = g.D.Disk.state c.read_put.new.disk in
    let read = c.loop-i.puts.items in
    let put = c.in_ok-read_put.field-0 in
    let next : IsNextTarget c.args.size c.in_ok-header.header read c.loop-i.i put.block = subst
    (λ (l : List Put). IsNextTarget c.args.size c.in_ok-header.header l c.loop-i.i put.block) c.as_slice.ensures.value
    c.in_ok-read_put.ensures.target in
    record {
      count = omega (arith, c.push.ensures.len, c.loop-i.invariant.count);
      same = same_disk_on s now new c.loop-i.invariant.same c.read_put.ensures.same;
      served = c.in_ok-read_put.ensures.served (λ is. cc) ∙ c.loop-i.invariant.served;
      held = λ h. c.loop-i.invariant.held (c.read_put.ensures.same.was_honest h);
      reads = λ h. only_reads_on s now new (c.loop-i.invariant.reads (c.read_put.ensures.same.was_honest h))
          (c.read_put.ensures.reads h);
      distinct = subst AreDistinct (sym c.push.ensures.items)
          (distinct_behind read put c.loop-i.invariant.distinct next.fresh);
      in_range = subst (λ (l : List Put). AllByRecursion (IsTarget c.args.size) (targets l)) (sym c.push.ensures.items)
          (subst (AllByRecursion (IsTarget c.args.size)) (sym (targets-behind read put))
          (all_behind (IsTarget c.args.size) (targets read) put.block c.loop-i.invariant.in_range next.in_range));
      front = λ h.
          let image = c.in_ok-read_put.ensures.image h in
          subst (IsFront s.contents c.in_ok-header.header) (sym c.push.ensures.items)
          (front_more c.args.size s.contents c.in_ok-header.header read c.loop-i.i put c.loop-i.invariant.count
          (omega arith) (c.loop-i.invariant.front (c.read_put.ensures.same.was_honest h)) next
          (sym ((c.loop-i.invariant.reads (c.read_put.ensures.same.was_honest h)).still.contents
          (log_start + c.loop-i.i)) ∙ image));
    }

pub returns-then-ne-clause-bad : goal.returns-then-ne-clause-bad
returns-then-ne-clause-bad g c h bad puts log =
    let s = g.D.Disk.state c.args.disk.now in
    let read = c.loop-i.puts.items in
    let held = c.loop-i.invariant.held h in
    let counted : c.index-header-1.result ≡ length puts = c.index-header-1.is
    ∙ count_is c.args.size s.contents c.in_ok-header.header puts held log c.index-header-1.result in
    let long = c.loop-i.invariant.count in
    let whole : length read ≡ length puts = omega arith in
    different c.header_of.result c.in_ok-header.header c.ne.result c.ne.ensures c.if-ne.true
    (c.header_of.ensures ∙ ap log_header c.as_slice-2.ensures.value
    ∙ all_read c.args.size s.contents c.in_ok-header.header puts held log read (omega arith)
    (c.loop-i.invariant.front h) whole)

pub returns-clause-log : goal.returns-clause-log
returns-clause-log g c h =
    let read = c.loop-i.puts.items in
    let header : c.in_ok-header.header ≡ log_header read =
    sym (not_different c.header_of.result c.in_ok-header.header c.ne.result c.ne.ensures c.if-ne.false)
    ∙ c.header_of.ensures ∙ ap log_header c.as_slice-2.ensures.value in
    let long = c.loop-i.invariant.count in
    record {
      header = c.loop-i.invariant.held h ∙ ap Some header;
      some = omega arith;
      few = omega arith;
      distinct = c.loop-i.invariant.distinct;
      in_range = c.loop-i.invariant.in_range;
      images = (c.loop-i.invariant.front h).images;
    }
