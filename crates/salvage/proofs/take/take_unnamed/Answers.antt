use Rattle.std.proofs.Common.{List, ap, arith}
use Rattle.salvage.specs.Common.{claims}
use Rattle.salvage.specs.declared.saved.SavedFile.{SavedFile}
use Rattle.salvage.proofs.TakenFiles.{are_taken, unnamed_told}
use Rattle.salvage.proofs.take.take_unnamed.Goals as goal

pub returns-clause-taken : goal.returns-clause-taken
returns-clause-taken g c h layout read apart =
    let s = g.D.Disk.state c.args.disk.now in
    are_taken s.size layout s.contents c.in_ok-counts.counts c.args.free.now c.args.claimed.now
    c.keep_few.new.claimed c.args.unnamed.items c.smallest_first.new.files.items c.in_ok-kept.kept.items
    c.new-2.result.items c.take_each.new.taken.files.items c.new-3.result.items
    c.take_each.new.taken.doubtful.items c.args.findings.now.items c.keep_few.new.findings.items
    c.take_each.new.findings.items c.smallest_first.ensures.same c.new-2.ensures.items read
    c.in_ok-kept.ensures.kept (c.in_ok-take_each.ensures.judged h) apart

pub returns-clause-added : goal.returns-clause-added
returns-clause-added g c h layout read earlier named apart few =
    let s = g.D.Disk.state c.args.disk.now in
    unnamed_told s.size layout s.contents c.in_ok-counts.counts c.args.free.now c.args.claimed.now
    c.keep_few.new.claimed c.args.unnamed.items c.smallest_first.new.files.items c.in_ok-kept.kept.items
    c.new-2.result.items c.take_each.new.taken.files.items c.new-3.result.items
    c.take_each.new.taken.doubtful.items c.args.findings.now.items c.keep_few.new.findings.items
    c.take_each.new.findings.items c.smallest_first.ensures.same c.new-2.ensures.items read
    c.in_ok-kept.ensures.kept (c.in_ok-take_each.ensures.judged h) earlier c.requires.unnamed named apart
    c.in_ok-smallest_first.ensures.sorted few

pub returns-clause-few : goal.returns-clause-few
returns-clause-few g c few n =
    let most = c.in_ok-kept.ensures.few few n in
    let held = c.in_ok-kept.ensures.kept.held n in
    let taken = c.in_ok-take_each.ensures.few n in
    let none = ap (λ (l : List SavedFile). claims l n) c.new-2.ensures.items in
    omega (arith, most, held, taken, none)
