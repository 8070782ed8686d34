use Rattle.std.proofs.Common.{true, List, subst, arith}
use Rattle.salvage.specs.Common.{CountTo, uses}
use Rattle.salvage.specs.declared.saved.SavedFile.{SavedFile}
use Rattle.salvage.proofs.CountLaws.{zeros_count}
use Rattle.salvage.proofs.TakenFiles.{are_held, are_placed, are_told}
use Rattle.salvage.proofs.take.take_named.Goals as goal

pub returns-clause-placed : goal.returns-clause-placed
returns-clause-placed g c h layout read apart marked free =
    let s = g.D.Disk.state c.args.disk.now in
    are_placed s.size layout s.contents c.in_ok-counts.counts c.args.named.items c.args.chains.now.master
    c.args.chains.now.directories c.args.free.now c.args.claimed.now c.keep_few.new.claimed c.in_ok-kept.kept.items
    c.new.result.items c.take_each.new.taken.files.items c.new-2.result.items c.take_each.new.taken.doubtful.items
    c.args.findings.now.items c.keep_few.new.findings.items c.take_each.new.findings.items
    (zeros_count s.size c.args.claimed.now c.requires.unclaimed) c.new.ensures.items c.new-2.ensures.items
    (subst (λ (l : List SavedFile). CountTo c.in_ok-counts.counts
    (uses l c.args.chains.now.master c.args.chains.now.directories c.args.free.now)) c.deref.ensures.value
    c.in_ok-counts.ensures.counted)
    read apart marked free c.in_ok-kept.ensures.kept (c.in_ok-take_each.ensures.judged h)

pub returns-clause-added : goal.returns-clause-added
returns-clause-added g c h layout read apart marked free =
    let s = g.D.Disk.state c.args.disk.now in
    are_told s.size layout s.contents c.in_ok-counts.counts c.args.named.items c.args.chains.now.master
    c.args.chains.now.directories c.args.free.now c.args.claimed.now c.keep_few.new.claimed c.in_ok-kept.kept.items
    c.new.result.items c.take_each.new.taken.files.items c.new-2.result.items c.take_each.new.taken.doubtful.items
    c.args.findings.now.items c.keep_few.new.findings.items c.take_each.new.findings.items
    (zeros_count s.size c.args.claimed.now c.requires.unclaimed) c.new.ensures.items c.new-2.ensures.items
    (subst (λ (l : List SavedFile). CountTo c.in_ok-counts.counts
    (uses l c.args.chains.now.master c.args.chains.now.directories c.args.free.now)) c.deref.ensures.value
    c.in_ok-counts.ensures.counted)
    read apart marked free c.in_ok-kept.ensures.kept (c.in_ok-take_each.ensures.judged h)

pub returns-clause-held : goal.returns-clause-held
returns-clause-held g c h n =
    let s = g.D.Disk.state c.args.disk.now in
    are_held s.contents c.in_ok-counts.counts c.args.free.now true c.args.claimed.now c.keep_few.new.claimed
    c.args.named.items c.in_ok-kept.kept.items c.new.result.items c.take_each.new.taken.files.items
    c.new-2.result.items c.take_each.new.taken.doubtful.items c.args.findings.now.items
    c.keep_few.new.findings.items c.take_each.new.findings.items c.new.ensures.items c.new-2.ensures.items
    c.in_ok-kept.ensures.kept (c.in_ok-take_each.ensures.judged h) n

pub returns-clause-grown : goal.returns-clause-grown
returns-clause-grown g c n =
    let size = (g.D.Disk.state c.args.disk.now).size in
    let none = zeros_count size c.args.claimed.now c.requires.unclaimed n in
    let grown = c.in_ok-kept.ensures.kept.grown n in
    omega (arith, none, grown)

pub returns-clause-few : goal.returns-clause-few
returns-clause-few g c n =
    let size = (g.D.Disk.state c.args.disk.now).size in
    c.in_ok-kept.ensures.few (λ m. let none = zeros_count size c.args.claimed.now c.requires.unclaimed m in
    omega (arith, none)) n
