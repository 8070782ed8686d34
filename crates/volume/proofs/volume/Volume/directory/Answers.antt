use Rattle.std.proofs.Common.{◌≡◌, Err, Some, get_or, refl, sym, ap, ◌∙◌}
use Rattle.std.proofs.lemmas.Result.{err_from_is_err_and}
use Rattle.volume.specs.Common.{master_view, memory_of, protection_answer}
use Rattle.volume.proofs.common.Answers.{rest_holds, directory_none, directory_protection, viewed_get}
use Rattle.volume.proofs.volume.Volume.directory.Goals as goal

pub returns-in_err-i-clause-value : goal.returns-in_err-i-clause-value
returns-in_err-i-clause-value g c = rw (← c.self.view_is) (λ honest alive files rest.
    let s = g.D.Disk.state c.self.inside.disk in
    let memory = memory_of c.self.inside.map in
    let k = memory.known in
    let holds = rest_holds s memory c.self.inside.failed c.self.invariant.map honest alive files rest in
    let none = directory_none s k files holds c.args.ppn (c.in_err-i.ensures.none refl) in
    let p = err_from_is_err_and c.from_residual.result c.from_residual.ensures.1 in
    p.1 ∙ ap Err (p.2 ∙ c.in_err-i.ensures.only) ∙ sym (ap protection_answer none))

pub returns-clause-value : goal.returns-clause-value
returns-clause-value g c = rw (← c.self.view_is) (λ honest alive files rest.
    let s = g.D.Disk.state c.self.inside.disk in
    let memory = memory_of c.self.inside.map in
    let k = memory.known in
    let holds = rest_holds s memory c.self.inside.failed c.self.invariant.map honest alive files rest in
    let at = c.in_ok-i.ensures.found in
    let i = c.in_ok-i.i in
    let entry = c.index-entries-i.result in
    let is : entry ≡ get_or c.self.inside.map.master.entries i entry = c.index-entries-i.is
    ∙ ap (λ es. get_or es i entry) c.entries.ensures.value in
    let seen : master_view entry ≡ (c.args.ppn, at.0) = ap master_view is
    ∙ viewed_get master_view c.self.inside.map.master.entries i (c.args.ppn, at.0) entry at.1.is in
    sym (directory_protection s k files holds c.args.ppn entry.protection entry.quota entry.first entry.quota_fits
    (at.1.found
    ∙ ap Some (sym (ap (λ e. e.1) seen)))))
