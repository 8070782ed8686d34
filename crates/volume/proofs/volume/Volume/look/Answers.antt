use Rattle.std.proofs.Common.{map, Err, refl, sym, ap, subst, ◌∙◌, arith}
use Rattle.std.proofs.lemmas.List.{length-map}
use Rattle.std.proofs.lemmas.Result.{err_from_is_err_and}
use Rattle.volume.specs.Common.{master_view, memory_of, live_directory, IsLookAnswer}
use Rattle.volume.proofs.common.Answers.{rest_holds, directory_none, directory_there, look_answered, placed}
use Rattle.volume.proofs.common.LiveLookups.{keyed_at}
use Rattle.volume.proofs.volume.Volume.look.Goals as goal

pub returns-in_err-i-clause-value : goal.returns-in_err-i-clause-value
returns-in_err-i-clause-value g c = rw (← c.self.view_is) (λ honest alive files rest.
    let s = g.D.Disk.state c.self.inside.disk in
    let memory = memory_of c.self.inside.map in
    let k = memory.known in
    let holds = rest_holds s memory c.self.inside.failed c.self.invariant.map honest alive files rest in
    let none = directory_none s k files holds c.args.ppn (c.in_err-i.ensures.none refl) in
    let p = err_from_is_err_and c.from_residual.result c.from_residual.ensures.1 in
    subst (IsLookAnswer c.args.name.now c.from_residual.result) (sym none) (p.1
    ∙ ap Err (p.2 ∙ c.in_err-i.ensures.only)))

pub named_facts-requires-clause-keyed : goal.named_facts-requires-clause-keyed
named_facts-requires-clause-keyed g c =
    let m = c.self.inside.map in
    let within = c.in_ok-i.ensures.found.1.within in
    let entries = length-map m.master.entries master_view in
    let directories = length-map m.directories.items (live_directory m.versions.slots) in
    let aligned = c.self.invariant.map.whole.map.aligned in
    keyed_at m.versions.slots (live_directory m.versions.slots) (λ d. d.keys.items) m.directories.items
    c.in_ok-i.i c.index-directory.result.now c.index-directory.result.now c.self.invariant.map.whole.keyed
    (omega arith) c.index-directory.ensures

pub returns-clause-value : goal.returns-clause-value
returns-clause-value g c = rw (← c.self.view_is) (λ honest alive files rest.
    let s = g.D.Disk.state c.self.inside.disk in
    let memory = memory_of c.self.inside.map in
    let k = memory.known in
    let holds = rest_holds s memory c.self.inside.failed c.self.invariant.map honest alive files rest in
    let at = c.in_ok-i.ensures.found in
    let m = c.self.inside.map in
    let d = (live_directory c.self.inside.map.versions.slots) c.index-directory.result.now in
    let placed_at = placed (live_directory c.self.inside.map.versions.slots) m.directories.items
    (map master_view m.master.entries) c.in_ok-i.i c.index-directory.result.now at.1.within
    c.self.invariant.map.whole.map.aligned c.index-directory.ensures in
    let there = directory_there s k files holds c.args.ppn at.0 c.in_ok-i.i at.1 d placed_at in
    look_answered k files c.args.ppn d there c.args.name.now c.named_facts.result c.named_facts.ensures.found
    c.named_facts.ensures.none c.named_facts.ensures.only)
