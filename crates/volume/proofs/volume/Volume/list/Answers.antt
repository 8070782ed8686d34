use Rattle.std.proofs.Common.{◌≡◌, map, Err, refl, sym, ap, ◌∙◌, arith}
use Rattle.std.proofs.lemmas.List.{length-map}
use Rattle.std.proofs.lemmas.Result.{err_from_is_err_and}
use Rattle.spec_image.specs.declared.code.ErrorCode.TheVariants.{NoDirectory}
use Rattle.spec_image.proofs.Common.{some_none}
use Rattle.volume.specs.declared.error.CallError.TheVariants.{Refused, NoMemory}
use Rattle.volume.specs.Common.{master_view, memory_of, live_directory}
use Rattle.volume.proofs.common.Answers.{rest_holds, directory_none, directory_there, placed}
use Rattle.volume.proofs.common.DirectoryLists.{lines_are, if_ok_on}
use Rattle.volume.specs.declared.error.CallError.{CallError}
use Rattle.spec_image.specs.Common.{directory_of}
use Rattle.volume.proofs.common.LiveLookups.{keyed_at}
use Rattle.volume.proofs.VolumeStart.FileFaults.{refusal}
use Rattle.volume.proofs.volume.Volume.list.Goals as goal

pub returns-in_err-i-clause-refused : goal.returns-in_err-i-clause-refused
returns-in_err-i-clause-refused g c = rw (← c.self.view_is) (λ honest alive files rest.
    let s = g.D.Disk.state c.self.inside.disk in
    let memory = memory_of c.self.inside.map in
    let k = memory.known in
    let holds = rest_holds s memory c.self.inside.failed c.self.invariant.map honest alive files rest in
    let none = directory_none s k files holds c.args.ppn (c.in_err-i.ensures.none refl) in
    let p = err_from_is_err_and c.from_residual.result c.from_residual.ensures.1 in
    (λ is. none, λ is. p.1 ∙ ap Err (p.2 ∙ c.in_err-i.ensures.only)))

pub directory_lines-requires-clause-keyed : goal.directory_lines-requires-clause-keyed
directory_lines-requires-clause-keyed g c =
    let m = c.self.inside.map in
    let within = c.in_ok-i.ensures.found.1.within in
    let entries = length-map m.master.entries master_view in
    let directories = length-map m.directories.items (live_directory m.versions.slots) in
    let aligned = c.self.invariant.map.whole.map.aligned in
    keyed_at m.versions.slots (live_directory m.versions.slots) (λ d. d.keys.items) m.directories.items
    c.in_ok-i.i c.index-directory.result.now c.index-directory.result.now c.self.invariant.map.whole.keyed
    (omega arith) c.index-directory.ensures

pub returns-clause-listed : goal.returns-clause-listed
returns-clause-listed g c = rw (← c.self.view_is) (λ honest alive files rest.
    let s = g.D.Disk.state c.self.inside.disk in
    let memory = memory_of c.self.inside.map in
    let k = memory.known in
    let holds = rest_holds s memory c.self.inside.failed c.self.invariant.map honest alive files rest in
    let at = c.in_ok-i.ensures.found in
    let m = c.self.inside.map in
    let d = (live_directory c.self.inside.map.versions.slots) c.index-directory.result.now in
    let there = directory_there s k files holds c.args.ppn at.0 c.in_ok-i.i at.1 d
    (placed (live_directory c.self.inside.map.versions.slots) m.directories.items
    (map master_view m.master.entries) c.in_ok-i.i c.index-directory.result.now at.1.within
    c.self.invariant.map.whole.map.aligned c.index-directory.ensures) in
    if_ok_on c.directory_lines.result (λ lines zip. (
      directory_of there.stored,
      there.get_is,
      lines_are k files c.args.ppn d there lines.items zip,
    )) c.directory_lines.ensures.listed)

pub returns-clause-refused : goal.returns-clause-refused
returns-clause-refused g c = rw (← c.self.view_is) (λ honest alive files rest.
    let s = g.D.Disk.state c.self.inside.disk in
    let memory = memory_of c.self.inside.map in
    let k = memory.known in
    let holds = rest_holds s memory c.self.inside.failed c.self.invariant.map honest alive files rest in
    let at = c.in_ok-i.ensures.found in
    let m = c.self.inside.map in
    let d = (live_directory c.self.inside.map.versions.slots) c.index-directory.result.now in
    let there = directory_there s k files holds c.args.ppn at.0 c.in_ok-i.i at.1 d
    (placed (live_directory c.self.inside.map.versions.slots) m.directories.items
    (map master_view m.master.entries) c.in_ok-i.i c.index-directory.result.now at.1.within
    c.self.invariant.map.whole.map.aligned c.index-directory.ensures) in (
      λ is. let other : Refused NoDirectory
          ≡ NoMemory = refusal (λ (e : CallError). e ≡ NoMemory) c.directory_lines.result
          (Refused NoDirectory) is c.directory_lines.ensures.only in cc,
      λ none. absurd (some_none (sym there.get_is ∙ none)),
    ))
