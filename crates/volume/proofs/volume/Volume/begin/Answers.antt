use Rattle.std.proofs.Common.{◌≡◌, ◌↔◌, ◌+◌, ◌<◌, ℕ, false, Ok, Err, IsErrOf, refl, sym, ap, subst, ◌∙◌, rules}
use Rattle.spec_image.specs.Common.{pack_of, date_limit}
use Rattle.std.proofs.lemmas.Result.{err_from_is_err_and}
use Rattle.spec_image.specs.declared.code.ErrorCode.TheVariants.{NameExists, NotFound, NoRoom}
use Rattle.alloctab.specs.Common.{space}
use Rattle.volume.specs.Common.{begin_cost, entries_with, memory_of}
use Rattle.volume.specs.declared.error.CallError.TheVariants.{Refused}
use Rattle.volume.proofs.BeginVersion.BegunFiles.{body_before, begins_with, date_before, handed_on, not_refused}
use Rattle.volume.proofs.BeginVersion.BegunFiles.{file_known, full_by_file}
use Rattle.volume.proofs.common.StillMatches.{begun_sound}
use Rattle.volume.proofs.common.SoundVolumes.{volume_stays}
use Rattle.volume.proofs.volume.Volume.begin.Goals as goal

pub invariant_of-self-2 : goal.invariant_of-self-2
invariant_of-self-2 g c =
    let s = g.D.Disk.state c.self.inside.disk in
    let memory = memory_of c.self.inside.map in
    let begins = c.in_ok-key.ensures.begun in
    volume_stays s memory (memory_of c.begin_in_memory.new.memory) c.self.inside.failed c.self.inside.layout
    c.self.invariant
    (begun_sound s memory (memory_of c.begin_in_memory.new.memory) c.self.inside.failed
    c.begin_in_memory.new.memory.table.size
    c.in_ok-key.key c.args.kind c.args.prime c.self.invariant.map refl c.begin_in_memory.ensures.whole begins
    (body_before s memory (memory_of c.begin_in_memory.new.memory) c.self.inside.failed c.in_ok-key.key c.args.kind
    c.args.prime c.self.invariant.map begins)
    (λ h ok. date_before s memory (memory_of c.begin_in_memory.new.memory) c.self.inside.failed c.in_ok-key.key
    c.args.kind
    c.args.prime c.self.invariant.map begins h ok (subst (λ m. (g.D.Disk.state m.disk).honest → m.failed ≡ false
    → c.args.prime.moment.date < date_limit (pack_of (g.D.Disk.state m.disk)).layout) (sym c.self.view_is)
    c.requires.timely h ok)))

pub returns-clause-file : goal.returns-clause-file
returns-clause-file g c = rw (← c.self.view_is) (λ honest alive files rest updates.
    begins_with (g.D.Disk.state c.self.inside.disk) (memory_of c.self.inside.map)
    (memory_of c.begin_in_memory.new.memory)
    c.self.inside.failed c.in_ok-key.key c.args.kind c.args.prime c.self.invariant.map c.in_ok-key.ensures.begun honest
    alive files rest updates)

pub returns-clause-room : goal.returns-clause-room
returns-clause-room g c = rw (← c.self.view_is) (λ alive d is prior named fits.
    let memory = memory_of c.self.inside.map in
    let room = subst (λ (size : ℕ). IsErrOf c.begin_in_memory.result (Refused NoRoom)
    ↔ (space size < memory.known.table.booked + begin_cost c.args.kind (entries_with memory d c.args.prime.ppn) prior))
    c.self.invariant.map.whole.map.size_is (c.begin_in_memory.ensures.room d is prior named fits) in
    search rules)

pub returns-clause-exists : goal.returns-clause-exists
returns-clause-exists g c = rw (← c.self.view_is) (λ alive d is. let given = c.in_ok-key.ensures.exists d is in
    search rules)

pub returns-clause-not_found : goal.returns-clause-not_found
returns-clause-not_found g c = rw (← c.self.view_is) (λ alive d is. let given = c.in_ok-key.ensures.not_found d is in
    search rules)

pub returns-in_err-key-clause-exists : goal.returns-in_err-key-clause-exists
returns-in_err-key-clause-exists g c = rw (← c.self.view_is) (λ alive d is.
    let p = err_from_is_err_and c.from_residual.result c.from_residual.ensures.1 in
    handed_on c.from_residual.result c.in_err-key.field-0.0 (Refused NameExists) (p.1 ∙ ap Err p.2)
    (c.in_err-key.ensures.exists d is))

pub returns-in_err-key-clause-not_found : goal.returns-in_err-key-clause-not_found
returns-in_err-key-clause-not_found g c = rw (← c.self.view_is) (λ alive d is.
    let p = err_from_is_err_and c.from_residual.result c.from_residual.ensures.1 in
    handed_on c.from_residual.result c.in_err-key.field-0.0 (Refused NotFound) (p.1 ∙ ap Err p.2)
    (c.in_err-key.ensures.not_found d is))

pub returns-clause-full : goal.returns-clause-full
returns-clause-full g c = rw (← c.self.view_is) (λ honest alive files rest updates directory there file has.
    let s = g.D.Disk.state c.self.inside.disk in
    let memory = memory_of c.self.inside.map in
    let known = file_known s memory c.self.inside.failed c.self.invariant.map honest alive files rest c.args.prime.ppn
    c.args.prime.file directory there file has in
    not_refused c.in_ok-key.key (record { key = c.in_ok-key.key }) (Refused NoRoom)
    (full_by_file s.size memory c.args.kind c.args.prime file (Ok c.in_ok-key.key) c.self.invariant.map.whole known
    updates
    c.in_ok-key.ensures.room))

pub returns-in_err-key-clause-full : goal.returns-in_err-key-clause-full
returns-in_err-key-clause-full g c = rw (← c.self.view_is) (λ honest alive files rest updates directory there file has.
    let s = g.D.Disk.state c.self.inside.disk in
    let memory = memory_of c.self.inside.map in
    let known = file_known s memory c.self.inside.failed c.self.invariant.map honest alive files rest c.args.prime.ppn
    c.args.prime.file directory there file has in
    let p = err_from_is_err_and c.from_residual.result c.from_residual.ensures.1 in
    handed_on c.from_residual.result c.in_err-key.field-0.0 (Refused NoRoom) (p.1 ∙ ap Err p.2)
    (full_by_file s.size memory c.args.kind c.args.prime file (Err c.in_err-key.field-0.0) c.self.invariant.map.whole
    known
    updates c.in_err-key.ensures.room))
