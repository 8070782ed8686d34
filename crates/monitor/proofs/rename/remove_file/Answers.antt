use Rattle.std.proofs.Common.{◌≤◌, refl, ap, subst}
use Rattle.spec_image.specs.Common.{number_of, pack_of, place_of}
use Rattle.volume.specs.Common.{IsSoundMemory}
use Rattle.monitor.specs.Common.{job_of}
use Rattle.monitor.proofs.RenameFile.ChangeAnswers.{rename_stops}
use Rattle.monitor.proofs.RenameFile.Deletions.{deleting_serves}
use Rattle.monitor.proofs.common.InputsClosed.{input_is_held}
use Rattle.monitor.proofs.common.JobReaders.{job_held}
use Rattle.monitor.proofs.RenameFile.Refusals.{address_fits, asks_none, still_read, refusing_serves}
use Rattle.monitor.proofs.rename.remove_file.Goals as goal

pub refuse-requires : goal.refuse-requires
refuse-requires g c = address_fits c.args.job.now.core c.args.address c.requires.inside
    (subst (λ n. n ≤ 0o400000) c.length-length.ensures.value c.length-length.ensures.most)

pub returns-in-Err-clause-serving : goal.returns-in-Err-clause-serving
returns-in-Err-clause-serving g c = λ moment timely jobs n among.
    let volume = c.args.volume.now in
    let job = c.args.job.now in
    let input = c.args.input in
    let d = g.D.Disk.state volume.disk in
    let ready = c.requires.ready in
    refusing_serves g.D.Disk.state g.met.D.Disk.only_now volume.disk volume.map volume.failed ready.alive job
    c.args.number c.args.address c.args.channel input c.requires.there c.requires.side c.requires.free
    c.requires.inside (subst (IsSoundMemory d volume.map) ready.alive ready.sound) ready.placed c.in-Err.code
    (λ h s known w. rename_stops s (job_of w job) c.args.address (place_of input.ppn input.file) (pack_of d)
    (number_of c.in-Err.code) (c.in-Err.ensures.answered h ready.alive s known (job_of w job) c.args.address refl
    (asks_none w job c.args.address c.requires.deletes)))
    moment timely jobs n among (record job { core = c.refuse.new.core }) c.refuse.result
    (ap (λ core. record job { core = core }) c.refuse.ensures.kept) c.refuse.ensures.answered

pub answer_change-requires-clause-inside : goal.answer_change-requires-clause-inside
answer_change-requires-clause-inside g c = address_fits c.args.job.now.core c.args.address c.requires.inside
    (subst (λ n. n ≤ 0o400000) c.length-length.ensures.value c.length-length.ensures.most)

pub answer_change-requires-clause-held : goal.answer_change-requires-clause-held
answer_change-requires-clause-held g c =
    let volume = c.args.volume.now in
    let job = c.args.job.now in
    let input = c.args.input in
    let ready = c.requires.ready in
    still_read volume.map.live c.delete-changed.new.self.map.live input.pin.key
    (λ v at read. c.delete-changed.ensures.held input.pin.key v at read)
    (input_is_held job c.args.number c.args.channel c.requires.there input c.requires.side volume.map.live
    (job_held volume.map.live ready.jobs ready.number job ready.among.reading ready.among.there))
    c.delete-changed.result

pub returns-clause-serving : goal.returns-clause-serving
returns-clause-serving g c = λ moment timely jobs n among.
    let volume = c.args.volume.now in
    let job = c.args.job.now in
    let input = c.args.input in
    let d = g.D.Disk.state volume.disk in
    let deleted = c.delete-changed.new.self in
    let after = c.answer_change.new in
    let ready = c.requires.ready in
    let facts = c.delete-changed.ensures in
    deleting_serves g.D.Disk.state g.met.D.Disk.only_now volume.disk deleted.disk volume.map deleted.map
    after.volume.map volume.failed deleted.failed ready.alive job c.args.number c.args.address c.args.channel input
    c.requires.there c.requires.side c.requires.free c.requires.inside c.requires.deletes
    (subst (IsSoundMemory d volume.map) ready.alive ready.sound) ready.placed c.in_default.ensures.free
    (λ h s known w. c.in_default.ensures.answered h ready.alive s known (job_of w job) c.args.address refl
    (asks_none w job c.args.address c.requires.deletes))
    c.delete-changed.result
    (record {
      files = facts.files;
      removed = facts.removed;
      refused = facts.refused;
      given_up = facts.given_up;
      no_directory = facts.no_directory;
      not_found = facts.not_found;
      codes = facts.codes;
      memory = facts.memory;
      answer = facts.answer;
    })
    moment timely jobs n among after.volume.disk after.volume.failed after.job c.answer_change.result
    c.answer_change.ensures.untouched c.answer_change.ensures.closed c.answer_change.ensures.answered
    c.answer_change.ensures.job
