use Rattle.std.proofs.Common.{◌≤◌, ◌/◌, ◌^◌, Bool, refl, sym, ap, subst, ◌∙◌, ⊎_elim, arith, rules}
use Rattle.std.specs.Prelude.{is_none}
use Rattle.std.proofs.lemmas.Bool.{ne_eqb}
use Rattle.spec_image.specs.Common.{number_of, pack_of, place_of}
use Rattle.spec_machine.specs.Common.{place_at}
use Rattle.spec_image.specs.declared.code.ErrorCode.TheVariants.{NoDirectory, NoRoom}
use Rattle.spec_machine.specs.declared.call.Call.TheVariants.{Rename}
use Rattle.volume.specs.Common.{DeviceAnswer, IsSoundMemory}
use Rattle.monitor.specs.Common.{changed_job, changed_reply, job_of}
use Rattle.monitor.proofs.common.EventAnswers.{contrary}
use Rattle.monitor.proofs.RenameFile.ChangeAnswers.{rename_stops}
use Rattle.monitor.proofs.EnterFile.Outcomes.{at_place, no_directory}
use Rattle.monitor.proofs.common.InputsClosed.{input_is_held}
use Rattle.monitor.proofs.RenameFile.MoveReplies.{arrival_refused, arrival_homeless, moves_limited, other_place}
use Rattle.monitor.proofs.RenameFile.MoveServes.{read_on, move_serves}
use Rattle.monitor.proofs.RenameFile.Moves.{address_within, asks_for}
use Rattle.monitor.proofs.common.JobReaders.{job_held}
use Rattle.monitor.proofs.RenameFile.Refusals.{address_fits, refusing_serves}
use Rattle.monitor.proofs.RenameFile.NoMemory.{rename_serves}
use Rattle.volume.proofs.common.MarkedBlocks.{on_ok}
use Rattle.spec_machine.specs.declared.call.Reply.TheVariants as replies
use Rattle.monitor.proofs.rename.move_file.Goals as goal

pub overflow_add-address : goal.overflow_add-address
overflow_add-address g c =
    let fits = address_within c.args.job.now.core c.args.address c.requires.inside
    (subst (λ n. n ≤ 0o400000) c.length-length.ensures.value c.length-length.ensures.most) in
    omega arith

pub refuse-requires : goal.refuse-requires
refuse-requires g c = address_fits c.args.job.now.core c.args.address c.requires.inside
    (subst (λ n. n ≤ 0o400000) c.length-length.ensures.value c.length-length.ensures.most)

pub returns-in-Err-clause-serving : goal.returns-in-Err-clause-serving
returns-in-Err-clause-serving g c = λ moment timely jobs n among.
    let volume = c.args.volume.now in
    let job = c.args.job.now in
    let input = c.args.input in
    let d = g.D.Disk.state volume.disk in
    let ready = c.requires.ready in
    refusing_serves g.D.Disk.state g.met.D.Disk.only_now volume.disk volume.map volume.failed ready.alive job
    c.args.number c.args.address c.args.channel input c.requires.there c.requires.side c.requires.free
    c.requires.inside (subst (IsSoundMemory d volume.map) ready.alive ready.sound) ready.placed c.in-Err.code
    (λ h s known w. rename_stops s (job_of w job) c.args.address (place_of input.ppn input.file) (pack_of d)
    (number_of c.in-Err.code) (c.in-Err.ensures.answered h ready.alive s known (job_of w job) c.args.address refl
    (asks_for w job c.args.address (c.bits.result / 2 ^ 27)
    c.requires.named (ap (λ x. x / 2 ^ 27) (c.bits.ensures.value ∙ c.word_at.ensures.value)))))
    moment timely jobs n among (record job { core = c.refuse.new.core }) c.refuse.result
    (ap (λ core. record job { core = core }) c.refuse.ensures.kept) c.refuse.ensures.answered

pub owner_at-requires : goal.owner_at-requires
owner_at-requires g c = address_within c.args.job.now.core c.args.address c.requires.inside
    (subst (λ n. n ≤ 0o400000) c.length-length.ensures.value c.length-length.ensures.most)

pub refuse-requires-in_default-owner_at : goal.refuse-requires-in_default-owner_at
refuse-requires-in_default-owner_at g c = address_fits c.args.job.now.core c.args.address c.requires.inside
    (subst (λ n. n ≤ 0o400000) c.length-length.ensures.value c.length-length.ensures.most)

pub name_at-name-requires : goal.name_at-name-requires
name_at-name-requires g c = address_within c.args.job.now.core c.args.address c.requires.inside
    (subst (λ n. n ≤ 0o400000) c.length-length.ensures.value c.length-length.ensures.most)

pub refuse-requires-in-Err-may_come : goal.refuse-requires-in-Err-may_come
refuse-requires-in-Err-may_come g c = address_fits c.args.job.now.core c.args.address c.requires.inside
    (subst (λ n. n ≤ 0o400000) c.length-length.ensures.value c.length-length.ensures.most)

pub answer_change-requires-clause-inside : goal.answer_change-requires-clause-inside
answer_change-requires-clause-inside g c = address_fits c.args.job.now.core c.args.address c.requires.inside
    (subst (λ n. n ≤ 0o400000) c.length-length.ensures.value c.length-length.ensures.most)

pub answer_change-requires-clause-held : goal.answer_change-requires-clause-held
answer_change-requires-clause-held g c =
    let volume = c.args.volume.now in
    let job = c.args.job.now in
    let input = c.args.input in
    let ready = c.requires.ready in
    read_on volume.map.live c.rename-changed.new.self.map.live input.pin.key
    (λ v at read. c.rename-changed.ensures.held input.pin.key v at read)
    (input_is_held job c.args.number c.args.channel c.requires.there input c.requires.side volume.map.live
    (job_held volume.map.live ready.jobs ready.number job ready.among.reading ready.among.there))
    c.rename-changed.result

pub returns-in_default-owner_at-clause-serving : goal.returns-in_default-owner_at-clause-serving
returns-in_default-owner_at-clause-serving g c = λ moment timely jobs n among.
    let volume = c.args.volume.now in
    let job = c.args.job.now in
    let input = c.args.input in
    let d = g.D.Disk.state volume.disk in
    let ready = c.requires.ready in
    let sound = subst (IsSoundMemory d volume.map) ready.alive ready.sound in
    let moves = ne_eqb _ 0 c.requires.named in
    refusing_serves g.D.Disk.state g.met.D.Disk.only_now volume.disk volume.map volume.failed ready.alive job
    c.args.number c.args.address c.args.channel input c.requires.there c.requires.side c.requires.free
    c.requires.inside sound ready.placed NoDirectory
    (λ h s known w.
    let e = c.args.address in
    let place = place_at (job_of w job) e in
    arrival_homeless (pack_of d) s (job_of w job) e (place_of input.ppn input.file) place refl moves
    (c.in_default.ensures.answered h ready.alive s known (job_of w job) e refl
    (asks_for w job e (c.bits.result / 2 ^ 27)
    c.requires.named (ap (λ x. x / 2 ^ 27) (c.bits.ensures.value ∙ c.word_at.ensures.value))))
    (ap is_none (no_directory d volume.map s known sound h place c.in_default-owner_at.ensures.none)))
    moment timely jobs n among (record job { core = c.refuse-in_default-owner_at.new.core })
    c.refuse-in_default-owner_at.result
    (ap (λ core. record job { core = core }) c.refuse-in_default-owner_at.ensures.kept)
    c.refuse-in_default-owner_at.ensures.answered

pub returns-in-Err-may_come-clause-serving : goal.returns-in-Err-may_come-clause-serving
returns-in-Err-may_come-clause-serving g c = λ moment timely jobs n among.
    let volume = c.args.volume.now in
    let job = c.args.job.now in
    let input = c.args.input in
    let d = g.D.Disk.state volume.disk in
    let ready = c.requires.ready in
    let sound = subst (IsSoundMemory d volume.map) ready.alive ready.sound in
    let moves = ne_eqb _ 0 c.requires.named in
    let name = c.name_at-name.result in
    refusing_serves g.D.Disk.state g.met.D.Disk.only_now volume.disk volume.map volume.failed ready.alive job
    c.args.number c.args.address c.args.channel input c.requires.there c.requires.side c.requires.free
    c.requires.inside sound ready.placed c.in-Err-may_come.code
    (λ h s known w.
    let e = c.args.address in
    arrival_refused (pack_of d) s (job_of w job) e (place_of input.ppn input.file) (place_of c.in-Some.ppn name)
    (at_place w job e c.in-Some.ppn name c.in-Some.ensures.there c.name_at-name.ensures.0 c.name_at-name.ensures.1)
    moves (c.in_default.ensures.answered h ready.alive s known (job_of w job) e refl
    (asks_for w job e (c.bits.result / 2 ^ 27)
    c.requires.named (ap (λ x. x / 2 ^ 27) (c.bits.ensures.value ∙ c.word_at.ensures.value))))
    (replies.Refused (number_of c.in-Err-may_come.code))
    (c.in-Err-may_come.ensures.answered h ready.alive s known (job_of w job) refl) (λ is. cc is))
    moment timely jobs n among (record job { core = c.refuse-in-Err-may_come.new.core })
    c.refuse-in-Err-may_come.result
    (ap (λ core. record job { core = core }) c.refuse-in-Err-may_come.ensures.kept)
    c.refuse-in-Err-may_come.ensures.answered

pub returns-clause-serving : goal.returns-clause-serving
returns-clause-serving g c =
    let volume = c.args.volume.now in
    let job = c.args.job.now in
    let input = c.args.input in
    let state = g.D.Disk.state in
    let d = state volume.disk in
    let moved = c.rename-changed.new.self in
    let after = c.answer_change.new in
    let ready = c.requires.ready in
    let facts = c.rename-changed.ensures in
    let name = c.name_at-name.result in
    let e = c.args.address in
    let old = place_of input.ppn input.file in
    let new = place_of c.in-Some.ppn name in
    rename_serves state volume.disk moved.disk after.volume.disk volume.map after.volume.map after.volume.map
    moved.failed after.volume.failed job after.job
    (changed_job c.rename-changed.result job c.args.number e c.args.channel) (Rename c.args.number e)
    c.answer_change.result (changed_reply c.rename-changed.result) (sym c.answer_change.ensures.untouched.0) refl
    (sym c.answer_change.ensures.untouched.1) (sym c.answer_change.ensures.job) (sym c.answer_change.ensures.answered)
    (move_serves state g.met.D.Disk.only_now volume.disk moved.disk volume.map moved.map moved.failed job
    c.args.number e c.args.channel c.requires.there input c.requires.side c.requires.free c.requires.inside
    c.requires.named (subst (IsSoundMemory d volume.map) ready.alive ready.sound) ready.placed c.in-Some.ppn name
    (c.bits.result / 2 ^ 27)
    (λ w. at_place w job e c.in-Some.ppn name c.in-Some.ensures.there c.name_at-name.ensures.0
    c.name_at-name.ensures.1)
    (ap (λ x. x / 2 ^ 27) (c.bits.ensures.value ∙ c.word_at.ensures.value))
    c.in_default.ensures.free
    (λ apart. c.in_default-may_come.ensures.free (other_place new old apart))
    (λ h s known w. c.in_default.ensures.answered h ready.alive s known (job_of w job) e refl
    (asks_for w job e (c.bits.result / 2 ^ 27)
    c.requires.named (ap (λ x. x / 2 ^ 27) (c.bits.ensures.value ∙ c.word_at.ensures.value))))
    (λ h s known w. c.in_default-may_come.ensures.answered h ready.alive s known (job_of w job) refl)
    c.quota_allows_move.result (search rules) c.quota_allows_move.ensures.value
    c.rename-changed.result
    (record {
      files = facts.files;
      within = λ same. on_ok c.rename-changed.result _ _
          (λ found. (found.0, found.1, found.2, found.3, found.4, found.5)) (facts.within same);
      across = λ other. on_ok c.rename-changed.result _ _
          (λ found. (found.0, found.1, found.2, found.3, found.4, found.5)) (facts.across other);
      answers = record {
        no_directory = facts.no_directory ready.alive;
        not_found = facts.not_found ready.alive;
        exists = facts.exists ready.alive;
        no_room = facts.no_room ready.alive;
        codes = facts.codes;
      };
      refused = facts.refused;
      memory = λ none. ((facts.memory none).1, (facts.memory none).2);
      given_up = λ is. ⊎_elim (λ was. absurd (contrary ready.alive was)) (λ lies. lies) (facts.given_up is);
      answer = subst (λ (was : Bool). DeviceAnswer d (state moved.disk) was moved.failed c.rename-changed.result)
          ready.alive facts.answer;
    })
    after.volume.map c.answer_change.ensures.closed)

pub refuse-requires-then-not-quota_allows_move : goal.refuse-requires-then-not-quota_allows_move
refuse-requires-then-not-quota_allows_move g c = address_fits c.args.job.now.core c.args.address c.requires.inside
    (subst (λ n. n ≤ 0o400000) c.length-length.ensures.value c.length-length.ensures.most)

-- the quota leaves too little
pub returns-then-not-quota_allows_move-clause-serving : goal.returns-then-not-quota_allows_move-clause-serving
returns-then-not-quota_allows_move-clause-serving g c = λ moment timely jobs n among.
    let volume = c.args.volume.now in
    let job = c.args.job.now in
    let input = c.args.input in
    let d = g.D.Disk.state volume.disk in
    let ready = c.requires.ready in
    let sound = subst (IsSoundMemory d volume.map) ready.alive ready.sound in
    let moves = ne_eqb _ 0 c.requires.named in
    let name = c.name_at-name.result in
    refusing_serves g.D.Disk.state g.met.D.Disk.only_now volume.disk volume.map volume.failed ready.alive job
    c.args.number c.args.address c.args.channel input c.requires.there c.requires.side c.requires.free
    c.requires.inside sound ready.placed NoRoom
    (λ h s known w.
    let e = c.args.address in
    moves_limited d volume.map s known sound h (job_of w job) e input.ppn input.file c.in-Some.ppn name
    (at_place w job e c.in-Some.ppn name c.in-Some.ensures.there c.name_at-name.ensures.0 c.name_at-name.ensures.1)
    moves (c.in_default.ensures.answered h ready.alive s known (job_of w job) e refl
    (asks_for w job e (c.bits.result / 2 ^ 27)
    c.requires.named (ap (λ x. x / 2 ^ 27) (c.bits.ensures.value ∙ c.word_at.ensures.value))))
    (c.in_default-may_come.ensures.answered h ready.alive s known (job_of w job) refl)
    c.quota_allows_move.result c.quota_allows_move.ensures.value (search rules))
    moment timely jobs n among (record job { core = c.refuse-then-not-quota_allows_move.new.core })
    c.refuse-then-not-quota_allows_move.result
    (ap (λ core. record job { core = core }) c.refuse-then-not-quota_allows_move.ensures.kept)
    c.refuse-then-not-quota_allows_move.ensures.answered
