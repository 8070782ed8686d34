use Rattle.std.proofs.Common.{ℕ, ◌<◌, refl, sym, ap, subst, ◌∙◌}
use Rattle.volume.specs.Common.{memory_of}
use Rattle.volume.specs.declared.error.CallError.TheVariants.{Failed}
use Rattle.volume.proofs.common.Edits.{edit_in_range, edit_few, read_nothing, ok_anyway, interrupted, edited}
use Rattle.volume.proofs.common.PassedErrors.{err_on}
use Rattle.volume.proofs.RenameAcross.Transactions.{across_sized, across_edit}
use Rattle.volume.proofs.RenameAcross.PrimesRead.{prime_holds}
use Rattle.volume.proofs.RenameWithin.Transactions.{first_below}
use Rattle.volume.proofs.common.SameVersion.{version_held}
use Rattle.volume.proofs.rename_across.move_across.Goals as goal

pub read_prime-requires-clause-inside : goal.read_prime-requires-clause-inside
read_prime-requires-clause-inside g c =
    let s = g.D.Disk.state c.args.disk.now in
    let memory = memory_of c.args.memory.now in
    let file = c.requires.there in
    subst (λ (n : ℕ). n < s.size) (sym (c.prime_of-at.ensures file.version file.here))
    (first_below s.size memory c.requires.sound.whole c.args.key file.version file.here file.current
    c.booked-booked.ensures.sound)

-- The prime block isn't read.

pub returns-in-Err-clause-edited : goal.returns-in-Err-clause-edited
returns-in-Err-clause-edited g c =
    interrupted c.requires.sound refl (λ h d left. g.met.D.Disk.only_now c.args.disk.now d h left)
    c.read_prime.ensures.disk.same (λ n none. absurd none) c.requires.sound.whole
    (λ m. read_nothing (g.D.Disk.state c.args.disk.now) (g.D.Disk.state c.read_prime.new.disk)
    (c.read_prime.ensures.disk.keeps m)) c.in-Err.error

pub returns-in-Err-clause-held : goal.returns-in-Err-clause-held
returns-in-Err-clause-held g c k v is = (v.prime, is)

pub returns-in-Err-clause-given_up : goal.returns-in-Err-clause-given_up
returns-in-Err-clause-given_up g c is h =
    let s = g.D.Disk.state c.args.disk.now in
    let memory = memory_of c.args.memory.now in
    let same = c.read_prime.ensures.disk.same in
    let file = c.requires.there in
    let holds = prime_holds s memory c.requires.sound (same.was_honest h) c.args.moved.ppn c.args.moved.name c.args.key
    file in
    c.in-Err.ensures.broken h (err_on c.in-Err.error Failed is) file.version holds.0 file.here
    (ap s.contents (c.prime_of-at.ensures file.version file.here) ∙ holds.1) holds.2

-- The change.

pub commit_edit-requires-clause-in_range : goal.commit_edit-requires-clause-in_range
commit_edit-requires-clause-in_range g c =
    edit_in_range (across_edit c.requires.sound.whole c.move_to_directory.ensures.1 c.requires.protection
    c.requires.unclaimed 0 c.booked-booked.ensures.sound) c.read_prime.ensures.disk.same

pub commit_edit-requires-clause-few : goal.commit_edit-requires-clause-few
commit_edit-requires-clause-few g c =
    edit_few (across_edit c.requires.sound.whole c.move_to_directory.ensures.1 c.requires.protection
    c.requires.unclaimed 0 c.booked-booked.ensures.sound) c.read_prime.ensures.disk.same

pub returns-clause-edited : goal.returns-clause-edited
returns-clause-edited g c =
    let s = g.D.Disk.state c.args.disk.now in
    let mid = g.D.Disk.state c.read_prime.new.disk in
    let v = c.move_to_directory.ensures.0 in
    let moves = c.move_to_directory.ensures.1 in
    let keeps = c.read_prime.ensures.disk.keeps in
    let edit = across_edit c.requires.sound.whole moves c.requires.protection c.requires.unclaimed _
    c.booked-booked.ensures.sound in
    edited c.requires.sound refl (λ h d left. g.met.D.Disk.only_now c.args.disk.now d h left)
    c.read_prime.ensures.disk.same edit.quiet edit c.commit_edit.ensures (λ m. read_nothing s mid (keeps m))
    (λ m. (keeps m).contents v.at ∙ ap s.contents (sym (c.prime_of-at.ensures v moves.there))
    ∙ c.in-Ok.ensures.words m) (λ h. refl)

pub returns-clause-moved : goal.returns-clause-moved
returns-clause-moved g c =
    let s = g.D.Disk.state c.args.disk.now in
    let v = c.move_to_directory.ensures.0 in
    let moves = across_sized c.requires.sound.whole c.move_to_directory.ensures.1 in
    ok_anyway c.commit_edit.result _ (
      v,
      c.in-Ok.words,
      c.move_to_directory.new.set,
      moves,
      λ h. ap s.contents (sym (c.prime_of-at.ensures v moves.there))
          ∙ c.in-Ok.ensures.words (c.commit_edit.ensures.same.was_honest h),
      c.in-Ok.ensures.prime v moves.there,
    )

pub returns-clause-held : goal.returns-clause-held
returns-clause-held g c =
    let v = c.move_to_directory.ensures.0 in
    let moves = c.move_to_directory.ensures.1 in
    version_held (memory_of c.args.memory.now) (memory_of c.move_to_directory.new.memory) c.args.key v moves.prime
    moves.there
    moves.here moves.others
