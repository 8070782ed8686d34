use Rattle.std.proofs.Common.{◌≡◌, ℕ, List, length, Some, true, Err, refl, sym, subst, ◌∙◌}
use Rattle.std.specs.List.{AllByRecursion}
use Rattle.spec_image.specs.Common.{File, Files, IsTarget, targets, HasBody}
use Rattle.volume.specs.Common.{IsEdited, pending_at, memory_of, file_of, files_published}
use Rattle.volume.specs.declared.error.CallError.TheVariants.{Device}
use Rattle.volume.specs.declared.pending.PendingVersion.{PendingVersion}
use Rattle.volume.proofs.PublishVersion.Blocks.{made_current_of, retrieval_inside, retrieval_apart, retrieval_nonzero}
use Rattle.volume.proofs.common.ChainPuts.{both_in_range}
use Rattle.volume.proofs.PublishVersion.Blocks.{version_words, version_enough, version_fits, published_both}
use Rattle.volume.proofs.PublishVersion.Transactions.{ok_is, published_ended, published_edited, published_sound}
use Rattle.spec_image.proofs.Common.{some_is}
use Rattle.volume.proofs.publish.publish_written.Given
use Rattle.volume.proofs.publish.publish_written.Goals as goal

pub write_retrieval_blocks-written-requires-clause-inside :
    goal.write_retrieval_blocks-written-requires-clause-inside
write_retrieval_blocks-written-requires-clause-inside g c =
    let there = some_is (pending_at (memory_of c.args.map.now).pending c.args.key) c.requires.there in
    let made = made_current_of c.requires.sound (c.make_current-current.ensures there.0 there.1) c.in-Some.ensures in
    retrieval_inside c.requires.sound.whole made

pub write_retrieval_blocks-written-requires-clause-apart :
    goal.write_retrieval_blocks-written-requires-clause-apart
write_retrieval_blocks-written-requires-clause-apart g c =
    let there = some_is (pending_at (memory_of c.args.map.now).pending c.args.key) c.requires.there in
    let made = made_current_of c.requires.sound (c.make_current-current.ensures there.0 there.1) c.in-Some.ensures in
    retrieval_apart c.requires.sound.whole made

pub write_retrieval_blocks-written-requires-clause-nonzero :
    goal.write_retrieval_blocks-written-requires-clause-nonzero
write_retrieval_blocks-written-requires-clause-nonzero g c =
    let there = some_is (pending_at (memory_of c.args.map.now).pending c.args.key) c.requires.there in
    let made = made_current_of c.requires.sound (c.make_current-current.ensures there.0 there.1) c.in-Some.ensures in
    retrieval_nonzero c.requires.sound.whole made

pub write_retrieval_blocks-written-requires-clause-words :
    goal.write_retrieval_blocks-written-requires-clause-words
write_retrieval_blocks-written-requires-clause-words g c =
    let there = some_is (pending_at (memory_of c.args.map.now).pending c.args.key) c.requires.there in
    let made = made_current_of c.requires.sound (c.make_current-current.ensures there.0 there.1) c.in-Some.ensures in
    version_words c.requires.sound.whole made

pub write_retrieval_blocks-written-requires-clause-enough :
    goal.write_retrieval_blocks-written-requires-clause-enough
write_retrieval_blocks-written-requires-clause-enough g c =
    let there = some_is (pending_at (memory_of c.args.map.now).pending c.args.key) c.requires.there in
    let made = made_current_of c.requires.sound (c.make_current-current.ensures there.0 there.1) c.in-Some.ensures in
    version_enough c.requires.sound.whole made

pub write_retrieval_blocks-written-requires-clause-fit :
    goal.write_retrieval_blocks-written-requires-clause-fit
write_retrieval_blocks-written-requires-clause-fit g c =
    let there = some_is (pending_at (memory_of c.args.map.now).pending c.args.key) c.requires.there in
    let made = made_current_of c.requires.sound (c.make_current-current.ensures there.0 there.1) c.in-Some.ensures in
    version_fits c.requires.sound.whole made

-- If the retrieval blocks were not written.

ended : (g : Given.Over) (c : goal.Then-is_err g) (become : Files File → Files File)
    → IsEdited (g.D.Disk.state c.args.disk.now) (g.D.Disk.state c.write_retrieval_blocks-written.new.disk)
    (memory_of c.args.map.now) (memory_of c.make_current-current.new.memory) become true (Err Device)
ended g c become =
    let there = some_is (pending_at (memory_of c.args.map.now).pending c.args.key) c.requires.there in
    let made = made_current_of c.requires.sound (c.make_current-current.ensures there.0 there.1) c.in-Some.ensures in
    published_ended c.requires.sound made (λ h d left. g.met.D.Disk.only_now c.args.disk.now d h left)
    c.write_retrieval_blocks-written.ensures.same c.write_retrieval_blocks-written.ensures.modified become

pub returns-then-is_err-clause-sound : goal.returns-then-is_err-clause-sound
returns-then-is_err-clause-sound g c = (ended g c (λ f. f)).sound

pub returns-then-is_err-clause-crash : goal.returns-then-is_err-clause-crash
returns-then-is_err-clause-crash g c h f rests p is body long has =
    (ended g c (λ f. files_published f p.prime.ppn p.prime.file (file_of p.prime body))).files.crash h f rests

pub returns-then-is_err-clause-homes : goal.returns-then-is_err-clause-homes
returns-then-is_err-clause-homes g c = (ended g c (λ f. f)).files.homes

-- The change.

pub commit_edit-requires-clause-in_range : goal.commit_edit-requires-clause-in_range
commit_edit-requires-clause-in_range g c =
    let there = some_is (pending_at (memory_of c.args.map.now).pending c.args.key) c.requires.there in
    let made = made_current_of c.requires.sound (c.make_current-current.ensures there.0 there.1) c.in-Some.ensures in
    subst (λ (n : ℕ). AllByRecursion (IsTarget n) (targets c.make_current-current.new.set))
    (sym c.write_retrieval_blocks-written.ensures.same.size)
    (both_in_range (published_both c.requires.sound.whole made))

changed : (g : Given.Over) (c : goal.After-commit_edit g) (p : PendingVersion)
    → pending_at (memory_of c.args.map.now).pending c.args.key ≡ Some p → (body : List ℕ)
    → length body ≡ p.version.words
    → ((g.D.Disk.state c.args.disk.now).honest
    → HasBody (g.D.Disk.state c.args.disk.now).contents p.version.blocks body)
    → IsEdited (g.D.Disk.state c.args.disk.now) (g.D.Disk.state c.commit_edit.new.disk) (memory_of c.args.map.now)
    (memory_of c.make_current-current.new.memory)
    (λ f. files_published f p.prime.ppn p.prime.file (file_of p.prime body)) c.commit_edit.new.failed
    c.commit_edit.result
changed g c p is =
    let made = made_current_of c.requires.sound (c.make_current-current.ensures p is) c.in-Some.ensures in
    let written = c.write_retrieval_blocks-written.ensures in
    published_edited c.requires.sound made (λ h d left. g.met.D.Disk.only_now c.args.disk.now d h left) written.same
    written.modified c.commit_edit.ensures
    (λ m n dated. ok_is c.write_retrieval_blocks-written.result _ (sym c.is_err.ensures.value ∙ c.if-is_err.false)
    (written.written m n dated))

-- for the words that the version has
with_words : (g : Given.Over) (c : goal.After-commit_edit g) → (g.D.Disk.state c.commit_edit.new.disk).honest
    → (become : Files File → Files File)
    × IsEdited (g.D.Disk.state c.args.disk.now) (g.D.Disk.state c.commit_edit.new.disk) (memory_of c.args.map.now)
    (memory_of c.make_current-current.new.memory) become c.commit_edit.new.failed c.commit_edit.result
with_words g c h' =
    let there = some_is (pending_at (memory_of c.args.map.now).pending c.args.key) c.requires.there in
    let p = there.0 in
    let h = c.write_retrieval_blocks-written.ensures.same.was_honest (c.commit_edit.ensures.same.was_honest h') in
    let has = c.requires.sound.written h refl c.args.key p there.1 in (
      λ f. files_published f p.prime.ppn p.prime.file (file_of p.prime has.0),
      changed g c p there.1 has.0 has.1 (λ h. has.2),
    )

pub returns-clause-sound : goal.returns-clause-sound
returns-clause-sound g c =
    let there = some_is (pending_at (memory_of c.args.map.now).pending c.args.key) c.requires.there in
    let made = made_current_of c.requires.sound (c.make_current-current.ensures there.0 there.1) c.in-Some.ensures in
    published_sound c.requires.sound made (λ h d left. g.met.D.Disk.only_now c.args.disk.now d h left)
    c.write_retrieval_blocks-written.ensures.same c.write_retrieval_blocks-written.ensures.modified
    c.commit_edit.ensures.same (λ h. (with_words g c h).1.sound)

pub returns-clause-crash : goal.returns-clause-crash
returns-clause-crash g c h f rests p is body long has = (changed g c p is body long (λ h. has)).files.crash h f rests

pub returns-clause-done : goal.returns-clause-done
returns-clause-done g c h f rests p is body long has = (changed g c p is body long (λ h. has)).files.done h f rests

pub returns-clause-readers : goal.returns-clause-readers
returns-clause-readers g c h = (with_words g c h).1.files.readers h

pub returns-clause-writers : goal.returns-clause-writers
returns-clause-writers g c h served k q other = (with_words g c h).1.files.writers h served k q

pub returns-clause-homes : goal.returns-clause-homes
returns-clause-homes g c = record {
  crash = λ h. (with_words g c h).1.files.homes.crash h;
  stay = λ h. (with_words g c h).1.files.homes.stay h;
}
