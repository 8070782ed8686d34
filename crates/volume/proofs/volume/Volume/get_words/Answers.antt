use Rattle.std.proofs.Common.{◌≡◌, ◌+◌, ◌-◌, ◌∙◌, None, inr, slice_index, sym, subst}
use Rattle.spec_image.proofs.Common.{some_same}
use Rattle.retrieval.specs.Common.{VersionState}
use Rattle.volume.specs.Common.{memory_of, IsReadable}
use Rattle.volume.proofs.VolumeStart.Opens.{reads_of}
use Rattle.volume.proofs.GetWords.ReadWords.{rests_read, sound_read, readable_inside, readable_body, undamaged}
use Rattle.volume.proofs.common.SoundVolumes.{volume_goes_on}
use Rattle.volume.proofs.volume.Volume.get_words.Goals as goal

pub get_words-requires-clause-inside : goal.get_words-requires-clause-inside
get_words-requires-clause-inside g c =
    let s = g.D.Disk.state c.self.inside.disk in
    readable_inside s.size (memory_of c.self.inside.map) c.self.invariant.map.whole c.booked-booked.ensures.sound
    c.args.handle c.version_under-version.result.now (subst (λ m. IsReadable m.map c.args.handle)
    (sym c.self.view_is) c.requires.live) c.version_under-version.ensures

pub version_under-version-requires : goal.version_under-version-requires
version_under-version-requires g c = subst (λ m. IsReadable m.map c.args.handle) (sym c.self.view_is) c.requires.live

pub returns-in-Ok-clause-reads : goal.returns-in-Ok-clause-reads
returns-in-Ok-clause-reads g c = rw (← c.self.view_is) (λ h. reads_of (g.D.Disk.state c.self.inside.disk)
    (g.D.Disk.state c.get_words.new.disk) (c.get_words.ensures.keeps h))

pub returns-in-Ok-clause-whole : goal.returns-in-Ok-clause-whole
returns-in-Ok-clause-whole g c = rw (← c.self.view_is) (λ h v is i some none.
    let s = g.D.Disk.state c.self.inside.disk in
    c.in-Ok.ensures.whole h i some (subst
    (λ (w : VersionState). s.contents (slice_index w.blocks (c.args.block - 1 + i))
    ≡ None) (some_same (sym is ∙ c.version_under-version.ensures)) none))

pub invariant_of-self : goal.invariant_of-self
invariant_of-self g c =
    let s = g.D.Disk.state c.self.inside.disk in
    let s' = g.D.Disk.state c.get_words.new.disk in
    let memory = memory_of c.self.inside.map in
    volume_goes_on s s' memory memory c.self.inside.failed c.self.inside.failed c.self.inside.layout c.self.invariant
    (sound_read s s' memory c.self.inside.failed c.get_words.ensures.same.size
    c.get_words.ensures.same.was_honest (λ h. reads_of s s' (c.get_words.ensures.keeps h)) c.self.invariant.map)
    c.get_words.ensures.same.size c.get_words.ensures.same.was_honest (λ ok. ok)
    (λ h ok n low. (c.get_words.ensures.keeps h).contents n)

pub returns-in-Ok-clause-rests : goal.returns-in-Ok-clause-rests
returns-in-Ok-clause-rests g c = rw (← c.self.view_is) (λ h files rests.
    let s = g.D.Disk.state c.self.inside.disk in
    let s' = g.D.Disk.state c.get_words.new.disk in
    rests_read s s' files c.get_words.ensures.same.size (reads_of s s' (c.get_words.ensures.keeps h)) rests)

pub returns-in-Err-Device-clause-rests : goal.returns-in-Err-Device-clause-rests
returns-in-Err-Device-clause-rests g c = rw (← c.self.view_is) (λ h files rests.
    let s = g.D.Disk.state c.self.inside.disk in
    let s' = g.D.Disk.state c.get_words.new.disk in
    rests_read s s' files c.get_words.ensures.same.size (reads_of s s' (c.get_words.ensures.keeps h)) rests)

pub returns-in-Err-BadData-clause-rests : goal.returns-in-Err-BadData-clause-rests
returns-in-Err-BadData-clause-rests g c = rw (← c.self.view_is) (λ h files rests.
    let s = g.D.Disk.state c.self.inside.disk in
    let s' = g.D.Disk.state c.get_words.new.disk in
    rests_read s s' files c.get_words.ensures.same.size (reads_of s s' (c.get_words.ensures.keeps h)) rests)

pub returns-in-Err-BadData-clause-given_up : goal.returns-in-Err-BadData-clause-given_up
returns-in-Err-BadData-clause-given_up g c = rw (← c.self.view_is) (λ is. inr (λ h.
    let s = g.D.Disk.state c.self.inside.disk in
    let v = c.version_under-version.result.now in
    let bad = c.get_words.ensures.damaged h c.in-Err-BadData._block (cc) in
    undamaged s.contents v c.in-Err-BadData._block
    (readable_body s (memory_of c.self.inside.map) c.self.inside.failed c.self.invariant.map
    (c.get_words.ensures.same.was_honest h) c.if-self.false c.args.handle v
    (subst (λ m. IsReadable m.map c.args.handle) (sym c.self.view_is) c.requires.live) c.version_under-version.ensures)
    bad.0 bad.1))
