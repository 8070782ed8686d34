use Rattle.std.proofs.Common.{◌∷◌, ◌<◌, ◌^◌, ℕ, sym, subst}
use Rattle.std.specs.List.{AllByRecursion}
use Rattle.words36.specs.Common.{IsPpn}
use Rattle.blockdisk.specs.Common.{modifies_wider, modifies_start}
use Rattle.spec_image.specs.Common.{InSpace, times}
use Rattle.alloctab.specs.Common.{IsFree}
use Rattle.retrieval.specs.Common.{with_length, IsStandingVersion, VersionState}
use Rattle.retrieval.proofs.TakenBlocks.{takes_apart, takes_inside, takes_nonzero, may_be_written, later}
use Rattle.spec_image.proofs.Common.{all_times}
use Rattle.retrieval.proofs.Whole.{whole_version}
use Rattle.retrieval.proofs.write.write_version.Goals as goal

pub write_retrieval_blocks-requires-clause-inside : goal.write_retrieval_blocks-requires-clause-inside
write_retrieval_blocks-requires-clause-inside g c =
    let t = c.args.table.now in
    let at = c.take_retrieval_blocks-at.result in
    let ribs = c.take_retrieval_blocks-at.new.version.ribs in
    let sound = c.booked-booked.ensures.sound in
    let all = c.take_retrieval_blocks-at.ensures.taken in
    subst (λ (s : ℕ). AllByRecursion (λ n. n < s) (at ∷ ribs)) c.requires.size
    (takes_inside t (at ∷ ribs) c.take_retrieval_blocks-at.new.table all)

pub write_retrieval_blocks-requires-clause-apart : goal.write_retrieval_blocks-requires-clause-apart
write_retrieval_blocks-requires-clause-apart g c =
    let t = c.args.table.now in
    let at = c.take_retrieval_blocks-at.result in
    let ribs = c.take_retrieval_blocks-at.new.version.ribs in
    let sound = c.booked-booked.ensures.sound in
    let all = c.take_retrieval_blocks-at.ensures.taken in
    takes_apart t (at ∷ ribs) c.take_retrieval_blocks-at.new.table sound c.requires.fixed all

pub write_retrieval_blocks-requires-clause-nonzero : goal.write_retrieval_blocks-requires-clause-nonzero
write_retrieval_blocks-requires-clause-nonzero g c =
    let t = c.args.table.now in
    let at = c.take_retrieval_blocks-at.result in
    let ribs = c.take_retrieval_blocks-at.new.version.ribs in
    let sound = c.booked-booked.ensures.sound in
    let all = c.take_retrieval_blocks-at.ensures.taken in
    let none = takes_nonzero t (at ∷ ribs) c.take_retrieval_blocks-at.new.table sound c.requires.fixed all in
    later 0 at ribs none

pub returns-in-Ok-clause-modified : goal.returns-in-Ok-clause-modified
returns-in-Ok-clause-modified g c h =
    let t = c.args.table.now in
    let at = c.take_retrieval_blocks-at.result in
    let ribs = c.take_retrieval_blocks-at.new.version.ribs in
    let sound = c.booked-booked.ensures.sound in
    let all = c.take_retrieval_blocks-at.ensures.taken in
    let old = g.D.Disk.state c.args.disk.now in
    modifies_wider (λ n. 0 < times n (at ∷ ribs)) (λ n. IsFree t n × InSpace old.size n) old
    (g.D.Disk.state c.write_retrieval_blocks.new.disk)
    (may_be_written old.size t (at ∷ ribs) c.take_retrieval_blocks-at.new.table c.requires.size sound c.requires.fixed
    all) (c.write_retrieval_blocks.ensures.modified h)

pub returns-in-Err-clause-modified : goal.returns-in-Err-clause-modified
returns-in-Err-clause-modified g c h =
    let t = c.args.table.now in
    let at = c.take_retrieval_blocks-at.result in
    let ribs = c.take_retrieval_blocks-at.new.version.ribs in
    let sound = c.booked-booked.ensures.sound in
    let all = c.take_retrieval_blocks-at.ensures.taken in
    let old = g.D.Disk.state c.args.disk.now in
    modifies_wider (λ n. 0 < times n (at ∷ ribs)) (λ n. IsFree t n × InSpace old.size n) old
    (g.D.Disk.state c.write_retrieval_blocks.new.disk)
    (may_be_written old.size t (at ∷ ribs) c.take_retrieval_blocks-at.new.table c.requires.size sound c.requires.fixed
    all) (c.write_retrieval_blocks.ensures.modified h)

pub returns-in-Ok-clause-own : goal.returns-in-Ok-clause-own
returns-in-Ok-clause-own g c =
    let t = c.args.table.now in
    let at = c.take_retrieval_blocks-at.result in
    let ribs = c.take_retrieval_blocks-at.new.version.ribs in
    let sound = c.booked-booked.ensures.sound in
    let all = c.take_retrieval_blocks-at.ensures.taken in
    let old = g.D.Disk.state c.args.disk.now in
    all_times (λ n. IsFree t n × InSpace old.size n) (at ∷ ribs)
    (may_be_written old.size t (at ∷ ribs) c.take_retrieval_blocks-at.new.table c.requires.size sound c.requires.fixed
    all)

pub returns-in-Ok-clause-apart : goal.returns-in-Ok-clause-apart
returns-in-Ok-clause-apart g c =
    let t = c.args.table.now in
    let at = c.take_retrieval_blocks-at.result in
    let ribs = c.take_retrieval_blocks-at.new.version.ribs in
    let sound = c.booked-booked.ensures.sound in
    let all = c.take_retrieval_blocks-at.ensures.taken in
    takes_apart t (at ∷ ribs) c.take_retrieval_blocks-at.new.table sound c.requires.fixed all

pub returns-in-Ok-clause-read_back : goal.returns-in-Ok-clause-read_back
returns-in-Ok-clause-read_back g c h layout date inside =
    let t = c.args.table.now in
    let at = c.take_retrieval_blocks-at.result in
    let ribs = c.take_retrieval_blocks-at.new.version.ribs in
    let sound = c.booked-booked.ensures.sound in
    let all = c.take_retrieval_blocks-at.ensures.taken in
    let old = g.D.Disk.state c.args.disk.now in
    let new = g.D.Disk.state c.write_retrieval_blocks.new.disk in
    let own = may_be_written old.size t (at ∷ ribs) c.take_retrieval_blocks-at.new.table c.requires.size
    sound c.requires.fixed all in
    let v = c.take_retrieval_blocks-at.new.version in
    let p = with_length c.args.prime.now v.words in
    let its : AllByRecursion (InSpace old.size) v.blocks = subst (λ (w : VersionState).
    AllByRecursion (InSpace old.size) w.blocks) (sym c.take_retrieval_blocks-at.ensures.kept) inside in
    subst (λ (s : ℕ). IsStandingVersion s new.contents layout at p ribs v.blocks)
    (sym c.write_retrieval_blocks.ensures.same.size)
    (whole_version old.size new.contents layout p at ribs v.blocks (c.in-Ok.ensures.written h layout date)
    (λ n there. (own n there).1) its
    (subst IsPpn c.word.ensures.value c.word.ensures.ppn)
    (subst (λ (n : ℕ). n < 2 ^ 18) c.bits.ensures.value c.bits.ensures.fits))

pub returns-in_err-ribs-clause-modified : goal.returns-in_err-ribs-clause-modified
returns-in_err-ribs-clause-modified g c h = modifies_start (λ n. IsFree c.args.table.now n
    × InSpace (g.D.Disk.state c.args.disk.now).size n) (g.D.Disk.state c.args.disk.now)
