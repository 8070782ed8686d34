use Rattle.std.proofs.Common.{◌≡◌, ◌∙◌, inl, inr, Err, IsErrOf, refl, subst, sym}
use Rattle.blockdisk.specs.Common.{LeavesOnly, NoneOpen, leaves_start, same_contents}
use Rattle.changeset.specs.Common.{IsRecovered}
use Rattle.spec_image.specs.Common.{File, Files, pack_of, StandsOn, Pack}
use Rattle.volume.specs.Common.{AreCopied, HomesComeLast, RestsAt, StandsLike, StandsLikeBefore}
use Rattle.volume.specs.declared.error.CopyError.TheVariants.{Source}
use Rattle.volume.specs.declared.error.VolumeError.TheVariants.{Device}
use Rattle.volume.proofs.CopyImage.CopiedImages.{copy_pack, copy_rests, ok_both, ok_any}
use Rattle.volume.proofs.GetWords.ReadWords.{rests_read}
use Rattle.volume.proofs.VolumeStart.Starts.{crash_read, synced_read}
use Rattle.volume.proofs.volume.Volume.copy_image.Goals as goal

pub returns-in-Ok-clause-stood : goal.returns-in-Ok-clause-stood
returns-in-Ok-clause-stood g c h k =
    let s = g.D.Disk.state c.args.from.now in
    let s1 = g.D.Disk.state c.read_volume.new.disk in
    let s2 = g.D.Disk.state c.copy_all.new.from in
    let t = g.E.Disk.state c.copy_all.new.to in
    let h1 = c.copy_all.ensures.step.same_source.was_honest h in
    let step = c.copy_all.ensures.step in
    let stood = c.in-Ok.ensures.stood h1 in
    let size : t.size ≡ s1.size = step.same_target.size ∙ sym c.requires ∙ sym c.read_volume.ensures.disk.same.size in
    ok_both c.copy_all.result (AreCopied s1.size s1.contents t.contents) (NoneOpen t)
    ((files : Files File) × StandsOn (pack_of t) s.contents files × RestsAt t files) (c.copy_all.ensures.copied h k)
    (c.copy_all.ensures.settled k)
    (λ copy none. (
      stood.0,
      subst (λ (p : Pack). StandsOn p s.contents stood.0) (sym (copy_pack s1 t stood.0 size none copy stood.2)) stood.1,
      copy_rests s1 t stood.0 size none copy stood.2,
    ))

pub returns-in-Ok-clause-files : goal.returns-in-Ok-clause-files
returns-in-Ok-clause-files g c h k files stands =
    let s = g.D.Disk.state c.args.from.now in
    let s1 = g.D.Disk.state c.read_volume.new.disk in
    let s2 = g.D.Disk.state c.copy_all.new.from in
    let t = g.E.Disk.state c.copy_all.new.to in
    let h1 = c.copy_all.ensures.step.same_source.was_honest h in
    let step = c.copy_all.ensures.step in
    let size : t.size ≡ s1.size = step.same_target.size ∙ sym c.requires ∙ sym c.read_volume.ensures.disk.same.size in
    ok_both c.copy_all.result (AreCopied s1.size s1.contents t.contents) (NoneOpen t) (RestsAt t files)
    (c.copy_all.ensures.copied h k) (c.copy_all.ensures.settled k)
    (λ copy none. copy_rests s1 t files size none copy (c.in-Ok.ensures.files h1 files stands))

pub returns-in-Ok-clause-rests : goal.returns-in-Ok-clause-rests
returns-in-Ok-clause-rests g c h files stands =
    let s = g.D.Disk.state c.args.from.now in
    let s1 = g.D.Disk.state c.read_volume.new.disk in
    let s2 = g.D.Disk.state c.copy_all.new.from in
    let h1 = c.copy_all.ensures.step.same_source.was_honest h in
    ok_any c.copy_all.result (RestsAt s2 files) (rests_read s1 s2 files c.copy_all.ensures.step.same_source.size
    (c.copy_all.ensures.step.reads h) (c.in-Ok.ensures.files h1 files stands))

pub returns-in-Ok-clause-crash : goal.returns-in-Ok-clause-crash
returns-in-Ok-clause-crash g c h =
    let s = g.D.Disk.state c.args.from.now in
    let s1 = g.D.Disk.state c.read_volume.new.disk in
    let s2 = g.D.Disk.state c.copy_all.new.from in
    let h1 = c.copy_all.ensures.step.same_source.was_honest h in
    crash_read s s1 s2 (StandsLikeBefore s) (c.read_volume.ensures.crash h1)
    (λ d left. g.met.D.Disk.only_now c.read_volume.new.disk d h1 left) (c.copy_all.ensures.step.reads h)

pub returns-in-Ok-clause-synced : goal.returns-in-Ok-clause-synced
returns-in-Ok-clause-synced g c h =
    let s = g.D.Disk.state c.args.from.now in
    let h1 = c.copy_all.ensures.step.same_source.was_honest h in
    synced_read g.D.Disk.state c.args.from.now c.read_volume.new.disk c.copy_all.new.from
    (IsErrOf c.read_volume.result Device) (IsErrOf c.copy_all.result (Source Device)) (StandsLike s)
    (λ (is : c.read_volume.result ≡ Err Device). let ok = c.in-Ok.is in cc)
    (λ d left. g.met.D.Disk.only_now c.read_volume.new.disk d h1 left) (c.copy_all.ensures.step.reads h)
    (c.read_volume.ensures.synced h1)

pub returns-in-Ok-clause-kept : goal.returns-in-Ok-clause-kept
returns-in-Ok-clause-kept g c h other =
    let s = g.D.Disk.state c.args.from.now in
    let s1 = g.D.Disk.state c.read_volume.new.disk in
    let s2 = g.D.Disk.state c.copy_all.new.from in
    let h1 = c.copy_all.ensures.step.same_source.was_honest h in
    let same : s2.contents ≡ s1.contents = same_contents s1.contents s2.contents
    (c.copy_all.ensures.step.reads h).still.contents in
    inr (subst (IsRecovered s.size s.contents) (sym same) (c.in-Ok.ensures.recovered h1))

pub returns-in-Err-clause-kept : goal.returns-in-Err-clause-kept
returns-in-Err-clause-kept g c h other =
    c.read_volume.ensures.kept h (λ (is : c.read_volume.result ≡ Err Device). other (let bad = c.in-Err.is in cc))

pub returns-in-Ok-clause-last : goal.returns-in-Ok-clause-last
returns-in-Ok-clause-last g c h k =
    let s1 = g.D.Disk.state c.read_volume.new.disk in
    let s2 = g.D.Disk.state c.copy_all.new.from in
    let t = g.E.Disk.state c.args.to.now in
    let t' = g.E.Disk.state c.copy_all.new.to in
    let same : s1.contents ≡ s2.contents = sym (same_contents s1.contents s2.contents
    (c.copy_all.ensures.step.reads h).still.contents) in
    subst (λ size. LeavesOnly t t' (HomesComeLast size s2.contents t)) c.read_volume.ensures.disk.same.size
    (subst (λ contents. LeavesOnly t t' (HomesComeLast s1.size contents t)) same (c.copy_all.ensures.last h k))

pub returns-in-Err-clause-last : goal.returns-in-Err-clause-last
returns-in-Err-clause-last g c h k =
    let s = g.D.Disk.state c.args.from.now in
    let s1 = g.D.Disk.state c.read_volume.new.disk in
    let t = g.E.Disk.state c.args.to.now in
    leaves_start t (HomesComeLast s.size s1.contents t) (λ d left. g.met.E.Disk.only_now c.args.to.now d k left)
    (λ d left. inl (d, left, λ n below. refl))
