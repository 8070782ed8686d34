use Rattle.std.proofs.Common.{◌≡◌, Err, IsErrOf, sym, ap, subst, ◌∙◌, arith}
use Rattle.volume.specs.Common.{known_of, IsWholeMap, IsBooked, memory_of, IsAtRest, StandsLike, pending_at}
use Rattle.volume.specs.Common.{IsFirstRead}
use Rattle.volume.specs.declared.error.VolumeError.TheVariants.{Device}
use Rattle.volume.proofs.common.LiveLookups.{standing_at}
use Rattle.volume.proofs.VolumeStart.LiveVersions.{kept_whole}
use Rattle.volume.proofs.VolumeStart.Starts.{synced_as}
use Rattle.volume.proofs.volume.Volume.open.Goals as goal

pub invariant_of-result : goal.invariant_of-result
invariant_of-result g c =
    let s = g.D.Disk.state c.read_volume.new.disk in
    let size = sym c.read_volume.ensures.disk.same.size in
    let k = known_of c.in-Ok.map in
    let kept = memory_of c.in-Ok-keep.map in
    record {
      map = record {
        whole = kept_whole s.size k kept (subst (λ n. IsWholeMap n k) size c.in-Ok.ensures.whole)
            (subst (λ n. IsBooked n k) size c.in-Ok.ensures.booked) c.in-Ok-keep.ensures.known
            c.in-Ok-keep.ensures.keyed
            c.in-Ok-keep.ensures.read c.in-Ok-keep.ensures.none c.in-Ok-keep.ensures.current;
        read = λ h serves key v is some. absurd
            (let none = (standing_at IsFirstRead kept.live key v c.in-Ok-keep.ensures.read is).unread in omega arith);
        written = λ h serves key p is. absurd (let none = ap (λ l. pending_at l key) (sym c.in-Ok-keep.ensures.none)
            ∙ is in cc);
        rest = λ h serves. subst (IsAtRest s) (sym c.in-Ok-keep.ensures.known) (c.in-Ok.ensures.rest h);
        dated = λ h serves key p is. absurd (let none = ap (λ l. pending_at l key) (sym c.in-Ok-keep.ensures.none)
            ∙ is in cc);
      };
      layout_is = λ h serves. c.in-Ok.ensures.layout h;
    }

pub returns-in-Ok-keep-clause-synced : goal.returns-in-Ok-keep-clause-synced
returns-in-Ok-keep-clause-synced g c h =
    synced_as g.D.Disk.state c.args.disk c.read_volume.new.disk (IsErrOf c.read_volume.result Device) ⊥
    (StandsLike (g.D.Disk.state c.args.disk))
    (λ (is : c.read_volume.result ≡ Err Device). let ok = c.in-Ok.is in cc) (c.read_volume.ensures.synced h)

pub returns-in-Ok-keep-clause-files : goal.returns-in-Ok-keep-clause-files
returns-in-Ok-keep-clause-files g c files stands h = c.in-Ok.ensures.files h files stands

pub returns-in-Err-clause-kept : goal.returns-in-Err-clause-kept
returns-in-Err-clause-kept g c h other = c.read_volume.ensures.kept h
    (λ (is : c.read_volume.result ≡ Err Device). other (let error = c.in-Err.is in cc))
