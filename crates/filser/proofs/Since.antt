-- What holds since a disk was made holds since before the first call on its file.
use Rattle.std.proofs.Common.{◌≡◌, inl, inr, ⊎_elim, ℕ, List, [], Option, Result, sym, subst, ◌∙◌, ◌+◌, ◌-◌, ◌^◌, min}
use Rattle.blockdisk.specs.Common.{Contents, DiskState, MayLeave, LeavesOnly, same_contents, still_on, leaves_on}
use Rattle.blockdisk.specs.Common.{leaves_still}
use Rattle.changeset.specs.Common.{IsRecovered}
use Rattle.imagefile.specs.Common.{BeganAs, begun_image, image_only_now, recorded, recorded_only_now, Unseen}
use Rattle.imagefile.specs.declared.form.Form.{Form}
use Rattle.commands.specs.declared.answer.Tally.{Tally}
use Rattle.commands.specs.declared.error.SessionError.{SessionError}
use Rattle.spec_image.specs.Common.{pack_of, StandsOn, Stands}
use Rattle.volume.specs.Common.{StandsLikeBefore}
use Rattle.volume.specs.declared.error.VolumeError.{VolumeError}
use Rattle.monitor.specs.Common.{MonitorState}
use Rattle.filser.specs.Common.{IsFaultOf, IsLeftAlone, IsTaken, IsRefusedBy, IsServed, IsStarted, IsTurnedDown}
use Rattle.filser.specs.Common.{IsUnserved}
use Rattle.filser.specs.declared.fault.ImageFault.{ImageFault}
use Rattle.filser.specs.declared.status.Status.{Status}

-- a crash at the beginning leaves what it may leave there
begun_only_now : (form : Form) (blocks : ℕ) (u : Unseen) (c : Contents)
    → (begun_image form blocks u).left_since (begun_image form blocks u).clock c
    → MayLeave (begun_image form blocks u) c
begun_only_now form blocks u c left =
    image_only_now form blocks (recorded u []) c (λ r was. recorded_only_now u [] r was) left

module _ (form : Form) (u : Unseen) (d : DiskState) (began : BeganAs form u d) (sound : d.failures ≡ 0) where
  abbrev begun : DiskState
  begun = begun_image form d.size u

  same : d.honest → d.contents ≡ begun.contents
  same h = same_contents begun.contents d.contents (began.still h).contents

  -- what only reads came to since then, a longer stretch comes to
  pub leaves_since : (e : DiskState) (P Q : Contents → Type 0) → d.honest → LeavesOnly d e P
      → ((c : Contents) → P c → Q c) → ((c : Contents) → MayLeave begun c → Q c) → LeavesOnly begun e Q
  leaves_since e P Q h leaves wider first = leaves_on begun d e Q P
      (leaves_still begun d Q (begun_only_now form d.size u) (began.still h) first) leaves wider

  like_since : d.honest → (c : Contents) → StandsLikeBefore d c → StandsLikeBefore begun c
  like_since h c like = (like.0, (began.still h).crash like.0 like.1, like.2)

  crash_since : (e : DiskState) → d.honest → LeavesOnly d e (StandsLikeBefore d)
      → LeavesOnly begun e (StandsLikeBefore begun)
  crash_since e h leaves = leaves_since e (StandsLikeBefore d) (StandsLikeBefore begun) h leaves (like_since h)
      (λ c may. (c, may, λ layout files stands. stands))

  recovered_since : (now : Contents) → d.honest → IsRecovered d.size d.contents now
      → IsRecovered begun.size begun.contents now
  recovered_since now h recovered = subst (λ (c : Contents). IsRecovered d.size c now) (same h) recovered

  module _ {D : Type 0} (state : D → DiskState) where
    started_since : (m : MonitorState D) → d.honest → IsStarted state d m → IsStarted state begun m
    started_since m h p = record {
      files = p.files;
      stood = subst (λ (c : Contents). StandsOn (pack_of (state m.disk)) c p.files) (same h) p.stood;
      serves = p.serves;
      crash = crash_since (state m.disk) h p.crash;
      recovered = recovered_since (state m.disk).contents h p.recovered;
      settled = p.settled;
    }

    pub served_since : (end : D) (status : Status)
        (IsTranscript : MonitorState D → MonitorState D → Result Tally SessionError → Type 0)
        → IsServed state d end status IsTranscript → IsServed state begun end status IsTranscript
    served_since end status IsTranscript p = record {
      first = p.first;
      last = p.last;
      result = p.result;
      serving = p.serving;
      nobody = p.nobody;
      size = p.size;
      failures = p.failures ∙ sound;
      was_honest = λ h. tt;
      started = λ h. started_since p.first (p.was_honest h) (p.started h);
      transcript = p.transcript;
      ends = p.ends;
      ended = p.ended;
    }

  turned_since : (end : DiskState) (error : VolumeError) → d.honest → IsTurnedDown d end error
      → IsTurnedDown begun end error
  turned_since end error h p = record {
    refuses = p.refuses;
    faultless = λ files stands.
        p.faultless files (subst (λ (c : Contents). Stands d.size c files) (sym (same h)) stands);
    kept = λ other. ⊎_elim (λ still. inl (still_on begun d end (began.still h) still))
        (λ recovered. inr (recovered_since end.contents h recovered)) (p.kept other);
    crash = crash_since end h p.crash;
  }

  pub refused_since : (end : DiskState) (error : VolumeError) → IsRefusedBy d end error
      → IsRefusedBy begun end error
  refused_since end error p = record {
    size = p.size;
    named = p.named;
    failed = λ device. subst (λ n. end.failures ≡ min (n + 1) (2 ^ 64 - 1)) sound (p.failed device);
    sound = λ other. p.sound other ∙ sound;
    was_honest = λ h. tt;
    why = λ h. turned_since end error (p.was_honest h) (p.why h);
  }

  pub fault_since : (end : DiskState) (fault : ImageFault) → IsFaultOf d end fault → IsFaultOf begun end fault
  fault_since end fault p = (p.0, p.1, p.2, refused_since end p.0 p.3)

  pub unserved_since : (end : DiskState) (source left sink full : Option (List ℕ)) (status : Status)
      → IsUnserved d end source left sink full status → IsUnserved begun end source left sink full status
  unserved_since end source left sink full status p = record {
    error = p.error;
    refused = refused_since end p.error p.refused;
    said = p.said;
    unread = p.unread;
  }

  pub alone_since : (end : DiskState) → (end.honest → d.honest) → IsLeftAlone d end → IsLeftAlone begun end
  alone_since end was p = record {
    was_honest = λ h. tt;
    crash = λ h. crash_since end (was h) (p.crash h);
  }

  pub taken_since : (end : DiskState) → d.honest → IsTaken d end → IsTaken begun end
  taken_since end h p = record {
    files = p.files;
    stood = subst (λ (c : Contents). StandsOn (pack_of end) c p.files) (same h) p.stood;
    rests = p.rests;
    recovered = recovered_since end.contents h p.recovered;
  }
