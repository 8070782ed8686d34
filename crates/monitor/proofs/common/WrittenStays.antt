-- What is written stays if the blocks of its version do.
use Rattle.std.proofs.Common.{◌≡◌, ◌<◌, ℕ}
use Rattle.blockdisk.specs.Common.{DiskState}
use Rattle.spec_image.specs.Common.{times}
use Rattle.spec_image.proofs.Common.{body_kept}
use Rattle.volume.specs.declared.pending.PendingVersion.{PendingVersion}
use Rattle.monitor.specs.Common.{IsWriting, Writing}

pub writing_stays : (d d' : DiskState) (p : PendingVersion) (w : Writing) → IsWriting d p w
    → ((n : ℕ) → 0 < times n p.version.blocks → d'.contents n ≡ d.contents n) → IsWriting d' p w
writing_stays d d' p w is stay = record {
  place = is.place;
  protection = is.protection;
  mode = is.mode;
  time = is.time;
  date = is.date;
  words = is.words;
  body = body_kept d.contents d'.contents p.version.blocks w.file.body is.body stay;
}
