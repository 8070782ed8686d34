-- A version that was begun can be published, also after words were put into it.
use Rattle.std.proofs.Common.{◌≡◌, ◌<◌, ℕ, Some, sym, ap, subst, ◌∙◌}
use Rattle.spec_image.proofs.Common.{some_same}
use Rattle.volume.specs.Common.{begun, IsBegun, CurrentMap, MemoryMap, pending_at, IsPlaced}
use Rattle.retrieval.specs.Common.{VersionState}
use Rattle.retrieval.specs.declared.prime.Prime.{Prime}
use Rattle.volume.specs.declared.pending.PendingKind.{PendingKind}
use Rattle.volume.specs.declared.pending.PendingVersion.{PendingVersion}
use Rattle.volume.proofs.BeginVersion.Beginnings.{named_none}
use Rattle.volume.proofs.PublishVersion.Publications.{placed_on}

pub written : (before after now : MemoryMap) (key : ℕ) (kind : PendingKind) (prime : Prime)
    (begins : IsBegun before after key kind prime) (v : VersionState) (p : PendingVersion) → 0 < prime.file.name
    → now.known ≡ record after.known { table = now.known.table }
    → pending_at now.pending key ≡ Some (record (begun kind prime begins.old) { version = v })
    → pending_at now.pending key ≡ Some p → IsPlaced now p
written before after now key kind prime begins v p named known put is =
    subst (IsPlaced now) (some_same (sym put ∙ is)) (placed_on before now (known
    ∙ ap (λ (k : CurrentMap). record k { table = now.known.table }) begins.known) (begun kind prime begins.old) v
    (record {
      named = named;
      directory = begins.directory;
      there = begins.there;
      is_new = begins.is_new ∙ named_none begins.directory prime.file begins.old begins.named;
    }))
