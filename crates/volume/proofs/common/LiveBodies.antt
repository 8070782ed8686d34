-- The words of versions that are read or written stay if their blocks do.
use Rattle.std.proofs.Common.{◌≡◌, ℕ, ◌<◌, Some, sym, ap, ◌∙◌}
use Rattle.blockdisk.specs.Common.{Contents}
use Rattle.spec_image.specs.Common.{times}
use Rattle.spec_image.proofs.Common.{body_kept}
use Rattle.retrieval.specs.Common.{VersionState}
use Rattle.volume.specs.declared.live.LiveVersion.{LiveVersion}
use Rattle.volume.specs.declared.pending.PendingVersion.{PendingVersion}
use Rattle.volume.specs.Common.{MemoryMap, slot, pending_at, AreDated, HasSomeBody}

pub record HaveBodies (contents : Contents) (c : MemoryMap) : Type 0 where
  pub read : (key : ℕ) (v : LiveVersion) → slot c.live key ≡ Some v → 0 < v.readers → HasSomeBody contents v.version
  pub written : (key : ℕ) (p : PendingVersion) → pending_at c.pending key ≡ Some p → HasSomeBody contents p.version

pub body_stays : (old new : Contents) (v : VersionState) → HasSomeBody old v
    → ((n : ℕ) → 0 < times n v.blocks → new n ≡ old n) → HasSomeBody new v
body_stays old new v has same = (has.0, has.1, body_kept old new v.blocks has.0 has.2 same)

-- the same moments in another memory
pub dated_of : (layout : ℕ) (c c' : MemoryMap) → c'.pending ≡ c.pending → AreDated layout c → AreDated layout c'
dated_of layout c c' pending dated key p is = dated key p (ap (λ l. pending_at l key) (sym pending) ∙ is)

-- the same versions in another memory
pub bodies_of : (contents : Contents) (c c' : MemoryMap) → c'.live ≡ c.live → c'.pending ≡ c.pending
    → HaveBodies contents c → HaveBodies contents c'
bodies_of contents c c' live pending bodies = record {
  read = λ key v is. bodies.read key v (ap (λ l. slot l key) (sym live) ∙ is);
  written = λ key p is. bodies.written key p (ap (λ l. pending_at l key) (sym pending) ∙ is);
}
