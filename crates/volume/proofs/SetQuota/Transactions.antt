-- A directory gets another quota: this is one change of the volume.
use Rattle.std.proofs.Common.{◌≡◌, ℕ, ◌<◌, List, refl, sym, ap, subst, arith}
use Rattle.spec_image.specs.declared.put.Put.{Put}
use Rattle.spec_image.specs.Common.{files_limited, quota_limit}
use Rattle.volume.specs.Common.{LimitsDirectory, MemoryMap, IsWholeMemory}
use Rattle.volume.proofs.common.Edits.{Nowhere, Anyhow, IsEdit}
use Rattle.volume.proofs.common.LiveBodies.{bodies_of, dated_of}
use Rattle.volume.proofs.common.ChainPuts.{both_in_range, both_few, low_not_put, space_not_put}
use Rattle.volume.proofs.SetQuota.Memory.{limited_memory, puts_both}
use Rattle.volume.proofs.SetQuota.Law.{map_limited, limiting_leads, files_next}
use Rattle.spec_image.proofs.Common.{quota_bound}

module _ {size : ℕ} {c c' : MemoryMap} {ppn quota : ℕ} {puts : List Put} (whole : IsWholeMemory size c)
    (is : LimitsDirectory c c' ppn quota puts) where
  live : c'.live ≡ c.live
  live = ap (λ (x : MemoryMap). x.live) is.limited.map

  pending : c'.pending ≡ c.pending
  pending = ap (λ (x : MemoryMap). x.pending) is.limited.map

  -- the layout has to have the quota
  pub limited_edit : (layout : ℕ) → quota < quota_limit layout
      → IsEdit size layout c c' Nowhere Anyhow puts (λ f. files_limited f ppn quota)
  limited_edit layout fits = record {
    whole = limited_memory size c c' ppn quota whole is.limited (quota_bound layout quota fits);
    bodies = λ d. bodies_of d c c' live pending;
    dated = λ n. dated_of n c c' pending;
    quiet = λ n none. absurd none;
    in_range = both_in_range (puts_both size c c' ppn quota puts whole is);
    few = both_few (puts_both size c c' ppn quota puts whole is);
    low = λ n low. low_not_put (puts_both size c c' ppn quota puts whole is) n (omega arith);
    spares = λ n kept. space_not_put (puts_both size c c' ppn quota puts whole is) n kept.from
        (let apart = kept.apart in omega arith);
    leads = λ m d same held ready.
        let in_map = subst (λ (l : ℕ). quota < quota_limit l) (sym same) fits in (
          map_limited size c c' m ppn quota puts whole is in_map d held,
          limiting_leads size c c' m ppn quota puts whole is in_map d held,
          files_next size c c' m ppn quota puts whole is in_map d held,
          refl,
        );
  }
