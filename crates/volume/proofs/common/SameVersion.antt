-- A version is the same except for what its prime block says, and the others stay.
use Rattle.std.proofs.Common.{◌≡◌, ℕ, ⊎_elim, true, Option, Some, None, refl, sym, ap, subst, ◌∙◌, arith}
use Rattle.std.proofs.lemmas.Bool.{cases_eq}
use Rattle.words36.specs.declared.names.FileName.{FileName}
use Rattle.blockdisk.specs.Common.{Contents}
use Rattle.spec_image.specs.Common.{total}
use Rattle.spec_image.proofs.Common.{some_same}
use Rattle.alloctab.specs.Common.{holds}
use Rattle.retrieval.specs.declared.prime.Prime.{Prime}
use Rattle.volume.specs.Common.{prime_in, MemoryMap, slot, pending_at, IsCurrentAt, HasSomeBody}
use Rattle.volume.specs.declared.live.LiveVersion.{LiveVersion}
use Rattle.volume.proofs.common.LiveBodies.{HaveBodies}
use Rattle.volume.proofs.common.LiveTotals.{total_updated}

module _ (c c' : MemoryMap) (key : ℕ) (v : LiveVersion) (prime : Prime) (there : slot c.live key ≡ Some v)
    (here : slot c'.live key ≡ Some (record v { prime = prime }))
    (others : (k : ℕ) → (k ≡ key → ⊥) → slot c'.live k ≡ slot c.live k) where
  pub version_held : (k : ℕ) (u : LiveVersion) → slot c.live k ≡ Some u
      → (p : Prime) × (slot c'.live k ≡ Some (record u { prime = p }))
  version_held k u at = ⊎_elim
      (λ (is_key : k ≡ key).
      let of : v ≡ u = some_same (sym there ∙ sym (ap (slot c.live) is_key) ∙ at) in (
        prime,
        ap (slot c'.live) is_key ∙ here ∙ ap (λ (x : LiveVersion). Some (record x { prime = prime })) of,
      ))
      (λ other. (u.prime, others k other ∙ at)) (cases_eq k key)

  pub versions_have : (d : Contents) → c'.pending ≡ c.pending → HaveBodies d c → HaveBodies d c'
  versions_have d pending had = record {
    read = λ k u at some. ⊎_elim
        (λ (is_key : k ≡ key).
        let of : record v { prime = prime } ≡ u = some_same (sym here ∙ sym (ap (slot c'.live) is_key) ∙ at) in
        let reads = ap (λ (x : LiveVersion). x.readers) of in
        subst (λ (x : LiveVersion). HasSomeBody d x.version) of (had.read key v there (omega arith)))
        (λ other. had.read k u (sym (others k other) ∙ at) some)
        (cases_eq k key);
    written = λ k q at. had.written k q (ap (λ l. pending_at l k) (sym pending) ∙ at);
  }

  pub version_total : (f : Option LiveVersion → ℕ) → f None ≡ 0 → f (Some (record v { prime = prime })) ≡ f (Some v)
      → total f c'.live ≡ total f c.live
  version_total f none same =
      let all = total_updated f none c.live c'.live key (Some (record v { prime = prime })) here others in
      let before = ap f there in
      omega arith

  module _ (current : v.is_current ≡ true) where
    -- no prime block of a current version is held
    pub version_primes : ((k : ℕ) (u : LiveVersion) → slot c.live k ≡ Some u → u.is_current ≡ true
        → holds c.known.table u.at ≡ 0) → (k : ℕ) (u : LiveVersion) → slot c'.live k ≡ Some u → u.is_current ≡ true
        → holds c.known.table u.at ≡ 0
    version_primes primes k u at is_current = ⊎_elim
        (λ (same : k ≡ key).
        let of : record v { prime = prime } ≡ u = some_same (sym here ∙ sym (ap (slot c'.live) same) ∙ at) in
        ap (λ (x : LiveVersion). holds c.known.table x.at) (sym of) ∙ primes key v there current)
        (λ other. primes k u (sym (others k other) ∙ at) is_current) (cases_eq k key)

    -- a place that keeps its prime block has the same blocks
    pub version_stays : (ppn : ℕ) (name : FileName) (u : LiveVersion) → IsCurrentAt c ppn name u
        → prime_in c'.known.master.entries c'.known.directories ppn name ≡ Some u.at
        → (w : LiveVersion) × IsCurrentAt c' ppn name w × (w.version.blocks ≡ u.version.blocks)
    version_stays ppn name u is at = ⊎_elim
        (λ (same : is.key ≡ key).
        let both : u ≡ v = some_same (sym is.there ∙ ap (slot c.live) same ∙ there) in (
          record v { prime = prime },
          record {
            key = key;
            there = here;
            current = current;
            at = at ∙ ap (λ (x : LiveVersion). Some x.at) both;
          },
          ap (λ (x : LiveVersion). x.version.blocks) (sym both),
        ))
        (λ other. (
          u,
          record { key = is.key; there = others is.key other ∙ is.there; current = is.current; at = at },
          refl,
        ))
        (cases_eq is.key key)
