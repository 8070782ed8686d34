-- A quota in layout 1 is a fault of the block that has it, and a block that is at fault in layout 2 is so in layout 1.
use Rattle.std.proofs.Common.{◌≡◌, ℕ, zero, suc, ◌+◌, ◌*◌, ◌-◌, ◌/◌, ◌<◌, List, [], ◌∷◌, map, length, get_or, take}
use Rattle.std.proofs.Common.{drop, Some, sym, ap, subst, ◌∙◌, arith, nat_cmp}
use Rattle.std.specs.Prelude.{slice_index_or, option_map}
use Rattle.std.specs.List.{AllByRecursion}
use Rattle.std.proofs.lemmas.List.{drop-drop, get_or-drop, get_or-take, length-drop, length-take, length-map}
use Rattle.std.proofs.lemmas.Option.{slice_get-map, slice_get_within, get_or_from_slice_get}
use Rattle.blockdisk.specs.Common.{Contents}
use Rattle.spec_image.specs.Common.{Node, directory_block, master_words, InSpace, IsBadBlock, malformed, next_outside}
use Rattle.spec_image.specs.Common.{entry_outside, short, empty_later, key_again, IsMasterEntryOf, layout_number}
use Rattle.spec_image.specs.Common.{LeadsAlong, times}
use Rattle.spec_image.specs.declared.layout.Layout.{Layout}
use Rattle.spec_image.proofs.Common.{block_same, master_apart, some_same}
use Rattle.directory.specs.Common.{ChainState, IsChain, nodes_of, viewed, IsBadChain}
use Rattle.directory.proofs.ChainPuts.{times_get}
use Rattle.directory.specs.declared.master.MasterEntry.{MasterEntry}
use Rattle.volume.specs.Common.{master_view, HasNoQuota, IsFirstQuota, IsFirstQuotaBlock}
use Rattle.volume.specs.declared.error.VolumeError.{VolumeError}
use Rattle.volume.specs.declared.error.VolumeError.TheVariants.{BadDirectory}
use Rattle.volume.proofs.common.LayoutLimits.{wide_entry}
use Rattle.spec_image.specs.Directories as words

-- Entries of the two layouts.

-- an entry without a quota is one of layout 1
plain_entry : (e : MasterEntry) → HasNoQuota e → IsMasterEntryOf 2 (master_view e) → IsMasterEntryOf 1 (master_view e)
plain_entry e none good =
    let word = good.word in
    let fits : good.quota < 262144 = good.quota_fits in
    record {
      ppn = good.ppn;
      protection = good.protection;
      quota = 0;
      protection_fits = good.protection_fits;
      quota_fits = omega arith;
      word = omega arith;
    }

pub plain_entries : (es : List MasterEntry) → AllByRecursion HasNoQuota es
    → AllByRecursion (IsMasterEntryOf 2) (map master_view es) → AllByRecursion (IsMasterEntryOf 1) (map master_view es)
plain_entries [] none all = tt
plain_entries (e ∷ es) none all = (plain_entry e none.0 all.0, plain_entries es none.1 all.1)

-- one with a quota isn't an entry of layout 1
quota_misfits : (e : MasterEntry) → 0 < e.quota → IsMasterEntryOf 1 (master_view e) → ⊥
quota_misfits e some good =
    let word = good.word in
    let fits : good.quota < 1 = good.quota_fits in
    let small = e.quota_fits in
    omega arith

all_wider : (layout : Layout) (es : List words.SpecMasterEntry)
    → AllByRecursion (IsMasterEntryOf (layout_number layout)) es
    → AllByRecursion (IsMasterEntryOf 2) es
all_wider layout [] all = tt
all_wider layout (e ∷ es) all = (wide_entry (layout_number layout) e all.0, all_wider layout es all.1)

-- A block with a fault if entries may have quotas has a fault in each layout.
pub fault_carries : (layout : Layout) (size : ℕ) (contents : Contents) (before : List (Node words.SpecMasterEntry))
    (n : ℕ)
    → IsBadBlock nat_cmp master_words (IsMasterEntryOf 2) (λ e. e.1.1) size contents before n
    → IsBadBlock nat_cmp master_words (IsMasterEntryOf (layout_number layout)) (λ e. e.1.1) size contents before n
fault_carries layout size contents before n (malformed none) = malformed
    (λ next es is few all. none next es is few (all_wider layout es all))
fault_carries layout size contents before n (next_outside next es is some out) = next_outside next es is some out
fault_carries layout size contents before n (entry_outside next es is out) = entry_outside next es is out
fault_carries layout size contents before n (short next es is some less) = short next es is some less
fault_carries layout size contents before n (empty_later next is some) = empty_later next is some
fault_carries layout size contents before n (key_again next es is once again) = key_again next es is once again

pub chain_carries : (layout : Layout) (size : ℕ) (contents : Contents) (first n : ℕ)
    → IsBadChain nat_cmp master_words (IsMasterEntryOf 2) (λ e. e.1.1) size contents first n
    → IsBadChain nat_cmp master_words (IsMasterEntryOf (layout_number layout)) (λ e. e.1.1) size contents first n
chain_carries layout size contents first n met = record {
  before = met.before;
  walk = met.walk;
  inside = met.inside;
  bad = fault_carries layout size contents met.before n met.bad;
}

-- A walk to one of the blocks.
module _ {E : Type 0} (words_of : E → List ℕ) (contents : Contents) where
  walk_to : (ns : List ℕ) (es : List E) (first k d : ℕ) → k < length ns
      → LeadsAlong words_of contents first (nodes_of ns es) 0
      → (before : List (Node E)) × LeadsAlong words_of contents first before (get_or ns k d)
      × (next : ℕ) × (contents (get_or ns k d) ≡ Some (directory_block words_of next (take 42 (drop (42 * k) es))))
  walk_to [] es first k d below walk = absurd (omega arith)
  walk_to (n ∷ ns) es first zero d below walk =
      let at : 42 * zero ≡ 0 = omega arith in (
        [],
        sym walk.0,
        walk.2,
        ap contents walk.0 ∙ walk.3
            ∙ ap (λ k. Some (directory_block words_of walk.2 (take 42 (drop k es)))) (sym at),
      )
  walk_to (n ∷ ns) es first (suc k) d below walk =
      let r = walk_to ns (drop 42 es) walk.2 k d (omega arith) walk.4 in
      let at : 42 + 42 * k ≡ 42 * suc k = omega arith in (
        (n, take 42 es) ∷ r.0,
        (walk.0, walk.1, walk.2, walk.3, r.1),
        r.2,
        r.3 ∙ ap (λ fs. Some (directory_block words_of r.2 (take 42 fs)))
            (drop-drop (42 * k) 42 es ∙ ap (λ j. drop j es) at),
      )

all_at : {E : Type 0} (P : E → Type 0) (es : List E) (i : ℕ) (d : E) → i < length es → AllByRecursion P es
    → P (get_or es i d)
all_at P [] i d below all = absurd (omega arith)
all_at P (e ∷ es) zero d below all = all.0
all_at P (e ∷ es) (suc i) d below all = all_at P es i d (omega arith) all.1

-- The entry at place i is among those of block i / 42.
in_its_block : {E : Type 0} (P : E → Type 0) (es : List E) (i : ℕ) (d : E) → i < length es
    → AllByRecursion P (take 42 (drop (42 * (i / 42)) es)) → P (get_or es i d)
in_its_block P es i d below all =
    let j = i - 42 * (i / 42) in
    let behind = drop (42 * (i / 42)) es in
    let left = length-drop (42 * (i / 42)) es in
    let many = length-take 42 behind in
    let place : 42 * (i / 42) + j ≡ i = omega arith in
    subst P (get_or-take 42 behind j d (omega arith) ∙ get_or-drop (42 * (i / 42)) es j d
    ∙ ap (λ k. get_or es k d) place) (all_at P (take 42 behind) j d (omega arith) all)

-- The block of a chain that has the first entry with a quota.

pub quota_block : (chain : ChainState MasterEntry) (es : List MasterEntry) (blocks : List ℕ) (i n : ℕ)
    → es ≡ chain.entries → blocks ≡ chain.blocks → IsFirstQuota es i → slice_index_or blocks (i / 42) 0 ≡ n
    → IsFirstQuotaBlock chain n
quota_block chain es blocks i n entries_are blocks_are first is = record {
  place = i;
  first = subst (λ l. IsFirstQuota l i) entries_are first;
  block = sym is ∙ ap (λ (l : List ℕ). slice_index_or l (i / 42) 0) blocks_are;
}

module _ (chain : ChainState MasterEntry) (n : ℕ)
    (sound : IsChain nat_cmp (IsMasterEntryOf 2) (viewed master_view chain)) (q : IsFirstQuotaBlock chain n) where
  within : q.place < length (map master_view chain.entries)
  within =
      let below = slice_get_within chain.entries q.place q.first.entry q.first.is in
      let long = length-map chain.entries master_view in
      omega arith

  counted : q.place / 42 < length chain.blocks
  counted = let many = sound.counted in let below = within in omega arith

  -- it is one of the chain's
  pub quota_among : 0 < times n chain.blocks
  quota_among = subst (λ (k : ℕ). 0 < times k chain.blocks) (sym q.block)
      (times_get chain.blocks (q.place / 42) counted)

  -- and no block of layout 1
  pub quota_bad : (size : ℕ) (contents : Contents) (first : ℕ)
      → LeadsAlong master_words contents first (nodes_of chain.blocks (map master_view chain.entries)) 0
      → InSpace size n → IsBadChain nat_cmp master_words (IsMasterEntryOf 1) (λ e. e.1.1) size contents first n
  quota_bad size contents first walk inside =
      let i = q.place in
      let e = q.first.entry in
      let es = map master_view chain.entries in
      let r = walk_to master_words contents chain.blocks es first (i / 42) 0 counted walk in
      let is : get_or es i (master_view e) ≡ master_view e = get_or_from_slice_get es i (master_view e) (master_view e)
      (slice_get-map master_view chain.entries i ∙ ap (option_map master_view) q.first.is) in
      record {
        before = r.0;
        walk = subst (λ (k : ℕ). LeadsAlong master_words contents first r.0 k) (sym q.block) r.1;
        inside = inside;
        bad = malformed (λ next others spelled few all.
            let same = block_same master_words master_apart next r.2 others (take 42 (drop (42 * (i / 42)) es))
            (some_same (sym spelled ∙ ap contents q.block ∙ r.3)) in
            quota_misfits e q.first.some (subst (IsMasterEntryOf 1) is
            (in_its_block (IsMasterEntryOf 1) es i (master_view e) within
            (subst (AllByRecursion (IsMasterEntryOf 1)) same.1 all))));
      }

-- what holds of the block that is named holds of the refusal
pub quota_refused : (P : VolumeError → Type 0) (error : VolumeError) → (n : ℕ) × (error ≡ BadDirectory n)
    → ((n : ℕ) → error ≡ BadDirectory n → P (BadDirectory n)) → P error
quota_refused P error (n, is) each = subst P (sym is) (each n is)
