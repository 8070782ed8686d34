-- The layout of a volume at rest: whatever map or files a disk is known to have, they are in its own layout.
use Rattle.std.proofs.Common.{◌≡◌, ℕ, ⊎_elim, inl, sym, ap, subst, ◌∙◌, refl, arith}
use Rattle.blockdisk.specs.Common.{Contents, DiskState, LeavesOnly}
use Rattle.changeset.specs.Common.{IsShut, AtRest}
use Rattle.spec_image.specs.Common.{File, Files, layout_of, pack_of, SettledStandsOn, StandsOn, IsGateOpen, IsSettled}
use Rattle.spec_image.specs.Common.{Pack, DiskMap}
use Rattle.spec_image.proofs.Common.{layout_is, layouts_agree, settled_layout, settled_same}
use Rattle.volume.specs.Common.{KeepsHomes, CurrentMap, MatchesMap, RestsAt, StandsForOneOf}

-- a pack is a layout and a size
pack_same : (p q : Pack) → p.layout ≡ q.layout → p.blocks ≡ q.blocks → p ≡ q
pack_same p q layout blocks i = record { layout = layout i; blocks = blocks i }

-- Contents stand for files in one layout at most.
pub stands_in_one : (p q : Pack) (contents : Contents) (f g : Files File) → p.blocks ≡ q.blocks
    → StandsOn p contents f → StandsOn q contents g → p ≡ q
stands_in_one p q contents f g blocks x y =
    let settled : x.0 ≡ y.0 = settled_same p.blocks contents x.0 y.0 x.1
    (subst (λ (n : ℕ). IsSettled n contents y.0) (sym blocks) y.1) in
    pack_same p q (sym (settled_layout p x.0 f x.2) ∙ (λ i. layout_of (blocks i) (settled i))
    ∙ settled_layout q y.0 g y.2) blocks

-- Settled contents determine the pack in which they stand for files.
pub pack_here : (s : DiskState) (pack : Pack) (files : Files File) → pack.blocks ≡ s.size
    → SettledStandsOn pack s.contents files → pack_of s ≡ pack
pack_here s pack files size stands =
    pack_same (pack_of s) pack
    (ap (λ (n : ℕ). layout_of n s.contents) (sym size) ∙ settled_layout pack s.contents files stands) (sym size)

-- A disk that is at rest in a layout is in that layout.
pub pack_rests : (s : DiskState) (pack : Pack) (files : Files File) → pack.blocks ≡ s.size
    → AtRest s (λ c. SettledStandsOn pack c files) → pack_of s ≡ pack
pack_rests s pack files size rest = pack_here s pack files size (rest.all s.contents (λ n closed. refl))

pub rests_in : (s : DiskState) (pack : Pack) (files : Files File) → pack.blocks ≡ s.size
    → AtRest s (λ c. SettledStandsOn pack c files) → RestsAt s files
rests_in s pack files size rest = subst (λ (p : Pack). AtRest s (λ c. SettledStandsOn p c files))
    (sym (pack_rests s pack files size rest)) rest

-- The map of a disk at rest is in its layout.
pub pack_held : (s : DiskState) (k : CurrentMap) (m : DiskMap) → AtRest s (MatchesMap s.size k m)
    → m.layout ≡ (pack_of s).layout
pack_held s k m rest = sym (layout_is s.size s.contents _ (rest.all s.contents (λ n closed. refl)).stands.mapped.home)

-- While the home copies stay the layout does.
pub homes_layout : (s s' : DiskState) → s'.size ≡ s.size → KeepsHomes s.contents s'.contents
    → (pack_of s').layout ≡ (pack_of s).layout
homes_layout s s' size keeps = ap (λ (n : ℕ). layout_of n s'.contents) size
    ∙ layouts_agree s.size s'.contents s.contents (keeps 1 (omega arith)) (keeps 2 (omega arith))

-- With a closed gate contents stand for what they settle to.
pub settled_here : (pack : Pack) (s : DiskState) (files : Files File) → pack.blocks ≡ s.size → IsShut s
    → StandsOn pack s.contents files → SettledStandsOn pack s.contents files
settled_here pack s files size shut stands =
    subst (λ c. SettledStandsOn pack c files) (settled_same pack.blocks s.contents stands.0 s.contents stands.1
    (inl (
      λ opened. shut s.contents (λ n closed. refl) (subst (λ (n : ℕ). IsGateOpen n s.contents) size opened),
      λ n. refl,
    ))) stands.2

-- No event changes the layout: a disk that a stretch of calls leaves at rest has the pack that it had, if a crash
-- meanwhile left only what stands in that pack.
pub pack_kept : (d d' : DiskState) (f g h : Files File) → d'.size ≡ d.size
    → LeavesOnly d d' (StandsForOneOf (pack_of d) f g) → RestsAt d' h → pack_of d' ≡ pack_of d
pack_kept d d' f g h size leaves rests = ⊎_elim
    (λ old. pack_here d' (pack_of d) f (sym size) (settled_here (pack_of d) d' f (sym size) rests.shut old))
    (λ new. pack_here d' (pack_of d) g (sym size) (settled_here (pack_of d) d' g (sym size) rests.shut new))
    (leaves.now d'.contents (λ n closed. refl))
