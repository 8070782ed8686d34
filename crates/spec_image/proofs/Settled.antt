-- Contents settle in one way at most, and quiet writes change nothing of what they stand for.
use Rattle.std.proofs.Common.{◌≡◌, ℕ, suc, ◌+◌, ◌-◌, ◌<◌, ◌⊎◌, inl, inr, ⊎_elim, true, false, cond, eqb, List, []}
use Rattle.std.proofs.Common.{◌∷◌, ◌++◌, length, replicate, Some, refl, sym, ap, subst, ◌∙◌, arith}
use Rattle.blockdisk.specs.Common.{Contents}
use Rattle.spec_image.specs.declared.put.Put.{Put}
use Rattle.spec_image.specs.Files.{File, Files}
use Rattle.spec_image.specs.Regions.{space_start, log_start}
use Rattle.spec_image.specs.Log.{targets, log_header, AreImages, IsLog, with_puts, IsSettled}
use Rattle.spec_image.specs.Stands.{SettledStands, Stands}
use Rattle.spec_image.specs.Quiet.{IsFreeBlock, DifferInFree}
use Rattle.spec_image.proofs.Lists.{front_same}
use Rattle.spec_image.proofs.MapLaws.{some_same}
use Rattle.spec_image.proofs.DiskMaps.{quiet, stands_same}

puts_same : (contents : Contents) (at : ℕ) (ps qs : List Put) → targets ps ≡ targets qs → AreImages contents at ps
    → AreImages contents at qs → ps ≡ qs
puts_same contents at [] [] e s t = refl
puts_same contents at [] (q ∷ qs) e s t = cc
puts_same contents at (p ∷ ps) [] e s t = cc
puts_same contents at (p ∷ ps) (q ∷ qs) e s t =
    let a : p.block ≡ q.block = cc in
    let b : p.words ≡ q.words = some_same (sym s.0 ∙ t.0) in
    let tails : targets ps ≡ targets qs = cc in
    let rest : ps ≡ qs = puts_same contents (at + 1) ps qs tails s.1 t.1 in
    λ i. record { block = a i; words = b i } ∷ rest i

pub length-targets : (ps : List Put) → length (targets ps) ≡ length ps
length-targets [] = refl
length-targets (p ∷ ps) = ap suc (length-targets ps)

-- A good log has one list of images.
pub log_same : (size : ℕ) (contents : Contents) (ps qs : List Put) → IsLog size contents ps → IsLog size contents qs
    → ps ≡ qs
log_same size contents ps qs s t =
    let words : log_header ps ≡ log_header qs = some_same (sym s.header ∙ t.header) in
    let counts : length ps ≡ length qs = cc in
    let tails : targets ps ++ replicate (126 - length ps) 0 ≡ targets qs ++ replicate (126 - length qs) 0 = cc in
    puts_same contents log_start ps qs (front_same (targets ps) (targets qs) _ _ (length-targets ps ∙ counts
    ∙ sym (length-targets qs)) tails).0 s.images t.images

pub settled_same : (size : ℕ) (contents s t : Contents) → IsSettled size contents s → IsSettled size contents t → s ≡ t
settled_same size contents s t p q = λ i n. at n p q i
  where
    at : (n : ℕ) → IsSettled size contents s → IsSettled size contents t → s n ≡ t n
    at n (inl p) (inl q) = p.1 n ∙ sym (q.1 n)
    at n (inl p) (inr q) = absurd (p.0 q.0)
    at n (inr p) (inl q) = absurd (q.0 p.0)
    at n (inr p) (inr q) = p.3 n ∙ ap (λ ps. with_puts ps contents n) (log_same size contents p.1 q.1 p.2 q.2)
        ∙ sym (q.3 n)

-- Whatever the gate, contents stand for at most one Files.
pub one_meaning : (size : ℕ) (contents : Contents) (f g : Files File) → Stands size contents f → Stands size contents g
    → f ≡ g
one_meaning size contents f g s t =
    stands_same size t.0 f g
    (subst (λ settled. SettledStands size settled f) (settled_same size contents s.0 t.0 s.1 t.1) s.2) t.2

-- Quiet writes.

images_kept : (old new : Contents) (at : ℕ) (ps : List Put) → AreImages old at ps
    → ((n : ℕ) → n < at + length ps → new n ≡ old n) → AreImages new at ps
images_kept old new at [] s a = tt
images_kept old new at (p ∷ ps) s a = (
  a at (omega arith) ∙ s.0,
  images_kept old new (at + 1) ps s.1 (λ n h. a n (omega arith)),
)

pub log_kept : (size : ℕ) (old new : Contents) (ps : List Put) → IsLog size old ps
    → ((n : ℕ) → n < space_start size → new n ≡ old n) → IsLog size new ps
log_kept size old new ps log same = record {
  header = same 4 (omega arith) ∙ log.header;
  some = log.some;
  few = log.few;
  distinct = log.distinct;
  in_range = log.in_range;
  images = images_kept old new log_start ps log.images (λ n h. same n (let e = log.few in omega arith));
}

module _ (size : ℕ) (settled old new : Contents) (q : DifferInFree size settled old new) where
  low : (n : ℕ) → n < space_start size → new n ≡ old n
  low n h = ⊎_elim (λ e. e) (λ free. absurd (let k = free.in_space in omega arith)) (q n)

  over_puts : (ps : List Put) → DifferInFree size settled (with_puts ps old) (with_puts ps new)
  over_puts [] n = q n
  over_puts (p ∷ ps) n = elim (eqb n p.block) as (λ c. (cond c (Some p.words) (with_puts ps new n)
      ≡ cond c (Some p.words) (with_puts ps old n))
      ⊎ IsFreeBlock size settled n) [ true ↦ inl refl | false ↦ over_puts ps n ]

  -- what quiet writes make of the settled contents
  pub settled_quiet : IsSettled size old settled → (after : Contents) × IsSettled size new after
      × DifferInFree size settled settled after
  settled_quiet
      (inl p) = (
        new,
        inl ((λ is. p.0 (record { volume = is.volume; gate = sym (low 3 (omega arith)) ∙ is.gate }), λ n. refl)),
        λ n. ⊎_elim (λ e. inl (e ∙ sym (p.1 n))) inr (q n),
      )
  settled_quiet (inr p) = (
    with_puts p.1 new,
    inr (
      record { volume = p.0.volume; gate = low 3 (omega arith) ∙ p.0.gate },
      p.1,
      log_kept size old new p.1 p.2 low,
      λ n. refl,
    ),
    λ n. ⊎_elim (λ e. inl (e ∙ sym (p.3 n))) inr (over_puts p.1 n),
  )

-- Whatever the gate, writes to free blocks change nothing of what the contents stand for.
pub quiet_writes : (size : ℕ) (old new : Contents) (files : Files File) (s : Stands size old files)
    → DifferInFree size s.0 old new → Stands size new files
quiet_writes size old new files s q =
    let after = settled_quiet size s.0 old new q s.1 in
    (after.0, after.1, (s.2.0, quiet size s.0 after.0 after.2 s.2.0 s.2.1, s.2.2))
