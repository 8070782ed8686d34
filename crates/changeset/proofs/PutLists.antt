-- Lists of puts as loops go over them: the first i of them, and one more.
use Rattle.std.proofs.Common.{◌≡◌, ◌⊎◌, inl, inr, ⊎_elim, ℕ, zero, suc, ◌+◌, ◌-◌, ◌<◌, ◌≤◌, List, [], ◌∷◌, ◌++◌}
use Rattle.std.proofs.Common.{length, get_or, take, replicate, slice_set, Some, refl, sym, ◌∙◌, ap, subst, arith}
use Rattle.std.proofs.Common.{append_assoc}
use Rattle.std.specs.Prelude.{slice_get}
use Rattle.std.specs.List.{AllByRecursion}
use Rattle.std.proofs.lemmas.Bool.{cases_eq}
use Rattle.std.proofs.lemmas.List.{take_more, map-append, length-take-le}
use Rattle.std.proofs.Math.Seq.{set-append_seam}
use Rattle.blockdisk.specs.Common.{Contents}
use Rattle.spec_image.specs.declared.put.Put.{Put}
use Rattle.spec_image.specs.Common.{times, targets, AreImages, with_puts, log_word}
use Rattle.spec_image.proofs.Common.{times-append, length-targets}
use Rattle.changeset.specs.Common.{IsPutIn, AreDistinct, replaced, times_head, times_tail, with_puts_here}
use Rattle.changeset.specs.Common.{with_puts_later, replaced_here, replaced_later}

-- what holds for each target holds for this one
pub all_at : (P : ℕ → Type 0) (puts : List Put) (i : ℕ) (put : Put) → i < length puts → put ≡ get_or puts i put
    → AllByRecursion P (targets puts) → P put.block
all_at P [] i put below is all = absurd (omega arith)
all_at P (first ∷ puts) zero put below is all = subst (λ (p : Put). P p.block) (sym is) all.0
all_at P (first ∷ puts) (suc i) put below is all = all_at P puts i put (omega arith) is all.1

pub all_in : (P : ℕ → Type 0) (puts : List Put) (n : ℕ) → AllByRecursion P (targets puts) → IsPutIn puts n → P n
all_in P [] n all there = absurd (omega arith)
all_in P (put ∷ puts) n all there = ⊎_elim
    (λ is. subst P (sym is) all.0)
    (λ other. all_in P puts n all.1 (let e = times_tail n put.block (targets puts) other in omega arith))
    (cases_eq n put.block)

module _ (puts : List Put) (i : ℕ) (put : Put) (below : i < length puts) (is : put ≡ get_or puts i put) where
  pub one_more_put : take (i + 1) puts ≡ take i puts ++ put ∷ []
  one_more_put = take_more puts i put below ∙ ap (λ (p : Put). take i puts ++ p ∷ []) (sym is)

  pub one_more_target : targets (take (i + 1) puts) ≡ targets (take i puts) ++ put.block ∷ []
  one_more_target = ap targets one_more_put ∙ map-append (λ (p : Put). p.block) (take i puts) (put ∷ [])

  pub times_more : (n : ℕ) → times n (targets (take (i + 1) puts)) ≡ times n (targets (take i puts))
      + times n (put.block ∷ [])
  times_more n = ap (times n) one_more_target ∙ times-append n (targets (take i puts)) (put.block ∷ [])

  -- a block for which neither the first ones nor this one are
  pub none_more : (n : ℕ) → (put.block ≡ n → ⊥) → times n (targets (take i puts)) ≡ 0
      → times n (targets (take (i + 1) puts)) ≡ 0
  none_more n other none = times_more n ∙ let e = times_tail n put.block [] (λ same. other (sym same)) in omega arith

times_take : (n i : ℕ) (puts : List Put) → times n (targets (take i puts)) ≤ times n (targets puts)
times_take n zero puts = omega arith
times_take n (suc i) [] = omega arith
times_take n (suc i) (put ∷ puts) = omega (arith, times_take n i puts)

pub set_there : (puts : List Put) (i : ℕ) (new : Put) → slice_get (targets puts) i ≡ Some new.block
    → times new.block (targets (take i puts)) ≡ 0 → slice_set puts i new ≡ replaced new puts
set_there [] i new there first = cc
set_there (put ∷ puts) zero new there first = let is : put.block ≡ new.block = cc in sym (replaced_here new put puts is)
set_there (put ∷ puts) (suc i) new there first = by_case (cases_eq put.block new.block) (set_there puts i new there)
  where
    by_case : (put.block ≡ new.block) ⊎ (put.block ≡ new.block → ⊥) → (times new.block (targets (take i puts)) ≡ 0
        → slice_set puts i new ≡ replaced new puts) → put ∷ slice_set puts i new ≡ replaced new (put ∷ puts)
    by_case (inl is) rest = absurd (let e = times_head new.block put.block (targets (take i puts)) (sym is) in
        omega arith)
    by_case (inr other) rest =
        let e = times_tail new.block put.block (targets (take i puts)) (λ same. other (sym same)) in
        ap (λ (l : List Put). put ∷ l) (rest (sym e ∙ first)) ∙ sym (replaced_later new put puts other)

-- Puts that are made: a block that has none stays, and one after the others counts if they leave its block.

pub with_puts_other : (puts : List Put) (c : Contents) (n : ℕ) → times n (targets puts) ≡ 0 → with_puts puts c n ≡ c n
with_puts_other [] c n none = refl
with_puts_other (put ∷ puts) c n none = ⊎_elim
    (λ is. absurd (let e = times_head n put.block (targets puts) is in omega arith))
    (λ other. with_puts_later put puts c n other
    ∙ with_puts_other puts c n (let e = times_tail n put.block (targets puts) other in sym e ∙ none))
    (cases_eq n put.block)

-- what was at the targets doesn't count
pub with_puts_same : (puts : List Put) (c d : Contents) (n : ℕ) → (times n (targets puts) ≡ 0 → c n ≡ d n)
    → with_puts puts c n ≡ with_puts puts d n
with_puts_same [] c d n same = same refl
with_puts_same (put ∷ puts) c d n same = ⊎_elim
    (λ is. with_puts_here put puts c n is ∙ sym (with_puts_here put puts d n is))
    (λ other.
    with_puts_later put puts c n other
    ∙ with_puts_same puts c d n (λ none. same (times_tail n put.block (targets puts) other ∙ none))
    ∙ sym (with_puts_later put puts d n other)) (cases_eq n put.block)

with_puts-append : (first second : List Put) (c : Contents) (n : ℕ)
    → with_puts (first ++ second) c n ≡ with_puts first (with_puts second c) n
with_puts-append [] second c n = refl
with_puts-append (put ∷ first) second c n = ⊎_elim
    (λ is. with_puts_here put (first ++ second) c n is ∙ sym (with_puts_here put first (with_puts second c) n is))
    (λ other. with_puts_later put (first ++ second) c n other ∙ with_puts-append first second c n
    ∙ sym (with_puts_later put first (with_puts second c) n other)) (cases_eq n put.block)

pub images_same : (c d : Contents) (at : ℕ) (puts : List Put) → AreImages c at puts
    → ((n : ℕ) → at ≤ n → n < at + length puts → d n ≡ c n) → AreImages d at puts
images_same c d at [] images same = tt
images_same c d at (put ∷ puts) images same = (
  same at (omega arith) (omega arith) ∙ images.0,
  images_same c d (at + 1) puts images.1 (λ n low high. same n (omega arith) (omega arith)),
)

pub images_behind : (c : Contents) (at n : ℕ) (puts : List Put) (put : Put) → n ≡ at + length puts → AreImages c at puts
    → c n ≡ Some put.words → AreImages c at (puts ++ put ∷ [])
images_behind c at n [] put is images last = (ap c (sym (let e : n ≡ at = omega arith in e)) ∙ last, tt)
images_behind c at n (first ∷ puts) put is images last =
    (images.0, images_behind c (at + 1) n puts put (omega arith) images.1 last)

-- One step of each loop.
module _ (puts : List Put) (i : ℕ) (put : Put) (below : i < length puts) (is : put ≡ get_or puts i put) where
  pub fresh_at : AreDistinct puts → times put.block (targets (take i puts)) ≡ 0
  fresh_at distinct =
      let head = times_head put.block put.block [] refl in
      let sum = times_more puts i put below is put.block in
      let most = times_take put.block (i + 1) puts in
      omega (arith, distinct put.block)

  -- one more put after those that are made
  pub placed_more : AreDistinct puts → (c d e : Contents) → ((n : ℕ) → d n ≡ with_puts (take i puts) c n)
      → ((n : ℕ) → (n ≡ put.block → ⊥) → e n ≡ d n) → e put.block ≡ Some put.words → (n : ℕ)
      → e n ≡ with_puts (take (i + 1) puts) c n
  placed_more distinct c d e before others here n = by_case (cases_eq n put.block)
    where
      whole : with_puts (take (i + 1) puts) c n ≡ with_puts (take i puts) (with_puts (put ∷ []) c) n
      whole = ap (λ (l : List Put). with_puts l c n) (one_more_put puts i put below is)
          ∙ with_puts-append (take i puts) (put ∷ []) c n

      by_case : (n ≡ put.block) ⊎ (n ≡ put.block → ⊥) → e n ≡ with_puts (take (i + 1) puts) c n
      by_case (inl same) = ap e same ∙ here ∙ sym (with_puts_here put [] c n same)
          ∙ sym (with_puts_other (take i puts) (with_puts (put ∷ []) c) n
          (ap (λ (m : ℕ). times m (targets (take i puts))) same ∙ fresh_at distinct)) ∙ sym whole
      by_case (inr other) = others n other ∙ before n
          ∙ with_puts_same (take i puts) c (with_puts (put ∷ []) c) n (λ none. sym (with_puts_later put [] c n other))
          ∙ sym whole

  pub put_in : IsPutIn puts put.block
  put_in =
      let head = times_head put.block put.block [] refl in
      let sum = times_more puts i put below is put.block in
      let most = times_take put.block (i + 1) puts in
      omega arith

  pub images_more : (c d : Contents) (at n : ℕ) → n ≡ at + i → AreImages c at (take i puts)
      → ((m : ℕ) → (m ≡ n → ⊥) → d m ≡ c m) → d n ≡ Some put.words → AreImages d at (take (i + 1) puts)
  images_more c d at n there images others here =
      let long : length (take i puts) ≡ i = length-take-le i puts (omega arith) in
      subst (AreImages d at) (sym (one_more_put puts i put below is))
      (images_behind d at n (take i puts) put (omega arith)
      (images_same c d at (take i puts) images (λ m low high. others m (λ e. omega arith))) here)

  pub header_more : (count : ℕ) → length puts ≤ 126
      → slice_set (log_word ∷ count ∷ (targets (take i puts) ++ replicate (126 - i) 0)) (i + 2) put.block
      ≡ log_word ∷ count ∷ (targets (take (i + 1) puts) ++ replicate (126 - (i + 1)) 0)
  header_more count few =
      let long : length (targets (take i puts)) ≡ i = length-targets (take i puts)
      ∙ length-take-le i puts (omega arith) in
      let place : i + 2 ≡ suc (suc (length (targets (take i puts)))) = omega arith in
      let room : 126 - i ≡ suc (126 - (i + 1)) = omega arith in
      ap (λ (k : ℕ). slice_set (log_word ∷ count ∷ (targets (take i puts) ++ replicate k 0)) (i + 2) put.block) room
      ∙ ap (λ (k : ℕ). slice_set (log_word ∷ count ∷ (targets (take i puts) ++ replicate (suc (126 - (i + 1))) 0))
      k put.block) place
      ∙ ap (λ (l : List ℕ). log_word ∷ count ∷ l)
      (set-append_seam (targets (take i puts)) 0 (replicate (126 - (i + 1)) 0) put.block
      ∙ sym (append_assoc (targets (take i puts)) (put.block ∷ []) (replicate (126 - (i + 1)) 0))
      ∙ ap (λ (l : List ℕ). l ++ replicate (126 - (i + 1)) 0) (sym (one_more_target puts i put below is)))
