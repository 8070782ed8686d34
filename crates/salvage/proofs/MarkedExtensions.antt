-- Extensions that are walked from one to the next, and marked meanwhile.
use Rattle.std.proofs.Common.{◌≡◌, ◌⊎◌, inl, inr, ⊎_elim, ℕ, ◌<◌, Bool, true, false, List, length, slice_set, refl, sym}
use Rattle.std.proofs.Common.{ap, subst, ◌∙◌, arith}
use Rattle.std.proofs.lemmas.List.{get_or-set_same}
use Rattle.std.proofs.Math.ListN.{length-set}
use Rattle.blockdisk.specs.Common.{Contents}
use Rattle.spec_image.specs.Common.{InSpace}
use Rattle.alloctab.specs.Common.{flag_at}
use Rattle.alloctab.proofs.SpaceLaws.{in_space_some}
use Rattle.salvage.specs.Common.{IsAfter, IsExtension, IsExtensionLink, IsOwnedAgain, IsPrimeLink}
use Rattle.salvage.specs.Extensions.{later, named, of_extension, of_prime}
use Rattle.salvage.proofs.WalkedChains.{marked_still, marked_then}

-- The first step of a walk.
pub record IsStep (size : ℕ) (contents : Contents) (b n : ℕ) : Type 0 where
  pub next : ℕ
  pub link : IsExtensionLink contents b next
  pub inside : InSpace size next
  pub rest : (n ≡ next) ⊎ IsAfter size contents next n

after_first : (size : ℕ) (contents : Contents) (b n : ℕ) → IsAfter size contents b n → IsStep size contents b n
after_first size contents b n (named k link inside) =
    record { next = n; link = link; inside = inside; rest = inl refl }
after_first size contents b n (later m k before link inside) =
    let r = after_first size contents b m before in
    record {
      next = r.next;
      link = r.link;
      inside = r.inside;
      rest = inr (⊎_elim
          (λ (same : m ≡ r.next). named n (subst (λ (k : ℕ). IsExtensionLink contents k n) same link) inside)
          (λ more. later m n more link inside) r.rest);
    }

module _ (size layout : ℕ) (contents : Contents) (prime first : ℕ)
    (none : (m : ℕ) → IsPrimeLink layout contents prime m → InSpace size m → m ≡ first) where
  -- Each extension is the first one or comes after it.
  first_or_after : (n : ℕ) → IsExtension size layout contents prime n → (n ≡ first) ⊎ IsAfter size contents first n
  first_or_after n (of_prime k link inside) = inl (none n link inside)
  first_or_after n (of_extension m k before link inside) = inr (⊎_elim
      (λ (same : m ≡ first). named n (subst (λ (k : ℕ). IsExtensionLink contents k n) same link) inside)
      (λ more. later m n more link inside) (first_or_after m before))

  -- If there is one, the prime block names one.
  first_there : (n : ℕ) → IsExtension size layout contents prime n → 0 < first
  first_there n (of_prime k link inside) = subst (λ (k : ℕ). 0 < k) (none n link inside) (in_space_some size n inside)
  first_there n (of_extension m k before link inside) = first_there m before

-- What was marked so far; the block `next` follows, or it is 0.
pub record IsExtending (size layout : ℕ) (honest : Type 0) (contents : Contents) (prime : ℕ) (old marks : List Bool)
    (next : ℕ) : Type 0 where
  pub long : length marks ≡ length old
  pub stays : (n : ℕ) → flag_at old n ≡ true → flag_at marks n ≡ true
  pub next_inside : 0 < next → InSpace size next
  pub walk : honest → 0 < next → IsExtension size layout contents prime next
  pub only : honest → (n : ℕ) → flag_at marks n ≡ true
      → (flag_at old n ≡ true) ⊎ IsExtension size layout contents prime n
  pub past : honest → 0 < next → (n : ℕ) → flag_at marks n ≡ true
      → (flag_at old n ≡ true) ⊎ IsAfter size contents n next
  pub passed : honest → (n : ℕ) → IsExtension size layout contents prime n
      → ((flag_at marks n ≡ true) × (flag_at old n ≡ true → ⊥))
      ⊎ ((0 < next) × ((n ≡ next) ⊎ IsAfter size contents next n))

module _ (size layout : ℕ) (contents : Contents) (prime : ℕ) (old : List Bool) where
  pub extending_starts : (honest : Type 0) (first : ℕ) → (0 < first → InSpace size first)
      → (honest → 0 < first → IsPrimeLink layout contents prime first × InSpace size first)
      → (honest → (m : ℕ) → IsPrimeLink layout contents prime m → InSpace size m → m ≡ first)
      → IsExtending size layout honest contents prime old old first
  extending_starts honest first inside link none = record {
    long = refl;
    stays = λ n is. is;
    next_inside = inside;
    walk = λ h some. let p = link h some in of_prime first p.0 p.1;
    only = λ h n is. inl is;
    past = λ h some n is. inl is;
    passed = λ h n there. inr (
      first_there size layout contents prime first (none h) n there,
      first_or_after size layout contents prime first (none h) n there,
    );
  }

  module _ (honest later_on : Type 0) (was : later_on → honest) (marks : List Bool) (b : ℕ)
      (l : IsExtending size layout honest contents prime old marks b) (some : 0 < b)
      (inside : b < length marks) (free : flag_at marks b ≡ false) (next : ℕ)
      (link : later_on → 0 < next → IsExtensionLink contents b next × InSpace size next)
      (none : later_on → (m : ℕ) → IsExtensionLink contents b m → InSpace size m → m ≡ next) where
    past_more : later_on → 0 < next → (n : ℕ) → flag_at (slice_set marks b true) n ≡ true
        → (flag_at old n ≡ true) ⊎ IsAfter size contents n next
    past_more h more n is =
        let p = link h more in
        ⊎_elim
        (λ before. ⊎_elim (λ yes. inl yes) (λ after. inr (later b next after p.0 p.1)) (l.past (was h) some n before))
        (λ (same : n ≡ b). inr (subst (λ (k : ℕ). IsAfter size contents k next) (sym same) (named next p.0 p.1)))
        (marked_then marks b n is)

    passed_more : later_on → (n : ℕ) → IsExtension size layout contents prime n
        → ((flag_at (slice_set marks b true) n ≡ true) × (flag_at old n ≡ true → ⊥))
        ⊎ ((0 < next) × ((n ≡ next) ⊎ IsAfter size contents next n))
    passed_more h n there = ⊎_elim (λ clear. inl (marked_still marks b n inside clear.0, clear.1))
        (λ rest. ⊎_elim
        (λ (same : n ≡ b). inl (
          ap (flag_at (slice_set marks b true)) same ∙ get_or-set_same marks b true false inside,
          λ (is : flag_at old n ≡ true).
              let set = l.stays b (ap (flag_at old) (sym same) ∙ is) in
              let differ : true ≡ false = sym set ∙ free in
              cc,
        ))
        (λ (after : IsAfter size contents b n).
        let step = after_first size contents b n after in
        let same = none h step.next step.link step.inside in
        inr (
          subst (λ (k : ℕ). 0 < k) same (in_space_some size step.next step.inside),
          subst (λ (k : ℕ). (n ≡ k) ⊎ IsAfter size contents k n) same step.rest,
        ))
        rest.1)
        (l.passed (was h) n there)

    -- block b is marked, and the next one follows
    pub extending_more : (0 < next → InSpace size next)
        → IsExtending size layout later_on contents prime old (slice_set marks b true) next
    extending_more next_inside = record {
      long = length-set marks b true ∙ l.long;
      stays = λ n is. marked_still marks b n inside (l.stays n is);
      next_inside = next_inside;
      walk = λ h more. let p = link h more in of_extension b next (l.walk (was h) some) p.0 p.1;
      only = λ h n is. ⊎_elim (λ before. l.only (was h) n before)
          (λ same. inr (subst (IsExtension size layout contents prime) (sym same) (l.walk (was h) some)))
          (marked_then marks b n is);
      past = past_more;
      passed = passed_more;
    }

  -- with what a call says of the disk as it found it
  pub extending_on : (honest later_on : Type 0) → (later_on → honest) → (marks : List Bool) (b : ℕ)
      → IsExtending size layout honest contents prime old marks b → 0 < b → b < length marks
      → flag_at marks b ≡ false
      → (marks' : List Bool) (next size' : ℕ) (contents' : Contents) → marks' ≡ slice_set marks b true
      → size' ≡ size → (later_on → contents' ≡ contents) → (0 < next → InSpace size' next)
      → (later_on → 0 < next → IsExtensionLink contents' b next × InSpace size' next)
      → (later_on → (m : ℕ) → IsExtensionLink contents' b m → InSpace size' m → m ≡ next)
      → IsExtending size layout later_on contents prime old marks' next
  extending_on honest later_on was marks b l some inside free marks' next size' contents' marked sizes same next_inside
      link none =
      subst (λ (l : List Bool). IsExtending size layout later_on contents prime old l next) (sym marked)
      (extending_more honest later_on was marks b l some inside free next
      (λ h more. let p = link h more in (
        subst (λ (c : Contents). IsExtensionLink c b next) (same h) p.0,
        subst (λ (k : ℕ). InSpace k next) sizes p.1,
      ))
      (λ h m there within. none h m (subst (λ (c : Contents). IsExtensionLink c b m) (sym (same h)) there)
      (subst (λ (k : ℕ). InSpace k m) (sym sizes) within))
      (λ more. subst (λ (k : ℕ). InSpace k next) sizes (next_inside more)))

  -- it ends at a block that is marked
  pub owned_end : (honest : Type 0) (marks : List Bool) (next : ℕ)
      → IsExtending size layout honest contents prime old marks next → 0 < next → flag_at marks next ≡ true
      → honest → IsOwnedAgain size layout contents old prime next
  owned_end honest marks next l some set h =
      record { extension = l.walk h some; again = l.past h some next set }

  -- or at none
  pub unowned_end : (honest : Type 0) (marks : List Bool) (next : ℕ)
      → IsExtending size layout honest contents prime old marks next → next ≡ 0 → honest
      → (n : ℕ) → IsExtension size layout contents prime n
      → (flag_at marks n ≡ true) × (flag_at old n ≡ true → ⊥)
  unowned_end honest marks next l end h n there = ⊎_elim (λ clear. clear)
      (λ more. absurd (let some = more.0 in omega arith)) (l.passed h n there)
