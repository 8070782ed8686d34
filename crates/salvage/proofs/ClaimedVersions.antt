-- The extensions of a version were marked: they are that version's alone, or one of them was marked before.
use Rattle.std.proofs.Common.{◌≡◌, ◌⊎◌, inl, inr, ⊎_elim, ℕ, ◌+◌, Bool, true, false, List, [], ◌++◌, replicate, sym}
use Rattle.std.proofs.Common.{subst, ◌∙◌, arith, Result, OnOk}
use Rattle.std.proofs.lemmas.List.Elements.{Contains-append_cases}
use Rattle.std.specs.List.{AllByRecursion, Contains}
use Rattle.blockdisk.specs.Common.{Contents}
use Rattle.alloctab.specs.Common.{flag_at}
use Rattle.salvage.specs.Common.{AreAlone, AreLoaded, AreOwned, ConcernsUnnamed, IsExtension, IsOwnedAgain, IsReadAt}
use Rattle.salvage.specs.declared.saved.SavedFile.{SavedFile}
use Rattle.salvage.specs.declared.finding.Defect.TheVariants.{TwoOwners}
use Rattle.salvage.specs.declared.finding.Finding.{Finding}
use Rattle.salvage.proofs.CarriedFacts.{element_has, on_ok}
use Rattle.salvage.proofs.WalkedChains.{fresh_unmarked}

module _ (size layout : ℕ) (contents : Contents) (old : List Bool) (n : ℕ)
    (owned : AreOwned size layout contents old n) where
  -- What is reported of it.
  pub owned_twice : (block : ℕ) → IsOwnedAgain size layout contents old n block
      → ConcernsUnnamed size layout contents n (TwoOwners block)
  owned_twice block met = (
    met.extension,
    ⊎_elim
        (λ set. let other = owned block set in
        inr (other.0, λ same. let before = other.1 in omega arith, other.2))
        (λ after. inl after) met.again,
  )

  -- The marks after it.
  pub owned_more : (marks : List Bool) → ((m : ℕ) → flag_at marks m ≡ true
      → (flag_at old m ≡ true) ⊎ IsExtension size layout contents n m)
      → AreOwned size layout contents marks (n + 1)
  owned_more marks only m set = ⊎_elim
      (λ before. let other = owned m before in (other.0, let less = other.1 in omega arith, other.2))
      (λ own. (n, omega arith, own)) (only m set)

  pub owned_later : AreOwned size layout contents old (n + 1)
  owned_later = owned_more old (λ m set. inl set)

pub owned_first : (size layout : ℕ) (contents : Contents) (marks : List Bool) (k n : ℕ) → marks ≡ replicate k false
    → AreOwned size layout contents marks n
owned_first size layout contents marks k n fresh m set = absurd (fresh_unmarked k marks m fresh set)

-- The files whose extensions are marked.

module _ (size layout : ℕ) (contents : Contents) (old marks : List Bool) (files : List SavedFile)
    (loaded : AreLoaded size layout contents old files)
    (stays : (m : ℕ) → flag_at old m ≡ true → flag_at marks m ≡ true) where
  -- more is marked
  pub loaded_still : AreLoaded size layout contents marks files
  loaded_still = record {
    held = λ file m there own. stays m (loaded.held file m there own);
    alone = loaded.alone;
  }

  -- and the files of this prime block are more, of which no extension was marked
  pub loaded_more : (n : ℕ) (found new : List SavedFile) → new ≡ files ++ found
      → AllByRecursion (λ (file : SavedFile). file.at ≡ n) found
      → ((m : ℕ) → IsExtension size layout contents n m
      → (flag_at marks m ≡ true) × (flag_at old m ≡ true → ⊥))
      → AreLoaded size layout contents marks new
  loaded_more n found new is here unmet = subst (AreLoaded size layout contents marks) (sym is)
      (record { held = held; alone = alone })
    where
      at_n : (file : SavedFile) → Contains found file → file.at ≡ n
      at_n file there = element_has (λ (f : SavedFile). f.at ≡ n) found file here there

      own : (file : SavedFile) (m : ℕ) → Contains found file → IsExtension size layout contents file.at m
          → IsExtension size layout contents n m
      own file m there extension = subst (λ (k : ℕ). IsExtension size layout contents k m) (at_n file there) extension

      held : (file : SavedFile) (m : ℕ) → Contains (files ++ found) file
          → IsExtension size layout contents file.at m → flag_at marks m ≡ true
      held file m there extension = ⊎_elim (λ before. stays m (loaded.held file m before extension))
          (λ new_one. (unmet m (own file m new_one extension)).0) (Contains-append_cases files found file there)

      alone : AreAlone size layout contents (files ++ found)
      alone f g m in_f in_g differ of_f of_g = ⊎_elim
          (λ f_before. ⊎_elim
          (λ g_before. loaded.alone f g m f_before g_before differ of_f of_g)
          (λ g_new. (unmet m (own g m g_new of_g)).1 (loaded.held f m f_before of_f))
          (Contains-append_cases files found g in_g))
          (λ f_new. ⊎_elim
          (λ g_before. (unmet m (own f m f_new of_f)).1 (loaded.held g m g_before of_g))
          (λ g_new. differ (at_n f f_new ∙ sym (at_n g g_new)))
          (Contains-append_cases files found g in_g))
          (Contains-append_cases files found f in_f)

-- no files
pub none_loaded : (size layout : ℕ) (contents : Contents) (marks : List Bool)
    → AreLoaded size layout contents marks []
none_loaded size layout contents marks = record {
  held = λ file m there own. absurd (let below = there.1 in omega arith);
  alone = λ f g m in_f in_g differ of_f of_g. let below = in_f.1 in omega arith;
}

-- What was read at a prime block, on the disk as it is then.
pub loaded_read : {T E : Type 0} (size size' layout : ℕ) (contents contents' : Contents) (old marks : List Bool)
    (n : ℕ) (files new : List SavedFile) (findings told : List Finding) (result : Result T E) → size' ≡ size
    → contents' ≡ contents → OnOk result (IsReadAt size' layout contents' n files new findings told)
    → ((m : ℕ) → flag_at old m ≡ true → flag_at marks m ≡ true)
    → ((m : ℕ) → IsExtension size layout contents n m → (flag_at marks m ≡ true) × (flag_at old m ≡ true → ⊥))
    → AreLoaded size layout contents old files → OnOk result (AreLoaded size layout contents marks new)
loaded_read size size' layout contents contents' old marks n files new findings told result sizes same read stays unmet
    loaded =
    on_ok result
    (λ at. loaded_more size layout contents old marks files loaded stays n at.found new at.new_is at.here unmet) read
