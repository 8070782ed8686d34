-- Which blocks are put.
use Rattle.std.proofs.Common.{◌≡◌, ℕ, ◌⊎◌, inl, inr, List, [], ◌∷◌, Some, None, sym, ◌∙◌}
use Rattle.std.proofs.Common.{arith}
use Rattle.std.proofs.lemmas.Bool.{cases_eq}
use Rattle.blockdisk.specs.Common.{Contents}
use Rattle.spec_image.specs.declared.put.Put.{Put}
use Rattle.spec_image.specs.Common.{targets, with_puts}
use Rattle.spec_image.proofs.Common.{some_none}
use Rattle.changeset.specs.Common.{IsPutIn, times_tail, with_puts_here, with_puts_later}

-- what is put has the same words whatever was there
pub put_words : (puts : List Put) (n : ℕ) → IsPutIn puts n → (words : List ℕ)
    × ((c : Contents) → with_puts puts c n ≡ Some words)
put_words [] n there = absurd (omega arith)
put_words (put ∷ puts) n there = by_case (cases_eq n put.block) (put_words puts n)
  where
    by_case : (n ≡ put.block) ⊎ (n ≡ put.block → ⊥)
        → (IsPutIn puts n → (words : List ℕ) × ((c : Contents) → with_puts puts c n ≡ Some words))
        → (words : List ℕ) × ((c : Contents) → with_puts (put ∷ puts) c n ≡ Some words)
    by_case (inl is) later = (put.words, λ c. with_puts_here put puts c n is)
    by_case (inr other) later =
        let rest = later (let e = times_tail n put.block (targets puts) other in omega arith) in
        (rest.0, λ c. with_puts_later put puts c n other ∙ rest.1 c)

-- a block that no contents see changed isn't put
pub not_put : (puts : List Put) (n : ℕ) → ((c : Contents) → with_puts puts c n ≡ c n) → IsPutIn puts n → ⊥
not_put puts n same there =
    let words = put_words puts n there in
    let nowhere : Contents = λ j. None in
    some_none (sym (words.1 nowhere) ∙ same nowhere)
