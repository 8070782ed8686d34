-- Words of an entry that names a block past any disk.
use Rattle.std.proofs.Common.{◌≡◌, ℕ, ◌+◌, ◌*◌, ◌/◌, ◌%◌, ◌^◌, ◌<◌, ◌≤◌, List, [], ◌∷◌, length, get_or, refl, ◌∙◌}
use Rattle.std.proofs.Common.{arith}
use Rattle.words36.specs.Common.{left, right, IsPpn}
use Rattle.spec_image.specs.Common.{SpecMasterEntry, master_words, SpecFileEntry, file_words, IsFileEntry}
use Rattle.spec_image.specs.Common.{IsMasterEntryOf}

three_words : (words : List ℕ) (d e f : ℕ) → length words ≡ 3
    → get_or words 0 d ∷ get_or words 1 e ∷ get_or words 2 f ∷ [] ≡ words
three_words [] d e f n = absurd (omega arith)
three_words (x ∷ []) d e f n = absurd (omega arith)
three_words (x ∷ y ∷ []) d e f n = absurd (omega arith)
three_words (x ∷ y ∷ z ∷ []) d e f n = refl
three_words (x ∷ y ∷ z ∷ w ∷ ws) d e f n = absurd (omega arith)

module _ (words : List ℕ) (d e f : ℕ) (many : length words ≡ 3) where
  pub file_outside : (name ext prime : ℕ) → name ≡ get_or words 0 d → ext ≡ get_or words 1 e → prime ≡ get_or words 2 f
      → 0 < name → name < 2 ^ 36 → left ext < 2 ^ 18 → right ext ≡ 0 → 2 ^ 32 ≤ prime
      → (e : SpecFileEntry) × IsFileEntry e × (file_words e ≡ words) × (2 ^ 32 ≤ e.1)
  file_outside name ext prime a b c some fits fits' plain far =
      let entry : SpecFileEntry = (record { name = name; ext = ext / 2 ^ 18 }, prime) in
      let joined : (ext / 2 ^ 18) * 2 ^ 18 + 0 ≡ ext = omega arith in (
        entry,
        record { name = some; name_fits = fits; ext_fits = fits' },
        (λ i. a i ∷ (joined ∙ b) i ∷ c i ∷ [])
            ∙ three_words words d e f many,
        far,
      )

  pub master_outside : (ppn word first : ℕ) → ppn ≡ get_or words 0 d → word ≡ get_or words 1 e
      → first ≡ get_or words 2 f → IsPpn ppn → (half : ℕ) → half ≡ left word → half < 2 ^ 18 → half % 512 ≡ 0
      → 2 ^ 32 ≤ first → (e : SpecMasterEntry) × IsMasterEntryOf 2 e × (master_words e ≡ words) × (2 ^ 32 ≤ e.1.1)
  master_outside ppn word first a b c good half halved fits plain far =
      let entry : SpecMasterEntry = (ppn, (word, first)) in (
        entry,
        record {
          ppn = good;
          protection = half / 512;
          quota = right word;
          protection_fits = omega arith;
          quota_fits = omega arith;
          word = omega arith;
        },
        (λ i. a i ∷ b i ∷ c i ∷ []) ∙ three_words words d e f many,
        far,
      )
