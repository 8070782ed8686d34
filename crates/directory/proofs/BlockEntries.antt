-- The words of a directory block as loops go over them: the first i entries, and one more.
use Rattle.std.proofs.Common.{◌≡◌, ℕ, zero, suc, ◌+◌, ◌*◌, ◌-◌, ◌<◌, ◌≤◌, List, [], ◌∷◌, ◌++◌, length, get_or, take}
use Rattle.std.proofs.Common.{drop, replicate, flat_map, refl, sym, ap, subst, ◌∙◌, arith, append_assoc}
use Rattle.std.proofs.Common.{length-append}
use Rattle.std.specs.List.{AllByRecursion}
use Rattle.std.proofs.lemmas.List.{length-replicate, flat_map_more, take-append-drop, take_rest, length-drop}
use Rattle.std.proofs.Math.Seq.{take-add, take-append_seam, drop-append-add}
use Rattle.spec_image.proofs.Common.{TellsApart, all_append}
use Rattle.directory.specs.Common.{SpellsBlock, SpellsEntries}
use Rattle.directory.proofs.Images.{length_words}

-- The entry at a place of a list, with the words that it has in a block.
pub record IsEntryAt {K V : Type 0} (words : K × V → List ℕ) (IsEntry : K × V
    → Type 0) (block : List ℕ) (es : List (K × V)) (i : ℕ) : Type 0 where
  pub entry : K × V
  pub good : IsEntry entry
  pub is : words entry ≡ take 3 (drop (3 * i) block)
  pub front : take (i + 1) es ≡ take i es ++ entry ∷ []
  pub split : es ≡ take i es ++ entry ∷ drop (i + 1) es

module _ {K V : Type 0} (words : K × V → List ℕ) (apart : TellsApart words) (IsEntry : K × V → Type 0) where
  pub entry_at : (es : List (K × V)) (i : ℕ) (rest : List ℕ) → i < length es → AllByRecursion IsEntry es
      → IsEntryAt words IsEntry (flat_map words es ++ rest) es i
  entry_at [] i rest below all = absurd (omega arith)
  entry_at (e ∷ es) zero rest below all =
      let at : 3 * zero ≡ 0 = omega arith in
      let one : zero + 1 ≡ suc zero = omega arith in
      record {
        entry = e;
        good = all.0;
        is = sym (take-append_seam (words e) (flat_map words es ++ rest))
            ∙ (λ j. take (apart.three e j) (sym (append_assoc (words e) (flat_map words es) rest) j))
            ∙ ap (λ k. take 3 (drop k ((words e ++ flat_map words es) ++ rest))) (sym at);
        front = ap (λ k. take k (e ∷ es)) one;
        split = ap (λ k. e ∷ drop k (e ∷ es)) (sym one);
      }
  entry_at (e ∷ es) (suc i) rest below all =
      let r = entry_at es i rest (omega arith) all.1 in
      let long = apart.three e in
      let at : length (words e) + 3 * i ≡ 3 * suc i = omega arith in
      let more : suc i + 1 ≡ suc (i + 1) = omega arith in
      record {
        entry = r.entry;
        good = r.good;
        is = r.is
            ∙ ap (take 3) (sym (drop-append-add (words e) (flat_map words es ++ rest) (3 * i)))
            ∙ (λ j. take 3 (drop (at j) (sym (append_assoc (words e) (flat_map words es) rest) j)));
        front = ap (λ k. take k (e ∷ es)) more ∙ ap (λ l. e ∷ l) r.front;
        split = ap (λ l. e ∷ l) r.split ∙ ap (λ k. e ∷ (take i es ++ r.entry ∷ drop k (e ∷ es))) (sym more);
      }

  -- in a block that spells the entries
  pub spelled_at : (block : List ℕ) (next : ℕ) (es : List (K × V)) (i : ℕ) → SpellsBlock words IsEntry block next es
      → i < length es → IsEntryAt words IsEntry (drop 2 block) es i
  spelled_at block next es i s below =
      subst (λ b. IsEntryAt words IsEntry (drop 2 b) es i) (sym s.words_are)
      (entry_at es i (replicate (126 - 3 * length es) 0) below s.are_entries)

  -- in words that begin with those of the entries
  pub begun_at : (block : List ℕ) (es : List (K × V)) (count i : ℕ)
      → SpellsEntries words IsEntry (take (3 * count) block) es → i < length es → IsEntryAt words IsEntry block es i
  begun_at block es count i s below =
      subst (λ b. IsEntryAt words IsEntry b es i) (ap (λ b. b ++ drop (3 * count) block) s.words_are
      ∙ take-append-drop (3 * count) block) (entry_at es i (drop (3 * count) block) below s.are_entries)

-- the words at a place after the first two
pub behind_two : (block : List ℕ) (i : ℕ) → length block ≡ 128 → drop (2 + 3 * i) block ≡ drop (3 * i) (drop 2 block)
behind_two [] i long = absurd (omega arith)
behind_two (x ∷ []) i long = absurd (omega arith)
behind_two (x ∷ y ∷ block) i long = drop-append-add (x ∷ y ∷ []) block (3 * i)

-- i entries are spelled in the words of a block.
abbrev pub SpellsSome : {K V : Type 0} → (K × V → List ℕ) → (K × V → Type 0) → List ℕ → ℕ → Type 0
SpellsSome {K} {V} words IsEntry block i = (es : List (K × V)) × (length es ≡ i)
    × SpellsEntries words IsEntry (take (3 * i) (drop 2 block)) es

module _ {K V : Type 0} (words : K × V → List ℕ) (apart : TellsApart words) (IsEntry : K × V → Type 0) where
  pub some_none_yet : (block : List ℕ) → SpellsSome words IsEntry block 0
  some_none_yet block = ([], refl, record { words_are = refl; are_entries = tt })

  pub some_more : (block three : List ℕ) (i : ℕ) → length block ≡ 128 → three ≡ take 3 (drop (2 + 3 * i) block)
      → (e : K × V) × IsEntry e × (words e ≡ three) → SpellsSome words IsEntry block i
      → SpellsSome words IsEntry block (i + 1)
  some_more block three i long at (e, good, is) (es, many, s) =
      let count = length-append es (e ∷ []) in
      let more : 3 * i + 3 ≡ 3 * (i + 1) = omega arith in (
        es ++ e ∷ [],
        omega arith,
        record {
          words_are = sym (flat_map_more words [] es e)
              ∙ (λ j. s.words_are j ++ (is ∙ at ∙ ap (take 3) (behind_two block i long)) j)
              ∙ sym (take-add (3 * i) 3 (drop 2 block)) ∙ ap (λ k. take k (drop 2 block)) more;
          are_entries = all_append IsEntry es (e ∷ []) s.are_entries (good, tt);
        },
      )

  -- words that aren't those of an entry aren't among those of a list of entries
  pub none_there : (block three : List ℕ) (count i : ℕ) → length block ≡ 128 → three ≡ take 3 (drop (2 + 3 * i) block)
      → i < count → ((e : K × V) → IsEntry e → words e ≡ three → ⊥) → (es : List (K × V)) → length es ≡ count
      → SpellsEntries words IsEntry (take (3 * count) (drop 2 block)) es → ⊥
  none_there block three count i long at below none es many s =
      let here = begun_at words apart IsEntry (drop 2 block) es count i s (omega arith) in
      none here.entry here.good (here.is ∙ sym (ap (take 3) (behind_two block i long)) ∙ sym at)

  -- A block that was read whole.
  pub block_spelled : (block : List ℕ) (count d : ℕ) → length block ≡ 128 → count ≤ 42 → get_or block 1 d ≡ count
      → SpellsSome words IsEntry block count
      → take (length block - (2 + 3 * count)) (drop (2 + 3 * count) block)
      ≡ replicate (length (take (length block - (2 + 3 * count)) (drop (2 + 3 * count) block))) 0
      → (next : ℕ) × (es : List (K × V)) × SpellsBlock words IsEntry block next es
  block_spelled [] count d long few at some zeros = absurd (omega arith)
  block_spelled (x ∷ []) count d long few at some zeros = absurd (omega arith)
  block_spelled (x ∷ y ∷ ws) count d long few at (es, many, s) zeros =
      let whole = take_rest (x ∷ y ∷ ws) (2 + 3 * count) in
      let behind = behind_two (x ∷ y ∷ ws) count long in
      let left = length-drop (3 * count) ws in
      let rest : drop (3 * count) ws ≡ replicate (126 - 3 * count) 0 = sym behind ∙ sym whole ∙ zeros
      ∙ ap (λ l. replicate (length l) 0) (whole ∙ behind) ∙ ap (λ k. replicate k 0) (left ∙ omega arith) in (
        x,
        es,
        record {
          words_are = (λ j. x ∷ (at ∙ sym many) j ∷ sym (take-append-drop (3 * count) ws) j)
              ∙ (λ j. x ∷ length es ∷ (sym s.words_are j ++ rest j))
              ∙ ap (λ k. x ∷ length es ∷ (flat_map words es ++ replicate (126 - 3 * k) 0)) (sym many);
          few = omega arith;
          are_entries = s.are_entries;
        },
      )

  -- What a block that spells entries has at each part.
  pub head_of : (block : List ℕ) (next : ℕ) (es : List (K × V)) (d : ℕ) → SpellsBlock words IsEntry block next es
      → get_or block 0 d ≡ next
  head_of block next es d s = ap (λ b. get_or b 0 d) s.words_are

  pub count_of : (block : List ℕ) (next : ℕ) (es : List (K × V)) (d : ℕ) → SpellsBlock words IsEntry block next es
      → get_or block 1 d ≡ length es
  count_of block next es d s = ap (λ b. get_or b 1 d) s.words_are

  -- after the entries there are zeros
  pub zeros_of : (block : List ℕ) (next : ℕ) (es : List (K × V)) (d count : ℕ) → length block ≡ 128
      → SpellsBlock words IsEntry block next es → get_or block 1 d ≡ count
      → take (length block - (2 + 3 * count)) (drop (2 + 3 * count) block)
      ≡ replicate (length (take (length block - (2 + 3 * count)) (drop (2 + 3 * count) block))) 0
  zeros_of block next es d count long s at =
      let zeros : List ℕ = replicate (126 - 3 * length es) 0 in
      let counted = length_words words apart es in
      let many : 3 * count ≡ length (flat_map words es) + 0 = let e = sym at ∙ count_of block next es d s in
      omega arith in
      let are : take (length block - (2 + 3 * count)) (drop (2 + 3 * count) block)
      ≡ zeros = take_rest block (2 + 3 * count) ∙ behind_two block count long
      ∙ ap (λ b. drop (3 * count) (drop 2 b)) s.words_are
      ∙ ap (λ k. drop k (flat_map words es ++ zeros)) many
      ∙ drop-append-add (flat_map words es) zeros 0 in
      are ∙ ap (λ k. replicate k 0) (sym (ap length are ∙ length-replicate (126 - 3 * length es) 0))
