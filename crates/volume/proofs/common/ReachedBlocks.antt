-- How often a block occurs in what memory knows, entry by entry and directory by directory.
use Rattle.std.proofs.Common.{◌≡◌, ℕ, ◌+◌, ◌<◌, List, [], ◌∷◌, ◌++◌, map, length, get_or, take, sym, ap, ◌∙◌, arith}
use Rattle.std.proofs.Common.{refl}
use Rattle.std.proofs.lemmas.List.{length-map, length-take, map-append}
use Rattle.spec_image.specs.Common.{times, total, SpecFileEntry, StoredFile, reaches_in_file}
use Rattle.volume.specs.Common.{CurrentVersion, blocks_reached, reaches_in_entries, IsAdded, CurrentDirectory}
use Rattle.volume.specs.Common.{reaches_in_known, entry_reaches, Facts, facts_of, known_facts}
use Rattle.volume.proofs.common.Lookups.{viewed_more, total-push}

-- the blocks of a file are those that its version reaches
pub file_times : (f : StoredFile) (at : ℕ) (v : CurrentVersion) → facts_of f ≡ known_facts at v.prime v.version
    → (n : ℕ) → reaches_in_file n f ≡ times n (blocks_reached at v.version)
file_times f at v facts n = ap (λ (x : Facts). times n (x.prime ∷ (x.ribs ++ x.blocks))) facts

-- what directories reach: their chains and their versions
pub reaches_parts : (n : ℕ) (ds : List CurrentDirectory)
    → total (reaches_in_known n) ds ≡ total (λ d. times n d.chain.blocks) ds + entry_reaches n ds
reaches_parts n [] = refl
reaches_parts n (d ∷ ds) = let rest = reaches_parts n ds in omega arith

-- one entry more
pub entries_push : (n : ℕ) (es : List SpecFileEntry) (vs : List CurrentVersion) (e : SpecFileEntry) (v : CurrentVersion)
    → length vs ≡ length es
    → reaches_in_entries n (es ++ e ∷ []) (vs ++ v ∷ [])
    ≡ reaches_in_entries n es vs + times n (blocks_reached e.1 v.version)
entries_push n [] [] e v same = omega arith
entries_push n [] (w ∷ vs) e v same = absurd (omega arith)
entries_push n (d ∷ es) [] e v same = absurd (omega arith)
entries_push n (d ∷ es) (w ∷ vs) e v same = let rest = entries_push n es vs e v (omega arith) in omega arith

module _ {A B : Type 0} (view : A → CurrentVersion) (entry : B
    → SpecFileEntry) (entries : List B) (i : ℕ) (e : B) (old new : List A) (start before after : ℕ
    → ℕ) (below : i < length entries) (is : e ≡ get_or entries i e) (aligned : length old ≡ i) where
  -- the entries read so far, and one more
  pub entries_marked : ((n : ℕ) → before n ≡ start n + reaches_in_entries n (map entry (take i entries)) (map view old))
      → IsAdded view old new (λ v. (n : ℕ) → after n ≡ before n + times n (blocks_reached (entry e).1 v.version))
      → (n : ℕ) → after n ≡ start n + reaches_in_entries n (map entry (take (i + 1) entries)) (map view new)
  entries_marked so_far added n =
      let v = view added.added in
      let a = so_far n in
      let b = added.is n in
      let es = viewed_more entry entries i e below is in
      let vs : map view new ≡ map view old ++ v ∷ [] = ap (map view) added.pushed
      ∙ map-append view old (added.added ∷ []) in
      let same : length (map view old) ≡ length (map entry (take i entries)) = length-map old view ∙ aligned
      ∙ sym (length-map (take i entries) entry ∙ length-take i entries ∙ (omega arith)) in
      let p = entries_push n (map entry (take i entries)) (map view old) (entry e) v same in
      let q : reaches_in_entries n (map entry (take (i + 1) entries)) (map view new)
      ≡ reaches_in_entries n (map entry (take i entries) ++ entry e ∷ []) (map view old ++ v ∷ []) = λ j.
      reaches_in_entries n (es j) (vs j) in
      omega arith

-- a sum over what was pushed, and one more
pub total_marked : {A B : Type 0} (view : A → B) (f : ℕ → B → ℕ) (old new : List A) (start before after : ℕ → ℕ)
    → ((n : ℕ) → before n ≡ start n + total (f n) (map view old)) → IsAdded view old new (λ d. (n : ℕ)
    → after n ≡ before n + f n d) → (n : ℕ) → after n ≡ start n + total (f n) (map view new)
total_marked view f old new start before after so_far added n =
    let d = view added.added in
    let a = so_far n in
    let b = added.is n in
    let ds : map view new ≡ map view old ++ d ∷ [] = ap (map view) added.pushed
    ∙ map-append view old (added.added ∷ []) in
    let p = total-push (f n) (map view old) d in
    let q = ap (total (f n)) ds in
    omega arith
