-- Files that are kept, as long as no block has more than four claims, and what is reported of the others.
use Rattle.std.proofs.Common.{◌≡◌, ◌⊎◌, inl, inr, ⊎_elim, ℕ, suc, ◌+◌, ◌<◌, ◌≤◌, Bool, true, false, List, []}
use Rattle.std.proofs.Common.{◌∷◌, ◌++◌}
use Rattle.std.proofs.Common.{slice_index, Contains, None, Some, length, get_or, take, refl, sym, ap, subst, ◌∙◌, arith}
use Rattle.std.proofs.Common.{append_assoc}
use Rattle.std.specs.List.{AllByRecursion}
use Rattle.std.specs.List.Sorted.{IsNonDecreasingBy, IsPermutation}
use Rattle.std.proofs.lemmas.List.{take_more}
use Rattle.spec_image.specs.Common.{times, total}
use Rattle.blockdisk.specs.Common.{Contents}
use Rattle.spec_image.proofs.Common.{all_append, all_left, all_right, times-append, total-append}
use Rattle.retrieval.specs.Common.{with_length}
use Rattle.volume.proofs.common.Reordered.{total_moved}
use Rattle.directory.proofs.GatheredEntries.{all_of}
use Rattle.salvage.specs.Common.{AreApart, AreBySize, AreClaimed, AreKept, FitsDisk, IsEarlier, IsFinding, IsFullBy}
use Rattle.salvage.specs.Common.{IsLostBy, IsNamedRead, IsRead, blocks_of, claims, loss_of, told_of}
use Rattle.salvage.specs.declared.saved.SavedFile.{SavedFile}
use Rattle.salvage.specs.declared.finding.Defect.TheVariants.{Crowded}
use Rattle.salvage.specs.declared.finding.Finding.{Finding}
use Rattle.salvage.proofs.Faulty.{says_place}
use Rattle.salvage.proofs.Members.{all_both, contains_left, contains_right, contains_here, map_behind, nothing_behind}
use Rattle.salvage.proofs.SavedFiles.{blocks_at}

-- Each has a size that is at most that of any later one.
pub none_later : {X : Type 0} (size : X → ℕ) (before after : List X) (x : X)
    → IsNonDecreasingBy size (before ++ x ∷ after) → AllByRecursion (λ y. size y ≤ size x) before
none_later {X = X} size [] after x rises = tt
none_later {X = X} size (y ∷ before) after x rises = (
  first,
  none_later size before after x (λ i j d low high. rises (suc i) (suc j) d (omega arith) (omega arith)),
)
  where
    last : (ys : List X) → get_or (ys ++ x ∷ after) (length ys) y ≡ x
    last [] = refl
    last (z ∷ ys) = last ys

    inside : (ys : List X) → length ys < length (ys ++ x ∷ after)
    inside [] = omega arith
    inside (z ∷ ys) = let rest = inside ys in omega arith

    first : size y ≤ size x
    first = subst (λ (z : X). size y ≤ size z) (last before)
        (rises 0 (suc (length before)) y (omega arith) (let all = inside before in omega arith))

pub by_size : (files : List SavedFile) → IsNonDecreasingBy (λ file. length file.stored.version.blocks) files
    → AreBySize files
by_size files rises before after file are = none_later (λ other. length other.stored.version.blocks) before after file
    (subst (IsNonDecreasingBy (λ other. length other.stored.version.blocks)) are rises)

-- Kept one after the other.

-- no file so far
pub kept_start : (is_named : Bool) (counts : List ℕ) (findings : List Finding)
    → AreKept is_named counts counts [] [] findings findings
kept_start is_named counts findings = record {
  added = [];
  told_is = nothing_behind findings;
  only = tt;
  few = λ f. omega arith;
  held = λ n. omega arith;
  grown = λ n. omega arith;
  stand = tt;
  each = tt;
}

module _ (is_named : Bool) (old now new : List ℕ) (files kept : List SavedFile) (findings found : List Finding)
    (file : SavedFile) (k : AreKept is_named old now files kept findings found) where
  abbrev IsDealt : List SavedFile → List SavedFile → List Finding → SavedFile → Type 0
  IsDealt candidates there added other = Contains there other ⊎ ((block : ℕ) × (0 < times block (blocks_of other))
      × (5 ≤ slice_index old block + claims candidates block) × IsLostBy added (loss_of is_named other))

  claims_one : (n : ℕ) → claims (files ++ file ∷ []) n ≡ claims files n + times n (blocks_of file)
  claims_one n = let all = total-append (λ other. times n (blocks_of other)) files (file ∷ []) in omega arith

  still_full : (finding : Finding) → IsFullBy is_named old files finding
      → IsFullBy is_named old (files ++ file ∷ []) finding
  still_full finding is = record {
    before = is.before;
    file = is.file;
    after = is.after ++ file ∷ [];
    block = is.block;
    candidates_are = ap (λ (l : List SavedFile). l ++ file ∷ []) is.candidates_are
        ∙ append_assoc is.before (is.file ∷ is.after) (file ∷ []);
    finding_is = is.finding_is;
    among = is.among;
    many = is.many;
  }

  -- One more file is kept.
  pub kept_one : (kept' : List SavedFile) → kept' ≡ kept ++ file ∷ [] → AreClaimed now new (blocks_of file) None
      → AreKept is_named old new (files ++ file ∷ []) kept' findings found
  kept_one kept' pushed claimed = subst
      (λ (l : List SavedFile). AreKept is_named old new (files ++ file ∷ []) l findings found) (sym pushed) (record {
        added = k.added;
        told_is = k.told_is;
        only = all_append (Contains (files ++ file ∷ [])) kept (file ∷ [])
            (all_of (Contains files) (Contains (files ++ file ∷ [])) kept
            (λ other there. contains_left other files (file ∷ []) there) k.only)
            (contains_right file files (file ∷ []) (contains_here file []), tt);
        few = λ f. let most = k.few f in let a = total-append f kept (file ∷ []) in
            let b = total-append f files (file ∷ []) in omega arith;
        held = λ n. let was = k.held n in let more = claimed n in
            let all = total-append (λ other. times n (blocks_of other)) kept (file ∷ []) in omega arith;
        grown = λ n. let was = k.grown n in let more = claimed n in let all = claims_one n in omega arith;
        stand = all_of (IsFullBy is_named old files) (IsFullBy is_named old (files ++ file ∷ [])) k.added still_full
            k.stand;
        each = all_append (IsDealt (files ++ file ∷ []) (kept ++ file ∷ []) k.added) files (file ∷ [])
            (all_of (IsDealt files kept k.added) (IsDealt (files ++ file ∷ []) (kept ++ file ∷ []) k.added) files
            (λ other is. ⊎_elim (λ there. inl (contains_left other kept (file ∷ []) there))
            (λ full. inr (full.0, full.1, let many = full.2 in let all = claims_one full.0 in omega arith, full.3)) is)
            k.each)
            (inl (contains_right file kept (file ∷ []) (contains_here file [])), tt);
      })

  -- Or one is reported, since a block of it would have more than four claims.
  pub told_one : (block : ℕ) (told : List Finding) → told ≡ found ++ told_of is_named file (Crowded block) ∷ []
      → AreClaimed now new (blocks_of file) (Some block)
      → AreKept is_named old new (files ++ file ∷ []) kept findings told
  told_one block told pushed claimed =
      let was = k.grown block in
      let one = claims_one block in
      let full = claimed.1 in
      record {
        added = k.added ++ finding ∷ [];
        told_is = pushed ∙ ap (λ (l : List Finding). l ++ finding ∷ []) k.told_is
            ∙ append_assoc findings k.added (finding ∷ []);
        only = all_of (Contains files) (Contains (files ++ file ∷ [])) kept
            (λ other there. contains_left other files (file ∷ []) there) k.only;
        few = λ f. let most = k.few f in let b = total-append f files (file ∷ []) in omega arith;
        held = λ n. let so_far = k.held n in let more = (claimed.2 n).0 in omega arith;
        grown = λ n. let so_far = k.grown n in let more = (claimed.2 n).1 in let all = claims_one n in omega arith;
        stand = all_append (IsFullBy is_named old (files ++ file ∷ [])) k.added (finding ∷ [])
            (all_of (IsFullBy is_named old files) (IsFullBy is_named old (files ++ file ∷ [])) k.added still_full
            k.stand) (
              record {
                before = files;
                file = file;
                after = [];
                block = block;
                candidates_are = refl;
                finding_is = refl;
                among = claimed.0;
                many = omega arith;
              },
              tt,
            );
        each = all_append (IsDealt (files ++ file ∷ []) kept (k.added ++ finding ∷ [])) files (file ∷ [])
            (all_of (IsDealt files kept k.added) (IsDealt (files ++ file ∷ []) kept (k.added ++ finding ∷ [])) files
            (λ other is. ⊎_elim (λ there. inl there)
            (λ full. inr (
              full.0,
              full.1,
              let many = full.2 in let all = claims_one full.0 in omega arith,
              record {
                fault = full.3.fault;
                among = contains_left (told_of is_named other full.3.fault) k.added (finding ∷ []) full.3.among;
              },
            )) is) k.each) (
              inr (
                block,
                claimed.0,
                omega arith,
                record {
                  fault = Crowded block;
                  among = contains_right finding k.added (finding ∷ []) (contains_here finding []);
                },
              ),
              tt,
            );
      }
    where
      finding : Finding
      finding = told_of is_named file (Crowded block)

-- one more of a list
pub one_more_of : (all : List SavedFile) (i j : ℕ) (file : SavedFile) → j ≡ i + 1 → i < length all
    → file ≡ get_or all i file → take i all ++ file ∷ [] ≡ take j all
one_more_of all i j file next below is = ap (λ (f : SavedFile). take i all ++ f ∷ []) is
    ∙ sym (take_more all i file below) ∙ ap (λ (k : ℕ). take k all) (sym next)

-- Lists of files at different prime blocks.

-- how often a block is the prime block of one of these
pub at_total : (n : ℕ) (files : List SavedFile)
    → total (λ file. times n (file.at ∷ [])) files ≡ times n (blocks_at files)
at_total n [] = refl
at_total n (x ∷ xs) = let rest = at_total n xs in omega arith

pub at_append : (n : ℕ) (xs ys : List SavedFile)
    → times n (blocks_at (xs ++ ys)) ≡ times n (blocks_at xs) + times n (blocks_at ys)
at_append n xs ys = ap (times n) (map_behind xs ys) ∙ times-append n (blocks_at xs) (blocks_at ys)

-- those up to one of them
pub apart_before : (before after : List SavedFile) (file : SavedFile) → AreApart (before ++ file ∷ after)
    → AreApart (before ++ file ∷ [])
apart_before before after file apart n =
    let some = at_append n before (file ∷ []) in
    let all = at_append n before (file ∷ after) in
    let one = apart n in
    omega arith

-- and those of another list before them
pub apart_behind : (earlier before after : List SavedFile) (file : SavedFile)
    → AreApart (earlier ++ (before ++ file ∷ after)) → AreApart (earlier ++ (before ++ file ∷ []))
apart_behind earlier before after file apart n =
    let first = at_append n earlier (before ++ file ∷ []) in
    let second = at_append n earlier (before ++ file ∷ after) in
    let some = at_append n before (file ∷ []) in
    let all = at_append n before (file ∷ after) in
    let one = apart n in
    omega arith

-- The order of the others doesn't matter.
pub apart_moved : (earlier files moved : List SavedFile) → IsPermutation files moved → AreApart (earlier ++ files)
    → AreApart (earlier ++ moved)
apart_moved earlier files moved are apart n =
    let first = at_append n earlier files in
    let second = at_append n earlier moved in
    let same = total_moved files moved are (λ file. times n (file.at ∷ [])) in
    let here = at_total n files in
    let there = at_total n moved in
    let one = apart n in
    omega arith

-- What is reported stands.

module _ (size layout : ℕ) (contents : Contents) where
  pub crowded_named : (old : List ℕ) (named : List SavedFile) → ((n : ℕ) → slice_index old n ≡ 0)
      → AllByRecursion (IsNamedRead size layout contents) named → AreApart named → (finding : Finding)
      → IsFullBy true old named finding → IsFinding size layout contents finding
  crowded_named old named unclaimed read apart finding is =
      let all = subst (AllByRecursion (IsNamedRead size layout contents)) is.candidates_are read in
      let before = all_left (IsNamedRead size layout contents) is.before (is.file ∷ is.after) all in
      let one = (all_right (IsNamedRead size layout contents) is.before (is.file ∷ is.after) all).0 in
      let many = is.many in
      let none = unclaimed is.block in
      let sum = total-append (λ file. times is.block (blocks_of file)) is.before (is.file ∷ []) in
      subst (IsFinding size layout contents) (sym is.finding_is) (record {
        prime = is.file.at;
        named = one.named;
        concerns = (
          record {
            p = with_length is.file.stored.prime is.file.stored.version.words;
            extensions = is.file.stored.version.ribs;
            blocks = is.file.stored.version.blocks;
            place_is = refl;
            retrieved = one.read.retrieved;
            among = is.among;
          },
          record {
            files = is.before ++ is.file ∷ [];
            each = all_append (IsNamedRead size layout contents) is.before (is.file ∷ []) before (one, tt);
            apart = apart_before is.before is.after is.file (subst AreApart is.candidates_are apart);
            many = omega arith;
          },
        );
      })

  abbrev IsOne : SavedFile → Type 0
  IsOne file = IsRead size layout contents file × FitsDisk size file

  pub crowded_unnamed : (old : List ℕ) (earlier files : List SavedFile)
      → AllByRecursion (IsNamedRead size layout contents) earlier
      → AllByRecursion (λ file. IsRead size layout contents file × FitsDisk size file) files
      → AreApart (earlier ++ files) → AreBySize files → ((n : ℕ) → slice_index old n ≤ claims earlier n)
      → (finding : Finding) → IsFullBy false old files finding → IsFinding size layout contents finding
  crowded_unnamed old earlier files named read apart by_size few finding is =
      let all = subst (AllByRecursion IsOne) is.candidates_are read in
      let before = all_left IsOne is.before (is.file ∷ is.after) all in
      let one = (all_right IsOne is.before (is.file ∷ is.after) all).0 in
      let smaller = by_size is.before is.after is.file is.candidates_are in
      let many = is.many in
      let most = few is.block in
      let sum = total-append (λ file. times is.block (blocks_of file)) is.before (is.file ∷ []) in
      let sums = total-append (λ file. times is.block (blocks_of file)) earlier (is.before ++ is.file ∷ []) in
      subst (IsFinding size layout contents) (sym is.finding_is) (record {
        inside = one.1.at_inside;
        says = says_place size layout contents is.file one.0;
        concerns = record {
          file = is.file;
          at_is = refl;
          read = one.0;
          among = is.among;
          crowded = record {
            files = earlier ++ (is.before ++ is.file ∷ []);
            each = all_append (IsEarlier size layout contents is.file) earlier (is.before ++ is.file ∷ [])
                (all_of (IsNamedRead size layout contents) (IsEarlier size layout contents is.file) earlier
                (λ other there. inl there) named)
                (all_append (IsEarlier size layout contents is.file) is.before (is.file ∷ [])
                (all_of
                (λ other. IsOne other
                × (length other.stored.version.blocks ≤ length is.file.stored.version.blocks))
                (IsEarlier size layout contents is.file) is.before (λ other both. inr (both.0.0, both.1))
                (all_both IsOne
                (λ other. length other.stored.version.blocks ≤ length is.file.stored.version.blocks) is.before before
                smaller))
                (inr (one.0, omega arith), tt));
            apart = apart_behind earlier is.before is.after is.file
                (subst (λ (l : List SavedFile). AreApart (earlier ++ l)) is.candidates_are apart);
            many = omega arith;
          };
        };
      })
