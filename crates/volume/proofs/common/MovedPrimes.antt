-- A file that gets another name or directory: its prime block is rewritten, and says the new place and protection.
use Rattle.std.proofs.Common.{◌≡◌, ℕ, ◌+◌, ◌<◌, List, ◌∷◌, ◌++◌, [], Some, length, refl, sym, ap, ◌∙◌, arith}
use Rattle.words36.specs.declared.names.FileName.{FileName}
use Rattle.blockdisk.specs.Common.{Contents}
use Rattle.changeset.specs.Common.{times_head}
use Rattle.spec_image.specs.Common.{times, File, SpecPrime, prime_of, prime_block, first_extension}
use Rattle.spec_image.specs.Common.{StoredFile, IsVersion, place_of, reaches_in_file, in_place_of}
use Rattle.spec_image.proofs.Common.{some_same, version_rewritten}
use Rattle.retrieval.specs.Common.{mode_number, with_length, IsRewritten}
use Rattle.volume.specs.Common.{Facts, facts_of, known_facts, CurrentVersion, IsPrimeMoved, file_protected}

-- Which blocks it has.

module _ (old : ℕ × CurrentVersion) (f : StoredFile) (facts : facts_of f ≡ known_facts old.0 old.1.prime old.1.version)
  where
    pub prime_at : f.prime ≡ old.0
    prime_at = ap (λ (x : Facts). x.prime) facts

    pub prime_reached : (n : ℕ) → n ≡ old.0 → 0 < times n (f.prime ∷ [])
    prime_reached n same = let head = times_head n f.prime [] (same ∙ sym prime_at) in omega arith

    pub file_parts : (n : ℕ) → reaches_in_file n f ≡ times n (f.prime ∷ []) + times n (f.extensions ++ f.blocks)
    file_parts n = omega arith

    -- a block that isn't the file's isn't its prime block
    pub not_prime : (n : ℕ) → reaches_in_file n f ≡ 0 → n ≡ old.0 → ⊥
    not_prime n none same = let some = prime_reached n same in let parts = file_parts n in omega arith

-- What is known of it then, and what the disk has.

module _ (old : ℕ × CurrentVersion) (v : CurrentVersion) (f : StoredFile) (to_ppn : ℕ) (to : FileName)
    (protection : ℕ) (facts : facts_of f ≡ known_facts old.0 old.1.prime old.1.version)
    (prime_is : IsPrimeMoved old.1.prime v.prime to_ppn to protection) where
  abbrev file : File
  file = file_protected f.file protection

  pub moved_facts : v.version ≡ old.1.version → facts_of (in_place_of f file) ≡ known_facts old.0 v.prime v.version
  moved_facts lies =
      let was = facts in
      λ i. record {
        protection = sym prime_is.protected i;
        mode = (ap (λ (x : Facts). x.mode) was ∙ sym (ap mode_number prime_is.mode)) i;
        time = (ap (λ (x : Facts). x.time) was ∙ sym (ap (λ x. x.minute) prime_is.moment)) i;
        date = (ap (λ (x : Facts). x.date) was ∙ sym (ap (λ x. x.date) prime_is.moment)) i;
        words = (ap (λ (x : Facts). x.words) was ∙ sym (ap (λ x. x.words) lies)) i;
        prime = prime_at old f facts i;
        ribs = (ap (λ (x : Facts). x.ribs) was ∙ sym (ap (λ x. x.ribs) lies)) i;
        blocks = (ap (λ (x : Facts). x.blocks) was ∙ sym (ap (λ x. x.blocks) lies)) i;
      }

  said : with_length v.prime (length f.file.body) ≡ prime_of (place_of to_ppn to) file
  said = λ i. record {
    place = record { ppn = prime_is.owner i; name = prime_is.file i };
    protection = prime_is.protected i;
    mode = (ap mode_number prime_is.mode ∙ sym (ap (λ (x : Facts). x.mode) facts)) i;
    time = (ap (λ x. x.minute) prime_is.moment ∙ sym (ap (λ (x : Facts). x.time) facts)) i;
    date = (ap (λ x. x.date) prime_is.moment ∙ sym (ap (λ (x : Facts). x.date) facts)) i;
    words = length f.file.body;
  }

  -- if the prime block is rewritten, and its other blocks stay, it is there under the new name
  module _ (layout ppn : ℕ) (name : FileName) (c : Contents) (version : IsVersion layout c (place_of ppn name) f)
      (words anew : List ℕ) (rewritten : IsRewritten words anew v.prime) (read : c old.0 ≡ Some words) where
    words_are : words ≡ prime_block (prime_of (place_of ppn name) f.file) version.retrieved.runs
        (first_extension version.retrieved.further)
    words_are = some_same (sym read ∙ ap c (sym (prime_at old f facts)) ∙ version.retrieved.prime_is)

    anew_is : anew ≡ prime_block (prime_of (place_of to_ppn to) file) version.retrieved.runs
        (first_extension version.retrieved.further)
    anew_is = rewritten (prime_of (place_of ppn name) f.file) version.retrieved.runs
        (first_extension version.retrieved.further) words_are
        ∙ ap (λ (p : SpecPrime). prime_block p version.retrieved.runs (first_extension version.retrieved.further)) said

    pub moved_version : protection < 512 → (new : Contents) → new old.0 ≡ Some anew
        → ((n : ℕ) → 0 < times n (f.extensions ++ f.blocks) → new n ≡ c n)
        → IsVersion layout new (place_of to_ppn to) (in_place_of f file)
    moved_version fits new put stays = version_rewritten layout c new (place_of ppn name) (place_of to_ppn to) f file
        version refl
        (record {
          protection = fits;
          mode = version.retrieved.fits.mode;
          time = version.retrieved.fits.time;
          date = version.retrieved.fits.date;
          few = version.retrieved.fits.few;
        })
        (ap new (prime_at old f facts) ∙ put ∙ ap Some anew_is) stays
