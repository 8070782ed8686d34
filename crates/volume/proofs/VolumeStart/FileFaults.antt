-- What was found of a file: the file itself, or what is wrong with it.
use Rattle.std.proofs.Common.{◌≡◌, ℕ, ◌+◌, ◌*◌, ◌<◌, ◌≤◌, Result, Err, IfErr, Bool, List, [], ◌∷◌, ◌++◌, length, take}
use Rattle.std.proofs.Common.{flat_map, Some, None, refl, sym, ap, subst, arith}
use Rattle.std.specs.List.{AllByRecursion, AllZip}
use Rattle.std.proofs.lemmas.List.{length-take-le, length-append}
use Rattle.words36.specs.declared.names.FileName.{FileName}
use Rattle.blockdisk.specs.Common.{Contents, IsWholeBlock}
use Rattle.spec_image.specs.Common.{times, File, blocks_of, prime_of, IsRetrieved, HasBody, place_of}
use Rattle.alloctab.specs.Common.{digit_at}
use Rattle.retrieval.specs.Common.{mode_number, with_length, VersionState, IsVersionAt}
use Rattle.retrieval.specs.declared.prime.Prime.{Prime as PrimeValue}
use Rattle.volume.specs.Common.{IsFileFound, IsReachedTwice, IsDamagedData, IsVersionRefusal, IsDataRefusal}
use Rattle.volume.specs.Common.{IsFileRefusal}
use Rattle.volume.specs.declared.error.VolumeError.{VolumeError}
use Rattle.volume.specs.declared.error.VolumeError.TheVariants.{NotVolume, BadHome, BadLog, BadDirectory}
use Rattle.volume.specs.declared.error.VolumeError.TheVariants.{BadRetrieval, BlockTwice, TableWrong, Device}
use Rattle.volume.specs.declared.error.VolumeError.TheVariants.{NoMemory, Failed, BadData}

-- Refusals that are passed on.

pub refusal : {T E : Type 0} (P : E → Type 0) (result : Result T E) (error : E) → result ≡ Err error → IfErr result P
    → P error
refusal P result error is refused = subst (λ r. IfErr r P) is refused

pub refused_on : {T U E : Type 0} (P Q : E → Type 0) (outer : Result T E) (inner : Result U E) (x y : E)
    → outer ≡ Err x → x ≡ y → inner ≡ Err y → ((error : E) → P error → Q error)
    → IfErr inner P → IfErr outer Q
refused_on P Q outer inner x y out same was weaker refused = subst (λ r. IfErr r Q) (sym out)
    (subst Q (sym same) (weaker y (refusal P inner y was refused)))

pub version_wider : (error : VolumeError) → IsVersionRefusal error → IsFileRefusal error
version_wider NotVolume is = is
version_wider BadHome is = is
version_wider BadLog is = is
version_wider (BadDirectory n) is = is
version_wider (BadRetrieval n) is = tt
version_wider (BlockTwice n) is = tt
version_wider (TableWrong n) is = is
version_wider Device is = tt
version_wider NoMemory is = tt
version_wider Failed is = is
version_wider (BadData n) is = tt

pub data_wider : (error : VolumeError) → IsDataRefusal error → IsFileRefusal error
data_wider NotVolume is = is
data_wider BadHome is = is
data_wider BadLog is = is
data_wider (BadDirectory n) is = is
data_wider (BadRetrieval n) is = tt
data_wider (BlockTwice n) is = tt
data_wider (TableWrong n) is = is
data_wider Device is = tt
data_wider NoMemory is = tt
data_wider Failed is = is
data_wider (BadData n) is = tt

-- The words of blocks that were read.
module _ (c : Contents) where
  each_of : (blocks : List ℕ) → AllByRecursion (IsWholeBlock c) blocks → List (List ℕ)
  each_of [] whole = []
  each_of (n ∷ ns) whole = whole.0.words ∷ each_of ns whole.1

  undamaged : (blocks : List ℕ) (whole : AllByRecursion (IsWholeBlock c) blocks)
      → AllZip (λ n words. c n ≡ Some words) blocks (each_of blocks whole)
  unfolding each_of
  undamaged [] whole = tt
  undamaged (n ∷ ns) whole = (whole.0.holds, undamaged ns whole.1)

  words_counted : (blocks : List ℕ) (whole : AllByRecursion (IsWholeBlock c) blocks)
      → length (flat_map (λ words. words) (each_of blocks whole)) ≡ 128 * length blocks
  unfolding each_of
  words_counted [] whole = refl
  words_counted (n ∷ ns) whole =
      let both = length-append whole.0.words (flat_map (λ words. words) (each_of ns whole.1)) in
      let here = whole.0.all in
      let rest = words_counted ns whole.1 in
      omega arith

  all_whole : (blocks : List ℕ) (whole : AllByRecursion (IsWholeBlock c) blocks)
      → AllByRecursion (λ words. length words ≡ 128) (each_of blocks whole)
  unfolding each_of
  all_whole [] whole = tt
  all_whole (n ∷ ns) whole = (whole.0.all, all_whole ns whole.1)

  pub body_found : (blocks : List ℕ) (words : ℕ) → AllByRecursion (IsWholeBlock c) blocks
      → length blocks ≡ blocks_of words → (body : List ℕ) × (length body ≡ words) × HasBody c blocks body
  body_found blocks words whole enough =
      let all = flat_map (λ words. words) (each_of blocks whole) in
      let counted = words_counted blocks whole in
      let long : length (take words all) ≡ words = length-take-le words all (omega arith) in (
        take words all,
        long,
        record {
          each = each_of blocks whole;
          undamaged = undamaged blocks whole;
          whole = all_whole blocks whole;
          body_is = ap (λ (n : ℕ). take n all) (sym long);
        },
      )

-- A version of the required place.
module _ (size layout : ℕ) (c : Contents) (ppn : ℕ) (name : FileName) (at : ℕ) (prime : PrimeValue) (v : VersionState)
    (is : IsVersionAt size c layout at prime v) (name_is : prime.file ≡ name) (ppn_is : prime.ppn ≡ ppn) where
  place_is : (with_length prime v.words).place ≡ place_of ppn name
  place_is = λ i. record { ppn = ppn_is i; name = name_is i }

  pub file_found : AllByRecursion (IsWholeBlock c) v.blocks → IsFileFound layout c (place_of ppn name) at prime v
  file_found whole =
      let body = body_found c v.blocks v.words whole is.retrieved.enough in
      let file : File = record {
        protection = prime.protection;
        mode = mode_number prime.mode;
        time = prime.moment.minute;
        date = prime.moment.date;
        body = body.0;
      } in
      let facts : prime_of (place_of ppn name) file ≡ with_length prime v.words = λ i. record {
        place = sym place_is i;
        protection = prime.protection;
        mode = mode_number prime.mode;
        time = prime.moment.minute;
        date = prime.moment.date;
        words = body.1 i;
      } in
      record {
        file = record { file = file; prime = at; extensions = v.ribs; blocks = v.blocks };
        stands = record {
          retrieved = subst (λ p. IsRetrieved layout c p at v.ribs v.blocks) (sym facts) is.retrieved;
          body = body.2;
        };
        prime_is = refl;
        ribs_are = refl;
        blocks_are = refl;
        facts_are = facts;
      }

  pub reached_twice : (reached : List Bool) (n : ℕ) → 2 ≤ digit_at reached n + times n (at ∷ (v.ribs ++ v.blocks))
      → IsReachedTwice layout c (place_of ppn name) at reached n
  reached_twice reached n twice = record {
    file = record { p = with_length prime v.words; prime = at; extensions = v.ribs; blocks = v.blocks };
    prime_is = refl;
    place_is = place_is;
    retrieved = is.retrieved;
    twice = twice;
  }

  pub damaged_data : (n : ℕ) → 0 < times n v.blocks → c n ≡ None → IsDamagedData layout c (place_of ppn name) at n
  damaged_data n inside damaged = record {
    p = with_length prime v.words;
    extensions = v.ribs;
    blocks = v.blocks;
    place_is = place_is;
    retrieved = is.retrieved;
    inside = inside;
    damaged = damaged;
  }
