-- What is read of a log, put by put.
use Rattle.std.proofs.Common.{◌≡◌, Bool, true, false, ℕ, zero, suc, ◌+◌, ◌-◌, ◌<◌, ◌≤◌, List, [], ◌∷◌, ◌++◌, length}
use Rattle.std.proofs.Common.{get_or, take, drop, replicate, Some, Result, Err, refl, sym, ◌∙◌, ap, subst, arith}
use Rattle.std.proofs.Common.{length-append, length-drop}
use Rattle.std.specs.Prelude.{not, ◌==◌}
use Rattle.std.specs.Cmp.Lexicographic.{pointwise}
use Rattle.std.proofs.lemmas.Bool.Decides.{Decides-eqb}
use Rattle.std.proofs.lemmas.Slice.Eq.{slice_eq-Decides}
use Rattle.std.proofs.lemmas.List.{take_all, take_more, take-append-le, get_or_append_left, get_or-drop}
use Rattle.blockdisk.specs.Common.{Contents, DiskState, still_on}
use Rattle.spec_image.specs.declared.put.Put.{Put}
use Rattle.spec_image.specs.Common.{times, log_start, targets, log_header, AreImages, IsTarget, IsLog}
use Rattle.spec_image.proofs.Common.{some_same, length-targets}
use Rattle.changeset.specs.Common.{targets-behind, IsNextTarget, OnlyReads}
use Rattle.changeset.proofs.PutLists.{all_at, fresh_at, images_behind}

pub only_reads_on : (s s' s'' : DiskState) → OnlyReads s s' → OnlyReads s' s'' → OnlyReads s s''
only_reads_on s s' s'' first second = record {
  still = still_on s s' s'' first.still second.still;
  is_open = λ n. second.is_open n ∙ first.is_open n;
}

-- puts of a front of the targets, with their images, are a front of the puts
front_of : (c : Contents) (at : ℕ) (read puts : List Put) → length read ≤ length puts
    → targets read ≡ take (length read) (targets puts) → AreImages c at read → AreImages c at puts
    → read ≡ take (length read) puts
front_of c at [] puts few same images all = refl
front_of c at (put ∷ read) [] few same images all = absurd (omega arith)
front_of c at (put ∷ read) (first ∷ puts) few same images all =
    let block : put.block ≡ first.block = cc in
    let words : put.words ≡ first.words = some_same (sym images.0 ∙ all.0) in
    let behind : targets read ≡ take (length read) (targets puts) = cc in
    let rest : read ≡ take (length read) puts = front_of c (at + 1) read puts (omega arith) behind images.1 all.1 in
    λ i. record { block = block i; words = words i } ∷ rest i

image_at : (c : Contents) (at : ℕ) (puts : List Put) (i : ℕ) (put : Put) → i < length puts → put ≡ get_or puts i put
    → AreImages c at puts → c (at + i) ≡ Some put.words
image_at c at [] i put below is images = absurd (omega arith)
image_at c at (first ∷ puts) zero put below is images = ap c (let e : at + 0 ≡ at = omega arith in e)
    ∙ images.0 ∙ ap (λ (p : Put). Some p.words) (sym is)
image_at c at (first ∷ puts) (suc i) put below is images = ap c (let e : at + suc i ≡ (at + 1) + i = omega arith in e)
    ∙ image_at c (at + 1) puts i put (omega arith) is images.1

element : (puts : List Put) (i : ℕ) → i < length puts → (put : Put) × (put ≡ get_or puts i put)
element [] i below = absurd (omega arith)
element (put ∷ puts) zero below = (put, refl)
element (put ∷ puts) (suc i) below = element puts i (omega arith)

target_get : (puts : List Put) (i : ℕ) (put : Put) → i < length puts → put ≡ get_or puts i put
    → get_or (targets puts) i 0 ≡ put.block
target_get [] i put below is = absurd (omega arith)
target_get (first ∷ puts) zero put below is = ap (λ (p : Put). p.block) (sym is)
target_get (first ∷ puts) (suc i) put below is = target_get puts i put (omega arith) is

-- the puts read so far: the targets that the header names first, with their images
pub record IsFront (c : Contents) (header : List ℕ) (read : List Put) : Type 0 where
  pub blocks : targets read ≡ take (length read) (drop 2 header)
  pub images : AreImages c log_start read

module _ (size : ℕ) (c : Contents) (header : List ℕ) (puts : List Put) (held : c 4 ≡ Some header)
    (log : IsLog size c puts) where
  header_is : header ≡ log_header puts
  header_is = some_same (sym held ∙ log.header)

  pub count_is : (d : ℕ) → get_or header 1 d ≡ length puts
  count_is d = ap (λ (words : List ℕ). get_or words 1 d) header_is

  module _ (read : List Put) (few : length read ≤ length puts) (front : IsFront c header read) where
    is_front : read ≡ take (length read) puts
    is_front = front_of c log_start read puts few
        (front.blocks ∙ ap (λ (words : List ℕ). take (length read) (drop 2 words)) header_is
        ∙ take-append-le (length read) (targets puts) (replicate (126 - length puts) 0) (let e = length-targets puts in
        omega arith)) front.images log.images

    -- a good log has a put at the next place
    next_put : length read < length puts → (put : Put) × IsNextTarget size header read (length read) put.block
        × (c (log_start + length read) ≡ Some put.words)
    next_put less =
        let at = element puts (length read) less in
        let place : length read + 2 ≡ suc (suc (length read)) = omega arith in (
          at.0,
          record {
            named = ap (λ (words : List ℕ). get_or words (length read + 2) 0) header_is
                ∙ ap (λ (n : ℕ). get_or (log_header puts) n 0) place
                ∙ get_or_append_left (targets puts) (replicate (126 - length puts) 0) 0 (length read)
                (let e = length-targets puts in omega arith)
                ∙ target_get puts (length read) at.0 less at.1;
            in_range = all_at (IsTarget size) puts (length read) at.0 less at.1 log.in_range;
            fresh = ap (λ (l : List Put). times at.0.block (targets l)) is_front
                ∙ fresh_at puts (length read) at.0 less at.1 log.distinct;
          },
          image_at c log_start puts (length read) at.0 less at.1 log.images,
        )

    -- the same, if the puts are seen through a slice and the disk was read since
    pub next_put_at : (before : List Put) (i : ℕ) (now : Contents) → before ≡ read → length read ≡ i
        → now (log_start + i) ≡ c (log_start + i) → length read < length puts
        → (put : Put) × IsNextTarget size header before i put.block × (now (log_start + i) ≡ Some put.words)
    next_put_at before i now is long same less =
        let next : (put : Put) × IsNextTarget size header read i put.block × (c (log_start + i) ≡ Some put.words) =
        subst (λ (n : ℕ). (put : Put) × IsNextTarget size header read n put.block
        × (c (log_start + n) ≡ Some put.words)) long (next_put less) in
        (next.0, subst (λ (l : List Put). IsNextTarget size header l i next.0.block) (sym is) next.1, same ∙ next.2)

    -- read to the end they are its puts
    pub all_read : length read ≡ length puts → log_header read ≡ header
    all_read whole = ap log_header (is_front ∙ take_all (length read) puts (omega arith)) ∙ sym header_is

-- one more put
pub front_more : (size : ℕ) (c : Contents) (header : List ℕ) (read : List Put) (i : ℕ) (put : Put) → length read ≡ i
    → i + 2 < length header → IsFront c header read
    → IsNextTarget size header read i put.block → c (log_start + i) ≡ Some put.words
    → IsFront c header (read ++ put ∷ [])
front_more size c header read i put long room front next image = record {
  blocks = targets-behind read put
      ∙ ap (λ (l : List ℕ). l ++ put.block ∷ []) (front.blocks ∙ ap (λ (n : ℕ). take n (drop 2 header)) long)
      ∙ ap (λ (n : ℕ). take i (drop 2 header) ++ n ∷ []) (sym next.named ∙ ap (λ (n : ℕ). get_or header n 0) place
      ∙ sym (get_or-drop 2 header i 0))
      ∙ sym (take_more (drop 2 header) i 0 (let e = length-drop 2 header in omega arith))
      ∙ ap (λ (n : ℕ). take n (drop 2 header)) (let e = length-append read (put ∷ []) in omega arith);
  images = images_behind c log_start (log_start + i) read put (omega arith) front.images image;
}
  where
    place : i + 2 ≡ 2 + i
    place = omega arith

-- what a test by `!=` says
pub different : (words others : List ℕ) (answer : Bool) → answer ≡ not (pointwise (λ a b. a == b) words others)
    → answer ≡ true → words ≡ others → ⊥
different words others answer test is same =
    let equal = (slice_eq-Decides {E = λ a b. a == b} (λ a b. Decides-eqb a b) words others
    (pointwise (λ a b. a == b) words others) refl).1 same in
    cc

pub not_different : (words others : List ℕ) (answer : Bool) → answer ≡ not (pointwise (λ a b. a == b) words others)
    → answer ≡ false → words ≡ others
not_different words others answer test is =
    (slice_eq-Decides {E = λ a b. a == b} (λ a b. Decides-eqb a b) words others (pointwise (λ a b. a == b) words others)
    refl).0 (not_false (pointwise (λ a b. a == b) words others) (sym test ∙ is))
  where
    not_false : (b : Bool) → not b ≡ false → b ≡ true
    not_false true is = refl
    not_false false is = cc

-- an error that `?` passes on
pub passed_on : {T U E : Type 0} (outer : Result T E) (inner : Result U E) (x y error : E) → outer ≡ Err error
    → outer ≡ Err x → x ≡ y → inner ≡ Err y → inner ≡ Err error
passed_on outer inner x y error is out same was = cc
