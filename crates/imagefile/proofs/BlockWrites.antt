-- Neighbouring blocks that are written by one call: the bytes of each, one after the other.
use Rattle.std.proofs.Common.{◌≡◌, ◌∙◌, ◌+◌, ◌*◌, ◌-◌, ◌<◌, ◌≤◌, ℕ, List, length, take, drop, Result, Ok, Err, OnOk}
use Rattle.std.proofs.Common.{refl, sym, ap, arith}
use Rattle.std.proofs.lemmas.List.{drop-take, length-take, length-drop}
use Rattle.std.proofs.lemmas.Slice.{take-put_mid_below, between-put_mid}
use borrow.Rule.Slice.PartMut.{put_mid}
use Rattle.blockdisk.specs.Common.{HoldRun}
use Rattle.blockdisk.specs.declared.fault.Fault.{Fault}
use Rattle.imagefile.specs.Common.{Bytes, window, block_content, block_length, spelled_blocks, image_contents}
use Rattle.imagefile.specs.declared.form.Form.{Form}
use Rattle.imagefile.proofs.BlockReads.{blocks_there}

-- The parts of a list after one of them was replaced.

module _ (a k : ℕ) (xs ys : List ℕ) (room : a + k ≤ length xs) (long : length ys ≡ k) where
  part_before : (i n : ℕ) → i + n ≤ a → take n (drop i (put_mid a k xs ys)) ≡ take n (drop i xs)
  part_before i n within = sym (drop-take i n (put_mid a k xs ys))
      ∙ ap (drop i) (take-put_mid_below a k xs ys (i + n) within (omega (arith, room))) ∙ drop-take i n xs

  part_there : take k (drop a (put_mid a k xs ys)) ≡ ys
  part_there =
      let back : k ≡ a + k - a = omega arith in
      ap (λ n. take n (drop a (put_mid a k xs ys))) back
      ∙ between-put_mid a k xs ys (a + k) (omega (arith, room)) (long ∙ back)

pub part_long : (a n k : ℕ) (xs ys : List ℕ) → a + n ≤ length xs → k ≡ n → length ys ≡ length (take k (drop a xs))
    → length ys ≡ k
part_long a n k xs ys room is long = omega (arith, room, is, long, length-take k (drop a xs), length-drop a xs)

-- what is before a place ends there
pub ends_before : (size i place end : ℕ) → i < place → end ≡ size * place → size * i + size ≤ end
ends_before size i place end less is = grind arith

-- The bytes of a block that were put after those of the blocks before it.
module _ (form : Form) (size place k : ℕ) (bytes part : List ℕ) (is : size ≡ block_length form) (step : k ≡ size)
    (room : size * place + size ≤ length bytes) (long : length part ≡ k) where
  abbrev filled : List ℕ
  filled = put_mid (size * place) k bytes part

  within : size * place + k ≤ length bytes
  within = omega (arith, room, step)

  pub block_before : (i : ℕ) → i < place → spelled_blocks form filled i ≡ spelled_blocks form bytes i
  block_before i less = ap (λ n. block_content form (take n (drop (n * i) filled))) (sym is)
      ∙ ap (block_content form) (part_before (size * place) k bytes part within long (size * i) size
      (ends_before size i place (size * place) less refl))
      ∙ ap (λ n. block_content form (take n (drop (n * i) bytes))) is

  pub block_here : spelled_blocks form filled place ≡ block_content form part
  block_here = ap (λ n. block_content form (take n (drop (n * place) filled))) (sym is)
      ∙ ap (λ n. block_content form (take n (drop (size * place) filled))) (sym step)
      ∙ ap (block_content form) (part_there (size * place) k bytes part within long)

-- What was written is what these bytes hold.
pub run_put : (answer : Result (Unit {0}) Fault) (form : Form) (b : Bytes) (first at : ℕ) (bytes : List ℕ)
    (blocks : List (List ℕ)) → at ≡ block_length form * first → length bytes ≡ block_length form * length blocks
    → HoldRun (spelled_blocks form bytes) 0 blocks → OnOk answer (window b at (length bytes) ≡ bytes)
    → OnOk answer (HoldRun (image_contents form b) first blocks)
run_put (Ok done) form b first at bytes blocks place long words put =
    blocks_there form b first (length blocks) at (length bytes) bytes place long (sym put) blocks refl words
run_put (Err fault) form b first at bytes blocks place long words put = tt
