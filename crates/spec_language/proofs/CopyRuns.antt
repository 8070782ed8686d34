-- A body that job 1 copies from channel 1 to channel 2: whole blocks, and the words of the last.
use Rattle.std.proofs.Common.{◌≡◌, inl, ℕ, suc, ◌+◌, ◌*◌, ◌/◌, ◌%◌, ◌<◌, ◌≤◌, List, [], ◌∷◌, ◌++◌, length, take, drop}
use Rattle.std.proofs.Common.{min, Some, sym, ap, subst, ◌∙◌, arith}
use Rattle.std.proofs.lemmas.List.{length-take, length-drop}
use Rattle.words36.specs.declared.moment.Moment.{Moment}
use Rattle.spec_image.specs.Common.{File, Place, SpecVersion, blocks_of, splice, block_start, words_from, Pack}
use Rattle.spec_machine.specs.Common.{placed, word_count, SpecJob, State, Kind, job_at, channel_at, Steps}
use Rattle.spec_language.specs.Plans.{in_event, out_event, list_words, block_address, blocks_at_once}
use Rattle.spec_machine.specs.declared.call.Reply.TheVariants.{Done}
use Rattle.spec_language.proofs.PlanRuns.{AllDone}
use Rattle.spec_machine.proofs.Common.{writes_length, spared, window, written}
use Rattle.spec_language.proofs.CallRuns.{at, IsJob, with_core}
use Rattle.spec_language.proofs.OpenRuns.{reading, writing, with_open, at_own, at_other, job_core, job_open}
use Rattle.spec_language.proofs.EnterRuns.{side, part, Lists}
use Rattle.spec_language.proofs.BlockRuns.{take_more, put_at_end, moved, taken, takes_done, puts_done}

abbrev pub with_body : File → List ℕ → File
with_body f body = record f { body = body }

-- A number of blocks of a version were copied.
pub record Copying (me : ℕ) (from : Place) (v : SpecVersion) (to : Place) (kind : Kind) (file : File) (k : ℕ)
    (j : SpecJob)
    : Type 0 where
  pub whole : IsJob me j
  pub first : channel_at j 1 ≡ Some (reading from v (k + 1))
  pub second : channel_at j 2 ≡ Some (writing (side to kind (with_body file (take (k * 128) v.file.body)) (k + 1)))

-- A command list of `c` words stays when words are taken into the block after it.
pub kept_lists : (core : List ℕ) (count : ℕ) (ahead : List ℕ) (c : ℕ) → Lists c core → Lists c (taken core count ahead)
kept_lists core count ahead c is = record {
  command = spared core block_address (take count ahead) list_words (inl (omega arith)) ∙ is.command;
  end = spared core block_address (take count ahead) (list_words + 1) (inl (omega arith)) ∙ is.end;
}

-- where a block of a body begins
pub start_is : (k : ℕ) → block_start (k + 1) ≡ k * 128
start_is k = grind arith

-- an IN leaves the file after the blocks that it moves
pub blocks_moved : (core : List ℕ) (count : ℕ) (ahead : List ℕ) → count ≤ length ahead
    → blocks_of (moved core count ahead) ≡ blocks_of count
blocks_moved core count ahead there =
    let e : word_count (part count ∷ []) ≡ count = omega arith in
    ap blocks_of (ap (λ w. min w (length ahead)) e ∙ least count (length ahead) there)
  where
    least : (a b : ℕ) → a ≤ b → min a b ≡ a
    least a b le = omega arith

pub one_block : (count : ℕ) → 0 < count → count ≤ 128 → blocks_of count ≡ 1
one_block count some few = grind arith

pub whole_blocks : (b count : ℕ) → count ≡ b * 128 → blocks_of count ≡ b
whole_blocks b count size = grind arith

-- Blocks in runs, and those that make no run one by one.

pub next_blocks : (b more k : ℕ) → k + b + more * b ≡ k + suc more * b
next_blocks b more k = grind arith

pub by_runs : (blocks : ℕ) → 0 + blocks / blocks_at_once * blocks_at_once + blocks % blocks_at_once * 1 ≡ blocks
by_runs blocks = grind arith

pub runs_of : (blocks : ℕ) → blocks / blocks_at_once * blocks_at_once ≤ blocks
runs_of blocks = grind arith

module _ (pack : Pack) (s : State) (j0 : SpecJob) (there : job_at s 1 ≡ Some j0) (moment : Moment) where
  -- words are taken and put: the file has them after those that it had
  pub both_done : (me : ℕ) (j : SpecJob) (from : Place) (v : SpecVersion) (to : Place) (kind : Kind) (file : File)
      (k b count : ℕ) (t : State) → Copying me from v to kind file k j → 0 < count → count ≤ 2048 → blocks_of count ≡ b
      → Lists count j.core
      → k * 128 + count ≤ length v.file.body → AllDone pack (at s j) (in_event moment ∷ out_event moment ∷ []) t
      → (j' : SpecJob) × (t ≡ at s j') × IsJob me j' × (channel_at j' 1 ≡ Some (reading from v (k + b + 1)))
      × (channel_at j' 2 ≡ Some (writing (side to kind (with_body file (take (k * 128 + count) v.file.body))
      (k + b + 1))))
      × Lists count j'.core
  both_done me j from v to kind file k b count t is some few blocks lists there' (u, taking, (w, putting, same)) =
      let body = v.file.body in
      let ahead = words_from body (k + 1) in
      let begin = start_is k in
      let long : count ≤ length ahead = omega (arith, length-drop (block_start (k + 1)) body) in
      let next : k + 1 + blocks_of (moved j.core count ahead) ≡ k + b + 1 =
      omega (arith, blocks_moved j.core count ahead long, blocks) in
      let core = taken j.core count ahead in
      let c1 = with_core j core in
      let is1 : IsJob me c1 = job_core me j core is.whole
      (writes_length j.core (placed block_address (take count ahead))) in
      let j1 = with_open c1 1 (reading from v (k + b + 1)) in
      let first : u ≡ at s j1 = takes_done pack s j0 there moment me j from v (k + 1) count u is.whole is.first some few
      lists taking ∙ ap (λ n. at s (with_open c1 1 (reading from v n))) next in
      let is2 : IsJob me j1 = job_open me c1 1 (reading from v (k + b + 1)) is1 in
      let o = side to kind (with_body file (take (k * 128) body)) (k + 1) in
      let out : channel_at j1 2 ≡ Some (writing o) =
      at_other c1 1 2 (reading from v (k + b + 1)) (λ e. cc) ∙ is.second in
      let second =
      puts_done pack s j0 there moment me j1 o count w is2 out some few (kept_lists j.core count ahead
      count lists) (subst (λ x. Steps pack x (out_event moment) Done w) first putting) in
      let words : window core block_address count ≡ take count ahead = written j.core block_address count
      (take count ahead) (omega (arith, length-take count ahead)) (let l = is.whole.core in omega arith) in
      let long' : length (window core block_address count) ≡ count = ap length words ∙ omega (
        arith,
        length-take count
            ahead,
      ) in
      let after : o.next + blocks_of (length (window core block_address count)) ≡ k + b + 1 =
      ap (λ n. k + 1 + blocks_of n) long' ∙ omega (arith, blocks) in
      let body' : splice (take (k * 128) body) (k + 1) (window core block_address count) ≡ take (k * 128 + count) body =
      ap (splice (take (k * 128) body) (k + 1)) words
      ∙ put_at_end (take (k * 128) body) (k + 1) (take count ahead) (omega (arith, length-take (k * 128) body))
      ∙ ap (λ n. take (k * 128) body ++ take count (drop n body)) begin
      ∙ sym (take_more (k * 128) count body) in
      let o' = side to kind (with_body file (take (k * 128 + count) body)) (k + b + 1) in
      let j2 = with_open j1 2 (writing o') in (
        j2,
        same ∙ second
            ∙ ap {A = List ℕ × ℕ} (λ b. at s (with_open j1 2 (writing (side to kind (with_body file b.0) b.1))))
            (λ i. (body' i, after i)),
        job_open me j1 2 (writing o') is2,
        at_other j1 2 1 (writing o') (λ e. cc) ∙ at_own c1 me 1 (reading from v (k + b + 1)) is1 (omega arith),
        at_own j1 me 2 (writing o') is2 (omega arith),
        kept_lists j.core count ahead count lists,
      )
