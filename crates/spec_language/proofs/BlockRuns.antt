-- Words of a block that job 1 takes from channel 1 and puts on channel 2, by a command list.
use Rattle.std.proofs.Common.{◌≡◌, ℕ, zero, suc, ◌+◌, ◌-◌, ◌<◌, ◌≤◌, List, [], ◌∷◌, ◌++◌, length, take, drop, min}
use Rattle.std.proofs.Common.{Some, option_map, refl, sym, ap, ◌∙◌, arith, append-nil}
use Rattle.std.proofs.lemmas.List.{take_all, drop_all}
use Rattle.words36.specs.declared.moment.Moment.{Moment}
use Rattle.spec_image.specs.Common.{Place, SpecVersion, blocks_of, splice, block_start, words_from, Pack}
use Rattle.spec_machine.specs.Common.{after_writes, placed, dealt, joined, word_count, SpecJob, State, SpecOutput}
use Rattle.spec_machine.specs.Common.{job_at}
use Rattle.spec_machine.specs.Common.{channel_at, with_channel, in_answer, in_done, areas_or_none, useti_answer}
use Rattle.spec_machine.specs.Common.{useti_done, out_answer, out_done, put_done, stopped_in, Steps}
use Rattle.spec_language.specs.Plans.{in_event, out_event, useti_event, list_words, block_address}
use Rattle.spec_machine.specs.declared.call.Call.TheVariants.{In, Out, Useti}
use Rattle.spec_machine.specs.declared.call.Reply.TheVariants.{Done}
use Rattle.spec_machine.proofs.Common.{window, range_window}
use Rattle.spec_language.proofs.CallRuns.{at, IsJob, with_core, call_done, on_open, row_done}
use Rattle.spec_language.proofs.OpenRuns.{reading, writing, with_open}
use Rattle.spec_language.proofs.EnterRuns.{part, Lists, listed}

take_none : {X : Type 0} (k : ℕ) → take {A = X} k [] ≡ []
take_none zero = refl
take_none (suc k) = refl

pub take_more : {X : Type 0} (a b : ℕ) (xs : List X) → take (a + b) xs ≡ take a xs ++ take b (drop a xs)
take_more zero b xs = let e : 0 + b ≡ b = omega arith in ap (λ k. take k xs) e
take_more (suc a) b [] = take_none (suc a + b) ∙ sym (take_none b)
take_more (suc a) b (x ∷ xs) =
    let e : suc a + b ≡ suc (a + b) = omega arith in
    ap (λ k. take k (x ∷ xs)) e ∙ ap (λ ys. x ∷ ys) (take_more a b xs)

-- words that are put at the end of a body
pub put_at_end : (body : List ℕ) (block : ℕ) (ws : List ℕ) → block_start block ≡ length body
    → splice body block ws ≡ body ++ ws
put_at_end body block [] e = sym (append-nil body)
put_at_end body block (w ∷ ws) e =
    let whole : take (block_start block) body ≡ body = take_all (block_start block) body (omega arith) in
    let gap : block_start block - length body ≡ 0 = omega arith in
    let behind : drop (block_start block + length (w ∷ ws)) body ≡ [] = drop_all _ body (omega arith) in
    rw (whole, gap, behind, append-nil body, append-nil (body ++ (w ∷ ws))) refl

-- the words that an IN moves, of those that are asked for
abbrev pub moved : List ℕ → ℕ → List ℕ → ℕ
moved core count ahead = min (word_count (part count ∷ [])) (length ahead)

abbrev pub taken : List ℕ → ℕ → List ℕ → List ℕ
taken core count ahead = after_writes core (placed block_address (take count ahead))

module _ (pack : Pack) (s : State) (j0 : SpecJob) (there : job_at s 1 ≡ Some j0) (moment : Moment) where
  -- the next words of a version come into the block
  pub takes_done : (me : ℕ) (j : SpecJob) (place : Place) (v : SpecVersion) (n count : ℕ) (t : State) → IsJob me j
      → channel_at j 1 ≡ Some (reading place v n) → 0 < count → count ≤ 2048 → Lists count j.core
      → Steps pack (at s j) (in_event moment) Done t
      → t ≡ at s (with_open (with_core j (taken j.core count (words_from v.file.body n))) 1
      (reading place v (n + blocks_of (moved j.core count (words_from v.file.body n)))))
  takes_done me j place v n count t is held some few lists steps =
      let call = call_done pack s j0 there j (In 1 list_words) moment t steps in
      let c = reading place v n in
      let row = row_done pack s j0 there j (in_answer j c list_words) (in_done j 1 c list_words) (stopped_in j 1 c) t
      (on_open pack s j0 there j 1 c _ t held call.1) in
      let ahead = words_from v.file.body n in
      let names = listed j.core count some few is.core lists in
      row.1
      ∙ ap (λ o. at s (with_open (with_core j (after_writes j.core (dealt (areas_or_none o) ahead))) 1
      (reading place v (n + blocks_of (min (word_count (areas_or_none o)) (length ahead)))))) names
      ∙ ap (λ ws. at s (with_open (with_core j (after_writes j.core ws)) 1
      (reading place v (n + blocks_of (moved j.core count ahead)))))
      (append-nil (placed block_address (take count ahead)))

  -- the words of the block are put after those that were there
  pub puts_done : (me : ℕ) (j : SpecJob) (o : SpecOutput) (count : ℕ) (t : State) → IsJob me j
      → channel_at j 2 ≡ Some (writing o) → 0 < count → count ≤ 2048 → Lists count j.core
      → Steps pack (at s j) (out_event moment) Done t
      → t ≡ at s (with_open j 2 (writing (record o {
        pending = record o.pending { body = splice o.pending.body o.next (window j.core block_address count) };
        next = o.next + blocks_of (length (window j.core block_address count));
      })))
  puts_done me j o count t is held some few lists steps =
      let call = call_done pack s j0 there j (Out 2 list_words) moment t steps in
      let c = writing o in
      let row = row_done pack s j0 there j (out_answer pack (at s j) j c list_words) (out_done j 2 c list_words)
      (stopped_in j 2 c) t (on_open pack s j0 there j 2 c _ t held call.1) in
      let names = listed j.core count some few is.core lists in
      let words : joined j.core (part count ∷ []) ≡ window j.core block_address count =
      append-nil _ ∙ range_window j.core block_address count in
      row.1
      ∙ ap (λ a. at s (put_done j 2 c (option_map (λ areas. record { words = joined j.core areas; core = j.core }) a)))
      names
      ∙ ap (λ ws. at s (with_open j 2 (writing (record o {
        pending = record o.pending { body = splice o.pending.body o.next ws };
        next = o.next + blocks_of (length ws);
      })))) words

  pub goes_done : (j : SpecJob) (place : Place) (v : SpecVersion) (n k : ℕ) (t : State)
      → channel_at j 1 ≡ Some (reading place v k) → Steps pack (at s j) (useti_event moment n) Done t
      → t ≡ at s (with_open j 1 (reading place v n))
  goes_done j place v n k t held steps =
      let call = call_done pack s j0 there j (Useti 1 n) moment t steps in
      let c = reading place v k in
      (row_done pack s j0 there j (useti_answer c n) (with_channel j 1 (Some (useti_done c n))) (stopped_in j 1 c) t
      (on_open pack s j0 there j 1 c _ t held call.1)).1
