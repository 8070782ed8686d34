-- A file that is read whole: the words that are fetched are those of the version that was found.
use Rattle.std.proofs.Common.{◌≡◌, ◌⊎◌, inl, inr, ⊎_elim, ℕ, zero, suc, ◌+◌, ◌-◌, ◌*◌, ◌/◌, ◌%◌, ◌<◌, ◌≤◌, List, []}
use Rattle.std.proofs.Common.{◌∷◌, ◌++◌, length, take, drop, Some, refl, sym, ap, subst, ◌∙◌, arith}
use Rattle.std.specs.Prelude.{slice_index}
use Rattle.std.proofs.lemmas.List.{length-take, length-drop, take_all, take-append-drop, drop-drop}
use Rattle.words36.specs.declared.moment.Moment.{Moment}
use Rattle.spec_image.specs.Common.{Place, SpecVersion, file_at, blocks_of, words_from, block_start, Pack}
use Rattle.spec_machine.specs.Common.{after_writes, placed, SpecJob, State, job_at, channel_at, size_word, longest}
use Rattle.spec_machine.specs.Common.{Service, Serving, Steps}
use Rattle.spec_language.specs.Texts.{Spoken, file_said}
use Rattle.spec_language.specs.Plans.{Plan, each, lookup_events, list_events, in_event, useti_event, fetches}
use Rattle.spec_language.specs.Plans.{list_words, block_address}
use Rattle.spec_language.specs.Plans.{file_words, blocks_at_once, type_runs_plan, type_blocks_plan, type_last_plan}
use Rattle.spec_language.specs.Plans.{type_body_plan}
use Rattle.spec_language.specs.Plans.{read_plan, examines, blocks_said, until_end, ends}
use Rattle.spec_language.specs.Copies.{Comes, IsJobReady, HasHalfwordExtension, AreShort, HasFiles, IsLineRefused}
use Rattle.spec_language.specs.Copies.{IsPrinted, place_of}
use Rattle.spec_language.specs.declared.command.Spec.{Spec}
use Rattle.spec_language.specs.declared.encoding.Encoding.{Encoding}
use Rattle.spec_machine.specs.declared.call.Event.{Event}
use Rattle.spec_machine.specs.declared.call.Reply.TheVariants.{Done}
use Rattle.spec_image.proofs.Common.{all_append}
use Rattle.spec_language.proofs.PlanRuns.{AllDone, each_done, split_done, goes_on}
use Rattle.spec_machine.proofs.Common.{IsQuiet, writes_length, spared, window, written}
use Rattle.spec_language.proofs.CallRuns.{at, IsJob, with_core, deposits_done}
use Rattle.spec_language.proofs.OpenRuns.{reading, with_open, at_own, job_core, job_open, Found, finds_done}
use Rattle.spec_language.proofs.EnterRuns.{Lists, list_pair, listing}
use Rattle.spec_language.proofs.BlockRuns.{take_more, taken, moved, takes_done, goes_done}
use Rattle.spec_language.proofs.CopyRuns.{kept_lists, start_is, blocks_moved, one_block, whole_blocks, next_blocks}
use Rattle.spec_language.proofs.CopyRuns.{by_runs, runs_of}
use Rattle.spec_language.proofs.SizeRuns.{said_blocks, sizes_done, fetched, told, quiet_deposits}
use Rattle.spec_language.proofs.CopyLaws.{until_done, listed_anew, quiet_finds, at_home}

-- Job 1 with a version that it reads, at a block.
pub record Reads (me : ℕ) (place : Place) (v : SpecVersion) (n count : ℕ) (j : SpecJob) : Type 0 where
  pub whole : IsJob me j
  pub first : channel_at j 1 ≡ Some (reading place v n)
  pub named : Lists count j.core

abbrev last_taken : Moment → ℕ → ℕ → List Event
last_taken moment count n = list_events count ++ useti_event moment n ∷ in_event moment ∷ []

-- Words of a body that follow one another, by parts as long as each other.

no_parts : (count : ℕ) → 0 ≡ zero * count
no_parts count = omega arith

next_part : (count more : ℕ) → count + more * count ≡ suc more * count
next_part count more = grind arith

parts_joined : (body : List ℕ) (from first others to sum : ℕ) → from + first ≡ to → first + others ≡ sum
    → take first (drop from body) ++ take others (drop to body) ≡ take sum (drop from body)
parts_joined body from first others to sum place all =
    ap (λ xs. take first (drop from body) ++ take others xs) (ap (λ n. drop n body) (sym place)
    ∙ sym (drop-drop first from body))
    ∙ sym (take_more first others (drop from body))
    ∙ ap (λ n. take n (drop from body)) all

words_by_runs : (blocks : ℕ)
    → blocks / blocks_at_once * (blocks_at_once * 128) + blocks % blocks_at_once * 128 ≡ blocks * 128
words_by_runs blocks = grind arith

module _ (pack : Pack) (s : State) (j0 : SpecJob) (there : job_at s 1 ≡ Some j0) (moment : Moment) where
  -- the words of some blocks come into the core
  blocks_taken : (me : ℕ) (place : Place) (v : SpecVersion) (k b count : ℕ) (j : SpecJob) (t : State)
      → Reads me place v (k + 1) count j → 0 < count → count ≤ 2048 → blocks_of count ≡ b
      → k * 128 + count ≤ length v.file.body → Steps pack (at s j) (in_event moment) Done t
      → (j' : SpecJob) × (t ≡ at s j') × Reads me place v (k + b + 1) count j'
      × (window j'.core block_address count ≡ take count (drop (k * 128) v.file.body))
  blocks_taken me place v k b count j t is some few blocks fits steps =
      let body = v.file.body in
      let ahead = words_from body (k + 1) in
      let begin = start_is k in
      let long : count ≤ length ahead = omega (arith, length-drop (block_start (k + 1)) body) in
      let next : k + 1 + blocks_of (moved j.core count ahead) ≡ k + b + 1 =
      omega (arith, blocks_moved j.core count ahead long, blocks) in
      let core = taken j.core count ahead in
      let c1 = with_core j core in
      let is1 : IsJob me c1 = job_core me j core is.whole
      (writes_length j.core (placed block_address (take count ahead))) in
      let to : t ≡ at s (with_open c1 1 (reading place v (k + b + 1))) =
      takes_done pack s j0 there moment me j place v (k + 1) count t is.whole is.first some few is.named steps
      ∙ ap (λ n. at s (with_open c1 1 (reading place v n))) next in
      let words : window core block_address count ≡ take count ahead = written j.core block_address count
      (take count ahead) (omega (arith, length-take count ahead)) (let l = is.whole.core in omega arith) in (
        with_open c1 1 (reading place v (k + b + 1)),
        to,
        record {
          whole = job_open me c1 1 (reading place v (k + b + 1)) is1;
          first = at_own c1 me 1 (reading place v (k + b + 1)) is1 (omega arith);
          named = kept_lists j.core count ahead count is.named;
        },
        words ∙ ap (λ n. take count (drop n body)) begin,
      )

  -- INs one after the other, each of the same number of blocks
  runs_read : (me : ℕ) (place : Place) (v : SpecVersion) (said : Spoken) (new : Service) (b count : ℕ) → 0 < b → b ≤ 16
      → count ≡ b * 128 → (more k : ℕ) (next : List ℕ → Plan) (j : SpecJob) → Reads me place v (k + 1) count j
      → (k + more * b) * 128 ≤ length v.file.body
      → Comes pack (Serving (at s j)) (type_runs_plan moment more count next) said new
      → IsLineRefused s.files said new
      ⊎ ((j' : SpecJob) × Reads me place v (k + more * b + 1) count j'
      × Comes pack (Serving (at s j')) (next (take (more * count) (drop (k * 128) v.file.body))) said new)
  unfolding type_runs_plan
  runs_read me place v said new b count some few size zero k next j is fits come =
      let e : k + 1 ≡ k + zero * b + 1 = omega arith in
      inr (
        j,
        subst (λ n. Reads me place v n count j) e is,
        subst (λ n. Comes pack (Serving (at s j)) (next (take n (drop (k * 128) v.file.body))) said new)
            (no_parts count) come,
      )
  runs_read me place v said new b count some few size (suc more) k next j is fits come = ⊎_elim inl
      (λ (t, (u, steps, same), files, rest).
      let left : (k + b + more * b) * 128 ≤ length v.file.body = omega (arith, next_blocks b more k) in
      let d = blocks_taken me place v k b count j u is (omega arith) (omega arith) (whole_blocks b count size)
      (omega arith)
      steps in
      let words = take count (drop (k * 128) v.file.body) in
      let behind : List ℕ → Plan = λ words. type_runs_plan moment more count (λ others. next (words ++ others)) in
      let got =
      fetched pack s j0 there moment count d.0 block_address behind said new
      (let l = d.2.whole.core in omega arith)
      (subst (λ x. Comes pack (Serving x) (fetches moment count block_address behind) said new) (same ∙ d.1) rest) in
      let one : k + b + more * b + 1 ≡ k + suc more * b + 1 = omega (arith, next_blocks b more k) in
      let all_words : words ++ take (more * count) (drop ((k + b) * 128) v.file.body)
      ≡ take (suc more * count) (drop (k * 128) v.file.body) =
      parts_joined v.file.body (k * 128) count (more * count) ((k + b) * 128) (suc more * count) (omega arith)
      (next_part count more) in
      ⊎_elim inl (λ (j', is', more'). inr (
        j',
        subst (λ n. Reads me place v n count j') one is',
        subst (λ ws. Comes pack (Serving (at s j')) (next ws) said new) all_words more',
      ))
      (runs_read me place v said new b count some few size more (k + b) (λ others. next (words ++ others)) d.0 d.2 left
      (subst (λ ws. Comes pack (Serving (at s d.0)) (behind ws) said new) d.3 got)))
      (each_done pack (at s j) moment (in_event moment ∷ []) (fetches moment count block_address
      (λ words. type_runs_plan moment more count (λ others. next (words ++ others)))) said new (tt, tt) come)

  -- the command list names another number of words
  read_anew : (me : ℕ) (place : Place) (v : SpecVersion) (said : Spoken) (new : Service) (n was count : ℕ) (next : Plan)
      (j : SpecJob) → Reads me place v n was j → Comes pack (Serving (at s j)) (each moment (list_events count) next)
      said new
      → IsLineRefused s.files said new
      ⊎ ((j' : SpecJob) × Reads me place v n count j' × Comes pack (Serving (at s j')) next said new)
  read_anew me place v said new n was count next j is come = ⊎_elim inl
      (λ (core, whole, named, rest).
      inr (with_core j core, record { whole = whole; first = is.first; named = named }, rest))
      (listed_anew pack s j0 there moment me count next said new j is.whole come)

  blocks_read : (me : ℕ) (place : Place) (v : SpecVersion) (said : Spoken) (new : Service) (blocks : ℕ)
      (next : List ℕ → Plan) (j : SpecJob) → Reads me place v 1 128 j → blocks * 128 ≤ length v.file.body
      → Comes pack (Serving (at s j)) (type_blocks_plan moment blocks next) said new
      → IsLineRefused s.files said new
      ⊎ ((j' : SpecJob) × Reads me place v (blocks + 1) 128 j'
      × Comes pack (Serving (at s j')) (next (take (blocks * 128) v.file.body)) said new)
  blocks_read me place v said new blocks next j is fits come = ⊎_elim inl
      (λ (j1, is1, come1). ⊎_elim inl
      (λ (j2, is2, come2). ⊎_elim inl
      (λ (j3, is3, come3). ⊎_elim inl
      (λ (j4, is4, come4). inr (
        j4,
        subst (λ n. Reads me place v (n + 1) 128 j4) (by_runs blocks) is4,
        subst (λ ws. Comes pack (Serving (at s j4)) (next ws) said new) all_words come4,
      ))
      (runs_read me place v said new 1 128 (omega arith) (omega arith) (omega arith) (blocks % blocks_at_once) runs
      (λ others. next (words ++ others)) j3 is3 (omega (arith, by_runs blocks)) come3))
      (read_anew me place v said new (runs + 1) (blocks_at_once * 128) 128
      (type_runs_plan moment (blocks % blocks_at_once) 128 (λ others. next (words ++ others))) j2 is2 come2))
      (runs_read me place v said new blocks_at_once (blocks_at_once * 128) (omega arith) (omega arith) (omega arith)
      (blocks / blocks_at_once) 0 behind j1 is1 (omega (arith, runs_of blocks)) come1))
      (read_anew me place v said new 1 128 (blocks_at_once * 128)
      (type_runs_plan moment (blocks / blocks_at_once) (blocks_at_once * 128) behind) j is come)
    where
      runs : ℕ
      runs = 0 + blocks / blocks_at_once * blocks_at_once

      words : List ℕ
      words = take (blocks / blocks_at_once * (blocks_at_once * 128)) (drop (0 * 128) v.file.body)

      behind : List ℕ → Plan
      behind words = each moment (list_events 128)
          (type_runs_plan moment (blocks % blocks_at_once) 128 (λ others. next (words ++ others)))

      all_words : words ++ take (blocks % blocks_at_once * 128) (drop (runs * 128) v.file.body)
          ≡ take (blocks * 128) v.file.body
      all_words = parts_joined v.file.body 0 (blocks / blocks_at_once * (blocks_at_once * 128))
          (blocks % blocks_at_once * 128)
          (runs * 128) (blocks * 128) (omega arith) (words_by_runs blocks)

  last_read : (me : ℕ) (place : Place) (v : SpecVersion) (said : Spoken) (new : Service) (more : ℕ)
      (next : List ℕ → Plan)
      (j : SpecJob) → Reads me place v (more + 1) 128 j → length v.file.body ≤ longest → more * 128 < length v.file.body
      → length v.file.body ≤ (more + 1) * 128
      → Comes pack (Serving (at s j)) (type_last_plan moment (more + 1) (size_word (length v.file.body)) next) said new
      → IsLineRefused s.files said new
      ⊎ ((j' : SpecJob) × IsJob me j' × ((n : ℕ) × (channel_at j' 1 ≡ Some (reading place v n)))
      × Comes pack (Serving (at s j')) (next (drop (more * 128) v.file.body)) said new)
  last_read me place v said new more next j is fits low high come =
      ⊎_elim inl (λ (j1, (is1, (k1, first1), second1, named1), c1). ⊎_elim inl
      (λ (t, all, same, rest). inr (behind j1 is1 k1 first1 t all rest))
      (each_done pack (at s j1) moment (last_taken moment count (more + 1))
      (fetches moment count block_address next) said
      new (all_append IsQuiet (list_events count) (useti_event moment (more + 1) ∷ in_event moment ∷ [])
      (quiet_deposits (list_pair count) list_words) (tt, (tt, tt))) c1))
      (sizes_done pack s j0 there moment me place v more (λ count. each moment (last_taken moment count (more + 1))
      (fetches moment count block_address next)) said new j is.whole (more + 1) is.first is.named fits low high come)
    where
      count : ℕ
      count = length v.file.body - more * 128

      behind : (j1 : SpecJob) → IsJob me j1 → (k : ℕ) → channel_at j1 1 ≡ Some (reading place v k)
          → (t : State) → AllDone pack (at s j1) (last_taken moment count (more + 1)) t
          → Comes pack (Serving t) (fetches moment count block_address next) said new
          → (j' : SpecJob) × IsJob me j' × ((n : ℕ) × (channel_at j' 1 ≡ Some (reading place v n)))
          × Comes pack (Serving (at s j')) (next (drop (more * 128) v.file.body)) said new
      behind j1 is1 k first1 t all rest =
          let parts = split_done pack (at s j1) (list_events count)
          (useti_event moment (more + 1) ∷ in_event moment ∷ []) t all in
          let core = after_writes j1.core (placed list_words (list_pair count)) in
          let j2 = with_core j1 core in
          let is2 : IsJob me j2 =
          job_core me j1 core is1 (writes_length j1.core (placed list_words (list_pair count))) in
          let to2 = deposits_done pack s j0 there (list_pair count) j1 list_words parts.0 parts.1 in
          let j3 = with_open j2 1 (reading place v (more + 1)) in
          let to3 : parts.2.0 ≡ at s j3 = goes_done pack s j0 there moment j2 place v (more + 1) k parts.2.0 first1
          (subst (λ u. Steps pack u (useti_event moment (more + 1)) Done parts.2.0) to2 parts.2.1) in
          let is3 : Reads me place v (more + 1) count j3 = record {
            whole = job_open me j2 1 (reading place v (more + 1)) is2;
            first = at_own j2 me 1 (reading place v (more + 1)) is2 (omega arith);
            named = listing j1.core count is1.core;
          } in
          let taking = parts.2.2 in
          let d = blocks_taken me place v more 1 count j3 taking.0 is3 (omega arith) (omega arith)
          (one_block count (omega arith) (omega arith)) (omega arith)
          (subst (λ u. Steps pack u (in_event moment) Done taking.0) to3 taking.1) in
          let all_words : take count (drop (more * 128) v.file.body) ≡ drop (more * 128) v.file.body =
          take_all count (drop (more * 128) v.file.body) (omega (arith, length-drop (more * 128) v.file.body)) in
          let got = fetched pack s j0 there moment count d.0 block_address next said new
          (let l = d.2.whole.core in omega arith)
          (subst (λ x. Comes pack (Serving x) (fetches moment count block_address next) said new) (taking.2 ∙ d.1)
          rest) in (
            d.0,
            d.2.whole,
            (more + 1 + 1, d.2.first),
            subst (λ ws. Comes pack (Serving (at s d.0)) (next ws) said new) (d.3 ∙ all_words) got,
          )

  body_read : (me : ℕ) (place : Place) (v : SpecVersion) (said : Spoken) (new : Service) (blocks : ℕ)
      (next : List ℕ → Plan) (j : SpecJob) → Reads me place v 1 128 j → length v.file.body ≤ longest
      → blocks ≡ blocks_of (length v.file.body)
      → Comes pack (Serving (at s j)) (type_body_plan moment blocks (size_word (length v.file.body)) next) said new
      → IsLineRefused s.files said new
      ⊎ ((j' : SpecJob) × IsJob me j' × ((n : ℕ) × (channel_at j' 1 ≡ Some (reading place v n)))
      × Comes pack (Serving (at s j')) (next v.file.body) said new)
  body_read me place v said new zero next j is fits count come =
      inr (
        j,
        is.whole,
        (1, is.first),
        subst (λ ws. Comes pack (Serving (at s j)) (next ws) said new)
            (sym (empty v.file.body (no_words (length v.file.body) count))) come,
      )
    where
      no_words : (len : ℕ) → 0 ≡ blocks_of len → len ≡ 0
      no_words len e = grind arith

      empty : (xs : List ℕ) → length xs ≡ 0 → xs ≡ []
      empty [] e = refl
      empty (x ∷ xs) e = absurd (omega arith)
  body_read me place v said new (suc more) next j is fits count come = ⊎_elim inl
      (λ (j1, is1, rest). ⊎_elim inl
      (λ (j2, is2, reads2, last). inr (
        j2,
        is2,
        reads2,
        subst (λ ws. Comes pack (Serving (at s j2)) (next ws) said new)
            (take-append-drop (more * 128) v.file.body) last,
      ))
      (last_read me place v said new more (λ others. next (take (more * 128) v.file.body ++ others)) j1 is1 fits
      (omega (arith, bounds)) (omega (arith, bounds))
      (subst (λ n. Comes pack (Serving (at s j1)) (type_last_plan moment n (size_word (length v.file.body))
      (λ others. next (take (more * 128) v.file.body ++ others))) said new) one_more rest)))
      (blocks_read me place v said new more (λ words. type_last_plan moment (suc more) (size_word (length v.file.body))
      (λ others. next (words ++ others))) j is (omega (arith, bounds)) come)
    where
      one_more : suc more ≡ more + 1
      one_more = omega arith

      bounds : (more * 128 < length v.file.body) × (length v.file.body ≤ (more + 1) * 128)
      bounds = bound more (length v.file.body) count
        where
          bound : (more len : ℕ) → suc more ≡ blocks_of len → (more * 128 < len) × (len ≤ (more + 1) * 128)
          bound more len e = (grind arith, grind arith)

pub reads_are_exact : (pack : Pack) (moment : Moment) (me : ℕ) (s : State) (encoding : Encoding) (spec : Spec)
    (said : Spoken) (new : Service) → IsJobReady s me → HasHalfwordExtension spec → AreShort s.files
    → Comes pack (Serving s) (read_plan moment encoding spec) said new
    → IsPrinted me s encoding spec said new ⊎ IsLineRefused s.files said new
reads_are_exact pack moment me s encoding spec said new ready few short come = ⊎_elim inr
    (λ (t, all, same, rest). begun t all rest)
    (each_done pack s moment (lookup_events moment spec ++ list_events 128) rests said new
    (all_append IsQuiet (lookup_events moment spec) (list_events 128) (quiet_finds moment spec)
    (quiet_deposits (list_pair 128) list_words)) come)
  where
    closing : List ℕ → Plan
    closing words = until_end moment (ends moment (file_said encoding words))

    rests : Plan
    rests = examines moment (file_words + 3) (λ size. type_body_plan moment (blocks_said size) size closing)

    j0 : SpecJob
    j0 = ready.job

    whole : IsJob me j0
    whole = record { owner = ready.owner; core = ready.core; channels = ready.channels }

    finished : (v : SpecVersion) → file_at s.files (place_of me spec) ≡ Some v → (j : SpecJob) → IsJob me j
        → ((n : ℕ) × (channel_at j 1 ≡ Some (reading (place_of me spec) v n)))
        → Comes pack (Serving (at s j)) (closing v.file.body) said new
        → IsPrinted me s encoding spec said new ⊎ IsLineRefused s.files said new
    finished v found j is (n, first) more = ⊎_elim inr (λ (j', same, rest). inl (shown (goes_on pack (at s j') moment
        (file_said encoding v.file.body) said new rest)))
        (until_done pack s j0 ready.logged_in moment me (reading (place_of me spec) v n)
        (ends moment (file_said encoding v.file.body)) said new j is first more)
      where
        shown : (said ≡ file_said encoding v.file.body)
            × ((after : State) × (new ≡ Serving after) × (after.files ≡ s.files))
            → IsPrinted me s encoding spec said new
        shown (e, (after, serves, files)) = ((v, found, e), subst (HasFiles s.files) (sym serves) files)

    begun : (t : State) → AllDone pack s (lookup_events moment spec ++ list_events 128) t
        → Comes pack (Serving t) rests said new
        → IsPrinted me s encoding spec said new ⊎ IsLineRefused s.files said new
    begun t all rest =
        let there = ready.logged_in in
        let both = split_done pack (at s j0) (lookup_events moment spec) (list_events 128) t
        (subst (λ u. AllDone pack u (lookup_events moment spec ++ list_events 128) t) (at_home s j0 there) all) in
        let f : Found s me spec j0 both.0 = finds_done pack s j0 there moment me j0 spec both.0 whole few both.1 in
        let core = after_writes f.job.core (placed list_words (list_pair 128)) in
        let j = with_core f.job core in
        let is : IsJob me j = job_core me f.job core f.whole
        (writes_length f.job.core (placed list_words (list_pair 128))) in
        let to_j : t ≡ at s j = deposits_done pack s j0 there (list_pair 128) f.job list_words t
        (subst (λ u. AllDone pack u (list_events 128) t) f.is both.2) in
        let v = f.version in
        let size : slice_index core (file_words + 3) ≡ size_word (length v.file.body) =
        spared f.job.core list_words (list_pair 128) (file_words + 3) (inl (omega arith)) ∙ f.size in
        let fits : length v.file.body ≤ longest = short (place_of me spec) v f.there in
        let examined = told pack s j0 there moment j (file_words + 3)
        (λ size. type_body_plan moment (blocks_said size) size closing) said new (let l = is.core in omega arith)
        (subst (λ u. Comes pack (Serving u) rests said new) to_j rest) in
        let sized =
        subst (λ n. Comes pack (Serving (at s j)) (type_body_plan moment (blocks_said n) n closing) said new) size
        examined in
        ⊎_elim inr (λ (j', is', reads', more). finished v f.there j' is' reads' more)
        (body_read pack s j0 there moment me (place_of me spec) v said new
        (blocks_said (size_word (length v.file.body))) closing j
        (record { whole = is; first = f.first; named = listing f.job.core 128 f.whole.core }) fits
        (said_blocks (length v.file.body) fits) sized)
