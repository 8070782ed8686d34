-- How long a body is: by the word of its LOOKUP, or by the words of its last block, which two INs determine.
use Rattle.std.proofs.Common.{◌≡◌, ◌⊎◌, inl, inr, ⊎_elim, ℕ, zero, suc, ◌+◌, ◌-◌, ◌*◌, ◌%◌, ◌^◌, ◌<◌, ◌≤◌, Bool, true}
use Rattle.std.proofs.Common.{false, if◌then◌else◌, IsTrue, List, [], ◌∷◌, ◌++◌, length, take, drop, replicate, Some}
use Rattle.std.proofs.Common.{refl, sym, ap, subst, ◌∙◌, arith}
use Rattle.std.specs.Prelude.{slice_index, nat_le, nat_lt}
use Rattle.std.specs.List.{AllByRecursion}
use Rattle.std.proofs.lemmas.List.{length-take, length-drop, length-replicate}
use Rattle.std.proofs.lemmas.Bool.{eq-eqb}
use Rattle.std.proofs.lemmas.Bool.Decides.{nat_tests}
use Rattle.words36.specs.Common.{left, join}
use Rattle.words36.specs.declared.moment.Moment.{Moment}
use Rattle.spec_image.specs.Common.{Place, SpecVersion, blocks_of, words_from, block_start, Pack}
use Rattle.spec_machine.specs.Common.{after_writes, placed, SpecJob, State, job_at, channel_at, size_word, longest}
use Rattle.spec_machine.specs.Common.{Service, Serving, Broken, Answers, Steps, examine_answer, on_job}
use Rattle.spec_language.specs.Texts.{Spoken}
use Rattle.spec_language.specs.Plans.{Plan, examines, fetches, if_told, says_words, blocks_said, last_said}
use Rattle.spec_language.specs.Plans.{same_words, takes_over, counts, sizes, in_event, useti_event, deposit_events}
use Rattle.spec_language.specs.Plans.{block_address}
use Rattle.spec_language.specs.Plans.{list_words}
use Rattle.spec_language.specs.Copies.{Comes, IsLineRefused}
use Rattle.spec_machine.specs.declared.call.Event.TheVariants.{Examine}
use Rattle.spec_machine.specs.declared.call.Reply.{Reply}
use Rattle.spec_machine.specs.declared.call.Reply.TheVariants.{Done, Value, AddressCheck}
use Rattle.spec_image.proofs.Common.{all_append}
use Rattle.spec_language.proofs.PlanRuns.{AllDone, asked, each_done, split_done}
use Rattle.spec_machine.proofs.Common.{IsQuiet, writes_length, spared, window, window-cons, overlaid, written}
use Rattle.spec_language.proofs.CallRuns.{at, IsJob, with_core, job_there, deposits_done}
use Rattle.spec_language.proofs.OpenRuns.{reading, with_open, at_own, at_other, job_core, job_open}
use Rattle.spec_language.proofs.EnterRuns.{Lists}
use Rattle.spec_language.proofs.BlockRuns.{taken, moved, takes_done, goes_done}
use Rattle.spec_language.proofs.CopyRuns.{kept_lists, start_is}

-- What the word of a LOOKUP says.

left_is : (h : ℕ) → left (join h 0) ≡ h
left_is h = grind arith

size_few : (len : ℕ) → len ≤ 131072 → left (size_word len) ≡ (2 ^ 18 - len) % 2 ^ 18
size_few len few = let b : nat_le len 131072 ≡ true = grind (arith, nat_tests) in
    ap (λ b. left (join (if b then (2 ^ 18 - len) % 2 ^ 18 else blocks_of len) 0)) b ∙ left_is ((2 ^ 18 - len) % 2 ^ 18)

size_many : (len : ℕ) → 131072 < len → left (size_word len) ≡ blocks_of len
size_many len many = let b : nat_le len 131072 ≡ false = grind (arith, nat_tests) in
    ap (λ b. left (join (if b then (2 ^ 18 - len) % 2 ^ 18 else blocks_of len) 0)) b ∙ left_is (blocks_of len)

said_if : (h len : ℕ) → (h ≡ blocks_of len) × (h < 2 ^ 17) ⊎ ((2 ^ 17 ≤ h) × (2 ^ 18 - h ≡ len))
    → (if nat_le (2 ^ 17) h then blocks_of (2 ^ 18 - h) else h) ≡ blocks_of len
said_if h len (inl (e, few)) = let b : nat_le (2 ^ 17) h ≡ false = grind (arith, nat_tests) in
    ap (λ b. if b then blocks_of (2 ^ 18 - h) else h) b ∙ e
said_if h len (inr (many, e)) = let b : nat_le (2 ^ 17) h ≡ true = grind (arith, nat_tests) in
    ap (λ b. if b then blocks_of (2 ^ 18 - h) else h) b ∙ ap blocks_of e

few_blocks : (len : ℕ) → len ≤ longest → blocks_of len < 2 ^ 17
few_blocks len fits = grind arith

below_or_not : (n k : ℕ) → (n ≤ k) ⊎ (k < n)
below_or_not n k = grind (arith, nat_tests)

pub said_blocks : (len : ℕ) → len ≤ longest → blocks_said (size_word len) ≡ blocks_of len
said_blocks zero fits = refl
said_blocks (suc len) fits = ⊎_elim
    (λ few. let e : left (size_word (suc len)) ≡ 2 ^ 18 - suc len = size_few (suc len) few ∙ whole few in
    said_if (left (size_word (suc len))) (suc len) (inr (omega (arith, e, few), omega (arith, e, few))))
    (λ many. let e = size_many (suc len) many in
    said_if (left (size_word (suc len))) (suc len) (inl (e, omega (arith, e, few_blocks (suc len) fits))))
    (below_or_not (suc len) 131072)
  where
    whole : suc len ≤ 131072 → (2 ^ 18 - suc len) % 2 ^ 18 ≡ 2 ^ 18 - suc len
    whole few = grind arith

pub said_last : (len : ℕ) → 0 < len → len ≤ longest → says_words (size_word len) ≡ true
    → last_said (size_word len) ≡ (len - 1) % 128 + 1
said_last len some fits says = ⊎_elim
    (λ few. let e : left (size_word len) ≡ 2 ^ 18 - len = size_few len few ∙ whole few in
    let back : 2 ^ 18 - left (size_word len) - 1 ≡ len - 1 = omega (arith, e, few) in
    ap (λ n. n % 128 + 1) back)
    (λ many. absurd (not_said (left (size_word len)) (omega (arith, size_many len many, few_blocks len fits)) says))
    (below_or_not len 131072)
  where
    whole : len ≤ 131072 → (2 ^ 18 - len) % 2 ^ 18 ≡ 2 ^ 18 - len
    whole few = grind arith

    not_said : (h : ℕ) → h < 2 ^ 17 → nat_le (2 ^ 17) h ≡ true → ⊥
    not_said h few e = grind (arith, nat_tests)

-- Words that are the same.

same_behind : (ws xs ys : List ℕ) → same_words (ws ++ xs) (ws ++ ys) ≡ length ws + same_words xs ys
same_behind [] xs ys = omega arith
same_behind (w ∷ ws) xs ys = let e = eq-eqb w w refl in rw (e, same_behind ws xs ys) (omega arith)

none_same : (n k : ℕ) → same_words (drop k (replicate n 0)) (drop k (replicate n 1)) ≡ 0
none_same zero zero = refl
none_same zero (suc k) = refl
none_same (suc n) zero = ap (λ k. 0 + k) (none_same n zero)
none_same (suc n) (suc k) = none_same n k

abbrev pub laid : List ℕ → ℕ → List ℕ
laid ws word = ws ++ drop (length ws) (replicate 128 word)

pub same_laid : (ws : List ℕ) → same_words (laid ws 0) (laid ws 1) ≡ length ws
same_laid ws = same_behind ws (drop (length ws) (replicate 128 0)) (drop (length ws) (replicate 128 1))
    ∙ ap (λ n. length ws + n) (none_same 128 (length ws)) ∙ zero_more (length ws)
  where
    zero_more : (n : ℕ) → n + 0 ≡ n
    zero_more n = omega arith

pub quiet_deposits : (ws : List ℕ) (a : ℕ) → AllByRecursion IsQuiet (deposit_events a ws)
quiet_deposits [] a = tt
quiet_deposits (w ∷ ws) a = (tt, quiet_deposits ws (a + 1))

-- job 1 with a version that it reads, and what was on channel 2
abbrev pub Between : ℕ → Place → SpecVersion → SpecJob → SpecJob → Type 0
Between me place v j j' = IsJob me j' × ((next : ℕ) × (channel_at j' 1 ≡ Some (reading place v next)))
    × (channel_at j' 2 ≡ channel_at j 2) × Lists 128 j'.core

-- Words of the core that are examined.
module _ (pack : Pack) (s : State) (j0 : SpecJob) (there : job_at s 1 ≡ Some j0) (moment : Moment) where
  pub told : (j : SpecJob) (a : ℕ) (next : ℕ → Plan) (said : Spoken) (new : Service) → a < length j.core
      → Comes pack (Serving (at s j)) (examines moment a next) said new
      → Comes pack (Serving (at s j)) (next (slice_index j.core a)) said new
  told j a next said new small c = by (asked pack (Serving (at s j)) (Examine 1 a) (if_told moment next) said new c)
    where
      is_value : examine_answer j a ≡ Value (slice_index j.core a)
      is_value = let b : nat_lt a (length j.core) ≡ true = grind (arith, nat_tests) in
          ap (λ b. if b then Value (slice_index j.core a) else AddressCheck) b

      row : (reply : Reply) (t : State) → Steps pack (at s j) (Examine 1 a) reply t
          → ◌≡◌ {A = Reply × State} (Value (slice_index j.core a), at s j) (reply, t)
      row reply t (serial, fresh, e) = ap {B = Reply × State} (λ r. (r, at s j)) (sym is_value)
          ∙ subst (λ o. on_job (at s j) o (λ job. (examine_answer job a, at s j)) ≡ (reply, t))
          (job_there pack s j0 there j) e

      by : ((reply : Reply) × (mid : Service) × Answers pack (Serving (at s j)) (Examine 1 a) reply mid
          × Comes pack mid (if_told moment next reply) said new)
          → Comes pack (Serving (at s j)) (next (slice_index j.core a)) said new
      by (reply, Broken, (device, undecided, touches), more) = let wrong : IsTrue false = touches in cc
      by (reply, Serving t, inl steps, more) =
          let e = row reply t steps in
          subst (λ (x : Reply × State). Comes pack (Serving x.1) (if_told moment next x.0) said new) (sym e) more
      by (reply, Serving t, inr (none, same, undecided, wants), more) = let wrong : IsTrue false = wants in cc

  pub fetched : (count : ℕ) (j : SpecJob) (a : ℕ) (next : List ℕ → Plan) (said : Spoken) (new : Service)
      → a + count ≤ length j.core → Comes pack (Serving (at s j)) (fetches moment count a next) said new
      → Comes pack (Serving (at s j)) (next (window j.core a count)) said new
  unfolding fetches
  fetched zero j a next said new small c = c
  fetched (suc count) j a next said new small c =
      let first =
      told j a (λ word. fetches moment count (a + 1) (λ words. next (word ∷ words))) said new (omega arith) c in
      let rest = fetched count j (a + 1) (λ words. next (slice_index j.core a ∷ words)) said new (omega arith) first in
      subst (λ ws. Comes pack (Serving (at s j)) (next ws) said new)
      (sym (window-cons j.core a count (omega arith))) rest

  -- Block n is taken over words that are all the same: these remain after the words of the version.
  takes_over_done : (me : ℕ) (place : Place) (v : SpecVersion) (n word : ℕ) (next : List ℕ → Plan) (said : Spoken)
      (new : Service) (j : SpecJob) → IsJob me j → (k : ℕ) → channel_at j 1 ≡ Some (reading place v k)
      → Lists 128 j.core
      → Comes pack (Serving (at s j)) (takes_over moment n word next) said new
      → IsLineRefused s.files said new
      ⊎ ((j' : SpecJob) × Between me place v j j' × Comes pack (Serving (at s j'))
      (next (laid (take 128 (words_from v.file.body n)) word)) said new)
  takes_over_done me place v n word next said new j is k first lists c = ⊎_elim inl (λ (t, all, same, more).
      inr (behind t all more)) (each_done pack (at s j) moment _ _ said new (all_append IsQuiet
      (deposit_events block_address (replicate 128 word)) (useti_event moment n ∷ in_event moment ∷ [])
      (quiet_deposits (replicate 128 word) block_address) (tt, (tt, tt))) c)
    where
      ahead : List ℕ
      ahead = words_from v.file.body n

      behind : (t : State)
          → AllDone pack (at s j)
          (deposit_events block_address (replicate 128 word) ++ useti_event moment n ∷ in_event moment ∷ []) t
          → Comes pack (Serving t) (fetches moment 128 block_address next) said new
          → (j' : SpecJob) × Between me place v j j' × Comes pack (Serving (at s j'))
          (next (laid (take 128 ahead) word)) said new
      behind t all more =
          let parts = split_done pack (at s j) (deposit_events block_address (replicate 128 word))
          (useti_event moment n ∷ in_event moment ∷ []) t all in
          let ws : List ℕ = replicate 128 word in
          let core1 = after_writes j.core (placed block_address ws) in
          let j1 = with_core j core1 in
          let is1 : IsJob me j1 = job_core me j core1 is (writes_length j.core (placed block_address ws)) in
          let first1 = deposits_done pack s j0 there ws j block_address parts.0 parts.1 in
          let lists1 : Lists 128 core1 = record {
            command = spared j.core block_address ws list_words (inl (omega arith)) ∙ lists.command;
            end = spared j.core block_address ws (list_words + 1) (inl (omega arith)) ∙ lists.end;
          } in
          let j2 = with_open j1 1 (reading place v n) in
          let is2 : IsJob me j2 = job_open me j1 1 (reading place v n) is1 in
          let first2 : parts.2.0 ≡ at s j2 = goes_done pack s j0 there moment j1 place v n k parts.2.0 first
          (subst (λ u. Steps pack u (useti_event moment n) Done parts.2.0) first1 parts.2.1) in
          let open2 : channel_at j2 1 ≡ Some (reading place v n) =
          at_own j1 me 1 (reading place v n) is1 (omega arith) in
          let core3 = taken core1 128 ahead in
          let c3 = reading place v (n + blocks_of (moved core1 128 ahead)) in
          let j3 = with_open (with_core j2 core3) 1 c3 in
          let is3 : IsJob me (with_core j2 core3) = job_core me j2 core3 is2
          (writes_length core1 (placed block_address (take 128 ahead))) in
          let first3 : parts.2.2.0 ≡ at s j3 =
          takes_done pack s j0 there moment me j2 place v n 128 parts.2.2.0 is2 open2
          (omega arith) (omega arith) lists1
          (subst (λ u. Steps pack u (in_event moment) Done parts.2.2.0) first2 parts.2.2.1) in
          let here : window core3 block_address 128 ≡ laid (take 128 ahead) word =
          overlaid core1 block_address 128 (take 128 ahead) (omega (arith, length-take 128 ahead))
          (let l = is1.core in omega arith)
          ∙ ap (λ ys. take 128 ahead ++ drop (length (take 128 ahead)) ys) (written j.core block_address 128 ws
          (length-replicate 128 word) (let l = is.core in omega arith)) in
          let left = fetched 128 j3 block_address next said new (let l = is3.core in omega arith)
          (subst (λ u. Comes pack (Serving u) (fetches moment 128 block_address next) said new)
          (parts.2.2.2 ∙ first3) more) in (
            j3,
            (
              job_open me (with_core j2 core3) 1 c3 is3,
              (n + blocks_of (moved core1 128 ahead), at_own (with_core j2 core3) me 1 c3 is3 (omega arith)),
              at_other (with_core j2 core3) 1 2 c3 (λ e. cc) ∙ at_other j1 1 2 (reading place v n) (λ e. cc),
              kept_lists core1 128 ahead 128 lists1,
            ),
            subst (λ ws. Comes pack (Serving (at s j3)) (next ws) said new) here left,
          )

  -- How many words the last block has, however that is found out.
  pub sizes_done : (me : ℕ) (place : Place) (v : SpecVersion) (more : ℕ) (next : ℕ → Plan) (said : Spoken)
      (new : Service)
      (j : SpecJob) → IsJob me j → (k : ℕ) → channel_at j 1 ≡ Some (reading place v k) → Lists 128 j.core
      → length v.file.body ≤ longest → more * 128 < length v.file.body → length v.file.body ≤ (more + 1) * 128
      → Comes pack (Serving (at s j)) (sizes moment (more + 1) (size_word (length v.file.body)) next) said new
      → IsLineRefused s.files said new
      ⊎ ((j' : SpecJob) × Between me place v j j'
      × Comes pack (Serving (at s j')) (next (length v.file.body - more * 128)) said new)
  sizes_done me place v more next said new j is k first lists fits low high c = by (says_words size) refl c
    where
      len : ℕ
      len = length v.file.body

      size : ℕ
      size = size_word len

      counted : len - more * 128 ≡ (len - 1) % 128 + 1
      counted = last_of len more low high
        where
          last_of : (len more : ℕ) → more * 128 < len → len ≤ (more + 1) * 128 → len - more * 128 ≡ (len - 1) % 128 + 1
          last_of len more low high = grind arith

      ahead : List ℕ
      ahead = take 128 (words_from v.file.body (more + 1))

      ahead_is : length ahead ≡ len - more * 128
      ahead_is =
          let a = length-take 128 (words_from v.file.body (more + 1)) in
          let b = length-drop (block_start (more + 1)) v.file.body in
          let d = start_is more in
          omega arith

      by : (b : Bool) → says_words size ≡ b
          → Comes pack (Serving (at s j)) (if b then next (last_said size) else counts moment (more + 1) next) said new
          → IsLineRefused s.files said new
          ⊎ ((j' : SpecJob) × Between me place v j j' × Comes pack (Serving (at s j')) (next (len - more * 128)) said
          new)
      by true says c = inr (
        j,
        (is, (k, first), refl, lists),
        subst (λ n. Comes pack (Serving (at s j)) (next n) said new)
            (said_last len (omega arith) fits says ∙ sym counted) c,
      )
      by false says c = ⊎_elim inl (λ (j1, (is1, (k1, first1), second1, lists1), c1). ⊎_elim inl
          (λ (j2, (is2, reads2, second2, lists2), c2). inr (
            j2,
            (is2, reads2, second2 ∙ second1, lists2),
            subst (λ n. Comes pack (Serving (at s j2)) (next n) said new) (same_laid ahead ∙ ahead_is) c2,
          ))
          (takes_over_done me place v (more + 1) 1 (λ ones. next (same_words (laid ahead 0) ones)) said new j1 is1 k1
          first1 lists1 c1))
          (takes_over_done me place v (more + 1) 0
          (λ zeros. takes_over moment (more + 1) 1 (λ ones. next (same_words zeros ones))) said new j is k first lists
          c)
