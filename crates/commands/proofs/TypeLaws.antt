-- The events that read a file and the progress of its plan, call by call; and the bytes of words that follow one
-- another.
use Rattle.std.proofs.Common.{◌≡◌, ℕ, ◌+◌, ◌-◌, ◌*◌, ◌/◌, ◌%◌, ◌<◌, ◌≤◌, ◌||◌, Bool, true, List, [], ◌∷◌, ◌++◌, zero}
use Rattle.std.proofs.Common.{suc, length, take, drop, arith, sym, ◌∙◌, ap, subst, append_assoc, append-nil, Result}
use Rattle.std.proofs.Common.{Ok, Err, IfOk}
use Rattle.std.proofs.lemmas.List.{take_all, take-append-drop, drop-drop}
use Rattle.std.proofs.lemmas.Grind.{flat_map-append}
use Rattle.std.specs.Prelude.{flat_map}
use Rattle.std.specs.Simd.{first_chunks}
use Rattle.words36.specs.declared.moment.Moment.{Moment}
use Rattle.spec_language.specs.Common.{Plan, Say, each, examines, fetches, sizes, lookup_events, list_events, in_event}
use Rattle.spec_language.specs.Common.{useti_event, ends, fails, file_words, block_address, blocks_said}
use Rattle.spec_language.specs.Common.{type_blocks_plan, type_last_plan, type_body_plan, until_end, read_plan}
use Rattle.spec_language.specs.Common.{blocks_at_once, type_runs_plan, Spoken, file_said, refuses, refusal, is_broken}
use Rattle.spec_language.specs.Common.{line}
use Rattle.words36.specs.Common.{word_bytes, block_bytes}
use Rattle.spec_language.specs.declared.encoding.Encoding.{Encoding}
use Rattle.spec_machine.specs.declared.call.Event.{Event}
use Rattle.spec_machine.specs.declared.call.Reply.{Reply}
use Rattle.spec_language.specs.declared.command.Spec.{Spec}
use Rattle.commands.specs.Common.{FollowsPlan, FinishesPlan, Tells, followed, AreTyped, HasTyped, Machine, AlwaysStands}
use Rattle.commands.specs.Common.{AreShown}
use Rattle.commands.specs.declared.answer.Tally.{Tally}
use Rattle.commands.specs.declared.type_line.Target.{Target}
use Rattle.commands.specs.declared.type_line.Target.TheVariants.{Text}
use Rattle.commands.specs.declared.type_line.Typed.{Typed}
use Rattle.commands.proofs.AnswerLaws.{or-true}
use Rattle.commands.proofs.LedLaws.{led_on, led_still, each_append}
use Rattle.commands.proofs.BodyLaws.{fetches_next, fetches_shown}

-- The words of whole blocks, and those after them.

chunks_joined : (size count : ℕ) (words : List ℕ)
    → flat_map block_bytes (first_chunks size count words) ++ flat_map word_bytes (drop (count * size) words)
    ≡ flat_map word_bytes words
chunks_joined size zero words = let none : zero * size ≡ 0 = omega arith in
    ap (λ n. flat_map word_bytes (drop n words)) none
chunks_joined size (suc count) words =
    let place : suc count * size ≡ size + count * size = grind arith in
    let block = take size words in
    append_assoc (block_bytes block) (flat_map block_bytes (first_chunks size count (drop size words)))
    (flat_map word_bytes (drop (suc count * size) words))
    ∙ ap (λ l. block_bytes block ++ (flat_map block_bytes (first_chunks size count (drop size words))
    ++ flat_map word_bytes l)) (ap (λ n. drop n words) place ∙ sym (drop-drop (count * size) size words))
    ∙ ap (λ l. block_bytes block ++ l) (chunks_joined size count (drop size words))
    ∙ sym (flat_map-append word_bytes block (drop size words))
    ∙ ap (flat_map word_bytes) (take-append-drop size words)

pub chunks_pushed : (before after words : List ℕ) (size count : ℕ) (others : List ℕ) (i : ℕ) → length others ≤ i
    → others ≡ drop (count * size) words
    → after ≡ (before ++ flat_map block_bytes (first_chunks size count words)) ++ flat_map word_bytes (take i others)
    → after ≡ before ++ flat_map word_bytes words
chunks_pushed before after words size count others i all back pushed =
    let blocks = flat_map block_bytes (first_chunks size count words) in
    pushed ∙ append_assoc before blocks (flat_map word_bytes (take i others))
    ∙ ap (λ l. before ++ l) (ap (λ l. blocks ++ flat_map word_bytes l) (take_all i others all ∙ back)
    ∙ chunks_joined size count words)

-- Plans.

-- the value that a `?` passes on
pub handed_on : {X : Type 0} {result : Result X Reply} {y reply : Reply} → result ≡ Err y → y ≡ reply
    → result ≡ Err reply
handed_on {result = result} p q = subst (λ (r : Reply). result ≡ Err r) q p

pub one_made : {a b : Event} → a ≡ b → a ∷ [] ≡ b ∷ []
one_made p = λ i. p i ∷ []

pub two_made : {a b c d : Event} → a ≡ b → c ≡ d → a ∷ c ∷ [] ≡ b ∷ d ∷ []
two_made p q = λ i. p i ∷ q i ∷ []

module _ {S : Type 0} (machine : S → Machine) where
  led_then : {a b c : S} {p q r : Plan} → FollowsPlan machine a b p q → FollowsPlan machine b c q r
      → FollowsPlan machine a c p r
  led_then {a = a} {b = b} {c = c} {p = p} {q = q} {r = r} x y = led_on machine a b c p q r x y

  -- The events that were served, as the list that was made of them.

  pub asked_done : {a b : S} (moment : Moment) {events made : List Event} → events ≡ made
      → ((m : Moment) (next : Plan) → FollowsPlan machine a b (each m events next) next) → (next : Plan)
      → FollowsPlan machine a b (each moment made next) next
  asked_done {a = a} {b = b} moment e done next =
      subst (λ (l : List Event). FollowsPlan machine a b (each moment l next) next)
      e (done moment next)

  pub asked_failed : {a b : S} (moment : Moment) {events made : List Event} (reply : Reply) → events ≡ made
      → ((m : Moment) (next : Plan) → FollowsPlan machine a b (each m events next) (fails m reply)) → (next : Plan)
      → FollowsPlan machine a b (each moment made next) (fails moment reply)
  asked_failed {a = a} {b = b} moment reply e failed next = subst
      (λ (l : List Event). FollowsPlan machine a b (each moment l next) (fails moment reply)) e (failed moment next)

  -- these words were appended to those before
  abbrev pub ArePut : Typed → Typed → List ℕ → Type 0
  ArePut before after words = (target : Target) (seen : List ℕ) → AreTyped target before seen
      → AreTyped target after (seen ++ words)

  put_none : (t : Typed) → ArePut t t []
  put_none t target seen h = subst (λ (l : List ℕ). AreTyped target t l) (sym (append-nil seen)) h

  put_more : (before mid after : Typed) (words others : List ℕ) → ArePut before mid words → ArePut mid after others
      → ArePut before after (words ++ others)
  put_more before mid after words others p q target seen h = subst (λ (l : List ℕ). AreTyped target after l)
      (append_assoc seen words others) (q target (seen ++ words) (p target seen h))

  -- Words that were read so far: the rest of a plan, whatever will be done with all words.

  pub record HasRead (old new : S) (plan rest : (List ℕ → Plan) → Plan) (before after : Typed) : Type 0 where
    pub words : List ℕ
    pub types : ArePut before after words
    pub led : (next : List ℕ → Plan) → FollowsPlan machine old new (plan next) (rest (λ others. next (words ++ others)))

  pub read_none : AlwaysStands machine → (a : S) (plan : (List ℕ → Plan) → Plan) (t : Typed) → HasRead a a plan plan t t
  read_none stands a plan t = record {
    words = [];
    types = put_none t;
    led = λ next. led_still machine stands a (plan next);
  }

  read_more : (a b c : S) (plan rest then : (List ℕ → Plan) → Plan) (before mid after : Typed) (words : List ℕ)
      → HasRead a b plan rest before mid
      → ((next : List ℕ → Plan) → FollowsPlan machine b c (rest next) (then (λ others. next (words ++ others))))
      → ArePut mid after words → HasRead a c plan then before after
  read_more a b c plan rest then before mid after words p led put = record {
    words = p.words ++ words;
    types = put_more before mid after p.words words p.types put;
    led = λ next. subst (λ (f : List ℕ → Plan). FollowsPlan machine a c (plan next) (then f))
        (λ i others. next (sym (append_assoc p.words words others) i))
        (led_then (p.led next) (led (λ others. next (p.words ++ others))));
  }

  -- The line ends at an event that failed.
  read_until : {X : Type 0} (a b c : S) (moment : Moment) (plan rest : (List ℕ → Plan)
      → Plan) (before after : Typed) (result : Result X Reply) (reply : Reply) → result ≡ Err reply
      → HasRead a b plan rest before after
      → ((next : List ℕ → Plan) → FollowsPlan machine b c (rest next) (fails moment reply))
      → HasTyped machine a c moment plan result before after
  read_until {X = X} a b c moment plan rest before after result reply e p failed = subst
      (λ (r : Result X Reply). HasTyped machine a c moment plan r before after) (sym e) (record {
        words = p.words;
        types = p.types;
        led = λ next. led_then (p.led next) (failed (λ others. next (p.words ++ others)));
      })

  -- the same if no word was read
  pub failed_at : {X : Type 0} (a b : S) (moment : Moment) (plan : (List ℕ → Plan)
      → Plan) (t : Typed) (result : Result X Reply) (reply : Reply) → result ≡ Err reply
      → ((next : List ℕ → Plan) → FollowsPlan machine a b (plan next) (fails moment reply))
      → HasTyped machine a b moment plan result t t
  failed_at {X = X} a b moment plan t result reply e failed = subst (λ (r : Result X Reply).
      HasTyped machine a b moment plan r t t) (sym e) (record { words = []; types = put_none t; led = failed })

  -- Plans that are parts of another.

  -- the events before bring the plan to its part
  pub typed_behind : {X : Type 0} (a b c : S) (moment : Moment) (plan part : (List ℕ → Plan) → Plan)
      (before after : Typed) (result : Result X Reply)
      → ((next : List ℕ → Plan) → FollowsPlan machine a b (plan next) (part next))
      → HasTyped machine b c moment part result before after → HasTyped machine a c moment plan result before after
  typed_behind a b c moment plan part before after result led p = record {
    words = p.words;
    types = p.types;
    led = λ next. led_then (led next) (p.led next);
  }

  -- the line ends in it
  pub typed_until : {X Y : Type 0} (a b : S) (moment : Moment) (part : (List ℕ → Plan) → Plan)
      (then : (List ℕ → Plan) → List ℕ → Plan) (before after : Typed) (read : Result Y Reply) (result : Result X Reply)
      (reply : Reply) → read ≡ Err reply → result ≡ Err reply → HasTyped machine a b moment part read before after
      → HasTyped machine a b moment (λ next. part (then next)) result before after
  typed_until {X = X} {Y = Y} a b moment part then before after read result reply was is p =
      let q = subst (λ (r : Result Y Reply). HasTyped machine a b moment part r before after) was p in
      subst (λ (r : Result X Reply). HasTyped machine a b moment (λ next. part (then next)) r before after) (sym is)
      (record { words = q.words; types = q.types; led = λ next. q.led (then next) })

  -- another part follows it
  pub typed_both : {X Y : Type 0} (a b c : S) (moment : Moment) (first second : (List ℕ → Plan) → Plan)
      (before mid after : Typed) (y : Y) (result : Result X Reply)
      → HasTyped machine a b moment first (Ok y) before mid → HasTyped machine b c moment second result mid after
      → HasTyped machine a c moment (λ next. first (λ words. second (λ others. next (words ++ others)))) result
      before after
  typed_both a b c moment first second before mid after y result p q = record {
    words = p.words ++ q.words;
    types = put_more before mid after p.words q.words p.types q.types;
    led = λ next. led_then (p.led (λ words. second (λ others. next (words ++ others))))
        (q.led (λ others. next (p.words ++ others)));
  }

  -- Words that an IN has moved.

  module _ (moment : Moment) (first count : ℕ) where
    -- the rest at the i-th word, if they are examined one by one
    abbrev pub Fetched : S → S → ℕ → Typed → Typed → Type 0
    Fetched a b i before after = HasRead a b (fetches moment count first) (fetches moment (count - i) (first + i))
        before after

    pub fetched_none : AlwaysStands machine → (a : S) (t : Typed) → Fetched a a 0 t t
    fetched_none stands a t =
        let place : first ≡ first + 0 = omega arith in
        let whole : count ≡ count - 0 = omega arith in
        subst (λ (p : (List ℕ → Plan) → Plan). HasRead a a (fetches moment count first) p t t)
        (λ j. fetches moment (whole j) (place j)) (read_none stands a (fetches moment count first) t)

    module _ (a b c : S) (i : ℕ) (before mid : Typed) (some : i < count) (p : Fetched a b i before mid) where
      fetches_one : (next : List ℕ → Plan) → fetches moment (count - i) (first + i) next
          ≡ examines moment (first + i)
          (λ word. fetches moment (count - (i + 1)) (first + i + 1) (λ words. next (word ∷ words)))
      fetches_one next =
          let left : count - i ≡ suc (count - (i + 1)) = omega arith in
          fetches_next moment (first + i) (count - i) (count - (i + 1)) next left

      pub fetched_until : {X : Type 0} (result : Result X Reply) (reply : Reply) → result ≡ Err reply
          → ((next : ℕ → Plan) → FollowsPlan machine b c (examines moment (first + i) next) (fails moment reply))
          → HasTyped machine a c moment (fetches moment count first) result before mid
      fetched_until result reply e failed =
          read_until a b c moment (fetches moment count first) (fetches moment (count - i) (first + i)) before mid
          result reply e p
          (λ next. subst (λ (q : Plan). FollowsPlan machine b c q (fails moment reply)) (sym (fetches_one next))
          (failed (λ word. fetches moment (count - (i + 1)) (first + i + 1) (λ words. next (word ∷ words)))))

      pub fetched_more : (word : ℕ) (after : Typed)
          → ((next : ℕ → Plan) → FollowsPlan machine b c (examines moment (first + i) next) (next word))
          → ArePut mid after (word ∷ []) → Fetched a c (i + 1) before after
      fetched_more word after told put =
          let place : first + i + 1 ≡ first + (i + 1) = omega arith in
          subst (λ n. HasRead a c (fetches moment count first) (fetches moment (count - (i + 1)) n) before after) place
          (read_more a b c (fetches moment count first) (fetches moment (count - i) (first + i))
          (fetches moment (count - (i + 1)) (first + i + 1)) before mid after (word ∷ []) p
          (λ next. subst (λ (q : Plan). FollowsPlan machine b c q
          (fetches moment (count - (i + 1)) (first + i + 1) (λ others. next (word ∷ others)))) (sym (fetches_one next))
          (told (λ word. fetches moment (count - (i + 1)) (first + i + 1) (λ words. next (word ∷ words))))) put)

    pub fetched_all : {X : Type 0} (a b : S) (i : ℕ) (before after : Typed) (x : X) → count ≤ i
        → Fetched a b i before after → HasTyped machine a b moment (fetches moment count first) (Ok x) before after
    unfolding fetches
    fetched_all a b i before after x all p =
        let none : count - i ≡ 0 = omega arith in
        record {
          words = p.words;
          types = p.types;
          led = λ next. subst (λ (l : List ℕ). FollowsPlan machine a b (fetches moment count first next) (next l))
              (append-nil p.words)
              (subst (λ n. FollowsPlan machine a b (fetches moment count first next)
              (fetches moment n (first + i) (λ others. next (p.words ++ others)))) none (p.led next));
        }

    pub fetched_at_once : {X : Type 0} → AlwaysStands machine → (a : S) (words : List ℕ) (before after : Typed) (x : X)
        → length words ≡ count → AreShown (machine a) first words → ArePut before after words
        → HasTyped machine a a moment (fetches moment count first) (Ok x) before after
    fetched_at_once stands a words before after x long shown put = record {
      words = words;
      types = put;
      led = λ next. subst (λ n. FollowsPlan machine a a (fetches moment n first next) (next words)) long
          (fetches_shown machine stands a moment words first shown next);
    }

  -- Words that several INs move.

  module _ (moment : Moment) (runs count : ℕ) where
    -- the rest of a plan when this many INs are left
    abbrev pub Ran : S → S → ℕ → Typed → Typed → Type 0
    Ran a b left before after = HasRead a b (type_runs_plan moment runs count) (type_runs_plan moment left count) before
        after

    module _ (a b c : S) (left more : ℕ) (before mid : Typed) (is_more : left ≡ suc more)
        (p : Ran a b left before mid) where
      abbrev behind_run : (List ℕ → Plan) → List ℕ → Plan
      behind_run next words = type_runs_plan moment more count (λ others. next (words ++ others))

      abbrev takes_run : (List ℕ → Plan) → Plan
      takes_run next = each moment (in_event moment ∷ []) (fetches moment count block_address (behind_run next))

      next_run : HasRead a b (type_runs_plan moment runs count) takes_run before mid
      unfolding type_runs_plan
      next_run = subst (λ n. HasRead a b (type_runs_plan moment runs count) (type_runs_plan moment n count) before mid)
          is_more p

      pub no_run : {X : Type 0} (result : Result X Reply) (reply : Reply) → result ≡ Err reply
          → ((next : Plan) → FollowsPlan machine b c (each moment (in_event moment ∷ []) next) (fails moment reply))
          → HasTyped machine a c moment (type_runs_plan moment runs count) result before mid
      no_run result reply e failed = read_until a b c moment (type_runs_plan moment runs count) takes_run before mid
          result reply e next_run (λ next. failed (fetches moment count block_address (behind_run next)))

      module _ (took : (next : Plan) → FollowsPlan machine b c (each moment (in_event moment ∷ []) next) next) (d : S)
          (after : Typed) where
        pub no_words : {X Y : Type 0} (read : Result Y Reply) (result : Result X Reply) (reply : Reply)
            → read ≡ Err reply → result ≡ Err reply
            → HasTyped machine c d moment (fetches moment count block_address) read mid after
            → HasTyped machine a d moment (type_runs_plan moment runs count) result before after
        no_words {X = X} {Y = Y} read result reply was is words =
            let q = subst (λ (r : Result Y Reply). HasTyped machine c d moment (fetches moment count block_address) r
            mid after) was words in
            let was_read = next_run in
            subst (λ (r : Result X Reply). HasTyped machine a d moment (type_runs_plan moment runs count) r before
            after)
            (sym is) (record {
              words = was_read.words ++ q.words;
              types = put_more before mid after was_read.words q.words was_read.types q.types;
              led = λ next.
                  let k : List ℕ → Plan = λ others. next (was_read.words ++ others) in
                  led_then (was_read.led next)
                  (led_then (took (fetches moment count block_address (behind_run k))) (q.led (behind_run k)));
            })

        pub read_run : {Y : Type 0} (y : Y)
            → HasTyped machine c d moment (fetches moment count block_address) (Ok y) mid after
            → Ran a d more before after
        read_run y q = read_more a b d (type_runs_plan moment runs count) takes_run (type_runs_plan moment more count)
            before mid after q.words next_run
            (λ next. led_then (took (fetches moment count block_address (behind_run next))) (q.led (behind_run next)))
            q.types

    pub read_runs : {X : Type 0} (a b : S) (left : ℕ) (before after : Typed) (x : X) → left ≡ zero
        → Ran a b left before after → HasTyped machine a b moment (type_runs_plan moment runs count) (Ok x) before after
    unfolding type_runs_plan
    read_runs a b left before after x e p = record {
      words = p.words;
      types = p.types;
      led = λ next. subst (λ (l : List ℕ). FollowsPlan machine a b (type_runs_plan moment runs count next) (next l))
          (append-nil p.words)
          (subst (λ n. FollowsPlan machine a b (type_runs_plan moment runs count next)
          (type_runs_plan moment n count (λ others. next (p.words ++ others)))) e (p.led next));
    }

  -- Whole blocks: a list is named, and words are moved by it.

  module _ (moment : Moment) (runs count : ℕ) where
    abbrev pub types_listed : (List ℕ → Plan) → Plan
    types_listed next = each moment (list_events count) (type_runs_plan moment runs count next)

    pub no_listed : {X : Type 0} (a b : S) (t : Typed) (result : Result X Reply) (reply : Reply) → result ≡ Err reply
        → ((next : Plan) → FollowsPlan machine a b (each moment (list_events count) next) (fails moment reply))
        → HasTyped machine a b moment types_listed result t t
    no_listed a b t result reply e failed = failed_at a b moment types_listed t result reply e
        (λ next. failed (type_runs_plan moment runs count next))

    pub read_listed : {X : Type 0} (a b c : S) (before after : Typed) (result : Result X Reply)
        → ((next : Plan) → FollowsPlan machine a b (each moment (list_events count) next) next)
        → HasTyped machine b c moment (type_runs_plan moment runs count) result before after
        → HasTyped machine a c moment types_listed result before after
    read_listed a b c before after result listed p = typed_behind a b c moment types_listed
        (type_runs_plan moment runs count) before after result (λ next. listed (type_runs_plan moment runs count next))
        p

  module _ (moment : Moment) (blocks : ℕ) where
    abbrev by_runs : (List ℕ → Plan) → Plan
    by_runs = types_listed moment (blocks / blocks_at_once) (blocks_at_once * 128)

    abbrev one_by_one : (List ℕ → Plan) → Plan
    one_by_one = types_listed moment (blocks % blocks_at_once) 128

    abbrev behind_runs : (List ℕ → Plan) → List ℕ → Plan
    behind_runs next words = one_by_one (λ others. next (words ++ others))

    -- the line ends in the runs
    pub no_blocks : {X Y : Type 0} (a b : S) (before after : Typed) (read : Result Y Reply) (result : Result X Reply)
        (reply : Reply) → read ≡ Err reply → result ≡ Err reply → HasTyped machine a b moment by_runs read before after
        → HasTyped machine a b moment (type_blocks_plan moment blocks) result before after
    no_blocks a b before after read result reply was is p =
        typed_until a b moment by_runs behind_runs before after read result reply was is p

    pub read_blocks : {X Y : Type 0} (a b c : S) (before mid after : Typed) (y : Y) (result : Result X Reply)
        → HasTyped machine a b moment by_runs (Ok y) before mid
        → HasTyped machine b c moment one_by_one result mid after
        → HasTyped machine a c moment (type_blocks_plan moment blocks) result before after
    read_blocks a b c before mid after y result p q =
        typed_both a b c moment by_runs one_by_one before mid after y result p q

  -- The last block.

  pub not_counted : {X : Type 0} (a b : S) (moment : Moment) (n size : ℕ) (t : Typed) (result : Result X Reply)
      (reply : Reply) → result ≡ Err reply
      → ((next : ℕ → Plan) → FollowsPlan machine a b (sizes moment n size next) (fails moment reply))
      → HasTyped machine a b moment (type_last_plan moment n size) result t t
  not_counted a b moment n size t result reply e failed =
      failed_at a b moment (type_last_plan moment n size) t result reply e
      (λ next. failed (λ m. each moment (list_events m ++ useti_event moment n ∷ in_event moment ∷ [])
      (fetches moment m block_address next)))

  module _ (a b : S) (moment : Moment) (n size : ℕ) (count : ℕ) (counted : (next : ℕ → Plan)
      → FollowsPlan machine a b (sizes moment n size next) (next count)) where
    pub last_at : (next : List ℕ → Plan)
        → FollowsPlan machine a b (type_last_plan moment n size next)
        (each moment (list_events count)
        (each moment (useti_event moment n ∷ in_event moment ∷ []) (fetches moment count block_address next)))
    last_at next =
        subst (λ (p : Plan). FollowsPlan machine a b (type_last_plan moment n size next) p)
        (each_append moment (list_events count) (useti_event moment n ∷ in_event moment ∷ [])
        (fetches moment count block_address next))
        (counted (λ m. each moment (list_events m ++ useti_event moment n ∷ in_event moment ∷ [])
        (fetches moment m block_address next)))

    module _ (c : S) (t : Typed) where
      pub no_list : {X : Type 0} (result : Result X Reply) (reply : Reply) → result ≡ Err reply
          → ((next : Plan) → FollowsPlan machine b c (each moment (list_events count) next) (fails moment reply))
          → HasTyped machine a c moment (type_last_plan moment n size) result t t
      no_list result reply e failed =
          failed_at a c moment (type_last_plan moment n size) t result reply e
          (λ next. led_then (last_at next)
          (failed (each moment (useti_event moment n ∷ in_event moment ∷ [])
          (fetches moment count block_address next))))

      module _ (listed : (next : Plan) → FollowsPlan machine b c (each moment (list_events count) next) next)
          (d : S) where
        pub no_last : {X : Type 0} (result : Result X Reply) (reply : Reply) → result ≡ Err reply
            → ((next : Plan)
            → FollowsPlan machine c d (each moment (useti_event moment n ∷ in_event moment ∷ []) next)
            (fails moment reply))
            → HasTyped machine a d moment (type_last_plan moment n size) result t t
        no_last result reply e failed =
            failed_at a d moment (type_last_plan moment n size) t result reply e
            (λ next. led_then (last_at next)
            (led_then (listed (each moment (useti_event moment n ∷ in_event moment ∷ [])
            (fetches moment count block_address next))) (failed (fetches moment count block_address next))))

        module _ (took : (next : Plan) → FollowsPlan machine c d
            (each moment (useti_event moment n ∷ in_event moment ∷ []) next) next)
            (e : S) where
          last_fetches : (next : List ℕ → Plan)
              → FollowsPlan machine a d (type_last_plan moment n size next) (fetches moment count block_address next)
          last_fetches next = led_then (last_at next)
              (led_then (listed (each moment (useti_event moment n ∷ in_event moment ∷ [])
              (fetches moment count block_address next))) (took (fetches moment count block_address next)))

          pub read_last : {X : Type 0} (result : Result X Reply) (after : Typed)
              → HasTyped machine d e moment (fetches moment count block_address) result t after
              → HasTyped machine a e moment (type_last_plan moment n size) result t after
          read_last result after words = typed_behind a d e moment (type_last_plan moment n size)
              (fetches moment count block_address) t after result last_fetches words

  -- All of a body.

  pub read_nothing : {X : Type 0} → AlwaysStands machine
      → (a : S) (moment : Moment) (blocks : ℕ) (size : ℕ) (t : Typed) (x : X) → blocks ≡ zero
      → HasTyped machine a a moment (type_body_plan moment blocks size) (Ok x) t t
  read_nothing {X = X} stands a moment blocks size t x e =
      subst (λ n. HasTyped {X = X} machine a a moment (type_body_plan moment n size) (Ok x) t t) (sym e)
      (record { words = []; types = put_none t; led = λ next. led_still machine stands a (next []) })

  pub read_body : {X Y : Type 0} (a b c : S) (moment : Moment) (blocks : ℕ) (more : ℕ) (size : ℕ)
      (before mid after : Typed) (y : Y) (result : Result X Reply) → blocks ≡ suc more
      → HasTyped machine a b moment (type_blocks_plan moment more) (Ok y) before mid
      → HasTyped machine b c moment (type_last_plan moment blocks size) result mid after
      → HasTyped machine a c moment (type_body_plan moment blocks size) result before after
  read_body a b c moment blocks more size before mid after y result e p q =
      let last = subst (λ n. HasTyped machine b c moment (type_last_plan moment n size) result mid after) e q in
      subst (λ n. HasTyped machine a c moment (type_body_plan moment n size) result before after) (sym e)
      (typed_both a b c moment (type_blocks_plan moment more) (type_last_plan moment (suc more) size) before mid after y
      result
      p last)

  pub no_body : {X Y : Type 0} (a b : S) (moment : Moment) (blocks : ℕ) (more : ℕ) (size : ℕ) (before after : Typed)
      (blocks_read : Result Y Reply) (result : Result X Reply) (reply : Reply) → blocks ≡ suc more
      → blocks_read ≡ Err reply → result ≡ Err reply
      → HasTyped machine a b moment (type_blocks_plan moment more) blocks_read before after
      → HasTyped machine a b moment (type_body_plan moment blocks size) result before after
  no_body a b moment blocks more size before after blocks_read result reply e was is p =
      subst (λ n. HasTyped machine a b moment (type_body_plan moment n size) result before after) (sym e)
      (typed_until a b moment (type_blocks_plan moment more)
      (λ next words. type_last_plan moment (suc more) size (λ others. next (words ++ others))) before after blocks_read
      result reply was is p)

  -- A file that is looked up.

  module _ (a b : S) (moment : Moment) (spec : Spec) where
    abbrev plan : (ℕ → Plan) → Plan
    plan next = each moment (lookup_events moment spec ++ list_events 128) (examines moment (file_words + 3) next)

    abbrev behind : ℕ → (List ℕ → Plan) → Plan
    behind size next = type_body_plan moment (blocks_said size) size (λ words. until_end moment (next words))

    opened_at : (next : ℕ → Plan)
        → plan next ≡ each moment (lookup_events moment spec)
        (each moment (list_events 128) (examines moment (file_words + 3) next))
    opened_at next = each_append moment (lookup_events moment spec) (list_events 128)
        (examines moment (file_words + 3) next)

    pub not_found : {X : Type 0} (result : Result X Reply) (reply : Reply) → result ≡ Err reply
        → ((next : Plan) → FollowsPlan machine a b (each moment (lookup_events moment spec) next) (fails moment reply))
        → (next : X → Plan) (then : ℕ → Plan) → FollowsPlan machine a b (plan then) (followed moment result next)
    not_found {X = X} result reply e failed next then =
        subst (λ (r : Result X Reply). FollowsPlan machine a b (plan then) (followed moment r next)) (sym e)
        (subst (λ (p : Plan). FollowsPlan machine a b p (fails moment reply)) (sym (opened_at then))
        (failed (each moment (list_events 128) (examines moment (file_words + 3) then))))

    module _ (found : (next : Plan) → FollowsPlan machine a b (each moment (lookup_events moment spec) next) next)
        (c : S) where
      pub not_listed : {X : Type 0} (result : Result X Reply) (reply : Reply) → result ≡ Err reply
          → ((next : Plan) → FollowsPlan machine b c (each moment (list_events 128) next) (fails moment reply))
          → (next : X → Plan) (then : ℕ → Plan) → FollowsPlan machine a c (plan then) (followed moment result next)
      not_listed {X = X} result reply e failed next then =
          subst (λ (r : Result X Reply). FollowsPlan machine a c (plan then) (followed moment r next)) (sym e)
          (subst (λ (p : Plan). FollowsPlan machine a c p (fails moment reply)) (sym (opened_at then))
          (led_then (found (each moment (list_events 128) (examines moment (file_words + 3) then)))
          (failed (examines moment (file_words + 3) then))))

      pub opened : (listed : (next : Plan) → FollowsPlan machine b c (each moment (list_events 128) next) next) (d : S)
          (result : Result ℕ Reply) → ((next : ℕ → Plan)
          → FollowsPlan machine c d (examines moment (file_words + 3) next) (followed moment result next))
          → (next : ℕ → Plan) → FollowsPlan machine a d (plan next) (followed moment result next)
      opened listed d result told next =
          subst (λ (p : Plan). FollowsPlan machine a d p (followed moment result next)) (sym (opened_at next))
          (led_then (found (each moment (list_events 128) (examines moment (file_words + 3) next)))
          (led_then (listed (examines moment (file_words + 3) next)) (told next)))

    pub not_opened : {X : Type 0} (result : Result X Reply) (reply : Reply) (t : Typed) → result ≡ Err reply
        → ((next : ℕ → Plan) → FollowsPlan machine a b (plan next) (fails moment reply))
        → HasTyped machine a b moment (λ next. plan (λ size. behind size next)) result t t
    not_opened result reply t e failed = failed_at a b moment (λ next. plan (λ size. behind size next)) t result reply e
        (λ next. failed (λ size. behind size next))

    module _ (size : ℕ) (found : (next : ℕ → Plan) → FollowsPlan machine a b (plan next) (next size)) (c : S)
        (before after : Typed) where
      pub not_read : {X Y : Type 0} (body : Result Y Reply) (result : Result X Reply) (reply : Reply) → body ≡ Err reply
          → result ≡ Err reply
          → HasTyped machine b c moment (type_body_plan moment (blocks_said size) size) body before after
          → HasTyped machine a c moment (λ next. plan (λ size. behind size next)) result before after
      not_read {X = X} {Y = Y} body result reply was is p =
          let q = subst (λ (r : Result Y Reply). HasTyped machine b c moment
          (type_body_plan moment (blocks_said size) size) r before after) was p in
          subst (λ (r : Result X Reply). HasTyped machine a c moment (λ next. plan (λ size. behind size next))
          r before after) (sym is) (record {
            words = q.words;
            types = q.types;
            led = λ next. led_then (found (λ size. behind size next)) (q.led (λ words. until_end moment (next words)));
          })

      pub read_file : {X Y : Type 0} (d : S) (y : Y) (result : Result X Reply)
          → HasTyped machine b c moment (type_body_plan moment (blocks_said size) size) (Ok y) before after
          → ((next : Plan) → FollowsPlan machine c d (until_end moment next) (followed moment result (λ unit. next)))
          → HasTyped machine a d moment (λ next. plan (λ size. behind size next)) result before after
      read_file d y result p ended = record {
        words = p.words;
        types = p.types;
        led = λ next. led_then (found (λ size. behind size next))
            (led_then (p.led (λ words. until_end moment (next words))) (ended (next p.words)));
      }

  -- The line.

  module _ {V E X : Type 0} (bytes : V → List ℕ) (result : Result V E) (a b c : S) (moment : Moment)
      (encoding : Encoding) (spec : Spec) (tally counted : Tally) (read : Result X Reply) (before after : Typed)
      (p : HasTyped machine a b moment (λ next. plan a b moment spec (λ size. behind a b moment spec size next))
      read before after) (closed : (said : Spoken) → FollowsPlan machine b c (ends moment said) (Say said)) where
    -- its text is that of the words
    pub typed_out : (x : X) → read ≡ Ok x → AreTyped (Text encoding) before []
        → ((words : List ℕ) → AreTyped (Text encoding) after words
        → Tells bytes result (file_said encoding words) tally counted)
        → FinishesPlan bytes result machine a c (read_plan moment encoding spec) tally counted
    typed_out x e fresh tells =
        let q = subst (λ (r : Result X Reply). HasTyped machine a b moment
        (λ next. plan a b moment spec (λ size. behind a b moment spec size next)) r before after) e p in
        let t = tells q.words (q.types (Text encoding) [] fresh) in
        record {
          said = file_said encoding q.words;
          led = led_then (q.led (λ words. ends moment (file_said encoding words)))
              (closed (file_said encoding q.words));
          refused = t.refused;
          broke = t.broke;
          reason = t.reason;
          text = t.text;
        }

    -- or of the refusal
    pub typed_refused : (reply : Reply) (words : List ℕ) (broken : Bool) → read ≡ Err reply → words ≡ refusal reply
        → broken ≡ is_broken reply → counted.refused ≡ true → counted.broke ≡ tally.broke || broken
        → counted.reason ≡ tally.reason → IfOk result (λ v. bytes v ≡ line words)
        → FinishesPlan bytes result machine a c (read_plan moment encoding spec) tally counted
    typed_refused reply words broken e same_words same_broken refused broke reason text =
        let q = subst (λ (r : Result X Reply). HasTyped machine a b moment
        (λ next. plan a b moment spec (λ size. behind a b moment spec size next)) r before after) e p in
        record {
          said = refuses reply;
          led = led_then (q.led (λ words. ends moment (file_said encoding words))) (closed (refuses reply));
          refused = refused ∙ or-true tally.refused;
          broke = broke ∙ ap (λ b. tally.broke || b) same_broken;
          reason = reason;
          text = subst (λ (l : List ℕ). IfOk result (λ v. bytes v ≡ line l)) same_words text;
        }
