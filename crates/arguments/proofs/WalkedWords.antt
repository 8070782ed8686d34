-- What the arguments of a command hold: words of the command line, if it finds them by their place alone.
use Rattle.std.proofs.Common.{◌≡◌, ◌∙◌, ◌&&◌, ◌||◌, ◌+◌, ℕ, min, Bool, cond, true, false, not, zero, suc, sym, subst}
use Rattle.std.proofs.Common.{true≢false, List, [], ◌∷◌, ◌++◌, Option, Some, None, IfSome, is_some, find, fold}
use Rattle.std.specs.Prelude.{option_and_then, option_map, slice_get, drop, length, encode_utf8}
use Rattle.std.specs.List.{All, AllByRecursion as Each, list_all}
use Rattle.std.specs.Str.{bytes_eq, chars}
use Rattle.std.proofs.lemmas.List.Elements.{All-from_recursion, recursion_from_All}
use Rattle.std.proofs.lemmas.Slice.Eq.{bytes_eq-Decides}
use Rattle.clap.proofs.WalkLemmas.{both}
use Rattle.clap.specs.Walk.{Held, Names, Outcome, Row, Rule, Step, Text, Waiting, Walk, action_of, after_flag}
use Rattle.clap.specs.Walk.{after_step, all_of, answers_to, arg_by_id, arg_by_index, arg_by_long, arg_by_short, at_row}
use Rattle.clap.specs.Walk.{attached_value, bundle, bundle_met, bundle_step, count_of, default_rows, done, first_of}
use Rattle.clap.specs.Walk.{flag_met, has_long, has_row, has_short, is_pending, long_met, long_or_other, more_values}
use Rattle.clap.specs.Walk.{new_count, next, nothing_held, option, option_met, option_word, plain, plain_word, pushed}
use Rattle.clap.specs.Walk.{reacted, reading_by, rows_after, settled, settled_rows, short_met, short_or_plain}
use Rattle.clap.specs.Walk.{stop_after, subcommand, subcommand_met, subcommand_or_other, takes_several, takes_values}
use Rattle.clap.specs.Walk.{to_positional, trailing, used, used_as, used_by_id, value, values_or_missing, waits, walk}
use Rattle.clap.specs.Walk.{walk_from, walked, walked_from, with_count, with_default, with_values, word_met}
use Rattle.clap.specs.Lexer.{long_of, short_of}
use Rattle.clap.specs.Simple.{App, Shape, argument_words, built, entered, label_of, names_of, rows_at, subcommand_of}
use Rattle.clap.specs.declared.builder.action.ArgAction.{ArgAction}
use Rattle.clap.specs.declared.builder.action.ArgAction.TheVariants.{Append, Count, Set, SetFalse, SetTrue}
use Rattle.clap.specs.declared.builder.value_parser.Reading.{Reading}
use Rattle.clap.specs.declared.parser.matches.ValueSource.{ValueSource}
use Rattle.clap.specs.declared.parser.matches.ValueSource.TheVariants.{CommandLine, DefaultValue}

-- The rules.

-- whether there is no text
abbrev has_none : List Text → Bool
has_none [] = true
has_none (x ∷ xs) = false

-- a use of the argument is not counted
abbrev is_written : ArgAction → Bool
is_written Count = false
is_written _ = true

-- the rule is of another argument, or of one that is found by its place and has nothing but what the words give it
abbrev pub is_placed : Text → Rule → Bool
is_placed id a = not (bytes_eq a.id id)
    || (is_some a.index && (has_none a.missing && (has_none a.defaults && is_written (action_of a))))

-- what `is_placed` says of a rule that is not of another argument
record IsPlaced (a : Rule) : Type 0 where
  by_place : is_some a.index ≡ true
  missing : has_none a.missing ≡ true
  defaults : has_none a.defaults ≡ true
  written : is_written (action_of a) ≡ true

-- the same, where the rule is of this argument
abbrev Places : Text → Rule → Type 0
Places id a = a.id ≡ id → IsPlaced a

-- a choice whose first part fails holds by its second
second : (b r : Bool) → b ≡ true → (not b || r) ≡ true → r ≡ true
second true r e t = t
second false r e t = absurd (true≢false (sym e))

-- the test says this
places : (id : Text) (a : Rule) → is_placed id a ≡ true → Places id a
places id a holds same =
    let all = both _ _ (second _ _ ((bytes_eq-Decides a.id id).1 same) holds) in
    let more = both _ _ all.1 in
    let last = both _ _ more.1 in
    record { by_place = all.0; missing = more.0; defaults = last.0; written = last.1 }

-- what follows from a test of each element
each_from : {X : Type 0} (test : X → Bool) (P : X → Type 0) → ((x : X) → test x ≡ true → P x) → (xs : List X)
    → list_all test xs ≡ true → Each P xs
each_from test P from [] holds = tt
each_from test P from (x ∷ xs) holds =
    let parts = both _ _ holds in
    (from x parts.0, each_from test P from xs parts.1)

-- the element that a search finds passes its test, and is one of the list
found : {X : Type 0} (test : X → Bool) (P : X → Type 0) (xs : List X) → Each P xs
    → IfSome (find test xs) (λ x. (test x ≡ true) × P x)
found test P [] each = tt
found test P (x ∷ xs) each = go (test x) (λ e. e) (found test P xs each.1)
  where
    go : (b : Bool) → (b ≡ true → test x ≡ true) → IfSome (find test xs) (λ y. (test y ≡ true) × P y)
        → IfSome (cond b (Some x) (find test xs)) (λ y. (test y ≡ true) × P y)
    go true e rest = (e (λ i. true), each.0)
    go false e rest = rest

-- what holds of both branches holds of the choice
either : {X : Type 0} (P : X → Type 0) (b : Bool) (x y : X) → P x → P y → P (cond b x y)
either P true x y h k = h
either P false x y h k = k

-- words and further words
more_words : (Holds : Text → Type 0) (xs ys : List Text) → Each Holds xs → Each Holds ys → Each Holds (xs ++ ys)
more_words Holds [] ys h k = k
more_words Holds (x ∷ xs) ys h k = (h.0, more_words Holds xs ys h.1 k)

-- The rows. `Holds` holds of all words, and `id` is an argument's. Each lemma says that a step of the walk keeps this:
-- what the argument holds are words.

module _ (Holds : Text → Type 0) (id : Text) where
  -- of a name and what it holds: these are words, if the name is this id
  abbrev AreWords : Text → List Text → Type 0
  AreWords name values = name ≡ id → Each Holds values

  -- the same of each row
  abbrev RowWords : List Row → Type 0
  RowWords rows = Each (λ r. AreWords r.id r.values) rows

  -- rows and further rows
  row_words : (xs ys : List Row) → RowWords xs → RowWords ys → RowWords (xs ++ ys)
  row_words [] ys h k = k
  row_words (x ∷ xs) ys h k = (h.0, row_words xs ys h.1 k)

  -- a change of one row that keeps its words, or the rows that stand for none
  row_changed : (name : Text) (change : Row → List Row) (missing rows : List Row)
      → ((r : Row) → r.id ≡ name → AreWords r.id r.values → RowWords (change r)) → RowWords missing → RowWords rows
      → RowWords (at_row name change missing rows)
  row_changed name change missing [] kept absent held = absent
  row_changed name change missing (r ∷ rs) kept absent held =
      go (bytes_eq r.id name) (bytes_eq-Decides r.id name).0 (row_changed name change missing rs kept absent held.1)
    where
      go : (b : Bool) → (b ≡ true → r.id ≡ name) → RowWords (at_row name change missing rs)
          → RowWords (cond b (change r ++ rs) (r ∷ at_row name change missing rs))
      go true same rest = row_words (change r) rs (kept r (same (λ i. true)) held.0) held.1
      go false same rest = (held.0, rest)

  -- more values for a row: they are words, if its id is this one
  row_written : (name : Text) (how : Reading) (source : ValueSource) (values : List Text) (rows : List Row)
      → AreWords name values → RowWords rows → RowWords (with_values name how source values rows)
  row_written name how source values rows words held = row_changed name (more_values source values) _ rows
      (λ r same old. ((λ is. more_words Holds r.values values (old is) (words (sym same ∙ is))), tt)) (words, tt) held

  -- a row that is taken away
  row_gone : (name : Text) (rows : List Row) → RowWords rows → RowWords (at_row name (λ _. []) [] rows)
  row_gone name rows held = row_changed name (λ _. []) [] rows (λ r same old. tt) tt held

  -- a count in the row of another argument
  row_counted : (name : Text) (how : Reading) (source : ValueSource) (n : ℕ) (rows : List Row) → (name ≡ id → ⊥)
      → RowWords rows → RowWords (with_count name how source n rows)
  row_counted name how source n rows other held = row_changed name (new_count source n) _ rows
      (λ r same old. ((λ is. absurd (other (sym same ∙ is))), tt)) ((λ is. absurd (other is)), tt) held

  -- a use of an argument, by what it does with its values
  used_words : (action : ArgAction) (name : Text) (how : Reading) (values : List Text) (rows : List Row)
      → (name ≡ id → is_written action ≡ true) → AreWords name values → RowWords rows
      → RowWords (used_as action name how values rows)
  used_words Set name how values rows written words held =
      row_written name how _ values _ words (row_gone name rows held)
  used_words SetTrue name how values rows written words held =
      row_written name how _ values _ words (row_gone name rows held)
  used_words SetFalse name how values rows written words held =
      row_written name how _ values _ words (row_gone name rows held)
  used_words Append name how values rows written words held = row_written name how _ values rows words held
  used_words Count name how [] rows written words held =
      row_counted name how CommandLine (min (count_of name rows + 1) 255) _ (λ is. true≢false (sym (written is)))
      (row_gone name rows held)
  used_words Count name how (v ∷ vs) rows written words held =
      row_written name how _ (v ∷ vs) _ words (row_gone name rows held)
  used_words _ name how values rows written words held = held

  -- the values of a use are those that were given: an argument of this id has no others to stand for none
  given_words : (a : Rule) (values : List Text) → Places id a → AreWords a.id values
      → AreWords a.id (values_or_missing a values)
  given_words a [] placed words is = none_words a.missing (placed is).missing
    where
      none_words : (xs : List Text) → has_none xs ≡ true → Each Holds xs
      none_words [] e = tt
      none_words (x ∷ xs) e = absurd (true≢false (sym e))
  given_words a (v ∷ vs) placed words is = words is

  -- a use of an argument whose values are words
  use_words : (a : Rule) (values : List Text) (rows : List Row) → Places id a → AreWords a.id values → RowWords rows
      → RowWords (used a values rows)
  use_words a values rows placed words held =
      used_words (action_of a) a.id _ (values_or_missing a values) rows (λ is. (placed is).written)
      (given_words a values placed words) held

  -- What is held between two words.

  -- the values that are pending
  abbrev PendingWords : Option (Text × List Text) → Type 0
  PendingWords p = IfSome p (λ q. AreWords q.0 q.1)

  -- the rows and what is pending
  record HeldWords (h : Held) : Type 0 where
    rows : RowWords h.rows
    pending : PendingWords h.pending

  -- a use of the argument that an id finds
  use_found : (a : Option Rule) (name : Text) (values : List Text) (rows : List Row)
      → IfSome a (λ b. (bytes_eq b.id name ≡ true) × Places id b) → AreWords name values → RowWords rows
      → RowWords (used_by_id a values rows)
  use_found None name values rows known words held = held
  use_found (Some a) name values rows known words held =
      use_words a values rows known.1 (λ is. words (sym ((bytes_eq-Decides a.id name).0 known.0) ∙ is)) held

  -- a word more of what is pending
  push_words : (name word : Text) (h : Held) → Holds word → HeldWords h → HeldWords (pushed name word h)
  push_words name word h good held = record { rows = held.rows; pending = go h.pending held.pending }
    where
      go : (p : Option (Text × List Text)) → PendingWords p
          → PendingWords (pushed name word (record h { pending = p })).pending
      go None words = λ is. (good, tt)
      go (Some q) words = λ is. more_words Holds q.1 (word ∷ []) (words is) (good, tt)

  module _ (c : List Rule) (placed : Each (Places id) c) where
    -- the pending argument is used
    settle_rows : (p : Option (Text × List Text)) (rows : List Row) → PendingWords p → RowWords rows
        → RowWords (settled_rows c p rows)
    settle_rows None rows words held = held
    settle_rows (Some p) rows words held =
        use_found (arg_by_id c p.0) p.0 p.1 rows (found (λ a. bytes_eq a.id p.0) (Places id) c placed) words held

    -- the same of all that is held
    settle_words : (h : Held) → HeldWords h → HeldWords (settled c h)
    settle_words h held = record { rows = settle_rows h.pending h.rows held.pending held.rows; pending = tt }

    -- an argument of another id is used
    react_words : (a : Rule) (values : List Text) (h : Held) → (a.id ≡ id → ⊥) → HeldWords h
        → HeldWords (reacted c a values h)
    react_words a values h other held = record {
      rows = use_words a values (settled c h).rows (λ is. absurd (other is)) (λ is. absurd (other is))
          (settle_words h held).rows;
      pending = tt;
    }

    -- an option of another id, with the value that is attached to it
    option_words : (a : Rule) (v : Option Text) (h : Held) → (a.id ≡ id → ⊥) → HeldWords h
        → HeldWords (option_met c a v h).0
    option_words a (Some v) h other held = react_words a (v ∷ []) h other held
    option_words a None h other held = record { rows = (settle_words h held).rows; pending = λ is. tt }

    -- a flag of another id
    flag_words : (a : Rule) (v : Option Text) (h : Held) → (a.id ≡ id → ⊥) → HeldWords h
        → HeldWords (flag_met c a v h).0
    flag_words a (Some v) h other held = held
    flag_words a None h other held = react_words a [] h other held

    -- the argument that a long or a short name finds is of another id
    abbrev IsOther : Option Rule → Type 0
    IsOther a = IfSome a (λ b. b.id ≡ id → ⊥)

    -- since the one of this id is found by its place
    other_found : (named : Rule → Bool) → IsOther (find (λ a. not (is_some a.index) && named a) c)
    other_found named = go (find test c) (found test (Places id) c placed)
      where
        test : Rule → Bool
        test a = not (is_some a.index) && named a

        unplaced : (b n : Bool) → b ≡ true → (not b && n) ≡ true → ⊥
        unplaced true n e t = true≢false (sym t)
        unplaced false n e t = true≢false (sym e)

        go : (a : Option Rule) → IfSome a (λ b. ((not (is_some b.index) && named b) ≡ true) × Places id b) → IsOther a
        go None known = tt
        go (Some a) known = λ is. unplaced (is_some a.index) (named a) (known.1 is).by_place known.0

    -- what is held after a flag
    abbrev Met : Held × Outcome → Type 0
    Met met = HeldWords met.0

    -- a flag with a long name
    long_met_words : (a : Option Rule) (v : Option Text) (h : Held) → IsOther a → HeldWords h
        → HeldWords (long_met c a v h).0
    long_met_words None v h other held = held
    long_met_words (Some a) v h other held =
        either Met (takes_values a) _ _ (option_words a v h other held) (flag_words a v h other held)

    -- a flag of a bundle, before what comes after it
    short_met_words : (a : Option Rule) (rest : Text) (h : Held) (further : Held → Held × Outcome) → IsOther a
        → HeldWords h → ((k : Held) → HeldWords k → HeldWords (further k).0)
        → HeldWords (short_met c a rest h further).0
    short_met_words None rest h further other held then = held
    short_met_words (Some a) rest h further other held then = either Met (takes_values a) _ _
        (option_words a (attached_value rest) h other held)
        (then (reacted c a [] h) (react_words a [] h other held))

    -- a character of a bundle
    step_words : (x : Option ℕ) (flags : Text) (skip : ℕ) (so_far : Outcome) (h : Held)
        (further : Text → ℕ → Outcome → Held → Held × Outcome) → HeldWords h
        → ((rest : Text) (skipped : ℕ) (so : Outcome) (k : Held) → HeldWords k
        → HeldWords (further rest skipped so k).0)
        → HeldWords (bundle_step c x flags skip so_far h further).0
    step_words None flags skip so_far h further held then = held
    step_words (Some x) flags zero so_far h further held then =
        let rest = drop (length (encode_utf8 x)) flags in
        short_met_words (arg_by_short c x) rest h (further rest 0 done) (other_found (λ a. has_short a x)) held
        (then rest 0 done)
    step_words (Some x) flags (suc skip) so_far h further held then =
        then (drop (length (encode_utf8 x)) flags) skip so_far h held

    -- a bundle of flags
    bundle_words : (k : ℕ) (flags : Text) (skip : ℕ) (so_far : Outcome) (h : Held) → HeldWords h
        → HeldWords (bundle_met c k flags skip so_far h).0
    unfolding bundle_met
    bundle_words zero flags skip so_far h held = held
    bundle_words (suc k) flags skip so_far h held =
        step_words (slice_get (chars flags) 0) flags skip so_far h (bundle_met c k) held (bundle_words k)

    -- The steps for one word.

    module _ (word : Text) (good : Holds word) where
      -- a word that is no flag
      plain_words : (waiting : Waiting) (h : Held) → HeldWords h → HeldWords (plain_word c waiting word h).0
      plain_words (option name) h held = go (arg_by_id c name)
        where
          go : (a : Option Rule) → HeldWords (option_word a name word h).0
          go None = held
          go (Some a) = push_words name word h good held
      plain_words _ h held = held

      -- what follows a flag
      after_words : (waiting : Waiting) (h : Held) (outcome : Outcome) → HeldWords h
          → HeldWords (after_flag c waiting word h outcome).0
      after_words waiting h done held = held
      after_words waiting h (waits name) held = held
      after_words waiting h _ held = plain_words waiting h held

      -- a word that names no subcommand
      other_words : (waiting : Waiting) (flag : Option (Text × Option Text)) (h : Held) → HeldWords h
          → HeldWords (long_or_other c waiting word flag h).0
      other_words waiting (Some p) h held = after_words waiting _ (long_met c (arg_by_long c p.0) p.1 h).1
          (long_met_words (arg_by_long c p.0) p.1 h (other_found (λ a. has_long a p.0)) held)
      other_words waiting None h held = go (short_of word)
        where
          go : (flags : Option Text) → HeldWords (short_or_plain c waiting word flags h).0
          go None = plain_words waiting h held
          go (Some flags) = after_words waiting (bundle c flags h).0 (bundle c flags h).1
              (bundle_words (length flags) flags h.skip plain (record h { skip = 0 })
              (record { rows = held.rows; pending = held.pending }))

      -- a word that may name a subcommand
      named_words : (name : Option Text) (waiting : Waiting) (position : ℕ) (h : Held) → HeldWords h
          → HeldWords (subcommand_or_other c name waiting position word h).0
      named_words (Some name) waiting position h held = held
      named_words None waiting position h held =
          let P : Held × Step → Type 0 = λ met. HeldWords met.0 in
          either P (bytes_eq word (45 ∷ 45 ∷ [])) (h, trailing position) _ held
          (other_words waiting (long_of word) h held)

      -- a word, before it goes to a positional
      met_words : (names : Names) (is_trailing : Bool) (waiting : Waiting) (position : ℕ) (h : Held) → HeldWords h
          → HeldWords (word_met c names is_trailing waiting position word h).0
      met_words names is_trailing waiting position h held =
          let P : Held × Step → Type 0 = λ met. HeldWords met.0 in
          either P is_trailing (h, value) _ held
          (named_words (subcommand_met names waiting word) waiting position h held)

      -- a word that goes to a positional
      place_words : (a : Option Rule) (w : Walk) (h : Held) → HeldWords h
          → HeldWords (to_positional c a word w h).held
      place_words None w h held = held
      place_words (Some a) w h held = push_words a.id word _ good
          (either HeldWords (is_pending a h.pending && takes_several a) h (settled c h) held (settle_words h held))

      -- the step that a word takes
      stepped_words : (w : Walk) (h : Held) (step : Step) → HeldWords h → HeldWords (after_step c word w h step).held
      stepped_words w h (next waiting) held = held
      stepped_words w h (trailing position) held = held
      stepped_words w h (subcommand name) held = held
      stepped_words w h value held = place_words (arg_by_index c w.position) w h held

      -- the walk after the word
      walked_words : (names : Names) (w : Walk) → HeldWords w.held → HeldWords (walked c names w word).held
      unfolding walked
      walked_words names w held = go w.stopped
        where
          go : (stop : Option (Text × List Text)) → HeldWords (walked_from c names stop w word).held
          go (Some p) = held
          go None =
              let met = word_met c names w.is_trailing w.waiting w.position word w.held in
              stepped_words w met.0 met.1 (met_words names w.is_trailing w.waiting w.position w.held held)

    -- the walk over all words
    walk_words : (names : Names) (words : List Text) (w : Walk) → Each Holds words → HeldWords w.held
        → HeldWords (fold (walked c names) w words).held
    walk_words names [] w all held = held
    walk_words names (x ∷ xs) w all held =
        walk_words names xs (walked c names w x) all.1 (walked_words x all.0 names w held)

  -- a default goes to another argument
  default_words : (a : Rule) (rows : List Row) → Places id a → RowWords rows → RowWords (with_default rows a)
  default_words a rows placed held =
      either RowWords (has_row a.id rows) rows _ held (go a.defaults (λ is. (placed is).defaults))
    where
      go : (values : List Text) → (a.id ≡ id → has_none values ≡ true)
          → RowWords (default_rows a.id (reading_by a) values rows)
      go [] none = held
      go (v ∷ vs) none =
          row_written a.id (reading_by a) DefaultValue (v ∷ vs) rows (λ is. absurd (true≢false (sym (none is)))) held

  -- the defaults of all arguments
  defaults_words : (c : List Rule) (rows : List Row) → Each (Places id) c → RowWords rows
      → RowWords (fold with_default rows c)
  defaults_words [] rows placed held = held
  defaults_words (a ∷ c) rows placed held =
      defaults_words c (with_default rows a) placed.1 (default_words a rows placed.0 held)

  -- what is held in the end
  after_all : (c : List Rule) (names : Names) (words : List Text) → Each (Places id) c → Each Holds words
      → RowWords (rows_after c names words)
  after_all c names words placed all =
      let end = (walk c names nothing_held words).held in
      let none : HeldWords nothing_held = record { rows = tt; pending = tt } in
      let held = walk_words c placed names words (walk_from nothing_held) all none in
      defaults_words c (settled c end).rows placed (settle_words c placed end held).rows

  -- the first text of the argument is a word
  first_word : (rows : List Row) (text : Text) → RowWords rows → first_of id rows ≡ Some text → Holds text
  first_word rows text held is =
      let P : Option Text → Type 0 = λ o. IfSome o Holds in
      subst P is (go (find test rows) (found test (λ r. AreWords r.id r.values) rows held))
    where
      test : Row → Bool
      test r = bytes_eq r.id id

      first : (values : List Text) → Each Holds values → IfSome (slice_get values 0) Holds
      first [] all = tt
      first (v ∷ vs) all = all.0

      go : (r : Option Row) → IfSome r (λ s. (bytes_eq s.id id ≡ true) × AreWords s.id s.values)
          → IfSome (option_and_then (λ s. slice_get s.values 0) r) Holds
      go None known = tt
      go (Some r) known = first r.values (known.1 ((bytes_eq-Decides r.id id).0 known.0))

  -- and so are all of its texts
  all_words : (rows : List Row) (texts : List Text) → RowWords rows → all_of id rows ≡ Some texts → Each Holds texts
  all_words rows texts held is =
      let P : Option (List Text) → Type 0 = λ o. IfSome o (Each Holds) in
      subst P is (go (find test rows) (found test (λ r. AreWords r.id r.values) rows held))
    where
      test : Row → Bool
      test r = bytes_eq r.id id

      go : (r : Option Row) → IfSome r (λ s. (bytes_eq s.id id ≡ true) × AreWords s.id s.values)
          → IfSome (option_map (λ s. s.values) r) (Each Holds)
      go None known = tt
      go (Some r) known = known.1 ((bytes_eq-Decides r.id id).0 known.0)

-- The words of a subcommand.

module _ (Holds : Text → Type 0) (c : List Rule) (names : Names) where
  -- the words after the subcommand
  abbrev StopWords : Option (Text × List Text) → Type 0
  StopWords stop = IfSome stop (λ p. Each Holds p.1)

  -- a word that goes to a positional stops no walk
  place_stop : (a : Option Rule) (word : Text) (w : Walk) (h : Held) → StopWords w.stopped
      → StopWords (to_positional c a word w h).stopped
  place_stop None word w h kept = kept
  place_stop (Some a) word w h kept = tt

  -- the step that a word takes, which may stop the walk
  stepped_stop : (word : Text) (w : Walk) (h : Held) (step : Step) → StopWords w.stopped
      → StopWords (after_step c word w h step).stopped
  stepped_stop word w h (next waiting) kept = kept
  stepped_stop word w h (trailing position) kept = kept
  stepped_stop word w h (subcommand name) kept = tt
  stepped_stop word w h value kept = place_stop (arg_by_index c w.position) word w h kept

  -- the walk after a word
  walked_stop : (w : Walk) (word : Text) → Holds word → StopWords w.stopped → StopWords (walked c names w word).stopped
  unfolding walked
  walked_stop w word good kept = go w.stopped kept
    where
      go : (stop : Option (Text × List Text)) → StopWords stop → StopWords (walked_from c names stop w word).stopped
      go (Some p) words = more_words Holds p.1 (word ∷ []) words (good, tt)
      go None words =
          let met = word_met c names w.is_trailing w.waiting w.position word w.held in
          stepped_stop word w met.0 met.1 kept

  -- the walk over all words
  walk_stop : (words : List Text) (w : Walk) → Each Holds words → StopWords w.stopped
      → StopWords (fold (walked c names) w words).stopped
  walk_stop [] w all kept = kept
  walk_stop (x ∷ xs) w all kept = walk_stop xs (walked c names w x) all.1 (walked_stop w x all.0 kept)

-- the subcommand that was found has these words
entered_words : (Holds : Text → Type 0) (id : Text) (app : App) (stop : Option (Text × List Text))
    → Each (λ s. Each (Places id) s.rules) app.subs → IfSome stop (λ p. Each Holds p.1)
    → IfSome (entered app stop) (λ f. RowWords Holds id f.1)
entered_words Holds id app None placed words = tt
entered_words Holds id app (Some p) placed words = go (find test app.subs) (found test Placed app.subs placed)
  where
    test : Shape → Bool
    test s = answers_to p.0 (label_of s)

    Placed : Shape → Type 0
    Placed s = Each (Places id) s.rules

    go : (s : Option Shape) → IfSome s (λ t. (answers_to p.0 (label_of t) ≡ true) × Each (Places id) t.rules)
        → IfSome (option_map (λ t. rows_at t p.1) s) (λ f. RowWords Holds id f.1)
    go None known = tt
    go (Some t) known = after_all Holds id t.rules [] p.1 known.1 words

-- What a subcommand's argument holds are words after the program's name: what holds of all these words holds of it. The
-- argument is found by its place in every subcommand that has it.
module _ (Holds : Text → Type 0) (app : App) (words : List Text) (got : Text × List Row) (id : Text)
    (placed : list_all (λ s. list_all (is_placed id) s.rules) (built app).subs ≡ true)
    (is : subcommand_of app words ≡ Some got) (all : All Holds (argument_words app words)) where
  got_words : RowWords Holds id got.1
  got_words =
      let above = (built app).top.rules in
      let names = names_of (built app) in
      let given = argument_words app words in
      let each = recursion_from_All Holds given all in
      let stop = walk_stop Holds above names given (walk_from nothing_held) each tt in
      let subs = each_from (λ (s : Shape). list_all (is_placed id) s.rules) (λ s. Each (Places id) s.rules)
      (λ s. each_from (is_placed id) (Places id) (places id) s.rules) (built app).subs placed in
      let P : Option (Text × List Row) → Type 0 = λ o. IfSome o (λ f. RowWords Holds id f.1) in
      subst P is (entered_words Holds id (built app) (stop_after above names given) subs stop)

  -- its first text
  pub first_is_a_word : (text : Text) → first_of id got.1 ≡ Some text → Holds text
  first_is_a_word text first = first_word Holds id got.1 text got_words first

  -- all of its texts
  pub all_are_words : (texts : List Text) → all_of id got.1 ≡ Some texts → All Holds texts
  all_are_words texts given = All-from_recursion Holds texts (all_words Holds id got.1 texts got_words given)
