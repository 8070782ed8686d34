-- What an IN asks for, by the channel's mode.
use Rattle.std.proofs.Common.{◌≡◌, ◌<◌, ◌≤◌, ℕ, Bool, true, false, if◌then◌else◌, List, [], ◌∷◌, take, Option, None}
use Rattle.std.proofs.Common.{Some, refl, sym, ap, subst, ◌∙◌, arith}
use Rattle.std.specs.List.{All}
use Rattle.std.specs.Prelude.{◌↔◌, option_map, Result, Ok, Err, IfOk, is_err}
use Rattle.spec_machine.specs.Common.{dump_list, word_count, after_writes, cleared, is_buffered, byte_size, data_words}
use Rattle.spec_machine.specs.Common.{in_ready, in_writes}
use Rattle.spec_machine.specs.declared.area.Area.{Area}
use Rattle.spec_image.proofs.Common.{some_same, some_none}
use Rattle.retrieval.specs.Common.{mode_number}
use Rattle.monitor.specs.Common.{Asked, areas_asked, buffer_asked, names_none, asked_at}
use Rattle.monitor.specs.declared.channel.OpenChannel.{OpenChannel}
use Rattle.monitor.proofs.ReadIn.Inputs.{dealt_enough, no_area, take_front}
use Rattle.monitor.proofs.ReadIn.Words.{few_named}

-- What is asked for follows from what the core has.
module _ {X : Type 0} (f : X → Asked) (found : Option X) (asked : Option Asked) (is : asked ≡ option_map f found) where
  pub asked_of : (k : Asked) → asked ≡ Some k → (x : X) × (found ≡ Some x) × (f x ≡ k)
  asked_of k at = by found refl
    where
      by : (o : Option X) → found ≡ o → (x : X) × (found ≡ Some x) × (f x ≡ k)
      by None none = absurd (some_none (sym at ∙ is ∙ ap (option_map f) none))
      by (Some x) some = (x, some, some_same (sym (is ∙ ap (option_map f) some) ∙ at))

  pub none_of : asked ≡ None → found ≡ None
  none_of none = by found refl
    where
      by : (o : Option X) → found ≡ o → found ≡ None
      by None gone = gone
      by (Some x) some = absurd (some_none (sym (is ∙ ap (option_map f) some) ∙ none))

-- the ring that was checked is ready
pub ready_found : {A E : Type 0} (r : Result A E) (w : A → List ℕ) (core : List ℕ) (header bits size : ℕ)
    → is_err r ≡ false → bits ≡ size
    → IfOk r (λ x. option_map (λ (ready : List ℕ). []) (in_ready core header bits) ≡ Some (w x))
    → (ready : List ℕ) × (in_ready core header size ≡ Some ready)
ready_found (Err e) w core header bits size fine same words = absurd (cc fine)
ready_found (Ok x) w core header bits size fine same words =
    subst (λ s. (ready : List ℕ) × (in_ready core header s ≡ Some ready)) same (by (in_ready core header bits) refl)
  where
    by : (o : Option (List ℕ)) → in_ready core header bits ≡ o
        → (ready : List ℕ) × (in_ready core header bits ≡ Some ready)
    by None none = absurd (some_none (sym words ∙ ap (option_map (λ (ready : List ℕ). [])) none))
    by (Some ready) is = (ready, is)

-- a buffer takes no more words than it has room for
pub buffer_enough : (c : OpenChannel) (ready words : List ℕ)
    → (buffer_asked c ready).filled (take data_words words) ≡ (buffer_asked c ready).filled words
buffer_enough c ready words = ap (λ xs. after_writes ready
    (in_writes ready c.input_header (byte_size (mode_number c.mode)) (cleared c.status) xs))
    (take_front data_words data_words words (omega arith))

-- a command list that names nothing
names_nothing : (areas : List Area) → names_none areas ≡ true → word_count areas ≡ 0
names_nothing [] none = refl
names_nothing (area ∷ areas) none = absurd (cc none)

module _ (core : List ℕ) (c : OpenChannel) (a : ℕ) where
  abbrev by_mode : Bool → Option Asked
  by_mode b =
      if b then option_map (buffer_asked c) (in_ready core c.input_header (byte_size (mode_number c.mode)))
      else option_map (areas_asked core) (dump_list core a)

  -- a buffer of the ring
  pub asks_buffer : is_buffered (mode_number c.mode) ≡ true
      → asked_at core c a ≡ option_map (buffer_asked c) (in_ready core c.input_header (byte_size (mode_number c.mode)))
  asks_buffer buffered = ap by_mode buffered

  -- areas of core
  pub asks_areas : is_buffered (mode_number c.mode) ≡ false
      → asked_at core c a ≡ option_map (areas_asked core) (dump_list core a)
  asks_areas dump = ap by_mode dump

  -- What is asked for, with the number of its words.
  abbrev pub IsAsked : ℕ → Type 0
  IsAsked count = (k : Asked) × (asked_at core c a ≡ Some k) × (k.count ≡ count) × ((count ≡ 0) ↔ (k.none ≡ true))

  pub ring_asked : is_buffered (mode_number c.mode) ≡ true → (ready : List ℕ)
      → in_ready core c.input_header (byte_size (mode_number c.mode)) ≡ Some ready → IsAsked data_words
  ring_asked buffered ready is = (
    buffer_asked c ready,
    asks_buffer buffered ∙ ap (option_map (buffer_asked c)) is,
    refl,
    (λ zero. absurd (omega (arith, zero)), λ none. absurd (cc none)),
  )

  pub list_asked : is_buffered (mode_number c.mode) ≡ false → (areas : List Area) → dump_list core a ≡ Some areas
      → All (λ area. 0 < area.count) areas → IsAsked (word_count areas)
  list_asked dump areas listed some = (
    areas_asked core areas,
    asks_areas dump ∙ ap (option_map (areas_asked core)) listed,
    refl,
    (λ zero. ap names_none (no_area areas some zero), names_nothing areas),
  )

  -- The words of a body that are moved in are those that are asked for; nothing is moved if none are.
  module _ (k : Asked) (at : asked_at core c a ≡ Some k) (words : List ℕ) where
    pub enough_asked : k.filled (take k.count words) ≡ k.filled words
    enough_asked = by (is_buffered (mode_number c.mode)) refl
      where
        by : (b : Bool) → is_buffered (mode_number c.mode) ≡ b → k.filled (take k.count words) ≡ k.filled words
        by true buffered =
            let from = asked_of (buffer_asked c) (in_ready core c.input_header (byte_size (mode_number c.mode)))
            (asked_at core c a) (asks_buffer buffered) k at in
            subst (λ (x : Asked). x.filled (take x.count words) ≡ x.filled words) from.2
            (buffer_enough c from.0 words)
        by false dump =
            let from = asked_of (areas_asked core) (dump_list core a) (asked_at core c a) (asks_areas dump) k at in
            subst (λ (x : Asked). x.filled (take x.count words) ≡ x.filled words) from.2
            (ap (after_writes core) (dealt_enough from.0 words))

  -- no more words than a core has
  pub few_asked : (k : Asked) → asked_at core c a ≡ Some k → k.count ≤ 0o400000
  few_asked k at = by (is_buffered (mode_number c.mode)) refl
    where
      by : (b : Bool) → is_buffered (mode_number c.mode) ≡ b → k.count ≤ 0o400000
      by true buffered =
          let from = asked_of (buffer_asked c) (in_ready core c.input_header (byte_size (mode_number c.mode)))
          (asked_at core c a) (asks_buffer buffered) k at in
          let count : data_words ≡ k.count = ap (λ (x : Asked). x.count) from.2 in
          omega (arith, count)
      by false dump =
          let from = asked_of (areas_asked core) (dump_list core a) (asked_at core c a) (asks_areas dump) k at in
          subst (λ (x : Asked). x.count ≤ 0o400000) from.2 (few_named core a from.0 from.1)
