-- The headers of rings that a CLOSE or RELEAS marks are those that the machine marks.
use Rattle.std.proofs.Common.{◌≡◌, ℕ, Bool, true, false, List, ◌++◌, refl, sym, ap, ◌∙◌}
use Rattle.std.specs.Prelude.{◌&&◌, ◌||◌, not, if◌then◌else◌, Option, None, Some, is_some, option_map}
use Rattle.spec_machine.specs.Common.{keeps_output, keeps_input, discards, core_closed, header_closed, after_writes}
use Rattle.spec_machine.specs.Common.{is_buffered}
use Rattle.retrieval.specs.Common.{mode_number}
use Rattle.monitor.specs.Common.{rings_closed, publishes_at, UnderKeys, input_of, output_of, channel_of}
use Rattle.monitor.specs.declared.channel.OpenChannel.{OpenChannel}
use Rattle.spec_machine.proofs.Common.{is_some-map}

module _ (core : List ℕ) (w : UnderKeys) (c : OpenChannel) (bits : ℕ) where
  -- the core, by whether there is a ring, whether nothing will be marked, and which sides close
  abbrev marked_by : Bool → Bool → Bool → Bool → List ℕ
  marked_by buffered drops closes_output closes_input =
      if not buffered || drops then core
      else after_writes core
      (header_closed core c.output_header closes_output ++ header_closed core c.input_header closes_input)

  abbrev rings_by : Bool → Bool → Bool → List ℕ
  rings_by buffered closes_output closes_input =
      if buffered
      then after_writes core
      (header_closed core c.output_header closes_output ++ header_closed core c.input_header closes_input)
      else core

  by_rings : (buffered closes_output closes_input : Bool) → marked_by buffered false closes_output closes_input
      ≡ rings_by buffered closes_output closes_input
  by_rings true closes_output closes_input = refl
  by_rings false closes_output closes_input = refl

  -- the sides that close
  abbrev ends_output : Bool
  ends_output = is_some (option_map (output_of w) c.output) && not (keeps_output bits)

  abbrev ends_input : Bool
  ends_input = is_some (option_map (input_of w) c.input) && not (keeps_input bits)

  pub rings_marked : (closes_output closes_input : Bool) → ends_output ≡ closes_output → ends_input ≡ closes_input
      → discards bits ≡ false → core_closed core (channel_of w c) bits ≡ rings_closed core c closes_output closes_input
  rings_marked closes_output closes_input outputs inputs keeps =
      (λ i. marked_by (is_buffered (mode_number c.mode)) (keeps i) (outputs i) (inputs i))
      ∙ by_rings (is_buffered (mode_number c.mode)) closes_output closes_input

  -- If nothing is published, the output side's ring is left alone, and so is the other one if what was written is
  -- dropped.
  pub rings_unpublished : publishes_at (Some c) bits ≡ false → (closes_input : Bool)
      → closes_input ≡ (is_some c.input && not (keeps_input bits) && not (discards bits))
      → core_closed core (channel_of w c) bits ≡ rings_closed core c false closes_input
  rings_unpublished none closes_input is =
      (λ i. marked_by (is_buffered (mode_number c.mode)) (discards bits)
      (is_some-map (output_of w) c.output i && not (keeps_output bits))
      (is_some-map (input_of w) c.input i && not (keeps_input bits)))
      ∙ by (is_buffered (mode_number c.mode)) (discards bits) (is_some c.output) (keeps_output bits) (is_some c.input)
      (keeps_input bits) none
      ∙ ap (rings_by (is_buffered (mode_number c.mode)) false) (sym is)
    where
      by : (buffered drops writes stays reads holds : Bool) → (writes && not stays && not drops) ≡ false
          → marked_by buffered drops (writes && not stays) (reads && not holds)
          ≡ rings_by buffered false (reads && not holds && not drops)
      by false drops writes stays reads holds none = refl
      by true true writes stays false holds none = refl
      by true true writes stays true true none = refl
      by true true writes stays true false none = refl
      by true false false stays false holds none = refl
      by true false false stays true true none = refl
      by true false false stays true false none = refl
      by true false true true false holds none = refl
      by true false true true true true none = refl
      by true false true true true false none = refl
      by true false true false reads holds none = cc none

-- an input side that doesn't stay is one that closes
pub input_ends : {X : Type 0} (o : Option X) (holds : Bool) → (if holds then o else None) ≡ None
    → (is_some o && not holds) ≡ is_some o
input_ends None holds none = refl
input_ends (Some x) false none = refl
input_ends (Some x) true none = cc none

-- and one that stays does not close
pub input_stays : (reads holds : Bool) → holds ≡ true → (reads && not holds) ≡ false
input_stays true holds is = ap not is
input_stays false holds is = refl
