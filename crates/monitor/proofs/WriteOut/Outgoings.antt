-- What an OUT finds in core by the mode of its channel: in a mode with buffers by its ring, else by a command list.
use Rattle.std.proofs.Common.{◌≡◌, ℕ, Bool, true, false, if◌then◌else◌, List, Option, None, Some, sym, ap, subst, ◌∙◌}
use Rattle.std.proofs.Common.{Result, IfOk, append-nil}
use Rattle.std.proofs.lemmas.Result.{IfOk-weaker}
use Rattle.std.specs.Prelude.{option_map, slice_range, ◌+◌, [], ◌∷◌}
use Rattle.spec_machine.specs.Common.{dump_list, joined, lacks_header, slot, Outgoing, is_buffered, byte_size}
use Rattle.spec_machine.specs.Common.{out_ready, ring_words}
use Rattle.spec_machine.specs.declared.area.Area.{Area}
use Rattle.spec_machine.proofs.Common.{none_some}
use Rattle.retrieval.specs.Common.{mode_number}
use Rattle.usercore.specs.Common.{words_put}
use Rattle.usercore.specs.declared.ring_check.RingStep.TheVariants.{Out}
use Rattle.monitor.specs.Common.{words_listed, buffer_put, outgoing_at, IsAtOutput}
use Rattle.monitor.specs.declared.channel.OpenChannel.{OpenChannel}
use Rattle.monitor.specs.declared.job.Job.{Job}
use Rattle.monitor.specs.declared.output.Output.{Output}
use Rattle.monitor.specs.WriteOut as putting

module _ (core : List ℕ) (c : OpenChannel) (a : ℕ) where
  -- the words are found, and so is what is gathered of them
  abbrev pub Found : List ℕ → Type 0
  Found words = (left : List ℕ) × (outgoing_at core c a ≡ Some (record { words = words; core = left }))

  pub gathers : {V E : Type 0} (items : V → List ℕ) (result : Result V E) (words : List ℕ) → Found words
      → IfOk result (λ v. items v ≡ words) → IfOk result (λ v. Found (items v))
  gathers items result words found is = IfOk-weaker result (λ v. items v ≡ words) (λ v. Found (items v))
      (λ v same. subst Found (sym same) found) is

  -- the core in which its ring is found
  abbrev ready : Option (List ℕ)
  ready = out_ready core c.output_header (byte_size (mode_number c.mode))

  abbrev by_mode : Bool → Option Outgoing
  by_mode buffered = if buffered then option_map (buffer_put c) ready
      else option_map (words_listed core) (dump_list core a)

  module _ (buffered : is_buffered (mode_number c.mode) ≡ true) (size : ℕ) (bytes : size
      ≡ byte_size (mode_number c.mode)) where
    by_ring : outgoing_at core c a ≡ option_map (buffer_put c) ready
    by_ring = ap by_mode buffered

    ring_found : (words : List ℕ) → words_put Out core c.output_header size ≡ Some words → Found words
    ring_found words put =
        let found = by ready (ap (λ n. words_put Out core c.output_header n) (sym bytes) ∙ put) in
        (found.0, by_ring ∙ found.1)
      where
        by : (was : Option (List ℕ)) → option_map (λ r. ring_words r c.output_header) was ≡ Some words
            → (left : List ℕ) × (option_map (buffer_put c) was ≡ Some (record { words = words; core = left }))
        by None is = absurd (none_some is)
        by (Some r) is = (
          (buffer_put c r).core,
          ap (option_map {U = Outgoing}
              (λ ws. record { words = ws; core = (buffer_put c r).core })) is,
        )

    pub area_found : (area : Area) → words_put Out core c.output_header size
        ≡ Some (slice_range core area.first (area.first + area.count)) → Found (joined core (area ∷ []))
    area_found area put = subst Found (sym (append-nil (slice_range core area.first (area.first + area.count))))
        (ring_found (slice_range core area.first (area.first + area.count)) put)

  module _ (listed : is_buffered (mode_number c.mode) ≡ false) where
    by_list : outgoing_at core c a ≡ option_map (words_listed core) (dump_list core a)
    by_list = ap by_mode listed

    pub list_found : (areas : List Area) → dump_list core a ≡ Some areas → Found (joined core areas)
    list_found areas is = (core, by_list ∙ ap (option_map (words_listed core)) is)

-- The channel of an OUT that isn't refused, and what it finds.
module _ (job : Job) (number : ℕ) where
  abbrev pub at_output : (c : OpenChannel) → slot job.channels number ≡ Some c → (o : Output) → c.output ≡ Some o
      → lacks_header (mode_number c.mode) c.output_header ≡ false → IsAtOutput job number
  at_output c there o side has = record { channel = c; there = there; output = o; side = side; has = has }

  module _ (a : ℕ) (at : IsAtOutput job number) (words : List ℕ) (found : Found job.core at.channel a words) where
    abbrev pub goes_out : putting.OutgoingSide job number a
    goes_out = record { at = at; words = words; core = found.0; found = found.1 }

    -- if its words find no room
    pub has_outgoing : putting.HasOutgoing job number a
    has_outgoing = record { at = at; found = λ none. none_some (sym none ∙ found.1) }
