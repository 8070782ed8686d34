-- The steps of a ring as calls of a core: what each puts or leaves. None is AddressCheck.
use Rattle.std.specs.Prelude.{ℕ, ◌+◌, ◌-◌, ◌*◌, ◌==◌, if◌then◌else◌, List, [], ◌∷◌, ◌++◌, length, replicate, Option}
use Rattle.std.specs.Prelude.{option_map}
use Rattle.spec_machine.specs.Common.{after_writes, placed, pointer, bytes_in_word, data_words, in_ready, in_writes}
use Rattle.spec_machine.specs.Common.{out_ready, out_writes, ring_words, last_words, unused_header}
use Rattle.usercore.specs.declared.ring_check.RingStep.{RingStep}
use Rattle.usercore.specs.declared.ring_check.RingStep.TheVariants.{In, Out, Close}

-- the words that a step hands to the file
abbrev pub words_put : RingStep → List ℕ → ℕ → ℕ → Option (List ℕ)
words_put In core header size = option_map (λ ready. []) (in_ready core header size)
words_put Out core header size = option_map (λ ready. ring_words ready header) (out_ready core header size)
words_put Close core header size = last_words core header

-- the core after an IN of these words, with this status
abbrev pub after_in : List ℕ → ℕ → ℕ → ℕ → List ℕ → Option (List ℕ)
after_in core header size status words = option_map
    (λ ready. after_writes ready (in_writes ready header size status words)) (in_ready core header size)

-- the core after an OUT
abbrev pub after_out : List ℕ → ℕ → ℕ → Option (List ℕ)
after_out core header size = option_map (λ ready. after_writes ready (out_writes ready header size))
    (out_ready core header size)

-- the header of a ring that OPEN names: address 0 names none
abbrev pub header_unset : ℕ → ℕ → List (ℕ × ℕ)
header_unset header size = if header == 0 then [] else unused_header header size 0

-- Parts of the steps, by the words that they have read.

-- a header that names a buffer with `count` words
abbrev pub header_words : ℕ → ℕ → ℕ → ℕ → List (ℕ × ℕ)
header_words header size a count = placed header (a ∷ pointer size (a + 1) ∷ count * bytes_in_word size ∷ [])

-- a buffer that is filled, and whose own word becomes this one
abbrev pub filled_by : ℕ → ℕ → ℕ → ℕ → List ℕ → ℕ → List (ℕ × ℕ)
filled_by header size status a words in_use = (a - 1, status) ∷ placed (a + 2) words
    ++ (a + 1, length words) ∷ (a, in_use) ∷ header_words header size a (length words)

-- the data of a buffer that is emptied
unfoldable pub zeroed : ℕ → List (ℕ × ℕ)
zeroed a = placed (a + 2) (replicate data_words 0)

abbrev pub emptied_by : ℕ → ℕ → ℕ → List (ℕ × ℕ)
emptied_by header size a = zeroed a ++ (a + 1, 0) ∷ header_words header size a data_words

abbrev pub closed_by : ℕ → ℕ → List (ℕ × ℕ)
closed_by header unused = if header == 0 then [] else (header, unused) ∷ (header + 2, 0) ∷ []
