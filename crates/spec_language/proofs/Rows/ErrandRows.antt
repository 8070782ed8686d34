-- Files that are put and got, computed: what is asked, played on the machine.
use Rattle.std.proofs.Common.{◌≡◌, ℕ, List, [], ◌∷◌, ◌++◌, replicate, Some, refl}
use Rattle.std.specs.Prelude.{codes}
use Rattle.words36.specs.Common.{packed, octets_packed}
use Rattle.spec_image.specs.Common.{get, insert, remove, empty, entries, size}
use Rattle.spec_machine.specs.Common.{dump_list, areas_from, setup, out_ready, out_writes, last_words, State}
use Rattle.spec_language.specs.Texts.{Spoken, prints, complains, line, file_said, typed}
use Rattle.spec_language.specs.Plans.{each, fetches, type_runs_plan}
use Rattle.spec_language.specs.Errands.{put_plan, get_plan, fill_parts_plan}
use Rattle.spec_language.specs.declared.encoding.Encoding.{Encoding}
use Rattle.spec_language.specs.declared.encoding.Encoding.TheVariants.{Characters, Words, Octets}
use Rattle.spec_machine.proofs.Common.{small, ten_twenty, fresh, foo_of, at_start}
use Rattle.spec_language.proofs.Rows.PlayedLines.{conduct, foo_spec}

-- what is printed when words are put, and the text of what is got after that
abbrev back : State → Encoding → List ℕ → Spoken × Spoken
back s encoding words =
    let put = conduct small 1000 s (put_plan at_start ten_twenty encoding foo_spec (Some words)) in
    (put.0, (conduct small 5000 put.1 (get_plan at_start ten_twenty encoding foo_spec)).0)

-- A text, in the place of a file that exists, and one of no characters.
text_back : back (foo_of 0o057 300) Characters (packed (codes "HELLO" ++ 13 ∷ 10 ∷ []))
    ≡ (prints (line (codes "OK")), prints (codes "HELLO" ++ 13 ∷ 10 ∷ []))
unfolding empty insert get remove entries size dump_list areas_from each fetches type_runs_plan fill_parts_plan setup
    out_ready out_writes last_words conduct
text_back = refl

nothing_back : back fresh Characters [] ≡ (prints (line (codes "OK")), prints [])
unfolding empty insert get remove entries size dump_list areas_from each fetches type_runs_plan fill_parts_plan setup
    out_ready out_writes last_words conduct
nothing_back = refl

-- Words: two blocks and a part of a third, and two whole ones.
words_back :
    (back fresh Words (replicate 300 7) ≡ (prints (line (codes "OK")), file_said Words (replicate 300 7)))
    × (back fresh Words (replicate 256 7) ≡ (prints (line (codes "OK")), file_said Words (replicate 256 7)))
unfolding empty insert get remove entries size dump_list areas_from each fetches type_runs_plan fill_parts_plan conduct
words_back = (refl, refl)

-- Characters of as many words.
text_of_blocks : back fresh Characters (replicate 300 0o406050301402)
    ≡ (prints (line (codes "OK")), prints (typed (replicate 300 0o406050301402)))
unfolding empty insert get remove entries size dump_list areas_from each fetches type_runs_plan fill_parts_plan setup
    out_ready out_writes last_words conduct
text_of_blocks = refl

-- Bytes of eight bits, which the words of a text aren't.
bytes_back : back fresh Octets (octets_packed (codes "HELLO" ++ 0 ∷ 255 ∷ []))
    ≡ (prints (line (codes "OK")), prints (codes "HELLO" ++ 0 ∷ 255 ∷ []))
unfolding empty insert get remove entries size dump_list areas_from each fetches type_runs_plan fill_parts_plan conduct
bytes_back = refl

text_as_bytes : back fresh Octets
    (packed (codes "HELLO")) ≡ (prints (line (codes "OK")), complains (codes "?Not bytes"))
unfolding empty insert get remove entries size dump_list areas_from each fetches type_runs_plan fill_parts_plan conduct
text_as_bytes = refl
