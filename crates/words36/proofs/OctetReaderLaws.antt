-- The bytes of words that come one after the other.
use Rattle.std.proofs.Common.{ℕ, ◌≡◌, ◌∙◌, ◌%◌, ◌==◌, ◌&&◌, ◌<◌, ◌^◌, Bool, true, false, List, [], ◌∷◌, ◌++◌, take}
use Rattle.std.proofs.Common.{Option, Some, None, arith, refl, ap, sym, subst, append-nil, true≢false, All}
use Rattle.std.specs.Prelude.{flat_map, unwrap_or, IfOk, IfSome, IfNone, Result, Ok, Err}
use Rattle.std.proofs.lemmas.Bool.Decides.{nat_tests}
use Rattle.std.proofs.lemmas.Grind.{flat_map-append}
use Rattle.std.proofs.lemmas.List.Elements.{All-tail, All-append}
use Rattle.std.proofs.lemmas.Option.{none-some, same_Some}
use Rattle.words36.specs.Common.{IsWord, four_octets, octets_unpacked, AreOctets, CountsOctets, octets_packed}
use Rattle.words36.specs.Common.{IsOctet, HasRead, words_before_last, last_word, are_full}
use Rattle.words36.specs.declared.octets.OctetReader.{OctetReader}
use Rattle.words36.proofs.OctetLaws.{octets, AreSpelled, packed-octets, are_octets, octets-found, found-right}
use Rattle.words36.proofs.OctetLaws.{none-found, spelled-of}

-- One more word.

before_more : (words : List ℕ) (w : ℕ) → words_before_last (words ++ w ∷ []) ≡ words
before_more [] w = refl
before_more (v ∷ []) w = refl
before_more (v ∷ u ∷ words) w = ap (λ l. v ∷ l) (before_more (u ∷ words) w)

last_more : (words : List ℕ) (w : ℕ) → last_word (words ++ w ∷ []) ≡ Some w
last_more [] w = refl
last_more (v ∷ []) w = refl
last_more (v ∷ u ∷ words) w = last_more (u ∷ words) w

none_last : (words : List ℕ) → last_word words ≡ None → words ≡ []
none_last [] e = refl
none_last (w ∷ []) e = absurd (none-some w (sym e))
none_last (w ∷ v ∷ words) e = absurd (some_last v words e)
  where
    some_last : (v : ℕ) (words : List ℕ) → last_word (v ∷ words) ≡ None → ⊥
    some_last v [] e = none-some v (sym e)
    some_last v (u ∷ words) e = some_last u words e

split_last : (words : List ℕ) (w : ℕ) → last_word words ≡ Some w → words ≡ words_before_last words ++ w ∷ []
split_last [] w e = absurd (none-some w e)
split_last (v ∷ []) w e = ap (λ x. x ∷ []) (same_Some v w e)
split_last (v ∷ u ∷ words) w e = ap (λ l. v ∷ l) (split_last (u ∷ words) w e)

full_more : (words : List ℕ) (w : ℕ) → are_full (words ++ w ∷ []) ≡ (are_full words && w % 16 == 0)
full_more [] w = and-true (w % 16 == 0)
  where
    and-true : (b : Bool) → (b && true) ≡ (true && b)
    and-true true = refl
    and-true false = refl
full_more (v ∷ words) w = ap (λ b. v % 16 == 0 && b) (full_more words w)
    ∙ and-and (v % 16 == 0) (are_full words) (w % 16 == 0)
  where
    and-and : (a b c : Bool) → (a && (b && c)) ≡ ((a && b) && c)
    and-and true b c = refl
    and-and false b c = refl

fit_more : (words : List ℕ) (w : ℕ) → All IsWord words → w < 2 ^ 36 → All IsWord (words ++ w ∷ [])
fit_more words w fit h = All-append IsWord words (w ∷ []) fit (λ i d inside. grind arith)

pub has_begun : (old new : OctetReader) (words : List ℕ) (w : ℕ) → HasRead old words → old.last ≡ None
    → new.last ≡ Some w → new.is_full ≡ old.is_full → new.is_whole ≡ old.is_whole
    → new.bytes.items ≡ old.bytes.items → w < 2 ^ 36 → HasRead new (words ++ w ∷ [])
has_begun old new words w read none last full whole bytes fits =
    let empty = none_last words (sym read.last ∙ none) in
    record {
      fit = fit_more words w read.fit fits;
      last = last ∙ sym (last_more words w);
      full = full ∙ read.full ∙ ap (λ l. are_full (words_before_last l)) empty
          ∙ ap (λ l. are_full (words_before_last (l ++ w ∷ []))) (sym empty);
      bytes = λ yes. bytes ∙ read.bytes (sym whole ∙ yes)
          ∙ ap (λ l. flat_map four_octets (words_before_last l)) empty
          ∙ ap (λ l. flat_map four_octets (words_before_last (l ++ w ∷ []))) (sym empty);
    }

pub has_more : (old new : OctetReader) (words : List ℕ) (v w : ℕ) → HasRead old words → old.last ≡ Some v
    → new.last ≡ Some w → new.is_full ≡ (old.is_full && v % 16 == 0)
    → (new.is_whole ≡ true → old.is_whole ≡ true)
    → (new.is_whole ≡ true → new.bytes.items ≡ old.bytes.items ++ four_octets v) → w < 2 ^ 36
    → HasRead new (words ++ w ∷ [])
has_more old new words v w read some last full whole bytes fits =
    let split = split_last words v (sym read.last ∙ some) in
    let before = before_more words w in
    record {
      fit = fit_more words w read.fit fits;
      last = last ∙ sym (last_more words w);
      full = full ∙ ap (λ b. b && v % 16 == 0) read.full ∙ sym (full_more (words_before_last words) v)
          ∙ ap are_full (sym split) ∙ ap are_full (sym before);
      bytes = λ yes. bytes yes ∙ ap (λ l. l ++ four_octets v) (read.bytes (whole yes))
          ∙ ap (λ l. flat_map four_octets (words_before_last words) ++ l) (sym (append-nil (four_octets v)))
          ∙ sym (flat_map-append four_octets (words_before_last words) (v ∷ []))
          ∙ ap (flat_map four_octets) (sym split) ∙ ap (flat_map four_octets) (sym before);
    }

-- The end.

pub both-true : (a b : Bool) → (a && b) ≡ true → (a ≡ true) × (b ≡ true)
both-true true b e = (refl, e)
both-true false b e = absurd (true≢false (sym e))

pub is_zero : (n : ℕ) → (n == 0) ≡ true → n ≡ 0
is_zero n e = grind (arith, nat_tests)

spelled_by : (words : List ℕ) (w count : ℕ) → All IsWord words → last_word words ≡ Some w
    → are_full (words_before_last words) ≡ true → CountsOctets w count
    → AreSpelled words × (octets words ≡ flat_map four_octets (words_before_last words) ++ take count (four_octets w))
spelled_by [] w count fit last full counts = absurd (none-some w last)
spelled_by (v ∷ []) w count fit last full counts =
    let same = same_Some v w last in
    let here : CountsOctets v count = subst (λ x. CountsOctets x count) (sym same) counts in
    let ended : CountsOctets v (v % 16) = subst (λ n. CountsOctets v n) (sym here.0) here in (
      (fit 0 0 (omega arith), ended, tt),
      append-nil (take (v % 16) (four_octets v)) ∙ ap (λ n. take n (four_octets v)) here.0
          ∙ ap (λ x. take count (four_octets x)) same,
    )
spelled_by (v ∷ u ∷ words) w count fit last full counts =
    let here = both-true (v % 16 == 0) (are_full (words_before_last (u ∷ words))) full in
    let more = spelled_by (u ∷ words) w count (All-tail IsWord v (u ∷ words) fit) last here.1 counts in (
      (fit 0 0 (omega arith), (is_zero (v % 16) here.0, refl), more.0),
      ap (λ l. four_octets v ++ l) more.1,
    )

pub read_found : (words : List ℕ) (w count : ℕ) (bytes : List ℕ) → All IsWord words → last_word words ≡ Some w
    → are_full (words_before_last words) ≡ true → CountsOctets w count
    → bytes ≡ flat_map four_octets (words_before_last words) ++ take count (four_octets w)
    → octets_unpacked words ≡ Some bytes
read_found words w count bytes fit last full counts is =
    let spelled = spelled_by words w count fit last full counts in
    octets-found words bytes (record {
      fit = subst (All IsOctet) (spelled.1 ∙ sym is) (are_octets words);
      packed = packed-octets words spelled.0 ∙ ap octets_packed (spelled.1 ∙ sym is);
    })

not_full : (words : List ℕ) → are_full (words_before_last words) ≡ false → AreSpelled words → ⊥
not_full [] not s = true≢false not
not_full (v ∷ []) not s = true≢false not
not_full (v ∷ u ∷ words) not s =
    let here : (v % 16 == 0) ≡ true = let e = s.1.0 in grind (arith, nat_tests) in
    not_full (u ∷ words) (sym (ap (λ b. b && are_full (words_before_last (u ∷ words))) here) ∙ not) s.2

not_counted : (words : List ℕ) (w : ℕ) → last_word words ≡ Some w → ((count : ℕ) → CountsOctets w count → ⊥)
    → AreSpelled words → ⊥
not_counted [] w last none s = none-some w last
not_counted (v ∷ []) w last none s =
    none (v % 16) (subst (λ x. CountsOctets x (v % 16)) (same_Some v w last) s.1)
not_counted (v ∷ u ∷ words) w last none s = not_counted (u ∷ words) w last none s.2

none_by : (words : List ℕ) (w : ℕ) (full : Bool) → last_word words ≡ Some w
    → are_full (words_before_last words) ≡ full → (full ≡ true → (count : ℕ) → CountsOctets w count → ⊥)
    → AreSpelled words → ⊥
none_by words w true last is none s = not_counted words w last (none refl) s
none_by words w false last is none s = not_full words is s

pub read_none : (words : List ℕ) (w : ℕ) (full : Bool) → last_word words ≡ Some w
    → full ≡ are_full (words_before_last words) → (full ≡ true → (count : ℕ) → CountsOctets w count → ⊥)
    → octets_unpacked words ≡ None
read_none words w full last is none = none-found words
    (λ bytes are. none_by words w full last (sym is) none (spelled-of words bytes are))

all_found : (reader : OctetReader) (words : List ℕ) (count : ℕ) (last : Option ℕ) → HasRead reader words
    → reader.last ≡ last → ((w : ℕ) → reader.last ≡ Some w → (reader.is_full ≡ true) × CountsOctets w count)
    → (reader.last ≡ None → count ≡ 0)
    → octets_unpacked words
    ≡ Some (flat_map four_octets (words_before_last words) ++ take count (four_octets (unwrap_or last 0)))
all_found reader words count (Some w) read is some empty =
    let s = some w is in
    read_found words w count _ read.fit (sym read.last ∙ is) (sym read.full ∙ s.0) s.1 refl
all_found reader words count None read is some empty =
    let none = none_last words (sym read.last ∙ is) in
    ap octets_unpacked none
    ∙ ap (λ n. Some (take n (four_octets 0))) (sym (empty is))
    ∙ ap (λ l. Some (flat_map four_octets (words_before_last l) ++ take count (four_octets 0))) (sym none)

pub has_found : (reader : OctetReader) (words : List ℕ) (count : ℕ) → HasRead reader words
    → ((w : ℕ) → reader.last ≡ Some w → (reader.is_full ≡ true) × CountsOctets w count)
    → (reader.last ≡ None → count ≡ 0)
    → octets_unpacked words
    ≡ Some (flat_map four_octets (words_before_last words) ++ take count (four_octets (unwrap_or reader.last 0)))
has_found reader words count read some empty = all_found reader words count reader.last read refl some empty

pub has_none : (reader : OctetReader) (words : List ℕ) → HasRead reader words
    → (w : ℕ) × (reader.last ≡ Some w) × (reader.is_full ≡ true → (count : ℕ) → CountsOctets w count → ⊥)
    → octets_unpacked words ≡ None
has_none reader words read (w, is, none) = read_none words w reader.is_full (sym read.last ∙ is) read.full none

-- What was found, as what the words are.

pub found_are : {V E : Type 0} (items : V → List ℕ) (words : List ℕ) (result : Result (Option V) E)
    → IfOk result (λ read. IfSome read (λ bytes. octets_unpacked words ≡ Some (items bytes)))
    → IfOk result (λ read. IfSome read (λ bytes. AreOctets words (items bytes)))
found_are items words (Ok (Some bytes)) found = found-right words (items bytes) found
found_are items words (Ok None) found = tt
found_are items words (Err error) found = tt

pub none_are : {V E : Type 0} (words : List ℕ) (result : Result (Option V) E)
    → IfOk result (λ read. IfNone read (octets_unpacked words ≡ None))
    → IfOk result (λ read. IfNone read ((bytes : List ℕ) → AreOctets words bytes → ⊥))
none_are words (Ok (Some bytes)) none = tt
none_are words (Ok None) none = λ bytes are. none-some bytes (sym none ∙ octets-found words bytes are)
none_are words (Err error) none = tt
