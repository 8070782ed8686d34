-- What is printed for a file's words.
use Rattle.std.proofs.Common.{◌≡◌, ◌∙◌, ℕ, ◌==◌, Bool, true, false, if◌then◌else◌, nat_eq, List, Option, Some, None}
use Rattle.std.proofs.Common.{refl, ap, sym, true≢false}
use Rattle.std.specs.Prelude.{codes, IsTrue, slice_index}
use Rattle.std.proofs.lemmas.Option.{none-some}
use Rattle.words36.specs.Common.{AreOctets, octets_unpacked}
use Rattle.words36.proofs.OctetLaws.{octets-found, none-found}
use Rattle.spec_language.specs.Texts.{prints, complains, line, code_text, refusal, refuses, file_said, octets_said}
use Rattle.spec_machine.specs.declared.call.Reply.{Reply}
use Rattle.spec_machine.specs.declared.call.Reply.TheVariants.{Done, Value, Refused, Stopped, NoChannel, AddressCheck}
use Rattle.spec_machine.specs.declared.call.Reply.TheVariants.{NoJob, NoMemory, Device, Failed, DateRange}
use Rattle.spec_language.specs.declared.encoding.Encoding.{Encoding}
use Rattle.spec_language.specs.declared.encoding.Encoding.TheVariants.{Characters, Words, Octets}

pub octets_are_told : (words bytes : List ℕ) → AreOctets words bytes → file_said Octets words ≡ prints bytes
octets_are_told words bytes are = ap octets_said (octets-found words bytes are)

pub no_octets_are_told : (words : List ℕ) → ((bytes : List ℕ) → AreOctets words bytes → ⊥)
    → file_said Octets words ≡ complains (codes "?Not bytes")
no_octets_are_told words none = ap octets_said (none-found words none)

not_found : (words : List ℕ) (found : Option (List ℕ)) → octets_unpacked words ≡ found
    → IsTrue (octets_said found).refused → (bytes : List ℕ) → AreOctets words bytes → ⊥
not_found words (Some read) is refused bytes are = true≢false (sym refused)
not_found words None is refused bytes are = none-some bytes (sym is ∙ octets-found words bytes are)

pub tellings_have_causes : (encoding : Encoding) (words : List ℕ) → IsTrue (file_said encoding words).refused
    → (encoding ≡ Octets) × ((bytes : List ℕ) → AreOctets words bytes → ⊥)
tellings_have_causes Characters words refused = absurd (true≢false (sym refused))
tellings_have_causes Words words refused = absurd (true≢false (sym refused))
tellings_have_causes Octets words refused = (refl, not_found words (octets_unpacked words) refl refused)

-- A file that was read isn't refused as a line is, for a reply: the sixth character distinguishes them.

abbrev has_b : List ℕ → Bool
has_b text = nat_eq (slice_index text 5) 98

either_lacks : (b : Bool) (x y : List ℕ) → has_b (line x) ≡ false → has_b (line y) ≡ false
    → has_b (line (if b then x else y)) ≡ false
either_lacks true x y p q = p
either_lacks false x y p q = q

code_lacks : (code : ℕ) → has_b (line (code_text code)) ≡ false
code_lacks code = either_lacks (code == 0) _ _ refl (either_lacks (code == 1) _ _ refl
    (either_lacks (code == 2) _ _ refl (either_lacks (code == 3) _ _ refl (either_lacks (code == 4) _ _ refl
    (either_lacks (code == 0o14) _ _ refl (either_lacks (code == 0o22) _ _ refl refl))))))

refusal_lacks : (reply : Reply) → has_b (line (refusal reply)) ≡ false
refusal_lacks Done = refl
refusal_lacks (Value word) = refl
refusal_lacks (Refused code) = code_lacks code
refusal_lacks (Stopped status) = refl
refusal_lacks NoChannel = refl
refusal_lacks AddressCheck = refl
refusal_lacks NoJob = refl
refusal_lacks NoMemory = refl
refusal_lacks Device = refl
refusal_lacks Failed = refl
refusal_lacks DateRange = refl

octets_no_reply : (found : Option (List ℕ)) (reply : Reply) → octets_said found ≡ refuses reply → ⊥
octets_no_reply (Some bytes) reply e = true≢false (sym (ap (λ x. x.refused) e))
octets_no_reply None reply e = true≢false (ap (λ x. has_b x.text) e ∙ refusal_lacks reply)

pub no_reply : (encoding : Encoding) (words : List ℕ) (reply : Reply) → file_said encoding words ≡ refuses reply → ⊥
no_reply Characters words reply e = true≢false (sym (ap (λ x. x.refused) e))
no_reply Words words reply e = true≢false (sym (ap (λ x. x.refused) e))
no_reply Octets words reply e = octets_no_reply (octets_unpacked words) reply e
