-- The definitions that proofs and other crates cite, passed on from one place. Declares nothing.
pub use Rattle.words36.specs.Ascii.{ascii_word_of, five_characters, null_padded, packed, unpacked, without_last_bit}
pub use Rattle.words36.specs.Blocks.{IsBlock, IsFirstBadWord, block_bytes, word_bytes}
unfoldable pub use Rattle.words36.specs.Blocks.{number_at}
pub use Rattle.words36.specs.Dates.{IsDate, IsDayOf, date_number}
pub use Rattle.words36.specs.Nines.{nine_bytes, nine_words}
unfoldable pub use Rattle.words36.specs.Nines.{pairs_in}
pub use Rattle.words36.specs.OctetsRead.{HasRead, are_full, last_word, words_before_last}
pub use Rattle.words36.specs.Octets.{AreOctets, CountsOctets, FoundOctetsAreRight, IsOctet, OctetsAreFound}
pub use Rattle.words36.specs.Octets.{OctetsAreOne, four_octets, full_word_mark, octet_word, octets_in, octets_packed}
pub use Rattle.words36.specs.Octets.{octets_unpacked}
pub use Rattle.words36.specs.Sixbit.{IsSixbitCharacter, IsSixbitText, characters, code, six_characters, sixbit}
pub use Rattle.words36.specs.Words.{IsPpn, IsWord, join, left, ppn_text, right}
