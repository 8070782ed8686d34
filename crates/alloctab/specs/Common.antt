-- The definitions that proofs and other crates cite, passed on from one place. Declares nothing.
pub use Rattle.alloctab.specs.Lists.{digit, digit_at, flag_at}
pub use Rattle.alloctab.specs.Words.{IsClearFrom, PutsBit, word_bit}
unfoldable pub use Rattle.alloctab.specs.Words.{flags}
pub use Rattle.alloctab.specs.Clear.{IsFirstPlace, clear_at, clear_bit, clear_word, count_clear, first_clear, or_else}
unfoldable pub use Rattle.alloctab.specs.Clear.{lowest_one}
pub use Rattle.alloctab.specs.TableState.{IsChanged, IsFree, IsTable, TableState, bit, changed_blocks, holds, space}
pub use Rattle.alloctab.specs.TableState.{used, used_in_space, uses, with_bit, with_held}
pub use Rattle.alloctab.specs.TableInMemory.{IsTableInMemory, table_of}
unfoldable pub use Rattle.alloctab.specs.TableBlocks.{number_of, table_words, words_of}
pub use Rattle.alloctab.specs.TableRead.{CopiesWords, IsBadTableBlock, IsSetPast, IsTableOf, ReadsBits}
pub use Rattle.alloctab.specs.Changes.{IsChangedBlock, SpellsTable, table_put, with_changed}
pub use Rattle.alloctab.specs.Reached.{IsWrongBlock, wanted_bit}
pub use Rattle.alloctab.specs.TableLaws.{bit-freed, bit-taken, bit-with_bit_other, bit-with_bit_same}
pub use Rattle.alloctab.specs.TableLaws.{changed-with_bit_other, changed-with_bit_same, changed_blocks-le}
pub use Rattle.alloctab.specs.TableLaws.{changed_blocks-le-most, holds-with_held_other, holds-with_held_same}
pub use Rattle.alloctab.specs.TableLaws.{sound-booked, sound-unchanged, sound-with_bit, sound-with_held, sum_but_one}
pub use Rattle.alloctab.specs.TableLaws.{used-free, used-not_free, used_in_space-with_held}
pub use Rattle.alloctab.specs.Inside.{InTable}
