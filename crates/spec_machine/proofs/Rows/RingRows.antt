-- Worked rows of buffer rings, computed.
use Rattle.std.proofs.Common.{◌≡◌, ℕ, ◌+◌, List, [], ◌∷◌, ◌++◌, refl, pos}
use Rattle.words36.specs.Common.{join}
use Rattle.spec_image.specs.Common.{get, insert, remove, empty, entries, size}
use Rattle.spec_machine.specs.CommandLists.{dump_list, areas_from}
use Rattle.spec_machine.specs.Rings.{setup, in_ready, in_writes, out_ready, out_writes, last_words}
use Rattle.spec_machine.specs.Jobs.{State, no_jobs}
use Rattle.spec_machine.specs.declared.call.Call.TheVariants.{Open, Inbuf, Outbuf, Lookup, Enter, In, Out, Useti}
use Rattle.spec_machine.specs.declared.call.Call.TheVariants.{Releas, Getsts}
use Rattle.spec_machine.specs.declared.call.Event.{Event}
use Rattle.spec_machine.specs.declared.call.Event.TheVariants.{Login, Deposit, Examine}
use Rattle.spec_machine.specs.declared.call.Reply.TheVariants.{Done, Value, Refused, Stopped, AddressCheck}
use Rattle.spec_machine.proofs.EventRuns.{small, ten_twenty, fresh, foo, bar, foo_of, parts, by, deposits, named}
use Rattle.spec_machine.proofs.EventRuns.{close}

-- Job n of [10,20] logs in with a core of 2000 words and opens channel 1 in a mode, with headers for output and
-- input, by words at 200.
abbrev opened : ℕ → ℕ → ℕ → ℕ → List Event
opened n mode output input = Login n ten_twenty 0o2000
    ∷ deposits n 0o200 (mode ∷ 0o446353000000 ∷ join output input ∷ []) ++ by n (Open 1 0o200) ∷ []

abbrev in_buffer : ℕ → Event
in_buffer n = by n (In 1 0)

abbrev out_buffer : ℕ → Event
out_buffer n = by n (Out 1 0)

abbrev header_at_1000 : ℕ → List Event
header_at_1000 n = Examine n 0o1000 ∷ Examine n 0o1001 ∷ Examine n 0o1002 ∷ []

-- The first OUT sets up a ring, and writes nothing; CLOSE writes the last buffer.
hello : parts small 1000 fresh (
    (opened 1 0 0o1000 0 ++ header_at_1000 1 ++ named 1 foo ++ by 1 (Enter 1 0o300) ∷ [])
    ∷ (out_buffer 1 ∷ header_at_1000 1 ++ Examine 1 0o121 ∷ [])
    ∷ (deposits 1 0o143 (0o442131446236 ∷ 0o064240000000 ∷ []) ++ Deposit 1 0o1001 0o260700000144 ∷ close 1 0
    ∷ header_at_1000 1)
    ∷ (named 1 foo ++ by 1 (Lookup 1 0o300) ∷ Examine 1 0o302 ∷ Examine 1 0o303 ∷ [])
    ∷ [])
    ≡ (Done ∷ Value 0o400000000000 ∷ Value 0o000700000000 ∷ Value 0 ∷ Done ∷ [], pos 46)
    ∷ (Done ∷ Value 0o000000000141 ∷ Value 0o000700000142 ∷ Value 0o000000001200 ∷ Value 0o546 ∷ [], pos 46)
    ∷ (Done ∷ Value 0o400000000141 ∷ Value 0o260700000144 ∷ Value 0 ∷ [], pos 45)
    ∷ (Done ∷ Value 0o057000000000 ∷ Value 0o777776000000 ∷ [], pos 45)
    ∷ []
unfolding empty insert get remove entries size dump_list areas_from setup in_ready in_writes out_ready
    out_writes last_words
hello = refl

-- A file of two words, as a vector has it.
abbrev two_words : State
two_words = record {
  files = insert empty ten_twenty (record {
    protection = 0o775;
    quota = 0;
    files = insert empty (record { name = foo; ext = 0o647064 })
        (record {
          file = record {
            protection = 0o057;
            mode = 0;
            time = 0;
            date = 4095;
            body = 0o442131446236 ∷ 0o064240000000 ∷ [];
          };
          serial = 1;
        });
  });
  jobs = no_jobs;
}

abbrev reads_foo : List Event
reads_foo = opened 1 0 0 0o1000 ++ named 1 foo ++ by 1 (Lookup 1 0o300) ∷ []

-- The first IN sets up a ring and fills its first buffer; at the end no word of the core changes.
read_back : parts small 1000 two_words (
    (reads_foo ++ in_buffer 1 ∷ Examine 1 0o121 ∷ Examine 1 0o140 ∷ Examine 1 0o141 ∷ Examine 1 0o142 ∷ Examine 1 0o143
    ∷ Examine 1 0o144 ∷ header_at_1000 1)
    ∷ (in_buffer 1 ∷ header_at_1000 1 ++ Examine 1 0o141 ∷ by 1 (Getsts 1) ∷ [])
    ∷ (Deposit 1 0o141 0o000200000344 ∷ in_buffer 1 ∷ [])
    ∷ [])
    ≡ (
      Done ∷ Done ∷ Done ∷ Value 0o546 ∷ Value 0 ∷ Value 0o400201000344 ∷ Value 2 ∷ Value 0o442131446236
          ∷ Value 0o064240000000
          ∷ Value 0o000000000141 ∷ Value 0o000700000142 ∷ Value 0o000000000012 ∷ [],
      pos 45,
    )
    ∷ (
      Stopped 0o020000 ∷ Value 0o000000000141 ∷ Value 0o000700000142 ∷ Value 0o000000000012 ∷ Value 0o400201000344
          ∷ Value 0o020000 ∷ [],
      pos 45,
    )
    ∷ (AddressCheck ∷ [], pos 45)
    ∷ []
unfolding empty insert get remove entries size dump_list areas_from setup in_ready in_writes out_ready
    out_writes last_words
read_back = refl

-- If the body has no words, the ring isn't set up either.
nothing_read : parts small 1000 two_words
    ((reads_foo ++ by 1 (Useti 1 2) ∷ in_buffer 1 ∷ Examine 1 0o121 ∷ Examine 1 0o1000 ∷ []) ∷ [])
    ≡ (Done ∷ Done ∷ Done ∷ Stopped 0o020000 ∷ Value 0o140 ∷ Value 0o400000000000 ∷ [], pos 45) ∷ []
unfolding empty insert get remove entries size dump_list areas_from setup in_ready in_writes out_ready
    out_writes last_words
nothing_read = refl

-- Eight buffers don't fit after 140, seven do.
eight_or_seven : parts small 1000 fresh ((opened 1 0 0o20 0 ++ by 1 (Outbuf 1 8) ∷ Examine 1 0o121 ∷ by 1 (Outbuf 1 7)
    ∷ Examine 1 0o121 ∷ by 1 (Inbuf 1 1) ∷ []) ∷ [])
    ≡ (Done ∷ AddressCheck ∷ Value 0o140 ∷ Done ∷ Value 0o1765 ∷ Refused 5 ∷ [], pos 47) ∷ []
unfolding empty insert get remove entries size dump_list areas_from setup in_ready in_writes out_ready
    out_writes last_words
eight_or_seven = refl

-- The next buffers: one is filled and the old one's use bit cleared; one is put and the next one emptied.
abbrev long_file : State
long_file = foo_of 0o057 300

second_buffer : parts small 1000 long_file (
    (opened 1 0o14 0 0o1000 ++ by 1 (Inbuf 1 0) ∷ Examine 1 0o1000 ∷ named 1 foo ++ by 1 (Lookup 1 0o300)
    ∷ in_buffer 1 ∷ in_buffer 1 ∷ Examine 1 0o141 ∷ Examine 1 0o344 ∷ Examine 1 0o345 ∷ header_at_1000 1)
    ∷ (in_buffer 1 ∷ Examine 1 0o142 ∷ Examine 1 0o141 ∷ Examine 1 0o344 ∷ header_at_1000 1)
    ∷ (in_buffer 1 ∷ [])
    ∷ [])
    ≡ (
      Done ∷ Done ∷ Value 0o400000000141 ∷ Done ∷ Done ∷ Done ∷ Value 0o000201000344 ∷ Value 0o400201000141 ∷ Value 128
          ∷ Value 0o000000000344 ∷ Value 0o004400000345 ∷ Value 128 ∷ [],
      pos 43,
    )
    ∷ (
      Done ∷ Value 44 ∷ Value 0o400201000344 ∷ Value 0o000201000141 ∷ Value 0o000000000141 ∷ Value 0o004400000142
          ∷ Value 44 ∷ [],
      pos 43,
    )
    ∷ (Stopped 0o020014 ∷ [], pos 43)
    ∷ []
unfolding empty insert get remove entries size dump_list areas_from setup in_ready in_writes out_ready
    out_writes last_words
second_buffer = refl

-- A buffer whose next one is itself is valid; a byte pointer before its buffer isn't.
alone : parts small 1000 long_file (
    (opened 1 0o14 0 0o1000 ++ by 1 (Inbuf 1 1) ∷ named 1 foo ++ by 1 (Lookup 1 0o300) ∷ in_buffer 1 ∷ in_buffer 1
    ∷ Examine 1 0o141 ∷ Examine 1 0o1000 ∷ [])
    ∷ (opened 2 0 0o1000 0 ++ named 2 bar ++ by 2 (Enter 1 0o300) ∷ out_buffer 2 ∷ Deposit 2 0o1001 0o000700000141
    ∷ out_buffer 2 ∷ close 2 0 ∷ close 2 0o40 ∷ Examine 2 0o1000 ∷ [])
    ∷ [])
    ≡ (Done ∷ Done ∷ Done ∷ Done ∷ Done ∷ Value 0o400201000141 ∷ Value 0o000000000141 ∷ [], pos 43)
    ∷ (Done ∷ Done ∷ Done ∷ AddressCheck ∷ AddressCheck ∷ Done ∷ Value 0o000000000141 ∷ [], pos 43)
    ∷ []
unfolding empty insert get remove entries size dump_list areas_from setup in_ready in_writes out_ready
    out_writes last_words
alone = refl

-- Words in two buffers make one file, the second of them written by CLOSE; both headers are marked.
abbrev fills : ℕ → ℕ → ℕ → List Event
fills n a k = Deposit n (a + 2) k ∷ Deposit n 0o1001 (0o004400000001 + a + k) ∷ []

two_buffers : parts small 1000 fresh (
    (opened 1 0o10 0o1000 0o1010 ++ named 1 foo ++ by 1 (Enter 1 0o300) ∷ out_buffer 1 ∷ fills 1 0o141 128
    ++ out_buffer 1 ∷ Examine 1 0o142 ∷ Examine 1 0o141 ∷ header_at_1000 1)
    ∷ (fills 1 0o344 5 ++ by 1 (Releas 1) ∷ Examine 1 0o1000 ∷ Examine 1 0o1010 ∷ [])
    ∷ (deposits 1 0o1100 (0o10 ∷ 0o446353000000 ∷ join 0o1000 0o1010 ∷ []) ++ by 1 (Open 1 0o1100) ∷ named 1 foo
    ++ by 1 (Lookup 1 0o300) ∷ Examine 1 0o303 ∷ by 1 (Useti 1 2) ∷ in_buffer 1 ∷ close 1 0 ∷ Examine 1 0o1000
    ∷ Examine 1 0o1010 ∷ Examine 1 0o1012 ∷ [])
    ∷ [])
    ≡ (
      Done ∷ Done ∷ Done ∷ Done ∷ Value 128 ∷ Value 0o000201000344 ∷ Value 0o000000000344 ∷ Value 0o004400000345
          ∷ Value 128 ∷ [],
      pos 45,
    )
    ∷ (Done ∷ Value 0o400000000344 ∷ Value 0o400000000000 ∷ [], pos 44)
    ∷ (
      Done ∷ Done ∷ Value 0o777573000000 ∷ Done ∷ Done ∷ Done ∷ Value 0o400000000000 ∷ Value 0o400000000547
          ∷ Value 0 ∷ [],
      pos 44,
    )
    ∷ []
unfolding empty insert get remove entries size dump_list areas_from setup in_ready in_writes out_ready
    out_writes last_words
two_buffers = refl

-- If there is no room for the last buffer, the channel stays open, until what it wrote is dropped.
abbrev one_block_left : State
one_block_left = foo_of 0o057 5760

no_room : parts small 1000 one_block_left (
    (opened 1 0 0o1000 0 ++ named 1 bar ++ by 1 (Enter 1 0o300) ∷ out_buffer 1 ∷ [])
    ∷ (fills 1 0o141 1 ++ close 1 0 ∷ by 1 (Getsts 1) ∷ by 1 (Releas 1) ∷ Examine 1 0o1000 ∷ [])
    ∷ (close 1 0o40 ∷ [])
    ∷ [])
    ≡ (Done ∷ Done ∷ Done ∷ [], pos 0)
    ∷ (Stopped 0o040000 ∷ Value 0o040000 ∷ Stopped 0o040000 ∷ Value 0o000000000141 ∷ [], pos 0)
    ∷ (Done ∷ [], pos 1)
    ∷ []
unfolding empty insert get remove entries size dump_list areas_from setup in_ready in_writes out_ready
    out_writes last_words
no_room = refl

-- Headers: one past the core, none at all, and no ring in dump mode.
headers : parts small 1000 fresh ((opened 1 0 0o1776 0 ++ opened 1 0o17 0o1776 0 ++ by 1 (Outbuf 1 2) ∷ opened 1 1 0 0
    ++ by 1 (Inbuf 1 2) ∷ opened 1 0o15 0o1776 0) ∷ [])
    ≡ (AddressCheck ∷ Done ∷ Refused 5 ∷ Done ∷ Refused 5 ∷ Stopped 0o400015 ∷ [], pos 47) ∷ []
unfolding empty insert get remove entries size dump_list areas_from setup in_ready in_writes out_ready
    out_writes last_words
headers = refl

-- A default ring that lies over its own header, or over the word that says where rings go, is seen as it was left.
overlaps : parts small 1000 two_words (
    (opened 1 0 0 0o137 ++ named 1 foo ++ by 1 (Lookup 1 0o300) ∷ in_buffer 1 ∷ [])
    ∷ (opened 1 0 0 0o141 ++ named 1 foo ++ by 1 (Lookup 1 0o300) ∷ in_buffer 1 ∷ [])
    ∷ (opened 1 0 0 0o142 ++ named 1 foo ++ by 1 (Lookup 1 0o300) ∷ in_buffer 1 ∷ [])
    ∷ [])
    ≡ (Done ∷ Done ∷ AddressCheck ∷ [], pos 45) ∷ (Done ∷ Done ∷ AddressCheck ∷ [], pos 45)
    ∷ (Done ∷ Done ∷ Done ∷ [], pos 45) ∷ []
unfolding empty insert get remove entries size dump_list areas_from setup in_ready in_writes out_ready
    out_writes last_words
overlaps = refl
