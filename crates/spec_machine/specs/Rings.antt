-- Buffer rings: steps of a core, which is a list of words.
--
-- A header has three words. The right half of the first names the current buffer, and its bit 0 is set while the ring
-- isn't in use yet; the second is a byte pointer, the third a byte count. A buffer is named by the address of its
-- second word, which has a use bit, the size of the buffer's data and one more in bits 1 to 17, and the next buffer in
-- its right half. The word before it is for a status, the right half of the word after it counts the words of data, and
-- these follow.
--
-- A step is a list of writes, made in their order in the core from which the step reads everything. If a ring is set up
-- first, that is a step of its own, and what follows reads the core that it left.
use Rattle.std.specs.Prelude.{ℕ, zero, suc, ◌+◌, ◌-◌, ◌*◌, ◌/◌, ◌%◌, ◌^◌, ◌==◌, ◌&&◌, ◌||◌, nat_lt, nat_le, not, Bool}
use Rattle.std.specs.Prelude.{false, if◌then◌else◌, List, [], ◌∷◌, ◌++◌, length, replicate, Option, Some, None}
use Rattle.std.specs.Prelude.{slice_index, slice_range}
use Rattle.words36.specs.Common.{left, right, join}
use Rattle.spec_machine.specs.Cores.{lies_outside, after_writes, placed, first_free}

-- The modes with buffers, and their bytes: of 7 bits in ASCII and ASCII line, else of 36.

abbrev pub is_buffered : ℕ → Bool
is_buffered mode = nat_le mode 1 || (mode == 0o10) || (mode == 0o13) || (mode == 0o14)

abbrev pub byte_size : ℕ → ℕ
byte_size mode = if nat_le mode 1 then 7 else 36

abbrev pub bytes_in_word : ℕ → ℕ
bytes_in_word size = 36 / size

-- a byte pointer without a position: the size of a byte, and an address
abbrev pub pointer : ℕ → ℕ → ℕ
pointer size address = size * 2 ^ 24 + address

-- Bit 0 of a word.

abbrev pub is_marked : ℕ → Bool
is_marked word = nat_le (2 ^ 35) word

abbrev pub marked : ℕ → ℕ
marked word = 2 ^ 35 + word % 2 ^ 35

abbrev pub unmarked : ℕ → ℕ
unmarked word = word % 2 ^ 35

-- A disk buffer: 200 words of data, in all 203.

abbrev pub data_words : ℕ
data_words = 0o200

abbrev pub buffer_words : ℕ
buffer_words = 0o203

-- it lies in the core, and has the size of a disk buffer
abbrev pub is_good : List ℕ → ℕ → Bool
is_good core a = nat_le 1 a && nat_lt (a + 0o201) (length core) && (left (slice_index core a) % 2 ^ 17 == 0o201)

-- A ring that is set up.

-- the three words of a header whose ring isn't in use: they name the first buffer, or 0
abbrev pub unused_header : ℕ → ℕ → ℕ → List (ℕ × ℕ)
unused_header header size first = placed header (join 0o400000 first ∷ pointer size 0 ∷ 0 ∷ [])

-- where the next ring goes: the right half of a job word
abbrev pub base : List ℕ → ℕ
base core = right (slice_index core first_free)

-- buffer k of n, from 0, and the one after it: the last one names the first
abbrev pub buffer_at : ℕ → ℕ → ℕ
buffer_at b k = b + k * buffer_words + 1

abbrev pub follower : ℕ → ℕ → ℕ
follower n k = if k + 1 == n then 0 else k + 1

abbrev pub buffer_writes : ℕ → ℕ → ℕ → List (ℕ × ℕ)
buffer_writes b n k = placed (b + k * buffer_words) (0 ∷ join 0o201 (buffer_at b (follower n k)) ∷ 0 ∷ [])

-- those of the first k buffers
abbrev pub ring_writes : ℕ → ℕ → ℕ → List (ℕ × ℕ)
ring_writes b n zero = []
ring_writes b n (suc k) = ring_writes b n k ++ buffer_writes b n k

abbrev pub setup_writes : List ℕ → ℕ → ℕ → ℕ → List (ℕ × ℕ)
setup_writes core header size n =
    ring_writes (base core) n n
    ++ (first_free, join (left (slice_index core first_free)) (base core + n * buffer_words))
    ∷ unused_header header size (buffer_at (base core) 0)

-- The core after a setup of n buffers. None is AddressCheck: the ring or the header doesn't fit.
unfoldable pub setup : List ℕ → ℕ → ℕ → ℕ → Option (List ℕ)
setup core header size n =
    if lies_outside core (base core) (n * buffer_words) || lies_outside core header 3 then None
    else Some (after_writes core (setup_writes core header size n))

-- how many buffers a number means
abbrev pub buffers_of : ℕ → ℕ
buffers_of n = if n == 0 then 2 else n

-- A ring that is used.

abbrev pub current : List ℕ → ℕ → ℕ
current core header = right (slice_index core header)

abbrev pub is_unused : List ℕ → ℕ → Bool
is_unused core header = is_marked (slice_index core header)

-- the buffer that the current one names
abbrev pub next : List ℕ → ℕ → ℕ
next core header = right (slice_index core (current core header))

-- the buffer that a step moves on to
abbrev pub target : List ℕ → ℕ → ℕ
target core header = if is_unused core header then current core header else next core header

-- the core in which an IN or OUT finds its ring: a ring of two buffers is set up if the header names none
abbrev pub with_ring : List ℕ → ℕ → ℕ → Option (List ℕ)
with_ring core header size =
    if current core header == 0 then setup core header size 2
    else if lies_outside core header 3 then None
    else Some core

-- a core, if a test of it passes
abbrev pub kept_if : (List ℕ → Bool) → Option (List ℕ) → Option (List ℕ)
kept_if test None = None
kept_if test (Some core) = if test core then Some core else None

-- IN, of words from a body, with a status.

abbrev pub in_is_good : ℕ → List ℕ → Bool
in_is_good header core = is_good core (current core header) && is_good core (target core header)

-- the core that an IN works on; None is AddressCheck
unfoldable pub in_ready : List ℕ → ℕ → ℕ → Option (List ℕ)
in_ready core header size = kept_if (in_is_good header) (with_ring core header size)

-- the buffer that was the current one is no longer in use
abbrev pub buffer_left : List ℕ → ℕ → List (ℕ × ℕ)
buffer_left core header =
    if is_unused core header then []
    else (current core header, unmarked (slice_index core (current core header))) ∷ []

abbrev pub filled : List ℕ → ℕ → ℕ → ℕ → ℕ → List ℕ → List (ℕ × ℕ)
filled core header size status a words =
    (a - 1, status) ∷ placed (a + 2) words
    ++ (a + 1, length words) ∷ (a, marked (slice_index core a))
    ∷ placed header (a ∷ pointer size (a + 1) ∷ length words * bytes_in_word size ∷ [])

unfoldable pub in_writes : List ℕ → ℕ → ℕ → ℕ → List ℕ → List (ℕ × ℕ)
in_writes core header size status words = buffer_left core header
    ++ filled core header size status (target core header) words

-- OUT. On a ring that isn't in use yet it puts nothing, and gives the first buffer to be filled.

-- how many words the current buffer has, by the address in the byte pointer
abbrev pub put_count : List ℕ → ℕ → ℕ
put_count core header = right (slice_index core (header + 1)) - (current core header + 1)

-- the current buffer and its count are good
abbrev pub last_is_good : List ℕ → ℕ → Bool
last_is_good core header =
    is_good core (current core header)
    && nat_le (current core header + 1) (right (slice_index core (header + 1)))
    && nat_le (put_count core header) data_words

abbrev pub out_is_good : ℕ → List ℕ → Bool
out_is_good header core =
    if is_unused core header then is_good core (current core header)
    else last_is_good core header && is_good core (next core header)

unfoldable pub out_ready : List ℕ → ℕ → ℕ → Option (List ℕ)
out_ready core header size = kept_if (out_is_good header) (with_ring core header size)

-- the words of the current buffer
abbrev pub buffer_data : List ℕ → ℕ → List ℕ
buffer_data core header = slice_range core (current core header + 2) (current core header + 2 + put_count core header)

abbrev pub ring_words : List ℕ → ℕ → List ℕ
ring_words core header = if is_unused core header then [] else buffer_data core header

-- the count of the buffer that was put is written, and the buffer is no longer in use
abbrev pub put_behind : List ℕ → ℕ → List (ℕ × ℕ)
put_behind core header =
    if is_unused core header then []
    else (current core header + 1, put_count core header)
    ∷ (current core header, unmarked (slice_index core (current core header))) ∷ []

abbrev pub buffer_emptied : ℕ → ℕ → ℕ → List (ℕ × ℕ)
buffer_emptied header size a =
    placed (a + 2) (replicate data_words 0) ++ (a + 1, 0)
    ∷ placed header (a ∷ pointer size (a + 1) ∷ data_words * bytes_in_word size ∷ [])

unfoldable pub out_writes : List ℕ → ℕ → ℕ → List (ℕ × ℕ)
out_writes core header size = put_behind core header ++ buffer_emptied header size (target core header)

-- CLOSE of an output side.

-- there is a last buffer
abbrev pub has_last : List ℕ → ℕ → Bool
has_last core header = if (header == 0) || is_unused core header then false else not (current core header == 0)

-- The words of the last buffer, none if there is no such buffer. None is AddressCheck.
unfoldable pub last_words : List ℕ → ℕ → Option (List ℕ)
last_words core header =
    if not (has_last core header) then Some []
    else if last_is_good core header && not (lies_outside core header 3) then Some (buffer_data core header)
    else None

-- the header of a side that closes
abbrev pub closed_header : List ℕ → ℕ → List (ℕ × ℕ)
closed_header core header = if header == 0 then [] else (header, marked (slice_index core header)) ∷ (header + 2, 0)
    ∷ []
