-- A ring of two that a step sets up first, and what the step then finds.
use Rattle.std.proofs.Common.{◌≡◌, ◌≢◌, ℕ, ◌+◌, ◌*◌, ◌%◌, ◌^◌, ◌<◌, ◌≤◌, Bool, true, false, List, [], ◌∷◌, length}
use Rattle.std.proofs.Common.{refl, ap, sym, ◌∙◌, inl, inr, ◌==◌, ◌&&◌, ◌||◌, nat_lt, if◌then◌else◌, Some, None}
use Rattle.std.proofs.Common.{Option, arith, slice_index}
use Rattle.std.specs.Prelude.{not, is_some, IsSome, option_map}
use Rattle.std.proofs.lemmas.Grind.{common_steps, elements}
use Rattle.std.proofs.lemmas.Nat.{div-mul-add}
use Rattle.std.proofs.lemmas.Bool.Decides.{nat_tests}
use Rattle.std.proofs.lemmas.Bool.{cases_lt}
use Rattle.words36.specs.Common.{left, right, join}
use Rattle.spec_machine.specs.Common.{after_writes, first_free, base, buffer_at, ring_writes, setup_writes}
use Rattle.spec_machine.specs.Common.{unused_header, pointer, setup, with_ring, kept_if, current, is_unused}
use Rattle.spec_machine.specs.Common.{is_marked, target, next, is_good, in_is_good, last_is_good, out_is_good}
use Rattle.spec_machine.specs.Common.{in_ready, out_ready, ring_words, buffer_data}
use Rattle.usercore.specs.declared.byte_size.ByteSize.{ByteSize}
use Rattle.usercore.specs.declared.byte_size.ByteSize.TheVariants.{Ascii, Whole}
use Rattle.usercore.specs.Common.{bits_of, is_spared, first_is_good}
use Rattle.spec_machine.proofs.Common.{writes_append, writes_length}
use Rattle.usercore.proofs.WriteLaws.{read_header}

-- the core that the setup leaves, if the ring fits
abbrev pub ringed : List ℕ → ℕ → ℕ → List ℕ
ringed core h size = after_writes core (setup_writes core h size 2)

-- only its buffers
abbrev buffered : List ℕ → List ℕ
buffered core = after_writes core (ring_writes (base core) 2 2)

long_ringed : (core : List ℕ) (h size : ℕ) → length (ringed core h size) ≡ length core
long_ringed core h size = writes_length core (setup_writes core h size 2)

-- A word of that core: the later write counts.

abbrev written_over : ℕ → ℕ → ℕ → ℕ → ℕ → ℕ → ℕ
written_over h size b l before a =
    if a == h + 1 + 1 then 0 else if a == h + 1 then pointer size 0 else if a == h then join 0o400000 (buffer_at b 0)
    else if a == first_free then join l (b + 2 * 0o203) else before

read_ringed : (core : List ℕ) (h size a : ℕ) → h + 2 < length core → first_free < length core
    → slice_index (ringed core h size) a
    ≡ written_over h size (base core) (left (slice_index core first_free)) (slice_index (buffered core) a) a
read_ringed core h size a there job =
    ap (λ c. slice_index c a) (writes_append core (ring_writes (base core) 2 2)
    ((first_free, join (left (slice_index core first_free)) (base core + 2 * 0o203))
    ∷ unused_header h size (buffer_at (base core) 0)))
    ∙ read_header (buffered core) first_free _ h _ (pointer size 0) 0 a
    (omega (arith, writes_length core (ring_writes (base core) 2 2)))
    (omega (arith, writes_length core (ring_writes (base core) 2 2)))

-- The first buffer.

first_linked : (core : List ℕ) (b : ℕ) → b + 262 ≤ length core
    → slice_index (after_writes core (ring_writes b 2 2)) (b + 1) ≡ join 0o201 (buffer_at b 1)
first_linked core b fits = grind (arith, elements)

-- a test of a word that is overwritten in one of four ways
over : (test : ℕ → Bool) (t u v w : Bool) (a b c d e : ℕ) → test a ≡ false → test b ≡ false → test c ≡ false
    → test e ≡ true
    → test (if t then a else if u then b else if v then c else if w then d else e)
    ≡ (not t && not u && not v && (not w || test d))
over test true u v w a b c d e fa fb fc te = fa
over test false true v w a b c d e fa fb fc te = fb
over test false false true w a b c d e fa fb fc te = fc
over test false false false true a b c d e fa fb fc te = refl
over test false false false false a b c d e fa fb fc te = te

has_size : ℕ → Bool
has_size word = left word % 2 ^ 17 == 0o201

join_size : (l a : ℕ) → a < 2 ^ 18 → left (join l a) % 2 ^ 17 ≡ l % 2 ^ 17
join_size l a low = rw (div-mul-add l (2 ^ 18) a low) refl

joined_size : (l a : ℕ) → a < 2 ^ 18 → has_size (join l a) ≡ (l % 2 ^ 17 == 0o201)
unfolding has_size
joined_size l a low = ap (λ n. n == 0o201) (join_size l a low)

no_size : (bytes : ByteSize) → has_size (pointer (bits_of bytes) 0) ≡ false
unfolding has_size
no_size Ascii = refl
no_size Whole = refl

zero_size : has_size 0 ≡ false
unfolding has_size
zero_size = refl

first_sized : (core : List ℕ) (h : ℕ) (bytes : ByteSize) → h + 3 ≤ length core → base core + 262 ≤ length core
    → length core ≤ 2 ^ 17 → first_free < length core
    → has_size (slice_index (ringed core h (bits_of bytes)) (base core + 1))
    ≡ is_spared (base core) h (left (slice_index core first_free))
first_sized core h bytes there fits small job =
    let b = base core in
    let l = left (slice_index core first_free) in
    ap has_size (read_ringed core h (bits_of bytes) (b + 1) (omega arith) job)
    ∙ over has_size _ _ _ _ 0 (pointer (bits_of bytes) 0) (join 0o400000 (buffer_at b 0)) (join l (b + 2 * 0o203))
    (slice_index (buffered core) (b + 1)) zero_size (no_size bytes)
    (joined_size 0o400000 (buffer_at b 0) (omega arith))
    (ap has_size (first_linked core b fits) ∙ joined_size 0o201 (buffer_at b 1) (omega arith))
    ∙ ap (λ f. not (b + 1 == h + 1 + 1) && not (b + 1 == h + 1) && not (b + 1 == h) && (not (b + 1 == first_free) || f))
    (joined_size l (b + 2 * 0o203) (omega arith))

sized_is_good : (core : List ℕ) (a : ℕ) → 1 ≤ a → a + 0o201 < length core
    → is_good core a ≡ has_size (slice_index core a)
unfolding has_size
sized_is_good core a low high = grind (arith, nat_tests)

fitting : (size b h : ℕ) (f : Bool) → h + 3 ≤ size → b + 262 ≤ size
    → (not (nat_lt size (b + 0o406)) && not (nat_lt size (h + 3)) && f) ≡ f
fitting size b h f there fits = grind (arith, nat_tests)

first_good : (core : List ℕ) (h : ℕ) (bytes : ByteSize) → h + 3 ≤ length core → base core + 262 ≤ length core
    → length core ≤ 2 ^ 17 → first_free < length core
    → is_good (ringed core h (bits_of bytes)) (base core + 1) ≡ first_is_good core h
first_good core h bytes there fits small job =
    sized_is_good (ringed core h (bits_of bytes)) (base core + 1) (omega arith)
    (omega (arith, long_ringed core h (bits_of bytes)))
    ∙ first_sized core h bytes there fits small job
    ∙ sym (fitting (length core) (base core) h (is_spared (base core) h (left (slice_index core first_free)))
    there fits)

-- The header then names the first buffer, and its ring isn't in use.

pub at_header : (core : List ℕ) (h size : ℕ) → h + 3 ≤ length core → first_free < length core
    → slice_index (ringed core h size) h ≡ join 0o400000 (buffer_at (base core) 0)
at_header core h size there job =
    read_ringed core h size h (omega arith) job ∙ grind (arith, nat_tests)

pub join_right : (l a : ℕ) → a < 2 ^ 18 → right (join l a) ≡ a
join_right l a low = grind (arith, common_steps)

join_marked : (a : ℕ) → is_marked (join 0o400000 a) ≡ true
join_marked a = grind (arith, nat_tests)

names_first : (core : List ℕ) (h size : ℕ) → h + 3 ≤ length core → base core + 262 ≤ length core → length core ≤ 2 ^ 17
    → first_free < length core → current (ringed core h size) h ≡ base core + 1
names_first core h size there fits small job = ap right (at_header core h size there job)
    ∙ join_right 0o400000 (buffer_at (base core) 0) (omega arith) ∙ omega arith

pub is_fresh : (core : List ℕ) (h size : ℕ) → h + 3 ≤ length core → first_free < length core
    → is_unused (ringed core h size) h ≡ true
is_fresh core h size there job = ap is_marked (at_header core h size there job) ∙ join_marked (buffer_at (base core) 0)

and_same : (b : Bool) → (b && b) ≡ b
and_same true = refl
and_same false = refl

fresh_in : (core : List ℕ) (h a : ℕ) → current core h ≡ a → is_unused core h ≡ true → in_is_good h core ≡ is_good core a
fresh_in core h a e u =
    let f : target core h ≡ a = ap (λ b. if b then current core h else next core h) u ∙ e in
    ap (λ x. is_good core x && is_good core (target core h)) e ∙ ap (λ x. is_good core a && is_good core x) f
    ∙ and_same (is_good core a)

fresh_out : (core : List ℕ) (h a : ℕ) → current core h ≡ a → is_unused core h ≡ true
    → out_is_good h core ≡ is_good core a
fresh_out core h a e u =
    ap (λ b. if b then is_good core (current core h) else (last_is_good core h && is_good core (next core h))) u
    ∙ ap (is_good core) e

-- The ring that a step finds.

ring_fits : (core : List ℕ) (h size : ℕ) → current core h ≡ 0 → h + 3 ≤ length core → base core + 262 ≤ length core
    → with_ring core h size ≡ Some (ringed core h size)
unfolding setup
ring_fits core h size none there fits = grind (arith, nat_tests)

ring_over : (core : List ℕ) (h size : ℕ) → current core h ≡ 0 → length core < base core + 262
    → with_ring core h size ≡ None
unfolding setup
ring_over core h size none over = grind (arith, nat_tests)

-- a header outside the core has no ring
pub ring_past : (core : List ℕ) (h size : ℕ) → length core < h + 3 → with_ring core h size ≡ None
unfolding setup
ring_past core h size past = grind (arith, nat_tests)

pub ring_there : (core : List ℕ) (h size : ℕ) → current core h ≢ 0 → h + 3 ≤ length core
    → with_ring core h size ≡ Some core
ring_there core h size some there = grind (arith, nat_tests)

-- Whether a step can be done, and what it puts.

some_if : {X : Type 0} (b : Bool) (x : X) → is_some (if b then Some x else None) ≡ b
some_if true x = refl
some_if false x = refl

over_no_ring : (core : List ℕ) (h : ℕ) → length core < base core + 262 → first_is_good core h ≡ false
over_no_ring core h over = grind (arith, nat_tests)

pub in_first : (core : List ℕ) (h : ℕ) (bytes : ByteSize) → h + 3 ≤ length core → length core ≤ 2 ^ 17
    → first_free < length core → current core h ≡ 0
    → is_some (in_ready core h (bits_of bytes)) ≡ first_is_good core h
unfolding in_ready
in_first core h bytes there small job none =
    elim (cases_lt (length core) (base core + 262)) [
      | inl over ↦ ap (λ o. is_some (kept_if (in_is_good h) o)) (ring_over core h (bits_of bytes) none over)
          ∙ sym (over_no_ring core h over)
      | inr fits ↦ ap (λ o. is_some (kept_if (in_is_good h) o)) (ring_fits core h (bits_of bytes) none there fits)
          ∙ some_if (in_is_good h (ringed core h (bits_of bytes))) (ringed core h (bits_of bytes))
          ∙ fresh_in (ringed core h (bits_of bytes)) h (base core + 1)
          (names_first core h (bits_of bytes) there fits small job) (is_fresh core h (bits_of bytes) there job)
          ∙ first_good core h bytes there fits small job
    ]

pub in_used : (core : List ℕ) (h size : ℕ) → current core h ≢ 0 → h + 3 ≤ length core
    → is_some (in_ready core h size) ≡ in_is_good h core
unfolding in_ready
in_used core h size some there = ap (λ o. is_some (kept_if (in_is_good h) o)) (ring_there core h size some there)
    ∙ some_if (in_is_good h core) core

pub in_past : (core : List ℕ) (h size : ℕ) → length core < h + 3 → in_ready core h size ≡ None
unfolding in_ready
in_past core h size past = ap (kept_if (in_is_good h)) (ring_past core h size past)

nothing_if : (b : Bool) (core : List ℕ) (h : ℕ) → is_unused core h ≡ true
    → option_map (λ ready. ring_words ready h) (if b then Some core else None) ≡ (if b then Some [] else None)
nothing_if true core h u = ap (λ b. Some (if b then [] else buffer_data core h)) u
nothing_if false core h u = refl

pub out_first : (core : List ℕ) (h : ℕ) (bytes : ByteSize) → h + 3 ≤ length core → length core ≤ 2 ^ 17
    → first_free < length core → current core h ≡ 0
    → option_map (λ ready. ring_words ready h) (out_ready core h (bits_of bytes))
    ≡ (if first_is_good core h then Some [] else None)
unfolding out_ready
out_first core h bytes there small job none =
    elim (cases_lt (length core) (base core + 262)) [
      | inl over ↦ ap (λ o. option_map (λ ready. ring_words ready h) (kept_if (out_is_good h) o))
          (ring_over core h (bits_of bytes) none over)
          ∙ ap (λ b. if b then Some [] else None) (sym (over_no_ring core h over))
      | inr fits ↦ ap (λ o. option_map (λ ready. ring_words ready h) (kept_if (out_is_good h) o))
          (ring_fits core h (bits_of bytes) none there fits)
          ∙ nothing_if (out_is_good h (ringed core h (bits_of bytes))) (ringed core h (bits_of bytes)) h
          (is_fresh core h (bits_of bytes) there job)
          ∙ ap (λ b. if b then Some [] else None)
          (fresh_out (ringed core h (bits_of bytes)) h (base core + 1)
          (names_first core h (bits_of bytes) there fits small job) (is_fresh core h (bits_of bytes) there job)
          ∙ first_good core h bytes there fits small job)
    ]

pub out_used : (core : List ℕ) (h size : ℕ) → current core h ≢ 0 → h + 3 ≤ length core
    → out_ready core h size ≡ (if out_is_good h core then Some core else None)
unfolding out_ready
out_used core h size some there = ap (kept_if (out_is_good h)) (ring_there core h size some there)

pub out_past : (core : List ℕ) (h size : ℕ) → length core < h + 3 → out_ready core h size ≡ None
unfolding out_ready
out_past core h size past = ap (kept_if (out_is_good h)) (ring_past core h size past)

-- if a ring is set up first: nothing is put, or nothing can be done
pub out_first_good : (core : List ℕ) (h : ℕ) (bytes : ByteSize) → h + 3 ≤ length core → length core ≤ 2 ^ 17
    → first_free < length core → current core h ≡ 0 → first_is_good core h ≡ true
    → option_map (λ ready. ring_words ready h) (out_ready core h (bits_of bytes)) ≡ Some []
out_first_good core h bytes there small job none good = out_first core h bytes there small job none
    ∙ ap (λ b. if b then Some [] else None) good

pub out_first_bad : (core : List ℕ) (h : ℕ) (bytes : ByteSize) → h + 3 ≤ length core → length core ≤ 2 ^ 17
    → first_free < length core → current core h ≡ 0 → first_is_good core h ≡ false
    → option_map (λ ready. ring_words ready h) (out_ready core h (bits_of bytes)) ≡ None
out_first_bad core h bytes there small job none bad = out_first core h bytes there small job none
    ∙ ap (λ b. if b then Some [] else None) bad

-- The ring of a step that can be done.

mapped : {X Y : Type 0} (f : X → Y) (o : Option X) (y : Y) → option_map f o ≡ Some y → IsSome o
mapped f None y e = cc
mapped f (Some x) y e = refl

kept : (test : List ℕ → Bool) (o : Option (List ℕ)) → IsSome (kept_if test o) → IsSome o
kept test None some = some
kept test (Some core) some = refl

kept_is : (test : Bool) (core : List ℕ) → IsSome (if test then Some core else None)
    → (if test then Some core else None) ≡ Some core
kept_is true core some = refl
kept_is false core some = cc

pub in_has_ring : (core : List ℕ) (h size : ℕ) (put : List ℕ) → option_map (λ ready. []) (in_ready core h size)
    ≡ Some put → IsSome (with_ring core h size)
unfolding in_ready
in_has_ring core h size put e = kept (in_is_good h) (with_ring core h size)
    (mapped (λ ready. []) (in_ready core h size) put e)

pub in_is : (core ready : List ℕ) (h size : ℕ) (put : List ℕ) → option_map (λ ready. []) (in_ready core h size)
    ≡ Some put → with_ring core h size ≡ Some ready → in_ready core h size ≡ Some ready
unfolding in_ready
in_is core ready h size put e is =
    let some : IsSome (kept_if (in_is_good h) (with_ring core h size)) = mapped (λ ready. [])
    (in_ready core h size) put e in
    ap (kept_if (in_is_good h)) is ∙ kept_is (in_is_good h ready) ready (rw is at some)

pub out_has_ring : (core : List ℕ) (h size : ℕ) (put : List ℕ)
    → option_map (λ ready. ring_words ready h) (out_ready core h size) ≡ Some put → IsSome (with_ring core h size)
unfolding out_ready
out_has_ring core h size put e = kept (out_is_good h) (with_ring core h size)
    (mapped (λ ready. ring_words ready h) (out_ready core h size) put e)

pub out_is : (core ready : List ℕ) (h size : ℕ) (put : List ℕ)
    → option_map (λ ready. ring_words ready h) (out_ready core h size) ≡ Some put → with_ring core h size ≡ Some ready
    → out_ready core h size ≡ Some ready
unfolding out_ready
out_is core ready h size put e is =
    let some : IsSome (kept_if (out_is_good h) (with_ring core h size)) = mapped (λ ready. ring_words ready h)
    (out_ready core h size) put e in
    ap (kept_if (out_is_good h)) is ∙ kept_is (out_is_good h ready) ready (rw is at some)
