-- A file of characters that job 1 puts through a ring of one buffer.
use Rattle.std.proofs.Common.{◌≡◌, ℕ, ◌+◌, ◌-◌, ◌<◌, ◌≤◌, Bool, true, false, if◌then◌else◌, List, [], ◌∷◌, ◌++◌}
use Rattle.std.proofs.Common.{length, Option, Some, None, refl, sym, ap, subst, ◌∙◌, arith}
use Rattle.std.specs.Prelude.{slice_index, slice_range, slice_set, nat_lt, nat_le, ◌==◌, ◌&&◌, ◌||◌, not, unwrap_or}
use Rattle.std.proofs.Math.ListN.{length-set}
use Rattle.std.proofs.lemmas.List.{get_or-set_same, get_or-set_other}
use Rattle.std.proofs.lemmas.Bool.{eqb-true, eq-eqb}
use Rattle.std.proofs.lemmas.Bool.Decides.{nat_tests}
use Rattle.words36.specs.Common.{right, join}
use Rattle.spec_machine.specs.Cores.{after_writes, lies_outside, first_free}
use Rattle.spec_machine.specs.Rings.{setup, with_ring, kept_if, out_ready, out_is_good, out_writes, is_good}
use Rattle.spec_machine.specs.Rings.{is_unused, is_marked, current, next, target, put_count, last_is_good}
use Rattle.spec_machine.specs.Rings.{buffer_data, ring_words, buffer_emptied, last_words, has_last, unmarked, pointer}
use Rattle.spec_machine.proofs.CoreWrites.{window, range_window}

-- What writes leave at an address: the last of them that goes there.

abbrev or_else : Option ℕ → Option ℕ → Option ℕ
or_else (Some a) b = Some a
or_else None b = b

abbrev if_here : Bool → ℕ → Option ℕ
if_here here w = if here then Some w else None

abbrev pub written_at : List (ℕ × ℕ) → ℕ → Option ℕ
written_at [] k = None
written_at (w ∷ ws) k = or_else (written_at ws k) (if_here (k == w.0) w.1)

or_else_or : (a b : Option ℕ) (d : ℕ) → unwrap_or (or_else a b) d ≡ unwrap_or a (unwrap_or b d)
or_else_or (Some a) b d = refl
or_else_or None b d = refl

set_at : (core : List ℕ) (a w k : ℕ) → k < length core
    → slice_index (slice_set core a w) k ≡ unwrap_or (if_here (k == a) w) (slice_index core k)
set_at core a w k there = by (k == a) refl
  where
    by : (b : Bool) → (k == a) ≡ b
        → slice_index (slice_set core a w) k ≡ unwrap_or (if_here (k == a) w) (slice_index core k)
    by true e =
        let same : k ≡ a = eqb-true k a e in
        ap (λ n. slice_index (slice_set core n w) k) (sym same) ∙ get_or-set_same core k w 0 there
        ∙ ap (λ b. unwrap_or (if_here b w) (slice_index core k)) (sym e)
    by false e = get_or-set_other core a k w 0 (λ same. let wrong = sym e ∙ eq-eqb k a same in cc)
        ∙ ap (λ b. unwrap_or (if_here b w) (slice_index core k)) (sym e)

pub read_at : (core : List ℕ) (ws : List (ℕ × ℕ)) (k : ℕ) → k < length core
    → slice_index (after_writes core ws) k ≡ unwrap_or (written_at ws k) (slice_index core k)
read_at core [] k there = refl
read_at core (w ∷ ws) k there =
    read_at (slice_set core w.0 w.1) ws k (omega (arith, length-set core w.0 w.1))
    ∙ ap (unwrap_or (written_at ws k)) (set_at core w.0 w.1 k there)
    ∙ sym (or_else_or (written_at ws k) (if_here (k == w.0) w.1) (slice_index core k))

-- The ring: its header at 60, its buffer named 141.

abbrev pub header : ℕ
header = 0o60

abbrev pub buffer : ℕ
buffer = 0o141

-- it is there, and not in use yet
pub record Fresh (core : List ℕ) : Type 0 where
  pub head : slice_index core header ≡ join 0o400000 buffer
  pub link : slice_index core buffer ≡ join 0o201 buffer

-- it is in use, and `count` words are announced
pub record Ring (count : ℕ) (core : List ℕ) : Type 0 where
  pub head : slice_index core header ≡ buffer
  pub end : right (slice_index core (header + 1)) ≡ buffer + 1 + count
  pub link : slice_index core buffer ≡ join 0o201 buffer

abbrev pub ring_made : List (ℕ × ℕ)
ring_made = (0o140, 0) ∷ (0o141, join 0o201 0o141) ∷ (0o142, 0) ∷ (first_free, join 0 0o343)
    ∷ (0o60, join 0o400000 0o141) ∷ (0o61, pointer 7 0) ∷ (0o62, 0) ∷ []

pub setup_is : (core : List ℕ) → length core ≡ 4096 → slice_index core first_free ≡ 0o140
    → setup core header 7 1 ≡ Some (after_writes core ring_made)
unfolding setup
setup_is core l e = rw (e, l) refl

pub made_fresh : (core : List ℕ) → length core ≡ 4096 → Fresh (after_writes core ring_made)
made_fresh core l = record {
  head = read_at core ring_made header (omega arith);
  link = read_at core ring_made buffer (omega arith);
}

buffer_good : (core : List ℕ) → length core ≡ 4096 → slice_index core buffer ≡ join 0o201 buffer
    → is_good core buffer ≡ true
buffer_good core l e = rw (e, l) refl

there_if : (b c : Bool) (x : Option (List ℕ)) (core : List ℕ) → b ≡ false → c ≡ false
    → (if b then x else if c then None else Some core) ≡ Some core
there_if b c x core e f = rw (e, f) refl

ring_there : (core : List ℕ) → length core ≡ 4096 → current core header ≡ buffer → with_ring core header 7 ≡ Some core
ring_there core l e = there_if (current core header == 0) (lies_outside core header 3) (setup core header 7 2) core
    (ap (λ a. a == 0) e) (ap (λ n. nat_lt n (header + 3)) l)

ready_if : (core : List ℕ) → with_ring core header 7 ≡ Some core → out_is_good header core ≡ true
    → out_ready core header 7 ≡ Some core
unfolding out_ready
ready_if core e good = ap (kept_if (out_is_good header)) e ∙ ap (λ b. if b then Some core else None) good

-- An OUT on a ring that isn't in use yet.
module _ (core : List ℕ) (l : length core ≡ 4096) (is : Fresh core) where
  fresh_current : current core header ≡ buffer
  fresh_current = ap right is.head

  fresh_unused : is_unused core header ≡ true
  fresh_unused = ap is_marked is.head

  pub fresh_ready : out_ready core header 7 ≡ Some core
  fresh_ready = ready_if core (ring_there core l fresh_current)
      (ap (λ b. if b then is_good core (current core header)
      else last_is_good core header && is_good core (next core header)) fresh_unused
      ∙ ap (is_good core) fresh_current ∙ buffer_good core l is.link)

  pub fresh_words : ring_words core header ≡ []
  fresh_words = ap (λ b. if b then [] else buffer_data core header) fresh_unused

  fresh_target : target core header ≡ buffer
  fresh_target = ap (λ b. if b then current core header else next core header) fresh_unused ∙ fresh_current

  fresh_writes : out_writes core header 7 ≡ buffer_emptied header 7 buffer
  unfolding out_writes
  fresh_writes = ap (λ b. (if b then [] else (current core header + 1, put_count core header)
      ∷ (current core header, unmarked (slice_index core (current core header))) ∷ [])
      ++ buffer_emptied header 7 (target core header)) fresh_unused ∙ ap (buffer_emptied header 7) fresh_target

  pub fresh_after : Ring 0 (after_writes core (out_writes core header 7))
  fresh_after = subst (λ ws. Ring 0 (after_writes core ws)) (sym fresh_writes) (record {
    head = read_at core (buffer_emptied header 7 buffer) header (omega arith);
    end = ap right (read_at core (buffer_emptied header 7 buffer) (header + 1) (omega arith));
    link = read_at core (buffer_emptied header 7 buffer) buffer (omega arith) ∙ is.link;
  })

-- And on one that is.
module _ (core : List ℕ) (l : length core ≡ 4096) (count : ℕ) (few : count ≤ 128) (is : Ring count core) where
  used_current : current core header ≡ buffer
  used_current = ap right is.head

  used : is_unused core header ≡ false
  used = ap is_marked is.head

  used_count : put_count core header ≡ count
  used_count = counted (right (slice_index core (header + 1))) (current core header) is.end used_current
    where
      counted : (r c : ℕ) → r ≡ buffer + 1 + count → c ≡ buffer → r - (c + 1) ≡ count
      counted r c e f = omega arith

  used_next : next core header ≡ buffer
  used_next = ap (λ a. right (slice_index core a)) used_current ∙ ap right is.link

  all_true : (a b c : Bool) → a ≡ true → b ≡ true → c ≡ true → (a && b && c) ≡ true
  all_true a b c e f g = rw (e, f, g) refl

  used_good : last_is_good core header ≡ true
  used_good = all_true (is_good core (current core header))
      (nat_le (current core header + 1) (right (slice_index core (header + 1))))
      (nat_le (put_count core header) 128) (ap (is_good core) used_current ∙ buffer_good core l is.link)
      (behind (current core header) (right (slice_index core (header + 1))) used_current is.end)
      (ap (λ n. nat_le n 128) used_count ∙ small)
    where
      behind : (c r : ℕ) → c ≡ buffer → r ≡ buffer + 1 + count → nat_le (c + 1) r ≡ true
      behind c r e f = grind (arith, nat_tests)

      small : nat_le count 128 ≡ true
      small = grind (arith, nat_tests)

  two_true : (a b : Bool) → a ≡ true → b ≡ true → (a && b) ≡ true
  two_true a b e f = rw (e, f) refl

  pub used_ready : out_ready core header 7 ≡ Some core
  used_ready = ready_if core (ring_there core l used_current)
      (ap (λ b. if b then is_good core (current core header)
      else last_is_good core header && is_good core (next core header)) used
      ∙ two_true (last_is_good core header) (is_good core (next core header)) used_good
      (ap (is_good core) used_next ∙ buffer_good core l is.link))

  used_data : buffer_data core header ≡ window core 0o143 count
  used_data = ap {A = ℕ × ℕ} (λ n. slice_range core (n.0 + 2) (n.0 + 2 + n.1)) (λ i. (used_current i, used_count i))
      ∙ range_window core 0o143 count

  pub used_words : ring_words core header ≡ window core 0o143 count
  used_words = ap (λ b. if b then [] else buffer_data core header) used ∙ used_data

  used_target : target core header ≡ buffer
  used_target = ap (λ b. if b then current core header else next core header) used ∙ used_next

  abbrev writes_used : List (ℕ × ℕ)
  writes_used = (buffer + 1, count) ∷ (buffer, unmarked (join 0o201 buffer)) ∷ buffer_emptied header 7 buffer

  used_writes : out_writes core header 7 ≡ writes_used
  unfolding out_writes
  used_writes = ap (λ b. (if b then [] else (current core header + 1, put_count core header)
      ∷ (current core header, unmarked (slice_index core (current core header))) ∷ [])
      ++ buffer_emptied header 7 (target core header)) used
      ∙ ap {A = ℕ × ℕ × ℕ × ℕ} (λ n. (n.0 + 1, n.1) ∷ (n.0, unmarked n.2) ∷ buffer_emptied header 7 n.3)
      (λ i. (used_current i, used_count i, (ap (slice_index core) used_current ∙ is.link) i, used_target i))

  pub used_after : Ring 0 (after_writes core (out_writes core header 7))
  used_after = subst (λ ws. Ring 0 (after_writes core ws)) (sym used_writes) (record {
    head = read_at core writes_used header (omega arith);
    end = ap right (read_at core writes_used (header + 1) (omega arith));
    link = read_at core writes_used buffer (omega arith);
  })

-- Nothing is left in it for the CLOSE.
pub no_last : (core : List ℕ) → length core ≡ 4096 → Ring 0 core → last_words core header ≡ Some []
unfolding last_words
no_last core l is =
    let last : has_last core header ≡ true =
    has (is_unused core header) (current core header) (used core l 0 (omega arith)
    is) (used_current core l 0 (omega arith) is) in
    chosen (has_last core header) (last_is_good core header) (lies_outside core header 3) (buffer_data core header) last
    (used_good core l 0 (omega arith) is) (ap (λ n. nat_lt n (header + 3)) l)
    ∙ ap Some (used_data core l 0 (omega arith) is)
  where
    has : (b : Bool) (c : ℕ) → b ≡ false → c ≡ buffer
        → (if (header == 0) || b then false else not (c == 0)) ≡ true
    has b c e f = rw (e, f) refl

    chosen : (a b c : Bool) (words : List ℕ) → a ≡ true → b ≡ true → c ≡ false
        → (if not a then Some [] else if b && not c then Some words else None) ≡ Some words
    chosen a b c words e f g = rw (e, f, g) refl
