-- What one more call makes of a record, and a call at a place.
use Rattle.std.proofs.Common.{◌≡◌, inl, inr, ⊎_elim, ℕ, zero, suc, ◌+◌, ◌-◌, ◌<◌, ◌≤◌, ◌||◌, true, false, List, ◌∷◌}
use Rattle.std.proofs.Common.{length, get_or, take, Option, Some, None, Result, Ok, Err, IfOk, refl, sym, ◌∙◌, ap}
use Rattle.std.proofs.Common.{subst, arith, length-take, unwrap_or}
use Rattle.std.proofs.lemmas.Bool.{leb-true, le-leb, and_parts, and_from, or_left, cond-true, cond-false}
use Rattle.std.proofs.lemmas.Bool.{false_from_ne_true}
use Rattle.std.proofs.lemmas.List.{get_or-take}
use Rattle.imagefile.specs.Common.{Bytes, MayRemain, Inside, window, FilePasses, FileKeeps, FileWrites, Call, SeekStart}
use Rattle.imagefile.specs.Common.{Write, answer, Unseen, left_by, is_inside, bytes_after, after_calls, IsHonestRecord}
use Rattle.imagefile.specs.Common.{BeginsAt, GoesTo, recorded}
use Rattle.imagefile.proofs.FileLaws.{writes_after}
use Rattle.imagefile.proofs.Record.{window-list}

-- Places

inside_is : (at n p : ℕ) → is_inside at n p ≡ true → Inside at n p
unfolding is_inside
inside_is at n p is = let both = and_parts _ _ is in
    record { low = leb-true _ _ both.0; high = omega (arith, leb-true _ _ both.1) }

is_inside-of : (at n p : ℕ) → Inside at n p → is_inside at n p ≡ true
unfolding is_inside
is_inside-of at n p inside = and_from _ _ (le-leb _ _ inside.low) (le-leb _ _ (omega (arith, inside.high)))

not_inside : (at n p : ℕ) → (Inside at n p → ⊥) → is_inside at n p ≡ false
not_inside at n p out = false_from_ne_true (is_inside at n p) (λ is. out (inside_is at n p is))

pub length-window : (b : Bytes) (at n : ℕ) → length (window b at n) ≡ n
unfolding window
length-window b at zero = refl
length-window b at (suc n) = ap (λ k. suc k) (length-window b (at + 1) n)

-- The bytes after a write

module _ (at : ℕ) (given : List ℕ) (count : ℕ) (left b : Bytes) where
  given_there : (p : ℕ) → Inside at count p → bytes_after at given count left b p ≡ get_or given (p - at) 0
  given_there p inside = cond-true (is_inside at count p) _ _ (is_inside-of at count p inside)

  others_stay : count ≤ length given → (p : ℕ) → (Inside at (length given) p → ⊥)
      → bytes_after at given count left b p ≡ b p
  others_stay few p out =
      cond-false (is_inside at count p) _ _
      (not_inside at count p (λ inside. out (record { low = inside.low; high = omega (arith, few, inside.high) })))
      ∙ cond-false (is_inside at (length given) p) _ _ (not_inside at (length given) p out)

  pub given_read : count ≤ length given → window (bytes_after at given count left b) at count ≡ take count given
  given_read few =
      let part = take count given in
      let long : length part ≡ count = omega (arith, length-take count given, few) in
      sym (ap (window (bytes_after at given count left b) at) long)
      ∙ window-list (bytes_after at given count left b) at part (λ i less.
      let inside : i < count = omega (arith, less, long) in
      let back : at + i - at ≡ i = omega arith in
      given_there (at + i) (record { low = omega arith; high = omega (arith, inside) })
      ∙ ap (λ k. get_or given k 0) back ∙ sym (get_or-take count given i 0 inside))

-- One more call

module _ (u : Unseen) (earlier : List Call) where
  passes_call : (call : Call)
      → FilePasses (recorded u earlier) (recorded u (call ∷ earlier)) (MayRemain (recorded u (call ∷ earlier)))
  passes_call call = record {
    later = omega arith;
    nothing_else = λ t r le left. ⊎_elim (λ was. inl was) (λ new. inr new.1) left;
    new_since = λ t v r le le' left. ⊎_elim (λ was. inl was) (λ new. inr (inr (omega (arith, le'), new.1))) left;
    keeps = λ t r le left. inl left;
  }

  pub keeps_seek_start : (at : ℕ) (place : Option ℕ)
      → FileKeeps (recorded u earlier) (recorded u (SeekStart at place ∷ earlier))
  keeps_seek_start at place = record { bytes = λ p. refl; is_open = λ p. refl; time = passes_call (SeekStart at place) }

  writes_write : (at : ℕ) (given : List ℕ) (count : Option ℕ) → unwrap_or (after_calls u earlier).position 0 ≡ at
      → unwrap_or count 0 ≤ length given
      → FileWrites at (length given) (recorded u earlier) (recorded u (Write given count ∷ earlier))
  writes_write at given count here few =
      let to = unwrap_or (after_calls u earlier).position 0 in
      let b = after_calls u earlier in
      record {
        bytes = λ p out. others_stay to given (unwrap_or count 0) (left_by u (length earlier)) b.bytes few p
            (λ inside. out (subst (λ k. Inside k (length given) p) here inside));
        opened = λ p inside. or_left (is_inside to (length given) p) (b.is_open p)
            (is_inside-of to (length given) p (subst (λ k. Inside k (length given) p) (sym here) inside));
        is_open = λ p out. ap (λ o. o || b.is_open p)
            (not_inside to (length given) p (λ inside. out (subst (λ k. Inside k (length given) p) here inside)));
        time = passes_call (Write given count);
      }

-- A call at a place

module _ (u : Unseen) (at : ℕ) (earlier between : List Call) (goes : GoesTo at earlier between) where
  pub begins_there : BeginsAt u between at
  begins_there = step goes
    where
      step : GoesTo at earlier between → BeginsAt u between at
      step (inl there) = subst (λ calls. BeginsAt u calls at) (sym there.0) (there.1 u)
      step (inr (place, is)) = subst (λ calls. BeginsAt u calls at) (sym is) (λ honest. honest.1)

  -- what holds for the record before the call holds for it after the seek
  onward : (P : List Call → Type 0) → P earlier → ((place : ℕ) → P (SeekStart at (Some place) ∷ earlier)) → P between
  onward P same sought = step goes
    where
      step : GoesTo at earlier between → P between
      step (inl there) = subst P (sym there.0) same
      step (inr (place, is)) = subst P (sym is) (sought place)

  pub writes_at : (given : List ℕ) (count : Option ℕ) → unwrap_or count 0 ≤ length given
      → IsHonestRecord u (Write given count ∷ between)
      → FileWrites at (length given) (recorded u earlier) (recorded u (Write given count ∷ between))
  writes_at given count few honest =
      onward (λ calls. unwrap_or (after_calls u calls).position 0 ≡ at
      → FileWrites at (length given) (recorded u earlier) (recorded u (Write given count ∷ calls)))
      (λ here. writes_write u earlier at given count here few)
      (λ place here. writes_after at (length given) _ _ _ (keeps_seek_start u earlier at (Some place))
      (writes_write u (SeekStart at (Some place) ∷ earlier) at given count here few))
      (ap (λ o. unwrap_or o 0) (begins_there honest.0))

  pub put_at : (given : List ℕ) (count : ℕ) → count ≤ length given
      → IsHonestRecord u (Write given (Some count) ∷ between)
      → window (after_calls u (Write given (Some count) ∷ between)).bytes at count ≡ take count given
  put_at given count few honest =
      let left = left_by u (length between) in
      let b = (after_calls u between).bytes in
      subst (λ (p : ℕ). window (bytes_after p given count left b) at count ≡ take count given)
      (sym (ap (λ o. unwrap_or o 0) (begins_there honest.0))) (given_read at given count left b few)

module _ {E : Type 0} (u : Unseen) (at : ℕ) (earlier between : List Call) (goes : GoesTo at earlier between) where
  pub write_said : (result : Result ℕ E) (given : List ℕ) → IfOk result (λ count. count ≤ length given)
      → IsHonestRecord u (Write given (answer result) ∷ between)
      → IfOk result (λ count. window (after_calls u (Write given (answer result) ∷ between)).bytes at count
      ≡ take count given)
  write_said (Ok count) given few honest = put_at u at earlier between goes given count few honest
  write_said (Err error) given few honest = tt

  pub writes_said : (result : Result ℕ E) (given : List ℕ) → IfOk result (λ count. count ≤ length given)
      → IsHonestRecord u (Write given (answer result) ∷ between)
      → FileWrites at (length given) (recorded u earlier) (recorded u (Write given (answer result) ∷ between))
  writes_said (Ok count) given few honest = writes_at u at earlier between goes given (Some count) few honest
  writes_said (Err error) given few honest = writes_at u at earlier between goes given None (omega arith) honest
