-- How calls of a file follow each other.
use Rattle.std.proofs.Common.{◌≡◌, ◌⊎◌, inl, inr, ⊎_elim, ℕ, suc, zero, ◌+◌, ◌<◌, ◌≤◌, List, ◌∷◌, ◌++◌, length}
use Rattle.std.proofs.Common.{get_or, take, drop, Some, refl, sym, ◌∙◌, ap, arith, add-zero, ◌-◌, length-drop}
use Rattle.std.proofs.lemmas.Bool.{cases_lt, false≢true}
use Rattle.std.proofs.lemmas.List.{take_all}
use Rattle.std.proofs.Math.Seq.{take-add}
use Rattle.imagefile.specs.Common.{Bytes, Remains, FileState, MayRemain, Inside, window, FilePasses, SameFile}
use Rattle.imagefile.specs.Common.{FileKeeps, FileWrites, window-same}

inside_or_not : (at n p : ℕ) → Inside at n p ⊎ (Inside at n p → ⊥)
inside_or_not at n p = ⊎_elim (λ low. inr (λ inside. before low inside))
    (λ past. ⊎_elim (λ high. inl (record { low = past; high = high })) (λ end. inr (λ inside. behind end inside))
    (cases_lt p (at + n))) (cases_lt p at)
  where
    before : p < at → Inside at n p → ⊥
    before low inside = omega (arith, inside.low)

    behind : at + n ≤ p → Inside at n p → ⊥
    behind end inside = omega (arith, inside.high)

-- Stretches of calls

passes_on : (s s' s'' : FileState) (P Q : Remains → Type 0) → FilePasses s s' P → FilePasses s' s'' Q
    → ((r : Remains) → P r → Q r) → FilePasses s s'' Q
passes_on s s' s'' P Q first second weaker = record {
  later = omega (arith, first.later, second.later);
  nothing_else = λ t r le left. ⊎_elim (λ was. ⊎_elim (λ before. inl before) (λ new. inr (weaker r new))
      (first.nothing_else t r le was)) (λ new. inr new) (second.nothing_else t r (omega (arith, le, first.later)) left);
  new_since = λ t u r le le' left. ⊎_elim
      (λ was. ⊎_elim (λ before. inl before) (λ new. inr (second.keeps u r (omega (arith, le', first.later)) new))
      (first.new_since t u r le le' was))
      (λ new. inr new) (second.new_since t u r (omega (arith, le, first.later)) (omega (arith, le', first.later)) left);
  keeps = λ t r le left. second.keeps t r (omega (arith, le, first.later)) (first.keeps t r le left);
}

pub same_on : (s s' s'' : FileState) → SameFile s s' → SameFile s' s'' → SameFile s s''
same_on s s' s'' first second = record {
  size = second.size ∙ first.size;
  was_honest = λ h. first.was_honest (second.was_honest h);
}

pub same_start : (s : FileState) → SameFile s s
same_start s = record { size = refl; was_honest = λ h. h }

pub keeps_on : (s s' s'' : FileState) → FileKeeps s s' → FileKeeps s' s'' → FileKeeps s s''
keeps_on s s' s'' first second = record {
  bytes = λ p. second.bytes p ∙ first.bytes p;
  is_open = λ p. second.is_open p ∙ first.is_open p;
  time = passes_on s s' s'' (MayRemain s') (MayRemain s'') first.time second.time
      (λ r may p closed. may p (sym (second.is_open p) ∙ closed) ∙ ap Some (sym (second.bytes p)));
}

-- a write to some of the places of another before it
pub writes_on : (at n to m : ℕ) (s s' s'' : FileState) → at ≤ to → to + m ≤ at + n → FileWrites at n s s'
    → FileWrites to m s' s'' → FileWrites at n s s''
writes_on at n to m s s' s'' low high first second = record {
  bytes = λ p out. second.bytes p (λ inside. out (within p inside)) ∙ first.bytes p out;
  opened = λ p inside. ⊎_elim (λ part. second.opened p part) (λ other. second.is_open p other
      ∙ first.opened p inside) (inside_or_not to m p);
  is_open = λ p out. second.is_open p (λ inside. out (within p inside)) ∙ first.is_open p out;
  time = passes_on s s' s'' (MayRemain s') (MayRemain s'') first.time second.time (λ r may p closed.
      ⊎_elim (λ part. absurd (false≢true (sym closed ∙ second.opened p part)))
      (λ other. may p (sym (second.is_open p other) ∙ closed) ∙ ap Some (sym (second.bytes p other)))
      (inside_or_not to m p));
}
  where
    within : (p : ℕ) → Inside to m p → Inside at n p
    within p inside = record { low = omega (arith, inside.low); high = omega (arith, inside.high) }

-- a write after a call that changed nothing
pub writes_after : (at n : ℕ) (s s' s'' : FileState) → FileKeeps s s' → FileWrites at n s' s'' → FileWrites at n s s''
writes_after at n s s' s'' first second = record {
  bytes = λ p out. second.bytes p out ∙ first.bytes p;
  opened = second.opened;
  is_open = λ p out. second.is_open p out ∙ first.is_open p;
  time = passes_on s s' s'' (MayRemain s') (MayRemain s'') first.time second.time (λ r may p closed.
      ⊎_elim (λ part. absurd (false≢true (sym closed ∙ second.opened p part)))
      (λ other. may p (sym (second.is_open p other) ∙ closed) ∙ ap Some (sym (second.bytes p other)))
      (inside_or_not at n p));
}

-- Windows

pub window-append : (b : Bytes) (at m n : ℕ) → window b at (m + n) ≡ window b at m ++ window b (at + m) n
unfolding window
window-append b at zero n =
    let none : 0 + n ≡ n = omega arith in
    ap (window b at) none ∙ ap (λ k. window b k n) (sym (add-zero at))
window-append b at (suc m) n =
    let one : suc m + n ≡ suc (m + n) = omega arith in
    let next : at + 1 + m ≡ at + suc m = omega arith in
    ap (window b at) one ∙ ap (λ l. b at ∷ l) (window-append b (at + 1) m n)
    ∙ ap (λ k. b at ∷ (window b (at + 1) m ++ window b k n)) next

pub window-at : (b : Bytes) (at n i d : ℕ) → i < n → get_or (window b at n) i d ≡ b (at + i)
unfolding window
window-at b at zero i d less = absurd (none i less)
  where
    none : (i : ℕ) → i < 0 → ⊥
    none i less = omega arith
window-at b at (suc n) zero d less = ap b (sym (add-zero at))
window-at b at (suc n) (suc i) d less =
    let next : at + 1 + i ≡ at + suc i = omega arith in
    window-at b (at + 1) n i d (omega arith) ∙ ap b next

-- what was put so far, and then more
pub put_more : (b b' : Bytes) (at done count : ℕ) (bytes : List ℕ) → window b at done ≡ take done bytes
    → window b' (at + done) count ≡ take count (drop done bytes)
    → ((p : ℕ) → Inside at done p → b' p ≡ b p) → window b' at (done + count) ≡ take (done + count) bytes
put_more b b' at done count bytes before more kept =
    window-append b' at done count ∙ ap (λ l. l ++ window b' (at + done) count) (window-same b b' at done kept ∙ before)
    ∙ ap (λ l. take done bytes ++ l) more ∙ sym (take-add done count bytes)

-- Parts of a write

module _ (at done place : ℕ) (bytes : List ℕ) (here : place ≡ at + done) (some : done ≤ length bytes) where
  abbrev rest : List ℕ
  rest = take (length bytes - done) (drop done bytes)

  rest_is : rest ≡ drop done bytes
  rest_is = take_all (length bytes - done) (drop done bytes) (omega (arith, length-drop done bytes))

  rest_long : length rest ≡ length bytes - done
  rest_long = ap (λ l. length l) rest_is ∙ length-drop done bytes

  -- one more part, after those that were put before
  pub part_put : (b b' : Bytes) (count : ℕ) → window b at done ≡ take done bytes
      → window b' place count ≡ take count rest → ((p : ℕ) → (Inside place (length rest) p → ⊥) → b' p ≡ b p)
      → window b' at (done + count) ≡ take (done + count) bytes
  part_put b b' count before more kept =
      put_more b b' at done count bytes before (sym (ap (λ k. window b' k count) here) ∙ more
      ∙ ap (take count) rest_is) (λ p inside. kept p (behind p inside))
    where
      behind : (p : ℕ) → Inside at done p → Inside place (length rest) p → ⊥
      behind p inside part = omega (arith, here, inside.high, part.low)

  pub part_writes : (s s' s'' : FileState) → FileWrites at (length bytes) s s' → FileWrites place (length rest) s' s''
      → FileWrites at (length bytes) s s''
  part_writes s s' s'' first second = writes_on at (length bytes) place (length rest) s s' s'' (omega (arith, here))
      (omega (arith, here, rest_long)) first second
