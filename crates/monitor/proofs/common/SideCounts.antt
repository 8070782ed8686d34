-- Sides of channels in lists of jobs, of the one kind or the other: how often a key is among them.
use Rattle.std.proofs.Common.{◌≡◌, ℕ, zero, suc, ◌+◌, ◌<◌, ◌≤◌, List, [], ◌∷◌, ◌++◌, length, take, get_or, map}
use Rattle.std.proofs.Common.{flat_map, Option, Some, None, refl, sym, ap, ◌∙◌, arith}
use Rattle.std.specs.Prelude.{slice_set, filter_map, option_to_list}
use Rattle.std.specs.List.{cons_option}
use Rattle.spec_machine.specs.Common.{slot}
use Rattle.spec_image.specs.Common.{times}
use Rattle.monitor.specs.Common.{within}
use Rattle.monitor.specs.declared.channel.OpenChannel.{OpenChannel}
use Rattle.monitor.specs.declared.job.Job.{Job}

abbrev pub count : {Y : Type 0} → (Y → ℕ) → ℕ → List Y → ℕ
count side_key key ys = times key (map side_key ys)

abbrev pub among : {Y : Type 0} → (Option OpenChannel → Option Y) → List (Option Job) → List Y
among side jobs = flat_map (within side) jobs

module _ {Y : Type 0} (side : Option OpenChannel → Option Y) (side_key : Y → ℕ) where
  pub count-append : (key : ℕ) (xs ys : List Y)
      → count side_key key (xs ++ ys) ≡ count side_key key xs + count side_key key ys
  count-append key [] ys = omega arith
  count-append key (x ∷ xs) ys = omega (arith, count-append key xs ys)

  pub count-cons_option : (key : ℕ) (o : Option Y) (xs : List Y) → count side_key key (cons_option o xs)
      ≡ count side_key key (option_to_list o) + count side_key key xs
  count-cons_option key None xs = omega arith
  count-cons_option key (Some o) xs = omega arith

  -- a slot that gets another job
  pub count-set : (key : ℕ) (jobs : List (Option Job)) (n : ℕ) (x : Option Job)
      → (slot jobs n ≡ None → count side_key key (within side x) ≡ 0)
      → count side_key key (among side (slice_set jobs n x)) + count side_key key (within side (slot jobs n))
      ≡ count side_key key (among side jobs) + count side_key key (within side x)
  count-set key [] n x fits = omega (arith, fits refl)
  count-set key (j ∷ jobs) zero x fits = omega (
    arith,
    count-append key (within side x) (among side jobs),
    count-append key (within side j) (among side jobs),
  )
  count-set key (j ∷ jobs) (suc n) x fits =
      omega (
        arith,
        count-set key jobs n x fits,
        count-append key (within side j) (among side (slice_set jobs n x)),
        count-append key (within side j) (among side jobs),
      )

  pub count-slot : (key : ℕ) (jobs : List (Option Job)) (n : ℕ) → count side_key key (within side (slot jobs n))
      ≤ count side_key key (among side jobs)
  count-slot key [] n = omega arith
  count-slot key (j ∷ jobs) zero = omega (arith, count-append key (within side j) (among side jobs))
  count-slot key (j ∷ jobs) (suc n) = omega
      (arith, count-slot key jobs n, count-append key (within side j) (among side jobs))

  -- a channel that is open, and another one in its place
  pub count-channel : side None ≡ None → (key : ℕ) (cs : List (Option OpenChannel)) (n : ℕ) (x : Option OpenChannel)
      → (slot cs n ≡ None → count side_key key (option_to_list (side x)) ≡ 0)
      → count side_key key (filter_map side (slice_set cs n x)) + count side_key key (option_to_list (side (slot cs n)))
      ≡ count side_key key (filter_map side cs) + count side_key key (option_to_list (side x))
  count-channel none key [] n x fits = omega (arith, fits refl, ap (λ o. count side_key key (option_to_list o)) none)
  count-channel none key (c ∷ cs) zero x fits = omega (
    arith,
    count-cons_option key (side x) (filter_map side cs),
    count-cons_option key (side c) (filter_map side cs),
  )
  count-channel none key (c ∷ cs) (suc n) x fits =
      omega (
        arith,
        count-channel none key cs n x fits,
        count-cons_option key (side c) (filter_map side (slice_set cs n x)),
        count-cons_option key (side c) (filter_map side cs),
      )

  -- the channels up to a place, and one more
  count-next : (key : ℕ) (cs : List (Option OpenChannel)) (i : ℕ) (o : Option Y) → i < length cs
      → o ≡ side (get_or cs i None)
      → count side_key key (filter_map side (take (suc i) cs)) ≡ count side_key key (filter_map side (take i cs))
      + count side_key key (option_to_list o)
  count-next key [] i o below is = absurd (omega arith)
  count-next key (d ∷ cs) zero o below is = omega (
    arith,
    count-cons_option key (side d) [],
    ap (λ x. count side_key key (option_to_list x)) is,
  )
  count-next key (d ∷ cs) (suc i) o below is =
      count-cons_option key (side d) (filter_map side (take (suc i) cs))
      ∙ behind (count side_key key (option_to_list (side d))) _ _ _ (count-next key cs i o (omega arith) is)
      ∙ ap (λ n. n + count side_key key (option_to_list o))
      (sym (count-cons_option key (side d) (filter_map side (take i cs))))
    where
      behind : (h a b c : ℕ) → a ≡ b + c → h + a ≡ (h + b) + c
      behind h a b c e = omega (arith, e)

  pub count-more : (key : ℕ) (cs : List (Option OpenChannel)) (i : ℕ) (o : Option Y) → i < length cs
      → o ≡ side (get_or cs i None)
      → count side_key key (filter_map side (take (i + 1) cs)) ≡ count side_key key (filter_map side (take i cs))
      + count side_key key (option_to_list o)
  count-more key cs i o below is = let one : i + 1 ≡ suc i = omega arith in
      ap (λ n. count side_key key (filter_map side (take n cs))) one ∙ count-next key cs i o below is

  pub count-within : (key : ℕ) (cs : List (Option OpenChannel)) (i : ℕ)
      → count side_key key (filter_map side (take i cs))
      ≤ count side_key key (filter_map side cs)
  count-within key [] zero = omega arith
  count-within key [] (suc i) = omega arith
  count-within key (d ∷ cs) zero = omega arith
  count-within key (d ∷ cs) (suc i) =
      omega (
        arith,
        count-within key cs i,
        count-cons_option key (side d) (filter_map side (take i cs)),
        count-cons_option key (side d) (filter_map side cs),
      )
