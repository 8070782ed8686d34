-- Output sides in lists of jobs and channels: how often a key is in them, and what holds of each.
use Rattle.std.proofs.Common.{◌≡◌, ℕ, zero, suc, ◌+◌, ◌<◌, ◌≤◌, List, [], ◌∷◌, ◌++◌, length, take, get_or, Option, Some}
use Rattle.std.proofs.Common.{None, refl, arith}
use Rattle.std.specs.Prelude.{slice_set, filter_map, option_to_list}
use Rattle.std.specs.List.{AllByRecursion, cons_option}
use Rattle.spec_machine.specs.Common.{slot}
use Rattle.spec_image.specs.Common.{times}
use Rattle.spec_image.proofs.Common.{times_head, all_append, all_left, all_right}
use Rattle.monitor.specs.Common.{side_of, sides_in, sides, keys_of}
use Rattle.monitor.specs.declared.output.Output.{Output}
use Rattle.monitor.specs.declared.channel.OpenChannel.{OpenChannel}
use Rattle.monitor.specs.declared.job.Job.{Job}
use Rattle.monitor.proofs.common.SideCounts as counts

-- Slots.

-- How often a key is among output sides.

abbrev pub count : ℕ → List Output → ℕ
count key os = times key (keys_of os)

abbrev key_of : Output → ℕ
key_of o = o.pending.key

pub count-append : (key : ℕ) (xs ys : List Output) → count key (xs ++ ys) ≡ count key xs + count key ys
count-append key xs ys = counts.count-append side_of key_of key xs ys

pub count-cons_option : (key : ℕ) (o : Option Output) (xs : List Output)
    → count key (cons_option o xs) ≡ count key (option_to_list o) + count key xs
count-cons_option key o xs = counts.count-cons_option side_of key_of key o xs

-- a slot that gets another job
pub count-set : (key : ℕ) (jobs : List (Option Job)) (n : ℕ) (x : Option Job)
    → (slot jobs n ≡ None → count key (sides_in x) ≡ 0)
    → count key (sides (slice_set jobs n x)) + count key (sides_in (slot jobs n))
    ≡ count key (sides jobs) + count key (sides_in x)
count-set key jobs n x fits = counts.count-set side_of key_of key jobs n x fits

pub count-slot : (key : ℕ) (jobs : List (Option Job)) (n : ℕ) → count key (sides_in (slot jobs n))
    ≤ count key (sides jobs)
count-slot key jobs n = counts.count-slot side_of key_of key jobs n

-- a channel that is open, and another one in its place
pub count-channel : (key : ℕ) (cs : List (Option OpenChannel)) (n : ℕ) (x : Option OpenChannel)
    → (slot cs n ≡ None → count key (option_to_list (side_of x)) ≡ 0)
    → count key (filter_map side_of (slice_set cs n x)) + count key (option_to_list (side_of (slot cs n)))
    ≡ count key (filter_map side_of cs) + count key (option_to_list (side_of x))
count-channel key cs n x fits = counts.count-channel side_of key_of refl key cs n x fits

-- the channels up to a place, and one more
pub count-more : (key : ℕ) (cs : List (Option OpenChannel)) (i : ℕ) (o : Option Output) → i < length cs
    → o ≡ side_of (get_or cs i None)
    → count key (filter_map side_of (take (i + 1) cs)) ≡ count key (filter_map side_of (take i cs))
    + count key (option_to_list o)
count-more key cs i o below is = counts.count-more side_of key_of key cs i o below is

pub count-within : (key : ℕ) (cs : List (Option OpenChannel)) (i : ℕ) → count key (filter_map side_of (take i cs))
    ≤ count key (filter_map side_of cs)
count-within key cs i = counts.count-within side_of key_of key cs i

-- What holds of each output side.

module _ (P : Output → Type 0) where
  pub each-set : (jobs : List (Option Job)) (n : ℕ) (x : Option Job) → AllByRecursion P (sides jobs)
      → AllByRecursion P (sides_in x) → AllByRecursion P (sides (slice_set jobs n x))
  each-set [] n x all here = tt
  each-set (j ∷ jobs) zero x all here = all_append P (sides_in x) (sides jobs) here
      (all_right P (sides_in j) (sides jobs) all)
  each-set (j ∷ jobs) (suc n) x all here =
      all_append P (sides_in j) (sides (slice_set jobs n x)) (all_left P (sides_in j) (sides jobs) all)
      (each-set jobs n x (all_right P (sides_in j) (sides jobs) all) here)

  pub each-slot : (jobs : List (Option Job)) (n : ℕ) → AllByRecursion P (sides jobs)
      → AllByRecursion P (sides_in (slot jobs n))
  each-slot [] n all = tt
  each-slot (j ∷ jobs) zero all = all_left P (sides_in j) (sides jobs) all
  each-slot (j ∷ jobs) (suc n) all = each-slot jobs n (all_right P (sides_in j) (sides jobs) all)

  cons_all : (o : Option Output) (os : List Output) → AllByRecursion P (option_to_list o) → AllByRecursion P os
      → AllByRecursion P (cons_option o os)
  cons_all None os here all = all
  cons_all (Some o) os here all = (here.0, all)

  cons_head : (o : Option Output) (os : List Output) → AllByRecursion P (cons_option o os)
      → AllByRecursion P (option_to_list o)
  cons_head None os all = tt
  cons_head (Some o) os all = (all.0, tt)

  cons_rest : (o : Option Output) (os : List Output) → AllByRecursion P (cons_option o os) → AllByRecursion P os
  cons_rest None os all = all
  cons_rest (Some o) os all = all.1

  pub each-channel : (cs : List (Option OpenChannel)) (n : ℕ) (x : Option OpenChannel)
      → AllByRecursion P (filter_map side_of cs) → AllByRecursion P (option_to_list (side_of x))
      → AllByRecursion P (filter_map side_of (slice_set cs n x))
  each-channel [] n x all here = tt
  each-channel (c ∷ cs) zero x all here = cons_all (side_of x) (filter_map side_of cs) here
      (cons_rest (side_of c) (filter_map side_of cs) all)
  each-channel (c ∷ cs) (suc n) x all here =
      cons_all (side_of c) (filter_map side_of (slice_set cs n x)) (cons_head (side_of c) (filter_map side_of cs) all)
      (each-channel cs n x (cons_rest (side_of c) (filter_map side_of cs) all) here)

  pub each-side : (cs : List (Option OpenChannel)) (n : ℕ) → AllByRecursion P (filter_map side_of cs)
      → AllByRecursion P (option_to_list (side_of (slot cs n)))
  each-side [] n all = tt
  each-side (c ∷ cs) zero all = cons_head (side_of c) (filter_map side_of cs) all
  each-side (c ∷ cs) (suc n) all = each-side cs n (cons_rest (side_of c) (filter_map side_of cs) all)

pub each-as : (P Q : Output → Type 0) → ((o : Output) → P o → Q o) → (os : List Output) → AllByRecursion P os
    → AllByRecursion Q os
each-as P Q by [] all = tt
each-as P Q by (o ∷ os) all = (by o all.0, each-as P Q by os all.1)

-- Each output side counts among them.

pub each_counted : (os : List Output) → AllByRecursion (λ o. 1 ≤ count o.pending.key os) os
each_counted [] = tt
each_counted (o ∷ os) = (
  (let head = times_head o.pending.key (keys_of os) in omega arith),
  each-as (λ x. 1 ≤ count x.pending.key os) (λ x. 1 ≤ count x.pending.key (o ∷ os)) (λ x h. omega (arith, h)) os
      (each_counted os),
)

pub each-both : (P Q R : Output → Type 0) → ((o : Output) → P o → Q o → R o) → (os : List Output) → AllByRecursion P os
    → AllByRecursion Q os → AllByRecursion R os
each-both P Q R by [] p q = tt
each-both P Q R by (o ∷ os) p q = (by o p.0 q.0, each-both P Q R by os p.1 q.1)
