-- Input sides in lists of jobs and channels: how often a key is in them.
use Rattle.std.proofs.Common.{◌≡◌, ℕ, ◌+◌, ◌<◌, ◌≤◌, List, ◌++◌, length, take, get_or, Option, None, refl}
use Rattle.std.specs.Prelude.{slice_set, filter_map, option_to_list}
use Rattle.std.specs.List.{cons_option}
use Rattle.spec_machine.specs.Common.{slot}
use Rattle.spec_image.specs.Common.{times}
use Rattle.monitor.specs.Common.{reader_of, readers_in, readers, pins_of}
use Rattle.monitor.specs.declared.channel.OpenChannel.{OpenChannel}
use Rattle.monitor.specs.declared.input.Input.{Input}
use Rattle.monitor.specs.declared.job.Job.{Job}
use Rattle.monitor.proofs.common.SideCounts as counts

-- How often a version is pinned.

abbrev pub held : ℕ → List Input → ℕ
held key is = times key (pins_of is)

abbrev pin_of : Input → ℕ
pin_of i = i.pin.key

pub held-append : (key : ℕ) (xs ys : List Input) → held key (xs ++ ys) ≡ held key xs + held key ys
held-append key xs ys = counts.count-append reader_of pin_of key xs ys

pub held-cons_option : (key : ℕ) (o : Option Input) (xs : List Input)
    → held key (cons_option o xs) ≡ held key (option_to_list o) + held key xs
held-cons_option key o xs = counts.count-cons_option reader_of pin_of key o xs

-- a slot that gets another job
pub held-set : (key : ℕ) (jobs : List (Option Job)) (n : ℕ) (x : Option Job)
    → (slot jobs n ≡ None → held key (readers_in x) ≡ 0)
    → held key (readers (slice_set jobs n x)) + held key (readers_in (slot jobs n))
    ≡ held key (readers jobs) + held key (readers_in x)
held-set key jobs n x fits = counts.count-set reader_of pin_of key jobs n x fits

pub held-slot : (key : ℕ) (jobs : List (Option Job)) (n : ℕ) → held key (readers_in (slot jobs n))
    ≤ held key (readers jobs)
held-slot key jobs n = counts.count-slot reader_of pin_of key jobs n

-- a channel that is open, and another one in its place
pub held-channel : (key : ℕ) (cs : List (Option OpenChannel)) (n : ℕ) (x : Option OpenChannel)
    → (slot cs n ≡ None → held key (option_to_list (reader_of x)) ≡ 0)
    → held key (filter_map reader_of (slice_set cs n x)) + held key (option_to_list (reader_of (slot cs n)))
    ≡ held key (filter_map reader_of cs) + held key (option_to_list (reader_of x))
held-channel key cs n x fits = counts.count-channel reader_of pin_of refl key cs n x fits

-- the channels up to a place, and one more
pub held-more : (key : ℕ) (cs : List (Option OpenChannel)) (i : ℕ) (o : Option Input) → i < length cs
    → o ≡ reader_of (get_or cs i None)
    → held key (filter_map reader_of (take (i + 1) cs)) ≡ held key (filter_map reader_of (take i cs))
    + held key (option_to_list o)
held-more key cs i o below is = counts.count-more reader_of pin_of key cs i o below is

pub held-within : (key : ℕ) (cs : List (Option OpenChannel)) (i : ℕ) → held key (filter_map reader_of (take i cs))
    ≤ held key (filter_map reader_of cs)
held-within key cs i = counts.count-within reader_of pin_of key cs i
