use Rattle.std.proofs.Common.{◌≡◌, ℕ, ◌+◌, ◌*◌, ◌^◌, ◌<◌, sym, ◌∙◌, ap, subst, arith, rules}
use Rattle.alloctab.specs.Common.{number_of}
use Rattle.alloctab.proofs.WordLaws.{number_none, number_more, number_below}
use Rattle.volume.specs.Common.{bit_below}
use Rattle.volume.proofs.VolumeStart.FreshTable.{bit_below_few}
use Rattle.volume.proofs.fresh.table_word.Goals as goal

pub loop-place-init : goal.loop-place-init
loop-place-init c = record { number_is = number_none (bit_below c.args.limit) c.args.from; below = omega arith }

pub loop-place-preserved : goal.loop-place-preserved
loop-place-preserved c =
    let bits = bit_below c.args.limit in
    let set : c.from.result ≡ bits (c.args.from + c.loop-place.place) = search rules in
    let is : c.loop-place.number * 2 + c.from.result ≡ number_of bits c.args.from (c.loop-place.place + 1) =
    ap (λ (n : ℕ). n * 2 + c.from.result) c.loop-place.invariant.number_is
    ∙ ap (λ (n : ℕ). number_of bits c.args.from c.loop-place.place * 2 + n) set
    ∙ sym (number_more bits c.args.from c.loop-place.place) in
    record {
      number_is = is;
      below = subst (λ (n : ℕ). n < 2 ^ (c.loop-place.place + 1)) (sym is)
          (number_below bits (bit_below_few c.args.limit) c.args.from (c.loop-place.place + 1));
    }
