use Rattle.std.proofs.Common.{ℕ, ◌-◌, sym, ◌∙◌, ap, arith, w64}
use Rattle.std.specs.Int.{bit_at}
use Rattle.std.proofs.lemmas.Nat.Bits.{bit_at_set_same, bit_at_set_other, bit_at_clear_same, bit_at_clear_other}
use Rattle.alloctab.specs.Common.{digit}
use Rattle.alloctab.proofs.BitPuts.{with_mask_fits}
use Rattle.alloctab.proofs.words.with_bit.Goals as goal

pub from_bits-requires : goal.from_bits-requires
from_bits-requires c = with_mask_fits c.bits.result c.args.place c.bits.ensures.fits c.requires

pub returns-then-is_set-clause-same : goal.returns-then-is_set-clause-same
returns-then-is_set-clause-same c =
    ap (λ (n : ℕ). bit_at n (35 - c.args.place)) c.from_bits.ensures
    ∙ bit_at_set_same w64 c.bits.result (35 - c.args.place) (omega arith) ∙ sym (ap digit c.if-is_set.true)

pub returns-then-is_set-clause-others : goal.returns-then-is_set-clause-others
returns-then-is_set-clause-others c p below apart =
    ap (λ (n : ℕ). bit_at n (35 - p)) c.from_bits.ensures
    ∙ bit_at_set_other w64 c.bits.result (35 - c.args.place) (omega arith) (35 - p) (λ e. apart (omega arith))
    ∙ ap (λ (n : ℕ). bit_at n (35 - p)) c.bits.ensures.value

pub returns-else-is_set-clause-same : goal.returns-else-is_set-clause-same
returns-else-is_set-clause-same c =
    ap (λ (n : ℕ). bit_at n (35 - c.args.place)) c.from_bits-else-is_set.ensures
    ∙ bit_at_clear_same w64 c.bits-else-is_set.result (35 - c.args.place) (omega arith)
    ∙ sym (ap digit c.if-is_set.false)

pub returns-else-is_set-clause-others : goal.returns-else-is_set-clause-others
returns-else-is_set-clause-others c p below apart =
    ap (λ (n : ℕ). bit_at n (35 - p)) c.from_bits-else-is_set.ensures
    ∙ bit_at_clear_other w64 c.bits-else-is_set.result (35 - c.args.place) (omega arith) (35 - p) (omega arith)
    (λ e. apart (omega arith))
    ∙ ap (λ (n : ℕ). bit_at n (35 - p)) c.bits-else-is_set.ensures.value
