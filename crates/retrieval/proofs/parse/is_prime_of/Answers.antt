use Rattle.std.proofs.Common.{◌≡◌, ◌==◌, drop, take, rules}
use Rattle.std.proofs.lemmas.Bool.Decides.{Decides-eqb}
use Rattle.std.proofs.lemmas.Slice.Eq.{slice_eq-Decides}
use Rattle.spec_image.specs.Common.{head_or_zero, layout_number}
use Rattle.retrieval.specs.Common.{runs_of, with_length}
use Rattle.retrieval.proofs.MatchedPrimes.{is_prime, prime_anew}
use Rattle.retrieval.proofs.WrittenRibs.{is_mode}
use Rattle.retrieval.proofs.parse.is_prime_of.Goals as goal

pub returns-in_default : goal.returns-in_default
returns-in_default c = (
  λ no. absurd (cc),
  λ is. absurd (c.in_default.ensures.none (with_length c.args.prime.now c.args.version.now.words) is.runs
      (head_or_zero c.args.version.now.ribs) is.spells),
)

pub returns : goal.returns
returns c =
    let layout = layout_number c.args.layout in
    let words = c.args.block.now in
    let head = c.in-Some.head in
    let prime = c.args.prime.now in
    let version = c.args.version.now in
    let anew = c.prime_block_for.result in
    let long : head.length ≡ version.words = search rules in
    let first : head.next ≡ head_or_zero version.ribs = search rules in
    let says = slice_eq-Decides {E = λ a b. a == b} (λ a b. Decides-eqb a b) anew words c.eq.result c.eq.ensures in (
      λ yes.
          is_prime layout words anew head.prime prime head.length (runs_of (take head.count (drop 16 words)))
          head.next version (is_mode prime.mode) c.in-Some.ensures.some c.prime_block_for.ensures (says.0 yes) long
          first,
      λ is. says.1 (prime_anew layout words anew prime version is c.prime_block_for.ensures),
    )
