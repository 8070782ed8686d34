use Rattle.std.proofs.Common.{◌≡◌, ◌∙◌, IsTrue, None, Some, ap, arith, length, nat_eq, sym}
use Rattle.std.proofs.lemmas.Bool.Decides.{nat_tests}
use Rattle.blockdisk.specs.Common.{held}
use Rattle.spec_image.proofs.Common.{some_same}
use Rattle.salvage.proofs.CopySizes.{none_some, said_there}
use Rattle.salvage.proofs.copied.is_home.Goals as goal

pub returns-in-Some-clause-said : goal.returns-in-Some-clause-said
returns-in-Some-clause-said c =
    let blocks = c.args.copy.now.blocks in
    let size : c.blocks-size.result ≡ length blocks = c.blocks-size.ensures in
    let there = said_there c.args.n (length blocks) (held blocks) c.in-Ok.words (Some c.in-Some.stated)
    c.in-Ok.ensures.words c.in-Some.ensures in (
      λ same. let equal : c.in-Some.stated ≡ c.blocks-size.result = grind (arith, nat_tests) in
          there.0 (ap Some (equal ∙ size)),
      λ said. let equal : c.in-Some.stated ≡ c.blocks-size.result = some_same (there.1 said) ∙ sym size in
          let yes : IsTrue (nat_eq c.in-Some.stated c.blocks-size.result) = grind (arith, nat_tests) in
          yes,
    )

pub returns-in-None-clause-said : goal.returns-in-None-clause-said
returns-in-None-clause-said c = (
  λ no. absurd cc,
  λ said. absurd (none_some ((said_there c.args.n (length c.args.copy.now.blocks) (held c.args.copy.now.blocks)
      c.in-Ok.words None c.in-Ok.ensures.words c.in-None.ensures).1 said)),
)
