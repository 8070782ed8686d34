use Rattle.std.proofs.Common.{ℕ, List, IfSome, IfNone, refl, subst}
use Rattle.words36.specs.Common.{AreOctets}
use Rattle.words36.proofs.OctetLaws.{none-found, octets-found}
use Rattle.commands.proofs.export_file.export_as.Goals as goal

pub returns-in-Some : goal.returns-in-Some
returns-in-Some c mode = (
  refl,
  rw c.in-Octets.is (octets-found c.args.words.now c.in-Some.bytes.items
      (subst (λ o. IfSome o (λ b. AreOctets c.args.words.now b.items)) c.in-Some.is
      c.in_ok-bytes-in-Octets.ensures.bytes)),
)

pub returns-in-None : goal.returns-in-None
returns-in-None c mode = (
  c.in-Octets.is,
  none-found c.args.words.now (subst (λ o. IfNone o ((bytes : List ℕ) → AreOctets c.args.words.now bytes → ⊥))
      c.in-None.is c.in_ok-bytes-in-Octets.ensures.refused),
)
