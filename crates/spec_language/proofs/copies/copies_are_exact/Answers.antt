use Rattle.spec_language.proofs.CopyLaws.{copies_are_exact}
use Rattle.spec_language.proofs.copies.copies_are_exact.Goals as goal

pub returns : goal.returns
returns c = copies_are_exact
