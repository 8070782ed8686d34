use Rattle.spec_image.proofs.Versions.{retrieved_kept, body_kept, version_kept}
use Rattle.spec_image.proofs.laws.versions_are_kept.Goals as goal

pub returns-clause-retrieved : goal.returns-clause-retrieved
returns-clause-retrieved c = retrieved_kept

pub returns-clause-body : goal.returns-clause-body
returns-clause-body c = body_kept

pub returns-clause-version : goal.returns-clause-version
returns-clause-version c = version_kept
