use Rattle.words36.proofs.OctetLaws.{same-octets, octets-found, found-right}
use Rattle.words36.proofs.octets.octets_are_exact.Goals as goal

pub returns-clause-one : goal.returns-clause-one
returns-clause-one c = same-octets

pub returns-clause-found : goal.returns-clause-found
returns-clause-found c = octets-found

pub returns-clause-right : goal.returns-clause-right
returns-clause-right c = found-right
