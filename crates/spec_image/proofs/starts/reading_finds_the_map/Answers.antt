use Rattle.spec_image.proofs.FoundMaps.{directory_whole, directory_reaches, map_mapped, map_reaches, map_stands}
use Rattle.spec_image.proofs.starts.reading_finds_the_map.Goals as goal

pub returns-clause-directory : goal.returns-clause-directory
returns-clause-directory c = directory_whole

pub returns-clause-reaches : goal.returns-clause-reaches
returns-clause-reaches c = directory_reaches

pub returns-clause-mapped : goal.returns-clause-mapped
returns-clause-mapped c = map_mapped

pub returns-clause-map_reaches : goal.returns-clause-map_reaches
returns-clause-map_reaches c = map_reaches

pub returns-clause-map : goal.returns-clause-map
returns-clause-map c = map_stands
