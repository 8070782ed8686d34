use Rattle.std.specs.Cmp.{nat_cmp_total}
use Rattle.std.specs.FinMap.{nat_cmp-IsAntisymmetric}
use Rattle.spec_image.specs.Directories.{file_words, IsFileEntry, master_words, IsMasterEntry}
use Rattle.spec_image.proofs.Names.{name_total, name_exact}
use Rattle.spec_image.proofs.ChainEdits.{chain_length}
use Rattle.spec_image.proofs.MapCosts.{map_costs}
use Rattle.spec_image.proofs.laws.maps_fit_their_cost.Goals as goal

pub returns : goal.returns
returns c disk_size contents m = map_costs disk_size contents m
    (chain_length name_total name_exact file_words IsFileEntry contents)
    (chain_length nat_cmp_total nat_cmp-IsAntisymmetric master_words IsMasterEntry contents)
