use Rattle.spec_image.specs.Files.{name_cmp}
use Rattle.spec_image.proofs.Names.{name_total, name_exact}
use Rattle.spec_image.proofs.MapLaws.{same_map, get-empty, get-insert_same, get-insert_other, get-removed}
use Rattle.spec_image.proofs.MapLaws.{get-remove_other}
use Rattle.spec_image.proofs.maps.map_laws.Goals as goal

pub returns : goal.returns
returns c = record {
  same = same_map name_total name_exact;
  nothing = get-empty name_cmp _;
  inserted = λ m k q v. (get-insert_same name_total m k v, get-insert_other name_total name_exact m k v q);
  removed = λ m k q. (get-removed name_total m k, get-remove_other name_total name_exact m k q);
}
