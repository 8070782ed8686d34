use Rattle.spec_image.proofs.Names.{name_total, name_exact}
use Rattle.spec_image.proofs.MapLists.{get-from_entries, EachOnce-entries, from_entries-entries, get-map_values}
use Rattle.spec_image.proofs.maps.list_laws.Goals as goal

pub returns : goal.returns
returns c = record {
  made = get-from_entries name_total;
  again = λ m. (EachOnce-entries m, from_entries-entries name_total name_exact m);
  mapped = get-map_values name_total;
}
