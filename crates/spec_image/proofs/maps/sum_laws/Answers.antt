use Rattle.spec_image.proofs.Names.{name_total, name_exact}
use Rattle.spec_image.proofs.MapSums.{sum-insert_new, sum-remove, sum-from_entries, size-insert_new, size-remove}
use Rattle.spec_image.proofs.maps.sum_laws.Goals as goal

pub returns : goal.returns
returns c = record {
  inserted = sum-insert_new name_total name_exact;
  removed = sum-remove name_total name_exact;
  made = sum-from_entries name_total name_exact;
  grows = size-insert_new name_total name_exact;
  shrinks = size-remove name_total name_exact;
}
