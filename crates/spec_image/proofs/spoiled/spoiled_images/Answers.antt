use Rattle.spec_image.proofs.SpoiledMaps.{untouched_copy, latest_minute, closed_gate}
use Rattle.spec_image.proofs.SpoiledRows.{not_volume, bad_home, bad_log, too_many_entries, late_minute, too_long}
use Rattle.spec_image.proofs.SpoiledRows.{damaged_data, bit_past_the_end, looping_directory, extra_bit, shared_block}
use Rattle.spec_image.proofs.SpoiledRows.{no_shared, no_damaged}
use Rattle.spec_image.proofs.spoiled.spoiled_images.Goals as goal

pub returns-clause-untouched_copy : goal.returns-clause-untouched_copy
returns-clause-untouched_copy c = untouched_copy

pub returns-clause-latest_minute : goal.returns-clause-latest_minute
returns-clause-latest_minute c = latest_minute

pub returns-clause-not_volume : goal.returns-clause-not_volume
returns-clause-not_volume c = not_volume

pub returns-clause-bad_home : goal.returns-clause-bad_home
returns-clause-bad_home c = bad_home

pub returns-clause-bad_log : goal.returns-clause-bad_log
returns-clause-bad_log c = bad_log

pub returns-clause-too_many_entries : goal.returns-clause-too_many_entries
returns-clause-too_many_entries c = too_many_entries

pub returns-clause-late_minute : goal.returns-clause-late_minute
returns-clause-late_minute c = late_minute

pub returns-clause-too_long : goal.returns-clause-too_long
returns-clause-too_long c = too_long

pub returns-clause-damaged_data : goal.returns-clause-damaged_data
returns-clause-damaged_data c = damaged_data

pub returns-clause-bit_past_the_end : goal.returns-clause-bit_past_the_end
returns-clause-bit_past_the_end c = bit_past_the_end

pub returns-clause-looping_directory : goal.returns-clause-looping_directory
returns-clause-looping_directory c = looping_directory

pub returns-clause-extra_bit : goal.returns-clause-extra_bit
returns-clause-extra_bit c = extra_bit

pub returns-clause-shared_block : goal.returns-clause-shared_block
returns-clause-shared_block c = shared_block

pub returns-clause-closed_gate : goal.returns-clause-closed_gate
returns-clause-closed_gate c = closed_gate

pub returns-clause-no_files : goal.returns-clause-no_files
returns-clause-no_files c = λ files. (no_shared files, no_damaged files)
