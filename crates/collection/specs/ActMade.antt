-- An act as it is recorded.
use Rattle.std.specs.Prelude.{List, Some, None}
use Rattle.collection.specs.HostActs.{FileAct, MadeFile, MadeFolder, ReadFile, day_of}
use Rattle.collection.specs.declared.file_record.ActMade.{ActMade}
use Rattle.collection.specs.declared.file_record.ActMade.TheVariants as made
use Rattle.collection.specs.declared.file_record.FileRecord.{FileRecord}

abbrev pub spelled_act : ActMade → FileAct
spelled_act (made.Read path most (Some source)) =
    ReadFile path.now most (Some (source.now.bytes.items, day_of source.now.changed))
spelled_act (made.Read path most None) = ReadFile path.now most None
spelled_act (made.Folder path done) = MadeFolder path.now done
spelled_act (made.Store path bytes changed done) = MadeFile path.now bytes.now (day_of changed) done

-- the acts of a record
abbrev pub acts_in : FileRecord → List FileAct
acts_in made_so_far = made_so_far.acts
