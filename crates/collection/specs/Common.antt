-- The definitions that proofs and other crates cite, passed on from one place. Declares nothing.
pub use Rattle.collection.specs.Clock.{IsAtSecond, IsDayAt, IsShownAt, IsUndated, at_first}
pub use Rattle.collection.specs.HostNames.{IsNameFor, IsOwnText, IsShortText, dotted, escaped, extended, folder_of}
pub use Rattle.collection.specs.HostNames.{doubtful_folder, hexadecimal, host_name, numbered_name, numbered_path}
pub use Rattle.collection.specs.HostNames.{plain, unnamed_folder}
pub use Rattle.collection.specs.HostActs.{Acted, FileAct, MadeFile, MadeFolder, ReadFile, acts_code, day_of}
pub use Rattle.collection.specs.HostActs.{folder_made, read_from, unread}
pub use Rattle.collection.specs.ActMade.{acts_in, spelled_act}
pub use Rattle.collection.specs.Each.{EachDone, Goes, IsPassedOver, Then, added, none_counted}
pub use Rattle.collection.specs.Lines.{IsCounted, IsLineWritten, IsRefusedLine, label_of, refused_tally}
pub use Rattle.collection.specs.Import.{GoesOn, IsDoneWith, IsEncodingFor, IsImportRun, IsImported, IsMomentFor}
pub use Rattle.collection.specs.Import.{IsPutInto, IsSourcePut, most_read}
pub use Rattle.collection.specs.Export.{AreEntriesDone, AreOwnersDone, IsChangeOf, IsEntryDone, IsExportRun}
pub use Rattle.collection.specs.Export.{HasNoFolder, IsOwnerDone, IsStored, IsTakenOut, encoding_text}
pub use Rattle.collection.specs.Faults.{AreFindingsDone, IsKindDone, IsLineDone, IsRestDone, defect_text, fault_text}
pub use Rattle.collection.specs.Faults.{is_device, is_device_kind, is_of_kind, is_wanted, is_wanted_cost, kind_of}
pub use Rattle.collection.specs.Faults.{kind_texts, most_told, of_kind, path_of_cost, rest_text}
unfoldable pub use Rattle.collection.specs.Faults.{kinds}
pub use Rattle.collection.specs.Save.{AreApartSaved, AreFilesSaved, AreWordsStored, IsFileDone, IsReadStored}
pub use Rattle.collection.specs.Save.{IsSalvageRun, IsSavedAt, IsWanted, IsWantedDone, saved_path, words_read}
