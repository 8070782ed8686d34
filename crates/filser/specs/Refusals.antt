-- What is printed if a run ends before it serves a line, and its status.
use Rattle.std.specs.Prelude.{ℕ, List, ◌++◌, codes}
use Rattle.std.specs.Fmt.{decimal}
use Rattle.volume.specs.declared.error.VolumeError.{VolumeError}
use Rattle.volume.specs.declared.error.VolumeError.TheVariants.{NotVolume, BadHome, BadLog, BadDirectory}
use Rattle.volume.specs.declared.error.VolumeError.TheVariants.{BadRetrieval, BlockTwice, TableWrong, Device}
use Rattle.volume.specs.declared.error.VolumeError.TheVariants.{NoMemory, Failed, BadData}
use Rattle.filser.specs.declared.refusal.Refusal.{Refusal}
use Rattle.filser.specs.declared.refusal.Refusal.TheVariants.{Exists, Start}

-- A start never answers Failed: only a call after a device fault does.
abbrev pub start_text : VolumeError → List ℕ
start_text NotVolume = codes "?Not a volume"
start_text BadHome = codes "?Bad home blocks"
start_text BadLog = codes "?Bad log"
start_text (BadDirectory block) = codes "?Bad directory block " ++ decimal block
start_text (BadRetrieval block) = codes "?Bad retrieval block " ++ decimal block
start_text (BlockTwice block) = codes "?Block " ++ decimal block ++ codes " reached twice"
start_text (TableWrong block) = codes "?Bad table block " ++ decimal block
start_text Device = codes "?Device fault"
start_text NoMemory = codes "?No memory"
start_text Failed = codes "?Device fault"
start_text (BadData block) = codes "?Bad data block " ++ decimal block

abbrev pub start_code : VolumeError → ℕ
start_code NotVolume = 3
start_code BadHome = 3
start_code BadLog = 3
start_code (BadDirectory block) = 3
start_code (BadRetrieval block) = 3
start_code (BlockTwice block) = 3
start_code (TableWrong block) = 3
start_code Device = 4
start_code NoMemory = 3
start_code Failed = 4
start_code (BadData block) = 3

abbrev pub refusal_text : Refusal → List ℕ
refusal_text Exists = codes "?Image exists"
refusal_text (Start error) = start_text error

abbrev pub refusal_code : Refusal → ℕ
refusal_code Exists = 3
refusal_code (Start error) = start_code error

-- what is printed after a conversion
abbrev pub converted_text : ℕ → List ℕ
converted_text blocks = codes "Converted " ++ decimal blocks ++ codes " blocks"
