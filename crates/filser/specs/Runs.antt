-- What a run comes to: the reader had `source` and has `left`, the writer had `sink` and has `full`.
use Rattle.std.specs.Prelude.{◌≡◌, ◌⊎◌, ℕ, List, Option, Some, None as Nothing, All, Any, IfSome}
use Rattle.clap.specs.Words.{Kinds, kind_of, Row, Text}
use Rattle.imagefile.specs.Common.{Unseen}
use Rattle.collection.specs.Common.{FileAct}
use Rattle.volume.specs.declared.error.VolumeError.TheVariants.{Device}
use Rattle.filser.specs.Denials.{IsExplained}
use Rattle.filser.specs.Endings.{AsksForHelp, EndsUnasked}
use Rattle.filser.specs.ExportRuns.{IsOnExported}
use Rattle.filser.specs.SalvageRuns.{IsOnSalvaged}
use Rattle.filser.specs.Hosts.{HostFacts, IsMadeLike, IsMadePlain}
use Rattle.filser.specs.Images.{IsOnBoth, IsOnFresh, IsOnImage, IsOnNew}
use Rattle.filser.specs.ImportRuns.{IsOnImported}
use Rattle.filser.specs.Migrations.{IsOnMigrated}
use Rattle.filser.specs.Requests.{Asks, IsMistaken, IsUsage, image_named, new_named, sources_named}
use Rattle.filser.specs.FreeStreams.{BarsErrors, BarsOutput, SparesErrors, SparesNamed, SparesOutput}
use Rattle.filser.specs.Streams.{AreNeeded, IsStreamAt}
use Rattle.filser.specs.Views.{Views}
use Rattle.filser.specs.declared.request.Request.{Request}
use Rattle.filser.specs.declared.request.Request.TheVariants.{Fresh, Init, Work, Convert, Migrate, Import, Export}
use Rattle.filser.specs.declared.request.Request.TheVariants.{Salvage}
use Rattle.filser.specs.declared.disks.Disks.{Disks}
use Rattle.filser.specs.declared.disks.Disks.TheVariants.{Unasked}
use Rattle.filser.specs.declared.error.RequestError.{RequestError}
use Rattle.filser.specs.declared.error.WrongArgument.{WrongArgument}
use Rattle.filser.specs.declared.error.RequestError.TheVariants.{Usage, BadArgument, NoMemory}
use Rattle.filser.specs.declared.fault.HostFault.{HostFault}
use Rattle.filser.specs.declared.fault.ImageFault.{ImageFault}
use Rattle.filser.specs.declared.refusal.Refusal.{Refusal}
use Rattle.filser.specs.declared.refusal.Refusal.TheVariants.{Exists, Start}
use Rattle.filser.specs.declared.status.Status.{Status}
use Rattle.filser.specs.declared.status.Status.TheVariants.{Fault}
use Rattle.filser.specs.declared.streams.MissingStreams.{MissingStreams}

-- What a run is handed, and what it hands back: the leaves to open and to make a file, with what is supposed of the
-- files, and what was done with other files before it; what is left of the existing image, of the new one, and of the
-- volume in memory, and what was done with other files by its end.
pub record Things (L N M F D I : Type 0) : Type 0 where
  pub opening : L
  pub making : N
  pub u : Unseen
  pub v : Unseen
  pub before : List FileAct
  pub image : Disks L F D I
  pub new : Disks N F D I
  pub memory : Option M
  pub after : List FileAct

-- Neither leave was used, there is no volume in memory, and nothing was done with other files.
pub record AreUntouched {L N M F D I : Type 0} (things : Things L N M F D I) : Type 0 where
  pub image : things.image ≡ Unasked things.opening
  pub new : things.new ≡ Unasked things.making
  pub memory : things.memory ≡ Nothing
  pub files : things.after ≡ things.before

-- The request was served, or it wasn't for a reason that holds; and nothing else was requested of the host. Only a
-- request that moves files between an image and the host reads or makes files that aren't images.
abbrev pub IsRequestRun : {H L N M F D I : Type 0} → HostFacts H → Views M F D I → Things L N M F D I → Request
    → Option (List ℕ) → Option (List ℕ) → Option (List ℕ) → Option (List ℕ) → Status → Type 0
IsRequestRun facts views things Fresh source left sink full status =
    IsOnFresh views source left sink full things.memory status × (things.image ≡ Unasked things.opening)
    × (things.new ≡ Unasked things.making) × (things.after ≡ things.before)
IsRequestRun facts views things (Init path blocks form layout) source left sink full status =
    (left ≡ source) × IsOnNew facts views path.now form blocks layout things.v sink full things.new status
    × (things.image ≡ Unasked things.opening) × (things.memory ≡ Nothing) × IsMadePlain facts path.now
    × (things.after ≡ things.before)
IsRequestRun facts views things (Work path form task) source left sink full status =
    IsOnImage facts views path.now form things.u task source left sink full things.image status
    × (things.new ≡ Unasked things.making) × (things.memory ≡ Nothing) × (things.after ≡ things.before)
IsRequestRun facts views things (Convert path other form) source left sink full status =
    (left ≡ source) × IsOnBoth facts views path.now other.now form things.u things.v things.opening things.making sink
    full things.image things.new status × (things.memory ≡ Nothing)
    × ((things.image ≡ Unasked things.opening) ⊎ facts.found other.now Nothing)
    × ((things.new ≡ Unasked things.making) ⊎ IsMadeLike facts other.now path.now) × (things.after ≡ things.before)
IsRequestRun facts views things (Migrate path form) source left sink full status =
    (left ≡ source) × IsOnMigrated facts views path.now form things.u sink full things.image status
    × (things.new ≡ Unasked things.making) × (things.memory ≡ Nothing) × (things.after ≡ things.before)
IsRequestRun facts views things (Import path form task) source left sink full status =
    (left ≡ source) × IsOnImported facts views path.now form task things.u things.before
    things.after sink full things.image status
    × (things.new ≡ Unasked things.making) × (things.memory ≡ Nothing)
IsRequestRun facts views things (Export path form task) source left sink full status =
    (left ≡ source) × IsOnExported facts views path.now form task things.u things.before
    things.after sink full things.image status
    × (things.new ≡ Unasked things.making) × (things.memory ≡ Nothing)
IsRequestRun facts views things (Salvage path form task) source left sink full status =
    (left ≡ source) × IsOnSalvaged facts views path.now form task things.u things.before
    things.after sink full things.image status
    × (things.new ≡ Unasked things.making) × (things.memory ≡ Nothing)

-- No standard stream leads to an image, if it is named.
abbrev pub IsApart : {H : Type 0} → HostFacts H → Option (List ℕ) → Type 0
IsApart facts Nothing = Unit {0}
IsApart facts (Some path) = IsStreamAt facts path Nothing

-- A stream does, and this is why there is no run.
pub record IsLedBy {H : Type 0} (facts : HostFacts H) (image : Option (List ℕ)) (refusal : Refusal) (path : List ℕ)
    (fault : ImageFault) : Type 0 where
  pub stream : HostFault
  pub named : image ≡ Some path
  pub leads : IsStreamAt facts path (Some stream)
  pub cause : fault ≡ record { refusal = refusal; host = Some stream }

-- A stream leads to the image that is named, or to the new one of a conversion, which exists then.
abbrev pub IsLed : {H : Type 0} → HostFacts H → Request → List ℕ → ImageFault → Type 0
IsLed facts request path fault = IsLedBy facts (image_named request) (Start Device) path fault
    ⊎ IsLedBy facts (new_named request) Exists path fault

-- this holds of the path of each image that is named
abbrev pub HoldsOfImages : Request → (List ℕ → Type 0) → Type 0
HoldsOfImages request Holds = IfSome (image_named request) Holds × IfSome (new_named request) Holds

-- and of the path of each file to import
abbrev pub HoldsOfNamed : Request → (List ℕ → Type 0) → Type 0
HoldsOfNamed request Holds = HoldsOfImages request Holds × All Holds (sources_named request)

-- No image was opened, and nothing read: the run would have printed into an image or read from it, or have printed or
-- reported into a file to import, or there is nothing to read from or to print to.
abbrev pub IsTurnedAway : {H L N M F D I : Type 0} → HostFacts H → MissingStreams → Things L N M F D I → Request
    → Option (List ℕ) → Option (List ℕ) → Option (List ℕ) → Option (List ℕ) → Status → Type 0
IsTurnedAway facts missing things request source left sink full status =
    (left ≡ source) × AreUntouched things
    × (((path : List ℕ) × (fault : ImageFault) × IsLed facts request path fault × IsExplained sink full status fault
    × ((full ≡ sink) ⊎ HoldsOfNamed request (SparesOutput facts)))
    ⊎ ((Any (BarsOutput facts) (sources_named request) ⊎ Any (BarsErrors facts) (sources_named request))
    × (full ≡ sink) × (status ≡ Fault))
    ⊎ (AreNeeded missing × (full ≡ sink) × (status ≡ Fault)))

-- The request was turned away, or served with streams that exist and lead elsewhere.
abbrev pub IsHandled : {H L N M F D I : Type 0} → HostFacts H → Views M F D I → MissingStreams → Things L N M F D I
    → Request → Option (List ℕ) → Option (List ℕ) → Option (List ℕ) → Option (List ℕ) → Status → Type 0
IsHandled facts views missing things request source left sink full status =
    (IsApart facts (image_named request) × IsApart facts (new_named request)
    × All (SparesOutput facts) (sources_named request) × (AreNeeded missing → ⊥)
    × IsRequestRun facts views things request source left sink full status)
    ⊎ IsTurnedAway facts missing things request source left sink full status

-- what is printed if the words make no request: the text that `clap` was asked for, or nothing
abbrev pub PrintsOnly : Kinds → Option (Text × List Row) → RequestError → Option (List ℕ) → Option (List ℕ) → Type 0
PrintsOnly kinds found (Usage e) sink full =
    IsUsage kinds found e × ((AsksForHelp (kind_of e) → ⊥) → full ≡ sink)
PrintsOnly kinds found (BadArgument wrong) sink full = IsMistaken found wrong × (full ≡ sink)
PrintsOnly kinds found NoMemory sink full = full ≡ sink

-- The words make no request. What is printed lands in no file that they name, as the host answered.
abbrev pub IsUnasked : {H L N M F D I : Type 0} → HostFacts H → Kinds → Option (Text × List Row) → List (List ℕ)
    → Things L N M F D I → Option (List ℕ) → Option (List ℕ) → Option (List ℕ) → Option (List ℕ) → Status → Type 0
IsUnasked facts kinds found names things source left sink full status =
    (error : RequestError) × (left ≡ source) × AreUntouched things × EndsUnasked error status
    × PrintsOnly kinds found error sink full × SparesNamed facts names sink full
    × ((wrong : Option WrongArgument) → error ≡ BadArgument wrong → (request : Request) → Asks found request → ⊥)

-- A whole run, by the words of its command line, which are `names` without the program's.
pub record WasRun {H L N M F D I : Type 0} (facts : HostFacts H) (views : Views M F D I) (missing : MissingStreams)
    (things : Things L N M F D I) (kinds : Kinds) (found : Option (Text × List Row)) (names : List (List ℕ))
    (source left sink full : Option (List ℕ)) (status : Status) : Type 0 where
  pub is : ((request : Request) × Asks found request
      × IsHandled facts views missing things request source left sink full status)
      ⊎ IsUnasked facts kinds found names things source left sink full status

-- None of it lands in a file that the words name, and so in none that their request names, as the host answered.
pub record AreWordsSpared {H : Type 0} (facts : HostFacts H) (found : Option (Text × List Row)) (names : List (List ℕ))
    : Type 0 where
  pub files : All (SparesErrors facts) names
  pub images : (request : Request) → Asks found request → HoldsOfNamed request (SparesErrors facts)

-- Nothing was reported, or none of it lands in a file that the words name, or in one that their request names, as
-- the host answered.
abbrev pub AreReportsSpared : {H : Type 0} → HostFacts H → Option (Text × List Row) → List (List ℕ) → Option (List ℕ)
    → Option (List ℕ) → Type 0
AreReportsSpared facts found names told reported = (reported ≡ told) ⊎ AreWordsSpared facts found names
    ⊎ ((request : Request) × Asks found request × HoldsOfNamed request (SparesErrors facts))
