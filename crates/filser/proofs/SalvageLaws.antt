-- Runs on an image that save what is whole on it.
use Rattle.std.proofs.Common.{◌≡◌, ◌+◌, ◌*◌, ◌∙◌, ◌<◌, ap, ⊎_elim, inl, inr, length, ℕ, List, Option, refl, sym, subst}
use Rattle.std.proofs.Common.{[], None, Bool, true, false, Result, Ok, Err, MatchResult, arith, max}
use Rattle.std.proofs.Common.{if◌then◌else◌}
use Rattle.blockdisk.specs.Common.{Contents, DiskState, SameDisk, same_contents, still_on, Memory, held}
use Rattle.blockdisk.specs.Common.{memory_state, one_more}
use Rattle.changeset.specs.Common.{OnlyReads}
use Rattle.changeset.proofs.LogRead.{only_reads_on}
use Rattle.imagefile.specs.Common.{BeganCut, begun_image, block_length, Unseen}
use Rattle.imagefile.specs.declared.form.Form.{Form}
use Rattle.spec_image.specs.Common.{File, Files, SettledStands, SpecHome, IsHome, Stands}
use Rattle.salvage.specs.Common.{AreCopies, AreSaid, HasHome, IsCopyOf, IsSurveyed, copy_findings, failed_by, held_to}
use Rattle.salvage.specs.declared.saved.SavedFile.{SavedFile}
use Rattle.salvage.proofs.CarriedFacts.{moved}
use Rattle.salvage.specs.declared.copied.CopyFaults.{CopyFaults}
use Rattle.salvage.specs.declared.error.SalvageError.{SalvageError}
use Rattle.salvage.specs.declared.error.SalvageError.TheVariants.{NotVolume, Device, NoMemory}
use Rattle.salvage.specs.declared.search.Search.TheVariants.{Named}
use Rattle.commands.specs.declared.answer.Tally.{Tally}
use Rattle.commands.specs.declared.error.SessionError.{SessionError}
use Rattle.salvage.specs.declared.finding.Finding.{Finding}
use Rattle.collection.specs.Common.{Acted, FileAct, IsSalvageRun}
use Rattle.collection.specs.declared.task.ExportTask.{ExportTask}
use Rattle.collection.proofs.QuietRuns.{nothing_told}
use Rattle.filser.specs.Common.{AreAllFound, AreExact, AreFound, HostFacts, IsCopySalvaged, IsCut, IsNoCopy, IsOpened}
use Rattle.filser.specs.Common.{IsEnding, IsPartSalvaged, IsSalvagedFrom, IsUncopied, named_only, status_code}
use Rattle.filser.specs.SalvageRuns.{IsCopied}
use Rattle.filser.specs.declared.host.Access.{Access}
use Rattle.filser.specs.declared.status.Status.{Status}
use Rattle.filser.specs.declared.status.Status.TheVariants.{Done}
use Rattle.filser.specs.declared.task.SalvageTask.{SalvageTask}

-- why a disk wasn't copied
pub uncopied_cause : (error : SalvageError) (begun end : DiskState) (unread : ℕ)
    → (error ≡ NotVolume → IsNoCopy begun end unread NotVolume) → (error ≡ Device → 0 < unread)
    → IsNoCopy begun end unread error
uncopied_cause NotVolume begun end unread range device = range refl
uncopied_cause Device begun end unread range device = device refl
uncopied_cause NoMemory begun end unread range device = tt

module _ (form : Form) (u : Unseen) (tail : ℕ) (d : DiskState) (began : BeganCut form u tail d)
    (sound : d.failures ≡ 0) where
  abbrev begun : DiskState
  begun = begun_image form d.size u

  same : d.honest → d.contents ≡ begun.contents
  same h = same_contents begun.contents d.contents (began.still h).contents

  copy_since : (copy : Memory) (faults : CopyFaults) → d.honest → IsCopyOf d copy faults → IsCopyOf begun copy faults
  copy_since copy faults h p = record {
    homes = p.homes;
    others = p.others;
    all = p.all;
    size = record {
      first = p.size.first;
      second = p.size.second;
      said = subst (λ (c : Contents). AreSaid d.size c p.homes p.size.first p.size.second) (same h) p.size.said;
      size_is = p.size.size_is;
    };
    copied = record {
      size_is = p.copied.size_is;
      copied = p.copied.copied;
      copies = subst (λ (c : Contents). AreCopies (length copy.blocks) (held_to d.size c) p.copied.copied p.others)
          (same h) p.copied.copies;
      settled = p.copied.settled;
    };
    stands = λ none files stands. p.stands none files
        (subst (λ (c : Contents). Stands d.size c files) (sym (same h)) stands);
  }

  copied_since : (before after : List FileAct) (task : SalvageTask) (sink full : Option (List ℕ)) (end : DiskState)
      (status : Status) → (end.honest → d.honest) → IsCopied before after task tail sink full d end status
      → IsCopied before after task tail sink full begun end status
  copied_since before after task sink full end status was p = record {
    copy = p.copy;
    last = p.last;
    faults = p.faults;
    copied = λ h. copy_since p.copy p.faults (was h) (p.copied h);
    lengths = p.lengths;
    few = p.few;
    failures = p.failures ∙ ap (failed_by p.faults.unread) sound;
    ran = ⊎_elim
        (λ found. inl (
          found.0,
          found.1,
          found.2,
          found.3,
          λ h none stored stands. found.4 h none stored
              (subst (λ (c : Contents). Stands d.size c stored) (sym (same (was h))) stands),
        ))
        (λ unsurveyed. inr unsurveyed) p.ran;
  }

  uncopied_since : (sink full : Option (List ℕ)) (end : DiskState) (status : Status) → (end.honest → d.honest)
      → IsUncopied d end sink full status → IsUncopied begun end sink full status
  uncopied_since sink full end status was p = record {
    error = p.error;
    unread = p.unread;
    cause = cause_since p.error p.cause;
    few = p.few;
    failures = p.failures ∙ ap (failed_by p.unread) sound;
    said = p.said;
  }
    where
      cause_since : (error : SalvageError) → IsNoCopy d end p.unread error → IsNoCopy begun end p.unread error
      cause_since NotVolume cause = (
        cause.0,
        cause.1 ∙ sound,
        λ h size. subst (λ (c : Contents). HasHome size (held_to d.size c) → ⊥) (same (was h)) (cause.2 h size),
      )
      cause_since Device cause = cause
      cause_since NoMemory cause = tt

  pub salvaged_since : (before after : List FileAct) (task : SalvageTask) (sink full : Option (List ℕ))
      (end : DiskState) (status : Status) → (end.honest → d.honest)
      → IsSalvagedFrom before after task tail sink full d end status
      → IsSalvagedFrom before after task tail sink full begun end status
  salvaged_since before after task sink full end status was p = record {
    still = λ h. still_on begun d end (began.still (was h)) (p.still h);
    done = ⊎_elim (λ copied. inl (copied_since before after task sink full end status was copied))
        (λ uncopied. inr (uncopied.0, uncopied_since sink full end status was uncopied.1)) p.done;
  }

-- The same with the number of blocks that the disk has at the end, and with its file.
pub salvage_run : {H : Type 0} {access : Access} (facts : HostFacts H) (path : List ℕ) (form : Form) (u : Unseen)
    (tail : ℕ) (before after : List FileAct) (task : SalvageTask) (sink full : Option (List ℕ)) (status : Status)
    (d e : DiskState) → IsOpened facts path access u → BeganCut form u tail d → d.failures ≡ 0 → SameDisk d e
    → IsSalvagedFrom before after task tail sink full d e status
    → IsOpened facts path access u × IsCut form u tail e
    × IsSalvagedFrom before after task tail sink full (begun_image form e.size u) e status
salvage_run facts path form u tail before after task sink full status d e opened began sound kept ran = (
  opened,
  record {
    size = λ h. began.size (kept.was_honest h) ∙ (λ i. block_length form * sym kept.size i + tail);
    short = began.short;
  },
  subst (λ n. IsSalvagedFrom before after task tail sink full (begun_image form n u) e status) (sym kept.size)
      (salvaged_since form u tail d began sound before after task sink full e status kept.was_honest ran),
)

-- Status 0.

refused_none : (refused broke : Bool) → status_code Done ≡ max (if refused then 1 else 0) (if broke then 4 else 0)
    → refused ≡ false
refused_none false broke is = refl
refused_none true false is = absurd (omega (arith, is))
refused_none true true is = absurd (omega (arith, is))

-- Status 0 without a PPN means that no fault was found, and what follows from that.
pub accepted_on : {D : Type 0} (state : D → DiskState) (task : ExportTask) (head : List Finding)
    (files doubtful unnamed : List SavedFile) (findings : List Finding) (sink full : Option (List ℕ))
    (old new : Acted D) (result : Result Tally SessionError) (status : Status) (Accepts : Type 0)
    → IsEnding status result → IsSalvageRun state task head files doubtful unnamed findings sink full old new result
    → (findings ≡ [] → Accepts) → status ≡ Done → task.owner ≡ None → (head ≡ []) × Accepts
accepted_on state task head files doubtful unnamed findings sink full old new (Ok tally) status Accepts ends run
    silent done all =
    let code : status_code Done ≡ max (if tally.refused then 1 else 0) (if tally.broke then 4 else 0) =
    ap status_code (sym done) ∙ ends in
    let none = nothing_told state task head files doubtful unnamed findings sink full old new tally all run
    (refused_none tally.refused tally.broke code) in
    (none.0, silent none.1)
accepted_on state task head files doubtful unnamed findings sink full old new (Err error) status Accepts ends run
    silent done all = absurd (cc (ends, done))

-- What a result that is known leads to.

pub match_ok : {T E : Type 0} (r : Result T E) (x : T) (P : T → Type 0) (Q : E → Type 0) → r ≡ Ok x → P x
    → MatchResult r P Q
match_ok r x P Q is holds = subst (λ s. MatchResult s P Q) (sym is) holds

pub match_err : {T E : Type 0} (r : Result T E) (e : E) (P : T → Type 0) (Q : E → Type 0) → r ≡ Err e → Q e
    → MatchResult r P Q
match_err r e P Q is holds = subst (λ s. MatchResult s P Q) (sym is) holds

-- A part of a task that searches.
pub part_copied : (before after : List FileAct) (task : SalvageTask) (sink full : Option (List ℕ)) (copy last : Memory)
    (faults : CopyFaults) (status : Status) → (task.search ≡ Named → ⊥)
    → IsPartSalvaged before after task sink full copy last faults status
    → IsCopySalvaged before after task sink full copy last faults status
part_copied before after task sink full copy last faults status searches ran = ⊎_elim
    (λ part. inl (part.0, part.1, part.2, inr (searches, part.3), part.4)) (λ none. inr none) ran

-- A copy that was only read before.
module _ (before after : List FileAct) (task : SalvageTask) (sink full : Option (List ℕ)) (copy mid last : Memory)
    (faults : CopyFaults) (same : SameDisk (memory_state copy) (memory_state mid))
    (reads : OnlyReads (memory_state copy) (memory_state mid)) where
  contents_same : held mid.blocks ≡ held copy.blocks
  contents_same = same_contents (held copy.blocks) (held mid.blocks) reads.still.contents

  found_since : (other : SalvageTask) (end : Option (List ℕ)) (files doubtful unnamed : List SavedFile)
      (status : Status) → AreFound before after other sink end mid last faults files doubtful unnamed status
      → AreFound before after other sink end copy last faults files doubtful unnamed status
  found_since other end files doubtful unnamed status p = record {
    layout = p.layout;
    findings = p.findings;
    middle = p.middle;
    result = p.result;
    layout_is = moved (λ n k. (home : SpecHome) → IsHome n k home → p.layout ≡ home.layout) (length copy.blocks)
        (length mid.blocks) (held copy.blocks) (held mid.blocks) same.size contents_same p.layout_is;
    no_layout = moved (λ n k. ((home : SpecHome) → IsHome n k home → ⊥) → p.layout ≡ 2) (length copy.blocks)
        (length mid.blocks) (held copy.blocks) (held mid.blocks) same.size contents_same p.no_layout;
    surveyed = moved (λ n k. IsSurveyed n p.layout k other.search files doubtful unnamed p.findings)
        (length copy.blocks) (length mid.blocks) (held copy.blocks) (held mid.blocks) same.size contents_same
        p.surveyed;
    silent = moved (λ n k. p.findings ≡ [] → (stored : Files File) × SettledStands n k stored) (length copy.blocks)
        (length mid.blocks) (held copy.blocks) (held mid.blocks) same.size contents_same p.silent;
    read = only_reads_on (memory_state copy) (memory_state mid) (memory_state p.middle) reads p.read;
    saved = p.saved;
    ends = p.ends;
    accepted = moved (λ n k. status ≡ Done → other.export.owner ≡ None → (copy_findings faults ≡ [])
        × ((stored : Files File) × SettledStands n k stored)) (length copy.blocks) (length mid.blocks)
        (held copy.blocks) (held mid.blocks) same.size contents_same p.accepted;
  }

  exact_since : (files doubtful unnamed : List SavedFile) → AreExact task mid files doubtful unnamed
      → AreExact task copy files doubtful unnamed
  exact_since files doubtful unnamed = moved (λ n k. (stored : Files File) → SettledStands n k stored
      → AreAllFound k task files doubtful unnamed stored) (length copy.blocks) (length mid.blocks) (held copy.blocks)
      (held mid.blocks) same.size contents_same

  pub copy_salvaged_since : (status : Status) → mid.failures ≡ copy.failures
      → IsCopySalvaged before after task sink full mid last faults status
      → IsCopySalvaged before after task sink full copy last faults status
  unfolding found_since
  copy_salvaged_since status sound ran = ⊎_elim
      (λ saved. inl (
        saved.0,
        saved.1,
        saved.2,
        ⊎_elim (λ all. inl (found_since task full saved.0 saved.1 saved.2 status all))
            (λ part. inr (
              part.0,
              record {
                between = part.1.between;
                reached = part.1.reached;
                found = found_since (named_only task) part.1.between saved.0 saved.1 saved.2 part.1.reached
                    part.1.found;
                said = part.1.said;
              },
            )) saved.3,
        exact_since saved.0 saved.1 saved.2 saved.4,
      ))
      (λ none. inr (
        none.0,
        record {
          error = none.1.error;
          read = only_reads_on (memory_state copy) (memory_state mid) (memory_state last) reads none.1.read;
          cause = ⊎_elim (λ memory. inl (memory.0, memory.1 ∙ sound))
              (λ device. inr (device.0, device.1 ∙ ap one_more sound)) none.1.cause;
          said = none.1.said;
        },
      )) ran
