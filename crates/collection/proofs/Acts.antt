-- What a service did for one thing after the other is what it did for all of them.
use Rattle.std.proofs.Common.{◌≡◌, ℕ, List, [], ◌∷◌, ◌++◌, Option, Result, Ok, Err, true, false, ap, inl, inr, refl}
use Rattle.std.proofs.Common.{sym, subst, ◌∙◌}
use Rattle.words36.specs.declared.names.FileName.{FileName}
use Rattle.spec_language.specs.Common.{Say, silent}
use Rattle.spec_machine.specs.declared.call.Reply.{Reply}
use Rattle.spec_image.specs.declared.entry.Entry.{Entry}
use Rattle.commands.specs.Common.{AlwaysStands, GoesBy, Machine, machine_of}
use Rattle.commands.specs.declared.answer.Tally.{Tally}
use Rattle.commands.specs.declared.error.SessionError.{SessionError}
use Rattle.blockdisk.specs.Common.{DiskState}
use Rattle.monitor.specs.Common.{MonitorState}
use Rattle.monitor.proofs.Events.EventCrashes.{state_stands}
use Rattle.commands.proofs.ActLaws.{goes_nowhere, goes_on}
use Rattle.collection.specs.Common.{Acted, EachDone, Goes, added, folder_made, folder_of, unread}
use Rattle.collection.specs.declared.source.Source.{Source}
use Rattle.collection.specs.declared.task.ExportTask.{ExportTask}
use Rattle.collection.specs.declared.task.ImportTask.{ImportTask}
use Rattle.collection.specs.Export as exporting
use Rattle.collection.specs.Import as importing

-- whatever the disk of a monitor is, what a crash leaves stands for its files
pub monitors_stand : {D : Type 0} (state : D → DiskState)
    → AlwaysStands (λ (m : MonitorState D). machine_of (state m.disk) m.map m.failed m.jobs)
monitors_stand state m honest s serves = state_stands (state m.disk) m.map m.jobs s serves.1

module _ {S : Type 0} (machine : S → Machine) (stands : AlwaysStands machine) where
  -- no call was made
  pub same_goes : (old new : S) → new ≡ old → Goes machine old new
  same_goes old new same =
      record {
        acts = [];
        goes = subst (λ (s : S). GoesBy machine old s []) (sym same) (goes_nowhere machine stands old);
      }

  pub then_goes : (old mid new : S) → Goes machine old mid → Goes machine mid new → Goes machine old new
  then_goes old mid new one next = record {
    acts = one.acts ++ next.acts;
    goes = goes_on machine old mid new one.acts next.acts one.goes next.goes;
  }

  -- nothing was done, or only with files of the host
  acted_goes : (old mid new : Acted S) → new ≡ mid → mid.1 ≡ old.1 → Goes machine old.1 new.1
  acted_goes old mid new same kept = same_goes old.1 new.1 (ap (λ (s : Acted S). s.1) same ∙ kept)

  module _ {X : Type 0} (step : X → Option (List ℕ) → Option (List ℕ) → Acted S → Acted S
      → Result Tally SessionError → Type 0)
      (steps : (x : X) (sink full : Option (List ℕ)) (old new : Acted S) (result : Result Tally SessionError)
      → step x sink full old new result → Goes machine old.1 new.1) where
    pub each_goes : (xs : List X) (tally : Tally) (sink full : Option (List ℕ)) (old new : Acted S)
        (result : Result Tally SessionError) → EachDone step xs tally sink full old new result
        → Goes machine old.1 new.1
    each_goes [] tally sink full old new result (written, same, is) = acted_goes old old new same refl
    each_goes (x ∷ xs) tally sink full old new result (Ok one, middle, mid, done, rest) =
        then_goes old.1 mid.1 new.1 (steps x sink middle old mid (Ok one) done)
        (each_goes xs (added tally one) middle full mid new result rest)
    each_goes (x ∷ xs) tally sink full old new result (Err error, middle, mid, done, (written, same, is)) =
        then_goes old.1 mid.1 new.1 (steps x sink middle old mid (Err error) done) (acted_goes mid mid new same refl)

  after_goes : (path : List ℕ) (sink full : Option (List ℕ)) (mid new : S) (result : Result Tally SessionError)
      (IsDone : Type 0) (made : Result (Unit {0}) Reply) → (IsDone → Goes machine mid new)
      → importing.GoesOn path sink full mid new result IsDone made → Goes machine mid new
  after_goes path sink full mid new result IsDone (Ok unit) goes done = goes done
  after_goes path sink full mid new result IsDone (Err reply) goes (inl (there, done)) = goes done
  after_goes path sink full mid new result IsDone (Err reply) goes (inr (other, same, line)) = same_goes mid new same

  -- A file of the host.
  put_goes : (task : ImportTask) (path text : List ℕ) (name : FileName) (source : Source) (sink full : Option (List ℕ))
      (old new : S) (result : Result Tally SessionError)
      → importing.IsPutInto machine task.owner path sink full old new result
      (λ mid. importing.IsImported machine task path text name source sink full mid new result)
      → Goes machine old new
  put_goes task path text name source sink full old new result p =
      let made = p.makes.led (Say silent) in
      then_goes old p.mid new (record { acts = made.acts; goes = made.goes })
      (after_goes path sink full p.mid new result _ p.made
      (λ done. record { acts = done.imported.acts; goes = done.imported.goes }) p.done)

  pub import_goes : (task : ImportTask) (path : List ℕ) (sink full : Option (List ℕ)) (old new : Acted S)
      (result : Result Tally SessionError) → importing.IsDoneWith machine task path sink full old new result
      → Goes machine old.1 new.1
  import_goes task path sink full old new result (inl (text, name, named, inl (source, read, inl done))) =
      put_goes task path text name source sink full old.1 new.1 result done
  import_goes task path sink full old new result
      (inl (text, name, named, inl (source, read, inr (inl (dated, undated, (same, line)))))) =
      same_goes old.1 new.1 same
  import_goes task path sink full old new result
      (inl (text, name, named, inl (source, read, inr (inr unnamed)))) =
      same_goes old.1 new.1 unnamed.same
  import_goes task path sink full old new result (inl (text, name, named, inr (asked, line))) =
      acted_goes old (unread path (importing.most_read task.encoding) old) new asked refl
  import_goes task path sink full old new result (inr (inl (nameless, (same, line)))) =
      acted_goes old old new same refl
  import_goes task path sink full old new result (inr (inr unnamed)) = acted_goes old old new unnamed.same refl

  pub import_run_goes : (task : ImportTask) (paths : List (List ℕ)) (sink full : Option (List ℕ)) (old new : Acted S)
      (result : Result Tally SessionError) → importing.IsImportRun machine task paths sink full old new result
      → Goes machine old.1 new.1
  import_run_goes task paths sink full old new result =
      each_goes (importing.IsDoneWith machine task) (import_goes task) paths _ sink full old new result

  -- A file of a directory.
  pub entry_goes : (task : ExportTask) (owner : ℕ) (entry : Entry) (sink full : Option (List ℕ)) (old new : Acted S)
      (result : Result Tally SessionError)
      → exporting.IsEntryDone machine task owner entry sink full old new result → Goes machine old.1 new.1
  entry_goes task owner entry sink full old new result (inl (made, taken)) =
      record { acts = taken.read.acts; goes = taken.read.goes }
  entry_goes task owner entry sink full old new result (inr (inl (told, listed))) =
      acted_goes old old new listed.same refl
  entry_goes task owner entry sink full old new result (inr (inr unnamed)) = acted_goes old old new unnamed.same refl

  pub entries_go : (task : ExportTask) (owner : ℕ) (es : List Entry) (sink full : Option (List ℕ)) (old new : Acted S)
      (result : Result Tally SessionError)
      → exporting.AreEntriesDone machine task owner es sink full old new result → Goes machine old.1 new.1
  entries_go task owner es sink full old new result (inl (lists, done)) =
      each_goes (exporting.IsEntryDone machine task owner) (entry_goes task owner) es _ sink full old new result done
  entries_go task owner es sink full old new result (inr (inl (makes, done))) =
      each_goes (exporting.IsEntryDone machine task owner) (entry_goes task owner) es _ sink full
      (folder_made (folder_of task.folder.now owner) true old) new result done
  entries_go task owner es sink full old new result (inr (inr (makes, none))) =
      acted_goes old (folder_made (folder_of task.folder.now owner) false old) new none.asked refl

  directory_goes : (task : ExportTask) (owner : ℕ) (answer : Result (List Entry) Reply)
      (sink full : Option (List ℕ)) (mid new : Acted S) (result : Result Tally SessionError)
      → exporting.IsAnsweredDirectory machine task owner answer sink full mid new result → Goes machine mid.1 new.1
  directory_goes task owner (Ok es) sink full mid new result done =
      entries_go task owner es sink full mid new result done
  directory_goes task owner (Err reply) sink full mid new result (same, line) = acted_goes mid mid new same refl

  pub owner_goes : (task : ExportTask) (owner : ℕ) (sink full : Option (List ℕ)) (old new : Acted S)
      (result : Result Tally SessionError)
      → exporting.IsOwnerDone machine task owner sink full old new result → Goes machine old.1 new.1
  owner_goes task owner sink full old new result (inl d) =
      then_goes old.1 d.mid new.1 (record { acts = d.asked.acts; goes = d.asked.goes })
      (directory_goes task owner d.entries sink full (old.0, d.mid) new result d.done)
  owner_goes task owner sink full old new result (inr unnamed) = acted_goes old old new unnamed.same refl

  owners_go : (task : ExportTask) (owners : List ℕ) (sink full : Option (List ℕ)) (old new : Acted S)
      (result : Result Tally SessionError)
      → exporting.AreOwnersDone machine task owners sink full old new result → Goes machine old.1 new.1
  owners_go task owners sink full old new result (inl (lists, done)) =
      each_goes (exporting.IsOwnerDone machine task) (owner_goes task) owners _ sink full old new result done
  owners_go task owners sink full old new result (inr (inl (makes, done))) =
      each_goes (exporting.IsOwnerDone machine task) (owner_goes task) owners _ sink full
      (folder_made task.folder.now true old) new result done
  owners_go task owners sink full old new result (inr (inr (makes, none))) =
      acted_goes old (folder_made task.folder.now false old) new none.asked refl

  answered_go : (task : ExportTask) (answer : Result (List ℕ) Reply) (sink full : Option (List ℕ)) (old new : Acted S)
      (result : Result Tally SessionError)
      → exporting.AreAnsweredOwners machine task answer sink full old new result → Goes machine old.1 new.1
  answered_go task (Ok owners) sink full old new result done = owners_go task owners sink full old new result done
  answered_go task (Err reply) sink full old new result (same, line) = acted_goes old old new same refl

  pub exports_go : (task : ExportTask) (sink full : Option (List ℕ)) (old new : Acted S)
      (result : Result Tally SessionError) → exporting.IsExportRun machine task sink full old new result
      → Goes machine old.1 new.1
  exports_go task sink full old new result run = answered_go task run.owners sink full old new result run.done
