-- Files of a disk that was surveyed, one after the other.
use Rattle.std.proofs.Common.{◌≡◌, ◌<◌, ap, arith, sym, subst, ℕ, zero, suc, Bool, true, false, List, [], ◌∷◌, length}
use Rattle.std.proofs.Common.{get_or, Option, Result, Ok, Err, inl, inr, refl, ◌∙◌}
use Rattle.std.specs.List.{AllByRecursion}
use Rattle.blockdisk.specs.Common.{DiskState}
use Rattle.salvage.specs.Common.{FitsDisk}
use Rattle.salvage.specs.declared.saved.SavedFile.{SavedFile}
use Rattle.commands.specs.declared.answer.Tally.{Tally}
use Rattle.commands.specs.declared.error.SessionError.{SessionError}
use Rattle.collection.specs.Common.{Acted, AreApartSaved, AreFilesSaved, EachDone, IsFileDone, added, folder_made}
use Rattle.collection.specs.Common.{folder_of, none_counted}
use Rattle.collection.specs.declared.task.ExportTask.{ExportTask}

module _ {D : Type 0} (state : D → DiskState) (task : ExportTask) (folder : List ℕ) (numbered : Bool) where
  -- The disk keeps its size.

  acted_size : (old mid new : Acted D) → new ≡ mid → mid.1 ≡ old.1 → (state new.1).size ≡ (state old.1).size
  acted_size old mid new same kept = ap (λ (s : Acted D). (state s.1).size) same ∙ ap (λ disk. (state disk).size) kept

  pub size_stays : (file : SavedFile) (sink full : Option (List ℕ)) (old new : Acted D)
      (result : Result Tally SessionError) → IsFileDone state task folder numbered file sink full old new result
      → (state new.1).size ≡ (state old.1).size
  size_stays file sink full old new result (inl (wanted, inl (makes, saved))) = saved.is.same.size
  size_stays file sink full old new result (inl (wanted, inr (inl (makes, none)))) =
      acted_size old (folder_made (folder_of folder file.stored.prime.ppn) false old) new none.asked refl
  size_stays file sink full old new result (inl (wanted, inr (inr (inl (lists, listed))))) =
      acted_size old old new listed.same refl
  size_stays file sink full old new result (inl (wanted, inr (inr (inr unnamed)))) =
      acted_size old old new unnamed.same refl
  size_stays file sink full old new result (inr (other, passed)) = acted_size old old new passed.same refl

  each_size : (files : List SavedFile) (tally : Tally) (sink full : Option (List ℕ)) (old new : Acted D)
      (result : Result Tally SessionError)
      → EachDone (IsFileDone state task folder numbered) files tally sink full old new result
      → (state new.1).size ≡ (state old.1).size
  each_size [] tally sink full old new result (written, same, is) = acted_size old old new same refl
  each_size (x ∷ xs) tally sink full old new result (Ok one, middle, mid, done, rest) =
      each_size xs (added tally one) middle full mid new result rest
      ∙ size_stays x sink middle old mid (Ok one) done
  each_size (x ∷ xs) tally sink full old new result (Err error, middle, mid, done, (written, same, is)) =
      acted_size mid mid new same refl ∙ size_stays x sink middle old mid (Err error) done

  pub saved_size : (files : List SavedFile) (sink full : Option (List ℕ)) (old new : Acted D)
      (result : Result Tally SessionError) → AreFilesSaved state task folder numbered files sink full old new result
      → (state new.1).size ≡ (state old.1).size
  saved_size files sink full old new result (inl (lists, done)) =
      each_size files none_counted sink full old new result done
  saved_size files sink full old new result (inr (inl (makes, done))) =
      each_size files none_counted sink full (folder_made folder true old) new result done
  saved_size files sink full old new result (inr (inr (makes, none))) =
      acted_size old (folder_made folder false old) new none.asked refl

  pub apart_size : (files : List SavedFile) (sink full : Option (List ℕ)) (old new : Acted D)
      (result : Result Tally SessionError) → AreApartSaved state task folder numbered files sink full old new result
      → (state new.1).size ≡ (state old.1).size
  apart_size [] sink full old new result passed = acted_size old old new passed.same refl
  apart_size (x ∷ xs) sink full old new result (inl saved) = saved_size (x ∷ xs) sink full old new result saved
  apart_size (x ∷ xs) sink full old new result (inr unnamed) = acted_size old old new unnamed.same refl

  -- There are files to be kept apart, and this became of them.
  pub some_apart : (files : List SavedFile) (text : List ℕ) (sink full : Option (List ℕ)) (old new : Acted D)
      (result : Result Tally SessionError) → 0 < length files → text ≡ folder
      → AreFilesSaved state task text numbered files sink full old new result
      → AreApartSaved state task folder numbered files sink full old new result
  some_apart [] text sink full old new result some is saved = absurd (omega (arith, some))
  some_apart (x ∷ xs) text sink full old new result some is saved = inl
      (subst (λ path. AreFilesSaved state task path numbered (x ∷ xs) sink full old new result) is saved)

-- what fits the disk still fits it
pub all_fit : (n m : ℕ) (files : List SavedFile) → m ≡ n → AllByRecursion (FitsDisk n) files
    → AllByRecursion (FitsDisk m) files
all_fit n m files same all = subst (λ size. AllByRecursion (FitsDisk size) files) (sym same) all

-- Each file of a list that fits the disk fits it.
pub fits_at : (size : ℕ) (files : List SavedFile) (i : ℕ) (file : SavedFile) → i < length files
    → file ≡ get_or files i file → AllByRecursion (FitsDisk size) files → FitsDisk size file
fits_at size [] i file below is all = absurd (omega arith)
fits_at size (x ∷ xs) zero file below is all = subst (FitsDisk size) (sym is) all.0
fits_at size (x ∷ xs) (suc i) file below is all = fits_at size xs i file (omega arith) is all.1
