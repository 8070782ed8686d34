-- Facts about a file that hold by other names of its parts.
use Rattle.std.proofs.Common.{◌≡◌, ℕ, Bool, false, List, Option, Result, Ok, Err, codes, inl, inr, refl, subst, sym}
use Rattle.std.proofs.Common.{◌⊎◌, ◌∷◌, ◌∙◌, None, ap}
use Rattle.spec_language.specs.Common.{Plan, is_broken, refusal}
use Rattle.spec_language.specs.declared.encoding.Encoding.{Encoding}
use Rattle.spec_image.specs.declared.entry.Entry.{Entry}
use Rattle.commands.specs.Common.{Imported, Machine, HasEntries}
use Rattle.commands.specs.declared.answer.Tally.{Tally}
use Rattle.commands.specs.declared.error.SessionError.{SessionError}
use Rattle.commands.specs.declared.error.SessionError.TheVariants.{NoMemory}
use Rattle.collection.specs.Common.{Acted, FileAct, GoesOn, HasNoFolder, IsPutInto, IsRefusedLine, IsTakenOut}
use Rattle.collection.specs.Common.{MadeFolder, ReadFile, folder_made, unread}
use Rattle.collection.specs.declared.task.ImportTask.{ImportTask}
use Rattle.collection.proofs.EachLaws.{beside}
use Rattle.spec_machine.specs.declared.call.Reply.TheVariants.{Refused}
use Rattle.words36.specs.declared.moment.Moment.{Moment}
use Rattle.spec_machine.specs.declared.call.Reply.{Reply}

pub imported_as : {S : Type 0} (machine : S → Machine) (sink full : Option (List ℕ)) (old new : S) (encoding : Encoding)
    (label other bytes more : List ℕ) (plan : Option (List ℕ) → Plan) (result : Result Tally SessionError)
    → label ≡ other → bytes ≡ more → Imported sink full machine old new encoding label bytes plan result
    → Imported sink full machine old new encoding other more plan result
imported_as machine sink full old new encoding label other bytes more plan result e f p =
    subst (λ l. Imported sink full machine old new encoding l more plan result) e
    (subst (λ b. Imported sink full machine old new encoding label b plan result) f p)

pub taken_at : {S : Type 0} (machine : S → Machine) (asked : Option Encoding) (path other : List ℕ) (owner : ℕ)
    (entry : Entry) (sink full : Option (List ℕ)) (old new : Acted S) (result : Result Tally SessionError)
    → path ≡ other → IsTakenOut machine asked path owner entry sink full old new result
    → IsTakenOut machine asked other owner entry sink full old new result
taken_at machine asked path other owner entry sink full old new result e p =
    subst (λ l. IsTakenOut machine asked l owner entry sink full old new result) e p

pub refused_as : (path other answer text : List ℕ) (broke broken : Bool) (sink full : Option (List ℕ))
    (result : Result Tally SessionError) → path ≡ other → answer ≡ text → broke ≡ broken
    → IsRefusedLine path answer broke sink full result → IsRefusedLine other text broken sink full result
refused_as path other answer text broke broken sink full result e f h p =
    subst (λ l. IsRefusedLine l text broken sink full result) e
    (subst (λ l. IsRefusedLine path l broken sink full result) f
    (subst (λ b. IsRefusedLine path answer b sink full result) h p))

-- a folder was to be made at a path, which is this one
pub made_at : {S : Type 0} (path other : List ℕ) (made : Bool) (old new : List FileAct) (s : S) → path ≡ other
    → new ≡ MadeFolder path made ∷ old → beside new s ≡ folder_made other made (beside old s)
made_at path other made old new s is asked = ap (λ acts. beside acts s) asked
    ∙ ap (λ (p : List ℕ). beside (MadeFolder p made ∷ old) s) is

-- a file couldn't be read
pub unread_at : {S : Type 0} (path : List ℕ) (most other : ℕ) (old new : List FileAct) (s : S) → most ≡ other
    → new ≡ ReadFile path most None ∷ old → beside new s ≡ unread path other (beside old s)
unread_at path most other old new s is asked = ap (λ acts. beside acts s) asked
    ∙ ap (λ (n : ℕ). beside (ReadFile path n None ∷ old) s) is

-- no folder was made for a directory
pub no_folder : {S : Type 0} (folder other : List ℕ) (sink full : Option (List ℕ)) (old new : List FileAct) (s : S)
    (result : Result Tally SessionError) → folder ≡ other → new ≡ MadeFolder folder false ∷ old
    → IsRefusedLine folder (codes "?Can't make folder") false sink full result
    → HasNoFolder other sink full (beside old s) (beside new s) result
no_folder folder other sink full old new s result is asked line = record {
  asked = made_at folder other false old new s is asked;
  written = subst (λ l. IsRefusedLine l (codes "?Can't make folder") false sink full result) is line;
}

pub entries_as : {V S : Type 0} (items : V → List Entry) (machine : S → Machine) (old new : S) (at : Moment) (owner : ℕ)
    (v : V) → HasEntries {V = V} items machine old new at owner (Ok v)
    → HasEntries {V = List Entry} (λ es. es) machine old new at owner (Ok (items v))
entries_as items machine old new at owner v p = record { acts = p.acts; goes = p.goes; answer = p.answer }

pub no_entries : {V S : Type 0} (items : V → List Entry) (machine : S → Machine) (old new : S) (at : Moment) (owner : ℕ)
    (reply : Reply) → HasEntries {V = V} items machine old new at owner (Err reply)
    → HasEntries {V = List Entry} (λ es. es) machine old new at owner (Err reply)
no_entries items machine old new at owner reply p = record { acts = p.acts; goes = p.goes; answer = p.answer }

-- a directory that was made, or exists
pub let_in : {S : Type 0} (path : List ℕ) (sink full : Option (List ℕ)) (mid new : S)
    (result : Result Tally SessionError) (IsDone : Type 0) (made : Result (Unit {0}) Reply)
    → (made ≡ Ok tt) ⊎ (made ≡ Err (Refused 4)) → IsDone → GoesOn path sink full mid new result IsDone made
let_in path sink full mid new result IsDone made (inl e) done =
    subst (GoesOn path sink full mid new result IsDone) (sym e) done
let_in path sink full mid new result IsDone made (inr e) done =
    subst (GoesOn path sink full mid new result IsDone) (sym e) (inl (refl, done))

-- a directory that wasn't made and doesn't exist
pub shut_out : {S : Type 0} (path : List ℕ) (sink full : Option (List ℕ)) (mid : S)
    (result : Result Tally SessionError) (IsDone : Type 0) (made : Result (Unit {0}) Reply) (reply : Reply)
    → made ≡ Err reply → (reply ≡ Refused 4 → ⊥)
    → IsRefusedLine path (refusal reply) (is_broken reply) sink full result
    → GoesOn path sink full mid mid result IsDone made
shut_out path sink full mid result IsDone made reply e other line =
    subst (GoesOn path sink full mid mid result IsDone) (sym e) (inr (other, refl, line))

-- what was done is known by more
pub put_into_as : {S : Type 0} (machine : S → Machine) (owner : ℕ) (path : List ℕ) (sink full : Option (List ℕ))
    (old new : S) (result : Result Tally SessionError) (IsPut IsPutToo : S → Type 0)
    → ((mid : S) → IsPut mid → IsPutToo mid)
    → IsPutInto machine owner path sink full old new result IsPut
    → IsPutInto machine owner path sink full old new result IsPutToo
put_into_as machine owner path sink full old new result IsPut IsPutToo more p = record {
  mid = p.mid;
  made = p.made;
  makes = p.makes;
  done = done_as p.made p.done;
} where
  done_as : (made : Result (Unit {0}) Reply) → GoesOn path sink full p.mid new result (IsPut p.mid) made
      → GoesOn path sink full p.mid new result (IsPutToo p.mid) made
  done_as (Ok unit) done = more p.mid done
  done_as (Err reply) (inl (there, done)) = inl (there, more p.mid done)
  done_as (Err reply) (inr none) = inr none
