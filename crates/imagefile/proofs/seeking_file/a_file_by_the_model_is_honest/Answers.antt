use Rattle.std.proofs.Common.{◌≡◌, ◌+◌, ◌≤◌, List, [], ◌∷◌, length, refl, sym, ap, arith}
use Rattle.std.proofs.lemmas.List.Elements.{All-head, All-tail}
use Rattle.std.specs.List.{All}
use Rattle.imagefile.specs.Common.{window, Unseen, size_of, after_calls, IsHonestRecord, HostCall, Measure, ReadAt}
use Rattle.imagefile.specs.Common.{WriteAt, SyncAll, IsInFile, answered}
use Rattle.imagefile.proofs.CallLaws.{length-window}
use Rattle.imagefile.proofs.seeking_file.a_file_by_the_model_is_honest.Goals as goal

honest : (u : Unseen) (asked : List HostCall) → All (IsInFile (size_of u)) asked → IsHonestRecord u (answered u asked)
honest u [] within = tt
honest u (Measure ∷ before) within = (honest u before (All-tail (IsInFile (size_of u)) Measure before within), refl)
honest u (ReadAt at count ∷ before) within =
    let b = (after_calls u (answered u before)).bytes in
    let long : length (window b at count) ≡ count = length-window b at count in
    let inside : at + count ≤ size_of u = All-head (IsInFile (size_of u)) (ReadAt at count) before within in (
      (honest u before (All-tail (IsInFile (size_of u)) (ReadAt at count) before within), refl),
      (omega (arith, long, inside), sym (ap (window b at) long)),
    )
honest u (WriteAt at given ∷ before) within =
    let inside : at + length given ≤ size_of u = All-head (IsInFile (size_of u)) (WriteAt at given) before within in
    ((honest u before (All-tail (IsInFile (size_of u)) (WriteAt at given) before within), refl), (inside, omega arith))
honest u (SyncAll ∷ before) within = (honest u before (All-tail (IsInFile (size_of u)) SyncAll before within), tt)

pub returns : goal.returns
returns c = honest
