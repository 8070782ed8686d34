use Rattle.std.proofs.Common.{slice_get, sym, ap, ◌∙◌}
use Rattle.spec_image.proofs.Common.{some_none}
use Rattle.volume.specs.Common.{as_known, memory_of}
use Rattle.volume.proofs.common.Growths.{one_place}
use Rattle.volume.proofs.common.MarkedBlocks.{on_ok}
use Rattle.volume.proofs.RenameAcross.Places.{across_before, across_here, across_gone, across_elsewhere}
use Rattle.volume.proofs.RenameAcross.Refusals.{no_file_homeless, no_file_exists, no_file_no_room, target_homeless}
use Rattle.volume.proofs.RenameAcross.Refusals.{target_exists, target_no_room, target_lacking, moved_lacking}
use Rattle.volume.proofs.RenameAcross.Refusals.{moved_exists, moved_no_room, memory_plain}
use Rattle.volume.proofs.RenameWithin.Refusals.{not_refused}
use Rattle.volume.proofs.common.Edits.{edited_volume, files_stay}
use Rattle.volume.proofs.volume.Volume.rename_across.Goals as goal

pub returns-then-self-clause-held : goal.returns-then-self-clause-held
returns-then-self-clause-held g c = rw (← c.self.view_is) (λ k v is some. (v.prime, is))

pub returns-in-Err-clause-held : goal.returns-in-Err-clause-held
returns-in-Err-clause-held g c = rw (← c.self.view_is) (λ k v is some. (v.prime, is))

pub returns-in-Err-clause-no_directory : goal.returns-in-Err-clause-no_directory
returns-in-Err-clause-no_directory g c = rw (← c.self.view_is) (λ alive.
    let s = g.D.Disk.state c.self.inside.disk in
    let memory = memory_of c.self.inside.map in
    no_file_homeless s.size memory c.self.invariant.map.whole c.args.moved.ppn c.args.moved.name c.args.moved.to_ppn
    c.args.moved.to c.in-Err.error c.in-Err.ensures.none)

pub returns-in-Err-clause-exists : goal.returns-in-Err-clause-exists
returns-in-Err-clause-exists g c = rw (← c.self.view_is) (λ alive.
    let s = g.D.Disk.state c.self.inside.disk in
    let memory = memory_of c.self.inside.map in
    no_file_exists s.size memory c.self.invariant.map.whole c.args.moved.ppn c.args.moved.name c.args.moved.to_ppn
    c.args.moved.to c.in-Err.error c.in-Err.ensures.none)

pub returns-in-Err-clause-no_room : goal.returns-in-Err-clause-no_room
returns-in-Err-clause-no_room g c = rw (← c.self.view_is) (λ alive.
    let s = g.D.Disk.state c.self.inside.disk in
    let memory = memory_of c.self.inside.map in
    no_file_no_room s.size memory c.self.invariant.map.whole c.args.moved.ppn c.args.moved.name c.args.moved.to_ppn
    c.args.moved.to c.in-Err.error c.in-Err.ensures.none)

pub returns-in-Err-find_target-clause-held : goal.returns-in-Err-find_target-clause-held
returns-in-Err-find_target-clause-held g c = rw (← c.self.view_is) (λ k v is some. (v.prime, is))

pub returns-in-Err-find_target-clause-no_directory : goal.returns-in-Err-find_target-clause-no_directory
returns-in-Err-find_target-clause-no_directory g c = rw (← c.self.view_is) (λ alive.
    let s = g.D.Disk.state c.self.inside.disk in
    let memory = memory_of c.self.inside.map in
    target_homeless s.size memory c.self.invariant.map.whole c.args.moved.ppn c.args.moved.name c.args.moved.to_ppn
    c.args.moved.to c.in-Ok.key c.in-Ok.ensures.found c.in-Err-find_target.error c.in-Err-find_target.ensures.only
    c.in-Err-find_target.ensures.no_directory)

pub returns-in-Err-find_target-clause-not_found : goal.returns-in-Err-find_target-clause-not_found
returns-in-Err-find_target-clause-not_found g c = rw (← c.self.view_is) (λ alive.
    let s = g.D.Disk.state c.self.inside.disk in
    let memory = memory_of c.self.inside.map in
    target_lacking s.size memory c.self.invariant.map.whole c.args.moved.ppn c.args.moved.name c.args.moved.to_ppn
    c.args.moved.to c.in-Ok.key c.in-Ok.ensures.found c.in-Err-find_target.error c.in-Err-find_target.ensures.only)

pub returns-in-Err-find_target-clause-exists : goal.returns-in-Err-find_target-clause-exists
returns-in-Err-find_target-clause-exists g c = rw (← c.self.view_is) (λ alive.
    let s = g.D.Disk.state c.self.inside.disk in
    let memory = memory_of c.self.inside.map in
    target_exists s.size memory c.self.invariant.map.whole c.args.moved.ppn c.args.moved.name c.args.moved.to_ppn
    c.args.moved.to c.in-Ok.key c.in-Ok.ensures.found c.in-Err-find_target.error c.in-Err-find_target.ensures.only
    c.in-Err-find_target.ensures.exists)

pub returns-in-Err-find_target-clause-no_room : goal.returns-in-Err-find_target-clause-no_room
returns-in-Err-find_target-clause-no_room g c = rw (← c.self.view_is) (λ alive.
    let s = g.D.Disk.state c.self.inside.disk in
    let memory = memory_of c.self.inside.map in
    target_no_room s.size memory c.self.invariant.map.whole c.args.moved.ppn c.args.moved.name c.args.moved.to_ppn
    c.args.moved.to c.in-Ok.key c.in-Ok.ensures.found c.in-Err-find_target.error c.in-Err-find_target.ensures.only
    c.in-Err-find_target.ensures.no_room)

pub returns-in_default-clause-held : goal.returns-in_default-clause-held
returns-in_default-clause-held g c = rw (← c.self.view_is) (λ k v is some. (v.prime, is))

pub returns-in_default-clause-not_found : goal.returns-in_default-clause-not_found
returns-in_default-clause-not_found g c = rw (← c.self.view_is) (λ alive.
    let s = g.D.Disk.state c.self.inside.disk in
    let memory = memory_of c.self.inside.map in
    moved_lacking s.size memory c.self.invariant.map.whole c.args.moved.ppn c.args.moved.name c.args.moved.to_ppn
    c.args.moved.to c.in-Ok.key c.in-Ok.ensures.found _ memory_plain c.in-Ok-find_target.place)

pub returns-in_default-clause-exists : goal.returns-in_default-clause-exists
returns-in_default-clause-exists g c = rw (← c.self.view_is) (λ alive.
    let s = g.D.Disk.state c.self.inside.disk in
    let memory = memory_of c.self.inside.map in
    moved_exists s.size memory c.self.invariant.map.whole c.args.moved.ppn c.args.moved.name c.args.moved.to_ppn
    c.args.moved.to c.in-Ok.key c.in-Ok.ensures.found _ memory_plain c.in-Ok-find_target.place
    c.in-Ok-find_target.ensures.exists)

pub returns-in_default-clause-no_room : goal.returns-in_default-clause-no_room
returns-in_default-clause-no_room g c = rw (← c.self.view_is) (λ alive.
    let s = g.D.Disk.state c.self.inside.disk in
    let memory = memory_of c.self.inside.map in
    moved_no_room s.size memory c.self.invariant.map.whole c.args.moved.ppn c.args.moved.name c.args.moved.to_ppn
    c.args.moved.to c.in-Ok.key c.in-Ok.ensures.found _ memory_plain c.in-Ok-find_target.place
    c.in-Ok-find_target.ensures.no_room)

pub move_across-requires-clause-may_arrive : goal.move_across-requires-clause-may_arrive
move_across-requires-clause-may_arrive g c =
    let m = c.self.inside.map in
    let target = c.in-Ok-find_target.ensures in
    let found = target.place in
    record {
      target = λ absent. some_none (sym found.1.found ∙ absent);
      free = target.free;
      room = target.room;
      fits = λ d place v stands is.
          let same = one_place (memory_of m).known.master.entries c.in-Ok-find_target.place place c.args.moved.to_ppn
          found.0 v c.self.invariant.map.whole.map.chain.each_once found.1.is stands.is in
          let at = ap (slice_get m.directories.items) same ∙ is in
          (c.in-Ok-preallocate_entry.ensures.fits d at, c.in-Ok-preallocate_entry.ensures.roomy d at);
    }

pub returns-clause-moved : goal.returns-clause-moved
returns-clause-moved g c = rw (← c.self.view_is)
    (on_ok c.move_across.result _ _
    (λ found. (c.in-Ok.key, found.0, found.1, found.2, found.3, found.4, found.5)) c.move_across.ensures.moved)

pub returns-clause-held : goal.returns-clause-held
returns-clause-held g c = rw (← c.self.view_is) (λ k v is some. c.move_across.ensures.held k v is)

pub returns-clause-here : goal.returns-clause-here
returns-clause-here g c = rw (← c.self.view_is) (
    let s = g.D.Disk.state c.self.inside.disk in
    let memory = memory_of c.self.inside.map in
    let new = memory_of c.move_across.new.memory in
    on_ok c.move_across.result _ _ (λ found.
    across_here s.size memory.known new.known c.args.moved.ppn c.args.moved.name c.args.moved.to_ppn
    c.args.moved.to (found.0.at, as_known found.0) _ found.1 found.2 found.3.moved
    ∙ sym (across_before s.size memory.known new.known c.args.moved.ppn c.args.moved.name c.args.moved.to_ppn
    c.args.moved.to (found.0.at, as_known found.0) _ found.1 found.2 found.3.moved)) c.move_across.ensures.moved)

pub returns-clause-gone : goal.returns-clause-gone
returns-clause-gone g c =
    let s = g.D.Disk.state c.self.inside.disk in
    let memory = memory_of c.self.inside.map in
    let new = memory_of c.move_across.new.memory in
    on_ok c.move_across.result _ _ (λ found.
    across_gone s.size memory.known new.known c.args.moved.ppn c.args.moved.name c.args.moved.to_ppn
    c.args.moved.to (found.0.at, as_known found.0) _ found.1 found.2 found.3.moved)
    c.move_across.ensures.moved

pub returns-clause-primes : goal.returns-clause-primes
returns-clause-primes g c = rw (← c.self.view_is) (
    let s = g.D.Disk.state c.self.inside.disk in
    let memory = memory_of c.self.inside.map in
    let new = memory_of c.move_across.new.memory in
    on_ok c.move_across.result _ _ (λ found q n differ apart.
    across_elsewhere s.size memory.known new.known c.args.moved.ppn c.args.moved.name c.args.moved.to_ppn
    c.args.moved.to (found.0.at, as_known found.0) _ found.1 found.2 found.3.moved q n differ apart)
    c.move_across.ensures.moved)

pub returns-clause-not_found : goal.returns-clause-not_found
returns-clause-not_found g c = rw (← c.self.view_is) (λ alive.
    let s = g.D.Disk.state c.self.inside.disk in
    let memory = memory_of c.self.inside.map in
    moved_lacking s.size memory c.self.invariant.map.whole c.args.moved.ppn c.args.moved.name c.args.moved.to_ppn
    c.args.moved.to c.in-Ok.key c.in-Ok.ensures.found c.move_across.result
    (not_refused c.move_across.result c.move_across.ensures.only) c.in-Ok-find_target.place)

pub returns-clause-exists : goal.returns-clause-exists
returns-clause-exists g c = rw (← c.self.view_is) (λ alive.
    let s = g.D.Disk.state c.self.inside.disk in
    let memory = memory_of c.self.inside.map in
    moved_exists s.size memory c.self.invariant.map.whole c.args.moved.ppn c.args.moved.name c.args.moved.to_ppn
    c.args.moved.to c.in-Ok.key c.in-Ok.ensures.found c.move_across.result
    (not_refused c.move_across.result c.move_across.ensures.only) c.in-Ok-find_target.place
    c.in-Ok-find_target.ensures.exists)

pub returns-clause-no_room : goal.returns-clause-no_room
returns-clause-no_room g c = rw (← c.self.view_is) (λ alive.
    let s = g.D.Disk.state c.self.inside.disk in
    let memory = memory_of c.self.inside.map in
    moved_no_room s.size memory c.self.invariant.map.whole c.args.moved.ppn c.args.moved.name c.args.moved.to_ppn
    c.args.moved.to c.in-Ok.key c.in-Ok.ensures.found c.move_across.result
    (not_refused c.move_across.result c.move_across.ensures.only) c.in-Ok-find_target.place
    c.in-Ok-find_target.ensures.no_room)

-- What becomes of the disk, and of the layout.

pub invariant_of-self : goal.invariant_of-self
invariant_of-self g c = edited_volume c.self.invariant c.if-self.false c.move_across.ensures.edited

pub returns-in-Err-find_target-clause-files : goal.returns-in-Err-find_target-clause-files
returns-in-Err-find_target-clause-files g c = rw (← c.self.view_is)
    (files_stay (λ h d left. g.met.D.Disk.only_now c.self.inside.disk d h left))

pub returns-in_default-clause-files : goal.returns-in_default-clause-files
returns-in_default-clause-files g c = rw (← c.self.view_is)
    (files_stay (λ h d left. g.met.D.Disk.only_now c.self.inside.disk d h left))

pub returns-clause-files : goal.returns-clause-files
returns-clause-files g c = rw (← c.self.view_is) c.move_across.ensures.edited.files

pub returns-then-self-clause-files : goal.returns-then-self-clause-files
returns-then-self-clause-files g c = rw (← c.self.view_is)
    (files_stay (λ h d left. g.met.D.Disk.only_now c.self.inside.disk d h left))

pub returns-in-Err-clause-files : goal.returns-in-Err-clause-files
returns-in-Err-clause-files g c = rw (← c.self.view_is)
    (files_stay (λ h d left. g.met.D.Disk.only_now c.self.inside.disk d h left))
