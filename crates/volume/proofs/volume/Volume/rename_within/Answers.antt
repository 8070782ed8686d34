use Rattle.std.proofs.Common.{sym, ◌∙◌}
use Rattle.spec_image.specs.declared.code.ErrorCode.TheVariants.{NotFound}
use Rattle.volume.specs.Common.{as_known, memory_of}
use Rattle.volume.proofs.common.MarkedBlocks.{on_ok}
use Rattle.volume.proofs.RenameWithin.Places.{moved_before, moved_here, moved_gone, moved_elsewhere}
use Rattle.volume.proofs.RenameWithin.Refusals.{refused_not_found, refused_exists, refused_no_directory}
use Rattle.volume.proofs.RenameWithin.Refusals.{refused_codes, refused_plain, key_there, not_refused}
use Rattle.volume.proofs.common.Edits.{edited_volume, files_stay}
use Rattle.volume.proofs.volume.Volume.rename_within.Goals as goal

pub returns-then-self-clause-held : goal.returns-then-self-clause-held
returns-then-self-clause-held g c = rw (← c.self.view_is) (λ k v is some.
    (v.prime, is))

pub returns-in-Err-clause-held : goal.returns-in-Err-clause-held
returns-in-Err-clause-held g c = rw (← c.self.view_is) (λ k v is some.
    (v.prime, is))

pub returns-in-Err-clause-not_found : goal.returns-in-Err-clause-not_found
returns-in-Err-clause-not_found g c = rw (← c.self.view_is) (λ alive.
    let s = g.D.Disk.state c.self.inside.disk in
    let memory = memory_of c.self.inside.map in
    refused_not_found s.size memory c.self.invariant.map.whole c.args.moved.ppn c.args.moved.name c.args.moved.to
    c.in-Err.error c.in-Err.ensures.refused)

pub returns-in-Err-clause-exists : goal.returns-in-Err-clause-exists
returns-in-Err-clause-exists g c = rw (← c.self.view_is) (λ alive.
    let s = g.D.Disk.state c.self.inside.disk in
    let memory = memory_of c.self.inside.map in
    refused_exists s.size memory c.self.invariant.map.whole c.args.moved.ppn c.args.moved.name c.args.moved.to
    c.in-Err.error c.in-Err.ensures.refused)

pub returns-in-Err-clause-no_directory : goal.returns-in-Err-clause-no_directory
returns-in-Err-clause-no_directory g c = rw (← c.self.view_is) (λ alive.
    let s = g.D.Disk.state c.self.inside.disk in
    let memory = memory_of c.self.inside.map in
    refused_no_directory s.size memory c.self.invariant.map.whole c.args.moved.ppn c.args.moved.name c.args.moved.to
    c.in-Err.error c.in-Err.ensures.refused)

pub returns-in-Err-clause-codes : goal.returns-in-Err-clause-codes
returns-in-Err-clause-codes g c code is =
    let s = g.D.Disk.state c.self.inside.disk in
    let memory = memory_of c.self.inside.map in
    refused_codes s.size memory c.self.invariant.map.whole c.args.moved.ppn c.args.moved.name c.args.moved.to
    c.in-Err.error c.in-Err.ensures.refused
    code is

pub returns-in-Err-clause-memory : goal.returns-in-Err-clause-memory
returns-in-Err-clause-memory g c is =
    let s = g.D.Disk.state c.self.inside.disk in
    let memory = memory_of c.self.inside.map in
    absurd ((refused_plain s.size memory c.self.invariant.map.whole c.args.moved.ppn c.args.moved.name c.args.moved.to
    c.in-Err.error c.in-Err.ensures.refused).0 is)

pub returns-clause-moved : goal.returns-clause-moved
returns-clause-moved g c = rw (← c.self.view_is)
    (on_ok c.move_within.result _ _
    (λ found. (c.in-Ok.key, found.0, found.1, found.2, found.3, found.4, found.5)) c.move_within.ensures.moved)

pub returns-clause-held : goal.returns-clause-held
returns-clause-held g c = rw (← c.self.view_is) (λ k v is some.
    c.move_within.ensures.held k v is)

pub returns-clause-here : goal.returns-clause-here
returns-clause-here g c = rw (← c.self.view_is) (
    let memory = memory_of c.self.inside.map in
    let new = memory_of c.move_within.new.map in
    on_ok c.move_within.result _ _ (λ found.
    moved_here (g.D.Disk.state c.self.inside.disk).size memory.known new.known c.args.moved.ppn c.args.moved.name
    c.args.moved.to (found.0.at, as_known found.0) _ found.1 found.2 found.3.moved
    ∙ sym (moved_before (g.D.Disk.state c.self.inside.disk).size memory.known new.known c.args.moved.ppn
    c.args.moved.name
    c.args.moved.to
    (found.0.at, as_known found.0) _ found.1 found.2 found.3.moved)) c.move_within.ensures.moved)

pub returns-clause-gone : goal.returns-clause-gone
returns-clause-gone g c =
    let memory = memory_of c.self.inside.map in
    let new = memory_of c.move_within.new.map in
    on_ok c.move_within.result _ _ (λ found differ.
    moved_gone (g.D.Disk.state c.self.inside.disk).size memory.known new.known c.args.moved.ppn c.args.moved.name
    c.args.moved.to (found.0.at, as_known found.0) _ found.1 found.2 found.3.moved differ)
    c.move_within.ensures.moved

pub returns-clause-primes : goal.returns-clause-primes
returns-clause-primes g c = rw (← c.self.view_is) (
    let memory = memory_of c.self.inside.map in
    let new = memory_of c.move_within.new.map in
    on_ok c.move_within.result _ _ (λ found q n differ apart.
    moved_elsewhere (g.D.Disk.state c.self.inside.disk).size memory.known new.known c.args.moved.ppn c.args.moved.name
    c.args.moved.to
    (found.0.at, as_known found.0) _ found.1 found.2 found.3.moved q n differ apart)
    c.move_within.ensures.moved)

pub returns-clause-not_found : goal.returns-clause-not_found
returns-clause-not_found g c = rw (← c.self.view_is) (λ alive.
    let s = g.D.Disk.state c.self.inside.disk in
    let memory = memory_of c.self.inside.map in (
      λ is. absurd (not_refused c.move_within.result c.move_within.ensures.only NotFound is),
      λ lacks. absurd (key_there s.size memory c.self.invariant.map.whole c.args.moved.ppn c.args.moved.name c.in-Ok.key
          c.in-Ok.ensures.found lacks),
    ))

-- What becomes of the disk, and of the layout.

pub invariant_of-self : goal.invariant_of-self
invariant_of-self g c = edited_volume c.self.invariant c.if-self.false c.move_within.ensures.edited

pub returns-in-Err-clause-files : goal.returns-in-Err-clause-files
returns-in-Err-clause-files g c = rw (← c.self.view_is)
    (files_stay (λ h d left. g.met.D.Disk.only_now c.self.inside.disk d h left))

pub returns-clause-files : goal.returns-clause-files
returns-clause-files g c = rw (← c.self.view_is) c.move_within.ensures.edited.files

pub returns-then-self-clause-files : goal.returns-then-self-clause-files
returns-then-self-clause-files g c = rw (← c.self.view_is)
    (files_stay (λ h d left. g.met.D.Disk.only_now c.self.inside.disk d h left))
