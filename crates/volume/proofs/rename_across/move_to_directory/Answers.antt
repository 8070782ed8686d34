use Rattle.std.proofs.Common.{IsSome, refl, sym, subst}
use Rattle.volume.specs.declared.live.LiveMap.{LiveMap}
use Rattle.volume.proofs.RenameAcross.Moves.{leaves_there, leaves_aligned, may_leave, some_booked, moves_there}
use Rattle.volume.proofs.RenameAcross.Moves.{moves_here, moves_few, changes_many, moves_across}
use Rattle.volume.proofs.rename_across.move_to_directory.Goals as goal

pub arrive-requires-clause-key : goal.arrive-requires-clause-key
arrive-requires-clause-key c = subst IsSome (sym c.requires.there.here) refl

pub leave-requires-clause-sound : goal.leave-requires-clause-sound
leave-requires-clause-sound c = c.arrive.ensures.marks.sound

pub leave-requires-clause-there : goal.leave-requires-clause-there
leave-requires-clause-there c =
    leaves_there c.args.memory.now c.arrive.new.memory c.requires.whole c.args.moved.ppn c.args.moved.name
    c.args.moved.to_ppn c.args.moved.to c.args.key c.requires.there c.requires.apart c.arrive.new.set c.arrive.ensures

pub leave-requires-clause-aligned : goal.leave-requires-clause-aligned
leave-requires-clause-aligned c =
    leaves_aligned c.args.memory.now c.arrive.new.memory c.requires.whole c.args.moved.ppn c.args.moved.name
    c.args.moved.to_ppn c.args.moved.to c.args.key c.requires.there c.requires.apart c.arrive.new.set c.arrive.ensures

pub leave-requires-clause-may_leave : goal.leave-requires-clause-may_leave
leave-requires-clause-may_leave c =
    may_leave c.args.memory.now c.arrive.new.memory c.requires.whole c.args.moved.ppn c.args.moved.name
    c.args.moved.to_ppn
    c.args.moved.to c.args.key c.requires.there c.requires.apart c.arrive.new.set c.arrive.ensures

pub leave-requires-clause-booked : goal.leave-requires-clause-booked
leave-requires-clause-booked c =
    some_booked c.args.memory.now c.arrive.new.memory c.requires.whole c.args.moved.ppn c.args.moved.name
    c.args.moved.to_ppn c.args.moved.to c.args.key c.requires.there c.requires.apart c.arrive.new.set c.arrive.ensures

pub leave-requires-clause-room : goal.leave-requires-clause-room
leave-requires-clause-room c = c.arrive.ensures.few

pub move_version-requires-clause-there : goal.move_version-requires-clause-there
move_version-requires-clause-there c =
    moves_there c.args.memory.now c.arrive.new.memory c.requires.whole c.args.moved.ppn c.args.moved.name
    c.args.moved.to_ppn c.args.moved.to c.args.key c.requires.there c.requires.apart c.arrive.new.set c.arrive.ensures
    c.leave.new.memory c.leave.new.set c.leave.ensures

pub move_version-requires-clause-room : goal.move_version-requires-clause-room
move_version-requires-clause-room c =
    moves_few c.args.memory.now c.arrive.new.memory c.requires.whole c.args.moved.ppn c.args.moved.name
    c.args.moved.to_ppn
    c.args.moved.to c.args.key c.requires.there c.requires.apart c.arrive.new.set c.arrive.ensures
    c.leave.new.memory c.leave.new.set c.leave.ensures

pub changes-requires : goal.changes-requires
changes-requires c =
    let m = c.args.memory.now in
    let there = moves_here m c.arrive.new.memory c.requires.whole c.args.moved.ppn c.args.moved.name c.args.moved.to_ppn
    c.args.moved.to c.args.key c.requires.there c.requires.apart c.arrive.new.set c.arrive.ensures
    c.leave.new.memory c.leave.new.set c.leave.ensures in
    let moved = c.move_version.ensures.moved c.requires.there.version there in
    changes_many m c.arrive.new.memory c.requires.whole c.args.moved.ppn c.args.moved.name c.args.moved.to_ppn
    c.args.moved.to c.args.key c.requires.there c.requires.apart c.arrive.new.set c.arrive.ensures
    c.leave.new.memory c.leave.new.set c.leave.ensures c.args.words.now moved.3 c.move_version.new.set moved.5

pub returns : goal.returns
returns c =
    let m = c.args.memory.now in
    let m2 = c.leave.new.memory in
    let there = moves_here m c.arrive.new.memory c.requires.whole c.args.moved.ppn c.args.moved.name c.args.moved.to_ppn
    c.args.moved.to c.args.key c.requires.there c.requires.apart c.arrive.new.set c.arrive.ensures
    m2 c.leave.new.set c.leave.ensures in
    let moved = c.move_version.ensures.moved c.requires.there.version there in
    let m' : LiveMap = record {
      master = m2.master;
      directories = m2.directories;
      versions = c.move_version.new.versions;
      pending = m2.pending;
      table = c.changes.new.self;
    } in (
      c.requires.there.version,
      moves_across m c.arrive.new.memory c.requires.whole c.args.moved.ppn c.args.moved.name c.args.moved.to_ppn
          c.args.moved.to c.args.key c.requires.there c.requires.apart c.arrive.new.set c.arrive.ensures
          m2 c.leave.new.set c.leave.ensures c.args.words.now moved.3 c.move_version.new.set moved.5
          c.args.moved.protection moved.0 moved.1 moved.4 c.requires.may_arrive.free c.requires.may_arrive.room
          m' c.changes.new.set refl refl refl c.changes.ensures.done c.changes.ensures.others c.changes.ensures.spells
          c.changes.ensures.in_range c.changes.ensures.few moved.2 c.move_version.ensures.others,
    )
