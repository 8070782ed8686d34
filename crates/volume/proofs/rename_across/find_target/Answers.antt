use Rattle.std.proofs.Common.{◌<◌, ◌≤◌, ◌+◌, refl, sym, ◌∙◌, arith}
use Rattle.alloctab.specs.Common.{space}
use Rattle.volume.proofs.BeginVersion.Beginnings.{no_room}
use Rattle.volume.proofs.PublishVersion.StepPremises.{directory_read}
use Rattle.volume.proofs.RenameAcross.Refusals.{target_few, target_named, named_no_room, target_free, free_unnamed}
use Rattle.volume.proofs.RenameAcross.Refusals.{target_full, target_room, room_enough}
use Rattle.volume.proofs.rename_across.find_target.Goals.{else-more-gt0-via-then-more-gt0+else-not-can_book}
use Rattle.volume.proofs.rename_across.find_target.Goals.{else-more-gt0-via-else-more-gt0}
use Rattle.volume.proofs.rename_across.find_target.Goals as goal

pub returns-then-is_some-clause-exists : goal.returns-then-is_some-clause-exists
returns-then-is_some-clause-exists c =
    let m = c.args.memory.now in
    let stands = c.in-Ok.ensures.found in
    let at = directory_read m c.requires.whole stands.1 _ c.index.ensures in (
      λ said. target_named m c.requires.whole c.args.ppn c.in-Ok.place stands.0 stands.1 c.index.result.now at
          c.args.name.now c.find.result (sym c.is_some.ensures ∙ c.if-is_some.true) c.find.ensures.found,
      λ has. refl,
    )

pub returns-then-is_some-clause-no_room : goal.returns-then-is_some-clause-no_room
returns-then-is_some-clause-no_room c =
    let m = c.args.memory.now in
    let stands = c.in-Ok.ensures.found in
    let at = directory_read m c.requires.whole stands.1 _ c.index.ensures in (
      λ said. cc,
      λ lacks. absurd (named_no_room m c.requires.whole c.args.ppn c.in-Ok.place stands.0 stands.1 c.index.result.now at
          c.args.name.now c.find.result (sym c.is_some.ensures ∙ c.if-is_some.true) c.find.ensures.found lacks),
    )

pub growth_at-more-requires-clause-few : goal.growth_at-more-requires-clause-few
growth_at-more-requires-clause-few c =
    let m = c.args.memory.now in
    let stands = c.in-Ok.ensures.found in
    let at = directory_read m c.requires.whole stands.1 _ c.index.ensures in
    target_few m c.requires.whole c.args.ppn c.in-Ok.place stands.0 stands.1 c.index.result.now at c.args.name.now

pub returns-then-not-can_book-clause-exists : goal.returns-then-not-can_book-clause-exists
returns-then-not-can_book-clause-exists c =
    let m = c.args.memory.now in
    let stands = c.in-Ok.ensures.found in
    let at = directory_read m c.requires.whole stands.1 _ c.index.ensures in (
      λ said. cc,
      λ has. absurd (free_unnamed m c.requires.whole c.args.ppn c.in-Ok.place stands.0 stands.1 c.index.result.now at
          c.args.name.now c.find.result (sym c.is_some.ensures ∙ c.if-is_some.false) c.find.ensures.none has),
    )

pub returns-then-not-can_book-clause-no_room : goal.returns-then-not-can_book-clause-no_room
returns-then-not-can_book-clause-no_room c =
    let m = c.args.memory.now in
    let stands = c.in-Ok.ensures.found in
    let at = directory_read m c.requires.whole stands.1 _ c.index.ensures in
    let more = c.growth_at-more.result in
    let full = no_room _ _ _ c.can_book.result c.can_book.ensures c.if-not-can_book.true in
    let grows : 0 < more = let some = c.if-more-gt0.true in omega arith in (
      λ said. target_full m c.requires.whole c.args.ppn c.in-Ok.place stands.0 stands.1 c.index.result.now at
          c.args.name.now c.find.result (sym c.is_some.ensures ∙ c.if-is_some.false) c.find.ensures.none more
          c.growth_at-more.ensures.value grows full,
      λ lacks. refl,
    )

pub returns-clause-free : goal.returns-clause-free
returns-clause-free c =
    let m = c.args.memory.now in
    let stands = c.in-Ok.ensures.found in
    let at = directory_read m c.requires.whole stands.1 _ c.index.ensures in
    target_free m c.requires.whole c.args.ppn c.in-Ok.place stands.0 stands.1 c.index.result.now at
    c.args.name.now c.find.result (sym c.is_some.ensures ∙ c.if-is_some.false) c.find.ensures.none

pub returns-clause-room : goal.returns-clause-room
returns-clause-room c =
    let m = c.args.memory.now in
    let stands = c.in-Ok.ensures.found in
    let at = directory_read m c.requires.whole stands.1 _ c.index.ensures in
    let more = c.growth_at-more.result in
    let fits : 0 < more → m.table.booked + more ≤ space m.table.size = λ grows.
    elim c.else-more-gt0.branch [
      | else-more-gt0-via-then-more-gt0+else-not-can_book w ↦ w.can_book.ensures.0 w.if-not-can_book.false
      | else-more-gt0-via-else-more-gt0 w ↦ absurd (let no = w.if-more-gt0.false in omega arith)
    ] in
    target_room m c.requires.whole c.args.ppn c.in-Ok.place stands.0 stands.1 c.index.result.now at
    c.args.name.now c.find.result (sym c.is_some.ensures ∙ c.if-is_some.false) c.find.ensures.none more
    c.growth_at-more.ensures.value fits

pub returns-clause-exists : goal.returns-clause-exists
returns-clause-exists c =
    let m = c.args.memory.now in
    let stands = c.in-Ok.ensures.found in
    let at = directory_read m c.requires.whole stands.1 _ c.index.ensures in (
      λ said. cc,
      λ has. absurd (free_unnamed m c.requires.whole c.args.ppn c.in-Ok.place stands.0 stands.1 c.index.result.now at
          c.args.name.now c.find.result (sym c.is_some.ensures ∙ c.if-is_some.false) c.find.ensures.none has),
    )

pub returns-clause-no_room : goal.returns-clause-no_room
returns-clause-no_room c =
    let m = c.args.memory.now in
    let stands = c.in-Ok.ensures.found in
    let at = directory_read m c.requires.whole stands.1 _ c.index.ensures in
    let more = c.growth_at-more.result in
    let fits : 0 < more → m.table.booked + more ≤ space m.table.size = λ grows.
    elim c.else-more-gt0.branch [
      | else-more-gt0-via-then-more-gt0+else-not-can_book w ↦ w.can_book.ensures.0 w.if-not-can_book.false
      | else-more-gt0-via-else-more-gt0 w ↦ absurd (let no = w.if-more-gt0.false in omega arith)
    ] in (
      λ said. cc,
      λ lacks. absurd (room_enough m c.requires.whole c.args.ppn c.in-Ok.place stands.0 stands.1 c.index.result.now at
          c.args.name.now c.find.result (sym c.is_some.ensures ∙ c.if-is_some.false) c.find.ensures.none more
          c.growth_at-more.ensures.value fits lacks),
    )
