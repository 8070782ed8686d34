use Rattle.std.proofs.Common.{◌≡◌, ◌+◌, ◌-◌, ◌/◌, ℕ, length, min, sym, ◌∙◌, subst, arith}
use Rattle.std.specs.List.{AllByRecursion}
use Rattle.blockdisk.specs.Common.{modifies_on, modifies_wider, still_modifies, keeps_still}
use Rattle.spec_image.specs.Common.{blocks_of, InSpace}
use Rattle.retrieval.specs.Common.{IsOwn, IsPartlyPlaced}
use Rattle.retrieval.proofs.GrownLists.{grown, grown_length, grown_keeps, after_some}
use Rattle.retrieval.proofs.HeldBlocks.{used_le_uses}
use Rattle.retrieval.proofs.Placed.{size_same, booked_same, fixed_on, room_on, same_on, held_on, own_before}
use Rattle.retrieval.proofs.Placed.{held_again, adds_on}
use Rattle.retrieval.proofs.PutBlocks.{body_put}
use Rattle.retrieval.proofs.Parts.{whole_from}
use Rattle.retrieval.proofs.put.put_into.Goals as goal

pub returns-in_err-kept-clause-modified : goal.returns-in_err-kept-clause-modified
returns-in_err-kept-clause-modified g c h =
    still_modifies (IsOwn c.args.table.now c.args.blocks.now.blocks) (g.D.Disk.state c.args.disk.now)
    (g.D.Disk.state c.prepare.new.disk)
    (keeps_still (g.D.Disk.state c.args.disk.now) (g.D.Disk.state c.prepare.new.disk) (c.prepare.ensures.keeps h))

pub take_more-requires-clause-used : goal.take_more-requires-clause-used
take_more-requires-clause-used g c =
    let some = c.requires.some in
    let after = after_some c.args.old c.args.block (length c.args.words.now) some in
    let first = c.requires.first in
    let ends = c.div_ceil.ensures in
    let more = c.saturating_sub-more.ensures in
    let had = c.len.ensures in
    let counted = c.requires.counted in
    let booked = c.requires.booked in
    let most = used_le_uses c.args.table.now in
    omega arith

pub write_places-requires-clause-size : goal.write_places-requires-clause-size
write_places-requires-clause-size g c =
    let s = g.D.Disk.state c.args.disk.now in
    let t = c.args.table.now in
    let xs = c.args.blocks.now.blocks in
    let t1 = c.take_more.new.table in
    let xs1 = c.take_more.new.blocks.blocks in
    let grown' = grown s.size t t1 xs c.prepare.new.blocks.blocks xs1 c.saturating_sub-more.result c.requires.size
    c.booked-booked.ensures.sound c.requires.fixed c.requires.inside c.prepare.ensures.same_blocks
    c.take_more.ensures.grown in
    size_same t t1 grown'.table ∙ c.requires.size ∙ sym c.prepare.ensures.same.size

pub write_places-requires-clause-inside : goal.write_places-requires-clause-inside
write_places-requires-clause-inside g c =
    let s = g.D.Disk.state c.args.disk.now in
    let t = c.args.table.now in
    let xs = c.args.blocks.now.blocks in
    let t1 = c.take_more.new.table in
    let xs1 = c.take_more.new.blocks.blocks in
    let grown' = grown s.size t t1 xs c.prepare.new.blocks.blocks xs1 c.saturating_sub-more.result c.requires.size
    c.booked-booked.ensures.sound c.requires.fixed c.requires.inside c.prepare.ensures.same_blocks
    c.take_more.ensures.grown in
    subst (λ (z : ℕ). AllByRecursion (InSpace z) xs1) (sym c.prepare.ensures.same.size) grown'.inside

pub write_places-requires-clause-held : goal.write_places-requires-clause-held
write_places-requires-clause-held g c =
    let s = g.D.Disk.state c.args.disk.now in
    let t = c.args.table.now in
    let xs = c.args.blocks.now.blocks in
    let t1 = c.take_more.new.table in
    let xs1 = c.take_more.new.blocks.blocks in
    let grown' = grown s.size t t1 xs c.prepare.new.blocks.blocks xs1 c.saturating_sub-more.result c.requires.size
    c.booked-booked.ensures.sound c.requires.fixed c.requires.inside c.prepare.ensures.same_blocks
    c.take_more.ensures.grown in
    held_on t t1 grown'.table xs xs1 grown'.held c.requires.held

pub write_places-requires-clause-fixed : goal.write_places-requires-clause-fixed
write_places-requires-clause-fixed g c =
    let s = g.D.Disk.state c.args.disk.now in
    let t = c.args.table.now in
    let xs = c.args.blocks.now.blocks in
    let t1 = c.take_more.new.table in
    let xs1 = c.take_more.new.blocks.blocks in
    let grown' = grown s.size t t1 xs c.prepare.new.blocks.blocks xs1 c.saturating_sub-more.result c.requires.size
    c.booked-booked.ensures.sound c.requires.fixed c.requires.inside c.prepare.ensures.same_blocks
    c.take_more.ensures.grown in
    fixed_on t t1 grown'.table c.requires.fixed

pub write_places-requires-clause-used : goal.write_places-requires-clause-used
write_places-requires-clause-used g c =
    let s = g.D.Disk.state c.args.disk.now in
    let t = c.args.table.now in
    let xs = c.args.blocks.now.blocks in
    let t1 = c.take_more.new.table in
    let xs1 = c.take_more.new.blocks.blocks in
    let grown' = grown s.size t t1 xs c.prepare.new.blocks.blocks xs1 c.saturating_sub-more.result c.requires.size
    c.booked-booked.ensures.sound c.requires.fixed c.requires.inside c.prepare.ensures.same_blocks
    c.take_more.ensures.grown in
    let some = c.requires.some in
    let after = after_some c.args.old c.args.block (length c.args.words.now) some in
    let first = c.requires.first in
    let ends = c.div_ceil.ensures in
    let more = c.saturating_sub-more.ensures in
    let had = c.len.ensures in
    let longer = grown_length c.args.table.now c.take_more.new.table c.args.blocks.now.blocks
    c.prepare.new.blocks.blocks
    c.take_more.new.blocks.blocks c.saturating_sub-more.result c.prepare.ensures.same_blocks c.take_more.ensures.grown
    in
    let counted = c.requires.counted in
    let booked = c.requires.booked in
    let same = booked_same t t1 grown'.table in
    let used = grown'.used in
    omega arith

pub write_places-requires-clause-room : goal.write_places-requires-clause-room
write_places-requires-clause-room g c =
    let s = g.D.Disk.state c.args.disk.now in
    let t = c.args.table.now in
    let xs = c.args.blocks.now.blocks in
    let t1 = c.take_more.new.table in
    let xs1 = c.take_more.new.blocks.blocks in
    let grown' = grown s.size t t1 xs c.prepare.new.blocks.blocks xs1 c.saturating_sub-more.result c.requires.size
    c.booked-booked.ensures.sound c.requires.fixed c.requires.inside c.prepare.ensures.same_blocks
    c.take_more.ensures.grown in
    room_on t t1 grown'.table c.requires.room

pub returns-in-Ok-clause-body : goal.returns-in-Ok-clause-body
returns-in-Ok-clause-body g c h body is has =
    let s = g.D.Disk.state c.args.disk.now in
    let whole = whole_from s.contents c.args.blocks.now.blocks body has in
    let t = c.args.table.now in
    let xs = c.args.blocks.now.blocks in
    let t1 = c.take_more.new.table in
    let xs1 = c.take_more.new.blocks.blocks in
    let grown' = grown s.size t t1 xs c.prepare.new.blocks.blocks xs1 c.saturating_sub-more.result c.requires.size
    c.booked-booked.ensures.sound c.requires.fixed c.requires.inside c.prepare.ensures.same_blocks
    c.take_more.ensures.grown in
    let some = c.requires.some in
    let after = after_some c.args.old c.args.block (length c.args.words.now) some in
    let first = c.requires.first in
    let ends = c.div_ceil.ensures in
    let more = c.saturating_sub-more.ensures in
    let had = c.len.ensures in
    let longer = grown_length c.args.table.now c.take_more.new.table c.args.blocks.now.blocks
    c.prepare.new.blocks.blocks
    c.take_more.new.blocks.blocks c.saturating_sub-more.result c.prepare.ensures.same_blocks c.take_more.ensures.grown
    in
    let counted = c.requires.counted in
    let is_first : c.min-first.result ≡ min (c.args.block - 1) (c.args.old / 128) = c.min-first.ensures in
    let placed = subst (λ (f : ℕ). IsPartlyPlaced (g.D.Disk.state c.prepare.new.disk).contents
    (g.D.Disk.state c.write_places.new.disk).contents xs1 c.write_places.new.blocks.blocks
    (c.args.block - 1) c.args.words.now
    c.in_ok-kept.kept.place c.in_ok-kept.kept.words f (c.args.block - 1 + blocks_of (length c.args.words.now))) is_first
    (c.in-Ok.ensures.placed h) in
    (body_put s.contents (g.D.Disk.state c.prepare.new.disk).contents
    (g.D.Disk.state c.write_places.new.disk).contents xs xs1 c.write_places.new.blocks.blocks c.args.old
    c.args.block c.args.words.now c.in_ok-kept.kept.place c.in_ok-kept.kept.words
    c.requires.counted some (c.prepare.ensures.keeps (c.in-Ok.ensures.same.was_honest h)).contents grown'.front
    (let l = longer in omega arith) c.write_places.ensures.long placed body is whole has
    (c.in_ok-kept.ensures.kept (c.in-Ok.ensures.same.was_honest h) body is whole has))

pub returns-in-Ok-clause-table : goal.returns-in-Ok-clause-table
returns-in-Ok-clause-table g c =
    let s = g.D.Disk.state c.args.disk.now in
    let t = c.args.table.now in
    let xs = c.args.blocks.now.blocks in
    let t1 = c.take_more.new.table in
    let xs1 = c.take_more.new.blocks.blocks in
    let grown' = grown s.size t t1 xs c.prepare.new.blocks.blocks xs1 c.saturating_sub-more.result c.requires.size
    c.booked-booked.ensures.sound c.requires.fixed c.requires.inside c.prepare.ensures.same_blocks
    c.take_more.ensures.grown in
    same_on t t1 grown'.table c.write_places.new.table c.write_places.ensures.table

pub returns-in-Ok-clause-held : goal.returns-in-Ok-clause-held
returns-in-Ok-clause-held g c n =
    let s = g.D.Disk.state c.args.disk.now in
    let t = c.args.table.now in
    let xs = c.args.blocks.now.blocks in
    let t1 = c.take_more.new.table in
    let xs1 = c.take_more.new.blocks.blocks in
    let grown' = grown s.size t t1 xs c.prepare.new.blocks.blocks xs1 c.saturating_sub-more.result c.requires.size
    c.booked-booked.ensures.sound c.requires.fixed c.requires.inside c.prepare.ensures.same_blocks
    c.take_more.ensures.grown in
    held_again t t1 grown'.table xs xs1 grown'.held c.write_places.new.table c.write_places.new.blocks.blocks
    c.write_places.ensures.held n

pub returns-in-Ok-clause-used : goal.returns-in-Ok-clause-used
returns-in-Ok-clause-used g c =
    let s = g.D.Disk.state c.args.disk.now in
    let t = c.args.table.now in
    let xs = c.args.blocks.now.blocks in
    let t1 = c.take_more.new.table in
    let xs1 = c.take_more.new.blocks.blocks in
    let grown' = grown s.size t t1 xs c.prepare.new.blocks.blocks xs1 c.saturating_sub-more.result c.requires.size
    c.booked-booked.ensures.sound c.requires.fixed c.requires.inside c.prepare.ensures.same_blocks
    c.take_more.ensures.grown in
    let used = grown'.used in
    let same = c.write_places.ensures.used in
    let long = c.write_places.ensures.long in
    let longer = grown_length c.args.table.now c.take_more.new.table c.args.blocks.now.blocks
    c.prepare.new.blocks.blocks
    c.take_more.new.blocks.blocks c.saturating_sub-more.result c.prepare.ensures.same_blocks c.take_more.ensures.grown
    in
    omega arith

pub returns-in-Ok-clause-stays : goal.returns-in-Ok-clause-stays
returns-in-Ok-clause-stays g c =
    let s = g.D.Disk.state c.args.disk.now in
    let t = c.args.table.now in
    let xs = c.args.blocks.now.blocks in
    let t1 = c.take_more.new.table in
    let xs1 = c.take_more.new.blocks.blocks in
    let grown' = grown s.size t t1 xs c.prepare.new.blocks.blocks xs1 c.saturating_sub-more.result c.requires.size
    c.booked-booked.ensures.sound c.requires.fixed c.requires.inside c.prepare.ensures.same_blocks
    c.take_more.ensures.grown in
    (grown_keeps s.size t t1 xs xs1 c.write_places.new.blocks.blocks grown' c.write_places.ensures.stays)

pub returns-in-Ok-clause-modified : goal.returns-in-Ok-clause-modified
returns-in-Ok-clause-modified g c h =
    let s = g.D.Disk.state c.args.disk.now in
    let t = c.args.table.now in
    let xs = c.args.blocks.now.blocks in
    let t1 = c.take_more.new.table in
    let xs1 = c.take_more.new.blocks.blocks in
    let grown' = grown s.size t t1 xs c.prepare.new.blocks.blocks xs1 c.saturating_sub-more.result c.requires.size
    c.booked-booked.ensures.sound c.requires.fixed c.requires.inside c.prepare.ensures.same_blocks
    c.take_more.ensures.grown in
    let s1 = g.D.Disk.state c.prepare.new.disk in
    let s2 = g.D.Disk.state c.write_places.new.disk in
    modifies_on (IsOwn t xs) s s1 s2 (still_modifies (IsOwn t xs) s s1
    (keeps_still s s1 (c.prepare.ensures.keeps (c.write_places.ensures.same.was_honest h))))
    (modifies_wider (IsOwn t1 xs1) (IsOwn t xs) s1 s2 (own_before t t1 grown'.table xs xs1 grown'.held)
    (c.write_places.ensures.modified h))

pub returns-in-Err-clause-table : goal.returns-in-Err-clause-table
returns-in-Err-clause-table g c =
    let s = g.D.Disk.state c.args.disk.now in
    let t = c.args.table.now in
    let xs = c.args.blocks.now.blocks in
    let t1 = c.take_more.new.table in
    let xs1 = c.take_more.new.blocks.blocks in
    let grown' = grown s.size t t1 xs c.prepare.new.blocks.blocks xs1 c.saturating_sub-more.result c.requires.size
    c.booked-booked.ensures.sound c.requires.fixed c.requires.inside c.prepare.ensures.same_blocks
    c.take_more.ensures.grown in
    same_on t t1 grown'.table c.write_places.new.table c.write_places.ensures.table

pub returns-in-Err-clause-held : goal.returns-in-Err-clause-held
returns-in-Err-clause-held g c =
    let s = g.D.Disk.state c.args.disk.now in
    let t = c.args.table.now in
    let xs = c.args.blocks.now.blocks in
    let t1 = c.take_more.new.table in
    let xs1 = c.take_more.new.blocks.blocks in
    let grown' = grown s.size t t1 xs c.prepare.new.blocks.blocks xs1 c.saturating_sub-more.result c.requires.size
    c.booked-booked.ensures.sound c.requires.fixed c.requires.inside c.prepare.ensures.same_blocks
    c.take_more.ensures.grown in
    held_again t t1 grown'.table xs xs1 grown'.held c.write_places.new.table c.write_places.new.blocks.blocks
    c.write_places.ensures.held

pub returns-in-Err-clause-used : goal.returns-in-Err-clause-used
returns-in-Err-clause-used g c =
    let s = g.D.Disk.state c.args.disk.now in
    let t = c.args.table.now in
    let xs = c.args.blocks.now.blocks in
    let t1 = c.take_more.new.table in
    let xs1 = c.take_more.new.blocks.blocks in
    let grown' = grown s.size t t1 xs c.prepare.new.blocks.blocks xs1 c.saturating_sub-more.result c.requires.size
    c.booked-booked.ensures.sound c.requires.fixed c.requires.inside c.prepare.ensures.same_blocks
    c.take_more.ensures.grown in
    let used = grown'.used in
    let same = c.write_places.ensures.used in
    let long = c.write_places.ensures.long in
    let longer = grown_length c.args.table.now c.take_more.new.table c.args.blocks.now.blocks
    c.prepare.new.blocks.blocks
    c.take_more.new.blocks.blocks c.saturating_sub-more.result c.prepare.ensures.same_blocks c.take_more.ensures.grown
    in
    omega arith

pub returns-in-Err-clause-stays : goal.returns-in-Err-clause-stays
returns-in-Err-clause-stays g c =
    let s = g.D.Disk.state c.args.disk.now in
    let t = c.args.table.now in
    let xs = c.args.blocks.now.blocks in
    let t1 = c.take_more.new.table in
    let xs1 = c.take_more.new.blocks.blocks in
    let grown' = grown s.size t t1 xs c.prepare.new.blocks.blocks xs1 c.saturating_sub-more.result c.requires.size
    c.booked-booked.ensures.sound c.requires.fixed c.requires.inside c.prepare.ensures.same_blocks
    c.take_more.ensures.grown in
    grown_keeps s.size t t1 xs xs1 c.write_places.new.blocks.blocks grown' c.write_places.ensures.stays

pub returns-in-Err-clause-modified : goal.returns-in-Err-clause-modified
returns-in-Err-clause-modified g c h =
    let s = g.D.Disk.state c.args.disk.now in
    let t = c.args.table.now in
    let xs = c.args.blocks.now.blocks in
    let t1 = c.take_more.new.table in
    let xs1 = c.take_more.new.blocks.blocks in
    let grown' = grown s.size t t1 xs c.prepare.new.blocks.blocks xs1 c.saturating_sub-more.result c.requires.size
    c.booked-booked.ensures.sound c.requires.fixed c.requires.inside c.prepare.ensures.same_blocks
    c.take_more.ensures.grown in
    let s1 = g.D.Disk.state c.prepare.new.disk in
    let s2 = g.D.Disk.state c.write_places.new.disk in
    modifies_on (IsOwn t xs) s s1 s2 (still_modifies (IsOwn t xs) s s1
    (keeps_still s s1 (c.prepare.ensures.keeps (c.write_places.ensures.same.was_honest h))))
    (modifies_wider (IsOwn t1 xs1) (IsOwn t xs) s1 s2 (own_before t t1 grown'.table xs xs1 grown'.held)
    (c.write_places.ensures.modified h))

pub returns-in-Ok-clause-adds : goal.returns-in-Ok-clause-adds
returns-in-Ok-clause-adds g c =
    let s = g.D.Disk.state c.args.disk.now in
    let t = c.args.table.now in
    let xs = c.args.blocks.now.blocks in
    let t1 = c.take_more.new.table in
    let xs1 = c.take_more.new.blocks.blocks in
    let grown' = grown s.size t t1 xs c.prepare.new.blocks.blocks xs1 c.saturating_sub-more.result c.requires.size
    c.booked-booked.ensures.sound c.requires.fixed c.requires.inside c.prepare.ensures.same_blocks
    c.take_more.ensures.grown in
    (adds_on t t1 grown'.table xs xs1 grown'.held c.write_places.new.blocks.blocks c.requires.held
    (grown'.adds c.requires.held) c.write_places.ensures.adds)

pub returns-in-Ok-clause-few : goal.returns-in-Ok-clause-few
returns-in-Ok-clause-few g c =
    let some = c.requires.some in
    let after = after_some c.args.old c.args.block (length c.args.words.now) some in
    let first = c.requires.first in
    let ends = c.div_ceil.ensures in
    let more = c.saturating_sub-more.ensures in
    let had = c.len.ensures in
    let longer = grown_length c.args.table.now c.take_more.new.table c.args.blocks.now.blocks
    c.prepare.new.blocks.blocks
    c.take_more.new.blocks.blocks c.saturating_sub-more.result c.prepare.ensures.same_blocks c.take_more.ensures.grown
    in
    let counted = c.requires.counted in
    let long = c.write_places.ensures.long in
    omega arith

pub returns-in-Err-clause-adds : goal.returns-in-Err-clause-adds
returns-in-Err-clause-adds g c =
    let s = g.D.Disk.state c.args.disk.now in
    let t = c.args.table.now in
    let xs = c.args.blocks.now.blocks in
    let t1 = c.take_more.new.table in
    let xs1 = c.take_more.new.blocks.blocks in
    let grown' = grown s.size t t1 xs c.prepare.new.blocks.blocks xs1 c.saturating_sub-more.result c.requires.size
    c.booked-booked.ensures.sound c.requires.fixed c.requires.inside c.prepare.ensures.same_blocks
    c.take_more.ensures.grown in
    adds_on t t1 grown'.table xs xs1 grown'.held c.write_places.new.blocks.blocks c.requires.held
    (grown'.adds c.requires.held) c.write_places.ensures.adds

pub returns-in-Err-clause-few : goal.returns-in-Err-clause-few
returns-in-Err-clause-few g c =
    let some = c.requires.some in
    let after = after_some c.args.old c.args.block (length c.args.words.now) some in
    let first = c.requires.first in
    let ends = c.div_ceil.ensures in
    let more = c.saturating_sub-more.ensures in
    let had = c.len.ensures in
    let longer = grown_length c.args.table.now c.take_more.new.table c.args.blocks.now.blocks
    c.prepare.new.blocks.blocks
    c.take_more.new.blocks.blocks c.saturating_sub-more.result c.prepare.ensures.same_blocks c.take_more.ensures.grown
    in
    let counted = c.requires.counted in
    let long = c.write_places.ensures.long in
    omega arith

pub returns-in-Ok-clause-whole : goal.returns-in-Ok-clause-whole
returns-in-Ok-clause-whole g c h = c.in_ok-kept.ensures.whole (c.in-Ok.ensures.same.was_honest h)
