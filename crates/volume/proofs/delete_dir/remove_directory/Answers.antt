use Rattle.std.proofs.Common.{length, List, refl, ap, subst, ◌∙◌, arith}
use mir.Val.{bool_byte}
use Rattle.spec_image.specs.declared.put.Put.{Put}
use Rattle.spec_image.specs.Common.{master_words}
use Rattle.directory.specs.Common.{viewed, PutsChain}
use Rattle.volume.specs.Common.{master_view}
use Rattle.volume.specs.declared.live.LiveMap.{LiveMap}
use Rattle.volume.proofs.DeleteDir.Tables.{count_left, left_set, own_set, own_inside, changes_many, removes_directory}
use Rattle.volume.proofs.delete_dir.remove_directory.Goals as goal

pub clear_left-requires-clause-set : goal.clear_left-requires-clause-set
clear_left-requires-clause-set c =
    left_set c.args.memory.now c.requires.whole c.args.ppn c.args.place c.requires.there c.remove-left.new.self
    c.remove-left.result c.remove-left.ensures.blocks c.swap_remove-directory.result
    c.swap_remove-directory.ensures.value

pub clear_all-requires-clause-inside : goal.clear_all-requires-clause-inside
clear_all-requires-clause-inside c =
    own_inside c.args.memory.now c.requires.whole c.args.ppn c.args.place c.requires.there c.remove-left.new.self
    c.remove-left.result c.remove-left.ensures.blocks c.swap_remove-directory.result
    c.swap_remove-directory.ensures.value
    c.blocks-2.result.now c.blocks-2.ensures.value c.clear_left.new.table c.clear_left.ensures
    c.booked-booked.ensures.sound

pub clear_all-requires-clause-set : goal.clear_all-requires-clause-set
clear_all-requires-clause-set c =
    own_set c.args.memory.now c.requires.whole c.args.ppn c.args.place c.requires.there c.remove-left.new.self
    c.remove-left.result c.remove-left.ensures.blocks c.swap_remove-directory.result
    c.swap_remove-directory.ensures.value
    c.blocks-2.result.now c.blocks-2.ensures.value c.clear_left.new.table c.clear_left.ensures

pub changes-requires : goal.changes-requires
changes-requires c =
    changes_many c.args.memory.now c.requires.whole c.args.ppn c.args.place c.requires.there c.remove-left.new.self
    c.remove-left.result c.remove-left.ensures.blocks c.swap_remove-directory.result
    c.swap_remove-directory.ensures.value
    c.blocks-2.result.now c.blocks-2.ensures.value c.clear_left.new.table c.clear_left.ensures
    c.clear_all.new.table c.unbook.new.self c.clear_all.ensures c.from.result
    (count_left c.remove-left.result c.from.result (c.from.ensures ∙ ap bool_byte c.is_some.ensures)) c.unbook.ensures
    c.remove-left.new.set
    (let few = c.remove-left.ensures.few in let none = ap (λ (l : List Put). length l) c.requires.empty in omega arith)

pub returns : goal.returns
returns c =
    let m = c.args.memory.now in
    let m' : LiveMap = record {
      master = c.remove-left.new.self;
      directories = c.swap_remove-directory.new.self;
      versions = m.versions;
      pending = m.pending;
      table = c.changes.new.self;
    } in
    removes_directory m c.requires.whole c.args.ppn c.args.place c.requires.there c.remove-left.new.self
    c.remove-left.result c.remove-left.ensures.blocks c.swap_remove-directory.result
    c.swap_remove-directory.ensures.value
    c.blocks-2.result.now c.blocks-2.ensures.value c.clear_left.new.table c.clear_left.ensures
    c.clear_all.new.table c.unbook.new.self c.clear_all.ensures c.from.result
    (count_left c.remove-left.result c.from.result (c.from.ensures ∙ ap bool_byte c.is_some.ensures)) c.unbook.ensures
    c.remove-left.new.set
    (let few = c.remove-left.ensures.few in let none = ap (λ (l : List Put). length l) c.requires.empty in omega arith)
    c.blocks-blocks.ensures.sound c.remove-left.ensures.items c.remove-left.ensures.map
    (subst (λ (l : List Put). PutsChain master_words (viewed master_view m.master)
    (viewed master_view c.remove-left.new.self) l c.remove-left.new.set) c.requires.empty c.remove-left.ensures.put)
    m' c.changes.new.set refl c.swap_remove-directory.ensures.items refl refl c.changes.ensures.done
    c.changes.ensures.others c.changes.ensures.spells c.changes.ensures.in_range c.changes.ensures.few
