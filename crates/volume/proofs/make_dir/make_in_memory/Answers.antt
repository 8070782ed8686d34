use Rattle.std.proofs.Common.{rules, ◌≡◌, ◌+◌, length, option_to_list, None, refl, sym, ap, subst, arith}
use Rattle.std.specs.Ordering.{nat_cmp}
use Rattle.std.specs.FinMap.Entries.{find}
use Rattle.std.proofs.lemmas.List.{length-map}
use Rattle.alloctab.specs.Common.{TableState, IsTable, used_in_space}
use Rattle.retrieval.specs.Common.{Takes, IsFixed}
use Rattle.volume.specs.Common.{master_view, memory_of, chain_growth, fresh_list, IsEntered}
use Rattle.volume.proofs.common.LiveTotals.{memory_uses, memory_used}
use Rattle.volume.proofs.common.TableBits.{whole_fixed}
use Rattle.volume.proofs.MakeDir.Entries.{count_grows, many_blocks, two_or_one, entered_for}
use Rattle.volume.proofs.common.Tables.{made_table, sound_booked, taken_free}
use Rattle.volume.proofs.make_dir.make_in_memory.Goals as goal

pub take_blocks-fresh-requires-clause-used : goal.take_blocks-fresh-requires-clause-used
take_blocks-fresh-requires-clause-used c =
    let memory = memory_of c.args.memory.now in
    let size = c.args.memory.now.table.size in
    let a = memory_used size memory c.requires.whole in
    let b = memory_uses size memory c.requires.whole in
    let same = ap used_in_space c.book.ensures in
    let booked = ap (λ (t : TableState). t.booked) c.book.ensures in
    let count = two_or_one c.from-count.result c.needs_block-grows.result c.from-count.ensures in
    omega arith

pub returns-clause-made : goal.returns-clause-made
returns-clause-made c =
    let memory = memory_of c.args.memory.now in
    let k = memory.known in
    let size = c.args.memory.now.table.size in
    let fresh = c.take_blocks-fresh.result in
    let absent : find nat_cmp c.args.ppn k.master.entries ≡ None = search rules in
    let count : length (option_to_list fresh.master) ≡ chain_growth k.master =
    count_grows c.needs_block-grows.result (length (option_to_list fresh.master))
    (length c.args.memory.now.master.entries) (length c.args.memory.now.master.blocks) k.master
    c.needs_block-grows.ensures.0 c.needs_block-grows.ensures.1 c.take_blocks-fresh.ensures.count
    (length-map c.args.memory.now.master.entries master_view) refl in
    let before = memory_of (record {
      master = c.args.memory.now.master;
      directories = c.args.memory.now.directories;
      versions = c.args.memory.now.versions;
      pending = c.args.memory.now.pending;
      table = c.take_blocks-fresh.new.table;
    }) in
    let after = memory_of (record {
      master = c.enter.new.memory.master;
      directories = c.enter.new.memory.directories;
      versions = c.enter.new.memory.versions;
      pending = c.enter.new.memory.pending;
      table = c.use_blocks.new.table;
    }) in
    let entered : IsEntered before.known (memory_of c.enter.new.memory).known c.entry_of-entry.result.ppn
    c.entry_of-entry.result.protection c.entry_of-entry.result.first (option_to_list fresh.master) c.enter.new.set =
    search rules in
    let takes : Takes c.book.new.self (fresh_list fresh) c.enter.new.memory.table = subst
    (λ (v : TableState). Takes c.book.new.self (fresh_list fresh) v)
    (sym c.enter.ensures.table) c.take_blocks-fresh.ensures.taken in
    let sound : IsTable c.book.new.self = sound_booked c.args.memory.now.table c.book.new.self _
    c.booked-booked.ensures.sound c.book.ensures in
    let many : 1 + c.from-count.result
    ≡ length (fresh_list fresh) = many_blocks c.from-count.result (length (option_to_list fresh.master))
    c.needs_block-grows.result c.take_blocks-fresh.ensures.count c.from-count.ensures in
    let table = made_table size c.args.memory.now.table c.book.new.self c.use_blocks.new.table (fresh_list fresh)
    (1 + c.from-count.result) c.enter.new.set c.use_blocks.new.set refl c.book.ensures many
    (c.use_blocks.ensures.taken c.book.new.self sound takes) (c.use_blocks.ensures.put c.book.new.self sound takes) in
    let fixed : IsFixed c.args.memory.now.table = whole_fixed size k c.requires.whole.map in
    let free = taken_free c.args.memory.now.table c.book.new.self c.enter.new.memory.table (1 + c.from-count.result)
    (fresh_list fresh) c.booked-booked.ensures.sound fixed c.book.ensures takes in
    record {
      absent = absent;
      grown = option_to_list fresh.master;
      count = count;
      inside = free.1;
      free = free.0;
      chain_puts = c.enter.new.set;
      entered = entered_for before.known (memory_of c.enter.new.memory).known k after.known
          c.args.ppn c.args.protection fresh.directory c.entry_of-entry.result.ppn c.entry_of-entry.result.protection
          c.entry_of-entry.result.first (option_to_list fresh.master) c.enter.new.set
          refl refl refl refl c.entry_of-entry.ensures.ppn c.entry_of-entry.ensures.protection
          c.entry_of-entry.ensures.first entered;
      taken = table.0;
      put = table.1;
      room =
          let can = c.can_book.ensures in
          let fits = can.0 c.if-not-can_book.false in
          let booked = table.0.booked in
          omega arith;
    }
