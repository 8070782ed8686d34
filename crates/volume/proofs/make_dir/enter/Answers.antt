use Rattle.std.proofs.Common.{◌≡◌, ℕ, [], ◌∷◌, ◌++◌, map, filter_map, ◌∙◌, ap, subst, nat_cmp}
use Rattle.directory.specs.Common.{viewed, inserted}
use Rattle.spec_image.specs.Common.{master_word}
use Rattle.volume.specs.Common.{file_view, master_view, memory_of, live_directory, known_at, bare_known}
use Rattle.volume.specs.declared.live.LiveDirectory.{LiveDirectory}
use Rattle.volume.proofs.MakeDir.Entries.{is_entered, blocks_entered, directories_more}
use Rattle.volume.proofs.make_dir.enter.Goals as goal

pub returns-clause-entered : goal.returns-clause-entered
returns-clause-entered c =
    let chain_is = c.in_ok-chain.ensures in
    let none = c.new.ensures in
    let live = c.args.memory.now.versions.slots in
    let added : LiveDirectory = record { chain = c.in_ok-chain.chain; keys = c.new.result } in
    let bare : live_directory live added ≡ bare_known c.args.entry.first = λ i.
    record { chain = viewed file_view (chain_is i); versions = filter_map (known_at live) (none i) } in
    let k = (memory_of c.args.memory.now).known in
    is_entered k (memory_of (record {
      master = c.insert.new.self;
      directories = c.push_reserved.new.self;
      versions = c.args.memory.now.versions;
      pending = c.args.memory.now.pending;
      table = c.args.memory.now.table;
    })).known
    c.args.entry.ppn c.args.entry.protection c.args.entry.first c.args.fresh c.args.set.now c.insert.new.set
    c.requires.absent c.requires.empty
    (blocks_entered k.master c.args.entry.ppn c.args.fresh c.insert.new.self.blocks c.requires.absent c.requires.count
    c.insert.ensures.kept c.in-Ok.ensures.grown)
    (subst (λ (quota : ℕ). map master_view c.insert.new.self.entries ≡ inserted nat_cmp k.master.entries
    (c.args.entry.ppn, (master_word c.args.entry.protection quota, c.args.entry.first))) c.requires.unlimited
    c.in-Ok.ensures.items) c.blocks-blocks.ensures.sound
    (directories_more (live_directory live) c.args.memory.now.directories.items c.push_reserved.new.self.items added
    c.args.entry.first (c.push_reserved.ensures.items ∙ ap (λ xs. xs ++ added ∷ []) c.reserve.ensures.items) bare)
    c.insert.ensures.put c.insert.ensures.few
