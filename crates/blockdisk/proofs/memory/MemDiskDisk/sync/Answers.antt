use Rattle.std.proofs.Common.{◌≡◌, ℕ, ◌<◌, Bool, false, List, [], ◌∷◌, ◌++◌, length, replicate, vec_len, sym, ◌∙◌, ap}
use Rattle.std.proofs.Common.{subst, arith}
use Rattle.blockdisk.specs.Common.{Syncs, Memory, memory_state, IsReplayed}
use Rattle.std.proofs.lemmas.List.{length-replicate}
use Rattle.blockdisk.specs.declared.memory.DiskCall.{DiskCall}
use Rattle.blockdisk.specs.declared.memory.DiskCall.TheVariants.{Sync}
use Rattle.blockdisk.proofs.Record.{syncs_synced, replayed_synced}
use Rattle.blockdisk.proofs.memory.MemDiskDisk.sync.Goals as goal

pub invariant_of-self-2 : goal.invariant_of-self-2
invariant_of-self-2 c =
    let m : Memory = record {
      blocks = c.self.inside.blocks.items;
      first = c.self.inside.first.items;
      calls = c.self.inside.calls.items;
      opened = c.self.inside.opened.items;
      room = c.self.inside.room;
      failures = c.self.inside.failures;
    } in
    let long : vec_len c.self.inside.opened ≡ length m.opened = omega (arith, c.self.inside.opened.ok) in
    let filled : c.fill.new.self.items ≡ replicate (length m.opened) false = c.fill.ensures.items (λ y same. same)
    ∙ ap (λ (k : ℕ). replicate k false) long in
    let room : length m.calls < m.room = omega arith in (
      omega (arith, c.in-Ok.ensures.capacity),
      λ set. filled ∙ ap (λ (k : ℕ). replicate k false) (sym (ap (λ (opened : List Bool). length opened) filled
          ∙ length-replicate (length m.opened) false)),
      subst (λ (calls : List DiskCall). IsReplayed (record m { calls = calls; opened = c.fill.new.self.items }))
          (sym c.in-Ok.ensures.items)
          (subst (λ (opened : List Bool). IsReplayed (record m { calls = m.calls ++ Sync ∷ []; opened = opened }))
          (sym filled) (replayed_synced m c.self.invariant.2 room)),
    )

pub returns-clause-syncs : goal.returns-clause-syncs
returns-clause-syncs c =
    let m : Memory = record {
      blocks = c.self.inside.blocks.items;
      first = c.self.inside.first.items;
      calls = c.self.inside.calls.items;
      opened = c.self.inside.opened.items;
      room = c.self.inside.room;
      failures = c.self.inside.failures;
    } in
    let view : m ≡ c.args.self.now = c.self.view_is in
    let long : vec_len c.self.inside.opened ≡ length m.opened = omega (arith, c.self.inside.opened.ok) in
    let filled : c.fill.new.self.items ≡ replicate (length m.opened) false = c.fill.ensures.items (λ y same. same)
    ∙ ap (λ (k : ℕ). replicate k false) long in
    let room : length m.calls < m.room = omega arith in
    subst (λ (calls : List DiskCall). Syncs (memory_state c.args.self.now)
    (memory_state (record m { calls = calls; opened = c.fill.new.self.items }))) (sym c.in-Ok.ensures.items)
    (subst (λ (opened : List Bool). Syncs (memory_state c.args.self.now)
    (memory_state (record m { calls = m.calls ++ Sync ∷ []; opened = opened }))) (sym filled)
    (subst (λ (w : Memory). Syncs (memory_state w)
    (memory_state (record m { calls = m.calls ++ Sync ∷ []; opened = replicate (length m.opened) false }))) view
    (syncs_synced m c.self.invariant.2 room)))
