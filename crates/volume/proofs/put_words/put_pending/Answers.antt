use Rattle.std.proofs.Common.{◌≡◌, ℕ, ◌-◌, List, length, Some, None, slice_set, sym, subst}
use Rattle.blockdisk.specs.Common.{modifies_start}
use Rattle.spec_image.specs.Common.{HasBody, splice, length_after}
use Rattle.retrieval.specs.Common.{IsOwn, IsEdgeBlock}
use Rattle.volume.specs.declared.pending.PendingVersion.{PendingVersion}
use Rattle.volume.proofs.PutWords.Memory.{same_version, now_put, regrown_same}
use Rattle.volume.proofs.put_words.put_pending.Goals as goal

pub growth-requires-clause-few : goal.growth-requires-clause-few
growth-requires-clause-few g c = (c.requires.ready c.in-Some.pending.now (sym c.in-Some.ensures.value)).few

pub returns-in_default-growth-clause-modified : goal.returns-in_default-growth-clause-modified
returns-in_default-growth-clause-modified g c h p was = modifies_start (IsOwn c.args.table.now p.version.blocks)
    (g.D.Disk.state c.args.disk.now)

pub returns-in-Some-clause-modified : goal.returns-in-Some-clause-modified
returns-in-Some-clause-modified g c h p was = modifies_start (IsOwn c.args.table.now p.version.blocks)
    (g.D.Disk.state c.args.disk.now)

pub returns-in-Some-clause-grown : goal.returns-in-Some-clause-grown
returns-in-Some-clause-grown g c p was =
    regrown_same c.args.pending.now.slots c.args.key c.in-Some.pending.now p c.in-Some.ensures.value was
    (g.D.Disk.state c.args.disk.now).size c.args.table.now (c.requires.ready p was)

pub returns-in-Ok-clause-put : goal.returns-in-Ok-clause-put
returns-in-Ok-clause-put g c p was =
    let s = g.D.Disk.state c.args.disk.now in
    let s' = g.D.Disk.state c.put_booked.new.disk in
    let slots = slice_set c.args.pending.now.slots c.args.key
    (Some (record c.in-Some.pending.now { version = c.put_booked.new.version })) in
    let same = same_version c.args.pending.now.slots c.args.key c.in-Some.pending.now p c.in-Some.ensures.value was in
    let now = now_put c.args.pending.now.slots c.args.key c.in-Some.pending.now p c.in-Some.ensures.value
    was c.put_booked.new.version in (
      c.put_booked.new.version,
      now,
      subst (λ (q : PendingVersion). c.put_booked.new.version.words
          ≡ length_after q.version.words c.args.block (length c.args.words.now)) same c.in-Ok.ensures.length,
      subst (λ (q : PendingVersion). s'.honest → (body : List ℕ) → length body ≡ q.version.words
          → HasBody s.contents q.version.blocks body
          → HasBody s'.contents c.put_booked.new.version.blocks (splice body c.args.block c.args.words.now))
          same c.in-Ok.ensures.body,
    )

pub returns-in-Ok-clause-whole : goal.returns-in-Ok-clause-whole
returns-in-Ok-clause-whole g c h p was =
    let s = g.D.Disk.state c.args.disk.now in
    let same = same_version c.args.pending.now.slots c.args.key c.in-Some.pending.now p c.in-Some.ensures.value was in
    subst (λ (q : PendingVersion). (n : ℕ)
    → IsEdgeBlock q.version.blocks q.version.words (c.args.block - 1) (length c.args.words.now) n
    → s.contents n ≡ None → ⊥) same (c.in-Ok.ensures.whole h)
