use Rattle.std.proofs.Common.{IsSome, subst, sym}
use Rattle.volume.specs.Common.{pending_at, memory_of}
use Rattle.volume.proofs.common.SoundVolumes.{still_serves, volume_goes_on}
use Rattle.volume.proofs.volume.Volume.put_words.Goals as goal

pub put_in_memory-requires-clause-live : goal.put_in_memory-requires-clause-live
put_in_memory-requires-clause-live g c = subst (λ m. IsSome (pending_at m.map.pending c.args.pending.key))
    (sym c.self.view_is) c.requires.live

pub invariant_of-self : goal.invariant_of-self
invariant_of-self g c =
    let s = g.D.Disk.state c.self.inside.disk in
    let s' = g.D.Disk.state c.put_in_memory.new.disk in
    let ensures = c.put_in_memory.ensures in
    volume_goes_on s s' (memory_of c.self.inside.map) (memory_of c.put_in_memory.new.map) c.self.inside.failed
    c.put_in_memory.new.failed c.self.inside.layout c.self.invariant ensures.sound ensures.answer.same.size
    ensures.answer.same.was_honest
    (still_serves c.put_in_memory.result c.self.inside.failed c.put_in_memory.new.failed ensures.answer.device
    ensures.answer.ended ensures.answer.still) (λ h ok. ensures.home_blocks h)

pub returns-clause-quiet : goal.returns-clause-quiet
returns-clause-quiet g c = rw (← c.self.view_is) c.put_in_memory.ensures.quiet

pub returns-clause-rests : goal.returns-clause-rests
returns-clause-rests g c = rw (← c.self.view_is) c.put_in_memory.ensures.rests

pub returns-clause-put : goal.returns-clause-put
returns-clause-put g c = rw (← c.self.view_is) c.put_in_memory.ensures.put

pub returns-clause-nothing : goal.returns-clause-nothing
returns-clause-nothing g c = rw (← c.self.view_is) c.put_in_memory.ensures.nothing

pub returns-clause-stays : goal.returns-clause-stays
returns-clause-stays g c = c.put_in_memory.ensures.stays

pub returns-clause-others : goal.returns-clause-others
returns-clause-others g c = rw (← c.self.view_is) c.put_in_memory.ensures.others

pub returns-clause-live : goal.returns-clause-live
returns-clause-live g c = rw (← c.self.view_is) c.put_in_memory.ensures.live

pub returns-clause-keys : goal.returns-clause-keys
returns-clause-keys g c = rw (← c.self.view_is) c.put_in_memory.ensures.keys

pub returns-clause-known : goal.returns-clause-known
returns-clause-known g c = rw (← c.self.view_is) c.put_in_memory.ensures.known

pub returns-clause-kept : goal.returns-clause-kept
returns-clause-kept g c = rw (← c.self.view_is) c.put_in_memory.ensures.kept

pub returns-clause-readers : goal.returns-clause-readers
returns-clause-readers g c = rw (← c.self.view_is) c.put_in_memory.ensures.readers

pub returns-clause-writers : goal.returns-clause-writers
returns-clause-writers g c = rw (← c.self.view_is) c.put_in_memory.ensures.writers

pub returns-clause-failed : goal.returns-clause-failed
returns-clause-failed g c = rw (← c.self.view_is) c.put_in_memory.ensures.failed

pub returns-clause-broken : goal.returns-clause-broken
returns-clause-broken g c = rw (← c.self.view_is) c.put_in_memory.ensures.broken

pub returns-clause-given_up : goal.returns-clause-given_up
returns-clause-given_up g c = rw (← c.self.view_is) c.put_in_memory.ensures.given_up

pub returns-clause-room : goal.returns-clause-room
returns-clause-room g c = rw (← c.self.view_is) c.put_in_memory.ensures.room

pub returns-clause-codes : goal.returns-clause-codes
returns-clause-codes g c = c.put_in_memory.ensures.codes

pub returns-clause-refused : goal.returns-clause-refused
returns-clause-refused g c = rw (← c.self.view_is) c.put_in_memory.ensures.refused

pub returns-clause-memory : goal.returns-clause-memory
returns-clause-memory g c = rw (← c.self.view_is) c.put_in_memory.ensures.memory

pub returns-clause-answer : goal.returns-clause-answer
returns-clause-answer g c = rw (← c.self.view_is) c.put_in_memory.ensures.answer

pub returns-clause-homes : goal.returns-clause-homes
returns-clause-homes g c = rw (← c.self.view_is) c.put_in_memory.ensures.homes

pub returns-clause-home_blocks : goal.returns-clause-home_blocks
returns-clause-home_blocks g c = rw (← c.self.view_is) c.put_in_memory.ensures.home_blocks

pub returns-clause-whole : goal.returns-clause-whole
returns-clause-whole g c = rw (← c.self.view_is) c.put_in_memory.ensures.whole
