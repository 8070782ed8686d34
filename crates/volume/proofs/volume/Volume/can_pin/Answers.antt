use Rattle.volume.proofs.volume.Volume.can_pin.Goals as goal

pub returns-clause-many : goal.returns-clause-many
returns-clause-many g c = rw (← c.self.view_is) c.have_few_readers.ensures.many
