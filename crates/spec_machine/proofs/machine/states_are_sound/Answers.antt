use Rattle.spec_machine.proofs.SoundEvents.{sound_step}
use Rattle.spec_machine.proofs.SoundRuns.{started_run_sound}
use Rattle.spec_machine.proofs.machine.states_are_sound.Goals as goal

pub returns-clause-started : goal.returns-clause-started
returns-clause-started c = started_run_sound

pub returns-clause-on : goal.returns-clause-on
returns-clause-on c = sound_step
