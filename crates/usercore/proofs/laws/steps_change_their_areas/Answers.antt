use Rattle.usercore.proofs.AreaLaws.{dealt_within, setup_within, after_in_within, after_out_within}
use Rattle.usercore.proofs.laws.steps_change_their_areas.Goals as goal

pub returns-clause-dealt : goal.returns-clause-dealt
returns-clause-dealt c = dealt_within

pub returns-clause-set_up : goal.returns-clause-set_up
returns-clause-set_up c = setup_within

pub returns-clause-filled : goal.returns-clause-filled
returns-clause-filled c = after_in_within

pub returns-clause-emptied : goal.returns-clause-emptied
returns-clause-emptied c = after_out_within
