use Rattle.monitor.specs.Common.{areas_named}
use Rattle.monitor.proofs.CoreAreas.Words.{parts, lookup_words, ring_words_set_up, ring_words_there}
use Rattle.monitor.proofs.changed_laws.areas_have_these_words.Goals as goal

pub returns-clause-parts : goal.returns-clause-parts
returns-clause-parts c = λ job call. parts job.core (areas_named job call)

pub returns-clause-looked_up : goal.returns-clause-looked_up
returns-clause-looked_up c = lookup_words

pub returns-clause-next : goal.returns-clause-next
returns-clause-next c = ring_words_there

pub returns-clause-first : goal.returns-clause-first
returns-clause-first c = ring_words_set_up
