use Rattle.collection.proofs.host_names.spelled.Goals as goal

pub returns-clause-none : goal.returns-clause-none
returns-clause-none c file p = c.in-None.ensures.none file.name file.ext (rw c.deref.ensures.value p)
