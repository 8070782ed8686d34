use Rattle.spec_image.proofs.Layouts.{layout_is, layouts_agree, settled_layout, stands_in_any, settled_in_its_own}
use Rattle.spec_image.proofs.laws.layouts_are_named.Goals as goal

pub returns-clause-named : goal.returns-clause-named
returns-clause-named c = layout_is

pub returns-clause-kept : goal.returns-clause-kept
returns-clause-kept c = layouts_agree

pub returns-clause-one : goal.returns-clause-one
returns-clause-one c = settled_layout

pub returns-clause-any : goal.returns-clause-any
returns-clause-any c = stands_in_any

pub returns-clause-own : goal.returns-clause-own
returns-clause-own c = settled_in_its_own
