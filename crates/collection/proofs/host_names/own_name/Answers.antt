use Rattle.std.proofs.Common.{map, option_map, subst}
use Rattle.spec_language.specs.Common.{upper}
use Rattle.commands.specs.Common.{IsFileName}
use Rattle.collection.specs.Common.{IsOwnText}
use Rattle.collection.proofs.NameLaws.{none_then, one_text}
use Rattle.collection.proofs.host_names.own_name.Goals as goal

pub returns-in-Some-clause-none : goal.returns-in-Some-clause-none
returns-in-Some-clause-none c = none_then c.spelled.result (λ none text file is named. none file
    (subst (λ t. IsFileName (map upper t) file.name file.ext)
    (one_text _ text c.in-Some.text.items is
    (subst (λ o. IsOwnText c.args.path.now (option_map (λ v. v.items) o)) c.in-Some.is c.in_ok-text.ensures)) named))
    c.spelled.ensures.none
