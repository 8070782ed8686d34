use Rattle.std.proofs.Common.{ℕ, List, Some, IfNone, map, subst, sym, ◌∙◌}
use Rattle.words36.specs.declared.names.FileName.{FileName}
use Rattle.spec_language.specs.Common.{upper}
use Rattle.commands.specs.Common.{IsFileName}
use Rattle.collection.specs.Common.{IsOwnText}
use Rattle.collection.proofs.NameLaws.{no_name, ok_none_then}
use Rattle.directory.proofs.FoundEntries.{true_false}
use Rattle.collection.proofs.host_names.name_for.Goals as goal

pub returns-in-None-clause-none : goal.returns-in-None-clause-none
returns-in-None-clause-none c = ok_none_then c.short_name.result
    (λ short. no_name c.args.shortens c.args.path.now
    (subst (λ o. IfNone o ((text : List ℕ) (file : FileName) → IsOwnText c.args.path.now (Some text)
    → IsFileName (map upper text) file.name file.ext → ⊥)) c.in-None.is c.in_ok-named.ensures.none)
    (λ wanted. short)) c.short_name.ensures.none

pub returns-in-None-2-clause-none : goal.returns-in-None-2-clause-none
returns-in-None-2-clause-none c = no_name c.args.shortens c.args.path.now
    (subst (λ o. IfNone o ((text : List ℕ) (file : FileName) → IsOwnText c.args.path.now (Some text)
    → IsFileName (map upper text) file.name file.ext → ⊥)) c.in-None.is c.in_ok-named.ensures.none)
    (λ wanted. absurd (true_false (sym wanted ∙ c.if-shortens.false)))
