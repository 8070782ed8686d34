use Rattle.std.proofs.Common.{◌∙◌, ap, arith}
use Rattle.std.proofs.lemmas.Grind.{elements}
use Rattle.usercore.proofs.ListLaws.{prepend, none_found, all_found, too_many, count_more, areas-out, areas-past}
use Rattle.usercore.proofs.ListLaws.{areas-end, areas-go, areas-beyond, areas-more}
use Rattle.usercore.proofs.user_core.Core.dump_list.Goals as goal

pub returns-then-address-length-clause-none : goal.returns-then-address-length-clause-none
returns-then-address-length-clause-none c = none_found _ _ _ _ c.loop-looked.invariant.found
    (areas-past _ _ _ (omega arith) (omega arith))

pub returns-then-total-clause-none : goal.returns-then-total-clause-none
returns-then-total-clause-none c = too_many _ _ _ _ c.loop-looked.invariant.found
    (areas-end _ _ _ (omega arith) (omega arith) (omega arith)) (omega arith)

pub returns-else-total-clause-areas : goal.returns-else-total-clause-areas
returns-else-total-clause-areas c = all_found _ _ _ _ c.loop-looked.invariant.found
    (areas-end _ _ _ (omega arith) (omega arith) (omega arith)) (omega arith)

pub loop-looked-preserved-then-left-eq0 : goal.loop-looked-preserved-then-left-eq0
loop-looked-preserved-then-left-eq0 c =
    record {
      found = c.loop-looked.invariant.found
          ∙ ap (prepend _) (areas-go _ _ _ _ _ (omega arith) (omega arith) (omega arith) (omega arith) (omega arith));
      few = omega arith;
      counted = omega arith;
      small = omega arith;
      within = c.loop-looked.invariant.within;
      some = c.loop-looked.invariant.some;
    }

pub returns-then-first-count-clause-none : goal.returns-then-first-count-clause-none
returns-then-first-count-clause-none c = none_found _ _ _ _ c.loop-looked.invariant.found
    (areas-beyond _ _ _ (omega arith) (omega arith) (omega arith) (omega arith) (omega arith))

pub loop-looked-preserved : goal.loop-looked-preserved
loop-looked-preserved c =
    record {
      found = rw c.push.ensures.items (c.loop-looked.invariant.found
          ∙ areas-more _ _ _ _ _ _ _ (omega arith) (omega arith) (omega arith) (omega arith) (omega arith)
          (omega arith) (omega arith));
      few = omega arith;
      counted = count_more _ _ _ _ _ c.push.ensures.items c.loop-looked.invariant.counted;
      small = omega arith;
      within = grind (arith, elements, c.push.ensures.items);
      some = grind (arith, elements, c.push.ensures.items);
    }

pub returns-clause-none : goal.returns-clause-none
returns-clause-none c = none_found _ _ _ _ c.loop-looked.invariant.found (areas-out _ _ _ (omega arith))
