use Rattle.std.proofs.Common.{◌≡◌, ◌⊎◌, ◌+◌, ◌≤◌, List, length, sym, ◌∙◌, ap, subst}
use Rattle.std.specs.List.{AllByRecursion}
use Rattle.spec_image.specs.declared.put.Put.{Put}
use Rattle.spec_image.specs.Common.{with_puts, targets, IsTarget, table_start}
use Rattle.changeset.specs.Common.{IsPutIn}
use Rattle.alloctab.specs.Common.{TableState, IsTable, bit, changed_blocks, word_bit, SpellsTable, IsChangedBlock}
use Rattle.alloctab.proofs.ChangeLaws.{table_changes, table_changes_are, put_changes, others_changes, targets_changes}
use Rattle.alloctab.proofs.ChangeLaws.{few_changes, in_range_changes, spells_changes}
use Rattle.alloctab.proofs.MemoryLaws.{sound as kept_sound, bits_are}
use Rattle.alloctab.proofs.table.Table.changes.Goals as goal

puts_are : (c : goal.After-fill) → c.put_changed.new.set ≡ table_changes c.args.self.now c.args.set.now
puts_are c = table_changes_are c.args.self.now c.args.set.now c.put_changed.new.set c.table_start.result
    (word_bit c.deref.result.now) c.deref-2.result.now
    (c.table_start.ensures ∙ ap (λ (t : TableState). table_start t.size) c.self.view_is)
    (ap word_bit c.deref.ensures.value
    ∙ bits_are _ _ _ _ _ _ c.self.invariant c.self.inside.booked ∙ ap bit c.self.view_is)
    (c.deref-2.ensures.value ∙ ap (λ (t : TableState). t.changed) c.self.view_is)
    c.put_changed.ensures

sound : (c : goal.After-fill) → IsTable c.args.self.now
sound c = subst IsTable c.self.view_is (kept_sound _ _ _ _ _ _ c.self.invariant c.self.inside.booked)

pub returns-clause-put : goal.returns-clause-put
returns-clause-put c d i is = ap (λ (l : List Put). with_puts l d (table_start c.args.self.now.size + i)) (puts_are c)
    ∙ put_changes c.args.self.now c.args.set.now d i is

pub returns-clause-others : goal.returns-clause-others
returns-clause-others c d n none = ap (λ (l : List Put). with_puts l d n) (puts_are c)
    ∙ others_changes c.args.self.now c.args.set.now d n none

pub returns-clause-targets : goal.returns-clause-targets
returns-clause-targets c n = subst (λ (l : List Put). (IsPutIn l n → IsPutIn c.args.set.now n
    ⊎ IsChangedBlock c.args.self.now n) × (IsPutIn c.args.set.now n ⊎ IsChangedBlock c.args.self.now n → IsPutIn l n))
    (sym (puts_are c)) (targets_changes c.args.self.now c.args.set.now n)

pub returns-clause-few : goal.returns-clause-few
returns-clause-few c = subst (λ (l : List Put). length l ≤ length c.args.set.now + changed_blocks c.args.self.now)
    (sym (puts_are c)) (few_changes c.args.self.now c.args.set.now)

pub returns-clause-in_range : goal.returns-clause-in_range
returns-clause-in_range c all = subst (λ (l : List Put). AllByRecursion (IsTarget c.args.self.now.size) (targets l))
    (sym (puts_are c)) (in_range_changes c.args.self.now c.args.set.now (sound c) all)

pub returns-clause-spells : goal.returns-clause-spells
returns-clause-spells c d = subst (λ (l : List Put). SpellsTable c.args.self.now (with_puts c.args.set.now d)
    (with_puts l d)) (sym (puts_are c)) (spells_changes c.args.self.now c.args.set.now (sound c) d)
