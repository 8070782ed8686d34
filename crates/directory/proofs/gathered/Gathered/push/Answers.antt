use Rattle.std.proofs.Common.{map, sym, ◌∙◌}
use Rattle.std.specs.Map.{lookup}
use Rattle.std.specs.BTreeMap.{is_at}
use Rattle.std.specs.FinMap.Entries.{find}
use Rattle.directory.proofs.GatheredEntries.{gathered_none, gathered_some, pushed_gathered, some_of, none_of}
use Rattle.directory.proofs.gathered.Gathered.push.Goals as goal

pub returns-then-contains_key-clause-again : goal.returns-then-contains_key-clause-again
returns-then-contains_key-clause-again g c is none =
    let view = g.E.ChainEntry.view in
    let fs = c.self.inside.places.entries in
    let found = some_of (lookup (is_at (g.E.Key.Ord.cmp c.key-key.result)) fs)
    (sym c.contains_key.ensures ∙ c.if-contains_key.true) in
    gathered_some g.met.E.ChainEntry.total g.met.E.ChainEntry.exact g.met.E.ChainEntry.keyed
    (map view c.self.inside.list.items) fs
    c.self.invariant.0 c.key-key.result found.0 found.1
    ((λ j. find g.E.ChainEntry.order (c.key-key.ensures j) (map view (c.self.view_is j))) ∙ none)

pub invariant_of-self : goal.invariant_of-self
invariant_of-self g c = (
  pushed_gathered g.met.E.ChainEntry.total g.met.E.ChainEntry.exact g.met.E.ChainEntry.keyed g.E.ChainEntry.view
      c.self.inside.list.items
      c.args.entry c.key-key.result c.len-place.result c.self.inside.places.entries c.key-key.ensures
      (c.len-place.ensures ∙ c.self.inside.list.ok.0) c.self.invariant.0 c.insert.ensures.was_ordered
      (none_of (lookup (is_at (g.E.Key.Ord.cmp c.key-key.result)) c.self.inside.places.entries)
      (sym c.contains_key.ensures ∙ c.if-contains_key.false)) c.push_into.new.list.items c.push_into.ensures.items
      c.insert.new.self.entries c.in-Ok.ensures.entries,
  c.push_into.ensures.places,
)

pub returns-in-Ok-clause-absent : goal.returns-in-Ok-clause-absent
returns-in-Ok-clause-absent g c =
    let view = g.E.ChainEntry.view in
    let fs = c.self.inside.places.entries in
    sym (λ j. find g.E.ChainEntry.order (c.key-key.ensures j) (map view (c.self.view_is j)))
    ∙ gathered_none g.met.E.ChainEntry.total g.met.E.ChainEntry.exact g.met.E.ChainEntry.keyed
    (map view c.self.inside.list.items) fs
    c.self.invariant.0 c.insert.ensures.was_ordered c.key-key.result
    (none_of (lookup (is_at (g.E.Key.Ord.cmp c.key-key.result)) fs)
    (sym c.contains_key.ensures ∙ c.if-contains_key.false))
