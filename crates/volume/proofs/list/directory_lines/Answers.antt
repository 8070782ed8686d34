use Rattle.std.proofs.Common.{◌≡◌, List, map, Some, sym, ap, subst, ◌∙◌}
use Rattle.std.specs.List.{AllByRecursion}
use Rattle.std.specs.FinMap.Entries.{find}
use Rattle.spec_image.specs.Common.{SpecFileEntry, name_cmp}
use Rattle.volume.specs.Common.{file_view, live_directory}
use Rattle.volume.proofs.common.Lookups.{viewed_at}
use Rattle.volume.proofs.common.DirectoryLists.{sorted_there, line_more}
use Rattle.volume.proofs.list.directory_lines.Goals as goal

pub push_line-requires-clause-there : goal.push_line-requires-clause-there
push_line-requires-clause-there c =
    let es : List SpecFileEntry = map file_view c.args.directory.now.chain.entries in
    viewed_at file_view c.as_slice-names.result.now c.loop-entry.entry-index c.entry-item.result c.loop-entry-test.true
    c.entry-item.is (λ (e : SpecFileEntry). find name_cmp e.0 es ≡ Some e.1)
    (subst (AllByRecursion (λ (e : SpecFileEntry). find name_cmp e.0 es ≡ Some e.1))
    (sym (ap (map file_view) c.as_slice-names.ensures.value ∙ c.in-Ok.ensures)) (sorted_there es))

pub loop-entry-preserved : goal.loop-entry-preserved
loop-entry-preserved c =
    line_more (live_directory c.args.versions.now.slots c.args.directory.now) file_view c.as_slice-names.result.now
    c.loop-entry.entry-index c.entry-item.result c.loop-entry.lines.items c.push_line.new.lines.items
    c.loop-entry-test.true c.entry-item.is
    c.loop-entry.invariant c.in_ok-push_line.ensures.ok
