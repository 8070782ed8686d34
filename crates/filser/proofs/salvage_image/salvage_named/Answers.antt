use Rattle.std.proofs.Common.{inl, refl}
use Rattle.blockdisk.specs.Common.{held, memory_state}
use Rattle.spec_image.specs.Common.{File, Files, SettledStands, layout_number}
use Rattle.salvage.specs.Common.{copy_findings}
use Rattle.filser.proofs.SalvageLaws.{accepted_on, match_err, match_ok}
use Rattle.filser.proofs.salvage_image.salvage_named.Goals as goal

pub returns-in-Ok-saved-clause-ran : goal.returns-in-Ok-saved-clause-ran
returns-in-Ok-saved-clause-ran g c =
    let p = c.in-Ok.ensures in
    let found = c.in-Ok.found in
    let copy = c.args.copied.now.disk in
    let saved = rw c.requires.findings at c.save_survey-saved.ensures in
    inl (
      found.files.items,
      found.doubtful.items,
      found.unnamed.items,
      record {
        between = g.W.Write.contents c.save_survey-saved.new.writer;
        reached = c.ending.result;
        found = record {
          layout = layout_number found.layout;
          findings = found.findings.items;
          middle = c.survey_disk.new.disk;
          result = c.save_survey-saved.result;
          layout_is = p.layout tt;
          no_layout = p.no_layout tt;
          surveyed = p.surveyed tt;
          silent = p.silent tt;
          read = p.reads tt;
          saved = saved;
          ends = c.ending.ensures.ends;
          accepted = accepted_on memory_state c.args.task.now.export
              (copy_findings c.args.copied.now.faults) found.files.items found.doubtful.items found.unnamed.items
              found.findings.items _ _ _ _ c.save_survey-saved.result c.ending.result
              ((stored : Files File) × SettledStands (memory_state copy).size (held copy.blocks) stored)
              c.ending.ensures.ends saved (p.silent tt);
        };
        said = match_ok c.save_survey-saved.result c.in-Ok-saved.field-0 _ _ c.in-Ok-saved.is
            c.say_incomplete.ensures.said;
      },
      λ stored stands.
          let there = p.found tt stored stands in
          record { in_place = there.0; sure = there.1; alone = λ used. p.alone tt stored stands (λ is. cc) },
    )

pub returns-in-Ok-clause-ran : goal.returns-in-Ok-clause-ran
returns-in-Ok-clause-ran g c =
    let p = c.in-Ok.ensures in
    let found = c.in-Ok.found in
    let copy = c.args.copied.now.disk in
    let saved = rw c.requires.findings at c.save_survey-saved.ensures in
    inl (
      found.files.items,
      found.doubtful.items,
      found.unnamed.items,
      record {
        between = g.W.Write.contents c.save_survey-saved.new.writer;
        reached = c.ending.result;
        found = record {
          layout = layout_number found.layout;
          findings = found.findings.items;
          middle = c.survey_disk.new.disk;
          result = c.save_survey-saved.result;
          layout_is = p.layout tt;
          no_layout = p.no_layout tt;
          surveyed = p.surveyed tt;
          silent = p.silent tt;
          read = p.reads tt;
          saved = saved;
          ends = c.ending.ensures.ends;
          accepted = accepted_on memory_state c.args.task.now.export
              (copy_findings c.args.copied.now.faults) found.files.items found.doubtful.items found.unnamed.items
              found.findings.items _ _ _ _ c.save_survey-saved.result c.ending.result
              ((stored : Files File) × SettledStands (memory_state copy).size (held copy.blocks) stored)
              c.ending.ensures.ends saved (p.silent tt);
        };
        said = match_err c.save_survey-saved.result c.in-Err-saved.field-0 _ _ c.in-Err-saved.is (refl, refl);
      },
      λ stored stands.
          let there = p.found tt stored stands in
          record { in_place = there.0; sure = there.1; alone = λ used. p.alone tt stored stands (λ is. cc) },
    )
