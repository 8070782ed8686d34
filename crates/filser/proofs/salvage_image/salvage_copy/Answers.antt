use Rattle.std.proofs.Common.{inl}
use Rattle.blockdisk.specs.Common.{held, memory_state}
use Rattle.spec_image.specs.Common.{File, Files, SettledStands, layout_number}
use Rattle.salvage.specs.Common.{copy_findings}
use Rattle.filser.proofs.SalvageLaws.{accepted_on, copy_salvaged_since}
use Rattle.filser.proofs.salvage_image.salvage_copy.Goals as goal

pub returns-in-Ok-clause-ran : goal.returns-in-Ok-clause-ran
returns-in-Ok-clause-ran g c =
    let p = c.in-Ok.ensures in
    let found = c.in-Ok.found in
    let copy = c.args.copied.now.disk in
    let saved = rw c.requires.findings at c.save_survey-saved.ensures in
    inl (
      found.files.items,
      found.doubtful.items,
      found.unnamed.items,
      inl (record {
        layout = layout_number found.layout;
        findings = found.findings.items;
        middle = c.survey_disk.new.disk;
        result = c.save_survey-saved.result;
        layout_is = p.layout tt;
        no_layout = p.no_layout tt;
        surveyed = p.surveyed tt;
        silent = p.silent tt;
        read = p.reads tt;
        saved = saved;
        ends = c.ending-status.ensures.ends;
        accepted = accepted_on memory_state c.args.task.now.export
            (copy_findings c.args.copied.now.faults) found.files.items found.doubtful.items found.unnamed.items
            found.findings.items _ _ _ _ c.save_survey-saved.result c.ending-status.result
            ((stored : Files File) × SettledStands (memory_state copy).size (held copy.blocks) stored)
            c.ending-status.ensures.ends saved (p.silent tt);
      }),
      λ stored stands.
          let there = p.found tt stored stands in
          record { in_place = there.0; sure = there.1; alone = λ used. p.alone tt stored stands used },
    )

pub returns-in-Err-NoMemory-clause-ran : goal.returns-in-Err-NoMemory-clause-ran
returns-in-Err-NoMemory-clause-ran g c =
    let p = c.in-Err-NoMemory.ensures in
    copy_salvaged_since _ _ c.args.task.now _ _ c.args.copied.now.disk
    c.survey_disk.new.disk c.salvage_part.new.copied.disk c.args.copied.now.faults p.same (p.reads tt)
    c.salvage_part.result (p.served (λ is. cc)) c.salvage_part.ensures.ran
