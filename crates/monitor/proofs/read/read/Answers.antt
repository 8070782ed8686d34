use Rattle.std.proofs.Common.{rules, ◌≡◌, ◌<◌, ◌+◌, ◌-◌, ◌^◌, length, min, replicate, Some, refl, sym, ap, subst, ◌∙◌}
use Rattle.std.proofs.Common.{arith, slice_set}
use Rattle.std.proofs.lemmas.List.{length-replicate}
use Rattle.spec_machine.specs.Common.{cleared, end_of_file}
use Rattle.spec_image.specs.Common.{block_start, words_from}
use Rattle.spec_machine.specs.declared.call.Reply.TheVariants.{Done}
use Rattle.volume.specs.Common.{version_under, IsReadable}
use Rattle.monitor.specs.Common.{handle_read, asked_at, IsIn, KeepsReading}
use Rattle.monitor.specs.declared.read_in.ReadIn.TheVariants.{Moved, AtEnd, NoMemory, Device}
use Rattle.monitor.proofs.ReadIn.AskedWords.{few_asked}
use Rattle.monitor.proofs.ReadIn.Inputs.{version_there}
use Rattle.monitor.proofs.ReadIn.Words.{is_readable, few_words, words_left, read_fits, is_asked, in_reads}
use Rattle.monitor.proofs.read.read.Goals as goal

pub read_in-requires-clause-live : goal.read_in-requires-clause-live
read_in-requires-clause-live g c =
    subst (IsReadable c.args.volume.now.map) (sym c.handle_read-handle.ensures)
    (is_readable c.args.volume.now.map c.args.job.now c.args.number c.in-Some.channel (sym c.channel.ensures
    ∙ c.in-Some.is) c.in-Some-side.input c.in-Some-side.is c.requires.held c.requires.live)

pub read_on-requires-clause-fits : goal.read_on-requires-clause-fits
read_on-requires-clause-fits g c =
    let i = c.in-Some-side.input in
    let n = c.in-Moved.count in
    let found = version_there c.args.volume.now.map (handle_read c.in-Some.channel.output i)
    (is_readable c.args.volume.now.map c.args.job.now c.args.number c.in-Some.channel (sym c.channel.ensures
    ∙ c.in-Some.is) i c.in-Some-side.is c.requires.held c.requires.live) in
    let at = ap (version_under c.args.volume.now.map) c.handle_read-handle.ensures ∙ found.1 in
    let asked = is_asked c.read_in.result (Moved n)
    (asked_at c.args.job.now.core c.in-Some.channel c.args.address) c.in-Moved.is (λ e. cc e)
    c.read_in.ensures.checked in
    let words = found.0.words in
    let many : n ≡ min asked.0.count (length (words_from (replicate words 0) i.next)) = c.read_in.ensures.number
    found.0 at (replicate words 0) (length-replicate words 0) asked.0 asked.1 n c.in-Moved.is in
    let left : length (words_from (replicate words 0) i.next) ≡ words - block_start i.next = words_left words i.next in
    let first : 0 < i.next = search rules in
    let small : i.next < 2 ^ 32 = search rules in
    read_fits words i.next n first small
    (few_words (g.D.Disk.state c.args.volume.now.disk).size c.args.volume.now.map
    (handle_read c.in-Some.channel.output i) c.requires.sound.whole found.0 found.1)
    (omega (arith, many, left))

pub read_on-requires-clause-few : goal.read_on-requires-clause-few
read_on-requires-clause-few g c =
    let n = c.in-Moved.count in
    let asked = is_asked c.read_in.result (Moved n)
    (asked_at c.args.job.now.core c.in-Some.channel c.args.address) c.in-Moved.is (λ e. cc e)
    c.read_in.ensures.checked in
    omega (
      arith,
      c.read_in.ensures.few asked.0 asked.1 n c.in-Moved.is,
      few_asked c.args.job.now.core c.in-Some.channel c.args.address asked.0 asked.1,
    )

pub returns-in-Moved-clause-outcome : goal.returns-in-Moved-clause-outcome
returns-in-Moved-clause-outcome g c =
    let n = c.in-Moved.count in
    let asked = is_asked c.read_in.result (Moved n)
    (asked_at c.args.job.now.core c.in-Some.channel c.args.address) c.in-Moved.is (λ e. cc e)
    c.read_in.ensures.checked in (
      record {
        at = record {
          channel = c.in-Some.channel;
          there = sym c.channel.ensures ∙ c.in-Some.is;
          input = c.in-Some-side.input;
          side = c.in-Some-side.is;
          has = sym c.lacks_header.ensures ∙ c.if-lacks_header.false;
        };
        asked = asked.0;
        found = asked.1;
      },
      n,
      c.read_in.new.core,
      c.set_channel.ensures ∙ ap (λ x. record c.args.job.now {
        core = c.read_in.new.core;
        channels = slice_set c.args.job.now.channels c.args.number (Some x);
      }) c.read_on.ensures,
      record {
        some = λ none. c.read_in.ensures.named (c.in-Moved.is ∙ ap Moved none) asked.0 asked.1;
        many = λ v at body long. c.read_in.ensures.number v (ap (version_under c.args.volume.now.map)
            c.handle_read-handle.ensures ∙ at) body long asked.0 asked.1 n c.in-Moved.is;
        words = λ honest v at body long has. c.read_in.ensures.moved honest v (ap (version_under c.args.volume.now.map)
            c.handle_read-handle.ensures ∙ at) body long has asked.0 asked.1 n c.in-Moved.is;
      },
    )

pub returns-in-Moved-clause-reads : goal.returns-in-Moved-clause-reads
returns-in-Moved-clause-reads g c =
    subst (λ m. KeepsReading c.args.volume.now.map.live m.live c.args.job.now c.set_channel.new.self)
    (sym c.read_in.ensures.left.volume)
    (in_reads (g.D.Disk.state c.args.volume.now.disk) (g.D.Disk.state c.read_in.new.volume.disk) c.args.volume.now.map
    c.args.job.now c.set_channel.new.self c.args.number c.args.address Done
    (returns-in-Moved-clause-outcome g c) c.args.volume.now.map.live)

pub returns-in-AtEnd-clause-outcome : goal.returns-in-AtEnd-clause-outcome
returns-in-AtEnd-clause-outcome g c =
    let asked = is_asked c.read_in.result AtEnd (asked_at c.args.job.now.core c.in-Some.channel c.args.address)
    c.in-AtEnd.is (λ e. cc e) c.read_in.ensures.checked in
    let status = cleared c.in-Some.channel.status + end_of_file in
    subst (IsIn (g.D.Disk.state c.args.volume.now.disk) (g.D.Disk.state c.read_in.new.volume.disk)
    c.args.volume.now.map c.args.job.now c.stop.new.job c.args.number c.args.address) (sym c.stop.ensures.answered) (
      record {
        at = record {
          channel = c.in-Some.channel;
          there = sym c.channel.ensures ∙ c.in-Some.is;
          input = c.in-Some-side.input;
          side = c.in-Some-side.is;
          has = sym c.lacks_header.ensures ∙ c.if-lacks_header.false;
        };
        asked = asked.0;
        found = asked.1;
      },
      refl,
      c.stop.ensures.kept
          ∙ ap (λ ws. record c.args.job.now {
            core = ws;
            channels = slice_set c.args.job.now.channels c.args.number
                (Some (record c.in-Some.channel { status = status }));
          }) (c.read_in.ensures.left.kept (λ n some is. let wrong = sym c.in-AtEnd.is ∙ is in cc wrong)),
      λ v at body long. c.read_in.ensures.at_end v (ap (version_under c.args.volume.now.map)
          c.handle_read-handle.ensures ∙ at) body long asked.0 asked.1 c.in-AtEnd.is,
    )

pub returns-in-AtEnd-clause-reads : goal.returns-in-AtEnd-clause-reads
returns-in-AtEnd-clause-reads g c =
    subst (λ m. KeepsReading c.args.volume.now.map.live m.live c.args.job.now c.stop.new.job)
    (sym c.read_in.ensures.left.volume)
    (in_reads (g.D.Disk.state c.args.volume.now.disk) (g.D.Disk.state c.read_in.new.volume.disk) c.args.volume.now.map
    c.args.job.now c.stop.new.job c.args.number c.args.address c.stop.result
    (returns-in-AtEnd-clause-outcome g c) c.args.volume.now.map.live)

pub returns-in-AddressCheck-clause-outcome : goal.returns-in-AddressCheck-clause-outcome
returns-in-AddressCheck-clause-outcome g c = (
  ap (λ ws. record c.args.job.now { core = ws }) (c.read_in.ensures.left.kept (λ n some is.
      let wrong = sym c.in-AddressCheck.is ∙ is in cc wrong)),
  record {
    channel = c.in-Some.channel;
    there = sym c.channel.ensures ∙ c.in-Some.is;
    input = c.in-Some-side.input;
    side = c.in-Some-side.is;
    has = sym c.lacks_header.ensures ∙ c.if-lacks_header.false;
  },
  c.read_in.ensures.checked.0 c.in-AddressCheck.is,
)

pub returns-in-NoMemory-clause-outcome : goal.returns-in-NoMemory-clause-outcome
returns-in-NoMemory-clause-outcome g c =
    let asked = is_asked c.read_in.result NoMemory (asked_at c.args.job.now.core c.in-Some.channel c.args.address)
    c.in-NoMemory.is (λ e. cc e) c.read_in.ensures.checked in (
      ap (λ ws. record c.args.job.now { core = ws }) (c.read_in.ensures.left.kept (λ n some is.
          let wrong = sym c.in-NoMemory.is ∙ is in cc wrong)),
      record {
        at = record {
          channel = c.in-Some.channel;
          there = sym c.channel.ensures ∙ c.in-Some.is;
          input = c.in-Some-side.input;
          side = c.in-Some-side.is;
          has = sym c.lacks_header.ensures ∙ c.if-lacks_header.false;
        };
        asked = asked.0;
        found = asked.1;
      },
    )

pub returns-in-Device-clause-outcome : goal.returns-in-Device-clause-outcome
returns-in-Device-clause-outcome g c =
    let asked = is_asked c.read_in.result Device (asked_at c.args.job.now.core c.in-Some.channel c.args.address)
    c.in-Device.is (λ e. cc e) c.read_in.ensures.checked in (
      ap (λ ws. record c.args.job.now { core = ws }) (c.read_in.ensures.left.kept (λ n some is.
          let wrong = sym c.in-Device.is ∙ is in cc wrong)),
      record {
        at = record {
          channel = c.in-Some.channel;
          there = sym c.channel.ensures ∙ c.in-Some.is;
          input = c.in-Some-side.input;
          side = c.in-Some-side.is;
          has = sym c.lacks_header.ensures ∙ c.if-lacks_header.false;
        };
        asked = asked.0;
        found = asked.1;
      },
    )
