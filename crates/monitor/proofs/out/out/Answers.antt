use Rattle.std.proofs.Common.{rules, ℕ, ◌≡◌, ◌*◌, ◌<◌, ◌≤◌, ◌^◌, length, Some, Err, refl, sym, ap, subst, ◌∙◌, inl}
use Rattle.std.proofs.Common.{arith, slice_set}
use Rattle.std.proofs.lemmas.Bool.{both_ways}
use Rattle.spec_image.specs.Common.{most_blocks, length_after}
use Rattle.spec_image.specs.declared.code.ErrorCode.TheVariants.{NoRoom}
use Rattle.volume.specs.declared.error.CallError.TheVariants.{Refused}
use Rattle.volume.specs.Common.{MemoryMap}
use Rattle.monitor.specs.Common.{moved, IsBarred, IsOut, KeepsSides}
use Rattle.monitor.proofs.common.CallRows.{keeps_same}
use Rattle.monitor.proofs.WriteOut.Outgoings.{Found, at_output, goes_out, has_outgoing}
use Rattle.monitor.proofs.WriteOut.Outs.{version_there, version_live, its_side, next_fits, not_refused, keeps_put}
use Rattle.monitor.proofs.WriteOut.Outs.{barred_none, finds_place, lacks_room, reads_status, reads_moved}
use Rattle.monitor.proofs.OtherCalls.Usetos.{keeps_status}
use Rattle.monitor.proofs.out.out.Goals as goal

pub returns-in_default-clause-keeps : goal.returns-in_default-clause-keeps
returns-in_default-clause-keeps g c alive = keeps_same c.args.volume.now.map.pending c.args.job.now

pub returns-in_default-output-clause-keeps : goal.returns-in_default-output-clause-keeps
returns-in_default-output-clause-keeps g c alive = keeps_same c.args.volume.now.map.pending c.args.job.now

pub returns-then-lacks_header-clause-keeps : goal.returns-then-lacks_header-clause-keeps
returns-then-lacks_header-clause-keeps g c alive = keeps_same c.args.volume.now.map.pending c.args.job.now

pub returns-in-Err-AddressCheck-clause-outcome : goal.returns-in-Err-AddressCheck-clause-outcome
returns-in-Err-AddressCheck-clause-outcome g c = (
  refl,
  (refl, refl),
  at_output c.args.job.now c.args.number c.in-Some.channel
      (sym c.channel.ensures ∙ c.in-Some.is) c.in-Some-output.output c.in-Some-output.is
      (sym c.lacks_header.ensures ∙ c.if-lacks_header.false),
  c.words_at.ensures.none (c.in-Err-AddressCheck.is ∙ ap Err c.in-Err-AddressCheck.field-0-is),
)

pub returns-in-Err-NoMemory-clause-outcome : goal.returns-in-Err-NoMemory-clause-outcome
returns-in-Err-NoMemory-clause-outcome g c = (
  refl,
  (refl, refl),
  record {
    at = at_output c.args.job.now c.args.number c.in-Some.channel
        (sym c.channel.ensures ∙ c.in-Some.is) c.in-Some-output.output c.in-Some-output.is
        (sym c.lacks_header.ensures ∙ c.if-lacks_header.false);
    found = c.words_at.ensures.some (c.in-Err-NoMemory.is ∙ ap Err c.in-Err-NoMemory.field-0-is);
  },
)

pub returns-in-Err-NoMemory-put_words-clause-outcome : goal.returns-in-Err-NoMemory-put_words-clause-outcome
returns-in-Err-NoMemory-put_words-clause-outcome g c = (
  refl,
  c.put_words.ensures.memory (c.in-Err-NoMemory-put_words.is ∙ ap Err c.in-Err-NoMemory-put_words.field-0-is),
  has_outgoing c.args.job.now c.args.number c.args.address (at_output c.args.job.now c.args.number c.in-Some.channel
      (sym c.channel.ensures ∙ c.in-Some.is) c.in-Some-output.output c.in-Some-output.is
      (sym c.lacks_header.ensures ∙ c.if-lacks_header.false))
      c.in-Ok.words.items c.in-Ok.ensures.words,
)

pub returns-in-Err-Device-clause-outcome : goal.returns-in-Err-Device-clause-outcome
returns-in-Err-Device-clause-outcome g c = (
  refl,
  has_outgoing c.args.job.now c.args.number c.args.address (at_output c.args.job.now c.args.number c.in-Some.channel
      (sym c.channel.ensures ∙ c.in-Some.is) c.in-Some-output.output c.in-Some-output.is
      (sym c.lacks_header.ensures ∙ c.if-lacks_header.false))
      c.in-Ok.words.items c.in-Ok.ensures.words,
)

pub returns-in-Err-AddressCheck-clause-keeps : goal.returns-in-Err-AddressCheck-clause-keeps
returns-in-Err-AddressCheck-clause-keeps g c alive = keeps_same c.args.volume.now.map.pending c.args.job.now

pub returns-in-Err-NoMemory-clause-keeps : goal.returns-in-Err-NoMemory-clause-keeps
returns-in-Err-NoMemory-clause-keeps g c alive = keeps_same c.args.volume.now.map.pending c.args.job.now

pub put_words-requires-clause-live : goal.put_words-requires-clause-live
put_words-requires-clause-live g c =
    version_live c.args.volume.now.map.pending c.args.job.now c.args.number c.in-Some.channel
    (sym c.channel.ensures ∙ c.in-Some.is) c.in-Some-output.output c.in-Some-output.is c.requires.live

pub put_words-requires-clause-first : goal.put_words-requires-clause-first
put_words-requires-clause-first g c =
    (its_side c.args.volume.now.map.pending c.args.job.now c.args.number c.in-Some.channel
    (sym c.channel.ensures ∙ c.in-Some.is) c.in-Some-output.output c.in-Some-output.is c.requires.sides).starts

pub returns-then-is_barred-clause-outcome : goal.returns-then-is_barred-clause-outcome
returns-then-is_barred-clause-outcome g c =
    subst (IsOut (g.D.Disk.state c.args.volume.now.disk) (g.D.Disk.state c.args.volume.now.disk)
    c.args.volume.now.map c.args.volume.now.map
    ((c.args.volume.now.disk ≡ c.args.volume.now.disk) × (c.args.volume.now.map ≡ c.args.volume.now.map))
    c.args.job.now c.stop.new.job c.args.number c.args.address) (sym c.stop.ensures.answered) (
      goes_out c.args.job.now c.args.number c.args.address (at_output c.args.job.now c.args.number c.in-Some.channel
          (sym c.channel.ensures ∙ c.in-Some.is) c.in-Some-output.output c.in-Some-output.is
          (sym c.lacks_header.ensures ∙ c.if-lacks_header.false))
          c.in-Ok.words.items c.in-Ok.ensures.words,
      refl,
      c.stop.ensures.kept,
      λ p at.
          let counted : c.len.result ≡ length c.in-Ok.words.items = omega (arith, c.in-Ok.words.ok, c.len.ensures) in
          barred_none (g.D.Disk.state c.args.volume.now.disk).size c.args.volume.now.map p c.in-Some-output.output
          (length c.in-Ok.words.items)
          (subst (IsBarred c.args.volume.now.map p c.in-Some-output.output) counted
          ((c.is_barred.ensures p at).0 c.if-is_barred.true)),
      (refl, refl),
    )

pub returns-then-is_barred-clause-keeps : goal.returns-then-is_barred-clause-keeps
returns-then-is_barred-clause-keeps g c alive =
    keeps_status c.args.job.now c.args.number 0 c.in-Some.channel (sym c.channel.ensures ∙ c.in-Some.is)
    c.args.volume.now.map.pending c.stop.new.job _ c.stop.ensures.kept

pub returns-then-is_barred-clause-reads : goal.returns-then-is_barred-clause-reads
returns-then-is_barred-clause-reads g c alive =
    reads_status c.args.volume.now.map.live c.args.volume.now.map.live c.args.job.now refl c.args.number
    c.in-Some.channel (sym c.channel.ensures ∙ c.in-Some.is) _ c.stop.new.job c.stop.ensures.kept

pub moved-moved-requires-clause-fits : goal.moved-moved-requires-clause-fits
moved-moved-requires-clause-fits g c =
    let p = version_there c.args.volume.now.map.pending c.args.job.now c.args.number c.in-Some.channel
    (sym c.channel.ensures ∙ c.in-Some.is) c.in-Some-output.output c.in-Some-output.is c.requires.live in
    let first = (its_side c.args.volume.now.map.pending c.args.job.now c.args.number c.in-Some.channel
    (sym c.channel.ensures ∙ c.in-Some.is) c.in-Some-output.output c.in-Some-output.is c.requires.sides).starts in
    let counted : c.len-in-Ok-put_words.result ≡ length c.as_slice.result.now = omega
    (arith, c.in-Ok.words.ok, c.len-in-Ok-put_words.ensures, ap length c.as_slice.ensures.value) in
    let few : c.len-in-Ok-put_words.result ≤ 0o400000 = omega
    (arith, c.in-Ok.words.ok, c.len-in-Ok-put_words.ensures, c.in-Ok.ensures.few) in
    let small : c.in-Some-output.output.next < 2 ^ 32 = search rules in
    next_fits p.0.version.words c.in-Some-output.output.next c.len-in-Ok-put_words.result first small few
    (λ some long. not_refused c.put_words.result c.in-Ok-put_words.field-0 (Refused NoRoom) c.in-Ok-put_words.is
    (c.put_words.ensures.room c.requires.serves p.0 p.1) (
      omega (arith, some, counted),
      inl
          (subst (λ n. most_blocks * 128 < length_after p.0.version.words c.in-Some-output.output.next n) counted long),
    ))

pub returns-in-Ok-put_words-clause-outcome : goal.returns-in-Ok-put_words-clause-outcome
returns-in-Ok-put_words-clause-outcome g c =
    let counted : c.len-in-Ok-put_words.result ≡ length c.as_slice.result.now = omega
    (arith, c.in-Ok.words.ok, c.len-in-Ok-put_words.ensures, ap length c.as_slice.ensures.value) in (
      goes_out c.args.job.now c.args.number c.args.address (at_output c.args.job.now c.args.number c.in-Some.channel
          (sym c.channel.ensures ∙ c.in-Some.is) c.in-Some-output.output c.in-Some-output.is
          (sym c.lacks_header.ensures ∙ c.if-lacks_header.false))
          c.as_slice.result.now
          (subst (Found c.args.job.now.core c.in-Some.channel c.args.address) (sym c.as_slice.ensures.value)
          c.in-Ok.ensures.words),
      c.set_channel.ensures ∙ ap (λ x. record c.args.job.now {
        core = c.leave_buffer.new.core;
        channels = slice_set c.args.job.now.channels c.args.number (Some x);
      }) (c.moved-moved.ensures ∙ ap (moved c.in-Some.channel c.in-Some-output.output) counted)
          ∙ ap (λ core. record c.args.job.now {
            core = core;
            channels = slice_set c.args.job.now.channels c.args.number
                (Some (moved c.in-Some.channel c.in-Some-output.output (length c.as_slice.result.now)));
          }) (c.leave_buffer.ensures.left c.args.address _
          (subst (Found c.args.job.now.core c.in-Some.channel c.args.address) (sym c.as_slice.ensures.value)
          c.in-Ok.ensures.words).1),
      λ p at. let put = c.in-Ok-put_words.ensures.put p at in record {
        fits =
            let asked : c.len.result ≡ length c.as_slice.result.now = omega
            (arith, c.in-Ok.words.ok, c.len.ensures, ap length c.as_slice.ensures.value) in
            finds_place (g.D.Disk.state c.args.volume.now.disk).size c.args.volume.now.map p c.in-Some-output.output
            (length c.as_slice.result.now)
            (not_refused c.put_words.result c.in-Ok-put_words.field-0 (Refused NoRoom) c.in-Ok-put_words.is
            (c.put_words.ensures.room c.requires.serves p at))
            (subst (λ (n : ℕ). IsBarred c.args.volume.now.map p c.in-Some-output.output n → ⊥) asked
            (λ barred. both_ways c.is_barred.result c.if-is_barred.false ((c.is_barred.ensures p at).1 barred)));
        version = put.0;
        here = put.1;
        length_is = put.2;
        body = put.3;
      },
    )

pub returns-in-Ok-put_words-clause-keeps : goal.returns-in-Ok-put_words-clause-keeps
returns-in-Ok-put_words-clause-keeps g c alive =
    let p = version_there c.args.volume.now.map.pending c.args.job.now c.args.number c.in-Some.channel
    (sym c.channel.ensures ∙ c.in-Some.is) c.in-Some-output.output c.in-Some-output.is c.requires.live in
    let put = c.in-Ok-put_words.ensures.put p.0 p.1 in
    keeps_put c.args.volume.now.map.pending c.put_words.new.self.map.pending c.args.job.now c.set_channel.new.self
    c.args.number c.in-Some.channel (sym c.channel.ensures ∙ c.in-Some.is) c.in-Some-output.output
    c.in-Some-output.is c.len-in-Ok-put_words.result c.leave_buffer.new.core
    (c.set_channel.ensures ∙ ap (λ x. record c.args.job.now {
      core = c.leave_buffer.new.core;
      channels = slice_set c.args.job.now.channels c.args.number (Some x);
    }) c.moved-moved.ensures) p.0 p.1 put.0 put.1 c.put_words.ensures.others

pub returns-in-Ok-put_words-clause-reads : goal.returns-in-Ok-put_words-clause-reads
returns-in-Ok-put_words-clause-reads g c alive =
    reads_moved c.args.volume.now.map.live c.put_words.new.self.map.live c.args.job.now c.put_words.ensures.live
    c.args.number c.in-Some.channel (sym c.channel.ensures ∙ c.in-Some.is) c.in-Some-output.output
    c.len-in-Ok-put_words.result c.leave_buffer.new.core c.set_channel.new.self
    (c.set_channel.ensures ∙ ap (λ x. record c.args.job.now {
      core = c.leave_buffer.new.core;
      channels = slice_set c.args.job.now.channels c.args.number (Some x);
    }) c.moved-moved.ensures)

pub returns-in-Err-Refused-clause-outcome : goal.returns-in-Err-Refused-clause-outcome
returns-in-Err-Refused-clause-outcome g c =
    subst (IsOut (g.D.Disk.state c.args.volume.now.disk) (g.D.Disk.state c.put_words.new.self.disk)
    c.args.volume.now.map c.put_words.new.self.map
    ((c.put_words.new.self.disk ≡ c.args.volume.now.disk) × (c.put_words.new.self.map ≡ c.args.volume.now.map))
    c.args.job.now c.stop-in-Err-Refused.new.job c.args.number c.args.address)
    (sym c.stop-in-Err-Refused.ensures.answered) (
      goes_out c.args.job.now c.args.number c.args.address (at_output c.args.job.now c.args.number c.in-Some.channel
          (sym c.channel.ensures ∙ c.in-Some.is) c.in-Some-output.output c.in-Some-output.is
          (sym c.lacks_header.ensures ∙ c.if-lacks_header.false))
          c.as_slice.result.now
          (subst (Found c.args.job.now.core c.in-Some.channel c.args.address) (sym c.as_slice.ensures.value)
          c.in-Ok.ensures.words),
      refl,
      c.stop-in-Err-Refused.ensures.kept,
      (λ p at. lacks_room (g.D.Disk.state c.args.volume.now.disk).size c.args.volume.now.map p
          c.in-Some-output.output (length c.as_slice.result.now) ((c.put_words.ensures.room c.requires.serves p at).0
          (c.in-Err-Refused.is ∙ ap Err c.in-Err-Refused.field-0-is ∙ ap (λ code. Err (Refused code))
          (c.put_words.ensures.codes c.in-Err-Refused.field-0-0
          (c.in-Err-Refused.is ∙ ap Err c.in-Err-Refused.field-0-is))))),
      c.put_words.ensures.refused c.in-Err-Refused.field-0-0 (c.in-Err-Refused.is ∙ ap Err c.in-Err-Refused.field-0-is),
    )

pub returns-in-Err-Refused-clause-keeps : goal.returns-in-Err-Refused-clause-keeps
returns-in-Err-Refused-clause-keeps g c alive =
    let same = c.put_words.ensures.refused c.in-Err-Refused.field-0-0
    (c.in-Err-Refused.is ∙ ap Err c.in-Err-Refused.field-0-is) in
    subst (λ (map : MemoryMap). KeepsSides c.args.volume.now.map.pending map.pending c.args.job.now
    c.stop-in-Err-Refused.new.job) (sym same.1)
    (keeps_status c.args.job.now c.args.number 0 c.in-Some.channel (sym c.channel.ensures ∙ c.in-Some.is)
    c.args.volume.now.map.pending c.stop-in-Err-Refused.new.job _ c.stop-in-Err-Refused.ensures.kept)

pub returns-in-Err-Refused-clause-reads : goal.returns-in-Err-Refused-clause-reads
returns-in-Err-Refused-clause-reads g c alive =
    reads_status c.args.volume.now.map.live c.put_words.new.self.map.live c.args.job.now c.put_words.ensures.live
    c.args.number c.in-Some.channel (sym c.channel.ensures ∙ c.in-Some.is) _ c.stop-in-Err-Refused.new.job
    c.stop-in-Err-Refused.ensures.kept

pub returns-in-Err-NoMemory-put_words-clause-keeps : goal.returns-in-Err-NoMemory-put_words-clause-keeps
returns-in-Err-NoMemory-put_words-clause-keeps g c alive =
    let same = c.put_words.ensures.memory
    (c.in-Err-NoMemory-put_words.is ∙ ap Err c.in-Err-NoMemory-put_words.field-0-is) in
    subst (λ (map : MemoryMap). KeepsSides c.args.volume.now.map.pending map.pending c.args.job.now c.args.job.now)
    (sym same.1)
    (keeps_same c.args.volume.now.map.pending c.args.job.now)

pub is_barred-requires : goal.is_barred-requires
is_barred-requires g c = record {
  first = (its_side c.args.volume.now.map.pending c.args.job.now c.args.number c.in-Some.channel
      (sym c.channel.ensures ∙ c.in-Some.is) c.in-Some-output.output c.in-Some-output.is c.requires.sides).starts;
}
