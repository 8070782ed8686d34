use Rattle.std.proofs.Common.{◌+◌, length, take, subst, sym, ◌∙◌, arith}
use Rattle.std.proofs.lemmas.Result.{err_from_is_err_and}
use Rattle.wire.specs.Frames.{BeginsWith, Framed, frame_bytes}
use Rattle.exchange.specs.Exchanges.{BreaksOff, StepsOn}
use Rattle.exchange.proofs.StreamLaws.{frame_size, front_grows, not_whole, steps_break, steps_none, steps_on}
use Rattle.exchange.proofs.StreamLaws.{whole_again, within_grows}
use Rattle.retrieval.proofs.Spellings.{words_from}
use Rattle.exchange.proofs.reply_buffer.serve_whole.Goals as goal

pub loop-header-init : goal.loop-header-init
loop-header-init g c = record {
  within = omega arith;
  steps = steps_none g.S.FileService.machine g.met.S.FileService.stands c.args.service.now
      (g.W.Write.contents c.args.writer.now) c.args.answers.now.items c.args.tally.now;
}

pub loop-header-preserved : goal.loop-header-preserved
loop-header-preserved g c =
    let held = c.args.held.now in
    let here = c.loop-header in
    let frame : Framed = record { header = c.in-Whole.header; body = c.in-Whole.body.now } in
    let more = c.in-Whole.ensures.1.0 in
    let is = sym (words_from here.place held) ∙ c.in-Whole.ensures.1.1 in
    record {
      within = within_grows here.place held more frame here.invariant.within is;
      steps = subst (λ bytes. StepsOn g.S.FileService.machine c.args.service.now c.serve_record.new.service
          (g.W.Write.contents c.args.writer.now) (g.W.Write.contents c.serve_record.new.writer)
          c.args.answers.now.items c.serve_record.new.answers.items c.args.tally.now c.serve_record.new.tally bytes)
          (sym (front_grows here.place (16 + length frame.body) held (frame_bytes frame) more is (frame_size frame)))
          (steps_on g.S.FileService.machine c.args.service.now here.service c.serve_record.new.service
          (g.W.Write.contents c.args.writer.now) (g.W.Write.contents here.writer)
          (g.W.Write.contents c.serve_record.new.writer) c.args.answers.now.items here.answers.items
          c.serve_record.new.answers.items c.args.tally.now here.tally c.serve_record.new.tally
          (take here.place held) (frame_bytes frame) here.invariant.steps c.in_ok-serve_record.ensures.ok);
    }

pub returns-in_err-serve_record-clause-err : goal.returns-in_err-serve_record-clause-err
returns-in_err-serve_record-clause-err g c =
    let held = c.args.held.now in
    let here = c.loop-header in
    let frame : Framed = record { header = c.in-Whole.header; body = c.in-Whole.body.now } in
    let more = c.in-Whole.ensures.1.0 in
    let is = sym (words_from here.place held) ∙ c.in-Whole.ensures.1.1 in
    let p = err_from_is_err_and c.from_residual.result c.from_residual.ensures.1 in
    rw (p.1, p.2) (subst (λ bytes. BreaksOff g.S.FileService.machine c.args.service.now c.serve_record.new.service
    (g.W.Write.contents c.args.writer.now) (g.W.Write.contents c.serve_record.new.writer) c.args.answers.now.items
    c.in_err-serve_record.field-0.0 bytes) (whole_again here.place held (frame_bytes frame) more is)
    (steps_break g.S.FileService.machine c.args.service.now here.service c.serve_record.new.service
    (g.W.Write.contents c.args.writer.now) (g.W.Write.contents here.writer)
    (g.W.Write.contents c.serve_record.new.writer) c.args.answers.now.items here.answers.items c.args.tally.now
    here.tally c.in_err-serve_record.field-0.0 (take here.place held) (frame_bytes frame) more here.invariant.steps
    c.in_err-serve_record.ensures.err))

pub returns : goal.returns
returns g c = record {
  place = c.loop-header.invariant.within;
  ok = c.loop-header.invariant.steps;
  rest = not_whole _ c.split_record.result (subst (λ bytes. BeginsWith bytes c.split_record.result)
      (words_from c.loop-header.place c.args.held.now) c.split_record.ensures) c.in_default.not-Whole;
  err = tt;
}
