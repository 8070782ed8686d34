use Rattle.std.proofs.Common.{◌+◌, ◌<◌, length, refl, arith}
use Rattle.commands.proofs.ActLaws.{goes_nowhere}
use Rattle.exchange.proofs.PutLaws.{word_count, word_read, written_more, written_until, written_all}
use Rattle.exchange.proofs.serve_order.put_words.Goals as goal

pub loop-place-init : goal.loop-place-init
loop-place-init g c words each is = goes_nowhere g.S.FileService.machine g.met.S.FileService.stands _

pub returns-in-Some : goal.returns-in-Some
returns-in-Some g c words each is =
    let count = word_count c.args.body.now words each is in
    let word = word_read c.args.body.now words c.loop-place.place c.word_at.result c.unwrap_or-word.result
    c.word_at.ensures.value c.word_at.ensures.fits c.unwrap_or-word.ensures each is c.loop-place-test.true in
    let inside : c.loop-place.place < length words = omega arith in
    written_until g.S.FileService.machine _ _ _ c.args.job c.args.first words c.loop-place.place
    c.unwrap_or-word.result (c.args.first + c.loop-place.place) c.put_word.result inside refl word
    (c.loop-place.invariant words each is) c.put_word.ensures c.in-Some.reply c.in-Some.is

pub loop-place-preserved : goal.loop-place-preserved
loop-place-preserved g c words each is =
    let count = word_count c.args.body.now words each is in
    let word = word_read c.args.body.now words c.loop-place.place c.word_at.result c.unwrap_or-word.result
    c.word_at.ensures.value c.word_at.ensures.fits c.unwrap_or-word.ensures each is c.loop-place-test.true in
    let inside : c.loop-place.place < length words = omega arith in
    written_more g.S.FileService.machine _ _ _ c.args.job c.args.first words c.loop-place.place
    c.unwrap_or-word.result (c.args.first + c.loop-place.place) c.put_word.result inside refl word
    (c.loop-place.invariant words each is) c.put_word.ensures c.in_default.is

pub returns : goal.returns
returns g c words each is =
    let count = word_count c.args.body.now words each is in
    written_all g.S.FileService.machine _ _ c.args.job c.args.first words c.loop-place.place (omega arith)
    (c.loop-place.invariant words each is)
