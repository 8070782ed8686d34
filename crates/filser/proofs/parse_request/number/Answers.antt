use Rattle.clap.specs.Words.{found_of, rows_of}
use Rattle.std.proofs.Common.{arith}
use Rattle.filser.proofs.MatchedWords.{no_number, number_in_range, out_of_range, read_none, read_some}
use Rattle.filser.proofs.parse_request.number.Goals as goal

-- src/reading.rt:75:1
pub returns-in-Some : goal.returns-in-Some
returns-in-Some c =
    number_in_range (rows_of (found_of c.args.matches.now)) c.args.id.now c.args.least c.args.most c.in-Some.n
    (read_some (found_of c.args.matches.now) c.args.id.now c.in-Some.n c.in-Some.ensures.none
    (λ t is. (c.in-Some.ensures.value t is).0))
    (omega (arith, c.if-least-n.true)) (omega (arith, c.if-n-most.true))

-- src/reading.rt:75:1
pub returns-in_default : goal.returns-in_default
returns-in_default c =
    out_of_range (rows_of (found_of c.args.matches.now)) c.args.id.now c.args.least c.args.most c.in-Some.n
    (read_some (found_of c.args.matches.now) c.args.id.now c.in-Some.n c.in-Some.ensures.none
    (λ t is. (c.in-Some.ensures.value t is).0))
    (λ above below. omega arith)

-- src/reading.rt:75:1
pub returns-in_default-2 : goal.returns-in_default-2
returns-in_default-2 c =
    out_of_range (rows_of (found_of c.args.matches.now)) c.args.id.now c.args.least c.args.most c.in-Some.n
    (read_some (found_of c.args.matches.now) c.args.id.now c.in-Some.n c.in-Some.ensures.none
    (λ t is. (c.in-Some.ensures.value t is).0))
    (λ above below. omega arith)

-- src/reading.rt:75:1
pub returns-in_default-3 : goal.returns-in_default-3
returns-in_default-3 c =
    no_number (rows_of (found_of c.args.matches.now)) c.args.id.now c.args.least c.args.most c.ranges.most.fits
    (read_none (found_of c.args.matches.now) c.args.id.now (λ t is. (c.in_default.ensures.value t is).1.0))
