use Rattle.words36.proofs.OctetReaderLaws.{has_begun, has_more}
use Rattle.words36.proofs.octets.OctetReader.push.Goals as goal

pub returns-in-Some : goal.returns-in-Some
returns-in-Some c = λ words read. has_more c.args.self.now c.put.new.self words c.in-Some.last c.args.word read
    c.in-Some.is c.put.ensures.last c.put.ensures.full c.put.ensures.whole c.put.ensures.bytes c.put.ensures.fits

pub returns-in-None : goal.returns-in-None
returns-in-None c = λ words read. has_begun c.args.self.now c.begin.new.self words c.args.word read
    c.in-None.is c.begin.ensures.last c.begin.ensures.full c.begin.ensures.whole c.begin.ensures.bytes
    c.begin.ensures.fits
