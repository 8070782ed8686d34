use Rattle.std.proofs.Common.{arith, rules, ◌≡◌, ◌++◌, ◌∷◌, [], ◌<◌, All, length, take, drop, min, append_assoc}
use Rattle.std.proofs.lemmas.List.Elements.{All-drop}
use Rattle.words36.specs.Common.{packed}
use Rattle.words36.proofs.AsciiLaws.{IsAscii, packed-step, unpacked-packed}
use Rattle.words36.proofs.ascii.pack_ascii.Goals as goal

pub loop-rest-preserved : goal.loop-rest-preserved
loop-rest-preserved c =
    let rest = c.loop-rest.rest.now in
    let after = c.split_at.result.1.now in
    let more : 0 < length rest = grind arith in
    let word : c.push.new.self.items ≡ c.loop-rest.words.items ++ c.word_of.result ∷ [] = search rules in
    let back : after ≡ drop (min (length rest) 5) rest = search rules in
    let front : c.split_at.result.0.now ≡ take (min (length rest) 5) rest = search rules in
    let step : packed rest ≡ c.word_of.result ∷ packed after = cc (packed-step rest more) in
    record {
      so_far = rw (word, append_assoc, ← step) c.loop-rest.invariant.so_far;
      ascii = rw back (All-drop IsAscii (min (length rest) 5) rest c.loop-rest.invariant.ascii);
    }

pub returns-clause-reads_back : goal.returns-clause-reads_back
returns-clause-reads_back c =
    let ascii : All IsAscii c.args.text.now = search rules in
    let all : c.loop-rest.words.items ≡ packed c.args.text.now = search rules in
    rw all (unpacked-packed c.args.text.now ascii)
