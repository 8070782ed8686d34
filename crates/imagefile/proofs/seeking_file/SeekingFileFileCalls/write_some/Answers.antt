use Rattle.std.proofs.Common.{◌≡◌, List, length, take, IfOk, sym, subst}
use Rattle.imagefile.specs.Common.{FileWrites, window, Call, IsHonestRecord, after_calls, recorded, system_of}
use Rattle.imagefile.specs.Common.{unseen_of}
use Rattle.imagefile.proofs.CallLaws.{write_said, writes_said}
use Rattle.imagefile.proofs.seeking_file.SeekingFileFileCalls.write_some.Goals as goal

pub returns-clause-put : goal.returns-clause-put
returns-clause-put g c u h =
    let earlier = g.S.SystemCalls.history (system_of c.args.self.now) in
    let between = g.S.SystemCalls.history (system_of c.go_to.new.self) in
    let is = c.write-count.ensures.noted in
    subst (λ (calls : List Call). IfOk c.write-count.result (λ count. window (after_calls u calls).bytes c.args.at count
    ≡ take count c.args.bytes.now)) (sym is)
    (write_said u c.args.at earlier between c.in_ok-go_to.ensures.goes c.write-count.result c.args.bytes.now
    c.write-count.ensures.few (subst (IsHonestRecord u) is h))

pub returns-clause-writes : goal.returns-clause-writes
returns-clause-writes g c u h =
    let earlier = g.S.SystemCalls.history (system_of c.args.self.now) in
    let between = g.S.SystemCalls.history (system_of c.go_to.new.self) in
    let is = c.write-count.ensures.noted in
    subst (λ (calls : List Call). FileWrites c.args.at (length c.args.bytes.now) (recorded u earlier)
    (recorded u calls)) (sym is)
    (writes_said u c.args.at earlier between c.in_ok-go_to.ensures.goes c.write-count.result c.args.bytes.now
    c.write-count.ensures.few (subst (IsHonestRecord u) is h))

pub returns-clause-as_supposed : goal.returns-clause-as_supposed
returns-clause-as_supposed g c h =
    subst (λ u. FileWrites c.args.at (length c.args.bytes.now)
    (recorded u (g.S.SystemCalls.history (system_of c.args.self.now)))
    (recorded (unseen_of c.go_to.new.self) (g.S.SystemCalls.history c.write-count.new.self))) c.go_to.ensures.supposed
    (returns-clause-writes g c (unseen_of c.go_to.new.self) h)
