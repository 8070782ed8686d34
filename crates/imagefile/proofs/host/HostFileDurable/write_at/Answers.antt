use Rattle.std.proofs.Common.{◌≡◌, ◌∙◌, ◌+◌, ◌-◌, length, drop, arith, length-take, length-drop}
use Rattle.imagefile.proofs.FileLaws.{same_on, part_put, part_writes}
use Rattle.imagefile.proofs.host.HostFileDurable.write_at.Goals as goal

pub loop-done-preserved : goal.loop-done-preserved
loop-done-preserved g c =
    let bytes = c.args.bytes.now in
    let at = c.args.at in
    let done = c.loop-done.done in
    let inv = c.loop-done.invariant in
    let s0 = g.C.FileCalls.state c.args.self.now.calls in
    let s = g.C.FileCalls.state c.loop-done.self.calls in
    let s' = g.C.FileCalls.state c.put_some-in-loop-done.new.self.calls in
    let k = c.in_ok-done-2.field-0 in
    let e = c.in_ok-done-2.ensures in
    let place : c.in-Some.place ≡ at + done = c.in-Some.ensures.1 in
    record {
      few = omega (
        arith,
        e.few.1,
        inv.few,
        length-take (length bytes - done) (drop done bytes),
        length-drop done bytes,
      );
      count = e.served ∙ inv.count;
      quiet = e.quiet ∙ inv.quiet;
      known = e.keeps_size ∙ inv.known;
      same = same_on s0 s s' inv.same e.same;
      moves = λ h. omega (arith, inv.moves (e.same.was_honest h), e.moves h);
      writes = λ h. part_writes at done c.in-Some.place bytes place inv.few s0 s s' (inv.writes (e.same.was_honest h))
          (e.writes h);
      put = λ h. part_put at done c.in-Some.place bytes place inv.few s.bytes s'.bytes k (inv.put (e.same.was_honest h))
          (e.put h) (e.writes h).bytes;
    }
