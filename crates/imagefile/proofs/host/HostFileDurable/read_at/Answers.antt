use Rattle.std.proofs.Common.{◌≡◌, ◌∙◌, ⊎_elim, ◌+◌, ◌-◌, ◌<◌, ◌≤◌, ℕ, List, length, drop, get_or, sym, ap, arith}
use Rattle.std.proofs.Common.{rules, get_or-take, length-take, length-drop}
use Rattle.std.proofs.lemmas.Bool.{cases_lt}
use Rattle.std.proofs.lemmas.List.{places}
use borrow.Rule.Slice.PartMut.{put_mid}
use Rattle.imagefile.specs.Common.{window}
use Rattle.imagefile.proofs.FileLaws.{same_on, keeps_on, window-at}
use Rattle.imagefile.proofs.Record.{window-list}
use Rattle.imagefile.proofs.host.HostFileDurable.read_at.Goals as goal

-- one more part of a buffer is read, after those that were read before
module _ (buffer part : List ℕ) (done count : ℕ) (some : done ≤ length buffer) (few : count ≤ length buffer - done)
    (long : length part ≡ length buffer - done) where
  abbrev filled : List ℕ
  filled = put_mid done (length buffer - done) buffer part

  long_enough : done + count ≤ length filled
  long_enough = search (rules, places)

  kept : (i : ℕ) → i < done → get_or filled i 0 ≡ get_or buffer i 0
  kept i less = search (rules, places)

  new : (i : ℕ) → done ≤ i → i < done + count → get_or filled i 0 ≡ get_or part (i - done) 0
  new i low high = search (rules, places)

pub loop-done-preserved : goal.loop-done-preserved
loop-done-preserved g c =
    let at = c.args.at in
    let done = c.loop-done.done in
    let buffer = c.loop-done.bytes in
    let part = c.get_some.new.bytes in
    let inv = c.loop-done.invariant in
    let s0 = g.C.FileCalls.state c.args.self.now.calls in
    let s = g.C.FileCalls.state c.loop-done.self.calls in
    let s' = g.C.FileCalls.state c.get_some.new.self.calls in
    let k = c.in_ok-done.field-0 in
    let e = c.in_ok-done.ensures in
    let place : c.in-Some.place ≡ at + done = c.in-Some.ensures.1 in
    let few : k
    ≤ length buffer - done = omega (arith, e.few.1, length-take (length buffer - done) (drop done buffer)) in
    let long : length part ≡ length buffer
    - done = omega (
      arith,
      c.get_some.auto.bytes,
      length-take (length buffer - done) (drop done buffer),
      length-drop done buffer,
    ) in
    record {
      few = long_enough buffer part done k inv.few few long;
      count = e.served ∙ inv.count;
      quiet = e.quiet ∙ inv.quiet;
      known = e.keeps_size ∙ inv.known;
      same = same_on s0 s s' inv.same e.same;
      keeps = λ h. keeps_on s0 s s' (inv.keeps (e.same.was_honest h)) (e.keeps h);
      read = λ h i less. ⊎_elim
          (λ before. kept buffer part done k inv.few few long i before ∙ inv.read (e.same.was_honest h) i before)
          (λ behind.
          let j = i - done in
          let inside : j < k = omega arith in
          let there : c.in-Some.place + j ≡ at + i = omega (arith, place) in
          new buffer part done k inv.few few long i behind less ∙ sym (get_or-take k part j 0 inside)
          ∙ ap (λ l. get_or l j 0) (e.read h) ∙ window-at s.bytes c.in-Some.place k j 0 inside ∙ ap s.bytes there
          ∙ (inv.keeps (e.same.was_honest h)).bytes (at + i)) (cases_lt i done);
    }

pub returns-clause-read : goal.returns-clause-read
returns-clause-read g c h =
    let buffer = c.loop-done.bytes in
    let b = (g.C.FileCalls.state c.args.self.now.calls).bytes in
    let all : length buffer ≡ length c.args.bytes.now = c.loop-done.auto.bytes in
    sym (window-list b c.args.at buffer (λ i less. sym (c.loop-done.invariant.read h i (omega arith))))
    ∙ ap (window b c.args.at) all
