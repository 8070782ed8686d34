use Rattle.std.proofs.Common.{◌≡◌, [], ◌∷◌, ◌++◌, ◌+◌, length, take, refl, inl, sym, ap, subst, ◌∙◌, arith}
use Rattle.std.proofs.Common.{length-append}
use Rattle.std.specs.Prelude.{is_ok, if◌then◌else◌}
use Rattle.std.specs.List.{AllByRecursion}
use Rattle.std.proofs.lemmas.List.{take_more, take_all}
use Rattle.blockdisk.specs.Common.{same_disk_start, same_disk_on}
use Rattle.spec_machine.specs.declared.call.Reply.TheVariants.{Device, Failed}
use Rattle.monitor.specs.Common.{TellsFault, FailsOnce}
use Rattle.monitor.proofs.Events.Listed.{Ran, ran_start, ran_still, ran_more, told_more, counted_more, served_more}
use Rattle.monitor.proofs.Events.Listed.{failed_once, broken_more}
use Rattle.monitor.proofs.monitor.Monitor.serve.Goals as goal

pub loop-event-init : goal.loop-event-init
loop-event-init g c =
    let state = g.D.Disk.state in
    let none : c.in_ok-replies.replies.items ≡ [] = c.in_ok-replies.ensures.items in
    record {
      runs = subst (Ran state c.args.self.now c.args.self.now []) (sym none) (ran_start state c.args.self.now);
      count = ap length none;
      room = omega (arith, c.in_ok-replies.ensures.exact);
      same = same_disk_start (state c.args.self.now.disk);
      broken = λ failed. (subst (AllByRecursion (λ reply. reply ≡ Failed)) (sym none) tt, refl);
      served = λ all. refl;
      counted = λ tells. absurd (subst TellsFault none tells);
      told = λ tells. absurd (subst TellsFault none tells);
      once = subst FailsOnce (sym none) tt;
      layout = refl;
    }

pub loop-event-preserved : goal.loop-event-preserved
loop-event-preserved g c =
    let state = g.D.Disk.state in
    let first = c.args.self.now in
    let old = c.loop-event.self in
    let new = c.event-reply.new.self in
    let event = c.event-item.result in
    let reply = c.event-reply.result in
    let replies = c.loop-event.replies.items in
    let so_far = take c.loop-event.event-index c.args.events.now in
    let is = c.loop-event.invariant in
    let does = c.event-reply.ensures in
    let stays = does.broken in
    let grown : c.push.new.self.items ≡ replies ++ reply ∷ [] = c.push.ensures.items
    ∙ ap (λ r. if is_ok r then replies ++ reply ∷ [] else replies) c.unwrap.ensures in
    let took : take (c.loop-event.event-index + 1) c.args.events.now
    ≡ so_far ++ event ∷ [] = take_more c.args.events.now c.loop-event.event-index event c.loop-event-test.true
    ∙ ap (λ e. so_far ++ e ∷ []) (sym c.event-item.is) in
    let same = same_disk_on (state first.disk) (state old.disk) (state new.disk) is.same does.same in
    record {
      runs = subst (λ es. Ran state first new es c.push.new.self.items) (sym took)
          (subst (Ran state first new (so_far ++ event ∷ [])) (sym grown)
          (ran_more state first old new so_far replies event reply does.same does.answered does.crash stays is.runs));
      count = ap length grown ∙ length-append replies (reply ∷ []) ∙ ap (λ n. n + 1) is.count;
      room = omega (arith, is.room, c.push.ensures.capacity);
      same = same;
      broken = λ failed. let more = broken_more state first old new so_far replies event reply stays is.broken failed in
          (subst (AllByRecursion (λ x. x ≡ Failed)) (sym grown) more.0, more.1);
      served = λ all. served_more state first old new so_far replies event reply does.served is.served
          (subst (AllByRecursion (λ x. x ≡ Device → ⊥)) grown all);
      counted = λ tells. counted_more state first old new so_far replies event reply stays is.told does.counted
          does.served is.served is.counted (subst TellsFault grown tells);
      told = λ tells. told_more state first old new so_far replies event reply stays
          (λ e. does.failed.1 (inl e)) is.told (subst TellsFault grown tells);
      once = subst FailsOnce (sym grown)
          (failed_once state first old new so_far replies event reply stays is.told is.once);
      layout = does.layout ∙ is.layout;
    }

pub returns-clause-runs : goal.returns-clause-runs
returns-clause-runs g c =
    ran_still g.D.Disk.state c.args.self.now c.loop-event.self c.args.events.now c.loop-event.replies.items
    (subst (λ es. Ran g.D.Disk.state c.args.self.now c.loop-event.self es c.loop-event.replies.items)
    (take_all c.loop-event.event-index c.args.events.now c.loop-event-test.false) c.loop-event.invariant.runs)
