use Rattle.std.proofs.Common.{◌≡◌, ◌≤◌, true, length, take}
use Rattle.std.specs.List.{AllByRecursion}
use Rattle.std.specs.Vec.{vec_capacity}
use Rattle.blockdisk.specs.Common.{SameDisk, one_more}
use Rattle.spec_machine.specs.declared.call.Reply.TheVariants.{Device, Failed}
use Rattle.monitor.specs.Common.{TellsFault, FailsOnce}
use Rattle.monitor.proofs.Events.Listed.{Ran}
use Rattle.monitor.proofs.monitor.Monitor.serve.Given as goal

-- The run so far is that of the events so far, and there is room for the replies that are left.
abbrev pub invariant-loop-event : goal.invariant-loop-event
invariant-loop-event g l =
    let state = g.D.Disk.state in
    record {
      runs : Ran state l.fn.self l.self (take l.event-index l.events) l.replies.items;
      count : length l.replies.items ≡ l.event-index;
      room : length l.events ≤ vec_capacity l.replies;
      same : SameDisk (state l.fn.self.disk) (state l.self.disk);
      broken : l.fn.self.failed ≡ true → AllByRecursion (λ reply. reply ≡ Failed) l.replies.items
          × (l.self ≡ l.fn.self);
      served : AllByRecursion (λ reply. reply ≡ Device → ⊥) l.replies.items
          → (state l.self.disk).failures ≡ (state l.fn.self.disk).failures;
      counted : TellsFault l.replies.items → (state l.self.disk).failures ≡ one_more (state l.fn.self.disk).failures;
      told : TellsFault l.replies.items → l.self.failed ≡ true;
      once : FailsOnce l.replies.items;
      layout : l.self.layout ≡ l.fn.self.layout;
    }
