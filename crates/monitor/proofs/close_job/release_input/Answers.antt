use Rattle.std.proofs.Common.{◌≤◌, [], sym, subst, option_to_list}
use Rattle.spec_image.specs.Common.{times}
use Rattle.volume.specs.Common.{slot as version_at}
use Rattle.monitor.specs.Common.{Closes, readers_of, pins_of}
use Rattle.monitor.proofs.common.Releases.{held_there, lets_one_go}
use Rattle.monitor.proofs.close_job.release_input.Goals as goal

pub unpin-requires : goal.unpin-requires
unpin-requires g c =
    let key = c.in-Some.input.pin.key in
    let live = c.args.volume.now.map.live in
    record {
      live = held_there (version_at live key) key (subst (λ o. times key (pins_of (option_to_list o))
          ≤ readers_of (version_at live key)) c.in-Some.is (c.requires.held key));
    }

pub returns-in-Some-clause-closed : goal.returns-in-Some-clause-closed
returns-in-Some-clause-closed g c =
    let key = c.in-Some.input.pin.key in
    let live = c.args.volume.now.map.live in
    let there = held_there (version_at live key) key (subst (λ o. times key (pins_of (option_to_list o))
    ≤ readers_of (version_at live key)) c.in-Some.is (c.requires.held key)) in
    subst (λ o. Closes c.args.volume.now.map c.unpin.new.self.map [] (pins_of (option_to_list o))) (sym c.in-Some.is)
    (lets_one_go c.args.volume.now.map c.unpin.new.self.map key there
    (λ v at why. (c.unpin.ensures.stays v at why).0) (λ v at past one. (c.unpin.ensures.gone v at past one).0)
    c.unpin.ensures.others c.unpin.ensures.pending c.unpin.ensures.known)
