use Rattle.std.proofs.Common.{◌+◌, ◌∷◌, [], refl}
use Rattle.spec_machine.specs.declared.call.Call.TheVariants.{Inbuf, Outbuf, Lookup, Enter, Rename, In, Out, Close}
use Rattle.spec_machine.specs.declared.call.Call.TheVariants.{Releas}
use Rattle.usercore.specs.Common.{words_at}
use Rattle.monitor.specs.Common.{areas_set_up, areas_filled, areas_emptied, areas_closed}
use Rattle.monitor.proofs.CoreAreas.Calls.{on_channel}
use Rattle.monitor.proofs.changed.areas_of.Goals as goal

pub returns-in-Inbuf : goal.returns-in-Inbuf
returns-in-Inbuf c =
    let job = c.args.job.now in
    let m = c.in-Inbuf in
    on_channel (λ v. v.items) c.set_up_for_input.result job m.number c.channel.result
    (λ k. areas_set_up job.core k k.input_header m.buffers) c.args.call.now (Inbuf m.number m.buffers) (λ w. refl)
    c.channel.ensures m.is c.set_up_for_input.ensures

pub returns-in-Outbuf : goal.returns-in-Outbuf
returns-in-Outbuf c =
    let job = c.args.job.now in
    let m = c.in-Outbuf in
    on_channel (λ v. v.items) c.set_up_for_output.result job m.number c.channel-in-Outbuf.result
    (λ k. areas_set_up job.core k k.output_header m.buffers) c.args.call.now (Outbuf m.number m.buffers) (λ w. refl)
    c.channel-in-Outbuf.ensures m.is c.set_up_for_output.ensures

pub returns-in-Lookup : goal.returns-in-Lookup
returns-in-Lookup c =
    let job = c.args.job.now in
    let m = c.in-Lookup in
    on_channel (λ v. v.items) c.told.result job m.number c.channel-in-Lookup.result
    (λ k. words_at (m.address + 1) 3 ∷ []) c.args.call.now (Lookup m.number m.address) (λ w. refl)
    c.channel-in-Lookup.ensures m.is c.told.ensures

pub returns-in-Enter : goal.returns-in-Enter
returns-in-Enter c =
    let job = c.args.job.now in
    let m = c.in-Enter in
    on_channel (λ v. v.items) c.told-in-Enter.result job m.number c.channel-in-Enter.result
    (λ k. words_at (m.address + 1) 2 ∷ []) c.args.call.now (Enter m.number m.address) (λ w. refl)
    c.channel-in-Enter.ensures m.is c.told-in-Enter.ensures

pub returns-in-Rename : goal.returns-in-Rename
returns-in-Rename c =
    let job = c.args.job.now in
    let m = c.in-Rename in
    on_channel (λ v. v.items) c.told-in-Rename.result job m.number c.channel-in-Rename.result
    (λ k. words_at (m.address + 1) 1 ∷ []) c.args.call.now (Rename m.number m.address) (λ w. refl)
    c.channel-in-Rename.ensures m.is c.told-in-Rename.ensures

pub returns-in-In : goal.returns-in-In
returns-in-In c =
    let job = c.args.job.now in
    let m = c.in-In in
    on_channel (λ v. v.items) c.filled.result job m.number c.channel-in-In.result
    (λ k. areas_filled job.core k m.address) c.args.call.now (In m.number m.address) (λ w. refl)
    c.channel-in-In.ensures m.is c.filled.ensures

pub returns-in-Out : goal.returns-in-Out
returns-in-Out c =
    let job = c.args.job.now in
    let m = c.in-Out in
    on_channel (λ v. v.items) c.emptied.result job m.number c.channel-in-Out.result
    (λ k. areas_emptied job.core k) c.args.call.now (Out m.number m.field-1) (λ w. refl)
    c.channel-in-Out.ensures m.is c.emptied.ensures

pub returns-in-Close : goal.returns-in-Close
returns-in-Close c =
    let job = c.args.job.now in
    let m = c.in-Close in
    on_channel (λ v. v.items) c.closed.result job m.number c.channel-in-Close.result
    (λ k. areas_closed k m.bits) c.args.call.now (Close m.number m.bits) (λ w. refl)
    c.channel-in-Close.ensures m.is c.closed.ensures

pub returns-in-Releas : goal.returns-in-Releas
returns-in-Releas c =
    let job = c.args.job.now in
    let m = c.in-Releas in
    on_channel (λ v. v.items) c.closed-in-Releas.result job m.number c.channel-in-Releas.result
    (λ k. areas_closed k 0) c.args.call.now (Releas m.number) (λ w. refl)
    c.channel-in-Releas.ensures m.is c.closed-in-Releas.ensures
