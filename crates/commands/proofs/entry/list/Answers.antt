use Rattle.std.proofs.Common.{[], ◌∷◌, Ok, Err, refl}
use Rattle.commands.proofs.ErrandLaws.{surveyed, none_there, not_asked}
use Rattle.commands.proofs.entry.list.Goals as goal

pub returns-in-Some : goal.returns-in-Some
returns-in-Some g c = rw c.in-Some.is (record {
  owners = Ok (c.in-Some.owner ∷ []);
  asked = refl;
  errand = c.write_lists.ensures;
})

pub returns-in-Ok : goal.returns-in-Ok
returns-in-Ok g c = rw (none_there c.args.place c.in_default.not-Some) (record {
  owners = Ok c.in-Ok.owners.items;
  asked = c.in-Ok.ensures.value;
  errand = surveyed _ c.args.moment c.args.style _ _ _ _ c.deref.result.now c.in-Ok.owners.items _ c.deref.ensures.value
      c.write_lists-in-Ok.ensures;
})

pub returns-in-Err : goal.returns-in-Err
returns-in-Err g c = rw (none_there c.args.place c.in_default.not-Some) (record {
  owners = Err c.in-Err.reply;
  asked = not_asked c.in-Err.reply c.args.monitor.now.failed c.in-Err.ensures.only c.in-Err.ensures.failed.0;
  errand = c.write_refusal.ensures;
})
