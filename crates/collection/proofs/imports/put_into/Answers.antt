use Rattle.std.proofs.Common.{refl}
use Rattle.collection.proofs.MovedParts.{let_in, refused_as, shut_out}
use Rattle.collection.proofs.imports.put_into.Goals as goal

pub returns : goal.returns
returns g c = record {
  mid = c.make_directory-made.new.monitor;
  made = c.make_directory-made.result;
  makes = record { at = c.first_moment.result; first = c.first_moment.ensures; led = c.make_directory-made.ensures };
  done = let_in c.args.path.now (g.W.Write.contents c.args.writer.now) (g.W.Write.contents c.import-put.new.writer)
      c.make_directory-made.new.monitor c.import-put.new.monitor c.import-put.result _ c.make_directory-made.result
      c.in_default.ensures.none c.import-put.ensures;
}

pub returns-in-Some : goal.returns-in-Some
returns-in-Some g c = record {
  mid = c.make_directory-made.new.monitor;
  made = c.make_directory-made.result;
  makes = record { at = c.first_moment.result; first = c.first_moment.ensures; led = c.make_directory-made.ensures };
  done = shut_out c.args.path.now (g.W.Write.contents c.args.writer.now) (g.W.Write.contents c.turn_down.new.writer)
      c.make_directory-made.new.monitor c.turn_down.result _ c.make_directory-made.result c.in-Some.reply
      c.in-Some.ensures.some.0 c.in-Some.ensures.some.1
      (refused_as _ _ _ _ _ _ _ _ _ refl c.refusal.ensures c.is_broken.ensures c.turn_down.ensures);
}
