use Rattle.std.proofs.Common.{◌≡◌, List, sym, subst, Result, Ok, Err, OnOk, OnErr}
use Rattle.spec_image.specs.declared.put.Put.{Put}
use Rattle.changeset.specs.Common.{AreDistinct, replaced, distinct_replaced}
use Rattle.changeset.proofs.change_set.ChangeSet.put.Goals as goal

distinct_put : {T E : Type 0} (answer : Result T E) (old now : List Put) (new : Put) → AreDistinct old
    → OnOk answer (now ≡ replaced new old) → OnErr answer (now ≡ old) → AreDistinct now
distinct_put (Ok x) old now new distinct ok err = subst AreDistinct (sym ok) (distinct_replaced new old distinct)
distinct_put (Err e) old now new distinct ok err = subst AreDistinct (sym err) distinct

pub invariant_of-self : goal.invariant_of-self
invariant_of-self c =
    distinct_put c.put_in.result c.self.inside.puts.items c.put_in.new.puts.items
    (record { block = c.args.block; words = c.args.words.now }) c.self.invariant c.put_in.ensures.ok
    c.put_in.ensures.err
