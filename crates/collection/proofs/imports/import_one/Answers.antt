use Rattle.std.proofs.Common.{◌≡◌, IfSome, inl, inr, sym, subst}
use Rattle.collection.specs.Common.{IsNameFor}
use Rattle.collection.proofs.MovedParts.{unread_at}
use Rattle.collection.proofs.imports.import_one.Goals as goal

pub returns-in-Ok-read : goal.returns-in-Ok-read
returns-in-Ok-read g c =
    let named = subst (λ o. IfSome o (λ named. (named.path ≡ c.args.path)
    × IsNameFor c.args.task.now.shortens c.args.path.now named.text.items named.name)) c.in-Some.is
    c.in-Ok.ensures.some in
    inl (
      c.in-Some.named.text.items,
      c.in-Some.named.name,
      named.1,
      inl (
        c.in-Ok-read.source,
        rw (sym c.most_read.ensures) c.in-Ok-read.ensures,
        rw (sym named.0)
            c.put_source.ensures,
      ),
    )

pub returns : goal.returns
returns g c =
    let named = subst (λ o. IfSome o (λ named. (named.path ≡ c.args.path)
    × IsNameFor c.args.task.now.shortens c.args.path.now named.text.items named.name)) c.in-Some.is
    c.in-Ok.ensures.some in
    inl (
      c.in-Some.named.text.items,
      c.in-Some.named.name,
      named.1,
      inr (
        unread_at _ _ _ _ _ _ c.most_read.ensures c.in-Err.ensures,
        c.turn_down-in-Err.ensures,
      ),
    )
