use Rattle.std.proofs.Common.{rules}
use Rattle.collection.proofs.NameLaws.{pushed_plain}
use Rattle.collection.proofs.host_names.push_if_plain.Goals as goal

pub returns : goal.returns
returns c bytes = pushed_plain c.args.text.now.items c.push.new.self.items c.args.room c.args.byte
    c.to_ascii_uppercase-byte.result bytes (search rules) (search rules) (search rules) (search rules)
