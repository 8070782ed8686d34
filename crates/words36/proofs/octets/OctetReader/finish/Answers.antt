use Rattle.std.proofs.Common.{rules, ◌≡◌, ◌∙◌, ◌++◌, take, sym, ap}
use Rattle.std.specs.Prelude.{Some, unwrap_or}
use Rattle.words36.specs.Common.{four_octets}
use Rattle.words36.proofs.OctetReaderLaws.{has_found, has_none}
use Rattle.words36.proofs.octets.OctetReader.finish.Goals as goal

pub returns-in_default-clause-none : goal.returns-in_default-clause-none
returns-in_default-clause-none c = λ words read. has_none c.args.self words read c.in_default.ensures.none

pub returns-then-not-self-clause-no_room : goal.returns-then-not-self-clause-no_room
returns-then-not-self-clause-no_room c = λ words read.
    (_, has_found c.args.self words c.in-Some.count read c.in-Some.ensures.some c.in-Some.ensures.empty)

pub returns-in_err-extend_from_slice-clause-no_room :
    goal.returns-in_err-extend_from_slice-clause-no_room
returns-in_err-extend_from_slice-clause-no_room c = λ words read.
    let found = has_found c.args.self words c.in-Some.count read c.in-Some.ensures.some c.in-Some.ensures.empty in
    search rules

pub returns-clause-found : goal.returns-clause-found
returns-clause-found c = λ words read.
    let found = has_found c.args.self words c.in-Some.count read c.in-Some.ensures.some c.in-Some.ensures.empty in
    let before = read.bytes (search rules) in
    let more : c.extend_from_slice.new.self.items ≡ c.args.self.bytes.items
    ++ take c.in-Some.count (four_octets (unwrap_or c.args.self.last 0)) = search rules in
    found ∙ ap (λ l. Some (l ++ take c.in-Some.count (four_octets (unwrap_or c.args.self.last 0)))) (sym before)
    ∙ ap (λ l. Some l) (sym more)
