use Rattle.std.proofs.Common.{◌≡◌, ◌∙◌, ◌++◌, ℕ, ℤ, List, IfOk, codes, string_bytes, ap, sym, subst, append_assoc}
use Rattle.std.proofs.Common.{w64, FitsSigned, ◌<◌, ◌^◌, arith}
use Rattle.std.proofs.lemmas.Int.{to_z-of_z, ints}
use Rattle.std.specs.Int.Signed.{mag}
use Rattle.std.specs.Fmt.{decimal, signed_decimal}
use Rattle.spec_language.specs.Common.{line}
use Rattle.commands.proofs.text.volume_line.Goals as goal

fits : (z : ℤ) → mag z < 2 ^ 63 → FitsSigned w64 z
fits z few = search (arith, ints)

pub returns : goal.returns
returns c =
    let front = codes "Volume of " in
    let middle = codes " blocks, room " in
    let blocks = decimal c.args.blocks in
    let room = signed_decimal c.args.room in
    let said : string_bytes c.in_ok-text.text ≡ front ++ (blocks ++ (middle ++ room)) = c.in_ok-text.ensures.ok
    ∙ ap (λ (z : ℤ). front ++ (blocks ++ (middle ++ signed_decimal z))) (to_z-of_z w64 c.args.room
    (fits c.args.room c.ranges.room.sfits)) in
    let joined : front ++ (blocks ++ (middle ++ room)) ≡ front ++ blocks ++ middle ++ room =
    sym (append_assoc front blocks (middle ++ room)) ∙ sym (append_assoc (front ++ blocks) middle room) in
    subst (λ (t : List ℕ). IfOk c.line.result (λ bytes. bytes.items ≡ line t))
    (c.as_str.ensures.value ∙ said ∙ joined) c.line.ensures
