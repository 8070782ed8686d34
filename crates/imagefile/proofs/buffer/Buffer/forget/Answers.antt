use Rattle.std.proofs.Common.{◌-◌, ◌≤◌, ℕ, List, [], length, take, sym, subst, refl, arith, length-take}
use Rattle.imagefile.specs.Common.{Inside, HeldBytes, IsHeld}
use Rattle.imagefile.proofs.Buffers.{none_held, beside_held}
use Rattle.imagefile.proofs.buffer.Buffer.forget.Goals as goal

-- The bytes that change end before those of the buffer, or begin after them.
apart_before : (from at count : ℕ) (held : List ℕ) → count ≤ from - at → at ≤ from → (p : ℕ)
    → Inside from (length held) p → Inside at count p → ⊥
apart_before from at count held past order p there here = omega (arith, there.low, here.high)

apart_after : (from at count long : ℕ) (room : List ℕ) → long ≤ at - from → from ≤ at → (p : ℕ)
    → Inside from (length (take long room)) p → Inside at count p → ⊥
apart_after from at count long room past order p there here =
    omega (arith, there.high, here.low, length-take long room)

pub returns-then-at-self : goal.returns-then-at-self
returns-then-at-self c b now others held =
    let inside = c.self.inside in
    let view : HeldBytes = record { at = inside.at; bytes = take inside.held inside.room.items } in
    subst (IsHeld now) c.self.view_is (beside_held b now view c.args.at c.args.count others
    (apart_before inside.at c.args.at c.args.count view.bytes (omega arith) c.if-at-self.true)
    (subst (IsHeld b) (sym c.self.view_is) held))

pub returns-then-self-at : goal.returns-then-self-at
returns-then-self-at c b now others held =
    let inside = c.self.inside in
    let view : HeldBytes = record { at = inside.at; bytes = take inside.held inside.room.items } in
    subst (IsHeld now) c.self.view_is (beside_held b now view c.args.at c.args.count others
    (apart_after inside.at c.args.at c.args.count inside.held inside.room.items (omega arith) c.if-self-at.true)
    (subst (IsHeld b) (sym c.self.view_is) held))

pub returns : goal.returns
returns c b now others held = none_held now (record { at = c.self.inside.at; bytes = [] }) refl
