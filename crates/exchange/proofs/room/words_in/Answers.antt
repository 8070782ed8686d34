use Rattle.std.proofs.Common.{◌≡◌, ℕ, ap, arith, OkIff, Result, Ok, Err, Some}
use Rattle.std.specs.Result.{result_ok}
use Rattle.spec_machine.specs.declared.area.Area.{Area}
use Rattle.exchange.proofs.ListLaws.{count_more}
use Rattle.exchange.proofs.room.words_in.Goals as goal

tried : {E : Type 0} (r : Result ℕ E) (P : Type 0) (n m : ℕ) → OkIff r P n → Some m ≡ result_ok r → m ≡ n
tried (Ok x) P n m is some = let same = is.1 in cc
tried (Err e) P n m is some = cc

pub loop-area-preserved : goal.loop-area-preserved
loop-area-preserved c =
    let more = count_more c.args.areas.now c.loop-area.area-index c.area-item.result c.loop-area-test.true
    c.area-item.is in
    let count = tried c.try_from.result _ c.area.inside.count c.in_ok-ok.field-0 c.try_from.ensures
    c.in_ok-ok.ensures.value in
    let seen = ap (λ (a : Area). a.count) c.area.view_is in
    omega (arith, c.in_ok-words.ensures.1)
