-- A moment is its date and its minute.
use Rattle.std.proofs.Common.{◌≡◌, ℕ, ◌+◌, ◌*◌, ◌/◌, ◌%◌, ◌^◌, ◌≤◌, sym, ap, subst, ◌∙◌, arith, ◌↔◌, Some, Result, Ok}
use Rattle.std.proofs.Common.{Err, IfOk, IsOk}
use Rattle.std.specs.Result.{result_ok}
use Rattle.std.proofs.Math.Bridge.{le_prop}
use Rattle.words36.specs.declared.moment.Moment.{Moment}

abbrev at : (date minute : ℕ) → date ≤ 32767 → minute ≤ 1439 → Moment
at date minute d m = record { date = date; minute = minute; date_in_range = d; minute_in_range = m }

-- two moments of one date and minute are one
pub one_moment : (m n : Moment) → m.date ≡ n.date → m.minute ≡ n.minute → m ≡ n
one_moment m n dates minutes = subst
    (λ (date : ℕ). (d : date ≤ 32767) → m ≡ at date n.minute d n.minute_in_range)
    dates (λ d. subst (λ (minute : ℕ). (e : minute ≤ 1439) → m ≡ at m.date minute d e) minutes
    (λ e. same m d e) n.minute_in_range) n.date_in_range
  where
    same : (m : Moment) (d : m.date ≤ 32767) (e : m.minute ≤ 1439) → m ≡ at m.date m.minute d e
    same m d e =
        ap (λ (x : m.date ≤ 32767). at m.date m.minute x m.minute_in_range) (le_prop m.date_in_range d)
        ∙ ap (λ (y : m.minute ≤ 1439). at m.date m.minute d y) (le_prop m.minute_in_range e)

-- the date and the minute in a number
pub parts_of : (date minute n : ℕ) → minute ≤ 1439 → date * 2 ^ 16 + minute ≡ n
    → (date ≡ n / 65536) × (minute ≡ n % 65536)
parts_of date minute n few is = (omega arith, omega arith)

-- if a moment is made of a number that is a moment's, it is that moment
pub moment_made : {E : Type 0} (r : Result Moment E) (date minute : ℕ) → IfOk r (λ m. m.date ≡ date)
    → IfOk r (λ m. m.minute ≡ minute) → (IsOk r ↔ ((date ≤ 32767) × (minute ≤ 1439))) → (m : Moment)
    → m.date ≡ date → m.minute ≡ minute → result_ok r ≡ Some m
moment_made (Ok x) date minute dates minutes made m d e = ap (λ (y : Moment). Some y)
    (one_moment x m (dates ∙ sym d) (minutes ∙ sym e))
moment_made (Err e) date minute dates minutes made m d n =
    let ok = made.1 (
      subst (λ (x : ℕ). x ≤ 32767) d m.date_in_range,
      subst (λ (x : ℕ). x ≤ 1439) n m.minute_in_range,
    ) in
    cc
