-- Pointers as loops go over them: each is a run.
use Rattle.std.proofs.Common.{◌≡◌, ℕ, zero, suc, ◌<◌, List, [], ◌∷◌, length, get_or, sym, subst, arith}
use Rattle.std.specs.List.{AllByRecursion}
use Rattle.spec_image.specs.Common.{IsRun}
use Rattle.retrieval.specs.Common.{run_of, runs_of}

-- each of them is one
pub run_at : (words : List ℕ) (i word : ℕ) → i < length words → word ≡ get_or words i word
    → AllByRecursion IsRun (runs_of words) → IsRun (run_of word)
run_at [] i word below is all = absurd (omega arith)
run_at (first ∷ words) zero word below is all = subst (λ (n : ℕ). IsRun (run_of n)) (sym is) all.0
run_at (first ∷ words) (suc i) word below is all = run_at words i word (omega arith) is all.1
