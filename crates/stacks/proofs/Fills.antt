-- Where nothing is spare, nothing is taken.
use Rattle.std.proofs.Common.{◌≡◌, ℕ, ◌+◌, Bool, true, false, cond, List, refl, ap, ◌∙◌, arith}
use lib.Seq.{set-get_or}
use Rattle.stock.specs.Calls.{exists, with_use}
use Rattle.stock.specs.Meaning.{Meaning, spare, used}
use Rattle.stacks.specs.Filling.{filled}

either_way : (b : Bool) (m n : Meaning) → n ≡ m → cond b n m ≡ m
either_way true m n e = e
either_way false m n e = refl

pub nothing_spare : (m : Meaning) (place : ℕ) → spare m place ≡ 0 → filled m place ≡ m
nothing_spare m place h =
    let same : used m place + spare m place ≡ used m place = omega arith in
    either_way (exists m place) m (with_use m place (used m place + spare m place))
    (ap (with_use m place) same ∙ ap (λ (l : List ℕ). let n : Meaning = record { capacities = m.capacities; uses = l } in n) (set-get_or m.uses place 0))
