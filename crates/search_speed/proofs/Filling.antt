-- A table that is filled by the calls of a function at each index.
use Rattle.std.proofs.Common.{◌≡◌, ℕ, ◌<◌, List}
use denote.Param.Members.{Mut, Called}
use Rattle.std.specs.Array.{IsFromFnResult}
use Rattle.std.proofs.lemmas.List.FromFn.{fill_by_all}
use Rattle.search_speed.specs.Tables.{table}

pub filled : {F X : Type 0} (g : Mut F (ℕ × Unit {0}) X) (f : ℕ → X) (s : F) (xs : List X) → IsFromFnResult g s xs 256
    → ((k : ℕ) (p : F) (x : X) (q : F) → k < 256 → Called g p (k, tt) x q → x ≡ f k) → xs ≡ table f
filled g f s xs is calls = fill_by_all f xs 256 (f 0) is.long (λ k h. let call = is.at k (f 0) h in calls k call.0 _ call.1 h call.2)
