-- Loops over the records but for the first, each with its index.
use Rattle.std.proofs.Common.{◌≡◌, ℕ, ◌+◌, ◌-◌, ◌<◌, List, length, get_or, drop, Some, None, Option, Iter, Bor, ap, ◌∙◌, arith}
use Rattle.std.specs.declared.iter.Enumerate.{Enumerate}
use Rattle.std.specs.declared.iter.Skip.{Skip}
use Rattle.std.specs.Iterator.{Yields}
use Rattle.std.specs.Iterator.Adapters.{skip_source, skip_count, skip_steps, enumerate_source, enumerate_count, enumerate_steps}
use Rattle.std.specs.List.{enumerate_from}
use Rattle.std.specs.Slice.Iter.{iter_rest}
use Rattle.std.proofs.iter.Yields.{fronts}
use Rattle.std.proofs.lemmas.Iterator.{YieldsList-from_slice}
use Rattle.std.proofs.lemmas.Iterator.Adapters.{YieldsList-from_skip}
use Rattle.std.proofs.lemmas.Iterator.Consumers.{YieldsList-from_enumerate, YieldsList-turn, YieldsList-end}
use Rattle.std.proofs.lemmas.List.{length-drop, get_or-drop, get_or_default}
use Rattle.std.proofs.lemmas.List.FromFn.{length-enumerate_from, get_or-enumerate_from}
use Rattle.net.specs.declared.records.record.Record.{Record}
use Rattle.net.specs.Routes.{no_record}

module _ (rs : List Record) where
  abbrev after_first : List (ℕ × Record)
  after_first = drop 1 (enumerate_from 0 rs)

  long : length after_first ≡ length rs - 1
  long = length-drop 1 (enumerate_from 0 rs) ∙ ap (λ n. n - 1) (length-enumerate_from 0 rs)

  at_place : (n k : ℕ) (r : Record) → (n < length after_first) × ((k, r) ≡ get_or after_first n (k, r)) → (k ≡ n + 1) × (k < length rs) × (r ≡ get_or rs k no_record)
  at_place n k r h =
      let within : 1 + n < length rs = omega (arith, h.0, long) in
      let is : (k, r) ≡ (0 + (1 + n), get_or rs (1 + n) r) = h.1 ∙ get_or-drop 1 (enumerate_from 0 rs) n (k, r) ∙ get_or-enumerate_from 0 rs (1 + n) (k, r) within in
      placed n k r within (ap (λ (p : ℕ × Record). p.0) is) (ap (λ (p : ℕ × Record). p.1) is)
    where
      placed : (n k : ℕ) (r : Record) → 1 + n < length rs → k ≡ 0 + (1 + n) → r ≡ get_or rs (1 + n) r → (k ≡ n + 1) × (k < length rs) × (r ≡ get_or rs k no_record)
      placed n k r within index is =
          let swap : 1 + n ≡ k = omega arith in
          (omega arith, omega arith, is ∙ get_or_default rs (1 + n) r no_record within ∙ ap (λ i. get_or rs i no_record) swap)

  module _ (s : Skip (Enumerate (Iter Record))) (all : iter_rest (enumerate_source (skip_source s)) ≡ rs) (zero : enumerate_count (skip_source s) ≡ 0) (one : skip_count s ≡ 1)
      (xs : List (ℕ × Bor Record)) (t : Skip (Enumerate (Iter Record))) (yields : Yields (skip_steps (enumerate_steps fronts)) s xs t) (r : Option (ℕ × Bor Record)) (u : Skip (Enumerate (Iter Record))) where
    -- one record more, with its index
    pub next_turn : (k : ℕ) (x : Bor Record) → r ≡ Some (k, x) → skip_steps (enumerate_steps fronts) t r u → (k ≡ length xs + 1) × (k < length rs) × (x.now ≡ get_or rs k no_record)
    next_turn k x is step = at_place (length xs) k x.now (YieldsList-turn (YieldsList-from_skip 1 (YieldsList-from_enumerate (YieldsList-from_slice rs all) zero) one) xs t yields r u (k, x) is step)

    -- no record is left
    pub last_turn : r ≡ None → skip_steps (enumerate_steps fronts) t r u → 0 < length rs → length xs + 1 ≡ length rs
    last_turn is step some = omega (arith, (YieldsList-end (YieldsList-from_skip 1 (YieldsList-from_enumerate (YieldsList-from_slice rs all) zero) one) xs t yields r u is step).1, long, some)
