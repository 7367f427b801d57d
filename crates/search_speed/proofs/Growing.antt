-- The list of the records that stand grows as the table does in which they stand: the table is that list, and the driver's
-- record in each place behind it.
use Rattle.std.proofs.Common.{◌≡◌, ℕ, ◌+◌, ◌-◌, ◌≤◌, Bool, true, false, cond, List, ◌++◌, length, take, drop, replicate, set, ltb, Some, None, Option, sym, refl, ap, ◌∙◌, arith, length-set, length-take-le}
use Rattle.std.proofs.lemmas.List.{take_more_set, drop-set-lt, drop-drop, drop-replicate, take-append-drop}
use Rattle.std.proofs.lemmas.Bool.Decides.{nat_tests}
use Rattle.grid.specs.declared.shape.Grid.{Grid}
use Rattle.net.specs.declared.records.record.Record.{Record}
use Rattle.search_speed.specs.Tree.{added, counted, records_after, count_after, driver, one_more, standing_after, sprout}

pub record Grows (rs : List Record) (count : ℕ) (list : List Record) : Type 0 where
  pub same : list ≡ take count rs
  pub few : count ≤ 256
  pub all : length rs ≡ 256
  pub behind : drop count rs ≡ replicate (256 - count) driver

-- what is behind the records once one more stands
behind_more : (rs : List Record) (count : ℕ) (r : Record) → drop count rs ≡ replicate (256 - count) driver
    → drop (count + 1) (set rs count r) ≡ replicate (256 - (count + 1)) driver
behind_more rs count r behind =
    let fewer : 256 - count - 1 ≡ 256 - (count + 1) = omega arith in
    drop-set-lt (count + 1) rs count r (omega arith)
    ∙ (sym (drop-drop 1 count rs)
    ∙ (ap (drop 1) behind ∙ (drop-replicate 1 (256 - count) driver ∙ ap (λ n. replicate n driver) fewer)))

at : (rs : List Record) (count : ℕ) (o : Option Record) (b : Bool) → ltb count 256 ≡ b → count ≤ 256 → length rs ≡ 256 → drop count rs ≡ replicate (256 - count) driver
    → Grows (cond b (added rs count o) rs) (cond b (counted count o) count) (cond b (one_more (take count rs) o) (take count rs))
at rs count None true t few all behind = record { same = refl; few = few; all = all; behind = behind }
at rs count (Some r) true t few all behind =
    let below : count + 1 ≤ 256 = grind (arith, nat_tests) in
    record { same = sym (take_more_set rs count r (omega arith)); few = below; all = length-set rs count r ∙ all; behind = behind_more rs count r behind }
at rs count None false t few all behind = record { same = refl; few = few; all = all; behind = behind }
at rs count (Some r) false t few all behind = record { same = refl; few = few; all = all; behind = behind }

pub grows : (g : Grid) (rs : List Record) (count dice : ℕ) → count ≤ 256 → length rs ≡ 256 → drop count rs ≡ replicate (256 - count) driver
    → Grows (records_after g rs count dice) (count_after g rs count dice) (standing_after g (take count rs) dice)
grows g rs count dice few all behind =
    let long : length (take count rs) ≡ count = length-take-le count rs (omega arith) in
    let o : Option Record = sprout g (take count rs) dice in
    let whole = at rs count o (ltb count 256) refl few all behind in
    record {
      same = ap (λ n. cond (ltb n 256) (one_more (take count rs) o) (take count rs)) long ∙ whole.same
          ∙ ap (λ n. take (cond (ltb count n) (counted count o) count) (cond (ltb count n) (added rs count o) rs)) (sym all);
      few = rw all whole.few;
      all = rw all whole.all;
      behind = rw all whole.behind;
    }

-- the list, written over a table that is full of the driver's record
pub written_over : (rs : List Record) (count : ℕ) (list : List Record) → Grows rs count list → list ++ drop (length list) (replicate 256 driver) ≡ rs
written_over rs count list w =
    let long : length list ≡ count = ap length w.same ∙ length-take-le count rs (omega (arith, w.few, w.all)) in
    ap (λ n. list ++ drop n (replicate 256 driver)) long
    ∙ (ap (λ xs. list ++ xs) (drop-replicate count 256 driver ∙ sym w.behind)
    ∙ (ap (λ xs. xs ++ drop count rs) w.same ∙ take-append-drop count rs))
