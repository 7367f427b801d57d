-- The count of buffers: each mark adds its own, and at the end the table holds what the tiles need.
use Rattle.std.proofs.Common.{◌≡◌, ℕ, zero, suc, ◌+◌, ◌*◌, ◌<◌, ◌≤◌, Bool, true, false, cond, eqb, List, map, length, get_or, set, replicate, sym, refl, ap, ◌∙◌, subst, ⊎_elim, add-one, arith}
use Rattle.std.specs.Int.{from_bool}
use Rattle.std.specs.List.{range_with_len}
use Rattle.std.proofs.lemmas.List.FromFn.{fill_by_all, get_or-map-range_with_len}
use Rattle.std.proofs.lemmas.List.{length-set, length-replicate, get_or-replicate, get_or-set_same, get_or-set_other}
use Rattle.std.proofs.lemmas.Bool.{eq-eqb, ne_eqb, cases_eq}
use Rattle.net.specs.declared.records.record.Record.{Record}
use Rattle.grid.specs.declared.shape.Grid.{Grid}
use Rattle.net.specs.declared.records.Route.{Route}
use Rattle.net.specs.Checked.{records_of}
use Rattle.net.specs.Proper.{Proper}
use Rattle.net.proofs.Properly.{proper}
use Rattle.net.specs.Routes.{parent_of}
use Rattle.length_rule.specs.Children.{indices, sum_over}
use Rattle.length_rule.specs.Gates.{buffers_at, standing_at, need}
use Rattle.length_rule.specs.Lengths.{hanging, entering}
use Rattle.length_rule.specs.Marks.{has_head, has_trunk, mark_at, head_at, trunk_at}
use Rattle.length_rule.proofs.Local.{standing_parts}
use Rattle.plan.specs.Tally.{Tallied}

-- a parent is an index of the route
pub parent_in : (g : Grid) (rs : List Record) → Proper g rs → (i : ℕ) → i < length rs → parent_of rs i < 256
parent_in g rs p zero h = omega (arith, p.driver)
parent_in g rs p (suc i) h = omega (arith, p.earlier (suc i) (omega arith) h, p.not_many)

-- one entry raised
abbrev pub raised : List ℕ → ℕ → Bool → List ℕ
raised xs i b = set xs i (get_or xs i 0 + cond b 1 0)

pub raised_at : (xs : List ℕ) (i j : ℕ) (b : Bool) → i < length xs → get_or (raised xs i b) j 0 ≡ get_or xs j 0 + cond b (cond (eqb i j) 1 0) 0
raised_at xs i j b h =
    ⊎_elim
    (λ (e : j ≡ i).
    subst (λ (x : ℕ). get_or (raised xs i b) x 0 ≡ get_or xs x 0 + cond b (cond (eqb i x) 1 0) 0) (sym e)
    (get_or-set_same xs i (get_or xs i 0 + cond b 1 0) 0 h ∙ ap (λ (t : Bool). get_or xs i 0 + cond b (cond t 1 0) 0) (sym (eq-eqb i i refl))))
    (λ (e : j ≡ i → ⊥).
    get_or-set_other xs i j (get_or xs i 0 + cond b 1 0) 0 e ∙ (same b ∙ ap (λ (t : Bool). get_or xs j 0 + cond b (cond t 1 0) 0) (sym (ne_eqb i j (λ d. e (sym d))))))
    (cases_eq j i)
  where
    same : (c : Bool) → get_or xs j 0 ≡ get_or xs j 0 + cond c (cond false 1 0) 0
    same true = omega arith
    same false = omega arith

pub raised_length : (xs : List ℕ) (i : ℕ) (b : Bool) → length (raised xs i b) ≡ length xs
raised_length xs i b = length-set xs i (get_or xs i 0 + cond b 1 0)

module _ (rs : List Record) (ms : List ℕ) where
  two_at_most : (j m : ℕ) → standing_at j (buffers_at rs ms m) ≤ 2
  two_at_most j m = omega (arith, standing_parts j (mark_at ms m) (parent_of rs m) m (hanging rs ms m) (entering rs ms m), one (head_at ms m) (eqb (parent_of rs m) j), one (trunk_at ms m) (eqb m j))
    where
      one : (a b : Bool) → cond a (cond b 1 0) 0 ≤ 1
      one true true = omega arith
      one true false = omega arith
      one false b = omega arith

  few : (j k : ℕ) → sum_over (indices k) (λ m. standing_at j (buffers_at rs ms m)) ≤ 2 * k
  few j zero = omega arith
  few j (suc k) = omega (arith, two_at_most j k, few j k)

  pub tallied_small : (k j : ℕ) (needs : List ℕ) → k ≤ 256 → j < 256 → Tallied rs ms k needs → get_or needs j 0 ≤ 512
  tallied_small k j needs h l t = omega (arith, t.each j l, few j k)

  pub tallied_none : Tallied rs ms 0 (replicate 256 0)
  tallied_none = record { size = length-replicate {A = ℕ} 256 0; each = λ j h. get_or-replicate 256 j 0 0 h }

  pub tallied_more : (k : ℕ) (needs : List ℕ) → k < 256 → parent_of rs k < 256 → Tallied rs ms k needs → Tallied rs ms (k + 1) (raised (raised needs (parent_of rs k) (head_at ms k)) k (trunk_at ms k))
  tallied_more k needs h p t = record {
    size = raised_length (raised needs (parent_of rs k) (head_at ms k)) k (trunk_at ms k) ∙ (raised_length needs (parent_of rs k) (head_at ms k) ∙ t.size);
    each = λ j l.
        subst (λ (n : ℕ). get_or (raised (raised needs (parent_of rs k) (head_at ms k)) k (trunk_at ms k)) j 0 ≡ sum_over (indices n) (λ m. standing_at j (buffers_at rs ms m))) (sym (add-one k))
        (raised_at (raised needs (parent_of rs k) (head_at ms k)) k j (trunk_at ms k) (omega (arith, raised_length needs (parent_of rs k) (head_at ms k), t.size))
        ∙ omega (arith, raised_at needs (parent_of rs k) j (head_at ms k) (omega (arith, t.size)), t.each j l, standing_parts j (mark_at ms k) (parent_of rs k) k (hanging rs ms k) (entering rs ms k)));
  }

  pub tallied_all : (needs : List ℕ) → Tallied rs ms (length rs) needs → needs ≡ map (need rs ms) (range_with_len 0 256)
  tallied_all needs t = fill_by_all (need rs ms) needs 256 0 t.size t.each

pub one_for : (b : Bool) → from_bool b ≡ cond b 1 0
one_for true = refl
one_for false = refl

-- The next mark counted: the record at k names the parent p, and h and t are 1 where the mark sets a head and a trunk buffer.
module _ (r : Route) {rs : List Record} {ms needs : List ℕ} {k p : ℕ} (same : rs ≡ records_of r) (here : k < length rs) (w : Tallied (records_of r) ms k needs) (names : p ≡ parent_of rs k) where
  within : k < length (records_of r)
  within = omega (arith, here, ap length same)

  small : k < 256
  small = omega (arith, within, (proper r).not_many)

  parent : p ≡ parent_of (records_of r) k
  parent = names ∙ ap (λ (xs : List Record). parent_of xs k) same

  at_most_one : (b : Bool) → cond b 1 0 ≤ 1
  at_most_one true = omega arith
  at_most_one false = omega arith

  pub in_table : p < 256
  in_table = omega (arith, parent, parent_in r.grid (records_of r) (proper r) k within)

  module _ {m h : ℕ} {a : Bool} (mark : m ≡ mark_at ms k) (head : a ≡ has_head m) (head_one : h ≡ from_bool a) where
    heads : h ≡ cond (head_at ms k) 1 0
    heads = head_one ∙ (one_for a ∙ ap (λ (b : Bool). cond b 1 0) (head ∙ ap has_head mark))

    pub first_small : get_or needs p 0 + h ≤ 513
    first_small = omega (arith, tallied_small (records_of r) ms k p needs (omega (arith, small)) in_table w, heads, at_most_one (head_at ms k))

    once : set needs p (get_or needs p 0 + h) ≡ raised needs (parent_of (records_of r) k) (head_at ms k)
    once = λ i. set needs (parent i) (get_or needs (parent i) 0 + heads i)

    module _ {t : ℕ} {b : Bool} (trunk : b ≡ has_trunk m) (trunk_one : t ≡ from_bool b) where
      trunks : t ≡ cond (trunk_at ms k) 1 0
      trunks = trunk_one ∙ (one_for b ∙ ap (λ (x : Bool). cond x 1 0) (trunk ∙ ap has_trunk mark))

      pub second_small : get_or (set needs p (get_or needs p 0 + h)) k 0 + t ≤ 514
      second_small =
          omega (
            arith,
            ap (λ (xs : List ℕ). get_or xs k 0) once,
            raised_at needs (parent_of (records_of r) k) k (head_at ms k) (omega (arith, w.size, parent, in_table)),
            tallied_small (records_of r) ms k k needs (omega (arith, small)) small w,
            one (head_at ms k) (eqb (parent_of (records_of r) k) k),
            trunks,
            at_most_one (trunk_at ms k),
          )
        where
          one : (x y : Bool) → cond x (cond y 1 0) 0 ≤ 1
          one true y = at_most_one y
          one false y = omega arith

      pub counted_more : Tallied (records_of r) ms (k + 1) (set (set needs p (get_or needs p 0 + h)) k (get_or (set needs p (get_or needs p 0 + h)) k 0 + t))
      counted_more =
          subst (λ (xs : List ℕ). Tallied (records_of r) ms (k + 1) xs) (sym (λ i. set (once i) k (get_or (once i) k 0 + trunks i)))
          (tallied_more (records_of r) ms k needs small (omega (arith, parent, in_table)) w)

-- the table tells what the tile of index i needs
pub need_told : (r : Route) (ms needed : List ℕ) (i : ℕ) → i < length (records_of r) → needed ≡ map (need (records_of r) ms) (range_with_len 0 256) → get_or needed i 0 ≡ need (records_of r) ms i
need_told r ms needed i h e =
    ap (λ (xs : List ℕ). get_or xs i 0) e ∙ get_or-map-range_with_len (need (records_of r) ms) 0 256 i i 0 (omega (arith, (proper r).not_many)) (omega arith)
