-- Uses that move, and record places that are written.
use Rattle.std.proofs.Common.{◌≡◌, ℕ, zero, suc, ◌+◌, ◌-◌, ◌<◌, ◌≤◌, false, ◌⊎◌, List, [], ◌∷◌, ◌++◌, map, length, get_or, take, drop, sym, refl, ap, ◌∙◌, ⊎_elim, le_of_suc-le-suc, not-suc-le-zero, add-zero, arith}
use Rattle.std.proofs.lemmas.List.{length-take, length-take-le, length-drop, length-append, get_or-take, get_or-drop, get_or-append_right, ext_get_or, take_at, drop_at, get_or_append_left}
use Rattle.net.specs.declared.records.record.Record.{Record}
use Rattle.floor_types.specs.declared.places.RecordPlace.{RecordPlace}
use Rattle.runs.specs.Worlds.{record_in, uses_by, written, fresh, remarked}

pub uses_length : (f : ℕ → ℕ → ℕ) (p : ℕ) (us : List ℕ) → length (uses_by f p us) ≡ length us
uses_length f p [] = refl
uses_length f p (u ∷ us) = ap suc (uses_length f (suc p) us)

uses_from : (f : ℕ → ℕ → ℕ) (p : ℕ) (us : List ℕ) (i : ℕ) → i < length us → get_or (uses_by f p us) i 0 ≡ f (p + i) (get_or us i 0)
uses_from f p [] i h = absurd (not-suc-le-zero h)
uses_from f p (u ∷ us) zero h = ap (λ q. f q u) (sym (add-zero p))
uses_from f p (u ∷ us) (suc i) h = uses_from f (suc p) us i (le_of_suc-le-suc h) ∙ ap (λ q. f q (get_or us i 0)) (omega arith)

pub uses_at : (f : ℕ → ℕ → ℕ) (us : List ℕ) (i : ℕ) → i < length us → get_or (uses_by f 0 us) i 0 ≡ f i (get_or us i 0)
uses_at f us i h = uses_from f 0 us i h ∙ ap (λ q. f q (get_or us i 0)) (omega arith)

module _ (at : ℕ) (new rs : List RecordPlace) (fits : at + length new ≤ length rs) where
  front : length (take at rs) ≡ at
  front = length-take-le at rs (omega arith)

  pub written_length : length (written at new rs) ≡ length rs
  written_length =
      length-append (take at rs) (new ++ drop (at + length new) rs)
      ∙ omega (arith, front, length-append new (drop (at + length new) rs), length-drop (at + length new) rs)

  pub written_own : take (length new) (drop at (written at new rs)) ≡ new
  written_own = ap (take (length new)) (drop_at (take at rs) (new ++ drop (at + length new) rs) at front) ∙ take_at new (drop (at + length new) rs) (length new) refl

  module _ (d : RecordPlace) where
    pub written_before : (p : ℕ) → p < at → get_or (written at new rs) p d ≡ get_or rs p d
    written_before p h = get_or_append_left (take at rs) (new ++ drop (at + length new) rs) d p (omega (arith, front)) ∙ get_or-take at rs p d h

    pub written_after : (p : ℕ) → at + length new ≤ p → get_or (written at new rs) p d ≡ get_or rs p d
    written_after p h =
        get_or-append_right (take at rs) (new ++ drop (at + length new) rs) at p d front (omega arith)
        ∙ get_or-append_right new (drop (at + length new) rs) (length new) (p - at) d refl (omega arith)
        ∙ get_or-drop (at + length new) rs (p - at - length new) d
        ∙ ap (λ q. get_or rs q d) (omega arith)

  -- c places from b on, that stand before or after what is written
  pub written_other : (b c : ℕ) → (b + c ≤ at) ⊎ (at + length new ≤ b) → take c (drop b (written at new rs)) ≡ take c (drop b rs)
  written_other b c o = ext_get_or no_record (take c (drop b (written at new rs))) (take c (drop b rs)) same_length one
    where
      no_record : RecordPlace
      no_record = record { tile = 0; parent = 0; sink = false; mark = 0 }

      same_length : length (take c (drop b (written at new rs))) ≡ length (take c (drop b rs))
      same_length = simp (length-take, length-drop) (ap (λ n. Prim.Native.Nat.min c (n - b)) written_length)

      one : (i : ℕ) → i < length (take c (drop b (written at new rs))) → get_or (take c (drop b (written at new rs))) i no_record ≡ get_or (take c (drop b rs)) i no_record
      one i h =
          let k : i < c = omega (arith, length-take c (drop b (written at new rs))) in
          get_or-take c (drop b (written at new rs)) i no_record k
          ∙ get_or-drop b (written at new rs) i no_record
          ∙ ⊎_elim (λ (q : b + c ≤ at). written_before no_record (b + i) (omega arith)) (λ (q : at + length new ≤ b). written_after no_record (b + i) (omega arith)) o
          ∙ sym (get_or-drop b rs i no_record)
          ∙ sym (get_or-take c (drop b rs) i no_record k)

pub fresh_length : (r : List Record) → length (fresh r) ≡ length r
fresh_length [] = refl
fresh_length (s ∷ r) = ap suc (fresh_length r)

pub fresh_route : (r : List Record) → map record_in (fresh r) ≡ r
fresh_route [] = refl
fresh_route (s ∷ r) = ap {B = List Record} (λ q. s ∷ q) (fresh_route r)

pub fresh_marks : (r : List Record) (i : ℕ) → get_or (map (λ p. p.mark) (fresh r)) i 0 ≡ 0
fresh_marks [] i = refl
fresh_marks (s ∷ r) zero = refl
fresh_marks (s ∷ r) (suc i) = fresh_marks r i

pub remarked_length : (ms : List ℕ) (ps : List RecordPlace) → length (remarked ms ps) ≡ length ps
remarked_length [] [] = refl
remarked_length [] (p ∷ ps) = ap suc (remarked_length [] ps)
remarked_length (m ∷ ms) [] = refl
remarked_length (m ∷ ms) (p ∷ ps) = ap suc (remarked_length ms ps)

pub remarked_route : (ms : List ℕ) (ps : List RecordPlace) → map record_in (remarked ms ps) ≡ map record_in ps
remarked_route [] [] = refl
remarked_route [] (p ∷ ps) = ap {B = List Record} (λ q. record_in p ∷ q) (remarked_route [] ps)
remarked_route (m ∷ ms) [] = refl
remarked_route (m ∷ ms) (p ∷ ps) = ap {B = List Record} (λ q. record_in p ∷ q) (remarked_route ms ps)

pub remarked_marks : (ms : List ℕ) (ps : List RecordPlace) → length ms ≡ length ps → map (λ p. p.mark) (remarked ms ps) ≡ ms
remarked_marks [] [] h = refl
remarked_marks [] (p ∷ ps) h = absurd (omega arith)
remarked_marks (m ∷ ms) [] h = absurd (omega arith)
remarked_marks (m ∷ ms) (p ∷ ps) h = ap {B = List ℕ} (λ q. m ∷ q) (remarked_marks ms ps (omega arith))

pub remarked_clear : (ps : List RecordPlace) (i : ℕ) → get_or (map (λ p. p.mark) (remarked [] ps)) i 0 ≡ 0
remarked_clear [] i = refl
remarked_clear (p ∷ ps) zero = refl
remarked_clear (p ∷ ps) (suc i) = remarked_clear ps i
