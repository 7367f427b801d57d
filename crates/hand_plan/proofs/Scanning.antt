-- What the scans of a plan made by hand read, at one index, is what the rule says there; and the gates that drive too much,
-- over lists of gates that follow one another.
use Rattle.std.proofs.Common.{◌≡◌, ℕ, ◌<◌, leb, cond, List, [], ◌∷◌, ◌++◌, length, get_or, take, map, Some, None, Option, refl, ap, ◌∙◌, arith}
use Rattle.std.specs.List.{range_with_len}
use Rattle.std.proofs.lemmas.List.{get_or-take, length-take}
use Rattle.net.specs.Checked.{records_of}
use Rattle.net.specs.Lowest.{or_else, unless}
use Rattle.net.specs.Routes.{parent_of}
use Rattle.net.specs.declared.records.Route.{Route}
use Rattle.net.specs.declared.records.record.Record.{Record}
use Rattle.length_rule.specs.declared.Gate.{Gate}
use Rattle.length_rule.specs.declared.PlanFault.{PlanFault}
use Rattle.length_rule.specs.declared.PlanFault.TheVariants.{Drives}
use Rattle.length_rule.specs.Gates.{gates, need}
use Rattle.length_rule.specs.Lengths.{hanging}
use Rattle.length_rule.specs.Marks.{has_trunk, mark_at}
use Rattle.length_rule.specs.Refusals.{over_limit, gate_fault}
use Rattle.plan.proofs.Tallying.{need_told}
use Rattle.plan.proofs.Walking.{hanging_told}

or_else_assoc : {F : Type 0} (a b c : Option F) → or_else a (or_else b c) ≡ or_else (or_else a b) c
or_else_assoc (Some x) b c = refl
or_else_assoc None b c = refl

pub over_append : (limit i : ℕ) (xs ys : List Gate) → over_limit limit i (xs ++ ys) ≡ or_else (over_limit limit i xs) (over_limit limit i ys)
over_append limit i [] ys = refl
over_append limit i (g ∷ xs) ys =
    ap (λ (o : Option PlanFault). or_else (unless (leb g.drives limit) (Drives i g.drives)) o) (over_append limit i xs ys)
    ∙ or_else_assoc (unless (leb g.drives limit) (Drives i g.drives)) (over_limit limit i xs) (over_limit limit i ys)

module _ (r : Route) (ms : List ℕ) (i : ℕ) where
  -- the gates of an index, with what hangs there by the table
  pub gates_told : {lengths : List ℕ} {rs : List Record} {gs : List Gate} {m p : ℕ} (limit : ℕ)
      → i < length rs → rs ≡ records_of r → lengths ≡ map (hanging (records_of r) ms) (range_with_len 0 256) → m ≡ mark_at ms i → p ≡ parent_of rs i
      → gs ≡ gates m p i (get_or lengths i 0) (cond (has_trunk m) 0 (get_or lengths i 0)) → over_limit limit i gs ≡ gate_fault limit (records_of r) ms i
  gates_told {lengths = lengths} limit here same told mark parent listed =
      let hung : get_or lengths i 0 ≡ hanging (records_of r) ms i = hanging_told r ms lengths i (omega (arith, here, ap length same)) told in
      let above = parent ∙ ap (λ (xs : List Record). parent_of xs i) same in
      ap (over_limit limit i) (listed ∙ (λ j. gates (mark j) (above j) i (hung j) (cond (has_trunk (mark j)) 0 (hung j))))

  -- what the tile of an index needs, by the table
  pub sites_told : {needed : List ℕ} {rs : List Record} → rs ≡ records_of r → i < length (take (length rs) needed) → needed ≡ map (need (records_of r) ms) (range_with_len 0 256)
      → get_or (take (length rs) needed) i 0 ≡ need (records_of r) ms i
  sites_told {needed = needed} {rs = rs} same here told =
      let within : i < length rs = omega (arith, here, length-take (length rs) needed) in
      get_or-take (length rs) needed i 0 within ∙ need_told r ms needed i (omega (arith, within, ap length same)) told
