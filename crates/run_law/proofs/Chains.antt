-- Entering, and whole runs.
use Rattle.std.proofs.Common.{◌≡◌, ℕ, zero, suc, ◌+◌, ◌<◌, ◌≤◌, true, false, cond, List, [], ◌∷◌, ◌++◌, map, length, get_or, take, drop, Some, None, Ok, Err, Option, Result, sym, refl, ap, ◌∙◌, subst, inl, ⊎_elim, arith}
use Rattle.std.proofs.lemmas.List.{length-set, length-map, get_or-set_same, get_or-set_other, get_or_append_left, get_or_push, length_push}
use Rattle.std.proofs.lemmas.Bool.{cases_lt, cond_both}
use Rattle.grid.specs.Boundaries.{boundary_count}
use Rattle.stock.specs.Meaning.{capacity, used}
use Rattle.net.specs.Largest.{largest_limit}
use Rattle.net.specs.declared.limit.Limit.{Limit}
use Rattle.net.specs.declared.records.record.Record.{Record}
use Rattle.net.specs.Checked.{refused_or}
use Rattle.net.specs.Lowest.{fault_of, nothing_wrong}
use Rattle.net.specs.Proper.{Proper}
use Rattle.net.specs.Routes.{most_records}
use Rattle.net.proofs.Firsts.{nothing_none}
use Rattle.length_rule.specs.Marks.{Plan}
use Rattle.floor_types.specs.declared.places.NetPlace.{NetPlace}
use Rattle.floor_types.specs.declared.places.RecordPlace.{RecordPlace}
use Rattle.floor_types.specs.declared.faults.EntryFault.{EntryFault}
use Rattle.floor_types.specs.declared.faults.PlanningFault.{PlanningFault}
use Rattle.floor_types.specs.declared.faults.FilingFault.{FilingFault}
use Rattle.floor_types.specs.declared.faults.WithdrawalFault.{WithdrawalFault}
use Rattle.runs.specs.Worlds.{World, no_place, place_of, limit_of, first_place, rows_of, record_in, route_of, marks_of, crosses, fresh, with_net, with_seal, with_plan}
use Rattle.runs.specs.Tables.{NetSound, TablesSound}
use Rattle.runs.specs.Histories.{NetTold, History, no_net, net_told, refiled, after_entering, after_filing, after_withdrawing}
use Rattle.runs.specs.Refusals.{entry_fault, filing_fault, withdrawal_fault}
use Rattle.runs.specs.Calls.{Opened, Enters, Plans, Files, Withdraws}
use Rattle.runs.specs.Runs.{Run, opening, entering, sealing, planning, filing, withdrawing, asking, Untouched, Driven}
use Rattle.runs.specs.Exactly.{MayEnter}
use Rattle.run_law.proofs.Rows.{uses_length, uses_at, written_length, written_own, written_other, fresh_length, fresh_route, fresh_marks}
use Rattle.run_law.proofs.Nets.{push_buffers, push_crossing}
use Rattle.runs.specs.Law.{NoRunToFalseBook, TablesStayTrue, HandPlansExact}
use Rattle.runs.proofs.Accepted.{refusals_exact}
use Rattle.runs.proofs.Books.{opened_true}
use Rattle.run_law.proofs.Room.{wires_fit}
use Rattle.run_law.proofs.Keeps.{Kept, file_sound, withdrawn_sound, plan_keeps, none_some}

-- nets past the entered ones have nothing filed
push_listed : (h : History) (n : NetTold) (j : ℕ) (m : List ℕ) → n.filed ≡ None → (net_told (h ++ (n ∷ [])) j).filed ≡ Some m → j < length h
push_listed [] n zero m e g = absurd (none_some n.filed m e g)
push_listed [] n (suc j) m e g = absurd (none_some None m refl g)
push_listed (p ∷ h) n zero m e g = omega arith
push_listed (p ∷ h) n (suc j) m e g = omega (arith, push_listed h n j m e g)

module _ (w : World) (h : History) (s : Kept w h) (limit : Limit) (r : List Record) (q : MayEnter w r) where
  abbrev new_place : NetPlace
  new_place = record { limit = limit.value; records = length r; planned = false }

  abbrev told : NetTold
  told = record { limit = limit.value; route = r; filed = None }

  abbrev after : World
  after = with_net w limit r

  fits : first_place w.entered + length (fresh r) ≤ length w.records
  fits = omega (arith, fresh_length r, s.sizes.records, q.place_left, q.route.not_many)

  place_own : place_of after w.entered ≡ new_place
  place_own = get_or-set_same w.nets w.entered new_place no_place (omega (arith, s.sizes.nets, q.place_left))

  place_other : (j : ℕ) → j < w.entered → place_of after j ≡ place_of w j
  place_other j l = get_or-set_other w.nets w.entered j new_place no_place (λ e. omega arith)

  rows_own : rows_of after w.entered ≡ fresh r
  rows_own =
      ap (λ (c : ℕ). take c (drop (first_place w.entered) after.records)) (ap (λ (p : NetPlace). p.records) place_own ∙ sym (fresh_length r))
      ∙ written_own (first_place w.entered) (fresh r) w.records fits

  rows_other : (j : ℕ) → j < w.entered → rows_of after j ≡ rows_of w j
  rows_other j l =
      ap (λ (c : ℕ). take c (drop (first_place j) after.records)) (ap (λ (p : NetPlace). p.records) (place_other j l))
      ∙ written_other (first_place w.entered) (fresh r) w.records fits (first_place j) (place_of w j).records (inl (omega (arith, (s.each j l).records_fit)))

  route_own : route_of after w.entered ≡ r
  route_own = ap (map record_in) rows_own ∙ fresh_route r

  marks_own : marks_of after w.entered ≡ map (λ p. p.mark) (fresh r)
  marks_own = ap (map (λ p. p.mark)) rows_own

  clear_own : (i : ℕ) → get_or (marks_of after w.entered) i 0 ≡ 0
  clear_own i = ap (λ (v : List ℕ). get_or v i 0) marks_own ∙ fresh_marks r i

  own_sound : NetSound after w.entered
  own_sound = record {
    some_limit = subst (λ (p : NetPlace). 1 ≤ p.limit) (sym place_own) limit.some;
    limit_fits = subst (λ (p : NetPlace). p.limit ≤ largest_limit) (sym place_own) limit.fits;
    some_records = subst (λ (p : NetPlace). 1 ≤ p.records) (sym place_own) q.route.some;
    records_fit = subst (λ (p : NetPlace). p.records ≤ most_records) (sym place_own) q.route.not_many;
    route = subst (Proper w.grid) (sym route_own) q.route;
    plan = record {
      each = ap length marks_own ∙ length-map (fresh r) (λ p. p.mark) ∙ fresh_length r ∙ sym (ap length route_own);
      known = λ i l. omega (arith, clear_own i);
      driver = clear_own 0;
    };
    clear = λ e. clear_own;
  }

  other_sound : (j : ℕ) → j < w.entered → NetSound after j
  other_sound j l = record {
    some_limit = subst (λ (p : NetPlace). 1 ≤ p.limit) (sym (place_other j l)) (s.each j l).some_limit;
    limit_fits = subst (λ (p : NetPlace). p.limit ≤ largest_limit) (sym (place_other j l)) (s.each j l).limit_fits;
    some_records = subst (λ (p : NetPlace). 1 ≤ p.records) (sym (place_other j l)) (s.each j l).some_records;
    records_fit = subst (λ (p : NetPlace). p.records ≤ most_records) (sym (place_other j l)) (s.each j l).records_fit;
    route = subst (λ (v : List RecordPlace). Proper w.grid (map record_in v)) (sym (rows_other j l)) (s.each j l).route;
    plan = subst (λ (v : List RecordPlace). Plan (map record_in v) (map (λ p. p.mark) v)) (sym (rows_other j l)) (s.each j l).plan;
    clear = λ e. subst (λ (v : List RecordPlace). (i : ℕ) → get_or (map (λ p. p.mark) v) i 0 ≡ 0) (sym (rows_other j l)) ((s.each j l).clear (sym (ap (λ (p : NetPlace). p.planned) (place_other j l)) ∙ e));
  }

  -- an earlier net, or the new one
  split : (P : ℕ → Type 0) → ((j : ℕ) → j < w.entered → P j) → P w.entered → (j : ℕ) → j < w.entered + 1 → P j
  split P a b j l = ⊎_elim (λ (e : j < w.entered). a j e) (λ (e : w.entered ≤ j). let i : w.entered ≡ j = omega arith in subst P i b) (cases_lt j w.entered)

  net_old : (j : ℕ) → j < w.entered → net_told (h ++ (told ∷ [])) j ≡ net_told h j
  net_old j l = get_or_append_left h (told ∷ []) no_net j (omega (arith, s.tell.as_many))

  net_new : net_told (h ++ (told ∷ [])) w.entered ≡ told
  net_new = get_or_push h told no_net w.entered s.tell.as_many

  wires_used : (b : ℕ) → b < boundary_count w.grid → used after.wires b ≡ used w.wires b + cond (crosses w.grid r b) 1 0
  wires_used b l = uses_at (λ b u. u + cond (crosses w.grid r b) 1 0) w.wires.uses b (omega (arith, s.wire_uses))

  wires_room : (b : ℕ) → b < boundary_count w.grid → used w.wires b + cond (crosses w.grid r b) 1 0 ≤ capacity w.wires b
  wires_room b l = cond_both (crosses w.grid r b) 1 0 (λ (n : ℕ). used w.wires b + n ≤ capacity w.wires b) (wires_fit w r b q) (λ e. omega (arith, s.book.wires_within b l))

  entered_sound : Kept after (h ++ (told ∷ []))
  entered_sound = record {
    sizes = record {
      sites = s.sizes.sites;
      wires = s.sizes.wires;
      nets = length-set w.nets w.entered new_place ∙ s.sizes.nets;
      records = written_length (first_place w.entered) (fresh r) w.records fits ∙ s.sizes.records;
    };
    site_uses = s.site_uses;
    wire_uses = uses_length (λ b u. u + cond (crosses w.grid r b) 1 0) 0 w.wires.uses ∙ s.wire_uses;
    listed = omega (arith, q.place_left);
    each = split (λ j. NetSound after j) other_sound own_sound;
    tell = record {
      as_many = length_push h told ∙ ap (λ (n : ℕ). n + 1) s.tell.as_many;
      limits = split (λ j. limit_of after j ≡ (net_told (h ++ (told ∷ [])) j).limit)
          (λ j l. ap (λ (p : NetPlace). p.limit) (place_other j l) ∙ s.tell.limits j l ∙ sym (ap (λ (n : NetTold). n.limit) (net_old j l)))
          (ap (λ (p : NetPlace). p.limit) place_own ∙ sym (ap (λ (n : NetTold). n.limit) net_new));
      routes = split (λ j. route_of after j ≡ (net_told (h ++ (told ∷ [])) j).route)
          (λ j l. ap (map record_in) (rows_other j l) ∙ s.tell.routes j l ∙ sym (ap (λ (n : NetTold). n.route) (net_old j l)))
          (route_own ∙ sym (ap (λ (n : NetTold). n.route) net_new));
      filed = λ j m. split (λ i. (net_told (h ++ (told ∷ [])) i).filed ≡ Some m → ((place_of after i).planned ≡ true) × (marks_of after i ≡ m))
          (λ i l g. let a = s.tell.filed i m l (sym (ap (λ (n : NetTold). n.filed) (net_old i l)) ∙ g) in (ap (λ (p : NetPlace). p.planned) (place_other i l) ∙ a.0, ap (map (λ p. p.mark)) (rows_other i l) ∙ a.1))
          (λ g. absurd (none_some None m refl (sym (ap (λ (n : NetTold). n.filed) net_new) ∙ g)))
          j;
      waiting = split (λ i. (net_told (h ++ (told ∷ [])) i).filed ≡ None → ((place_of after i).planned ≡ false) × ((c : ℕ) → get_or (marks_of after i) c 0 ≡ 0))
          (λ i l g. let a = s.tell.waiting i l (sym (ap (λ (n : NetTold). n.filed) (net_old i l)) ∙ g) in (ap (λ (p : NetPlace). p.planned) (place_other i l) ∙ a.0, λ c. ap (λ (v : List RecordPlace). get_or (map (λ p. p.mark) v) c 0) (rows_other i l) ∙ a.1 c))
          (λ g. (ap (λ (p : NetPlace). p.planned) place_own, clear_own));
    };
    book = record {
      sites_exact = λ t l. s.book.sites_exact t l ∙ omega (arith, push_buffers h told t);
      sites_within = s.book.sites_within;
      wires_exact = λ b l. wires_used b l ∙ omega (arith, push_crossing w.grid h told b, s.book.wires_exact b l);
      wires_within = λ b l. subst (λ (n : ℕ). n ≤ capacity w.wires b) (sym (wires_used b l)) (wires_room b l);
      gates = λ j m g. let l : j < w.entered = omega (arith, push_listed h told j m refl g, s.tell.as_many) in subst (λ (n : NetTold). Driven n.limit n.route m) (sym (net_old j l)) (s.book.gates j m (sym (ap (λ (n : NetTold). n.filed) (net_old j l)) ∙ g));
    };
  }

opened_kept : (w : World) → Opened w → Kept w []
opened_kept w o = record {
  sizes = o.sizes;
  site_uses = o.sites_sound.as_many_uses ∙ o.sizes.sites;
  wire_uses = o.wires_sound.as_many_uses ∙ o.sizes.wires;
  listed = omega (arith, o.no_net);
  each = λ k l. absurd (omega (arith, o.no_net, l));
  tell = record {
    as_many = sym o.no_net;
    limits = λ k l. absurd (omega (arith, o.no_net, l));
    routes = λ k l. absurd (omega (arith, o.no_net, l));
    filed = λ k m l. absurd (omega (arith, o.no_net, l));
    waiting = λ k l. absurd (omega (arith, o.no_net, l));
  };
  book = opened_true w o;
}

sealed_kept : (w : World) (h : History) → Kept w h → Kept (with_seal w) h
sealed_kept w h s = record {
  sizes = record { sites = s.sizes.sites; wires = s.sizes.wires; nets = s.sizes.nets; records = s.sizes.records };
  site_uses = s.site_uses;
  wire_uses = s.wire_uses;
  listed = s.listed;
  each = λ k l. let p = s.each k l in record { some_limit = p.some_limit; limit_fits = p.limit_fits; some_records = p.some_records; records_fit = p.records_fit; route = p.route; plan = p.plan; clear = p.clear };
  tell = record { as_many = s.tell.as_many; limits = s.tell.limits; routes = s.tell.routes; filed = s.tell.filed; waiting = s.tell.waiting };
  book = record { sites_exact = s.book.sites_exact; sites_within = s.book.sites_within; wires_exact = s.book.wires_exact; wires_within = s.book.wires_within; gates = s.book.gates };
}

-- an accepted answer refuses nothing
ok_none : {A F : Type 0} (a b : A) (o : Option F) → Ok a ≡ refused_or b o → o ≡ None
ok_none a b None e = refl
ok_none a b (Some f) e = absurd cc

enter_kept : (w w' : World) (h : History) (limit : Limit) (rs : List Record) (r : Result ℕ EntryFault) → Kept w h → Enters w limit rs r w' → Kept w' (after_entering (fault_of r) h limit rs)
enter_kept w w' h limit rs (Ok n) s c =
    let may = (refusals_exact.entering w rs).0 (ap nothing_wrong (ok_none n w.entered (entry_fault w rs) c.answer)) in
    subst (λ (v : World). Kept v (after_entering {F = EntryFault} None h limit rs)) (sym c.after) (entered_sound w h s limit rs may)
enter_kept w w' h limit rs (Err f) s c = subst (λ (v : World). Kept v h) (sym c.after) s

plan_kept : (w w' : World) (h : History) (k cells : ℕ) (f : Option PlanningFault) → Kept w h → Plans w k cells f w' → Kept w' (after_filing f h k (marks_of w' k))
plan_kept w w' h k cells None s c =
    let ms = c.1.0 in
    let legal = c.1.1 in
    let waits = ((refusals_exact.planning w k cells).0 (ap nothing_wrong c.0)).waits in
    subst (λ (v : World). Kept v (after_filing {F = PlanningFault} None h k (marks_of v k))) (sym c.1.2)
    (subst (λ (m : List ℕ). Kept (with_plan w k ms) (refiled h k (Some m))) (sym (plan_keeps w h s k waits ms legal)) (file_sound w h s k waits ms legal))
plan_kept w w' h k cells (Some f) s c = subst (λ (v : World). Kept v h) (sym c.1) s

filing_kept : (w w' : World) (h : History) (k : ℕ) (ms : List ℕ) (f : Option FilingFault) → Kept w h → Files w k ms f w' → Kept w' (after_filing f h k ms)
filing_kept w w' h k ms None s c =
    let may = (refusals_exact.filing w k ms).0 (ap nothing_wrong (sym c.answer)) in
    subst (λ (v : World). Kept v (refiled h k (Some ms))) (sym c.after) (file_sound w h s k may.waits ms may.legal)
filing_kept w w' h k ms (Some f) s c = subst (λ (v : World). Kept v h) (sym c.after) s

withdraw_kept : (w w' : World) (h : History) (k : ℕ) (r : Result (Unit {0}) WithdrawalFault) → Kept w h → Withdraws w k r w' → Kept w' (after_withdrawing (fault_of r) h k)
withdraw_kept w w' h k (Ok n) s c =
    let may = (refusals_exact.withdrawing w k).0 (ap nothing_wrong (ok_none n tt (withdrawal_fault w k) c.answer)) in
    subst (λ (v : World). Kept v (refiled h k None)) (sym c.after) (withdrawn_sound w h s k may.planned)
withdraw_kept w w' h k (Err f) s c = subst (λ (v : World). Kept v h) (sym c.after) s

pub run_kept : {w : World} {h : History} → Run w h → Kept w h
run_kept (opening w o) = opened_kept w o
run_kept (entering w w' h limit rs r run stage c) = enter_kept w w' h limit rs r (run_kept run) c
run_kept (sealing w w' h run stage c) = subst (λ (v : World). Kept v h) (sym c) (sealed_kept w h (run_kept run))
run_kept (planning w w' h k cells f run stage c) = plan_kept w w' h k cells f (run_kept run) c
run_kept (filing w w' h k ms f run stage c) = filing_kept w w' h k ms f (run_kept run) c
run_kept (withdrawing w w' h k r run stage c) = withdraw_kept w w' h k r (run_kept run) c
run_kept (asking w h k list list' r run stage c) = run_kept run

pub books : NoRunToFalseBook
books w h run = (run_kept run).book

pub tables : TablesStayTrue
tables w h run = (run_kept run).tell

-- an untouched floorplan has sound tables
pub untouched_sound : (w : World) → Untouched w → TablesSound w
untouched_sound w u = let s = run_kept u.1 in record { sizes = s.sizes; each = s.each }

pub hand_plans : HandPlansExact
hand_plans w w' k ms None u q c = (λ e. ((refusals_exact.filing w k ms).0 (ap nothing_wrong (sym c.answer))).legal, λ legal. refl)
hand_plans w w' k ms (Some f) u q c = (
  λ e. absurd (none_some (Some f) f e refl),
  λ legal. absurd (none_some (filing_fault w k ms) f (nothing_none _ ((refusals_exact.filing w k ms).1 (record { tables = untouched_sound w u; waits = q; legal = legal }))) (sym c.answer)),
)
