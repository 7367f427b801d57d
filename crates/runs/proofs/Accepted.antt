-- The refusals of each call leave exactly what may be accepted.
use Rattle.std.proofs.Common.{◌≡◌, ℕ, zero, suc, ◌+◌, ◌<◌, ◌≤◌, Bool, true, false, cond, not, ◌&&◌, ◌||◌, eqb, ltb, leb, ◌⊎◌, List, length, Some, None, Ok, Err, Decides, Option, sym, refl, ap, ◌∙◌, subst, inl, inr, ⊎_elim, arith}
use Rattle.std.proofs.lemmas.List.{length-map, get_or_past}
use Rattle.std.proofs.lemmas.Bool.{and_parts, and_from, or_cases, ltb-true, ltb-false, lt-ltb, le-ltb, leb-true, le-leb, eqb-true, eq-eqb, ne_eqb, not-true, not_from_false, cases_lt, both_ways}
use Rattle.std.proofs.lemmas.Bool.Decides.{nat_tests}
use Rattle.grid.specs.declared.shape.Grid.{Grid}
use Rattle.grid.specs.Tiles.{tile_count}
use Rattle.grid.specs.Boundaries.{boundary_between, boundary_count}
use Rattle.grid.proofs.Pairs.{counted}
use Rattle.stock.specs.declared.fault.StockFault.{StockFault}
use Rattle.stock.specs.declared.fault.StockFault.TheVariants.{NoPlace, Full, Lacking}
use Rattle.stock.specs.Calls.{exists, fits, covers, give_answer}
use Rattle.stock.specs.Meaning.{Meaning, count, capacity, used}
use Rattle.net.specs.declared.records.record.Record.{Record}
use Rattle.net.specs.Largest.{largest_limit}
use Rattle.net.specs.Lowest.{or_else, lowest, unless, nothing_wrong, some_below, fault_of}
use Rattle.net.specs.Routes.{most_records, right_count, is_route, tile_of, parent_of, route_fault}
use Rattle.net.proofs.Firsts.{or_else_none, unless_none, unless_clear, nothing_none, lowest_none, lowest_clear, some_below_none}
use Rattle.net.proofs.Properly.{proper_if, route_if}
use Rattle.length_rule.specs.Gates.{need}
use Rattle.length_rule.specs.Marks.{mark_at}
use Rattle.length_rule.specs.Refusals.{mark_fault, plan_fault}
use Rattle.length_rule.specs.declared.PlanFault.TheVariants.{Mark}
use Rattle.length_rule.proofs.Accepts.{legal_if, none_if}
use Rattle.floor_types.specs.Faults.{with_index}
use Rattle.floor_types.specs.declared.places.NetPlace.{NetPlace}
use Rattle.floor_types.specs.declared.places.RecordPlace.{RecordPlace}
use Rattle.floor_types.specs.declared.faults.TableFault.TheVariants.{Sizes, Net}
use Rattle.floor_types.specs.declared.faults.OpeningFault.{OpeningFault}
use Rattle.floor_types.specs.declared.faults.OpeningFault.TheVariants.{SitePlaces, WirePlaces, SiteInUse, WireInUse, RecordPlaces}
use Rattle.floor_types.specs.declared.faults.WireFault.{WireFault}
use Rattle.floor_types.specs.declared.faults.EntryFault.{EntryFault}
use Rattle.floor_types.specs.declared.faults.EntryFault.TheVariants as Entry
use Rattle.floor_types.specs.declared.faults.PlanningFault.TheVariants as Planning
use Rattle.floor_types.specs.declared.faults.FilingFault.TheVariants as Filing
use Rattle.floor_types.specs.declared.faults.WithdrawalFault.{WithdrawalFault}
use Rattle.floor_types.specs.declared.faults.WithdrawalFault.TheVariants as Withdrawal
use Rattle.floor_types.specs.declared.faults.QuestionFault.TheVariants as Question
use Rattle.runs.specs.Worlds.{World, limit_of, count_of, is_planned, rows_of, record_in, route_of, marks_of, crossed_at}
use Rattle.runs.specs.Plans.{spares}
use Rattle.runs.specs.Tables.{SizesKept, NetSound, TablesSound, sizes_kept, limit_fits, marks_fit, some_mark, net_sound, table_fault}
use Rattle.runs.specs.Refusals.{carried, most_net_places, tables_fit, opening_fault, wire_fault, entry_fault, cells_needed, planning_fault, filing_fault, giving_fault, withdrawal_fault, question_fault}
use Rattle.runs.specs.Exactly.{MayOpen, MayEnter, MayLook, MayFile, MayWithdraw, MayAsk, DecidedBy, RefusalsExact}

both_none : {F : Type 0} (a b : Option F) → a ≡ None → b ≡ None → or_else a b ≡ None
both_none a b e f = ap (λ (o : Option _). or_else o b) e ∙ f

carried_none : {F G : Type 0} (inside : F → G) (o : Option F) → carried inside o ≡ None → o ≡ None
carried_none inside None e = refl
carried_none inside (Some f) e = absurd cc

carried_clear : {F G : Type 0} (inside : F → G) (o : Option F) → o ≡ None → carried inside o ≡ None
carried_clear inside o e = ap (carried inside) e

-- from the two ways
decides : {F : Type 0} {P : Type 0} (o : Option F) → (o ≡ None → P) → (P → o ≡ None) → Decides (nothing_wrong o) P
decides o f g = (λ h. f (nothing_none o h), λ p. ap nothing_wrong (g p))

-- The tables.
sizes_if : (w : World) → sizes_kept w ≡ true → SizesKept w
sizes_if w e =
    let a = and_parts (eqb (count w.sites) (tile_count w.grid) && eqb (count w.wires) (boundary_count w.grid)) _ e in
    let b = and_parts (eqb (count w.sites) (tile_count w.grid)) _ a.0 in
    let c = and_parts (eqb (length w.nets) w.places) _ a.1 in
    record {
      sites = eqb-true _ _ b.0;
      wires = eqb-true _ _ b.1;
      nets = eqb-true _ _ c.0;
      records = eqb-true _ _ c.1;
    }

kept_if : (w : World) → SizesKept w → sizes_kept w ≡ true
kept_if w s = and_from _ _ (and_from _ _ (eq-eqb _ _ s.sites) (eq-eqb _ _ s.wires)) (and_from _ _ (eq-eqb _ _ s.nets) (eq-eqb _ _ s.records))

as_many : (w : World) (k : ℕ) → length (marks_of w k) ≡ length (route_of w k)
as_many w k = length-map (rows_of w k) (λ p. p.mark) ∙ sym (length-map (rows_of w k) record_in)

mark_known : (i m : ℕ) → m ≤ cond (eqb i 0) 0 3 → m ≤ 3
mark_known i m h = grind (arith, nat_tests)

mark_allowed : (i m : ℕ) → m ≤ 3 → (i ≡ 0 → m ≡ 0) → m ≤ cond (eqb i 0) 0 3
mark_allowed zero m h e = omega (arith, e refl)
mark_allowed (suc i) m h e = subst (λ (b : Bool). m ≤ cond b 0 3) (sym (off i)) h
  where
    off : (j : ℕ) → eqb (suc j) 0 ≡ false
    off j = ne_eqb (suc j) 0 (λ e. omega arith)

module _ (w : World) (k : ℕ) where
  sound_if : net_sound w k ≡ true → NetSound w k
  sound_if e =
      let a = and_parts (limit_fits (limit_of w k) && right_count (count_of w k)) _ e in
      let b = and_parts (limit_fits (limit_of w k)) (right_count (count_of w k)) a.0 in
      let l = and_parts (leb 1 (limit_of w k)) (leb (limit_of w k) largest_limit) b.0 in
      let n = and_parts (leb 1 (count_of w k)) (leb (count_of w k) most_records) b.1 in
      let c = and_parts (is_route w.grid (route_of w k)) _ a.1 in
      let d = and_parts (marks_fit (marks_of w k)) _ c.1 in
      let route = proper_if w.grid (route_of w k) c.0 in
      let known : (i : ℕ) → i < length (marks_of w k) → mark_at (marks_of w k) i ≤ cond (eqb i 0) 0 3 =
      λ i h. leb-true (mark_at (marks_of w k) i) (cond (eqb i 0) 0 3) (unless_none (leb (mark_at (marks_of w k) i) (cond (eqb i 0) 0 3)) (Mark i) (lowest_none (mark_fault (marks_of w k)) (length (marks_of w k)) (nothing_none _ d.0) i h)) in
      record {
        some_limit = leb-true _ _ l.0;
        limit_fits = leb-true _ _ l.1;
        some_records = leb-true _ _ n.0;
        records_fit = leb-true _ _ n.1;
        route = route;
        plan = record {
          each = as_many w k;
          known = λ i h. mark_known i (mark_at (marks_of w k) i) (known i (omega (arith, as_many w k)));
          driver = omega (arith, known 0 (omega (arith, as_many w k, route.some)));
        };
        clear = λ p i. unmarked p i (cases_lt i (length (marks_of w k))) d.1;
      }
    where
      unmarked : is_planned w k ≡ false → (i : ℕ) → (i < length (marks_of w k)) ⊎ (length (marks_of w k) ≤ i) → (is_planned w k || not (some_mark (marks_of w k))) ≡ true → mark_at (marks_of w k) i ≡ 0
      unmarked p i (inl h) t =
          ⊎_elim (λ (q : is_planned w k ≡ true). absurd (both_ways (is_planned w k) p q))
          (λ (q : not (some_mark (marks_of w k)) ≡ true). omega (arith, ltb-false 0 (mark_at (marks_of w k) i) (some_below_none (λ j. ltb 0 (mark_at (marks_of w k) j)) (length (marks_of w k)) (not-true (some_mark (marks_of w k)) q) i h)))
          (or_cases (is_planned w k) (not (some_mark (marks_of w k))) t)
      unmarked p i (inr h) t = get_or_past (marks_of w k) i 0 h

  net_if : NetSound w k → net_sound w k ≡ true
  net_if s =
      and_from _ _
      (and_from _ _ (and_from _ _ (le-leb _ _ s.some_limit) (le-leb _ _ s.limit_fits)) (and_from _ _ (le-leb _ _ s.some_records) (le-leb _ _ s.records_fit)))
      (and_from _ _ (route_if w.grid (route_of w k) s.route) (and_from _ _ marks (waiting (is_planned w k) refl)))
    where
      marks : marks_fit (marks_of w k) ≡ true
      marks = ap nothing_wrong (lowest_clear (mark_fault (marks_of w k)) (length (marks_of w k))
          (λ i h. unless_clear (leb (mark_at (marks_of w k) i) (cond (eqb i 0) 0 3)) (Mark i) (le-leb (mark_at (marks_of w k) i) (cond (eqb i 0) 0 3)
          (mark_allowed i (mark_at (marks_of w k) i) (s.plan.known i (omega (arith, as_many w k))) (λ z. subst (λ (j : ℕ). mark_at (marks_of w k) j ≡ 0) (sym z) s.plan.driver)))))

      none : (ms : List ℕ) (n : ℕ) → ((i : ℕ) → mark_at ms i ≡ 0) → some_below (λ j. ltb 0 (mark_at ms j)) n ≡ false
      none ms zero h = refl
      none ms (suc n) h = ap (λ (b : Bool). b || ltb 0 (mark_at ms n)) (none ms n h) ∙ le-ltb 0 (mark_at ms n) (omega (arith, h n))

      waiting : (b : Bool) → is_planned w k ≡ b → (b || not (some_mark (marks_of w k))) ≡ true
      waiting true e = refl
      waiting false e = not_from_false (some_mark (marks_of w k)) (none (marks_of w k) (length (marks_of w k)) (s.clear e))

module _ (w : World) where
  pub tables_if : table_fault w ≡ None → TablesSound w
  tables_if e =
      let a = or_else_none (unless (sizes_kept w) (Sizes w.places)) (lowest (λ k. unless (net_sound w k) (Net k)) w.entered) e in
      record {
        sizes = sizes_if w (unless_none (sizes_kept w) (Sizes w.places) a.0);
        each = λ k l. sound_if w k (unless_none (net_sound w k) (Net k) (lowest_none (λ j. unless (net_sound w j) (Net j)) w.entered a.1 k l));
      }

  pub none_wrong : TablesSound w → table_fault w ≡ None
  none_wrong s =
      both_none (unless (sizes_kept w) (Sizes w.places)) (lowest (λ k. unless (net_sound w k) (Net k)) w.entered)
      (unless_clear (sizes_kept w) (Sizes w.places) (kept_if w s.sizes))
      (lowest_clear (λ k. unless (net_sound w k) (Net k)) w.entered (λ k l. unless_clear (net_sound w k) (Net k) (net_if w k (s.each k l))))

-- Opening.
module _ (g : Grid) (sites wires : Meaning) (nets : List NetPlace) (records : List RecordPlace) where
  abbrev site_used : ℕ → Option OpeningFault
  site_used t = unless (eqb (used sites t) 0) (SiteInUse t)

  abbrev wire_used : ℕ → Option OpeningFault
  wire_used b = unless (eqb (used wires b) 0) (WireInUse b)

  pub opening_may : opening_fault g sites wires nets records ≡ None → MayOpen g sites wires nets records
  opening_may e =
      let a = or_else_none (unless (eqb (count sites) (tile_count g)) (SitePlaces (count sites))) _ e in
      let b = or_else_none (unless (eqb (count wires) (boundary_count g)) (WirePlaces (count wires))) _ a.1 in
      let c = or_else_none (lowest site_used (count sites)) _ b.1 in
      let d = or_else_none (lowest wire_used (count wires)) _ c.1 in
      let t = and_parts (leb 1 (length nets) && leb (length nets) most_net_places) _ (unless_none (tables_fit (length nets) (length records)) (RecordPlaces (length records)) d.1) in
      let n = and_parts (leb 1 (length nets)) (leb (length nets) most_net_places) t.0 in
      record {
        site_places = eqb-true _ _ (unless_none (eqb (count sites) (tile_count g)) (SitePlaces (count sites)) a.0);
        wire_places = eqb-true _ _ (unless_none (eqb (count wires) (boundary_count g)) (WirePlaces (count wires)) b.0);
        sites_unused = λ i l. eqb-true _ _ (unless_none (eqb (used sites i) 0) (SiteInUse i) (lowest_none site_used (count sites) c.0 i l));
        wires_unused = λ i l. eqb-true _ _ (unless_none (eqb (used wires i) 0) (WireInUse i) (lowest_none wire_used (count wires) d.0 i l));
        some_places = leb-true _ _ n.0;
        places_fit = leb-true _ _ n.1;
        record_places = eqb-true _ _ t.1;
      }

  opening_none : MayOpen g sites wires nets records → opening_fault g sites wires nets records ≡ None
  opening_none m =
      both_none (unless (eqb (count sites) (tile_count g)) (SitePlaces (count sites))) _ (unless_clear _ (SitePlaces (count sites)) (eq-eqb _ _ m.site_places))
      (both_none (unless (eqb (count wires) (boundary_count g)) (WirePlaces (count wires))) _ (unless_clear _ (WirePlaces (count wires)) (eq-eqb _ _ m.wire_places))
      (both_none (lowest site_used (count sites)) _ (lowest_clear site_used (count sites) (λ i l. unless_clear _ (SiteInUse i) (eq-eqb _ _ (m.sites_unused i l))))
      (both_none (lowest wire_used (count wires)) _ (lowest_clear wire_used (count wires) (λ i l. unless_clear _ (WireInUse i) (eq-eqb _ _ (m.wires_unused i l))))
      (unless_clear _ (RecordPlaces (length records)) (and_from _ _ (and_from _ _ (le-leb _ _ m.some_places) (le-leb _ _ m.places_fit)) (eq-eqb _ _ m.record_places))))))

-- What a stock refuses.
taken_if : (m : Meaning) (b i : ℕ) → wire_fault m i (Some b) ≡ None → used m b + 1 ≤ capacity m b
taken_if m b i e = go (exists m b) (fits m b 1) refl e
  where
    go : (x y : Bool) → fits m b 1 ≡ y → carried Entry.Wire (fault_of (with_index {A = Unit {0}} i (cond x (cond y (Ok tt) (Err (Full b))) (Err (NoPlace b))))) ≡ None → used m b + 1 ≤ capacity m b
    go true true f z = leb-true (used m b + 1) (capacity m b) f
    go true false f z = absurd cc
    go false y f z = absurd cc

takes : (m : Meaning) (b i : ℕ) → b < count m → used m b + 1 ≤ capacity m b → wire_fault m i (Some b) ≡ None
takes m b i l h =
    ap (λ (x : Bool). carried Entry.Wire (fault_of (with_index {A = Unit {0}} i (cond x (cond (fits m b 1) (Ok tt) (Err (Full b))) (Err (NoPlace b)))))) (lt-ltb b (count m) l)
    ∙ ap (λ (x : Bool). carried Entry.Wire (fault_of (with_index {A = Unit {0}} i (cond x (Ok tt) (Err (Full b)))))) (le-leb (used m b + 1) (capacity m b) h)

given_if : (m : Meaning) (t n : ℕ) → fault_of (give_answer m t n) ≡ None → n ≤ used m t
given_if m t n e = go (exists m t) (covers m t n) refl e
  where
    go : (x y : Bool) → covers m t n ≡ y → fault_of {A = Unit {0}} (cond x (cond y (Ok tt) (Err (Lacking t))) (Err (NoPlace t))) ≡ None → n ≤ used m t
    go true true f z = leb-true n (used m t) f
    go true false f z = absurd cc
    go false y f z = absurd cc

gives : (m : Meaning) (t n : ℕ) → t < count m → n ≤ used m t → fault_of (give_answer m t n) ≡ None
gives m t n l h =
    ap (λ (x : Bool). fault_of {A = Unit {0}} (cond x (cond (covers m t n) (Ok tt) (Err (Lacking t))) (Err (NoPlace t)))) (lt-ltb t (count m) l)
    ∙ ap (λ (x : Bool). fault_of {A = Unit {0}} (cond x (Ok tt) (Err (Lacking t)))) (le-leb n (used m t) h)

-- Entering.
crossed_counted : (g : Grid) (rs : List Record) (i b : ℕ) → crossed_at g rs i ≡ Some b → b < boundary_count g
crossed_counted g rs i b e = go (ltb 0 i) e
  where
    go : (x : Bool) → cond x (boundary_between g (tile_of rs i) (tile_of rs (parent_of rs i))) None ≡ Some b → b < boundary_count g
    go true h = counted g (tile_of rs i) (tile_of rs (parent_of rs i)) b h
    go false h = absurd cc

module _ (w : World) (rs : List Record) where
  abbrev wire_at : ℕ → Option EntryFault
  wire_at i = wire_fault w.wires i (crossed_at w.grid rs i)

  entering_may : entry_fault w rs ≡ None → MayEnter w rs
  entering_may e =
      let a = or_else_none (carried Entry.Tables (table_fault w)) _ e in
      let b = or_else_none (unless (ltb w.entered w.places) (Entry.NoRoom w.places)) _ a.1 in
      let c = or_else_none (carried Entry.Route (route_fault w.grid rs)) _ b.1 in
      record {
        tables = tables_if w (carried_none Entry.Tables (table_fault w) a.0);
        place_left = ltb-true _ _ (unless_none (ltb w.entered w.places) (Entry.NoRoom w.places) b.0);
        route = proper_if w.grid rs (ap nothing_wrong (carried_none Entry.Route (route_fault w.grid rs) c.0));
        wire_left = λ i x l h. taken_if w.wires x i (sym (ap (wire_fault w.wires i) h) ∙ lowest_none wire_at (length rs) c.1 i l);
      }

  entering_none : MayEnter w rs → entry_fault w rs ≡ None
  entering_none m =
      both_none (carried Entry.Tables (table_fault w)) _ (carried_clear Entry.Tables (table_fault w) (none_wrong w m.tables))
      (both_none (unless (ltb w.entered w.places) (Entry.NoRoom w.places)) _ (unless_clear _ (Entry.NoRoom w.places) (lt-ltb _ _ m.place_left))
      (both_none (carried Entry.Route (route_fault w.grid rs)) _ (carried_clear Entry.Route (route_fault w.grid rs) (nothing_none _ (route_if w.grid rs m.route)))
      (lowest_clear wire_at (length rs) (λ i l. wired i l (crossed_at w.grid rs i) refl))))
    where
      wired : (i : ℕ) → i < length rs → (c : Option ℕ) → crossed_at w.grid rs i ≡ c → wire_fault w.wires i c ≡ None
      wired i l None e = refl
      wired i l (Some b) e = takes w.wires b i (omega (arith, crossed_counted w.grid rs i b e, m.tables.sizes.wires)) (m.wire_left i b l e)

-- Planning, filing, withdrawing, asking.
module _ (w : World) (k : ℕ) where
  looking_may : (cells : ℕ) → planning_fault w k cells ≡ None → MayLook w k cells
  looking_may cells e =
      let a = or_else_none (carried Planning.Tables (table_fault w)) _ e in
      let b = or_else_none (unless (ltb k w.entered) (Planning.NoNet k)) _ a.1 in
      let c = or_else_none (unless (not (is_planned w k)) (Planning.Planned k)) _ b.1 in
      record {
        tables = tables_if w (carried_none Planning.Tables (table_fault w) a.0);
        waits = record {
          listed = ltb-true _ _ (unless_none (ltb k w.entered) (Planning.NoNet k) b.0);
          unplanned = not-true _ (unless_none (not (is_planned w k)) (Planning.Planned k) c.0);
        };
        enough = leb-true _ _ (unless_none (leb (cells_needed w k) cells) (Planning.Cells (cells_needed w k)) c.1);
      }

  looking_none : (cells : ℕ) → MayLook w k cells → planning_fault w k cells ≡ None
  looking_none cells m =
      both_none (carried Planning.Tables (table_fault w)) _ (carried_clear Planning.Tables (table_fault w) (none_wrong w m.tables))
      (both_none (unless (ltb k w.entered) (Planning.NoNet k)) _ (unless_clear _ (Planning.NoNet k) (lt-ltb _ _ m.waits.listed))
      (both_none (unless (not (is_planned w k)) (Planning.Planned k)) _ (unless_clear _ (Planning.Planned k) (not_from_false _ m.waits.unplanned))
      (unless_clear _ (Planning.Cells (cells_needed w k)) (le-leb _ _ m.enough))))

  filing_may : (ms : List ℕ) → filing_fault w k ms ≡ None → MayFile w k ms
  filing_may ms e =
      let a = or_else_none (carried Filing.Tables (table_fault w)) _ e in
      let b = or_else_none (unless (ltb k w.entered) (Filing.NoNet k)) _ a.1 in
      let c = or_else_none (unless (not (is_planned w k)) (Filing.Planned k)) _ b.1 in
      let tables = tables_if w (carried_none Filing.Tables (table_fault w) a.0) in
      let listed = ltb-true k w.entered (unless_none (ltb k w.entered) (Filing.NoNet k) b.0) in
      record {
        tables = tables;
        waits = record { listed = listed; unplanned = not-true _ (unless_none (not (is_planned w k)) (Filing.Planned k) c.0) };
        legal = legal_if (limit_of w k) (route_of w k) (spares w k) ms (tables.each k listed).route.some (carried_none Filing.Plan (plan_fault (limit_of w k) (route_of w k) (spares w k) ms) c.1);
      }

  filing_none : (ms : List ℕ) → MayFile w k ms → filing_fault w k ms ≡ None
  filing_none ms m =
      both_none (carried Filing.Tables (table_fault w)) _ (carried_clear Filing.Tables (table_fault w) (none_wrong w m.tables))
      (both_none (unless (ltb k w.entered) (Filing.NoNet k)) _ (unless_clear _ (Filing.NoNet k) (lt-ltb _ _ m.waits.listed))
      (both_none (unless (not (is_planned w k)) (Filing.Planned k)) _ (unless_clear _ (Filing.Planned k) (not_from_false _ m.waits.unplanned))
      (carried_clear Filing.Plan (plan_fault (limit_of w k) (route_of w k) (spares w k) ms) (none_if (limit_of w k) (route_of w k) (spares w k) ms (m.tables.each k m.waits.listed).route.some m.legal))))

  abbrev given_at : ℕ → Option StockFault
  given_at i = fault_of (give_answer w.sites (tile_of (route_of w k) i) (need (route_of w k) (marks_of w k) i))

  withdrawing_may : withdrawal_fault w k ≡ None → MayWithdraw w k
  withdrawing_may e =
      let a = or_else_none (carried Withdrawal.Tables (table_fault w)) _ e in
      let b = or_else_none (unless (ltb k w.entered) (Withdrawal.NoNet k)) _ a.1 in
      let c = or_else_none (unless (is_planned w k) (Withdrawal.Waits k)) _ b.1 in
      record {
        tables = tables_if w (carried_none Withdrawal.Tables (table_fault w) a.0);
        planned = record {
          listed = ltb-true _ _ (unless_none (ltb k w.entered) (Withdrawal.NoNet k) b.0);
          planned = unless_none (is_planned w k) (Withdrawal.Waits k) c.0;
        };
        in_use = λ i l. given_if w.sites (tile_of (route_of w k) i) (need (route_of w k) (marks_of w k) i) (carried_none Withdrawal.Sites (given_at i) (lowest_none (giving_fault w k) (length (route_of w k)) c.1 i l));
      }

  withdrawing_none : MayWithdraw w k → withdrawal_fault w k ≡ None
  withdrawing_none m =
      both_none (carried Withdrawal.Tables (table_fault w)) _ (carried_clear Withdrawal.Tables (table_fault w) (none_wrong w m.tables))
      (both_none (unless (ltb k w.entered) (Withdrawal.NoNet k)) _ (unless_clear _ (Withdrawal.NoNet k) (lt-ltb _ _ m.planned.listed))
      (both_none (unless (is_planned w k) (Withdrawal.Waits k)) _ (unless_clear _ (Withdrawal.Waits k) m.planned.planned)
      (lowest_clear (giving_fault w k) (length (route_of w k)) (λ i l. carried_clear Withdrawal.Sites (given_at i)
      (gives w.sites (tile_of (route_of w k) i) (need (route_of w k) (marks_of w k) i)
      (omega (arith, m.tables.sizes.sites, ltb-true (tile_of (route_of w k) i) (tile_count w.grid) ((m.tables.each k m.planned.listed).route.on_grid i l))) (m.in_use i l))))))

  asking_may : (n : ℕ) → question_fault w k n ≡ None → MayAsk w k n
  asking_may n e =
      let a = or_else_none (carried Question.Tables (table_fault w)) _ e in
      let b = or_else_none (unless (ltb k w.entered) (Question.NoNet k)) _ a.1 in
      let c = or_else_none (unless (is_planned w k) (Question.Waits k)) _ b.1 in
      record {
        tables = tables_if w (carried_none Question.Tables (table_fault w) a.0);
        planned = record {
          listed = ltb-true _ _ (unless_none (ltb k w.entered) (Question.NoNet k) b.0);
          planned = unless_none (is_planned w k) (Question.Waits k) c.0;
        };
        as_many = eqb-true _ _ (unless_none (eqb n (count_of w k)) (Question.Marks (count_of w k)) c.1);
      }

  asking_none : (n : ℕ) → MayAsk w k n → question_fault w k n ≡ None
  asking_none n m =
      both_none (carried Question.Tables (table_fault w)) _ (carried_clear Question.Tables (table_fault w) (none_wrong w m.tables))
      (both_none (unless (ltb k w.entered) (Question.NoNet k)) _ (unless_clear _ (Question.NoNet k) (lt-ltb _ _ m.planned.listed))
      (both_none (unless (is_planned w k) (Question.Waits k)) _ (unless_clear _ (Question.Waits k) m.planned.planned)
      (unless_clear _ (Question.Marks (count_of w k)) (eq-eqb _ _ m.as_many))))

-- What a refusal carries.
or_else_some : {F : Type 0} (a b : Option F) (x : F) → or_else a b ≡ Some x → (a ≡ Some x) ⊎ ((a ≡ None) × (b ≡ Some x))
or_else_some (Some y) b x e = inl e
or_else_some None b x e = inr (refl, e)

lowest_at : {F : Type 0} (f : ℕ → Option F) (n : ℕ) (x : F) → lowest f n ≡ Some x → (i : ℕ) × (i < n) × (f i ≡ Some x)
lowest_at f zero x e = absurd cc
lowest_at f (suc n) x e =
    ⊎_elim (λ (a : lowest f n ≡ Some x). let found = lowest_at f n x a in (found.0, omega (arith, found.1), found.2))
    (λ (b : (lowest f n ≡ None) × (f n ≡ Some x)). (n, omega arith, b.1))
    (or_else_some (lowest f n) (f n) x e)

unless_some : {F : Type 0} (b : Bool) (f x : F) → unless b f ≡ Some x → f ≡ x
unless_some true f x e = absurd cc
unless_some false f x e = cc

carried_some : {F G : Type 0} (inside : F → G) (o : Option F) (x : G) → carried inside o ≡ Some x → (f : F) × (o ≡ Some f) × (inside f ≡ x)
carried_some inside None x e = absurd cc
carried_some inside (Some f) x e = (f, refl, same e)
  where
    same : Some (inside f) ≡ Some x → inside f ≡ x
    same p = cc

-- a full boundary is all that refuses a wire
full_only : (m : Meaning) (i b : ℕ) (f : WireFault) → b < count m → wire_fault m i (Some b) ≡ Some (Entry.Wire f) → (f.index ≡ i) × (f.fault ≡ Full b)
full_only m i b f l e = go (exists m b) (fits m b 1) (lt-ltb b (count m) l) e
  where
    told : record { index = i; fault = Full b } ≡ f → (f.index ≡ i) × (f.fault ≡ Full b)
    told p = (sym (ap (λ (x : WireFault). x.index) p), sym (ap (λ (x : WireFault). x.fault) p))

    go : (x y : Bool) → x ≡ true → carried Entry.Wire (fault_of (with_index {A = Unit {0}} i (cond x (cond y (Ok tt) (Err (Full b))) (Err (NoPlace b))))) ≡ Some (Entry.Wire f) → (f.index ≡ i) × (f.fault ≡ Full b)
    go true true h z = absurd cc
    go true false h z = told cc
    go false y h z = absurd (both_ways false refl h)

module _ (w : World) (rs : List Record) (f : WireFault) where
  abbrev FullBoundary : Type 0
  FullBoundary = (b : ℕ) × (crossed_at w.grid rs f.index ≡ Some b) × (f.fault ≡ Full b)

  at_index : (i : ℕ) (c : Option ℕ) → crossed_at w.grid rs i ≡ c → TablesSound w → wire_fault w.wires i c ≡ Some (Entry.Wire f) → FullBoundary
  at_index i None d t z = absurd cc
  at_index i (Some b) d t z =
      let is = full_only w.wires i b f (omega (arith, crossed_counted w.grid rs i b d, t.sizes.wires)) z in
      (b, subst (λ (j : ℕ). crossed_at w.grid rs j ≡ Some b) (sym is.0) d, is.1)

  fourth : TablesSound w → lowest (wire_at w rs) (length rs) ≡ Some (Entry.Wire f) → FullBoundary
  fourth t z = let found = lowest_at (wire_at w rs) (length rs) (Entry.Wire f) z in at_index found.0 (crossed_at w.grid rs found.0) refl t found.2

  abbrev rest : Option EntryFault
  rest = or_else (carried Entry.Route (route_fault w.grid rs)) (lowest (wire_at w rs) (length rs))

  third : TablesSound w → (carried Entry.Route (route_fault w.grid rs) ≡ Some (Entry.Wire f)) ⊎ ((carried Entry.Route (route_fault w.grid rs) ≡ None) × (lowest (wire_at w rs) (length rs) ≡ Some (Entry.Wire f))) → FullBoundary
  third t (inl a) = let c = carried_some Entry.Route (route_fault w.grid rs) (Entry.Wire f) a in let d = c.2 in absurd cc
  third t (inr a) = fourth t a.1

  second : TablesSound w → (unless (ltb w.entered w.places) (Entry.NoRoom w.places) ≡ Some (Entry.Wire f)) ⊎ ((unless (ltb w.entered w.places) (Entry.NoRoom w.places) ≡ None) × (rest ≡ Some (Entry.Wire f))) → FullBoundary
  second t (inl a) = let c = unless_some (ltb w.entered w.places) (Entry.NoRoom w.places) (Entry.Wire f) a in absurd cc
  second t (inr a) = third t (or_else_some (carried Entry.Route (route_fault w.grid rs)) (lowest (wire_at w rs) (length rs)) (Entry.Wire f) a.1)

  first : (carried Entry.Tables (table_fault w) ≡ Some (Entry.Wire f)) ⊎ ((carried Entry.Tables (table_fault w) ≡ None) × (or_else (unless (ltb w.entered w.places) (Entry.NoRoom w.places)) rest ≡ Some (Entry.Wire f))) → FullBoundary
  first (inl a) = let c = carried_some Entry.Tables (table_fault w) (Entry.Wire f) a in let d = c.2 in absurd cc
  first (inr a) = second (tables_if w (carried_none Entry.Tables (table_fault w) a.0)) (or_else_some (unless (ltb w.entered w.places) (Entry.NoRoom w.places)) rest (Entry.Wire f) a.1)

  pub wired_told : entry_fault w rs ≡ Some (Entry.Wire f) → FullBoundary
  wired_told e = first (or_else_some (carried Entry.Tables (table_fault w)) _ (Entry.Wire f) e)

-- a use that is lacking is all that refuses a giving
lacking_only : (m : Meaning) (t n : ℕ) (f : StockFault) → t < count m → fault_of (give_answer m t n) ≡ Some f → f ≡ Lacking t
lacking_only m t n f l e = go (exists m t) (covers m t n) (lt-ltb t (count m) l) e
  where
    go : (x y : Bool) → x ≡ true → fault_of {A = Unit {0}} (cond x (cond y (Ok tt) (Err (Lacking t))) (Err (NoPlace t))) ≡ Some f → f ≡ Lacking t
    go true true h z = absurd cc
    go true false h z = cc
    go false y h z = absurd (both_ways false refl h)

module _ (w : World) (k : ℕ) (f : StockFault) where
  abbrev LackingTile : Type 0
  LackingTile = (i : ℕ) × (i < length (route_of w k)) × (f ≡ Lacking (tile_of (route_of w k) i))

  fourth_given : TablesSound w → k < w.entered → lowest (giving_fault w k) (length (route_of w k)) ≡ Some (Withdrawal.Sites f) → LackingTile
  fourth_given t l z =
      let found = lowest_at (giving_fault w k) (length (route_of w k)) (Withdrawal.Sites f) z in
      let c = carried_some Withdrawal.Sites (given_at w k found.0) (Withdrawal.Sites f) found.2 in
      let d = c.2 in
      let same : c.0 ≡ f = cc in (
        found.0,
        found.1,
        lacking_only w.sites (tile_of (route_of w k) found.0) (need (route_of w k) (marks_of w k) found.0) f
            (omega (arith, t.sizes.sites, ltb-true (tile_of (route_of w k) found.0) (tile_count w.grid) ((t.each k l).route.on_grid found.0 found.1))) (c.1 ∙ ap Some same),
      )

  abbrev rest_given : Option WithdrawalFault
  rest_given = or_else (unless (is_planned w k) (Withdrawal.Waits k)) (lowest (giving_fault w k) (length (route_of w k)))

  third_given : TablesSound w → k < w.entered → (unless (is_planned w k) (Withdrawal.Waits k) ≡ Some (Withdrawal.Sites f)) ⊎ ((unless (is_planned w k) (Withdrawal.Waits k) ≡ None) × (lowest (giving_fault w k) (length (route_of w k)) ≡ Some (Withdrawal.Sites f))) → LackingTile
  third_given t l (inl a) = let c = unless_some (is_planned w k) (Withdrawal.Waits k) (Withdrawal.Sites f) a in absurd cc
  third_given t l (inr a) = fourth_given t l a.1

  second_given : TablesSound w → (unless (ltb k w.entered) (Withdrawal.NoNet k) ≡ Some (Withdrawal.Sites f)) ⊎ ((unless (ltb k w.entered) (Withdrawal.NoNet k) ≡ None) × (rest_given ≡ Some (Withdrawal.Sites f))) → LackingTile
  second_given t (inl a) = let c = unless_some (ltb k w.entered) (Withdrawal.NoNet k) (Withdrawal.Sites f) a in absurd cc
  second_given t (inr a) = third_given t (ltb-true k w.entered (unless_none (ltb k w.entered) (Withdrawal.NoNet k) a.0)) (or_else_some (unless (is_planned w k) (Withdrawal.Waits k)) (lowest (giving_fault w k) (length (route_of w k))) (Withdrawal.Sites f) a.1)

  first_given : (carried Withdrawal.Tables (table_fault w) ≡ Some (Withdrawal.Sites f)) ⊎ ((carried Withdrawal.Tables (table_fault w) ≡ None) × (or_else (unless (ltb k w.entered) (Withdrawal.NoNet k)) rest_given ≡ Some (Withdrawal.Sites f))) → LackingTile
  first_given (inl a) = let c = carried_some Withdrawal.Tables (table_fault w) (Withdrawal.Sites f) a in let d = c.2 in absurd cc
  first_given (inr a) = second_given (tables_if w (carried_none Withdrawal.Tables (table_fault w) a.0)) (or_else_some (unless (ltb k w.entered) (Withdrawal.NoNet k)) rest_given (Withdrawal.Sites f) a.1)

  pub given_told : withdrawal_fault w k ≡ Some (Withdrawal.Sites f) → LackingTile
  given_told e = first_given (or_else_some (carried Withdrawal.Tables (table_fault w)) _ (Withdrawal.Sites f) e)

pub tables_exact : (w : World) → DecidedBy (table_fault w) (TablesSound w)
tables_exact w = decides (table_fault w) (tables_if w) (none_wrong w)

pub refusals_exact : RefusalsExact
refusals_exact = record {
  opening = λ g sites wires nets records. decides (opening_fault g sites wires nets records) (opening_may g sites wires nets records) (opening_none g sites wires nets records);
  entering = λ w rs. decides (entry_fault w rs) (entering_may w rs) (entering_none w rs);
  planning = λ w k cells. decides (planning_fault w k cells) (looking_may w k cells) (looking_none w k cells);
  filing = λ w k ms. decides (filing_fault w k ms) (filing_may w k ms) (filing_none w k ms);
  withdrawing = λ w k. decides (withdrawal_fault w k) (withdrawing_may w k) (withdrawing_none w k);
  wire_told = wired_told;
  site_told = given_told;
  asking = λ w k n. decides (question_fault w k n) (asking_may w k n) (asking_none w k n);
}
