-- What every run keeps.
use Rattle.std.proofs.Common.{◌≡◌, ℕ, ◌+◌, ◌-◌, ◌<◌, ◌≤◌, Bool, true, false, ◌⊎◌, List, [], map, length, get_or, take, drop, Some, None, Option, sym, refl, ap, ◌∙◌, subst, inl, inr, ⊎_elim, arith}
use Rattle.std.proofs.lemmas.List.{length-take-le, length-drop, length-set, length-map, get_or-set_same, get_or-set_other}
use Rattle.std.proofs.lemmas.Bool.{cases_eq, cases_order, both_ways}
use Rattle.grid.specs.Tiles.{tile_count}
use Rattle.grid.specs.Boundaries.{boundary_count}
use Rattle.stock.specs.Meaning.{capacity, used}
use Rattle.net.specs.Largest.{largest_limit}
use Rattle.net.specs.declared.records.record.Record.{Record}
use Rattle.net.specs.Proper.{Proper}
use Rattle.net.specs.Routes.{most_records}
use Rattle.length_rule.specs.Marks.{Plan}
use Rattle.floor_types.specs.declared.places.NetPlace.{NetPlace}
use Rattle.floor_types.specs.declared.places.RecordPlace.{RecordPlace}
use Rattle.runs.specs.Worlds.{World, no_place, place_of, limit_of, first_place, rows_of, record_in, route_of, marks_of, Waits, IsPlanned, buffers_in, written, remarked, with_marks, with_plan, without_plan}
use Rattle.runs.specs.Plans.{LegalFor}
use Rattle.runs.specs.Tables.{SizesKept, NetSound}
use Rattle.runs.specs.Histories.{NetTold, History, net_told, refiled, filed_in, buffers_filed}
use Rattle.runs.specs.Runs.{Driven, BookTrue, TablesTell}
use Rattle.run_law.proofs.Rows.{uses_length, uses_at, written_length, written_own, written_other, remarked_length, remarked_route, remarked_marks, remarked_clear}
use Rattle.run_law.proofs.Nets.{refiled_length, refiled_own, refiled_other, refiled_limit, refiled_path, refiled_buffers, refiled_crossing}
use Rattle.run_law.proofs.Room.{sites_fit}

-- what each call keeps
pub record Kept (w : World) (h : History) : Type 0 where
  pub sizes : SizesKept w
  pub site_uses : length w.sites.uses ≡ tile_count w.grid
  pub wire_uses : length w.wires.uses ≡ boundary_count w.grid
  pub listed : w.entered ≤ w.places
  pub each : (k : ℕ) → k < w.entered → NetSound w k
  pub tell : TablesTell w h
  pub book : BookTrue w h

pub none_some : {X : Type 0} (o : Option X) (x : X) → o ≡ None → o ≡ Some x → ⊥
none_some o x p q = cc

-- a filed plan or none
which_filed : {X : Type 0} (o : Option X) → (o ≡ None) ⊎ ((x : X) × (o ≡ Some x))
which_filed None = inl refl
which_filed (Some x) = inr (x, refl)

module _ (w : World) (h : History) (s : Kept w h) where
  rows_length : (k : ℕ) → k < w.entered → length (rows_of w k) ≡ (place_of w k).records
  rows_length k l = length-take-le (place_of w k).records (drop (first_place k) w.records) (omega (arith, length-drop (first_place k) w.records, s.sizes.records, s.listed, (s.each k l).records_fit))

  -- one net's marks and flag change, and the sites' uses
  module _ (k : ℕ) (l : k < w.entered) (flag : Bool) (ms : List ℕ) (f : ℕ → ℕ → ℕ) where
    abbrev after : World
    after = with_marks w k flag ms f

    abbrev new : List RecordPlace
    new = remarked ms (rows_of w k)

    new_length : length new ≡ (place_of w k).records
    new_length = remarked_length ms (rows_of w k) ∙ rows_length k l

    fits : first_place k + length new ≤ length w.records
    fits = omega (arith, new_length, s.sizes.records, s.listed, (s.each k l).records_fit)

    place_own : place_of after k ≡ record { limit = limit_of w k; records = (place_of w k).records; planned = flag }
    place_own = get_or-set_same w.nets k (record { limit = limit_of w k; records = (place_of w k).records; planned = flag }) no_place (omega (arith, s.sizes.nets, s.listed))

    place_other : (j : ℕ) → (j ≡ k → ⊥) → place_of after j ≡ place_of w j
    place_other j n = get_or-set_other w.nets k j (record { limit = limit_of w k; records = (place_of w k).records; planned = flag }) no_place n

    rows_own : rows_of after k ≡ new
    rows_own =
        ap (λ (c : ℕ). take c (drop (first_place k) (written (first_place k) new w.records))) (ap (λ (p : NetPlace). p.records) place_own ∙ sym new_length)
        ∙ written_own (first_place k) new w.records fits

    rows_other : (j : ℕ) → j < w.entered → (j ≡ k → ⊥) → rows_of after j ≡ rows_of w j
    rows_other j m n =
        ap (λ (c : ℕ). take c (drop (first_place j) (written (first_place k) new w.records))) (ap (λ (p : NetPlace). p.records) (place_other j n))
        ∙ written_other (first_place k) new w.records fits (first_place j) (place_of w j).records side
      where
        side : (first_place j + (place_of w j).records ≤ first_place k) ⊎ (first_place k + length new ≤ first_place j)
        side =
            ⊎_elim (λ (e : j ≡ k). absurd (n e))
            (⊎_elim (λ (e : j < k). inl (omega (arith, (s.each j m).records_fit))) (λ (e : k < j). inr (omega (arith, new_length, (s.each k l).records_fit))))
            (cases_order j k)

    limit_same : (j : ℕ) → limit_of after j ≡ limit_of w j
    limit_same j =
        ⊎_elim (λ (e : j ≡ k). subst (λ (i : ℕ). limit_of after i ≡ limit_of w i) (sym e) (ap (λ (p : NetPlace). p.limit) place_own))
        (λ (e : j ≡ k → ⊥). ap (λ (p : NetPlace). p.limit) (place_other j e))
        (cases_eq j k)

    count_same : (j : ℕ) → (place_of after j).records ≡ (place_of w j).records
    count_same j =
        ⊎_elim (λ (e : j ≡ k). subst (λ (i : ℕ). (place_of after i).records ≡ (place_of w i).records) (sym e) (ap (λ (p : NetPlace). p.records) place_own))
        (λ (e : j ≡ k → ⊥). ap (λ (p : NetPlace). p.records) (place_other j e))
        (cases_eq j k)

    route_same : (j : ℕ) → j < w.entered → route_of after j ≡ route_of w j
    route_same j m =
        ⊎_elim (λ (e : j ≡ k). subst (λ (i : ℕ). route_of after i ≡ route_of w i) (sym e) (ap (map record_in) rows_own ∙ remarked_route ms (rows_of w k)))
        (λ (e : j ≡ k → ⊥). ap (map record_in) (rows_other j m e))
        (cases_eq j k)

    abbrev kept : List ℕ
    kept = map (λ p. p.mark) new

    marks_own : marks_of after k ≡ kept
    marks_own = ap (map (λ p. p.mark)) rows_own

    marks_other : (j : ℕ) → j < w.entered → (j ≡ k → ⊥) → marks_of after j ≡ marks_of w j
    marks_other j m n = ap (map (λ p. p.mark)) (rows_other j m n)

    module _ (plan : Plan (route_of w k) kept) (clear : flag ≡ false → (i : ℕ) → get_or kept i 0 ≡ 0) where
      marks_plan : (j : ℕ) → j < w.entered → Plan (route_of w j) (marks_of after j)
      marks_plan j m =
          ⊎_elim (λ (e : j ≡ k). subst (λ (i : ℕ). Plan (route_of w i) (marks_of after i)) (sym e) (subst (Plan (route_of w k)) (sym marks_own) plan))
          (λ (e : j ≡ k → ⊥). subst (Plan (route_of w j)) (sym (marks_other j m e)) (s.each j m).plan)
          (cases_eq j k)

      marks_clear : (j : ℕ) → j < w.entered → (place_of after j).planned ≡ false → (i : ℕ) → get_or (marks_of after j) i 0 ≡ 0
      marks_clear j m =
          ⊎_elim
          (λ (e : j ≡ k). subst (λ (q : ℕ). (place_of after q).planned ≡ false → (i : ℕ) → get_or (marks_of after q) i 0 ≡ 0) (sym e)
          (λ p i. ap (λ (v : List ℕ). get_or v i 0) marks_own ∙ clear (sym (ap (λ (v : NetPlace). v.planned) place_own) ∙ p) i))
          (λ (e : j ≡ k → ⊥). λ p i. ap (λ (v : List ℕ). get_or v i 0) (marks_other j m e) ∙ (s.each j m).clear (sym (ap (λ (v : NetPlace). v.planned) (place_other j e)) ∙ p) i)
          (cases_eq j k)

      each_after : (j : ℕ) → j < w.entered → NetSound after j
      each_after j m = record {
        some_limit = subst (λ (n : ℕ). 1 ≤ n) (sym (limit_same j)) (s.each j m).some_limit;
        limit_fits = subst (λ (n : ℕ). n ≤ largest_limit) (sym (limit_same j)) (s.each j m).limit_fits;
        some_records = subst (λ (n : ℕ). 1 ≤ n) (sym (count_same j)) (s.each j m).some_records;
        records_fit = subst (λ (n : ℕ). n ≤ most_records) (sym (count_same j)) (s.each j m).records_fit;
        route = subst (Proper w.grid) (sym (route_same j m)) (s.each j m).route;
        plan = subst (λ (r : List Record). Plan r (marks_of after j)) (sym (route_same j m)) (marks_plan j m);
        clear = marks_clear j m;
      }

      -- the history changes with them
      module _ (fo : Option (List ℕ))
          (as_filed : (m : List ℕ) → fo ≡ Some m → (flag ≡ true) × (kept ≡ m))
          (as_none : fo ≡ None → flag ≡ false)
          (driven : (m : List ℕ) → fo ≡ Some m → Driven (limit_of w k) (route_of w k) m)
          (exact : (t : ℕ) → t < tile_count w.grid → f t (used w.sites t) ≡ buffers_filed (refiled h k fo) t)
          (within : (t : ℕ) → t < tile_count w.grid → f t (used w.sites t) ≤ capacity w.sites t) where
        in_history : k < length h
        in_history = omega (arith, s.tell.as_many)

        filed_own : (net_told (refiled h k fo) k).filed ≡ fo
        filed_own = ap (λ (n : NetTold). n.filed) (refiled_own h k fo in_history)

        filed_other : (j : ℕ) → (j ≡ k → ⊥) → (net_told (refiled h k fo) j).filed ≡ (net_told h j).filed
        filed_other j n = ap (λ (v : NetTold). v.filed) (refiled_other h k j fo n)

        tell_filed : (j : ℕ) (m : List ℕ) → j < w.entered → (net_told (refiled h k fo) j).filed ≡ Some m → ((place_of after j).planned ≡ true) × (marks_of after j ≡ m)
        tell_filed j m q =
            ⊎_elim
            (λ (e : j ≡ k). subst (λ (i : ℕ). (net_told (refiled h k fo) i).filed ≡ Some m → ((place_of after i).planned ≡ true) × (marks_of after i ≡ m)) (sym e)
            (λ g. let a = as_filed m (sym filed_own ∙ g) in (ap (λ (p : NetPlace). p.planned) place_own ∙ a.0, marks_own ∙ a.1)))
            (λ (e : j ≡ k → ⊥). λ g. let a = s.tell.filed j m q (sym (filed_other j e) ∙ g) in (ap (λ (p : NetPlace). p.planned) (place_other j e) ∙ a.0, marks_other j q e ∙ a.1))
            (cases_eq j k)

        tell_waits : (j : ℕ) → j < w.entered → (net_told (refiled h k fo) j).filed ≡ None → (place_of after j).planned ≡ false
        tell_waits j q =
            ⊎_elim
            (λ (e : j ≡ k). subst (λ (i : ℕ). (net_told (refiled h k fo) i).filed ≡ None → (place_of after i).planned ≡ false) (sym e)
            (λ g. ap (λ (p : NetPlace). p.planned) place_own ∙ as_none (sym filed_own ∙ g)))
            (λ (e : j ≡ k → ⊥). λ g. ap (λ (p : NetPlace). p.planned) (place_other j e) ∙ (s.tell.waiting j q (sym (filed_other j e) ∙ g)).0)
            (cases_eq j k)

        gates_after : (j : ℕ) (m : List ℕ) → (net_told (refiled h k fo) j).filed ≡ Some m → Driven (net_told (refiled h k fo) j).limit (net_told (refiled h k fo) j).route m
        gates_after j m =
            ⊎_elim
            (λ (e : j ≡ k). subst (λ (i : ℕ). (net_told (refiled h k fo) i).filed ≡ Some m → Driven (net_told (refiled h k fo) i).limit (net_told (refiled h k fo) i).route m) (sym e)
            (λ g. subst (λ (n : ℕ). Driven n (net_told (refiled h k fo) k).route m) (s.tell.limits k l ∙ sym (refiled_limit h k k fo))
            (subst (λ (r : List Record). Driven (limit_of w k) r m) (s.tell.routes k l ∙ sym (refiled_path h k k fo)) (driven m (sym filed_own ∙ g)))))
            (λ (e : j ≡ k → ⊥). λ g. subst (λ (n : NetTold). Driven n.limit n.route m) (sym (refiled_other h k j fo e)) (s.book.gates j m (sym (filed_other j e) ∙ g)))
            (cases_eq j k)

        used_after : (t : ℕ) → t < tile_count w.grid → used after.sites t ≡ f t (used w.sites t)
        used_after t q = uses_at f w.sites.uses t (omega (arith, s.site_uses))

        pub marked_sound : Kept after (refiled h k fo)
        marked_sound = record {
          sizes = record {
            sites = s.sizes.sites;
            wires = s.sizes.wires;
            nets = length-set w.nets k (record { limit = limit_of w k; records = (place_of w k).records; planned = flag }) ∙ s.sizes.nets;
            records = written_length (first_place k) new w.records fits ∙ s.sizes.records;
          };
          site_uses = uses_length f 0 w.sites.uses ∙ s.site_uses;
          wire_uses = s.wire_uses;
          listed = s.listed;
          each = each_after;
          tell = record {
            as_many = refiled_length h k fo ∙ s.tell.as_many;
            limits = λ j q. limit_same j ∙ s.tell.limits j q ∙ sym (refiled_limit h k j fo);
            routes = λ j q. route_same j q ∙ s.tell.routes j q ∙ sym (refiled_path h k j fo);
            filed = tell_filed;
            waiting = λ j q g. let a = tell_waits j q g in (a, marks_clear j q a);
          };
          book = record {
            sites_exact = λ t q. used_after t q ∙ exact t q;
            sites_within = λ t q. subst (λ (n : ℕ). n ≤ capacity w.sites t) (sym (used_after t q)) (within t q);
            wires_exact = λ b q. s.book.wires_exact b q ∙ sym (refiled_crossing w.grid h k fo b);
            wires_within = s.book.wires_within;
            gates = gates_after;
          };
        }

  -- a waiting net has nothing filed, and a planned one the marks that its places hold
  waiting_none : (k : ℕ) → Waits w k → (net_told h k).filed ≡ None
  waiting_none k q = ⊎_elim (λ e. e) (λ (e : (m : List ℕ) × ((net_told h k).filed ≡ Some m)). absurd (both_ways (place_of w k).planned q.unplanned (s.tell.filed k e.0 q.listed e.1).0)) (which_filed (net_told h k).filed)

  planned_some : (k : ℕ) → k < w.entered → (place_of w k).planned ≡ true → (net_told h k).filed ≡ Some (marks_of w k)
  planned_some k q p = ⊎_elim (λ (e : (net_told h k).filed ≡ None). absurd (both_ways (place_of w k).planned (s.tell.waiting k q e).0 p)) (λ (e : (m : List ℕ) × ((net_told h k).filed ≡ Some m)). e.1 ∙ ap Some (sym (s.tell.filed k e.0 q e.1).1)) (which_filed (net_told h k).filed)

  -- filing
  module _ (k : ℕ) (q : Waits w k) (ms : List ℕ) (legal : LegalFor w k ms) where
    as_many : length ms ≡ length (rows_of w k)
    as_many = legal.plan.each ∙ length-map (rows_of w k) record_in

    kept_same : map (λ p. p.mark) (remarked ms (rows_of w k)) ≡ ms
    kept_same = remarked_marks ms (rows_of w k) as_many

    pub plan_keeps : marks_of (with_plan w k ms) k ≡ ms
    plan_keeps = marks_own k q.listed true ms (λ t u. u + buffers_in (route_of w k) ms t) ∙ kept_same

    filed_count : (t : ℕ) → buffers_filed (refiled h k (Some ms)) t ≡ buffers_filed h t + buffers_in (route_of w k) ms t
    filed_count t =
        let a = refiled_buffers h k (Some ms) t (omega (arith, s.tell.as_many, q.listed)) in
        let b : filed_in (net_told h k).route (net_told h k).filed t ≡ 0 = ap (λ (o : Option (List ℕ)). filed_in (net_told h k).route o t) (waiting_none k q) in
        let c : buffers_in (net_told h k).route ms t ≡ buffers_in (route_of w k) ms t = ap (λ (r : List Record). buffers_in r ms t) (sym (s.tell.routes k q.listed)) in
        omega (arith, a, b, c)

    pub file_sound : Kept (with_plan w k ms) (refiled h k (Some ms))
    file_sound = marked_sound k q.listed true ms (λ t u. u + buffers_in (route_of w k) ms t)
        (subst (Plan (route_of w k)) (sym kept_same) legal.plan)
        (λ e. absurd (both_ways true e refl))
        (Some ms)
        (λ m e. (refl, kept_same ∙ cc))
        (λ e. absurd (none_some (Some ms) ms e refl))
        (λ m e. subst (Driven (limit_of w k) (route_of w k)) (cc) legal.driven)
        (λ t l. omega (arith, filed_count t, s.book.sites_exact t l))
        (λ t l. sites_fit w k ms t (s.each k q.listed).route legal (s.book.sites_within t l))

  -- withdrawing
  pub withdrawn_sound : (k : ℕ) → IsPlanned w k → Kept (without_plan w k) (refiled h k None)
  withdrawn_sound k q = marked_sound k q.listed false [] (λ t u. u - buffers_in (route_of w k) (marks_of w k) t)
      zero_plan
      (λ e. remarked_clear (rows_of w k))
      None
      (λ m e. absurd (none_some None m refl e))
      (λ e. refl)
      (λ m e. absurd (none_some None m refl e))
      (λ t l. omega (arith, fewer t, s.book.sites_exact t l))
      (λ t l. omega (arith, s.book.sites_within t l))
    where
      zero_plan : Plan (route_of w k) (map (λ p. p.mark) (remarked [] (rows_of w k)))
      zero_plan = record {
        each = length-map (remarked [] (rows_of w k)) (λ p. p.mark) ∙ remarked_length [] (rows_of w k) ∙ sym (length-map (rows_of w k) record_in);
        known = λ i l. omega (arith, remarked_clear (rows_of w k) i);
        driver = remarked_clear (rows_of w k) 0;
      }

      fewer : (t : ℕ) → buffers_filed (refiled h k None) t + buffers_in (route_of w k) (marks_of w k) t ≡ buffers_filed h t
      fewer t =
          let a = refiled_buffers h k None t (omega (arith, s.tell.as_many, q.listed)) in
          let b : filed_in (net_told h k).route (net_told h k).filed t ≡ buffers_in (net_told h k).route (marks_of w k) t = ap (λ (o : Option (List ℕ)). filed_in (net_told h k).route o t) (planned_some k q.listed q.planned) in
          let c : buffers_in (net_told h k).route (marks_of w k) t ≡ buffers_in (route_of w k) (marks_of w k) t = ap (λ (r : List Record). buffers_in r (marks_of w k) t) (sym (s.tell.routes k q.listed)) in
          omega (arith, a, b, c)
