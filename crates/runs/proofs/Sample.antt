-- The runs of the strip.
use Rattle.std.proofs.Common.{◌≡◌, ℕ, zero, suc, ◌<◌, ◌≤◌, List, [], Some, None, Ok, refl, subst, inl, arith, lit≤}
use Rattle.stock.specs.Meaning.{capacity, used}
use Rattle.length_rule.proofs.Accepts.{legal_if}
use Rattle.runs.specs.Worlds.{without_plan, with_plan}
use Rattle.runs.specs.Plans.{LegalFor, spares}
use Rattle.runs.specs.Calls.{Opened}
use Rattle.runs.specs.Histories.{buffers_filed, crossing_nets, net_told}
use Rattle.runs.specs.Runs.{Run, opening, entering, sealing, planning, filing, withdrawing, Driven}
use Rattle.runs.specs.Sample.{strip, two, path, opened_strip, entered_strip, sealed_strip, trunk, planned_strip, told, RunsExist}

-- each number below four, below three
below3 : (P : ℕ → Type 0) → P 0 → P 1 → P 2 → (i : ℕ) → i < 3 → P i
below3 P a b c zero l = a
below3 P a b c (suc zero) l = b
below3 P a b c (suc (suc zero)) l = c
below3 P a b c (suc (suc (suc i))) l = absurd (omega arith)

below4 : (P : ℕ → Type 0) → P 0 → P 1 → P 2 → P 3 → (i : ℕ) → i < 4 → P i
below4 P a b c d zero l = a
below4 P a b c d (suc zero) l = b
below4 P a b c d (suc (suc zero)) l = c
below4 P a b c d (suc (suc (suc zero))) l = d
below4 P a b c d (suc (suc (suc (suc i)))) l = absurd (omega arith)

site_capacity : (t : ℕ) → capacity opened_strip.sites t ≤ 65535
site_capacity zero = lit≤ tt
site_capacity (suc zero) = lit≤ tt
site_capacity (suc (suc zero)) = lit≤ tt
site_capacity (suc (suc (suc zero))) = lit≤ tt
site_capacity (suc (suc (suc (suc t)))) = lit≤ tt

site_use : (t : ℕ) → used opened_strip.sites t ≤ 65535
site_use zero = lit≤ tt
site_use (suc zero) = lit≤ tt
site_use (suc (suc zero)) = lit≤ tt
site_use (suc (suc (suc zero))) = lit≤ tt
site_use (suc (suc (suc (suc t)))) = lit≤ tt

wire_capacity : (b : ℕ) → capacity opened_strip.wires b ≤ 65535
wire_capacity zero = lit≤ tt
wire_capacity (suc zero) = lit≤ tt
wire_capacity (suc (suc zero)) = lit≤ tt
wire_capacity (suc (suc (suc b))) = lit≤ tt

wire_use : (b : ℕ) → used opened_strip.wires b ≤ 65535
wire_use zero = lit≤ tt
wire_use (suc zero) = lit≤ tt
wire_use (suc (suc zero)) = lit≤ tt
wire_use (suc (suc (suc b))) = lit≤ tt

opened : Opened opened_strip
opened = record {
  sites_sound = record { as_many_uses = refl; few_places = lit≤ tt; small_capacities = site_capacity; small_uses = site_use };
  wires_sound = record { as_many_uses = refl; few_places = lit≤ tt; small_capacities = wire_capacity; small_uses = wire_use };
  sizes = record { sites = refl; wires = refl; nets = refl; records = refl };
  some_places = lit≤ tt;
  places_fit = lit≤ tt;
  sites_unused = below4 (λ t. used opened_strip.sites t ≡ 0) refl refl refl refl;
  wires_unused = below3 (λ b. used opened_strip.wires b ≡ 0) refl refl refl;
  no_net = refl;
  unsealed = refl;
}

run_entered : Run entered_strip (told None)
run_entered = entering opened_strip entered_strip [] two path (Ok 0) (opening opened_strip opened) refl (record { answer = refl; after = refl })

run_sealed : Run sealed_strip (told None)
run_sealed = sealing entered_strip sealed_strip (told None) run_entered refl refl

legal : LegalFor sealed_strip 0 trunk
legal = legal_if 2 path (spares sealed_strip 0) trunk (lit≤ tt) refl

run_planned : Run planned_strip (told (Some trunk))
run_planned = planning sealed_strip planned_strip (told None) 0 42 None run_sealed refl (refl, (trunk, legal, refl))

run_withdrawn : Run (without_plan planned_strip 0) (told None)
run_withdrawn = withdrawing planned_strip (without_plan planned_strip 0) (told (Some trunk)) 0 (Ok tt) run_planned refl (record { answer = refl; after = refl })

only_one : (k : ℕ) (ms : List ℕ) → (net_told (told (Some trunk)) k).filed ≡ Some ms → Driven (net_told (told (Some trunk)) k).limit (net_told (told (Some trunk)) k).route ms
only_one zero ms e = subst (Driven 2 path) same legal.driven
  where
    same : trunk ≡ ms
    same = cc
only_one (suc k) ms e = absurd cc

pub runs_exist : RunsExist 42
runs_exist = record {
  planned = run_planned;
  withdrawn = run_withdrawn;
  filed = filing (without_plan planned_strip 0) (with_plan (without_plan planned_strip 0) 0 trunk) (told None) 0 trunk None run_withdrawn refl (record { answer = refl; after = refl });
  book = record {
    sites_exact = below4 (λ t. used planned_strip.sites t ≡ buffers_filed (told (Some trunk)) t) refl refl refl refl;
    sites_within = below4 (λ t. used planned_strip.sites t ≤ capacity planned_strip.sites t) (lit≤ tt) (lit≤ tt) (lit≤ tt) (lit≤ tt);
    wires_exact = below3 (λ b. used planned_strip.wires b ≡ crossing_nets strip (told (Some trunk)) b) refl refl refl;
    wires_within = below3 (λ b. used planned_strip.wires b ≤ capacity planned_strip.wires b) (lit≤ tt) (lit≤ tt) (lit≤ tt);
    gates = only_one;
  };
  sites = refl;
  wires = refl;
  given_back = refl;
  marks = refl;
  cleared = refl;
  full = record { answer = refl; after = refl };
  enough = (refl, (trunk, legal, refl));
  again = (inl refl, refl);
  asked = record { answer = refl; after = refl };
  no_place_left = refl;
  no_net = refl;
  already = refl;
  drives = refl;
  waits = refl;
  short = refl;
}
