-- Which books are true and which false.
use Rattle.std.proofs.Common.{◌≡◌, ℕ, ◌≤◌, leb, List, [], ◌∷◌, Some, None, Ok, Option, Result, sym, refl, ap, ◌∙◌, subst, inl, inr, arith}
use Rattle.std.specs.List.{AllByRecursion}
use Rattle.std.proofs.lemmas.List.{get_or-set_same}
use Rattle.std.proofs.lemmas.Bool.{le-leb}
use Rattle.grid.specs.declared.shape.Grid.{Grid}
use Rattle.stock.specs.Meaning.{Meaning, Sound}
use Rattle.net.specs.Checked.{refused_or}
use Rattle.net.specs.Lowest.{or_else}
use Rattle.net.proofs.Firsts.{unless_clear}
use Rattle.length_rule.specs.declared.Gate.{Gate}
use Rattle.length_rule.specs.declared.PlanFault.{PlanFault}
use Rattle.length_rule.specs.declared.PlanFault.TheVariants.{Drives}
use Rattle.length_rule.specs.Refusals.{over_limit}
use Rattle.length_rule.specs.Gates.{gates_at}
use Rattle.floor_types.specs.declared.places.NetPlace.{NetPlace}
use Rattle.floor_types.specs.declared.places.RecordPlace.{RecordPlace}
use Rattle.floor_types.specs.declared.faults.OpeningFault.{OpeningFault}
use Rattle.runs.specs.Worlds.{World}
use Rattle.runs.specs.Refusals.{opening_fault}
use Rattle.runs.specs.Calls.{opened_world, Opens, Opened}
use Rattle.runs.specs.Histories.{net_told}
use Rattle.runs.specs.Runs.{BookTrue}
use Rattle.runs.specs.Facts.{BooksTell}
use Rattle.runs.proofs.Accepted.{opening_may}

-- nothing is in use and nothing filed
pub opened_true : (w : World) → Opened w → BookTrue w []
opened_true w o = record {
  sites_exact = o.sites_unused;
  sites_within = λ t l. omega (arith, o.sites_unused t l);
  wires_exact = o.wires_unused;
  wires_within = λ b l. omega (arith, o.wires_unused b l);
  gates = λ k ms e. absurd cc;
}

module _ (sites wires : Meaning) (nets : List NetPlace) (records : List RecordPlace) (ss : Sound sites) (sw : Sound wires) where
  made_opened : (g : Grid) → opening_fault g sites wires nets records ≡ None → Opened (opened_world g sites wires nets records)
  made_opened g e =
      let m = opening_may g sites wires nets records e in
      record {
        sites_sound = ss;
        wires_sound = sw;
        sizes = record { sites = m.site_places; wires = m.wire_places; nets = refl; records = m.record_places };
        some_places = m.some_places;
        places_fit = m.places_fit;
        sites_unused = λ t l. m.sites_unused t (omega (arith, m.site_places));
        wires_unused = λ b l. m.wires_unused b (omega (arith, m.wire_places));
        no_net = refl;
        unsealed = refl;
      }

  answered : (g : Grid) (w : World) (o : Option OpeningFault) → opening_fault g sites wires nets records ≡ o → Ok w ≡ refused_or (opened_world g sites wires nets records) o → Opened w
  answered g w None e r = subst Opened (sym (same r)) (made_opened g e)
    where
      same : {X E : Type 0} {x y : X} → ◌≡◌ {A = Result X E} (Ok x) (Ok y) → x ≡ y
      same p = cc
  answered g w (Some f) e r = absurd cc

  opens_opened : (rows columns : ℕ) (w : World) → Opens rows columns sites wires nets records (Ok w) → Opened w
  opens_opened rows columns w (inl a) = let e = a.2 in absurd cc
  opens_opened rows columns w (inr a) = answered a.0 w (opening_fault a.0 sites wires nets records) refl a.2

-- what drives at most the limit is not over it
none_over : (limit i : ℕ) (gs : List Gate) → AllByRecursion (λ g. g.drives ≤ limit) gs → over_limit limit i gs ≡ None
none_over limit i [] h = refl
none_over limit i (g ∷ gs) h =
    ap (λ (o : Option PlanFault). or_else o (over_limit limit i gs)) (unless_clear (leb g.drives limit) (Drives i g.drives) (le-leb g.drives limit h.0))
    ∙ none_over limit i gs h.1

pub books_tell : BooksTell
books_tell = record {
  opens = λ rows columns sites wires nets records w ss sw. opens_opened sites wires nets records ss sw rows columns w;
  another_site = λ w h t u fit b l other b'. other
      (sym (get_or-set_same w.sites.uses t u 0 (omega (arith, fit.sites.as_many_uses, fit.sizes.sites))) ∙ (b'.sites_exact t l ∙ sym (b.sites_exact t l)));
  another_wire = λ w h t u fit b l other b'. other
      (sym (get_or-set_same w.wires.uses t u 0 (omega (arith, fit.wires.as_many_uses, fit.sizes.wires))) ∙ (b'.wires_exact t l ∙ sym (b.wires_exact t l)));
  overloaded = λ w h k ms i f e l over b.
      let none = none_over (net_told h k).limit i (gates_at (net_told h k).route ms i) (b.gates k ms e i l) in
      cc;
}
