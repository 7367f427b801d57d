-- A net to be tried: what is read of a case.
use Rattle.std.specs.Prelude.{ℕ, List, Option}
use Rattle.net.specs.declared.records.record.Record.{Record}
use Rattle.net.specs.Checked.{records_of}
use Rattle.every_plan.specs.declared.trying.Case.{Case}

-- its records, and the spare sites and the prices along them
pub record Net (C : Type 0) : Type 0 where
  pub records : List Record
  pub spare : List ℕ
  pub prices : List (Option C)

abbrev pub net_of : {C : Type 0} → Case C → Net C
net_of case = record { records = records_of case.route.now; spare = case.spare.now; prices = case.prices.now }
