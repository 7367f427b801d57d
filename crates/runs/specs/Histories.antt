-- What a floorplan's calls were handed and accepted. Nothing of it is stored when a program runs.
use Rattle.std.specs.Prelude.{ℕ, zero, suc, ◌+◌, cond, List, [], ◌∷◌, ◌++◌, Some, None, Option, slice_index_or}
use Rattle.grid.specs.declared.shape.Grid.{Grid}
use Rattle.net.specs.declared.limit.Limit.{Limit}
use Rattle.net.specs.declared.records.record.Record.{Record}
use Rattle.runs.specs.Worlds.{crosses, buffers_in}

-- a net: the limit and the route that entering was handed, and the marks of its latest accepted planning or filing, until
-- it is withdrawn
pub record NetTold : Type 0 where
  pub limit : ℕ
  pub route : List Record
  pub filed : Option (List ℕ)

-- the nets in the order of their numbers
abbrev pub History : Type 0
History = List NetTold

abbrev pub no_net : NetTold
no_net = record { limit = 0; route = []; filed = None }

abbrev pub net_told : History → ℕ → NetTold
net_told h k = slice_index_or h k no_net

abbrev pub with_filed : Option (List ℕ) → NetTold → NetTold
with_filed f n = record { limit = n.limit; route = n.route; filed = f }

abbrev pub refiled : History → ℕ → Option (List ℕ) → History
refiled [] k f = []
refiled (n ∷ h) zero f = with_filed f n ∷ h
refiled (n ∷ h) (suc k) f = n ∷ refiled h k f

-- after a call that refused this, or was accepted: a refused one leaves the history as it was
abbrev pub after_entering : {F : Type 0} → Option F → History → Limit → List Record → History
after_entering None h limit rs = h ++ (record { limit = limit.value; route = rs; filed = None } ∷ [])
after_entering (Some f) h limit rs = h

abbrev pub after_filing : {F : Type 0} → Option F → History → ℕ → List ℕ → History
after_filing None h k ms = refiled h k (Some ms)
after_filing (Some f) h k ms = h

abbrev pub after_withdrawing : {F : Type 0} → Option F → History → ℕ → History
after_withdrawing None h k = refiled h k None
after_withdrawing (Some f) h k = h

-- the buffers of a filed plan in the tile t, none where none is filed
abbrev pub filed_in : List Record → Option (List ℕ) → ℕ → ℕ
filed_in rs None t = 0
filed_in rs (Some ms) t = buffers_in rs ms t

-- the buffers filed in the tile t
abbrev pub buffers_filed : History → ℕ → ℕ
buffers_filed [] t = 0
buffers_filed (n ∷ h) t = filed_in n.route n.filed t + buffers_filed h t

-- how many nets' routes cross the boundary b
abbrev pub crossing_nets : Grid → History → ℕ → ℕ
crossing_nets g [] b = 0
crossing_nets g (n ∷ h) b = cond (crosses g n.route b) 1 0 + crossing_nets g h b
