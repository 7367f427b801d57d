-- The laws of the kind are what the theorem asks for.
use Rattle.search_theory.proofs.Answer.{found_right}
use Rattle.search_theory.proofs.search_stands.Goals as goal

pub returns : goal.returns
returns g c = found_right g.met.C.Cost.lawful
