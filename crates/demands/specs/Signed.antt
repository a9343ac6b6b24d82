-- All that the buyer signs: the three demands, what keeps the third from being hollow, images that were not built here, and two images compared.
use Rattle.demands.specs.Demands.Names.{StartedInAnyOrder}
use Rattle.demands.specs.Demands.{Demand1, Demand2, Demand3}
use Rattle.demands.specs.Answering.{RequestsAnswered, RetriesAnswered}
use Rattle.demands.specs.Buyer.{BuiltThenCalled, BuiltSession, Exhibited}
use Rattle.demands.specs.Foreign.{Foreign}
use Rattle.parting.specs.Statements.{ImagesPart, CasesWorked}

pub record Signed : Type 0 where
  pub first : Demand1
  pub second : Demand2
  pub third : Demand3
  pub requests : RequestsAnswered
  pub retries : RetriesAnswered
  pub any_order : StartedInAnyOrder
  pub built : BuiltThenCalled
  pub sessions : BuiltSession
  pub exhibited : Exhibited
  pub foreign : Foreign
  pub parting : ImagesPart
  pub parted : CasesWorked
