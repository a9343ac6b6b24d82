-- All of it holds. Assumes nothing.
use Rattle.demands.proofs.Names.{started_in_any_order}
use Rattle.demands.specs.Signed.{Signed}
use Rattle.demands.proofs.Proved.{demand_1, demand_2, demand_3}
use Rattle.demands.proofs.Answering.{requests-answered, retries-answered}
use Rattle.demands.proofs.Buyer.{built_then_called, built-session, exhibited}
use Rattle.demands.proofs.Foreign.{foreign}
use Rattle.parting.proofs.Laws.{images_part, cases_worked}

pub signed : Signed
signed = record {
  first = demand_1;
  second = demand_2;
  third = demand_3;
  requests = requests-answered;
  retries = retries-answered;
  any_order = started_in_any_order;
  built = built_then_called;
  sessions = built-session;
  exhibited = exhibited;
  foreign = foreign;
  parting = images_part;
  parted = cases_worked;
}
