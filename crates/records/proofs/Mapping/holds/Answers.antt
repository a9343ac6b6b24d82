use Rattle.records.specs.Names.{eqb, ℕ, ◌/◌, ◌^◌}
use Rattle.records.proofs.Names.{holds, low_bits-le, ap, arith}
use Rattle.records.proofs.Mapping.holds.Goals as goal

pub overflow_shr-result : goal.overflow_shr-result
overflow_shr-result c = omega (arith, c.low_bits-n.ensures, low_bits-le c.args.self.kind)

pub overflow_shr-result-2 : goal.overflow_shr-result-2
overflow_shr-result-2 c = omega (arith, c.low_bits-n.ensures, low_bits-le c.args.self.kind)

pub returns : goal.returns
unfolding holds
returns c = ap (λ (n : ℕ). eqb (c.args.va.0 / 2 ^ n) (c.args.self.at.0 / 2 ^ n)) c.low_bits-n.ensures
