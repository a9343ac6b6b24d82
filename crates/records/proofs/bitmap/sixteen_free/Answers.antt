use Rattle.std.proofs.Common.{tests}
use Rattle.std.proofs.lemmas.Iterator.{cases_from_all, YieldsList-from_slice}
use Rattle.records.specs.Names.{◌≡◌}
use Rattle.records.proofs.Names.{arith, rules}
use Rattle.records.proofs.Runs.{says_sixteen}
use Rattle.records.proofs.bitmap.sixteen_free.Goals as goal

pub returns : goal.returns
returns c =
    says_sixteen c.args.c.now c.args.w _ _ (omega arith) (omega arith) (λ i. (c.type_inv.c i).fits)
    (cases_from_all _ _ _ (λ x. x ≡ 0) (λ x. x ≡ 0 → ⊥) c.all.ensures.ran (YieldsList-from_slice _ c.iter.ensures.rest)
    (λ x q k. search (rules, tests)) (λ x q k. search (rules, tests)))
