use Rattle.records.specs.Names.{take, drop, ℕ, ◌+◌, ◌*◌, ◌≡◌}
use Rattle.records.proofs.Names.{◌-◌, mapping_of, sym, ◌∙◌, ap, arith}
use Rattle.records.proofs.Listed.{mappings_at, mappings_past}
use Rattle.records.proofs.mapping_at.Goals as goal

pub returns-then-i-records : goal.returns-then-i-records
returns-then-i-records c =
    c.mapping_of.ensures ∙ ap (λ (n : ℕ). mapping_of (take n (drop (12 * c.args.i) c.args.records.now))) (let e : 12 * c.args.i + 12 - 12 * c.args.i ≡ 12 = omega arith in e)
    ∙ sym (mappings_at _ _ c.if-i-records.true)

pub returns-else-i-records : goal.returns-else-i-records
returns-else-i-records c = sym (mappings_past _ _ c.if-i-records.false)
