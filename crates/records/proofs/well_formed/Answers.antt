use Rattle.records.specs.Names.{ℕ, ◌<◌, ◌≤◌, ◌%◌, ◌^◌, eqb, low_bits, Kind}
use Rattle.records.proofs.Names.{sym, ap, ap₂, ◌∙◌, arith, bit_or, and_no, low_bits-le, well_formed, lt-leb, ltb-true, eqb-true, true≢false}
use borrow.Author.Tests.{ltb-false}
use Rattle.records.proofs.Rest.{rest-wrong, type_wrong, rest_past, rest-proper, one_shifted}
use Rattle.records.proofs.well_formed.Goals as goal
use Rattle.records.proofs.well_formed.Goals.{then-rest-lt4, else-rest-lt4, then-rest-eq1, else-rest-eq1}

pub returns-then-r-lt-SIZE : goal.returns-then-r-lt-SIZE
unfolding well_formed
returns-then-r-lt-SIZE c = sym (and_no _ _ (lt-leb _ _ c.if-r-lt-SIZE.true))

pub returns-then-at-lt-LIMIT : goal.returns-then-at-lt-LIMIT
returns-then-at-lt-LIMIT c =
    let w = c.word_at-rest in
    let at = c.word_at-at in
    let to = c.word_at-to in
    let k = c.kind_of-kind in
    let both =
    ap₂ (λ (x y : ℕ). eqb (x % y) 0) (ap₂ bit_or at.ensures to.ensures)
    (one_shifted c.low_bits.result (low_bits k.result) c.low_bits.ensures (low_bits-le k.result) ∙ ap (λ (x : Kind). 2 ^ low_bits x) k.ensures) in
    elim c.if-rest-lt4.branch [
      | then-rest-lt4 u ↦ elim c.if-rest-eq1.branch [
        | then-rest-eq1 v ↦
            let below : at.result < 16777216 = ltb-true _ _ (sym u.value-is ∙ c.if-at-lt-LIMIT.true) in
            both
            ∙ rest-proper c.args.r.now c.if-r-lt-SIZE.false (λ i. (c.type_inv.r i).fits) w.result w.ensures v.if-rest-eq1.true (ltb-true _ _ (sym v.value-is ∙ u.if-rest-lt4.true))
            (omega (arith, below, at.ensures))
        | else-rest-eq1 v ↦ absurd (v.if-rest-eq1.false (eqb-true _ _ (sym v.value-is ∙ u.if-rest-lt4.true)))
      ]
      | else-rest-lt4 u ↦ absurd (true≢false (sym c.if-at-lt-LIMIT.true ∙ u.value-is ∙ u.if-rest-lt4.false))
    ]

pub returns-else-at-lt-LIMIT : goal.returns-else-at-lt-LIMIT
returns-else-at-lt-LIMIT c =
    let w = c.word_at-rest in
    c.if-at-lt-LIMIT.false
    ∙ elim c.if-rest-lt4.branch [
      | then-rest-lt4 u ↦ elim c.if-rest-eq1.branch [
        | then-rest-eq1 v ↦
            let past : 16777216 ≤ c.word_at-at.result = ltb-false _ _ (sym u.value-is ∙ c.if-at-lt-LIMIT.false) in
            rest_past c.args.r.now c.if-r-lt-SIZE.false (λ i. (c.type_inv.r i).fits) w.result w.ensures v.if-rest-eq1.true
            (ltb-true _ _ (sym v.value-is ∙ u.if-rest-lt4.true)) (omega (arith, past, c.word_at-at.ensures))
        | else-rest-eq1 v ↦ absurd (v.if-rest-eq1.false (eqb-true _ _ (sym v.value-is ∙ u.if-rest-lt4.true)))
      ]
      | else-rest-lt4 u ↦ elim c.if-rest-eq1.branch [
        | then-rest-eq1 v ↦
            type_wrong c.args.r.now c.if-r-lt-SIZE.false (λ i. (c.type_inv.r i).fits) w.result w.ensures (ltb-false _ _ (sym v.value-is ∙ u.if-rest-lt4.false))
        | else-rest-eq1 v ↦ rest-wrong c.args.r.now c.if-r-lt-SIZE.false (λ i. (c.type_inv.r i).fits) w.result w.ensures v.if-rest-eq1.false
      ]
    ]
