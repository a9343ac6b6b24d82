use Rattle.std.proofs.Common.{Ok}
use Rattle.recording.specs.Names.{ℕ, ◌+◌, all_good}
use Rattle.recording.specs.Reading.{progress}
use Rattle.recording.proofs.Names.{sym, ◌∙◌, ap, not-true, not-false, arith, length-take, all_zero}
use Rattle.recording.proofs.Judged.{calls_part, unused_part, judged_check, judged_number, judged_none, judged_over, judged_record, judged_unused, judged_next}
use Rattle.recording.proofs.reader.judge.Goals as goal
use native.Mathlib.Decide.{dec_le}

pub returns-then-word_at-crc32_by : goal.returns-then-word_at-crc32_by
returns-then-word_at-crc32_by c =
    judged_check c.args.p c.args.block.now (λ h. c.if-word_at-crc32_by.true (c.word_at.ensures ∙ h ∙ sym (c.crc32_by.ensures c.requires.laid)))

pub returns-then-high_at-p : goal.returns-then-high_at-p
returns-then-high_at-p c =
    judged_number c.args.p c.args.block.now (sym c.word_at.ensures ∙ c.if-word_at-crc32_by.false ∙ c.crc32_by.ensures c.requires.laid)
    (λ h. c.if-high_at-p.true (c.high_at.ensures ∙ h))

pub returns-then-n-eq0 : goal.returns-then-n-eq0
returns-then-n-eq0 c =
    let p = c.args.p in
    let b = c.args.block.now in
    let check = sym c.word_at.ensures ∙ c.if-word_at-crc32_by.false ∙ c.crc32_by.ensures c.requires.laid in
    let number = sym c.high_at.ensures ∙ c.if-high_at-p.false in
    elim (dec_le 1 c.low_at-n.result) [
      | yes some ↦ judged_over p b check number (omega (arith, c.low_at-n.ensures)) (omega (arith, c.low_at-n.ensures, c.then-n-eq0.either))
      | no none ↦ judged_none p b check number (omega (arith, c.low_at-n.ensures))
    ]

pub returns-then-not-all_good : goal.returns-then-not-all_good
returns-then-not-all_good c =
    let b = c.args.block.now in
    judged_record c.args.p b (sym c.word_at.ensures ∙ c.if-word_at-crc32_by.false ∙ c.crc32_by.ensures c.requires.laid)
    (sym c.high_at.ensures ∙ c.if-high_at-p.false) (λ h. c.if-n-eq0.false (c.low_at-n.ensures ∙ h))
    (omega (arith, c.low_at-n.ensures))
    (sym (c.all_good.ensures ∙ ap all_good (calls_part b _ c.low_at-n.ensures)) ∙ not-true _ c.if-not-all_good.true-raw)

pub returns-then-not-all_zero : goal.returns-then-not-all_zero
returns-then-not-all_zero c =
    let b = c.args.block.now in
    judged_unused c.args.p b (sym c.word_at.ensures ∙ c.if-word_at-crc32_by.false ∙ c.crc32_by.ensures c.requires.laid)
    (sym c.high_at.ensures ∙ c.if-high_at-p.false) (λ h. c.if-n-eq0.false (c.low_at-n.ensures ∙ h))
    (omega (arith, c.low_at-n.ensures))
    (sym (c.all_good.ensures ∙ ap all_good (calls_part b _ c.low_at-n.ensures)) ∙ not-false _ c.if-not-all_good.false-raw)
    (sym (c.all_zero.ensures ∙ ap all_zero (unused_part b _ c.low_at-n.ensures)) ∙ not-true _ c.if-not-all_zero.true-raw)

pub returns : goal.returns
returns c =
    let b = c.args.block.now in
    let p = c.args.p in
    ap (λ (n : ℕ). Ok (progress (p.blocks + 1) (p.calls + n))) c.low_at-n.ensures
    ∙ judged_next p b (sym c.word_at.ensures ∙ c.if-word_at-crc32_by.false ∙ c.crc32_by.ensures c.requires.laid)
    (sym c.high_at.ensures ∙ c.if-high_at-p.false) (λ h. c.if-n-eq0.false (c.low_at-n.ensures ∙ h))
    (omega (arith, c.low_at-n.ensures))
    (sym (c.all_good.ensures ∙ ap all_good (calls_part b _ c.low_at-n.ensures)) ∙ not-false _ c.if-not-all_good.false-raw)
    (sym (c.all_zero.ensures ∙ ap all_zero (unused_part b _ c.low_at-n.ensures)) ∙ not-false _ c.if-not-all_zero.false-raw)

pub slice_bounds-crc32_by-end : goal.slice_bounds-crc32_by-end
slice_bounds-crc32_by-end c = omega (arith, length-take 508 c.args.block.now, c.requires.long)
