use Rattle.std.proofs.Common.{Option, Result}
use Rattle.builder.specs.declared.BuildError.{BuildError}
use Rattle.builder.specs.Names.{ℕ}
use Rattle.builder.proofs.Names.{refl, sym, ◌∙◌, ap, ap₂, not-true, not-false, outcome}
use Rattle.std.specs.Option.{ok_or}
use Rattle.builder.proofs.Answers.{err_is, answer-memory, answer_refused, answer-length, left-written, refused-leaves, outcome-is}
use Rattle.builder.proofs.build.Goals as goal

pub returns-then-not-room_ok : goal.returns-then-not-room_ok
returns-then-not-room_ok c =
    outcome-is _ _ _ _ _ (answer-memory _ _ _ (sym c.room_ok.ensures ∙ not-true _ c.if-not-room_ok.true-raw)) refl

pub returns-in_err-check : goal.returns-in_err-check
returns-in_err-check c =
    ap (λ (r : Result ℕ BuildError). outcome r c.args.memory.now) (err_is c.from_residual.result _ c.from_residual.ensures.1)
    ∙ outcome-is _ _ _ _ _
    (answer_refused _ _ _ (sym c.room_ok.ensures ∙ not-false _ c.if-not-room_ok.false-raw) _ (sym c.check.ensures.0 ∙ c.in_err-check.was)) (refused-leaves _ _ _)

pub returns : goal.returns
returns c =
    let a = c.args in
    let k = c.check.ensures in
    let fine = c.in_ok-check.was in
    let w = c.write.ensures (k.1 fine refl) in
    ap (λ r. outcome r c.write.new.out) (c.ok_or.ensures.value ∙ ap₂ (λ (o : Option ℕ) (n : ℕ). ok_or o (BuildError.TooLong n)) w.0 c.count.ensures)
    ∙ outcome-is a.records.now a.base.0 a.memory.now _ _
    (answer-length a.records.now a.base.0 _ (sym c.room_ok.ensures ∙ not-false _ c.if-not-room_ok.false-raw) (sym k.0 ∙ fine))
    (w.1 ∙ left-written _ _ _ _)
