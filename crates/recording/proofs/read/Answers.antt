use Rattle.recording.specs.Names.{ℕ, ◌≡◌, Result, Ok, Err, length, pasted, RecordingError}
use Rattle.recording.specs.Reading.{calls_at}
use Rattle.recording.specs.Writing.{wrote}
use Rattle.recording.proofs.Names.{refl, sym, ◌∙◌, ap, arith, pieces, rules}
use Rattle.recording.proofs.Runs.{heard_counted}
use Rattle.recording.proofs.Writes.{filled_short, filled-all, read-good, read-bad}
use Rattle.recording.proofs.read.Goals as goal

pub returns-in_err-p : goal.returns-in_err-p
returns-in_err-p c =
    let o = c.args.out.now in
    let e : (i : ℕ) × (c.hear.result ≡ Err i) × (c.in_err-p.field-0.0 ≡ RecordingError.Bad i) = search rules in
    let g : c.from_residual.result ≡ Err (RecordingError.Bad e.0) = search rules in
    ap (λ a. wrote a o) g ∙ read-bad c.args.recording.now o e.0 (sym c.hear.ensures ∙ e.1)

pub overflow_mul-bytes : goal.overflow_mul-bytes
overflow_mul-bytes c =
    let e : c.hear.result ≡ Ok c.in_ok-p.p = search rules in
    omega (arith, (heard_counted c.args.recording.now _ (sym c.hear.ensures ∙ e)).few)

pub returns-then-out-bytes : goal.returns-then-out-bytes
returns-then-out-bytes c =
    let r = c.args.recording.now in
    let h : c.hear.result ≡ Ok c.in_ok-p.p = search rules in
    let e = sym c.hear.ensures ∙ h in
    filled_short _ c.args.out.now _ (heard_counted r _ e).calls c.if-out-bytes.true ∙ read-good r c.args.out.now _ e

pub fill-requires : goal.fill-requires
fill-requires c =
    let r = c.args.recording.now in
    let h : c.hear.result ≡ Ok c.in_ok-p.p = search rules in
    let n = heard_counted r _ (sym c.hear.ensures ∙ h) in
    record { all = refl; held = omega (arith, n.calls, c.if-out-bytes.false) }

pub returns : goal.returns
returns c =
    let r = c.args.recording.now in
    let o = c.args.out.now in
    let h : c.hear.result ≡ Ok c.in_ok-p.p = search rules in
    let e = sym c.hear.ensures ∙ h in
    filled-all _ o _ (heard_counted r _ e).calls _ c.if-out-bytes.false c.fill.ensures ∙ read-good r o _ e
