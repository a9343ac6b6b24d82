use Rattle.recording.specs.Names.{ℕ, ◌≡◌, ◌*◌, length, min}
use Rattle.recording.specs.Blocks.{most_calls}
use Rattle.recording.specs.Writing.{bad_call, blocks_for, records_in}
use Rattle.recording.proofs.Names.{refl, sym, ◌∙◌, ap, arith, first_bad}
use Rattle.recording.proofs.Firsts.{accepted_by}
use Rattle.recording.proofs.Writes.{filled_short, filled-all, write-bad, write-good, recording_length, blocks_few}
use Rattle.recording.proofs.write.Goals as goal

-- the first bad call of as many as there are
named : (l : _) (n b : ℕ) → n ≡ records_in l → b ≡ first_bad l 0 (min n most_calls) → b ≡ bad_call l
named l n b e h = h ∙ ap (λ (k : ℕ). first_bad l 0 (min k most_calls)) e

pub returns-then-bad-n : goal.returns-then-bad-n
returns-then-bad-n c =
    let l = c.args.calls.now in
    write-bad l c.args.out.now _ (named l c.div_ceil-n.result _ (omega arith) c.bad_call-bad.ensures) (omega arith)

pub overflow_mul-bytes : goal.overflow_mul-bytes
overflow_mul-bytes c =
    let l = c.args.calls.now in
    let b = named l c.div_ceil-n.result _ (omega arith) c.bad_call-bad.ensures in
    omega (arith, blocks_few l (accepted_by l (omega arith)))

pub returns-then-out-bytes : goal.returns-then-out-bytes
returns-then-out-bytes c =
    let l = c.args.calls.now in
    let b = named l c.div_ceil-n.result _ (omega arith) c.bad_call-bad.ensures in
    filled_short _ c.args.out.now _ (recording_length l ∙ (let e : 512 * blocks_for l ≡ 512 * c.div_ceil-bytes.result = omega arith in e)) c.if-out-bytes.true
    ∙ write-good l c.args.out.now (omega arith)

pub put_blocks-requires : goal.put_blocks-requires
put_blocks-requires c =
    let l = c.args.calls.now in
    let b = named l c.div_ceil-n.result _ (omega arith) c.bad_call-bad.ensures in
    let a = accepted_by l (omega arith) in
    record { all = refl; numbered = blocks_few l a; whole = a.whole; held = omega arith }

pub returns : goal.returns
returns c =
    let l = c.args.calls.now in
    let o = c.args.out.now in
    let b = named l c.div_ceil-n.result _ (omega arith) c.bad_call-bad.ensures in
    filled-all _ o _ (recording_length l ∙ (let e : 512 * blocks_for l ≡ 512 * c.div_ceil-bytes.result = omega arith in e)) _ c.if-out-bytes.false c.put_blocks.ensures
    ∙ write-good l o (omega arith)
