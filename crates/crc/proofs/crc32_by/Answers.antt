use Rattle.std.proofs.Common.{subst}
use lib.Seq.{take_all}
use Rattle.std.proofs.lemmas.List.Sums.{fold_more}
use Rattle.std.proofs.lemmas.Grind.{common_steps}
use Rattle.std.specs.List.{fold}
use Rattle.std.specs.Simd.{first_chunks}
use Rattle.crc.specs.Names.{ℕ, ◌≡◌, ◌/◌, ◌*◌, length, take, drop, bit_xor}
use Rattle.crc.proofs.Names.{arith, ◌∙◌, sym, ap, IsTable, byte_step, crc_from, crc32, ones}
use Rattle.crc.proofs.Registers.{in_pieces}
use Rattle.crc.proofs.crc32_by.Goals as goal

pub loop-b-preserved : goal.loop-b-preserved
loop-b-preserved c = λ h. grind (arith, common_steps, fold_more, c.loop-b.invariant h, c.eight-c.ensures h)

pub loop-b-2-preserved : goal.loop-b-2-preserved
loop-b-2-preserved c = λ h. grind (arith, common_steps, fold_more, c.loop-b-2.invariant h, c.one-c.ensures h)

pub returns : goal.returns
returns c = λ h.
    let p = c.as_chunks in
    let l = c.args.bytes.now in
    let a = c.loop-b in
    let b = c.loop-b-2 in
    let t : IsTable c.in-Some.t.now = subst IsTable (sym c.in-Some.ensures.cases.same) (let e : take 2048 c.args.t.now ≡ c.args.t.now = take_all 2048 c.args.t.now (omega (arith, h.long)) in subst IsTable (sym e) h) in
    let first : a.c ≡ fold crc_from ones (first_chunks 8 (length l / 8) l) =
    a.invariant t ∙ ap (fold crc_from ones) (take_all _ _ c.loop-b-test.false ∙ p.ensures.front) in
    let then : b.c ≡ fold byte_step a.c (drop (length l / 8 * 8) l) = b.invariant t ∙ ap (fold byte_step a.c) (take_all _ _ c.loop-b-2-test.false ∙ p.ensures.back) in
    ap (λ (x : ℕ). bit_xor x ones) (then ∙ ap (λ (x : ℕ). fold byte_step x (drop (length l / 8 * 8) l)) first) ∙ in_pieces (length l / 8) l
