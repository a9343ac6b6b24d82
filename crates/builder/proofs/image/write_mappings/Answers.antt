use Rattle.builder.specs.Names.{◌≡◌, ℕ, ◌+◌, ◌/◌, ◌-◌, drop, megabytes, mappings, image_length, spliced}
use Rattle.builder.proofs.Names.{sym, ap, ◌∙◌, arith, part_word}
use Rattle.builder.proofs.Parts.{filled-start, filled-end}
use Rattle.builder.proofs.image.write_mappings.Goals as goal

pub loop-j-init : goal.loop-j-init
loop-j-init c known room base l h e = filled-start (mappings c.args.records.now) base c.count-j.result l _ (omega (arith, c.count-j.ensures)) e

pub loop-j-preserved : goal.loop-j-preserved
loop-j-preserved c known room base a h e =
    let l = c.loop-j in
    let ms = mappings c.args.records.now in
    c.write_mapping.ensures known (omega (arith, l.auto.out)) base a (h ∙ sym l.auto.out)
    (l.invariant known room base a h e
    ∙ ap (λ (i : ℕ). spliced a 0 (part_word megabytes ms (drop i ms) base) (image_length megabytes ms / 4)) (let z : l.j ≡ l.j - 1 + 1 = omega arith in z))

pub returns : goal.returns
returns c known room base l h e =
    filled-end (mappings c.args.records.now) base c.loop-j.j l _ (omega arith) (c.loop-j.invariant known room base l h e)
