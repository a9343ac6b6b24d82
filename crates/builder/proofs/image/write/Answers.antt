use Rattle.builder.specs.Names.{ℕ, ◌/◌, ◌≤◌, length, megabytes, mappings, image_length, spliced}
use Rattle.builder.proofs.Names.{sym, ap, ◌∙◌, arith, written, spliced_same}
use Rattle.builder.proofs.Whole.{short-in, fits-in, written_short, written-image}
use Rattle.builder.specs.Image.{length_in}
use Rattle.builder.proofs.Levels.{level-more}
use Rattle.builder.proofs.Parts.{first-none, image-begun, image-done}
use borrow.Author.Tests.{eqb-true}
use Rattle.builder.proofs.Nothing.{no_mappings}
use Rattle.builder.proofs.image.write.Goals as goal

pub returns-then-is_empty : goal.returns-then-is_empty
returns-then-is_empty c known =
    let a = c.args in
    let e = no_mappings a.records.now (eqb-true _ _ (sym c.is_empty.ensures ∙ c.if-is_empty.true)) in
    let n = c.write_none.ensures in
    (n.0 ∙ ap (λ ms. length_in ms (length a.out.now)) (sym e), n.1 ∙ ap (λ ms. written ms a.base a.out.now) (sym e))

pub returns-then-out-len : goal.returns-then-out-len
returns-then-out-len c known =
    let a = c.args in
    let ms = mappings a.records.now in
    let e = c.place-end.ensures.ends ms known in
    (short-in ms (length a.out.now) (omega (arith, c.if-out-len.true)), sym (written_short ms a.base a.out.now (omega (arith, c.if-out-len.true))))

pub write_first-requires : goal.write_first-requires
write_first-requires c =
    let zeros = c.write_run in
    let room = c.if-out-len.false in
    level-more _ _ _ (omega (arith, zeros.auto.out)) c.place-end.ensures.level

pub write_mappings-requires : goal.write_mappings-requires
write_mappings-requires c =
    let first = c.write_first in
    let zeros = c.write_run in
    let room = c.if-out-len.false in
    level-more _ _ _ (omega (arith, zeros.auto.out, first.auto.out)) c.place-end.ensures.level

pub returns : goal.returns
returns c known =
    let a = c.args in
    let ms = mappings a.records.now in
    let q = c.place-end in
    let p = q.ensures in
    let z = c.write_run in
    let f = c.write_first in
    let e = p.ends ms known in
    let fits = c.if-out-len.false in
    let room : image_length megabytes ms ≤ length a.out.now = omega arith in
    let same = f.auto.out ∙ z.auto.out in
    let first =
    spliced_same z.new.out 0 megabytes _ _ (omega (arith, z.auto.out, p.level.room)) (λ k h. first-none ms q.result.0 a.base k h (p.begins ms known)) in (
      fits-in ms (length a.out.now) _ e room,
      image-done megabytes ms a.base a.out.now _ room
          (c.write_mappings.ensures (p.begins ms known) (omega (arith, same)) a.base a.out.now (sym same)
          (image-begun megabytes ms a.base a.out.now _ _ room (z.ensures ∙ ap (λ (n : ℕ). spliced a.out.now 0 (λ (_ : ℕ). 0) (n / 4)) e) (f.ensures ∙ first)))
          ∙ sym (written-image ms a.base a.out.now room),
    )
