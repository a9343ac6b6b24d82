use Rattle.builder.specs.Names.{ℕ, ◌%◌, get_or, megabytes}
use Rattle.builder.proofs.Names.{refl, ap, ◌∙◌, arith, length-set, based}
use Rattle.builder.proofs.Levels.{words_more}
use Rattle.wire.specs.Words.{word_bytes}
use Rattle.wire.proofs.Splices.{rest-bytes, words_fit}
use Rattle.builder.proofs.image.write_first.Goals as goal

pub loop-k-init : goal.loop-k-init
loop-k-init c = record { long = refl; written = λ x h. absurd (omega arith) }

pub loop-k-preserved : goal.loop-k-preserved
loop-k-preserved c =
    let l = c.loop-k in
    let a = c.args in
    record {
      long = simp length-set l.invariant.long;
      written = words_more (λ (x : ℕ). based a.base (get_or a.firsts.now x 0) % 4294967296) l.words l.k _ (omega (arith, l.invariant.long)) c.based.ensures l.invariant.written;
    }

pub returns : goal.returns
returns c =
    let a = c.args in
    let pre = c.requires in
    let l = c.loop-k in
    c.put.ensures
    ∙ words_fit a.out.now 0 megabytes l.words (λ (x : ℕ). based a.base (get_or a.firsts.now x 0)) l.invariant.long (omega (arith, pre.room))
    (λ j h. ap word_bytes (l.invariant.written j (omega (arith, c.loop-k-test.false))) ∙ rest-bytes (based a.base (get_or a.firsts.now j 0)))
