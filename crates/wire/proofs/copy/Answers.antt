use Rattle.wire.specs.Names.{get_or, List, ℕ, ◌+◌, ◌≡◌, length}
use Rattle.wire.proofs.Names.{add-one, refl, sym, ◌∙◌, ap, arith}
use lib.ListN.{set, length-set}
use Rattle.wire.proofs.Pastes.{copied}
use lib.Seq.{paste, paste-zero, paste-suc}
use Rattle.wire.proofs.copy.Goals as goal

pub loop-i-init : goal.loop-i-init
loop-i-init c = (refl, paste-zero c.args.out.now c.args.at c.args.s.now)

pub loop-i-preserved : goal.loop-i-preserved
loop-i-preserved c = (
  length-set c.loop-i.out (c.args.at + c.loop-i.i) _
      ∙ c.loop-i.invariant.0,
  ap (λ (l : List ℕ). set l (c.args.at + c.loop-i.i) (get_or c.args.s.now c.loop-i.i 0)) c.loop-i.invariant.1
      ∙ paste-suc c.args.out.now c.args.at c.args.s.now c.loop-i.i 0 (omega arith) (omega arith)
      ∙ ap (λ (k : ℕ). paste c.args.out.now c.args.at c.args.s.now k) (sym (add-one c.loop-i.i)),
)

pub returns : goal.returns
returns c =
    copied c.args.out.now c.loop-i.out c.args.s.now c.args.at c.loop-i.i (let e : c.loop-i.i ≡ length c.args.s.now = omega arith in e) c.loop-i.invariant.1
