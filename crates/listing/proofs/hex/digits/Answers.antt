use Rattle.listing.proofs.Names.{refl, sym, ◌∙◌, pick_yes, pick_no, lt-ltb, le-ltb, arith}
use Rattle.listing.proofs.Digits.{on-bad, on-more, on-end, on_small}
use Rattle.listing.proofs.hex.digits.Goals as goal

pub loop-x-init : goal.loop-x-init
loop-x-init c = (omega arith, refl)

pub returns-then-d-ge16 : goal.returns-then-d-ge16
returns-then-d-ge16 c = on-bad _ c.loop-x.v c.loop-x.x-index (omega arith) c.loop-x.invariant.1 _ c.digit-d.ensures c.if-d-ge16.true

pub loop-x-preserved : goal.loop-x-preserved
loop-x-preserved c = (
  on_small c.loop-x.v c.digit-d.result _ c.if-d-ge16.false c.loop-x.invariant.0 c.on-v.ensures,
  on-more _ c.loop-x.v c.loop-x.x-index (omega arith) c.loop-x.invariant.1 _ _ c.digit-d.ensures c.if-d-ge16.false c.on-v.ensures,
)

pub returns-then-v-lt-END : goal.returns-then-v-lt-END
returns-then-v-lt-END c =
    sym (on-end _ c.loop-x.v c.loop-x.x-index (omega arith) c.loop-x.invariant.1 ∙ pick_yes _ _ _ (lt-ltb _ _ c.if-v-lt-END.true))

pub returns-else-v-lt-END : goal.returns-else-v-lt-END
returns-else-v-lt-END c =
    sym (on-end _ c.loop-x.v c.loop-x.x-index (omega arith) c.loop-x.invariant.1 ∙ pick_no _ _ _ (le-ltb _ _ c.if-v-lt-END.false))
