use Rattle.listing.specs.Names.{ℕ, ◌+◌, ◌*◌}
use Rattle.listing.proofs.Names.{sym, ap, ◌∙◌, pick_yes, pick_no, lt-ltb, le-ltb}
use Rattle.listing.proofs.hex.on.Goals as goal

pub returns-then-v-lt-END : goal.returns-then-v-lt-END
returns-then-v-lt-END c = ap (λ (d : ℕ). 16 * c.args.v + d) c.from.ensures ∙ sym (pick_yes _ _ _ (lt-ltb _ _ c.if-v-lt-END.true))

pub returns-else-v-lt-END : goal.returns-else-v-lt-END
returns-else-v-lt-END c = sym (pick_no _ _ _ (le-ltb _ _ c.if-v-lt-END.false))
