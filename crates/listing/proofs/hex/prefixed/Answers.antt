use Rattle.listing.proofs.Names.{prefixed, sym, ◌∙◌, and_yes, and_no, or_yes, or_no, eq-eqb, ne_eqb, le-leb, lt-leb}
use Rattle.listing.proofs.hex.prefixed.Goals as goal
use Rattle.listing.proofs.hex.prefixed.Goals.{then-w-lt2-via-then-w-lt2, then-w-lt2-via-else-w-lt2+then-w-ne48}

pub returns-then-w-lt2 : goal.returns-then-w-lt2
unfolding prefixed
returns-then-w-lt2 c = elim c.then-w-lt2.branch [
  | then-w-lt2-via-then-w-lt2 w ↦ sym (and_no _ _ (lt-leb _ _ w.if-w-lt2.true))
  | then-w-lt2-via-else-w-lt2+then-w-ne48 w ↦ sym (and_yes _ _ (le-leb _ _ w.if-w-lt2.false) ∙ and_no _ _ (ne_eqb _ _ w.if-w-ne48.true))
]

pub returns-then-w-eq120 : goal.returns-then-w-eq120
unfolding prefixed
returns-then-w-eq120 c =
    let e = eq-eqb _ _ c.if-w-eq120.true in
    e ∙ sym (and_yes _ _ (le-leb _ _ c.if-w-lt2.false) ∙ and_yes _ _ (eq-eqb _ _ c.if-w-ne48.false) ∙ or_yes _ _ e)

pub returns-else-w-eq120 : goal.returns-else-w-eq120
unfolding prefixed
returns-else-w-eq120 c =
    sym (and_yes _ _ (le-leb _ _ c.if-w-lt2.false) ∙ and_yes _ _ (eq-eqb _ _ c.if-w-ne48.false) ∙ or_no _ _ (ne_eqb _ _ c.if-w-eq120.false))
