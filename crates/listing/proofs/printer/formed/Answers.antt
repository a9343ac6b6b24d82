use Rattle.listing.proofs.Names.{formed, sym, ◌∙◌, and_yes, and_no, eq-eqb, ne_eqb, le-leb, lt-leb}
use Rattle.listing.proofs.printer.formed.Goals as goal
use Rattle.listing.proofs.printer.formed.Goals.{then-records-ne0-via-then-records-ne0, then-records-ne0-via-else-records-ne0+then-n-gt-MOST}

pub returns-then-records-ne0 : goal.returns-then-records-ne0
unfolding formed
returns-then-records-ne0 c = elim c.then-records-ne0.branch [
  | then-records-ne0-via-then-records-ne0 w ↦ sym (and_no _ _ (ne_eqb _ _ w.if-records-ne0.true))
  | then-records-ne0-via-else-records-ne0+then-n-gt-MOST w ↦ sym (and_yes _ _ (eq-eqb _ _ w.if-records-ne0.false) ∙ and_no _ _ (lt-leb _ _ w.if-n-gt-MOST.true))
]

pub returns : goal.returns
unfolding formed
returns c =
    c.all_formed.ensures ∙ sym (and_yes _ _ (eq-eqb _ _ c.if-records-ne0.false) ∙ and_yes _ _ (le-leb _ _ c.if-n-gt-MOST.false))
