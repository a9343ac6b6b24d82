use Rattle.listing.specs.Names.{List, [], ◌∷◌, ◌++◌, ℕ, ◌+◌}
use Rattle.listing.proofs.Names.{access_text, shown, shown_at, sym, ◌∙◌, ap, pick_yes, pick_no, eq-eqb, ne_eqb}
use Rattle.listing.proofs.printer.put_access.Goals as goal

pub returns-then-a-eq3 : goal.returns-then-a-eq3
unfolding access_text
returns-then-a-eq3 c =
    ap (shown (c.args.at + 3)) c.put.ensures ∙ ap (λ (s : List ℕ). shown_at c.args.out.now c.args.at (s ++ (10 ∷ []))) (sym (pick_yes _ _ _ (eq-eqb _ _ c.if-a-eq3.true)))

pub returns-else-a-eq3 : goal.returns-else-a-eq3
unfolding access_text
returns-else-a-eq3 c =
    ap (shown (c.args.at + 2)) c.put-else-a-eq3.ensures ∙ ap (λ (s : List ℕ). shown_at c.args.out.now c.args.at (s ++ (10 ∷ []))) (sym (pick_no _ _ _ (ne_eqb _ _ c.if-a-eq3.false)))
