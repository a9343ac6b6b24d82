use Rattle.listing.proofs.Names.{read_text, sym, ◌∙◌, pick_yes, pick_no, or_yes, or_no, lt-ltb, le-ltb}
use Rattle.listing.proofs.read.Goals as goal
use Rattle.listing.proofs.read.Goals.{then-records-via-then-records, then-records-via-else-records+then-lines-lt-MOST}

pub returns-then-records : goal.returns-then-records
unfolding read_text
returns-then-records c = elim c.then-records.branch [
  | then-records-via-then-records w ↦ sym (pick_yes _ _ _ (or_yes _ _ (lt-ltb _ _ w.if-records.true)))
  | then-records-via-else-records+then-lines-lt-MOST w ↦ sym (pick_yes _ _ _ (or_no _ _ (le-ltb _ _ w.if-records.false) ∙ lt-ltb _ _ w.if-lines-lt-MOST.true))
]

pub returns-then-text-gt-LONGEST : goal.returns-then-text-gt-LONGEST
unfolding read_text
returns-then-text-gt-LONGEST c =
    sym (pick_no _ _ _ (or_no _ _ (le-ltb _ _ c.if-records.false) ∙ le-ltb _ _ c.if-lines-lt-MOST.false) ∙ pick_yes _ _ _ (lt-ltb _ _ c.if-text-gt-LONGEST.true))

pub read_lines-requires : goal.read_lines-requires
read_lines-requires c =
    record { text = c.if-text-gt-LONGEST.false; records = c.if-records.false; lines = c.if-lines-lt-MOST.false }

pub returns : goal.returns
unfolding read_text
returns c =
    c.read_lines.ensures ∙ sym (pick_no _ _ _ (or_no _ _ (le-ltb _ _ c.if-records.false) ∙ le-ltb _ _ c.if-lines-lt-MOST.false) ∙ pick_no _ _ _ (le-ltb _ _ c.if-text-gt-LONGEST.false))
