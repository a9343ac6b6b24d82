-- The tests of a plan, as the code makes them: what they say of a definition's picks. Assumes nothing.
use Rattle.std.specs.Cmp.{first_so, second_so}
use borrow.Author.Tests.{eq-eqb, ne_eqb, le-leb, lt-leb}
use Rattle.page.proofs.Picks.{pick_yes, pick_no, and_is}

pub ruleset picks = (pick_yes, pick_no, and_is, first_so, second_so, eq-eqb, ne_eqb, le-leb, lt-leb)
