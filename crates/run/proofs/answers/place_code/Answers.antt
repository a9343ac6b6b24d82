use Rattle.run.specs.Names.{Place}
use Rattle.run.proofs.Names.{sym, ap, rules}
use Rattle.run.specs.Answers.{place_code, cut_place}
use Rattle.run.proofs.answers.place_code.Goals as goal

pub returns-in-OnChip : goal.returns-in-OnChip
returns-in-OnChip c = sym (ap (λ (q : Place). place_code (cut_place q)) c.in-OnChip.is)

pub returns-in-External : goal.returns-in-External
returns-in-External c = sym (ap (λ (q : Place). place_code (cut_place q)) c.in-External.is)
