use Rattle.audit.specs.Names.{List, [], ◌%◌, ◌*◌, ◌++◌, ◌+◌, ◌-◌, ◌∷◌, ℕ, pasted}
use Rattle.audit.proofs.Names.{◌∙◌, ap, arith, page_mapping}
use Rattle.page.proofs.Slot.{type_of-lt}
use Rattle.wire.proofs.Pastes.{part_filled}
use Rattle.wire.specs.Words.{bytes_of}
use Rattle.records.proofs.Records.{record_words}
use Rattle.page.specs.Ground.{take, drop}
use Rattle.audit.proofs.pages.put_page.Goals as goal

pub overflow_add-record : goal.overflow_add-record
overflow_add-record c = omega (arith, c.type_of.ensures, type_of-lt c.args.p.kind)

pub returns : goal.returns
returns c =
    let x = c.args in
    let ws : List ℕ = x.va ∷ x.p.frame.0 ∷ (c.type_of.result + 256 * (x.p.access % 256)) ∷ [] in
    let k : ℕ = x.at + 12 - x.at in
    ap (λ (y : List ℕ). take x.at x.out.now ++ (y ++ drop k (drop x.at x.out.now))) c.put.ensures
    ∙ part_filled x.out.now x.at k ws (omega arith) (omega (arith, c.requires))
    ∙ ap (λ (r : ℕ). pasted x.out.now x.at (bytes_of (x.va ∷ x.p.frame.0 ∷ (r + 256 * (x.p.access % 256)) ∷ []))) c.type_of.ensures
    ∙ ap (pasted x.out.now x.at) (record_words (page_mapping x.va x.p))
