use Rattle.std.proofs.Common.{tests}
use Rattle.std.proofs.lemmas.Iterator.{YieldsList-from_map}
use Rattle.std.proofs.lemmas.Iterator.Consumers.{YieldsList-at}
use Rattle.std.proofs.lemmas.Iterator.Search.{find_from_yields_List}
use Rattle.std.proofs.lemmas.Iterator.Splits.{YieldsList-from_shown_while}
use Rattle.std.specs.Slice.Iter.{chunks_exact_rest, chunks_exact_size, chunks_exact_steps}
use Rattle.records.specs.Names.{◌≡◌}
use Rattle.records.proofs.Names.{ap, ◌∙◌, arith, rules, mapping_of, mappings, holds}
use Rattle.records.proofs.Listed.{mappings-length}
use Rattle.records.proofs.Pieces.{mappings-cons, found_is}
use Rattle.records.proofs.lists.holder.Goals as goal

pub returns : goal.returns
returns c =
    found_is _ _ c.args.va c.find.result c.chunks_exact.ensures.rest
    (find_from_yields_List (λ m. holds m c.args.va) _ _ c.find.result c.find.ensures.ran
    (YieldsList-from_map _ (λ m. m)
    (YieldsList-at c.map.ensures.source
    (YieldsList-from_shown_while chunks_exact_steps (λ x. mapping_of x.now) (λ s. mappings (chunks_exact_rest s)) (λ s. chunks_exact_size s ≡ 12)
    (λ s t p e. mappings-length (chunks_exact_rest s) ∙ omega arith)
    (λ s x t p e. (e.0 ∙ p, ap mappings e.1.0 ∙ mappings-cons x.now (chunks_exact_rest t) (e.1.1 ∙ p)))
    c.chunks_exact.result c.chunks_exact.ensures.size))
    c.map.ensures.closure (λ x r q k. search (rules, tests)))
    (λ x b q k. search (rules, tests)))
