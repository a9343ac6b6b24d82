use Rattle.std.proofs.lemmas.Iterator.{YieldsList-from_slice}
use Rattle.std.proofs.lemmas.Iterator.Search.{all_from_yields_List}
use Rattle.std.specs.List.{list_all}
use Rattle.std.specs.Simd.{first_chunks}
use Rattle.calls.specs.Names.{◌≡◌, ◌%◌, length, false}
use Rattle.calls.proofs.Names.{refl, sym, ◌∙◌, ap, and_yes, and_no, eq-eqb, ne_eqb, arith, call_of, is_good, all_good, nat_tests, rules}
use Rattle.calls.specs.Records.{call_size, call_count}
use Rattle.calls.proofs.Rest.{good_pieces}
use Rattle.calls.proofs.all_good.Goals as goal

pub returns-then-is_empty : goal.returns-then-is_empty
unfolding all_good
returns-then-is_empty c =
    let l = c.args.calls.now in
    let e : c.all.result ≡ list_all (λ r. is_good (call_of r)) c.as_chunks.result.0.now =
    all_from_yields_List _ _ _ _ c.all.ensures.ran (YieldsList-from_slice c.as_chunks.result.0.now cc) (λ x b q k. search rules) in
    let z : length l % call_size ≡ 0 = grind (arith, nat_tests) in
    e ∙ ap (list_all (λ r. is_good (call_of r))) c.as_chunks.ensures.front ∙ good_pieces l 0 (call_count l) (omega arith) ∙ sym (and_yes _ _ (eq-eqb _ _ z))

pub returns-else-is_empty : goal.returns-else-is_empty
unfolding all_good
returns-else-is_empty c = let n : length c.args.calls.now % call_size ≡ 0 → ⊥ = grind (arith, nat_tests) in let f : c.is_empty.result ≡ false = search rules in f ∙ sym (and_no _ _ (ne_eqb _ _ n))
