-- The parts of a decision, put together. Assumes nothing.
use Rattle.std.proofs.Common.{Option, None}
use Rattle.decision.specs.Names.{◌≡◌, true, false, List, ℕ, physical, looked_up, is_on, is_walking, Seen, Fault, Answer, Access, VirtualAddress}
use Rattle.decision.specs.Names.{Walked}
use Rattle.decision.proofs.Names.{◌∙◌, ap, pick_yes, pick_no, plainly}
use Rattle.decision.specs.Decisions.{by_walk, by_matched, decided}
use Rattle.decision.specs.Prefetches.{prefetch_matched, prefetch_decided}

module _ (w : Walked) (c : ℕ) (cam ram : List ℕ) (va : VirtualAddress) (a : Access) where
  pub decided-off : is_on c ≡ false → decided w c cam ram va a ≡ plainly (Answer.Address (physical va.0)) Seen.Nothing
  unfolding decided
  decided-off h = pick_no _ _ _ h

  pub decided-on : (x : Option ℕ) → is_on c ≡ true → looked_up cam va ≡ x → decided w c cam ram va a ≡ by_matched w c cam ram va a x
  unfolding decided
  decided-on x h e = pick_yes _ _ _ h ∙ ap (by_matched w c cam ram va a) e

  pub decided-miss : is_on c ≡ true → looked_up cam va ≡ None → is_walking c ≡ false → decided w c cam ram va a ≡ plainly (Answer.Fault Fault.Miss) Seen.NoMatch
  decided-miss h e k = decided-on None h e ∙ pick_no _ _ _ k

  pub decided-walk : is_on c ≡ true → looked_up cam va ≡ None → is_walking c ≡ true → decided w c cam ram va a ≡ by_walk va a w
  decided-walk h e k = decided-on None h e ∙ pick_yes _ _ _ k

module _ (w : Walked) (cam : List ℕ) (va : VirtualAddress) where
  pub prefetch-on : (x : Option ℕ) → looked_up cam va ≡ x → prefetch_decided w cam va ≡ prefetch_matched w va x
  unfolding prefetch_decided
  prefetch-on x e = ap (prefetch_matched w va) e
