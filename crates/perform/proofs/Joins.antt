-- What an attempt leaves on each of its ways is what its decision leaves, whatever the reason; a prefetch is tried by a unit that is on and walks. Assumes nothing.
use Rattle.std.proofs.Common.{Option}
use Rattle.std.proofs.Common.{Result, Ok, Err}
use Rattle.walk.specs.declared.Unfound.{Unfound}
use Rattle.walk.specs.declared.Page.{Page}
use Rattle.std.proofs.Common.{Some, None}
use Rattle.perform.specs.Names.{◌≡◌, true, false, List, ℕ, pick, Access, VirtualAddress, word_count, last_place, Prices, reads_posted, Bill, Seen, looked_up}
use Rattle.perform.specs.Names.{Walked, is_on, is_walking, Answer, Fault, Stall, plainly, Decision, Reason}
use Rattle.perform.proofs.Names.{refl, sym, ◌∙◌, ap, get_or, decided_for, after_of, wordless_of, walked_of}
use mathlib.Core.Bool.{true≢false}
use Rattle.page.specs.Words.{physical}
use Rattle.memory.specs.declared.Reads.{Reads}
use Rattle.decision.specs.Decisions.{by_found}
use Rattle.decision.specs.Prefetches.{prefetch_found}
use Rattle.decision.proofs.Joins.{decided-off, decided-on, decided-miss, decided-walk, prefetch-on}
use Rattle.perform.specs.Performed.{TriedOn}
use Rattle.perform.specs.Attempts.{matched_for}

-- what a walk comes to, by the reason
abbrev found_for : Reason → VirtualAddress → Access → Reads → Result Page Unfound → Decision
found_for Reason.Request va a r f = by_found va a r f
found_for Reason.Retry va a r f = by_found va a r f
found_for Reason.Prefetch va a r f = prefetch_found va r f

module _ (p : Prices) (b : Bill) (q : Option Stall) (va : VirtualAddress) (a : Access) where
  found_after : (e : Reason) (r : Reads) (f : Result Page Unfound) → walked_of b e q va a (word_count r) (last_place r) (reads_posted p b r) f ≡ after_of p b e q va a (found_for e va a r f)
  unfolding pick by_found prefetch_found
  found_after Reason.Request r (Err Unfound.Missing) = refl
  found_after Reason.Request r (Err Unfound.NoPage) = refl
  found_after Reason.Request r (Ok x) = refl
  found_after Reason.Retry r (Err Unfound.Missing) = refl
  found_after Reason.Retry r (Err Unfound.NoPage) = refl
  found_after Reason.Retry r (Ok x) = refl
  found_after Reason.Prefetch r (Err Unfound.Missing) = refl
  found_after Reason.Prefetch r (Err Unfound.NoPage) = refl
  found_after Reason.Prefetch r (Ok x) = refl

  module _ (w : Walked) (c : ℕ) (cam ram : List ℕ) where
    pub off-after : (e : Reason) → TriedOn e c → is_on c ≡ false
        → wordless_of b e q va a (plainly (Answer.Address (physical va.0)) Seen.Nothing) ≡ after_of p b e q va a (decided_for e w c cam ram va a)
    off-after Reason.Request t h = ap (after_of p b Reason.Request q va a) (sym (decided-off w c cam ram va a h))
    off-after Reason.Retry t h = ap (after_of p b Reason.Retry q va a) (sym (decided-off w c cam ram va a h))
    off-after Reason.Prefetch t h = absurd (true≢false (sym t.0 ∙ h))

    pub match-after : (e : Reason) (i : ℕ) → is_on c ≡ true → looked_up cam va ≡ Some i
        → wordless_of b e q va a (matched_for e (get_or cam i 0) (get_or ram i 0) va a) ≡ after_of p b e q va a (decided_for e w c cam ram va a)
    unfolding pick
    match-after Reason.Request i h m = ap (after_of p b Reason.Request q va a) (sym (decided-on w c cam ram va a (Some i) h m))
    match-after Reason.Retry i h m = ap (after_of p b Reason.Retry q va a) (sym (decided-on w c cam ram va a (Some i) h m))
    match-after Reason.Prefetch i h m = ap (after_of p b Reason.Prefetch q va a) (sym (prefetch-on w cam va (Some i) m))

    pub miss-after : (e : Reason) → TriedOn e c → is_on c ≡ true → looked_up cam va ≡ None → is_walking c ≡ false
        → wordless_of b e q va a (plainly (Answer.Fault Fault.Miss) Seen.NoMatch) ≡ after_of p b e q va a (decided_for e w c cam ram va a)
    miss-after Reason.Request t h m k = ap (after_of p b Reason.Request q va a) (sym (decided-miss w c cam ram va a h m k))
    miss-after Reason.Retry t h m k = ap (after_of p b Reason.Retry q va a) (sym (decided-miss w c cam ram va a h m k))
    miss-after Reason.Prefetch t h m k = absurd (true≢false (sym t.1 ∙ k))

    walk-found : (e : Reason) → is_on c ≡ true → looked_up cam va ≡ None → is_walking c ≡ true → decided_for e w c cam ram va a ≡ found_for e va a w.reads w.found
    walk-found Reason.Request h m k = decided-walk w c cam ram va a h m k
    walk-found Reason.Retry h m k = decided-walk w c cam ram va a h m k
    walk-found Reason.Prefetch h m k = prefetch-on w cam va None m

    pub walk_after : (e : Reason) → is_on c ≡ true → looked_up cam va ≡ None → is_walking c ≡ true
        → walked_of b e q va a (word_count w.reads) (last_place w.reads) (reads_posted p b w.reads) w.found ≡ after_of p b e q va a (decided_for e w c cam ram va a)
    walk_after e h m k = found_after e w.reads w.found ∙ ap (after_of p b e q va a) (sym (walk-found e h m k))
