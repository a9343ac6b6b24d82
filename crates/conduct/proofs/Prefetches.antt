-- What a prefetch comes to, by the plain walk of its address. Assumes nothing.
use Rattle.std.specs.Prelude.{ℕ}
use Rattle.std.proofs.Common.{Result, Ok, Err, Option, Some, None}
use Rattle.walk.specs.declared.Unfound.{Unfound}
use Rattle.walk.specs.declared.Page.{Page}
use Rattle.conduct.specs.Names.{◌≡◌, Bool, true, false, ◌and◌, Seen, looked_up, is_refusal, is_on, is_walking, look, no_match, VirtualAddress, Lent}
use Rattle.conduct.specs.Names.{Reads, Walked, Decision, Device}
use Rattle.conduct.proofs.Names.{refl, ◌∙◌, ap, true≢false, false≢true, and_left, and_right, is_missing, prefetch_found, prefetch_matched}
use Rattle.conduct.proofs.Names.{prefetch_decided, walks_for, page_fill}
use Rattle.conduct.proofs.Tests.{rest, front}
use Rattle.conduct.proofs.Attempts.{Still, Does, does_still, does_walk}

module _ (va : VirtualAddress) (r : Reads) where
  found-answers : (f : Result Page Unfound) → is_missing f ≡ false → is_refusal (prefetch_found va r f).answer ≡ false
  unfolding prefetch_found
  found-answers (Err Unfound.Missing) h = absurd (true≢false h)
  found-answers (Err Unfound.NoPage) h = refl
  found-answers (Ok p) h = refl

  found_fill : (f : Result Page Unfound) → (prefetch_found va r f).fill ≡ page_fill va f
  unfolding prefetch_found
  found_fill (Err Unfound.Missing) = refl
  found_fill (Err Unfound.NoPage) = refl
  found_fill (Ok p) = refl

  found_reads : (f : Result Page Unfound) → is_missing f ≡ false → (prefetch_found va r f).reads ≡ r
  unfolding prefetch_found
  found_reads (Err Unfound.Missing) h = absurd (true≢false h)
  found_reads (Err Unfound.NoPage) h = refl
  found_reads (Ok p) h = refl

  found_seen : (f : Result Page Unfound) → (prefetch_found va r f).seen ≡ Seen.Nothing
  unfolding prefetch_found
  found_seen (Err Unfound.Missing) = refl
  found_seen (Err Unfound.NoPage) = refl
  found_seen (Ok p) = refl

module _ (w : Walked) (va : VirtualAddress) where
  matched_answers : (x : Option ℕ) → (no_match x and is_missing w.found) ≡ false → is_refusal (prefetch_matched w va x).answer ≡ false
  matched_answers (Some i) h = refl
  matched_answers None h = found-answers va w.reads w.found (rest true _ refl h)

  matched_seen : (x : Option ℕ) → (prefetch_matched w va x).seen ≡ Seen.Nothing
  matched_seen (Some i) = refl
  matched_seen None = found_seen va w.reads w.found

  matched_still : (x : Option ℕ) → no_match x ≡ false → Still (prefetch_matched w va x)
  matched_still (Some i) h = (refl, refl)
  matched_still None h = absurd (true≢false h)

  matched_walks : (x : Option ℕ) → no_match x ≡ true → prefetch_matched w va x ≡ prefetch_found va w.reads w.found
  matched_walks (Some i) h = absurd (false≢true h)
  matched_walks None h = refl

module _ (m : Lent) (d : Device) (va : VirtualAddress) where
  abbrev x : Decision
  x = prefetch_decided (look m d va) d.bank.cam va

  pub prefetch_seen : x.seen ≡ Seen.Nothing
  unfolding prefetch_decided
  prefetch_seen = matched_seen (look m d va) va (looked_up d.bank.cam va)

  -- a prefetch that lacks no descriptor
  module _ (h : (no_match (looked_up d.bank.cam va) and is_missing (look m d va).found) ≡ false) where
    pub prefetch-answers : is_refusal x.answer ≡ false
    unfolding prefetch_decided
    prefetch-answers = matched_answers (look m d va) va (looked_up d.bank.cam va) h

    -- while the unit is on and walking
    module _ (on : is_on d.registers.control ≡ true) (walking : is_walking d.registers.control ≡ true) where
      pub prefetch_does : Does m d va x
      unfolding prefetch_decided walks_for
      prefetch_does = by_walk_lem (walks_for d va) refl
        where
          by_walk_lem : (t : Bool) → walks_for d va ≡ t → Does m d va x
          by_walk_lem false e = does_still m d va e x (matched_still (look m d va) va (looked_up d.bank.cam va) (front _ _ walking (rest _ _ on e)))
          by_walk_lem true e =
              let n = and_left _ _ (and_right (is_on d.registers.control) _ e) in
              let y = matched_walks (look m d va) va (looked_up d.bank.cam va) n in
              does_walk m d va e x
              (ap (λ (y : Decision). y.fill) y ∙ found_fill va (look m d va).reads (look m d va).found)
              (ap (λ (y : Decision). y.reads) y ∙ found_reads va (look m d va).reads (look m d va).found (rest _ _ n h))
