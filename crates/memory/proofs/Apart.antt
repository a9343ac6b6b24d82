-- What good memories, memories apart and held bytes are. Assumes nothing.
use Rattle.memory.specs.Names.{◌≡◌, Bool, ℕ, ◌+◌, ◌^◌, ◌≤◌}
use Rattle.memory.proofs.Names.{refl, sym, ◌∙◌, true, false, arith, lt-leb, and_left, and_right, longest, memory_ok, apart, lies_in}
use borrow.Author.Tests.{leb-true, ne_eqb}
use Rattle.page.proofs.Picks.{or_no, tests}

-- a good memory is no longer than the greatest, and ends below 2^32
pub ok_short : (b n : ℕ) → memory_ok b n ≡ true → n ≤ longest
unfolding memory_ok
ok_short b n h = leb-true _ _ (and_left _ _ (and_right _ _ (and_right _ _ h)))

pub ok_ends : (b n : ℕ) → memory_ok b n ≡ true → b + n ≤ 2 ^ 32
unfolding memory_ok
ok_ends b n h = leb-true _ _ (and_right _ _ (and_right _ _ (and_right _ _ h)))

-- four bytes that are held start and end in the memory
pub held-from : (b n a : ℕ) → lies_in b n a ≡ true → b ≤ a
unfolding lies_in
held-from b n a h = leb-true _ _ (and_left _ _ h)

pub held_to : (b n a : ℕ) → lies_in b n a ≡ true → a + 4 ≤ b + n
unfolding lies_in
held_to b n a h = leb-true _ _ (and_right _ _ h)

-- bytes that lie apart never both hold an address
pub apart-held_once : (b n c m a : ℕ) → apart b n c m ≡ true → lies_in b n a ≡ true → lies_in c m a ≡ false
unfolding apart
apart-held_once b n c m a h k = by_second (lies_in c m a) refl
  where
    by_second : (t : Bool) → lies_in c m a ≡ t → t ≡ false
    by_second false e = refl
    by_second true e =
        let b₀ = held-from b n a k in
        let b₁ = held_to b n a k in
        let c₀ = held-from c m a e in
        let c₁ = held_to c m a e in
        sym h
        ∙ or_no _ _ (ne_eqb n 0 (λ q. omega (arith, q)))
        ∙ or_no _ _ (ne_eqb m 0 (λ q. omega (arith, q)))
        ∙ or_no _ _ (lt-leb (b + n) c (omega arith))
        ∙ lt-leb (c + m) b (omega arith)

-- the tests, and how long a good memory is
pub ruleset spans = (tests, ok_short)
