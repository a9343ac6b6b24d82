-- Blocks that are all taken: each passes, and what is carried goes on. Assumes nothing.
use Rattle.std.proofs.Common.{Result, Ok, Err}
use Rattle.recording.specs.declared.Flaw.{Flaw}
use Rattle.recording.specs.Names.{◌≡◌, List, ℕ, zero, suc, ◌+◌, ◌*◌, ◌≤◌, length, drop, Progress}
use Rattle.recording.specs.Blocks.{count_in, full_block, most_blocks}
use Rattle.recording.specs.Reading.{progress, block_at, blocks_in, calls_at, call_bytes, heard, onward}
use Rattle.recording.proofs.Names.{refl, sym, ◌∙◌, ap, arith, subst, length-append, length-take, length-drop, pieces, calls_of, heard_from, block_taken}
use Rattle.recording.proofs.Passed.{BlockPasses, carried_on, passed_taken, next_passed, next_carried}

-- k blocks of r, behind p, each of which passes, up to q
pub data Runs (r : List ℕ) : Progress → ℕ → Progress → Type 0 where
  done : {p : Progress} → Runs r p zero p
  more : {p q : Progress} {k : ℕ} → BlockPasses p (block_at r p.blocks) → Runs r (carried_on p (block_at r p.blocks)) k q → Runs r p (suc k) q

-- an answer that is whole comes from a block that is taken
onward-whole : (t : Result Progress Flaw) (f : Progress → Result Progress ℕ) (i : ℕ) (q : Progress) → onward t f i ≡ Ok q → (p : Progress) × (t ≡ Ok p) × (f p ≡ Ok q)
onward-whole (Ok p) f i q h = (p, refl, h)
onward-whole (Err w) f i q h = absurd (let z : ◌≡◌ {A = ℕ} 0 1 = cc in omega arith)

pub runs_of : (r : List ℕ) (p : Progress) (k : ℕ) (q : Progress) → heard_from r p k ≡ Ok q → Runs r p k q
unfolding heard_from
runs_of r p zero q h = subst (λ (x : Progress). Runs r p 0 x) (let z : p ≡ q = cc in z) done
runs_of r p (suc k) q h =
    let o = onward-whole (block_taken p (block_at r p.blocks)) (λ x. heard_from r x k) p.blocks q h in
    more (next_passed p (block_at r p.blocks) o.0 o.1)
    (runs_of r (carried_on p (block_at r p.blocks)) k q (sym (ap (λ (x : Progress). heard_from r x k) (next_carried p (block_at r p.blocks) o.0 o.1)) ∙ o.2))

pub runs_heard : {r : List ℕ} {p q : Progress} {k : ℕ} → Runs r p k q → heard_from r p k ≡ Ok q
unfolding heard_from
runs_heard done = refl
runs_heard {r} (more {p = p} {q = q} {k = k} h t) = ap (λ (x : Result Progress Flaw). onward x (λ y. heard_from r y k) p.blocks) (passed_taken p (block_at r p.blocks) h) ∙ runs_heard t

-- a block that passes has as many calls as it says
pub calls-length : (p : Progress) (b : List ℕ) → BlockPasses p b → length (calls_of b) ≡ 12 * count_in b
unfolding calls_of
calls-length p b h = omega (arith, h.few, h.long, length-take (12 * count_in b) (drop 4 b), length-drop 4 b)

-- how many blocks and calls there were in the end
pub runs_blocks : {r : List ℕ} {p q : Progress} {k : ℕ} → Runs r p k q → q.blocks ≡ p.blocks + k
runs_blocks (done {p = p}) = omega arith
runs_blocks (more h t) = let e = runs_blocks t in omega arith

pub runs_calls : {r : List ℕ} {p q : Progress} {k : ℕ} → Runs r p k q → 12 * q.calls ≡ 12 * p.calls + length (pieces (calls_at r) p.blocks k)
unfolding pieces
runs_calls (done {p = p}) = omega arith
runs_calls {r} (more {p = p} {q = q} {k = k} h t) =
    let e = runs_calls t in
    omega (arith, length-append (calls_at r p.blocks) (pieces (calls_at r) (p.blocks + 1) k), calls-length p (block_at r p.blocks) h)

pub runs_few : {r : List ℕ} {p q : Progress} {k : ℕ} → Runs r p k q → p.calls ≤ full_block * p.blocks → p.blocks ≤ most_blocks
    → (q.calls ≤ full_block * q.blocks) × (q.blocks ≤ most_blocks)
runs_few done a b = (a, b)
runs_few (more h t) a b = runs_few t (omega (arith, h.few)) (omega (arith, h.room))

-- what a whole recording comes to
pub record Counted (r : List ℕ) (p : Progress) : Type 0 where
  pub blocks : p.blocks ≡ blocks_in r
  pub calls : length (call_bytes r) ≡ 12 * p.calls
  pub few : p.calls ≤ 2752512

pub heard_counted : (r : List ℕ) (p : Progress) → heard r ≡ Ok p → Counted r p
heard_counted r p h =
    let t = runs_of r (progress 0 0) (blocks_in r) p h in
    record {
      blocks = omega (arith, runs_blocks t);
      calls = omega (arith, runs_calls t);
      few = omega (arith, (runs_few t (omega arith) (omega arith)).0, (runs_few t (omega arith) (omega arith)).1);
    }
