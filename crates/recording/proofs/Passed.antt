-- A block that is taken passes every test. Assumes nothing.
use Rattle.std.proofs.Common.{Result, Ok, Err}
use Rattle.recording.specs.Names.{◌≡◌, List, Bool, true, false, not, ℕ, ◌+◌, ◌*◌, ◌≤◌, ◌<◌, length, take, all_good, crc32, eqb, Flaw, Progress}
use Rattle.recording.specs.Blocks.{count_in, number_in, check_in, full_block, most_blocks, block_size, checked_size}
use Rattle.recording.specs.Reading.{progress}
use Rattle.recording.proofs.Names.{refl, sym, ◌∙◌, not-false, eqb-true, all_zero, calls_of, unused_of, block_judged, block_taken}
use Rattle.recording.proofs.Judged.{taken_judged, judged_next}
use borrow.Author.Tests.{eqb-false, leb-false, ltb-false}
use mathlib.Core.Path.{subst}
use Rattle.page.specs.Pick.{pick}

pub record BlockPasses (p : Progress) (b : List ℕ) : Type 0 where
  pub room : p.blocks < most_blocks
  pub long : length b ≡ block_size
  pub full : p.calls ≡ full_block * p.blocks
  pub checked : check_in b ≡ crc32 (take checked_size b)
  pub numbered : number_in b ≡ p.blocks
  pub some : count_in b ≡ 0 → ⊥
  pub few : count_in b ≤ full_block
  pub good : all_good (calls_of b) ≡ true
  pub zeros : all_zero (unused_of b) ≡ true

-- what is carried on behind it
abbrev pub carried_on : Progress → List ℕ → Progress
carried_on p b = progress (p.blocks + 1) (p.calls + count_in b)

pub passed_taken : (p : Progress) (b : List ℕ) → BlockPasses p b → block_taken p b ≡ Ok (carried_on p b)
passed_taken p b h =
    sym (judged_next p b h.checked h.numbered h.some h.few h.good h.zeros ∙ taken_judged p b h.room h.long h.full)

-- a test that did not refuse
abbrev Refuses : Result Progress Flaw → Type 0
Refuses (Ok q) = ⊥
Refuses (Err w) = Unit {0}

peel : (t : Bool) (w : Flaw) (x : Result Progress Flaw) (q : Progress) → pick t (Err w) x ≡ Ok q → (t ≡ false) × (x ≡ Ok q)
unfolding pick
peel true w x q h = absurd (subst Refuses h tt)
peel false w x q h = (refl, h)

same : (a b : ℕ) → not (eqb a b) ≡ false → a ≡ b
same a b h = eqb-true a b (not-false _ h)

pub next_passed : (p : Progress) (b : List ℕ) (q : Progress) → block_taken p b ≡ Ok q → BlockPasses p b
unfolding block_taken block_judged
next_passed p b q h =
    let a = peel _ _ _ q h in
    let d = peel _ _ _ q a.1 in
    let e = peel _ _ _ q d.1 in
    let f = peel _ _ _ q e.1 in
    let g = peel _ _ _ q f.1 in
    let i = peel _ _ _ q g.1 in
    let j = peel _ _ _ q i.1 in
    let k = peel _ _ _ q j.1 in
    let l = peel _ _ _ q k.1 in
    record {
      room = leb-false _ _ a.0;
      long = same _ _ d.0;
      full = same _ _ e.0;
      checked = same _ _ f.0;
      numbered = same _ _ g.0;
      some = eqb-false _ _ i.0;
      few = ltb-false _ _ j.0;
      good = not-false _ k.0;
      zeros = not-false _ l.0;
    }

-- and what it comes to is what is carried on
pub next_carried : (p : Progress) (b : List ℕ) (q : Progress) → block_taken p b ≡ Ok q → q ≡ carried_on p b
next_carried p b q h = let e = sym h ∙ passed_taken p b (next_passed p b q h) in let z : q ≡ carried_on p b = cc in z
