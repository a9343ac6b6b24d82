-- The slots in place after a store, a fill, a flush and a reset. Assumes nothing.
use Rattle.bank.specs.Names.{◌≡◌, Bool, List, ℕ, zero, suc, ◌+◌, ◌<◌, ◌/◌, ◌%◌, eqb, length, get_or, set, replicate, pick, Bank, VirtualAddress, Words}
use Rattle.bank.specs.Names.{flushed_all, flushed_entry}
use Rattle.bank.proofs.Names.{refl, sym, ◌∙◌, ap, ap₂, subst, true, false, ◌⊎◌, inl, inr, ◌≤◌, arith, length-set, eq-eqb, eqb-false, word_flushed}
use Rattle.bank.proofs.Names.{word_flushed_at, pick_yes, pick_by, next_slot, next_victim, filled, low_of, high_of, Ends, get_or-set_other}
use Rattle.bank.proofs.Names.{low_kept, high_kept}
use Rattle.page.specs.Words.{word_dropped}
use Rattle.page.proofs.Slot.{dropped-off}
use Rattle.lanes.proofs.Flushes.{flush_word, entry-word}
use Rattle.bank.specs.Slots.{fresh_bank}
use Rattle.bank.specs.Changes.{stored_at, with_cams, locked_at, filled_at}
use Rattle.bank.specs.InPlace.{Spanned, Dropped}
use Rattle.bank.proofs.Ends.{ends-both, ends_more}

-- a slot's word and both its ends set
pub spanned-set : (cam lows highs : List ℕ) (i w lo hi : ℕ) → i < 32 → Spanned cam lows highs → lo ≡ low_of w → hi ≡ high_of w
    → Spanned (set cam i w) (set lows i lo) (set highs i hi)
spanned-set cam lows highs i w lo hi h s q r = record {
  low_ends = ends-both low_of 32 i w lo cam lows (omega (arith, h, s.cam-long)) (omega (arith, h, s.lows_long)) s.low_ends q;
  high_ends = ends-both high_of 32 i w hi cam highs (omega (arith, h, s.cam-long)) (omega (arith, h, s.highs_long)) s.high_ends r;
  cam-long = length-set cam i w ∙ s.cam-long;
  lows_long = length-set lows i lo ∙ s.lows_long;
  highs_long = length-set highs i hi ∙ s.highs_long;
}

-- the slot that a fill takes
pub slot_lt : (victim lock : ℕ) → victim < 32 → lock < 32 → next_slot victim lock < 32
unfolding next_slot
slot_lt victim lock a b = pick_by (λ (x : ℕ). x < 32) _ _ _ (λ _. b) (λ _. a)

-- a slot stored and the victim moved on are a fill
pub filled_is : (b after : Bank) (w : Words) (at next : ℕ) → at ≡ next_slot b.victim b.lock → after ≡ stored_at b at w → next ≡ next_victim at after.lock
    → locked_at after after.lock next ≡ filled b w
unfolding filled
filled_is b after w at next e s n =
    ap₂ (λ (x : Bank) (v : ℕ). locked_at x x.lock v) s (n ∙ ap (λ (x : Bank). next_victim at x.lock) s) ∙ ap (filled_at b w) e

-- a flush: each word is as it was, or no longer valid
abbrev Drops : (ℕ → ℕ) → Type 0
Drops f = (w : ℕ) → (f w ≡ w) ⊎ (f w / 4 % 2 ≡ 0)

dropped_clear : (w : ℕ) → word_dropped w / 4 % 2 ≡ 0
dropped_clear w = let h = eqb-false (word_dropped w / 4 % 2) 1 (dropped-off w) in omega (arith, h)

flushed_drops : Drops word_flushed
unfolding word_flushed
flushed_drops w = pick_by (λ (x : ℕ). (x ≡ w) ⊎ (x / 4 % 2 ≡ 0)) _ _ _ (λ _. inl refl) (λ _. inr (dropped_clear w))

entry_drops : (va : VirtualAddress) → Drops (word_flushed_at va)
unfolding word_flushed_at
entry_drops va w = pick_by (λ (x : ℕ). (x ≡ w) ⊎ (x / 4 % 2 ≡ 0)) _ _ _ (λ _. inr (dropped_clear w)) (λ _. inl refl)

-- what a flush of a bank's lane gives, each word of which is as it was, or no longer valid
pub flush_drops : (b old : Bank) (out : List ℕ) → b ≡ old → out ≡ flushed_all b.cam → Dropped old.cam out
flush_drops b old out s e =
    subst (λ (x : Bank). Dropped x.cam out) s
    (subst (Dropped b.cam) (sym e) (λ j l. subst (λ (x : ℕ). (x ≡ get_or b.cam j 0) ⊎ (x / 4 % 2 ≡ 0)) (sym (flush_word b.cam j)) (flushed_drops (get_or b.cam j 0))))

pub flush_at_drops : (va : VirtualAddress) (b old : Bank) (out : List ℕ) → b ≡ old → out ≡ flushed_entry va b.cam → Dropped old.cam out
flush_at_drops va b old out s e =
    subst (λ (x : Bank). Dropped x.cam out) s
    (subst (Dropped b.cam) (sym e) (λ j l. subst (λ (x : ℕ). (x ≡ get_or b.cam j 0) ⊎ (x / 4 % 2 ≡ 0)) (sym (entry-word va b.cam j)) (entry_drops va (get_or b.cam j 0))))

pick_twice : (t : Bool) (a b : ℕ) → pick t a (pick t a b) ≡ pick t a b
unfolding pick
pick_twice true a b = refl
pick_twice false a b = refl

low_stays : (w : ℕ) → low_kept w (low_of w) ≡ low_of w
unfolding low_of
low_stays w = pick_twice _ _ _

high_stays : (w : ℕ) → high_kept w (high_of w) ≡ high_of w
unfolding high_of
high_stays w = pick_twice _ _ _

-- an end that is k where the word is not valid is kept by what drops words
module _ (k : ℕ) (end : ℕ → ℕ) (stays : (w : ℕ) → pick (eqb (w / 4 % 2) 0) k (end w) ≡ end w) where
  abbrev kept : ℕ → ℕ → ℕ
  kept w x = pick (eqb (w / 4 % 2) 0) k x

  kept-end : (w v : ℕ) → (v ≡ w) ⊎ (v / 4 % 2 ≡ 0) → kept v (end w) ≡ end v
  kept-end w v (inl e) = ap (λ (x : ℕ). kept v (end x)) (sym e) ∙ stays v
  kept-end w v (inr e) = pick_yes _ _ _ (eq-eqb _ _ e) ∙ sym (pick_yes _ _ _ (eq-eqb _ _ e)) ∙ stays v

-- the ends after the first i slots of a lane that drops words
pub record Renewing (before cam lows highs : List ℕ) (i : ℕ) : Type 0 where
  pub low_ends : Ends low_of i cam lows
  pub high_ends : Ends high_of i cam highs
  pub low_left : (j : ℕ) → i ≤ j → j < 32 → get_or lows j 0 ≡ low_of (get_or before j 0)
  pub high_left : (j : ℕ) → i ≤ j → j < 32 → get_or highs j 0 ≡ high_of (get_or before j 0)
  pub lows_long : length lows ≡ 32
  pub highs_long : length highs ≡ 32

pub renewing_starts : (b old : Bank) (cam lows highs : List ℕ) → b ≡ old → Spanned b.cam lows highs → Renewing old.cam cam lows highs 0
renewing_starts b old cam lows highs e s =
    subst (λ (x : Bank). Renewing x.cam cam lows highs 0) e
    (record {
      low_ends = λ j l. absurd (omega arith);
      high_ends = λ j l. absurd (omega arith);
      low_left = λ j c l. s.low_ends j l;
      high_left = λ j c l. s.high_ends j l;
      lows_long = s.lows_long;
      highs_long = s.highs_long;
    })

pub renewing_ends : (b old : Bank) (cam lows highs : List ℕ) (i : ℕ) → 32 ≤ i → length cam ≡ 32 → b ≡ with_cams old cam → Renewing old.cam cam lows highs i
    → Spanned b.cam lows highs
renewing_ends b old cam lows highs i h n e w =
    subst (λ (x : Bank). Spanned x.cam lows highs) (sym e)
    (record {
      low_ends = λ j l. w.low_ends j (omega arith);
      high_ends = λ j l. w.high_ends j (omega arith);
      cam-long = n;
      lows_long = w.lows_long;
      highs_long = w.highs_long;
    })

pub renewing_more : (before cam lows highs : List ℕ) (i lo hi : ℕ) → i < 32 → Dropped before cam → Renewing before cam lows highs i
    → lo ≡ low_kept (get_or cam i 0) (get_or lows i 0) → hi ≡ high_kept (get_or cam i 0) (get_or highs i 0) → Renewing before cam (set lows i lo) (set highs i hi) (i + 1)
renewing_more before cam lows highs i lo hi h d w q r =
    let a : i < length lows = omega (arith, w.lows_long, h) in
    let b : i < length highs = omega (arith, w.highs_long, h) in
    let low : lo ≡ low_of (get_or cam i 0) =
    q ∙ ap (low_kept (get_or cam i 0)) (w.low_left i (omega arith) h) ∙ kept-end 16384 low_of low_stays (get_or before i 0) (get_or cam i 0) (d i h) in
    let high : hi ≡ high_of (get_or cam i 0) =
    r ∙ ap (high_kept (get_or cam i 0)) (w.high_left i (omega arith) h) ∙ kept-end 0 high_of high_stays (get_or before i 0) (get_or cam i 0) (d i h) in
    record {
      low_ends = ends_more low_of cam i lo lows a w.low_ends low;
      high_ends = ends_more high_of cam i hi highs b w.high_ends high;
      low_left = λ j c l. get_or-set_other lows i j lo 0 (λ e. omega (arith, e, c)) ∙ w.low_left j (omega (arith, c)) l;
      high_left = λ j c l. get_or-set_other highs i j hi 0 (λ e. omega (arith, e, c)) ∙ w.high_left j (omega (arith, c)) l;
      lows_long = length-set lows i lo ∙ w.lows_long;
      highs_long = length-set highs i hi ∙ w.highs_long;
    }

-- a reset: every slot empty
same : (x n j : ℕ) → j < n → get_or (replicate n x) j 0 ≡ x
same x zero j l = absurd (omega arith)
same x (suc n) zero l = refl
same x (suc n) (suc j) l = same x n j (omega arith)

fresh_spanned : Spanned (replicate 32 0) (replicate 32 16384) (replicate 32 0)
unfolding low_of high_of pick
fresh_spanned = record {
  low_ends = λ j l. same 16384 32 j l ∙ ap low_of (sym (same 0 32 j l));
  high_ends = λ j l. same 0 32 j l ∙ ap high_of (sym (same 0 32 j l));
  cam-long = refl;
  lows_long = refl;
  highs_long = refl;
}

pub cleared : (b : Bank) → b ≡ fresh_bank → Spanned b.cam (replicate 32 16384) (replicate 32 0)
cleared b e = subst (λ (x : Bank). Spanned x.cam (replicate 32 16384) (replicate 32 0)) (sym e) fresh_spanned
