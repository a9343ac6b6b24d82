-- Banks in range, and what keeps them there. Assumes nothing.
use Rattle.std.proofs.Common.{Option, Some, None}
use Rattle.bank.specs.Names.{◌≡◌, Bool, ℕ, ◌+◌, ◌<◌, ltb, ◌and◌, VirtualAddress, Words, slots, cam_limit, cams_ok, rams_ok, flushed_all}
use Rattle.bank.specs.Names.{flushed_entry, Bank}
use Rattle.bank.proofs.Names.{◌∙◌, ap₂, true, arith, lt-ltb, ltb-true, word_flushed, word_flushed_at, pick_by, and_yes, and_left, and_right}
use Rattle.bank.proofs.Names.{cam_ok, next_slot, next_victim, stored_at, filled, entry_filled}
use mathlib.Core.Bool.{◌&&◌}
use Rattle.page.proofs.Picks.{all_four}
use Rattle.lanes.specs.Lanes.{ram_ok}
use Rattle.lanes.proofs.Ranges.{all_each, all_set, all_map, flushed_ok, flushed_at_ok}
use Rattle.bank.specs.Slots.{bank_ok}
use Rattle.bank.specs.Changes.{locked_at, copied, bank_flushed, bank_flushed_at}

-- a bank in range, by its parts
pub record InRange (b : Bank) : Type 0 where
  pub lock : b.lock < slots
  pub victim : b.victim < slots
  pub cams : cams_ok cam_limit b.cam ≡ true
  pub rams : rams_ok b.ram ≡ true

module _ (b : Bank) where
  pub in_range_lem : bank_ok b ≡ true → InRange b
  unfolding bank_ok
  in_range_lem h =
      let v = and_right (ltb b.lock slots) _ h in
      let c = and_right (ltb b.victim slots) _ v in
      record {
        lock = ltb-true _ _ (and_left _ _ h);
        victim = ltb-true _ _ (and_left _ _ v);
        cams = and_left _ _ c;
        rams = and_right (cams_ok cam_limit b.cam) _ c;
      }

  pub ranged : InRange b → bank_ok b ≡ true
  unfolding bank_ok
  ranged r = and_yes _ _ (lt-ltb _ _ r.lock) ∙ and_yes _ _ (lt-ltb _ _ r.victim) ∙ and_yes _ _ r.cams ∙ r.rams

-- the code's tests, as the machine joins them
pub ok_is : (b : Bank) (cams rams : Bool) → cams ≡ cams_ok cam_limit b.cam → rams ≡ rams_ok b.ram → (((ltb b.lock slots && ltb b.victim slots) && cams) && rams) ≡ bank_ok b
unfolding bank_ok
ok_is b cams rams p q = all_four _ _ _ _ ∙ ap₂ (λ (x y : Bool). ltb b.lock slots and ltb b.victim slots and x and y) p q

pub next_slot-lt : (n victim lock : ℕ) → victim < n → lock < n → next_slot victim lock < n
unfolding next_slot
next_slot-lt n victim lock hv hl = pick_by (λ (x : ℕ). x < n) _ _ _ (λ _. hl) (λ _. hv)

next_victim-lt : (slot lock : ℕ) → lock < slots → next_victim slot lock < slots
unfolding next_victim
next_victim-lt slot lock hl = pick_by (λ (x : ℕ). x < slots) _ _ _ (λ e. ltb-true (slot + 1) slots e) (λ _. hl)

-- what may be stored
abbrev pub words_ok : Words → Bool
words_ok w = cam_ok cam_limit w.cam and ram_ok w.ram

abbrev pub fill_ok : Option Words → Type 0
fill_ok None = Unit {0}
fill_ok (Some w) = words_ok w ≡ true

-- every change of a bank in range by words in range leaves it in range
module _ (b : Bank) (h : bank_ok b ≡ true) where
  pub stored_ok : (i : ℕ) (w : Words) → words_ok w ≡ true → bank_ok (stored_at b i w) ≡ true
  stored_ok i w g =
      let r = in_range_lem b h in
      ranged _ (record {
        lock = r.lock;
        victim = r.victim;
        cams = all_set (cam_ok cam_limit) b.cam r.cams i w.cam (and_left _ _ g);
        rams = all_set ram_ok b.ram r.rams i w.ram (and_right (cam_ok cam_limit w.cam) _ g);
      })

  pub locked_ok : (lock victim : ℕ) → lock < slots → victim < slots → bank_ok (locked_at b lock victim) ≡ true
  locked_ok lock victim l v =
      let r = in_range_lem b h in
      ranged _ (record { lock = l; victim = v; cams = r.cams; rams = r.rams })

  pub flush_ok : bank_ok (bank_flushed b) ≡ true
  unfolding flushed_all
  flush_ok =
      let r = in_range_lem b h in
      ranged _ (record {
        lock = r.lock;
        victim = r.victim;
        cams = all_map (cam_ok cam_limit) b.cam r.cams word_flushed (flushed_ok cam_limit);
        rams = r.rams;
      })

  pub flush_at_ok : (va : VirtualAddress) → bank_ok (bank_flushed_at b va) ≡ true
  unfolding flushed_entry
  flush_at_ok va =
      let r = in_range_lem b h in
      ranged _ (record {
        lock = r.lock;
        victim = r.victim;
        cams = all_map (cam_ok cam_limit) b.cam r.cams (word_flushed_at va) (λ w g. flushed_at_ok cam_limit w g va);
        rams = r.rams;
      })

-- the words of the victim slot are in range
pub copied_ok : (b : Bank) → bank_ok b ≡ true → words_ok (copied b) ≡ true
copied_ok b h =
    let r = in_range_lem b h in
    and_yes _ _ (all_each (cam_ok cam_limit) slots 0 b.cam r.cams b.victim (omega arith) r.victim)
    ∙ all_each ram_ok slots 0 b.ram r.rams b.victim (omega arith) r.victim

pub filled_ok : (b : Bank) → bank_ok b ≡ true → (w : Words) → words_ok w ≡ true → bank_ok (filled b w) ≡ true
unfolding filled
filled_ok b h w g =
    let r = in_range_lem b h in
    let i = next_slot b.victim b.lock in
    locked_ok (stored_at b i w) (stored_ok b h i w g) b.lock (next_victim i b.lock) r.lock (next_victim-lt i b.lock r.lock)

pub entry_ok_lem : (b : Bank) → bank_ok b ≡ true → (f : Option Words) → fill_ok f → bank_ok (entry_filled b f) ≡ true
entry_ok_lem b h None g = h
entry_ok_lem b h (Some w) g = filled_ok b h w g
