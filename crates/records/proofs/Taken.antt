-- The pages that the records before have, as bits, and what a record that overlaps one of them finds there. Assumes
-- nothing.
use Rattle.records.specs.Names.{◌≡◌, Bool, true, false, not, List, ℕ, zero, suc, ◌+◌, ◌*◌, ◌/◌, ◌%◌, ◌^◌, ◌≤◌, ◌<◌, get_or, virtual, megabytes}
use Rattle.records.specs.Names.{low_bits, VirtualAddress, Kind, Mapping}
use Rattle.records.proofs.Names.{refl, sym, ap, ◌∙◌, subst, true≢false, arith, zero-div, dec_le, ◌⊎◌, inl, inr, eq-eqb, eqb-true, ltb-true}
use Rattle.records.proofs.Names.{and_left, or_no, record_at, mapping_of, mappings_from, holds, overlap, proper, bit, Says}
use Rattle.records.proofs.Names.{Free, Covered, bad, clashes, overlapping}
use mathlib.Core.Logic.{⊎_elim}
use Rattle.records.proofs.Rest.{by_false}
use Rattle.records.proofs.Accepted.{clash_at, proper_at}
use Rattle.records.proofs.Holders.{Both, overlap_shared, both_hold}

-- a test of which one answer is impossible
by_true : (b : Bool) → (b ≡ false → ⊥) → b ≡ true
by_true true f = refl
by_true false f = absurd (f refl)

-- one mapping's overlaps with the first n, from its overlap with each
clash_none : (rs : List ℕ) (m : Mapping) (n i : ℕ) → ((j : ℕ) → i ≤ j → j < i + n → overlap (mapping_of (record_at rs j)) m ≡ false) → clashes (mappings_from rs i n) m ≡ false
unfolding clashes mappings_from
clash_none rs m zero i f = refl
clash_none rs m (suc n) i f = or_no _ _ (f i (omega arith) (omega arith)) ∙ clash_none rs m n (suc i) (λ j h l. f j (omega arith) (omega arith))

-- the first address of the tiny page of an address lies in every page that the address lies in
low_start : (k : Kind) (x : ℕ) → x / 1024 * 1024 / 2 ^ low_bits k ≡ x / 2 ^ low_bits k
low_start Kind.Section x = omega arith
low_start Kind.Large x = omega arith
low_start Kind.Small x = omega arith
low_start Kind.Tiny x = omega arith

same_below : (k : Kind) (x y : ℕ) → x / 2 ^ low_bits k ≡ y / 2 ^ low_bits k → y < 16777216 → x < 16777216
same_below Kind.Section x y e h = omega arith
same_below Kind.Large x y e h = omega arith
same_below Kind.Small x y e h = omega arith
same_below Kind.Tiny x y e h = omega arith

low_holds : (x : Mapping) (va : VirtualAddress) → holds x va ≡ true → holds x (virtual (va.0 / 1024 * 1024)) ≡ true
unfolding holds
low_holds x va h = eq-eqb _ _ (low_start x.kind va.0 ∙ eqb-true _ _ h)

held_below : (m : Mapping) (va : VirtualAddress) → holds m va ≡ true → m.at.0 < 16777216 → va.0 < 16777216
unfolding holds
held_below m va h lt = same_below m.kind va.0 m.at.0 (eqb-true _ _ h) lt

-- two mappings that overlap have a tiny page in common
shared : (x m : Mapping) → overlap x m ≡ true → m.at.0 < 16777216 → ((p : ℕ) → p < 16384 → holds x (virtual (p * 1024)) ≡ true → holds m (virtual (p * 1024)) ≡ true → ⊥) → ⊥
shared x m o lt f = ⊎_elim (in_both m.at) (in_both x.at) (overlap_shared x m o)
  where
    in_both : (va : VirtualAddress) → Both x m va → ⊥
    in_both va b =
        let l = held_below m va b.1 lt in
        f (va.0 / 1024) (omega arith) (low_holds x va b.0) (low_holds m va b.1)

-- with the first i records taken: the bit of each page that one of them has, and of each that none has
pub record Marks (rs : List ℕ) (i : ℕ) (c : List ℕ) : Type 0 where
  pub had : (j p : ℕ) → j < i → p < 16384 → holds (mapping_of (record_at rs j)) (virtual (p * 1024)) ≡ true → bit c p ≡ 1
  pub free : (p : ℕ) → p < 16384 → ((j : ℕ) → j < i → holds (mapping_of (record_at rs j)) (virtual (p * 1024)) ≡ false) → bit c p ≡ 0

pub marks_none : (rs c : List ℕ) → ((k : ℕ) → get_or c k 0 ≡ 0) → Marks rs 0 c
unfolding bit
marks_none rs c z = record
    { had = λ j p h. absurd (omega arith); free = λ p h f. ap (λ (x : ℕ). x / 2 ^ (p % 64) % 2) (z (p / 64)) ∙ ap (λ (x : ℕ). x % 2) (zero-div (2 ^ (p % 64))) }

decide : (b : Bool) → (b ≡ true) ⊎ (b ≡ false)
decide true = inl refl
decide false = inr refl

marks_more : (rs c d : List ℕ) (i : ℕ) → Marks rs i c → Covered c (mapping_of (record_at rs i)) d → Marks rs (i + 1) d
marks_more rs c d i k v = record {
  had = λ j p h l e. ⊎_elim
      (λ t. v.0 p l t)
      (λ f. v.1 p l f ∙ k.had j p (earlier j p h e f) l e)
      (decide (holds (mapping_of (record_at rs i)) (virtual (p * 1024))));
  free = λ p l f. v.1 p l (f i (omega arith)) ∙ k.free p l (λ j h. f j (omega arith));
}
  where
    earlier : (j p : ℕ) → j < i + 1 → holds (mapping_of (record_at rs j)) (virtual (p * 1024)) ≡ true → holds (mapping_of (record_at rs i)) (virtual (p * 1024)) ≡ false → j < i
    earlier j p h e f = elim (dec_le i j) [
      | yes g ↦
          let same : i ≡ j = omega arith in
          absurd (true≢false (sym e ∙ sym (ap (λ (x : ℕ). holds (mapping_of (record_at rs x)) (virtual (p * 1024))) same) ∙ f))
      | no g ↦ omega arith
    ]

-- what the test finds of a mapping is whether it overlaps one of the records
clash_says : (rs c : List ℕ) (i : ℕ) (m : Mapping) (r : Bool) → Marks rs i c → m.at.0 < 16777216 → Says (Free c m) r → clashes (mappings_from rs 0 i) m ≡ not r
clash_says rs c i m true k lt f =
    clash_none rs m i 0
    (λ j h l. by_false _ (λ o.
    shared (mapping_of (record_at rs j)) m o lt (λ p q hx hm.
    let one = k.had j p (omega arith) q hx in
    let none = f p q hm in
    omega arith)))
clash_says rs c i m false k lt f =
    by_true _ (λ no.
    f (λ p q hm.
    k.free p q (λ j l. by_false _ (λ hx.
    true≢false (sym (both_hold (mapping_of (record_at rs j)) m (virtual (p * 1024)) hx hm) ∙ clash_at rs m i 0 j no (omega arith) (omega arith))))))

-- a record that is not bad begins below the end of the addresses
good-below : (rs : List ℕ) (i : ℕ) → bad megabytes rs i ≡ false → (mapping_of (record_at rs i)).at.0 < 16777216
unfolding proper
good-below rs i e = ltb-true _ _ (and_left _ _ (proper_at megabytes rs i e))

-- a turn of the check: the mapping that it reads at a record that is not bad
module _ (rs : List ℕ) (i : ℕ) (m : Mapping) (good : bad megabytes rs i ≡ false) (read : m ≡ mapping_of (record_at rs i)) where
  pub read_below : m.at.0 < 16777216
  read_below = subst (λ (x : Mapping). x.at.0 < 16777216) (sym read) (good-below rs i good)

  pub overlap_says : (c : List ℕ) (r : Bool) → Marks rs i c → Says (Free c m) r → overlapping rs i ≡ not r
  unfolding overlapping
  overlap_says c r k s = ap (clashes (mappings_from rs 0 i)) (sym read) ∙ clash_says rs c i m r k read_below s

  pub marks_turn : (c d : List ℕ) → Marks rs i c → Covered c m d → Marks rs (i + 1) d
  marks_turn c d k v = marks_more rs c d i k (subst (λ (x : Mapping). Covered c x d) read v)
