-- Bits of numbers, and runs of them that are zero. Assumes nothing.
use Rattle.records.specs.Names.{◌≡◌, List, ℕ, zero, suc, ◌+◌, ◌*◌, ◌/◌, ◌%◌, ◌^◌, ◌≤◌, ◌<◌, Bool, true, false, eqb, length, get_or, set, take, drop, replicate}
use Rattle.records.proofs.Names.{refl, sym, ap, ap₂, ◌∙◌, subst, ◌-◌, arith, zero-div, mul-mod_left, dec_le, ℕ_discrete, eq-eqb, ne_eqb, field}
use Rattle.records.proofs.Names.{mod-mod-pow, shr-shr, bit_or, get_or-set_same, get_or-set_other, length-take, length-drop, bit, Says, Untaken, Full}
use Prim.Native.Nat.{max}
use native.Mathlib.Nat.{zero-mul, mod-one, mod-eq_of_lt, max-zero}
use lib.Pow.{mod-pow-add, shr_lt, shl_lt, shl-shr, high, ones_lt, ones_split, pow_mono}
use lib.Bits.{or_shr, or_step}
use lib.Seq.{get_or-take, get_or-drop, get_or-append_right}
use lib.ListN.{get_or-append, length-replicate}
use borrow.Rule.Slice.PartMut.{put_mid}
use Rattle.std.proofs.lemmas.List.{get_or-replicate}
use Rattle.std.specs.Bool.{MatchBool}
use Rattle.std.specs.List.{AllWithin, HoldsAt}

-- a number whose n low bits are zero, by the bit
pub bits_zero : (n x r : ℕ) → x % 2 ^ n ≡ 0 → r < n → x / 2 ^ r % 2 ≡ 0
bits_zero n x r e h =
    let j : ℕ = n - suc r in
    let s : n ≡ (j + 1) + r = omega arith in
    let z : x % 2 ^ ((j + 1) + r) ≡ 0 = ap (λ (k : ℕ). x % 2 ^ k) (sym s) ∙ e in
    let f : x / 2 ^ r % 2 ^ (j + 1) ≡ 0 = sym (field x (j + 1) r) ∙ ap (λ (k : ℕ). k / 2 ^ r) z ∙ zero-div (2 ^ r) in
    sym (mod-mod-pow (x / 2 ^ r) j 1) ∙ ap (λ (k : ℕ). k % 2) f

pub zero_bits : (n x : ℕ) → ((r : ℕ) → r < n → x / 2 ^ r % 2 ≡ 0) → x % 2 ^ n ≡ 0
zero_bits zero x f = mod-one x
zero_bits (suc n) x f =
    ap (λ (k : ℕ). x % 2 ^ k) (let s : suc n ≡ 1 + n = omega arith in s)
    ∙ mod-pow-add x 1 n
    ∙ ap₂ (λ (a b : ℕ). a * 2 ^ n + b) (f n (omega arith)) (zero_bits n x (λ r h. f r (omega arith)))
    ∙ (let z : 0 * 2 ^ n + 0 ≡ 0 = omega (arith, zero-mul (2 ^ n)) in z)

-- a test for zero says a statement that holds exactly then
pub says_zero : (P : Type 0) (x : ℕ) → (x ≡ 0 → P) → (P → x ≡ 0) → Says P (eqb x 0)
says_zero P zero f g = subst (Says P) (sym (eq-eqb 0 0 refl)) (f refl)
says_zero P (suc x) f g = subst (Says P) (sym (ne_eqb (suc x) 0 (λ e. omega arith))) (λ p. let z : suc x ≡ 0 = g p in omega arith)

-- n bits from bit b of word w on are zero
module _ (c : List ℕ) (w b n : ℕ) (fits : b + n ≤ 64) where
  at_bit : (r : ℕ) → r < n → bit c (64 * w + b + r) ≡ get_or c w 0 / 2 ^ b / 2 ^ r % 2
  unfolding bit
  at_bit r h =
      ap₂ (λ (i j : ℕ). get_or c i 0 / 2 ^ j % 2) (let e : (64 * w + b + r) / 64 ≡ w = omega arith in e) (let e : (64 * w + b + r) % 64 ≡ b + r = omega arith in e)
      ∙ ap (λ (k : ℕ). k % 2) (sym (shr-shr (get_or c w 0) b r))

  pub run_clear : get_or c w 0 / 2 ^ b % 2 ^ n ≡ 0 → Untaken c (64 * w + b) n
  run_clear e p l h =
      let s : p ≡ 64 * w + b + (p - (64 * w + b)) = omega arith in
      ap (bit c) s ∙ at_bit (p - (64 * w + b)) (omega arith) ∙ bits_zero n (get_or c w 0 / 2 ^ b) (p - (64 * w + b)) e (omega arith)

  pub clear_run : Untaken c (64 * w + b) n → get_or c w 0 / 2 ^ b % 2 ^ n ≡ 0
  clear_run f = zero_bits n (get_or c w 0 / 2 ^ b) (λ r h. sym (at_bit r h) ∙ f (64 * w + b + r) (omega arith) (omega arith))

  pub says_run : Says (Untaken c (64 * w + b) n) (eqb (get_or c w 0 / 2 ^ b % 2 ^ n) 0)
  says_run = says_zero _ _ run_clear clear_run

-- a word that is zero, of its 64 bits
pub word_clear : (c : List ℕ) (w : ℕ) → get_or c w 0 ≡ 0 → Untaken c (64 * w) 64
word_clear c w e p l h = run_clear c w 0 64 (omega arith) (ap (λ (x : ℕ). x / 2 ^ 0 % 2 ^ 64) e) p (omega arith) (omega arith)

pub clear_word : (c : List ℕ) (w : ℕ) → get_or c w 0 < 2 ^ 64 → Untaken c (64 * w) 64 → get_or c w 0 ≡ 0
clear_word c w lt f =
    let z : get_or c w 0 / 2 ^ 0 % 2 ^ 64 ≡ 0 = clear_run c w 0 64 (omega arith) (λ p l h. f p (omega arith) (omega arith)) in
    sym (mod-eq_of_lt lt) ∙ ap (λ (x : ℕ). x % 2 ^ 64) (let e : get_or c w 0 ≡ get_or c w 0 / 2 ^ 0 = omega arith in e) ∙ z

pub says_word : (c : List ℕ) (w : ℕ) → get_or c w 0 < 2 ^ 64 → Says (Untaken c (64 * w + 0) 64) (eqb (get_or c w 0) 0)
says_word c w lt = says_zero _ _ (λ e p l h. word_clear c w e p (omega arith) (omega arith)) (λ f. clear_word c w lt (λ p l h. f p (omega arith) (omega arith)))

-- the bits of an or
or-digit : (x y : ℕ) → bit_or x y % 2 ≡ max (x % 2) (y % 2) % 2
or-digit x y = let e = or_step x y in omega arith

max-one : (u : ℕ) → u < 2 → max u 1 ≡ 1
max-one zero h = refl
max-one (suc zero) h = refl
max-one (suc (suc u)) h = absurd (omega arith)

module _ (a d r : ℕ) where
  or_at : bit_or a d / 2 ^ r % 2 ≡ max (a / 2 ^ r % 2) (d / 2 ^ r % 2) % 2
  or_at = ap (λ (k : ℕ). k % 2) (or_shr a d r) ∙ or-digit (a / 2 ^ r) (d / 2 ^ r)

  pub or-one : d / 2 ^ r % 2 ≡ 1 → bit_or a d / 2 ^ r % 2 ≡ 1
  or-one e = or_at ∙ ap (λ (k : ℕ). max (a / 2 ^ r % 2) k % 2) e ∙ ap (λ (k : ℕ). k % 2) (max-one (a / 2 ^ r % 2) (omega arith))

  pub or_same : d / 2 ^ r % 2 ≡ 0 → bit_or a d / 2 ^ r % 2 ≡ a / 2 ^ r % 2
  or_same e =
      or_at ∙ ap (λ (k : ℕ). max (a / 2 ^ r % 2) k % 2) e ∙ ap (λ (k : ℕ). k % 2) (max-zero (a / 2 ^ r % 2)) ∙ mod-mod-pow (a / 2 ^ r) 0 1

-- n ones, and n ones from bit b on
pub ones_bit : (n s : ℕ) → s < n → (2 ^ n - 1) / 2 ^ s % 2 ≡ 1
ones_bit n s h =
    let j : ℕ = n - suc s in
    let e : n ≡ (j + 1) + s = omega arith in
    let top : (2 ^ n - 1) / 2 ^ s ≡ 2 ^ (j + 1) - 1 =
    ap (λ (k : ℕ). (2 ^ k - 1) / 2 ^ s) e ∙ ap (λ (k : ℕ). k / 2 ^ s) (ones_split (j + 1) s) ∙ high (2 ^ (j + 1) - 1) s (ones_lt s) in
    ap (λ (k : ℕ). k % 2) (top ∙ ones_split j 1) ∙ (let z : ((2 ^ j - 1) * 2 ^ 1 + (2 ^ 1 - 1)) % 2 ≡ 1 = omega arith in z)

lt-pow : {x i j : ℕ} → x < 2 ^ i → i ≤ j → x < 2 ^ (0 + j)
lt-pow {x} {i} {j} l h = let p : 2 ^ i ≤ 2 ^ j = pow_mono h in subst (λ (k : ℕ). x < 2 ^ k) (let e : j ≡ 0 + j = omega arith in e) (omega arith)

module _ (n b r : ℕ) where
  pub run-one : b ≤ r → r < b + n → (2 ^ n - 1) * 2 ^ b / 2 ^ r % 2 ≡ 1
  run-one l h =
      let s : ℕ = r - b in
      let e : r ≡ b + s = omega arith in
      ap (λ (k : ℕ). (2 ^ n - 1) * 2 ^ b / 2 ^ k % 2) e
      ∙ ap (λ (k : ℕ). k % 2) (sym (shr-shr ((2 ^ n - 1) * 2 ^ b) b s) ∙ ap (λ (k : ℕ). k / 2 ^ s) (shl-shr (2 ^ n - 1) b))
      ∙ ones_bit n s (omega arith)

  pub run_none : (b ≤ r → r < b + n → ⊥) → (2 ^ n - 1) * 2 ^ b / 2 ^ r % 2 ≡ 0
  run_none f = elim (dec_le b r) [
    | yes l ↦
        let g : n + b ≤ r = elim (dec_le (n + b) r) [
          | yes k ↦ k
          | no k ↦ absurd (f l (omega arith))
        ] in
        let z : (2 ^ n - 1) * 2 ^ b / 2 ^ r < 2 ^ 0 = shr_lt 0 r (lt-pow (shl_lt n b (ones_lt n)) g) in
        let y : (2 ^ n - 1) * 2 ^ b / 2 ^ r ≡ 0 = omega arith in
        ap (λ (k : ℕ). k % 2) y
    | no l ↦ bits_zero b ((2 ^ n - 1) * 2 ^ b) r (mul-mod_left _ _) (omega arith)
  ]

-- word w set to a word that has the n bits from bit b on, and else those of the old one
pub full-word : (c : List ℕ) (w v b n : ℕ) → w < length c → b + n ≤ 64 → ((r : ℕ) → b ≤ r → r < b + n → v / 2 ^ r % 2 ≡ 1)
    → ((r : ℕ) → (b ≤ r → r < b + n → ⊥) → r < 64 → v / 2 ^ r % 2 ≡ get_or c w 0 / 2 ^ r % 2) → Full c (64 * w + b) n (set c w v)
unfolding bit
full-word c w v b n lt fits f g = (
  λ p l h.
      ap₂ (λ (i j : ℕ). get_or (set c w v) i 0 / 2 ^ j % 2) (let e : p / 64 ≡ w = omega arith in e) (let e : p % 64 ≡ p - 64 * w = omega arith in e)
      ∙ ap (λ (x : ℕ). x / 2 ^ (p - 64 * w) % 2) (get_or-set_same c w v 0 lt)
      ∙ f (p - 64 * w) (omega arith) (omega arith),
  λ p o. elim (ℕ_discrete (p / 64) w) [
    | yes e ↦
        ap (λ (i : ℕ). get_or (set c w v) i 0 / 2 ^ (p % 64) % 2) e
        ∙ ap (λ (x : ℕ). x / 2 ^ (p % 64) % 2) (get_or-set_same c w v 0 lt)
        ∙ g (p % 64) (λ l h. o (omega arith) (omega arith)) (omega arith)
        ∙ ap (λ (i : ℕ). get_or c i 0 / 2 ^ (p % 64) % 2) (sym e)
    | no e ↦ ap (λ (x : ℕ). x / 2 ^ (p % 64) % 2) (get_or-set_other c w (p / 64) v 0 e)
  ],
)

-- a run taken by an or, and a whole word
pub full-or : (c : List ℕ) (w b n d : ℕ) → w < length c → b + n ≤ 64 → d ≡ (2 ^ n - 1) * 2 ^ b → Full c (64 * w + b) n (set c w (bit_or (get_or c w 0) d))
full-or c w b n d lt fits e =
    full-word c w _ b n lt fits
    (λ r l h. or-one (get_or c w 0) d r (ap (λ (x : ℕ). x / 2 ^ r % 2) e ∙ run-one n b r l h))
    (λ r o k. or_same (get_or c w 0) d r (ap (λ (x : ℕ). x / 2 ^ r % 2) e ∙ run_none n b r o))

pub full-all : (c : List ℕ) (w : ℕ) → w < length c → Full c (64 * w + 0) 64 (set c w 18446744073709551615)
full-all c w lt =
    full-word c w 18446744073709551615 0 64 lt (omega arith) (λ r l h. ones_bit 64 r (omega arith)) (λ r o k. absurd (o (omega arith) (omega arith)))

-- a part of a run
pub clear_part : (c : List ℕ) (s n t k : ℕ) → s ≤ t → t + k ≤ s + n → Untaken c s n → Untaken c t k
clear_part c s n t k a b f p l h = f p (omega arith) (omega arith)

-- words one behind the other, by each of them
pub clear_words : (c : List ℕ) (w n : ℕ) → ((k : ℕ) → k < n → get_or c (w + k) 0 ≡ 0) → Untaken c (64 * w) (64 * n)
clear_words c w n f p l h =
    let k : ℕ = p / 64 - w in
    word_clear c (w + k) (f k (omega arith)) p (omega arith) (omega arith)

pub full_words : (c d : List ℕ) (w n : ℕ) → ((i : ℕ) → w ≤ i → i < w + n → get_or d i 0 ≡ 18446744073709551615)
    → ((i : ℕ) → (w ≤ i → i < w + n → ⊥) → get_or d i 0 ≡ get_or c i 0) → Full c (64 * w) (64 * n) d
unfolding bit
full_words c d w n f g = (
  λ p l h. ap (λ (x : ℕ). x / 2 ^ (p % 64) % 2) (f (p / 64) (omega arith) (omega arith)) ∙ ones_bit 64 (p % 64) (omega arith),
  λ p o. ap (λ (x : ℕ). x / 2 ^ (p % 64) % 2) (g (p / 64) (λ l h. o (omega arith) (omega arith))),
)

-- sixteen words of ones in place of a part
pub full_mid : (c ys : List ℕ) (w n : ℕ) → n ≡ 16 → w + 16 ≤ length c → ys ≡ replicate (length (take n (drop w c))) 18446744073709551615
    → Full c (64 * w) 1024 (put_mid w n c ys)
full_mid c ys w n e room ones =
    full_words c (put_mid w n c ys) w 16 mid (λ i o. elim (dec_le w i) [
      | yes g ↦ above i g o
      | no g ↦ get_or-append (take w c) _ 0 i (omega (arith, head)) ∙ get_or-take w c i 0 (omega arith)
    ])
  where
    head : length (take w c) ≡ w
    head = omega (arith, length-take w c)

    long : length ys ≡ 16
    long = ap length ones ∙ length-replicate _ _ ∙ (let z : length (take n (drop w c)) ≡ 16 = omega (arith, length-take n (drop w c), length-drop w c) in z)

    mid : (i : ℕ) → w ≤ i → i < w + 16 → get_or (put_mid w n c ys) i 0 ≡ 18446744073709551615
    mid i l h =
        get_or-append_right (take w c) _ i 0 (omega (arith, head))
        ∙ get_or-append ys _ 0 (i - length (take w c)) (omega (arith, head, long))
        ∙ ap (λ (l : List ℕ). get_or l (i - length (take w c)) 0) ones
        ∙ get_or-replicate _ _ _ 0 (let z : i - length (take w c) < length (take n (drop w c)) = omega (arith, head, length-take n (drop w c), length-drop w c) in z)

    above : (i : ℕ) → w ≤ i → (w ≤ i → i < w + 16 → ⊥) → get_or (put_mid w n c ys) i 0 ≡ get_or c i 0
    above i g o =
        get_or-append_right (take w c) _ i 0 (omega (arith, head))
        ∙ get_or-append_right ys _ (i - length (take w c)) 0 (let z : length ys ≤ i - length (take w c) = omega (arith, head, long, o g) in z)
        ∙ get_or-drop n (drop w c) _ 0
        ∙ get_or-drop w c _ 0
        ∙ ap (λ (k : ℕ). get_or c k 0) (let z : w + (n + (i - length (take w c) - length ys)) ≡ i = omega (arith, head, long, o g) in z)

-- what a test of each of sixteen words says of them
pub says_sixteen : (c : List ℕ) (w n : ℕ) (r : Bool) → n ≡ 16 → w + 16 ≤ length c → ((i : ℕ) → get_or c i 0 < 2 ^ 64)
    → MatchBool r (AllWithin (λ x. x ≡ 0) (take n (drop w c)) 0 (length (take n (drop w c))))
    ((k : ℕ) × (k < length (take n (drop w c))) × HoldsAt (λ x. x ≡ 0 → ⊥) (take n (drop w c)) k) → Says (Untaken c (64 * w) 1024) r
says_sixteen c w n r e room fits m =
    by r m
  where
    long : length (take n (drop w c)) ≡ 16
    long = omega (arith, length-take n (drop w c), length-drop w c)

    word : (k : ℕ) → k < 16 → get_or (take n (drop w c)) k 0 ≡ get_or c (w + k) 0
    word k h = get_or-take n (drop w c) k 0 (omega arith) ∙ get_or-drop w c k 0

    by : (b : Bool) → MatchBool b (AllWithin (λ x. x ≡ 0) (take n (drop w c)) 0 (length (take n (drop w c))))
        ((k : ℕ) × (k < length (take n (drop w c))) × HoldsAt (λ x. x ≡ 0 → ⊥) (take n (drop w c)) k) → Says (Untaken c (64 * w) 1024) b
    by true a = clear_words c w 16 (λ k h. sym (word k h) ∙ a k 0 (omega arith) (omega (arith, long)))
    by false a = λ f.
        let lt : a.0 < 16 = omega (arith, long, a.1) in
        a.2 0 (word a.0 lt ∙ clear_word c (w + a.0) (fits (w + a.0)) (clear_part c (64 * w) 1024 (64 * (w + a.0)) 64 (omega arith) (omega arith) f))
