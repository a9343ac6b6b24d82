-- A record's last four bytes as one word: type, access, and two zeros. Assumes nothing.
use Rattle.records.specs.Names.{◌≡◌, Bool, true, false, List, ℕ, ◌+◌, ◌*◌, ◌/◌, ◌%◌, ◌^◌, ◌≤◌, ◌<◌, eqb, ltb, leb, length, get_or, take, drop}
use Rattle.records.specs.Names.{◌and◌, ◌or◌, megabytes, low_bits, kind_of, word_of}
use Rattle.records.proofs.Names.{refl, sym, ap, ◌∙◌, true≢false, arith, ℕ_discrete, le-leb, eq-eqb, ne_eqb, ltb-true, eqb-true, bit_or}
use Rattle.records.proofs.Names.{shl_exact, length-take, length-drop, pick_yes, and_yes, and_no, and_left, and_right, or_yes, or_no, mapping_of}
use Rattle.records.proofs.Names.{proper, well_formed}
use borrow.Author.Tests.{lt-ltb, le-ltb}
use lib.Bits.{or_mod, or_zero_l, or_add_and, and_le_r}
use lib.Dec.{lit<}
use lib.Seq.{get_or-take, get_or-drop}
use Rattle.wire.specs.Words.{little_endian}
use Rattle.records.specs.Checks.{multiple}

pub by_false : (b : Bool) → (b ≡ true → ⊥) → b ≡ false
by_false true f = absurd (f refl)
by_false false f = refl

either : (a b : Bool) → (a or b) ≡ true → (a ≡ false → b ≡ true)
either true b e f = absurd (true≢false f)
either false b e f = sym (or_no false b refl) ∙ e

and_true : (a b : Bool) → b ≡ true → (a and b) ≡ a
and_true true b e = and_yes true b refl ∙ e
and_true false b e = and_no false b refl

-- two numbers are multiples of a power of two exactly where their or is
none_or : (x y : ℕ) → eqb (bit_or x y) 0 ≡ (eqb x 0 and eqb y 0)
none_or x y = elim (ℕ_discrete x 0) [
  | yes e ↦ ap (λ (z : ℕ). eqb z 0) (ap (λ (u : ℕ). bit_or u y) e ∙ or_zero_l y) ∙ sym (and_yes _ _ (eq-eqb x 0 e))
  | no g ↦ ne_eqb (bit_or x y) 0 (λ e. g (omega (arith, or_add_and x y, and_le_r x y))) ∙ sym (and_no _ _ (ne_eqb x 0 g))
]

aligned : (n a b : ℕ) → eqb (bit_or a b % 2 ^ n) 0 ≡ (eqb (a % 2 ^ n) 0 and eqb (b % 2 ^ n) 0)
aligned n a b = ap (λ (x : ℕ). eqb x 0) (or_mod a b n) ∙ none_or (a % 2 ^ n) (b % 2 ^ n)

-- the code's power of two
pub one_shifted : (k n : ℕ) → k ≡ n → n ≤ 20 → (1 * 2 ^ k) % 2 ^ 32 ≡ 2 ^ n
one_shifted k n e h = ap (λ (j : ℕ). (1 * 2 ^ j) % 2 ^ 32) e ∙ shl_exact {a = 1} 1 n 32 (lit< tt) (omega arith) ∙ (let z : 1 * 2 ^ n ≡ 2 ^ n = omega arith in z)

module _ (r : List ℕ) (room : 12 ≤ length r) (bytes : (i : ℕ) → get_or r i 0 < 256) where
  byte : (i : ℕ) → i < 4 → get_or (take 4 (drop 8 r)) i 0 ≡ get_or r (8 + i) 0
  byte i h = get_or-take 4 (drop 8 r) i 0 h ∙ get_or-drop 8 r i 0

  pub rest-is : word_of (take 4 (drop 8 r)) ≡ get_or r 8 0 + 256 * get_or r 9 0 + 65536 * get_or r 10 0 + 16777216 * get_or r 11 0
  unfolding word_of
  rest-is =
      pick_yes _ _ _ (le-leb 4 (length (take 4 (drop 8 r))) (omega (arith, length-take 4 (drop 8 r), length-drop 8 r)))
      ∙ (let a = byte 0 (omega arith) in let b = byte 1 (omega arith) in let c = byte 2 (omega arith) in let d = byte 3 (omega arith) in
      let z : little_endian (get_or (take 4 (drop 8 r)) 0 0) (get_or (take 4 (drop 8 r)) 1 0) (get_or (take 4 (drop 8 r)) 2 0) (get_or (take 4 (drop 8 r)) 3 0)
      ≡ get_or r 8 0 + 256 * get_or r 9 0 + 65536 * get_or r 10 0 + 16777216 * get_or r 11 0 =
      omega arith in
      z)

  -- what a well-formed record's bytes are
  parts : well_formed megabytes r ≡ true → (get_or r 8 0 < 4) × ((get_or r 9 0 ≡ 2 → ⊥) → get_or r 9 0 ≡ 3) × (get_or r 10 0 ≡ 0) × (get_or r 11 0 ≡ 0)
  unfolding well_formed proper mapping_of
  parts e =
      let a = and_right (leb 12 (length r)) _ e in
      let b = and_right (ltb (get_or r 8 0) 4) _ a in
      let c = and_right (proper megabytes (mapping_of r)) _ b in
      let p = and_left (proper megabytes (mapping_of r)) _ b in
      let q = and_right _ _ (and_right _ _ (and_right _ _ p)) in (
        ltb-true _ _ (and_left (ltb (get_or r 8 0) 4) _ a),
        (λ n. eqb-true _ _ (either (eqb (get_or r 9 0) 2) (eqb (get_or r 9 0) 3) q (by_false _ (λ t. n (eqb-true _ _ t))))),
        eqb-true _ _ (and_left (eqb (get_or r 10 0) 0) _ c),
        eqb-true _ _ (and_right (eqb (get_or r 10 0) 0) _ c),
      )

  module _ (w : ℕ) (e : w ≡ word_of (take 4 (drop 8 r))) where
    pub rest-wrong : (w / 512 ≡ 1 → ⊥) → false ≡ well_formed megabytes r
    rest-wrong f =
        sym (by_false _ (λ t.
        let p = parts t in
        let s = e ∙ rest-is in
        let three : get_or r 9 0 ≡ 3 = p.1 (λ two. f (omega (arith, p.0, p.2, p.3))) in
        f (omega (arith, p.0, p.2, p.3))))

    pub type_wrong : 4 ≤ w % 256 → false ≡ well_formed megabytes r
    type_wrong f = sym (by_false _ (λ t. let p = parts t in let s = e ∙ rest-is in omega (arith, p.0, bytes 8)))

    rest_right : w / 512 ≡ 1 → w % 256 < 4 → proper megabytes (mapping_of r) ≡ well_formed megabytes r
    unfolding well_formed
    rest_right f g =
        let s = e ∙ rest-is in
        let z10 : get_or r 10 0 ≡ 0 = omega (arith, bytes 8, bytes 9, bytes 10, bytes 11) in
        let z11 : get_or r 11 0 ≡ 0 = omega (arith, bytes 8, bytes 9, bytes 10, bytes 11) in
        let z8 : get_or r 8 0 < 4 = omega (arith, bytes 8) in
        sym
        (and_yes _ _ (le-leb 12 (length r) room)
        ∙ and_yes _ _ (lt-ltb _ _ z8)
        ∙ and_true (proper megabytes (mapping_of r)) _ (and_yes _ _ (eq-eqb _ _ z10) ∙ eq-eqb _ _ z11))

    -- an address past the end
    pub rest_past : w / 512 ≡ 1 → w % 256 < 4 → 16777216 ≤ word_of (take 4 (drop 0 r)) → false ≡ well_formed megabytes r
    unfolding proper mapping_of
    rest_past f g h = sym (sym (rest_right f g) ∙ and_no _ _ (le-ltb _ _ h))

    -- addresses whose or is a multiple of the page's size, in a record whose rest is right
    pub rest-proper : w / 512 ≡ 1 → w % 256 < 4 → word_of (take 4 (drop 0 r)) < 16777216
        → eqb (bit_or (word_of (take 4 (drop 0 r))) (word_of (take 4 (drop 4 r))) % 2 ^ low_bits (kind_of (w % 256))) 0 ≡ well_formed megabytes r
    unfolding proper multiple mapping_of
    rest-proper f g lt =
        let s = e ∙ rest-is in
        let k : w % 256 ≡ get_or r 8 0 = omega (arith, bytes 8) in
        let z10 : get_or r 10 0 ≡ 0 = omega (arith, bytes 8, bytes 9, bytes 10, bytes 11) in
        let z11 : get_or r 11 0 ≡ 0 = omega (arith, bytes 8, bytes 9, bytes 10, bytes 11) in
        let low : 2 ≤ get_or r 9 0 = omega arith in
        let high : get_or r 9 0 < 4 = omega arith in
        let access : (eqb (get_or r 9 0) 2 or eqb (get_or r 9 0) 3) ≡ true = elim (ℕ_discrete (get_or r 9 0) 2) [
          | yes q ↦ or_yes _ _ (eq-eqb _ _ q)
          | no q ↦ or_no _ _ (ne_eqb _ _ q) ∙ eq-eqb _ _ (let z : get_or r 9 0 ≡ 3 = omega arith in z)
        ] in
        ap (λ (x : ℕ). eqb (bit_or (word_of (take 4 (drop 0 r))) (word_of (take 4 (drop 4 r))) % 2 ^ low_bits (kind_of x)) 0) k
        ∙ aligned (low_bits (kind_of (get_or r 8 0))) (word_of (take 4 (drop 0 r))) (word_of (take 4 (drop 4 r)))
        ∙ sym (and_yes _ _ (lt-ltb _ _ lt) ∙ ap (λ (b : Bool). eqb (word_of (take 4 (drop 0 r)) % 2 ^ low_bits (kind_of (get_or r 8 0))) 0 and b) (and_true _ _ access))
        ∙ rest_right f g
