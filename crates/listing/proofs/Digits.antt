-- Digits read one after the other. Assumes nothing.
use Rattle.std.proofs.Common.{Result, Ok, Err}
use Rattle.listing.specs.declared.NumberError.{NumberError}
use Rattle.listing.specs.Names.{◌≡◌, true, false, ◌-◌, List, [], ◌∷◌, ℕ, ◌+◌, ◌*◌, ◌≤◌, ◌<◌, ltb, length, get_or, drop, pick}
use Rattle.listing.proofs.Names.{refl, sym, ap, ◌∙◌, subst, arith, add-one, lt-ltb, le-ltb, ltb-true, ltb-false, drop_of_length-le, drop-cons}
use Rattle.listing.proofs.Names.{pick_yes, pick_no, pick_by, and_yes, and_no, dec_le, le-leb, lt-leb, end, digit, within, read_on}

-- past the end all values read alike
pub past_alike : (w : List ℕ) (u v : ℕ) → end ≤ u → end ≤ v → read_on u w ≡ read_on v w
unfolding read_on
past_alike [] u v h g = pick_no _ _ _ (le-ltb u end h) ∙ sym (pick_no _ _ _ (le-ltb v end g))
past_alike (x ∷ w) u v h g = ap (λ (n : Result ℕ NumberError). pick (ltb (digit x) 16) n (Err NumberError.NotHex)) (past_alike w (16 * u + digit x) (16 * v + digit x) (omega arith) (omega arith))

-- what is left at digit i is read on from the value so far
abbrev pub On : List ℕ → ℕ → ℕ → Type 0
On w v i = read_on 0 w ≡ read_on v (drop i w)

module _ (w : List ℕ) (v i : ℕ) (h : i < length w) (o : On w v i) where
  on_at : read_on 0 w ≡ pick (ltb (digit (get_or w i 0)) 16) (read_on (16 * v + digit (get_or w i 0)) (drop (i + 1) w)) (Err NumberError.NotHex)
  unfolding read_on
  on_at =
      o
      ∙ ap (read_on v) (drop-cons w i 0 h)
      ∙ ap (λ (k : ℕ). pick (ltb (digit (get_or w i 0)) 16) (read_on (16 * v + digit (get_or w i 0)) (drop k w)) (Err NumberError.NotHex)) (sym (add-one i))

  pub on-bad : (d : ℕ) → d ≡ digit (get_or w i 0) → 16 ≤ d → Err NumberError.NotHex ≡ read_on 0 w
  on-bad d e g = sym (on_at ∙ pick_no _ _ _ (ap (λ (x : ℕ). ltb x 16) (sym e) ∙ le-ltb d 16 g))

  pub on-more : (d n : ℕ) → d ≡ digit (get_or w i 0) → d < 16 → n ≡ pick (ltb v end) (16 * v + d) v → On w n (i + 1)
  on-more d n e g q =
      on_at
      ∙ pick_yes _ _ _ (ap (λ (x : ℕ). ltb x 16) (sym e) ∙ lt-ltb d 16 g)
      ∙ ap (λ (x : ℕ). read_on (16 * v + x) (drop (i + 1) w)) (sym e)
      ∙ sym (ap (λ (x : ℕ). read_on x (drop (i + 1) w)) q ∙ pick_by (λ (x : ℕ). read_on x (drop (i + 1) w) ≡ read_on (16 * v + d) (drop (i + 1) w)) _ _ _ (λ _. refl)
      (λ b. past_alike (drop (i + 1) w) v (16 * v + d) (let z = ltb-false v end b in z) (let z = ltb-false v end b in omega arith)))

pub on-end : (w : List ℕ) (v i : ℕ) → length w ≤ i → On w v i → read_on 0 w ≡ pick (ltb v end) (Ok v) (Err NumberError.TooLarge)
unfolding read_on
on-end w v i h o = o ∙ ap (read_on v) (drop_of_length-le w {i = i} h)

-- a value with one digit more stays small
pub on_small : (v d n : ℕ) → d < 16 → v < 16 * end → n ≡ pick (ltb v end) (16 * v + d) v → n < 16 * end
on_small v d n g h q = subst (λ (x : ℕ). x < 16 * end) (sym q) (pick_by (λ (x : ℕ). x < 16 * end) _ _ _ (λ b. let z = ltb-true v end b in omega arith) (λ _. h))

-- a digit by its range
pub digit_09 : (x : ℕ) → 48 ≤ x → x ≤ 57 → x - 48 ≡ digit x
unfolding digit within
digit_09 x h g = sym (pick_yes _ _ _ (and_yes _ _ (le-leb 48 x h) ∙ le-leb x 57 g))

outside : (x a b : ℕ) → (a ≤ x → x ≤ b → ⊥) → within x a b ≡ false
unfolding within
outside x a b h = elim (dec_le a x) [
  | yes p ↦ and_yes _ _ (le-leb a x p) ∙ lt-leb x b (elim (dec_le x b) as (λ _. b < x) [ yes q ↦ absurd (h p q) | no q ↦ omega arith ])
  | no p ↦ and_no _ _ (lt-leb a x (omega arith))
]

inside : (x a b : ℕ) → a ≤ x → x ≤ b → within x a b ≡ true
unfolding within
inside x a b h g = and_yes _ _ (le-leb a x h) ∙ le-leb x b g

pub digit_AF : (x : ℕ) → 65 ≤ x → x ≤ 70 → x - 65 + 10 ≡ digit x
unfolding digit
digit_AF x h g = sym (pick_no _ _ _ (outside x 48 57 (λ p q. omega arith)) ∙ pick_yes _ _ _ (inside x 65 70 h g) ∙ omega arith)

pub digit_af : (x : ℕ) → 97 ≤ x → x ≤ 102 → x - 97 + 10 ≡ digit x
unfolding digit
digit_af x h g =
    sym (pick_no _ _ _ (outside x 48 57 (λ p q. omega arith)) ∙ pick_no _ _ _ (outside x 65 70 (λ p q. omega arith)) ∙ pick_yes _ _ _ (inside x 97 102 h g) ∙ omega arith)

pub digit_none : (x : ℕ) → (48 ≤ x → x ≤ 57 → ⊥) → (65 ≤ x → x ≤ 70 → ⊥) → (97 ≤ x → x ≤ 102 → ⊥) → 16 ≡ digit x
unfolding digit
digit_none x f g h = sym (pick_no _ _ _ (outside x 48 57 f) ∙ pick_no _ _ _ (outside x 65 70 g) ∙ pick_no _ _ _ (outside x 97 102 h))
