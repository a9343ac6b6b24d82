-- The words of a printed line, read back one by one. Assumes nothing.
use Rattle.std.proofs.Common.{Option, Some}
use Rattle.std.proofs.Common.{Result}
use Rattle.listing.specs.declared.AddressError.{AddressError}
use Rattle.std.proofs.Common.{Ok, Err}
use Rattle.listing.specs.declared.NumberError.{NumberError}
use Rattle.listing.specs.Names.{◌≡◌, Bool, true, false, not, List, [], ◌∷◌, ◌++◌, ℕ, zero, suc, ◌+◌, ◌*◌, ◌-◌, ◌/◌, ◌%◌, ◌^◌, ◌≤◌, ◌<◌, eqb}
use Rattle.listing.specs.Names.{ltb, length, get_or, take, drop, pick, ◌or◌, limit, Kind, multiple, Class, Wrong}
use Rattle.listing.proofs.Names.{refl, sym, ap, ap₂, ◌∙◌, append_assoc, append-nil, arith, eq-eqb, ne_eqb, lt-ltb, le-ltb, lt-leb, le-leb}
use Rattle.listing.proofs.Names.{ltb-true, ltb-false, length-append, take_at, drop_at, take-length, pick_yes, pick_no, pick_by, and_yes, or_no}
use Rattle.listing.proofs.Names.{end, within, digit, read_on, hex_digits, prefixed, hex_number, blank, belongs, run_length, unindented, word, rest}
use Rattle.listing.proofs.Names.{access_named, address_by, address_in, mapping, line_ended, from_access, after_access, from_physical, after_physical, from_virtual}
use Rattle.listing.proofs.Names.{after_virtual, from_kind, body_length, body, uncommented, parsed, glyph, hex_text}
use native.Mathlib.Nat.{pow-suc}
use lib.Seq.{get_or_at}
use Rattle.page.proofs.Picks.{and-rest}

-- a digit's byte lies in '0' to 'F', and its value is the digit
glyph_low : (d : ℕ) → 48 ≤ glyph d
unfolding glyph
glyph_low d = pick_by (λ (g : ℕ). 48 ≤ g) _ _ _ (λ _. omega arith) (λ _. omega arith)

glyph_high : (d : ℕ) → d < 16 → glyph d ≤ 70
unfolding glyph
glyph_high d h = pick_by (λ (g : ℕ). g ≤ 70) _ _ _ (λ b. let z = ltb-true d 10 b in omega arith) (λ _. omega arith)

within_yes : (x a b : ℕ) → a ≤ x → x ≤ b → within x a b ≡ true
unfolding within
within_yes x a b h g = and_yes _ _ (le-leb a x h) ∙ le-leb x b g

within-above : (x a b : ℕ) → b < x → within x a b ≡ false
unfolding within
within-above x a b h = and-rest _ _ (lt-leb x b h)

pub digit_glyph : (d : ℕ) → d < 16 → digit (glyph d) ≡ d
unfolding glyph digit
digit_glyph d h = pick_by (λ (g : ℕ). digit g ≡ d) _ _ _ small large
  where
    small : ltb d 10 ≡ true → digit (48 + d) ≡ d
    small b = let z = ltb-true d 10 b in pick_yes _ _ _ (within_yes (48 + d) 48 57 (omega arith) (omega arith)) ∙ (let e : 48 + d - 48 ≡ d = omega arith in e)

    large : ltb d 10 ≡ false → digit (55 + d) ≡ d
    large b =
        let z = ltb-false d 10 b in
        pick_no _ _ _ (within-above (55 + d) 48 57 (omega arith)) ∙ pick_yes _ _ _ (within_yes (55 + d) 65 70 (omega arith) (omega arith)) ∙ (let e : 55 + d - 55 ≡ d = omega arith in e)

-- such a byte is of a line, of no comment, and of a word
blank-not : (x : ℕ) → 48 ≤ x → blank x ≡ false
unfolding blank
blank-not x h = or_no _ _ (ne_eqb x 32 (λ e. omega arith)) ∙ ne_eqb x 9 (λ e. omega arith)

abbrev pub Ink : Class → Type 0
Ink Class.Inline = Unit
Ink Class.Plain = Unit
Ink Class.Blank = ⊥
Ink Class.Solid = Unit

pub ink_high : (c : Class) → Ink c → (x : ℕ) → 48 ≤ x → belongs c x ≡ true
unfolding belongs
ink_high Class.Inline i x h = ap not (ne_eqb x 10 (λ e. omega arith))
ink_high Class.Plain i x h = ap not (ne_eqb x 35 (λ e. omega arith))
ink_high Class.Blank i x h = absurd i
ink_high Class.Solid i x h = ap not (blank-not x h)

-- all bytes of a word are of a class
abbrev pub In : Class → List ℕ → Type 0
In c w = run_length c w ≡ length w

pub run-append : (c : Class) (w l : List ℕ) → In c w → run_length c (w ++ l) ≡ length w + run_length c l
unfolding run_length
run-append c [] l h = let z : run_length c l ≡ 0 + run_length c l = omega arith in z
run-append c (x ∷ w) l h = split (run-append c w l) (belongs c x) refl
  where
    split : (In c w → run_length c (w ++ l) ≡ length w + run_length c l) → (b : Bool) → belongs c x ≡ b → run_length c (x ∷ (w ++ l)) ≡ suc (length w) + run_length c l
    split r true e =
        let g : In c w = let z = sym (pick_yes _ _ _ e) ∙ h in omega arith in
        pick_yes _ _ _ e ∙ ap suc (r g) ∙ (let z : suc (length w + run_length c l) ≡ suc (length w) + run_length c l = omega arith in z)
    split r false e = let z : 0 ≡ suc (length w) = sym (pick_no _ _ _ e) ∙ h in absurd (omega arith)

pub in_append : (c : Class) (v w : List ℕ) → In c v → In c w → In c (v ++ w)
in_append c v w h g = run-append c v w h ∙ ap (λ (n : ℕ). length v + n) g ∙ sym (length-append v w)

pub in_one : (c : Class) (x : ℕ) → belongs c x ≡ true → In c (x ∷ [])
unfolding run_length
in_one c x e = pick_yes _ _ _ e

pub in_hex : (c : Class) → Ink c → (k x : ℕ) → In c (hex_text k x)
unfolding hex_text run_length
in_hex c i zero x = refl
in_hex c i (suc k) x = in_append c (hex_text k (x / 16)) (glyph (x % 16) ∷ []) (in_hex c i k (x / 16)) (in_one c (glyph (x % 16)) (ink_high c i (glyph (x % 16)) (glyph_low (x % 16))))

-- the first word behind blanks, and what stands behind it
module _ (bs w l : List ℕ) (b : In Class.Blank bs) (f : run_length Class.Blank (w ++ l) ≡ 0) (s : In Class.Solid w) (g : run_length Class.Solid l ≡ 0) where
  start_is : run_length Class.Blank (bs ++ (w ++ l)) ≡ length bs
  start_is = run-append Class.Blank bs (w ++ l) b ∙ ap (λ (n : ℕ). length bs + n) f ∙ (let z : length bs + 0 ≡ length bs = omega arith in z)

  unindented-is : unindented (bs ++ (w ++ l)) ≡ w ++ l
  unindented-is = ap (λ (n : ℕ). drop n (bs ++ (w ++ l))) start_is ∙ drop_at bs (w ++ l) (length bs) refl

  width_is : run_length Class.Solid (unindented (bs ++ (w ++ l))) ≡ length w
  width_is = ap (run_length Class.Solid) unindented-is ∙ run-append Class.Solid w l s ∙ ap (λ (n : ℕ). length w + n) g ∙ (let z : length w + 0 ≡ length w = omega arith in z)

  pub word_here : word (bs ++ (w ++ l)) ≡ w
  unfolding word
  word_here = ap₂ (λ (n : ℕ) (m : List ℕ). take n m) width_is unindented-is ∙ take_at w l (length w) refl

  pub rest_here : rest (bs ++ (w ++ l)) ≡ l
  unfolding rest
  rest_here = ap₂ (λ (n : ℕ) (m : List ℕ). drop n m) width_is unindented-is ∙ drop_at w l (length w) refl

-- digits read back
hex_length : (k x : ℕ) → length (hex_text k x) ≡ k
unfolding hex_text
hex_length zero x = refl
hex_length (suc k) x = length-append (hex_text k (x / 16)) (glyph (x % 16) ∷ []) ∙ (let r = hex_length k (x / 16) in omega arith)

read-glyph : (v d : ℕ) (l : List ℕ) → d < 16 → read_on v (glyph d ∷ l) ≡ read_on (16 * v + d) l
unfolding read_on
read-glyph v d l h = ap (λ (n : ℕ). pick (ltb n 16) (read_on (16 * v + n) l) (Err NumberError.NotHex)) (digit_glyph d h) ∙ pick_yes _ _ _ (lt-ltb d 16 h)

read_hex : (k x : ℕ) (l : List ℕ) → x < 16 ^ k → read_on 0 (hex_text k x ++ l) ≡ read_on x l
unfolding hex_text
read_hex zero x l h = ap (λ (n : ℕ). read_on n l) (let z : 0 ≡ x = omega arith in z)
read_hex (suc k) x l h =
    ap (read_on 0) (append_assoc (hex_text k (x / 16)) (glyph (x % 16) ∷ []) l)
    ∙ read_hex k (x / 16) (glyph (x % 16) ∷ l) (omega (arith, pow-suc 16 k))
    ∙ read-glyph (x / 16) (x % 16) l (omega arith)
    ∙ ap (λ (n : ℕ). read_on n l) (let z : 16 * (x / 16) + x % 16 ≡ x = omega arith in z)

-- no printed number begins with 0x
not-prefixed : (w : List ℕ) → 48 ≤ get_or w 1 0 → get_or w 1 0 ≤ 70 → prefixed w ≡ false
unfolding prefixed
not-prefixed w h g = and-rest _ _ (and-rest _ _ (or_no _ _ (ne_eqb (get_or w 1 0) 120 (λ e. omega arith)) ∙ ne_eqb (get_or w 1 0) 88 (λ e. omega arith)))

number_hex : (k x : ℕ) → 0 < k → x < 16 ^ k → x < end → 48 ≤ get_or (hex_text k x) 1 0 → get_or (hex_text k x) 1 0 ≤ 70 → hex_number (hex_text k x) ≡ Ok x
unfolding hex_number hex_digits read_on
number_hex k x p h e a b =
    pick_no _ _ _ (not-prefixed (hex_text k x) a b)
    ∙ pick_no _ _ _ (ne_eqb (length (hex_text k x)) 0 (λ z. let l = hex_length k x in omega arith))
    ∙ ap (read_on 0) (sym (append-nil (hex_text k x)))
    ∙ read_hex k x [] h
    ∙ pick_yes _ _ _ (lt-ltb x end e)

six_number : (x : ℕ) → x < 2 ^ 24 → hex_number (hex_text 6 x) ≡ Ok x
unfolding hex_text
six_number x h =
    let d : ℕ = x / 16 / 16 / 16 / 16 % 16 in
    number_hex 6 x (omega arith) (omega arith) (omega arith) (glyph_low d) (glyph_high d (omega arith))

eight_number : (x : ℕ) → x < end → hex_number (hex_text 8 x) ≡ Ok x
unfolding hex_text
eight_number x h =
    let d : ℕ = x / 16 / 16 / 16 / 16 / 16 / 16 % 16 in
    number_hex 8 x (omega arith) (omega arith) h (glyph_low d) (glyph_high d (omega arith))

address_back : (top k x : ℕ) (d : Kind) → 0 < k → hex_number (hex_text k x) ≡ Ok x → x < top → multiple d x ≡ true → address_in top d (hex_text k x) ≡ Ok x
unfolding address_in
address_back top k x d p e h m =
    pick_no _ _ _ (ne_eqb (length (hex_text k x)) 0 (λ z. let l = hex_length k x in omega arith))
    ∙ ap (address_by top d) e
    ∙ pick_no _ _ _ (lt-leb top x h)
    ∙ pick_yes _ _ _ m

-- a number's first digit is no blank
six_solid : (x : ℕ) (l : List ℕ) → run_length Class.Blank (hex_text 6 x ++ l) ≡ 0
unfolding hex_text run_length belongs
six_solid x l = let d : ℕ = x / 16 / 16 / 16 / 16 / 16 % 16 in pick_no _ _ _ (blank-not (glyph d) (glyph_low d))

eight_solid : (x : ℕ) (l : List ℕ) → run_length Class.Blank (hex_text 8 x ++ l) ≡ 0
unfolding hex_text run_length belongs
eight_solid x l = let d : ℕ = x / 16 / 16 / 16 / 16 / 16 / 16 / 16 % 16 in pick_no _ _ _ (blank-not (glyph d) (glyph_low d))

-- a line whose last byte is no carriage return is its own body
body-whole : (q : List ℕ) (y : ℕ) → (y ≡ 13 → ⊥) → body_length (q ++ (y ∷ [])) ≡ length (q ++ (y ∷ []))
unfolding body_length
body-whole q y h = pick_no _ _ _ (ne_eqb (get_or (q ++ (y ∷ [])) (length (q ++ (y ∷ [])) - 1) 0) 13 (λ e. h (sym (last q y) ∙ e)))
  where
    last : (q : List ℕ) (y : ℕ) → get_or (q ++ (y ∷ [])) (length (q ++ (y ∷ [])) - 1) 0 ≡ y
    last q y = get_or_at q y [] 0 (length (q ++ (y ∷ [])) - 1) (let z = length-append q (y ∷ []) in omega arith)

-- a short line without comment and carriage return, from its kind on
pub said-whole : (q : List ℕ) (y : ℕ) → (y ≡ 13 → ⊥) → length (q ++ (y ∷ [])) ≤ 200 → In Class.Plain (q ++ (y ∷ [])) → parsed (q ++ (y ∷ [])) ≡ from_kind (q ++ (y ∷ []))
unfolding parsed
said-whole q y h s p =
    let l : List ℕ = q ++ (y ∷ []) in
    let b : body_length l ≡ length l = body-whole q y h in
    let w : body l ≡ l = ap (λ (n : ℕ). take n l) b ∙ take-length l in
    pick_no _ _ _ (le-ltb 200 (body_length l) (omega (arith, b)))
    ∙ ap (λ (m : List ℕ). from_kind (uncommented m)) w
    ∙ ap (λ (n : ℕ). from_kind (take n l)) p
    ∙ ap from_kind (take-length l)

blank-one : In Class.Blank (32 ∷ [])
unfolding run_length belongs blank pick ◌or◌
blank-one = refl

pub solid_none : (l : List ℕ) → run_length Class.Solid (32 ∷ l) ≡ 0
unfolding run_length belongs blank pick ◌or◌
solid_none l = refl

module _ (k : Kind) (v p a : ℕ) (vl : v < 2 ^ 24) (pl : p < end) (vm : multiple k v ≡ true) (pm : multiple k p ≡ true)
    (w : List ℕ) (ws : In Class.Solid w) (wb : run_length Class.Blank w ≡ 0) (wl : 0 < length w) (wa : access_named w ≡ Some a) where
  access_back : from_access k v p ((32 ∷ []) ++ (w ++ [])) ≡ Ok (Some (mapping k v p a))
  unfolding from_access line_ended run_length
  access_back =
      let wh : word ((32 ∷ []) ++ (w ++ [])) ≡ w = word_here (32 ∷ []) w [] blank-one (ap (run_length Class.Blank) (append-nil w) ∙ wb) ws refl in
      let rh : rest ((32 ∷ []) ++ (w ++ [])) ≡ [] = rest_here (32 ∷ []) w [] blank-one (ap (run_length Class.Blank) (append-nil w) ∙ wb) ws refl in
      ap₂ (λ (x r : List ℕ). pick (eqb (length x) 0) (Err Wrong.WordMissing) (after_access k v p (access_named x) r)) wh rh
      ∙ pick_no _ _ _ (ne_eqb (length w) 0 (λ e. omega arith))
      ∙ ap (λ (x : Option ℕ). after_access k v p x []) wa
      ∙ pick_yes _ _ _ (eq-eqb 0 0 refl)

  physical_back : from_physical k v ((32 ∷ []) ++ (hex_text 8 p ++ ((32 ∷ []) ++ (w ++ [])))) ≡ Ok (Some (mapping k v p a))
  unfolding from_physical
  physical_back =
      let r : List ℕ = (32 ∷ []) ++ (w ++ []) in
      ap₂ (λ (x y : List ℕ). after_physical k v (address_in end k x) y)
      (word_here (32 ∷ []) (hex_text 8 p) r blank-one (eight_solid p r) (in_hex Class.Solid tt 8 p) (solid_none (w ++ [])))
      (rest_here (32 ∷ []) (hex_text 8 p) r blank-one (eight_solid p r) (in_hex Class.Solid tt 8 p) (solid_none (w ++ [])))
      ∙ ap (λ (x : Result ℕ AddressError). after_physical k v x r) (address_back end 8 p k (omega arith) (eight_number p pl) pl pm)
      ∙ access_back

  pub virtual_back : (bs : List ℕ) → In Class.Blank bs → from_virtual k (bs ++ (hex_text 6 v ++ ((32 ∷ []) ++ (hex_text 8 p ++ ((32 ∷ []) ++ (w ++ [])))))) ≡ Ok (Some (mapping k v p a))
  unfolding from_virtual
  virtual_back bs b =
      let m : List ℕ = hex_text 8 p ++ ((32 ∷ []) ++ (w ++ [])) in
      let r : List ℕ = (32 ∷ []) ++ m in
      ap₂ (λ (x y : List ℕ). after_virtual k (address_in limit k x) y)
      (word_here bs (hex_text 6 v) r b (six_solid v r) (in_hex Class.Solid tt 6 v) (solid_none m))
      (rest_here bs (hex_text 6 v) r b (six_solid v r) (in_hex Class.Solid tt 6 v) (solid_none m))
      ∙ ap (λ (x : Result ℕ AddressError). after_virtual k x r) (address_back limit 6 v k (omega arith) (six_number v vl) vl vm)
      ∙ physical_back
