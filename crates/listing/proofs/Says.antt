-- A line's words, one after the other. Assumes nothing.
use Rattle.listing.specs.declared.AddressError.{AddressError}
use Rattle.std.proofs.Common.{Option}
use Rattle.std.proofs.Common.{Result}
use Rattle.listing.specs.declared.NumberError.{NumberError}
use Rattle.listing.specs.Names.{◌≡◌, List, ℕ, false, eqb, ◌-◌, ◌≤◌, length, get_or, take, drop, Kind, Class, Mapping, Wrong, limit}
use Rattle.listing.proofs.Names.{sym, ap, ap₂, ◌∙◌, arith, ne_eqb, le-ltb, length-take, List·getD-eq-default, pick_no}
use Rattle.listing.proofs.Names.{pick_by, end, hex_number, run_length, word, rest, kind_named, access_named, address_by, address_in}
use Rattle.listing.proofs.Names.{from_access, after_access, after_physical, from_physical, after_virtual, from_virtual, after_kind, from_kind, body_length, uncommented}
use Rattle.listing.proofs.Names.{body, parsed}
use lib.Seq.{take-take}
use Rattle.listing.proofs.Runs.{run_fits}

pub address_at : (w : List ℕ) (end : ℕ) (k : Kind) (n m : Result ℕ NumberError) → eqb (length w) 0 ≡ false → n ≡ hex_number w → n ≡ m → address_by end k m ≡ address_in end k w
unfolding address_in
address_at w end k n m h e f = ap (address_by end k) (sym f ∙ e) ∙ sym (pick_no _ _ _ h)

pub body-empty : (l : List ℕ) → length l ≡ 0 → 0 ≡ body_length l
unfolding body_length
body-empty l h = sym (pick_no _ _ _ (ne_eqb (get_or l (length l - 1) 0) 13 (λ e. let d = List·getD-eq-default l 0 {n = length l - 1} (omega arith) in omega arith)) ∙ h)

-- what is read from a word on, by what the word and the part behind it are
module _ (l w r : List ℕ) (we : w ≡ word l) (re : r ≡ rest l) where
  pub access_on : (k : Kind) (v p : ℕ) (a : Option ℕ) → eqb (length w) 0 ≡ false → a ≡ access_named w → after_access k v p a r ≡ from_access k v p l
  unfolding from_access
  access_on k v p a h e =
      ap₂ (after_access k v p) (e ∙ ap access_named we) re ∙ sym (pick_no _ _ _ (ap (λ (s : List ℕ). eqb (length s) 0) (sym we) ∙ h))

  pub physical-on : (k : Kind) (v : ℕ) (a b : Result ℕ AddressError) → a ≡ address_in end k w → a ≡ b → after_physical k v b r ≡ from_physical k v l
  unfolding from_physical
  physical-on k v a b e f = ap₂ (after_physical k v) (sym f ∙ e ∙ ap (address_in end k) we) re

  pub virtual-on : (k : Kind) (a b : Result ℕ AddressError) → a ≡ address_in limit k w → a ≡ b → after_virtual k b r ≡ from_virtual k l
  unfolding from_virtual
  virtual-on k a b e f = ap₂ (after_virtual k) (sym f ∙ e ∙ ap (address_in limit k) we) re

  pub kind_on : (n b : Option Kind) → (run_length Class.Blank l ≡ length l → ⊥) → n ≡ kind_named w → n ≡ b → after_kind b r ≡ from_kind l
  unfolding from_kind
  kind_on n b h e f = ap₂ after_kind (sym f ∙ e ∙ ap kind_named we) re ∙ sym (pick_no _ _ _ (ne_eqb _ _ h))

-- a line's body lies in it, and so does what stands before its comment
pub body_fits : (l : List ℕ) → body_length l ≤ length l
unfolding body_length
body_fits l = pick_by (λ (n : ℕ). n ≤ length l) _ _ _ (λ _. omega arith) (λ _. omega arith)

module _ (l : List ℕ) (n c : ℕ) (e : n ≡ body_length l) (f : c ≡ run_length Class.Plain (take (n - 0) (drop 0 l))) where
  body_part : take (n - 0) (drop 0 l) ≡ body l
  body_part = ap (λ (m : ℕ). take (m - 0) l) e ∙ ap (λ (m : ℕ). take m l) (let z : body_length l - 0 ≡ body_length l = omega arith in z)

  plain_fits : c ≤ n
  plain_fits = omega (arith, f, run_fits Class.Plain (take (n - 0) (drop 0 l)), length-take (n - 0) l, body_fits l)

  pub plain_in : c ≤ length l
  plain_in = omega (arith, plain_fits, body_fits l, e)

  plain_part : take (c - 0) (drop 0 l) ≡ uncommented (body l)
  plain_part =
      ap (λ (m : ℕ). take m l) (let z : c - 0 ≡ c = omega arith in z)
      ∙ sym (take-take c n l plain_fits)
      ∙ ap₂ (λ (m : ℕ) (d : List ℕ). take m d) (f ∙ ap (run_length Class.Plain) body_part) (ap (λ (m : ℕ). take m l) e)

  pub said_short : (r : Result (Option Mapping) Wrong) → n ≤ 200 → r ≡ from_kind (take (c - 0) (drop 0 l)) → r ≡ parsed l
  unfolding parsed
  said_short r h g = g ∙ ap from_kind plain_part ∙ sym (pick_no _ _ _ (le-ltb 200 (body_length l) (omega (arith, e))))
