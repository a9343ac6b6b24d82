-- How many words a page takes, by its word's two lowest bits. Assumes nothing.
use Rattle.audit.specs.Names.{◌≡◌, ℕ, ◌+◌, ◌/◌, ◌%◌, ◌^◌, ◌<◌, ◌≤◌, ◌*◌, Table, second_of, repeats, index_limit, Large}
use Rattle.audit.proofs.Names.{refl, sym, ap, ◌∙◌, subst, arith, dec_le, pick_yes, eq-eqb, taken}
use lib.Bits.{bit_or, or_mod, or_shr, or_add_and, and_le_l, and_le_r}
use Rattle.page.specs.declared.Kind.{Kind}
use lib.Dec.{lit≤, lit<}
use lib.Pow.{field}
use Rattle.page.proofs.Picks.{bits_01, bits_10, bits_11}
use Rattle.walk.proofs.Laws.{coarse-none}

module _ (t : Table) (w : ℕ) where
  pub takes_none : w % 4 ≡ 0 → taken t (second_of t w) ≡ 0
  unfolding second_of
  takes_none e = ap (taken t) (pick_yes _ _ _ (eq-eqb _ _ e))

  pub takes_large : w % 4 ≡ 1 → taken t (second_of t w) ≡ repeats t Kind.Large
  unfolding second_of
  takes_large e = ap (taken t) (sym (bits_01 _ _ _ _ w e))

  pub takes_small : w % 4 ≡ 2 → taken t (second_of t w) ≡ repeats t Kind.Small
  unfolding second_of
  takes_small e = ap (taken t) (sym (bits_10 _ _ _ _ w e))

pub coarse_takes_none : (w : ℕ) → (w % 4 ≡ 1 → ⊥) → (w % 4 ≡ 2 → ⊥) → taken Table.Coarse (second_of Table.Coarse w) ≡ 0
coarse_takes_none w x y = ap (taken Table.Coarse) (sym (coarse-none w x y))

pub fine_takes_tiny : (w : ℕ) → (w % 4 ≡ 0 → ⊥) → (w % 4 ≡ 1 → ⊥) → (w % 4 ≡ 2 → ⊥) → taken Table.Fine (second_of Table.Fine w) ≡ 1
unfolding second_of
fine_takes_tiny w x y z = ap (taken Table.Fine) (sym (bits_11 _ _ _ _ w x y z))

-- in a table that is known
pub by_table : (t u : Table) (w r : ℕ) → t ≡ u → taken u (second_of u w) ≡ r → r ≡ taken t (second_of t w)
by_table t u w r e f = sym (ap (λ (x : Table). taken x (second_of x w)) e ∙ f)

-- a word by its two lowest bits
by_bits : (w : ℕ) {P : Type 0} → (w % 4 ≡ 0 → P) → (w % 4 ≡ 1 → P) → (w % 4 ≡ 2 → P) → (w % 4 ≡ 3 → P) → P
by_bits w f g h k = elim (dec_le (w % 4) 1) [
  | yes a ↦
      elim (dec_le (w % 4) 0) [
        | yes b ↦ f (omega arith)
        | no b ↦ g (omega arith)
      ]
  | no a ↦
      elim (dec_le (w % 4) 2) [
        | yes b ↦ h (omega arith)
        | no b ↦ k (omega arith)
      ]
]

-- a coarse table's page takes 16 words or one, a fine table's 64, four or one
pub coarse_sizes : (w : ℕ) (P : ℕ → Type 0) → P 0 → P 1 → P 16 → P (taken Table.Coarse (second_of Table.Coarse w))
coarse_sizes w P f g h =
    by_bits w
    (λ e. subst P (sym (takes_none Table.Coarse w e)) f)
    (λ e. subst P (sym (takes_large Table.Coarse w e)) h)
    (λ e. subst P (sym (takes_small Table.Coarse w e)) g)
    (λ e. subst P (sym (coarse_takes_none w (λ q. omega (arith, q, e)) (λ q. omega (arith, q, e)))) f)

pub fine_sizes : (w : ℕ) (P : ℕ → Type 0) → P 0 → P 1 → P 4 → P 64 → P (taken Table.Fine (second_of Table.Fine w))
fine_sizes w P f g s h =
    by_bits w
    (λ e. subst P (sym (takes_none Table.Fine w e)) f)
    (λ e. subst P (sym (takes_large Table.Fine w e)) h)
    (λ e. subst P (sym (takes_small Table.Fine w e)) s)
    (λ e. subst P (sym (fine_takes_tiny w (λ q. omega (arith, q, e)) (λ q. omega (arith, q, e)) (λ q. omega (arith, q, e)))) g)

-- a fine table's page of more words than a small one is a large one
pub fine_large : (w : ℕ) → 4 < taken Table.Fine (second_of Table.Fine w) → taken Table.Fine (second_of Table.Fine w) ≡ 64
fine_large w = fine_sizes w (λ r. 4 < r → r ≡ 64) (λ h. absurd (omega arith)) (λ h. absurd (omega arith)) (λ h. absurd (omega arith)) (λ h. refl)

-- a table has 16 large pages' groups
pub group_room : (t : Table) (g : ℕ) → g < 16 → g * repeats t Large + repeats t Large ≤ index_limit t
group_room Table.Coarse g h = omega arith
group_room Table.Fine g h = omega arith

pub group_some : (t : Table) → 0 < repeats t Large
group_some Table.Coarse = lit< tt
group_some Table.Fine = lit< tt

pub group_all : (t : Table) → 16 * repeats t Large ≡ index_limit t
group_all Table.Coarse = refl
group_all Table.Fine = refl

pub group_few : (t : Table) → (0 < repeats t Large) × (repeats t Large ≤ 64)
group_few Table.Coarse = (lit≤ tt, lit≤ tt)
group_few Table.Fine = (lit≤ tt, lit≤ tt)

pub limit-few : (t : Table) → index_limit t ≤ 1024
limit-few Table.Coarse = lit≤ tt
limit-few Table.Fine = lit≤ tt

-- the code's sums: where no word of a coarse table has bit 0, bit 1 says a page; where bits 1 and 0 of a fine table's word are equal, both do
pub coarse_single : (w : ℕ) → w % 2 ≡ 0 → taken Table.Coarse (second_of Table.Coarse w) ≡ w / 2 % 2
coarse_single w h =
    by_bits w
    (λ e. takes_none Table.Coarse w e ∙ ap (λ (x : ℕ). x / 2) (sym e) ∙ field w 1 1)
    (λ e. absurd (omega arith))
    (λ e. takes_small Table.Coarse w e ∙ ap (λ (x : ℕ). x / 2) (sym e) ∙ field w 1 1)
    (λ e. absurd (omega arith))

pub fine_single : (w : ℕ) → (w % 4 + 1) / 2 % 2 ≡ 0 → taken Table.Fine (second_of Table.Fine w) ≡ (w % 4 + 1) / 4
fine_single w h =
    by_bits w
    (λ e. takes_none Table.Fine w e ∙ sym (ap quarter e))
    (λ e. odd 1 e refl)
    (λ e. odd 2 e refl)
    (λ e. fine_takes_tiny w (λ q. omega (arith, q, e)) (λ q. omega (arith, q, e)) (λ q. omega (arith, q, e)) ∙ sym (ap quarter e))
  where
    quarter : ℕ → ℕ
    quarter x = (x + 1) / 4

    odd : {P : Type 0} (x : ℕ) → w % 4 ≡ x → (x + 1) / 2 % 2 ≡ 1 → P
    odd x e f = let z : ◌≡◌ {A = ℕ} 0 1 = sym h ∙ ap (λ (y : ℕ). (y + 1) / 2 % 2) e ∙ f in absurd (omega arith)

-- bits that are clear in an or are clear in both
pub or_clear : (k n a b : ℕ) → bit_or a b / 2 ^ k % 2 ^ n ≡ 0 → (a / 2 ^ k % 2 ^ n ≡ 0) × (b / 2 ^ k % 2 ^ n ≡ 0)
or_clear k n a b e =
    let x : ℕ = a / 2 ^ k % 2 ^ n in
    let y : ℕ = b / 2 ^ k % 2 ^ n in
    let z : bit_or x y ≡ 0 = sym (or_mod (a / 2 ^ k) (b / 2 ^ k) n) ∙ ap (λ (v : ℕ). v % 2 ^ n) (sym (or_shr a b k)) ∙ e in
    let s = or_add_and x y in
    let p = and_le_l x y in
    let q = and_le_r x y in
    (omega arith, omega arith)
