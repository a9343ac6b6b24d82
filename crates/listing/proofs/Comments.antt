-- Where a line starts, and the words of its comment. Assumes nothing.
use Rattle.listing.specs.Names.{◌≡◌, true, false, List, ℕ, zero, suc, ◌+◌, ◌-◌, ◌≤◌, ◌<◌, ltb, length, get_or, take, drop, pick, Class, Span}
use Rattle.listing.proofs.Names.{part_to_end, sym, ap, ap₂, ◌∙◌, subst, arith, dec_le, lt-ltb, le-ltb, ltb-false, ne_eqb, length-drop}
use Rattle.listing.proofs.Names.{length-take, drop-drop, pick_yes, pick_no, pick_by, or_no, blank, run_length, body_length, body, start_of, solid_to}
use Rattle.listing.proofs.Names.{comment_of, purpose_of, longest_text}
use Rattle.listing.specs.Purposes.{span, line_at, words_from, shifted}
use Rattle.listing.specs.Theorems.{PurposeWithin}
use Rattle.listing.proofs.Runs.{run_fits}

-- with i line feeds passed, the rest starts where it starts behind them
abbrev pub Started : List ℕ → ℕ → ℕ → ℕ → Type 0
Started t k at i = start_of k t ≡ at + start_of (k - i) (drop at t)

pub started-first : (t : List ℕ) (k : ℕ) → Started t k 0 0
started-first t k = let z : start_of k t ≡ 0 + start_of k t = omega arith in z ∙ ap (λ (n : ℕ). 0 + start_of n t) (let y : k ≡ k - 0 = omega arith in y)

module _ (t : List ℕ) (k at i r : ℕ) (h : i < k) (f : at ≤ length t) (e : r ≡ run_length Class.Inline (take (length t - at) (drop at t))) (v : Started t k at i) where
  r_is : run_length Class.Inline (drop at t) ≡ r
  r_is = sym (e ∙ ap (run_length Class.Inline) (part_to_end t at))

  here : start_of k t ≡ at + pick (ltb r (length (drop at t))) (suc r + start_of (k - (i + 1)) (drop (suc r) (drop at t))) (suc (length (drop at t)))
  unfolding start_of
  here =
      v
      ∙ ap (λ (n : ℕ). at + start_of n (drop at t)) (let z : k - i ≡ suc (k - (i + 1)) = omega arith in z)
      ∙ ap (λ (n : ℕ). at + pick (ltb n (length (drop at t))) (suc n + start_of (k - (i + 1)) (drop (suc n) (drop at t))) (suc (length (drop at t)))) r_is

  pub started_none : length t ≤ at + r → length t + 1 ≡ start_of k t
  started_none g =
      let l = length-drop at t in
      sym (here ∙ ap (λ (n : ℕ). at + n) (pick_no _ _ _ (le-ltb r (length (drop at t)) (omega arith))) ∙ (let z : at + suc (length (drop at t)) ≡ length t + 1 = omega arith in z))

  pub started-more : at + r < length t → Started t k (at + r + 1) (i + 1)
  started-more g =
      let l = length-drop at t in
      here
      ∙ ap (λ (n : ℕ). at + n) (pick_yes _ _ _ (lt-ltb r (length (drop at t)) (omega arith)))
      ∙ ap (λ (d : List ℕ). at + (suc r + start_of (k - (i + 1)) d)) (drop-drop (suc r) at t ∙ ap (λ (n : ℕ). drop n t) (let z : at + suc r ≡ at + r + 1 = omega arith in z))
      ∙ (let z : at + (suc r + start_of (k - (i + 1)) (drop (at + r + 1) t)) ≡ at + r + 1 + start_of (k - (i + 1)) (drop (at + r + 1) t) = omega arith in z)

pub started_last : (t : List ℕ) (k at i : ℕ) → k ≤ i → Started t k at i → at ≡ start_of k t
unfolding start_of
started_last t k at i h v = sym (v ∙ ap (λ (n : ℕ). at + start_of n (drop at t)) (let z : k - i ≡ 0 = omega arith in z) ∙ (let z : at + 0 ≡ at = omega arith in z))

-- the last solid byte, from the end
abbrev pub Solid : List ℕ → ℕ → Type 0
Solid l n = (n ≤ length l) × (solid_to l (length l) ≡ solid_to l n)

module _ (l : List ℕ) (n : ℕ) (h : 0 < n) (v : Solid l n) where
  solid_at : solid_to l (length l) ≡ pick (blank (get_or l (n - 1) 0)) (solid_to l (n - 1)) n
  unfolding solid_to
  solid_at =
      v.1
      ∙ ap (solid_to l) (let z : n ≡ suc (n - 1) = omega arith in z)
      ∙ ap (pick (blank (get_or l (n - 1) 0)) (solid_to l (n - 1))) (let z : suc (n - 1) ≡ n = omega arith in z)

  pub solid_stop : blank (get_or l (n - 1) 0) ≡ false → n ≡ solid_to l (length l)
  solid_stop b = sym (solid_at ∙ pick_no _ _ _ b)

  pub solid_more : blank (get_or l (n - 1) 0) ≡ true → Solid l (n - 1)
  solid_more b = (omega (arith, v.0), solid_at ∙ pick_yes _ _ _ b)

pub solid_none : (l : List ℕ) (n : ℕ) → n ≤ 0 → Solid l n → 0 ≡ solid_to l (length l)
unfolding solid_to
solid_none l n h v = sym (v.1 ∙ ap (solid_to l) (let z : n ≡ 0 = omega arith in z))

pub solid_fits : (l : List ℕ) (n : ℕ) → solid_to l n ≤ n
unfolding solid_to
solid_fits l zero = omega arith
solid_fits l (suc n) = pick_by (λ (k : ℕ). k ≤ suc n) _ _ _ (λ _. let r = solid_fits l n in omega arith) (λ _. omega arith)

-- a comment's words, by where the '#' stands
module _ (l : List ℕ) (c r s : ℕ) (e : c ≡ run_length Class.Plain l) (d : c ≡ length l → ⊥) (f : r ≡ run_length Class.Blank (take (length l - (c + 1)) (drop (c + 1) l)))
    (g : s ≡ solid_to l (length l)) where
  from_is : c + 1 + r ≡ words_from l (run_length Class.Plain l)
  from_is =
      ap (λ (n : ℕ). c + 1 + n) (f ∙ ap (run_length Class.Blank) (part_to_end l (c + 1)))
      ∙ ap (λ (n : ℕ). n + run_length Class.Blank (drop n l)) (let z : c + 1 ≡ suc c = omega arith in z ∙ ap suc e)

  pub comment_none : s < c + 1 + r → span 0 0 ≡ comment_of l
  unfolding comment_of
  comment_none h = sym (pick_no _ _ _ (ne_eqb _ _ (λ x. d (e ∙ x))) ∙ pick_yes _ _ _ (lt-ltb _ _ (subst (λ (n : ℕ). solid_to l (length l) < n) from_is (subst (λ (n : ℕ). n < c + 1 + r) g h))))

  pub comment_is : c + 1 + r ≤ s → span (c + 1 + r) s ≡ comment_of l
  unfolding comment_of
  comment_is h =
      ap₂ span from_is g
      ∙ sym (pick_no _ _ _ (ne_eqb _ _ (λ x. d (e ∙ x))) ∙ pick_no _ _ _ (le-ltb _ _ (subst (λ (n : ℕ). n ≤ solid_to l (length l)) from_is (subst (λ (n : ℕ). c + 1 + r ≤ n) g h))))

-- a comment lies in its line
pub comment_fits : (l : List ℕ) → ((comment_of l).from ≤ (comment_of l).to) × ((comment_of l).to ≤ length l)
unfolding comment_of
comment_fits l =
    pick_by (λ (p : Span). (p.from ≤ p.to) × (p.to ≤ length l)) _ _ _ (λ _. (omega arith, omega arith))
    (λ _. pick_by (λ (p : Span). (p.from ≤ p.to) × (p.to ≤ length l)) _ _ _ (λ _. (omega arith, omega arith))
    (λ b. (ltb-false (solid_to l (length l)) (words_from l (run_length Class.Plain l)) b, solid_fits l (length l))))

-- a '#' that is found lies in the line
pub hash_in : (l : List ℕ) (c : ℕ) → c ≡ run_length Class.Plain l → (c ≡ length l → ⊥) → c + 1 ≤ length l
hash_in l c e d = elim (dec_le (c + 1) (length l)) [
  | yes h ↦ h
  | no h ↦ absurd (d (let z : c ≡ length l = omega (arith, e, run_fits Class.Plain l) in z))
]

-- a line's comment as a part of the text
module _ (t : List ℕ) (k s r : ℕ) (e : s ≡ start_of (k - 1) t) (h : s ≤ length t) (f : r ≡ run_length Class.Inline (take (length t - s) (drop s t))) (p : Span)
    (g : p ≡ comment_of (body (take (s + r - s) (drop s t)))) where
  part : List ℕ
  part = take (s + r - s) (drop s t)

  part_is : part ≡ line_at t s
  unfolding part
  part_is = ap (λ (n : ℕ). take n (drop s t)) (let z : s + r - s ≡ r = omega arith in z ∙ f ∙ ap (run_length Class.Inline) (part_to_end t s))

  inside : (n : ℕ) → n ≤ length (body (take (s + r - s) (drop s t))) → n ≤ length t
  inside n q = omega (arith, length-take (body_length (take (s + r - s) (drop s t))) (take (s + r - s) (drop s t)), length-take (s + r - s) (drop s t), length-drop s t)

  bounds : (p.from ≤ p.to) × (p.to ≤ length (body (take (s + r - s) (drop s t))))
  bounds = subst (λ (x : Span). (x.from ≤ x.to) × (x.to ≤ length (body (take (s + r - s) (drop s t))))) (sym g) (comment_fits (body (take (s + r - s) (drop s t))))

  pub purpose_to : p.to ≤ length t
  purpose_to = inside p.to bounds.1

  pub purpose_from : p.from ≤ length t
  purpose_from = omega (arith, bounds.0, purpose_to)

  pub purpose_is : length t ≤ longest_text → (k ≡ 0 → ⊥) → span (s + p.from) (s + p.to) ≡ purpose_of t k
  unfolding purpose_of part
  purpose_is a b =
      ap₂ (λ (n : ℕ) (x : Span). shifted n x) e (g ∙ ap (λ (l : List ℕ). comment_of (body l)) (part_is ∙ ap (line_at t) e))
      ∙ sym (pick_no _ _ _ (or_no _ _ (le-ltb _ _ a) ∙ ne_eqb _ _ b) ∙ pick_no _ _ _ (le-ltb _ _ (subst (λ (n : ℕ). n ≤ length t) e h)))

pub purpose_within : PurposeWithin
unfolding purpose_of
purpose_within t k = pick_by Lies _ _ _ (λ _. (omega arith, omega arith)) (λ _. pick_by Lies _ _ _ (λ _. (omega arith, omega arith)) (λ b. there (start_of (k - 1) t) (ltb-false _ _ b)))
  where
    Lies : Span → Type 0
    Lies p = (p.from ≤ p.to) × (p.to ≤ length t)

    there : (s : ℕ) → s ≤ length t → Lies (shifted s (comment_of (body (line_at t s))))
    there s h =
        let l : List ℕ = line_at t s in
        let c = comment_fits (body l) in
        let a = length-take (body_length l) l in
        let b = length-take (run_length Class.Inline (drop s t)) (drop s t) in
        let d = length-drop s t in
        (omega (arith, c.0), omega (arith, c.1))
