-- A text read line by line. Assumes nothing.
use Rattle.std.proofs.Common.{Option, Some, None}
use Rattle.listing.specs.declared.ReadError.{ReadError}
use Rattle.std.proofs.Common.{Result, Ok, Err}
use Rattle.listing.specs.Names.{◌≡◌, Bool, true, false, not, List, [], ◌∷◌, ℕ, suc, ◌+◌, ◌*◌, ◌-◌, ◌≤◌, ◌<◌, eqb, ltb, leb, length, take, drop}
use Rattle.listing.specs.Names.{set, pick, Mapping, most, Class, Wrong}
use Rattle.listing.proofs.Names.{part_to_end, refl, sym, ap, ap₂, ◌∙◌, arith, add-one, dec_le, lt-ltb, le-ltb, le-leb, lt-leb, leb-true}
use Rattle.listing.proofs.Names.{leb-false, length-drop, length-set, drop-drop, pick_yes, pick_no, belongs, run_length, parsed, lines_of, record_of}
use Rattle.listing.proofs.Names.{pasted, reading, by_said, read_lines}
use Rattle.listing.specs.Texts.{onto}
use Rattle.listing.proofs.Runs.{run_fits}

-- the lines that follow n bytes of a text and a line feed, none where the text ends before it
unfoldable pub behind : ℕ → List ℕ → List (List ℕ)
behind n l = pick (ltb n (length l)) (lines_of (drop (suc n) l)) []

ltb_suc : (a b : ℕ) → ltb (suc a) (suc b) ≡ ltb a b
ltb_suc a b = elim (dec_le b a) [
  | yes h ↦ le-ltb (suc a) (suc b) (omega arith) ∙ sym (le-ltb a b h)
  | no h ↦ lt-ltb (suc a) (suc b) (omega arith) ∙ sym (lt-ltb a b (omega arith))
]

-- the first line of a text, and the others
pub lines-first : (l : List ℕ) → lines_of l ≡ take (run_length Class.Inline l) l ∷ behind (run_length Class.Inline l) l
unfolding lines_of run_length behind belongs
lines-first [] = ap (λ (t : List (List ℕ)). [] ∷ t) (sym (pick_no _ _ _ (le-ltb 0 0 (omega arith))))
lines-first (x ∷ l) = split (lines-first l) (eqb x 10) refl
  where
    split : lines_of l ≡ take (run_length Class.Inline l) l ∷ behind (run_length Class.Inline l) l → (b : Bool) → eqb x 10 ≡ b
        → lines_of (x ∷ l) ≡ take (run_length Class.Inline (x ∷ l)) (x ∷ l) ∷ behind (run_length Class.Inline (x ∷ l)) (x ∷ l)
    split r true e =
        pick_yes _ _ _ e
        ∙ ap (λ (t : List (List ℕ)). [] ∷ t) (sym (pick_yes _ _ _ (lt-ltb 0 (suc (length l)) (omega arith))))
        ∙ ap (λ (n : ℕ). take n (x ∷ l) ∷ pick (ltb n (suc (length l))) (lines_of (drop (suc n) (x ∷ l))) []) (sym (pick_no _ _ _ (ap not e)))
    split r false e =
        pick_no _ _ _ e
        ∙ ap (onto x) r
        ∙ ap (λ (b : Bool). (x ∷ take (run_length Class.Inline l) l) ∷ pick b (lines_of (drop (suc (run_length Class.Inline l)) l)) []) (sym (ltb_suc (run_length Class.Inline l) (length l)))
        ∙ ap (λ (n : ℕ). take n (x ∷ l) ∷ pick (ltb n (suc (length l))) (lines_of (drop (suc n) (x ∷ l))) []) (sym (pick_yes _ _ _ (ap not e)))

-- the lines from byte at on, none past the text's end
unfoldable pub lines_from : List ℕ → ℕ → List (List ℕ)
lines_from t at = pick (leb at (length t)) (lines_of (drop at t)) []

module _ (t : List ℕ) (at r : ℕ) (h : at ≤ length t) (e : r ≡ run_length Class.Inline (take (length t - at) (drop at t))) where
  r_is : r ≡ run_length Class.Inline (drop at t)
  r_is = e ∙ ap (run_length Class.Inline) (part_to_end t at)

  pub line_fits : at + r ≤ length t
  line_fits = omega (arith, r_is, run_fits Class.Inline (drop at t), length-drop at t)

  behind-is : (b : Bool) → leb (at + r + 1) (length t) ≡ b → behind r (drop at t) ≡ lines_from t (at + r + 1)
  unfolding behind lines_from
  behind-is true b =
      pick_yes _ _ _ (lt-ltb r (length (drop at t)) (omega (arith, length-drop at t, leb-true (at + r + 1) (length t) b)))
      ∙ ap lines_of (drop-drop (suc r) at t ∙ ap (λ (n : ℕ). drop n t) (let z : at + suc r ≡ at + r + 1 = omega arith in z))
      ∙ sym (pick_yes _ _ _ b)
  behind-is false b =
      pick_no _ _ _ (le-ltb r (length (drop at t)) (omega (arith, length-drop at t, leb-false (at + r + 1) (length t) b))) ∙ sym (pick_no _ _ _ b)

  line_here : lines_from t at ≡ take (at + r - at) (drop at t) ∷ lines_from t (at + r + 1)
  unfolding lines_from
  line_here =
      pick_yes _ _ _ (le-leb at (length t) h)
      ∙ lines-first (drop at t)
      ∙ ap (λ (n : ℕ). take n (drop at t) ∷ behind n (drop at t)) (sym r_is)
      ∙ ap₂ (λ (n : ℕ) (m : List (List ℕ)). take n (drop at t) ∷ m) (let z : r ≡ at + r - at = omega arith in z) (behind-is (leb (at + r + 1) (length t)) refl)

-- the loop over the lines: where it is, and that what is left gives the answer
pub record Turn (t rs₀ ls₀ rs ls : List ℕ) (at i n : ℕ) : Type 0 where
  pub place : at ≤ length t + 1
  pub counted : i ≤ at
  pub few : n ≤ most
  pub records : length rs ≡ length rs₀
  pub lines : length ls ≡ length ls₀
  pub left : read_lines 1 0 (lines_of t) rs₀ ls₀ ≡ read_lines (i + 1) n (lines_from t at) rs ls

pub turn_first : (t rs ls : List ℕ) → Turn t rs ls rs ls 0 0 0
unfolding lines_from
turn_first t rs ls = record {
  place = omega arith;
  counted = omega arith;
  few = omega arith;
  records = refl;
  lines = refl;
  left = ap (λ (m : List (List ℕ)). read_lines 1 0 m rs ls) (sym (pick_yes _ _ _ (le-leb 0 (length t) (omega arith))));
}

pub turn_last : (t rs₀ ls₀ rs ls : List ℕ) (at i n : ℕ) → Turn t rs₀ ls₀ rs ls at i n → length t < at → reading (Ok n) rs ls ≡ read_lines 1 0 (lines_of t) rs₀ ls₀
unfolding lines_from read_lines
turn_last t rs₀ ls₀ rs ls at i n v h = sym (v.left ∙ ap (λ (m : List (List ℕ)). read_lines (i + 1) n m rs ls) (pick_no _ _ _ (lt-leb at (length t) h)))

module _ (t rs₀ ls₀ rs ls : List ℕ) (at i n : ℕ) (v : Turn t rs₀ ls₀ rs ls at i n) (h : at ≤ length t)
    (r : ℕ) (e : r ≡ run_length Class.Inline (take (length t - at) (drop at t))) (s : Result (Option Mapping) Wrong) (f : s ≡ parsed (take (at + r - at) (drop at t))) where
  here : (w : Result (Option Mapping) Wrong) → s ≡ w → read_lines 1 0 (lines_of t) rs₀ ls₀ ≡ by_said w
      (read_lines (i + 1 + 1) n (lines_from t (at + r + 1)) rs ls)
      (λ m. pick (leb most n) (reading (Err (ReadError.Bad (i + 1) Wrong.TooManyMappings)) rs ls) (read_lines (i + 1 + 1) (n + 1) (lines_from t (at + r + 1)) (pasted rs (12 * n) (record_of m)) (set ls n (i + 1))))
      (λ w. reading (Err (ReadError.Bad (i + 1) w)) rs ls)
  unfolding read_lines
  here w g =
      v.left
      ∙ ap (λ (m : List (List ℕ)). read_lines (i + 1) n m rs ls) (line_here t at r h e)
      ∙ ap (λ (x : Result (Option Mapping) Wrong). by_said x
      (read_lines (suc (i + 1)) n (lines_from t (at + r + 1)) rs ls)
      (λ m. pick (leb most n) (reading (Err (ReadError.Bad (i + 1) Wrong.TooManyMappings)) rs ls) (read_lines (suc (i + 1)) (suc n) (lines_from t (at + r + 1)) (pasted rs (12 * n) (record_of m)) (set ls n (i + 1))))
      (λ w. reading (Err (ReadError.Bad (i + 1) w)) rs ls)) (sym f ∙ g)
      ∙ ap₂ (λ (a b : ℕ). by_said w
      (read_lines a n (lines_from t (at + r + 1)) rs ls)
      (λ m. pick (leb most n) (reading (Err (ReadError.Bad (i + 1) Wrong.TooManyMappings)) rs ls) (read_lines a b (lines_from t (at + r + 1)) (pasted rs (12 * n) (record_of m)) (set ls n (i + 1))))
      (λ w. reading (Err (ReadError.Bad (i + 1) w)) rs ls)) (sym (add-one (i + 1))) (sym (add-one n))

  pub turn_nothing : s ≡ Ok None → Turn t rs₀ ls₀ rs ls (at + r + 1) (i + 1) n
  turn_nothing g = record
      { place = omega (arith, line_fits t at r h e); counted = omega (arith, v.counted); few = v.few; records = v.records; lines = v.lines; left = here (Ok None) g }

  pub turn_mapped : (m : Mapping) (b rs' : List ℕ) → s ≡ Ok (Some m) → n < most → b ≡ record_of m → length rs' ≡ length rs → rs' ≡ pasted rs (12 * n) b
      → Turn t rs₀ ls₀ rs' (set ls n (i + 1)) (at + r + 1) (i + 1) (n + 1)
  turn_mapped m b rs' g few be k p = record {
    place = omega (arith, line_fits t at r h e);
    counted = omega (arith, v.counted);
    few = omega arith;
    records = k ∙ v.records;
    lines = length-set ls n (i + 1) ∙ v.lines;
    left =
        here (Ok (Some m)) g
        ∙ pick_no _ _ _ (lt-leb most n few)
        ∙ ap (λ (x : List ℕ). read_lines (i + 1 + 1) (n + 1) (lines_from t (at + r + 1)) x (set ls n (i + 1))) (sym (p ∙ ap (pasted rs (12 * n)) be));
  }

  pub turn_many : (m : Mapping) → s ≡ Ok (Some m) → most ≤ n → reading (Err (ReadError.Bad (i + 1) Wrong.TooManyMappings)) rs ls ≡ read_lines 1 0 (lines_of t) rs₀ ls₀
  turn_many m g k = sym (here (Ok (Some m)) g ∙ pick_yes _ _ _ (le-leb most n k))

  pub turn_bad : (w : Wrong) → s ≡ Err w → reading (Err (ReadError.Bad (i + 1) w)) rs ls ≡ read_lines 1 0 (lines_of t) rs₀ ls₀
  turn_bad w g = sym (here (Err w) g)
