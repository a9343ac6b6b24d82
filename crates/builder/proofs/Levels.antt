-- The first level of the tables, placed one megabyte after the other. Assumes nothing.
use Rattle.std.proofs.Common.{Option, Some}
use Rattle.walk.specs.declared.Table.{Table}
use Rattle.std.proofs.Common.{None}
use Rattle.builder.specs.Names.{◌≡◌, Bool, List, ℕ, ◌+◌, ◌*◌, ◌-◌, ◌/◌, ◌%◌, ◌^◌, ◌≤◌, ◌<◌, length, get_or, megabytes, Mapping}
use Rattle.builder.specs.Names.{table_of, table_size, table_end, table_start, image_length, table_by, Kinds, first_by, word_in, words_in}
use Rattle.builder.proofs.Names.{refl, sym, ap, ap₂, ◌∙◌, subst, arith, ℕ_discrete, eq-eqb, ne_eqb, upper, low_bits, Kind, pick_yes, pick_no}
use Rattle.builder.proofs.Names.{start_after, start-le, start_4, size_le, end_4, based, Level}
use lib.ListN.{set}
use lib.Seq.{get_or-set_same, get_or-set_other}
use Rattle.tables.proofs.Notes.{by_kinds}
use Rattle.tables.proofs.Places.{start-ge, size_4, turn_start, turn_end}
use Rattle.builder.proofs.Runs.{own_words}
use Rattle.builder.specs.Places.{TableInside, Placed}

-- the tables of the megabytes below i are placed, and the last one ends at e
pub record Begun (seen : List Bool) (i e : ℕ) (firsts : List ℕ) : Type 0 where
  pub low : 4 * megabytes ≤ e
  pub high : e ≤ 4 * megabytes + 8192 * i
  pub even : e % 4 ≡ 0
  pub tables : (x : ℕ) → x < i → TableInside e (get_or firsts x 0)
  pub ends : (ms : List Mapping) → Kinds ms seen → e ≡ table_end megabytes ms i
  pub begins : (ms : List Mapping) → Kinds ms seen → (x : ℕ) → x < i → get_or firsts x 0 ≡ first_by (table_of ms x) (table_start megabytes ms x) None

pub begun-none : (seen : List Bool) (firsts : List ℕ) → Begun seen 0 64 firsts
unfolding table_end
begun-none seen firsts = record {
  low = omega arith;
  high = omega arith;
  even = refl;
  tables = λ x h. absurd (omega arith);
  ends = λ ms k. refl;
  begins = λ ms k x h. absurd (omega arith);
}

-- a table's word names a place from its beginning to its end
inside_own : (t : Option Table) (s : ℕ) → s % 4 ≡ 0 → TableInside (s + table_size t) (first_by t s None)
inside_own (Some Table.Fine) s h = record { fine = λ _. omega arith; coarse = λ e. absurd (omega arith) }
inside_own (Some Table.Coarse) s h = record { fine = λ e. absurd (omega arith); coarse = λ _. omega arith }
inside_own None s h = record { fine = λ e. absurd (omega arith); coarse = λ e. absurd (omega arith) }

inside-more : (e f w : ℕ) → e ≤ f → TableInside e w → TableInside f w
inside-more e f w h i = record { fine = λ q. omega (arith, i.fine q); coarse = λ q. omega (arith, i.coarse q) }

pub level-more : (e f : ℕ) (firsts : List ℕ) → e ≤ f → Level e firsts → Level f firsts
level-more e f firsts h l =
    record { words = l.words; room = omega (arith, l.room); tables = λ i k. inside-more e f _ h (l.tables i k) }

-- one word more
set_more : (P : ℕ → ℕ → Type 0) (l : List ℕ) (i w : ℕ) → i < length l → P i w → ((x : ℕ) → x < i → P x (get_or l x 0)) → (x : ℕ) → x < i + 1 → P x (get_or (set l i w) x 0)
set_more P l i w lt p f x h = elim (ℕ_discrete x i) [
  | yes g ↦
      subst (λ (y : ℕ). P y (get_or (set l i w) y 0)) (sym g) (subst (P i) (sym (get_or-set_same l i w 0 lt)) p)
  | no g ↦ subst (P x) (sym (get_or-set_other l i x w 0 g)) (f x (omega arith))
]

module _ (seen : List Bool) (i e : ℕ) (firsts : List ℕ) (b : Begun seen i e firsts) (lt : i < megabytes) (room : length firsts ≡ megabytes) where
  module _ (t : Option Table) (s w z : ℕ) (p : t ≡ table_by seen i) (q : s ≡ start_after t e) (v : w ≡ first_by t s None) (r : z ≡ table_size t) where
    pub begun_more : Begun seen (i + 1) (s + z) (set firsts i w)
    begun_more =
        let even : s % 4 ≡ 0 = ap (λ (x : ℕ). x % 4) q ∙ start_4 t e b.even in
        let ge = start-ge t e in
        let le = start-le t e in
        let own : TableInside (s + z) w =
        subst (TableInside (s + z)) (sym v) (subst (λ (x : ℕ). TableInside (s + x) (first_by t s None)) (sym r) (inside_own t s even)) in
        record {
          low = omega (arith, b.low);
          high = omega (arith, b.high, size_le t);
          even = omega (arith, size_4 t);
          tables = set_more (λ (x y : ℕ). TableInside (s + z) y) firsts i w (omega arith) own (λ x h. inside-more e (s + z) _ (omega arith) (b.tables x h));
          ends = λ ms k. turn_end megabytes ms i s z t (table ms k) (start ms k) r;
          begins = λ ms k.
              set_more (λ (x y : ℕ). y ≡ first_by (table_of ms x) (table_start megabytes ms x) None) firsts i w (omega arith)
              (v ∙ ap₂ (λ (u : Option Table) (x : ℕ). first_by u x None) (table ms k) (start ms k)) (b.begins ms k);
        }
      where
        table : (ms : List Mapping) → Kinds ms seen → t ≡ table_of ms i
        table ms k = p ∙ by_kinds ms seen i lt k

        start : (ms : List Mapping) → Kinds ms seen → s ≡ table_start megabytes ms i
        start ms k = turn_start megabytes ms i e s t (table ms k) (b.ends ms k) q

  pub begun_skip : None ≡ table_by seen i → Begun seen (i + 1) e (set firsts i 0)
  begun_skip p =
      subst (λ (x : ℕ). Begun seen (i + 1) x (set firsts i 0)) (let a : e + 0 ≡ e = omega arith in a)
      (begun_more None e 0 0 p refl refl refl)

pub placed : (seen : List Bool) (i e : ℕ) (firsts : List ℕ) → i ≡ megabytes → length firsts ≡ megabytes → Begun seen i e firsts → Placed seen e firsts
unfolding image_length
placed seen i e firsts q room b = record {
  level = record { words = room; room = b.low; tables = λ x h. b.tables x (omega arith) };
  ends = λ ms k. b.ends ms k ∙ ap (table_end megabytes ms) q;
  begins = λ ms k x h. b.begins ms k x (omega arith);
}

-- what a word's two low bits say of a list's table
module _ (t : Option Table) (s w : ℕ) (even : s % 4 ≡ 0) (e : w ≡ first_by t s None) where
  pub names_fine : w % 4 ≡ 3 → (Some Table.Fine ≡ t) × (w - 3 ≡ s)
  names_fine h = by t e
    where
      by : (u : Option Table) → w ≡ first_by u s None → (Some Table.Fine ≡ u) × (w - 3 ≡ s)
      by (Some Table.Fine) q = (refl, omega arith)
      by (Some Table.Coarse) q = absurd (omega arith)
      by None q = absurd (omega arith)

  pub names_coarse : w % 4 ≡ 1 → (Some Table.Coarse ≡ t) × (w - 1 ≡ s)
  names_coarse h = by t e
    where
      by : (u : Option Table) → w ≡ first_by u s None → (Some Table.Coarse ≡ u) × (w - 1 ≡ s)
      by (Some Table.Fine) q = absurd (omega arith)
      by (Some Table.Coarse) q = (refl, omega arith)
      by None q = absurd (omega arith)

  pub names_none : (w % 4 ≡ 3 → ⊥) → (w % 4 ≡ 1 → ⊥) → None ≡ t
  names_none f g = by t e
    where
      by : (u : Option Table) → w ≡ first_by u s None → None ≡ u
      by (Some Table.Fine) q = absurd (f (omega arith))
      by (Some Table.Coarse) q = absurd (g (omega arith))
      by None q = refl

pub start_even : (ms : List Mapping) (i : ℕ) → table_start megabytes ms i % 4 ≡ 0
unfolding table_start
start_even ms i = start_4 (table_of ms i) (table_end megabytes ms i) (end_4 megabytes ms i)

-- a word for a base
pub based_by : (base s : ℕ) (t : Option Table) → based base (first_by t s None) ≡ first_by t (base + s) None
unfolding based
based_by base s (Some Table.Fine) = pick_no _ _ _ (ne_eqb (s + 3) 0 (λ e. omega arith)) ∙ (let z : base + (s + 3) ≡ base + s + 3 = omega arith in z)
based_by base s (Some Table.Coarse) = pick_no _ _ _ (ne_eqb (s + 1) 0 (λ e. omega arith)) ∙ (let z : base + (s + 1) ≡ base + s + 1 = omega arith in z)
based_by base s None = pick_yes _ _ _ (eq-eqb 0 0 refl)

-- the words of a mapping lie in its megabyte's table, whatever its kind
words-fine : (k : Kind) (x : ℕ) → 4 * (upper (low_bits k) (x % 2 ^ 20) / 2 ^ 10 + 2 ^ low_bits k / 2 ^ 10) ≤ 4096
unfolding upper
words-fine Kind.Section x = omega arith
words-fine Kind.Large x = omega arith
words-fine Kind.Small x = omega arith
words-fine Kind.Tiny x = omega arith

words-coarse : (k : Kind) (x : ℕ) → 4 * (upper (low_bits k) (x % 2 ^ 20) / 2 ^ 12 + 2 ^ low_bits k / 2 ^ 12) ≤ 1024
unfolding upper
words-coarse Kind.Section x = omega arith
words-coarse Kind.Large x = omega arith
words-coarse Kind.Small x = omega arith
words-coarse Kind.Tiny x = omega arith

module _ (n : ℕ) (firsts : List ℕ) (l : Level n firsts) (m : Mapping) (lt : m.at.0 / 2 ^ 20 < megabytes) (f : ℕ) (e : f ≡ get_or firsts (m.at.0 / 2 ^ 20) 0) where
  inside : TableInside n f
  inside = subst (TableInside n) (sym e) (l.tables (m.at.0 / 2 ^ 20) lt)

  pub fine-room : f % 4 ≡ 3 → f - 3 + 4 * (word_in (Some Table.Fine) m + words_in (Some Table.Fine) (m.at.0 / 2 ^ 20) m) ≤ n
  fine-room h =
      let w = own_words (Some Table.Fine) m in
      omega (arith, inside.fine h, words-fine m.kind m.at.0)

  pub coarse-room : f % 4 ≡ 1 → f - 1 + 4 * (word_in (Some Table.Coarse) m + words_in (Some Table.Coarse) (m.at.0 / 2 ^ 20) m) ≤ n
  coarse-room h =
      let w = own_words (Some Table.Coarse) m in
      omega (arith, inside.coarse h, words-coarse m.kind m.at.0)

-- one word more of a list, that are those of f
pub words_more : (f : ℕ → ℕ) (ws : List ℕ) (k v : ℕ) → k < length ws → v ≡ f k → ((x : ℕ) → x < k → get_or ws x 0 ≡ f x) → (x : ℕ) → x < k + 1 → get_or (set ws k v) x 0 ≡ f x
words_more f ws k v h e known x lt = elim (ℕ_discrete x k) [
  | yes g ↦ ap (λ (i : ℕ). get_or (set ws k v) i 0) g ∙ get_or-set_same ws k v 0 h ∙ e ∙ ap f (sym g)
  | no g ↦ get_or-set_other ws k x v 0 g ∙ known x (omega arith)
]
