-- The kinds of page of each megabyte, noted one mapping after the other. Assumes nothing.
use Rattle.records.specs.Names.{◌≡◌, Bool, true, false, List, [], ℕ, zero, suc, ◌+◌, ◌*◌, ◌/◌, ◌^◌, ◌<◌, length, get_or, set, replicate, ◌or◌}
use Rattle.records.specs.Names.{type_of, Kind, Mapping}
use Rattle.records.proofs.Names.{refl, sym, ap, ◌∙◌, arith, ℕ_discrete, eq-eqb, ne_eqb, get_or-set_same, get_or-set_other, and_yes, and_no, or_yes}
use Rattle.records.proofs.Names.{or_no, is_in, has_kind, Blank, note_at, Kinds}

pub type_lt : (k : Kind) → type_of k < 4
type_lt Kind.Section = omega arith
type_lt Kind.Large = omega arith
type_lt Kind.Small = omega arith
type_lt Kind.Tiny = omega arith

-- an array of one value has it everywhere
pub same_at : {A : Type 0} (n k : ℕ) (d : A) → get_or (replicate n d) k d ≡ d
same_at zero k d = refl
same_at (suc n) zero d = refl
same_at (suc n) (suc k) d = same_at n k d

-- nothing noted is the notes of no mappings
pub noted_none : (seen : List Bool) → Blank seen → Kinds [] seen
unfolding has_kind
noted_none seen e k i l = ap (λ (s : List Bool). get_or s (16 * type_of k + i) false) e ∙ same_at 64 (16 * type_of k + i) false

-- one mapping more is noted, wherever it stands in the list
pub noted_more : (m : Mapping) (ms ns : List Mapping) (seen : List Bool) → m.at.0 < 16777216 → length seen ≡ 64
    → ((i : ℕ) (k : Kind) → has_kind ns i k ≡ (is_in i k m or has_kind ms i k)) → Kinds ms seen → Kinds ns (set seen (note_at m) true)
noted_more m ms ns seen lt room more f k i l = elim (ℕ_discrete (16 * type_of k + i) (note_at m)) [
  | yes g ↦
      let a : m.at.0 / 2 ^ 20 ≡ i = omega arith in
      let b : type_of m.kind ≡ type_of k = omega arith in
      ap (λ (y : ℕ). get_or (set seen (note_at m) true) y false) g
      ∙ get_or-set_same seen (note_at m) true false (omega (arith, type_lt k))
      ∙ sym (more i k ∙ or_yes _ _ (and_yes _ _ (eq-eqb _ _ a) ∙ eq-eqb _ _ b))
  | no g ↦
      get_or-set_other seen (note_at m) (16 * type_of k + i) true false g
      ∙ f k i l
      ∙ sym (more i k ∙ or_no _ _ (elim (ℕ_discrete (m.at.0 / 2 ^ 20) i) [
        | yes a ↦ and_yes _ _ (eq-eqb _ _ a) ∙ ne_eqb (type_of m.kind) (type_of k) (λ b. g (omega arith))
        | no a ↦ and_no _ _ (ne_eqb _ _ a)
      ]))
]
