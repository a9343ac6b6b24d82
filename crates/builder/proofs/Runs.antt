-- How many words of its own megabyte's table a mapping has. Assumes nothing.
use Rattle.walk.specs.declared.Table.{Table}
use Rattle.std.proofs.Common.{Option, Some}
use Rattle.builder.specs.Names.{◌≡◌, ℕ, ◌/◌, ◌^◌, Mapping, words_in}
use Rattle.builder.proofs.Names.{refl, sym, ap, ◌∙◌, eq-eqb, low_bits, Kind, pick_yes, step_bits}

pub own_words : (t : Option Table) (m : Mapping) → words_in t (m.at.0 / 2 ^ 20) m ≡ 2 ^ low_bits m.kind / 2 ^ step_bits t
unfolding words_in
own_words t m = pick_yes _ _ _ (eq-eqb (m.at.0 / 2 ^ 20) (m.at.0 / 2 ^ 20) refl)

-- as the code has them, by the kind that it has found
pub own_count : (t : Option Table) (m : Mapping) (k : Kind) → m.kind ≡ k → words_in t (m.at.0 / 2 ^ 20) m ≡ 2 ^ low_bits k / 2 ^ step_bits t
own_count t m k kind = own_words t m ∙ ap (λ (x : Kind). 2 ^ low_bits x / 2 ^ step_bits t) kind

-- and by the table
pub counted : (t u : Table) (m : Mapping) (k : Kind) (n : ℕ) → t ≡ u → m.kind ≡ k → n ≡ 2 ^ low_bits k / 2 ^ step_bits (Some u)
    → n ≡ words_in (Some t) (m.at.0 / 2 ^ 20) m
counted t u m k n table kind e =
    e ∙ sym (own_count (Some u) m k kind) ∙ ap (λ (x : Table). words_in (Some x) (m.at.0 / 2 ^ 20) m) (sym table)
