-- Which mapping holds an address: one law over the number of low bits. Assumes nothing.
use Rattle.std.proofs.Common.{Option, Some, None}
use Rattle.records.specs.Names.{◌≡◌, Bool, true, false, List, [], ◌∷◌, ◌++◌, ℕ, ◌/◌, ◌^◌, ◌≤◌, eqb, pick, ◌or◌, low_bits, VirtualAddress}
use Rattle.records.specs.Names.{Mapping}
use Rattle.records.proofs.Names.{refl, sym, ap, ap₂, ◌∙◌, subst, true≢false, ◌⊎◌, inl, inr, arith, dec_le, eqb-true, eq-eqb, pick_yes, pick_no}
use Rattle.records.proofs.Names.{or_yes, or_no, low_bits-le, holds, overlap, holder}
use borrow.Author.Tests.{eqb-false}
use Rattle.page.proofs.Picks.{pick_by}
use Rattle.records.proofs.Alls.{All}
use Rattle.page.proofs.Lower.{agree_up}
use Rattle.records.proofs.Accepted.{Disjoint}

-- of the mapping that holds an address, if one does
abbrev pub OnHeld : (Mapping → Type 0) → Option Mapping → Type 0
OnHeld P (Some m) = P m
OnHeld P None = Unit

-- what is true of every mapping is true of the one that holds an address, and it holds it
pub all-holder : (P : Mapping → Type 0) (ms : List Mapping) (va : VirtualAddress) → All P ms → OnHeld (λ m. P m × (holds m va ≡ true)) (holder ms va)
unfolding holder
all-holder P [] va f = tt
all-holder P (m ∷ ms) va f =
    pick_by (OnHeld (λ m. P m × (holds m va ≡ true))) (holds m va) (Some m) (holder ms va) (λ e. (f.0, e)) (λ _. all-holder P ms va f.1)

-- what holds an address lies in its megabyte
pub holds-megabyte : (m : Mapping) (va : VirtualAddress) → holds m va ≡ true → va.0 / 2 ^ 20 ≡ m.at.0 / 2 ^ 20
unfolding holds
holds-megabyte m va e = agree_up (low_bits m.kind) 20 va.0 m.at.0 (low_bits-le m.kind) (eqb-true _ _ e)

not-held : (b : Bool) → (b ≡ true → ⊥) → b ≡ false
not-held true f = absurd (f refl)
not-held false f = refl

-- two addresses that agree above s bits lie in the same mappings, where each mapping of their megabyte leaves s bits at
-- least
module _ (s : ℕ) (a va : VirtualAddress) (s20 : s ≤ 20) (same : a.0 / 2 ^ s ≡ va.0 / 2 ^ s) where
  holds_agree : (m : Mapping) → (m.at.0 / 2 ^ 20 ≡ va.0 / 2 ^ 20 → s ≤ low_bits m.kind) → holds m a ≡ holds m va
  unfolding holds
  holds_agree m f = by_place (eqb (m.at.0 / 2 ^ 20) (va.0 / 2 ^ 20)) refl
    where
      far : (x : VirtualAddress) → x.0 / 2 ^ 20 ≡ va.0 / 2 ^ 20 → eqb (m.at.0 / 2 ^ 20) (va.0 / 2 ^ 20) ≡ false → holds m x ≡ false
      far x v e = not-held (holds m x) (λ t. eqb-false _ _ e (sym (holds-megabyte m x t) ∙ v))

      by_place : (b : Bool) → eqb (m.at.0 / 2 ^ 20) (va.0 / 2 ^ 20) ≡ b → holds m a ≡ holds m va
      by_place true e =
          ap (λ (z : ℕ). eqb z (m.at.0 / 2 ^ low_bits m.kind)) (agree_up s (low_bits m.kind) a.0 va.0 (f (eqb-true _ _ e)) same)
      by_place false e = far a (agree_up s 20 a.0 va.0 s20 same) e ∙ sym (far va refl e)

  pub holder-agree : (ms : List Mapping) → All (λ m. m.at.0 / 2 ^ 20 ≡ va.0 / 2 ^ 20 → s ≤ low_bits m.kind) ms → holder ms a ≡ holder ms va
  unfolding holder
  holder-agree [] f = refl
  holder-agree (m ∷ ms) f = ap₂ (λ (b : Bool) (h : Option Mapping). pick b (Some m) h) (holds_agree m f.0) (holder-agree ms f.1)

-- two mappings overlap exactly where they hold one address
abbrev pub Both : Mapping → Mapping → VirtualAddress → Type 0
Both x m va = (holds x va ≡ true) × (holds m va ≡ true)

pub own : (m : Mapping) → holds m m.at ≡ true
unfolding holds
own m = eq-eqb (m.at.0 / 2 ^ low_bits m.kind) (m.at.0 / 2 ^ low_bits m.kind) refl

pub overlap_shared : (x m : Mapping) → overlap x m ≡ true → Both x m m.at ⊎ Both x m x.at
unfolding overlap
overlap_shared x m e = by_first_lem (holds x m.at) refl
  where
    by_first_lem : (b : Bool) → holds x m.at ≡ b → Both x m m.at ⊎ Both x m x.at
    by_first_lem true t = inl (t, own m)
    by_first_lem false t = inr (own x, sym (or_no (holds x m.at) (holds m x.at) t) ∙ e)

pub both_hold : (x m : Mapping) (va : VirtualAddress) → holds x va ≡ true → holds m va ≡ true → overlap x m ≡ true
unfolding overlap holds
both_hold x m va hx hm = elim (dec_le (low_bits x.kind) (low_bits m.kind)) [
  | yes g ↦
      either (holds x m.at) _
      (eq-eqb _ _ (sym (agree_up (low_bits x.kind) (low_bits m.kind) va.0 x.at.0 g (eqb-true _ _ hx)) ∙ eqb-true _ _ hm))
  | no g ↦
      or_yes _ _
      (eq-eqb _ _ (sym (agree_up (low_bits m.kind) (low_bits x.kind) va.0 m.at.0 (omega arith) (eqb-true _ _ hm)) ∙ eqb-true _ _ hx))
]
  where
    either : (a b : Bool) → b ≡ true → (a or b) ≡ true
    either true b e = or_yes true b refl
    either false b e = or_no false b refl ∙ e

-- in a list without overlaps, what holds one address of a mapping's region holds them all
pub holder_same : (ms : List Mapping) (a va : VirtualAddress) (m : Mapping) → Disjoint ms → holder ms a ≡ Some m → holds m va ≡ true → holder ms va ≡ Some m
unfolding holder
holder_same [] a va m d e h = let z : ◌≡◌ {A = ℕ} 0 1 = cc in absurd (omega arith)
holder_same (x ∷ ms) a va m d e h = by_first_lem (λ f. holder_same ms a va m d.1 f h) (holds x a) refl
  where
    here : holds x a ≡ true → holder (x ∷ ms) va ≡ Some m
    here t =
        let f : Some x ≡ Some m = sym (pick_yes (holds x a) (Some x) (holder ms a) t) ∙ e in
        let xm : x ≡ m = cc in
        pick_yes _ _ _ (ap (λ (y : Mapping). holds y va) xm ∙ h) ∙ f

    later : (holder ms a ≡ Some m → holder ms va ≡ Some m) → holder ms a ≡ Some m → (b : Bool) → holds x va ≡ b → holder (x ∷ ms) va ≡ Some m
    later r f true t =
        absurd
        (true≢false
        (sym (both_hold x m va t h)
        ∙ (subst (OnHeld (λ y. (overlap x y ≡ false) × (holds y a ≡ true))) f (all-holder (λ y. overlap x y ≡ false) ms a d.0)).0))
    later r f false t = pick_no _ _ _ t ∙ r f

    by_first_lem : (holder ms a ≡ Some m → holder ms va ≡ Some m) → (b : Bool) → holds x a ≡ b → holder (x ∷ ms) va ≡ Some m
    by_first_lem r true t = here t
    by_first_lem r false t = later r (sym (pick_no (holds x a) (Some x) (holder ms a) t) ∙ e) (holds x va) refl

-- an address that agrees above a mapping's low bits lies in its region too
pub holds_over : (m : Mapping) (a va : VirtualAddress) → a.0 / 2 ^ low_bits m.kind ≡ va.0 / 2 ^ low_bits m.kind → holds m a ≡ true → holds m va ≡ true
unfolding holds
holds_over m a va e h = eq-eqb _ _ (sym e ∙ eqb-true _ _ h)

-- mappings behind mappings hold an address where one of either does
pub holder-append : (ms ns : List Mapping) (va : VirtualAddress) → holder (ms ++ ns) va ≡ None → (holder ms va ≡ None) × (holder ns va ≡ None)
unfolding holder
holder-append [] ns va e = (refl, e)
holder-append (m ∷ ms) ns va e = by_first_lem (holds m va) refl (holder-append ms ns va)
  where
    by_first_lem : (b : Bool) → holds m va ≡ b → (holder (ms ++ ns) va ≡ None → (holder ms va ≡ None) × (holder ns va ≡ None))
        → (holder (m ∷ ms) va ≡ None) × (holder ns va ≡ None)
    by_first_lem true t r = let f = pick_yes (holds m va) (Some m) (holder (ms ++ ns) va) t in let z : ◌≡◌ {A = ℕ} 0 1 = cc in absurd (omega arith)
    by_first_lem false t r =
        let s = r (sym (pick_no (holds m va) (Some m) (holder (ms ++ ns) va) t) ∙ e) in
        (pick_no (holds m va) (Some m) (holder ms va) t ∙ s.0, s.1)

pub holder-one : (m : Mapping) (va : VirtualAddress) → holds m va ≡ true → holder (m ∷ []) va ≡ None → ⊥
unfolding holder
holder-one m va h e = let f = pick_yes (holds m va) (Some m) None h in let z : ◌≡◌ {A = ℕ} 0 1 = cc in omega arith
