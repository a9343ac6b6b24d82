-- The number of an image's pages has 32 bits. Assumes nothing.
use Rattle.audit.specs.declared.ListError.{ListError}
use Rattle.std.proofs.Common.{Result, Ok, Err}
use Rattle.audit.specs.declared.ImageError.{ImageError}
use Rattle.capi.specs.Names.{◌≡◌, List, ℕ, ◌%◌, ◌^◌, length, megabytes, check_of, list_of, ran}
use Rattle.capi.proofs.Names.{refl, ◌∙◌, ap, ap₂, arith, inventory_word, cut_inventory}
use Rattle.page.proofs.Picks.{pick_by}
use Rattle.audit.specs.List.{inventory_of, Inventoried, inventoried}
use Rattle.audit.proofs.Accepts.{accepted_audited}
use Rattle.audit.proofs.Verdicts.{pages-few}
use Rattle.capi.specs.Boundary.{list_ran}

whole : (l : List ℕ) (base room : ℕ) (v : Result ℕ ImageError) → check_of megabytes l base ≡ v → cut_inventory (inventory_of v room) ≡ inventory_of v room
whole l base room (Ok n) e =
    let few = pages-few l base megabytes in
    let count = (accepted_audited megabytes l base n e).1 in
    pick_by (λ (a : Result ℕ ListError). cut_inventory a ≡ a) _ (Err (ListError.TooShort n)) _ (λ _. ap (λ (x : ℕ). Err (ListError.TooShort x)) (let z : n % 2 ^ 32 ≡ n = omega arith in z)) (λ _. refl)
whole l base room (Err r) e = refl

pub listed-ran : (l : List ℕ) (base : ℕ) (before after : List ℕ) (a : Result ℕ ListError) (r : ℕ) → r ≡ inventory_word (cut_inventory a) → inventoried a after ≡ list_of megabytes l base before
    → ran r after ≡ list_ran l base before
unfolding list_ran list_of
listed-ran l base before after a r e f =
    ap₂ ran
    (e ∙ ap (λ (x : Inventoried). inventory_word (cut_inventory x.answer)) f ∙ ap inventory_word (whole l base (length before) (check_of megabytes l base) refl))
    (ap (λ (x : Inventoried). x.records) f)
