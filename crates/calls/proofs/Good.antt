-- Of a record that is a call, what is tested holds. Assumes nothing.
use Rattle.calls.specs.Names.{◌≡◌, Bool, true, false, ℕ, ◌%◌, eqb, pick, virtual, Call, Option, Some, None}
use Rattle.calls.proofs.Names.{refl, sym, ◌∙◌, ap, arith, pick_yes, and_right, access_of, write_by, read_by, request_by, drop_by, report_by, call_by}
use Rattle.calls.proofs.Names.{call_from, is_good}
use mathlib.Core.Path.{subst}
use mathlib.Core.Bool.{false≢true}
use borrow.Author.Tests.{ltb-true}

tested : (t : Bool) (y : Option Call) → is_good (pick t y None) ≡ true → t ≡ true
unfolding pick
tested true y g = refl
tested false y g = absurd (false≢true g)

picked : (t : Bool) (y : Option Call) → is_good (pick t y None) ≡ true → y ≡ pick t y None
picked t y g = sym (pick_yes t y None (tested t y g))

pub write_known : (x a v : ℕ) → is_good (write_by x a v) ≡ true → Some (Call.Write x (v % 65536)) ≡ write_by x a v
unfolding write_by
write_known x a v g = ap (λ (w : ℕ). Some (Call.Write x w)) (let h = ltb-true v 65536 (and_right _ _ (tested _ (Some (Call.Write x v)) g)) in let e : v % 65536 ≡ v = omega arith in e) ∙ picked _ (Some (Call.Write x v)) g

pub read_known : (x a v : ℕ) → is_good (read_by x a v) ≡ true → Some (Call.Read x) ≡ read_by x a v
unfolding read_by
read_known x a v g = picked _ (Some (Call.Read x)) g

pub request_known : (x a v : ℕ) → is_good (request_by x a v) ≡ true → Some (Call.Request (virtual a) (access_of x)) ≡ request_by x a v
unfolding request_by
request_known x a v g = picked _ (Some (Call.Request (virtual a) (access_of x))) g

pub drop_known : (x a v : ℕ) → is_good (drop_by x a v) ≡ true → Some Call.Drop ≡ drop_by x a v
unfolding drop_by
drop_known x a v g = picked _ (Some Call.Drop) g

pub shift_known : (x a v : ℕ) → is_good (report_by x a v) ≡ true → Some (Call.Shift (virtual a)) ≡ report_by x a v
unfolding report_by
shift_known x a v g = picked _ (Some (Call.Shift (virtual a))) g

-- past the first four kinds
pub last_known : (k x a v : ℕ) → is_good (pick (eqb k 5) (report_by x a v) None) ≡ true → Some (Call.Shift (virtual a)) ≡ pick (eqb k 5) (report_by x a v) None
last_known k x a v g = let e = picked _ (report_by x a v) g in shift_known x a v (ap is_good e ∙ g) ∙ e

-- what is known of a call is known of one that is the same
pub alike : (r y z : Option Call) → z ≡ y → (is_good y ≡ true → r ≡ y) → is_good z ≡ true → r ≡ z
alike r y z e h = subst (λ (w : Option Call). is_good w ≡ true → r ≡ w) (sym e) h

-- and the two bytes between are zero
pub from_known : (k x third fourth a v : ℕ) → is_good (call_from k x third fourth a v) ≡ true → call_by k x a v ≡ call_from k x third fourth a v
unfolding call_from
from_known k x third fourth a v g = picked _ (call_by k x a v) g
