-- Images that were not built here (02, P4): demand 3 with the plain walk of the image in the place of the list, and what its listed pages mean.
use Rattle.std.specs.Prelude.{Ok}
use Rattle.std.specs.Prelude.{◌<◌, ◌≡◌}
use Rattle.demands.specs.Demands.Names.{megabytes, limit, ℕ, false, List, length, Lent, LentAt, lent_alone, meaning, mappings, build_of}
use Rattle.demands.specs.Demands.Names.{is_refusal, Access, VirtualAddress, Bill, Prices, Answer, Call, Said, step, BilledCall, after, Admitted, asked}
use Rattle.demands.specs.Demands.Names.{asks, TurnsOn, start, Bytes, check_of, pages_in, records_of, plain, look_in, AcceptedExactly}
use Rattle.demands.specs.Demands.{meant_as, AsList}
use Rattle.demands.specs.Auditing.{AuditRefuses}
use Rattle.demands.specs.Buyer.{built_in}

-- what the plain walk of an image alone answers
abbrev pub image_answer : List ℕ → ℕ → VirtualAddress → Access → Answer
image_answer l base = plain (look_in (lent_alone l base) base)

-- 3, for an accepted image that stands in one of the two memories, the other as it will: after any calls but writes to control or base, each request or
-- retry that is not refused answers what the plain walk of the image answers, and that is what its listed pages say
abbrev pub ForeignCalled : Type 0
ForeignCalled =
    (l : List ℕ) (base k : ℕ) (m : Lent) (v : ℕ) (p : Prices) (b₀ : Bill)
    (cs : List BilledCall) (b : Bill) (c : Call) (va : VirtualAddress) (a : Access) (r : Answer) →
    check_of megabytes l base ≡ Ok k →
    LentAt l base m →
    TurnsOn v →
    Admitted cs →
    asked (after m (start m base v p b₀) cs) c ≡ asks va a →
    (step m (after m (start m base v p b₀) cs) b c).said ≡ Said.Answered r →
    is_refusal r ≡ false →
    (r ≡ image_answer l base va a) × AsList r (meaning (pages_in megabytes l base) va a)

-- the list of an accepted image is the image's meaning: at every address the plain walk answers what the listed pages say (an access of 0 or 1 is a
-- permission fault)
abbrev pub PagesAnswer : Type 0
PagesAnswer =
    (l : List ℕ) (base k : ℕ) (va : VirtualAddress) (a : Access) → check_of megabytes l base ≡ Ok k → va.0 < limit
    → image_answer l base va a ≡ meant_as (meaning (pages_in megabytes l base) va a)

-- every built image is accepted, and its listed pages mean what the list means that it was built from
abbrev pub BuiltAccepted : Type 0
BuiltAccepted =
    (rs : List ℕ) (base len : ℕ) (before : List ℕ) → Bytes rs → (build_of rs base before).answer ≡ Ok len
    → (check_of megabytes (build_of rs base before).memory base ≡ Ok (length (pages_in megabytes (build_of rs base before).memory base)))
    × ((va : VirtualAddress) (a : Access) → va.0 < limit → meaning (pages_in megabytes (build_of rs base before).memory base) va a ≡ meaning (mappings rs) va a)

-- where the builder accepts the listed pages (so every access is 2 or 3), the image that it builds of them translates alike
abbrev pub RebuiltAlike : Type 0
RebuiltAlike =
    (l : List ℕ) (base k base' len : ℕ) (before : List ℕ) (va : VirtualAddress) (a : Access) → Bytes l → check_of megabytes l base ≡ Ok k
    → (build_of (records_of (pages_in megabytes l base)) base' before).answer ≡ Ok len → va.0 < limit
    → plain (look_in (built_in (records_of (pages_in megabytes l base)) base' before) base') va a ≡ image_answer l base va a

-- what is signed for such images
pub record Foreign : Type 0 where
  pub refuses : AuditRefuses
  pub exactly : AcceptedExactly
  pub called : ForeignCalled
  pub pages : PagesAnswer
  pub built : BuiltAccepted
  pub rebuilt : RebuiltAlike
