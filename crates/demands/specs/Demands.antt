-- The three demands of the buyer, over the definitions that the code's contracts cite. Their proofs: proofs/Proved.antt.
use Rattle.std.specs.Prelude.{Result, Ok, Err}
use Rattle.records.specs.declared.Denial.{Denial}
use Rattle.page.specs.declared.PhysicalAddress.{PhysicalAddress}
use Names.*
use Rattle.registers.specs.Answers
use Rattle.demands.specs.Building.{BuildRefuses, BuildLeaves}
pub mod Names

-- 1. It takes anything; each refusal comes when the paper says and at no other time, and then nothing is changed: device, bill and
-- meters, and a memory lent to the builder (the unit's calls are lent memory that they cannot write, by its type; that every
-- function is safe and ends is what the check of its crate says)
pub record Demand1 : Type 0 where
  pub when : ExactlyWhen
  pub otherwise : AcceptedWhen
  pub unchanged : NothingChanges
  pub meters : BenchStays
  pub in-range : RangeKept
  pub good-bill : GoodKept
  pub builds : BuildRefuses

-- 2. Answer and state after each call are those of the tables and the house rules (the contracts of the code are these very
-- definitions); a walk never touches a locked slot, a flush keeps exactly the preserved entries, a retry is metered as a retry;
-- each walk says where its last word came from, and nothing else depends on it
pub record Demand2 : Type 0 where
  pub locked : LockedKept
  pub filled : OneSlotFilled
  pub no-page : NoPageNoFill
  pub not_cached : FaultNotCached
  pub flushed : FlushExact
  pub metered : Metered
  pub billed : WordsBilled
  pub posted : PostedMeters
  pub comes_from : ComesFromLast
  pub from-nowhere : FromNowhere
  pub beside : PlaceBeside
  pub held : FaultHeld
  pub dropped : FaultDropped
  pub on : AnswersOn
  pub off : OffIsVirtual
  pub acknowledged : OneAcknowledgement
  pub prefetched : PrefetchAnswered
  pub shifted : ShiftAnswered
  pub quiet : NothingSaid
  pub kept : Frames
  pub read_back : ReadBack
  pub read-shown : ReadShown
  pub reset : ResetFresh
  pub load-copy : LoadCopied
  pub load_then_copy : LoadThenCopy
  pub built : BuildLeaves

-- what a list alone answers
abbrev pub meant_as : Result PhysicalAddress Denial → Answer
meant_as (Ok p) = Answer.Address p
meant_as (Err Denial.Permission) = Answer.Fault Fault.Permission
meant_as (Err Denial.Translation) = Answer.Fault Fault.Translation

-- an answer is the list's: its case, and in the paper's number and values
pub record AsList (r : Answer) (x : Result PhysicalAddress Denial) : Type 0 where
  pub answer : r ≡ meant_as x
  pub number : Answers.answer_number r ≡ meaning_number x
  pub values : Answers.answer_values r ≡ meaning_values x

-- 3. For a list that the builder accepts, its image standing at its base in one of the two memories, among any other bytes:
-- after any calls but writes to control or base, with any prices and bills, each request or retry that is not refused answers
-- as the list alone would.
-- Loading slots cannot break it: load is refused 7 while walking is set. A pending fault cannot: it is only a request to retry.
abbrev pub Demand3 : Type 0
Demand3 =
    (rs : List ℕ) (base room len : ℕ) (m : Lent) (v : ℕ) (p : Prices) (b₀ : Bill)
    (cs : List BilledCall) (b : Bill) (c : Call) (va : VirtualAddress) (a : Access) (r : Answer) →
    Bytes rs →
    answer_of rs base room ≡ Ok len →
    Standing m base (image megabytes (mappings rs) base) →
    TurnsOn v →
    Admitted cs →
    asked (after m (start m base v p b₀) cs) c ≡ asks va a →
    (step m (after m (start m base v p b₀) cs) b c).said ≡ Said.Answered r →
    is_refusal r ≡ false →
    AsList r (meaning (mappings rs) va a)
