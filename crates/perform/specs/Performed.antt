-- What a plan leaves of a device's parts, and says (01, "The unit", "The walk", "Registers").
-- Internal, for the code: the machine that is signed is unit/specs/Calls.antt and Machine.antt.
use Rattle.std.specs.Prelude.{Option, None}
use Rattle.std.specs.Prelude.{Err}
use Rattle.decision.specs.declared.ShiftError.{ShiftError}
use Rattle.std.specs.Prelude.{◌<◌, ◌≡◌, ◌/◌, ◌%◌}
use Rattle.perform.specs.Names.{ℕ, List, true, false, limit, Access, VirtualAddress, Lent, Place, word_count, last_place, no_tally, Tally}
use Rattle.perform.specs.Names.{Prices, Bill, cam_limit, cams_ok, fresh_bank, entry_filled, locked_at, bank_flushed, bank_flushed_at, loaded, copied}
use Rattle.perform.specs.Names.{Bank, walk_within, Walked, is_on, is_walking, fresh_registers, setting, with_prefetch, with_copied, words_of, entry_of}
use Rattle.perform.specs.Names.{cam_address, value_at, Answer, Stall, Registers, decided, settled, tally_of, billed, prefetch_decided}
use Rattle.perform.specs.Names.{prefetch_kept, shift_by, Decision, Said, setting_at, Plan, Reason, Performed}

-- what a call leaves of the parts, and says; from is where the last word of its walk lies, nowhere where it made none
pub record Done : Type 0 where
  pub registers : Registers
  pub bank : Bank
  pub pending : Option Stall
  pub bill : Bill
  pub tally : Tally
  pub said : Said
  pub from : Place

-- a call that charges nothing leaves the bill as it is and adds nothing to the meters
abbrev pub uncharged : Registers → Bank → Option Stall → Bill → Said → Place → Done
uncharged r k q b s f = record { registers = r; bank = k; pending = q; bill = b; tally = no_tally; said = s; from = f }

-- as one that reads no word
abbrev pub quietly : Registers → Bank → Option Stall → Bill → Said → Done
quietly r k q b s = uncharged r k q b s Place.Nowhere

-- what an attempt comes to, where w is what the plain walk of its address gives
abbrev pub decided_for : Reason → Walked → ℕ → List ℕ → List ℕ → VirtualAddress → Access → Decision
decided_for Reason.Request w c cam ram va a = decided w c cam ram va a
decided_for Reason.Retry w c cam ram va a = decided w c cam ram va a
decided_for Reason.Prefetch w c cam ram va a = prefetch_decided w cam va

-- what it adds to the meters: a prefetch is no request
abbrev pub tally_for : Reason → ℕ → Answer → Tally
tally_for Reason.Request n x = tally_of false n x
tally_for Reason.Retry n x = tally_of true n x
tally_for Reason.Prefetch n x = record { fresh = 0; retries = 0; words = n }

-- the prefetch register keeps each write that is not refused: its bits 13:0 are address bits 23:10
abbrev pub registers_for : Reason → Registers → VirtualAddress → Answer → Registers
registers_for Reason.Request r va x = r
registers_for Reason.Retry r va x = r
registers_for Reason.Prefetch r va x = with_prefetch r (prefetch_kept (va.0 / 1024 % 16384) r.prefetch x)

-- the slots, the pending fault and the bill after an attempt's decision
abbrev pub ended_for : Prices → Bill → Reason → Registers → Bank → Option Stall → VirtualAddress → Access → Decision → Done
ended_for p b e r k q va a x = record {
  registers = registers_for e r va x.answer;
  bank = entry_filled k x.fill;
  pending = settled va a q x.answer;
  bill = billed p b x;
  tally = tally_for e (word_count x.reads) x.answer;
  said = Said.Answered x.answer;
  from = last_place x.reads;
}

-- over memories that were tried
abbrev pub attempt_done : Lent → Prices → Bill → Reason → Registers → Bank → Option Stall → VirtualAddress → Access → Done
attempt_done m p b e r k q va a =
    ended_for p b e r k q va a (decided_for e (walk_within m r.base.0 va.0) r.control k.cam k.ram va a)

-- a shift report, where w is what the plain walk of its address gives
abbrev pub report_done : Bill → Registers → Bank → Option Stall → VirtualAddress → Walked → Done
report_done b r k q va w = uncharged r k q b (Said.Reported (shift_by va w.found)) (last_place w.reads)

-- what is planned, done
abbrev pub performed : Lent → Prices → Bill → Registers → Bank → Option Stall → Plan → Done
performed m p b r k q (Plan.Refused n) = quietly r k q b (Said.Answered (Answer.Refused n))
performed m p b r k q Plan.Done = quietly r k q b (Said.Answered Answer.Done)
performed m p b r k q (Plan.Show o) = quietly r k q b (Said.Answered (value_at o r k.lock k.victim q))
performed m p b r k q (Plan.Set o v) = quietly (setting r (setting_at o v)) k q b (Said.Answered Answer.Done)
performed m p b r k q (Plan.Lock l v) = quietly r (locked_at k l v) q b (Said.Answered Answer.Done)
performed m p b r k q Plan.Flush = quietly r (bank_flushed k) q b (Said.Answered Answer.Done)
performed m p b r k q Plan.FlushEntry = quietly r (bank_flushed_at k (cam_address r.staged)) q b (Said.Answered Answer.Done)
performed m p b r k q Plan.Load = quietly r (loaded k (words_of r.staged)) q b (Said.Answered Answer.Done)
performed m p b r k q Plan.Copy = quietly (with_copied r (entry_of (copied k))) k q b (Said.Answered Answer.Done)
performed m p b r k q Plan.Reset = quietly fresh_registers fresh_bank None b (Said.Answered Answer.Done)
performed m p b r k q Plan.Drop = quietly r k None b (Said.Answered Answer.Done)
performed m p b r k q (Plan.Attempt a e va) = attempt_done m p b e r k q va a
performed m p b r k q (Plan.Shift va) = report_done b r k q va (walk_within m r.base.0 va.0)
performed m p b r k q (Plan.Unreported n) = quietly r k q b (Said.Reported (Err (ShiftError.Refused n)))

-- what charges nothing, handed back by value, and what reads no word
abbrev pub uncharged_performed : Registers → Option Stall → Bill → Said → Place → Performed
uncharged_performed r q b s f = record { registers = r; pending = q; bill = b; tally = no_tally; said = s; from = f }

abbrev pub quiet_performed : Registers → Option Stall → Bill → Answer → Performed
quiet_performed r q b x = uncharged_performed r q b (Said.Answered x) Place.Nowhere

-- what is handed back by value, with the slots as they then are
abbrev pub done_of : Performed → Bank → Done
done_of x k = record {
  registers = x.registers;
  bank = k;
  pending = x.pending;
  bill = x.bill;
  tally = x.tally;
  said = x.said;
  from = x.from;
}

-- a prefetch is tried by a unit that is on and walks
abbrev pub TriedOn : Reason → ℕ → Type 0
TriedOn Reason.Request c = Unit {0}
TriedOn Reason.Retry c = Unit {0}
TriedOn Reason.Prefetch c = (is_on c ≡ true) × (is_walking c ≡ true)

-- an attempt asks that lock base and victim are slots, that CAM words are in range and that its address is a virtual one
pub record Fits (control : ℕ) (cam : List ℕ) (lock victim : ℕ) (e : Reason) (va : VirtualAddress) : Type 0 where
  pub ready : TriedOn e control
  pub cams : cams_ok cam_limit cam ≡ true
  pub lock-lt : lock < 32
  pub victim-lt : victim < 32
  pub virtual : va.0 < limit

-- what a plan asks of the parts that it is performed on
abbrev pub Fit : ℕ → List ℕ → ℕ → ℕ → Plan → Type 0
Fit c cam lock victim (Plan.Refused n) = Unit {0}
Fit c cam lock victim Plan.Done = Unit {0}
Fit c cam lock victim (Plan.Show o) = Unit {0}
Fit c cam lock victim (Plan.Set o v) = Unit {0}
Fit c cam lock victim (Plan.Lock l v) = Unit {0}
Fit c cam lock victim Plan.Flush = Unit {0}
Fit c cam lock victim Plan.FlushEntry = Unit {0}
Fit c cam lock victim Plan.Load = victim < 32
Fit c cam lock victim Plan.Copy = victim < 32
Fit c cam lock victim Plan.Reset = Unit {0}
Fit c cam lock victim Plan.Drop = Unit {0}
Fit c cam lock victim (Plan.Attempt a e va) = Fits c cam lock victim e va
Fit c cam lock victim (Plan.Shift va) = Unit {0}
Fit c cam lock victim (Plan.Unreported n) = Unit {0}
