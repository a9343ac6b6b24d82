-- What a call is to do: its refusals but 3, one after the other, then the thing itself (01, "Registers", "When the unit
-- says no"). Each takes what was tested: ok that the device is in range, l that the memories are not refused, o that
-- prices and bill are not.
-- Internal, for the code: the machine that is signed is unit/specs/Calls.antt and Machine.antt.
use Rattle.std.specs.Prelude.{Option, Some, None, ◌/◌, ◌%◌, ◌^◌}
use Rattle.plan.specs.Names.{ℕ, Bool, eqb, leb, pick, ◌and◌}
use Rattle.bill.specs.Bill.{bill_ok}
use Rattle.page.specs.Words.{limit}
use Rattle.page.specs.declared.Access.{Access}
use Rattle.page.specs.declared.VirtualAddress.{VirtualAddress}
use Rattle.registers.specs.Answers.{idle, is_prefetch}
use Rattle.registers.specs.Fields.{is_on, is_walking}
use Rattle.registers.specs.declared.Fault.{Fault}
use Rattle.registers.specs.declared.Stall.{Stall}
use Rattle.registers.specs.declared.Command.{Command}
use Rattle.registers.specs.declared.Setting.{Setting}
use Rattle.registers.specs.declared.Tending.{Tending}
use Rattle.decision.specs.Prefetches.{page_at}
use Rattle.plan.specs.declared.Reason.{Reason}
use Rattle.plan.specs.declared.Plan.{Plan}
use Rattle.plan.specs.declared.Tried.{Tried}
use Rattle.registers.specs.Offsets.{control_at, base_high_at, base_low_at, cam_high_at, cam_low_at, ram_high_at, ram_low_at}

-- that prices and bill are not refused
abbrev pub tried_money : Tried → Bool
tried_money t = t.prices and bill_ok t.bill

-- what is lent is tried before the rest: 4, 9 or neither
abbrev pub lent_refusal : Bool → Bool → Option ℕ
lent_refusal l o = pick l (pick o None (Some 9)) (Some 4)

-- a request that is refused: 8, 1, 4, 9, else 2
abbrev pub request_refusal : Bool → Bool → Bool → VirtualAddress → ℕ
request_refusal ok l o va = pick ok (pick (leb limit va.0) 1 (pick l (pick o 2 9) 4)) 8

-- a request: 8, 1, 4, 9, 2
abbrev pub request_plan : Bool → Bool → Bool → Option Stall → VirtualAddress → Access → Plan
request_plan ok l o q va a =
    pick ok
    (pick (leb limit va.0) (Plan.Refused 1)
    (pick l
    (pick o
    (pick (idle q) (Plan.Attempt a Reason.Request va)
    (Plan.Refused 2))
    (Plan.Refused 9))
    (Plan.Refused 4)))
    (Plan.Refused 8)

-- a prefetch: 4 and 9, 8, 2, 7
abbrev pub prefetch_plan : ℕ → Option ℕ → ℕ → Option Stall → Plan
prefetch_plan v (Some k) c q = Plan.Refused k
prefetch_plan v None c q =
    pick (eqb (v / 2 ^ 14 % 2) 0)
    (pick (idle q)
    (pick (is_on c)
    (pick (is_walking c) (Plan.Attempt Access.Read Reason.Prefetch (page_at v))
    (Plan.Refused 7))
    (Plan.Refused 7))
    (Plan.Refused 2))
    (Plan.Refused 8)

-- acknowledge with bit 0: 4 and 9, 7; a pending prefetch is only dropped, another fault retried as it was
abbrev pub retry_plan : Fault → VirtualAddress → Access → Plan
retry_plan k va a = pick (is_prefetch k) Plan.Drop (Plan.Attempt a Reason.Retry va)

abbrev pub pending_plan : Option Stall → Plan
pending_plan None = Plan.Refused 7
pending_plan (Some s) = retry_plan s.fault s.at s.access

abbrev pub acknowledge_plan : Bool → Option ℕ → Option Stall → Plan
acknowledge_plan go (Some k) q = Plan.Refused k
acknowledge_plan go None q = pick go (pending_plan q) Plan.Done

-- a setting is an offset of Table 3 and the bits that are kept
abbrev pub setting_plan : Setting → Plan
setting_plan (Setting.Control v) = Plan.Set control_at v
setting_plan (Setting.BaseHigh v) = Plan.Set base_high_at v
setting_plan (Setting.BaseLow v) = Plan.Set base_low_at v
setting_plan (Setting.CamHigh v) = Plan.Set cam_high_at v
setting_plan (Setting.CamLow v) = Plan.Set cam_low_at v
setting_plan (Setting.RamHigh v) = Plan.Set ram_high_at v
setting_plan (Setting.RamLow v) = Plan.Set ram_low_at v

-- and back: the last of them at every other offset
unfoldable pub setting_at : ℕ → ℕ → Setting
setting_at o v =
    pick (eqb o control_at) (Setting.Control v)
    (pick (eqb o base_high_at) (Setting.BaseHigh v)
    (pick (eqb o base_low_at) (Setting.BaseLow v)
    (pick (eqb o cam_high_at) (Setting.CamHigh v)
    (pick (eqb o cam_low_at) (Setting.CamLow v)
    (pick (eqb o ram_high_at) (Setting.RamHigh v) (Setting.RamLow v))))))

abbrev pub tend_plan : Tending → Plan
tend_plan (Tending.Lock l v) = Plan.Lock l v
tend_plan Tending.Flush = Plan.Flush
tend_plan Tending.FlushEntry = Plan.FlushEntry

-- 7: load and copy while walking is set
abbrev pub unless_walking : ℕ → Plan → Plan
unless_walking c x = pick (is_walking c) (Plan.Refused 7) x

-- a write past the device's own 8, by its command
abbrev pub command_plan : Bool → Bool → ℕ → Option Stall → Command → Plan
command_plan l o c q (Command.Refused k) = Plan.Refused k
command_plan l o c q Command.Nothing = Plan.Done
command_plan l o c q Command.Reset = Plan.Reset
command_plan l o c q (Command.Set s) = setting_plan s
command_plan l o c q (Command.Tend t) = tend_plan t
command_plan l o c q Command.Load = unless_walking c Plan.Load
command_plan l o c q Command.Copy = unless_walking c Plan.Copy
command_plan l o c q (Command.Prefetch v) = prefetch_plan v (lent_refusal l o) c q
command_plan l o c q (Command.Acknowledge go) = acknowledge_plan go (lent_refusal l o) q

abbrev pub write_plan : Bool → Bool → Bool → ℕ → Option Stall → Command → Plan
write_plan ok l o c q x = pick ok (command_plan l o c q x) (Plan.Refused 8)

-- a read: 8; 5 and 6 are what Table 3 shows
abbrev pub read_plan : Bool → ℕ → Plan
read_plan ok o = pick ok (Plan.Show o) (Plan.Refused 8)

-- a drop: 8, 7
abbrev pub drop_plan : Bool → Option Stall → Plan
drop_plan ok q = pick ok (pick (idle q) (Plan.Refused 7) Plan.Drop) (Plan.Refused 8)

-- a shift report: 8, 1, 4
abbrev pub shift_plan : Bool → Bool → VirtualAddress → Plan
shift_plan ok l va =
    pick ok
    (pick (leb limit va.0) (Plan.Unreported 1)
    (pick l (Plan.Shift va)
    (Plan.Unreported 4)))
    (Plan.Unreported 8)
