-- How many words each part of a state has. Assumes nothing.
use Rattle.std.proofs.Common.{Option, Some, None}
use Rattle.state.specs.Names.{◌≡◌, List, ◌++◌, ℕ, zero, suc, ◌+◌, ◌*◌, length, slots, Stall, Device, Bench}
use Rattle.state.proofs.Names.{refl, arith, length-append, slot_words, pending_words, device_words, state_words, meter_words, bill_words}

pub slots_length : (cam ram : List ℕ) (i n : ℕ) → length (slot_words cam ram i n) ≡ 2 * n
unfolding slot_words
slots_length cam ram i zero = refl
slots_length cam ram i (suc n) = let r = slots_length cam ram (i + 1) n in omega arith

pub pending-length : (p : Option Stall) → length (pending_words p) ≡ 2
pending-length None = refl
pending-length (Some s) = refl

pub device-length : (handed : ℕ) (d : Device) → length (device_words handed d) ≡ 73
device-length handed d =
    let s = slot_words d.bank.cam d.bank.ram 0 slots in
    let x = length-append s (pending_words d.pending) in
    let u = slots_length d.bank.cam d.bank.ram 0 slots in
    let v = pending-length d.pending in
    omega arith

pub state_length : (handed : ℕ) (b : Bench) → length (state_words handed b) ≡ 82
state_length handed b =
    let x = length-append (device_words handed b.device) (meter_words b.meters ++ bill_words b.bill) in
    let u = device-length handed b.device in
    omega arith
