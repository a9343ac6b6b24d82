-- One lane of the slots' words: the search, what is in range, the flushes (01, "The unit", "Registers").
use Rattle.std.specs.Prelude.{Option, Some, None}
use Rattle.std.specs.Prelude.{◌+◌, ◌%◌, ◌^◌}
use Rattle.lanes.specs.Names.{ℕ, zero, suc, Bool, true, List, map, eqb, ltb, get_or, pick, ◌and◌}
use Rattle.page.specs.Words.{word_matches, word_flushed, word_flushed_at}
use Rattle.page.specs.declared.VirtualAddress.{VirtualAddress}

-- how many slots there are
abbrev pub slots : ℕ
slots = 32

-- the first of the n slots from i that matches
unfoldable pub looked_from : ℕ → ℕ → List ℕ → VirtualAddress → Option ℕ
looked_from zero i cam va = None
looked_from (suc n) i cam va = pick (word_matches (get_or cam i 0) va) (Some i) (looked_from n (i + 1) cam va)

-- the slots are looked at lowest first
abbrev pub looked_up : List ℕ → VirtualAddress → Option ℕ
looked_up cam va = looked_from slots 0 cam va

-- each of the n words from i passes a test
unfoldable pub all_from : (ℕ → Bool) → ℕ → ℕ → List ℕ → Bool
all_from p zero i lane = true
all_from p (suc n) i lane = p (get_or lane i 0) and all_from p n (i + 1) lane

-- a CAM word has 14 tag bits, P, V and two type bits
abbrev pub cam_limit : ℕ
cam_limit = 2 ^ 18

abbrev pub cam_ok : ℕ → ℕ → Bool
cam_ok limit w = ltb w limit

-- a RAM word has 32 bits and nothing below its access bits
abbrev pub ram_ok : ℕ → Bool
ram_ok w = ltb w (2 ^ 32) and eqb (w % 256) 0

abbrev pub cams_ok : ℕ → List ℕ → Bool
cams_ok limit cam = all_from (cam_ok limit) slots 0 cam

abbrev pub rams_ok : List ℕ → Bool
rams_ok ram = all_from ram_ok slots 0 ram

-- a global flush drops each slot that is not preserved, an entry flush each that matches
unfoldable pub flushed_all : List ℕ → List ℕ
flushed_all cam = map word_flushed cam

unfoldable pub flushed_entry : VirtualAddress → List ℕ → List ℕ
flushed_entry va cam = map (word_flushed_at va) cam
