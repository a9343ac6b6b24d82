-- The slots, and what is in range (01, "The unit").
use Rattle.bank.specs.Names.{ℕ, Bool, ltb, get_or, replicate, ◌and◌, Words, slots, cam_limit, cams_ok, rams_ok, Bank}

-- every slot empty, nothing locked
abbrev pub fresh_bank : Bank
fresh_bank = record { cam = replicate slots 0; ram = replicate slots 0; lock = 0; victim = 0 }

-- the words of a slot
abbrev pub slot_at : Bank → ℕ → Words
slot_at b j = record { cam = get_or b.cam j 0; ram = get_or b.ram j 0 }

-- lock base, victim and every slot are in range
unfoldable pub bank_ok : Bank → Bool
bank_ok b = ltb b.lock slots and ltb b.victim slots and cams_ok cam_limit b.cam and rams_ok b.ram
