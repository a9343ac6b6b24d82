-- The bill's figures (01, "Meters and the walk bill"). They are binary64 values, and the operations those of IEEE 754,
-- in the order written here.
use Rattle.bill.specs.Names.{Bool, true, false, f0, Float, binary64}
use Rattle.std.specs.Float.Ieee.{of_bits, add, sub, mul}
pub use Rattle.std.specs.Float.Ieee.Scale.{finite}

-- 1 and 1/8 as bit patterns of an f64
abbrev pub f1 : Float
f1 = of_bits binary64 0x3ff0_0000_0000_0000

abbrev pub f⅛ : Float
f⅛ = of_bits binary64 0x3fc0_0000_0000_0000

-- 1 on no match, else 0
abbrev pub miss_figure : Bool → Float
miss_figure true = f1
miss_figure false = f0

-- mean + (x - mean) * 0.125
unfoldable pub smoothed : Float → Bool → Float
smoothed mean missed = add binary64 mean (mul binary64 (sub binary64 (miss_figure missed) mean) f⅛)
