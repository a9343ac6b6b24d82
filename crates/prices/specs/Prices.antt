-- What a word costs (01, "Meters and the walk bill", and refusal 9). Figures are binary64 values.
use Rattle.std.specs.Prelude.{Option, Some, None, ◌/◌}
use Rattle.prices.specs.Names.{ℕ, Bool, eqb, pick, ◌and◌, Float, binary64, PhysicalAddress, Price, Prices, Side}
use Rattle.std.specs.Float.Ieee.{of_bits, le}

-- 0 and 4,096 as bit patterns of an f64
abbrev pub f0 : Float
f0 = of_bits binary64 0x0000_0000_0000_0000

abbrev pub f4096 : Float
f4096 = of_bits binary64 0x40b0_0000_0000_0000

-- a figure from 0 to 4,096, ends and minus zero allowed, NaN not
unfoldable pub figure_ok : Float → Bool
figure_ok x = le f0 x and le x f4096

-- a test passes at every figure of a price
unfoldable pub every : (Float → Bool) → Price → Bool
every test (Price.Flat x) = test x
every test (Price.Row same fresh) = test same and test fresh

abbrev pub price_ok : Price → Bool
price_ok p = every figure_ok p

abbrev pub prices_ok : Prices → Bool
prices_ok p = price_ok p.onchip and price_ok p.external

-- rows are this many bytes of physical address
abbrev pub row_bytes : ℕ
row_bytes = 1024

abbrev pub row_of : PhysicalAddress → ℕ
row_of a = a.0 / row_bytes

-- a row that is the memory's last one is the same row, and the first read is a new one
unfoldable pub row_price : Float → Float → Option ℕ → ℕ → Float
row_price same fresh None row = fresh
row_price same fresh (Some last) row = pick (eqb last row) same fresh

-- a word's price, by what the bill keeps of its memory
unfoldable pub word_price : Price → Side → ℕ → Float
word_price (Price.Flat x) side row = x
word_price (Price.Row same fresh) side row = row_price same fresh side.last row

-- what the bill keeps of a memory that was not read yet
abbrev pub fresh_side : Side
fresh_side = record { last = None }

-- and after a word more of it
abbrev pub side_read : Side → ℕ → Side
side_read side row = record { last = Some row }
