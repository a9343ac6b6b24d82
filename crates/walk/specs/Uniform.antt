-- A walk that finds a page finds it at every address of that page (01, demand 3: what makes a slot as good as a walk).
use Rattle.std.specs.Prelude.{Ok, ◌/◌, ◌^◌, ◌<◌, ◌≡◌}
use Rattle.walk.specs.Names.{ℕ, low_bits, VirtualAddress, Page, Walked}
use Rattle.memory.specs.Memory.{Lent}
use Rattle.walk.specs.Walk.{walk_in}

-- what a walk comes to at each address
abbrev pub Look : Type 0
Look = VirtualAddress → Walked

-- where a walk below an end finds a page, it finds the same page at every address of that page
abbrev pub Uniform : ℕ → Look → Type 0
Uniform end look =
    (va va' : VirtualAddress) (p : Page) → va.0 < end → (look va).found ≡ Ok p →
    va'.0 / 2 ^ low_bits p.kind ≡ va.0 / 2 ^ low_bits p.kind → (look va').found ≡ Ok p

-- the plain walk over two memories, from a base
abbrev pub look_in : Lent → ℕ → Look
look_in m base va = walk_in m base va.0
