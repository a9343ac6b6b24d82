use Rattle.std.specs.Prelude.{ℕ}
use Rattle.std.proofs.Common.{Result}
use Rattle.audit.specs.declared.ImageError.{ImageError}
use Rattle.audit.specs.Names.{◌*◌, ◌+◌, ◌-◌, ◌≡◌, ◌≤◌, length, megabytes}
use Rattle.audit.proofs.Names.{level_checked, level_pages}
use Rattle.audit.proofs.images.Image.check.Given as goal

abbrev pub invariant-loop-i : goal.invariant-loop-i
invariant-loop-i l =
    let m = l.self in
    (l.pages ≤ 1024 * l.i)
    × ((rest : Result ℕ ImageError) → level_checked m.memory.now m.base 0 megabytes rest ≡ level_checked m.memory.now m.base l.i (megabytes - l.i) rest)
    × (length (level_pages m.memory.now m.base 0 megabytes) ≡ l.pages + length (level_pages m.memory.now m.base l.i (megabytes - l.i)))
