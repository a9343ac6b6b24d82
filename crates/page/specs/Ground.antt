-- What every definition is written with: numbers, tests, lists. Others take it from here.
pub use Rattle.std.specs.Prelude.{ℕ, zero, suc, ◌+◌, ◌-◌, ◌*◌, ◌/◌, ◌%◌, ◌^◌, ◌<◌, ◌≤◌, min, ◌≡◌, Bool, true, false, not, List, [], ◌∷◌, ◌++◌, map, eqb, ltb, leb, length, get_or, take, drop, set, replicate}
