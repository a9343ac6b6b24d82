use Rattle.builder.specs.Names.{◌≡◌, ℕ, ◌%◌, ◌<◌, length, get_or, megabytes}
use Rattle.builder.proofs.Names.{based}
use Rattle.builder.proofs.image.write_first.Given as goal

abbrev pub invariant-loop-k : goal.invariant-loop-k
invariant-loop-k l = record {
  long : length l.words ≡ megabytes;
  written : (x : ℕ) → x < l.k → get_or l.words x 0 ≡ based l.base (get_or l.firsts x 0) % 4294967296;
}
