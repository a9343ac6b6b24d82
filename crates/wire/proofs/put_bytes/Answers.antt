use Rattle.wire.specs.Names.{◌+◌, ◌≤◌, length}
use Rattle.wire.proofs.Names.{sym, ◌∙◌, arith}
use Rattle.wire.proofs.Pastes.{bytes_fit}
use Rattle.wire.proofs.put_bytes.Goals as goal

pub returns-then-s-out : goal.returns-then-s-out
returns-then-s-out c = let x = c.args in c.copy.ensures ∙ sym (bytes_fit x.out.now x.at x.s.now (omega arith))
