use Rattle.registers.proofs.Names.{sym}
use Rattle.registers.proofs.Rows.{value_elsewhere, none-is-no_register}
use Rattle.registers.proofs.values.value_at.Goals as goal

pub returns-in_default : goal.returns-in_default
returns-in_default c = sym (value_elsewhere _ _ _ _ _ (none-is-no_register c.args.offset (assumption c.in_default)))
