use mathlib.Core.Path.{sym}
use Rattle.registers.proofs.Rows.{command_elsewhere, none-is-no_register}
use Rattle.commands.proofs.command_at.Goals as goal

pub returns-in_default : goal.returns-in_default
returns-in_default c = sym (command_elsewhere _ _ (none-is-no_register c.args.offset (assumption c.in_default)))
