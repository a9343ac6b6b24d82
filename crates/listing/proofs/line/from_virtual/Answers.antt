use Rattle.std.proofs.Common.{Err}
use Rattle.listing.proofs.Names.{◌∙◌, ap}
use Rattle.listing.proofs.Says.{virtual-on}
use Rattle.listing.proofs.line.from_virtual.Goals as goal

pub returns-in-Ok : goal.returns-in-Ok
returns-in-Ok c = c.from_physical.ensures ∙ virtual-on c.args.line.now _ _ c.word.ensures.first c.word.ensures.behind _ _ _ c.address.ensures c.in-Ok.is

pub returns-in-Err-Missing : goal.returns-in-Err-Missing
returns-in-Err-Missing c = virtual-on c.args.line.now _ _ c.word.ensures.first c.word.ensures.behind _ _ _ c.address.ensures (c.in-Err-Missing.is ∙ ap Err c.in-Err-Missing.field-0-is)

pub returns-in-Err-NotHex : goal.returns-in-Err-NotHex
returns-in-Err-NotHex c = virtual-on c.args.line.now _ _ c.word.ensures.first c.word.ensures.behind _ _ _ c.address.ensures (c.in-Err-NotHex.is ∙ ap Err c.in-Err-NotHex.field-0-is)

pub returns-in-Err-TooLarge : goal.returns-in-Err-TooLarge
returns-in-Err-TooLarge c = virtual-on c.args.line.now _ _ c.word.ensures.first c.word.ensures.behind _ _ _ c.address.ensures (c.in-Err-TooLarge.is ∙ ap Err c.in-Err-TooLarge.field-0-is)

pub returns-in-Err-Uneven : goal.returns-in-Err-Uneven
returns-in-Err-Uneven c = virtual-on c.args.line.now _ _ c.word.ensures.first c.word.ensures.behind _ _ _ c.address.ensures (c.in-Err-Uneven.is ∙ ap Err c.in-Err-Uneven.field-0-is)
