use Rattle.std.specs.Prelude.{fold}
use Rattle.crc.specs.Names.{◌≡◌, take}
use Rattle.crc.proofs.Names.{IsTable, byte_step, crc_from, ones}
use Rattle.crc.proofs.crc32_by.Given as goal

abbrev pub invariant-loop-b : goal.invariant-loop-b
invariant-loop-b l = IsTable l.t → l.c ≡ fold crc_from ones (take l.b-index l.eights)

abbrev pub invariant-loop-b-2 : goal.invariant-loop-b-2
invariant-loop-b-2 l = IsTable l.t → l.c ≡ fold byte_step l.initial.c (take l.b-index l.rest)
