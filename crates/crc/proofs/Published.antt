-- The published check of nine digits. Assumes nothing.
use Rattle.crc.specs.Names.{pick}
use Rattle.crc.specs.Statements.{Published}
use Rattle.crc.proofs.Names.{refl, bit_step, bit_steps, byte_step, crc32, crc_from}

pub published : Published
unfolding crc32 crc_from byte_step bit_steps bit_step pick
published = refl
