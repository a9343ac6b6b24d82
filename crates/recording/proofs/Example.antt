-- One drop, recorded. Assumes nothing.
use Rattle.recording.specs.Statements.{DropRecorded}
use Rattle.recording.proofs.Names.{refl, block_of, pieces, first_bad}
use Rattle.recording.specs.Names.{call_at, crc32, pick, ◌and◌}
use Rattle.calls.specs.Records.{call_of}
use Rattle.calls.specs.Kinds.{call_from, call_by}
use Rattle.calls.specs.Forms.{drop_by}
use Rattle.wire.specs.Words.{word_of}
use Rattle.crc.specs.Crc.{crc_from, byte_step, bit_steps, bit_step}

pub drop_recorded : DropRecorded
unfolding first_bad call_at call_of call_from call_by drop_by word_of pick ◌and◌ pieces block_of crc32 crc_from byte_step bit_steps bit_step
drop_recorded = record { accepted = refl; block = refl }
