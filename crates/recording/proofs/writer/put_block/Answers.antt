use Rattle.recording.proofs.Puts.{block_put}
use Rattle.recording.proofs.writer.put_block.Goals as goal

pub returns : goal.returns
returns c =
    let x = c.args in
    block_put x.out.now x.calls.now c.put.new.out c.put_bytes.new.out c.put_run.new.out c.put-2.new.out
    x.at x.number c.halves.result c.crc32_by-check.result
    c.requires.held c.requires.called c.requires.whole c.halves.ensures c.put.ensures c.put_bytes.ensures c.put_run.ensures
    (c.crc32_by-check.ensures c.requires.laid) c.put-2.ensures
