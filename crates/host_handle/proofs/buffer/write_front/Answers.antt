use Rattle.host_handle.proofs.Buffers.{front_there}
use Rattle.host_handle.proofs.buffer.write_front.Goals as goal

pub returns : goal.returns
returns c = front_there c.args.bytes.now c.args.buffer.now c.copy_from_slice.new.self c.copy_from_slice.ensures.after
