-- `file_bytes::put_two` meets its contract. Assumes nothing.
use Rattle.file_bytes.specs.Bytes.{little}
use Rattle.file_bytes.proofs.Steps.{put_two}
use Rattle.file_bytes.proofs.put_two.Goals as goal

pub returns : goal.returns
unfolding little
returns c = put_two c.args.to.now _ _ c.requires
