-- `file_market::list_file` meets its contract: the faces, the classes of their facets, and then the file (proofs/Steps). Assumes nothing.
use Rattle.file_market.proofs.Steps.{numbered, market-handed}
use Rattle.file_market.proofs.list_file.Goals as goal

pub hand_file-requires : goal.hand_file-requires
hand_file-requires c = numbered c.args.d c.args.k c.args.words.now c.requires.0.work.passed c.reach-f.result c.reach-f.new.keys c.reach-f.new.rows c.reach-f.new.spare c.reach-f.new.counts c.reach-f.ensures c.requires.1 c.requires.0.high c.classes-g.result c.classes-g.new.keys c.classes-g.new.spare c.classes-g.new.counts c.classes-g.ensures

pub returns : goal.returns
returns c = market-handed c.args.d c.args.k c.args.words.now c.requires.0.work.passed c.reach-f.result c.reach-f.new.keys c.reach-f.new.rows c.reach-f.new.spare c.reach-f.new.counts c.reach-f.ensures c.requires.1 c.requires.0.high c.classes-g.result c.classes-g.new.keys c.classes-g.new.spare c.classes-g.new.counts c.classes-g.ensures c.hand_file.result c.args.bytes.now _ c.hand_file.ensures
