-- `complex_records::records` meets its contract. Assumes nothing.
use Rattle.complex_records.proofs.Holding.{asked, held}
use Rattle.complex_records.proofs.records.Goals as goal

pub fill_first-requires : goal.fill_first-requires
fill_first-requires c =
    asked _ _ _ _ _ _ _ _ _ _ _ _ _ _ c.args.records.now c.numbers-said.auto.flat _ _ c.numbers-said.ensures c.count_of-n.ensures

pub returns : goal.returns
returns c =
    held _ _ _ _ _ _ _ _ _ _ _ _ _ _ c.args.records.now _ _ c.numbers-said.ensures c.count_of-n.ensures _ c.fill_first.ensures
