-- `complex_records::record_at` meets its contract: five numbers are read, and two of them are marks. Assumes nothing.
use Rattle.complex_records.proofs.Steps.{made}
use Rattle.complex_records.proofs.record_at.Goals as goal

pub returns : goal.returns
returns c = made c.args.flat.now c.args.i c.sign_number-sign.result c.sign_number-other_sign.result c.sign_number-sign.ensures c.sign_number-other_sign.ensures
