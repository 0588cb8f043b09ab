-- i records are counted.
use Rattle.std.proofs.Common.{◌≡◌}
use Rattle.complex_records.specs.Record.{bordering}
use Rattle.complex_records.proofs.border.Given as goal

abbrev pub invariant-loop-i : goal.invariant-loop-i
invariant-loop-i l = l.count ≡ bordering l.i l.records
