-- i records are written.
use Rattle.std.proofs.Common.{◌≡◌, ◌++◌, drop}
use Rattle.complex_records.specs.Record.{first_records}
use Rattle.complex_records.proofs.fill_first.Given as goal

abbrev pub invariant-loop-i : goal.invariant-loop-i
invariant-loop-i l = l.records ≡ first_records l.i l.flat ++ drop l.i l.initial.records
