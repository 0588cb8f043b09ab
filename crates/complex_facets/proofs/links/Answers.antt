-- `complex_facets::links` meets its contract: what the records tell of a row is what its mate tells (proofs/Joining). Assumes nothing.
use Rattle.complex_facets.proofs.Joining.{crossing-few, crossing, linked-done}
use native.Mathlib.Omega.{arith}
use Prim.Native.Nat.{ℕ}
use mathlib.Core.Bool.{true, false}
use mathlib.Core.Path.{◌≡◌, sym}
use Rattle.complex_facets.proofs.links.Goals as goal

no_way : ◌≡◌ false true → ⊥
no_way e = let z : ◌≡◌ {A = ℕ} 0 1 = cc in omega arith

pub returns-then-not-records : goal.returns-then-not-records
returns-then-not-records c = record { all = λ r. absurd (no_way r); crowd = λ r. c.records.ensures.crowd (c.if-not-records.true) }

pub overflow_mul-m : goal.overflow_mul-m
overflow_mul-m c =
    record { fits = omega (arith, crossing-few c.args.d c.args.m c.args.b c.args.keys.now c.args.rows.now c.args.spare.now c.args.counts.now c.requires c.records.new.keys c.records.new.rows c.records.new.spare c.records.new.counts c.records.auto.rows c.records.auto.spare c.records.auto.counts (c.records.ensures.all (c.if-not-records.false)) c.slots-k.result c.slots-k.ensures) }

pub across-requires : goal.across-requires
across-requires c =
    crossing c.args.d c.args.m c.args.b c.args.keys.now c.args.rows.now c.args.spare.now c.args.counts.now c.requires c.records.new.keys c.records.new.rows c.records.new.spare c.records.new.counts c.records.auto.rows c.records.auto.spare c.records.auto.counts (c.records.ensures.all (c.if-not-records.false)) c.slots-k.result c.slots-k.ensures

pub returns : goal.returns
returns c =
    record { all = λ r. linked-done c.args.d c.args.m c.args.b c.args.keys.now c.args.rows.now c.args.spare.now c.args.counts.now c.requires c.records.new.keys c.records.new.rows c.records.new.spare c.records.new.counts c.records.auto.rows c.records.auto.spare c.records.auto.counts (c.records.ensures.all (c.if-not-records.false)) c.slots-k.result c.slots-k.ensures c.across.new.other c.across.new.flip c.across.ensures; crowd = λ r. absurd (no_way (sym r)) }
