-- `file_market::line` meets its contract: face, coface and sign one after the other. Assumes nothing.
use Rattle.file_market.proofs.Listing.{field-long, place-below, coface-below}
use Rattle.complex_boundary.proofs.Entries.{place-fits}
use Rattle.file_writing.proofs.Laws.{wrote-more}
use lib.ListN.{get_or}
use Prim.Native.Nat.{◌+◌, ◌-◌, ◌*◌, ◌/◌, ◌%◌}
use native.Mathlib.Omega.{arith}
use Rattle.file_market.proofs.line.Goals as goal

pub overflow_add-n : goal.overflow_add-n
overflow_add-n c = omega (arith, c.requires.0.low)

pub overflow_mul-place : goal.overflow_mul-place
overflow_mul-place c = omega (arith, (place-fits c.args.k c.args.f c.args.x c.requires.1).0, c.requires.0.entries)

pub overflow_sub-place : goal.overflow_sub-place
overflow_sub-place c = (place-fits c.args.k c.args.f c.args.x c.requires.1).1

pub overflow_add-place : goal.overflow_add-place
overflow_add-place c = omega (arith, (place-fits c.args.k c.args.f c.args.x c.requires.1).0, c.requires.0.entries)

pub offset_bounds-ids-place : goal.offset_bounds-ids-place
offset_bounds-ids-place c = omega (arith, (place-fits c.args.k c.args.f c.args.x c.requires.1).0, c.requires.0.entries)

pub bounds-ids-place : goal.bounds-ids-place
bounds-ids-place c = omega (arith, (place-fits c.args.k c.args.f c.args.x c.requires.1).0, c.requires.0.long)

pub overflow_add-ids : goal.overflow_add-ids
overflow_add-ids c = omega (arith, place-below c.args.k c.args.f c.args.g c.args.ids.now c.args.x c.requires.0 c.requires.1)

pub overflow_cast-x : goal.overflow_cast-x
overflow_cast-x c = omega (arith, coface-below c.args.k c.args.f c.args.g c.args.ids.now c.args.x c.requires.0 c.requires.1)

pub overflow_add-x : goal.overflow_add-x
overflow_add-x c = omega (arith, coface-below c.args.k c.args.f c.args.g c.args.ids.now c.args.x c.requires.0 c.requires.1)

pub number_then-sign-requires : goal.number_then-sign-requires
number_then-sign-requires c = omega (arith, field-long (get_or c.args.ids.now (c.args.x / (c.args.k + 1) * (c.args.k + 1) + (c.args.k - c.args.x % (c.args.k + 1))) 0 + 1) 32 c.number_then-coface.ensures, c.requires.2)

pub sign_line-requires : goal.sign_line-requires
sign_line-requires c = omega (arith, field-long (get_or c.args.ids.now (c.args.x / (c.args.k + 1) * (c.args.k + 1) + (c.args.k - c.args.x % (c.args.k + 1))) 0 + 1) 32 c.number_then-coface.ensures, field-long (c.args.x / (c.args.k + 1) + 1) 32 c.number_then-sign.ensures, c.requires.2)

pub returns : goal.returns
returns c = wrote-more c.number_then-coface.ensures (wrote-more c.number_then-sign.ensures c.sign_line.ensures)
