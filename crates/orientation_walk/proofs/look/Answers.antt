-- `orientation_walk::look` meets its contract. Assumes nothing.
use mathlib.Core.Path.{refl}
use Prim.Native.Nat.{◌<◌}
use lib.ListN.{get_or}
use Rattle.orientation_walk.proofs.Lemmas.{looked-edge, looked-fresh, looked-fits, looked-clash, room_for}
use Rattle.orientation_walk.proofs.look.Goals as goal

pub returns-then-j : goal.returns-then-j
returns-then-j c = looked-edge c.requires c.if-j.true

pub turn-want-requires : goal.turn-want-requires
turn-want-requires c = c.requires.fit.small c.args.c c.requires.cell

pub bounds-stack-top : goal.bounds-stack-top
bounds-stack-top c =
    let at_j : get_or c.args.other.now c.args.p 0 < c.args.n = c.requires.leads c.if-j.false in
    room_for c.requires (at_j) refl c.if-have-eq0.true

pub returns-then-have-eq0 : goal.returns-then-have-eq0
returns-then-have-eq0 c =
    let at_j : get_or c.args.other.now c.args.p 0 < c.args.n = c.requires.leads c.if-j.false in
    looked-fresh c.requires c.if-j.false (at_j) refl c.turn-want.ensures c.if-have-eq0.true

pub returns-then-have-want : goal.returns-then-have-want
returns-then-have-want c =
    looked-fits c.requires c.if-j.false refl c.turn-want.ensures c.if-have-eq0.false c.if-have-want.true

pub returns : goal.returns
returns c =
    looked-clash c.if-j.false refl c.turn-want.ensures c.if-have-eq0.false c.if-have-want.false
