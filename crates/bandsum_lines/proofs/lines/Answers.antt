-- `bandsum_lines::lines` meets its contract. Assumes nothing.
use native.Mathlib.Omega.{arith}
use mathlib.Core.Path.{sym, ap}
use Rattle.bandsum_lines.specs.Lines.{cells_word, vertices_word, edges_word, border_word, sides_word, ordered_line}
use Rattle.bandsum_lines.proofs.Laws.{empty-len, line-len, lines-told}
use Rattle.bandsum_lines.proofs.lines.Goals as goal

pub line-b-requires : goal.line-b-requires
line-b-requires c = omega (arith, empty-len c.empty-a.ensures)

pub line-c-requires : goal.line-c-requires
line-c-requires c = omega (arith, line-len cells_word c.args.s.cells c.line-b.ensures, empty-len c.empty-a.ensures)

pub line-d-requires : goal.line-d-requires
line-d-requires c = omega (arith, line-len vertices_word c.args.s.vertices c.line-c.ensures, line-len cells_word c.args.s.cells c.line-b.ensures, empty-len c.empty-a.ensures)

pub line-e-requires : goal.line-e-requires
line-e-requires c = omega (arith, line-len edges_word c.args.s.edges c.line-d.ensures, line-len vertices_word c.args.s.vertices c.line-c.ensures, line-len cells_word c.args.s.cells c.line-b.ensures, empty-len c.empty-a.ensures)

pub line-f-requires : goal.line-f-requires
line-f-requires c = omega (arith, line-len border_word c.args.s.border c.line-e.ensures, line-len edges_word c.args.s.edges c.line-d.ensures, line-len vertices_word c.args.s.vertices c.line-c.ensures, line-len cells_word c.args.s.cells c.line-b.ensures, empty-len c.empty-a.ensures)

pub word-requires : goal.word-requires
word-requires c = omega (arith, line-len sides_word c.args.s.sides c.line-f.ensures, line-len border_word c.args.s.border c.line-e.ensures, line-len edges_word c.args.s.edges c.line-d.ensures, line-len vertices_word c.args.s.vertices c.line-c.ensures, line-len cells_word c.args.s.cells c.line-b.ensures, empty-len c.empty-a.ensures)

pub word-requires-else-s : goal.word-requires-else-s
word-requires-else-s c = omega (arith, line-len sides_word c.args.s.sides c.line-f.ensures, line-len border_word c.args.s.border c.line-e.ensures, line-len edges_word c.args.s.edges c.line-d.ensures, line-len vertices_word c.args.s.vertices c.line-c.ensures, line-len cells_word c.args.s.cells c.line-b.ensures, empty-len c.empty-a.ensures)

pub returns-then-s : goal.returns-then-s
returns-then-s c = lines-told c.args.s _ (sym (ap ordered_line c.if-s.true)) c.empty-a.ensures c.line-b.ensures c.line-c.ensures c.line-d.ensures c.line-e.ensures c.line-f.ensures c.word.ensures

pub returns-else-s : goal.returns-else-s
returns-else-s c = lines-told c.args.s _ (sym (ap ordered_line c.if-s.false)) c.empty-a.ensures c.line-b.ensures c.line-c.ensures c.line-d.ensures c.line-e.ensures c.line-f.ensures c.word-else-s.ensures
