-- `file_mesh_write::keeps_rules` meets its contract: the words' test and then the births'. Assumes nothing.
use Rattle.file_mesh.specs.Rules.{no_birth, births_fit}
use Prim.Native.Nat.{ℕ}
use mathlib.Core.Path.{sym, ap, ◌∙◌}
use Rattle.file_mesh_write.proofs.keeps_rules.Goals as goal

pub returns-then-not-words_rise : goal.returns-then-not-words_rise
returns-then-not-words_rise c = rw (sym c.words_rise.ensures ∙ c.if-not-words_rise.true)

pub returns : goal.returns
returns c = rw (sym c.words_rise.ensures ∙ c.if-not-words_rise.false) (c.births_fit.ensures ∙ ap (λ (v : ℕ). births_fit v no_birth c.args.births.now c.args.pairs.now) c.vertices.ensures)
