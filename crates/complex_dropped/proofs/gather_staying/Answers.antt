-- `complex_dropped::gather_staying` meets its contract. The steps: each word's cell, the marks of those that go, the words that are left, and their corners. Assumes nothing.
use mathlib.Core.Path.{◌≡◌, ◌∙◌}
use native.Mathlib.Omega.{arith}
use borrow.Author.Rules.{rules}
use lib.ListN.{length, replicate}
use Rattle.complex_dropped.proofs.Steps.{making, marks-are, gone-low, keys-enough, staying-asked, staying-few, staying-fits, listed-low, gathered-are, count-few}
use Rattle.complex_dropped.proofs.gather_staying.Goals as goal

pub number_words-requires : goal.number_words-requires
number_words-requires c = making c.args.d c.args.words.now c.args.gone.now c.args.keys.now c.args.rows.now c.args.spare.now c.args.counts.now c.requires

pub mark-requires : goal.mark-requires
mark-requires c =
    λ i h. omega (arith, gone-low c.args.d c.args.words.now c.args.gone.now c.args.keys.now c.args.rows.now c.args.spare.now c.args.counts.now c.requires i h, c.fill.auto, c.number_words.auto, c.requires.working.rows_long)

pub list_staying-staying-requires : goal.list_staying-staying-requires
list_staying-staying-requires c =
    staying-asked c.args.d c.args.words.now c.args.gone.now c.args.keys.now c.args.rows.now c.args.spare.now c.args.counts.now c.requires c.number_words.new.counts c.number_words.ensures c.mark.new.marks c.number_words.new.spare (c.number_words.auto.counts ∙ c.requires.working.counts_long) (c.number_words.auto.spare ∙ c.requires.working.spare_long) (omega (arith, c.mark.auto, c.fill.auto, c.number_words.auto, c.requires.working.rows_long))

pub gather-requires : goal.gather-requires
gather-requires c =
    let zeros : c.fill.new.self ≡ replicate (length c.number_words.new.rows) 0 = search rules in
    let marks = marks-are c.args.d c.args.words.now c.args.gone.now c.args.keys.now c.args.rows.now c.args.spare.now c.args.counts.now c.requires c.number_words.new.rows c.fill.new.self c.mark.new.marks c.number_words.auto.rows zeros c.mark.ensures in
    record { by_index = listed-low c.args.d c.args.words.now c.args.gone.now c.args.keys.now c.args.rows.now c.args.spare.now c.args.counts.now c.requires c.number_words.new.counts c.number_words.ensures c.mark.new.marks marks c.list_staying-staying.result c.list_staying-staying.new.list c.number_words.new.spare c.list_staying-staying.ensures.0 c.list_staying-staying.ensures.1; m_in_bounds = (omega (arith, staying-few c.args.d c.args.words.now c.args.gone.now c.args.keys.now c.args.rows.now c.args.spare.now c.args.counts.now c.requires c.number_words.new.counts c.number_words.ensures c.mark.new.marks marks c.list_staying-staying.result c.list_staying-staying.new.list c.number_words.new.spare c.list_staying-staying.ensures.0 c.list_staying-staying.ensures.1, count-few c.args.d c.args.words.now c.args.gone.now c.args.keys.now c.args.rows.now c.args.spare.now c.args.counts.now c.requires, c.list_staying-staying.auto, c.number_words.auto, c.requires.working.spare_long), omega (arith, staying-fits c.args.d c.args.words.now c.args.gone.now c.args.keys.now c.args.rows.now c.args.spare.now c.args.counts.now c.requires c.number_words.new.counts c.number_words.ensures c.mark.new.marks marks c.list_staying-staying.result c.list_staying-staying.new.list c.number_words.new.spare c.list_staying-staying.ensures.0 c.list_staying-staying.ensures.1, keys-enough c.args.d c.args.words.now c.args.gone.now c.args.keys.now c.args.rows.now c.args.spare.now c.args.counts.now c.requires, c.number_words.auto)) }

pub returns : goal.returns
returns c =
    let zeros : c.fill.new.self ≡ replicate (length c.number_words.new.rows) 0 = search rules in
    let marks = marks-are c.args.d c.args.words.now c.args.gone.now c.args.keys.now c.args.rows.now c.args.spare.now c.args.counts.now c.requires c.number_words.new.rows c.fill.new.self c.mark.new.marks c.number_words.auto.rows zeros c.mark.ensures in
    gathered-are c.args.d c.args.words.now c.args.gone.now c.args.keys.now c.args.rows.now c.args.spare.now c.args.counts.now c.requires c.number_words.new.counts c.number_words.ensures c.mark.new.marks marks c.list_staying-staying.result c.list_staying-staying.new.list c.number_words.new.spare c.list_staying-staying.ensures.0 c.list_staying-staying.ensures.1 c.gather.new.to _ c.gather.ensures
