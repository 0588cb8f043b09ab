-- `refine_children::colex` meets its contract: the words sorted are a table, and its distinct rows are the cells.
use mathlib.Core.Path.{sym, ap, ◌∙◌, subst}
use mathlib.Core.List.{List}
use Prim.Native.Nat.{ℕ, ◌-◌}
use native.Mathlib.Omega.{arith}
use lib.ListN.{length}
use Rattle.multiindex.specs.Sort.{sort_words}
use Rattle.multiindex.proofs.WordsLaws.{words-length}
use Rattle.sorting.specs.Order.{Table}
use Rattle.refine_children.proofs.Laws.{sorted-table}
use Rattle.refine_children.proofs.colex.Goals as goal

pub sort_rows-requires : goal.sort_rows-requires
sort_rows-requires c =
    let p = c.requires in
    let e = c.sort_words.ensures ∙ ap (sort_words c.args.n c.args.count) c.copy.ensures in record { table = subst (λ (l : List ℕ). Table l c.args.n c.args.count c.args.b) (sym e) (sorted-table c.args.n c.args.count c.args.b c.args.words.now p.some p.whole p.low p.few); n_in_bounds = (p.order_long, p.firsts_long, p.buckets_long) }

pub distinct-requires : goal.distinct-requires
distinct-requires c =
    let p = c.requires in
    let e = c.sort_words.ensures ∙ ap (sort_words c.args.n c.args.count) c.copy.ensures in
    let k = c.sort_rows.auto in record { sorted = c.sort_rows.ensures.sorted; n_bound = (p.few, omega (arith, ap length e, words-length c.args.n c.args.count c.args.words.now, p.whole), omega (arith, p.order_long, k), omega (arith, p.firsts_long, k), omega (arith, p.classes_long, k)) }

pub returns : goal.returns
returns c =
    record {
      ids = c.distinct.new.ids;
      keys = c.sort_words.ensures ∙ ap (sort_words c.args.n c.args.count) c.copy.ensures;
      distinct = c.distinct.ensures.distinct;
    }
