-- `complex_records::border` meets its contract. Assumes nothing.
use Rattle.std.proofs.Common.{◌≡◌, refl, sym, ap, ◌∙◌, ℕ, ◌+◌, List, get_or, arith, add-one}
use Rattle.complex_records.specs.declared.FacetRec.{FacetRec}
use Rattle.complex_records.specs.Record.{no_facet, lone_of, bordering}
use Rattle.complex_records.proofs.Steps.{bordering-most}
use Rattle.complex_records.proofs.border.Goals as goal

more : (records : List FacetRec) (i : ℕ) → bordering (i + 1) records ≡ bordering i records + lone_of (get_or records i no_facet)
unfolding bordering
more records i = rw (add-one i) refl

again : (records : List FacetRec) (c c' i : ℕ) (x : FacetRec) → c ≡ bordering i records → x ≡ get_or records i no_facet → c' ≡ c + lone_of x → c' ≡ bordering (i + 1) records
again records c c' i x v e f = f ∙ ap (λ (k : ℕ). k + lone_of x) v ∙ ap (λ (y : FacetRec). bordering i records + lone_of y) e ∙ sym (more records i)

pub loop-i-init : goal.loop-i-init
unfolding bordering
loop-i-init c = refl

pub bump-count-requires : goal.bump-count-requires
bump-count-requires c = omega (arith, c.loop-i.invariant, bordering-most c.loop-i.i c.args.records.now)

pub loop-i-preserved : goal.loop-i-preserved
loop-i-preserved c = again _ _ _ _ _ c.loop-i.invariant refl c.bump-count.ensures
