-- `complex_records::fill_first` meets its contract. Assumes nothing.
use Rattle.std.proofs.Common.{◌≡◌, refl, sym, ap, ◌∙◌, ℕ, ◌+◌, ◌<◌, List, ◌++◌, length, set, drop, arith, add-one}
use Rattle.complex_records.specs.declared.FacetRec.{FacetRec}
use Rattle.complex_records.specs.Record.{record_at, first_records}
use Rattle.complex_records.proofs.Steps.{written}
use Rattle.complex_records.proofs.fill_first.Goals as goal

again : (flat : List ℕ) (records rs rs' : List FacetRec) (i : ℕ) → i < length records → rs ≡ first_records i flat ++ drop i records → rs' ≡ set rs i (record_at flat i) → rs' ≡ first_records (i + 1) flat ++ drop (i + 1) records
again flat records rs rs' i h v e =
    e ∙ ap (λ (l : List FacetRec). set l i (record_at flat i)) v ∙ written flat records i h ∙ ap (λ (j : ℕ). first_records j flat ++ drop j records) (sym (add-one i))

pub loop-i-init : goal.loop-i-init
unfolding first_records
loop-i-init c = refl

pub loop-i-preserved : goal.loop-i-preserved
loop-i-preserved c = again _ _ _ _ _ (omega (arith, c.requires.0)) c.loop-i.invariant c.store_at.ensures
