-- The weights before place j are written, and the coordinates from there on fall from the last one passed. Assumes nothing.
use mathlib.Core.Path.{◌≡◌, sym, ◌∙◌}
use mathlib.Core.List.{List}
use Prim.Native.Nat.{ℕ, suc, ◌≤◌}
use native.Mathlib.Omega.{arith}
use native.Mathlib.Nat.{le_of_eq}
use lib.ListN.{set, length}
use Rattle.refine_lattice.specs.Lattice.{weights}
use Rattle.refine_lattice.proofs.Weights.{length-weights}
use Rattle.refine_pattern.proofs.Points.{goes_on, not-above, weights-step, weights-end}
use Rattle.refine_pattern.proofs.Written.{written-put, written-whole}
use Rattle.refine_pattern.proofs.weigh.Goals as goal

-- the weights fill the list
filled : (r : ℕ) (s to : List ℕ) → length to ≡ suc (length s) → length to ≡ length (weights r s)
filled r s to e = e ∙ sym (length-weights r s)

fitting : (r : ℕ) (s to : List ℕ) → length to ≡ suc (length s) → length (weights r s) ≤ length to
fitting r s to e = le_of_eq (sym (filled r s to e))

pub loop-j-preserved : goal.loop-j-preserved
loop-j-preserved c =
    let s = c.args.s.now in
    let high = not-above c.loop-j.top s c.loop-j.j (omega arith) c.loop-j.invariant.falls in
    record {
      falls = sym (goes_on c.loop-j.top s c.loop-j.j (omega arith) high) ∙ c.loop-j.invariant.falls;
      written = written-put _ _ _ _ _ (fitting _ _ _ c.requires.1) c.loop-j.invariant.written _ _ (weights-step c.loop-j.top s c.loop-j.j (omega arith));
    }

pub returns : goal.returns
returns c =
    let e : length c.args.s.now ≡ c.loop-j.j = omega arith in
    let done : set c.loop-j.to c.loop-j.j c.loop-j.top ≡ weights c.args.r c.args.s.now =
    written-whole _ _ _ _ (filled _ _ _ c.requires.1) (written-put _ _ _ _ _ (fitting _ _ _ c.requires.1) c.loop-j.invariant.written _ _ (weights-end c.loop-j.top c.args.s.now c.loop-j.j (omega arith))) in
    rw e done
