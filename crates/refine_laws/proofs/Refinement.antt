-- What a refinement is: every cell is split, every child has its parent, every vertex is used and counted once. Any dimension, whether the words agree or not.
-- Assumes nothing.
use mathlib.Core.Path.{◌≡◌, sym, ap, ◌∙◌}
use mathlib.Core.List.{List, [], Memᴰ}
use Prim.Native.Nat.{ℕ, suc, ◌*◌, ◌≤◌, ◌<◌}
use native.Mathlib.Omega.{arith}
use lib.Dec.{ltb, lt→ltb}
use lib.ListN.{get_or, length-map}
use Rattle.complex.specs.Cells.{cells_of}
use Rattle.complex.specs.Check.{Passed}
use Rattle.complex.proofs.Fine.{fine-passed}
use Rattle.ordering_words.specs.Order.{Orders}
use Rattle.refine_lattice.specs.Lattice.{weights}
use Rattle.lists.specs.Tables.{sum}
use Rattle.lists.specs.Words.{same}
use Rattle.refine_lattice.specs.Complex.{occurrences, weigh}
use Rattle.refine_lattice.specs.Children.{children}
use Rattle.refine_lattice.specs.Refine.{vertices, share, In}
use Rattle.refine_lattice.specs.Conform.{Used, Sound}
use Rattle.lists.proofs.Sums.{sum-ext}
use Rattle.refine_lattice.proofs.After.{total-weight}
use Rattle.refine_lattice.proofs.Enumerate.{place-of, mem-of-child}
use Rattle.refine_lattice.proofs.Count.{Nodup}
use Rattle.refine_lattice.proofs.Pattern.{child-corners, corner-long, corner-falls}
use Rattle.refine_lattice.proofs.Refines.{yes-pick}
use Rattle.refine_results.specs.Refined.{coarse, order_words, refined_cells, refined_words, parent_of}
use Rattle.refine_laws.specs.Refinement.{Split, Counted}
use Rattle.refine_laws.specs.Composition.{Accepted}
use Rattle.refine_laws.proofs.Listed.{Listed, counts-at, number_of}
use Rattle.refine_laws.proofs.Facets.{listed-nodup}
use Rattle.refine_laws.proofs.Checked.{cells-listed, order-listed, sound-of}
use Rattle.refine_laws.proofs.Renaming.{told}
use Rattle.refine_laws.proofs.Again.{refined-listed, sorted-sound, sorted-refined, cells-many}
use Rattle.refine_laws.proofs.Parents.{has-parent, has-child, so-many-children}

-- a coarse vertex keeps its whole share
pub share-old : (d R n : ℕ) (ks : List (List ℕ)) (x : ℕ) → x < n → (v : ℕ) → share d R n ks x v ≡ R * same x v
share-old d R n ks x h v = yes-pick (ltb x n) (R * same x v) _ (lt→ltb x n h)

module _ (d R n : ℕ) (ks : List (List ℕ)) (pos-R : 0 < R) (sound : Sound d n (In ks)) (nodup : Nodup ks) where
  abbrev cs : List (List ℕ)
  cs = refined_cells d R n ks

  listed : Listed d (vertices d R n ks) (refined_cells d R n ks) (refined_words d R n ks)
  listed = refined-listed d R n ks pos-R sound nodup

  after : Sound d (vertices d R n ks) (In (refined_words d R n ks))
  after = sorted-sound d R n ks pos-R sound nodup

  pub split : Split d R n ks
  split = record {
    many = cells-many d R n ks pos-R sound nodup;
    listed = length-map cs (parent_of d R n ks);
    each = so-many-children d R n ks pos-R sound nodup;
    parent = has-parent d R n ks pos-R sound nodup;
    child = has-child d R n ks pos-R sound nodup;
    sorts = listed.sorts;
    apart = listed.apart;
  }

  -- the shares of a corner of a child
  total : (x : ℕ) → x < vertices d R n ks → sum n (share d R n ks x) ≡ R
  unfolding Used
  total x h =
      let (w, m, p) = after.used x h in
      let (k, c, in_K, child, names) = (sorted-refined d R n ks pos-R sound nodup).each w m in
      let (i, b, e) = place-of w x p in
      let in_c : Memᴰ c (children d R) = mem-of-child d R c child in
      let g : i < suc d = omega (arith, names.long, child-corners d R c in_c) in
      sum-ext n (share d R n ks x) (weigh k (weights R (get_or c i [])))
      (λ v l. ap (λ (y : ℕ). share d R n ks y v) (sym e) ∙ names.shares i (omega (arith, names.long)) v)
      ∙ total-weight n k (get_or c i []) R (sound.complex.long k in_K ∙ ap suc (sym (corner-long d R c in_c i g))) (corner-falls d R c in_c i g)
      (sound.complex.below k in_K)

  pub counted : Counted d R n ks
  unfolding Used
  counted = record {
    within = λ i h x p. listed.below i h x p;
    used = λ x h.
        let (w, m, p) = after.used x h in
        let (i, b, e) = number_of d (vertices d R n ks) cs (refined_words d R n ks) listed w m in
        (i, b, omega (arith, counts-at d (vertices d R n ks) cs (refined_words d R n ks) listed i b x, ap (λ (u : List ℕ). occurrences u x) e));
    old = share-old d R n ks;
    whole = total;
    once = told d (vertices d R n ks) (In (refined_words d R n ks)) (share d R n ks) after.complex after.used (sorted-refined d R n ks pos-R sound nodup).one;
  }

-- of an accepted complex, along any order or along its cells
pub refinement : (d R : ℕ) (ws os : List ℕ) → Accepted d ws → Orders d (cells_of d ws) os → 1 ≤ R
    → Split d R (coarse ws) (order_words d ws os) × Counted d R (coarse ws) (order_words d ws os)
refinement d R ws os acc ord h =
    let p : Passed d ws = fine-passed d ws acc.fine in
    let ks : List (List ℕ) = order_words d ws os in
    let l : Listed d (coarse ws) (cells_of d ws) ks = order-listed d ws p os ord in
    let s : Sound d (coarse ws) (In ks) = sound-of d ws p ks l acc.uncrowded in
    let m : Nodup ks = listed-nodup d (coarse ws) (cells_of d ws) ks l in
    (split d R (coarse ws) ks h s m, counted d R (coarse ws) ks h s m)

pub refinement-sorted : (d R : ℕ) (ws : List ℕ) → Accepted d ws → 1 ≤ R → Split d R (coarse ws) (cells_of d ws) × Counted d R (coarse ws) (cells_of d ws)
refinement-sorted d R ws acc h =
    let p : Passed d ws = fine-passed d ws acc.fine in
    let ks : List (List ℕ) = cells_of d ws in
    let l : Listed d (coarse ws) ks ks = cells-listed d ws p in
    let s : Sound d (coarse ws) (In ks) = sound-of d ws p ks l acc.uncrowded in
    let m : Nodup ks = listed-nodup d (coarse ws) ks ks l in
    (split d R (coarse ws) ks h s m, counted d R (coarse ws) ks h s m)
