-- Writing the children and the births: what each call asks, and that its list stands at the start of the result. Assumes nothing.
use mathlib.Core.List.{List, [], ◌∷◌, ◌++◌, map}
use mathlib.Core.Path.{◌≡◌, refl, sym, ap, ◌∙◌, subst}
use Prim.Native.Nat.{ℕ, suc, ◌+◌, ◌*◌, ◌/◌, ◌<◌, ◌≤◌}
use native.Mathlib.Nat.{suc-mul, le_refl, zero-mul}
use native.Mathlib.Omega.{arith}
use lib.IntN.{ℤ}
use lib.Ieee.{Float}
use lib.ListN.{length, get_or, take, drop, length-append, length-map}
use lib.Seq.{length-take-le, take_at}
use Rattle.refusal.specs.Limits.{square_most}
use Rattle.refusal.specs.Lent.{onto}
use Rattle.lists.specs.Rows.{flat}
use Rattle.sorting.specs.Gather.{rows_of}
use Rattle.sorting.proofs.Rows.{rows_of-pos}
use Rattle.lists.specs.Tables.{tab}
use Rattle.lists.proofs.Tables.{length-tab}
use Rattle.refine_jacobian.specs.Entries.{share_of}
use Rattle.refine_children.specs.WorkFamily.{joined, whole_at, float_at, Families}
use Rattle.refine_children.proofs.Laws.{joined_length}
use Rattle.lists.specs.Words.{none}
use Rattle.refine_births.specs.Support.{supporters, shares, padded}
use Rattle.refine_births.specs.Promise.{Supports, Bearing, birth_vertices_of, birth_weights_of}
use Rattle.refine_results.specs.WorkSteps.{Writing, Wrote, Bears, Bore}

-- what has come back in the first k places is stored at the start
pub stored : {A : Type 0} (l xs ys : List A) (k : ℕ) → ys ≡ l → length l ≡ k → ys ++ drop k xs ≡ onto l xs
stored {A} l xs ys k e h = ap (λ (z : List A). z ++ drop k xs) e ∙ ap (λ (j : ℕ). l ++ drop j xs) (sym h)

-- lists of one length, one after the other
pub flat-size : (size : ℕ) (g : List ℕ → List ℕ) (bs : List (List ℕ)) → ((l : List ℕ) → length (g l) ≡ size) → length (flat (map g bs)) ≡ length bs * size
flat-size size g [] h = sym (zero-mul size)
flat-size size g (b ∷ bs) h = length-append (g b) (flat (map g bs)) ∙ omega (arith, h b, flat-size size g bs h, suc-mul (length bs) size)

pub vertices_size : (size : ℕ) (bs : List (List ℕ)) → length (birth_vertices_of size bs) ≡ length bs * size
vertices_size size bs = flat-size size (λ l. padded size none (supporters 0 l)) bs (λ l. length-tab size (λ j. get_or (supporters 0 l) j none))

pub weights_size : (size : ℕ) (bs : List (List ℕ)) → length (birth_weights_of size bs) ≡ length bs * size
weights_size size bs = flat-size size (λ l. padded size 0 (shares l)) bs (λ l. length-tab size (λ j. get_or (shares l) j 0))

-- ---- the children
module _ (d size m : ℕ) (firsts pattern names sorted along coarse : List ℕ) (long : m ≤ length firsts) (f : Families d size m firsts pattern names sorted along coarse) where
  pub in_sorted : (n : ℕ) → n ≡ suc d → (i : ℕ) → i < m → get_or firsts i 0 * n + n ≤ length sorted
  in_sorted n e i h = subst (λ (k : ℕ). get_or firsts i 0 * k + k ≤ length sorted) (sym e) (omega (arith, (f.each i h).in_sorted, suc-mul (get_or firsts i 0) (suc d)))

  pub in-names : (n : ℕ) → n ≡ suc d → (i : ℕ) → i < m → get_or firsts i 0 * n + n ≤ length names
  in-names n e i h = subst (λ (k : ℕ). get_or firsts i 0 * k + k ≤ length names) (sym e) (omega (arith, (f.each i h).in_words, suc-mul (get_or firsts i 0) (suc d)))

  pub cells_size : length (rows_of sorted (suc d) (take m firsts)) ≡ m * suc d
  cells_size = rows_of-pos sorted (suc d) firsts m m (in_sorted (suc d) refl) (le_refl m) long

  pub words_size : length (rows_of names (suc d) (take m firsts)) ≡ m * suc d
  words_size = rows_of-pos names (suc d) firsts m m (in-names (suc d) refl) (le_refl m) long

  pub parents_size : length (tab m (λ i. get_or firsts i 0 / size)) ≡ m
  parents_size = length-tab m (λ i. get_or firsts i 0 / size)

  pub jacobians_size : (R : ℕ) → length (joined m (λ i. float_at d R size pattern names sorted along coarse (get_or firsts i 0))) ≡ m * square_most
  jacobians_size R = joined_length square_most m (λ i. float_at d R size pattern names sorted along coarse (get_or firsts i 0)) (λ i h. refl)

  pub wholes_size : length (joined m (λ i. whole_at d size pattern names sorted along coarse (get_or firsts i 0))) ≡ m * square_most
  wholes_size = joined_length square_most m (λ i. whole_at d size pattern names sorted along coarse (get_or firsts i 0)) (λ i h. refl)

module _ (d R size m : ℕ) (firsts pattern names sorted along coarse cells words parents : List ℕ) (jacobians : List Float) (wholes : List ℤ)
    (q : Writing d size m firsts pattern names sorted along coarse cells words parents jacobians wholes) (n : ℕ) (e : n ≡ suc d) where
  pub rows-room : (l : List ℕ) → m * suc d ≤ length l → m * n ≤ length l
  rows-room l h = subst (λ (k : ℕ). m * k ≤ length l) (sym e) h

  pub wrote : (cells' words' parents' : List ℕ) (jacobians' : List Float) (wholes' : List ℤ)
      → cells' ≡ rows_of sorted n (take m firsts) ++ drop (m * n) cells → words' ≡ rows_of names n (take m firsts) ++ drop (m * n) words
      → parents' ≡ tab (length (take m parents)) (λ i. get_or firsts i 0 / size)
      → jacobians' ≡ joined m (λ i. float_at d R size pattern names sorted along coarse (get_or firsts i 0))
      → wholes' ≡ joined m (λ i. whole_at d size pattern names sorted along coarse (get_or firsts i 0))
      → Wrote d R size m firsts pattern names sorted along coarse cells cells' words words' parents (parents' ++ drop m parents) jacobians (jacobians' ++ drop (m * square_most) jacobians) wholes (wholes' ++ drop (m * square_most) wholes)
  wrote cells' words' parents' jacobians' wholes' ec ew ep ej eh =
      let l : m ≤ length firsts = q.families.long in
      let f : Families d size m firsts pattern names sorted along coarse = q.families in
      record {
        in_cells = ec ∙ ap (λ (k : ℕ). rows_of sorted k (take m firsts) ++ drop (m * k) cells) e ∙ stored (rows_of sorted (suc d) (take m firsts)) cells (rows_of sorted (suc d) (take m firsts)) (m * suc d) refl (cells_size d size m firsts pattern names sorted along coarse l f);
        in_words = ew ∙ ap (λ (k : ℕ). rows_of names k (take m firsts) ++ drop (m * k) words) e ∙ stored (rows_of names (suc d) (take m firsts)) words (rows_of names (suc d) (take m firsts)) (m * suc d) refl (words_size d size m firsts pattern names sorted along coarse l f);
        in_parents = stored (tab m (λ i. get_or firsts i 0 / size)) parents parents' m (ep ∙ ap (λ (k : ℕ). tab k (λ i. get_or firsts i 0 / size)) (length-take-le m parents q.in_parents)) (parents_size d size m firsts pattern names sorted along coarse l f);
        in_jacobians = stored (joined m (λ i. float_at d R size pattern names sorted along coarse (get_or firsts i 0))) jacobians jacobians' (m * square_most) ej (jacobians_size d size m firsts pattern names sorted along coarse l f R);
        in_wholes = stored (joined m (λ i. whole_at d size pattern names sorted along coarse (get_or firsts i 0))) wholes wholes' (m * square_most) eh (wholes_size d size m firsts pattern names sorted along coarse l f);
      }

-- ---- the births
module _ (d R n count : ℕ) (keys fresh vertices weights : List ℕ) (shares : List Float) (q : Bears d count keys fresh vertices weights shares) (len : ℕ) (e : len ≡ count * suc d) where
  pub bearing : Bearing (suc d) count keys fresh (take len vertices) (take len weights)
  bearing = record {
    small = omega (arith, q.dim);
    fresh_long = q.fresh_long;
    inside = q.inside;
    vertices_long = length-take-le len vertices (omega (arith, q.in_vertices)) ∙ e;
    weights_long = length-take-le len weights (omega (arith, q.in_weights)) ∙ e;
  }

  module _ (vs ws : List ℕ) (lw : length ws ≡ length (take len weights)) where
    whole-weights : length ws ≡ len
    whole-weights = lw ∙ length-take-le len weights (omega (arith, q.in_weights))

    front : take len (ws ++ drop len weights) ≡ ws
    front = take_at ws (drop len weights) len whole-weights

    pub front-size : length (take len (ws ++ drop len weights)) ≡ len
    front-size = ap length front ∙ whole-weights

    pub shares-room : length (take len shares) ≡ length (take len (ws ++ drop len weights))
    shares-room = length-take-le len shares (omega (arith, q.in_shares)) ∙ sym front-size

    pub bore : (ss : List Float) → ss ≡ map (share_of R) (take len (ws ++ drop len weights)) → (bs : List (List ℕ)) → Supports (suc d) n count bs keys fresh → (vs ≡ birth_vertices_of (suc d) bs) × (ws ≡ birth_weights_of (suc d) bs)
        → Bore d R bs vertices (vs ++ drop len vertices) weights (ws ++ drop len weights) shares (ss ++ drop len shares)
    bore ss es bs s (ev, ew) =
        let many : length bs * suc d ≡ len = ap (λ (k : ℕ). k * suc d) s.long ∙ sym e in
        record {
          in_vertices = stored (birth_vertices_of (suc d) bs) vertices vs len ev (vertices_size (suc d) bs ∙ many);
          in_weights = stored (birth_weights_of (suc d) bs) weights ws len ew (weights_size (suc d) bs ∙ many);
          in_shares = stored (map (share_of R) (birth_weights_of (suc d) bs)) shares ss len (es ∙ ap (map (share_of R)) (front ∙ ew)) (length-map (birth_weights_of (suc d) bs) (share_of R) ∙ weights_size (suc d) bs ∙ many);
        }
