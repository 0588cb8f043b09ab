-- A complex with coherent signs, whose words agree on facets, refined by R: the inherited signs are coherent. The cells' words with their signs are lattice's `Signs`,
-- each child's word descends from its parent's, and lattice's theorem that descending keeps the signs coherent is read back at the children's cells. Assumes nothing.
use Rattle.refusal.specs.declared.Refusal.{Refusal}
use Rattle.std.specs.Prelude.{Result}
use mathlib.Core.Bool.{cond}
use mathlib.Core.Path.{◌≡◌, refl, sym, ap, ◌∙◌, subst}
use mathlib.Core.Logic.{◌≢◌, ◌⊎◌}
use mathlib.Core.List.{List, []}
use Prim.Native.Nat.{ℕ, suc, ◌+◌, ◌*◌, ◌/◌, ◌%◌, ◌≤◌, ◌<◌}
use native.Mathlib.Nat.{mul-le-mul_left}
use native.Mathlib.Omega.{arith}
use lib.Dec.{ltb}
use lib.IntN.{ℤ, pos, negsuc, ◌*ℤ◌}
use lib.ListN.{length, get_or}
use Rattle.lists.proofs.Tables.{get_or-tab}
use Rattle.multiindex.specs.Sort.{inversions}
use Rattle.lists.proofs.Rows.{row-div, row-mod}
use Rattle.refusal.specs.Limits.{most_dimension}
use Rattle.lists.proofs.Laws.{map_at}
use Rattle.multiindex.specs.Sign.{Sign, times, induced, sign_number}
use Rattle.complex.specs.Facets.{cell_at}
use Rattle.orientation_signs.specs.Signs.{Coherent}
use Rattle.refine_lattice.specs.Complex as lattice
use Rattle.refine_lattice.specs.Refine.{words, vertices, share, In}
use Rattle.refine_lattice.specs.Conform.{Meet}
use Rattle.refine_lattice.specs.Signs.{Signs, Odd, CoherentByRank, rank}
use Rattle.refine_lattice.specs.Jacobian.{Matrix, Sorted, jacobian, laplace, Descends}
use Rattle.refine_lattice.proofs.Enumerate.{times-at, place-of}
use Rattle.refine_lattice.proofs.Fits.{Stage}
use Rattle.refine_lattice.proofs.Jacobian.{determinant}
use Rattle.refine_lattice.proofs.Laplace.{is-determinant}
use Rattle.refine_lattice.proofs.Descent.{unimodular}
use Rattle.refine_lattice.proofs.Final.{children-inherit}
use Rattle.refine_jacobian.specs.Entries.{whole_of}
use Rattle.refine_jacobian.proofs.Laws.{corner-in, entry_in}
use Rattle.refine_results.specs.Refined.{refined_cells, refined_words, parent_of, parents}
use Rattle.refine_results.specs.Results.{Results, results_of}
use Rattle.refine_values.specs.declared.Child.{Child}
use Rattle.refine_values.proofs.Handed.{child-handed}
use Rattle.refine_laws.specs.Refinement.{Split}
use Rattle.refine_laws.proofs.Listed.{Listed, counts-at, long-at, plain_at, word_in, one_cell, meets, mates-of}
use Rattle.refine_laws.proofs.Again.{facets-of, refined-listed, of_sorted}
use Rattle.refine_laws.proofs.Refinement.{split}
use Rattle.refine_direction.specs.Direction.{matrix_of, determinant_of, sign_of_whole, inherited, child_said}
use Rattle.refine_direction.proofs.Ranks.{rank-place}
use Rattle.refine_direction.proofs.Parity.{bit, induced-bit, induced-even, opposed-odd, odd-opposed, flips-induced, product}

-- the entries of a child's Jacobian hold it
holds : (d : ℕ) → d ≤ most_dimension → (share : ℕ → ℕ → ℕ) (p m : List ℕ) (c r : ℕ) → c < d → r < d → matrix_of d (whole_of d share p m) c r ≡ jacobian share p m c r
holds d s share p m c r h k =
    let e : ℕ = c * d + r in
    let b : c * d + r < d * d = corner-in c r d d h k in
    let q : d * d ≤ d * most_dimension = mul-le-mul_left d s in
    get_or-tab 9 (λ e. cond (ltb e (d * d)) (jacobian share p m (e / d) (e % d)) (pos 0)) (c * d + r) (pos 0) (omega arith)
    ∙ sym (entry_in d (c * d + r) (jacobian share p m ((c * d + r) / d) ((c * d + r) % d)) (pos 0) b)
    ∙ ap (λ (x : ℕ). jacobian share p m x ((c * d + r) % d)) (row-div c r d k)
    ∙ ap (jacobian share p m c) (row-mod c r d k)

-- a word's vertices sorted
sorted-at : (d n : ℕ) (cs ks : List (List ℕ)) (l : Listed d n cs ks) (c : ℕ) → c < length cs → Sorted (cell_at ks c) (cell_at cs c)
sorted-at d n cs ks l c h = record { long = l.long c h ∙ sym (long-at d n cs ks l c h); rises = l.rises c h; counts = counts-at d n cs ks l c h }

word-rank : (d n : ℕ) (cs ks : List (List ℕ)) (l : Listed d n cs ks) (c i : ℕ) → c < length cs → i ≤ d → rank (cell_at ks c) (get_or (cell_at cs c) i 0) ≡ i
word-rank d n cs ks l c i h b = rank-place (cell_at ks c) (cell_at cs c) (l.sorts c h) (l.rises c h) i (omega (arith, l.long c h))

module _ (d R n : ℕ) (cs ks : List (List ℕ)) (l : Listed d n cs ks) (stage : Stage d n ks) (σ : ℕ → Sign) (co : Coherent d cs σ) (small : d ≤ most_dimension) (some : 0 < R) where
  -- ---- the coarse words with their cells' signs
  abbrev S : Signs
  S k s = (c : ℕ) × (c < length cs) × (cell_at ks c ≡ k) × (induced s ≡ σ c)

  across-at : 0 < d → (c c' s r : ℕ) → c < length cs → c' < length cs → induced s ≡ σ c → induced r ≡ σ c' → (i j : ℕ) → i < suc d → j < suc d
      → cell_at ks c ≢ cell_at ks c' → Meet (cell_at ks c) (get_or (cell_at ks c) i 0) (cell_at ks c') (get_or (cell_at ks c') j 0)
      → Odd (s + rank (cell_at ks c) (get_or (cell_at ks c) i 0) + (r + rank (cell_at ks c') (get_or (cell_at ks c') j 0)))
  across-at pd c c' s r h h' f f' i j bi bj q w =
      let k : List ℕ = cell_at ks c in
      let k' : List ℕ = cell_at ks c' in
      let (a, a', t, t', m) =
      mates-of d n cs ks l pd c c' (get_or k i 0) (get_or k' j 0) h h' (times-at k i (omega (arith, long-at d n cs ks l c h))) (times-at k' j (omega (arith, long-at d n cs ks l c' h')))
      (λ e. q (ap (cell_at ks) e)) w in
      let u : rank k (get_or k i 0) ≡ a = ap (rank k) (sym t) ∙ word-rank d n cs ks l c a h m.this.place in
      let u' : rank k' (get_or k' j 0) ≡ a' = ap (rank k') (sym t') ∙ word-rank d n cs ks l c' a' h' m.that.place in
      subst (λ (x : ℕ). Odd (s + x + (r + rank k' (get_or k' j 0)))) (sym u)
      (subst (λ (x : ℕ). Odd (s + a + (r + x))) (sym u') (opposed-odd (σ c) (σ c') s r f f' a a' (co.opposed c a c' a' m)))

  oriented : CoherentByRank d S
  oriented = record {
    one = λ k s r x y.
        let (c, h, e, f) = x in
        let (c', h', e', f') = y in
        let q : c ≡ c' = one_cell d n cs ks l c c' h h' (λ v. ap (λ (w : List ℕ). lattice.occurrences w v) (e ∙ sym e')) in
        induced-even s r (f ∙ ap σ q ∙ sym f');
    across = λ pd k k' s r x y q i j bi bj w.
        let (c, h, e, f) = x in
        let (c', h', e', f') = y in
        subst (λ (z : List ℕ). z ≢ k' → Meet z (get_or z i 0) k' (get_or k' j 0) → Odd (s + rank z (get_or z i 0) + (r + rank k' (get_or k' j 0)))) e
        (subst (λ (z : List ℕ). cell_at ks c ≢ z → Meet (cell_at ks c) (get_or (cell_at ks c) i 0) z (get_or z j 0) → Odd (s + rank (cell_at ks c) (get_or (cell_at ks c) i 0) + (r + rank z (get_or z j 0)))) e'
        (across-at pd c c' s r h h' f f' i j bi bj)) q w;
  }

  in-S : (k : List ℕ) (s : ℕ) → S k s → In ks k
  in-S k s x = let (c, h, e, f) = x in subst (In ks) e (word_in d n cs ks l c h)

  -- ---- the children
  abbrev h : Results
  h = results_of d R n cs ks

  abbrev rcs : List (List ℕ)
  rcs = refined_cells d R n ks

  abbrev rws : List (List ℕ)
  rws = refined_words d R n ks

  fine : Listed d (vertices d R n ks) (refined_cells d R n ks) (refined_words d R n ks)
  fine = refined-listed d R n ks some stage.sound stage.nodup

  parts : Split d R n ks
  parts = split d R n ks some stage.sound stage.nodup

  module _ (i : ℕ) (b : i < length rcs) where
    abbrev p : ℕ
    p = get_or (parents d R n ks) i 0

    below : get_or (parents d R n ks) i 0 < length cs
    below = omega (arith, parts.parent i b, l.many)

    abbrev J : Matrix
    J = jacobian (share d R n ks) (cell_at cs p) (cell_at rcs i)

    parent_is : parent_of d R n ks (cell_at rcs i) ≡ get_or (parents d R n ks) i 0
    parent_is = sym (map_at (parent_of d R n ks) rcs i [] 0 b)

    determinant-is : determinant_of d h i ≡ laplace d J
    determinant-is =
        ap (λ (o : Result Child Refusal). laplace d (matrix_of d (child_said o).whole)) (child-handed d R n cs ks i b)
        ∙ ap (λ (q : ℕ). laplace d (matrix_of d (whole_of d (share d R n ks) (cell_at cs q) (cell_at rcs i)))) parent_is
        ∙ (is-determinant d).reads (matrix_of d (whole_of d (share d R n ks) (cell_at cs p) (cell_at rcs i))) J
        (λ c r. holds d small (share d R n ks) (cell_at cs p) (cell_at rcs i) c r)

    inherited-is : inherited d h σ i ≡ times (σ p) (sign_of_whole (laplace d J))
    inherited-is =
        ap (λ (o : Result Child Refusal). times (σ (child_said o).parent) (sign_of_whole (determinant_of d h i))) (child-handed d R n cs ks i b)
        ∙ ap (λ (q : ℕ). times (σ q) (sign_of_whole (determinant_of d h i))) parent_is
        ∙ ap (λ (x : ℤ). times (σ p) (sign_of_whole x)) determinant-is

    unit-here : (laplace d J ≡ pos 1) ⊎ (laplace d J ≡ negsuc 0)
    unit-here =
        let (c, child, names) = parts.child i b in
        subst (λ (x : ℤ). (x ≡ pos 1) ⊎ (x ≡ negsuc 0))
        (sym (determinant d R (share d R n ks) (cell_at ks p) (cell_at rws i) (long-at d n cs ks l p below) (plain_at d n cs ks l p below) c child names (cell_at cs p) (cell_at rcs i)
        (sorted-at d n cs ks l p below) (sorted-at d (vertices d R n ks) rcs rws fine i b) (laplace d) (is-determinant d)))
        (unimodular (inversions (cell_at ks p) + inversions child.order + inversions (cell_at rws i)))

    -- each determinant is 1 or -1
    pub unit-at : (determinant_of d (results_of d R n cs ks) i ≡ pos 1) ⊎ (determinant_of d (results_of d R n cs ks) i ≡ negsuc 0)
    unit-at = subst (λ (x : ℤ). (x ≡ pos 1) ⊎ (x ≡ negsuc 0)) (sym determinant-is) unit-here

    -- the word of child i descends from that of its parent
    descends : (s : ℕ) → induced s ≡ inherited d h σ i → Descends d R (In ks) (In (words d R n ks)) (share d R n ks) S (cell_at rws i) s
    descends s e =
        let (c, child, names) = parts.child i b in
        record {
          k = cell_at ks p;
          c = c;
          in_K = word_in d n cs ks l p below;
          in_M = of_sorted d R n ks some stage.sound stage.nodup (cell_at rws i) (word_in d (vertices d R n ks) rcs rws fine i b);
          child = child;
          names = names;
          parent = cell_at cs p;
          parent_is = sorted-at d n cs ks l p below;
          cell = cell_at rcs i;
          cell_is = sorted-at d (vertices d R n ks) rcs rws fine i b;
          sign = bit (σ p);
          signed = (p, below, refl, induced-bit (σ p));
          is =
              flips-induced s ∙ ap sign_number (e ∙ inherited-is) ∙ product (σ p) (laplace d J) unit-here
              ∙ ap (λ (x : ℤ). x *ℤ laplace d J) (sym (flips-induced (bit (σ p)) ∙ ap sign_number (induced-bit (σ p))));
        }

  directed : CoherentByRank d (Descends d R (In ks) (In (words d R n ks)) (share d R n ks) S)
  directed = children-inherit d R n ks some stage S in-S (facets-of d (In ks) stage.facewise) oriented

  -- a vertex of a child's cell stands in its word
  seat-in : (c i : ℕ) → c < length rcs → i ≤ d → (a : ℕ) × (a < suc d) × (get_or (cell_at rws c) a 0 ≡ get_or (cell_at rcs c) i 0)
  seat-in c i b q =
      let N : ℕ = vertices d R n ks in
      let x : ℕ = get_or (cell_at rcs c) i 0 in
      let (a, g, e) = place-of (cell_at rws c) x (omega (arith, counts-at d N rcs rws fine c b x, times-at (cell_at rcs c) i (omega (arith, fine.long c b)))) in
      (a, omega (arith, long-at d N rcs rws fine c b), e)

  pub children-coherent : Coherent d (refined_cells d R n ks) (inherited d (results_of d R n cs ks) σ)
  children-coherent = record {
    opposed = λ c i c' i' m.
        let N : ℕ = vertices d R n ks in
        let k : List ℕ = cell_at rws c in
        let k' : List ℕ = cell_at rws c' in
        let b : c < length rcs = m.this.cell in
        let b' : c' < length rcs = m.that.cell in
        let a : Sign = inherited d h σ c in
        let a' : Sign = inherited d h σ c' in
        let (j, hj, e) = seat-in c i b m.this.place in
        let (j', hj', e') = seat-in c' i' b' m.that.place in
        let w : Meet k (get_or k j 0) k' (get_or k' j' 0) =
        subst (λ (x : ℕ). Meet k x k' (get_or k' j' 0)) (sym e) (subst (λ (x : ℕ). Meet k (get_or (cell_at rcs c) i 0) k' x) (sym e') (meets d N rcs rws fine c i c' i' m)) in
        let o : Odd (bit a + rank k (get_or k j 0) + (bit a' + rank k' (get_or k' j' 0))) =
        directed.across m.this.some k k' (bit a) (bit a') (descends c b (bit a) (induced-bit a)) (descends c' b' (bit a') (induced-bit a'))
        (λ q. m.apart (one_cell d N rcs rws fine c c' b b' (λ v. ap (λ (z : List ℕ). lattice.occurrences z v) q))) j j' hj hj' w in
        odd-opposed a a' (bit a) (bit a') (induced-bit a) (induced-bit a') i i'
        (subst (λ (x : ℕ). Odd (bit a + x + (bit a' + i'))) (ap (rank k) e ∙ word-rank d N rcs rws fine c i b m.this.place)
        (subst (λ (x : ℕ). Odd (bit a + rank k (get_or k j 0) + (bit a' + x))) (ap (rank k') e' ∙ word-rank d N rcs rws fine c' i' b' m.that.place) o));
  }
