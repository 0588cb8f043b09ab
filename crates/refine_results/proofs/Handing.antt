-- The results of a refinement from the children's words in colex order: each result list is what is written, and so the refinement ends as it is promised. Assumes nothing.
use Rattle.refusal.specs.declared.Refusal.{Refusal}
use Rattle.refusal.specs.declared.Refusal.TheVariants.{TooShort}
use Rattle.std.specs.Prelude.{Err, Result}
use mathlib.Core.Bool.{Bool, true, false}
use mathlib.Core.List.{List, [], ◌∷◌, ◌++◌, map, append_assoc, append-nil}
use mathlib.Core.Path.{◌≡◌, refl, sym, ap, ◌∙◌, subst}
use Prim.Native.Nat.{ℕ, zero, suc, ◌+◌, ◌*◌, ◌/◌, ◌^◌, ◌<◌, ◌≤◌}
use native.Mathlib.Omega.{arith}
use lib.IntN.{ℤ}
use lib.Ieee.{Float}
use lib.ListN.{length, get_or, take, length-map}
use Rattle.refusal.specs.Lent.{onto}
use Rattle.lists.specs.Rows.{cut, flat, row}
use Rattle.lists.proofs.Laws.{map_at}
use Rattle.lists.proofs.Rows.{cut-length, cut_at}
use Rattle.sorting.specs.Gather.{rows_of}
use Rattle.lists.specs.Tables.{tab}
use Rattle.multiindex.specs.Sort.{sort_word}
use Rattle.multiindex.proofs.WordsLaws.{words-length}
use Rattle.complex.specs.Cells.{in_order}
use Rattle.complex.specs.Facets.{cell_at}
use Rattle.ordering_words.specs.Order.{by_cell}
use Rattle.refine_lattice.specs.Children.{gather}
use Rattle.refine_lattice.specs.Refine.{births, words, share}
use Rattle.lists.proofs.Tables.{list-tab}
use Rattle.refine_jacobian.specs.Entries.{share_of, whole_of, float_of}
use Rattle.refine_children.specs.WorkColex.{Arranging, Arranged}
use Rattle.refine_children.specs.WorkFamily.{joined, whole_at, float_at, Families}
use Rattle.refine_births.specs.Promise.{Supports, birth_weights_of}
use Rattle.refine_results.specs.declared.Refinement.{Refinement}
use Rattle.refine_results.specs.Says.{sizes}
use Rattle.refine_results.specs.Refined.{visit_of, refined_cells, refined_words, parent_of, parents, wholes, jacobians}
use Rattle.refine_results.specs.Results.{Results, Lengths, Holds, Refines, Finishes, outside, many_cells, many_vertices, short, made, nothing, results_of, lengths_of}
use Rattle.refine_results.specs.WorkStage.{Handed}
use Rattle.refine_results.specs.WorkSteps as steps
use Rattle.refine_results.specs.WorkSteps.{Sought, Sized, Fits, Writing, Wrote, Bears, Bore, Finishing}
use Rattle.refine_results.proofs.Firsts as first-words
use Rattle.refine_results.proofs.Seats as seats
use Rattle.refine_results.proofs.Writing as writing

-- a function on the cells of a list, by their numbers
map-tab : (f : List ℕ → ℕ) (cs : List (List ℕ)) (k : ℕ) (g : ℕ → ℕ) → length cs ≡ k → ((i : ℕ) → i < k → f (get_or cs i []) ≡ g i) → map f cs ≡ tab k g
map-tab f cs k g e h = list-tab k (map f cs) g 0 (length-map cs f ∙ e) (λ i l. map_at f cs i [] 0 (omega arith) ∙ h i l)

module _ {A : Type 0} where
  joined-front : (k : ℕ) (g : ℕ → List A) → joined (suc k) g ≡ g 0 ++ joined k (λ i. g (suc i))
  joined-front zero g = sym (append-nil (g 0))
  joined-front (suc k) g =
      ap (λ (l : List A). l ++ g (suc k)) (joined-front k g) ∙ append_assoc (g 0) (joined k (λ i. g (suc i))) (g (suc k))

  gather-joined : (f : List ℕ → List A) (cs : List (List ℕ)) (k : ℕ) (g : ℕ → List A) → length cs ≡ k → ((i : ℕ) → i < k → f (get_or cs i []) ≡ g i) → gather f cs ≡ joined k g
  gather-joined f [] zero g e h = refl
  gather-joined f [] (suc k) g e h = absurd (omega arith)
  gather-joined f (c ∷ cs) zero g e h = absurd (omega arith)
  gather-joined f (c ∷ cs) (suc k) g e h =
      ap (λ (l : List A). l ++ gather f cs) (h 0 (omega arith))
      ∙ ap (λ (l : List A). g 0 ++ l) (gather-joined f cs k (λ i. g (suc i)) (omega arith) (λ i l. h (suc i) (omega arith)))
      ∙ sym (joined-front k g)

-- one more than d and the number of children of a cell, as they are computed
pub arranged : (d m R k s : ℕ) (names sorted firsts : List ℕ) (kinds : ℕ) → k ≡ suc d → s ≡ R ^ d → Arranged k (m * s) names kinds sorted firsts → Arranged (suc d) (m * R ^ d) names kinds sorted firsts
arranged d m R k s names sorted firsts kinds ek es a =
    subst (λ (x : ℕ). Arranged (suc d) (m * x) names kinds sorted firsts) es (subst (λ (x : ℕ). Arranged x (m * s) names kinds sorted firsts) ek a)

module _ (d R n m born : ℕ) (cells along pattern keys rows fresh names sorted₀ firsts₀ buckets : List ℕ) (q : Finishing d R n m born cells along pattern keys rows fresh names sorted₀ firsts₀ buckets) where
  pub arranging : (k : ℕ) → k ≡ suc d → (s : ℕ) → s ≡ R ^ d → Arranging k (m * s) (n + born) names sorted₀ rows firsts₀ buckets
  arranging k ek s es =
      subst (λ (x : ℕ). Arranging x (m * s) (n + born) names sorted₀ rows firsts₀ buckets) (sym ek)
      (subst (λ (x : ℕ). Arranging (suc d) (m * x) (n + born) names sorted₀ rows firsts₀ buckets) (sym es)
      (record {
        some = omega arith;
        whole = q.named;
        low = q.below;
        few = omega (arith, q.few_cells);
        sorted_long = q.sorted_long;
        order_long = q.rows_long;
        firsts_long = q.firsts_long;
        buckets_long = q.buckets_long;
        classes_long = q.classes_long;
      }))

  refines : Refines d R n (cut (suc d) m along)
  refines = record {
    least = q.refining.some;
    most = q.refining.most;
    few_cells = omega (arith, q.few_cells, ap (λ (x : ℕ). x * R ^ d) (cut-length (suc d) m along));
    few_vertices = omega (arith, q.few_vertices, q.supports.long);
  }

  module _ (kinds : ℕ) (sorted firsts : List ℕ) (a : Arranged (suc d) (m * R ^ d) names kinds sorted firsts) (lf : length firsts ≡ length firsts₀) where
    are : cut (suc d) (m * R ^ d) names ≡ words d R n (cut (suc d) m along)
    are = q.refining.names_are

    pub few : kinds ≤ m * R ^ d
    few = a.distinct.few

    pub long : kinds ≤ length firsts
    long = omega (arith, few, q.firsts_long)

    some : 0 < suc d
    some = omega arith

    pub many : length (refined_cells d R n (cut (suc d) m along)) ≡ kinds
    many = ap (λ (l : List (List ℕ)). length (in_order (suc d) l)) (sym are) ∙ first-words.cells-many (suc d) (m * R ^ d) names sorted firsts kinds some q.named long a

    at : (i : ℕ) → i < kinds → get_or firsts i 0 < m * R ^ d
    at i h = a.distinct.below i h

    row_of : (i : ℕ) → i < kinds → row sorted (suc d) (get_or firsts i 0) ≡ sort_word (row names (suc d) (get_or firsts i 0))
    row_of i h = first-words.sorted-row (suc d) (m * R ^ d) names sorted firsts kinds some q.named long a (get_or firsts i 0) (at i h)

    pub families : Families d (R ^ d) kinds firsts pattern names sorted along cells
    families = record {
      long = long;
      each = λ i h. seats.family d R n m along cells pattern names q.refining (get_or firsts i 0) (at i h) sorted (row_of i h)
          (omega (arith, q.named, ap length a.keys, words-length (suc d) (m * R ^ d) names));
    }

    -- the cell of number i
    cell-at : (i : ℕ) → i < kinds → get_or (refined_cells d R n (cut (suc d) m along)) i [] ≡ row sorted (suc d) (get_or firsts i 0)
    cell-at i h =
        ap (λ (l : List (List ℕ)). get_or (in_order (suc d) l) i []) (sym are)
        ∙ first-words.cell_is (suc d) (m * R ^ d) names sorted firsts kinds some q.named long a i h
        ∙ sym (row_of i h)

    parent-at : (i : ℕ) → i < kinds → parent_of d R n (cut (suc d) m along) (get_or (refined_cells d R n (cut (suc d) m along)) i []) ≡ get_or firsts i 0 / R ^ d
    parent-at i h =
        ap (λ (l : List (List ℕ)). visit_of l (get_or (in_order (suc d) l) i []) / R ^ d) (sym are)
        ∙ ap (λ (x : ℕ). x / R ^ d) (first-words.visit-is (suc d) (m * R ^ d) names sorted firsts kinds some q.named long a i h)

    home_at : (i : ℕ) → i < kinds
        → cell_at (cut (suc d) m cells) (parent_of d R n (cut (suc d) m along) (get_or (refined_cells d R n (cut (suc d) m along)) i [])) ≡ row cells (suc d) (get_or firsts i 0 / R ^ d)
    home_at i h =
        ap (cell_at (cut (suc d) m cells)) (parent-at i h)
        ∙ cut_at (suc d) m cells (get_or firsts i 0 / R ^ d) (seats.a_in d R n m along cells pattern names q.refining (get_or firsts i 0) (at i h))

    pub cells_are : flat (refined_cells d R n (cut (suc d) m along)) ≡ rows_of sorted (suc d) (take kinds firsts)
    cells_are = ap (λ (l : List (List ℕ)). flat (in_order (suc d) l)) (sym are) ∙ first-words.flat-cells (suc d) (m * R ^ d) names sorted firsts kinds some q.named long a

    pub words_are : flat (refined_words d R n (cut (suc d) m along)) ≡ rows_of names (suc d) (take kinds firsts)
    words_are = ap (λ (l : List (List ℕ)). flat (by_cell l (in_order (suc d) l))) (sym are) ∙ first-words.flat-words (suc d) (m * R ^ d) names sorted firsts kinds some q.named long a

    pub parents-are : parents d R n (cut (suc d) m along) ≡ tab kinds (λ i. get_or firsts i 0 / R ^ d)
    parents-are = map-tab (parent_of d R n (cut (suc d) m along)) (refined_cells d R n (cut (suc d) m along)) kinds (λ i. get_or firsts i 0 / R ^ d) many parent-at

    pub wholes-are : wholes d R n (cut (suc d) m cells) (cut (suc d) m along) ≡ joined kinds (λ i. whole_at d (R ^ d) pattern names sorted along cells (get_or firsts i 0))
    wholes-are =
        gather-joined (λ c. whole_of d (share d R n (cut (suc d) m along)) (cell_at (cut (suc d) m cells) (parent_of d R n (cut (suc d) m along) c)) c) (refined_cells d R n (cut (suc d) m along)) kinds
        (λ i. whole_at d (R ^ d) pattern names sorted along cells (get_or firsts i 0)) many
        (λ i h.
        ap (λ (p : List ℕ). whole_of d (share d R n (cut (suc d) m along)) p (get_or (refined_cells d R n (cut (suc d) m along)) i [])) (home_at i h)
        ∙ ap (whole_of d (share d R n (cut (suc d) m along)) (row cells (suc d) (get_or firsts i 0 / R ^ d))) (cell-at i h)
        ∙ sym (seats.whole_is d R n m along cells pattern names q.refining (get_or firsts i 0) (at i h) sorted (row_of i h)))

    pub jacobians-are : jacobians d R n (cut (suc d) m cells) (cut (suc d) m along) ≡ joined kinds (λ i. float_at d R (R ^ d) pattern names sorted along cells (get_or firsts i 0))
    jacobians-are =
        gather-joined (λ c. float_of d R (share d R n (cut (suc d) m along)) (cell_at (cut (suc d) m cells) (parent_of d R n (cut (suc d) m along) c)) c) (refined_cells d R n (cut (suc d) m along)) kinds
        (λ i. float_at d R (R ^ d) pattern names sorted along cells (get_or firsts i 0)) many
        (λ i h.
        ap (λ (p : List ℕ). float_of d R (share d R n (cut (suc d) m along)) p (get_or (refined_cells d R n (cut (suc d) m along)) i [])) (home_at i h)
        ∙ ap (float_of d R (share d R n (cut (suc d) m along)) (row cells (suc d) (get_or firsts i 0 / R ^ d))) (cell-at i h)
        ∙ sym (seats.float_is d R n m along cells pattern names q.refining (get_or firsts i 0) (at i h) sorted (row_of i h)))

    abbrev results : Results
    results = results_of d R n (cut (suc d) m cells) (cut (suc d) m along)

    births-many : length (births d R n (cut (suc d) m along)) * suc d ≡ born * suc d
    births-many = ap (λ (x : ℕ). x * suc d) q.supports.long

    pub sized : Sized d kinds born (results_of d R n (cut (suc d) m cells) (cut (suc d) m along))
    sized = record {
      cells_size = ap length cells_are ∙ writing.cells_size d (R ^ d) kinds firsts pattern names sorted along cells long families;
      words_size = ap length words_are ∙ writing.words_size d (R ^ d) kinds firsts pattern names sorted along cells long families;
      parents_size = ap length parents-are ∙ writing.parents_size d (R ^ d) kinds firsts pattern names sorted along cells long families;
      jacobians_size = ap length jacobians-are ∙ writing.jacobians_size d (R ^ d) kinds firsts pattern names sorted along cells long families R;
      wholes_size = ap length wholes-are ∙ writing.wholes_size d (R ^ d) kinds firsts pattern names sorted along cells long families;
      vertices_size = writing.vertices_size (suc d) (births d R n (cut (suc d) m along)) ∙ births-many;
      weights_size = writing.weights_size (suc d) (births d R n (cut (suc d) m along)) ∙ births-many;
      shares_size = length-map (birth_weights_of (suc d) (births d R n (cut (suc d) m along))) (share_of R) ∙ writing.weights_size (suc d) (births d R n (cut (suc d) m along)) ∙ births-many;
    }

    -- ---- how it ends, for result lists as they are lent
    module _ (cells₀ words₀ parents₀ : List ℕ) (jacobians₀ : List Float) (wholes₀ : List ℤ) (vertices₀ weights₀ : List ℕ) (shares₀ : List Float) where
      abbrev given : Lengths
      given = lengths_of cells₀ words₀ parents₀ jacobians₀ wholes₀ vertices₀ weights₀ shares₀

      pub handed-short : (b : Bool) → b ≡ false → Fits d kinds born given b
          → Handed d R n m cells along (Err TooShort) cells₀ cells₀ words₀ words₀ parents₀ parents₀ jacobians₀ jacobians₀ wholes₀ wholes₀ vertices₀ vertices₀ weights₀ weights₀ shares₀ shares₀
      handed-short b e f = record {
        handed = nothing;
        ends = short refines (f.no e results sized);
        stored = record { in_cells = refl; in_words = refl; in_parents = refl; in_jacobians = refl; in_wholes = refl; in_vertices = refl; in_weights = refl; in_shares = refl };
      }

      module _ (b : Bool) (e : b ≡ true) (f : Fits d kinds born given b) where
        holds : Holds given results
        holds = f.yes e results sized

        pub to-children : (s : ℕ) → s ≡ R ^ d → Writing d s kinds firsts pattern names sorted along cells cells₀ words₀ parents₀ jacobians₀ wholes₀
        to-children s es =
            subst (λ (x : ℕ). Writing d x kinds firsts pattern names sorted along cells cells₀ words₀ parents₀ jacobians₀ wholes₀) (sym es)
            (record {
              dim = q.refining.dim;
              few = omega (arith, few, q.few_cells);
              some = seats.size-some d R n m along cells pattern names q.refining;
              families = families;
              in_cells = omega (arith, holds.of_cells, sized.cells_size);
              in_words = omega (arith, holds.of_words, sized.words_size);
              in_parents = omega (arith, holds.of_parents, sized.parents_size);
              in_jacobians = omega (arith, holds.of_jacobians, sized.jacobians_size);
              in_wholes = omega (arith, holds.of_wholes, sized.wholes_size);
            })

        pub to-births : Bears d born keys fresh vertices₀ weights₀ shares₀
        to-births = record {
          dim = q.refining.dim;
          few = omega (arith, q.few_vertices);
          fresh_long = q.fresh_long;
          inside = q.inside;
          in_vertices = omega (arith, holds.of_vertices, sized.vertices_size);
          in_weights = omega (arith, holds.of_weights, sized.weights_size);
          in_shares = omega (arith, holds.of_shares, sized.shares_size);
        }

        ends : Finishes d R n (cut (suc d) m cells) (cut (suc d) m along) given (sizes kinds (n + born)) results
        ends =
            subst (λ (x : ℕ). Finishes d R n (cut (suc d) m cells) (cut (suc d) m along) given (sizes x (n + born)) results) many
            (subst (λ (y : ℕ). Finishes d R n (cut (suc d) m cells) (cut (suc d) m along) given (sizes (length (refined_cells d R n (cut (suc d) m along))) (n + y)) results) q.supports.long
            (made refines holds))

        pub handed-made : (cells' words' parents' : List ℕ) (jacobians' : List Float) (wholes' : List ℤ) (vertices' weights' : List ℕ) (shares' : List Float) (s : ℕ) → s ≡ R ^ d
            → Wrote d R s kinds firsts pattern names sorted along cells cells₀ cells' words₀ words' parents₀ parents' jacobians₀ jacobians' wholes₀ wholes'
            → ((bs : List (List ℕ)) → Supports (suc d) n born bs keys fresh → Bore d R bs vertices₀ vertices' weights₀ weights' shares₀ shares')
            → Handed d R n m cells along (sizes kinds (n + born)) cells₀ cells' words₀ words' parents₀ parents' jacobians₀ jacobians' wholes₀ wholes' vertices₀ vertices' weights₀ weights' shares₀ shares'
        handed-made cells' words' parents' jacobians' wholes' vertices' weights' shares' s es c g =
            let w : Wrote d R (R ^ d) kinds firsts pattern names sorted along cells cells₀ cells' words₀ words' parents₀ parents' jacobians₀ jacobians' wholes₀ wholes' =
            subst (λ (x : ℕ). Wrote d R x kinds firsts pattern names sorted along cells cells₀ cells' words₀ words' parents₀ parents' jacobians₀ jacobians' wholes₀ wholes') es c in
            let b : Bore d R (births d R n (cut (suc d) m along)) vertices₀ vertices' weights₀ weights' shares₀ shares' = g (births d R n (cut (suc d) m along)) q.supports in
            record {
              handed = results;
              ends = ends;
              stored =
                  record {
                    in_cells = w.in_cells ∙ ap (λ (l : List ℕ). onto l cells₀) (sym cells_are);
                    in_words = w.in_words ∙ ap (λ (l : List ℕ). onto l words₀) (sym words_are);
                    in_parents = w.in_parents ∙ ap (λ (l : List ℕ). onto l parents₀) (sym parents-are);
                    in_jacobians = w.in_jacobians ∙ ap (λ (l : List Float). onto l jacobians₀) (sym jacobians-are);
                    in_wholes = w.in_wholes ∙ ap (λ (l : List ℤ). onto l wholes₀) (sym wholes-are);
                    in_vertices = b.in_vertices;
                    in_weights = b.in_weights;
                    in_shares = b.in_shares;
                  };
            }

-- ---- the refusals before the results are measured
module _ (d R n m : ℕ) (cells along pattern keys fresh corners : List ℕ) (cells₀ words₀ parents₀ : List ℕ) (jacobians₀ : List Float) (wholes₀ : List ℤ) (vertices₀ weights₀ : List ℕ) (shares₀ : List Float) where
  -- a refusal hands out nothing
  handed-nothing : (r : Result Refinement Refusal) → Finishes d R n (cut (suc d) m cells) (cut (suc d) m along) (lengths_of cells₀ words₀ parents₀ jacobians₀ wholes₀ vertices₀ weights₀ shares₀) r nothing
      → Handed d R n m cells along r cells₀ cells₀ words₀ words₀ parents₀ parents₀ jacobians₀ jacobians₀ wholes₀ wholes₀ vertices₀ vertices₀ weights₀ weights₀ shares₀ shares₀
  handed-nothing r f = record {
    handed = nothing;
    ends = f;
    stored = record { in_cells = refl; in_words = refl; in_parents = refl; in_jacobians = refl; in_wholes = refl; in_vertices = refl; in_weights = refl; in_shares = refl };
  }

  refusals : (why : Refusal) → Sought d R n m along pattern keys fresh corners (Err why)
      → Finishes d R n (cut (suc d) m cells) (cut (suc d) m along) (lengths_of cells₀ words₀ parents₀ jacobians₀ wholes₀ vertices₀ weights₀ shares₀) (Err why) nothing
  refusals why (steps.outside h) = outside h
  refusals why (steps.many_cells w h) = many_cells w (omega (arith, ap (λ (k : ℕ). k * R ^ d) (cut-length (suc d) m along)))
  refusals why (steps.many_vertices w f h) = many_vertices w (omega (arith, ap (λ (k : ℕ). k * R ^ d) (cut-length (suc d) m along))) h

  pub handed-refused : (why : Refusal) → Sought d R n m along pattern keys fresh corners (Err why)
      → Handed d R n m cells along (Err why) cells₀ cells₀ words₀ words₀ parents₀ parents₀ jacobians₀ jacobians₀ wholes₀ wholes₀ vertices₀ vertices₀ weights₀ weights₀ shares₀ shares₀
  handed-refused why s = handed-nothing (Err why) (refusals why s)
