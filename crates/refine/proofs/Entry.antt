-- The ways out of the entry. Assumes nothing.
use Rattle.refusal.specs.declared.Refusal.{Refusal}
use Rattle.refusal.specs.declared.Refusal.TheVariants.{TooShort}
use Rattle.refusal.specs.Says.{fine}
use Rattle.std.specs.Prelude.{Err, Result}
use mathlib.Core.List.{List, ◌++◌}
use mathlib.Core.Path.{◌≡◌, refl, ap, ◌∙◌, subst}
use Prim.Native.Nat.{ℕ}
use lib.IntN.{ℤ}
use lib.Ieee.{Float}
use lib.ListN.{length, take, drop, replicate}
use lib.Seq.{length-take-le}
use Rattle.refusal.specs.Call.{refused, cramped, ended}
use Rattle.lists.proofs.Laws.{part-zeroed}
use Rattle.complex.specs.Check.{answer_of}
use Rattle.complex.proofs.Fine.{fine-passed}
use Rattle.refine_results.specs.declared.Refinement.{Refinement}
use Rattle.refine_results.specs.Results.{nothing, Stored}
use Rattle.refine.specs.declared.Space.{Space}
use Rattle.refine.specs.Space.{space_of, unused, lent, Enough, Emptied}
use Rattle.refine.specs.Promise.{Refining}
use Rattle.refine.specs.Work.{Working, Worked, AllTen}

-- where nothing is handed out the result lists are as they were
pub none-stored : (out_cells out_words parents : List ℕ) (jacobians : List Float) (wholes : List ℤ) (vertices weights : List ℕ) (shares : List Float) → Stored nothing out_cells out_cells out_words out_words parents parents jacobians jacobians wholes wholes vertices vertices weights weights shares shares
none-stored out_cells out_words parents jacobians wholes vertices weights shares =
    record { in_cells = refl; in_words = refl; in_parents = refl; in_jacobians = refl; in_wholes = refl; in_vertices = refl; in_weights = refl; in_shares = refl }

-- where nothing is used the working lists are as they were
none-used : (cells along pattern keys rows spare counts sorted firsts buckets : List ℕ) → Emptied unused cells cells along along pattern pattern keys keys rows rows spare spare counts counts sorted sorted firsts firsts buckets buckets
none-used cells along pattern keys rows spare counts sorted firsts buckets =
    record { of_cells = refl; of_along = refl; of_pattern = refl; of_keys = refl; of_rows = refl; of_spare = refl; of_counts = refl; of_sorted = refl; of_firsts = refl; of_buckets = refl }

-- lists made zero that were as long before as others: they are zero as long as the others
pub ten-along : (cells cells₀ cells' along along₀ along' pattern pattern₀ pattern' keys keys₀ keys' rows rows₀ rows' spare spare₀ spare' counts counts₀ counts' sorted sorted₀ sorted' firsts firsts₀ firsts' buckets buckets₀ buckets' : List ℕ) → length cells ≡ length cells₀ → length along ≡ length along₀ → length pattern ≡ length pattern₀ → length keys ≡ length keys₀ → length rows ≡ length rows₀ → length spare ≡ length spare₀ → length counts ≡ length counts₀ → length sorted ≡ length sorted₀ → length firsts ≡ length firsts₀ → length buckets ≡ length buckets₀ → AllTen cells cells' along along' pattern pattern' keys keys' rows rows' spare spare' counts counts' sorted sorted' firsts firsts' buckets buckets' → AllTen cells₀ cells' along₀ along' pattern₀ pattern' keys₀ keys' rows₀ rows' spare₀ spare' counts₀ counts' sorted₀ sorted' firsts₀ firsts' buckets₀ buckets'
ten-along cells cells₀ cells' along along₀ along' pattern pattern₀ pattern' keys keys₀ keys' rows rows₀ rows' spare spare₀ spare' counts counts₀ counts' sorted sorted₀ sorted' firsts firsts₀ firsts' buckets buckets₀ buckets' e0 e1 e2 e3 e4 e5 e6 e7 e8 e9 z =
    record {
      zero_cells = z.zero_cells ∙ ap (λ (k : ℕ). replicate k 0) e0;
      zero_along = z.zero_along ∙ ap (λ (k : ℕ). replicate k 0) e1;
      zero_pattern = z.zero_pattern ∙ ap (λ (k : ℕ). replicate k 0) e2;
      zero_keys = z.zero_keys ∙ ap (λ (k : ℕ). replicate k 0) e3;
      zero_rows = z.zero_rows ∙ ap (λ (k : ℕ). replicate k 0) e4;
      zero_spare = z.zero_spare ∙ ap (λ (k : ℕ). replicate k 0) e5;
      zero_counts = z.zero_counts ∙ ap (λ (k : ℕ). replicate k 0) e6;
      zero_sorted = z.zero_sorted ∙ ap (λ (k : ℕ). replicate k 0) e7;
      zero_firsts = z.zero_firsts ∙ ap (λ (k : ℕ). replicate k 0) e8;
      zero_buckets = z.zero_buckets ∙ ap (λ (k : ℕ). replicate k 0) e9;
    }

module _ (d R : ℕ) (ws : List ℕ) (Ordered : Type 0) (ks : List (List ℕ)) (out_cells out_words parents : List ℕ) (jacobians : List Float) (wholes : List ℤ) (vertices weights : List ℕ) (shares : List Float) (cells along pattern keys rows spare counts sorted firsts buckets : List ℕ) where
  pub out-refused : (why : Refusal) → answer_of d ws ≡ Err why → Refining d ws R Ordered ks (Err why) out_cells out_cells out_words out_words parents parents jacobians jacobians wholes wholes vertices vertices weights weights shares shares cells cells along along pattern pattern keys keys rows rows spare spare counts counts sorted sorted firsts firsts buckets buckets
  out-refused why e =
      record {
        handed = nothing;
        used = unused;
        comes = refused e;
        stored = none-stored out_cells out_words parents jacobians wholes vertices weights shares;
        room = none-used cells along pattern keys rows spare counts sorted firsts buckets;
      }

  pub out-cramped : answer_of d ws ≡ fine → (n : Space) → n ≡ space_of d (length ws) R → (Enough n (lent cells along pattern keys rows spare counts sorted firsts buckets) → ⊥) → Refining d ws R Ordered ks (Err TooShort) out_cells out_cells out_words out_words parents parents jacobians jacobians wholes wholes vertices vertices weights weights shares shares cells cells along along pattern pattern keys keys rows rows spare spare counts counts sorted sorted firsts firsts buckets buckets
  out-cramped e n q f =
      record {
        handed = nothing;
        used = unused;
        comes = cramped e (subst (λ (m : Space). Enough m (lent cells along pattern keys rows spare counts sorted firsts buckets) → ⊥) q f);
        stored = none-stored out_cells out_words parents jacobians wholes vertices weights shares;
        room = none-used cells along pattern keys rows spare counts sorted firsts buckets;
      }

  module _ (e : answer_of d ws ≡ fine) (n : Space) (q : n ≡ space_of d (length ws) R) (h : Enough n (lent cells along pattern keys rows spare counts sorted firsts buckets)) where
    pub working : Working d ws R (take n.cells cells) (take n.along along) (take n.pattern pattern) (take n.keys keys) (take n.rows rows) (take n.spare spare) (take n.counts counts) (take n.sorted sorted) (take n.firsts firsts) (take n.buckets buckets)
    working =
        record {
          passed = fine-passed d ws e;
          cells_long = length-take-le n.cells cells h.in_cells ∙ ap (λ (m : Space). m.cells) q;
          along_long = length-take-le n.along along h.in_along ∙ ap (λ (m : Space). m.along) q;
          pattern_long = length-take-le n.pattern pattern h.in_pattern ∙ ap (λ (m : Space). m.pattern) q;
          keys_long = length-take-le n.keys keys h.in_keys ∙ ap (λ (m : Space). m.keys) q;
          rows_long = length-take-le n.rows rows h.in_rows ∙ ap (λ (m : Space). m.rows) q;
          spare_long = length-take-le n.spare spare h.in_spare ∙ ap (λ (m : Space). m.spare) q;
          counts_long = length-take-le n.counts counts h.in_counts ∙ ap (λ (m : Space). m.counts) q;
          sorted_long = length-take-le n.sorted sorted h.in_sorted ∙ ap (λ (m : Space). m.sorted) q;
          firsts_long = length-take-le n.firsts firsts h.in_firsts ∙ ap (λ (m : Space). m.firsts) q;
          buckets_long = length-take-le n.buckets buckets h.in_buckets ∙ ap (λ (m : Space). m.buckets) q;
        }

    pub out-ended : (r : Result Refinement Refusal) (out-cells' out-words' parents' : List ℕ) (jacobians' : List Float) (wholes' : List ℤ) (vertices' weights' : List ℕ) (shares' : List Float) (cells' along' pattern' keys' rows' spare' counts' sorted' firsts' buckets' : List ℕ) → Worked d ws R Ordered ks r out_cells out-cells' out_words out-words' parents parents' jacobians jacobians' wholes wholes' vertices vertices' weights weights' shares shares' → AllTen (take n.cells cells) cells' (take n.along along) along' (take n.pattern pattern) pattern' (take n.keys keys) keys' (take n.rows rows) rows' (take n.spare spare) spare' (take n.counts counts) counts' (take n.sorted sorted) sorted' (take n.firsts firsts) firsts' (take n.buckets buckets) buckets' → Refining d ws R Ordered ks r out_cells out-cells' out_words out-words' parents parents' jacobians jacobians' wholes wholes' vertices vertices' weights weights' shares shares' cells (cells' ++ drop n.cells cells) along (along' ++ drop n.along along) pattern (pattern' ++ drop n.pattern pattern) keys (keys' ++ drop n.keys keys) rows (rows' ++ drop n.rows rows) spare (spare' ++ drop n.spare spare) counts (counts' ++ drop n.counts counts) sorted (sorted' ++ drop n.sorted sorted) firsts (firsts' ++ drop n.firsts firsts) buckets (buckets' ++ drop n.buckets buckets)
    out-ended r out-cells' out-words' parents' jacobians' wholes' vertices' weights' shares' cells' along' pattern' keys' rows' spare' counts' sorted' firsts' buckets' w z =
        record {
          handed = w.handed;
          used = space_of d (length ws) R;
          comes = ended e (subst (λ (m : Space). Enough m (lent cells along pattern keys rows spare counts sorted firsts buckets)) q h) w.ends;
          stored = w.stored;
          room = subst (λ (m : Space). Emptied m cells (cells' ++ drop n.cells cells) along (along' ++ drop n.along along) pattern (pattern' ++ drop n.pattern pattern) keys (keys' ++ drop n.keys keys) rows (rows' ++ drop n.rows rows) spare (spare' ++ drop n.spare spare) counts (counts' ++ drop n.counts counts) sorted (sorted' ++ drop n.sorted sorted) firsts (firsts' ++ drop n.firsts firsts) buckets (buckets' ++ drop n.buckets buckets)) q
              (record {
                of_cells = part-zeroed n.cells cells cells' h.in_cells z.zero_cells;
                of_along = part-zeroed n.along along along' h.in_along z.zero_along;
                of_pattern = part-zeroed n.pattern pattern pattern' h.in_pattern z.zero_pattern;
                of_keys = part-zeroed n.keys keys keys' h.in_keys z.zero_keys;
                of_rows = part-zeroed n.rows rows rows' h.in_rows z.zero_rows;
                of_spare = part-zeroed n.spare spare spare' h.in_spare z.zero_spare;
                of_counts = part-zeroed n.counts counts counts' h.in_counts z.zero_counts;
                of_sorted = part-zeroed n.sorted sorted sorted' h.in_sorted z.zero_sorted;
                of_firsts = part-zeroed n.firsts firsts firsts' h.in_firsts z.zero_firsts;
                of_buckets = part-zeroed n.buckets buckets buckets' h.in_buckets z.zero_buckets;
              });
        }
