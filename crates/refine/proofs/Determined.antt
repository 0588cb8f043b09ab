-- The promise of the refinement calls determines what they say and every list: two calls on equal inputs end alike. Assumes nothing.
use Rattle.refusal.specs.declared.Refusal.{Refusal}
use Rattle.std.specs.Prelude.{Err, Result}
use mathlib.Core.List.{List}
use mathlib.Core.Path.{◌≡◌, refl, sym, ap, ◌∙◌}
use Prim.Native.Nat.{ℕ}
use lib.IntN.{ℤ}
use lib.Ieee.{Float}
use lib.ListN.{length}
use Rattle.refusal.specs.Lent.{zeroed}
use Rattle.refusal.proofs.Determined.{call-one}
use Rattle.complex.specs.Check.{answer_of}
use Rattle.refine_results.specs.declared.Refinement.{Refinement}
use Rattle.refine_results.specs.Results.{Results, nothing, Lengths, lengths_of}
use Rattle.refine_results.proofs.Determined.{finishes-one, Same, stored_one}
use Rattle.refine.specs.declared.Space.{Space}
use Rattle.refine.specs.Space.{space_of, unused, lent, Enough}
use Rattle.refine.specs.Promise.{Ends, crowded, unordered, finished, Refining}

module _ (d R : ℕ) (ws : List ℕ) (Ordered : Type 0) (ks : List (List ℕ)) (given : Lengths) where
  ends-one : (r r' : Result Refinement Refusal) (h h' : Results) → Ends d R ws Ordered ks given r h → Ends d R ws Ordered ks given r' h' → (r ≡ r') × (h ≡ h')
  ends-one r r' h h' (crowded x) (crowded y) = (refl, refl)
  ends-one r r' h h' (crowded x) (unordered f o) = absurd (f x)
  ends-one r r' h h' (crowded x) (finished f o e) = absurd (f x)
  ends-one r r' h h' (unordered f o) (crowded x) = absurd (f x)
  ends-one r r' h h' (unordered f o) (unordered f' o') = (refl, refl)
  ends-one r r' h h' (unordered f o) (finished f' o' e) = absurd (o o')
  ends-one r r' h h' (finished f o e) (crowded x) = absurd (f x)
  ends-one r r' h h' (finished f o e) (unordered f' o') = absurd (o' o)
  ends-one r r' h h' (finished f o e) (finished f' o' e') = finishes-one d R _ _ ks given r r' h h' e e'

-- two exits of one call: what is said, the result lists and the working lists are equal
module _ (d : ℕ) (ws : List ℕ) (R : ℕ) (Ordered : Type 0) (ks : List (List ℕ)) (out_cells out_words parents : List ℕ) (jacobians : List Float) (wholes : List ℤ) (vertices weights : List ℕ) (shares : List Float) (cells along pattern keys rows spare counts sorted firsts buckets : List ℕ) (out-cells' out-words' parents' : List ℕ) (jacobians' : List Float) (wholes' : List ℤ) (vertices' weights' : List ℕ) (shares' : List Float) (cells' along' pattern' keys' rows' spare' counts' sorted' firsts' buckets' : List ℕ) (out-cells'' out-words'' parents'' : List ℕ) (jacobians'' : List Float) (wholes'' : List ℤ) (vertices'' weights'' : List ℕ) (shares'' : List Float) (cells'' along'' pattern'' keys'' rows'' spare'' counts'' sorted'' firsts'' buckets'' : List ℕ) (r r' : Result Refinement Refusal) where
  pub refining-one : Refining d ws R Ordered ks r out_cells out-cells' out_words out-words' parents parents' jacobians jacobians' wholes wholes' vertices vertices' weights weights' shares shares' cells cells' along along' pattern pattern' keys keys' rows rows' spare spare' counts counts' sorted sorted' firsts firsts' buckets buckets' → Refining d ws R Ordered ks r' out_cells out-cells'' out_words out-words'' parents parents'' jacobians jacobians'' wholes wholes'' vertices vertices'' weights weights'' shares shares'' cells cells'' along along'' pattern pattern'' keys keys'' rows rows'' spare spare'' counts counts'' sorted sorted'' firsts firsts'' buckets buckets'' →
      (r ≡ r') × Same out-cells' out-cells'' out-words' out-words'' parents' parents'' jacobians' jacobians'' wholes' wholes'' vertices' vertices'' weights' weights'' shares' shares'' × ((cells' ≡ cells'') × (along' ≡ along'') × (pattern' ≡ pattern'') × (keys' ≡ keys'') × (rows' ≡ rows'') × (spare' ≡ spare'') × (counts' ≡ counts'') × (sorted' ≡ sorted'') × (firsts' ≡ firsts'') × (buckets' ≡ buckets''))
  refining-one a b =
      let given = lengths_of out_cells out_words parents jacobians wholes vertices weights shares in
      let have = lent cells along pattern keys rows spare counts sorted firsts buckets in
      let need = space_of d (length ws) R in
      let w = call-one Err nothing unused (answer_of d ws) need (Enough need have) (Ends d R ws Ordered ks given) (ends-one d R ws Ordered ks given) a.comes b.comes in (
        w.0,
        stored_one a.handed b.handed w.1 out_cells out-cells' out-cells'' out_words out-words' out-words'' parents parents' parents'' jacobians jacobians' jacobians'' wholes wholes' wholes'' vertices vertices' vertices'' weights weights' weights'' shares shares' shares'' a.stored b.stored,
        (
          a.room.of_cells ∙ ap (λ (u : Space). zeroed u.cells cells) w.2 ∙ sym b.room.of_cells,
          a.room.of_along ∙ ap (λ (u : Space). zeroed u.along along) w.2 ∙ sym b.room.of_along,
          a.room.of_pattern ∙ ap (λ (u : Space). zeroed u.pattern pattern) w.2 ∙ sym b.room.of_pattern,
          a.room.of_keys ∙ ap (λ (u : Space). zeroed u.keys keys) w.2 ∙ sym b.room.of_keys,
          a.room.of_rows ∙ ap (λ (u : Space). zeroed u.rows rows) w.2 ∙ sym b.room.of_rows,
          a.room.of_spare ∙ ap (λ (u : Space). zeroed u.spare spare) w.2 ∙ sym b.room.of_spare,
          a.room.of_counts ∙ ap (λ (u : Space). zeroed u.counts counts) w.2 ∙ sym b.room.of_counts,
          a.room.of_sorted ∙ ap (λ (u : Space). zeroed u.sorted sorted) w.2 ∙ sym b.room.of_sorted,
          a.room.of_firsts ∙ ap (λ (u : Space). zeroed u.firsts firsts) w.2 ∙ sym b.room.of_firsts,
          a.room.of_buckets ∙ ap (λ (u : Space). zeroed u.buckets buckets) w.2 ∙ sym b.room.of_buckets,
        ),
      )
