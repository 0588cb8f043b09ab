-- The ways out of `ordering`. Assumes nothing.
use Rattle.refusal.specs.declared.Refusal.{Refusal}
use Rattle.refusal.specs.declared.Refusal.TheVariants.{TooShort}
use Rattle.refusal.specs.Says.{fine}
use Rattle.std.specs.Prelude.{Err, Result}
use mathlib.Core.List.{List, [], ◌++◌}
use mathlib.Core.Path.{◌≡◌, refl, ap, ◌∙◌, subst}
use Prim.Native.Nat.{ℕ, ◌*◌}
use lib.ListN.{length, take, drop}
use lib.Seq.{length-take-le}
use Rattle.refusal.specs.declared.Room.{Room}
use Rattle.refusal.specs.Lent.{untouched, lengths, Roomy}
use Rattle.refusal.specs.Call.{Comes, refused, cramped, ended}
use Rattle.refusal.proofs.Parts.{parts-cleared}
use Rattle.lists.specs.Zero.{AllZero}
use Rattle.complex.specs.Check.{answer_of}
use Rattle.complex.proofs.Fine.{fine-passed}
use Rattle.complex.specs.Cells.{cells_of}
use Rattle.ordering.specs.declared.Ordered.{Ordered}
use Rattle.ordering.specs.Promise.{order_need, Preparing, Ends, Ordering, Worked}

-- the parts that are lent on are of just the lengths that are needed
pub preparing : (d : ℕ) (ws keys rows spare counts : List ℕ) → answer_of d ws ≡ fine → (n : Room) → n ≡ order_need (length ws) → Roomy n (lengths keys rows spare counts) → (at : ℕ) → at ≡ length ws * 5 → Preparing d at ws (take n.keys keys) (take n.rows rows) (take n.spare spare) (take n.counts counts)
preparing d ws keys rows spare counts e n q h at f =
    record {
      passed = fine-passed d ws e;
      start = f;
      keys_long = length-take-le n.keys keys h.in_keys ∙ ap (λ (m : Room). m.keys) q;
      rows_long = length-take-le n.rows rows h.in_rows ∙ ap (λ (m : Room). m.rows) q;
      spare_long = length-take-le n.spare spare h.in_spare ∙ ap (λ (m : Room). m.spare) q;
      counts_long = length-take-le n.counts counts h.in_counts ∙ ap (λ (m : Room). m.counts) q;
    }

module _ (d : ℕ) (ws order out keys rows spare counts : List ℕ) where
  pub out-refused : (why : Refusal) → answer_of d ws ≡ Err why → Ordering d ws order (Err why) out out keys keys rows rows spare spare counts counts
  out-refused why e =
      record { handed = []; used = untouched; comes = refused e; result = refl; room = record { of_keys = refl; of_rows = refl; of_spare = refl; of_counts = refl } }

  pub out-cramped : answer_of d ws ≡ fine → (n : Room) → n ≡ order_need (length ws) → (Roomy n (lengths keys rows spare counts) → ⊥) → Ordering d ws order (Err TooShort) out out keys keys rows rows spare spare counts counts
  out-cramped e n q f =
      record {
        handed = [];
        used = untouched;
        comes = cramped e (subst (λ (m : Room). Roomy m (lengths keys rows spare counts) → ⊥) q f);
        result = refl;
        room = record { of_keys = refl; of_rows = refl; of_spare = refl; of_counts = refl };
      }

  module _ (e : answer_of d ws ≡ fine) (n : Room) (q : n ≡ order_need (length ws)) (h : Roomy n (lengths keys rows spare counts)) where
    pub out-ended : (r : Result Ordered Refusal) (out' : List ℕ) (k o s c : List ℕ) → Worked d ws order r out out' → AllZero (take n.keys keys) k (take n.rows rows) o (take n.spare spare) s (take n.counts counts) c →
        Ordering d ws order r out out' keys (k ++ drop n.keys keys) rows (o ++ drop n.rows rows) spare (s ++ drop n.spare spare) counts (c ++ drop n.counts counts)
    out-ended r out' k o s c w z =
        record {
          handed = w.handed;
          used = n;
          comes = subst (λ (m : Room). Comes Err [] (answer_of d ws) m (lengths keys rows spare counts) (Ends d (cells_of d ws) order (length out)) r w.handed n) q (ended e h w.ends);
          result = w.result;
          room = parts-cleared n keys k rows o spare s counts c h z;
        }
