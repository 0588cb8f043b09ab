-- The ways out of the entry. Assumes nothing.
use Rattle.refusal.specs.declared.Refusal.{Refusal}
use Rattle.refusal.specs.declared.Refusal.TheVariants.{TooShort}
use Rattle.refusal.specs.Says.{Verdict, fine}
use Rattle.std.specs.Prelude.{Err}
use mathlib.Core.List.{List, ◌++◌}
use mathlib.Core.Path.{◌≡◌, refl, subst}
use Prim.Native.Nat.{ℕ}
use lib.IntN.{ℤ}
use lib.ListN.{length, take, drop}
use Rattle.refusal.specs.declared.Room.{Room}
use Rattle.refusal.specs.Lent.{untouched, lengths, Roomy}
use Rattle.refusal.specs.Call.{Comes, refused, cramped, ended}
use Rattle.refusal.proofs.Parts.{parts-cleared}
use Rattle.lists.specs.Zero.{AllZero}
use Rattle.complex.specs.Check.{answer_of}
use Rattle.complex_facets.specs.Records.{record_need}
use Rattle.complex.specs.Cells.{cells_of}
use Rattle.orientation_by.specs.Promise.{Ends, OrientBy}

module _ (d : ℕ) (ws : List ℕ) (signs : List ℤ) (keys rows spare counts : List ℕ) where
  pub out-refused : (why : Refusal) → answer_of d ws ≡ Err why → OrientBy d ws signs (Err why) keys keys rows rows spare spare counts counts
  out-refused why e =
      record { used = untouched; comes = refused e; room = record { of_keys = refl; of_rows = refl; of_spare = refl; of_counts = refl } }

  pub out-cramped : answer_of d ws ≡ fine → (n : Room) → n ≡ record_need (length ws) → (Roomy n (lengths keys rows spare counts) → ⊥) → OrientBy d ws signs (Err TooShort) keys keys rows rows spare spare counts counts
  out-cramped e n q f =
      record {
        used = untouched;
        comes = cramped e (subst (λ (m : Room). Roomy m (lengths keys rows spare counts) → ⊥) q f);
        room = record { of_keys = refl; of_rows = refl; of_spare = refl; of_counts = refl };
      }

  module _ (e : answer_of d ws ≡ fine) (n : Room) (q : n ≡ record_need (length ws)) (h : Roomy n (lengths keys rows spare counts)) where
    pub out-ended : (r : Verdict) (k o s c : List ℕ) → Ends d (cells_of d ws) signs r tt → AllZero (take n.keys keys) k (take n.rows rows) o (take n.spare spare) s (take n.counts counts) c →
        OrientBy d ws signs r keys (k ++ drop n.keys keys) rows (o ++ drop n.rows rows) spare (s ++ drop n.spare spare) counts (c ++ drop n.counts counts)
    out-ended r k o s c w z =
        record {
          used = n;
          comes = subst (λ (m : Room). Comes Err tt (answer_of d ws) m (lengths keys rows spare counts) (Ends d (cells_of d ws) signs) r tt n) q (ended e h w);
          room = parts-cleared n keys k rows o spare s counts c h z;
        }
