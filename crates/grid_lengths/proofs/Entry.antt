-- The ways out of `edge_lengths_sq`. Assumes nothing.
use Rattle.refusal.specs.declared.Refusal.{Refusal}
use Rattle.refusal.specs.declared.Refusal.TheVariants.{TooShort}
use Rattle.refusal.specs.Says.{Counted, fine}
use Rattle.std.specs.Prelude.{Err}
use mathlib.Core.List.{List, [], ◌++◌}
use mathlib.Core.Path.{◌≡◌, refl, ap, ◌∙◌, subst}
use Prim.Native.Nat.{ℕ}
use lib.Ieee.{Float}
use lib.ListN.{length, take, drop}
use lib.Seq.{length-take-le}
use Rattle.refusal.specs.declared.Room.{Room}
use Rattle.refusal.specs.Lent.{untouched, lengths, Roomy}
use Rattle.refusal.specs.Call.{Comes, refused, cramped, ended}
use Rattle.refusal.proofs.Parts.{parts-cleared}
use Rattle.lists.specs.Zero.{AllZero}
use Rattle.quotient.specs.declared.Grid.{Grid}
use Rattle.quotient.specs.Shape.{check_of, sides_check_of}
use Rattle.grid_lengths.specs.Lengths.{lengths_need, LengthsEnd, EdgeLengths}
use Rattle.grid_lengths.specs.Work.{Working, Worked}

module _ (g : Grid) (out : List Float) (keys rows spare counts : List ℕ) where
  pub out-refused : (why : Refusal) → sides_check_of g ≡ Err why → EdgeLengths g (Err why) out out keys keys rows rows spare spare counts counts
  out-refused why e =
      record { handed = []; used = untouched; comes = refused e; result = refl; room = record { of_keys = refl; of_rows = refl; of_spare = refl; of_counts = refl } }

  pub out-cramped : sides_check_of g ≡ fine → (n : Room) → n ≡ lengths_need g → (Roomy n (lengths keys rows spare counts) → ⊥) → EdgeLengths g (Err TooShort) out out keys keys rows rows spare spare counts counts
  out-cramped e n q f =
      record {
        handed = [];
        used = untouched;
        comes = cramped e (subst (λ (m : Room). Roomy m (lengths keys rows spare counts) → ⊥) q f);
        result = refl;
        room = record { of_keys = refl; of_rows = refl; of_spare = refl; of_counts = refl };
      }

  module _ (e : sides_check_of g ≡ fine) (passed : check_of g ≡ fine) (n : Room) (q : n ≡ lengths_need g) (h : Roomy n (lengths keys rows spare counts)) where
    pub working : Working g (take n.keys keys) (take n.rows rows) (take n.spare spare) (take n.counts counts)
    working =
        record {
          taken = passed;
          keys_long = length-take-le n.keys keys h.in_keys ∙ ap (λ (m : Room). m.keys) q;
          rows_long = length-take-le n.rows rows h.in_rows ∙ ap (λ (m : Room). m.rows) q;
          spare_long = length-take-le n.spare spare h.in_spare ∙ ap (λ (m : Room). m.spare) q;
          counts_long = length-take-le n.counts counts h.in_counts ∙ ap (λ (m : Room). m.counts) q;
        }

    pub out-ended : (r : Counted) (out' : List Float) (k o s c : List ℕ) → Worked g r out out' → AllZero (take n.keys keys) k (take n.rows rows) o (take n.spare spare) s (take n.counts counts) c →
        EdgeLengths g r out out' keys (k ++ drop n.keys keys) rows (o ++ drop n.rows rows) spare (s ++ drop n.spare spare) counts (c ++ drop n.counts counts)
    out-ended r out' k o s c w z =
        record {
          handed = w.handed;
          used = n;
          comes = subst (λ (m : Room). Comes Err [] (sides_check_of g) m (lengths keys rows spare counts) (LengthsEnd g (length out)) r w.handed n) q (ended e h w.ends);
          result = w.result;
          room = parts-cleared n keys k rows o spare s counts c h z;
        }
