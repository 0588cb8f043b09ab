-- The ways out of the entry. Assumes nothing.
use Rattle.complex_dropped.specs.Says.{Dropping}
use Rattle.refusal.specs.declared.Refusal.{Refusal}
use Rattle.refusal.specs.declared.Refusal.TheVariants.{TooShort}
use Rattle.refusal.specs.Says.{fine}
use Rattle.std.specs.Prelude.{Err}
use mathlib.Core.List.{List, ◌++◌}
use mathlib.Core.Path.{◌≡◌, refl, ap, ◌∙◌, subst}
use Prim.Native.Nat.{ℕ}
use lib.ListN.{length, take, drop}
use lib.Seq.{length-take-le}
use Rattle.refusal.specs.declared.Room.{Room}
use Rattle.refusal.specs.Lent.{untouched, lengths, Roomy}
use Rattle.refusal.specs.Call.{Comes, refused, cramped, ended}
use Rattle.refusal.proofs.Parts.{parts-cleared}
use Rattle.lists.specs.Zero.{AllZero}
use Rattle.complex.specs.Check.{answer_of}
use Rattle.complex.specs.Room.{need_of}
use Rattle.complex.proofs.Fine.{fine-passed}
use Rattle.complex_dropped.specs.Promise.{nothing, Ends, DropCells}
use Rattle.complex_dropped.specs.Work.{Working, Worked}

module _ (d : ℕ) (ws gone kept old keys rows spare counts : List ℕ) where
  pub out-refused : (why : Refusal) → answer_of d ws ≡ Err why → DropCells d ws gone (Err why) kept kept old old keys keys rows rows spare spare counts counts
  out-refused why e =
      record { handed = nothing; used = untouched; comes = refused e; in_kept = refl; in_old = refl; room = record { of_keys = refl; of_rows = refl; of_spare = refl; of_counts = refl } }

  pub out-cramped : answer_of d ws ≡ fine → (n : Room) → n ≡ need_of d (length ws) → (Roomy n (lengths keys rows spare counts) → ⊥) → DropCells d ws gone (Err TooShort) kept kept old old keys keys rows rows spare spare counts counts
  out-cramped e n q f =
      record {
        handed = nothing;
        used = untouched;
        comes = cramped e (subst (λ (m : Room). Roomy m (lengths keys rows spare counts) → ⊥) q f);
        in_kept = refl;
        in_old = refl;
        room = record { of_keys = refl; of_rows = refl; of_spare = refl; of_counts = refl };
      }

  module _ (e : answer_of d ws ≡ fine) (n : Room) (q : n ≡ need_of d (length ws)) (h : Roomy n (lengths keys rows spare counts)) where
    pub working : Working d ws (take n.keys keys) (take n.rows rows) (take n.spare spare) (take n.counts counts)
    working =
        record {
          passed = fine-passed d ws e;
          keys_long = length-take-le n.keys keys h.in_keys ∙ ap (λ (m : Room). m.keys) q;
          rows_long = length-take-le n.rows rows h.in_rows ∙ ap (λ (m : Room). m.rows) q;
          spare_long = length-take-le n.spare spare h.in_spare ∙ ap (λ (m : Room). m.spare) q;
          counts_long = length-take-le n.counts counts h.in_counts ∙ ap (λ (m : Room). m.counts) q;
        }

    pub out-ended : (r : Dropping) (kept' old' k o s c : List ℕ) → Worked d ws gone r kept kept' old old' → AllZero (take n.keys keys) k (take n.rows rows) o (take n.spare spare) s (take n.counts counts) c →
        DropCells d ws gone r kept kept' old old' keys (k ++ drop n.keys keys) rows (o ++ drop n.rows rows) spare (s ++ drop n.spare spare) counts (c ++ drop n.counts counts)
    out-ended r kept' old' k o s c w z =
        record {
          handed = w.handed;
          used = n;
          comes = subst (λ (m : Room). Comes Err nothing (answer_of d ws) m (lengths keys rows spare counts) (Ends d ws gone (length kept) (length old)) r w.handed n) q (ended e h w.ends);
          in_kept = w.in_kept;
          in_old = w.in_old;
          room = parts-cleared n keys k rows o spare s counts c h z;
        }
