-- The ways out of a call on a list of words: refused by the checks, too little room, or ended. Assumes nothing.
use Rattle.refusal.specs.declared.Refusal.{Refusal}
use Rattle.refusal.specs.declared.Refusal.TheVariants.{TooShort}
use Rattle.refusal.specs.Says.{Counted, fine}
use Rattle.std.specs.Prelude.{Err}
use mathlib.Core.List.{List, ◌++◌}
use mathlib.Core.Path.{◌≡◌, refl, subst}
use Prim.Native.Nat.{ℕ}
use native.Mathlib.Omega.{arith}
use lib.ListN.{take, drop}
use lib.Seq.{length-take-le}
use Rattle.refusal.specs.declared.Room.{Room}
use Rattle.refusal.specs.Lent.{untouched, lengths, Roomy}
use Rattle.refusal.specs.Call.{Comes, refused, cramped, ended}
use Rattle.refusal.proofs.Parts.{parts-cleared}
use Rattle.lists.specs.Zero.{AllZero}
use Rattle.complex.specs.Check.{answer_of}
use Rattle.complex.proofs.Fine.{fine-passed}
use Rattle.complex.specs.Cells.{cells_of}
use Rattle.skeleton.specs.Promise.{Ends, Call}
use Rattle.skeleton.specs.Work.{Working}

module _ {H : Type 0} (nothing : H) (need : Room) (Rest : Counted → H → Type 0) (d : ℕ) (ws keys rows spare counts : List ℕ) where
  pub out-refused : (why : Refusal) → answer_of d ws ≡ Err why → Call nothing need Rest d ws (Err why) nothing keys keys rows rows spare spare counts counts
  out-refused why e =
      record { used = untouched; comes = refused e; room = record { of_keys = refl; of_rows = refl; of_spare = refl; of_counts = refl } }

  pub out-cramped : answer_of d ws ≡ fine → (n : Room) → n ≡ need → (Roomy n (lengths keys rows spare counts) → ⊥) → Call nothing need Rest d ws (Err TooShort) nothing keys keys rows rows spare spare counts counts
  out-cramped e n q f =
      record {
        used = untouched;
        comes = cramped e (subst (λ (m : Room). Roomy m (lengths keys rows spare counts) → ⊥) q f);
        room = record { of_keys = refl; of_rows = refl; of_spare = refl; of_counts = refl };
      }

  module _ (e : answer_of d ws ≡ fine) (n : Room) (q : n ≡ need) (h : Roomy n (lengths keys rows spare counts)) where
    pub working : Working need d ws (take n.keys keys) (take n.rows rows) (take n.spare spare) (take n.counts counts)
    working =
        subst (λ (m : Room). Working m d ws (take n.keys keys) (take n.rows rows) (take n.spare spare) (take n.counts counts)) q
        (record {
          passed = fine-passed d ws e;
          room =
              record {
                in_keys = omega (arith, length-take-le n.keys keys h.in_keys);
                in_rows = omega (arith, length-take-le n.rows rows h.in_rows);
                in_spare = omega (arith, length-take-le n.spare spare h.in_spare);
                in_counts = omega (arith, length-take-le n.counts counts h.in_counts);
              };
        })

    pub out-ended : (r : Counted) (o : H) (k w s c : List ℕ) → Ends nothing d (cells_of d ws) Rest r o → AllZero (take n.keys keys) k (take n.rows rows) w (take n.spare spare) s (take n.counts counts) c →
        Call nothing need Rest d ws r o keys (k ++ drop n.keys keys) rows (w ++ drop n.rows rows) spare (s ++ drop n.spare spare) counts (c ++ drop n.counts counts)
    out-ended r o k w s c x z =
        record {
          used = n;
          comes = subst (λ (m : Room). Comes Err nothing (answer_of d ws) m (lengths keys rows spare counts) (Ends nothing d (cells_of d ws) Rest) r o n) q (ended e h x);
          room = parts-cleared n keys k rows w spare s counts c h z;
        }
