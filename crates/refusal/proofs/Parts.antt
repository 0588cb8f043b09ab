-- The parts of the working lists that a call lends on and gets back as zeros. Assumes nothing.
use mathlib.Core.List.{List, ◌++◌}
use Prim.Native.Nat.{ℕ}
use lib.ListN.{take, drop}
use Rattle.lists.specs.Zero.{AllZero}
use Rattle.lists.proofs.Laws.{part-zeroed}
use Rattle.refusal.specs.declared.Room.{Room}
use Rattle.refusal.specs.Lent.{lengths, Roomy, Cleared}

-- the parts came back as zeros: what is needed of the four lists is zero, and the rest is as it was
pub parts-cleared : (n : Room) (keys k rows o spare s counts c : List ℕ) → Roomy n (lengths keys rows spare counts) →
    AllZero (take n.keys keys) k (take n.rows rows) o (take n.spare spare) s (take n.counts counts) c →
    Cleared n keys (k ++ drop n.keys keys) rows (o ++ drop n.rows rows) spare (s ++ drop n.spare spare) counts (c ++ drop n.counts counts)
parts-cleared n keys k rows o spare s counts c h z =
    record {
      of_keys = part-zeroed n.keys keys k h.in_keys z.zero_keys;
      of_rows = part-zeroed n.rows rows o h.in_rows z.zero_rows;
      of_spare = part-zeroed n.spare spare s h.in_spare z.zero_spare;
      of_counts = part-zeroed n.counts counts c h.in_counts z.zero_counts;
    }
