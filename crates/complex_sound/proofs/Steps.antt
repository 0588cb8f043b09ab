-- The test of the facets, step by step, and the ways out of the checks of a cell list. Assumes nothing.
use Rattle.refusal.specs.declared.Refusal.{Refusal}
use Rattle.refusal.specs.declared.Refusal.TheVariants.{CrowdedFacet, TooShort}
use Rattle.refusal.specs.Says.{Answer, fine}
use Rattle.std.specs.Prelude.{Err}
use mathlib.Core.Bool.{Bool, true, false}
use mathlib.Core.List.{List, ◌++◌}
use mathlib.Core.Path.{◌≡◌, refl, sym, subst}
use Prim.Native.Nat.{ℕ, zero, suc, ◌*◌, ◌≤◌}
use native.Mathlib.Nat.{mul_comm, mul-zero, suc-mul, mul-le-mul_right}
use native.Mathlib.Omega.{arith}
use lib.ListN.{length, take, drop}
use lib.Seq.{length-take-le}
use Rattle.refusal.specs.declared.Room.{Room}
use Rattle.refusal.specs.Lent.{untouched, lengths, Roomy}
use Rattle.refusal.specs.Call.{Comes, refused, cramped, ended}
use Rattle.refusal.proofs.Parts.{parts-cleared}
use Rattle.lists.specs.Zero.{AllZero}
use Rattle.lists.specs.Rows.{cut}
use Rattle.lists.proofs.Rows.{cut-length}
use Rattle.complex.specs.Check.{answer_of}
use Rattle.complex.proofs.Fine.{fine-passed}
use Rattle.complex.specs.Cells.{cells_of}
use Rattle.complex.specs.Facets.{Crowded, slots}
use Rattle.complex.specs.Room.{key_room, need_of}
use Rattle.complex_cells.specs.WorkMade.{Making, Made}
use Rattle.complex_mates.specs.Table.{MateTable, Meeting}
use Rattle.complex_mates.proofs.Mated.{not-crowded}
use Rattle.complex_sound.specs.Promise.{Facets, crowded, free, Checked}
use Rattle.complex_sound.specs.Work.{Working, Sound}

-- ---- the test of the facets

room-least : (d n : ℕ) → n ≤ key_room d n
room-least zero n = omega arith
room-least (suc d) n = omega (arith, suc-mul d n)

room-rows : (d m n : ℕ) → m * suc d ≤ n → m * slots d * d ≤ key_room d n
room-rows zero m n h = omega (arith, mul-zero (m * 0))
room-rows (suc d) m n h = omega (arith, mul-le-mul_right (suc d) h, mul_comm n (suc d))

module _ (d : ℕ) (ws keys rows spare counts : List ℕ) (w : Working d ws keys rows spare counts) where
  pub making : Making d ws keys rows spare counts
  making =
      record {
        passed = w.passed;
        keys_long = omega (arith, w.room.in_keys, room-least d (length ws));
        rows_long = w.room.in_rows;
        spare_long = w.room.in_spare;
        counts_long = w.room.in_counts;
      }

  module _ (m : ℕ) (keys' rows' spare' counts' : List ℕ) (lk : length keys' ≡ length keys) (lr : length rows' ≡ length rows) (ls : length spare' ≡ length spare) (lc : length counts' ≡ length counts) (a : Made d ws m rows') where
    pub meeting : Meeting d m (length ws) keys' rows' spare' counts'
    meeting =
        record {
          cells = a.cells;
          rows_long = omega (arith, a.most, w.room.in_rows);
          keys_long = omega (arith, room-rows d m (length ws) a.most, w.room.in_keys);
          spare_long = omega (arith, a.most, w.room.in_spare);
          counts_long = omega (arith, a.most, w.room.in_counts);
          buckets = omega (arith, w.room.in_counts);
          few = omega (arith, a.most, a.corners);
          small = omega (arith, w.passed.small);
          below = a.below;
        }

    -- a table of mates leaves no room for three cells at a facet
    pub sound-is : (ok : Bool) (mates : List ℕ) → (ok ≡ true → MateTable d (cut (suc d) m rows') mates) → (ok ≡ false → Crowded d (cut (suc d) m rows')) → Sound d ws ok
    sound-is ok mates good bad =
        record {
          yes = λ e x. not-crowded d m (cut (suc d) m rows') (cut-length (suc d) m rows') mates (good e) (omega (arith, a.most, a.corners)) (subst (λ (cs : List (List ℕ)). Crowded d cs) (sym a.same) x);
          no = λ e. subst (λ (cs : List (List ℕ)). Crowded d cs) a.same (bad e);
        }

-- ---- the ways out of `check`

module _ (d : ℕ) (ws keys rows spare counts : List ℕ) where
  pub out-refused : (why : Refusal) → answer_of d ws ≡ Err why → Checked d ws (Err why) keys keys rows rows spare spare counts counts
  out-refused why e =
      record { used = untouched; comes = refused e; room = record { of_keys = refl; of_rows = refl; of_spare = refl; of_counts = refl } }

  pub out-cramped : answer_of d ws ≡ fine → (n : Room) → n ≡ need_of d (length ws) → (Roomy n (lengths keys rows spare counts) → ⊥) → Checked d ws (Err TooShort) keys keys rows rows spare spare counts counts
  out-cramped e n q f =
      record {
        used = untouched;
        comes = cramped e (subst (λ (m : Room). Roomy m (lengths keys rows spare counts) → ⊥) q f);
        room = record { of_keys = refl; of_rows = refl; of_spare = refl; of_counts = refl };
      }

  module _ (e : answer_of d ws ≡ fine) (n : Room) (q : n ≡ need_of d (length ws)) (h : Roomy n (lengths keys rows spare counts)) where
    pub working : Working d ws (take n.keys keys) (take n.rows rows) (take n.spare spare) (take n.counts counts)
    working =
        record {
          passed = fine-passed d ws e;
          room =
              subst (λ (m : Room). Roomy m (lengths (take n.keys keys) (take n.rows rows) (take n.spare spare) (take n.counts counts))) q
              (record {
                in_keys = omega (arith, length-take-le n.keys keys h.in_keys);
                in_rows = omega (arith, length-take-le n.rows rows h.in_rows);
                in_spare = omega (arith, length-take-le n.spare spare h.in_spare);
                in_counts = omega (arith, length-take-le n.counts counts h.in_counts);
              });
        }

    module _ (r : Bool) (k w s c : List ℕ) (sound : Sound d ws r) (z : AllZero (take n.keys keys) k (take n.rows rows) w (take n.spare spare) s (take n.counts counts) c) where
      ending : (a : Answer) → Facets d (cells_of d ws) a (tt {0}) →
          Checked d ws a keys (k ++ drop n.keys keys) rows (w ++ drop n.rows rows) spare (s ++ drop n.spare spare) counts (c ++ drop n.counts counts)
      ending a x =
          record {
            used = n;
            comes = subst (λ (m : Room). Comes Err (tt {0}) (answer_of d ws) m (lengths keys rows spare counts) (Facets d (cells_of d ws)) a (tt {0}) n) q (ended e h x);
            room = parts-cleared n keys k rows w spare s counts c h z;
          }

      pub out-free : r ≡ true → Checked d ws fine keys (k ++ drop n.keys keys) rows (w ++ drop n.rows rows) spare (s ++ drop n.spare spare) counts (c ++ drop n.counts counts)
      out-free t = ending fine (free (sound.yes t))

      pub out-crowded : r ≡ false → Checked d ws (Err CrowdedFacet) keys (k ++ drop n.keys keys) rows (w ++ drop n.rows rows) spare (s ++ drop n.spare spare) counts (c ++ drop n.counts counts)
      out-crowded t = ending (Err CrowdedFacet) (crowded (sound.no t))
