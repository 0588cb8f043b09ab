-- How the work of `drop_cells` ends. Assumes nothing.
use Rattle.complex_dropped.specs.Says.{Dropping, kept_of}
use Rattle.refusal.specs.declared.Refusal.TheVariants.{CrowdedFacet, NoSuchCell, RaggedWords}
use Rattle.std.specs.Prelude.{Err}
use mathlib.Core.Bool.{Bool, true, false}
use mathlib.Core.List.{List, [], ◌∷◌, ◌++◌, map}
use mathlib.Core.Path.{◌≡◌, refl, sym, ap, ◌∙◌, subst}
use Prim.Native.Nat.{ℕ, zero, suc, ◌+◌, ◌*◌, ◌<◌, ◌≤◌}
use native.Mathlib.Nat.{mul_comm, mul-zero, mul-suc, mul-le-mul_right}
use native.Mathlib.Omega.{arith}
use lib.ListN.{length, get_or, take, drop, length-map}
use Rattle.complex_mates.proofs.Mated.{not-crowded}
use Rattle.refusal.specs.Lent.{onto}
use Rattle.lists.specs.Rows.{cut}
use Rattle.lists.proofs.Rows.{cut-length}
use Rattle.lists.proofs.Members.{Mem-of}
use Rattle.complex.specs.Room.{key_room}
use Rattle.complex.specs.Cells.{cells_of}
use Rattle.complex.specs.Facets.{Crowded, slots}
use Rattle.complex_cells.specs.WorkMade.{Making, Made}
use Rattle.complex_mates.specs.Table.{MateTable, Meeting}
use Rattle.complex_dropped.specs.Kept.{staying, corners, in_use, new_number, old_numbers, names_missing}
use Rattle.complex_dropped.specs.Promise.{nothing, kept_lists, Present, Ends, crowded, missing, emptied, short, kept_all}
use Rattle.complex_dropped.specs.Work.{Gathering, Gathered, Renumbered, Handing, HandedOut, no_room, all_out, Working, Worked}
use Rattle.complex_dropped.proofs.Members.{mem-among}
use Rattle.complex_dropped.proofs.Steps.{room-least}

-- ---- what is handed out
map_on : (f h : ℕ → ℕ) (xs : List ℕ) → ((i : ℕ) → i < length xs → f (get_or xs i 0) ≡ h (get_or xs i 0)) → map f xs ≡ map h xs
map_on f h [] e = refl
map_on f h (x ∷ xs) e = let a : f x ≡ h x = e 0 (omega arith) in let b : map f xs ≡ map h xs = map_on f h xs (λ i l. e (suc i) (omega arith)) in cc

pub renamed-onto : (n : ℕ) (xs new old kept part : List ℕ) → Handing n xs new old → part ≡ map (λ v. get_or new v 0) xs → part ++ drop (length xs) kept ≡ onto (map (new_number xs) xs) kept
renamed-onto n xs new old kept part a e =
    let q : part ≡ map (new_number xs) xs = e ∙ map_on (λ v. get_or new v 0) (new_number xs) xs (λ i h. a.named (get_or xs i 0) (mem-among (get_or xs i 0) xs (Mem-of xs i h))) in
    ap (λ (l : List ℕ). l ++ drop (length xs) kept) q ∙ ap (λ (z : ℕ). map (new_number xs) xs ++ drop z kept) (sym (length-map xs (new_number xs)))

pub worked-emptied : (d : ℕ) (ws gone : List ℕ) (n : ℕ) (keys kept old : List ℕ) → Present d ws gone → Gathered d ws gone n keys → n ≡ 0 → Worked d ws gone (Err RaggedWords) kept kept old old
worked-emptied d ws gone n keys kept old here a e = record { handed = nothing; ends = emptied here (sym a.many ∙ e); in_kept = refl; in_old = refl }

worked-of : (d : ℕ) (ws gone : List ℕ) (n : ℕ) (xs places kept old : List ℕ) → Present d ws gone → n ≡ length (staying d ws gone) → (n ≡ 0 → ⊥) → xs ≡ corners d ws gone → places ≡ old_numbers d ws gone →
    (r : Dropping) (kept' old' : List ℕ) → HandedOut n xs places kept old r kept' old' → Worked d ws gone r kept kept' old old'
worked-of d ws gone n xs places kept old here en some ex ep r kept' old' (no_room f) =
    record {
      handed = nothing;
      ends = short here (λ e. some (en ∙ e)) (λ t. f (omega (arith, t.in_kept, length-map (corners d ws gone) (new_number (corners d ws gone)), ap length ex)) (omega (arith, t.in_old, ap length ep)));
      in_kept = refl;
      in_old = refl;
    }
worked-of d ws gone n xs places kept old here en some ex ep r kept' old' (all_out h l a b) =
    record {
      handed = kept_lists d ws gone;
      ends =
          subst (λ (t : Dropping). Ends d ws gone (length kept) (length old) t (kept_lists d ws gone)) (said (sym en) (ap length (sym ep)))
          (kept_all here (λ e. some (en ∙ e)) (record { in_kept = omega (arith, length-map (corners d ws gone) (new_number (corners d ws gone)), ap length ex); in_old = omega (arith, ap length ep) }));
      in_kept = a ∙ ap (λ (l : List ℕ). onto (map (new_number l) l) kept) ex;
      in_old = b ∙ ap (λ (l : List ℕ). onto l old) ep;
    }
  where
    said : {a b c e : ℕ} → a ≡ b → c ≡ e → kept_of a c ≡ kept_of b e
    said p q = cc

module _ (d : ℕ) (ws gone : List ℕ) (n : ℕ) (keys : List ℕ) (a : Gathered d ws gone n keys) (r : ℕ) (order spare : List ℕ) (b : Renumbered (take (n * (d + 1)) keys) r order spare) where
  pub worked-handed : Present d ws gone → (n ≡ 0 → ⊥) → (kept old : List ℕ) (t : Dropping) (kept' old' : List ℕ) → HandedOut n (take (n * (d + 1)) keys) (take r order) kept old t kept' old' → Worked d ws gone t kept kept' old old'
  worked-handed here some kept old t kept' old' h =
      worked-of d ws gone n (take (n * (d + 1)) keys) (take r order) kept old here a.many some a.front (b.old ∙ ap in_use a.front) t kept' old' h

-- ---- the work
room-rows : (d m n : ℕ) → m * suc d ≤ n → m * slots d * d ≤ key_room d n
room-rows zero m n h = omega (arith, mul-zero (m * 0))
room-rows (suc d) m n h = omega (arith, mul-le-mul_right (suc d) h, mul_comm n (suc d))

module _ (d : ℕ) (ws gone keys order spare counts : List ℕ) (w : Working d ws keys order spare counts) where
  pub making-cells : Making d ws keys order spare counts
  making-cells =
      record {
        passed = w.passed;
        keys_long = omega (arith, w.keys_long, room-least d (length ws));
        rows_long = omega (arith, w.rows_long);
        spare_long = omega (arith, w.spare_long);
        counts_long = omega (arith, w.counts_long);
      }

  module _ (m : ℕ) (keys' order' spare' counts' : List ℕ) (lk : length keys' ≡ length keys) (lo : length order' ≡ length order) (ls : length spare' ≡ length spare) (lc : length counts' ≡ length counts) (a : Made d ws m order') where
    pub meeting : Meeting d m (length ws) keys' order' spare' counts'
    meeting =
        record {
          cells = a.cells;
          rows_long = omega (arith, a.most, w.rows_long);
          keys_long = omega (arith, room-rows d m (length ws) a.most, w.keys_long);
          spare_long = omega (arith, a.most, w.spare_long);
          counts_long = omega (arith, a.most, w.counts_long);
          buckets = omega (arith, w.counts_long);
          few = omega (arith, a.most, a.corners);
          small = omega (arith, w.passed.small);
          below = a.below;
        }

    cells-many : length (cells_of d ws) ≡ m
    cells-many = ap length (sym a.same) ∙ cut-length (suc d) m order'

    -- 7
    pub worked-crowded : (kept old : List ℕ) → Crowded d (cut (suc d) m order') → Worked d ws gone (Err CrowdedFacet) kept kept old old
    worked-crowded kept old x = record { handed = nothing; ends = crowded (subst (λ (cs : List (List ℕ)). Crowded d cs) a.same x); in_kept = refl; in_old = refl }

    module _ (mates : List ℕ) (t : MateTable d (cut (suc d) m order') mates) where
      free : Crowded d (cells_of d ws) → ⊥
      free x = not-crowded d m (cut (suc d) m order') (cut-length (suc d) m order') mates t (omega (arith, a.most, a.corners)) (subst (λ (cs : List (List ℕ)). Crowded d cs) (sym a.same) x)

      module _ (ok : Bool) (e : ok ≡ names_missing m gone) where
        told : names_missing (length (cells_of d ws)) gone ≡ ok
        told = ap (λ (z : ℕ). names_missing z gone) cells-many ∙ sym e

        -- 23
        pub worked-missing : ok ≡ true → (kept old : List ℕ) → Worked d ws gone (Err NoSuchCell) kept kept old old
        worked-missing y kept old = record { handed = nothing; ends = missing free (told ∙ y); in_kept = refl; in_old = refl }

        pub gathering : ok ≡ false → (keys'' order'' spare'' counts'' : List ℕ) → length keys'' ≡ length keys' → length order'' ≡ length order' → length spare'' ≡ length spare' → length counts'' ≡ length counts' →
            Gathering d ws gone keys'' order'' spare'' counts''
        gathering y keys'' order'' spare'' counts'' k o s c =
            record {
              working =
                  record {
                    passed = w.passed;
                    keys_long = k ∙ lk ∙ w.keys_long;
                    rows_long = o ∙ lo ∙ w.rows_long;
                    spare_long = s ∙ ls ∙ w.spare_long;
                    counts_long = c ∙ lc ∙ w.counts_long;
                  };
              present = record { uncrowded = free; there = told ∙ y };
              few_cells = omega (arith, cells-many, a.most, mul-suc m d);
            }
