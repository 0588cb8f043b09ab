-- The work on an order, step by step: what each call asks follows from what the calls before it gave. Assumes nothing.
use Rattle.refusal.specs.declared.Refusal.TheVariants.{BadOrder, CrowdedFacet}
use Rattle.std.specs.Prelude.{Err, Ok}
use mathlib.Core.Bool.{Bool, true, false}
use mathlib.Core.List.{List, ◌++◌, append-nil}
use mathlib.Core.Path.{◌≡◌, refl, sym, ap, ◌∙◌, subst}
use Prim.Native.Nat.{ℕ, suc, ◌+◌, ◌-◌, ◌*◌, ◌≤◌}
use native.Mathlib.Omega.{arith}
use lib.ListN.{length, take, drop, length-append, length-drop, drop_of_length-le}
use lib.Seq.{length-take-le, drop_at}
use Rattle.lists.specs.Rows.{cut, flat}
use Rattle.lists.proofs.Flat.{flat-cut}
use Rattle.lists.proofs.Rows.{cut-length}
use Rattle.lists.proofs.Words.{tail-part}
use Rattle.complex.specs.Cells.{cells_of}
use Rattle.complex.specs.Facets.{Cells, Crowded}
use Rattle.complex_mates.specs.Table.{MateTable, Meeting}
use Rattle.complex_cells.specs.WorkMade.{Making, Made}
use Rattle.complex_mates.proofs.Mated.{not-crowded}
use Rattle.complex_facets.specs.WorkAcross.{Keeping, Linked}
use Rattle.orientation.proofs.Steps.{keeping}
use Rattle.ordering_words.specs.Order.{words_by, Orders}
use Rattle.ordering_words.specs.WorkArrange.{Arranging, Arranged}
use Rattle.ordering.specs.Promise.{Preparing, Prepared, crowded, unordered, ready, Joined}
use Rattle.ordering_words.proofs.Lists.{made_again}

module _ (d at : ℕ) (ws keys rows₀ spare counts : List ℕ) (w : Preparing d at ws keys rows₀ spare counts) where
  pub making : Making d ws keys rows₀ spare counts
  making =
      record {
        passed = w.passed;
        keys_long = omega (arith, w.keys_long);
        rows_long = omega (arith, w.rows_long);
        spare_long = omega (arith, w.spare_long);
        counts_long = omega (arith, w.counts_long);
      }

  module _ (m : ℕ) (keys' rows' spare' counts' : List ℕ) (lk : length keys' ≡ length keys) (lr : length rows' ≡ length rows₀) (ls : length spare' ≡ length spare) (lc : length counts' ≡ length counts) (a : Made d ws m rows') where
    part-long : length (take (length keys' - at) (drop at keys')) ≡ length ws + length ws
    part-long = ap length (tail-part keys' at) ∙ length-drop at keys' ∙ omega (arith, w.keys_long, w.start)

    pub arranging : Arranging d m (length ws) (take (length keys' - at) (drop at keys')) rows' spare' counts'
    arranging =
        record {
          ws = ws;
          made = a;
          bound = refl;
          keys_long = omega (arith, part-long);
          cells_long = omega (arith, w.rows_long);
          spare_long = omega (arith, w.spare_long);
          counts_long = omega (arith, w.counts_long);
          dim = omega (arith, w.passed.small);
        }

    pub at-fits : at ≤ length keys'
    at-fits = omega (arith, w.keys_long, w.start)

    module _ (order : List ℕ) (ok : Bool) (ys rows'' spare'' counts'' : List ℕ) (ly : length ys ≡ length (take (length keys' - at) (drop at keys'))) (lr'' : length rows'' ≡ length rows') (ls'' : length spare'' ≡ length spare') (lc'' : length counts'' ≡ length counts') (b : Arranged d m order rows' ok ys rows'') where
      keys'' : List ℕ
      keys'' = take at keys' ++ (ys ++ drop (length keys' - at) (drop at keys'))

      a'' : Made d ws m rows''
      a'' = made_again d ws m rows' rows'' a b.kept

      pub front_fits : at ≤ length (take at keys' ++ (ys ++ drop (length keys' - at) (drop at keys')))
      front_fits = omega (arith, length-append (take at keys') (ys ++ drop (length keys' - at) (drop at keys')), length-take-le at keys' at-fits)

      pub keeps : Keeping d m (length ws) (take at (take at keys' ++ (ys ++ drop (length keys' - at) (drop at keys')))) rows'' spare'' counts''
      keeps =
          keeping d ws (take at (take at keys' ++ (ys ++ drop (length keys' - at) (drop at keys')))) rows'' spare'' counts''
          (record {
            passed = w.passed;
            keys_long = length-take-le at (take at keys' ++ (ys ++ drop (length keys' - at) (drop at keys'))) front_fits ∙ w.start;
            rows_long = omega (arith, w.rows_long);
            spare_long = omega (arith, w.spare_long);
            counts_long = omega (arith, w.counts_long);
          })
          m (take at (take at keys' ++ (ys ++ drop (length keys' - at) (drop at keys')))) rows'' spare'' counts'' refl refl refl refl a''

      pub meets : Meeting d m (length ws) (take at (take at keys' ++ (ys ++ drop (length keys' - at) (drop at keys')))) rows'' spare'' counts''
      meets = keeps.meeting

      cells-many : length (cells_of d ws) ≡ m
      cells-many = ap length (sym a.same) ∙ cut-length (suc d) m rows'

      module _ (p rows''' : List ℕ) (lp : length p ≡ length (take at (take at keys' ++ (ys ++ drop (length keys' - at) (drop at keys'))))) where
        -- 7
        pub prepared-crowded : (keys''' : List ℕ) → Crowded d (cut (suc d) m rows'') → Prepared d at (length ws) (cells_of d ws) order keys''' rows''' (Err CrowdedFacet)
        prepared-crowded keys''' x = crowded (subst (λ (cs : List (List ℕ)). Crowded d cs) a''.same x)

        module _ (t : MateTable d (cut (suc d) m rows'') rows''') where
          free : Crowded d (cells_of d ws) → ⊥
          free x = not-crowded d m (cut (suc d) m rows'') (cut-length (suc d) m rows'') rows''' t (omega (arith, a.most, a.corners)) (subst (λ (cs : List (List ℕ)). Crowded d cs) (sym a''.same) x)

          -- 16
          pub prepared-unordered : (keys''' : List ℕ) → ok ≡ false → Prepared d at (length ws) (cells_of d ws) order keys''' rows''' (Err BadOrder)
          prepared-unordered keys''' e = unordered free (λ o. b.none e (subst (λ (cs : List (List ℕ)). Orders d cs order) (sym a.same) o))

          last-part : drop at (p ++ drop at (take at keys' ++ (ys ++ drop (length keys' - at) (drop at keys')))) ≡ ys
          last-part =
              let over : length (drop at keys') ≤ length keys' - at = omega (arith, length-drop at keys') in
              drop_at p (drop at (take at keys' ++ (ys ++ drop (length keys' - at) (drop at keys')))) at (lp ∙ length-take-le at (take at keys' ++ (ys ++ drop (length keys' - at) (drop at keys'))) front_fits)
              ∙ drop_at (take at keys') (ys ++ drop (length keys' - at) (drop at keys')) at (length-take-le at keys' at-fits)
              ∙ ap (λ (l : List ℕ). ys ++ l) (drop_of_length-le (drop at keys') over) ∙ append-nil ys

          the-words : ok ≡ true → take (m * suc d) (drop at (p ++ drop at (take at keys' ++ (ys ++ drop (length keys' - at) (drop at keys'))))) ≡ flat (words_by d (cells_of d ws) order)
          the-words e = ap (take (m * suc d)) last-part ∙ b.words e ∙ ap (λ (cs : List (List ℕ)). flat (words_by d cs order)) a.same

          the_cells : ok ≡ true → take (m * suc d) (drop (m * suc d) (drop at (p ++ drop at (take at keys' ++ (ys ++ drop (length keys' - at) (drop at keys')))))) ≡ flat (cells_of d ws)
          the_cells e = ap (λ (l : List ℕ). take (m * suc d) (drop (m * suc d) l)) last-part ∙ b.behind e ∙ sym (flat-cut (suc d) m rows') ∙ ap flat a.same

          pub prepared-ready : ok ≡ true → Prepared d at (length ws) (cells_of d ws) order (p ++ drop at (take at keys' ++ (ys ++ drop (length keys' - at) (drop at keys')))) rows''' (Ok m)
          prepared-ready e =
              subst (λ (n : ℕ). Prepared d at (length ws) (cells_of d ws) order (p ++ drop at (take at keys' ++ (ys ++ drop (length keys' - at) (drop at keys')))) rows''' (Ok n)) cells-many
              (ready (record {
                free = free;
                ordered = subst (λ (cs : List (List ℕ)). Orders d cs order) a.same (b.ordered e);
                mates = subst (λ (cs : List (List ℕ)). MateTable d cs rows''') a''.same t;
                words = subst (λ (n : ℕ). take (n * suc d) (drop at (p ++ drop at (take at keys' ++ (ys ++ drop (length keys' - at) (drop at keys'))))) ≡ flat (words_by d (cells_of d ws) order)) (sym cells-many) (the-words e);
                behind = subst (λ (n : ℕ). take (n * suc d) (drop (n * suc d) (drop at (p ++ drop at (take at keys' ++ (ys ++ drop (length keys' - at) (drop at keys')))))) ≡ flat (cells_of d ws)) (sym cells-many) (the_cells e);
                long = (subst (λ (cs : List (List ℕ)). Cells d cs) a.same a.cells).long;
                most = rw cells-many a.most;
              }))

      -- the same by the cell across each row
      module _ (p other flip : List ℕ) (lp : length p ≡ length (take at (take at keys' ++ (ys ++ drop (length keys' - at) (drop at keys'))))) where
        pub joined-crowded : (keys''' : List ℕ) → Crowded d (cut (suc d) m rows'') → Joined d at (length ws) (cells_of d ws) order keys''' other flip (Err CrowdedFacet)
        joined-crowded keys''' x =
            record { mates = other; prepared = prepared-crowded p other lp keys''' x; linked = λ n e. cc }

        module _ (t : Linked d (cut (suc d) m rows'') other flip) where
          pub joined-unordered : (keys''' : List ℕ) → ok ≡ false → Joined d at (length ws) (cells_of d ws) order keys''' other flip (Err BadOrder)
          joined-unordered keys''' e =
              record {
                mates = t.mates;
                prepared = prepared-unordered p t.mates lp t.table keys''' e;
                linked = λ n f. cc;
              }

          pub joined-ready : ok ≡ true → Joined d at (length ws) (cells_of d ws) order (p ++ drop at (take at keys' ++ (ys ++ drop (length keys' - at) (drop at keys')))) other flip (Ok m)
          joined-ready e =
              record {
                mates = t.mates;
                prepared = prepared-ready p t.mates lp t.table e;
                linked = λ n f. subst (λ (cs : List (List ℕ)). Linked d cs other flip) a''.same t;
              }
