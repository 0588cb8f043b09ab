-- The ends of the work of `induced_orientation`: the marks are the words' signs, and they are tested by the cell across each facet. Assumes nothing.
use Rattle.refusal.specs.declared.Refusal.{Refusal}
use Rattle.refusal.specs.declared.Refusal.TheVariants.{BadOrder, CrowdedFacet}
use Rattle.refusal.specs.Says.{Counted}
use Rattle.std.specs.Prelude.{Err, Ok}
use mathlib.Core.Bool.{Bool, true, false}
use mathlib.Core.List.{List}
use mathlib.Core.Path.{◌≡◌, refl, sym, ap, ◌∙◌, subst}
use Prim.Native.Nat.{ℕ, suc, ◌+◌, ◌*◌, ◌<◌, ◌≤◌}
use native.Mathlib.Nat.{mul-le-mul_left, mul-suc}
use native.Mathlib.Numerals.{add-one}
use native.Mathlib.Omega.{arith}
use lib.ListN.{length, get_or, drop, length-drop}
use Rattle.refusal.specs.Limits.{many_corners}
use Rattle.lists.specs.Rows.{row}
use Rattle.multiindex.specs.Sort.{inversions}
use Rattle.complex.specs.Cells.{cells_of}
use Rattle.complex.specs.Facets.{cell_at, slots}
use Rattle.complex_facets.specs.WorkAcross.{Linked}
use Rattle.complex_mates.proofs.Meeting.{slots-most}
use Rattle.complex_cells.proofs.Making.{few-corners}
use Rattle.orientation_walk.specs.WorkSigns as walk
use Rattle.orientation_signs.specs.WorkFound.{sign_of}
use Rattle.orientation_by.specs.WorkTest.{Weighing, Tested}
use Rattle.orientation_by.proofs.Determined.{coherent-same}
use Rattle.ordering_words.specs.Order.{words_by}
use Rattle.ordering.specs.WorkAgree.{mark_at, Marking}
use Rattle.ordering.specs.Promise.{word_sign, Preparing, Ready, Prepared, Joined, Wound}
use Rattle.ordering.specs.Promise.Prepared.{crowded as prepared-crowded, unordered as prepared-unordered, ready as prepared-ready}
use Rattle.ordering.specs.Promise.Wound.{crowded as wound-crowded, unordered as wound-unordered, coherent as wound-coherent, incoherent as wound-incoherent}
use Rattle.ordering.proofs.Agreeing.{mark-fits, mark-word}
use Rattle.ordering.proofs.Ends.{count-ready}

-- 7 and 16
moved : (d : ℕ) (cs : List (List ℕ)) (order : List ℕ) (told why : Refusal) → ◌≡◌ {A = Counted} (Err told) (Err why) → Wound d cs order (Err told) tt → Wound d cs order (Err why) tt
moved d cs order told why e x =
    let f : told ≡ why = cc in
    subst (λ (z : Refusal). Wound d cs order (Err z) tt) f x

pub wound-refused : (d at n : ℕ) (cs : List (List ℕ)) (order keys mates : List ℕ) (p : Counted) → Prepared d at n cs order keys mates p → (why : Refusal) → p ≡ Err why → Wound d cs order (Err why) tt
wound-refused d at n cs order keys mates p (prepared-crowded x) why e = moved d cs order CrowdedFacet why e (wound-crowded x)
wound-refused d at n cs order keys mates p (prepared-unordered x y) why e = moved d cs order BadOrder why e (wound-unordered x y)
wound-refused d at n cs order keys mates p (prepared-ready x) why e = cc

module _ (d at : ℕ) (ws keys₀ rows₀ spare₀ counts₀ : List ℕ) (w : Preparing d at ws keys₀ rows₀ spare₀ counts₀) (order keys other flip : List ℕ) (lk : length keys ≡ length keys₀) (lo : length other ≡ length rows₀) (lf : length flip ≡ length spare₀) (p : Counted) (j : Joined d at (length ws) (cells_of d ws) order keys other flip p) (m : ℕ) (e : p ≡ Ok m) (count : ℕ) (ec : count ≡ m) where
  ready : Ready d at (length ws) (cells_of d ws) order keys j.mates
  ready = (count-ready d at (length ws) (cells_of d ws) order keys j.mates p j.prepared m e).1

  many : count ≡ length (cells_of d ws)
  many = ec ∙ sym (count-ready d at (length ws) (cells_of d ws) order keys j.mates p j.prepared m e).0

  short : length ws < many_corners
  short = omega (arith, few-corners d ws w.passed)

  size-suc : count * suc d ≡ count * (d + 1)
  size-suc = ap (λ (x : ℕ). count * x) (sym (add-one d))

  most : count * (d + 1) ≤ length ws
  most = omega (arith, size-suc, ap (λ (x : ℕ). x * suc d) many, ready.most)

  few : count ≤ length ws
  few = omega (arith, size-suc, mul-suc count d, most)

  slots-fit : count * slots d ≤ length ws
  slots-fit = omega (arith, mul-le-mul_left count (slots-most d), size-suc, most)

  pub list-starts : at ≤ length keys
  list-starts = omega (arith, w.keys_long, w.start)

  pub list-small : length keys < 7 * many_corners
  list-small = omega (arith, w.keys_long, short)

  pub marking : (list marks : List ℕ) → list ≡ drop at keys → length marks ≡ length counts₀ → Marking (d + 1) count list marks
  marking list marks f lc =
      record {
        long = omega (arith, ap length f, length-drop at keys, most, w.keys_long, w.start);
        marks_long = omega (arith, few, w.counts_long);
        short = omega (arith, most, short);
        size = omega (arith, w.passed.small);
      }

  module _ (list marks : List ℕ) (f : list ≡ drop at keys) (lc : length marks ≡ length counts₀) (all : (c : ℕ) → c < count → get_or marks c 0 ≡ mark_at (d + 1) list c) where
    pub weighing : Weighing d count other flip marks
    weighing =
        record {
          searching =
              record {
                cs = cells_of d ws;
                many = sym many;
                linked = j.linked m e;
                other_long = omega (arith, slots-fit, w.rows_long);
                flip_long = omega (arith, slots-fit, w.spare_long);
                marks_long = omega (arith, few, w.counts_long);
                stack_long = omega (arith, few, w.counts_long);
                few = omega (arith, size-suc, most, short);
                small = omega (arith, w.passed.small);
              };
          signs = λ c h. subst walk.Sign (sym (all c h)) (mark-fits (inversions (row list (d + 1) c)));
        }

    same-signs : (c : ℕ) → c < length (cells_of d ws) → sign_of (get_or marks c 0) ≡ word_sign (cell_at (words_by d (cells_of d ws) order) c)
    same-signs = mark-word d at (length ws) (cells_of d ws) order keys j.mates ready short count list many f marks (d + 1) refl all

    module _ (ok : Bool) (t : (cs : List (List ℕ)) → length cs ≡ count → Linked d cs other flip → Tested d cs ok (λ c. sign_of (get_or marks c 0))) where
      told : Tested d (cells_of d ws) ok (λ c. sign_of (get_or marks c 0))
      told = t (cells_of d ws) (sym many) (j.linked m e)

      either : (b : Bool) → ok ≡ b → Wound d (cells_of d ws) order (Ok b) tt
      either true g =
          wound-coherent ready.free ready.ordered (told.yes g).0
          (coherent-same d (cells_of d ws) (λ c. sign_of (get_or marks c 0)) (λ c. word_sign (cell_at (words_by d (cells_of d ws) order) c)) same-signs (told.yes g).1)
      either false g =
          wound-incoherent ready.free ready.ordered
          (λ l x. told.no g l (coherent-same d (cells_of d ws) (λ c. word_sign (cell_at (words_by d (cells_of d ws) order) c)) (λ c. sign_of (get_or marks c 0)) (λ c h. sym (same-signs c h)) x))

      pub wound-tested : Wound d (cells_of d ws) order (Ok ok) tt
      wound-tested = either ok refl
