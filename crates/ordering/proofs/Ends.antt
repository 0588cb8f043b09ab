-- The ends of the work of `ordering`: the cells, the words by cell and the mates are ready, or the call is refused. Assumes nothing.
use Rattle.refusal.specs.declared.Refusal.{Refusal}
use Rattle.refusal.specs.declared.Refusal.TheVariants.{BadOrder, CrowdedFacet, TooShort}
use Rattle.refusal.specs.Says.{Counted}
use Rattle.std.specs.Prelude.{Err, Ok}
use mathlib.Core.List.{List, [], ◌++◌}
use mathlib.Core.Path.{◌≡◌, refl, sym, ap, ◌∙◌, subst}
use Prim.Native.Nat.{ℕ, suc, ◌+◌, ◌-◌, ◌*◌, ◌<◌, ◌≤◌}
use native.Mathlib.Nat.{add-sub_cancel_left, mul-le-mul_left}
use native.Mathlib.Numerals.{add-one}
use native.Mathlib.Omega.{arith}
use lib.ListN.{length, get_or, take, drop, length-drop}
use lib.Seq.{length-take-le}
use Rattle.refusal.specs.Lent.{onto}
use Rattle.refusal.specs.Limits.{many_corners}
use Rattle.lists.specs.Rows.{flat}
use Rattle.complex.specs.Cells.{cells_of}
use Rattle.complex.specs.Facets.{slots}
use Rattle.lists.specs.Words.{none}
use Rattle.complex_mates.proofs.Meeting.{slots-most}
use Rattle.complex_cells.proofs.Making.{few-corners}
use Rattle.complex_mates.proofs.Mated.{mate-below}
use Rattle.ordering_words.specs.Order.{words_by}
use Rattle.ordering.specs.declared.Ordered.TheVariants.{Agree, Differ}
use Rattle.ordering.specs.WorkAgree.{AgreesAt, Clash, Agreeing}
use Rattle.ordering.specs.Promise.{Preparing, Ready, Prepared, Ends, Worked}
use Rattle.ordering.specs.Promise.Prepared.{crowded as prepared-crowded, unordered as prepared-unordered, ready as prepared-ready}
use Rattle.ordering.specs.Promise.Ends.{crowded as ends-crowded, unordered as ends-unordered, short as ends-short, agreed as ends-agreed, differs as ends-differs}
use Rattle.ordering.proofs.Agreeing.{words_long, agrees, disagrees}

-- what a count says
pub count-ready : (d at n : ℕ) (cs : List (List ℕ)) (order keys mates : List ℕ) (p : Counted) → Prepared d at n cs order keys mates p → (m : ℕ) → p ≡ Ok m → (length cs ≡ m) × Ready d at n cs order keys mates
count-ready d at n cs order keys mates p (prepared-crowded x) m e = cc
count-ready d at n cs order keys mates p (prepared-unordered x y) m e = cc
count-ready d at n cs order keys mates p (prepared-ready x) m e = (cc, x)

-- 7 and 16
refused-worked : (d : ℕ) (ws order by : List ℕ) (told why : Refusal) → ◌≡◌ {A = Counted} (Err told) (Err why) → Ends d (cells_of d ws) order (length by) (Err told) [] → Worked d ws order (Err why) by by
refused-worked d ws order by told why e x =
    let f : told ≡ why = cc in
    record { handed = []; ends = subst (λ (z : Refusal). Ends d (cells_of d ws) order (length by) (Err z) []) f x; result = refl }

pub ended-refused : (d at : ℕ) (ws order keys mates : List ℕ) (p : Counted) → Prepared d at (length ws) (cells_of d ws) order keys mates p → (why : Refusal) → p ≡ Err why → (by : List ℕ) → Worked d ws order (Err why) by by
ended-refused d at ws order keys mates p (prepared-crowded x) why e by = refused-worked d ws order by CrowdedFacet why e (ends-crowded x)
ended-refused d at ws order keys mates p (prepared-unordered x y) why e by = refused-worked d ws order by BadOrder why e (ends-unordered x y)
ended-refused d at ws order keys mates p (prepared-ready x) why e by = cc

-- m cells are counted, and the code works with the same number
module _ (d at : ℕ) (ws keys₀ rows₀ spare₀ counts₀ : List ℕ) (w : Preparing d at ws keys₀ rows₀ spare₀ counts₀) (order keys mates : List ℕ) (lk : length keys ≡ length keys₀) (lm : length mates ≡ length rows₀) (p : Counted) (q : Prepared d at (length ws) (cells_of d ws) order keys mates p) (m : ℕ) (e : p ≡ Ok m) (count : ℕ) (ec : count ≡ m) where
  pub the-ready : Ready d at (length ws) (cells_of d ws) order keys mates
  the-ready = (count-ready d at (length ws) (cells_of d ws) order keys mates p q m e).1

  pub the-many : length (cells_of d ws) ≡ m
  the-many = (count-ready d at (length ws) (cells_of d ws) order keys mates p q m e).0

  pub as_many : count ≡ length (cells_of d ws)
  as_many = ec ∙ sym the-many

  pub short : length ws < many_corners
  short = omega (arith, few-corners d ws w.passed)

  size_is : count * (d + 1) ≡ length (cells_of d ws) * suc d
  size_is = ap (λ (x : ℕ). x * (d + 1)) as_many ∙ ap (λ (x : ℕ). length (cells_of d ws) * x) (add-one d)

  pub size-most : count * (d + 1) ≤ length ws
  size-most = omega (arith, size_is, the-ready.most)

  pub size_small : count * (d + 1) < many_corners
  size_small = omega (arith, size-most, short)

  pub end_fits : at + count * (d + 1) ≤ length keys
  end_fits = omega (arith, size-most, w.keys_long, w.start)

  pub end-small : at + count * (d + 1) < 6 * many_corners
  end-small = omega (arith, size_small, w.start, short)

  pub at-fits : at ≤ length keys
  at-fits = omega (arith, w.keys_long, w.start)

  pub part_length : length (take (at + count * (d + 1) - at) (drop at keys)) ≡ count * (d + 1)
  part_length = ap (λ (i : ℕ). length (take i (drop at keys))) (add-sub_cancel_left at (count * (d + 1))) ∙ length-take-le (count * (d + 1)) (drop at keys) (omega (arith, length-drop at keys, end_fits))

  pub ended-short : (by : List ℕ) → length by < count * (d + 1) → Worked d ws order (Err TooShort) by by
  ended-short by h = record { handed = []; ends = ends-short the-ready.free the-ready.ordered (omega (arith, size_is)); result = refl }

  mates-in : (x : ℕ) → x < count * slots d → (get_or mates x 0 ≡ none → ⊥) → get_or mates x 0 < count * slots d
  mates-in x h s =
      mate-below d count (cells_of d ws) (sym as_many) mates the-ready.mates (subst (λ (z : ℕ). count * z < none) (add-one d) (omega (arith, size_small))) x h s

  pub agreeing : (list : List ℕ) → list ≡ drop at keys → Agreeing d count mates list
  agreeing list f =
      record {
        mates_long = omega (arith, mul-le-mul_left count (slots-most d), ap (λ (x : ℕ). count * x) (add-one d), size-most, w.rows_long);
        long = omega (arith, ap length f, length-drop at keys, size-most, w.keys_long, w.start);
        below = mates-in;
        short = size_small;
        dim = omega (arith, w.passed.small);
      }

  -- what is written: the words by cell in front
  copied : (by z : List ℕ) → z ≡ take (at + count * (d + 1) - at) (drop at keys) → z ++ drop (count * (d + 1)) by ≡ onto (flat (words_by d (cells_of d ws) order)) by
  copied by z f =
      let g : z ≡ flat (words_by d (cells_of d ws) order) = f ∙ ap (λ (i : ℕ). take i (drop at keys)) (add-sub_cancel_left at (count * (d + 1)) ∙ size_is) ∙ the-ready.words in
      let h : count * (d + 1) ≡ length (flat (words_by d (cells_of d ws) order)) = size_is ∙ sym (words_long d at (length ws) (cells_of d ws) order keys mates the-ready short) in
      ap (λ (l : List ℕ). l ++ drop (count * (d + 1)) by) g ∙ ap (λ (i : ℕ). flat (words_by d (cells_of d ws) order) ++ drop i by) h

  module _ (by z : List ℕ) (f : z ≡ take (at + count * (d + 1) - at) (drop at keys)) (fits : count * (d + 1) ≤ length by) (list : List ℕ) (g : list ≡ drop at keys) where
    pub ended-agreed : ((x : ℕ) → x < count * slots d → AgreesAt d count mates list x) → Worked d ws order (Ok (Agree m)) by (z ++ drop (count * (d + 1)) by)
    ended-agreed all =
        subst (λ (i : ℕ). Worked d ws order (Ok (Agree i)) by (z ++ drop (count * (d + 1)) by)) the-many
        (record {
          handed = flat (words_by d (cells_of d ws) order);
          ends = ends-agreed the-ready.free the-ready.ordered (omega (arith, size_is)) (agrees d at (length ws) (cells_of d ws) order keys mates the-ready short count list as_many g all);
          result = copied by z f;
        })

    pub ended-differs : Clash d count mates list → Worked d ws order (Ok (Differ m)) by (z ++ drop (count * (d + 1)) by)
    ended-differs x =
        subst (λ (i : ℕ). Worked d ws order (Ok (Differ i)) by (z ++ drop (count * (d + 1)) by)) the-many
        (record {
          handed = flat (words_by d (cells_of d ws) order);
          ends = ends-differs the-ready.free the-ready.ordered (omega (arith, size_is)) (disagrees d at (length ws) (cells_of d ws) order keys mates the-ready short count list as_many g x);
          result = copied by z f;
        })
