-- The work of `edge_lengths_sq`, step by step: what each call asks follows from what the calls before it gave. Assumes nothing.
use Rattle.refusal.specs.declared.Refusal.TheVariants.{TooShort, TwoLengths}
use Rattle.refusal.specs.Says.{fine}
use Rattle.std.specs.Prelude.{Err, Ok}
use mathlib.Core.Path.{◌≡◌, refl, sym, ap, subst, ◌∙◌}
use mathlib.Core.Bool.{Bool}
use mathlib.Core.List.{List, [], ◌∷◌, ◌++◌, map, append-nil}
use Prim.Native.Nat.{ℕ, zero, suc, ◌+◌, ◌-◌, ◌≤◌, ◌<◌, min, max}
use native.Mathlib.Numerals.{add-one}
use native.Mathlib.Omega.{arith}
use lib.Ieee.{Float}
use lib.ListN.{length, get_or, take, drop, set, replicate, length-replicate, get_or-replicate, drop_of_length-le}
use lib.Seq.{take_all}
use Rattle.lists.specs.Tables.{tab}
use Rattle.lists.proofs.Tables.{length-tab, tab-ext, map-tab, list-tab}
use Rattle.quotient.specs.declared.Grid.{Grid}
use Rattle.quotient.specs.Shape.{check_of}
use Rattle.quotient.specs.Reduce.{vertex_of}
use Rattle.grid_lengths.specs.declared.EdgeLength.TheVariants.{Length, Clash}
use Rattle.grid_lengths.specs.Edges.{visits_of, from_at, to_at, square_at, same_ends, visits_edge, edges_of}
use Rattle.grid_lengths.specs.Settled.{settle, only_if, values_to}
use Rattle.grid_lengths.specs.Noted.{Noting, Noted, Clashed}
use Rattle.grid_lengths.specs.Lengths.{ends_room, settled_of, LengthsEnd, clashing, short, listed}
use Rattle.grid_lengths.specs.Work.{Classed, Handing, Worked}

-- ---- the values of an edge, its ends in either order
sorted-ends : (a b p q : ℕ) → same_ends (min a b) (max a b) p q ≡ same_ends a b p q
sorted-ends a b p q = let e : min (min a b) (max a b) ≡ min a b = omega arith in let f : max (min a b) (max a b) ≡ max a b = omega arith in rw (e, f)

pub sorted-values : (g : Grid) (a b n : ℕ) → values_to g (min a b) (max a b) n ≡ values_to g a b n
unfolding values_to
sorted-values g a b zero = refl
sorted-values g a b (suc r) =
    ap (λ (l : List Float). l ++ only_if (visits_edge g (min a b) (max a b) r) (square_at g r)) (sorted-values g a b r)
    ∙ ap (λ (t : Bool). values_to g a b r ++ only_if t (square_at g r)) (sorted-ends a b (vertex_of g (from_at g r)) (vertex_of g (to_at g r)))

-- ---- lengths written one after the other
store-suc : (z : Float) (src dst : List Float) (i : ℕ) → i < length src → i < length dst → set (take i src ++ drop i dst) i (get_or src i z) ≡ take (suc i) src ++ drop (suc i) dst
store-suc z [] dst i h k = absurd (omega arith)
store-suc z (x ∷ xs) [] i h k = absurd (omega arith)
store-suc z (x ∷ xs) (y ∷ ys) zero h k = refl
store-suc z (x ∷ xs) (y ∷ ys) (suc i) h k = ap (λ (l : List Float). x ∷ l) (store-suc z xs ys i (omega arith) (omega arith))

pub store_length : (z : Float) (src dst : List Float) (i : ℕ) → i < length src → i < length dst → set (take i src ++ drop i dst) i (get_or src i z) ≡ take (i + 1) src ++ drop (i + 1) dst
store_length z src dst i h k = rw add-one (store-suc z src dst i h k)

pub stored-lengths : (src dst : List Float) (i : ℕ) → length src ≤ i → length dst ≤ i → take i src ++ drop i dst ≡ src
stored-lengths src dst i h k = rw (take_all i src h, drop_of_length-le dst k) (append-nil src)

-- ---- the notes
module _ (g : Grid) (passed : check_of g ≡ fine) (m : ℕ) (ids : List ℕ) (c : Classed g m ids) where
  pub noting : (rows : List ℕ) (n : ℕ) → rows ≡ replicate n 0 → n ≡ ends_room g → length ids ≡ ends_room g → Noting g ids rows
  noting rows n e h l =
      let r : length rows ≡ n = ap length e ∙ length-replicate n 0 in
      record {
        taken = passed;
        long = omega arith;
        below = λ x k. omega (arith, c.below x k, c.few);
        same = c.same;
        other = c.other;
        blank = λ x k. ap (λ (t : List ℕ). get_or t (get_or ids x 0) 0) e ∙ get_or-replicate {A = ℕ} n (get_or ids x 0) 0 0 (omega (arith, c.below x k, c.few));
      }

  module _ (last : List ℕ) (long : length last ≡ ends_room g) (n : Noted g ids last) where
    pub free : Clashed g → ⊥
    free x =
        let e : Length (square_at g (n.visit x.visit)) ≡ Clash x.first x.second = sym (n.length_is x.visit x.within) ∙ x.clash in
        let z : ◌≡◌ {A = ℕ} 0 1 = cc in
        omega arith

    noted-at : (i : ℕ) (h : i < m) → get_or last i 0 ≡ suc (n.visit (c.of i h).visit)
    noted-at i h = let v = c.of i h in ap (λ (k : ℕ). get_or last k 0) (sym v.id) ∙ n.note v.visit v.within

    pub handing : (k : ℕ) → k ≡ m → Handing g k last
    handing k e =
        record {
          taken = passed;
          long = omega (arith, c.few);
          some = λ i h. let l : i < m = omega arith in omega (arith, noted-at i l);
          low = λ i h. let l : i < m = omega arith in omega (arith, noted-at i l, n.within (c.of i l).visit (c.of i l).within);
        }

    -- each edge comes to the length of the visit noted
    length_at : (i : ℕ) → i < m → settled_of g (get_or (edges_of g) i []) ≡ Length (square_at g (get_or last i 0 - 1))
    length_at i h =
        let v = c.of i h in
        let a = vertex_of g (from_at g v.visit) in
        let b = vertex_of g (to_at g v.visit) in
        let k : n.visit v.visit ≡ get_or last i 0 - 1 = omega (arith, noted-at i h) in
        ap (settled_of g) v.ends ∙ ap settle (sorted-values g a b (visits_of g)) ∙ n.length_is v.visit v.within ∙ ap (λ (r : ℕ). Length (square_at g r)) k

    lengths-are : map (settled_of g) (edges_of g) ≡ map Length (tab m (λ i. square_at g (get_or last i 0 - 1)))
    lengths-are =
        ap (map (settled_of g)) (list-tab m (edges_of g) (λ i. get_or (edges_of g) i []) [] c.many (λ i h. refl))
        ∙ map-tab (settled_of g) m (λ i. get_or (edges_of g) i [])
        ∙ tab-ext m (λ i. settled_of g (get_or (edges_of g) i [])) (λ i. Length (square_at g (get_or last i 0 - 1))) length_at
        ∙ sym (map-tab Length m (λ i. square_at g (get_or last i 0 - 1)))

    -- 12
    pub worked-short : (out : List Float) → length out < m → Worked g (Err TooShort) out out
    worked-short out h = record { handed = []; ends = short free (omega (arith, c.many)); result = refl }

    -- the lengths
    pub worked-listed : (out part : List Float) (k : ℕ) → k ≡ m → m ≤ length out → part ≡ tab k (λ i. square_at g (get_or last i 0 - 1)) → Worked g (Ok m) out (part ++ drop m out)
    worked-listed out part k e h p =
        let xs = tab m (λ i. square_at g (get_or last i 0 - 1)) in
        let l : length xs ≡ m = length-tab m (λ i. square_at g (get_or last i 0 - 1)) in
        record {
          handed = tab m (λ i. square_at g (get_or last i 0 - 1));
          ends = subst (λ (z : ℕ). LengthsEnd g (length out) (Ok z) (tab m (λ i. square_at g (get_or last i 0 - 1)))) c.many (listed free (omega (arith, c.many)) lengths-are);
          result = ap (λ (t : List Float). t ++ drop m out) (p ∙ ap (λ (z : ℕ). tab z (λ i. square_at g (get_or last i 0 - 1))) e) ∙ ap (λ (z : ℕ). tab m (λ i. square_at g (get_or last i 0 - 1)) ++ drop z out) (sym l);
        }

-- 15
pub worked-clash : (g : Grid) (out : List Float) → Clashed g → Worked g (Err TwoLengths) out out
worked-clash g out x = record { handed = []; ends = clashing x; result = refl }
