-- The births written from their rows. Assumes nothing.
use mathlib.Core.Path.{◌≡◌, refl, sym, ap, ◌∙◌, subst}
use mathlib.Core.Logic.{◌⊎◌, ⊎_elim}
use mathlib.Core.List.{List, [], ◌∷◌, ◌++◌, map}
use Prim.Native.Nat.{ℕ, zero, suc, ◌+◌, ◌*◌, ◌-◌, ◌≤◌, ◌<◌, suc-le-suc}
use native.Mathlib.Nat.{not-suc-le-zero, le_of_suc-le-suc, suc-mul, eq-or-lt_of_le}
use native.Mathlib.Decide.{dec_lt, ℕ_discrete}
use native.Mathlib.Omega.{arith}
use lib.ListN.{length, get_or, set, take, drop, length-drop, length-set, take-append-drop}
use lib.Seq.{ext_get_or, get_or-set_same, get_or-set_other, drop-drop}
use Rattle.lists.specs.Rows.{flat, row}
use Rattle.refine_lattice.specs.Refine.{positives}
use Rattle.lists.proofs.Tables.{length-tab, get_or-tab}
use Rattle.lists.specs.Words.{none}
use Rattle.refine_births.specs.Support.{supporters, shares, padded, row_of, Named}
use Rattle.lists.proofs.Rows.{row_fits, part-size}
use Rattle.complex_mates.proofs.Laws.{put-before, put-here, put-length}
use Rattle.refine_births.specs.Promise.{Born, Supports, Bearing, birth_vertices_of, birth_weights_of}
use Rattle.refine_births.proofs.Visiting.{part-is-row}
use Rattle.refine_births.proofs.Points.{supporters-high, supporters-past, row-vertex, row-weight}

-- the first j numbers of a birth are written
pub record Bearing-row (n : ℕ) (row : List ℕ) (size : ℕ) (vertices weights : List ℕ) (j : ℕ) : Type 0 where
  pub vertices_long : length vertices ≡ size
  pub weights_long : length weights ≡ size
  pub vertex : (i : ℕ) → i < j → Named n (get_or row i 0) (get_or vertices i 0)
  pub weight : (i : ℕ) → i < j → get_or weights i 0 ≡ get_or row (size + i) 0

pub bear-none : (n : ℕ) (row : List ℕ) (size : ℕ) (vertices weights : List ℕ) → length vertices ≡ size → length weights ≡ size → Bearing-row n row size vertices weights 0
bear-none n row size vertices weights e f =
    record { vertices_long = e; weights_long = f; vertex = λ i h. absurd (not-suc-le-zero h); weight = λ i h. absurd (not-suc-le-zero h) }

pub bear-more : (n : ℕ) (row : List ℕ) (size : ℕ) (vertices weights : List ℕ) (j v : ℕ) → j < size → Bearing-row n row size vertices weights j → Named n (get_or row j 0) v
    → Bearing-row n row size (set vertices j v) (set weights j (get_or row (size + j) 0)) (j + 1)
bear-more n row size vertices weights j v h s q =
    record {
      vertices_long = simp length-set s.vertices_long;
      weights_long = simp length-set s.weights_long;
      vertex =
          λ i g.
          elim (ℕ_discrete i j) [
            | yes t ↦ rw (t, get_or-set_same vertices j v 0 (omega (arith, s.vertices_long))) q
            | no t ↦ rw (get_or-set_other vertices j i v 0 t) (s.vertex i (omega arith))
          ];
      weight =
          λ i g.
          elim (ℕ_discrete i j) [
            | yes t ↦ rw (t, get_or-set_same weights j (get_or row (size + j) 0) 0 (omega (arith, s.weights_long))) refl
            | no t ↦ get_or-set_other weights j i (get_or row (size + j) 0) 0 t ∙ s.weight i (omega arith)
          ];
    }

pub bear-done : (n : ℕ) (row : List ℕ) (size : ℕ) (vertices weights : List ℕ) (j : ℕ) → size ≤ j → Bearing-row n row size vertices weights j → Born n row size vertices weights
bear-done n row size vertices weights j h s =
    record {
      vertices_long = s.vertices_long;
      weights_long = s.weights_long;
      vertex = λ i g. s.vertex i (omega arith);
      weight = λ i g. s.weight i (omega arith);
    }

-- a birth written from the row of a point is the point's support
module _ (size n : ℕ) (l : List ℕ) (e : length l ≡ n) (vertices weights : List ℕ) (b : Born n (row_of size n l) size vertices weights) where
  pub born-vertices : vertices ≡ padded size none (supporters 0 l)
  born-vertices =
      ext_get_or 0 vertices (padded size none (supporters 0 l)) (b.vertices_long ∙ sym (length-tab size (λ j. get_or (supporters 0 l) j none)))
      (λ j g.
      let h : j < size = omega (arith, b.vertices_long) in
      elim (dec_lt j (positives l)) [
        | yes t ↦
            let v : get_or (supporters 0 l) j n ≡ get_or (supporters 0 l) j none = any 0 l j n none t in
            (b.vertex j h).within (λ q. omega (arith, row-vertex size n l j h, supporters-high 0 l j n t))
            ∙ row-vertex size n l j h
            ∙ v
            ∙ sym (get_or-tab size (λ j. get_or (supporters 0 l) j none) j 0 h)
        | no t ↦
            (b.vertex j h).past (row-vertex size n l j h ∙ supporters-past 0 l j n (omega arith))
            ∙ sym (supporters-past 0 l j none (omega arith))
            ∙ sym (get_or-tab size (λ j. get_or (supporters 0 l) j none) j 0 h)
      ])
    where
      any : (v : ℕ) (l : List ℕ) (j y z : ℕ) → j < positives l → get_or (supporters v l) j y ≡ get_or (supporters v l) j z
      any v [] j y z h = absurd (not-suc-le-zero h)
      any v (zero ∷ l) j y z h = any (suc v) l j y z h
      any v (suc w ∷ l) zero y z h = refl
      any v (suc w ∷ l) (suc j) y z h = any (suc v) l j y z (le_of_suc-le-suc h)

  pub born-weights : weights ≡ padded size 0 (shares l)
  born-weights =
      ext_get_or 0 weights (padded size 0 (shares l)) (b.weights_long ∙ sym (length-tab size (λ j. get_or (shares l) j 0)))
      (λ j g.
      let h : j < size = omega (arith, b.weights_long) in
      b.weight j h ∙ row-weight size n l j h ∙ sym (get_or-tab size (λ j. get_or (shares l) j 0) j 0 h))

zero-drop : (size : ℕ) (xs : List ℕ) → xs ≡ drop (0 * size) xs
zero-drop size xs = let e : 0 * size ≡ 0 = omega arith in rw e refl

drop-drop-row : (size b : ℕ) (xs : List ℕ) → drop (b * size) (drop size xs) ≡ drop (suc b * size) xs
drop-drop-row size b xs = let e : size + b * size ≡ suc b * size = omega (arith, suc-mul b size) in drop-drop (b * size) size xs ∙ ap (λ (i : ℕ). drop i xs) e

-- a flat list is told by its rows
pub flat_rows : (size : ℕ) (g : List ℕ → List ℕ) (ls : List (List ℕ)) (xs : List ℕ) → length xs ≡ length ls * size
    → ((b : ℕ) → b < length ls → row xs size b ≡ g (get_or ls b [])) → xs ≡ flat (map g ls)
flat_rows size g [] xs e h = nothing xs (omega arith)
  where
    nothing : (xs : List ℕ) → length xs ≡ 0 → xs ≡ []
    nothing [] e = refl
    nothing (x ∷ xs) e = absurd (omega arith)
flat_rows size g (l ∷ ls) xs e h =
    let f : length (drop size xs) ≡ length ls * size = omega (arith, length-drop size xs, suc-mul (length ls) size) in
    let r : drop size xs ≡ flat (map g ls) =
    flat_rows size g ls (drop size xs) f
    (λ b k. ap (take size) (drop-drop-row size b xs) ∙ h (suc b) (suc-le-suc k)) in
    sym (take-append-drop size xs) ∙ ap (λ (y : List ℕ). y ++ drop size xs) (ap (take size) (zero-drop size xs) ∙ h 0 (omega arith)) ∙ ap (λ (y : List ℕ). g l ++ y) r

-- ---- all births
-- a turn of the loop: birth b has its rows
pub record Turn (size : ℕ) (keys fresh vertices weights : List ℕ) (b : ℕ) : Type 0 where
  pub inside : get_or fresh b 0 * (size + size) + (size + size) ≤ length keys
  pub vertices-fits : b * size + size ≤ length vertices
  pub weights-fits : b * size + size ≤ length weights

pub bear-turn : (size count : ℕ) (keys fresh vertices₀ weights₀ vertices weights : List ℕ) (b : ℕ) → Bearing size count keys fresh vertices₀ weights₀
    → length vertices ≡ length vertices₀ → length weights ≡ length weights₀ → b < count → Turn size keys fresh vertices weights b
bear-turn size count keys fresh vertices₀ weights₀ vertices weights b q e f h =
    record {
      inside = q.inside b h;
      vertices-fits = row_fits b count size (length vertices) h (omega (arith, q.vertices_long));
      weights-fits = row_fits b count size (length weights) h (omega (arith, q.weights_long));
    }

-- the first b births are written
abbrev pub Borne : ℕ → ℕ → List (List ℕ) → List ℕ → List ℕ → Type 0
Borne size b bs vertices weights =
    (y : ℕ) → y < b → (row vertices size y ≡ padded size none (supporters 0 (get_or bs y []))) × (row weights size y ≡ padded size 0 (shares (get_or bs y [])))

module _ (size n count : ℕ) (keys fresh vertices weights : List ℕ) (b w : ℕ) (t : Turn size keys fresh vertices weights b) (e : w ≡ get_or fresh b 0) where
  pub from-fits : w * (size + size) + (size + size) ≤ length keys
  from-fits = rw e t.inside

  pub bear-row-long : length (take (w * (size + size) + (size + size) - w * (size + size)) (drop (w * (size + size)) keys)) ≡ size + size
  bear-row-long = part-size keys (w * (size + size)) (size + size) from-fits

  pub bear-vertices-long : length (take (b * size + size - b * size) (drop (b * size) vertices)) ≡ size
  bear-vertices-long = part-size vertices (b * size) size t.vertices-fits

  pub bear-weights-long : length (take (b * size + size - b * size) (drop (b * size) weights)) ≡ size
  bear-weights-long = part-size weights (b * size) size t.weights-fits

  module _ (vs ws : List ℕ) (q : Born n (take (w * (size + size) + (size + size) - w * (size + size)) (drop (w * (size + size)) keys)) (length (take (b * size + size - b * size) (drop (b * size) vertices))) vs ws) where
    borne : Born n (row keys (size + size) (get_or fresh b 0)) size vs ws
    borne =
        subst (λ (r : List ℕ). Born n r size vs ws) (part-is-row keys w (size + size) ∙ ap (row keys (size + size)) e)
        (subst (λ (s : ℕ). Born n (take (w * (size + size) + (size + size) - w * (size + size)) (drop (w * (size + size)) keys)) s vs ws) bear-vertices-long q)

    pub borne-vertices-long : length (take (b * size) vertices ++ (vs ++ drop size (drop (b * size) vertices))) ≡ length vertices
    borne-vertices-long = put-length size b vertices vs t.vertices-fits borne.vertices_long

    pub borne-weights-long : length (take (b * size) weights ++ (ws ++ drop size (drop (b * size) weights))) ≡ length weights
    borne-weights-long = put-length size b weights ws t.weights-fits borne.weights_long

    pub borne-more : (bs : List (List ℕ)) → Supports size n count bs keys fresh → b < count → Borne size b bs vertices weights
        → Borne size (b + 1) bs (take (b * size) vertices ++ (vs ++ drop size (drop (b * size) vertices))) (take (b * size) weights ++ (ws ++ drop size (drop (b * size) weights)))
    borne-more bs s h old y g =
        let r : Born n (row_of size n (get_or bs b [])) size vs ws = subst (λ (r : List ℕ). Born n r size vs ws) (s.rows b h) borne in
        ⊎_elim
        (λ (k : y ≡ b). (
          rw k (put-here size b vertices vs t.vertices-fits borne.vertices_long ∙ born-vertices size n (get_or bs b []) (s.sized b h) vs ws r),
          rw k (put-here size b weights ws t.weights-fits borne.weights_long ∙ born-weights size n (get_or bs b []) (s.sized b h) vs ws r),
        ))
        (λ (k : y < b). (
          put-before size b vertices vs t.vertices-fits borne.vertices_long y k ∙ (old y k).0,
          put-before size b weights ws t.weights-fits borne.weights_long y k ∙ (old y k).1,
        ))
        (eq-or-lt_of_le (omega arith))

pub borne-done : (size n count : ℕ) (keys fresh vertices weights : List ℕ) (b : ℕ) (bs : List (List ℕ)) → Supports size n count bs keys fresh
    → length vertices ≡ count * size → length weights ≡ count * size → count ≤ b → Borne size b bs vertices weights
    → (vertices ≡ birth_vertices_of size bs) × (weights ≡ birth_weights_of size bs)
borne-done size n count keys fresh vertices weights b bs s e f h q = (
  flat_rows size (λ l. padded size none (supporters 0 l)) bs vertices (rw s.long e) (λ y g. (q y (omega (arith, s.long))).0),
  flat_rows size (λ l. padded size 0 (shares l)) bs weights (rw s.long f) (λ y g. (q y (omega (arith, s.long))).1),
)
