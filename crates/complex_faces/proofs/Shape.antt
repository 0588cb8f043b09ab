-- Faces rise as the cells do, have the cells' numbers, and are not too many; in dimension d they are the cells. Assumes nothing.
use mathlib.Core.List.{List, [], ◌∷◌, ◌++◌}
use mathlib.Core.Path.{◌≡◌, refl, sym, ap, ◌∙◌, subst}
use mathlib.Core.Logic.{◌⊎◌, inl, ⊎_elim}
use mathlib.Core.Bool.{Bool, true, false}
use Prim.Native.Nat.{ℕ, zero, suc, ◌+◌, ◌*◌, ◌<◌, ◌≤◌}
use native.Mathlib.Nat.{eq-or-lt_of_le, suc-mul, zero-mul}
use native.Mathlib.Omega.{arith}
use lib.ListN.{length, get_or, length-append, get_or-append}
use lib.Seq.{ext_get_or, get_or_at}
use Rattle.complex.specs.Cells.{comes_before, placed, place}
use Rattle.complex.specs.Facets.{cell_at, Cells}
use Rattle.complex.specs.Skeleton.{in_colex, facets_of}
use Rattle.complex_cells.proofs.Words.{Word, Each, Rising, In, each_of, each_in, in-at, at_in, one_list}
use Rattle.complex_cells.proofs.Order.{Colex, colex-irr, colex-trans}
use Rattle.complex_cells.proofs.Named.{in_colex-from, in_colex-has, in_colex-rising}
use Rattle.complex_faces.specs.Faces.{each_then, places_of, sub_word, sub_words, chosen, all_chosen, faces_of}
use Rattle.complex_faces.proofs.Members.{in_right, in_either, then-in, in_then, places-long, sub-length, in-subs, subs-in, all_in, in_all, all-long, face-long}
use Rattle.complex_faces.proofs.Laws.{facets-of-faces}

-- ---- places rise, and are below n
pub places-below : (n s : ℕ) (p : Word) (i : ℕ) → In p (places_of n s) → i < s → get_or p i 0 < n
unfolding places_of
places-below zero zero p i m h = absurd (omega arith)
places-below zero (suc s) p i m h = absurd m
places-below (suc n) zero p i m h = absurd (omega arith)
places-below (suc n) (suc s) p i m h =
    ⊎_elim (λ (k : In p (places_of n (suc s))). omega (arith, places-below n (suc s) p i k h))
    (λ (k : In p (each_then n (places_of n s))).
    let r = in_then n p (places_of n s) k in
    let l = places-long n s r.0 r.1 in
    subst (λ (z : Word). get_or z i 0 < suc n) (sym r.2)
    (⊎_elim (λ (e : i ≡ s). omega (arith, get_or_at r.0 n [] 0 i (omega arith)))
    (λ (j : i < s). omega (arith, get_or-append r.0 (n ∷ []) 0 i (omega arith), places-below n s r.0 i r.1 j)) (eq-or-lt_of_le (omega arith))))
    (in_either p (places_of n (suc s)) (each_then n (places_of n s)) m)

pub places-rise : (n s : ℕ) (p : Word) (i j : ℕ) → In p (places_of n s) → i < j → j < s → get_or p i 0 < get_or p j 0
unfolding places_of
places-rise zero zero p i j m h l = absurd (omega arith)
places-rise zero (suc s) p i j m h l = absurd m
places-rise (suc n) zero p i j m h l = absurd (omega arith)
places-rise (suc n) (suc s) p i j m h l =
    ⊎_elim (λ (k : In p (places_of n (suc s))). places-rise n (suc s) p i j k h l)
    (λ (k : In p (each_then n (places_of n s))).
    let r = in_then n p (places_of n s) k in
    let g = places-long n s r.0 r.1 in
    let ei = get_or-append r.0 (n ∷ []) 0 i (omega arith) in
    subst (λ (z : Word). get_or z i 0 < get_or z j 0) (sym r.2)
    (⊎_elim (λ (e : j ≡ s). omega (arith, ei, get_or_at r.0 n [] 0 j (omega arith), places-below n s r.0 i r.1 (omega arith)))
    (λ (t : j < s). omega (arith, ei, get_or-append r.0 (n ∷ []) 0 j (omega arith), places-rise n s r.0 i j r.1 h t)) (eq-or-lt_of_le (omega arith))))
    (in_either p (places_of n (suc s)) (each_then n (places_of n s)) m)

pub sub_at : (w p : Word) (i : ℕ) → i < length p → get_or (sub_word w p) i 0 ≡ get_or w (get_or p i 0) 0
unfolding sub_word
sub_at w [] i h = absurd (omega arith)
sub_at w (x ∷ p) zero h = refl
sub_at w (x ∷ p) (suc i) h = sub_at w p i (omega arith)

-- ---- a face: the cell that it is of, and the places
pub record From (cs : List Word) (k : ℕ) (u : Word) : Type 0 where
  pub cell : Word
  pub places : Word
  pub in_cells : In cell cs
  pub in-places : In places (places_of (length cell) (suc k))
  pub same : u ≡ sub_word cell places

pub face-from : (cs : List Word) (k : ℕ) (u : Word) → In u (faces_of cs k) → From cs k u
face-from cs k u m =
    let r = in_all (suc k) cs u (in_colex-from (suc k) (all_chosen (suc k) cs) u m) in
    let q = in-subs r.0 u (places_of (length r.0) (suc k)) r.2 in
    record { cell = r.0; places = q.0; in_cells = r.1; in-places = q.1; same = q.2 }

module _ (d : ℕ) (cs : List Word) (cells : Cells d cs) where
  pub cells-each : Each (λ w. length w ≡ suc d) cs
  cells-each = each_of (λ w. length w ≡ suc d) cs (λ w m. let r = at_in w cs m in ap length (sym r.2) ∙ cells.long r.0 r.1)

  face-at : (k : ℕ) (u : Word) (f : From cs k u) (i : ℕ) → i ≤ k → get_or u i 0 ≡ get_or f.cell (get_or f.places i 0) 0
  face-at k u f i h = ap (λ (z : Word). get_or z i 0) f.same ∙ sub_at f.cell f.places i (omega (arith, places-long (length f.cell) (suc k) f.places f.in-places))

  -- a face's numbers are the cells'
  pub face-low : (b k : ℕ) → ((c j : ℕ) → c < length cs → j < suc d → get_or (cell_at cs c) j 0 < b) → (u : Word) (i : ℕ) → In u (faces_of cs k) → i ≤ k → get_or u i 0 < b
  face-low b k low u i m h =
      let f = face-from cs k u m in
      let r = at_in f.cell cs f.in_cells in
      let l : get_or f.places i 0 < length f.cell = places-below (length f.cell) (suc k) f.places i f.in-places (omega arith) in
      let e = each_in (λ w. length w ≡ suc d) f.cell cs cells-each f.in_cells in
      subst (λ (z : ℕ). z < b) (ap (λ (z : Word). get_or z (get_or f.places i 0) 0) r.2 ∙ sym (face-at k u f i h)) (low r.0 (get_or f.places i 0) r.1 (omega arith))

  -- faces are cells of their dimension: they have k + 1 vertices, and they rise
  pub faces-cells : (k : ℕ) → Cells k (faces_of cs k)
  faces-cells k =
      record {
        long = λ c h. face-long cs k (cell_at (faces_of cs k) c) (in-at (faces_of cs k) c h);
        rising =
            λ c i j h l t.
            let u = cell_at (faces_of cs k) c in
            let f = face-from cs k (cell_at (faces_of cs k) c) (in-at (faces_of cs k) c h) in
            let r = at_in f.cell cs f.in_cells in
            let e = each_in (λ w. length w ≡ suc d) f.cell cs cells-each f.in_cells in
            let pj : get_or f.places j 0 < length f.cell = places-below (length f.cell) (suc k) f.places j f.in-places (omega arith) in
            let pij : get_or f.places i 0 < get_or f.places j 0 = places-rise (length f.cell) (suc k) f.places i j f.in-places l (omega arith) in
            let up : get_or f.cell (get_or f.places i 0) 0 < get_or f.cell (get_or f.places j 0) 0 = subst (λ (z : Word). get_or z (get_or f.places i 0) 0 < get_or z (get_or f.places j 0) 0) r.2 (cells.rising r.0 (get_or f.places i 0) (get_or f.places j 0) r.1 pij (omega arith)) in
            omega (arith, up, face-at k (cell_at (faces_of cs k) c) f i (omega arith), face-at k (cell_at (faces_of cs k) c) f j t);
      }

-- ---- how many
place-most : (n : ℕ) (w : Word) (cs : List Word) → length (place n w cs) ≤ suc (length cs)
unfolding place placed
place-most n w [] = omega arith
place-most n w (c ∷ cs) = go (comes_before n w c) (comes_before n c w) (place-most n w cs)
  where
    go : (s t : Bool) → length (place n w cs) ≤ suc (length cs) → length (placed s t w c cs (place n w cs)) ≤ suc (suc (length cs))
    go true t h = omega arith
    go false true h = omega (arith, h)
    go false false h = omega arith

colex-most : (n : ℕ) (ws : List Word) → length (in_colex n ws) ≤ length ws
unfolding in_colex
colex-most n [] = omega arith
colex-most n (w ∷ ws) = omega (arith, place-most n w (in_colex n ws), colex-most n ws)

subs-many : (w : Word) (ps : List Word) → length (sub_words w ps) ≡ length ps
unfolding sub_words
subs-many w [] = refl
subs-many w (p ∷ ps) = ap suc (subs-many w ps)

all-many : (n s : ℕ) (cs : List Word) → Each (λ w. length w ≡ n) cs → length (all_chosen s cs) ≡ length cs * length (places_of n s)
unfolding all_chosen
all-many n s [] a = sym (zero-mul (length (places_of n s)))
all-many n s (w ∷ cs) a =
    length-append (chosen s w) (all_chosen s cs)
    ∙ omega (arith, subs-many w (places_of (length w) s), ap (λ (z : ℕ). length (places_of z s)) a.0, all-many n s cs a.1, suc-mul (length cs) (length (places_of n s)))

pub faces-most : (d k : ℕ) (cs : List Word) → Each (λ w. length w ≡ suc d) cs → length (faces_of cs k) ≤ length cs * length (places_of (suc d) (suc k))
faces-most d k cs a = omega (arith, colex-most (suc k) (all_chosen (suc k) cs), all-many (suc d) (suc k) cs a)

-- ---- all places
too_many : (n s : ℕ) (p : Word) → In p (places_of n s) → n < s → ⊥
unfolding places_of
too_many zero zero p m h = absurd (omega arith)
too_many zero (suc s) p m h = m
too_many (suc n) zero p m h = absurd (omega arith)
too_many (suc n) (suc s) p m h =
    ⊎_elim (λ (k : In p (places_of n (suc s))). too_many n (suc s) p k (omega arith)) (λ (k : In p (each_then n (places_of n s))). let r = in_then n p (places_of n s) k in too_many n s r.0 r.1 (omega arith))
    (in_either p (places_of n (suc s)) (each_then n (places_of n s)) m)

all-places : (n : ℕ) (p : Word) (i : ℕ) → In p (places_of n n) → i < n → get_or p i 0 ≡ i
unfolding places_of
all-places zero p i m h = absurd (omega arith)
all-places (suc n) p i m h =
    ⊎_elim (λ (k : In p (places_of n (suc n))). absurd (too_many n (suc n) p k (omega arith)))
    (λ (k : In p (each_then n (places_of n n))).
    let r = in_then n p (places_of n n) k in
    let l = places-long n n r.0 r.1 in
    ap (λ (z : Word). get_or z i 0) r.2
    ∙ ⊎_elim (λ (e : i ≡ n). get_or_at r.0 n [] 0 i (omega arith) ∙ sym e) (λ (j : i < n). get_or-append r.0 (n ∷ []) 0 i (omega arith) ∙ all-places n r.0 i r.1 j) (eq-or-lt_of_le (omega arith)))
    (in_either p (places_of n (suc n)) (each_then n (places_of n n)) m)

some-places : (n : ℕ) → (p : Word) × In p (places_of n n)
unfolding places_of
some-places zero = ([], inl refl)
some-places (suc n) = let r = some-places n in (r.0 ++ (n ∷ []), in_right (r.0 ++ (n ∷ [])) (places_of n (suc n)) (each_then n (places_of n n)) (then-in n r.0 (places_of n n) r.1))

whole_word : (w p : Word) → In p (places_of (length w) (length w)) → sub_word w p ≡ w
whole_word w p m =
    let l = sub-length w p ∙ places-long (length w) (length w) p m in
    ext_get_or 0 (sub_word w p) w l
    (λ i h.
    let t : i < length w = omega arith in
    sub_at w p i (omega (arith, places-long (length w) (length w) p m)) ∙ ap (λ (z : ℕ). get_or w z 0) (all-places (length w) p i m t))

-- the faces of dimension d are the cells
pub faces-top : (d : ℕ) (cs : List Word) → Each (λ w. length w ≡ suc d) cs → Rising (Colex (suc d)) cs → faces_of cs d ≡ cs
faces-top d cs long up =
    one_list (Colex (suc d)) (colex-irr (suc d)) (colex-trans (suc d)) (faces_of cs d) cs (in_colex-rising (suc d) (all_chosen (suc d) cs)) up
    (λ r m.
    let f = face-from cs d r m in
    let e = each_in (λ w. length w ≡ suc d) f.cell cs long f.in_cells in
    let q : In f.places (places_of (length f.cell) (length f.cell)) = subst (λ (z : ℕ). In f.places (places_of (length f.cell) z)) (sym e) f.in-places in
    subst (λ (z : Word). In z cs) (sym (f.same ∙ whole_word f.cell f.places q)) f.in_cells)
    (λ r m.
    let e = each_in (λ w. length w ≡ suc d) r cs long m in
    let p = some-places (length r) in
    in_colex-has (suc d) (all_chosen (suc d) cs) r (all-long (suc d) cs)
    (all_in (suc d) cs r r m
    (subst (λ (z : Word). In z (chosen (suc d) r)) (whole_word r p.0 p.1) (subs-in r p.0 (places_of (length r) (suc d)) (subst (λ (z : ℕ). In p.0 (places_of (length r) z)) e p.1)))))

-- the faces of dimension d - 1 are the facets
pub faces-facets : (d : ℕ) (cs : List Word) → Each (λ w. length w ≡ suc (suc d)) cs → Rising (Colex (suc (suc d))) cs → faces_of cs d ≡ facets_of (suc d) cs
faces-facets d cs long up = sym (ap (facets_of (suc d)) (sym (faces-top (suc d) cs long up)) ∙ facets-of-faces (suc d) d cs long (omega arith))
