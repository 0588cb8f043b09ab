-- A renaming that keeps the numbers of some words apart takes a facet in three cells to a facet in three cells, though the cells are sorted anew. Assumes nothing.
use mathlib.Core.Path.{◌≡◌, refl, sym, ap, subst, ◌∙◌}
use mathlib.Core.Bool.{Bool, true, false, ◌||◌, false≢true}
use mathlib.Core.Logic.{inl, inr}
use mathlib.Core.List.{List, [], ◌∷◌, map}
use Prim.Native.Nat.{ℕ, zero, suc, ◌≤◌, ◌<◌}
use native.Mathlib.Decide.{dec_lt}
use native.Mathlib.Omega.{arith}
use lib.Dec.{eqb}
use lib.ListN.{length, get_or, length-map}
use borrow.Author.Tests.{eqb-false, ne_eqb}
use Rattle.lists.specs.Words.{among, has_repeat}
use Rattle.lists.proofs.Members.{Mem, Mem-of, Mem-at}
use Rattle.multiindex.specs.Sort.{sort_word}
use Rattle.multiindex.proofs.SortLaws.{sort-length}
use Rattle.complex.specs.Cells.{in_order}
use Rattle.complex.specs.Facets.{cell_at, facet_at, Mates, Crowded}
use Rattle.complex_cells.proofs.Words.{Word, Each, Rising, In, each_in, each_of, in-at, at_in}
use Rattle.complex_cells.proofs.Order.{Colex, colex-irr, order-rising, order_from, order-has}
use Rattle.complex_cells.proofs.Strict.{sort-strict}
use Rattle.grid_mesh.proofs.Members.{sort-mem, mem-sort, Rises, one_word, facet-mem, mem-facet, one-facet}

-- ---- members of a renamed word, and renamed words
mem-to : (f : ℕ → ℕ) (a : ℕ) (w : List ℕ) → Mem a w → Mem (f a) (map f w)
mem-to f a [] m = absurd m
mem-to f a (x ∷ w) (inl e) = inl (ap f e)
mem-to f a (x ∷ w) (inr m) = inr (mem-to f a w m)

mem-from : (f : ℕ → ℕ) (r : ℕ) (w : List ℕ) → Mem r (map f w) → (a : ℕ) × Mem a w × (f a ≡ r)
mem-from f r [] m = absurd m
mem-from f r (x ∷ w) (inl e) = (x, inl refl, e)
mem-from f r (x ∷ w) (inr m) = let u = mem-from f r w m in (u.0, inr u.1, u.2)

in_to : (f : Word → Word) (w : Word) (ws : List Word) → In w ws → In (f w) (map f ws)
in_to f w [] m = absurd m
in_to f w (x ∷ ws) (inl e) = inl (ap f e)
in_to f w (x ∷ ws) (inr m) = inr (in_to f w ws m)

in-from : (f : Word → Word) (v : Word) (ws : List Word) → In v (map f ws) → (w : Word) × In w ws × (f w ≡ v)
in-from f v [] m = absurd m
in-from f v (x ∷ ws) (inl e) = (x, inl refl, e)
in-from f v (x ∷ ws) (inr m) = let u = in-from f v ws m in (u.0, inr u.1, u.2)

-- ---- a renaming that keeps numbers apart makes no repeat
both_false : (a b : Bool) → a || b ≡ false → (a ≡ false) × (b ≡ false)
both_false true b e = absurd (false≢true (sym e))
both_false false b e = (refl, e)

neither : (a b : Bool) → a ≡ false → b ≡ false → a || b ≡ false
neither a b e h = rw (e, h)

module _ (N : ℕ) (f : ℕ → ℕ) (one : (a b : ℕ) → a < N → b < N → f a ≡ f b → a ≡ b) where
  among-map : (a : ℕ) (w : List ℕ) → a < N → ((b : ℕ) → Mem b w → b < N) → among a w ≡ false → among (f a) (map f w) ≡ false
  unfolding among
  among-map a [] h low e = refl
  among-map a (x ∷ w) h low e =
      let u = both_false (eqb x a) (among a w) e in
      neither (eqb (f x) (f a)) (among (f a) (map f w)) (ne_eqb (f x) (f a) (λ z. eqb-false x a u.0 (one x a (low x (inl refl)) h z))) (among-map a w h (λ b m. low b (inr m)) u.1)

  pub repeat-map : (w : List ℕ) → ((b : ℕ) → Mem b w → b < N) → has_repeat w ≡ false → has_repeat (map f w) ≡ false
  unfolding has_repeat
  repeat-map [] low e = refl
  repeat-map (x ∷ w) low e =
      let u = both_false (among x w) (has_repeat w) e in
      neither (among (f x) (map f w)) (has_repeat (map f w)) (among-map x w (low x (inl refl)) (λ b m. low b (inr m)) u.0) (repeat-map w (λ b m. low b (inr m)) u.1)

-- ---- a rising list has nothing twice
each_at : (P : Word → Type 0) (xs : List Word) (i : ℕ) → Each P xs → i < length xs → P (get_or xs i [])
each_at P xs i a h = each_in P (get_or xs i []) xs a (in-at xs i h)

rising-at : (R : Word → Word → Type 0) (xs : List Word) (i j : ℕ) → Rising R xs → i < j → j < length xs → R (get_or xs i []) (get_or xs j [])
rising-at R [] i j p h l = absurd (let z : ⊥ = omega arith in z)
rising-at R (x ∷ xs) i zero p h l = absurd (let z : ⊥ = omega arith in z)
rising-at R (x ∷ xs) zero (suc j) p h l = each_at (R x) xs j p.0 (omega arith)
rising-at R (x ∷ xs) (suc i) (suc j) p h l = rising-at R xs i j p.1 (omega arith) (omega arith)

cell-once : (n : ℕ) (ws : List Word) (c e : ℕ) → c < e → e < length (in_order n ws) → cell_at (in_order n ws) c ≡ cell_at (in_order n ws) e → ⊥
cell-once n ws c e h l q = colex-irr n (cell_at (in_order n ws) e) (subst (λ (w : Word). Colex n w (cell_at (in_order n ws) e)) q (rising-at (Colex n) (in_order n ws) c e (order-rising n ws) h l))

cells-apart : (n : ℕ) (ws : List Word) (c e : ℕ) → c < length (in_order n ws) → e < length (in_order n ws) → (c ≡ e → ⊥) → cell_at (in_order n ws) c ≡ cell_at (in_order n ws) e → ⊥
cells-apart n ws c e hc he k q = elim (dec_lt c e) [ yes l ↦ cell-once n ws c e l he q | no l ↦ cell-once n ws e c (omega arith) hc (sym q) ]

-- ---- the theorem: words without repeats, their numbers below N, and a renaming that keeps these apart
module _ (d N : ℕ) (ws : List Word) (f : ℕ → ℕ) (long : Each (λ w. length w ≡ suc d) ws) (single : (w : Word) → In w ws → has_repeat w ≡ false) (low : (w : Word) → In w ws → (a : ℕ) → Mem a w → a < N) (one : (a b : ℕ) → a < N → b < N → f a ≡ f b → a ≡ b) where
  -- the renamed words, and the cells of both
  abbrev new : List Word
  new = map (map f) ws

  abbrev cells : List Word
  cells = in_order (suc d) ws

  abbrev cells' : List Word
  cells' = in_order (suc d) new

  abbrev sorted' : Word → Word
  sorted' w = sort_word (map f w)

  long' : Each (λ w. length w ≡ suc d) new
  long' = each_of (λ w. length w ≡ suc d) new (λ v m. let u = in-from (map f) v ws m in ap length (sym u.2) ∙ length-map u.0 f ∙ each_in (λ w. length w ≡ suc d) u.0 ws long u.1)

  rises : (w : Word) → In w ws → Rises (sort_word w)
  rises w m = sort-strict w (single w m)

  rises' : (w : Word) → In w ws → Rises (sorted' w)
  rises' w m = sort-strict (map f w) (repeat-map N f one w (low w m) (single w m))

  long_of : (w : Word) → In w ws → length (sort_word w) ≡ suc d
  long_of w m = sort-length w ∙ each_in (λ v. length v ≡ suc d) w ws long m

  long-of' : (w : Word) → In w ws → length (sorted' w) ≡ suc d
  long-of' w m = sort-length (map f w) ∙ length-map w f ∙ each_in (λ v. length v ≡ suc d) w ws long m

  to_sorted : (w : Word) (a : ℕ) → Mem a (sort_word w) → Mem (f a) (sorted' w)
  to_sorted w a m = sort-mem (f a) (map f w) (mem-to f a w (mem-sort a w m))

  from_sorted : (w : Word) (r : ℕ) → Mem r (sorted' w) → (a : ℕ) × Mem a (sort_word w) × (f a ≡ r)
  from_sorted w r m = let u = mem-from f r w (mem-sort r (map f w) m) in (u.0, sort-mem u.0 w u.1, u.2)

  low-sorted : (w : Word) → In w ws → (a : ℕ) → Mem a (sort_word w) → a < N
  low-sorted w m a k = low w m a (mem-sort a w k)

  -- two words that sort to one cell after the renaming do so before it
  half : (u v : Word) → In u ws → In v ws → sorted' u ≡ sorted' v → (a : ℕ) → Mem a (sort_word u) → Mem a (sort_word v)
  half u v hu hv e a m =
      let w = from_sorted v (f a) (subst (λ (x : Word). Mem (f a) x) e (to_sorted u a m)) in
      subst (λ (x : ℕ). Mem x (sort_word v)) (one w.0 a (low-sorted v hv w.0 w.1) (low-sorted u hu a m) w.2) w.1

  same-before : (u v : Word) → In u ws → In v ws → sorted' u ≡ sorted' v → sort_word u ≡ sort_word v
  same-before u v hu hv e = one_word (sort_word u) (sort_word v) (rises u hu) (rises v hv) (half u v hu hv e) (half v u hv hu (sym e))

  -- where a word's new cell stands, and where position i of its old one went
  record Spot (w : Word) (i : ℕ) : Type 0 where
    cell : ℕ
    cell_in : cell < length cells'
    is : cell_at cells' cell ≡ sorted' w
    at : ℕ
    at_in : at < length (sorted' w)
    holds : get_or (sorted' w) at 0 ≡ f (get_or (sort_word w) i 0)

  spot : (w : Word) (i : ℕ) → In w ws → i ≤ d → Spot w i
  spot w i m l =
      let c = at_in (sorted' w) cells' (order-has (suc d) new (map f w) long' (in_to (map f) w ws m)) in
      let a = Mem-at (f (get_or (sort_word w) i 0)) (sorted' w) (to_sorted w (get_or (sort_word w) i 0) (Mem-of (sort_word w) i (omega (arith, long_of w m)))) in
      record { cell = c.0; cell_in = c.1; is = c.2; at = a.0; at_in = a.1; holds = a.2 }

  module _ (u v : Word) (i j : ℕ) (hu : In u ws) (hv : In v ws) (li : i ≤ d) (lj : j ≤ d) (e : facet_at (sort_word u) i ≡ facet_at (sort_word v) j) (s : Spot u i) (t : Spot v j) where
    others : (r : ℕ) → Mem r (sorted' u) → (r ≡ get_or (sorted' u) s.at 0 → ⊥) → Mem r (sorted' v) × (r ≡ get_or (sorted' v) t.at 0 → ⊥)
    others r m n =
        let w = from_sorted u r m in
        let a : ℕ = w.0 in
        let q : Mem a (facet_at (sort_word u) i) = facet-mem a (sort_word u) i w.1 (λ z. n (sym w.2 ∙ ap f z ∙ sym s.holds)) in
        let k = mem-facet a (sort_word v) j (omega (arith, long_of v hv)) (rises v hv) (subst (λ (x : Word). Mem a x) e q) in (
          subst (λ (x : ℕ). Mem x (sorted' v)) w.2 (to_sorted v a k.0),
          λ z. k.1 (one a (get_or (sort_word v) j 0) (low-sorted v hv a k.0) (low-sorted v hv (get_or (sort_word v) j 0) (Mem-of (sort_word v) j (omega (arith, long_of v hv)))) (w.2 ∙ z ∙ t.holds)),
        )

  mates : 0 < d → (u v : Word) (i j : ℕ) → In u ws → In v ws → i ≤ d → j ≤ d → facet_at (sort_word u) i ≡ facet_at (sort_word v) j → (sort_word u ≡ sort_word v → ⊥) → (s : Spot u i) (t : Spot v j) → Mates d cells' s.cell s.at t.cell t.at
  mates some u v i j hu hv li lj e n s t =
      record {
        this = record { some = some; cell = s.cell_in; place = omega (arith, s.at_in, long-of' u hu) };
        that = record { some = some; cell = t.cell_in; place = omega (arith, t.at_in, long-of' v hv) };
        apart = λ z. n (same-before u v hu hv (sym s.is ∙ ap (cell_at cells') z ∙ t.is));
        one =
            ap (λ (w : Word). facet_at w s.at) s.is
            ∙ one-facet (sorted' u) (sorted' v) s.at t.at s.at_in t.at_in (rises' u hu) (rises' v hv) (others u v i j hu hv li lj e s t) (others v u j i hv hu lj li (sym e) t s)
            ∙ ap (λ (w : Word). facet_at w t.at) (sym t.is);
      }

  -- the word of a cell
  word_of : (c : ℕ) → c < length cells → (w : Word) × In w ws × (sort_word w ≡ cell_at cells c)
  word_of c h = order_from (suc d) ws (cell_at cells c) (in-at cells c h)

  apart_words : (c e : ℕ) (u v : Word) → c < length cells → e < length cells → (c ≡ e → ⊥) → sort_word u ≡ cell_at cells c → sort_word v ≡ cell_at cells e → sort_word u ≡ sort_word v → ⊥
  apart_words c e u v hc he n p q z = cells-apart (suc d) ws c e hc he n (sym p ∙ z ∙ q)

  one_of : (c e : ℕ) (u v : Word) (i j : ℕ) → sort_word u ≡ cell_at cells c → sort_word v ≡ cell_at cells e → facet_at (cell_at cells c) i ≡ facet_at (cell_at cells e) j → facet_at (sort_word u) i ≡ facet_at (sort_word v) j
  one_of c e u v i j p q z = ap (λ (w : Word). facet_at w i) p ∙ z ∙ ap (λ (w : Word). facet_at w j) (sym q)

  pub crowd-renamed : Crowded d cells → Crowded d cells'
  crowd-renamed w =
      let (x, hx, ex) = word_of w.cell w.one.this.cell in
      let (y, hy, ey) = word_of w.first w.one.that.cell in
      let (z, hz, ez) = word_of w.second w.other.that.cell in
      let li : w.at ≤ d = w.one.this.place in
      let lj : w.at_first ≤ d = w.one.that.place in
      let lk : w.at_second ≤ d = w.other.that.place in
      let s : Spot x w.at = spot x w.at hx li in
      let t : Spot y w.at_first = spot y w.at_first hy lj in
      let r : Spot z w.at_second = spot z w.at_second hz lk in
      record {
        cell = s.cell;
        first = t.cell;
        second = r.cell;
        at = s.at;
        at_first = t.at;
        at_second = r.at;
        one =
            mates w.one.this.some x y w.at w.at_first hx hy li lj (one_of w.cell w.first x y w.at w.at_first ex ey w.one.one)
            (apart_words w.cell w.first x y w.one.this.cell w.one.that.cell w.one.apart ex ey) s t;
        other =
            mates w.one.this.some x z w.at w.at_second hx hz li lk (one_of w.cell w.second x z w.at w.at_second ex ez w.other.one)
            (apart_words w.cell w.second x z w.one.this.cell w.other.that.cell w.other.apart ex ez) s r;
        apart = λ e.
            apart_words w.first w.second y z w.one.that.cell w.other.that.cell w.apart ey ez
            (same-before y z hy hz (sym t.is ∙ ap (cell_at cells') e ∙ r.is));
      }
