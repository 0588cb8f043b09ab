-- Signs, counts and single looks, on plain lists and numbers. Assumes nothing.
use Prim.Native.Nat.{ℕ, zero, suc, ◌+◌, ◌-◌, ◌*◌, ◌^◌, ◌<◌, ◌≤◌}
use mir.Syntax.{w64}
use mir.Val.{Fits}
use mathlib.Core.Path.{◌≡◌, refl, ap, subst, ◌∙◌}
use mathlib.Core.Bool.{true, false}
use mathlib.Core.Logic.{⊎_elim}
use mathlib.Core.List.{List, ◌++◌}
use native.Mathlib.Omega.{arith}
use native.Mathlib.Nat.{mul-le-mul_right, suc-mul}
use native.Mathlib.Decide.{ℕ_discrete}
use lib.ListN.{length, get_or, set, length-set, replicate, drop}
use lib.Seq.{get_or-set_same, get_or-set_other}
use Rattle.std.specs.Prelude.{Option, Some, None, Result, Ok, Err}
use Rattle.orientation_walk.specs.declared.Stop.{Stop}
use Rattle.orientation_walk.specs.WorkSigns.{turned, Sign, Table}
use Rattle.orientation_walk.specs.WorkSteps.{blank, zeros, Fit, Look, Slots, Stuck, Drain, Broken, Pieces, Refused, Ready, Looked, Taking, Took, Draining, Drained, Starting, Walking, Spread, wiped}
use Rattle.orientation_walk.specs.WorkSteps.Look.{edge, fresh, fits}
use Rattle.orientation_walk.specs.WorkSteps.Slots.{none_yet, one_more}
use Rattle.orientation_walk.specs.WorkSteps.Pieces.{signed, begun}

pub turned_same : (f s : ℕ) → f ≡ 0 → s ≡ turned f s
unfolding turned
turned_same zero s e = refl
turned_same (suc f) s e = absurd (omega arith)

pub turned-other : (f s : ℕ) → (f ≡ 0 → ⊥) → 3 - s ≡ turned f s
unfolding turned
turned-other zero s e = absurd (e refl)
turned-other (suc f) s e = refl

pub turned-sign : (f s : ℕ) → Sign s → Sign (turned f s)
unfolding turned
turned-sign zero s h = h
turned-sign (suc f) s h = record { some = omega arith; small = omega arith }

-- zeros after a cell gets its sign
zeros-past : (n : ℕ) (g : List ℕ) (j v : ℕ) → n ≤ j → zeros n (set g j v) ≡ zeros n g
zeros-past zero g j v l = refl
zeros-past (suc n) g j v l = rw (get_or-set_other g j n v 0 (omega arith), zeros-past n g j v (omega arith))

pub blank-pos : (v : ℕ) → 0 < v → blank v ≡ 0
blank-pos zero l = absurd (omega arith)
blank-pos (suc v) l = refl

blank-zero : (v : ℕ) → v ≡ 0 → blank v ≡ 1
blank-zero v e = rw e

pub zeros-set : (n : ℕ) (g : List ℕ) (j v : ℕ) → j < n → j < length g → get_or g j 0 ≡ 0 → 0 < v → suc (zeros n (set g j v)) ≡ zeros n g
zeros-set zero g j v a b c d = absurd (omega arith)
zeros-set (suc n) g j v a b c d = ⊎_elim last (λ l. before l (zeros-set n g j v (omega arith) b c d)) (native.Mathlib.Nat.eq-or-lt_of_le a)
  where
    last : suc j ≡ suc n → suc (zeros n (set g j v) + blank (get_or (set g j v) n 0)) ≡ zeros n g + blank (get_or g n 0)
    last e =
        let e' : n ≡ j = omega arith in
        let p : zeros n (set g j v) ≡ zeros n g = zeros-past n g j v (omega arith) in
        let q : blank (get_or (set g j v) n 0) ≡ 0 = rw (e', get_or-set_same g j v 0 b) (blank-pos v d) in
        let r : blank (get_or g n 0) ≡ 1 = rw e' (blank-zero (get_or g j 0) c) in
        omega arith

    before : suc j < suc n → suc (zeros n (set g j v)) ≡ zeros n g → suc (zeros n (set g j v) + blank (get_or (set g j v) n 0)) ≡ zeros n g + blank (get_or g n 0)
    before l p =
        let q : get_or (set g j v) n 0 ≡ get_or g n 0 = get_or-set_other g j n v 0 (omega arith) in
        let r : blank (get_or (set g j v) n 0) ≡ blank (get_or g n 0) = ap blank q in
        omega arith

pub scaled : (i n : ℕ) → i < n → n * 4 < 2 ^ 63 → Fits w64 (i * 4)
scaled i n a b = record { fits = omega arith }

-- the look's four ways out
module _ {n : ℕ} {o fl : List ℕ} {c p : ℕ} {g t : List ℕ} {h : ℕ} (ready : Ready n o fl c p g t h) where
  pub looked-edge : get_or o p 0 ≡ 4294967295 → Looked o fl c p g t h g t (Some h)
  looked-edge e = Looked.goes (Look.edge e refl refl refl)

  module _ {at want : ℕ} (some : get_or o p 0 ≡ 4294967295 → ⊥) where
    pub looked-fits : at ≡ get_or o p 0 → want ≡ turned (get_or fl p 0) (get_or g c 0) → (get_or g at 0 ≡ 0 → ⊥) → get_or g at 0 ≡ want → Looked o fl c p g t h g t (Some h)
    looked-fits ea ew nz e = Looked.goes (Look.fits some (rw ea at nz) (rw ea at (e ∙ ew)) refl refl refl)

  -- a cell with no sign leaves room on the stack
  module _ {at : ℕ} (cell : get_or o p 0 < n) (ea : at ≡ get_or o p 0) (z : get_or g at 0 ≡ 0) where
    some-zero : 0 < zeros n g
    some-zero =
        omega (arith, zeros-set n g (get_or o p 0) 1 cell (omega (arith, ready.fit.signs)) (rw ea at z) (omega arith))

    pub room_for : h < length t
    room_for = omega (arith, some-zero, ready.fit.room, ready.fit.stack)

  pub looked-fresh : {at want : ℕ} → (get_or o p 0 ≡ 4294967295 → ⊥) → get_or o p 0 < n → at ≡ get_or o p 0 → want ≡ turned (get_or fl p 0) (get_or g c 0) →
      get_or g at 0 ≡ 0 → Looked o fl c p g t h (set g at want) (set t h (get_or o p 0)) (Some (h + 1))
  looked-fresh {at} {want} some cell ea ew z = Looked.goes (Look.fresh some (rw ea at z) (cc) refl refl)

pub looked-clash : {o fl : List ℕ} {c p : ℕ} {g t : List ℕ} {h : ℕ} {at want : ℕ} → (get_or o p 0 ≡ 4294967295 → ⊥) → at ≡ get_or o p 0 →
    want ≡ turned (get_or fl p 0) (get_or g c 0) → (get_or g at 0 ≡ 0 → ⊥) → (get_or g at 0 ≡ want → ⊥) → Looked o fl c p g t h g t None
looked-clash some ea ew nz ne = Looked.stops (record { some = some; signed = rw ea at nz; wrong = rw (ea, ew) at ne }) refl refl

-- a look that goes on
pub look-goes : {o fl : List ℕ} {c p : ℕ} {g t : List ℕ} {h : ℕ} {g' t' : List ℕ} {r : Option ℕ} {h' : ℕ} → Looked o fl c p g t h g' t' r → r ≡ Some h' → Look o fl c p g t h g' t' h'
look-goes {o} {fl} {c} {p} {g} {t} {h} {g'} {t'} {h' = h'} (Looked.goes {h' = x} w) e =
    subst (λ (z : ℕ). Look o fl c p g t h g' t' z) (let q : x ≡ h' = cc in q) w
look-goes {h' = h'} (Looked.stops w a b) e = absurd (let q : ◌≡◌ {A = Option ℕ} None (Some h') = e in cc)

pub slot-in : (n k c s : ℕ) → c < n → s < k → c * k + s < n * k
slot-in n k c s a b = omega (arith, mul-le-mul_right k a, suc-mul c k)

-- a signed cell keeps its sign
abbrev pub Grows : List ℕ → List ℕ → Type 0
Grows g g' = (x : ℕ) → 0 < get_or g x 0 → get_or g' x 0 ≡ get_or g x 0

pub grows-set : (g : List ℕ) (j v : ℕ) → get_or g j 0 ≡ 0 → Grows g (set g j v)
grows-set g j v z x l = get_or-set_other g j x v 0 (λ e. absurd (let q : get_or g x 0 ≡ 0 = rw e z in omega arith))

-- what any run of looks keeps
pub record Moved (n : ℕ) (g t : List ℕ) (h : ℕ) (g' t' : List ℕ) (h' : ℕ) : Type 0 where
  pub fit : Fit n g' t' h'
  pub sum : h' + zeros n g' ≡ h + zeros n g
  pub grows : Grows g g'

moved_none : {n : ℕ} {g t : List ℕ} {h : ℕ} → Fit n g t h → Moved n g t h g t h
moved_none f = record { fit = f; sum = refl; grows = λ x l. refl }

moved-trans : {n : ℕ} {g t : List ℕ} {h : ℕ} {g1 t1 : List ℕ} {h1 : ℕ} {g2 t2 : List ℕ} {h2 : ℕ} → Moved n g t h g1 t1 h1 → Moved n g1 t1 h1 g2 t2 h2 → Moved n g t h g2 t2 h2
moved-trans {g = g} {g1 = g1} a b =
    record {
      fit = b.fit;
      sum = b.sum ∙ a.sum;
      grows = λ x l. b.grows x (let e : get_or g1 x 0 ≡ get_or g x 0 = a.grows x l in omega arith) ∙ a.grows x l;
    }

-- a cell j gets the sign v and goes on the stack
module _ {n : ℕ} {g t : List ℕ} {h : ℕ} (fit : Fit n g t h) (j v : ℕ) (cell : j < n) (z : get_or g j 0 ≡ 0) (sign : Sign v) where
  one_less : suc (zeros n (set g j v)) ≡ zeros n g
  one_less = zeros-set n g j v cell (omega (arith, fit.signs)) z sign.some

  in_stack : h < length t
  in_stack = omega (arith, one_less, fit.room, fit.stack)

  in-signs : j < length g
  in-signs = omega (arith, fit.signs)

  pub at_top : get_or (set t h j) h 0 ≡ j
  at_top = get_or-set_same t h j 0 in_stack

  pub below_top : (i : ℕ) → i < h → get_or (set t h j) i 0 ≡ get_or t i 0
  below_top i l = get_or-set_other t h i j 0 (omega arith)

  pub at_j : get_or (set g j v) j 0 ≡ v
  at_j = get_or-set_same g j v 0 in-signs

  -- by cases: the cell itself, or another
  pub or_set : (P : ℕ → ℕ → Type 0) → P j v → ((x : ℕ) → (x ≡ j → ⊥) → P x (get_or g x 0)) → (x : ℕ) → P x (get_or (set g j v) x 0)
  or_set P a b x = elim (ℕ_discrete x j) [ yes e ↦ rw (e, at_j) a | no f ↦ rw (get_or-set_other g j x v 0 f) (b x f) ]

  pub or-top : (P : ℕ → Type 0) → P j → ((i : ℕ) → i < h → P (get_or t i 0)) → (i : ℕ) → i < h + 1 → P (get_or (set t h j) i 0)
  or-top P a b i l =
      elim (ℕ_discrete i h)
      [ yes e ↦ rw (e, at_top) a | no f ↦ rw (below_top i (omega arith)) (b i (omega arith)) ]

  moved-set : Moved n g t h (set g j v) (set t h j) (h + 1)
  moved-set =
      record {
        fit =
            record {
              signs = rw length-set fit.signs;
              stack = rw length-set fit.stack;
              small = or_set (λ x y. x < n → y ≤ 2) (λ _. sign.small) (λ x _ l. fit.small x l);
              room = omega (arith, one_less, fit.room);
              cells = or-top (λ x. x < n) cell fit.cells;
              signed =
                  or-top (λ x. 0 < get_or (set g j v) x 0) (rw at_j sign.some)
                  (λ i l. rw (grows-set g j v z (get_or t i 0) (fit.signed i l)) (fit.signed i l));
            };
        sum = omega (arith, one_less);
        grows = grows-set g j v z;
      }

pub moved-look : {n : ℕ} {o fl : List ℕ} {c p : ℕ} {g t : List ℕ} {h : ℕ} {g' t' : List ℕ} {h' : ℕ} → Ready n o fl c p g t h → 0 < get_or g c 0 →
    Look o fl c p g t h g' t' h' → Moved n g t h g' t' h'
moved-look r l (edge e eg et eh) = rw (eg, et, eh) (moved_none r.fit)
moved-look {fl = fl} {c = c} {p = p} {g = g} r l (fresh some z eg et eh) =
    rw (eg, et, eh)
    (moved-set r.fit _ _ (r.leads some) z (turned-sign (get_or fl p 0) (get_or g c 0) (record { some = l; small = r.fit.small c r.cell })))
moved-look r l (fits some nz e eg et eh) = rw (eg, et, eh) (moved_none r.fit)

-- a slot of a cell is in the lists
pub ready : {n k : ℕ} {o fl : List ℕ} {c : ℕ} {g t : List ℕ} {h : ℕ} (s : ℕ) → Table n k o fl → c < n → Fit n g t h → s < k → Ready n o fl c (c * k + s) g t h
ready {n} {k} {c = c} s table cell fit l =
    let p : c * k + s < n * k = slot-in n k c s cell l in
    record {
      few = table.few;
      cell = cell;
      other = omega (arith, table.others);
      flip = omega (arith, table.flips);
      leads = table.cells (c * k + s) p;
      fit = fit;
    }

pub moved-slots : {n k : ℕ} {o fl : List ℕ} {c : ℕ} {g t : List ℕ} {h : ℕ} → Taking n k o fl c g t h → {s : ℕ} {g' t' : List ℕ} {h' : ℕ} → s ≤ k →
    Slots k o fl c g t h s g' t' h' → Moved n g t h g' t' h'
moved-slots a l none_yet = moved_none a.fit
moved-slots {c = c} {g = g} a l (one_more {s = s} {g1 = g1} w q) =
    let m = moved-slots a (omega arith) w in
    let e : get_or g1 c 0 ≡ get_or g c 0 = m.grows c a.signed in
    moved-trans m (moved-look (ready s a.table a.cell m.fit (omega arith)) (omega (arith, a.signed)) q)

pub not-both : false ≡ true → ⊥
not-both e = let z : ◌≡◌ {A = ℕ} 0 1 = cc in omega arith

-- the code of `cell`
module _ {n k : ℕ} {o fl : List ℕ} {c : ℕ} {g t : List ℕ} {h : ℕ} (a : Taking n k o fl c g t h) where
  pub base-fits : length o < 2 ^ 64 → Fits w64 (c * k)
  base-fits l =
      record { fits = omega (arith, mul-le-mul_right k a.cell, suc-mul c k, a.table.others) }

  pub slot-fits : {s : ℕ} → length o < 2 ^ 64 → s < k → Fits w64 (c * k + s)
  slot-fits {s} l b = record { fits = omega (arith, slot-in n k c s a.cell b, a.table.others) }

  pub slots-ready : {s : ℕ} {g1 t1 : List ℕ} {h1 : ℕ} → s < k → Slots k o fl c g t h s g1 t1 h1 → Ready n o fl c (c * k + s) g1 t1 h1
  slots-ready {s} l w = ready s a.table a.cell (moved-slots a (omega arith) w).fit l

pub took-stops : {k : ℕ} {o fl : List ℕ} {c : ℕ} {g t : List ℕ} {h s : ℕ} {g1 t1 : List ℕ} {h1 : ℕ} {g' t' : List ℕ} {r : Option ℕ} → s < k →
    Slots k o fl c g t h s g1 t1 h1 → Looked o fl c (c * k + s) g1 t1 h1 g' t' r → r ≡ None → Took k o fl c g t h g' t' (Err s)
took-stops l w (Looked.goes {h' = x} q) e = absurd (let z : ◌≡◌ {A = Option ℕ} (Some x) None = e in cc)
took-stops {h1 = h1} l w (Looked.stops q a b) e = rw (a, b) (Took.stops (record { height = h1; below = l; slots = w; clash = q }))

pub took-goes : {k : ℕ} {o fl : List ℕ} {c : ℕ} {g t : List ℕ} {h s : ℕ} {g1 t1 : List ℕ} {h1 : ℕ} → s ≤ k → k ≤ s →
    Slots k o fl c g t h s g1 t1 h1 → Took k o fl c g t h g1 t1 (Ok h1)
took-goes {k} {o} {fl} {c} {g} {t} {h} {s} {g1} {t1} {h1} a b w =
    let e : s ≡ k = omega arith in
    Took.goes (subst (λ x. Slots k o fl c g t h x g1 t1 h1) e w)

-- the looks at a cell's slots that go on, and those that stop
pub took-all : {k : ℕ} {o fl : List ℕ} {c : ℕ} {g t : List ℕ} {h : ℕ} {g' t' : List ℕ} {r : Result ℕ ℕ} {h' : ℕ} → Took k o fl c g t h g' t' r → r ≡ Ok h' → Slots k o fl c g t h k g' t' h'
took-all {k} {o} {fl} {c} {g} {t} {h} {g'} {t'} {h' = h'} (Took.goes {top = x} w) e = subst (λ (z : ℕ). Slots k o fl c g t h k g' t' z) (let q : x ≡ h' = cc in q) w
took-all {h' = h'} (Took.stops {slot = x} w) e = absurd (let q : ◌≡◌ {A = Result ℕ ℕ} (Err x) (Ok h') = e in cc)

pub took-part : {k : ℕ} {o fl : List ℕ} {c : ℕ} {g t : List ℕ} {h : ℕ} {g' t' : List ℕ} {r : Result ℕ ℕ} {s : ℕ} → Took k o fl c g t h g' t' r → r ≡ Err s → Stuck k o fl c g t h s g' t'
took-part {s = s} (Took.goes {top = x} w) e = absurd (let q : ◌≡◌ {A = Result ℕ ℕ} (Ok x) (Err s) = e in cc)
took-part {k} {o} {fl} {c} {g} {t} {h} {g'} {t'} {s = s} (Took.stops {slot = x} w) e = subst (λ (z : ℕ). Stuck k o fl c g t h z g' t') (let q : x ≡ s = cc in q) w

-- the cell on top is taken off
pub taking-top : {n k : ℕ} {o fl : List ℕ} {g t : List ℕ} {h : ℕ} → Table n k o fl → Fit n g t h → 0 < h → Taking n k o fl (get_or t (h - 1) 0) g t (h - 1)
taking-top {h = h} table fit l =
    record {
      table = table;
      cell = fit.cells (h - 1) (omega arith);
      signed = fit.signed (h - 1) (omega arith);
      fit =
          record {
            signs = fit.signs;
            stack = fit.stack;
            small = fit.small;
            room = omega (arith, fit.room);
            cells = λ i q. fit.cells i (omega arith);
            signed = λ i q. fit.signed i (omega arith);
          };
    }

-- what any run of cells taken off keeps
pub record Spent (n : ℕ) (g t : List ℕ) (h m : ℕ) (g' t' : List ℕ) (h' : ℕ) : Type 0 where
  pub fit : Fit n g' t' h'
  pub sum : m + h' + zeros n g' ≡ h + zeros n g
  pub grows : Grows g g'

pub spent-drain : {n k : ℕ} {o fl : List ℕ} {g t : List ℕ} {h : ℕ} → Draining n k o fl g t h → {m : ℕ} {g' t' : List ℕ} {h' : ℕ} →
    Drain k o fl g t h m g' t' h' → Spent n g t h m g' t' h'
spent-drain a Drain.none_yet = record { fit = a.fit; sum = omega arith; grows = λ x l. refl }
spent-drain {g = g} a (Drain.one_more {g1 = g1} w l q) =
    let s = spent-drain a w in
    let m = moved-slots (taking-top a.table s.fit l) (omega arith) q in
    record {
      fit = m.fit;
      sum = omega (arith, s.sum, m.sum);
      grows = λ x l. m.grows x (let e : get_or g1 x 0 ≡ get_or g x 0 = s.grows x l in omega arith) ∙ s.grows x l;
    }

-- the code of `drain`
module _ {n k : ℕ} {o fl : List ℕ} {g t : List ℕ} {h : ℕ} (a : Draining n k o fl g t h) {m : ℕ} {g1 t1 : List ℕ} {h1 : ℕ} (w : Drain k o fl g t h m g1 t1 h1) where
  pub top_in : 0 < h1 → h1 - 1 < length t1
  top_in l = let f = (spent-drain a w).fit in omega (arith, f.room, f.stack)

  pub drain-taking : 0 < h1 → {x : ℕ} → x ≡ get_or t1 (h1 - 1) 0 → Taking n k o fl x g1 t1 (h1 - 1)
  drain-taking l e = rw e (taking-top a.table (spent-drain a w).fit l)

  module _ (l : 0 < h1) {x : ℕ} (e : x ≡ get_or t1 (h1 - 1) 0) {g2 t2 : List ℕ} {r : Result ℕ ℕ} (q : Took k o fl x g1 t1 (h1 - 1) g2 t2 r) where
    pub drain-more : {h2 : ℕ} → r ≡ Ok h2 → Drain k o fl g t h (m + 1) g2 t2 h2
    drain-more f = Drain.one_more w l (rw e at (took-all q f))

    pub drain-stops : {s : ℕ} → r ≡ Err s → Drained k o fl g t h g2 t2 (Err (record { taken = m; slot = s }))
    drain-stops f = Drained.stops (record { g1 = g1; t1 = t1; h1 = h1; drain = w; more = l; stuck = rw e at (took-part q f) })

    pub drain-falls : {h2 : ℕ} → r ≡ Ok h2 → h2 + zeros n g2 < h1 + zeros n g1
    drain-falls f =
        omega (arith, (spent-drain a (drain-more f)).sum, (spent-drain a w).sum)

  pub drain-fits : 0 < h1 → n < 2 ^ 64 → Fits w64 (m + 1)
  drain-fits l b = record { fits = omega (arith, (spent-drain a w).sum, a.fit.room) }

  pub drain-goes : h1 ≤ 0 → Drained k o fl g t h g1 t1 (Ok m)
  drain-goes l =
      let e : h1 ≡ 0 = omega arith in
      Drained.goes (subst (λ x. Drain k o fl g t h m g1 t1 x) e w)

-- a stack that is emptied, and one that is not
pub drained-all : {k : ℕ} {o fl : List ℕ} {g t : List ℕ} {h : ℕ} {g' t' : List ℕ} {r : Result ℕ Stop} {m : ℕ} → Drained k o fl g t h g' t' r → r ≡ Ok m → Drain k o fl g t h m g' t' 0
drained-all {k} {o} {fl} {g} {t} {h} {g'} {t'} {m = m} (Drained.goes {taken = x} w) e = subst (λ (z : ℕ). Drain k o fl g t h z g' t' 0) (let q : x ≡ m = cc in q) w
drained-all {m = m} (Drained.stops {stop = x} w) e = absurd (let q : ◌≡◌ {A = Result ℕ Stop} (Err x) (Ok m) = e in cc)

pub drained-part : {k : ℕ} {o fl : List ℕ} {g t : List ℕ} {h : ℕ} {g' t' : List ℕ} {r : Result ℕ Stop} {s : Stop} → Drained k o fl g t h g' t' r → r ≡ Err s → Broken k o fl g t h s.taken s.slot g' t'
drained-part {s = s} (Drained.goes {taken = x} w) e = absurd (let q : ◌≡◌ {A = Result ℕ Stop} (Ok x) (Err s) = e in cc)
drained-part {k} {o} {fl} {g} {t} {h} {g'} {t'} {s = s} (Drained.stops {stop = x} w) e = subst (λ (z : Stop). Broken k o fl g t h z.taken z.slot g' t') (let q : x ≡ s = cc in q) w

pub wiped-all : {n i : ℕ} (g : List ℕ) {g' : List ℕ} → i ≤ n → n ≤ i → g' ≡ replicate i 0 ++ drop i g → g' ≡ wiped n g
wiped-all {n} {i} g a b e = let q : i ≡ n = omega arith in rw q at e

-- the code of `piece`
pub sign-plus : Sign 1
sign-plus = record { some = omega arith; small = omega arith }

pub start-draining : {n k : ℕ} {o fl : List ℕ} {i : ℕ} {g t : List ℕ} → Starting n k o fl i g t → Draining n k o fl (set g i 1) (set t 0 i) 1
start-draining {i = i} a = record { table = a.table; fit = (moved-set a.fit i 1 a.cell a.blank sign-plus).fit }

pub start-sum : {n k : ℕ} {o fl : List ℕ} {i : ℕ} {g t : List ℕ} → Starting n k o fl i g t → 1 + zeros n (set g i 1) ≡ zeros n g
start-sum {n} {i = i} {g} a = let m = (moved-set a.fit i 1 a.cell a.blank sign-plus).sum in omega (arith, m)

pub zeros-all : (n : ℕ) (g : List ℕ) → ((c : ℕ) → c < n → get_or g c 0 ≡ 0) → zeros n g ≡ n
zeros-all zero g b = refl
zeros-all (suc n) g b =
    let e : blank (get_or g n 0) ≡ 1 = blank-zero (get_or g n 0) (b n (omega arith)) in
    let r : zeros n g ≡ n = zeros-all n g (λ c l. b c (omega arith)) in
    omega arith

walking-fit : {n k : ℕ} {o fl : List ℕ} {g t : List ℕ} → Walking n k o fl g t → Fit n g t 0
walking-fit {n} {g = g} a =
    record {
      signs = a.signs;
      stack = a.stack;
      small = λ c l. omega (arith, a.blank c l);
      room = omega (arith, zeros-all n g a.blank);
      cells = λ i l. absurd (omega arith);
      signed = λ i l. absurd (omega arith);
    }

-- between pieces
pub record Paused (n m : ℕ) (g t : List ℕ) : Type 0 where
  pub fit : Fit n g t 0
  pub sum : m + zeros n g ≡ n

pub paused : {n k : ℕ} {o fl : List ℕ} {g t : List ℕ} → Walking n k o fl g t → {i m : ℕ} {g1 t1 : List ℕ} → i ≤ n → Pieces k o fl g t i m g1 t1 → Paused n m g1 t1
paused {n} {g = g} a l Pieces.none_yet = record { fit = walking-fit a; sum = omega (arith, zeros-all n g a.blank) }
paused a l (signed w nz) = paused a (omega arith) w
paused {n} {k} {o} {fl} a l (begun {i = i} {g1 = g1} {t1 = t1} w z d) =
    let p = paused a (omega arith) w in
    let st : Starting n k o fl i g1 t1 = record { table = a.table; cell = omega arith; blank = z; fit = p.fit } in
    let s = spent-drain (start-draining st) d in
    record { fit = s.fit; sum = omega (arith, p.sum, s.sum, start-sum st) }

-- the code of `spread`
module _ {n k : ℕ} {o fl : List ℕ} {g t : List ℕ} (a : Walking n k o fl g t) {i m : ℕ} {g1 t1 : List ℕ} (w : Pieces k o fl g t i m g1 t1) where
  pub spread-starting : i < n → get_or g1 i 0 ≡ 0 → Starting n k o fl i g1 t1
  spread-starting l z = record { table = a.table; cell = l; blank = z; fit = (paused a (omega arith) w).fit }

  pub spread-in : i < n → i < length g1
  spread-in l = omega (arith, (paused a (omega arith) w).fit.signs)

  module _ (l : i < n) (z : get_or g1 i 0 ≡ 0) {g2 t2 : List ℕ} {r : Result ℕ Stop} (q : Drained k o fl (set g1 i 1) (set t1 0 i) 1 g2 t2 r) where
    pub spread-more : {m' : ℕ} → r ≡ Ok m' → Pieces k o fl g t (i + 1) (m + m') g2 t2
    spread-more f = begun w z (drained-all q f)

    pub spread-fits : {m' : ℕ} → r ≡ Ok m' → n < 2 ^ 64 → Fits w64 (m + m')
    spread-fits f h = record { fits = omega (arith, (paused a (omega arith) (spread-more f)).sum) }

    pub stop-fits : {e : Stop} → r ≡ Err e → n < 2 ^ 64 → Fits w64 (m + e.taken)
    stop-fits f h =
        let u = drained-part q f in
        record { fits = omega (arith, (paused a (omega arith) w).sum, (spent-drain (start-draining (spread-starting l z)) u.drain).sum, start-sum (spread-starting l z)) }

    pub spread-stops : {e : Stop} → r ≡ Err e → Spread n k o fl g t g2 t2 (Err (record { taken = m + e.taken; slot = e.slot }))
    spread-stops {e} f =
        Spread.stops
        (record {
          i = i;
          before = m;
          after = e.taken;
          g1 = g1;
          t1 = t1;
          below = l;
          pieces = w;
          blank = z;
          broken = drained-part q f;
          sum = refl;
        })

  pub spread-goes : i ≤ n → n ≤ i → Spread n k o fl g t g1 t1 (Ok m)
  spread-goes x y =
      let e : i ≡ n = omega arith in
      Spread.goes (subst (λ x. Pieces k o fl g t x m g1 t1) e w)

-- a walk that goes through, and one that stops
pub spread-all : {n k : ℕ} {o fl : List ℕ} {g t : List ℕ} {g' t' : List ℕ} {r : Result ℕ Stop} {m : ℕ} → Spread n k o fl g t g' t' r → r ≡ Ok m → Pieces k o fl g t n m g' t'
spread-all {n} {k} {o} {fl} {g} {t} {g'} {t'} {m = m} (Spread.goes {taken = x} w) e = subst (λ (z : ℕ). Pieces k o fl g t n z g' t') (let q : x ≡ m = cc in q) w
spread-all {m = m} (Spread.stops {stop = x} w) e = absurd (let q : ◌≡◌ {A = Result ℕ Stop} (Err x) (Ok m) = e in cc)

pub spread-part : {n k : ℕ} {o fl : List ℕ} {g t : List ℕ} {g' t' : List ℕ} {r : Result ℕ Stop} {s : Stop} → Spread n k o fl g t g' t' r → r ≡ Err s → Refused n k o fl g t s.taken s.slot g' t'
spread-part {s = s} (Spread.goes {taken = x} w) e = absurd (let q : ◌≡◌ {A = Result ℕ Stop} (Ok x) (Err s) = e in cc)
spread-part {n} {k} {o} {fl} {g} {t} {g'} {t'} {s = s} (Spread.stops {stop = x} w) e = subst (λ (z : Stop). Refused n k o fl g t z.taken z.slot g' t') (let q : x ≡ s = cc in q) w
