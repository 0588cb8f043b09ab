-- The walk's answer is right: what the walk keeps, piece by piece, and what that says of the signs. Assumes nothing.
use Prim.Native.Nat.{ℕ, zero, suc, ◌+◌, ◌-◌, ◌*◌, ◌^◌, ◌<◌, ◌≤◌}
use mathlib.Core.Path.{◌≡◌, refl, sym, ap, subst, ◌∙◌}
use mathlib.Core.Bool.{true, false}
use mathlib.Core.Logic.{◌⊎◌, inl, inr, ⊎_elim}
use mathlib.Core.List.{List}
use native.Mathlib.Omega.{arith}
use native.Mathlib.Nat.{eq-zero-or-pos}
use native.Mathlib.Decide.{ℕ_discrete, dec_lt}
use lib.ListN.{length, get_or, set, length-append, length-replicate, replicate, drop, get_or-append, get_or-replicate}
use mir.Syntax.{w64}
use mir.Val.{Fits}
use lib.Seq.{get_or-set_other}
use Rattle.std.specs.Prelude.{Result, Ok, Err}
use Rattle.orientation_walk.specs.declared.Stop.{Stop}
use Rattle.orientation_walk.specs.WorkSigns.{turned, Sign, Link, Table, CoherentMarks, Way, OrientedMarks}
use Rattle.orientation_walk.specs.WorkSigns.Way.{here, on}
use Rattle.orientation_walk.specs.WorkSteps.{blank, zeros, Fit, Look, Clash, Slots, Drain, Pieces, Refused, Taking, Draining, Starting, Walking, Spread, wiped, Answer}
use Rattle.orientation_walk.specs.WorkSteps.Look.{edge, fresh, fits}
use Rattle.orientation_walk.specs.WorkSteps.Slots.{none_yet, one_more}
use Rattle.orientation_walk.specs.WorkSteps.Pieces.{signed, begun}
use Rattle.orientation_walk.proofs.Lemmas.{turned-sign, Grows, grows-set, moved-look, moved-slots, or_set, or-top, at_top, below_top, at_j, slot-in, not-both, ready, taking-top, spent-drain, start-draining, start-sum, sign-plus, blank-pos, paused, spread-starting, spread-all, spread-part}
use Rattle.orientation_walk.proofs.Ways.{way-sign, forced, same_sign_lem, lowest-plus}

-- x is on the stack
abbrev On : List ℕ → ℕ → ℕ → Type 0
On t h x = (i : ℕ) × (i < h) × (get_or t i 0 ≡ x)

module _ (n k : ℕ) (o fl : List ℕ) where
  -- across all of x's slots the signs are right
  abbrev Done : List ℕ → ℕ → Type 0
  Done g x = (j f : ℕ) → Link n k o fl x j f → get_or g j 0 ≡ turned f (get_or g x 0)

  -- of the piece that began at cell r when the signs were `old`: old signs are kept, new ones are forced from r, and the stack has new cells alone
  record Piece (old : List ℕ) (r : ℕ) (g t : List ℕ) (h : ℕ) : Type 0 where
    kept : Grows old g
    new : (x : ℕ) → x < n → 0 < get_or g x 0 → get_or old x 0 ≡ 0 → Way n k o fl r x (get_or g x 0)
    stacked : (i : ℕ) → i < h → get_or old (get_or t i 0) 0 ≡ 0

  -- each signed cell is the one at hand, on the stack, or done
  abbrev Rest : ℕ → List ℕ → List ℕ → ℕ → Type 0
  Rest c g t h = (x : ℕ) → x < n → 0 < get_or g x 0 → (x ≡ c) ⊎ (On t h x ⊎ Done g x)

  abbrev Shut : List ℕ → List ℕ → ℕ → Type 0
  Shut g t h = (x : ℕ) → x < n → 0 < get_or g x 0 → On t h x ⊎ Done g x

  -- after looks at the first s slots of c
  record Across (old : List ℕ) (r c s : ℕ) (g t : List ℕ) (h : ℕ) : Type 0 where
    piece : Piece old r g t h
    rest : Rest c g t h
    part : (j f : ℕ) (q : Link n k o fl c j f) → q.slot < s → get_or g j 0 ≡ turned f (get_or g c 0)

  -- between two cells taken off
  record Midway (old : List ℕ) (r : ℕ) (g t : List ℕ) (h : ℕ) : Type 0 where
    piece : Piece old r g t h
    shut : Shut g t h

-- a sign across a slot that is right stays right
stays : (g g' : List ℕ) (x j f : ℕ) → Grows g g' → Sign (get_or g x 0) → get_or g j 0 ≡ turned f (get_or g x 0) → get_or g' j 0 ≡ turned f (get_or g' x 0)
stays g g' x j f m s e =
    let t : Sign (turned f (get_or g x 0)) = turned-sign f (get_or g x 0) s in
    m j (omega (arith, t.some)) ∙ e ∙ ap (turned f) (sym (m x s.some))

sign_of : {n : ℕ} {g t : List ℕ} {h : ℕ} (x : ℕ) → Fit n g t h → x < n → 0 < get_or g x 0 → Sign (get_or g x 0)
sign_of x f l p = record { some = p; small = f.small x l }

done-stays : {n k : ℕ} {o fl : List ℕ} {g t : List ℕ} {h : ℕ} (g' : List ℕ) (x : ℕ) → Fit n g t h → Grows g g' → x < n → 0 < get_or g x 0 → Done n k o fl g x → Done n k o fl g' x
done-stays {g = g} g' x fit m l p d j f q = stays g g' x j f m (sign_of x fit l p) (d j f q)

link_at : {n k : ℕ} {o fl : List ℕ} → Table n k o fl → (c s : ℕ) → c < n → s < k → (get_or o (c * k + s) 0 ≡ 4294967295 → ⊥) →
    Link n k o fl c (get_or o (c * k + s) 0) (get_or fl (c * k + s) 0)
link_at {n} {k} table c s cell below some =
    record { slot = s; below = below; from = cell; cell = table.cells (c * k + s) (slot-in n k c s cell below) some; to = refl; by = refl }

module _ {n k : ℕ} {o fl : List ℕ} (table : Table n k o fl) (old : List ℕ) (r : ℕ) where
  -- one look from cell c, which has a new sign
  module _ {c s : ℕ} (cell : c < n) (below : s < k) (blank-c : get_or old c 0 ≡ 0) {g t : List ℕ} {h : ℕ} (fit : Fit n g t h) (sc : 0 < get_or g c 0) where
    piece-look : {g' t' : List ℕ} {h' : ℕ} → Piece n k o fl old r g t h → Look o fl c (c * k + s) g t h g' t' h' → Piece n k o fl old r g' t' h'
    piece-look p (edge e eg et eh) = rw (eg, et, eh) p
    piece-look p (fits some nz e eg et eh) = rw (eg, et, eh) p
    piece-look p (fresh some z eg et eh) =
        let j = get_or o (c * k + s) 0 in
        let f = get_or fl (c * k + s) 0 in
        let l = link_at table c s cell below some in
        let v = turned-sign f (get_or g c 0) (sign_of c fit cell sc) in
        let oz : get_or old j 0 ≡ 0 = ⊎_elim (λ e. e) (λ q. absurd (omega (arith, p.kept j q))) (eq-zero-or-pos (get_or old j 0)) in
        rw (eg, et, eh)
        (record {
          kept = λ x q. grows-set g j _ z x (omega (arith, p.kept x q)) ∙ p.kept x q;
          new =
              or_set fit j _ l.cell z v (λ x y. x < n → 0 < y → get_or old x 0 ≡ 0 → Way n k o fl r x y)
              (λ _ _ _. on (p.new c cell sc blank-c) l refl) (λ x _. p.new x);
          stacked = or-top fit j _ l.cell z v (λ x. get_or old x 0 ≡ 0) oz p.stacked;
        })

    rest-look : {g' t' : List ℕ} {h' : ℕ} → Rest n k o fl c g t h → Look o fl c (c * k + s) g t h g' t' h' → Rest n k o fl c g' t' h'
    rest-look p (edge e eg et eh) = rw (eg, et, eh) p
    rest-look p (fits some nz e eg et eh) = rw (eg, et, eh) p
    rest-look p (fresh some z eg et eh) =
        let j = get_or o (c * k + s) 0 in
        let f = get_or fl (c * k + s) 0 in
        let l = link_at table c s cell below some in
        let v = turned-sign f (get_or g c 0) (sign_of c fit cell sc) in
        rw (eg, et, eh)
        (λ x lx px.
        elim (ℕ_discrete x j) [
          | yes e ↦ inr (inl (h, omega arith, at_top fit j _ l.cell z v ∙ sym e))
          | no ne ↦
              let qx : 0 < get_or g x 0 = rw (get_or-set_other g j x _ 0 ne) at px in
              ⊎_elim (λ e. inl e)
              (⊎_elim (λ w. inr (inl (w.0, omega (arith, w.1), below_top fit j _ l.cell z v w.0 w.1 ∙ w.2)))
              (λ d. inr (inr (done-stays (set g j (turned f (get_or g c 0))) x fit (grows-set g j (turned f (get_or g c 0)) z) lx qx d))))
              (p x lx qx)
        ])

    -- the slot looked at is right afterwards
    slot-look : {g' t' : List ℕ} {h' : ℕ} → Look o fl c (c * k + s) g t h g' t' h' → (j f : ℕ) (q : Link n k o fl c j f) → q.slot ≡ s → get_or g' j 0 ≡ turned f (get_or g' c 0)
    slot-look (edge e eg et eh) j f q es =
        absurd (omega (arith, e, subst (λ x. get_or o (c * k + x) 0 ≡ j) es q.to, q.cell, table.few))
    slot-look (fits some nz e eg et eh) j f q es =
        let a : get_or o (c * k + s) 0 ≡ j = subst (λ x. get_or o (c * k + x) 0 ≡ j) es q.to in
        let b : get_or fl (c * k + s) 0 ≡ f = subst (λ x. get_or fl (c * k + x) 0 ≡ f) es q.by in
        rw (eg, ← a, ← b) e
    slot-look (fresh some z eg et eh) j f q es =
        let a : get_or o (c * k + s) 0 ≡ j = subst (λ x. get_or o (c * k + x) 0 ≡ j) es q.to in
        let b : get_or fl (c * k + s) 0 ≡ f = subst (λ x. get_or fl (c * k + x) 0 ≡ f) es q.by in
        let l = link_at table c s cell below some in
        let v = turned-sign (get_or fl (c * k + s) 0) (get_or g c 0) (sign_of c fit cell sc) in
        rw (eg, ← a, ← b)
        (at_j fit (get_or o (c * k + s) 0) _ l.cell z v ∙ ap (turned (get_or fl (c * k + s) 0)) (sym (grows-set g (get_or o (c * k + s) 0) _ z c sc)))

  across : {c : ℕ} {g t : List ℕ} {h : ℕ} → Taking n k o fl c g t h → get_or old c 0 ≡ 0 → Piece n k o fl old r g t h → Rest n k o fl c g t h →
      {s : ℕ} {g' t' : List ℕ} {h' : ℕ} → s ≤ k → Slots k o fl c g t h s g' t' h' → Across n k o fl old r c s g' t' h'
  across a z p q l none_yet = record { piece = p; rest = q; part = λ j f u v. absurd (omega arith) }
  across {c} {g} a z p q l (one_more {s = s} {g1 = g1} {g2 = g2} w m) =
      let b = across a z p q (omega arith) w in
      let v = moved-slots a (omega arith) w in
      let e : get_or g1 c 0 ≡ get_or g c 0 = v.grows c a.signed in
      let sc : 0 < get_or g1 c 0 = omega (arith, a.signed) in
      let u = moved-look (ready s a.table a.cell v.fit (omega arith)) sc m in
      record {
        piece = piece-look a.cell (omega arith) z v.fit sc b.piece m;
        rest = rest-look a.cell (omega arith) z v.fit sc b.rest m;
        part =
            λ j f i y.
            elim (ℕ_discrete i.slot s) [
              | yes e ↦ slot-look a.cell (omega arith) z v.fit sc m j f i e
              | no ne ↦ stays g1 g2 c j f u.grows (sign_of c v.fit a.cell sc) (b.part j f i (omega arith))
            ];
      }

  -- the cell on top is taken off, and is at hand
  popped : {g t : List ℕ} {h : ℕ} → 0 < h → Midway n k o fl old r g t h → Piece n k o fl old r g t (h - 1)
  popped l m =
      record { kept = m.piece.kept; new = m.piece.new; stacked = λ i q. m.piece.stacked i (omega arith) }

  popped-rest : {g t : List ℕ} {h : ℕ} → 0 < h → Midway n k o fl old r g t h → Rest n k o fl (get_or t (h - 1) 0) g t (h - 1)
  popped-rest {g} {t} {h} l m x lx px =
      ⊎_elim
      (λ (w : On t h x).
      elim (ℕ_discrete w.0 (h - 1))
      [ yes e ↦ inl (sym w.2 ∙ ap (λ i. get_or t i 0) e) | no ne ↦ inr (inl (w.0, omega (arith, w.1), w.2)) ])
      (λ d. inr (inr d))
      (m.shut x lx px)

  midway : {g t : List ℕ} {h : ℕ} → Draining n k o fl g t h → Midway n k o fl old r g t h → {m : ℕ} {g' t' : List ℕ} {h' : ℕ} → Drain k o fl g t h m g' t' h' → Midway n k o fl old r g' t' h'
  midway a p Drain.none_yet = p
  midway a p (Drain.one_more {t1 = t1} {h1 = h1} {g2 = g2} w l q) =
      let b = midway a p w in
      let s = spent-drain a w in
      let v = across (taking-top table s.fit l) (b.piece.stacked (h1 - 1) (omega arith)) (popped l b) (popped-rest l b) (omega arith) q in
      record {
        piece = v.piece;
        shut =
            λ x lx px.
            ⊎_elim
            (λ e. inr (subst (λ y. Done n k o fl g2 y) (sym e) (λ j f i. v.part j f i i.below)))
            (λ y. y) (v.rest x lx px);
      }

  -- a clash leaves no coherent signs, where all pieces before this one are done
  clashed : {c s : ℕ} {g t : List ℕ} {h : ℕ} → r < n → c < n → s < k → Fit n g t h → 0 < get_or g c 0 → get_or old c 0 ≡ 0 →
      ((x : ℕ) → x < n → 0 < get_or old x 0 → Sign (get_or old x 0)) → ((x : ℕ) → x < n → 0 < get_or old x 0 → Done n k o fl old x) →
      Piece n k o fl old r g t h → Clash o fl c (c * k + s) g → {σ : ℕ → ℕ} → CoherentMarks n k o fl σ → ⊥
  clashed {c} {s} {g} lr lc ls fit sc z small closed p q {σ} co =
      let j = get_or o (c * k + s) 0 in
      let f = get_or fl (c * k + s) 0 in
      let l = link_at table c s lc ls q.some in
      let sj : 0 < get_or g j 0 = ⊎_elim (λ e. absurd (q.signed e)) (λ y. y) (eq-zero-or-pos (get_or g j 0)) in
      ⊎_elim
      (λ oz.
      let wc = p.new c lc sc z in
      let wj = p.new j l.cell sj oz in
      q.wrong (same_sign_lem (get_or g j 0) (turned f (get_or g c 0)) (σ r) (way-sign wj) (way-sign (on wc l refl)) (co.signs r lr) (sym (forced co lr wj) ∙ forced co lr (on wc l refl))))
      (λ op.
      let t = turned-sign f (get_or old j 0) (small j l.cell op) in
      let e : get_or old c 0 ≡ turned f (get_or old j 0) = closed j l.cell op c f (table.back c j f l) in
      absurd (omega (arith, t.some)))
      (eq-zero-or-pos (get_or old j 0))

-- between two pieces: signed cells are done, those below i are signed, and each has a root not above it
record Between (n k : ℕ) (o fl : List ℕ) (i : ℕ) (g : List ℕ) : Type 0 where
  closed : (x : ℕ) → x < n → 0 < get_or g x 0 → Done n k o fl g x
  filled : (x : ℕ) → x < i → 0 < get_or g x 0
  rooted : (x : ℕ) → x < n → 0 < get_or g x 0 → (r : ℕ) × (r ≤ x) × Way n k o fl r x (get_or g x 0)

-- a piece begins
begins : {n k : ℕ} {o fl : List ℕ} {i j : ℕ} {g t : List ℕ} (a : Starting n k o fl i g t) → Between n k o fl j g → Midway n k o fl g i (set g i 1) (set t 0 i) 1
begins {n} {k} {o} {fl} {i} {j} {g} {t} a b =
    record {
      piece =
          record {
            kept = grows-set g i 1 a.blank;
            new =
                or_set a.fit i 1 a.cell a.blank sign-plus (λ x y. x < n → 0 < y → get_or g x 0 ≡ 0 → Way n k o fl i x y)
                (λ _ _ _. here refl) (λ x _ lx px ez. absurd (omega arith));
            stacked = or-top a.fit i 1 a.cell a.blank sign-plus (λ x. get_or g x 0 ≡ 0) a.blank (λ i l. absurd (omega arith));
          };
      shut =
          λ x lx px.
          elim (ℕ_discrete x i) [
            | yes e ↦ inl (0, omega arith, at_top a.fit i 1 a.cell a.blank sign-plus ∙ sym e)
            | no ne ↦
                let qx : 0 < get_or g x 0 = rw (get_or-set_other g i x 1 0 ne) at px in
                inr (done-stays (set g i 1) x a.fit (grows-set g i 1 a.blank) lx qx (b.closed x lx qx))
          ];
    }

module _ {n k : ℕ} {o fl : List ℕ} {g t : List ℕ} (a : Walking n k o fl g t) where
  -- after a piece
  after : {i m m' : ℕ} {g1 t1 g2 t2 : List ℕ} → i < n → Pieces k o fl g t i m g1 t1 → Between n k o fl i g1 → get_or g1 i 0 ≡ 0 →
      Drain k o fl (set g1 i 1) (set t1 0 i) 1 m' g2 t2 0 → Between n k o fl (i + 1) g2
  after {i} {g1 = g1} {t1 = t1} {g2 = g2} {t2 = t2} l w b z d =
      let st = spread-starting a w l z in
      let m = midway a.table g1 i (start-draining st) (begins st b) d in
      let sp = spent-drain (start-draining st) d in
      record {
        closed = λ x lx px. ⊎_elim (λ (v : On t2 0 x). absurd (omega (arith, v.1))) (λ y. y) (m.shut x lx px);
        filled =
            λ x lx.
            elim (ℕ_discrete x i) [
              | yes e ↦
                  let e1 : get_or (set g1 i 1) i 0 ≡ 1 = at_j st.fit i 1 l z sign-plus in
                  let e2 : get_or g2 i 0 ≡ get_or (set g1 i 1) i 0 = sp.grows i (omega arith) in
                  rw e (omega arith)
              | no ne ↦
                  let q : 0 < get_or g1 x 0 = b.filled x (omega arith) in
                  omega (arith, m.piece.kept x q)
            ];
        rooted =
            λ x lx px.
            ⊎_elim
            (λ ez.
            let le : i ≤ x = elim (dec_lt x i) [ yes q ↦ absurd (omega (arith, b.filled x q)) | no q ↦ omega arith ] in
            (i, le, m.piece.new x lx px ez))
            (λ q.
            let e : get_or g2 x 0 ≡ get_or g1 x 0 = m.piece.kept x q in
            let v = b.rooted x lx q in
            (v.0, v.1, subst (λ y. Way n k o fl v.0 x y) (sym e) v.2))
            (eq-zero-or-pos (get_or g1 x 0));
      }

  between : {i m : ℕ} {g1 t1 : List ℕ} → i ≤ n → Pieces k o fl g t i m g1 t1 → Between n k o fl i g1
  between l Pieces.none_yet =
      record {
        closed = λ x lx px. absurd (omega (arith, a.blank x lx));
        filled = λ x lx. absurd (omega arith);
        rooted = λ x lx px. absurd (omega (arith, a.blank x lx));
      }
  between l (signed {i = i} {g1 = g1} w nz) =
      let b = between (omega arith) w in
      record {
        closed = b.closed;
        filled =
            λ x lx.
            elim (ℕ_discrete x i)
            [ yes e ↦ rw e (⊎_elim (λ q. absurd (nz q)) (λ q. q) (eq-zero-or-pos (get_or g1 i 0))) | no ne ↦ b.filled x (omega arith) ];
        rooted = b.rooted;
      }
  between l (begun w z d) = after (omega arith) w (between (omega arith) w) z d

  -- the signs of a whole walk
  pub oriented : {m : ℕ} {g1 t1 : List ℕ} → Pieces k o fl g t n m g1 t1 → OrientedMarks n k o fl (λ c. get_or g1 c 0)
  oriented {g1 = g1} w =
      let b = between (omega arith) w in
      let p = paused a (omega arith) w in
      let co : CoherentMarks n k o fl (λ c. get_or g1 c 0) =
      record { signs = λ c l. sign_of c p.fit l (b.filled c l); agree = λ c j f q. b.closed c q.from (b.filled c q.from) j f q } in
      record {
        coherent = co;
        lowest =
            λ c l low.
            let v = b.rooted c l (b.filled c l) in
            lowest-plus a.table co c v.0 l v.1 v.2 low;
      }

  -- no signs where the walk stops
  pub refuted : {m s : ℕ} {g' t' : List ℕ} → Refused n k o fl g t m s g' t' → (σ : ℕ → ℕ) → CoherentMarks n k o fl σ → ⊥
  refuted f σ co =
      let i = f.i in
      let l : i < n = f.below in
      let b = between (omega arith) f.pieces in
      let p = paused a (omega arith) f.pieces in
      let st = spread-starting a f.pieces l f.blank in
      let u = f.broken in
      let m = midway a.table f.g1 i (start-draining st) (begins st b) u.drain in
      let sp = spent-drain (start-draining st) u.drain in
      let tk = taking-top a.table sp.fit u.more in
      let zc = m.piece.stacked (u.h1 - 1) (omega (arith, u.more)) in
      let k1 = u.stuck in
      let mv = moved-slots tk (omega (arith, k1.below)) k1.slots in
      let ac = across a.table f.g1 i tk zc (popped a.table f.g1 i u.more m) (popped-rest a.table f.g1 i u.more m) (omega (arith, k1.below)) k1.slots in
      clashed a.table f.g1 i l tk.cell k1.below mv.fit (omega (arith, mv.grows (get_or u.t1 (u.h1 - 1) 0) tk.signed, tk.signed)) zc
      (λ x lx px. sign_of x p.fit lx px) b.closed ac.piece k1.clash co

  zeros-none : (m : ℕ) (l : List ℕ) → ((c : ℕ) → c < m → 0 < get_or l c 0) → zeros m l ≡ 0
  zeros-none zero l b = refl
  zeros-none (suc m) l b =
      let e : blank (get_or l m 0) ≡ 0 = blank-pos (get_or l m 0) (b m (omega arith)) in
      let r : zeros m l ≡ 0 = zeros-none m l (λ c q. b c (omega arith)) in
      omega arith

  -- all cells are taken off in a whole walk
  pub all-taken : {m : ℕ} {g1 t1 : List ℕ} → Pieces k o fl g t n m g1 t1 → m ≡ n
  all-taken {g1 = g1} w = omega (arith, (paused a (omega arith) w).sum, zeros-none n g1 (between (omega arith) w).filled)

  -- fewer in one that stops
  pub some-taken : {m s : ℕ} {g' t' : List ℕ} → Refused n k o fl g t m s g' t' → m < n
  some-taken f =
      let l = f.below in
      let st = spread-starting a f.pieces f.below f.blank in
      omega (arith, f.sum, (paused a (omega (arith, f.below)) f.pieces).sum, start-sum st, (spent-drain (start-draining st) f.broken.drain).sum, f.broken.more)

-- the code of `walk`
pub walking : {n k : ℕ} {o fl : List ℕ} (g : List ℕ) {t g0 : List ℕ} → Table n k o fl → n ≤ length g → n ≤ length t → g0 ≡ wiped n g → Walking n k o fl g0 t
walking {n} g table lg lt e =
    record {
      table = table;
      signs = rw (e, length-append, length-replicate) (omega arith);
      stack = lt;
      blank =
          λ c l.
          let q : c < length {A = ℕ} (replicate n 0) = rw length-replicate l in
          rw (e, get_or-append (replicate n 0) (drop n g) 0 c q) (get_or-replicate n c 0 0 l);
    }

module _ {n k : ℕ} {o fl : List ℕ} (g : List ℕ) {t g0 : List ℕ} (a : Walking n k o fl g0 t) (e : g0 ≡ wiped n g) {g' t' : List ℕ} {r : Result ℕ Stop} (q : Spread n k o fl g0 t g' t' r) where
  module _ {stop : Stop} (f : r ≡ Err stop) where
    stop-in : stop.taken * k + stop.slot < n * k
    stop-in = slot-in n k stop.taken stop.slot (some-taken a (spread-part q f)) (spread-part q f).broken.stuck.below

    pub stop-fits : length o < 2 ^ 64 → Fits w64 (stop.taken * k)
    stop-fits l = record { fits = omega (arith, stop-in, a.table.others) }

    pub stop-fits-2 : length o < 2 ^ 64 → Fits w64 (stop.taken * k + stop.slot)
    stop-fits-2 l = record { fits = omega (arith, stop-in, a.table.others) }

    pub stop-fits-3 : length o < 2 ^ 64 → Fits w64 (stop.taken * k + stop.slot + 1)
    stop-fits-3 l = record { fits = omega (arith, stop-in, a.table.others) }

    pub answer-no : Answer n k o fl g t g' t' false (stop.taken * k + stop.slot + 1)
    answer-no =
        record {
          yes = λ r. absurd (not-both r);
          whole = λ r. absurd (not-both r);
          run = λ r. absurd (not-both r);
          no = λ _. refuted a (spread-part q f);
          part = λ _. record { taken = stop.taken; slot = stop.slot; refused = rw (← e) (spread-part q f); count = refl };
          most = omega (arith, stop-in);
        }

  module _ {m : ℕ} (f : r ≡ Ok m) where
    whole-eq : m * k ≡ n * k
    whole-eq = ap (λ x. x * k) (all-taken a (spread-all q f))

    pub whole-fits : length o < 2 ^ 64 → Fits w64 (m * k)
    whole-fits l = record { fits = omega (arith, whole-eq, a.table.others) }

    pub answer-yes : Answer n k o fl g t g' t' true (m * k)
    answer-yes =
        record {
          yes = λ _. oriented a (spread-all q f);
          whole = λ _. whole-eq;
          run = λ _. rw (← e) (subst (λ x. Pieces k o fl g0 t n x g' t') (all-taken a (spread-all q f)) (spread-all q f));
          no = λ r. absurd (not-both (sym r));
          part = λ r. absurd (not-both (sym r));
          most = omega (arith, whole-eq);
        }
