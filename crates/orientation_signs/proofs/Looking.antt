-- The code's walk over tables of links makes the looks of the walk over cells (specs/Looks): look by look both stand alike, with equal marks and stacks, so both count
-- the same, and a clash of the one is a conflict of the other. Assumes nothing.
use mathlib.Core.Bool.{Bool, true, false, cond}
use mathlib.Core.List.{List, [], ◌∷◌}
use mathlib.Core.Path.{◌≡◌, refl, sym, ap, ◌∙◌, subst}
use mathlib.Core.Logic.{⊎_elim}
use Prim.Native.Nat.{ℕ, zero, suc, ◌+◌, ◌-◌, ◌*◌, ◌/◌, ◌%◌, ◌<◌, ◌≤◌}
use native.Mathlib.Nat.{suc-mul, mul-suc, eq-zero-or-pos, add-zero, zero-add, add-mul}
use native.Mathlib.Decide.{ℕ_discrete}
use native.Mathlib.Numerals.{add-one}
use native.Mathlib.Omega.{arith}
use borrow.Author.Tests.{eq-eqb, ne_eqb, ltb-true, ltb-false, lt-ltb, le-ltb}
use lib.Dec.{ltb}
use lib.ListN.{length, get_or, set}
use lib.Seq.{get_or-set_same, get_or-set_other}
use Rattle.complex.specs.Facets.{cell_at, facet_at, slots}
use Rattle.lists.specs.Words.{none}
use Rattle.complex_mates.specs.Table.{MateTable, Across}
use Rattle.complex_mates.proofs.Meeting.{slots-most, slots-dim}
use Rattle.orientation_walk.specs.WorkSigns as walk
use Rattle.orientation_walk.specs.WorkSigns.{turned}
use Rattle.orientation_walk.specs.WorkSteps as steps
use Rattle.orientation_walk.specs.WorkSteps.{Look, Clash, Slots, Stuck, Drain, Broken, Pieces, Ready, Taking, Draining, Starting, Walking}
use Rattle.orientation_walk.specs.WorkSteps.Look.{edge, fresh, fits}
use Rattle.orientation_walk.proofs.Lemmas.{room_for, ready, moved-slots, taking-top, spent-drain, start-draining, start-sum, paused, spread-starting}
use Rattle.orientation_walk.proofs.Theory.{walking}
use Rattle.multiindex.specs.Sign.{Sign, plus, minus}
use Rattle.orientation_signs.specs.WorkFound.{sign_of}
use Rattle.orientation_signs.specs.Looks.{dropped_for, cell_beyond, sign_beyond, Mark, unsigned, signed, given, sign_in, Walk, at, conflict, looks_in, same_sign, finds, look, looks_below, emptied, begins_at, begins, walked, looks_of}
use Rattle.orientation_signs.proofs.Beyond.{false-true, beyond-mates, mates-beyond}
use Rattle.lists.proofs.Rows.{row_in, row-div, row-mod}
use Rattle.complex_mates.proofs.Mated.{moved, rows_few, facet-row, mates-row}
use Rattle.orientation_signs.proofs.Linking.{code, sign-code, turned-code, across-sign}

-- the mark that the code's number stands for
abbrev mark_of : ℕ → Mark
mark_of zero = unsigned
mark_of (suc n) = signed (sign_of (suc n))

-- the first h numbers of the code's stack, the last first
abbrev down : List ℕ → ℕ → List ℕ
down t zero = []
down t (suc h) = get_or t h 0 ∷ down t h

-- w stands where the code does: marks as its signs g, stack as the first h of t, and n looks
record Stands (m : ℕ) (w : Walk) (g t : List ℕ) (h n : ℕ) : Type 0 where
  marks : ℕ → Mark
  stack : List ℕ
  same : w ≡ at marks stack n
  alike : (x : ℕ) → x < m → marks x ≡ mark_of (get_or g x 0)
  held : stack ≡ down t h

-- ---- marks
mark-signed : (n : ℕ) → 0 < n → mark_of n ≡ signed (sign_of n)
mark-signed zero h = absurd (omega arith)
mark-signed (suc n) h = refl

mark_code : (s : Sign) → mark_of (code s) ≡ signed s
mark_code plus = refl
mark_code minus = refl

same_sign_lem : (s : Sign) → same_sign s s ≡ true
same_sign_lem plus = refl
same_sign_lem minus = refl

sign_same : (s t : Sign) → same_sign s t ≡ true → s ≡ t
sign_same plus plus e = refl
sign_same plus minus e = absurd (false-true e)
sign_same minus plus e = absurd (false-true e)
sign_same minus minus e = refl

other_sign : (s t : Sign) → (s ≡ t → ⊥) → same_sign s t ≡ false
other_sign s t f = go (same_sign s t) refl
  where
    go : (b : Bool) → same_sign s t ≡ b → b ≡ false
    go true e = absurd (f (sign_same s t e))
    go false e = refl

down-set : (t : List ℕ) (h j k : ℕ) → k ≤ h → down (set t h j) k ≡ down t k
down-set t h j zero l = refl
down-set t h j (suc k) l =
    let e : get_or (set t h j) k 0 ≡ get_or t k 0 = get_or-set_other t h k j 0 (omega arith) in
    let r : down (set t h j) k ≡ down t k = down-set t h j k (omega arith) in
    cc

-- marks and signs with one more
given-alike : (m : ℕ) (marks : ℕ → Mark) (g : List ℕ) (b v : ℕ) (s : Sign) → b < length g → v ≡ code s → ((x : ℕ) → x < m → marks x ≡ mark_of (get_or g x 0)) → (x : ℕ) → x < m → given marks b s x ≡ mark_of (get_or (set g b v) x 0)
given-alike m marks g b v s l e p x h =
    elim (ℕ_discrete x b) [
      | yes q ↦ ap (λ (t : Bool). cond t (signed s) (marks x)) (eq-eqb x b q) ∙ sym (mark_code s) ∙ ap mark_of (sym e ∙ sym (get_or-set_same g b v 0 l) ∙ ap (λ (y : ℕ). get_or (set g b v) y 0) (sym q))
      | no q ↦ ap (λ (t : Bool). cond t (signed s) (marks x)) (ne_eqb x b q) ∙ p x h ∙ ap mark_of (sym (get_or-set_other g b x v 0 q))
    ]

pushed : (stack t : List ℕ) (h b : ℕ) → h < length t → stack ≡ down t h → b ∷ stack ≡ down (set t h b) (h + 1)
pushed stack t h b l e =
    let p : get_or (set t h b) h 0 ≡ b = get_or-set_same t h b 0 l in
    let q : down (set t h b) h ≡ down t h = down-set t h b h (omega arith) in
    ap (λ (x : ℕ). x ∷ stack) (sym p) ∙ ap (λ (l : List ℕ). get_or (set t h b) h 0 ∷ l) (e ∙ sym q) ∙ ap (down (set t h b)) (sym (add-one h))

-- ---- one slot: what the code's tables have there is what the search finds
data Agrees (d n s other flip b i : ℕ) : Type 0 where
  no_cell : other ≡ none → n ≤ b → Agrees d n s other flip b i
  a-cell : other ≡ b → b < n → i ≤ d → flip ≡ (s + (d - i) + 1) % 2 → Agrees d n s other flip b i

abbrev beyond_at : ℕ → List (List ℕ) → ℕ → ℕ → ℕ
beyond_at d cs c i = cell_beyond d cs c (facet_at (cell_at cs c) i)

abbrev place_at : ℕ → List (List ℕ) → ℕ → ℕ → ℕ
place_at d cs c i = dropped_for d cs (facet_at (cell_at cs c) i) (beyond_at d cs c i)

module _ (d m : ℕ) (cs : List (List ℕ)) (many : length cs ≡ m) (mates : List ℕ) (mt : MateTable d cs mates) (few : m * suc d < none) (o fl : List ℕ) (a : (x : ℕ) → x < m * slots d → Across (slots d) mates o fl x) where
  agrees : (c s : ℕ) → c < m → s < slots d → Agrees d (length cs) s (get_or o (c * slots d + s) 0) (get_or fl (c * slots d + s) 0) (beyond_at d cs c (d - s)) (place_at d cs c (d - s))
  agrees c s hc hs = go (ltb (beyond_at d cs c (d - s)) (length cs)) refl
    where
      go : (t : Bool) → ltb (beyond_at d cs c (d - s)) (length cs) ≡ t → Agrees d (length cs) s (get_or o (c * slots d + s) 0) (get_or fl (c * slots d + s) 0) (beyond_at d cs c (d - s)) (place_at d cs c (d - s))
      go true e =
          let z = slots-dim d (omega arith) in
          let b = beyond_at d cs c (d - s) in
          let i = place_at d cs c (d - s) in
          let x = c * slots d + s in
          let u = beyond-mates d cs c (d - s) (record { some = z.0; cell = omega arith; place = omega arith }) (ltb-true _ _ e) in
          let z1 = z.1 in
          let y = facet-row d m cs many mates mt few u.that in
          let r : d - (d - s) ≡ s = omega arith in
          let q : get_or mates x 0 ≡ b * slots d + (d - i) = ap (λ (j : ℕ). get_or mates (c * slots d + j) 0) (sym r) ∙ mates-row d m cs many mates mt few u in
          let w = a x (row_in c s m (slots d) hc hs) in
          let some : get_or mates x 0 ≡ none → ⊥ = λ n. omega (arith, q, y.0, rows_few d m cs many mates mt few) in
          a-cell (w.to some ∙ ap (λ (j : ℕ). j / slots d) q ∙ y.1) (ltb-true _ _ e) u.that.place
          (w.by some ∙ ap (λ (j : ℕ). (j + get_or mates x 0 % slots d + 1) % 2) (row-mod c s (slots d) hs)
          ∙ ap (λ (j : ℕ). (s + j % slots d + 1) % 2) q ∙ ap (λ (j : ℕ). (s + j + 1) % 2) y.2)
      go false e =
          let x = c * slots d + s in
          let hx = row_in c s m (slots d) hc hs in
          let l : length cs ≤ beyond_at d cs c (d - s) = ltb-false _ _ e in
          no_cell
          (elim (ℕ_discrete (get_or mates x 0) none) [
            | yes q ↦ (a x hx).edge q
            | no q ↦
                let u = moved d cs c (d - s) _ _ (row-div c s (slots d) hs) (ap (λ (j : ℕ). d - j) (row-mod c s (slots d) hs)) refl refl (mt.meet x (rw many hx) q) in
                absurd (omega (arith, mates-beyond d cs c (d - s) u))
          ])
          l

  -- the sign that the tables ask for beyond the slot is the one that is due
  due : (c s : ℕ) (marks : ℕ → Mark) (g : List ℕ) (flip i : ℕ) → s < slots d → i ≤ d → flip ≡ (s + (d - i) + 1) % 2 → walk.Sign (get_or g c 0) → marks c ≡ mark_of (get_or g c 0) → turned flip (get_or g c 0) ≡ code (sign_beyond (sign_in (marks c)) (d - s) i)
  due c s marks g flip i hs hi e sg mc =
      let v = sign_of (get_or g c 0) in
      let h : s ≤ d = omega (arith, slots-most d) in
      let r : d - (d - i) ≡ i = omega arith in
      let k : sign_in (marks c) ≡ v = ap sign_in (mc ∙ mark-signed (get_or g c 0) sg.some) in
      ap (λ (f : ℕ). turned f (get_or g c 0)) e ∙ ap (turned ((s + (d - i) + 1) % 2)) (sym (sign-code (get_or g c 0) sg)) ∙ turned-code (s + (d - i) + 1) v
      ∙ ap code (sym (across-sign d s (d - i) v h (omega arith)) ∙ ap (λ (j : ℕ). sign_beyond v (d - s) j) r ∙ ap (λ (x : Sign). sign_beyond x (d - s) i) (sym k))

  -- ---- one look
  found_none : (c s : ℕ) (marks : ℕ → Mark) (stack : List ℕ) (n : ℕ) → length cs ≤ beyond_at d cs c (d - s) → look d cs c (d - s) (at marks stack n) ≡ at marks stack (suc n)
  found_none c s marks stack n h = ap (λ (t : Bool). cond t (finds (beyond_at d cs c (d - s)) (sign_beyond (sign_in (marks c)) (d - s) (place_at d cs c (d - s))) (marks (beyond_at d cs c (d - s))) marks stack (suc n)) (at marks stack (suc n))) (le-ltb _ _ h)

  found_some : (c s : ℕ) (marks : ℕ → Mark) (stack : List ℕ) (n : ℕ) (k : Mark) → beyond_at d cs c (d - s) < length cs → marks (beyond_at d cs c (d - s)) ≡ k →
      look d cs c (d - s) (at marks stack n) ≡ finds (beyond_at d cs c (d - s)) (sign_beyond (sign_in (marks c)) (d - s) (place_at d cs c (d - s))) k marks stack (suc n)
  found_some c s marks stack n k h e =
      ap (λ (t : Bool). cond t (finds (beyond_at d cs c (d - s)) (sign_beyond (sign_in (marks c)) (d - s) (place_at d cs c (d - s))) (marks (beyond_at d cs c (d - s))) marks stack (suc n)) (at marks stack (suc n))) (lt-ltb _ _ h)
      ∙ ap (λ (k : Mark). finds (beyond_at d cs c (d - s)) (sign_beyond (sign_in (marks c)) (d - s) (place_at d cs c (d - s))) k marks stack (suc n)) e

  module _ (c s : ℕ) (hc : c < m) (hs : s < slots d) (w : Walk) (g t : List ℕ) (h n : ℕ) (u : Stands m w g t h n) (rd : Ready m o fl c (c * slots d + s) g t h) (sc : 0 < get_or g c 0) where
    -- the cell beyond
    abbrev b : ℕ
    b = beyond_at d cs c (d - s)

    sign-c : walk.Sign (get_or g c 0)
    sign-c = record { some = sc; small = rd.fit.small c hc }

    -- the sign that is due there
    abbrev sign-b : Sign
    sign-b = sign_beyond (sign_in (u.marks c)) (d - s) (place_at d cs c (d - s))

    due-b : place_at d cs c (d - s) ≤ d → get_or fl (c * slots d + s) 0 ≡ (s + (d - place_at d cs c (d - s)) + 1) % 2 → turned (get_or fl (c * slots d + s) 0) (get_or g c 0) ≡ code sign-b
    due-b r f = due c s u.marks g (get_or fl (c * slots d + s) 0) (place_at d cs c (d - s)) hs r f sign-c (u.alike c hc)

    in-m : beyond_at d cs c (d - s) < length cs → beyond_at d cs c (d - s) < m
    in-m q = subst (λ (z : ℕ). beyond_at d cs c (d - s) < z) many q

    looked : look d cs c (d - s) w ≡ look d cs c (d - s) (at u.marks u.stack n)
    looked = ap (look d cs c (d - s)) u.same

    look-stands : {g' t' : List ℕ} {h' : ℕ} → Look o fl c (c * slots d + s) g t h g' t' h' → Stands m (look d cs c (d - s) w) g' t' h' (suc n)
    look-stands l = go l (agrees c s hc hs)
      where
        go : {g' t' : List ℕ} {h' : ℕ} → Look o fl c (c * slots d + s) g t h g' t' h' → Agrees d (length cs) s (get_or o (c * slots d + s) 0) (get_or fl (c * slots d + s) 0) (beyond_at d cs c (d - s)) (place_at d cs c (d - s)) → Stands m (look d cs c (d - s) w) g' t' h' (suc n)
        go (edge e eg et eh) (no_cell p q) = rw (eg, et, eh) (record { marks = u.marks; stack = u.stack; same = looked ∙ found_none c s u.marks u.stack n q; alike = u.alike; held = u.held })
        go (edge e eg et eh) (a-cell p q r f) = absurd (omega (arith, mul-suc m d))
        go (fresh some z eg et eh) (no_cell p q) = absurd (some p)
        go (fresh some z eg et eh) (a-cell p q r f) =
            let z' : get_or g b 0 ≡ 0 = ap (λ (y : ℕ). get_or g y 0) (sym p) ∙ z in
            rw (eg, et, eh, p)
            (record {
              marks = given u.marks b sign-b;
              stack = b ∷ u.stack;
              same = looked ∙ found_some c s u.marks u.stack n unsigned q (u.alike b (in-m q) ∙ ap mark_of z');
              alike = given-alike m u.marks g b (turned (get_or fl (c * slots d + s) 0) (get_or g c 0)) sign-b (omega (arith, rd.fit.signs, in-m q)) (due-b r f) u.alike;
              held = pushed u.stack t h b (room_for rd (rw p (in-m q)) (sym p) z') u.held;
            })
        go (fits some nz e eg et eh) (no_cell p q) = absurd (some p)
        go (fits some nz e eg et eh) (a-cell p q r f) =
            let v : get_or g b 0 ≡ code sign-b = ap (λ (y : ℕ). get_or g y 0) (sym p) ∙ e ∙ due-b r f in
            rw (eg, et, eh)
            (record {
              marks = u.marks;
              stack = u.stack;
              same =
                  looked ∙ found_some c s u.marks u.stack n (signed sign-b) q (u.alike b (in-m q) ∙ ap mark_of v ∙ mark_code sign-b)
                  ∙ ap (λ (t : Bool). cond t (at u.marks u.stack (suc n)) (conflict (suc n))) (same_sign_lem sign-b);
              alike = u.alike;
              held = u.held;
            })

    look-stops : Clash o fl c (c * slots d + s) g → look d cs c (d - s) w ≡ conflict (suc n)
    look-stops k = go (agrees c s hc hs)
      where
        go : Agrees d (length cs) s (get_or o (c * slots d + s) 0) (get_or fl (c * slots d + s) 0) (beyond_at d cs c (d - s)) (place_at d cs c (d - s)) → look d cs c (d - s) w ≡ conflict (suc n)
        go (no_cell p q) = absurd (k.some p)
        go (a-cell p q r f) =
            let v = get_or g b 0 in
            let pos : 0 < v = ⊎_elim (λ (e : v ≡ 0). absurd (k.signed (ap (λ (y : ℕ). get_or g y 0) p ∙ e))) (λ l. l) (eq-zero-or-pos v) in
            let sg : walk.Sign v = record { some = pos; small = rd.fit.small b (in-m q) } in
            looked ∙ found_some c s u.marks u.stack n (signed (sign_of v)) q (u.alike b (in-m q) ∙ mark-signed v pos)
            ∙ ap (λ (t : Bool). cond t (at u.marks u.stack (suc n)) (conflict (suc n)))
            (other_sign (sign_of v) sign-b (λ e. k.wrong (ap (λ (y : ℕ). get_or g y 0) p ∙ sym (sign-code v sg) ∙ ap code e ∙ sym (due-b r f))))

  -- ---- the facets of one cell
  stays-below : (c i n : ℕ) → looks_below d cs c i (conflict n) ≡ conflict n
  stays-below c zero n = refl
  stays-below c (suc i) n = stays-below c i n

  all_left : (k : ℕ) → k ≡ k - 0
  all_left k = omega arith

  module _ {c : ℕ} {w : Walk} {g t : List ℕ} {h n : ℕ} (tk : Taking m (slots d) o fl c g t h) (u : Stands m w g t h n) where
    -- after s slots the looks at all facets go on with those without a position below d + 1 - s
    slots-stand : {s : ℕ} {g' t' : List ℕ} {h' : ℕ} → s ≤ slots d → Slots (slots d) o fl c g t h s g' t' h' → (w' : Walk) × Stands m w' g' t' h' (n + s) × (looks_below d cs c (slots d) w ≡ looks_below d cs c (slots d - s) w')
    slots-stand l Slots.none_yet = (w, subst (λ (z : ℕ). Stands m w g t h z) (sym (add-zero n)) u, ap (λ (z : ℕ). looks_below d cs c z w) (all_left (slots d)))
    slots-stand l (Slots.one_more {s = s} {g1 = g1} {t1 = t1} {h1 = h1} {g2 = g2} {t2 = t2} {h2 = h2} q k) =
        let hs : s < slots d = omega arith in
        let v = slots-stand (omega arith) q in
        let mv = moved-slots tk (omega arith) q in
        let e = (slots-dim d (omega arith)).1 in
        let sc : 0 < get_or g1 c 0 = omega (arith, tk.signed, mv.grows c tk.signed) in
        let left : slots d - s ≡ suc (d - s) = omega arith in
        let next : d - s ≡ slots d - (s + 1) = omega arith in
        let one : suc (n + s) ≡ n + (s + 1) = omega arith in
        let st = look-stands c s tk.cell hs v.0 g1 t1 h1 (n + s) v.1 (ready s tk.table tk.cell mv.fit hs) sc k in (
          look d cs c (d - s) v.0,
          subst (λ (z : ℕ). Stands m (look d cs c (d - s) v.0) g2 t2 h2 z) one st,
          v.2 ∙ ap (λ (z : ℕ). looks_below d cs c z v.0) left ∙ ap (λ (z : ℕ). looks_below d cs c z (look d cs c (d - s) v.0)) next,
        )

    slots-stop : {s : ℕ} {g' t' : List ℕ} → Stuck (slots d) o fl c g t h s g' t' → looks_below d cs c (slots d) w ≡ conflict (n + s + 1)
    slots-stop {s} {g'} {t'} k =
        let hs = k.below in
        let v = slots-stand (omega arith) k.slots in
        let mv = moved-slots tk (omega arith) k.slots in
        let e = (slots-dim d (omega arith)).1 in
        let sc : 0 < get_or g' c 0 = omega (arith, tk.signed, mv.grows c tk.signed) in
        let left : slots d - s ≡ suc (d - s) = omega arith in
        let one : suc (n + s) ≡ n + s + 1 = omega arith in
        let st = look-stops c s tk.cell hs v.0 g' t' k.height (n + s) v.1 (ready s tk.table tk.cell mv.fit hs) sc k.clash in
        v.2 ∙ ap (λ (z : ℕ). looks_below d cs c z v.0) left ∙ ap (looks_below d cs c (d - s)) st ∙ stays-below c (d - s) (suc (n + s)) ∙ ap conflict one

  -- ---- cells taken off the stack
  stays-emptied : (r n : ℕ) → emptied d cs r (conflict n) ≡ conflict n
  stays-emptied zero n = refl
  stays-emptied (suc r) n = refl

  -- the cell on top is taken off
  top-off : (w : Walk) (g t : List ℕ) (h n : ℕ) → 0 < h → Stands m w g t h n →
      (w' : Walk) × Stands m w' g t (h - 1) n × ((r : ℕ) → emptied d cs (suc r) w ≡ emptied d cs r (looks_below d cs (get_or t (h - 1) 0) (slots d) w'))
  top-off w g t h n l u =
      let e : h ≡ suc (h - 1) = omega arith in
      let k : u.stack ≡ get_or t (h - 1) 0 ∷ down t (h - 1) = u.held ∙ ap (down t) e in (
        at u.marks (down t (h - 1)) n,
        record { marks = u.marks; stack = down t (h - 1); same = refl; alike = u.alike; held = refl },
        λ r. ap (emptied d cs (suc r)) (u.same ∙ ap (λ (s : List ℕ). at u.marks s n) k),
      )

  one_later : (q r : ℕ) → q + 1 + r ≡ q + suc r
  one_later q r = omega arith

  -- and all its facets are looked at
  on_below : (c : ℕ) (w w' : Walk) → looks_below d cs c (slots d) w ≡ looks_below d cs c (slots d - slots d) w' → looks_below d cs c (slots d) w ≡ w'
  on_below c w w' e = let over : slots d - slots d ≡ 0 = omega arith in e ∙ ap (λ (j : ℕ). looks_below d cs c j w') over

  one-off : (w w1 : Walk) (n q : ℕ) {g1 t1 : List ℕ} {h1 : ℕ} {g2 t2 : List ℕ} {h2 : ℕ} → Stands m w1 g1 t1 h1 (n + q * slots d) → ((r : ℕ) → emptied d cs (q + r) w ≡ emptied d cs r w1) → 0 < h1 →
      Taking m (slots d) o fl (get_or t1 (h1 - 1) 0) g1 t1 (h1 - 1) → Slots (slots d) o fl (get_or t1 (h1 - 1) 0) g1 t1 (h1 - 1) (slots d) g2 t2 h2 →
      (w2 : Walk) × Stands m w2 g2 t2 h2 (n + (q + 1) * slots d) × ((r : ℕ) → emptied d cs (q + 1 + r) w ≡ emptied d cs r w2)
  one-off w w1 n q {g1} {t1} {h1} {g2} {t2} {h2} u k l tk y =
      let p = top-off w1 g1 t1 h1 (n + q * slots d) l u in
      rest p.0 p.1 p.2
    where
      rest : (w3 : Walk) → Stands m w3 g1 t1 (h1 - 1) (n + q * slots d) → ((r : ℕ) → emptied d cs (suc r) w1 ≡ emptied d cs r (looks_below d cs (get_or t1 (h1 - 1) 0) (slots d) w3)) →
          (w2 : Walk) × Stands m w2 g2 t2 h2 (n + (q + 1) * slots d) × ((r : ℕ) → emptied d cs (q + 1 + r) w ≡ emptied d cs r w2)
      rest w3 v f =
          let z = slots-stand tk v (omega arith) y in
          let looks : n + q * slots d + slots d ≡ n + (q + 1) * slots d = omega (arith, suc-mul q (slots d), ap (λ (j : ℕ). j * slots d) (add-one q)) in (
            z.0,
            subst (λ (j : ℕ). Stands m z.0 g2 t2 h2 j) looks z.1,
            λ r. ap (λ (j : ℕ). emptied d cs j w) (one_later q r) ∙ k (suc r) ∙ f r ∙ ap (emptied d cs r) (on_below (get_or t1 (h1 - 1) 0) w3 z.0 z.2),
          )

  module _ {w : Walk} {g t : List ℕ} {h n : ℕ} (dr : Draining m (slots d) o fl g t h) (u : Stands m w g t h n) where
    drain-stand : {q : ℕ} {g' t' : List ℕ} {h' : ℕ} → Drain (slots d) o fl g t h q g' t' h' → (w' : Walk) × Stands m w' g' t' h' (n + q * slots d) × ((r : ℕ) → emptied d cs (q + r) w ≡ emptied d cs r w')
    drain-stand Drain.none_yet = (w, subst (λ (z : ℕ). Stands m w g t h z) (omega arith) u, λ r. ap (λ (z : ℕ). emptied d cs z w) (zero-add r))
    drain-stand (Drain.one_more {m = q} {g1 = g1} {t1 = t1} {h1 = h1} x l y) =
        let v = drain-stand x in
        one-off w v.0 n q v.1 v.2 l (taking-top dr.table (spent-drain dr x).fit l) y

    drain-stop : {q s : ℕ} {g' t' : List ℕ} → Broken (slots d) o fl g t h q s g' t' → (r : ℕ) → emptied d cs (q + suc r) w ≡ conflict (n + q * slots d + s + 1)
    drain-stop {q} {s} k r =
        let v = drain-stand k.drain in
        let tk = taking-top dr.table (spent-drain dr k.drain).fit k.more in
        let p = top-off v.0 k.g1 k.t1 k.h1 (n + q * slots d) k.more v.1 in
        v.2 (suc r) ∙ p.2 r ∙ ap (emptied d cs r) (slots-stop tk p.1 k.stuck) ∙ stays-emptied r (n + q * slots d + s + 1)

  -- ---- the pieces
  module _ {w : Walk} {g t : List ℕ} {n i : ℕ} (u : Stands m w g t 0 n) (st : Starting m (slots d) o fl i g t) where
    abbrev begun : Walk
    begun = at (given u.marks i plus) (i ∷ []) n

    begins-at : begins d cs i w ≡ emptied d cs (length cs) begun
    begins-at = ap (begins d cs i) u.same ∙ ap (λ (k : Mark). begins_at d cs i k u.marks u.stack n) (u.alike i st.cell ∙ ap mark_of st.blank)

    begun-stands : Stands m begun (set g i 1) (set t 0 i) 1 n
    begun-stands =
        record {
          marks = given u.marks i plus;
          stack = i ∷ [];
          same = refl;
          alike = given-alike m u.marks g i 1 plus (omega (arith, st.cell, st.fit.signs)) refl u.alike;
          held = ap (λ (x : ℕ). x ∷ []) (sym (get_or-set_same t 0 i 0 (omega (arith, st.cell, st.fit.stack))));
        }

  empty-rest : (r : ℕ) (marks : ℕ → Mark) (n : ℕ) → emptied d cs r (at marks [] n) ≡ at marks [] n
  empty-rest zero marks n = refl
  empty-rest (suc r) marks n = refl

  -- a conflict stays to the end
  stays-walked : (i j n : ℕ) → i ≤ j → walked d cs i ≡ conflict n → walked d cs j ≡ conflict n
  stays-walked i zero n l e = let z : i ≡ 0 = omega arith in ap (walked d cs) (sym z) ∙ e
  stays-walked i (suc j) n l e =
      elim (ℕ_discrete i (suc j)) [
        | yes q ↦ ap (walked d cs) (sym q) ∙ e
        | no q ↦ ap (begins d cs j) (stays-walked i j n (omega arith) e)
      ]

  module _ {g t : List ℕ} (wk : Walking m (slots d) o fl g t) where
    pieces-stand : {i q : ℕ} {g1 t1 : List ℕ} → i ≤ m → Pieces (slots d) o fl g t i q g1 t1 → Stands m (walked d cs i) g1 t1 0 (q * slots d)
    pieces-stand l Pieces.none_yet =
        subst (λ (z : ℕ). Stands m (walked d cs zero) g t 0 z) (omega arith)
        (record { marks = λ c. unsigned; stack = []; same = refl; alike = λ x h. ap mark_of (sym (wk.blank x h)); held = refl })
    pieces-stand l (Pieces.signed {i = i} {m = q} {g1 = g1} {t1 = t1} x nz) =
        let u = pieces-stand (omega arith) x in
        let e = u.alike i (omega arith) ∙ mark-signed (get_or g1 i 0) (⊎_elim (λ (z : get_or g1 i 0 ≡ 0). absurd (nz z)) (λ p. p) (eq-zero-or-pos (get_or g1 i 0))) in
        subst (λ (z : ℕ). Stands m (walked d cs z) g1 t1 0 (q * slots d)) (sym (add-one i))
        (record {
          marks = u.marks;
          stack = u.stack;
          same = ap (begins d cs i) u.same ∙ ap (λ (k : Mark). begins_at d cs i k u.marks u.stack (q * slots d)) e;
          alike = u.alike;
          held = u.held;
        })
    pieces-stand l (Pieces.begun {i = i} {m = q} {m' = q'} {g1 = g1} {t1 = t1} {g2 = g2} {t2 = t2} x z y) =
        let u = pieces-stand (omega arith) x in
        let st = spread-starting wk x (omega arith) z in
        let dr = start-draining st in
        let v = drain-stand dr (begun-stands u st) y in
        let all : length cs ≡ q' + (m - q') = omega (arith, (spent-drain dr y).sum, start-sum st, (paused wk (omega arith) x).sum) in
        let looks : q * slots d + q' * slots d ≡ (q + q') * slots d = sym (add-mul q q' (slots d)) in
        let end : begins d cs i (walked d cs i) ≡ at v.1.marks [] (q * slots d + q' * slots d) =
        begins-at u st ∙ ap (λ (j : ℕ). emptied d cs j (begun u st)) all ∙ v.2 (m - q') ∙ ap (emptied d cs (m - q')) (v.1.same ∙ ap (λ (l : List ℕ). at v.1.marks l (q * slots d + q' * slots d)) v.1.held)
        ∙ empty-rest (m - q') v.1.marks (q * slots d + q' * slots d) in
        subst (λ (j : ℕ). Stands m (walked d cs j) g2 t2 0 ((q + q') * slots d)) (sym (add-one i))
        (subst (λ (j : ℕ). Stands m (walked d cs (suc i)) g2 t2 0 j) looks
        (record { marks = v.1.marks; stack = []; same = end; alike = v.1.alike; held = refl }))

    refused-stop : {q s : ℕ} {g' t' : List ℕ} → steps.Refused m (slots d) o fl g t q s g' t' → looks_of d cs ≡ q * slots d + s + 1
    refused-stop {q} {s} f =
        let i = f.i in
        let l = f.below in
        let u = pieces-stand (omega arith) f.pieces in
        let st = spread-starting wk f.pieces l f.blank in
        let dr = start-draining st in
        let k = f.after in
        let b = f.before in
        let more = f.broken.more in
        let all : length cs ≡ k + suc (m - suc k) = omega (arith, (spent-drain dr f.broken.drain).sum, start-sum st, (paused wk (omega arith) f.pieces).sum) in
        let end : walked d cs (suc i) ≡ conflict (b * slots d + k * slots d + s + 1) =
        begins-at u st ∙ ap (λ (j : ℕ). emptied d cs j (begun u st)) all ∙ drain-stop dr (begun-stands u st) f.broken (m - suc k) in
        ap looks_in (stays-walked (suc i) (length cs) (b * slots d + k * slots d + s + 1) (omega arith) end)
        ∙ omega (arith, add-mul b k (slots d), ap (λ (j : ℕ). j * slots d) f.sum)

  -- the code's count is that of the defined walk
  pub looks-are : (ok : Bool) (g t g' t' : List ℕ) (looks : ℕ) → walk.Table m (slots d) o fl → m ≤ length g → m ≤ length t → steps.Answer m (slots d) o fl g t g' t' ok looks → looks ≡ looks_of d cs
  looks-are true g t g' t' looks tb lg lt r =
      r.whole refl ∙ sym (ap looks_in (ap (walked d cs) many ∙ (pieces-stand (walking g tb lg lt refl) (omega arith) (r.run refl)).same))
  looks-are false g t g' t' looks tb lg lt r = (r.part refl).count ∙ sym (refused-stop (walking g tb lg lt refl) (r.part refl).refused)
