-- Where coherent signs exist the defined walk meets no conflict: it gives each cell its sign of the oriented ones, takes each cell off the stack once, and so looks
-- once at each facet of each cell. Assumes nothing.
use mathlib.Core.Bool.{Bool, true, false, cond}
use mathlib.Core.List.{List, [], ◌∷◌}
use mathlib.Core.Logic.{◌⊎◌, inl, inr, ⊎_elim}
use mathlib.Core.Path.{◌≡◌, refl, sym, ap, ◌∙◌, subst}
use Prim.Native.Nat.{ℕ, zero, suc, ◌+◌, ◌*◌, ◌<◌, ◌≤◌}
use native.Mathlib.Nat.{suc-mul, add-mul, zero-mul, zero-add, add-zero}
use native.Mathlib.Decide.{ℕ_discrete, dec_lt}
use native.Mathlib.Omega.{arith}
use borrow.Author.Tests.{eq-eqb, ne_eqb, ltb-true, ltb-false}
use lib.Dec.{ltb}
use lib.ListN.{length}
use Rattle.complex.specs.Facets.{cell_at, facet_at, Mates, Crowded, slots}
use Rattle.complex_mates.proofs.Meeting.{slots-dim}
use Rattle.multiindex.specs.Sign.{Sign, plus, minus, induced}
use Rattle.orientation_signs.specs.Signs.{Joined, here, across, Oriented}
use Rattle.orientation_signs.specs.Looks.{dropped_for, cell_beyond, sign_beyond, Mark, unsigned, signed, given, sign_in, Walk, at, conflict, looks_in, same_sign, finds, look, looks_below, emptied, begins_at, begins, walked, looks_of}
use Rattle.orientation_signs.proofs.Unique.{forced}
use Rattle.orientation_signs.proofs.Beyond.{beyond-mates, mates-beyond}
use Rattle.orientation_signs.proofs.Most.{is_unsigned, unsigned_in, given-open, all-open}

-- cell x has a sign
abbrev Signed : (ℕ → Mark) → ℕ → Type 0
Signed marks x = (s : Sign) × (marks x ≡ signed s)

-- x is on the stack
abbrev On : ℕ → List ℕ → Type 0
On x [] = ⊥
On x (c ∷ stack) = (x ≡ c) ⊎ On x stack

not-unsigned : (s : Sign) → unsigned ≡ signed s → ⊥
not-unsigned s e = let z : ◌≡◌ {A = ℕ} 1 0 = ap is_unsigned e in omega arith

is_signed : (m : Mark) → (m ≡ unsigned) ⊎ ((s : Sign) × (m ≡ signed s))
is_signed unsigned = inl refl
is_signed (signed s) = inr (s, refl)

sign-again : (s : Sign) → same_sign s s ≡ true
sign-again plus = refl
sign-again minus = refl

given-here : (marks : ℕ → Mark) (b : ℕ) (s : Sign) → given marks b s b ≡ signed s
given-here marks b s = ap (λ (t : Bool). cond t (signed s) (marks b)) (eq-eqb b b refl)

given-there : (marks : ℕ → Mark) (b x : ℕ) (s : Sign) → (x ≡ b → ⊥) → given marks b s x ≡ marks x
given-there marks b x s f = ap (λ (t : Bool). cond t (signed s) (marks x)) (ne_eqb x b f)

-- a signed cell stays signed
given-signed : (marks : ℕ → Mark) (b x : ℕ) (s : Sign) → Signed marks x → Signed (given marks b s) x
given-signed marks b x s u = elim (ℕ_discrete x b) [ yes e ↦ (s, ap (given marks b s) e ∙ given-here marks b s) | no f ↦ (u.0, given-there marks b x s f ∙ u.1) ]

signed-mark : (s t : Sign) → signed s ≡ signed t → s ≡ t
signed-mark s t e = ap sign_in e

-- all mates of x have signs
abbrev Done : ℕ → List (List ℕ) → (ℕ → Mark) → ℕ → Type 0
Done d cs marks x = (i c' i' : ℕ) → Mates d cs x i c' i' → Signed marks c'

abbrev Right : (ℕ → Sign) → (ℕ → Mark) → Type 0
Right σ marks = (x : ℕ) (s : Sign) → marks x ≡ signed s → s ≡ σ x

abbrev Stacked : ℕ → (ℕ → Mark) → List ℕ → Type 0
Stacked n marks stack = (x : ℕ) → On x stack → (x < n) × Signed marks x

abbrev Grows : (ℕ → Mark) → (ℕ → Mark) → Type 0
Grows marks marks' = (x : ℕ) → Signed marks x → Signed marks' x

-- between two cells: the cells that are on the stack or unsigned pay for the looks to come
record Between (d : ℕ) (cs : List (List ℕ)) (σ : ℕ → Sign) (marks : ℕ → Mark) (stack : List ℕ) (made : ℕ) : Type 0 where
  right : Right σ marks
  stacked : Stacked (length cs) marks stack
  shut : (x : ℕ) → Signed marks x → On x stack ⊎ Done d cs marks x
  paid : made + (length stack + unsigned_in marks (length cs)) * slots d ≡ length cs * slots d

-- at cell c, with looks at its facets without positions below i still to come, and `left` cells on the stack or unsigned
record Midway (d : ℕ) (cs : List (List ℕ)) (σ : ℕ → Sign) (c i left : ℕ) (marks : ℕ → Mark) (stack : List ℕ) : Type 0 where
  right : Right σ marks
  stacked : Stacked (length cs) marks stack
  own : Signed marks c
  rest : (x : ℕ) → Signed marks x → (x ≡ c) ⊎ (On x stack ⊎ Done d cs marks x)
  part : (j c' i' : ℕ) → i ≤ j → Mates d cs c j c' i' → Signed marks c'
  count : length stack + unsigned_in marks (length cs) ≡ left

-- the walk w goes on so, after `made` looks
record Onward (d : ℕ) (cs : List (List ℕ)) (σ : ℕ → Sign) (c i left : ℕ) (before : ℕ → Mark) (made : ℕ) (w : Walk) : Type 0 where
  marks : ℕ → Mark
  stack : List ℕ
  same : w ≡ at marks stack made
  mid : Midway d cs σ c i left marks stack
  grows : Grows before marks

-- two cells that share a facet with c at one position are one, unless it is crowded
one-mate : {d : ℕ} {cs : List (List ℕ)} → (Crowded d cs → ⊥) → {c i a i' b i'' : ℕ} → Mates d cs c i a i' → Mates d cs c i b i'' → a ≡ b
one-mate free {c} {i} {a} {i'} {b} {i''} u v =
    elim (ℕ_discrete a b) [
      | yes e ↦ e
      | no f ↦ absurd (free (record { cell = c; first = a; second = b; at = i; at_first = i'; at_second = i''; one = u; other = v; apart = f }))
    ]

module _ (d : ℕ) (cs : List (List ℕ)) (σ : ℕ → Sign) (or : Oriented d cs σ) (free : Crowded d cs → ⊥) where
  -- ---- one look
  module _ (c i left : ℕ) (some : 0 < d) (hc : c < length cs) (hi : i ≤ d) (marks : ℕ → Mark) (stack : List ℕ) (made : ℕ) (m : Midway d cs σ c (suc i) left marks stack) where
    abbrev b : ℕ
    b = cell_beyond d cs c (facet_at (cell_at cs c) i)

    abbrev p : ℕ
    p = dropped_for d cs (facet_at (cell_at cs c) i) b

    abbrev due : Sign
    due = sign_beyond (sign_in (marks c)) i p

    -- the sign that is due is the oriented one
    due-right : Mates d cs c i b p → due ≡ σ b
    due-right u =
        ap (λ (s : Sign). sign_beyond s i p) (ap sign_in m.own.1 ∙ m.right c m.own.0 m.own.1)
        ∙ sym (forced (σ c) (σ b) (induced i) (induced p) (or.coherent.opposed c i b p u))

    part-on : (marks' : ℕ → Mark) → Grows marks marks' → ((c' i' : ℕ) → Mates d cs c i c' i' → Signed marks' c') → (j c' i' : ℕ) → i ≤ j → Mates d cs c j c' i' → Signed marks' c'
    part-on marks' g now j c' i' l u =
        elim (ℕ_discrete j i) [
          | yes e ↦ now c' i' (subst (λ (x : ℕ). Mates d cs c x c' i') e u)
          | no f ↦ g c' (m.part j c' i' (omega arith) u)
        ]

    -- nothing changes
    stays : ((c' i' : ℕ) → Mates d cs c i c' i' → Signed marks c') → {w : Walk} → w ≡ at marks stack (suc made) → Onward d cs σ c i left marks (suc made) w
    stays now e =
        record {
          marks = marks;
          stack = stack;
          same = e;
          mid = record { right = m.right; stacked = m.stacked; own = m.own; rest = m.rest; part = part-on marks (λ x u. u) now; count = m.count };
          grows = λ x u. u;
        }

    found-on : b < length cs → (k : Mark) → marks b ≡ k → Onward d cs σ c i left marks (suc made) (finds b due k marks stack (suc made))
    found-on h unsigned e =
        let u = beyond-mates d cs c i (record { some = some; cell = hc; place = hi }) h in
        let new = given marks b due in
        let grow : Grows marks new = λ x v. given-signed marks b x due v in
        record {
          marks = new;
          stack = b ∷ stack;
          same = refl;
          mid =
              record {
                right =
                    λ x s q.
                    elim (ℕ_discrete x b) [
                      | yes z ↦ signed-mark s due (sym q ∙ ap new z ∙ given-here marks b due) ∙ due-right u ∙ ap σ (sym z)
                      | no z ↦ m.right x s (sym (given-there marks b x due z) ∙ q)
                    ];
                stacked = λ x. ⊎_elim (λ (z : x ≡ b). (subst (λ (y : ℕ). y < length cs) (sym z) h, (due, ap new z ∙ given-here marks b due))) (λ v. ((m.stacked x v).0, grow x (m.stacked x v).1));
                own = grow c m.own;
                rest =
                    λ x v.
                    elim (ℕ_discrete x b) [
                      | yes z ↦ inr (inl (inl z))
                      | no z ↦
                          ⊎_elim (λ y. inl y) (⊎_elim (λ y. inr (inl (inr y))) (λ (y : Done d cs marks x). inr (inr (λ j c' i' t. grow c' (y j c' i' t)))))
                          (m.rest x (v.0, sym (given-there marks b x due z) ∙ v.1))
                    ];
                part = part-on new grow (λ c' i' t. (due, ap new (one-mate free t u) ∙ given-here marks b due));
                count = omega (arith, m.count, given-open marks b due (length cs) h e);
              };
          grows = grow;
        }
    found-on h (signed t) e =
        let u = beyond-mates d cs c i (record { some = some; cell = hc; place = hi }) h in
        let r : t ≡ due = m.right b t e ∙ sym (due-right u) in
        stays (λ c' i' v. (t, ap marks (one-mate free v u) ∙ e))
        (ap (λ (q : Bool). cond q (at marks stack (suc made)) (conflict (suc made))) (ap (λ (s : Sign). same_sign s due) r ∙ sign-again due))

    look-on : Onward d cs σ c i left marks (suc made) (look d cs c i (at marks stack made))
    look-on = go (ltb b (length cs)) refl
      where
        go : (t : Bool) → ltb b (length cs) ≡ t → Onward d cs σ c i left marks (suc made) (cond t (finds b due (marks b) marks stack (suc made)) (at marks stack (suc made)))
        go true e = found-on (ltb-true _ _ e) (marks b) refl
        go false e =
            let l : length cs ≤ b = ltb-false _ _ e in
            stays (λ c' i' u. absurd (let z : ⊥ = omega (arith, mates-beyond d cs c i u) in z)) refl

  -- ---- the facets of one cell
  onward : {c i left : ℕ} {before marks : ℕ → Mark} {made : ℕ} {w w' : Walk} → w' ≡ w → Grows before marks → Onward d cs σ c i left marks made w → Onward d cs σ c i left before made w'
  onward e g r = record { marks = r.marks; stack = r.stack; same = e ∙ r.same; mid = r.mid; grows = λ x u. r.grows x (g x u) }

  below_on : (c i left : ℕ) → c < length cs → i ≤ slots d → (marks : ℕ → Mark) (stack : List ℕ) (made : ℕ) → Midway d cs σ c i left marks stack → Onward d cs σ c 0 left marks (made + i) (looks_below d cs c i (at marks stack made))
  below_on c zero left hc l marks stack made m = record { marks = marks; stack = stack; same = ap (at marks stack) (sym (add-zero made)); mid = m; grows = λ x u. u }
  below_on c (suc i) left hc l marks stack made m =
      let z = slots-dim d (omega arith) in
      let z1 = z.1 in
      let r = look-on c i left z.0 hc (omega arith) marks stack made m in
      let q : suc made + i ≡ made + suc i = omega arith in
      subst (λ (x : ℕ). Onward d cs σ c 0 left marks x (looks_below d cs c i (look d cs c i (at marks stack made)))) q
      (onward (ap (looks_below d cs c i) r.same) r.grows (below_on c i left hc (omega arith) r.marks r.stack (suc made) r.mid))

  -- ---- cells taken off the stack
  -- the stack is empty, and the walk stands between two pieces
  record Emptied (before : ℕ → Mark) (w : Walk) : Type 0 where
    marks : ℕ → Mark
    made : ℕ
    same : w ≡ at marks [] made
    between : Between d cs σ marks [] made
    grows : Grows before marks

  -- a cell is taken off
  taken-off : (c : ℕ) (stack : List ℕ) (marks : ℕ → Mark) (made : ℕ) → Between d cs σ marks (c ∷ stack) made → Midway d cs σ c (slots d) (length stack + unsigned_in marks (length cs)) marks stack
  taken-off c stack marks made h =
      record {
        right = h.right;
        stacked = λ x u. h.stacked x (inr u);
        own = (h.stacked c (inl refl)).1;
        rest = λ x u. ⊎_elim (⊎_elim (λ e. inl e) (λ v. inr (inl v))) (λ v. inr (inr v)) (h.shut x u);
        part = λ j c' i' l u. absurd (let z : ⊥ = omega (arith, u.this.place, slots-dim-pos d u.this.some) in z);
        count = refl;
      }
    where
      slots-dim-pos : (e : ℕ) → 0 < e → slots e ≡ suc e
      slots-dim-pos zero q = absurd (omega arith)
      slots-dim-pos (suc e) q = refl

  -- all its facets are looked at
  taken-done : (c left : ℕ) (marks : ℕ → Mark) (stack : List ℕ) (made : ℕ) → Midway d cs σ c 0 left marks stack → made + left * slots d ≡ length cs * slots d → Between d cs σ marks stack made
  taken-done c left marks stack made m e =
      record {
        right = m.right;
        stacked = m.stacked;
        shut = λ x u. ⊎_elim (λ (q : x ≡ c). inr (λ j c' i' t. m.part j c' i' (omega arith) (subst (λ (y : ℕ). Mates d cs y j c' i') q t))) (λ v. v) (m.rest x u);
        paid = ap (λ (y : ℕ). made + y * slots d) m.count ∙ e;
      }

  emptied-on : (r : ℕ) (marks : ℕ → Mark) (stack : List ℕ) (made : ℕ) → Between d cs σ marks stack made → length stack + unsigned_in marks (length cs) ≤ r → Emptied marks (emptied d cs r (at marks stack made))
  emptied-on zero marks [] made h l = record { marks = marks; made = made; same = refl; between = h; grows = λ x u. u }
  emptied-on zero marks (c ∷ stack) made h l = absurd (omega arith)
  emptied-on (suc r) marks [] made h l = record { marks = marks; made = made; same = refl; between = h; grows = λ x u. u }
  emptied-on (suc r) marks (c ∷ stack) made h l =
      let left = length stack + unsigned_in marks (length cs) in
      let v = below_on c (slots d) left (h.stacked c (inl refl)).0 (omega arith) marks stack made (taken-off c stack marks made h) in
      let q : made + slots d + left * slots d ≡ length cs * slots d = omega (arith, h.paid, add-mul (length stack) (unsigned_in marks (length cs)) (slots d), add-mul (suc (length stack)) (unsigned_in marks (length cs)) (slots d), suc-mul (length stack) (slots d)) in
      let e = emptied-on r v.marks v.stack (made + slots d) (taken-done c left v.marks v.stack (made + slots d) v.mid q) (omega (arith, v.mid.count)) in
      record { marks = e.marks; made = e.made; same = ap (emptied d cs r) v.same ∙ e.same; between = e.between; grows = λ x u. e.grows x (v.grows x u) }

  -- ---- the pieces
  back : {c i c' i' : ℕ} → Mates d cs c i c' i' → Mates d cs c' i' c i
  back u = record { this = u.that; that = u.this; apart = λ e. u.apart (sym e); one = sym u.one }

  -- what is joined to an unsigned cell is unsigned
  joined-open : (marks : ℕ → Mark) (made c : ℕ) → Between d cs σ marks [] made → marks c ≡ unsigned → {x : ℕ} → Joined d cs c x → marks x ≡ unsigned
  joined-open marks made c h u here = u
  joined-open marks made c h u (across {c' = c'} {i = i} {c'' = c''} {i' = i'} j m) =
      ⊎_elim (λ e. e)
      (λ (s : Signed marks c'').
      absurd (⊎_elim (λ (v : On c'' []). v) (λ (v : Done d cs marks c''). let w = v i' c' i (back m) in not-unsigned w.0 (sym (joined-open marks made c h u j) ∙ w.1)) (h.shut c'' s)))
      (is_signed (marks c''))

  -- so a piece begins at its lowest cell
  root-plus : (marks : ℕ → Mark) (made c : ℕ) → c < length cs → Between d cs σ marks [] made → ((x : ℕ) → x < c → Signed marks x) → marks c ≡ unsigned → σ c ≡ plus
  root-plus marks made c hc h f u = or.lowest c hc (λ x j. elim (dec_lt x c) [ yes l ↦ absurd (not-unsigned (f x l).0 (sym (joined-open marks made c h u j) ∙ (f x l).1)) | no l ↦ omega arith ])

  open-most : (marks : ℕ → Mark) (n : ℕ) → unsigned_in marks n ≤ n
  open-most marks zero = omega arith
  open-most marks (suc n) = go (marks n) (open-most marks n)
    where
      go : (k : Mark) → unsigned_in marks n ≤ n → unsigned_in marks n + is_unsigned k ≤ suc n
      go unsigned r = omega arith
      go (signed s) r = omega arith

  -- a piece begins
  root : (marks : ℕ → Mark) (made c : ℕ) → c < length cs → Between d cs σ marks [] made → σ c ≡ plus → marks c ≡ unsigned → Between d cs σ (given marks c plus) (c ∷ []) made
  root marks made c hc h sg u =
      record {
        right =
            λ x s q.
            elim (ℕ_discrete x c) [
              | yes z ↦ signed-mark s plus (sym q ∙ ap (given marks c plus) z ∙ given-here marks c plus) ∙ sym sg ∙ ap σ (sym z)
              | no z ↦ h.right x s (sym (given-there marks c x plus z) ∙ q)
            ];
        stacked = λ x. ⊎_elim (λ (z : x ≡ c). (subst (λ (y : ℕ). y < length cs) (sym z) hc, (plus, ap (given marks c plus) z ∙ given-here marks c plus))) (λ v. absurd v);
        shut =
            λ x v.
            elim (ℕ_discrete x c) [
              | yes z ↦ inl (inl z)
              | no z ↦
                  ⊎_elim (λ (y : On x []). absurd y) (λ (y : Done d cs marks x). inr (λ j c' i' t. given-signed marks c c' plus (y j c' i' t)))
                  (h.shut x (v.0, sym (given-there marks c x plus z) ∙ v.1))
            ];
        paid =
            let o : 1 + unsigned_in (given marks c plus) (length cs) ≡ 0 + unsigned_in marks (length cs) = omega (arith, given-open marks c plus (length cs) hc u) in
            ap (λ (x : ℕ). made + x * slots d) o ∙ h.paid;
      }

  record Walked (c : ℕ) : Type 0 where
    marks : ℕ → Mark
    made : ℕ
    same : walked d cs c ≡ at marks [] made
    between : Between d cs σ marks [] made
    filled : (x : ℕ) → x < c → Signed marks x

  -- one more cell
  filled_on : (marks : ℕ → Mark) (c : ℕ) → ((x : ℕ) → x < c → Signed marks x) → Signed marks c → (x : ℕ) → x < suc c → Signed marks x
  filled_on marks c f u x l = elim (ℕ_discrete x c) [ yes e ↦ (u.0, ap marks e ∙ u.1) | no e ↦ f x (omega arith) ]

  begins-on : (c : ℕ) → c < length cs → Walked c → Walked (suc c)
  begins-on c hc w = go (is_signed (w.marks c))
    where
      go : (w.marks c ≡ unsigned) ⊎ Signed w.marks c → Walked (suc c)
      go (inr u) =
          record {
            marks = w.marks;
            made = w.made;
            same = ap (begins d cs c) w.same ∙ ap (λ (k : Mark). begins_at d cs c k w.marks [] w.made) u.1;
            between = w.between;
            filled = filled_on w.marks c w.filled u;
          }
      go (inl u) =
          let sg = root-plus w.marks w.made c hc w.between w.filled u in
          let new = given w.marks c plus in
          let few : 1 + unsigned_in new (length cs) ≤ length cs = omega (arith, given-open w.marks c plus (length cs) hc u, open-most w.marks (length cs)) in
          let e = emptied-on (length cs) new (c ∷ []) w.made (root w.marks w.made c hc w.between sg u) few in
          record {
            marks = e.marks;
            made = e.made;
            same = ap (begins d cs c) w.same ∙ ap (λ (k : Mark). begins_at d cs c k w.marks [] w.made) u ∙ e.same;
            between = e.between;
            filled = filled_on e.marks c (λ x l. e.grows x (given-signed w.marks c x plus (w.filled x l))) (e.grows c (plus, given-here w.marks c plus));
          }

  walked_on : (c : ℕ) → c ≤ length cs → Walked c
  walked_on zero l =
      record {
        marks = λ x. unsigned;
        made = 0;
        same = refl;
        between =
            record {
              right = λ x s e. absurd (not-unsigned s e);
              stacked = λ x v. absurd v;
              shut = λ x u. absurd (not-unsigned u.0 u.1);
              paid = let e : 0 + unsigned_in (λ x. unsigned) (length cs) ≡ length cs = omega (arith, all-open (length cs)) in zero-add _ ∙ ap (λ (x : ℕ). x * slots d) e;
            };
        filled = λ x h. absurd (omega arith);
      }
  walked_on (suc c) l = begins-on c (omega arith) (walked_on c (omega arith))

  open_none : (marks : ℕ → Mark) (n : ℕ) → ((x : ℕ) → x < n → Signed marks x) → unsigned_in marks n ≡ 0
  open_none marks zero f = refl
  open_none marks (suc n) f =
      let e : is_unsigned (marks n) ≡ 0 = ap is_unsigned (f n (omega arith)).1 in
      let r : unsigned_in marks n ≡ 0 = open_none marks n (λ x l. f x (omega arith)) in
      omega arith

  -- with coherent signs: one look a facet of each cell
  pub looks-whole : looks_of d cs ≡ length cs * slots d
  looks-whole =
      let w = walked_on (length cs) (omega arith) in
      let o : 0 + unsigned_in w.marks (length cs) ≡ 0 = omega (arith, open_none w.marks (length cs) w.filled) in
      let p : w.made + 0 * slots d ≡ length cs * slots d = ap (λ (x : ℕ). w.made + x * slots d) (sym o) ∙ w.between.paid in
      ap looks_in w.same ∙ omega (arith, zero-mul (slots d))
