-- The visits numbered one after the other: births by first visit, one number for one point. Assumes nothing.
use mathlib.Core.Bool.{Bool, true, false, ◌||◌}
use mathlib.Core.Path.{◌≡◌, refl, sym, ap, ◌∙◌, subst}
use mathlib.Core.Logic.{◌⊎◌, inl, inr, ⊎_elim}
use mathlib.Core.List.{List, [], ◌∷◌, ◌++◌}
use Prim.Native.Nat.{ℕ, suc, ◌+◌, ◌*◌, ◌-◌, ◌≤◌, ◌<◌}
use native.Mathlib.Nat.{not-suc-le-zero, le_refl}
use native.Mathlib.Decide.{dec_lt, ℕ_discrete}
use native.Mathlib.Omega.{arith}
use native.Mathlib.Numerals.{add-one}
use lib.Dec.{T, eqb, eqb→eq, eqb_refl, ltb, ltb→lt, lt→ltb}
use lib.ListN.{length, get_or, set, take, drop, length-append, length-set, get_or-append}
use lib.Seq.{take-suc, take_all, get_or-set_same, get_or-set_other, get_or-append_seam}
use Rattle.lists.specs.Rows.{row}
use Rattle.sorting.proofs.Colex.{row-cell}
use Rattle.refine_lattice.specs.Children.{pick}
use Rattle.lists.specs.Words.{same_word, none}
use Rattle.refine_lattice.specs.Refine.{positives, first, place, births_from, number}
use Rattle.refine_lattice.proofs.Refines.{yes-pick, no-pick, dec-T, equal-eq, equal-refl}
use Rattle.refine_births.specs.Support.{Starts}
use Rattle.refine_births.specs.WorkNumbers.{Numbering, Told, Numbered}
use Rattle.refine_births.proofs.Points.{supporters-first, supporters-high, row-vertex}
use Rattle.refine_births.proofs.Seek.{eqb_yes, one-first}
use Rattle.refine_births.proofs.Visiting.{part-is-row}

-- ---- places in a list of points
pub place_found : (ms : List (List ℕ)) (l : List ℕ) → place ms l < length ms → get_or ms (place ms l) [] ≡ l
place_found [] l h = absurd (not-suc-le-zero h)
place_found (m ∷ ms) l h =
    elim (dec-T (same_word m l)) [
      | yes t ↦ ap (λ (i : ℕ). get_or (m ∷ ms) i []) (yes-pick (same_word m l) 0 (suc (place ms l)) t) ∙ equal-eq m l t
      | no t ↦
          let e : place (m ∷ ms) l ≡ suc (place ms l) = no-pick (same_word m l) 0 (suc (place ms l)) t in
          ap (λ (i : ℕ). get_or (m ∷ ms) i []) e ∙ place_found ms l (omega arith)
    ]

place_kept : (ms more : List (List ℕ)) (l : List ℕ) → place ms l < length ms → place (ms ++ more) l ≡ place ms l
place_kept [] more l h = absurd (not-suc-le-zero h)
place_kept (m ∷ ms) more l h =
    elim (dec-T (same_word m l)) [
      | yes t ↦ yes-pick (same_word m l) 0 (suc (place (ms ++ more) l)) t ∙ sym (yes-pick (same_word m l) 0 (suc (place ms l)) t)
      | no t ↦
          let e : place (m ∷ ms) l ≡ suc (place ms l) = no-pick (same_word m l) 0 (suc (place ms l)) t in
          no-pick (same_word m l) 0 (suc (place (ms ++ more) l)) t ∙ ap suc (place_kept ms more l (omega arith)) ∙ sym e
    ]

place-new : (ms : List (List ℕ)) (l : List ℕ) → length ms ≤ place ms l → place (ms ++ (l ∷ [])) l ≡ length ms
place-new [] l h = yes-pick (same_word l l) 0 1 (equal-refl l)
place-new (m ∷ ms) l h =
    elim (dec-T (same_word m l)) [
      | yes t ↦ absurd (omega (arith, yes-pick (same_word m l) 0 (suc (place ms l)) t))
      | no t ↦
          let e : place (m ∷ ms) l ≡ suc (place ms l) = no-pick (same_word m l) 0 (suc (place ms l)) t in
          no-pick (same_word m l) 0 (suc (place (ms ++ (l ∷ [])) l)) t ∙ ap suc (place-new ms l (omega arith))
    ]

-- ---- births, one visit more
abbrev pub enter : List (List ℕ) → List ℕ → List (List ℕ)
enter seen l = pick (eqb (positives l) 1 || ltb (place seen l) (length seen)) seen (seen ++ (l ∷ []))

births-snoc : (seen ls : List (List ℕ)) (l : List ℕ) → births_from seen (ls ++ (l ∷ [])) ≡ enter (births_from seen ls) l
births-snoc seen [] l = refl
births-snoc seen (x ∷ ls) l = births-snoc (enter seen x) ls l

pub births-more : (ls : List (List ℕ)) (x : ℕ) → x < length ls → births_from [] (take (x + 1) ls) ≡ enter (births_from [] (take x ls)) (get_or ls x [])
births-more ls x h = ap (births_from []) (ap (λ (i : ℕ). take i ls) (add-one x) ∙ take-suc ls x [] h) ∙ births-snoc [] (take x ls) (get_or ls x [])

or-pick : (p q : Bool) (x y : List (List ℕ)) → T p ⊎ T q → pick (p || q) x y ≡ x
or-pick true q x y h = refl
or-pick false true x y h = refl
or-pick false false x y h = ⊎_elim (λ t. absurd t) (λ t. absurd t) h

nor-pick : (p q : Bool) (x y : List (List ℕ)) → (T p → ⊥) → (T q → ⊥) → pick (p || q) x y ≡ y
nor-pick true q x y f g = absurd (f tt)
nor-pick false true x y f g = absurd (g tt)
nor-pick false false x y f g = refl

T-eqb : (m n : ℕ) → m ≡ n → T (eqb m n)
T-eqb m n e = subst (λ (y : ℕ). T (eqb m y)) e (eqb_refl m)

pub enter-old : (seen : List (List ℕ)) (l : List ℕ) → (positives l ≡ 1) ⊎ (place seen l < length seen) → enter seen l ≡ seen
enter-old seen l h =
    or-pick (eqb (positives l) 1) (ltb (place seen l) (length seen)) seen (seen ++ (l ∷ []))
    (⊎_elim (λ e. inl (T-eqb (positives l) 1 e)) (λ g. inr (lt→ltb (place seen l) (length seen) g)) h)

pub enter-new : (seen : List (List ℕ)) (l : List ℕ) → (positives l ≡ 1 → ⊥) → length seen ≤ place seen l → enter seen l ≡ seen ++ (l ∷ [])
enter-new seen l f g =
    nor-pick (eqb (positives l) 1) (ltb (place seen l) (length seen)) seen (seen ++ (l ∷ []))
    (λ t. f (eqb→eq (positives l) 1 t)) (λ t. omega (arith, ltb→lt (place seen l) (length seen) t))

number-one : (n : ℕ) (seen : List (List ℕ)) (l : List ℕ) → positives l ≡ 1 → number n seen l ≡ first l
number-one n seen l e = yes-pick (eqb (positives l) 1) (first l) (n + place seen l) (T-eqb (positives l) 1 e)

number-many : (n : ℕ) (seen : List (List ℕ)) (l : List ℕ) → (positives l ≡ 1 → ⊥) → number n seen l ≡ n + place seen l
number-many n seen l e = no-pick (eqb (positives l) 1) (first l) (n + place seen l) (λ t. e (eqb→eq (positives l) 1 t))

-- a number stays when a birth follows
number-kept : (n : ℕ) (seen more : List (List ℕ)) (l : List ℕ) → (positives l ≡ 1) ⊎ (place seen l < length seen) → number n (seen ++ more) l ≡ number n seen l
number-kept n seen more l h =
    elim (ℕ_discrete (positives l) 1) [
      | yes e ↦ number-one n (seen ++ more) l e ∙ sym (number-one n seen l e)
      | no e ↦
          number-many n (seen ++ more) l e
          ∙ ap (λ (i : ℕ). n + i) (⊎_elim (λ (q : positives l ≡ 1). absurd (e q)) (λ (g : place seen l < length seen). place_kept seen more l g) h)
          ∙ sym (number-many n seen l e)
    ]

first_below : (l : List ℕ) → positives l ≡ 1 → first l < length l
first_below l e = omega (arith, supporters-first 0 l 0 (omega arith), supporters-high 0 l 0 0 (omega arith))

number-below : (n : ℕ) (seen : List (List ℕ)) (l : List ℕ) → length l ≡ n → (positives l ≡ 1) ⊎ (place seen l < length seen) → number n seen l < n + length seen + 1
number-below n seen l s h =
    elim (ℕ_discrete (positives l) 1) [
      | yes e ↦ omega (arith, number-one n seen l e, first_below l e)
      | no e ↦ omega (arith, number-many n seen l e, ⊎_elim (λ (q : positives l ≡ 1). absurd (e q)) (λ (g : place seen l < length seen). g) h)
    ]

-- ---- the scan
-- the first x visits are numbered: the births so far are `seen`
pub record Scanned (n : ℕ) (points : List (List ℕ)) (classes : List ℕ) (seen : List (List ℕ)) (x count : ℕ) (numbers fresh corners : List ℕ) : Type 0 where
  pub many : length seen ≡ count
  pub below : (b : ℕ) → b < count → get_or fresh b 0 < x
  pub born : (b : ℕ) → b < count → get_or seen b [] ≡ get_or points (get_or fresh b 0) []
  pub done : (y : ℕ) → y < x → get_or corners y 0 ≡ number n seen (get_or points y [])
  pub kept : (y : ℕ) → y < x → get_or numbers (get_or classes y 0) 0 ≡ number n seen (get_or points y [])
  pub seen-in : (y : ℕ) → y < x → (positives (get_or points y []) ≡ 1) ⊎ (place seen (get_or points y []) < length seen)

pub scanned-none : (n : ℕ) (points : List (List ℕ)) (classes numbers fresh corners : List ℕ) → Scanned n points classes (births_from [] (take 0 points)) 0 0 numbers fresh corners
scanned-none n points classes numbers fresh corners =
    record {
      many = refl;
      below = λ b h. absurd (not-suc-le-zero h);
      born = λ b h. absurd (not-suc-le-zero h);
      done = λ y h. absurd (not-suc-le-zero h);
      kept = λ y h. absurd (not-suc-le-zero h);
      seen-in = λ y h. absurd (not-suc-le-zero h);
    }

module _ (n : ℕ) (points : List (List ℕ)) (classes : List ℕ) (seen : List (List ℕ)) (x count : ℕ) (numbers fresh corners : List ℕ) (s : Scanned n points classes seen x count numbers fresh corners) (hx : x < length corners) where
  -- a point that was visited before
  pub scanned-old : (y u : ℕ) → y < x → get_or points y [] ≡ get_or points x [] → get_or classes y 0 ≡ get_or classes x 0 → u ≡ get_or numbers (get_or classes x 0) 0
      → Scanned n points classes seen (x + 1) count numbers fresh (set corners x u)
  scanned-old y u l e c q =
      let here : get_or numbers (get_or classes x 0) 0 ≡ number n seen (get_or points x []) =
      ap (λ (i : ℕ). get_or numbers i 0) (sym c) ∙ s.kept y l ∙ ap (number n seen) e in
      record {
        many = s.many;
        below = λ b h. omega (arith, s.below b h);
        born = s.born;
        done =
            λ z h.
            elim (ℕ_discrete z x) [
              | yes t ↦ rw t (get_or-set_same corners x u 0 hx ∙ q ∙ here)
              | no t ↦ get_or-set_other corners x z u 0 t ∙ s.done z (omega arith)
            ];
        kept = λ z h. elim (ℕ_discrete z x) [ yes t ↦ rw t here | no t ↦ s.kept z (omega arith) ];
        seen-in =
            λ z h.
            elim (ℕ_discrete z x) [
              | yes t ↦ subst (λ (p : List ℕ). (positives p ≡ 1) ⊎ (place seen p < length seen)) (e ∙ ap (λ (i : ℕ). get_or points i []) (sym t)) (s.seen-in y l)
              | no t ↦ s.seen-in z (omega arith)
            ];
      }

  module _ (one : (y : ℕ) → y < x → get_or classes y 0 ≡ get_or classes x 0 → get_or points y [] ≡ get_or points x []) (hc : get_or classes x 0 < length numbers) where
    -- the same class is the same point
    twin : (z : ℕ) → z < x + 1 → get_or classes z 0 ≡ get_or classes x 0 → get_or points x [] ≡ get_or points z []
    twin z h q = elim (ℕ_discrete z x) [ yes t ↦ ap (λ (i : ℕ). get_or points i []) (sym t) | no t ↦ sym (one z (omega arith) q) ]

    -- a coarse vertex that is visited first
    pub scanned-lone : (v : ℕ) → positives (get_or points x []) ≡ 1 → v ≡ first (get_or points x [])
        → Scanned n points classes seen (x + 1) count (set numbers (get_or classes x 0) v) fresh (set corners x v)
    scanned-lone v e f =
        let here : v ≡ number n seen (get_or points x []) = f ∙ sym (number-one n seen (get_or points x []) e) in
        record {
          many = s.many;
          below = λ b h. omega (arith, s.below b h);
          born = s.born;
          done =
              λ z h.
              elim (ℕ_discrete z x) [
                | yes t ↦ rw t (get_or-set_same corners x v 0 hx ∙ here)
                | no t ↦ get_or-set_other corners x z v 0 t ∙ s.done z (omega arith)
              ];
          kept =
              λ z h.
              elim (ℕ_discrete (get_or classes z 0) (get_or classes x 0)) [
                | yes q ↦
                    ap (λ (i : ℕ). get_or (set numbers (get_or classes x 0) v) i 0) q
                    ∙ get_or-set_same numbers (get_or classes x 0) v 0 hc
                    ∙ here
                    ∙ ap (number n seen) (twin z h q)
                | no q ↦
                    get_or-set_other numbers (get_or classes x 0) (get_or classes z 0) v 0 q
                    ∙ s.kept z (elim (ℕ_discrete z x) [ yes t ↦ absurd (q (ap (λ (i : ℕ). get_or classes i 0) t)) | no t ↦ omega arith ])
              ];
          seen-in =
              λ z h.
              elim (ℕ_discrete z x) [
                | yes t ↦ inl (ap (λ (i : ℕ). positives (get_or points i [])) t ∙ e)
                | no t ↦ s.seen-in z (omega arith)
              ];
        }

    -- a birth
    pub scanned-born : (v : ℕ) → (positives (get_or points x []) ≡ 1 → ⊥) → length seen ≤ place seen (get_or points x []) → v ≡ n + count → count < length fresh
        → Scanned n points classes (seen ++ (get_or points x [] ∷ [])) (x + 1) (count + 1) (set numbers (get_or classes x 0) v) (set fresh count x) (set corners x v)
    scanned-born v ne out f hf =
        let here : v ≡ number n (seen ++ (get_or points x [] ∷ [])) (get_or points x []) =
        f ∙ sym (number-many n (seen ++ (get_or points x [] ∷ [])) (get_or points x []) ne ∙ ap (λ (i : ℕ). n + i) (place-new seen (get_or points x []) out ∙ s.many)) in
        let long : length (seen ++ (get_or points x [] ∷ [])) ≡ count + 1 = length-append seen (get_or points x [] ∷ []) ∙ ap (λ (i : ℕ). i + 1) s.many in
        record {
          many = long;
          below =
              λ b h.
              elim (ℕ_discrete b count) [
                | yes t ↦ rw (t, get_or-set_same fresh count x 0 hf) (omega arith)
                | no t ↦ rw (get_or-set_other fresh count b x 0 t) (omega (arith, s.below b (omega arith)))
              ];
          born =
              λ b h.
              elim (ℕ_discrete b count) [
                | yes t ↦ rw (t, get_or-set_same fresh count x 0 hf) (ap (λ (i : ℕ). get_or (seen ++ (get_or points x [] ∷ [])) i []) (sym s.many) ∙ get_or-append_seam seen (get_or points x []) [] [])
                | no t ↦
                    rw (get_or-set_other fresh count b x 0 t)
                    (get_or-append seen (get_or points x [] ∷ []) [] b (omega (arith, s.many)) ∙ s.born b (omega arith))
              ];
          done =
              λ z h.
              elim (ℕ_discrete z x) [
                | yes t ↦ rw t (get_or-set_same corners x v 0 hx ∙ here)
                | no t ↦
                    get_or-set_other corners x z v 0 t
                    ∙ s.done z (omega arith)
                    ∙ sym (number-kept n seen (get_or points x [] ∷ []) (get_or points z []) (s.seen-in z (omega arith)))
              ];
          kept =
              λ z h.
              elim (ℕ_discrete (get_or classes z 0) (get_or classes x 0)) [
                | yes q ↦
                    ap (λ (i : ℕ). get_or (set numbers (get_or classes x 0) v) i 0) q
                    ∙ get_or-set_same numbers (get_or classes x 0) v 0 hc
                    ∙ here
                    ∙ ap (number n (seen ++ (get_or points x [] ∷ []))) (twin z h q)
                | no q ↦
                    let l : z < x = elim (ℕ_discrete z x) [ yes t ↦ absurd (q (ap (λ (i : ℕ). get_or classes i 0) t)) | no t ↦ omega arith ] in
                    get_or-set_other numbers (get_or classes x 0) (get_or classes z 0) v 0 q
                    ∙ s.kept z l
                    ∙ sym (number-kept n seen (get_or points x [] ∷ []) (get_or points z []) (s.seen-in z l))
              ];
          seen-in =
              λ z h.
              elim (ℕ_discrete z x) [
                | yes t ↦ inr (rw (t, place-new seen (get_or points x []) out) (omega (arith, long, s.many)))
                | no t ↦
                    ⊎_elim inl
                    (λ (g : place seen (get_or points z []) < length seen). inr (omega (arith, place_kept seen (get_or points x [] ∷ []) (get_or points z []) g, long, s.many)))
                    (s.seen-in z (omega arith))
              ];
        }

-- ---- the lists of the scan
pub record Scanning (total : ℕ) (numbers₀ fresh₀ classes : List ℕ) (x count : ℕ) (numbers fresh corners : List ℕ) : Type 0 where
  pub most-x : x ≤ total
  pub most : count ≤ x
  pub numbers-long : length numbers ≡ length numbers₀
  pub fresh_long : length fresh ≡ length fresh₀
  pub corners_long : length corners ≡ length classes
  pub rest : (y : ℕ) → x ≤ y → get_or corners y 0 ≡ get_or classes y 0
  pub met : (c : ℕ) → c < length numbers₀ → (get_or numbers c 0 ≡ none → ⊥) → (y : ℕ) × (y < x) × (get_or classes y 0 ≡ c)

pub scanning-none : (size n total : ℕ) (keys numbers fresh classes : List ℕ) → Numbering size n total keys numbers fresh classes → Scanning total numbers fresh classes 0 0 numbers fresh classes
scanning-none size n total keys numbers fresh classes q =
    record {
      most-x = omega arith;
      most = omega arith;
      numbers-long = refl;
      fresh_long = refl;
      corners_long = refl;
      rest = λ y h. refl;
      met = λ c h g. absurd (g (q.blank c h));
    }

module _ (total : ℕ) (numbers₀ fresh₀ classes : List ℕ) (x count : ℕ) (numbers fresh corners : List ℕ) (s : Scanning total numbers₀ fresh₀ classes x count numbers fresh corners) (h : x < total) where
  rest_more : (v y : ℕ) → x + 1 ≤ y → get_or (set corners x v) y 0 ≡ get_or classes y 0
  rest_more v y g = get_or-set_other corners x y v 0 (λ e. omega arith) ∙ s.rest y (omega arith)

  met-more : (w v : ℕ) → w ≡ get_or classes x 0 → (c : ℕ) → c < length numbers₀ → (get_or (set numbers w v) c 0 ≡ none → ⊥) → (y : ℕ) × (y < x + 1) × (get_or classes y 0 ≡ c)
  met-more w v e c l g =
      elim (ℕ_discrete c w) [
        | yes t ↦ (x, omega arith, sym (t ∙ e))
        | no t ↦ let (y, a, b) = s.met c l (λ q. g (get_or-set_other numbers w c v 0 t ∙ q)) in (y, omega arith, b)
      ]

  pub scanning-old : (u : ℕ) → Scanning total numbers₀ fresh₀ classes (x + 1) count numbers fresh (set corners x u)
  scanning-old u =
      record {
        most-x = omega arith;
        most = omega (arith, s.most);
        numbers-long = s.numbers-long;
        fresh_long = s.fresh_long;
        corners_long = simp length-set s.corners_long;
        rest = rest_more u;
        met = λ c l g. let (y, a, b) = s.met c l g in (y, omega arith, b);
      }

  pub scanning-lone : (w v : ℕ) → w ≡ get_or classes x 0 → Scanning total numbers₀ fresh₀ classes (x + 1) count (set numbers w v) fresh (set corners x v)
  scanning-lone w v e =
      record {
        most-x = omega arith;
        most = omega (arith, s.most);
        numbers-long = simp length-set s.numbers-long;
        fresh_long = s.fresh_long;
        corners_long = simp length-set s.corners_long;
        rest = rest_more v;
        met = met-more w v e;
      }

  pub scanning-born : (w v : ℕ) → w ≡ get_or classes x 0 → Scanning total numbers₀ fresh₀ classes (x + 1) (count + 1) (set numbers w v) (set fresh count x) (set corners x v)
  scanning-born w v e =
      record {
        most-x = omega arith;
        most = omega (arith, s.most);
        numbers-long = simp length-set s.numbers-long;
        fresh_long = simp length-set s.fresh_long;
        corners_long = simp length-set s.corners_long;
        rest = rest_more v;
        met = met-more w v e;
      }

-- ---- a visit of a point
-- the births of the first x visits
abbrev pub seen_by : List (List ℕ) → ℕ → List (List ℕ)
seen_by points x = births_from [] (take x points)

module _ (size n total : ℕ) (keys numbers₀ fresh₀ classes : List ℕ) (q : Numbering size n total keys numbers₀ fresh₀ classes) (x count : ℕ) (numbers fresh corners : List ℕ)
    (s : Scanning total numbers₀ fresh₀ classes x count numbers fresh corners) (h : x < total) (w : ℕ) (ew : w ≡ get_or corners x 0) where
  pub the_class : w ≡ get_or classes x 0
  the_class = ew ∙ s.rest x (le_refl x)

  pub class-below : w < length numbers
  class-below = rw (the_class, s.numbers-long) (q.below x h)

  pub in-corners : x < length corners
  in-corners = omega (arith, s.corners_long, q.long)

  module _ (points : List (List ℕ)) (t : Told size n total points keys classes) (g : Scanned n points classes (seen_by points x) x count numbers fresh corners) where
    in-points : x < length points
    in-points = omega (arith, t.long)

    -- a class that was met
    pub old-point : (get_or numbers w 0 ≡ none → ⊥) → Scanned n points classes (seen_by points (x + 1)) (x + 1) count numbers fresh (set corners x (get_or numbers w 0))
    old-point f =
        let (y, l, e) = s.met w (omega (arith, class-below, s.numbers-long)) f in
        let c : get_or classes y 0 ≡ get_or classes x 0 = e ∙ the_class in
        let p : get_or points y [] ≡ get_or points x [] = t.one y x (omega arith) h c in
        subst (λ (seen : List (List ℕ)). Scanned n points classes seen (x + 1) count numbers fresh (set corners x (get_or numbers w 0)))
        (sym (births-more points x in-points
        ∙ enter-old (seen_by points x) (get_or points x []) (subst (λ (a : List ℕ). (positives a ≡ 1) ⊎ (place (seen_by points x) a < length (seen_by points x))) p (g.seen-in y l))))
        (scanned-old n points classes (seen_by points x) x count numbers fresh corners g in-corners y (get_or numbers w 0) l p c (ap (λ (i : ℕ). get_or numbers i 0) the_class))

    -- a class that was not met
    module _ (f : get_or numbers w 0 ≡ none) where
      unmet : (y : ℕ) → y < x → get_or classes y 0 ≡ get_or classes x 0 → ⊥
      unmet y l e =
          omega (
            arith,
            number-below n (seen_by points x) (get_or points y []) (t.sized y (omega arith)) (g.seen-in y l),
            g.kept y l,
            ap (λ (i : ℕ). get_or numbers i 0) (e ∙ sym the_class),
            g.many,
            s.most,
            q.few,
          )

      starts : Starts (row keys (size + size) x) size n (get_or points x [])
      starts j k = ap (λ (r : List ℕ). get_or r j 0) (t.rows x h) ∙ row-vertex size n (get_or points x []) j k

      lone-vertex : positives (get_or points x []) ≡ 1 → get_or keys (x * (size + size)) 0 ≡ first (get_or points x [])
      lone-vertex e =
          let z : x * (size + size) ≡ x * (size + size) + 0 = omega arith in
          ap (λ (i : ℕ). get_or keys i 0) z
          ∙ sym (row-cell keys (size + size) x 0 (omega (arith, q.some)))
          ∙ one-first size n (row keys (size + size) x) (get_or points x []) q.some (t.sized x h) (t.fits x h) starts (omega arith)

      pub lone-point : positives (get_or points x []) ≡ 1
          → Scanned n points classes (seen_by points (x + 1)) (x + 1) count (set numbers w (get_or keys (x * (size + size)) 0)) fresh (set corners x (get_or keys (x * (size + size)) 0))
      lone-point e =
          subst (λ (seen : List (List ℕ)). Scanned n points classes seen (x + 1) count (set numbers w (get_or keys (x * (size + size)) 0)) fresh (set corners x (get_or keys (x * (size + size)) 0)))
          (sym (births-more points x in-points ∙ enter-old (seen_by points x) (get_or points x []) (inl e)))
          (subst (λ (i : ℕ). Scanned n points classes (seen_by points x) (x + 1) count (set numbers i (get_or keys (x * (size + size)) 0)) fresh (set corners x (get_or keys (x * (size + size)) 0))) (sym the_class)
          (scanned-lone n points classes (seen_by points x) x count numbers fresh corners g in-corners (λ y l c. absurd (unmet y l c)) (rw (sym the_class) class-below) (get_or keys (x * (size + size)) 0) e (lone-vertex e)))

      unseen : (positives (get_or points x []) ≡ 1 → ⊥) → length (seen_by points x) ≤ place (seen_by points x) (get_or points x [])
      unseen ne =
          elim (dec_lt (place (seen_by points x) (get_or points x [])) (length (seen_by points x))) [
            | yes k ↦
                let b : ℕ = place (seen_by points x) (get_or points x []) in
                let l : b < count = omega (arith, g.many) in
                let e : get_or points (get_or fresh b 0) [] ≡ get_or points x [] = sym (g.born b l) ∙ place_found (seen_by points x) (get_or points x []) k in
                absurd (unmet (get_or fresh b 0) (g.below b l) (t.apart (get_or fresh b 0) x (omega (arith, g.below b l)) h e))
            | no k ↦ omega arith
          ]

      pub born-point : (positives (get_or points x []) ≡ 1 → ⊥)
          → Scanned n points classes (seen_by points (x + 1)) (x + 1) (count + 1) (set numbers w (n + count)) (set fresh count x) (set corners x (n + count))
      born-point ne =
          subst (λ (seen : List (List ℕ)). Scanned n points classes seen (x + 1) (count + 1) (set numbers w (n + count)) (set fresh count x) (set corners x (n + count)))
          (sym (births-more points x in-points ∙ enter-new (seen_by points x) (get_or points x []) ne (unseen ne)))
          (subst (λ (i : ℕ). Scanned n points classes (seen_by points x ++ (get_or points x [] ∷ [])) (x + 1) (count + 1) (set numbers i (n + count)) (set fresh count x) (set corners x (n + count))) (sym the_class)
          (scanned-born n points classes (seen_by points x) x count numbers fresh corners g in-corners (λ y l c. absurd (unmet y l c)) (rw (sym the_class) class-below) (n + count) ne (unseen ne) refl (omega (arith, s.most, s.fresh_long, q.fresh_long))))

-- the scan at its end
pub scanned-done : (size n total : ℕ) (keys classes : List ℕ) (points : List (List ℕ)) → Told size n total points keys classes → (x count : ℕ) (numbers fresh corners : List ℕ) → x ≡ total
    → Scanned n points classes (seen_by points x) x count numbers fresh corners → Numbered n points count fresh corners
scanned-done size n total keys classes points t x count numbers fresh corners e g =
    let a : seen_by points x ≡ births_from [] points = ap (births_from []) (take_all x points (omega (arith, t.long))) in
    record {
      many = sym (sym (ap length a) ∙ g.many);
      below = λ b h. omega (arith, g.below b h, t.long);
      born = λ b h. ap (λ (l : List (List ℕ)). get_or l b []) (sym a) ∙ g.born b h;
      done = λ y h. g.done y (omega (arith, t.long)) ∙ ap (λ (l : List (List ℕ)). number n l (get_or points y [])) a;
    }

-- what the test of a row says of its point
module _ (size n total : ℕ) (keys classes : List ℕ) (points : List (List ℕ)) (t : Told size n total points keys classes) (x : ℕ) (h : x < total) (lone : Bool)
    (says : (l : List ℕ) → length l ≡ n → positives l ≤ size → Starts (take (x * (size + size) + (size + size) - x * (size + size)) (drop (x * (size + size)) keys)) size n l → lone ≡ eqb (positives l) 1) where
  tells : lone ≡ eqb (positives (get_or points x [])) 1
  tells =
      says (get_or points x []) (t.sized x h) (t.fits x h)
      (λ j k. ap (λ (r : List ℕ). get_or r j 0) (part-is-row keys x (size + size) ∙ t.rows x h) ∙ row-vertex size n (get_or points x []) j k)

  pub is-lone : lone ≡ true → positives (get_or points x []) ≡ 1
  is-lone e = eqb→eq (positives (get_or points x [])) 1 (subst T (sym e ∙ tells) tt)

  pub not-lone : lone ≡ false → positives (get_or points x []) ≡ 1 → ⊥
  not-lone f e = let g : false ≡ true = sym f ∙ tells ∙ eqb_yes (positives (get_or points x [])) 1 e in let z : ◌≡◌ {A = ℕ} 0 1 = cc in omega arith
