-- One part of the bytes at a place: read, or refused. Assumes nothing.
use Rattle.refusal.specs.declared.Refusal.TheVariants.{FileEnds, UnknownKind, BadFile}
use Rattle.refusal.specs.declared.Refusal.{Refusal}
use Rattle.std.specs.Prelude.{Ok, Err}
use mathlib.Core.Path.{◌≡◌, refl, sym, ap, ◌∙◌}
use mathlib.Core.Bool.{Bool, true, false, ◌&&◌}
use mathlib.Core.List.{List, [], ◌∷◌, ◌++◌}
use Prim.Native.Nat.{ℕ, zero, suc, ◌+◌, ◌*◌, ◌-◌, ◌≤◌, ◌<◌, max}
use native.Mathlib.Nat.{suc-mul}
use native.Mathlib.Omega.{arith}
use lib.ListN.{length, take, drop, length-drop, length-append}
use lib.Seq.{drop-drop, take_all, take_at, length-take-le}
use lib.Dec.{leb, ltb}
use borrow.Author.Tests.{ltb-true, ltb-false, lt-ltb, le-ltb, le-leb, lt-leb, eq-eqb, ne_eqb}
use Rattle.refusal.specs.Limits.{most_dimension}
use Rattle.multiindex.specs.Sort.{sort_word}
use Rattle.complex.specs.Cells.{comes_before}
use Rattle.file_bytes.specs.Bytes.{said, fours_of}
use Rattle.file_bytes.proofs.Laws.{fours_of-length}
use Rattle.file_mesh.specs.Mesh.{past}
use Rattle.file_mesh.specs.Rules.{follows}
use Rattle.file_mesh.specs.Read.{Part, no, got, and_then, asked, number, field, numbers, Opening, opening_from, header_from, word_from}
use Rattle.file_mesh.proofs.Parts.{refused-not, same-part, then-inv, cond-inv, asked-inv}
use Rattle.file_mesh_read.specs.declared.Opened.{Opened}
use Rattle.file_mesh_read.specs.Work.{opened_of, word_before}

module _ (bs : List ℕ) (at k : ℕ) where
  pub number-ends : length bs - at < k → number k (drop at bs) ≡ no FileEnds
  unfolding number
  number-ends h = rw (lt-ltb (length (drop at bs)) k (omega (arith, length-drop at bs)))

  pub number-got : at ≤ length bs → k ≤ length bs - at → number k (drop at bs) ≡ got (said (take k (drop at bs))) (drop (at + k) bs)
  unfolding number
  number-got a h = rw (le-ltb (length (drop at bs)) k (omega (arith, length-drop at bs)), drop-drop k at bs)

  pub number-inv : (n : ℕ) (r : List ℕ) → number k (drop at bs) ≡ got n r → (k ≤ length bs - at) × (r ≡ drop (at + k) bs)
  unfolding number
  number-inv n r e = go (ltb (length (drop at bs)) k) refl
    where
      go : (t : Bool) → ltb (length (drop at bs)) k ≡ t → (k ≤ length bs - at) × (r ≡ drop (at + k) bs)
      go true q = absurd (refused-not (rw q at e))
      go false q =
          let s = same-part (rw q at e) in
          (omega (arith, ltb-false (length (drop at bs)) k q, length-drop at bs), sym s.1 ∙ drop-drop k at bs)

-- ---- the opening

module _ (bs : List ℕ) (at : ℕ) (a : at ≤ length bs) where
  pub open-ends : length bs - at < 4 → opening_from (drop at bs) ≡ no FileEnds
  unfolding opening_from field and_then
  open-ends h = rw (number-ends bs at 4 h)

  module _ (l : 4 ≤ length bs - at) (len : ℕ) (el : len ≡ said (take 4 (drop at bs))) where
    pub open-small : len < 2 → opening_from (drop at bs) ≡ no BadFile
    unfolding opening_from field and_then asked
    open-small h = rw (number-got bs at 4 a l, lt-leb 2 (said (take 4 (drop at bs))) (omega arith))

    module _ (h : 2 ≤ len) where
      pub open-cut : length bs - at < 6 → opening_from (drop at bs) ≡ no FileEnds
      unfolding opening_from field and_then asked
      open-cut s = rw (number-got bs at 4 a l, le-leb 2 (said (take 4 (drop at bs))) (omega arith), number-ends bs (at + 4) 2 (omega arith))

      module _ (s : 6 ≤ length bs - at) (kind : ℕ) (ek : kind ≡ said (take 2 (drop (at + 4) bs))) where
        pub open-zero : kind ≡ 0 → opening_from (drop at bs) ≡ no UnknownKind
        unfolding opening_from field and_then asked
        open-zero k =
            rw (number-got bs at 4 a l, le-leb 2 (said (take 4 (drop at bs))) (omega arith), number-got bs (at + 4) 2 (omega arith) (omega arith), lt-leb 1 (said (take 2 (drop (at + 4) bs))) (omega arith))

        pub open-high : (kind ≡ 0 → ⊥) → 4 < kind → opening_from (drop at bs) ≡ no UnknownKind
        unfolding opening_from field and_then asked
        open-high z k =
            rw (
              number-got bs at 4 a l,
              le-leb 2 (said (take 4 (drop at bs))) (omega arith),
              number-got bs (at + 4) 2 (omega arith) (omega arith),
              le-leb 1 (said (take 2 (drop (at + 4) bs))) (omega arith),
              lt-leb (said (take 2 (drop (at + 4) bs))) 4 (omega arith),
            )

        pub open-got : (kind ≡ 0 → ⊥) → kind ≤ 4 → opening_from (drop at bs) ≡ got (record { len = len; kind = kind }) (drop (at + 6) bs)
        unfolding opening_from field and_then asked
        open-got z k =
            let q : at + 4 + 2 ≡ at + 6 = omega arith in
            rw (
              el,
              ek,
              number-got bs at 4 a l,
              le-leb 2 (said (take 4 (drop at bs))) (omega arith),
              number-got bs (at + 4) 2 (omega arith) (omega arith),
              le-leb 1 (said (take 2 (drop (at + 4) bs))) (omega arith),
              le-leb (said (take 2 (drop (at + 4) bs))) 4 (omega arith),
              q,
            )

-- what an opening's answer tells
pub opened-no : (p : Part Opening) (why : Refusal) → Err why ≡ opened_of p → p ≡ no why
opened-no (no other) why e = cc
opened-no (got o r) why e = cc

opened-of : (p : Part Opening) (o : Opened) → Ok o ≡ opened_of p → (r : List ℕ) × (p ≡ got (record { len = o.len; kind = o.kind }) r)
opened-of (no why) o e = cc
opened-of (got x r) o e =
    let q : record { len = x.len; kind = x.kind } ≡ o = cc in
    (r, ap (λ (y : Opened). got (record { len = y.len; kind = y.kind }) r) q)

pub opening-rest : (bs : List ℕ) (at : ℕ) (o : Opening) (r : List ℕ) → opening_from (drop at bs) ≡ got o r → (6 ≤ length bs - at) × (r ≡ drop (at + 6) bs)
unfolding opening_from field
opening-rest bs at o r e =
    let i = then-inv (and_then (number 4 (drop at bs)) (λ n t. asked (leb 2 n) (got n t))) _ o r e in
    let j = then-inv (number 4 (drop at bs)) _ i.x i.r i.part in
    let f = number-inv bs at 4 j.x j.r j.part in
    let g = same-part (asked-inv (leb 2 j.x) (got j.x j.r) i.x i.r j.next).1 in
    let q : i.r ≡ drop (at + 4) bs = sym g.1 ∙ f.1 in
    let k = then-inv (number 2 i.r) _ o r i.next in
    let h = number-inv bs (at + 4) 2 k.x k.r (ap (number 2) (sym q) ∙ k.part) in
    let c = same-part (cond-inv (leb 1 k.x && leb k.x 4) UnknownKind (got (record { len = i.x; kind = k.x }) k.r) o r k.next).1 in
    (omega (arith, f.0, h.0), sym c.1 ∙ h.1 ∙ ap (λ (n : ℕ). drop n bs) {x = at + 4 + 2} {y = at + 6} (omega arith))

pub record OpenedAt (bs : List ℕ) (at l k : ℕ) : Type 0 where
  pub inside : 6 ≤ length bs - at
  pub is : opening_from (drop at bs) ≡ got (record { len = l; kind = k }) (drop (at + 6) bs)

pub opened-at : (bs : List ℕ) (at : ℕ) (o : Opened) → Ok o ≡ opened_of (opening_from (drop at bs)) → OpenedAt bs at o.len o.kind
opened-at bs at o e =
    let p = opened-of (opening_from (drop at bs)) o e in
    let q = opening-rest bs at (record { len = o.len; kind = o.kind }) p.0 p.1 in
    record { inside = q.0; is = p.1 ∙ ap (λ (r : List ℕ). got (record { len = o.len; kind = o.kind }) r) q.1 }

-- ---- the header

module _ (bs : List ℕ) where
  pub header-no : (why : Refusal) → opening_from (drop 0 bs) ≡ no why → header_from bs ≡ no why
  unfolding header_from and_then
  header-no why e = rw e

  module _ (l k : ℕ) (o : OpenedAt bs 0 l k) where
    pub header-kind : (k ≡ 1 → ⊥) → header_from bs ≡ no BadFile
    unfolding header_from and_then asked
    header-kind f = rw (o.is, ne_eqb k 1 f)

    pub header-len : k ≡ 1 → (l ≡ 6 → ⊥) → header_from bs ≡ no BadFile
    unfolding header_from and_then asked
    header-len e f = rw (o.is, eq-eqb k 1 e, ne_eqb l 6 f)

    pub header-ends : k ≡ 1 → l ≡ 6 → length bs < 10 → header_from bs ≡ no FileEnds
    unfolding header_from and_then asked
    header-ends e f h = go (ltb (length bs) 8) refl
      where
        go : (t : Bool) → ltb (length bs) 8 ≡ t → header_from bs ≡ no FileEnds
        go true q = rw (o.is, eq-eqb k 1 e, eq-eqb l 6 f, number-ends bs 6 2 (omega (arith, ltb-true (length bs) 8 q)))
        go false q =
            let g : 8 ≤ length bs = ltb-false (length bs) 8 q in
            rw (o.is, eq-eqb k 1 e, eq-eqb l 6 f, number-got bs 6 2 (omega arith) (omega arith), number-ends bs 8 2 (omega arith))

    pub header-got : k ≡ 1 → l ≡ 6 → 10 ≤ length bs → (d c : ℕ) → d ≡ said (take 2 (drop 6 bs)) → c ≡ said (take 2 (drop 8 bs)) → header_from bs ≡ got (record { d = d; count = c }) (drop 10 bs)
    unfolding header_from and_then asked
    header-got e f h d c ed ec = rw (ed, ec, o.is, eq-eqb k 1 e, eq-eqb l 6 f, number-got bs 6 2 (omega arith) (omega arith), number-got bs 8 2 (omega arith) (omega arith))

-- ---- a word

module _ (d : ℕ) (before bs : List ℕ) (at : ℕ) where
  pub word-no : (why : Refusal) → opening_from (drop at bs) ≡ no why → word_from d before (drop at bs) ≡ no why
  unfolding word_from and_then
  word-no why e = rw e

  module _ (l k : ℕ) (o : OpenedAt bs at l k) where
    pub word-kind : (k ≡ 2 → ⊥) → word_from d before (drop at bs) ≡ no BadFile
    unfolding word_from and_then asked
    word-kind f = rw (o.is, ne_eqb k 2 f)

    module _ (e : k ≡ 2) where
      pub word_len : (l ≡ 2 + (d + 1) * 4 → ⊥) → word_from d before (drop at bs) ≡ no BadFile
      unfolding word_from and_then asked
      word_len f = rw (o.is, eq-eqb k 2 e, ne_eqb l (2 + (d + 1) * 4) f)

      module _ (f : l ≡ 2 + (d + 1) * 4) where
        pub word-ends : length bs - at < 6 + (d + 1) * 4 → word_from d before (drop at bs) ≡ no FileEnds
        unfolding word_from and_then asked numbers
        word-ends h = rw (o.is, eq-eqb k 2 e, eq-eqb l (2 + (d + 1) * 4) f, lt-ltb (length (drop (at + 6) bs)) ((d + 1) * 4) (omega (arith, length-drop (at + 6) bs, o.inside)))

        module _ (h : 6 + (d + 1) * 4 ≤ length bs - at) where
          word-asked : word_from d before (drop at bs) ≡ asked (follows d before (fours_of (d + 1) (drop (at + 6) bs))) (got (fours_of (d + 1) (drop (at + 6) bs)) (drop (at + (6 + (d + 1) * 4)) bs))
          unfolding word_from and_then asked numbers
          word-asked =
              let q : at + 6 + (d + 1) * 4 ≡ at + (6 + (d + 1) * 4) = omega arith in
              rw (o.is, eq-eqb k 2 e, eq-eqb l (2 + (d + 1) * 4) f, le-ltb (length (drop (at + 6) bs)) ((d + 1) * 4) (omega (arith, length-drop (at + 6) bs, o.inside)), drop-drop ((d + 1) * 4) (at + 6) bs, q)

          pub word_got : follows d before (fours_of (d + 1) (drop (at + 6) bs)) ≡ true → word_from d before (drop at bs) ≡ got (fours_of (d + 1) (drop (at + 6) bs)) (drop (at + (6 + (d + 1) * 4)) bs)
          unfolding asked
          word_got t = word-asked ∙ rw t

          pub word-bad : follows d before (fours_of (d + 1) (drop (at + 6) bs)) ≡ false → word_from d before (drop at bs) ≡ no BadFile
          unfolding asked
          word-bad t = word-asked ∙ rw t

pub follows-none : (d : ℕ) (w : List ℕ) → follows d [] w ≡ true
unfolding follows
follows-none d w = refl

pub follows-high : (d : ℕ) (v w : List ℕ) → 3 < d → follows d v w ≡ true
unfolding follows
follows-high d [] w h = refl
follows-high d (x ∷ v) w h = rw (lt-ltb 3 d h)

pub follows-cell : (d : ℕ) (v w : List ℕ) → d ≤ most_dimension → length v ≡ d + 1 → follows d v w ≡ comes_before (d + 1) (sort_word v) (sort_word w)
unfolding follows
follows-cell d [] w h e = absurd (omega arith)
follows-cell d (x ∷ v) w h e = rw (le-ltb 3 d h)

-- ---- the word before

pub before-none : (d k at : ℕ) (bs : List ℕ) → k ≡ 0 → word_before d k at bs ≡ []
before-none d k at bs e = rw e

pub before-some : (d k at : ℕ) (bs : List ℕ) → (k ≡ 0 → ⊥) → word_before d k at bs ≡ fours_of (d + 1) (drop (at - (d + 1) * 4) bs)
before-some d zero at bs f = absurd (f refl)
before-some d (suc k) at bs f = refl

pub before-room : (k n at : ℕ) → (k ≡ 0 → ⊥) → k * n ≤ at → n ≤ at
before-room zero n at f h = absurd (f refl)
before-room (suc k) n at f h = omega (arith, suc-mul k n)

-- whether a word may follow the word before it
module _ (d k at : ℕ) (bs : List ℕ) where
  abbrev w : List ℕ
  w = fours_of (d + 1) (drop (at + 6) bs)

  pub fits-first : k ≡ 0 → follows d (word_before d k at bs) w ≡ true
  fits-first e = ap (λ (v : List ℕ). follows d v w) (before-none d k at bs e) ∙ follows-none d w

  pub fits-high : 3 < d → follows d (word_before d k at bs) w ≡ true
  fits-high h = follows-high d (word_before d k at bs) w h

  pub fits-cell : (k ≡ 0 → ⊥) → d ≤ most_dimension → follows d (word_before d k at bs) w ≡ comes_before (d + 1) (sort_word (fours_of (d + 1) (drop (at - (d + 1) * 4) bs))) (sort_word w)
  fits-cell f h =
      ap (λ (v : List ℕ). follows d v w) (before-some d k at bs f)
      ∙ follows-cell d (fours_of (d + 1) (drop (at - (d + 1) * 4) bs)) w h (fours_of-length (d + 1) (drop (at - (d + 1) * 4) bs))

-- ---- numbers read to the front of an array

module _ (bs zeros ys : List ℕ) (v n : ℕ) (h : n ≤ length zeros) where
  pub front_long : n ≡ length (take n zeros)
  front_long = sym (length-take-le n zeros h)

  pub tail-fits : v + n * 4 ≤ length bs → length (take n zeros) * 4 ≤ length (take (length bs - v) (drop v bs))
  tail-fits r = omega (arith, front_long, length-take-le (length bs - v) (drop v bs) (omega (arith, length-drop v bs)))

  module _ (e : ys ≡ fours_of (length (take n zeros)) (take (length bs - v) (drop v bs))) where
    came : ys ≡ fours_of n (drop v bs)
    came =
        e ∙ ap (λ (x : ℕ). fours_of x (take (length bs - v) (drop v bs))) (sym front_long)
        ∙ ap (fours_of n) (take_all (length bs - v) (drop v bs) (omega (arith, length-drop v bs)))

    ys-long : length ys ≡ n
    ys-long = ap length came ∙ fours_of-length n (drop v bs)

    pub front_fits : n ≤ length (ys ++ drop n zeros)
    front_fits = omega (arith, length-append ys (drop n zeros), ys-long)

    pub front-is : take n (ys ++ drop n zeros) ≡ fours_of n (drop v bs)
    front-is = take_at ys (drop n zeros) n ys-long ∙ came

    pub front-size : n ≡ length (take n (ys ++ drop n zeros))
    front-size = sym (ap length front-is ∙ fours_of-length n (drop v bs))

-- ---- the vertices of a word

module _ (bs : List ℕ) (n i : ℕ) where
  pub top-more : i < n → past (fours_of (n - i) (drop (i * 4) bs)) ≡ max (suc (said (take 4 (drop (i * 4) bs)))) (past (fours_of (n - (i + 1)) (drop ((i + 1) * 4) bs)))
  unfolding past fours_of
  top-more h =
      let e : n - i ≡ suc (n - (i + 1)) = omega arith in
      let q : i * 4 + 4 ≡ (i + 1) * 4 = omega arith in
      rw e (ap (λ (l : List ℕ). max (suc (said (take 4 (drop (i * 4) bs)))) (past (fours_of (n - (i + 1)) l))) (drop-drop 4 (i * 4) bs ∙ ap (λ (x : ℕ). drop x bs) q))

  pub top-end : n ≤ i → past (fours_of (n - i) (drop (i * 4) bs)) ≡ 0
  unfolding past fours_of
  top-end h =
      let e : n - i ≡ 0 = omega arith in
      rw e

pub top-begin : (bs : List ℕ) (n : ℕ) → fours_of n bs ≡ fours_of (n - 0) (drop (0 * 4) bs)
top-begin bs n = ap (λ (x : ℕ). fours_of x bs) {x = n} {y = n - 0} (omega arith)
