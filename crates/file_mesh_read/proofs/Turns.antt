-- One turn of the loop over the words. Assumes nothing.
use Rattle.refusal.specs.Says.{fine}
use Rattle.refusal.specs.declared.Refusal.{Refusal}
use Rattle.std.specs.Prelude.{Ok, Err, Result}
use mathlib.Core.Path.{◌≡◌, refl, sym, ap, ◌∙◌}
use mathlib.Core.Bool.{Bool, true, false, ◌&&◌}
use mathlib.Core.List.{List, [], ◌∷◌, ◌++◌}
use Prim.Native.Nat.{ℕ, suc, ◌+◌, ◌*◌, ◌-◌, ◌≤◌, ◌<◌, max}
use native.Mathlib.Nat.{suc-mul}
use native.Mathlib.Numerals.{add-one}
use native.Mathlib.Omega.{arith}
use lib.ListN.{length, drop, length-drop}
use lib.Seq.{drop-drop}
use lib.Dec.{ltb, eqb}
use borrow.Author.Tests.{ltb-false}
use Rattle.file_bytes.specs.Bytes.{fours_of}
use Rattle.file_mesh.specs.Mesh.{past}
use Rattle.file_mesh.specs.Rules.{follows}
use Rattle.file_mesh.specs.Read.{Part, no, got, and_then, numbers, opening_from, word_from, words_from}
use Rattle.file_mesh.proofs.Parts.{refused-not, same-part, then-inv, asked-inv}
use Rattle.file_mesh_read.specs.Work.{refusal_of, worded_of, word_before}
use Rattle.file_mesh_read.proofs.Parts.{opening-rest, before-some}
use Rattle.refusal.proofs.Chain.{fine-refused}

-- ---- what the answer on a part tells

pub refused-is : {A : Type 0} (p : Part A) (why : Refusal) → Err why ≡ refusal_of p → p ≡ no why
refused-is (no other) why e = cc
refused-is (got y r) why e = cc

pub record Gotten {A : Type 0} (p : Part A) : Type 0 where
  pub x : A
  pub r : List ℕ
  pub is : p ≡ got x r

pub read_is : {A : Type 0} (p : Part A) → fine ≡ refusal_of p → Gotten p
read_is (no why) e = absurd (fine-refused why (sym e))
read_is (got y r) e = record { x = y; r = r; is = refl }

-- ---- a word that was read

numbers-rest : (bs : List ℕ) (at n : ℕ) (w r : List ℕ) → numbers n (drop at bs) ≡ got w r → (n * 4 ≤ length bs - at) × (w ≡ fours_of n (drop at bs)) × (r ≡ drop (at + n * 4) bs)
unfolding numbers
numbers-rest bs at n w r e = go (ltb (length (drop at bs)) (n * 4)) refl
  where
    go : (t : Bool) → ltb (length (drop at bs)) (n * 4) ≡ t → (n * 4 ≤ length bs - at) × (w ≡ fours_of n (drop at bs)) × (r ≡ drop (at + n * 4) bs)
    go true q = absurd (refused-not (rw q at e))
    go false q =
        let s = same-part (rw q at e) in
        (omega (arith, ltb-false (length (drop at bs)) (n * 4) q, length-drop at bs), sym s.0, sym s.1 ∙ drop-drop (n * 4) at bs)

pub word-rest : (d : ℕ) (before bs : List ℕ) (at : ℕ) (w r : List ℕ) → word_from d before (drop at bs) ≡ got w r →
    (6 + (d + 1) * 4 ≤ length bs - at) × (w ≡ fours_of (d + 1) (drop (at + 6) bs)) × (r ≡ drop (at + (6 + (d + 1) * 4)) bs)
unfolding word_from
word-rest d before bs at w r e =
    let i = then-inv (opening_from (drop at bs)) _ w r e in
    let o = opening-rest bs at i.x i.r i.part in
    let j = asked-inv (eqb i.x.kind 2 && eqb i.x.len (2 + (d + 1) * 4)) _ w r i.next in
    let k = then-inv (numbers (d + 1) i.r) _ w r j.1 in
    let n = numbers-rest bs (at + 6) (d + 1) k.x k.r (ap (numbers (d + 1)) (sym o.1) ∙ k.part) in
    let s = same-part (asked-inv (follows d before k.x) (got k.x k.r) w r k.next).1 in
    let q : at + 6 + (d + 1) * 4 ≡ at + (6 + (d + 1) * 4) = omega arith in
    (omega (arith, o.0, n.0), sym s.0 ∙ n.1, sym s.1 ∙ n.2 ∙ ap (λ (x : ℕ). drop x bs) q)

-- ---- the vertices so far

abbrev pub topped : ℕ → Part (List ℕ) → Result ℕ Refusal
topped top (no why) = Err why
topped top (got ws r) = Ok (max top (past ws))

pub topped-none : (p : Part (List ℕ)) → worded_of p ≡ topped 0 p
topped-none (no why) = refl
topped-none (got ws r) = ap Ok {x = past ws} {y = max 0 (past ws)} (omega arith)

past-append : (v w : List ℕ) → past (v ++ w) ≡ max (past v) (past w)
unfolding past
past-append [] w = omega arith
past-append (x ∷ v) w = omega (arith, past-append v w)

topped-more : (top : ℕ) (w : List ℕ) (p : Part (List ℕ)) → topped top (and_then p (λ ws s. got (w ++ ws) s)) ≡ topped (max top (past w)) p
unfolding and_then
topped-more top w (no why) = refl
topped-more top w (got ws r) = ap Ok {x = max top (past (w ++ ws))} {y = max (max top (past w)) (past ws)} (omega (arith, past-append w ws))

-- where word k begins
abbrev pub place : ℕ → ℕ → ℕ
place d k = 10 + k * (6 + (d + 1) * 4)

module _ (d count k : ℕ) (bs : List ℕ) (h : k < count) where
  abbrev before : List ℕ
  before = word_before d k (place d k) bs

  one_more : count - k ≡ suc (count - (k + 1))
  one_more = omega arith

  pub words-refused : (top : ℕ) (why : Refusal) → Err why ≡ refusal_of (word_from d before (drop (place d k) bs)) → topped top (words_from d (count - k) before (drop (place d k) bs)) ≡ Err why
  unfolding words_from and_then
  words-refused top why e = rw (one_more, refused-is (word_from d before (drop (place d k) bs)) why e)

  module _ (e : fine ≡ refusal_of (word_from d before (drop (place d k) bs))) where
    found : Gotten (word_from d before (drop (place d k) bs))
    found = read_is (word_from d before (drop (place d k) bs)) e

    pub word-inside : 6 + (d + 1) * 4 ≤ length bs - place d k
    word-inside = (word-rest d before bs (place d k) found.x found.r found.is).0

    next_place : place d k + (6 + (d + 1) * 4) ≡ place d (k + 1)
    next_place = omega (arith, ap (λ (n : ℕ). n * (6 + (d + 1) * 4)) (add-one k), suc-mul k (6 + (d + 1) * 4))

    pub next-inside : place d (k + 1) ≤ length bs
    next-inside = omega (arith, word-inside, next_place)

    abbrev w : List ℕ
    w = fours_of (d + 1) (drop (place d k + 6) bs)

    w-before : w ≡ word_before d (k + 1) (place d (k + 1)) bs
    w-before =
        ap (λ (n : ℕ). fours_of (d + 1) (drop n bs)) {x = place d k + 6} {y = place d (k + 1) - (d + 1) * 4} (omega (arith, next_place))
        ∙ sym (before-some d (k + 1) (place d (k + 1)) bs (λ q. omega arith))

    is : word_from d before (drop (place d k) bs) ≡ got w (drop (place d (k + 1)) bs)
    is =
        let r = word-rest d before bs (place d k) found.x found.r found.is in
        found.is ∙ ap (λ (l : List ℕ). got l found.r) r.1 ∙ ap (λ (l : List ℕ). got w l) (r.2 ∙ ap (λ (n : ℕ). drop n bs) next_place)

    pub words_more : (top top' : ℕ) → top' ≡ max top (past w) → topped top (words_from d (count - k) before (drop (place d k) bs)) ≡ topped top' (words_from d (count - (k + 1)) (word_before d (k + 1) (place d (k + 1)) bs) (drop (place d (k + 1)) bs))
    unfolding words_from and_then
    words_more top top' t =
        rw (one_more, is)
        (topped-more top w (words_from d (count - (k + 1)) w (drop (place d (k + 1)) bs))
        ∙ ap (λ (n : ℕ). topped n (words_from d (count - (k + 1)) w (drop (place d (k + 1)) bs))) (sym t)
        ∙ ap (λ (l : List ℕ). topped top' (words_from d (count - (k + 1)) l (drop (place d (k + 1)) bs))) w-before)

pub words-done : (d count k top : ℕ) (before bs : List ℕ) → count ≤ k → topped top (words_from d (count - k) before bs) ≡ Ok top
unfolding words_from past
words-done d count k top before bs h =
    let e : count - k ≡ 0 = omega arith in
    rw e (ap Ok {x = max top 0} {y = top} (omega arith))
