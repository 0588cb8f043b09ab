-- The bytes of a record, written part by part. Assumes nothing.
use mathlib.Core.Path.{◌≡◌, refl, sym, ap, subst, ◌∙◌}
use mathlib.Core.List.{List, [], ◌∷◌, ◌++◌, append_assoc, append-nil}
use Prim.Native.Nat.{ℕ, zero, suc, ◌+◌, ◌*◌, ◌-◌, ◌≤◌, ◌<◌}
use native.Mathlib.Nat.{suc-mul}
use native.Mathlib.Numerals.{add-one}
use native.Mathlib.Omega.{arith}
use lib.ListN.{length, take, drop, get_or, length-append}
use lib.Seq.{drop-cons, drop-drop}
use Rattle.refusal.specs.Lent.{onto}
use Rattle.refine_pattern.proofs.Written.{Written, written-end}
use Rattle.file_bytes.specs.Bytes.{little, fours}
use Rattle.file_bytes.proofs.Laws.{little-length, fours-length}
use Rattle.file_bytes.proofs.Steps.{written-front, tail_more}
use Rattle.file_mesh.specs.File.{record_of, header_of, word_of, words_of, pairs_of, birth_of, end_of}
use Rattle.file_mesh.proofs.Written.{body_of, body-long}

-- x stands at the front, and y was written after it
pub onto-more : (x y to t ys : List ℕ) (k m : ℕ) → length x ≡ k → k + length y ≤ length to → t ≡ onto x to → length t ≤ k + m → ys ≡ onto y (take m (drop k t)) →
    take k t ++ (ys ++ drop m (drop k t)) ≡ onto (x ++ y) to
onto-more x y to t ys k m e h q l r =
    let f : length (x ++ y) ≤ length to = omega (arith, length-append x y) in
    let w = subst (λ (j : ℕ). Written (x ++ y) to y j t) e (written-front (x ++ y) to x y t refl q) in
    let v = tail_more (x ++ y) to y k t f w y [] (sym (append-nil y)) (k + length y) refl m ys l r in
    written-end (x ++ y) to [] (k + length y) _ f v refl

pub opening-long : (a b : ℕ) → length (little 4 a ++ little 2 b) ≡ 6
opening-long a b = length-append (little 4 a) (little 2 b) ∙ omega (arith, little-length 4 a, little-length 2 b)

-- a record by its parts
record_is : (kind len : ℕ) (body : List ℕ) → len ≡ 2 + length body → (little 4 len ++ little 2 kind) ++ body ≡ record_of kind body
unfolding record_of
record_is kind len body e = append_assoc (little 4 len) (little 2 kind) body ∙ ap (λ (n : ℕ). little 4 n ++ (little 2 kind ++ body)) e

pub header-long : (d c : ℕ) → length (header_of d c) ≡ 10
unfolding header_of record_of
header-long d c =
    let b : length (little 2 d ++ little 2 c) ≡ 4 = length-append (little 2 d) (little 2 c) ∙ omega (arith, little-length 2 d, little-length 2 c) in
    length-append (little 4 (2 + length (little 2 d ++ little 2 c))) (little 2 1 ++ (little 2 d ++ little 2 c))
    ∙ omega (arith, little-length 4 (2 + length (little 2 d ++ little 2 c)), length-append (little 2 1) (little 2 d ++ little 2 c), little-length 2 1)

pub header_is : (d c : ℕ) → ((little 4 6 ++ little 2 1) ++ little 2 d) ++ little 2 c ≡ header_of d c
unfolding header_of
header_is d c =
    append_assoc (little 4 6 ++ little 2 1) (little 2 d) (little 2 c)
    ∙ record_is 1 6 (little 2 d ++ little 2 c) (omega (arith, length-append (little 2 d) (little 2 c), little-length 2 d, little-length 2 c))

pub word_long : (w : List ℕ) → length (word_of w) ≡ 6 + length w * 4
unfolding word_of record_of
word_long w =
    length-append (little 4 (2 + length (fours w))) (little 2 2 ++ fours w)
    ∙ omega (arith, little-length 4 (2 + length (fours w)), length-append (little 2 2) (fours w), little-length 2 2, fours-length w)

pub word-is : (w : List ℕ) → (little 4 (2 + length w * 4) ++ little 2 2) ++ fours w ≡ word_of w
unfolding word_of
word-is w = record_is 2 (2 + length w * 4) (fours w) (ap (λ (n : ℕ). 2 + n) (sym (fours-length w)))

pub birth-is : (n r c : ℕ) (ps : List ℕ) → length ps ≡ c + c →
    ((((little 4 (10 + c * 6) ++ little 2 3) ++ little 4 n) ++ little 2 r) ++ little 2 c) ++ pairs_of ps ≡ birth_of n r c ps
unfolding birth_of
birth-is n r c ps e =
    let x = little 4 (10 + c * 6) ++ little 2 3 in
    append_assoc ((x ++ little 4 n) ++ little 2 r) (little 2 c) (pairs_of ps)
    ∙ append_assoc (x ++ little 4 n) (little 2 r) (little 2 c ++ pairs_of ps)
    ∙ append_assoc x (little 4 n) (little 2 r ++ (little 2 c ++ pairs_of ps))
    ∙ record_is 3 (10 + c * 6) (body_of n r c ps) (sym (body-long n r c ps e))

pub birth-long : (n r c : ℕ) (ps : List ℕ) → length ps ≡ c + c → length (birth_of n r c ps) ≡ 14 + c * 6
unfolding birth_of record_of
birth-long n r c ps e =
    length-append (little 4 (2 + length (body_of n r c ps))) (little 2 3 ++ body_of n r c ps)
    ∙ omega (arith, little-length 4 (2 + length (body_of n r c ps)), length-append (little 2 3) (body_of n r c ps), little-length 2 3, body-long n r c ps e)

pub end_is : little 4 2 ++ little 2 4 ≡ end_of
unfolding end_of
end_is = sym (append-nil (little 4 2 ++ little 2 4)) ∙ record_is 4 2 [] refl

pub end-long : length end_of ≡ 6
unfolding end_of record_of little
end-long = refl

-- ---- parts of the lists

pub three : (l : List ℕ) (b : ℕ) → b + 3 ≤ length l → drop b l ≡ get_or l b 0 ∷ (get_or l (b + 1) 0 ∷ (get_or l (b + 2) 0 ∷ drop (b + 3) l))
three l b h =
    let e1 : b + 1 ≡ suc b = omega arith in
    let e2 : b + 2 ≡ suc (suc b) = omega arith in
    let e3 : b + 3 ≡ suc (suc (suc b)) = omega arith in
    rw (e1, e2, e3) (drop-cons l b 0 (omega arith) ∙ ap (λ (t : List ℕ). get_or l b 0 ∷ t) (drop-cons l (suc b) 0 (omega arith) ∙ ap (λ (t : List ℕ). get_or l (suc b) 0 ∷ t) (drop-cons l (suc (suc b)) 0 (omega arith))))

pub two : (l : List ℕ) (b : ℕ) → b + 2 ≤ length l → drop b l ≡ get_or l b 0 ∷ (get_or l (b + 1) 0 ∷ drop (b + 2) l)
two l b h =
    let e1 : b + 1 ≡ suc b = omega arith in
    let e2 : b + 2 ≡ suc (suc b) = omega arith in
    rw (e1, e2) (drop-cons l b 0 (omega arith) ∙ ap (λ (t : List ℕ). get_or l b 0 ∷ t) (drop-cons l (suc b) 0 (omega arith)))

pub pairs_next : (ps : List ℕ) (i : ℕ) → i + 2 ≤ length ps → pairs_of (drop i ps) ≡ (little 4 (get_or ps i 0) ++ little 2 (get_or ps (i + 1) 0)) ++ pairs_of (drop (i + 2) ps)
unfolding pairs_of
pairs_next ps i h =
    rw (two ps i h) (sym (append_assoc (little 4 (get_or ps i 0)) (little 2 (get_or ps (i + 1) 0)) (pairs_of (drop (i + 2) ps))))

pub pairs-none : (ps : List ℕ) (i : ℕ) → length ps ≤ i → pairs_of (drop i ps) ≡ []
unfolding pairs_of
pairs-none [] zero h = refl
pairs-none [] (suc i) h = refl
pairs-none (x ∷ ps) zero h = absurd (omega arith)
pairs-none (x ∷ ps) (suc i) h = pairs-none ps i (omega arith)

pub words-next : (d count k : ℕ) (ws : List ℕ) → k < count → words_of d (count - k) (drop (k * (d + 1)) ws) ≡ word_of (take (d + 1) (drop (k * (d + 1)) ws)) ++ words_of d (count - (k + 1)) (drop ((k + 1) * (d + 1)) ws)
unfolding words_of
words-next d count k ws h =
    let e : count - k ≡ suc (count - (k + 1)) = omega arith in
    let s : k * (d + 1) + (d + 1) ≡ (k + 1) * (d + 1) = sym (ap (λ (x : ℕ). x * (d + 1)) (add-one k) ∙ suc-mul k (d + 1)) in
    rw e
    (ap (λ (l : List ℕ). word_of (take (d + 1) (drop (k * (d + 1)) ws)) ++ words_of d (count - (k + 1)) l) (drop-drop (d + 1) (k * (d + 1)) ws ∙ ap (λ (x : ℕ). drop x ws) s))

pub words-none : (d count k : ℕ) (ws : List ℕ) → count ≤ k → words_of d (count - k) ws ≡ []
unfolding words_of
words-none d count k ws h =
    let e : count - k ≡ 0 = omega arith in
    rw e
