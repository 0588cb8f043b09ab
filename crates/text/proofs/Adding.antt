-- Texts that are added to: nothing, one byte, one thing after another. Assumes nothing.
use mathlib.Core.Path.{◌≡◌, refl, sym, ap, subst, ◌∙◌}
use mathlib.Core.List.{List, [], ◌∷◌, ◌++◌, append_assoc}
use Prim.Native.Nat.{ℕ, zero, suc, ◌+◌, ◌-◌, ◌≤◌, ◌<◌}
use native.Mathlib.Nat.{add-zero, sub-zero, zero-sub, suc-sub-suc}
use native.Mathlib.Numerals.{add-one}
use native.Mathlib.Omega.{arith}
use lib.ListN.{length, get_or, take, drop, set, replicate, length-append, length-take, take-append-drop}
use lib.Seq.{take-suc, take_all, length-take-le, set_split, take-append_seam, drop-append-add, drop-drop}
use Rattle.text.specs.declared.Text.{Text}
use Rattle.text.specs.Adds.{size, holding, written_at, Adds}

-- a text's bytes are an array of 128
pub room_in : (t : Text) → length t.bytes ≡ size → length t.bytes ≡ size
room_in t e = e

pub adds_none : (t : Text) → Adds [] t t
adds_none t = record { len = omega arith; bytes = sym (ap (λ (k : ℕ). take t.len t.bytes ++ drop k t.bytes) (add-zero t.len) ∙ take-append-drop t.len t.bytes) }

-- x is written from n on, then y from there on
written_both : (n : ℕ) (x y bs : List ℕ) → n ≤ length bs → written_at (n + length x) y (written_at n x bs) ≡ written_at n (x ++ y) bs
written_both n x y bs h =
    let front : List ℕ = take n bs ++ x in
    let rest : List ℕ = drop (n + length x) bs in
    let whole : take n bs ++ (x ++ rest) ≡ front ++ rest = sym (append_assoc (take n bs) x rest) in
    let long : length front ≡ n + length x = length-append (take n bs) x ∙ ap (λ (k : ℕ). k + length x) (length-take-le n bs h) in
    let first : take (n + length x) (front ++ rest) ≡ front = ap (λ (k : ℕ). take k (front ++ rest)) (sym long) ∙ take-append_seam front rest in
    let sum : n + length x + length y ≡ n + length (x ++ y) = omega (arith, length-append x y) in
    let last : drop (n + length x + length y) (front ++ rest) ≡ drop (n + length (x ++ y)) bs =
    ap (λ (k : ℕ). drop (k + length y) (front ++ rest)) (sym long) ∙ drop-append-add front rest (length y)
    ∙ drop-drop (length y) (n + length x) bs ∙ ap (λ (k : ℕ). drop k bs) sum in
    ap (written_at (n + length x) y) whole
    ∙ ap (λ (l : List ℕ). l ++ (y ++ drop (n + length x + length y) (front ++ rest))) first
    ∙ ap (λ (l : List ℕ). front ++ (y ++ l)) last
    ∙ append_assoc (take n bs) x (y ++ drop (n + length (x ++ y)) bs)
    ∙ ap (λ (l : List ℕ). take n bs ++ l) (sym (append_assoc x y (drop (n + length (x ++ y)) bs)))

pub adds-more : {x y : List ℕ} {t u v : Text} → t.len ≤ length t.bytes → Adds x t u → Adds y u v → Adds (x ++ y) t v
adds-more {x} {y} {t} {u} h a b = record {
  len = omega (arith, a.len, b.len, length-append x y);
  bytes = b.bytes ∙ ap (λ (n : ℕ). written_at n y u.bytes) a.len ∙ ap (written_at (t.len + length x) y) a.bytes ∙ written_both t.len x y t.bytes h;
}

pub adds-push : (t : Text) (b : ℕ) → t.len < length t.bytes → Adds (b ∷ []) t (record { bytes = set t.bytes t.len b; len = t.len + 1 })
adds-push t b h = record {
  len = refl;
  bytes = set_split t.bytes t.len b h ∙ ap (λ (k : ℕ). take t.len t.bytes ++ (b ∷ drop k t.bytes)) (sym (add-one t.len));
}

-- a word's bytes one by one
pub adds-byte : (w : List ℕ) (i : ℕ) {s t u : Text} → s.len ≤ length s.bytes → i < length w → Adds (take i w) s t → Adds (get_or w i 0 ∷ []) t u
    → Adds (take (i + 1) w) s u
adds-byte w i {s} {t} {u} r h a b = subst (λ (x : List ℕ). Adds x s u) (sym (ap (λ (k : ℕ). take k w) (add-one i) ∙ take-suc w i 0 h)) (adds-more r a b)

pub word_room : (w : List ℕ) (i : ℕ) {s t : Text} → i < length w → Adds (take i w) s t → s.len + length w ≤ size → t.len < size
word_room w i h a r = omega (arith, a.len, length-take i w)

pub word-done : (w : List ℕ) (i : ℕ) {s t : Text} → length w ≤ i → Adds (take i w) s t → Adds w s t
word-done w i {s} {t} h a = subst (λ (x : List ℕ). Adds x s t) (take_all i w h) a

pub adds_same : {x y : List ℕ} {s t : Text} → x ≡ y → Adds x s t → Adds y s t
adds_same {x} {y} {s} {t} e a = subst (λ (z : List ℕ). Adds z s t) e a

-- a word, then digits, then an end
pub adds-line : {w n e : List ℕ} {s t u v : Text} → s.len ≤ length s.bytes → Adds w s t → Adds n t u → Adds e u v → Adds (w ++ (n ++ e)) s v
adds-line {w} {n} {e} r a b c = adds_same (append_assoc w n e) (adds-more r (adds-more r a b) c)

-- ---- a text that holds bytes, and zeros past them

drop-zeros : (n k : ℕ) → drop {A = ℕ} n (replicate k 0) ≡ replicate (k - n) 0
drop-zeros zero k = ap (λ (m : ℕ). replicate {A = ℕ} m 0) (sym (sub-zero k))
drop-zeros (suc n) zero = ap (λ (m : ℕ). replicate {A = ℕ} m 0) (sym (zero-sub (suc n)))
drop-zeros (suc n) (suc k) = drop-zeros n k ∙ ap (λ (m : ℕ). replicate {A = ℕ} m 0) (sym (suc-sub-suc k n))

held_bytes : (l x : List ℕ) → written_at (length l) x (l ++ replicate (size - length l) 0) ≡ (l ++ x) ++ replicate (size - length (l ++ x)) 0
held_bytes l x =
    let zeros : List ℕ = replicate (size - length l) 0 in
    let left : size - length l - length x ≡ size - length (l ++ x) = omega (arith, length-append l x) in
    let rest : drop (length l + length x) (l ++ zeros) ≡ replicate (size - length (l ++ x)) 0 =
    drop-append-add l zeros (length x) ∙ drop-zeros (length x) (size - length l) ∙ ap (λ (m : ℕ). replicate {A = ℕ} m 0) left in
    ap (λ (f : List ℕ). f ++ (x ++ drop (length l + length x) (l ++ zeros))) (take-append_seam l zeros)
    ∙ ap (λ (r : List ℕ). l ++ (x ++ r)) rest ∙ sym (append_assoc l x (replicate (size - length (l ++ x)) 0))

-- two texts with the same bytes and length
alike : (s t : Text) → s.bytes ≡ t.bytes → s.len ≡ t.len → s ≡ t
alike s t b n = ap (λ (l : List ℕ). record { bytes = l; len = s.len }) b ∙ ap (λ (m : ℕ). record { bytes = t.bytes; len = m }) n

-- what is added to such a text is held after what it held
pub adds-held : (l : List ℕ) {x : List ℕ} {s t : Text} → s ≡ holding l → Adds x s t → t ≡ holding (l ++ x)
unfolding holding
adds-held l {x} {s} {t} e a =
    let b : t.bytes ≡ (l ++ x) ++ replicate (size - length (l ++ x)) 0 = a.bytes ∙ ap (λ (u : Text). written_at u.len x u.bytes) e ∙ held_bytes l x in
    let n : t.len ≡ length (l ++ x) = a.len ∙ ap (λ (u : Text). u.len + length x) e ∙ sym (length-append l x) in
    alike t (holding (l ++ x)) b n
