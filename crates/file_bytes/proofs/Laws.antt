-- Writing a number and reading it again, and the other way round. Assumes nothing.
use mathlib.Core.Path.{◌≡◌, refl, sym, ap, subst, ◌∙◌}
use mathlib.Core.List.{List, [], ◌∷◌, ◌++◌, append_assoc}
use Prim.Native.Nat.{ℕ, zero, suc, ◌+◌, ◌*◌, ◌/◌, ◌%◌, ◌^◌, ◌≤◌, ◌<◌}
use native.Mathlib.Nat.{mod-add-div, mod-lt, mod-eq_of_lt, div-eq_of_lt, add-mul-mod_self_left, add-mul-div_left, div-lt_iff_lt-mul, pow-suc, zero-add}
use native.Mathlib.Omega.{arith}
use lib.ListN.{length, take, drop, length-append, length-drop}
use lib.Seq.{take_at, drop_at, take-add, length-take-le}
use Rattle.lists.proofs.Members.{All}
use Rattle.file_bytes.specs.Bytes.{little, said, fours, fours_of}

abbrev pub IsByte : ℕ → Type 0
IsByte b = b < 256

abbrev pub Bytes : List ℕ → Type 0
Bytes bs = All IsByte bs

-- a number that four bytes hold
abbrev pub Four : ℕ → Type 0
Four n = n < 4294967296

-- ---- parts of lists

pub all_take : (P : ℕ → Type 0) (k : ℕ) (l : List ℕ) → All P l → All P (take k l)
all_take P zero l a = tt
all_take P (suc k) [] a = tt
all_take P (suc k) (x ∷ l) a = (a.0, all_take P k l a.1)

pub all_drop : (P : ℕ → Type 0) (k : ℕ) (l : List ℕ) → All P l → All P (drop k l)
all_drop P zero l a = a
all_drop P (suc k) [] a = tt
all_drop P (suc k) (x ∷ l) a = all_drop P k l a.1

-- ---- one number

pub little-length : (k n : ℕ) → length (little k n) ≡ k
unfolding little
little-length zero n = refl
little-length (suc k) n = ap suc (little-length k (n / 256))

pub little-bytes : (k n : ℕ) → Bytes (little k n)
unfolding little
little-bytes zero n = tt
little-bytes (suc k) n = (mod-lt n (omega arith), little-bytes k (n / 256))

pub said-little : (k n : ℕ) → n < 256 ^ k → said (little k n) ≡ n
unfolding little said
said-little zero n h = omega arith
said-little (suc k) n h =
    let q : n / 256 < 256 ^ k = (div-lt_iff_lt-mul {k = 256} {x = n} {y = 256 ^ k} (omega arith)).1 (subst (λ (x : ℕ). n < x) (pow-suc 256 k) h) in
    ap (λ (x : ℕ). n % 256 + 256 * x) (said-little k (n / 256) q) ∙ mod-add-div n 256

pub little-said : (bs : List ℕ) → Bytes bs → little (length bs) (said bs) ≡ bs
unfolding little said
little-said [] a = refl
little-said (b ∷ bs) a =
    let m : (b + 256 * said bs) % 256 ≡ b = add-mul-mod_self_left b 256 (said bs) ∙ mod-eq_of_lt a.0 in
    let q : (b + 256 * said bs) / 256 ≡ said bs = add-mul-div_left b (said bs) (omega arith) ∙ ap (λ (x : ℕ). x + said bs) (div-eq_of_lt a.0) ∙ zero-add (said bs) in
    let i : little (length bs) ((b + 256 * said bs) / 256) ≡ bs = ap (little (length bs)) q ∙ little-said bs a.1 in
    cc (m, i)

pub said-small : (bs : List ℕ) → Bytes bs → said bs < 256 ^ length bs
unfolding said
said-small [] a = omega arith
said-small (b ∷ bs) a =
    subst (λ (x : ℕ). b + 256 * said bs < x) (sym (pow-suc 256 (length bs)))
    (omega (arith, a.0, said-small bs a.1))

-- ---- numbers of four bytes

pub fours-length : (vs : List ℕ) → length (fours vs) ≡ length vs * 4
unfolding fours
fours-length [] = refl
fours-length (v ∷ vs) = length-append (little 4 v) (fours vs) ∙ omega (arith, little-length 4 v, fours-length vs)

pub four-said : (n : ℕ) → Four n → said (little 4 n) ≡ n
four-said n h = said-little 4 n h

pub fours-read : (vs rest : List ℕ) → All Four vs → fours_of (length vs) (fours vs ++ rest) ≡ vs
unfolding fours fours_of
fours-read [] rest a = refl
fours-read (v ∷ vs) rest a =
    let e : (little 4 v ++ fours vs) ++ rest ≡ little 4 v ++ (fours vs ++ rest) = append_assoc (little 4 v) (fours vs) rest in
    let t : said (take 4 ((little 4 v ++ fours vs) ++ rest)) ≡ v =
    ap (λ (l : List ℕ). said (take 4 l)) e ∙ ap said (take_at (little 4 v) (fours vs ++ rest) 4 (little-length 4 v)) ∙ four-said v a.0 in
    let d : fours_of (length vs) (drop 4 ((little 4 v ++ fours vs) ++ rest)) ≡ vs =
    ap (λ (l : List ℕ). fours_of (length vs) (drop 4 l)) e ∙ ap (fours_of (length vs)) (drop_at (little 4 v) (fours vs ++ rest) 4 (little-length 4 v)) ∙ fours-read vs rest a.1 in
    cc (t, d)

pub fours_of-length : (n : ℕ) (bs : List ℕ) → length (fours_of n bs) ≡ n
unfolding fours_of
fours_of-length zero bs = refl
fours_of-length (suc n) bs = ap suc (fours_of-length n (drop 4 bs))

-- the first k bytes as a number, written again
pub said-again : (k : ℕ) (bs : List ℕ) → k ≤ length bs → Bytes bs → little k (said (take k bs)) ≡ take k bs
said-again k bs h a =
    subst (λ (j : ℕ). little j (said (take k bs)) ≡ take k bs) (length-take-le k bs h) (little-said (take k bs) (all_take IsByte k bs a))

pub said-below : (k : ℕ) (bs : List ℕ) → k ≤ length bs → Bytes bs → said (take k bs) < 256 ^ k
said-below k bs h a =
    subst (λ (j : ℕ). said (take k bs) < 256 ^ j) (length-take-le k bs h) (said-small (take k bs) (all_take IsByte k bs a))

pub fours-again : (n : ℕ) (bs : List ℕ) → n * 4 ≤ length bs → Bytes bs → fours (fours_of n bs) ≡ take (n * 4) bs
unfolding fours fours_of
fours-again zero bs h a = refl
fours-again (suc n) bs h a =
    let k : suc n * 4 ≡ 4 + n * 4 = omega arith in
    let i : fours (fours_of n (drop 4 bs)) ≡ take (n * 4) (drop 4 bs) = fours-again n (drop 4 bs) (subst (λ (x : ℕ). n * 4 ≤ x) (sym (length-drop 4 bs)) (omega arith)) (all_drop IsByte 4 bs a) in
    let j : little 4 (said (take 4 bs)) ≡ take 4 bs = said-again 4 bs (omega arith) a in
    cc (i, j) ∙ sym (take-add 4 (n * 4) bs) ∙ ap (λ (x : ℕ). take x bs) (sym k)

pub fours_of-small : (n : ℕ) (bs : List ℕ) → n * 4 ≤ length bs → Bytes bs → All Four (fours_of n bs)
unfolding fours_of
fours_of-small zero bs h a = tt
fours_of-small (suc n) bs h a = (
  said-below 4 bs (omega arith) a,
  fours_of-small n (drop 4 bs) (subst (λ (x : ℕ). n * 4 ≤ x) (sym (length-drop 4 bs)) (omega arith)) (all_drop IsByte 4 bs a),
)
