-- Words whose cells rise in colex order keep the order of a mesh file. Assumes nothing.
use mathlib.Core.Path.{◌≡◌, refl, ap, ◌∙◌}
use mathlib.Core.Bool.{Bool, true, false, ◌||◌}
use mathlib.Core.Logic.{inl, inr}
use mathlib.Core.List.{List, [], ◌∷◌, ◌++◌}
use Prim.Native.Nat.{ℕ, zero, suc, ◌+◌, ◌*◌, ◌<◌}
use native.Mathlib.Nat.{suc-mul}
use native.Mathlib.Omega.{arith}
use lib.ListN.{length, get_or, take, drop, length-append}
use lib.Seq.{take_at, drop_at}
use lib.Dec.{ltb}
use borrow.Author.Tests.{lt-ltb, le-ltb, eq-eqb}
use Rattle.lists.specs.Rows.{flat}
use Rattle.multiindex.specs.Sort.{sort_word}
use Rattle.complex.specs.Cells.{decides, comes_before}
use Rattle.complex_cells.proofs.Words.{Each, Rising, each_of}
use Rattle.complex_cells.proofs.Order.{Colex}
use Rattle.file_mesh.specs.Rules.{follows, rise}
use Rattle.file_mesh.proofs.Parts.{and_both}

colex-before : (n : ℕ) (v w : List ℕ) → Colex n v w → comes_before n v w ≡ true
unfolding comes_before decides
colex-before zero v w p = absurd p
colex-before (suc n) v w (inl l) = rw (lt-ltb (get_or v n 0) (get_or w n 0) l)
colex-before (suc n) v w (inr e) = rw (le-ltb (get_or v n 0) (get_or w n 0) (omega (arith, e.0)), eq-eqb (get_or v n 0) (get_or w n 0) e.0) (colex-before n v w e.1)

or_right : (a b : Bool) → b ≡ true → (a || b) ≡ true
or_right true b e = refl
or_right false b e = e

-- each word sorts to its cell
abbrev pub Sorts : ℕ → List (List ℕ) → List (List ℕ) → Type 0
Sorts n [] [] = Unit {0}
Sorts n [] (k ∷ ks) = ⊥
Sorts n (c ∷ cs) [] = ⊥
Sorts n (c ∷ cs) (k ∷ ks) = (sort_word k ≡ c) × (length k ≡ n) × Sorts n cs ks

pub sorts-by : (n : ℕ) (cs ks : List (List ℕ)) → length ks ≡ length cs → ((i : ℕ) → i < length cs → sort_word (get_or ks i []) ≡ get_or cs i []) → ((i : ℕ) → i < length cs → length (get_or ks i []) ≡ n) → Sorts n cs ks
sorts-by n [] [] e f g = tt
sorts-by n [] (k ∷ ks) e f g = absurd (omega arith)
sorts-by n (c ∷ cs) [] e f g = absurd (omega arith)
sorts-by n (c ∷ cs) (k ∷ ks) e f g = (f 0 (omega arith), g 0 (omega arith), sorts-by n cs ks (omega arith) (λ i h. f (suc i) (omega arith)) (λ i h. g (suc i) (omega arith)))

-- a word may follow `before`, whatever cell of the list it sorts to
abbrev Leads : ℕ → List ℕ → List ℕ → Type 0
Leads d before c = (w : List ℕ) → sort_word w ≡ c → follows d before w ≡ true

leads-none : (d : ℕ) (cs : List (List ℕ)) → Each (Leads d []) cs
unfolding follows
leads-none d cs = each_of (Leads d []) cs (λ c m w e. refl)

leads_one : (d : ℕ) (k c c' : List ℕ) → sort_word k ≡ c → Colex (suc d) c c' → Leads d k c'
unfolding follows
leads_one d [] c c' e l w q = refl
leads_one d (v ∷ k) c c' e l w q =
    let b : comes_before (suc d) (sort_word (v ∷ k)) (sort_word w) ≡ true = ap (λ (x : List ℕ). comes_before (suc d) x (sort_word w)) e ∙ ap (comes_before (suc d) c) q ∙ colex-before (suc d) c c' l in
    or_right (ltb 3 d) (comes_before (d + 1) (sort_word (v ∷ k)) (sort_word w)) (ap (λ (n : ℕ). comes_before n (sort_word (v ∷ k)) (sort_word w)) {x = d + 1} {y = suc d} (omega arith) ∙ b)

leads-all : (d : ℕ) (k c : List ℕ) (cs : List (List ℕ)) → sort_word k ≡ c → Each (Colex (suc d) c) cs → Each (Leads d k) cs
leads-all d k c [] e a = tt
leads-all d k c (c' ∷ cs) e a = (leads_one d k c c' e a.0, leads-all d k c cs e a.1)

pub rise-flat : (d : ℕ) (before : List ℕ) (cs ks : List (List ℕ)) → Sorts (suc d) cs ks → Rising (Colex (suc d)) cs → Each (Leads d before) cs → rise d (length ks) before (flat ks) ≡ true
unfolding rise
rise-flat d before [] [] s r l = refl
rise-flat d before [] (k ∷ ks) s r l = absurd s
rise-flat d before (c ∷ cs) [] s r l = absurd s
rise-flat d before (c ∷ cs) (k ∷ ks) s r l =
    let n : length k ≡ d + 1 = s.1 ∙ omega arith in
    let t : take (d + 1) (k ++ flat ks) ≡ k = take_at k (flat ks) (d + 1) n in
    let u : drop (d + 1) (k ++ flat ks) ≡ flat ks = drop_at k (flat ks) (d + 1) n in
    rw (t, u) (and_both (l.0 k s.0) (rise-flat d k cs ks s.2 r.1 (leads-all d k c cs s.0 r.0)))

-- the words of a list whose cells rise
pub words-rise : (d : ℕ) (cs ks : List (List ℕ)) → Sorts (suc d) cs ks → Rising (Colex (suc d)) cs → rise d (length ks) [] (flat ks) ≡ true
words-rise d cs ks s r = rise-flat d [] cs ks s r (leads-none d cs)

pub flat-long : (n : ℕ) (cs ks : List (List ℕ)) → Sorts n cs ks → length (flat ks) ≡ length ks * n
flat-long n [] [] s = omega arith
flat-long n [] (k ∷ ks) s = absurd s
flat-long n (c ∷ cs) [] s = absurd s
flat-long n (c ∷ cs) (k ∷ ks) s = length-append k (flat ks) ∙ omega (arith, s.1, flat-long n cs ks s.2, suc-mul (length ks) n)
