-- Refining by a and then, along the children's own words, by b gives the words that refining by a * b gives. Assumes nothing.
use mathlib.Core.Path.{◌≡◌, refl, sym, ap, ◌∙◌, subst}
use mathlib.Core.Logic.{◌≢◌, ◌↔◌}
use mathlib.Core.List.{List, map}
use Prim.Native.Nat.{ℕ, zero, suc, ◌+◌, ◌*◌, ◌-◌, ◌/◌, ◌%◌, ◌≤◌, ◌<◌}
use native.Mathlib.Nat.{mul-le-mul_left, mul-le-mul_right, div-add-mod, mod-lt, div-lt_iff_lt-mul}
use native.Mathlib.Decide.{dec_lt}
use native.Mathlib.Omega.{arith}
use Rattle.refine_lattice.specs.Lattice.{weights, blend, Perm, Once, Twice}
use Rattle.lists.proofs.Tables.{tab-ext}
use Rattle.refine_lattice.proofs.Perms.{Undoes, back, undoes, one_place, rank, rank_lt, rank-le, rank-perm}
use Rattle.refine_lattice.proofs.Codes.{Code, corner, corners, corner-ext, of-child, to-child}
use Rattle.refine_lattice.proofs.Weights.{Base, Time, blend-word}

-- (3) the code of a child's child
module _ (d a b : ℕ) (base t base' t' : ℕ → ℕ) (c : Code d a base t) (c' : Code d b base' t') where
  abbrev pub B : ℕ → ℕ
  B = Base d a b base t base' t' c c'

  abbrev pub T : ℕ → ℕ
  T = Time d a b base t base' t' c c'

  inner : (i j : ℕ) → i < j → j < d → (B j ≤ B i) × (B i ≡ B j → T i < T j)
  inner i j h l =
      elim (dec_lt (base j) (base i)) [
        | yes m ↦
            let less : B j < B i = omega (arith, mul-le-mul_left b m, c'.top (t j) (c.perm.below j l)) in
            (omega arith, λ e. omega arith)
        | no m ↦
            let e : base i ≡ base j = omega (arith, c.falls i j h l) in
            let f : b * base i ≡ b * base j = ap (λ (x : ℕ). b * x) e in
            let g : t i < t j = c.ties i j h l e in
            let k : t j < d = c.perm.below j l in
            (omega (arith, c'.falls (t i) (t j) g k), λ y. c'.ties (t i) (t j) g k (omega arith))
      ]

  pub composed : Code d (a * b) B T
  composed = record {
    perm = record {
      below = λ j h. c'.perm.below (t j) (c.perm.below j h);
      apart = λ i j h l e.
          c.perm.apart i j h l (one_place c'.perm (t i) (t j) (c.perm.below i (omega arith)) (c.perm.below j l) e);
    };
    top = λ j h. omega (arith, mul-le-mul_left b (c.top j h), c'.top (t j) (c.perm.below j h));
    falls = λ i j h l. (inner i j h l).0;
    ties = λ i j h l. (inner i j h l).1;
  }

-- (3), (5) a word of the double refinement is one of the single refinement
pub once-of-twice : {d a b : ℕ} {W : List (List ℕ)} → Twice d a b W → Once d (a * b) W
once-of-twice {d} {a} {b} {W} w =
    let (base, t, c, e) = of-child w.outer.child in
    let (base', t', c', e') = of-child w.child in
    let m : w.middle ≡ map (weights a) (corners d base t) = w.outer.reads ∙ ap (map (weights a)) e in
    record {
      points = corners d (B d a b base t base' t' c c') (T d a b base t base' t' c c');
      child = to-child (composed d a b base t base' t' c c');
      reads =
          w.reads
          ∙ ap (λ (v : List (List ℕ)). map (λ s. blend d (weights b s) v) w.points) m
          ∙ ap (map (λ s. blend d (weights b s) (map (weights a) (corners d base t)))) e'
          ∙ blend-word d a b base t base' t' c c';
    }

positive : (a b x : ℕ) → x < a * b → 0 < b
positive a zero x h = omega arith
positive a (suc b) x h = omega arith

-- keys x * d + u with u < d compare as the pairs do
pub key-lt : (d x y u v : ℕ) → u < d → x < y → x * d + u < y * d + v
key-lt d x y u v h l = omega (arith, mul-le-mul_right d l)

key-same : (d x y u v : ℕ) → x ≡ y → u < v → x * d + u < y * d + v
key-same d x y u v e l = omega (arith, ap (λ (n : ℕ). n * d) e)

-- (4) a code by a * b is that of a child of a child
module _ (d a b : ℕ) (base t : ℕ → ℕ) (c : Code d (a * b) base t) where
  -- the base in the lattice by a, and what is left of it
  outer : ℕ → ℕ
  outer j = base j / b

  rest : ℕ → ℕ
  rest j = base j % b

  split : (j : ℕ) → b * outer j + rest j ≡ base j
  unfolding outer rest
  split j = div-add-mod (base j) b

  rest_lt : (j : ℕ) → j < d → rest j < b
  unfolding rest
  rest_lt j h = mod-lt (base j) (positive a b (base j) (c.top j h))

  outer-lt : (j : ℕ) → j < d → outer j < a
  unfolding outer
  outer-lt j h = (div-lt_iff_lt-mul (positive a b (base j) (c.top j h))).1 (c.top j h)

  -- axes with more left over are stepped first in the lattice by a, and of equals those that are stepped first in the end
  late : ℕ → ℕ
  late j = d - suc (t j)

  late-lt : (j : ℕ) → j < d → late j < d
  unfolding late
  late-lt j h = omega arith

  late-falls : (i j : ℕ) → j < d → t i < t j → late j < late i
  unfolding late
  late-falls i j h l = omega (arith, c.perm.below j h)

  key : ℕ → ℕ
  key j = rest j * d + late j

  key-falls : (i j : ℕ) → i < j → j < d → outer i ≡ outer j → key j < key i
  unfolding key
  key-falls i j h l e =
      let f : b * outer i ≡ b * outer j = ap (λ (x : ℕ). b * x) e in
      elim (dec_lt (rest j) (rest i)) [
        | yes m ↦ key-lt d (rest j) (rest i) (late j) (late i) (late-lt j l) m
        | no m ↦
            let same : base i ≡ base j = omega (arith, split i, split j, c.falls i j h l) in
            key-same d (rest j) (rest i) (late j) (late i) (omega (arith, split i, split j)) (late-falls i j l (c.ties i j h l same))
      ]

  -- back from keys to the pairs
  rest-of-key : (i j : ℕ) → j < d → key i < key j → rest i ≤ rest j
  unfolding key
  rest-of-key i j l h =
      elim (dec_lt (rest j) (rest i)) [
        | yes m ↦ omega (arith, key-lt d (rest j) (rest i) (late j) (late i) (late-lt j l) m)
        | no m ↦ omega arith
      ]

  time-of-key : (i j : ℕ) → i < d → j < d → key i < key j → rest i ≡ rest j → t j < t i
  unfolding key late
  time-of-key i j k l h e = omega (arith, ap (λ (n : ℕ). n * d) e, c.perm.below i k, c.perm.below j l)

  key_apart : (i j : ℕ) → i < j → j < d → key i ≢ key j
  unfolding key late
  key_apart i j h l =
      elim (dec_lt (rest i) (rest j)) [
        | yes m ↦ omega (arith, key-lt d (rest i) (rest j) (late i) (late j) (late-lt i (omega arith)) m)
        | no m ↦
            elim (dec_lt (rest j) (rest i)) [
              | yes n ↦ omega (arith, key-lt d (rest j) (rest i) (late j) (late i) (late-lt j l) n)
              | no n ↦
                  let e : rest i ≡ rest j = omega arith in
                  omega (
                    arith,
                    ap (λ (x : ℕ). x * d) e,
                    c.perm.apart i j h l,
                    c.perm.below i (omega arith),
                    c.perm.below j l,
                  )
            ]
      ]

  time : ℕ → ℕ
  time = rank d key

  time-perm : Perm d time
  unfolding time
  time-perm = rank-perm d key key_apart

  -- the code in the lattice by a
  first_code : Code d a outer time
  unfolding time
  first_code = record {
    perm = time-perm;
    top = outer-lt;
    falls = λ i j h l.
        elim (dec_lt (outer i) (outer j)) [
          | yes m ↦ omega (arith, mul-le-mul_left b m, split i, split j, c.falls i j h l, rest_lt i (omega arith))
          | no m ↦ omega arith
        ];
    ties = λ i j h l e. rank_lt d key i j (omega arith) (key-falls i j h l e);
  }

  axis : ℕ → ℕ
  axis = back d time time-perm

  axis-undoes : Undoes d time axis
  unfolding axis
  axis-undoes = undoes d time time-perm

  key-axis : (k l : ℕ) → k < l → l < d → key (axis l) < key (axis k)
  unfolding time
  key-axis k l h m =
      elim (dec_lt (key (axis l)) (key (axis k))) [
        | yes n ↦ n
        | no n ↦
            omega (
              arith,
              rank-le d key (axis l) (axis k) (omega arith),
              axis-undoes.right k (omega arith),
              axis-undoes.right l m,
            )
      ]

  -- the code in the lattice by b of the child
  second-code : Code d b (λ k. rest (axis k)) (λ k. t (axis k))
  second-code = record {
    perm = record {
      below = λ k h. c.perm.below (axis k) (axis-undoes.perm.below k h);
      apart = λ k l h m e.
          axis-undoes.perm.apart k l h m
          (one_place c.perm (axis k) (axis l) (axis-undoes.perm.below k (omega arith)) (axis-undoes.perm.below l m) e);
    };
    top = λ k h. rest_lt (axis k) (axis-undoes.perm.below k h);
    falls = λ k l h m. rest-of-key (axis l) (axis k) (axis-undoes.perm.below k (omega arith)) (key-axis k l h m);
    ties = λ k l h m e.
        time-of-key (axis l) (axis k) (axis-undoes.perm.below l m) (axis-undoes.perm.below k (omega arith)) (key-axis k l h m) (sym e);
  }

  again : (i : ℕ) → corner d (λ j. b * outer j + rest (axis (time j))) (λ j. t (axis (time j))) i ≡ corner d base t i
  again =
      corner-ext d (λ j. b * outer j + rest (axis (time j))) (λ j. t (axis (time j))) base t
      (λ j h. ap (λ (i : ℕ). b * outer j + rest i) (axis-undoes.left j h) ∙ split j)
      (λ j h. ap t (axis-undoes.left j h))

-- a child of a child, by their codes, with the corners of a given code by a * b
pub record Split (d a b : ℕ) (base t : ℕ → ℕ) : Type 0 where
  pub base₁ : ℕ → ℕ
  pub time₁ : ℕ → ℕ
  pub base₂ : ℕ → ℕ
  pub time₂ : ℕ → ℕ
  pub code₁ : Code d a base₁ time₁
  pub code₂ : Code d b base₂ time₂
  pub again : (i : ℕ) → corner d (B d a b base₁ time₁ base₂ time₂ code₁ code₂) (T d a b base₁ time₁ base₂ time₂ code₁ code₂) i ≡ corner d base t i

pub split-code : {d a b : ℕ} {base t : ℕ → ℕ} → Code d (a * b) base t → Split d a b base t
split-code {d} {a} {b} {base} {t} c = record {
  base₁ = outer d a b base t c;
  time₁ = time d a b base t c;
  base₂ = λ k. rest d a b base t c (axis d a b base t c k);
  time₂ = λ k. t (axis d a b base t c k);
  code₁ = first_code d a b base t c;
  code₂ = second-code d a b base t c;
  again = again d a b base t c;
}

twice-of-split : (d a b : ℕ) (base t : ℕ → ℕ) → Split d a b base t → Twice d a b (map (weights (a * b)) (corners d base t))
twice-of-split d a b base t s = record {
  middle = map (weights a) (corners d s.base₁ s.time₁);
  outer = record { points = corners d s.base₁ s.time₁; child = to-child s.code₁; reads = refl };
  points = corners d s.base₂ s.time₂;
  child = to-child s.code₂;
  reads =
      sym
      (blend-word d a b s.base₁ s.time₁ s.base₂ s.time₂ s.code₁ s.code₂
      ∙ ap (map (weights (a * b)))
      (tab-ext (suc d)
      (corner d (B d a b s.base₁ s.time₁ s.base₂ s.time₂ s.code₁ s.code₂)
      (T d a b s.base₁ s.time₁ s.base₂ s.time₂ s.code₁ s.code₂))
      (corner d base t) (λ i h. s.again i)));
}

-- (4) and conversely
pub twice-of-once : {d a b : ℕ} {W : List (List ℕ)} → Once d (a * b) W → Twice d a b W
twice-of-once {d} {a} {b} {W} w =
    let (base, t, c, e) = of-child w.child in
    subst (Twice d a b) (sym (w.reads ∙ ap (map (weights (a * b))) e)) (twice-of-split d a b base t (split-code c))

-- the words of refining by a and then by b are those of refining by a * b
pub composition : (d a b : ℕ) (W : List (List ℕ)) → Twice d a b W ↔ Once d (a * b) W
composition d a b W = (once-of-twice, twice-of-once)
