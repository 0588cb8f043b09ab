-- Which vertices stand after a vertex in a word, and the shares of a point's level by what stands after. Assumes nothing.
use mathlib.Core.Path.{◌≡◌, refl, sym, ap, ◌∙◌}
use mathlib.Core.Logic.{◌≢◌, ◌⊎◌, inl, inr}
use mathlib.Core.List.{List, [], ◌∷◌, map}
use Prim.Native.Nat.{ℕ, zero, suc, ◌+◌, ◌*◌, ◌-◌, ◌≤◌, ◌<◌}
use native.Mathlib.Nat.{not-suc-le-zero, le_of_suc-le-suc, suc_inj}
use native.Mathlib.Decide.{dec_lt, ℕ_discrete}
use native.Mathlib.Omega.{arith}
use lib.ListN.{length, get_or}
use Rattle.lists.specs.Tables.{sum}
use Rattle.refine_lattice.specs.Lattice.{Falls, dot, weights}
use Rattle.lists.specs.Words.{same}
use Rattle.refine_lattice.specs.Complex.{occurrences, keep, common, weigh}
use Rattle.lists.proofs.Words.{same-yes, same-no, same-eq}
use Rattle.lists.proofs.Sums.{sum-ext}
use Rattle.refine_lattice.proofs.Shares.{pull, map_is}
use Rattle.refine_lattice.proofs.Weights.{dot-const}

-- how often `u` stands after `v` in `k`
abbrev pub after : List ℕ → ℕ → ℕ → ℕ
after [] v u = 0
after (x ∷ k) v u = same v x * occurrences k u + (1 - same v x) * after k v u

pub after-here : (x : ℕ) (k : List ℕ) (v u : ℕ) → v ≡ x → after (x ∷ k) v u ≡ occurrences k u
after-here x k v u e = ap (λ (y : ℕ). y * occurrences k u + (1 - y) * after k v u) (same-yes v x e) ∙ omega arith

pub after-there : (x : ℕ) (k : List ℕ) (v u : ℕ) → v ≢ x → after (x ∷ k) v u ≡ after k v u
after-there x k v u e = ap (λ (y : ℕ). y * occurrences k u + (1 - y) * after k v u) (same-no v x e) ∙ omega arith

pub after-le : (k : List ℕ) (v u : ℕ) → after k v u ≤ occurrences k u
after-le [] v u = omega arith
after-le (x ∷ k) v u =
    elim (ℕ_discrete v x) [
      | yes e ↦ omega (arith, after-here x k v u e)
      | no e ↦ omega (arith, after-there x k v u e, after-le k v u)
    ]

pub after-self : (k : List ℕ) (v : ℕ) → occurrences k v ≤ 1 → after k v v ≡ 0
after-self [] v h = refl
after-self (x ∷ k) v h =
    elim (ℕ_discrete v x) [
      | yes e ↦ omega (arith, after-here x k v v e, same-yes v x e)
      | no e ↦ after-there x k v v e ∙ after-self k v (omega arith)
    ]

-- of two vertices one stands after the other
pub after_both : (k : List ℕ) → ((v : ℕ) → occurrences k v ≤ 1) → (u v : ℕ) → u ≢ v → 0 < occurrences k u → 0 < occurrences k v → after k u v + after k v u ≡ 1
after_both [] p u v n h l = omega arith
after_both (x ∷ k) p u v n h l =
    elim (ℕ_discrete u x) [
      | yes e ↦
          omega (
            arith,
            after-here x k u v e,
            after-there x k v u (λ f. n (e ∙ sym f)),
            after-le k v u,
            same-yes u x e,
            same-no v x (λ f. n (e ∙ sym f)),
            p u,
            p v,
          )
      | no e ↦
          elim (ℕ_discrete v x) [
            | yes f ↦
                omega (
                  arith,
                  after-here x k v u f,
                  after-there x k u v e,
                  after-le k u v,
                  same-yes v x f,
                  same-no u x e,
                  p u,
                  p v,
                )
            | no f ↦
                omega (
                  arith,
                  after-there x k u v e,
                  after-there x k v u f,
                  after_both k (λ w. omega (arith, p w)) u v n (omega (arith, same-no u x e)) (omega (arith, same-no v x f)),
                )
          ]
    ]

-- in the vertices that two words share the sequence is that of the first
pub keep-yes : (n x : ℕ) (r : List ℕ) → 0 < n → keep n x r ≡ x ∷ r
keep-yes zero x r h = absurd (not-suc-le-zero h)
keep-yes (suc n) x r h = refl

pub keep-no : (n x : ℕ) (r : List ℕ) → n ≡ 0 → keep n x r ≡ r
keep-no zero x r h = refl
keep-no (suc n) x r h = absurd (omega arith)

pub times-common : (k l : List ℕ) (v : ℕ) → 0 < occurrences l v → occurrences (common k l) v ≡ occurrences k v
times-common [] l v h = refl
times-common (x ∷ k) l v h =
    elim (dec_lt 0 (occurrences l x)) [
      | yes m ↦ ap (λ (r : List ℕ). occurrences r v) (keep-yes (occurrences l x) x (common k l) m) ∙ omega (arith, times-common k l v h)
      | no m ↦
          let n : v ≢ x = λ e. omega (arith, ap (occurrences l) e) in
          ap (λ (r : List ℕ). occurrences r v) (keep-no (occurrences l x) x (common k l) (omega arith))
          ∙ omega (arith, times-common k l v h, same-no v x n)
    ]

pub after-common : (k l : List ℕ) (v u : ℕ) → 0 < occurrences l v → 0 < occurrences l u → after (common k l) v u ≡ after k v u
after-common [] l v u h i = refl
after-common (x ∷ k) l v u h i =
    elim (dec_lt 0 (occurrences l x)) [
      | yes m ↦
          ap (λ (r : List ℕ). after r v u) (keep-yes (occurrences l x) x (common k l) m)
          ∙ cc (times-common k l u i, after-common k l v u h i)
      | no m ↦
          let n : v ≢ x = λ e. omega (arith, ap (occurrences l) e) in
          ap (λ (r : List ℕ). after r v u) (keep-no (occurrences l x) x (common k l) (omega arith))
          ∙ after-common k l v u h i
          ∙ sym (after-there x k v u n)
    ]

-- of at most two shared vertices each is the first or the second
pub one_of_two : (l : List ℕ) → length l ≤ 2 → (v : ℕ) → 0 < occurrences l v → (v ≡ get_or l 0 0) ⊎ (v ≡ get_or l 1 0)
one_of_two [] h v m = absurd (omega arith)
one_of_two (x ∷ []) h v m = inl (same-eq v x (omega arith))
one_of_two (x ∷ y ∷ []) h v m =
    elim (ℕ_discrete v x) [ yes e ↦ inl e | no e ↦ inr (same-eq v y (omega (arith, same-no v x e))) ]
one_of_two (x ∷ y ∷ z ∷ l) h v m = absurd (not-suc-le-zero (le_of_suc-le-suc (le_of_suc-le-suc h)))

pub weigh-absent : (k ws : List ℕ) (v : ℕ) → occurrences k v ≡ 0 → weigh k ws v ≡ 0
weigh-absent k [] v h = refl
weigh-absent [] (w ∷ ws) v h = refl
weigh-absent (x ∷ k) (w ∷ ws) v h =
    let e : same v x ≡ 0 = omega arith in
    omega (arith, ap (λ (y : ℕ). w * y) e, weigh-absent k ws v (omega arith))

-- the sum of the weights of the vertices that stand after `v`
abbrev pub later : ℕ → List ℕ → (ℕ → ℕ) → ℕ → ℕ
later n k ω v = sum n (λ u. ω u * after k v u)

by_zero : (z a : ℕ) → a ≡ 0 → z * a ≡ 0
by_zero z a e = ap (λ (y : ℕ). z * y) e ∙ omega arith

left_out : (p s w a : ℕ) → s ≡ 0 → (p * s + w) * a ≡ w * a
left_out p s w a e = ap (λ (y : ℕ). (p * y + w) * a) e ∙ omega arith

-- a word with its first vertex `x`, of weight `p`, and the others, with the weights `ws`
module _ (n p x : ℕ) (k ws : List ℕ) (plain : (v : ℕ) → occurrences (x ∷ k) v ≤ 1) (below : (v : ℕ) → 0 < occurrences (x ∷ k) v → v < n) where
  fresh : (v : ℕ) → v ≡ x → occurrences k v ≡ 0
  fresh v e = omega (arith, plain v, same-yes v x e)

  pub later_first : (v : ℕ) → v ≡ x → later n (x ∷ k) (weigh (x ∷ k) (p ∷ ws)) v ≡ dot ws (map (λ u. 1) k)
  later_first v e =
      sum-ext n (λ u. (p * same u x + weigh k ws u) * after (x ∷ k) v u) (λ u. weigh k ws u * 1) (λ u h. each u)
      ∙ pull n (λ u. 1) ws k (λ u h. below u (omega arith))
    where
      each : (u : ℕ) → (p * same u x + weigh k ws u) * after (x ∷ k) v u ≡ weigh k ws u * 1
      each u =
          elim (dec_lt 0 (occurrences k u)) [
            | yes m ↦
                let f : u ≢ x = λ q. omega (arith, fresh u q) in
                left_out p (same u x) (weigh k ws u) (after (x ∷ k) v u) (same-no u x f)
                ∙ ap (λ (y : ℕ). weigh k ws u * y) (after-here x k v u e ∙ omega (arith, plain u))
            | no m ↦
                by_zero (p * same u x + weigh k ws u) (after (x ∷ k) v u) (after-here x k v u e ∙ omega arith)
                ∙ omega (arith, weigh-absent k ws u (omega arith))
          ]

  pub later-rest : (v : ℕ) → v ≢ x → later n (x ∷ k) (weigh (x ∷ k) (p ∷ ws)) v ≡ later n k (weigh k ws) v
  later-rest v e =
      sum-ext n (λ u. (p * same u x + weigh k ws u) * after (x ∷ k) v u) (λ u. weigh k ws u * after k v u) (λ u h. each u)
    where
      each : (u : ℕ) → (p * same u x + weigh k ws u) * after (x ∷ k) v u ≡ weigh k ws u * after k v u
      each u =
          ap (λ (y : ℕ). (p * same u x + weigh k ws u) * y) (after-there x k v u e)
          ∙ elim (ℕ_discrete u x) [
            | yes q ↦
                let z : after k v u ≡ 0 = omega (arith, after-le k v u, fresh u q) in
                by_zero (p * same u x + weigh k ws u) (after k v u) z ∙ sym (by_zero (weigh k ws u) (after k v u) z)
            | no q ↦ left_out p (same u x) (weigh k ws u) (after k v u) (same-no u x q)
          ]

  weight-first : (v : ℕ) → v ≡ x → weigh (x ∷ k) (p ∷ ws) v ≡ p
  weight-first v e = omega (arith, ap (λ (y : ℕ). p * y) (same-yes v x e), weigh-absent k ws v (fresh v e))

weight-rest : (p x : ℕ) (k ws : List ℕ) (v : ℕ) → v ≢ x → weigh (x ∷ k) (p ∷ ws) v ≡ weigh k ws v
weight-rest p x k ws v e = omega (arith, ap (λ (y : ℕ). p * y) (same-no v x e))

-- all weights together
pub total-weight : (n : ℕ) (k s : List ℕ) (R : ℕ) → length k ≡ suc (length s) → Falls R s → ((v : ℕ) → 0 < occurrences k v → v < n)
    → sum n (weigh k (weights R s)) ≡ R
total-weight n k s R h f below =
    sum-ext n (weigh k (weights R s)) (λ v. weigh k (weights R s) v * 1) (λ v l. omega arith)
    ∙ pull n (λ v. 1) (weights R s) k below
    ∙ ap (dot (weights R s)) (map_is (λ v. 1) k (suc (length s)) h)
    ∙ dot-const R s 1 f
    ∙ omega arith

-- The weights of the point whose coordinates are g of those of `s`, from the weights of `s`: with w the weight of v and l that of all after v, g (w + l) - g l
module _ (n : ℕ) (g : ℕ → ℕ) (g0 : g 0 ≡ 0) where
  put : (L W P w q : ℕ) → W ≡ w → P ≡ q → L ≡ g (w + q) - g q → L ≡ g (W + P) - g P
  put L W P w q e f h = h ∙ cc (e, f)

  pub split-share : (s : List ℕ) (R : ℕ) (k : List ℕ) → length k ≡ suc (length s) → Falls R s
      → ((v : ℕ) → occurrences k v ≤ 1) → ((v : ℕ) → 0 < occurrences k v → v < n) → (v : ℕ)
      → weigh k (weights (g R) (map g s)) v
      ≡ g (weigh k (weights R s) v + later n k (weigh k (weights R s)) v) - g (later n k (weigh k (weights R s)) v)
  split-share s R [] h f p b v = absurd (omega arith)
  split-share [] R (x ∷ y ∷ k) h f p b v = absurd (omega arith)
  split-share [] R (x ∷ []) h f p b v =
      let L = weigh (x ∷ []) (g R ∷ []) v in
      let W = weigh (x ∷ []) (R ∷ []) v in
      let P = later n (x ∷ []) (weigh (x ∷ []) (R ∷ [])) v in
      elim (ℕ_discrete v x) [
        | yes e ↦
            put L W P R 0 (weight-first n R x [] [] p b v e) (later_first n R x [] [] p b v e)
            (weight-first n (g R) x [] [] p b v e ∙ omega (arith, g0, ap g {x = R + 0} {y = R} (omega arith)))
        | no e ↦
            put L W P 0 P (weight-rest R x [] [] v e) refl
            (weight-rest (g R) x [] [] v e ∙ omega (arith, ap g {x = 0 + P} {y = P} (omega arith)))
      ]
  split-share (y ∷ s) R (x ∷ k) h f p b v =
      let L = weigh (x ∷ k) ((g R - g y) ∷ weights (g y) (map g s)) v in
      let W = weigh (x ∷ k) ((R - y) ∷ weights y s) v in
      let P = later n (x ∷ k) (weigh (x ∷ k) ((R - y) ∷ weights y s)) v in
      let ih = split-share s y k (suc_inj h) f.1 (λ u. omega (arith, p u)) (λ u l. b u (omega arith)) v in
      elim (ℕ_discrete v x) [
        | yes e ↦
            put L W P (R - y) y
            (weight-first n (R - y) x k (weights y s) p b v e)
            (later_first n (R - y) x k (weights y s) p b v e
            ∙ ap (dot (weights y s)) (map_is (λ u. 1) k (suc (length s)) (suc_inj h))
            ∙ dot-const y s 1 f.1
            ∙ omega arith)
            (weight-first n (g R - g y) x k (weights (g y) (map g s)) p b v e
            ∙ ap (λ (z : ℕ). g z - g y) (omega (arith, f.0)))
        | no e ↦
            put L W P (weigh k (weights y s) v) (later n k (weigh k (weights y s)) v)
            (weight-rest (R - y) x k (weights y s) v e)
            (later-rest n (R - y) x k (weights y s) p b v e)
            (weight-rest (g R - g y) x k (weights (g y) (map g s)) v e ∙ ih)
      ]
