-- Noting the last visit of each edge: what the notes tell is what the visits so far come to. Assumes nothing.
use mathlib.Core.Path.{◌≡◌, refl, sym, ap, subst, ◌∙◌}
use mathlib.Core.Bool.{Bool, true, false, cond}
use mathlib.Core.List.{List, [], ◌∷◌}
use Prim.Native.Nat.{ℕ, zero, suc, ◌+◌, ◌-◌, ◌≤◌, ◌<◌}
use native.Mathlib.Numerals.{add-one}
use native.Mathlib.Decide.{ℕ_discrete}
use native.Mathlib.Omega.{arith}
use lib.Ieee.{Float}
use lib.ListN.{length, get_or, set}
use lib.Seq.{get_or-set_same, get_or-set_other}
use Rattle.grid_sides.specs.Lengths.{agrees}
use Rattle.quotient.specs.declared.Grid.{Grid}
use Rattle.quotient.specs.Reduce.{vertex_of}
use Rattle.grid_lengths.specs.declared.EdgeLength.{EdgeLength}
use Rattle.grid_lengths.specs.declared.EdgeLength.TheVariants.{Length, Clash}
use Rattle.grid_lengths.specs.Edges.{visits_of, from_at, to_at, square_at}
use Rattle.grid_lengths.specs.Settled.{met_by, settle_from, settle, values_to}
use Rattle.grid_lengths.specs.Noted.{told, is_length, one_edge, Noting, Noted, Clashed}
use Rattle.grid_lengths.proofs.Values.{values-more}

-- what the first r visits of the edge of visit x come to
abbrev pub so_far : Grid → ℕ → ℕ → EdgeLength
so_far g x r = settle (values_to g (vertex_of g (from_at g x)) (vertex_of g (to_at g x)) r)

so-more : (g : Grid) (x r : ℕ) → so_far g x (suc r) ≡ cond (one_edge g x r) (met_by (so_far g x r) (square_at g r)) (so_far g x r)
so-more g x r = values-more g (vertex_of g (from_at g x)) (vertex_of g (to_at g x)) r

-- a clash stays
clash-from : (x y : Float) (vs : List Float) → settle_from (Clash x y) vs ≡ Clash x y
unfolding settle_from
clash-from x y [] = refl
clash-from x y (v ∷ vs) = clash-from x y vs

clash-more : (g : Grid) (x : ℕ) (u v : Float) (r : ℕ) → so_far g x r ≡ Clash u v → so_far g x (suc r) ≡ Clash u v
clash-more g x u v r e = so-more g x r ∙ go (one_edge g x r)
  where
    go : (b : Bool) → cond b (met_by (so_far g x r) (square_at g r)) (so_far g x r) ≡ Clash u v
    go true = rw e
    go false = e

clash-stays : (g : Grid) (x : ℕ) (u v : Float) (r k : ℕ) → so_far g x r ≡ Clash u v → so_far g x (k + r) ≡ Clash u v
clash-stays g x u v r zero e = subst (λ (n : ℕ). so_far g x n ≡ Clash u v) (let w : r ≡ 0 + r = omega arith in w) e
clash-stays g x u v r (suc k) e = subst (λ (n : ℕ). so_far g x n ≡ Clash u v) (let w : suc (k + r) ≡ suc k + r = omega arith in w) (clash-more g x u v (k + r) (clash-stays g x u v r k e))

-- ---- what a test of one value says
module _ (g : Grid) (v : Float) where
  met-long : (note : ℕ) (b : Bool) → b ≡ is_length (met_by (told g note) v) → b ≡ true → met_by (told g note) v ≡ Length v
  met-long zero b e t = refl
  met-long (suc r) b e t = go (agrees (square_at g r) v) (sym e ∙ t)
    where
      go : (c : Bool) → is_length (cond c (Length v) (Clash (square_at g r) v)) ≡ true → cond c (Length v) (Clash (square_at g r) v) ≡ Length v
      go true q = refl
      go false q = let z : ◌≡◌ {A = ℕ} 0 1 = cc in absurd (omega arith)

  met-apart : (note : ℕ) (b : Bool) → b ≡ is_length (met_by (told g note) v) → b ≡ false → (u : Float) × (met_by (told g note) v ≡ Clash u v)
  met-apart zero b e t = let q : true ≡ false = sym e ∙ t in let z : ◌≡◌ {A = ℕ} 0 1 = cc in absurd (omega arith)
  met-apart (suc r) b e t = (square_at g r, go (agrees (square_at g r) v) (sym e ∙ t))
    where
      go : (c : Bool) → is_length (cond c (Length v) (Clash (square_at g r) v)) ≡ false → cond c (Length v) (Clash (square_at g r) v) ≡ Clash (square_at g r) v
      go true q = let z : ◌≡◌ {A = ℕ} 0 1 = cc in absurd (omega arith)
      go false q = refl

-- ---- the invariant
pub record Noticed (g : Grid) (ids last : List ℕ) (r : ℕ) : Type 0 where
  pub tells : (x : ℕ) → x < visits_of g → so_far g x r ≡ told g (get_or last (get_or ids x 0) 0)
  pub some : (x : ℕ) → x < r → 0 < get_or last (get_or ids x 0) 0
  pub low : (x : ℕ) → x < visits_of g → get_or last (get_or ids x 0) 0 ≤ r

module _ (g : Grid) (ids last₀ : List ℕ) (w : Noting g ids last₀) where
  pub noticed-none : Noticed g ids last₀ 0
  unfolding values_to settle_from
  noticed-none =
      record {
        tells = λ x h. rw (w.blank x h);
        some = λ x h. absurd (let z : ⊥ = omega arith in z);
        low = λ x h. rw (w.blank x h) (omega arith);
      }

  module _ (last : List ℕ) (long : length last ≡ length last₀) (r : ℕ) (n : Noticed g ids last r) (h : r < visits_of g) (b : Bool) (e : b ≡ is_length (met_by (told g (get_or last (get_or ids r 0) 0)) (square_at g r))) where
    -- the edge of visit r: one value more
    here : (x : ℕ) → x < visits_of g → get_or ids x 0 ≡ get_or ids r 0 → so_far g x (suc r) ≡ met_by (told g (get_or last (get_or ids r 0) 0)) (square_at g r)
    here x l q =
        so-more g x r
        ∙ ap (λ (t : Bool). cond t (met_by (so_far g x r) (square_at g r)) (so_far g x r)) (w.same x r l h q)
        ∙ ap (λ (k : EdgeLength). met_by k (square_at g r)) (n.tells x l ∙ ap (λ (i : ℕ). told g (get_or last i 0)) q)

    -- every other edge: nothing new
    there : (x : ℕ) → x < visits_of g → (get_or ids x 0 ≡ get_or ids r 0 → ⊥) → so_far g x (suc r) ≡ told g (get_or last (get_or ids x 0) 0)
    there x l q = so-more g x r ∙ go (one_edge g x r) refl ∙ n.tells x l
      where
        go : (t : Bool) → one_edge g x r ≡ t → cond t (met_by (so_far g x r) (square_at g r)) (so_far g x r) ≡ so_far g x r
        go true p = absurd (q (w.other x r l h p))
        go false p = refl

    in-last : get_or ids r 0 < length last
    in-last = rw long (w.below r h)

    pub noticed-more : b ≡ true → Noticed g ids (set last (get_or ids r 0) (r + 1)) (r + 1)
    noticed-more t =
        record {
          tells =
              λ x l.
              rw (add-one r)
              (elim (ℕ_discrete (get_or ids x 0) (get_or ids r 0)) [
                | yes q ↦ here x l q ∙ met-long g (square_at g r) (get_or last (get_or ids r 0) 0) b e t ∙ ap (told g) (sym (ap (λ (i : ℕ). get_or (set last (get_or ids r 0) (suc r)) i 0) q ∙ get_or-set_same last (get_or ids r 0) (suc r) 0 in-last))
                | no q ↦ there x l q ∙ ap (told g) (sym (get_or-set_other last (get_or ids r 0) (get_or ids x 0) (suc r) 0 (λ s. q s)))
              ]);
          some =
              λ x l.
              elim (ℕ_discrete (get_or ids x 0) (get_or ids r 0)) [
                | yes q ↦ rw (q, get_or-set_same last (get_or ids r 0) (r + 1) 0 in-last) (omega arith)
                | no q ↦ rw (get_or-set_other last (get_or ids r 0) (get_or ids x 0) (r + 1) 0 (λ s. q s)) (n.some x (earlier x l q))
              ];
          low =
              λ x l.
              elim (ℕ_discrete (get_or ids x 0) (get_or ids r 0)) [
                | yes q ↦ rw (q, get_or-set_same last (get_or ids r 0) (r + 1) 0 in-last) (omega arith)
                | no q ↦ rw (get_or-set_other last (get_or ids r 0) (get_or ids x 0) (r + 1) 0 (λ s. q s)) (omega (arith, n.low x l))
              ];
        }
      where
        earlier : (x : ℕ) → x < r + 1 → (get_or ids x 0 ≡ get_or ids r 0 → ⊥) → x < r
        earlier x l q = elim (ℕ_discrete x r) [ yes s ↦ absurd (q (ap (λ (i : ℕ). get_or ids i 0) s)) | no s ↦ omega arith ]

    pub clashed-here : b ≡ false → Clashed g
    clashed-here f =
        let m = met-apart g (square_at g r) (get_or last (get_or ids r 0) 0) b e f in
        let c : so_far g r (suc r) ≡ Clash m.0 (square_at g r) = here r h refl ∙ m.1 in
        let k : (visits_of g - suc r) + suc r ≡ visits_of g = omega arith in
        record { visit = r; first = m.0; second = square_at g r; within = h; clash = subst (λ (z : ℕ). so_far g r z ≡ Clash m.0 (square_at g r)) k (clash-stays g r m.0 (square_at g r) (suc r) (visits_of g - suc r) c) }

  pub noticed-done : (last : List ℕ) (r : ℕ) → r ≡ visits_of g → Noticed g ids last r → Noted g ids last
  noticed-done last r e n =
      record {
        visit = λ x. get_or last (get_or ids x 0) 0 - 1;
        within = λ x h. let a = n.some x (omega arith) in let b = n.low x h in omega arith;
        note = λ x h. let a = n.some x (omega arith) in omega arith;
        length_is =
            λ x h.
            let a = n.some x (omega arith) in
            let k : get_or last (get_or ids x 0) 0 ≡ suc (get_or last (get_or ids x 0) 0 - 1) = omega arith in
            ap (λ (z : ℕ). so_far g x z) (sym e) ∙ n.tells x h ∙ ap (told g) k;
      }

-- ---- the calls put together
pub told-some : (g : Grid) (n : ℕ) (x : Float) → (n ≡ 0 → ⊥) → x ≡ square_at g (n - 1) → Length x ≡ told g n
told-some g zero x h e = absurd (h refl)
told-some g (suc n) x h e = ap Length (e ∙ ap (square_at g) (let w : suc n - 1 ≡ n = omega arith in w))

pub follow-is : (g : Grid) (n r : ℕ) (known now : EdgeLength) (v : Float) (b : Bool) → known ≡ told g n → v ≡ square_at g r → now ≡ met_by known v → b ≡ is_length now → b ≡ is_length (met_by (told g n) (square_at g r))
follow-is g n r known now v b hk hv hn hb = hb ∙ ap is_length (hn ∙ ap (λ (k : EdgeLength). met_by k v) hk ∙ ap (met_by (told g n)) hv)

pub note-at : (g : Grid) (last ids : List ℕ) (r id : ℕ) (b : Bool) → id ≡ get_or ids r 0 → b ≡ is_length (met_by (told g (get_or last id 0)) (square_at g r)) → b ≡ is_length (met_by (told g (get_or last (get_or ids r 0) 0)) (square_at g r))
note-at g last ids r id b e h = h ∙ ap (λ (i : ℕ). is_length (met_by (told g (get_or last i 0)) (square_at g r))) e
