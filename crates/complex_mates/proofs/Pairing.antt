-- The pairing of rows, one row at a time. Assumes nothing.
use mathlib.Core.List.{List}
use mathlib.Core.Path.{◌≡◌, sym, ap, ◌∙◌}
use Prim.Native.Nat.{ℕ, ◌+◌, ◌/◌, ◌%◌, ◌<◌, ◌≤◌}
use native.Mathlib.Decide.{ℕ_discrete}
use native.Mathlib.Omega.{arith}
use lib.ListN.{length, get_or, set, length-set}
use lib.Seq.{get_or-set_same, get_or-set_other}
use Rattle.lists.specs.Words.{none}
use Rattle.complex_mates.specs.Table.{Grouped, Paired, Three, Across}

-- nothing is paired yet
pub paired_none : (ids mates : List ℕ) → Paired 0 ids mates
paired_none ids mates =
    record {
      below = λ x h s. absurd (omega arith);
      other = λ x h s e. omega arith;
      same = λ x h s. absurd (omega arith);
      all = λ x y h l ne e. absurd (omega arith);
    }

module _ (n : ℕ) (reps ids mates : List ℕ) (g : Grouped n reps ids) (x : ℕ) (h : x < n) (free : get_or mates x 0 ≡ none) (p : Paired x ids mates) where
  first : ℕ
  first = get_or reps (get_or ids x 0) 0

  -- the first of its class: no row below it has its class
  alone : (y : ℕ) → y < x → get_or reps (get_or ids x 0) 0 ≡ x → get_or ids y 0 ≡ get_or ids x 0 → ⊥
  alone y l e s = omega (arith, g.first y (omega arith), ap (λ (i : ℕ). get_or reps i 0) s)

  pub paired-first : get_or reps (get_or ids x 0) 0 ≡ x → Paired (x + 1) ids mates
  paired-first e =
      record {
        below = λ y l s. elim (ℕ_discrete y x) [ yes q ↦ absurd (s (ap (λ (i : ℕ). get_or mates i 0) q ∙ free)) | no q ↦ omega (arith, p.below y (omega arith) s) ];
        other = λ y l s. elim (ℕ_discrete y x) [ yes q ↦ absurd (s (ap (λ (i : ℕ). get_or mates i 0) q ∙ free)) | no q ↦ p.other y (omega arith) s ];
        same = λ y l s. elim (ℕ_discrete y x) [ yes q ↦ absurd (s (ap (λ (i : ℕ). get_or mates i 0) q ∙ free)) | no q ↦ p.same y (omega arith) s ];
        all =
            λ y z l k ne s.
            elim (ℕ_discrete y x) [
              | yes q ↦ absurd (alone z (omega arith) e (sym s ∙ ap (λ (i : ℕ). get_or ids i 0) q))
              | no q ↦ elim (ℕ_discrete z x) [
                | yes r ↦ absurd (alone y (omega arith) e (s ∙ ap (λ (i : ℕ). get_or ids i 0) r))
                | no r ↦ p.all y z (omega arith) (omega arith) ne s
              ]
            ];
      }

  -- a third row of a class
  pub three : (f : ℕ) → f ≡ get_or reps (get_or ids x 0) 0 → (f ≡ x → ⊥) → (get_or mates f 0 ≡ none → ⊥) → Three n ids
  three f e ne s =
      let l : f < x = omega (arith, g.first x h) in
      let i : get_or ids f 0 ≡ get_or ids x 0 = ap (λ (j : ℕ). get_or ids j 0) e ∙ g.same x h in
      record {
        x = f;
        y = x;
        z = get_or mates f 0;
        x_below = omega arith;
        y_below = h;
        z_below = omega (arith, p.below f l s);
        xy = ne;
        xz = λ q. p.other f l s (sym q);
        yz = λ q. omega (arith, p.below f l s);
        x_y = i;
        x_z = sym (p.same f l s);
      }

  -- the second row of its class: the two are mates
  module _ (f : ℕ) (e : f ≡ get_or reps (get_or ids x 0) 0) (ne : f ≡ x → ⊥) (z : get_or mates f 0 ≡ none) (lf : f < length mates) (lx : x < length mates) where
    f-below : f < x
    f-below = omega (arith, g.first x h)

    f-same : get_or ids f 0 ≡ get_or ids x 0
    f-same = ap (λ (j : ℕ). get_or ids j 0) e ∙ g.same x h

    new : List ℕ
    new = set (set mates f x) x f

    at_x : get_or (set (set mates f x) x f) x 0 ≡ f
    at_x = get_or-set_same (set mates f x) x f 0 (rw length-set lx)

    at_f : get_or (set (set mates f x) x f) f 0 ≡ x
    at_f = get_or-set_other (set mates f x) x f f 0 ne ∙ get_or-set_same mates f x 0 lf

    at_y : (y : ℕ) → (y ≡ x → ⊥) → (y ≡ f → ⊥) → get_or (set (set mates f x) x f) y 0 ≡ get_or mates y 0
    at_y y a b = get_or-set_other (set mates f x) x y f 0 a ∙ get_or-set_other mates f y x 0 b

    -- no third row below x has the class
    two : (y : ℕ) → y < x → (y ≡ f → ⊥) → get_or ids y 0 ≡ get_or ids x 0 → ⊥
    two y l a s = omega (arith, p.all f y f-below l (λ q. a (sym q)) (f-same ∙ sym s), z, g.few)

    pub paired-second : Paired (x + 1) ids (set (set mates f x) x f)
    paired-second =
        record {
          below =
              λ y l s.
              elim (ℕ_discrete y x) [
                | yes q ↦ rw (q, at_x) (omega (arith, f-below))
                | no q ↦ elim (ℕ_discrete y f) [
                  | yes r ↦ rw (r, at_f) (omega arith)
                  | no r ↦ rw (at_y y q r) (omega (arith, p.below y (omega arith) (λ t. s (at_y y q r ∙ t))))
                ]
              ];
          other =
              λ y l s t.
              elim (ℕ_discrete y x) [
                | yes q ↦ ne (sym at_x ∙ ap (λ (i : ℕ). get_or (set (set mates f x) x f) i 0) (sym q) ∙ t ∙ q)
                | no q ↦ elim (ℕ_discrete y f) [
                  | yes r ↦ ne (sym r ∙ sym t ∙ ap (λ (i : ℕ). get_or (set (set mates f x) x f) i 0) r ∙ at_f)
                  | no r ↦ p.other y (omega arith) (λ u. s (at_y y q r ∙ u)) (sym (at_y y q r) ∙ t)
                ]
              ];
          same =
              λ y l s.
              elim (ℕ_discrete y x) [
                | yes q ↦ rw (q, at_x) f-same
                | no q ↦ elim (ℕ_discrete y f) [
                  | yes r ↦ rw (r, at_f) (sym f-same)
                  | no r ↦ rw (at_y y q r) (p.same y (omega arith) (λ u. s (at_y y q r ∙ u)))
                ]
              ];
          all =
              λ y u l k w s.
              elim (ℕ_discrete y x) [
                | yes q ↦ elim (ℕ_discrete u f) [
                  | yes r ↦ rw (q, r) at_x
                  | no r ↦ absurd (two u (omega arith) r (sym s ∙ ap (λ (i : ℕ). get_or ids i 0) q))
                ]
                | no q ↦ elim (ℕ_discrete y f) [
                  | yes r ↦ elim (ℕ_discrete u x) [
                    | yes v ↦ rw (r, v) at_f
                    | no v ↦ absurd (two u (omega arith) (λ t. w (r ∙ sym t)) (sym s ∙ ap (λ (i : ℕ). get_or ids i 0) r ∙ f-same))
                  ]
                  | no r ↦ elim (ℕ_discrete u x) [
                    | yes v ↦ absurd (two y (omega arith) r (s ∙ ap (λ (i : ℕ). get_or ids i 0) v))
                    | no v ↦ at_y y q r ∙ p.all y u (omega arith) (omega arith) w s
                  ]
                ]
              ];
        }

-- what is free above x stays free
pub still-free : (n x f : ℕ) (mates : List ℕ) → f < x → ((y : ℕ) → x ≤ y → y < n → get_or mates y 0 ≡ none) → (y : ℕ) → x + 1 ≤ y → y < n → get_or (set (set mates f x) x f) y 0 ≡ none
still-free n x f mates l free y h k =
    get_or-set_other (set mates f x) x y f 0 (λ e. omega arith) ∙ get_or-set_other mates f y x 0 (λ e. omega arith) ∙ free y (omega arith) k

-- one row more is crossed
pub across-more : (k x : ℕ) (mates other flip : List ℕ) (a b : ℕ) → x < length other → x < length flip → ((y : ℕ) → y < x → Across k mates other flip y) →
    (get_or mates x 0 ≡ none → a ≡ none) → ((get_or mates x 0 ≡ none → ⊥) → a ≡ get_or mates x 0 / k) → ((get_or mates x 0 ≡ none → ⊥) → b ≡ (x % k + get_or mates x 0 % k + 1) % 2) →
    (y : ℕ) → y < x + 1 → Across k mates (set other x a) (set flip x b) y
across-more k x mates other flip a b lo lf w e t u y h =
    elim (ℕ_discrete y x) [
      | yes q ↦ rw q
          (record {
            edge = λ z. get_or-set_same other x a 0 lo ∙ e z;
            to = λ z. get_or-set_same other x a 0 lo ∙ t z;
            by = λ z. get_or-set_same flip x b 0 lf ∙ u z;
          })
      | no q ↦
          let v = w y (omega arith) in
          record {
            edge = λ z. get_or-set_other other x y a 0 q ∙ v.edge z;
            to = λ z. get_or-set_other other x y a 0 q ∙ v.to z;
            by = λ z. get_or-set_other flip x y b 0 q ∙ v.by z;
          }
    ]
