-- The promise of `orient_by` determines what it says and every list, yes is said exactly of coherent signs above dimension 0, and reversing the signs of a whole
-- facet-connected piece keeps coherence. Assumes nothing.
use Rattle.refusal.specs.Says.{Verdict}
use Rattle.std.specs.Prelude.{Err, Ok}
use mathlib.Core.List.{List}
use mathlib.Core.Path.{◌≡◌, refl, sym, ap, ◌∙◌}
use mathlib.Core.Bool.{Bool, true, false}
use Prim.Native.Nat.{ℕ, ◌<◌}
use native.Mathlib.Omega.{arith}
use lib.IntN.{ℤ}
use lib.ListN.{length}
use Rattle.refusal.specs.Lent.{lengths}
use Rattle.refusal.proofs.Determined.{comes-one, cleared-one}
use Rattle.complex.specs.Check.{answer_of}
use Rattle.complex_facets.specs.Records.{record_need}
use Rattle.complex.specs.Cells.{cells_of}
use Rattle.complex.specs.Facets.{Crowded, Mates}
use Rattle.multiindex.specs.Sign.{Sign, plus, minus, opposite, times, induced}
use Rattle.orientation_signs.specs.Signs.{Coherent}
use Rattle.orientation_signs.proofs.Unique.{double}
use Rattle.orientation_by.specs.Promise.{Given, Ends, crowded, unfit, agreed, differs, OrientBy}
use Rattle.orientation_by.proofs.Marks.{given-one}

-- coherence reads only the cells' signs
pub coherent-same : (d : ℕ) (cs : List (List ℕ)) (σ τ : ℕ → Sign) → ((c : ℕ) → c < length cs → σ c ≡ τ c) → Coherent d cs σ → Coherent d cs τ
coherent-same d cs σ τ e p =
    record { opposed = λ c i c' i' u. ap (λ (x : Sign). times x (induced i)) (sym (e c u.this.cell)) ∙ p.opposed c i c' i' u ∙ ap (λ (x : Sign). opposite (times x (induced i'))) (e c' u.that.cell) }

module _ (d : ℕ) (cs : List (List ℕ)) (signs : List ℤ) where
  clash : (σ τ : ℕ → Sign) → Given signs (length cs) σ → Given signs (length cs) τ → 0 < d → Coherent d cs σ → (0 < d → Coherent d cs τ → ⊥) → ⊥
  clash σ τ g g' h p f = f h (coherent-same d cs σ τ (given-one signs (length cs) σ τ g g') p)

  pub ends-one : (r r' : Verdict) (h h' : Unit {0}) → Ends d cs signs r h → Ends d cs signs r' h' → (r ≡ r') × (h ≡ h')
  ends-one r r' h h' (crowded x) (crowded y) = (refl, refl)
  ends-one r r' h h' (crowded x) (unfit n f) = absurd (n x)
  ends-one r r' h h' (crowded x) (agreed n σ g l p) = absurd (n x)
  ends-one r r' h h' (crowded x) (differs n σ g f) = absurd (n x)
  ends-one r r' h h' (unfit n f) (crowded x) = absurd (n x)
  ends-one r r' h h' (unfit n f) (unfit n' f') = (refl, refl)
  ends-one r r' h h' (unfit n f) (agreed n' σ g l p) = absurd (f σ g)
  ends-one r r' h h' (unfit n f) (differs n' σ g f') = absurd (f σ g)
  ends-one r r' h h' (agreed n σ g l p) (crowded x) = absurd (n x)
  ends-one r r' h h' (agreed n σ g l p) (unfit n' f) = absurd (f σ g)
  ends-one r r' h h' (agreed n σ g l p) (agreed n' τ g' l' q) = (refl, refl)
  ends-one r r' h h' (agreed n σ g l p) (differs n' τ g' f) = absurd (clash σ τ g g' l p f)
  ends-one r r' h h' (differs n σ g f) (crowded x) = absurd (n x)
  ends-one r r' h h' (differs n σ g f) (unfit n' f') = absurd (f' σ g)
  ends-one r r' h h' (differs n σ g f) (agreed n' τ g' l q) = absurd (clash τ σ g' g l q f)
  ends-one r r' h h' (differs n σ g f) (differs n' τ g' f') = (refl, refl)

  -- yes exactly where the signs are coherent, above dimension 0
  pub yes-exactly : (σ : ℕ → Sign) → (Crowded d cs → ⊥) → Given signs (length cs) σ → (r : Verdict) → Ends d cs signs r tt → ((r ≡ Ok true → (0 < d) × Coherent d cs σ) × ((0 < d) × Coherent d cs σ → r ≡ Ok true))
  yes-exactly σ n g r e = (
    λ q. told r e q,
    λ w. (ends-one r (Ok true) tt tt e (agreed n σ g w.0 w.1)).0,
  )
    where
      told : (r : Verdict) → Ends d cs signs r tt → r ≡ Ok true → (0 < d) × Coherent d cs σ
      told r (crowded x) q = absurd (n x)
      told r (unfit n' f) q = absurd (f σ g)
      told r (agreed n' τ g' l p) q = (l, coherent-same d cs τ σ (given-one signs (length cs) τ σ g' g) p)
      told r (differs n' τ g' f) q = let z : ◌≡◌ {A = ℕ} 0 1 = cc in absurd (omega arith)

-- two exits of one call: what is said and the working lists are equal
pub orient-by-one : (d : ℕ) (ws : List ℕ) (signs : List ℤ) (r r' : Verdict) (keys k k' rows o o' spare p p' counts c c' : List ℕ) → OrientBy d ws signs r keys k rows o spare p counts c → OrientBy d ws signs r' keys k' rows o' spare p' counts c' →
    (r ≡ r') × ((k ≡ k') × (o ≡ o') × (p ≡ p') × (c ≡ c'))
orient-by-one d ws signs r r' keys k k' rows o o' spare p p' counts c c' a b =
    let w = comes-one Err tt (answer_of d ws) (record_need (length ws)) (lengths keys rows spare counts) (Ends d (cells_of d ws) signs) (ends-one d (cells_of d ws) signs) a.comes b.comes in (
      w.0,
      cleared-one a.used b.used keys k k' rows o o' spare p p' counts c c' w.2 a.room b.room,
    )

-- the other sign where the test holds
abbrev pub turn_if : Bool → Sign → Sign
turn_if true a = opposite a
turn_if false a = a

-- cells that are turned together with every cell across a facet: a whole facet-connected piece, or some of them
pub record Whole (d : ℕ) (cs : List (List ℕ)) (piece : ℕ → Bool) : Type 0 where
  pub together : (c i c' i' : ℕ) → Mates d cs c i c' i' → piece c ≡ piece c'

-- reversing the signs of whole pieces keeps coherence
pub turn-piece : (d : ℕ) (cs : List (List ℕ)) (σ : ℕ → Sign) (piece : ℕ → Bool) → Whole d cs piece → Coherent d cs σ → Coherent d cs (λ c. turn_if (piece c) (σ c))
turn-piece d cs σ piece w p =
    record {
      opposed =
          λ c i c' i' u.
          turned-both (piece c) (σ c) (σ c') (induced i) (induced i') (p.opposed c i c' i' u) ∙ ap (λ (b : Bool). opposite (times (turn_if b (σ c')) (induced i'))) (w.together c i c' i' u);
    }
  where
    times-opposite : (a b : Sign) → times (opposite a) b ≡ opposite (times a b)
    times-opposite plus b = refl
    times-opposite minus b = sym (double b)

    turned-both : (t : Bool) (a b p q : Sign) → times a p ≡ opposite (times b q) → times (turn_if t a) p ≡ opposite (times (turn_if t b) q)
    turned-both true a b p q e = times-opposite a p ∙ ap opposite e ∙ ap opposite (sym (times-opposite b q))
    turned-both false a b p q e = e
