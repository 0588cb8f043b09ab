-- Coherent signs of a list that passes its checks: `orient_by` says yes to them above dimension 0, and `orientation` never says 13. Both are read off the promises: no
-- other way to end is left. Assumes nothing.
use Rattle.std.specs.Prelude.{true}
use Rattle.refusal.specs.declared.Refusal.{Refusal}
use Rattle.refusal.specs.declared.Refusal.TheVariants.{NoSigns}
use Rattle.refusal.specs.Says.{Verdict, fine}
use Rattle.std.specs.Prelude.{Err, Ok, Result}
use mathlib.Core.List.{List, []}
use mathlib.Core.Path.{◌≡◌, refl}
use Prim.Native.Nat.{ℕ, ◌<◌}
use lib.IntN.{ℤ}
use lib.ListN.{length}
use Rattle.refusal.specs.declared.Room.{Room}
use Rattle.refusal.specs.Lent.{Roomy}
use Rattle.refusal.specs.Call.{Comes, refused, cramped, ended}
use Rattle.multiindex.specs.Sign.{Sign}
use Rattle.complex.specs.Cells.{cells_of}
use Rattle.complex.specs.Check.{answer_of}
use Rattle.complex_facets.specs.Records.{record_need}
use Rattle.complex.specs.Facets.{Crowded}
use Rattle.orientation_signs.specs.Signs.{Coherent, sign_list}
use Rattle.orientation.specs.declared.Coherence.{Coherence}
use Rattle.orientation.specs.Promise as found
use Rattle.orientation.specs.Promise.{counted_of}
use Rattle.orientation_by.specs.Promise as by
use Rattle.orientation_by.proofs.Determined.{yes-exactly}
use Rattle.orientation_laws.specs.Asked.{OrientByCalled, OrientationCalled}

module _ (d : ℕ) (ws : List ℕ) (passes : answer_of d ws ≡ fine) (uncrowded : Crowded d (cells_of d ws) → ⊥) (σ : ℕ → Sign) (co : Coherent d (cells_of d ws) σ) where
  not-refused : (why : Refusal) → answer_of d ws ≡ Err why → ⊥
  not-refused why e = cc

  -- ---- a caller's signs
  yes_of : 0 < d → (r : Verdict) (have used : Room) (h : Unit {0}) → Roomy (record_need (length ws)) have
      → Comes Err tt (answer_of d ws) (record_need (length ws)) have (by.Ends d (cells_of d ws) (sign_list σ (length (cells_of d ws)))) r h used → r ≡ Ok true
  yes_of pd r have used h fits (refused {why} e) = absurd (not-refused why e)
  yes_of pd r have used h fits (cramped e f) = absurd (f fits)
  yes_of pd r have used h fits (ended e f n) = (yes-exactly d (cells_of d ws) (sign_list σ (length (cells_of d ws))) σ uncrowded refl r n).1 (pd, co)

  pub coherent-yes : 0 < d → (r : Verdict) → OrientByCalled d ws (sign_list σ (length (cells_of d ws))) r → r ≡ Ok true
  coherent-yes pd r x = yes_of pd r _ _ tt x.roomy x.promised.comes

  -- ---- signs that are looked for
  end-not : (given : ℕ) (r : Result Coherence Refusal) (h : List ℤ) → found.Ends d (cells_of d ws) given r h → counted_of r ≡ Err NoSigns → ⊥
  end-not given r h (found.crowded c) e = uncrowded c
  end-not given r h (found.one_sided c f) e = f σ co
  end-not given r h (found.short c τ o s) e = cc
  end-not given r h (found.signed c τ o s) e = cc

  not-of : (given : ℕ) (r : Result Coherence Refusal) (have used : Room) (h : List ℤ)
      → Comes Err [] (answer_of d ws) (record_need (length ws)) have (found.Ends d (cells_of d ws) given) r h used → counted_of r ≡ Err NoSigns → ⊥
  not-of given r have used h (refused {why} x) e = not-refused why x
  not-of given r have used h (cramped x f) e = cc
  not-of given r have used h (ended x f n) e = end-not given r h n e

  pub coherent-found : (r : Result Coherence Refusal) → OrientationCalled d ws r → counted_of r ≡ Err NoSigns → ⊥
  coherent-found r x = not-of (length x.signs) r _ _ _ x.promised.comes
