-- The promise of `drop_cells` determines what it says and every list: two calls on equal inputs end alike. Assumes nothing.
use Rattle.complex_dropped.specs.Says.{Dropping}
use Rattle.std.specs.Prelude.{Err}
use mathlib.Core.Bool.{Bool, true, false}
use mathlib.Core.List.{List}
use mathlib.Core.Path.{◌≡◌, refl, sym, ap, ◌∙◌}
use Prim.Native.Nat.{ℕ}
use native.Mathlib.Omega.{arith}
use lib.ListN.{length}
use Rattle.refusal.specs.Lent.{onto, lengths}
use Rattle.refusal.proofs.Determined.{comes-one, cleared-one}
use Rattle.complex.specs.Check.{answer_of}
use Rattle.complex.specs.Room.{need_of}
use Rattle.complex_dropped.specs.Promise.{Lists, nothing, Present, Ends, crowded, missing, emptied, short, kept_all, DropCells}

clash : {t : Bool} → t ≡ true → t ≡ false → ⊥
clash p q = let z : ◌≡◌ {A = ℕ} 0 1 = cc in omega arith

module _ (d : ℕ) (ws gone : List ℕ) (k o : ℕ) where
  -- where neither 7 nor 23 applies, two ends are alike
  here-one : Present d ws gone → (r r' : Dropping) (l l' : Lists) → Ends d ws gone k o r l → Ends d ws gone k o r' l' → (r ≡ r') × (l ≡ l')
  here-one x r r' l l' (crowded c) b = absurd (x.uncrowded c)
  here-one x r r' l l' (missing n e) b = absurd (clash e x.there)
  here-one x r r' l l' (emptied p e) (crowded c) = absurd (x.uncrowded c)
  here-one x r r' l l' (emptied p e) (missing n f) = absurd (clash f x.there)
  here-one x r r' l l' (emptied p e) (emptied q f) = (refl, refl)
  here-one x r r' l l' (emptied p e) (short q n f) = absurd (n e)
  here-one x r r' l l' (emptied p e) (kept_all q n f) = absurd (n e)
  here-one x r r' l l' (short p n f) (crowded c) = absurd (x.uncrowded c)
  here-one x r r' l l' (short p n f) (missing m g) = absurd (clash g x.there)
  here-one x r r' l l' (short p n f) (emptied q e) = absurd (n e)
  here-one x r r' l l' (short p n f) (short q m g) = (refl, refl)
  here-one x r r' l l' (short p n f) (kept_all q m g) = absurd (f g)
  here-one x r r' l l' (kept_all p n f) (crowded c) = absurd (x.uncrowded c)
  here-one x r r' l l' (kept_all p n f) (missing m g) = absurd (clash g x.there)
  here-one x r r' l l' (kept_all p n f) (emptied q e) = absurd (n e)
  here-one x r r' l l' (kept_all p n f) (short q m g) = absurd (g f)
  here-one x r r' l l' (kept_all p n f) (kept_all q m g) = (refl, refl)

  pub ends-one : (r r' : Dropping) (l l' : Lists) → Ends d ws gone k o r l → Ends d ws gone k o r' l' → (r ≡ r') × (l ≡ l')
  ends-one r r' l l' (crowded x) (crowded y) = (refl, refl)
  ends-one r r' l l' (crowded x) (missing n e) = absurd (n x)
  ends-one r r' l l' (crowded x) (emptied p e) = absurd (p.uncrowded x)
  ends-one r r' l l' (crowded x) (short p n f) = absurd (p.uncrowded x)
  ends-one r r' l l' (crowded x) (kept_all p n f) = absurd (p.uncrowded x)
  ends-one r r' l l' (missing n e) (crowded x) = absurd (n x)
  ends-one r r' l l' (missing n e) (missing m f) = (refl, refl)
  ends-one r r' l l' (missing n e) (emptied p f) = absurd (clash e p.there)
  ends-one r r' l l' (missing n e) (short p m f) = absurd (clash e p.there)
  ends-one r r' l l' (missing n e) (kept_all p m f) = absurd (clash e p.there)
  ends-one r r' l l' (emptied p e) b = here-one p r r' l l' (emptied p e) b
  ends-one r r' l l' (short p n f) b = here-one p r r' l l' (short p n f) b
  ends-one r r' l l' (kept_all p n f) b = here-one p r r' l l' (kept_all p n f) b

-- two exits of one call: what is said, the result lists and the working lists are equal
pub drop-cells-one : (d : ℕ) (ws gone : List ℕ) (r r' : Dropping) (kept a a' old b b' keys k k' rows o o' spare p p' counts c c' : List ℕ) →
    DropCells d ws gone r kept a old b keys k rows o spare p counts c → DropCells d ws gone r' kept a' old b' keys k' rows o' spare p' counts c' →
    (r ≡ r') × (a ≡ a') × (b ≡ b') × ((k ≡ k') × (o ≡ o') × (p ≡ p') × (c ≡ c'))
drop-cells-one d ws gone r r' kept a a' old b b' keys k k' rows o o' spare p p' counts c c' x y =
    let w = comes-one Err nothing (answer_of d ws) (need_of d (length ws)) (lengths keys rows spare counts) (Ends d ws gone (length kept) (length old)) (ends-one d ws gone (length kept) (length old)) x.comes y.comes in (
      w.0,
      x.in_kept ∙ ap (λ (l : Lists). onto l.words kept) w.1 ∙ sym y.in_kept,
      x.in_old ∙ ap (λ (l : Lists). onto l.old old) w.1 ∙ sym y.in_old,
      cleared-one x.used y.used keys k k' rows o o' spare p p' counts c c' w.2 x.room y.room,
    )
