-- The promise of `cell_words` determines what it says and every list: two calls on equal inputs end alike. Assumes nothing.
use Rattle.refusal.specs.declared.Refusal.TheVariants.{VertexTwice}
use Rattle.refusal.specs.Says.{Counted}
use Rattle.std.specs.Prelude.{Err}
use mathlib.Core.List.{List, []}
use mathlib.Core.Path.{◌≡◌, refl, sym, ap, subst, ◌∙◌}
use Prim.Native.Nat.{ℕ, ◌≤◌, ◌<◌}
use native.Mathlib.Omega.{arith}
use lib.ListN.{length}
use Rattle.refusal.specs.Limits.{most_vertices}
use Rattle.refusal.specs.Lent.{onto, lengths}
use Rattle.refusal.proofs.Determined.{comes-one, cleared-one}
use Rattle.quotient.specs.declared.Grid.{Grid}
use Rattle.quotient.specs.Shape.{cell_count}
use Rattle.grid_mesh.specs.Words.{grid_need}
use Rattle.grid_chained.specs.Shape.{shape_of}
use Rattle.grid_chained.specs.Classing.{Classes}
use Rattle.grid_chained.proofs.Determined.{classes-one}
use Rattle.grid_chained_mesh.specs.Words.{ClassWords, first_twice, Apart, Crowd, WordsEnd, many, twice, crowded, short, written, CellWords}
use Rattle.grid_chained_mesh.proofs.Steps.{words-one}

module _ (g : Grid) where
  -- too many classes, and words of few enough
  not-both : (xs : List ℕ) (m : ℕ) → Classes g xs m → most_vertices < m → (ws : List ℕ) → ClassWords g ws → ⊥
  not-both xs m a l ws w =
      let e : m ≡ w.many = (classes-one g xs w.numbers m w.many a w.classes).1 in
      let f : w.many ≤ most_vertices = w.few in
      omega arith

  -- a word that names a class twice, and none
  not-apart : (xs : List ℕ) → ClassWords g xs → first_twice g xs < cell_count g → (ys : List ℕ) → Apart g ys → ⊥
  not-apart xs a l ys b = let n : cell_count g ≤ first_twice g xs = subst (λ (zs : List ℕ). cell_count g ≤ first_twice g zs) (words-one g ys xs b.of a) b.none in omega arith

  along : (xs ys : List ℕ) → Apart g xs → Apart g ys → Crowd g xs → Crowd g ys
  along xs ys a b = subst (λ (zs : List ℕ). Crowd g zs) (words-one g xs ys a.of b.of)

  not-long : (n : ℕ) (xs ys : List ℕ) → Apart g xs → Apart g ys → n < length xs → length ys ≤ n → ⊥
  not-long n xs ys a b h k = let e : length xs ≡ length ys = ap length (words-one g xs ys a.of b.of) in omega arith

  pub ends-one : (n : ℕ) (r r' : Counted) (l l' : List ℕ) → WordsEnd g n r l → WordsEnd g n r' l' → (r ≡ r') × (l ≡ l')
  ends-one n r r' l l' (many xs m a u) (many ys k b v) = (refl, refl)
  ends-one n r r' l l' (many xs m a u) (twice ys b v) = absurd (not-both xs m a u ys b)
  ends-one n r r' l l' (many xs m a u) (crowded ys b v) = absurd (not-both xs m a u ys b.of)
  ends-one n r r' l l' (many xs m a u) (short ys b v h) = absurd (not-both xs m a u ys b.of)
  ends-one n r r' l l' (many xs m a u) (written ys b v h) = absurd (not-both xs m a u ys b.of)
  ends-one n r r' l l' (twice xs a u) (many ys k b v) = absurd (not-both ys k b v xs a)
  ends-one n r r' l l' (twice xs a u) (twice ys b v) = (ap (λ (ws : List ℕ). Err (VertexTwice (first_twice g ws))) (words-one g xs ys a b), refl)
  ends-one n r r' l l' (twice xs a u) (crowded ys b v) = absurd (not-apart xs a u ys b)
  ends-one n r r' l l' (twice xs a u) (short ys b v h) = absurd (not-apart xs a u ys b)
  ends-one n r r' l l' (twice xs a u) (written ys b v h) = absurd (not-apart xs a u ys b)
  ends-one n r r' l l' (crowded xs a u) (many ys k b v) = absurd (not-both ys k b v xs a.of)
  ends-one n r r' l l' (crowded xs a u) (twice ys b v) = absurd (not-apart ys b v xs a)
  ends-one n r r' l l' (crowded xs a u) (crowded ys b v) = (refl, refl)
  ends-one n r r' l l' (crowded xs a u) (short ys b v h) = absurd (v (along xs ys a b u))
  ends-one n r r' l l' (crowded xs a u) (written ys b v h) = absurd (v (along xs ys a b u))
  ends-one n r r' l l' (short xs a u h) (many ys k b v) = absurd (not-both ys k b v xs a.of)
  ends-one n r r' l l' (short xs a u h) (twice ys b v) = absurd (not-apart ys b v xs a)
  ends-one n r r' l l' (short xs a u h) (crowded ys b v) = absurd (u (along ys xs b a v))
  ends-one n r r' l l' (short xs a u h) (short ys b v k) = (refl, refl)
  ends-one n r r' l l' (short xs a u h) (written ys b v k) = absurd (not-long n xs ys a b h k)
  ends-one n r r' l l' (written xs a u h) (many ys k b v) = absurd (not-both ys k b v xs a.of)
  ends-one n r r' l l' (written xs a u h) (twice ys b v) = absurd (not-apart ys b v xs a)
  ends-one n r r' l l' (written xs a u h) (crowded ys b v) = absurd (u (along ys xs b a v))
  ends-one n r r' l l' (written xs a u h) (short ys b v k) = absurd (not-long n ys xs b a k h)
  ends-one n r r' l l' (written xs a u h) (written ys b v k) = (refl, words-one g xs ys a.of b.of)

  -- two exits of one call: what is said, the word lists and the working lists are equal
  pub cell-words-one : (r r' : Counted) (words w w' keys k k' rows o o' spare p p' counts c c' : List ℕ) → CellWords g r words w keys k rows o spare p counts c → CellWords g r' words w' keys k' rows o' spare p' counts c' →
      (r ≡ r') × (w ≡ w') × ((k ≡ k') × (o ≡ o') × (p ≡ p') × (c ≡ c'))
  cell-words-one r r' words w w' keys k k' rows o o' spare p p' counts c c' a b =
      let e = comes-one Err [] (shape_of g) (grid_need g) (lengths keys rows spare counts) (WordsEnd g (length words)) (ends-one (length words)) a.comes b.comes in (
        e.0,
        a.result ∙ ap (λ (l : List ℕ). onto l words) e.1 ∙ sym b.result,
        cleared-one a.used b.used keys k k' rows o o' spare p p' counts c c' e.2 a.room b.room,
      )
