-- The file part by part, as the program prints it: the parts one after another, and the closing, are the file; a part has at most 315 bytes. Assumes nothing.
use mathlib.Core.Path.{◌≡◌, refl, sym, ap, ◌∙◌}
use mathlib.Core.Bool.{Bool, true, false, cond}
use mathlib.Core.List.{List, [], ◌∷◌, ◌++◌, map, append_assoc}
use Prim.Native.Nat.{ℕ, zero, suc, ◌≤◌, ◌<◌}
use native.Mathlib.Omega.{arith}
use borrow.Author.Tests.{ne_eqb}
use lib.Dec.{eqb}
use lib.ListN.{length, length-append}
use Rattle.lists.specs.Tables.{tab}
use Rattle.lists.specs.Rows.{flat}
use Rattle.lists.proofs.Tables.{map-tab}
use Rattle.quotient.specs.declared.Grid.{Grid}
use Rattle.quotient.specs.Shape.{cell_count}
use Rattle.grid_words.specs.WorkNumbered.{cell_no}
use Rattle.grid_words.proofs.Listed.{listed}
use Rattle.file_geojson.specs.Words.{opening_word, closing_word}
use Rattle.file_geojson.specs.File.{comma_each, joined, feature_of, features_of, collection_of}
use Rattle.file_geojson.specs.Kind.{Mapped}
use Rattle.file_geojson.specs.Work.{part_of}
use Rattle.file_geojson.proofs.Sizes.{feature-long}
use Rattle.file_geojson.proofs.Listing.{some-features}

commas-flat : (n : ℕ) (F P : ℕ → List ℕ) → ((x : ℕ) → P x ≡ 44 ∷ F x) → flat (tab n P) ≡ comma_each (tab n F)
unfolding comma_each
commas-flat zero F P e = refl
commas-flat (suc n) F P e = ap (λ (l : List ℕ). l ++ flat (tab n (λ x. P (suc x)))) (e 0) ∙ ap (λ (l : List ℕ). 44 ∷ (F 0 ++ l)) (commas-flat n (λ x. F (suc x)) (λ x. P (suc x)) (λ x. e (suc x)))

parts-joined : (n : ℕ) (F P : ℕ → List ℕ) (o : List ℕ) → 0 < n → P 0 ≡ o ++ F 0 → ((x : ℕ) → P (suc x) ≡ 44 ∷ F (suc x)) → flat (tab n P) ≡ o ++ joined (tab n F)
unfolding joined
parts-joined zero F P o h e f = absurd (let w : ⊥ = omega arith in w)
parts-joined (suc n) F P o h e f =
    ap (λ (l : List ℕ). l ++ flat (tab n (λ x. P (suc x)))) e
    ∙ append_assoc o (F 0) (flat (tab n (λ x. P (suc x))))
    ∙ ap (λ (l : List ℕ). o ++ (F 0 ++ l)) (commas-flat n (λ x. F (suc x)) (λ x. P (suc x)) f)

module _ (g : Grid) (low high : ℕ) where
  first_part : part_of g low high 0 ≡ opening_word ++ feature_of g low high (cell_no g 0)
  unfolding part_of
  first_part = refl

  later-part : (x : ℕ) → part_of g low high (suc x) ≡ 44 ∷ feature_of g low high (cell_no g (suc x))
  unfolding part_of
  later-part x = rw (ne_eqb (suc x) 0 (λ e. omega arith))

  pub parts-file : Mapped g low high → flat (tab (cell_count g) (part_of g low high)) ++ closing_word ≡ collection_of g low high
  unfolding collection_of
  parts-file m =
      let e : features_of g low high ≡ tab (cell_count g) (λ x. feature_of g low high (cell_no g x)) = ap (map (feature_of g low high)) (listed g m.taken) ∙ map-tab (feature_of g low high) (cell_count g) (cell_no g) in
      ap (λ (l : List ℕ). l ++ closing_word)
      (parts-joined (cell_count g) (λ x. feature_of g low high (cell_no g x)) (part_of g low high) opening_word (some-features g low high m) first_part later-part)
      ∙ append_assoc opening_word (joined (tab (cell_count g) (λ x. feature_of g low high (cell_no g x)))) closing_word
      ∙ ap (λ (l : List (List ℕ)). opening_word ++ (joined l ++ closing_word)) (sym e)

  pub part-long : (x : ℕ) → length (part_of g low high x) ≤ 315
  unfolding part_of
  part-long x =
      omega (arith, length-append (cond (eqb x 0) opening_word (44 ∷ [])) (feature_of g low high (cell_no g x)), feature-long g low high (cell_no g x), lead (eqb x 0))
    where
      lead : (b : Bool) → length (cond b opening_word (44 ∷ [])) ≤ 40
      lead true = omega arith
      lead false = omega arith
