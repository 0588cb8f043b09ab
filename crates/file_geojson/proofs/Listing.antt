-- The features one by one: the invariant of the loop that writes them. Assumes nothing.
use mathlib.Core.Path.{◌≡◌, refl, sym, ap, subst, ◌∙◌}
use mathlib.Core.Bool.{Bool, true, false, cond}
use mathlib.Core.List.{List, [], ◌∷◌, ◌++◌, map, append_assoc, append-nil}
use Prim.Native.Nat.{ℕ, suc, ◌+◌, ◌*◌, ◌≤◌, ◌<◌}
use native.Mathlib.Numerals.{add-one}
use native.Mathlib.Omega.{arith}
use borrow.Author.Tests.{eq-eqb, ne_eqb}
use lib.Dec.{eqb}
use lib.ListN.{length, get_or, drop, drop_of_length-le}
use lib.Seq.{drop-cons}
use Rattle.lists.proofs.Tables.{length-tab, get_or-tab}
use Rattle.quotient.specs.declared.Grid.{Grid}
use Rattle.quotient.specs.Shape.{cell_count}
use Rattle.quotient.proofs.Taken.{taken-cells}
use Rattle.grid_words.specs.Cells.{grid_cells}
use Rattle.grid_words.specs.WorkNumbered.{cell_no}
use Rattle.grid_words.proofs.Listed.{listed}
use Rattle.grid_words.proofs.Good.{some-cells}
use Rattle.file_writing.specs.Wrote.{farthest, Wrote}
use Rattle.file_writing.proofs.Laws.{wrote_none, wrote-more, wrote-same}
use Rattle.file_geojson.specs.Words.{opening_word, closing_word}
use Rattle.file_geojson.specs.File.{comma_each, joined, feature_of, features_of, collection_of}
use Rattle.file_geojson.specs.Kind.{Mapped}
use Rattle.file_geojson.specs.Work.{part_of}
use Rattle.file_geojson.proofs.Sizes.{feature-end}

-- the features from 1 on below x are written, each with its comma; what is left of the list of features
pub record Listing (g : Grid) (low high x at : ℕ) (to : List ℕ) (r : ℕ) (to' : List ℕ) : Type 0 where
  pub done : List ℕ
  pub wrote : Wrote done at to r to'
  pub rest : done ++ comma_each (map (feature_of g low high) (drop x (grid_cells g))) ≡ comma_each (map (feature_of g low high) (drop 1 (grid_cells g)))
  pub near : r + 276 ≤ at + 276 * x

module _ (g : Grid) (low high : ℕ) (m : Mapped g low high) where
  pub cells_long : length (grid_cells g) ≡ cell_count g
  cells_long = ap length (listed g m.taken) ∙ length-tab (cell_count g) (cell_no g)

  cell-drop : (x : ℕ) → x < cell_count g → drop x (grid_cells g) ≡ cell_no g x ∷ drop (suc x) (grid_cells g)
  cell-drop x h =
      drop-cons (grid_cells g) x [] (omega (arith, cells_long))
      ∙ ap (λ (w : List ℕ). w ∷ drop (suc x) (grid_cells g)) (ap (λ (l : List (List ℕ)). get_or l x []) (listed g m.taken) ∙ get_or-tab (cell_count g) (cell_no g) x [] h)

  pub some-features : 0 < cell_count g
  some-features = some-cells g m.taken

  pub few-features : cell_count g ≤ 65536
  few-features = omega (arith, taken-cells g m.taken)

  features-drop : (x : ℕ) → x < cell_count g →
      map (feature_of g low high) (drop x (grid_cells g)) ≡ feature_of g low high (cell_no g x) ∷ map (feature_of g low high) (drop (suc x) (grid_cells g))
  features-drop x h = ap (map (feature_of g low high)) (cell-drop x h)

  pub listing_none : (at : ℕ) (to : List ℕ) → Listing g low high 1 at to at to
  listing_none at to = record { done = []; wrote = wrote_none at to; rest = refl; near = omega arith }

  module _ {at : ℕ} {to : List ℕ} {r : ℕ} {to' : List ℕ} where
    pub listing-more : (x : ℕ) {s : ℕ} {to'' : List ℕ} {t : ℕ} {to''' : List ℕ} → x < cell_count g → Listing g low high x at to r to' → Wrote (44 ∷ []) r to' s to'' →
        Wrote (feature_of g low high (cell_no g x)) s to'' t to''' → Listing g low high (x + 1) at to t to'''
    unfolding comma_each
    listing-more x {t = t} {to''' = to'''} h w a b =
        subst (λ (y : ℕ). Listing g low high y at to t to''') (sym (add-one x))
        (record {
          done = w.done ++ (44 ∷ feature_of g low high (cell_no g x));
          wrote = wrote-more w.wrote (wrote-more a b);
          rest =
              append_assoc w.done (44 ∷ feature_of g low high (cell_no g x)) (comma_each (map (feature_of g low high) (drop (suc x) (grid_cells g))))
              ∙ ap (λ (l : List (List ℕ)). w.done ++ comma_each l) (sym (features-drop x h))
              ∙ w.rest;
          near = omega (arith, w.near, a.next, feature-end g low high (cell_no g x) b);
        })

    pub listing-near : (x : ℕ) → x ≤ cell_count g → at ≤ 315 → Listing g low high x at to r to' → r + 500 ≤ farthest
    listing-near x h l w = omega (arith, w.near, few-features)

    -- all of them are written
    listing-all : (x : ℕ) → cell_count g ≤ x → Listing g low high x at to r to' → Wrote (comma_each (map (feature_of g low high) (drop 1 (grid_cells g)))) at to r to'
    unfolding comma_each
    listing-all x h w =
        wrote-same
        (sym (append-nil w.done)
        ∙ sym (ap (λ (l : List (List ℕ)). w.done ++ comma_each (map (feature_of g low high) l)) (drop_of_length-le (grid_cells g) {i = x} (omega (arith, cells_long))))
        ∙ w.rest)
        w.wrote

  features-first : joined (features_of g low high) ≡ feature_of g low high (cell_no g 0) ++ comma_each (map (feature_of g low high) (drop 1 (grid_cells g)))
  unfolding joined
  features-first = ap joined (features-drop 0 some-features)

  pub first-near : {at : ℕ} {to to' : List ℕ} {r : ℕ} {to'' : List ℕ} → Wrote opening_word 0 to at to' → Wrote (feature_of g low high (cell_no g 0)) at to' r to'' → r ≤ 315
  first-near a b = omega (arith, a.next, feature-end g low high (cell_no g 0) b)

  pub listing-done : {to : List ℕ} {at : ℕ} {to' : List ℕ} {r : ℕ} {to'' : List ℕ} {s : ℕ} {to''' : List ℕ} {t : ℕ} {end : List ℕ} (x : ℕ) → cell_count g ≤ x → Wrote opening_word 0 to at to' →
      Wrote (feature_of g low high (cell_no g 0)) at to' r to'' → Listing g low high x r to'' s to''' → Wrote closing_word s to''' t end → Wrote (collection_of g low high) 0 to t end
  unfolding collection_of
  listing-done x h a b w z =
      wrote-same
      (ap (λ (l : List ℕ). opening_word ++ l)
      (sym (append_assoc (feature_of g low high (cell_no g 0)) (comma_each (map (feature_of g low high) (drop 1 (grid_cells g)))) closing_word) ∙ ap (λ (l : List ℕ). l ++ closing_word) (sym features-first)))
      (wrote-more a (wrote-more b (wrote-more (listing-all x h w) z)))

-- ---- one part by itself
module _ (g : Grid) (low high : ℕ) {to : List ℕ} {at : ℕ} {to' : List ℕ} {r : ℕ} {to'' : List ℕ} where
  pub part-first : (x : ℕ) → x ≡ 0 → Wrote opening_word 0 to at to' → Wrote (feature_of g low high (cell_no g x)) at to' r to'' → Wrote (part_of g low high x) 0 to r to''
  unfolding part_of
  part-first x e a b = wrote-same (ap (λ (l : List ℕ). l ++ feature_of g low high (cell_no g x)) (sym (opened (eqb x 0) (eq-eqb x 0 e)))) (wrote-more a b)
    where
      opened : (t : Bool) → t ≡ true → cond t opening_word (44 ∷ []) ≡ opening_word
      opened t q = ap (λ (b : Bool). cond b opening_word (44 ∷ [])) q

  pub part-later : (x : ℕ) → (x ≡ 0 → ⊥) → Wrote (44 ∷ []) 0 to at to' → Wrote (feature_of g low high (cell_no g x)) at to' r to'' → Wrote (part_of g low high x) 0 to r to''
  unfolding part_of
  part-later x e a b = wrote-same (ap (λ (l : List ℕ). l ++ feature_of g low high (cell_no g x)) (sym (led (eqb x 0) (ne_eqb x 0 e)))) (wrote-more a b)
    where
      led : (t : Bool) → t ≡ false → cond t opening_word (44 ∷ []) ≡ 44 ∷ []
      led t q = ap (λ (b : Bool). cond b opening_word (44 ∷ [])) q
